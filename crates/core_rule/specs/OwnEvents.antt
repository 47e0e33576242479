-- The event that a token makes by a step of each kind, from what it hands in and the word that it finds.
use Rattle.std.specs.Prelude.{ℕ, ◌+◌}
use Rattle.packed_link.specs.Link.{pack, with_mark, index_of, tag_of}
use Rattle.packed_link.specs.Layout.{free_at, epoch_at, announce_at, key_at, link_at, second_at, third_at}
use Rattle.packed_link.specs.declared.link.Life.{Life}
use Rattle.core_journal.specs.declared.event.Kind.TheVariants.{PopFree, StorePrivate, LinkVertex, MarkVertex}
use Rattle.core_journal.specs.declared.event.Kind.TheVariants.{UnlinkVertex, LinkEdge, Raise, MarkEdge, UnlinkEdge}
use Rattle.core_journal.specs.declared.event.Kind.TheVariants.{Announce, Withdraw, MoveEpoch, FreezeHead, FreezeEdge}
use Rattle.core_journal.specs.declared.event.Kind.TheVariants.{StoreFree, PushFree, ReplaceEdge}
use Rattle.core_journal.specs.declared.event.Event.{Event}
use Rattle.core_journal.specs.Event.{blank}
use Rattle.core_rule.specs.declared.view.View.{View}

-- the first free node is taken for its next life: the free list then begins where its link leads, and has changed once
-- more
abbrev pub pop_event : View → ℕ → ℕ → Event
pop_event v seen next =
    record blank {
      caller = v.number;
      kind = PopFree;
      place = free_at v.sizes;
      word = pack (index_of next) 0 (tag_of seen + 1);
      life = record { index = index_of seen; tag = tag_of next + 1 };
    }

-- a word is stored to a field of a fresh node
abbrev pub store_event : View → Life → ℕ → ℕ → Event
store_event v x field word =
    record blank {
      caller = v.number;
      kind = StorePrivate;
      place = key_at v.sizes x.index + field;
      word = word;
      life = x;
    }

-- a vertex is linked behind the word seen, which then leads to it
abbrev pub link_vertex_event : View → ℕ → ℕ → ℕ → Life → Event
link_vertex_event v place seen key x =
    record blank {
      caller = v.number;
      kind = LinkVertex;
      place = place;
      word = pack x.index 0 (tag_of seen);
      life = x;
      key = key;
    }

-- the link that is found of a vertex is marked
abbrev pub mark_vertex_event : View → Life → ℕ → Event
mark_vertex_event v x found =
    record blank {
      caller = v.number;
      kind = MarkVertex;
      place = link_at v.sizes x.index;
      word = with_mark found;
      life = x;
    }

-- a vertex is unlinked: the word seen then leads to the next one
abbrev pub unlink_vertex_event : View → ℕ → ℕ → ℕ → Life → Event
unlink_vertex_event v place seen next x =
    record blank { caller = v.number; kind = UnlinkVertex; place = place; word = pack next 0 (tag_of seen); life = x }

-- an edge of this source, target and weight is linked behind the word seen, which then leads to it
abbrev pub link_edge_event : View → ℕ → ℕ → ℕ → Life → Life → ℕ → Life → Event
link_edge_event v place seen key source target weight x =
    record blank {
      caller = v.number;
      kind = LinkEdge;
      place = place;
      word = pack x.index 0 (tag_of seen);
      life = x;
      key = key;
      source = source;
      target = target;
      weight = weight;
    }

-- the counter that is found of a vertex is raised by one
abbrev pub raise_event : View → Life → ℕ → Event
raise_event v x found =
    record blank { caller = v.number; kind = Raise; place = third_at v.sizes x.index; word = found + 1; life = x }

-- the link that is found of an edge is marked
abbrev pub mark_edge_event : View → Life → ℕ → Event
mark_edge_event v x found =
    record blank {
      caller = v.number;
      kind = MarkEdge;
      place = link_at v.sizes x.index;
      word = with_mark found;
      life = x;
    }

-- an edge is replaced: the word seen of its link, marked, then leads to the new one, which has its key, source and
-- target and this weight
abbrev pub replace_event : View → ℕ → ℕ → Life → Life → ℕ → Life → Life → Event
replace_event v seen key source target weight old x =
    record blank {
      caller = v.number;
      kind = ReplaceEdge;
      place = link_at v.sizes old.index;
      word = pack x.index 1 (tag_of seen);
      life = x;
      key = key;
      source = source;
      target = target;
      weight = weight;
      old = old;
    }

-- an edge is unlinked: the word seen then leads to the next one
abbrev pub unlink_edge_event : View → ℕ → ℕ → ℕ → Life → Event
unlink_edge_event v place seen next x =
    record blank { caller = v.number; kind = UnlinkEdge; place = place; word = pack next 0 (tag_of seen); life = x }

-- an epoch is announced, as one above it
abbrev pub announce_event : View → ℕ → Event
announce_event v epoch =
    record blank { caller = v.number; kind = Announce; place = announce_at v.sizes v.number; word = epoch + 1 }

-- the announcement is withdrawn
abbrev pub withdraw_event : View → Event
withdraw_event v = record blank { caller = v.number; kind = Withdraw; place = announce_at v.sizes v.number; word = 0 }

-- the epoch seen is moved on by one
abbrev pub move_event : View → ℕ → Event
move_event v seen = record blank { caller = v.number; kind = MoveEpoch; place = epoch_at v.sizes; word = seen + 1 }

-- the second word that is found of a vertex is marked: its list is closed at its head
abbrev pub freeze_head_event : View → Life → ℕ → Event
freeze_head_event v x found =
    record blank {
      caller = v.number;
      kind = FreezeHead;
      place = second_at v.sizes x.index;
      word = with_mark found;
      life = x;
    }

-- the link that is found of an edge is marked, on a closed list
abbrev pub freeze_edge_event : View → Life → ℕ → Event
freeze_edge_event v x found =
    record blank {
      caller = v.number;
      kind = FreezeEdge;
      place = link_at v.sizes x.index;
      word = with_mark found;
      life = x;
    }

-- the link of a spent node is stored for the free list: it leads to the next free node, is marked, and of the node's
-- life
abbrev pub store_free_event : View → ℕ → Life → Event
store_free_event v next x =
    record blank {
      caller = v.number;
      kind = StoreFree;
      place = link_at v.sizes x.index;
      word = pack next 1 x.tag;
      life = x;
    }

-- a node is given back: the free list begins with it, and has changed once more
abbrev pub push_event : View → ℕ → Life → Event
push_event v seen x =
    record blank {
      caller = v.number;
      kind = PushFree;
      place = free_at v.sizes;
      word = pack x.index 0 (tag_of seen + 1);
      life = x;
    }
