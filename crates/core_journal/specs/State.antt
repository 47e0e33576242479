-- What stands after a journal beside the words: passes, the lives of nodes, the free list and the chains.
-- One fold over the events; each kind changes what its row says and nothing else.
use Rattle.std.specs.Prelude.{ℕ, ◌+◌, ◌==◌, Bool, true, false, cond, not, ◌&&◌, List, [], ◌∷◌, filter, take_while}
use Rattle.std.specs.List.{range_with_len, list_any}
use Rattle.packed_link.specs.Layout.{Sizes, bucket_at, link_at, second_at}
use Rattle.packed_link.specs.declared.link.Life.{Life}
use Rattle.core_journal.specs.declared.event.Kind.{Kind}
use Rattle.core_journal.specs.declared.event.Kind.TheVariants.{DrawNumber, PopFree, StorePrivate, LinkVertex}
use Rattle.core_journal.specs.declared.event.Kind.TheVariants.{MarkVertex, UnlinkVertex, LinkEdge, Raise, MarkEdge}
use Rattle.core_journal.specs.declared.event.Kind.TheVariants.{UnlinkEdge, ReplaceEdge, Announce, Withdraw, MoveEpoch}
use Rattle.core_journal.specs.declared.event.Kind.TheVariants.{FreezeHead, FreezeEdge, StoreFree, PushFree}
use Rattle.core_journal.specs.declared.event.Event.{Event}
use Rattle.core_journal.specs.Event.{no_life}

-- a node is free, fresh with the caller who took it, linked, or spent by the caller who unlinked it
pub data Mode : Type 0 where
  Free : Mode
  Fresh : Mode
  Linked : Mode
  Spent : Mode

-- a caller's pass: whether it is open, the epoch at its announcement, and how many events stood before that
pub record Pass : Type 0 where
  pub is_open : Bool
  pub birth : ℕ
  pub since : ℕ

-- a node in its last life: what was linked, and by the event of which number where it's an edge, whether it is marked,
-- and whether its link was stored for the free list;
-- where an earlier or this life last ended, as the length of the journal after that event, and the epoch then
pub record Node : Type 0 where
  pub mode : Mode
  pub who : ℕ
  pub tag : ℕ
  pub marked : Bool
  pub stored : Bool
  pub vertex : Bool
  pub key : ℕ
  pub source : Life
  pub target : Life
  pub weight : ℕ
  pub since : ℕ
  pub ended : ℕ
  pub epoch : ℕ

-- how many events there were, how many numbers were drawn, the epoch, and how often the free list changed;
-- each caller's pass and each node; the free nodes, the chain of each bucket, and the edges of each vertex with
-- whether their list is closed at its head, each list from its first node on
pub record State : Type 0 where
  pub count : ℕ
  pub drawn : ℕ
  pub epoch : ℕ
  pub changes : ℕ
  pub pass : ℕ → Pass
  pub node : ℕ → Node
  pub free : List ℕ
  pub bucket : ℕ → List ℕ
  pub edges : ℕ → List ℕ
  pub frozen : ℕ → Bool

-- whether a node is linked
abbrev pub is_linked : Mode → Bool
is_linked Linked = true
is_linked _ = false

module _ {A : Type 0} where
  -- a table in which one entry is replaced
  abbrev pub put : ℕ → A → (ℕ → A) → ℕ → A
  put i a f x = cond (x == i) a (f x)

  -- a list without its first element
  abbrev pub without_first : List A → List A
  without_first [] = []
  without_first (x ∷ xs) = xs

-- a list with y behind x, where x stands on it
abbrev pub put_behind : (ℕ → Bool) → ℕ → List ℕ → List ℕ
put_behind is y [] = []
put_behind is y (x ∷ xs) = cond (is x) (x ∷ y ∷ xs) (x ∷ put_behind is y xs)

-- a chain into which a node is linked at a place: at the front where the place is its head, else behind the node
-- whose link stands at that place
abbrev pub linked_in : Sizes → ℕ → ℕ → ℕ → List ℕ → List ℕ
linked_in sizes head place y chain =
    cond (place == head) (y ∷ chain) (put_behind (λ x. place == link_at sizes x) y chain)

-- a chain without a node
abbrev pub unlinked_from : ℕ → List ℕ → List ℕ
unlinked_from y chain = filter (λ x. not (x == y)) chain

-- the frozen part of a vertex's list: where it is closed at its head, its edges as far as they are marked
abbrev pub frozen_part : State → ℕ → List ℕ
frozen_part s x = cond (s.frozen x) (take_while (λ y. (s.node y).marked) (s.edges x)) []

-- the frozen part of a vertex's list is spent by the caller who unlinked that vertex: no one else can unlink it
abbrev pub handed : ℕ → State → State
handed x s = record s {
  node = λ y. cond (list_any (λ z. z == y) (frozen_part s x) && is_linked (s.node y).mode)
      (record (s.node y) { mode = Spent; who = (s.node x).who; ended = s.count; epoch = s.epoch })
      (s.node y);
}

-- an edge is linked into the list of its source, at the place of the event
abbrev pub joined_edge : Sizes → Event → State → State
joined_edge sizes e s = record s {
  node =
      put e.life.index (record (s.node e.life.index) {
        mode = Linked;
        vertex = false;
        key = e.key;
        source = e.source;
        target = e.target;
        weight = e.weight;
        since = s.count + 1;
      }) s.node;
  edges = λ x. linked_in sizes (second_at sizes x) e.place e.life.index (s.edges x);
}

-- what the state is after one more event, by its kind
abbrev pub state_by : Kind → Sizes → Event → State → State
state_by DrawNumber sizes e s = record s { count = s.count + 1; drawn = s.drawn + 1 }
state_by PopFree sizes e s = record s {
  count = s.count + 1;
  changes = s.changes + 1;
  free = without_first s.free;
  node =
      put e.life.index (record (s.node e.life.index) {
        mode = Fresh;
        who = e.caller;
        tag = e.life.tag;
        marked = false;
        stored = false;
      }) s.node;
  edges = put e.life.index [] (λ x. unlinked_from e.life.index (s.edges x));
  frozen = put e.life.index false s.frozen;
}
state_by LinkVertex sizes e s = record s {
  count = s.count + 1;
  node = put e.life.index (record (s.node e.life.index) { mode = Linked; vertex = true; key = e.key }) s.node;
  bucket = λ j. linked_in sizes (bucket_at sizes j) e.place e.life.index (s.bucket j);
}
state_by MarkVertex sizes e s = record s {
  count = s.count + 1;
  node = put e.life.index (record (s.node e.life.index) { marked = true }) s.node;
}
state_by UnlinkVertex sizes e s = record s {
  count = s.count + 1;
  node =
      put e.life.index
      (record (s.node e.life.index) { mode = Spent; who = e.caller; ended = s.count + 1; epoch = s.epoch }) s.node;
  bucket = λ j. unlinked_from e.life.index (s.bucket j);
}
state_by LinkEdge sizes e s = record s {
  count = s.count + 1;
  node =
      put e.life.index (record (s.node e.life.index) {
        mode = Linked;
        vertex = false;
        key = e.key;
        source = e.source;
        target = e.target;
        weight = e.weight;
        since = s.count + 1;
      }) s.node;
  edges = λ x. linked_in sizes (second_at sizes x) e.place e.life.index (s.edges x);
}
state_by ReplaceEdge sizes e s =
    handed ((joined_edge sizes e s).node e.old.index).source.index (record (joined_edge sizes e s) {
      count = s.count + 1;
      node =
          put e.old.index (record ((joined_edge sizes e s).node e.old.index) { marked = true })
          (joined_edge sizes e s).node;
    })
state_by MarkEdge sizes e s = handed (s.node e.life.index).source.index (record s {
  count = s.count + 1;
  node = put e.life.index (record (s.node e.life.index) { marked = true }) s.node;
})
state_by UnlinkEdge sizes e s = record s {
  count = s.count + 1;
  node =
      put e.life.index
      (record (s.node e.life.index) { mode = Spent; who = e.caller; ended = s.count + 1; epoch = s.epoch }) s.node;
  edges = λ x. unlinked_from e.life.index (s.edges x);
}
state_by Announce sizes e s = record s {
  count = s.count + 1;
  pass = put e.caller (record { is_open = true; birth = s.epoch; since = s.count }) s.pass;
}
state_by Withdraw sizes e s = record s {
  count = s.count + 1;
  pass = put e.caller (record (s.pass e.caller) { is_open = false }) s.pass;
}
state_by MoveEpoch sizes e s = record s { count = s.count + 1; epoch = s.epoch + 1 }
state_by FreezeHead sizes e s = handed e.life.index (record s {
  count = s.count + 1;
  frozen = put e.life.index true s.frozen;
})
state_by FreezeEdge sizes e s = handed (s.node e.life.index).source.index (record s {
  count = s.count + 1;
  node = put e.life.index (record (s.node e.life.index) { marked = true }) s.node;
})
state_by StoreFree sizes e s = record s {
  count = s.count + 1;
  node = put e.life.index (record (s.node e.life.index) { stored = true }) s.node;
}
state_by PushFree sizes e s = record s {
  count = s.count + 1;
  changes = s.changes + 1;
  free = e.life.index ∷ s.free;
  node = put e.life.index (record (s.node e.life.index) { mode = Free }) s.node;
}
state_by StorePrivate sizes e s = record s { count = s.count + 1 }
state_by Raise sizes e s = record s { count = s.count + 1 }

-- at opening nothing has happened, and all nodes are free
abbrev pub opening : Sizes → State
opening sizes = record {
  count = 0;
  drawn = 0;
  epoch = 0;
  changes = 0;
  pass = λ i. record { is_open = false; birth = 0; since = 0 };
  node = λ x. record {
    mode = Free;
    who = 0;
    tag = 0;
    marked = false;
    stored = false;
    vertex = false;
    key = 0;
    source = no_life;
    target = no_life;
    weight = 0;
    since = 0;
    ended = 0;
    epoch = 0;
  };
  free = range_with_len 0 sizes.nodes;
  bucket = λ j. [];
  edges = λ x. [];
  frozen = λ x. false;
}

-- a state with events behind it
abbrev pub state_from : Sizes → State → List Event → State
state_from sizes s [] = s
state_from sizes s (e ∷ es) = state_from sizes (state_by e.kind sizes e s) es

-- the state after a journal
unfoldable pub state : Sizes → List Event → State
state sizes journal = state_from sizes (opening sizes) journal
