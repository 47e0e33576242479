-- A removed vertex whose list is closed: its edges are handed over to the caller who unlinked it, also one that
-- somebody else has marked. Words are left out.
use Rattle.std.specs.Prelude.{List, [], ◌∷◌, ◌++◌}
use Rattle.packed_link.specs.Layout.{bucket_at, link_at, second_at, third_at}
use Rattle.core_journal.specs.declared.event.Kind.TheVariants.{LinkVertex, MarkVertex, UnlinkVertex, LinkEdge, Raise}
use Rattle.core_journal.specs.declared.event.Kind.TheVariants.{MarkEdge, FreezeHead, FreezeEdge}
use Rattle.core_journal.specs.declared.event.Event.{Event}
use Rattle.core_journal.specs.Event.{blank}
use Rattle.core_journal.specs.Worked.{small, first_life}

-- caller 0 links the vertices 1, 2 and 3 and the edges from 1 to 2 and to 3, and marks the second edge; caller 1 marks
-- and unlinks vertex 1 and closes its list
abbrev pub closing : List Event
closing =
    record blank { kind = LinkVertex; place = bucket_at small 0; life = first_life 0; key = 1 }
    ∷ record blank { kind = LinkVertex; place = link_at small 0; life = first_life 1; key = 2 }
    ∷ record blank { kind = LinkVertex; place = link_at small 1; life = first_life 2; key = 3 }
    ∷ record blank {
      kind = LinkEdge;
      place = second_at small 0;
      life = first_life 3;
      key = 2;
      source = first_life 0;
      target = first_life 1;
      weight = 5;
    }
    ∷ record blank {
      kind = LinkEdge;
      place = link_at small 3;
      life = first_life 4;
      key = 3;
      source = first_life 0;
      target = first_life 2;
      weight = 6;
    }
    ∷ record blank { kind = Raise; place = third_at small 0; life = first_life 0 }
    ∷ record blank { kind = MarkEdge; place = link_at small 4; life = first_life 4 }
    ∷ record blank { caller = 1; kind = MarkVertex; place = link_at small 0; life = first_life 0 }
    ∷ record blank { caller = 1; kind = UnlinkVertex; place = bucket_at small 0; life = first_life 0 }
    ∷ record blank { caller = 1; kind = FreezeHead; place = second_at small 0; life = first_life 0 }
    ∷ []

-- then it freezes the first edge, and both edges are its own
abbrev pub closed_list : List Event
closed_list =
    closing ++ record blank { caller = 1; kind = FreezeEdge; place = link_at small 3; life = first_life 3 } ∷ []
