-- A worked journal in which the target of an edge is removed and its key is added anew, with another node.
use Rattle.std.specs.Prelude.{List, [], ◌∷◌, ◌++◌}
use Rattle.packed_link.specs.Link.{pack, nowhere}
use Rattle.packed_link.specs.Layout.{key_at, link_at, second_at, third_at}
use Rattle.core_journal.specs.declared.event.Kind.TheVariants.{LinkVertex}
use Rattle.core_journal.specs.declared.event.Event.{Event}
use Rattle.core_journal.specs.Event.{blank}
use Rattle.core_journal.specs.TwoCallers.{announces, withdraws, takes, fills}
use Rattle.core_journal.specs.Worked.{small, first_life}
use Rattle.core_worked.specs.Refused.{removes_other}
use Rattle.core_worked.specs.TwoLives.{with_an_edge}

-- node 3 is linked as the vertex of key 2 behind that of key 1
abbrev pub links_anew : Event
links_anew =
    record blank { kind = LinkVertex; place = link_at small 0; word = pack 3 0 1; life = first_life 3; key = 2 }

-- behind the first edge, caller 0 removes its target, the vertex of node 1, and adds key 2 again: events 26 to 36
abbrev pub target_anew : List Event
target_anew =
    with_an_edge ++ (announces 0
    ∷ removes_other ++ (withdraws 0
    ∷ announces 0
    ∷ takes 0 3 4
    ∷ fills 0 3 (key_at small 3) 2
    ∷ fills 0 3 (link_at small 3) (pack nowhere 0 1)
    ∷ fills 0 3 (second_at small 3) (pack nowhere 0 1)
    ∷ fills 0 3 (third_at small 3) 0
    ∷ links_anew
    ∷ []))
