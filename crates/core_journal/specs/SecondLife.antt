-- A node is given back and taken again: behind the first eight events, the vertex is removed, the epoch is moved on
-- twice, and its node is stored, given back and taken for a second life.
use Rattle.std.specs.Prelude.{ℕ, List, [], ◌∷◌, ◌++◌}
use Rattle.core_journal.specs.declared.event.Kind.TheVariants.{PopFree, MarkVertex, UnlinkVertex, Announce, Withdraw}
use Rattle.core_journal.specs.declared.event.Kind.TheVariants.{MoveEpoch, FreezeHead, StoreFree, PushFree}
use Rattle.core_journal.specs.declared.event.Event.{Event}
use Rattle.core_journal.specs.Event.{blank}
use Rattle.core_journal.specs.Worked.{first_life}
use Rattle.core_journal.specs.FirstVertex.{eight_events}

-- events 8 to 18: the pass is closed, a new one removes the vertex and closes its list, and the node is given back
abbrev pub life_given_back : List Event
life_given_back =
    record blank { kind = Withdraw; place = 4; word = 0 }
    ∷ record blank { kind = Announce; place = 4; word = 1 }
    ∷ record blank { kind = MarkVertex; place = 7; word = 67108863; life = first_life 0 }
    ∷ record blank { kind = UnlinkVertex; place = 5; word = 16777215; life = first_life 0 }
    ∷ record blank { kind = FreezeHead; place = 8; word = 67108863; life = first_life 0 }
    ∷ record blank { kind = Withdraw; place = 4; word = 0 }
    ∷ record blank { kind = MoveEpoch; place = 2; word = 1 }
    ∷ record blank { kind = MoveEpoch; place = 2; word = 2 }
    ∷ record blank { kind = StoreFree; place = 7; word = 50331649; life = first_life 0 }
    ∷ record blank { kind = PushFree; place = 3; word = 67108864; life = first_life 0 }
    ∷ record blank { kind = Announce; place = 4; word = 3 }
    ∷ []

-- event 19: node 0 is taken for its second life
abbrev pub taken_again : Event
taken_again = record blank { kind = PopFree; place = 3; word = 100663297; life = record { index = 0; tag = 2 } }

-- all events
abbrev pub second_life : List Event
second_life = (eight_events ++ life_given_back) ++ taken_again ∷ []

-- the words behind them all
abbrev pub words_again : List ℕ
words_again = 0 ∷ 1 ∷ 2 ∷ 100663297 ∷ 3 ∷ 16777215 ∷ 7 ∷ 50331649 ∷ 67108863 ∷ 0 ∷ 0 ∷ 33554431 ∷ 0 ∷ 0 ∷ []
