-- A closed list, computed.
use Rattle.std.proofs.Common.{◌≡◌, [], ◌∷◌, refl, inr}
use Rattle.core_journal.specs.declared.event.Kind.TheVariants.{LinkEdge, MarkEdge, FreezeHead}
use Rattle.packed_link.specs.Layout.{link_at, second_at}
use Rattle.core_journal.specs.Event.{blank}
use Rattle.core_journal.specs.Life.{link_of}
use Rattle.core_journal.specs.State.{Linked, Spent, state}
use Rattle.core_journal.specs.Reuse.{EndsAt}
use Rattle.core_journal.specs.Worked.{small, first_life}
use Rattle.core_journal.specs.ClosedList.{closing, closed_list}

pub list_closed : (state small closed_list).edges 0 ≡ 3 ∷ 4 ∷ []
unfolding state
list_closed = refl

pub bucket_closed : (state small closed_list).bucket 0 ≡ 1 ∷ 2 ∷ []
unfolding state
bucket_closed = refl

pub mode_closing : ((state small closing).node 4).mode ≡ Linked
unfolding state
mode_closing = refl

pub mode_closed : ((state small closed_list).node 4).mode ≡ Spent
unfolding state
mode_closed = refl

pub who_closed : ((state small closed_list).node 4).who ≡ 1
unfolding state
who_closed = refl

pub ended_closed : ((state small closed_list).node 4).ended ≡ 11
unfolding state
ended_closed = refl

pub end_closed : EndsAt closed_list (first_life 4) 9
unfolding link_of
end_closed = inr (record {
  stays = refl;
  link = record blank {
    kind = LinkEdge;
    place = link_at small 3;
    life = first_life 4;
    key = 3;
    source = first_life 0;
    target = first_life 2;
    weight = 6;
  };
  edge = refl;
  mark_place = 6;
  mark = record blank { kind = MarkEdge; place = link_at small 4; life = first_life 4 };
  mark_at = refl;
  marks = refl;
  mark_life = refl;
  head_place = 9;
  head = record blank { caller = 1; kind = FreezeHead; place = second_at small 0; life = first_life 0 };
  head_at = refl;
  freezes = refl;
  head_life = refl;
  later = refl;
})
