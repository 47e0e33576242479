-- The worked journals reuse safely: in one no node is taken twice, in the other one is, after its life is over.
use Rattle.std.proofs.Common.{◌≡◌, ℕ, zero, suc, ◌<◌, true, false, true≢false, sym, ne_eqb, ◌==◌, ◌∙◌, List, [], ◌++◌}
use Rattle.std.proofs.Common.{refl, arith, inl}
use Rattle.std.specs.Prelude.{take, drop}
use Rattle.core_journal.specs.declared.event.Event.{Event}
use Rattle.core_journal.specs.declared.event.Kind.TheVariants.{UnlinkVertex, PopFree}
use Rattle.core_journal.specs.Event.{blank}
use Rattle.core_journal.specs.State.{state}
use Rattle.core_journal.specs.Reuse.{IsOver, ReusesSafely, pass_in}
use Rattle.core_journal.specs.Worked.{small, first_life}
use Rattle.core_journal.specs.TwoCallers.{callers_journal, takes}
use Rattle.core_journal.specs.FirstVertex.{tiny, eight_events}
use Rattle.core_journal.specs.SecondLife.{life_given_back, taken_again, second_life}
use Rattle.core_journal.proofs.Reuses.{reuse_nil, quiet_stretch, take_one}

abbrev before : ℕ → List Event
before n = take n callers_journal

abbrev between : ℕ → ℕ → List Event
between m n = drop m (take n callers_journal)

pub callers_reuse : ReusesSafely small callers_journal
callers_reuse =
    quiet_stretch small (before 21) (drop 21 callers_journal) refl
    (take_one small (before 20) (takes 0 2 3) (quiet_stretch small (before 12) (between 12 20) refl
    (take_one small (before 11) (takes 0 1 2) (quiet_stretch small (before 4) (between 4 11) refl
    (take_one small (before 3) (takes 0 0 1) (quiet_stretch small [] (before 3) refl (reuse_nil small)) tt)) tt)) tt)

abbrev until_given_back : List Event
until_given_back = eight_events ++ life_given_back

-- the first life of node 0 ends at event 11, and the pass that is open when the node is taken again was announced at 18
others : (n : ℕ) → (pass_in tiny until_given_back (suc n)).is_open ≡ false
unfolding state
others n = let ne : (suc n == 0) ≡ false = ne_eqb (suc n) 0 (λ h. omega (arith, h)) in rw ne refl

first_over : IsOver tiny until_given_back (first_life 0)
unfolding state
first_over = record {
  end = 11;
  ends = inl (record {
    event = record blank { kind = UnlinkVertex; place = 5; word = 16777215; life = first_life 0 };
    at
        = refl;
    unlinks = refl;
    life = refl;
  });
  passes = λ caller is. passes caller is;
}
  where
    passes : (caller : ℕ) → (pass_in tiny until_given_back caller).is_open ≡ true →
        11 < (pass_in tiny until_given_back caller).since
    passes zero is = omega arith
    passes (suc n) is = absurd (true≢false (sym is ∙ others n))

pub second_reuse : ReusesSafely tiny second_life
second_reuse =
    take_one tiny until_given_back taken_again
    (quiet_stretch tiny (take 3 until_given_back) (drop 3 until_given_back) refl
    (take_one tiny (take 2 until_given_back) (record blank
    { kind = PopFree; place = 3; word = 33554433; life = first_life 0 })
    (quiet_stretch tiny [] (take 2 until_given_back) refl (reuse_nil tiny)) tt))
    (first_over, tt)
