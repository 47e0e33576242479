-- The steps of the worked run.
use Rattle.std.proofs.Common.{◌≡◌, ◌≢◌, ℕ, zero, suc, ◌+◌, ◌<◌, ◌≤◌, Bool, true, false, cond, refl, ap, arith, inl, inr}
use Rattle.std.proofs.Common.{eq-eqb, ne_eqb}
use mathlib.Core.Logic.{dite}
use native.Mathlib.Decide.{ℕ_discrete}
use Rattle.core_epoch.specs.Clock.{Clock, IsClear}
use Rattle.core_epoch.specs.Steps.{announce, withdraw, move, rest, MovesClear}
use Rattle.core_epoch.specs.Ends.{Ends, EndsSome, GivesOld, Moment, Follows}
use Rattle.core_epoch.specs.Worked.{put_in, announced, withdrawn, moved, node_unlinked, given_back}

module _ {A : Type 0} where
  put_here : (i : ℕ) (a : A) (f : ℕ → A) (x : ℕ) → x ≡ i → put_in i a f x ≡ a
  put_here i a f x same = ap (λ (b : Bool). cond b a (f x)) (eq-eqb x i same)

  pub put_else : (i : ℕ) (a : A) (f : ℕ → A) (x : ℕ) → x ≢ i → put_in i a f x ≡ f x
  put_else i a f x ne = ap (λ (b : Bool). cond b a (f x)) (ne_eqb x i ne)

-- the ends of lives stay
same_ends : (clock : Clock) (ends : Ends) → EndsSome clock ends ends
same_ends clock ends x = inl record { ended = refl; epoch = refl }

none_given : (clock : Clock) (ends : Ends) → GivesOld clock ends ends
none_given clock ends x h u = absurd (cc)

-- the epoch stays
stays : (callers : ℕ) (old new : Clock) → new.epoch ≡ old.epoch → MovesClear callers old new
stays callers old new is more = absurd (omega (arith, is, more))

module _ (callers : ℕ) (m : Moment) where
  pub announced_follows : (caller loaded : ℕ) → caller < callers → m.clock.is_open caller ≡ false
      → loaded ≤ m.clock.epoch → Follows callers m (announced caller loaded m)
  announced_follows caller loaded there closed reached = record {
    step = announce caller loaded record {
      there = there;
      closed = closed;
      reached = reached;
      opens = put_here caller true m.clock.is_open caller refl;
      birth = put_here caller m.clock.epoch m.clock.birth caller refl;
      since = put_here caller m.clock.count m.clock.since caller refl;
      word = put_here caller (loaded + 1) m.clock.word caller refl;
      others = λ i ne. record {
        is_open = put_else caller true m.clock.is_open i ne;
        birth = put_else caller m.clock.epoch m.clock.birth i ne;
        since = put_else caller m.clock.count m.clock.since i ne;
        word = λ _. put_else caller (loaded + 1) m.clock.word i ne;
      };
      epoch = refl;
      count = refl;
    };
    moves = stays callers m.clock (announced caller loaded m).clock refl;
    ends = same_ends m.clock m.ends;
    gives = none_given m.clock m.ends;
  }

  pub withdrawn_follows : (caller : ℕ) → caller < callers → m.clock.is_open caller ≡ true → Follows callers m
      (withdrawn caller m)
  withdrawn_follows caller there o = record {
    step = withdraw caller record {
      there = there;
      open_before = o;
      closes = put_here caller false m.clock.is_open caller refl;
      word = put_here caller 0 m.clock.word caller refl;
      others = λ i ne. record {
        is_open = put_else caller false m.clock.is_open i ne;
        birth = refl;
        since = refl;
        word =
            λ _. put_else caller 0 m.clock.word i ne;
      };
      epoch = refl;
      count = refl;
    };
    moves = stays callers m.clock (withdrawn caller m).clock refl;
    ends = same_ends m.clock m.ends;
    gives = none_given m.clock m.ends;
  }

  pub moved_follows : ((i : ℕ) → i < callers → IsClear m.clock.epoch i m.clock) → Follows callers m (moved m)
  moved_follows clear = record {
    step = move record {
      passes = λ i. record { is_open = refl; birth = refl; since = refl; word = λ _. refl };
      epoch =
          refl;
      count = refl;
    };
    moves = λ _. clear;
    ends = same_ends m.clock m.ends;
    gives = none_given m.clock m.ends;
  }

  pub unlinked_follows : (x : ℕ) → Follows callers m (node_unlinked x m)
  unlinked_follows x = record {
    step = rest record {
      passes = λ i. record { is_open = refl; birth = refl; since = refl; word = λ _. refl };
      epoch =
          refl;
      count = refl;
    };
    moves = stays callers m.clock (node_unlinked x m).clock refl;
    ends = λ y. dite (ℕ_discrete y x)
        (λ same. inr record {
          ended = put_here x (m.clock.count + 1) m.ends.ended y same;
          epoch = put_here x
              m.clock.epoch m.ends.epoch y same;
          spent = put_here x true m.ends.is_spent y same;
        })
        (λ ne. inl record {
          ended = put_else x (m.clock.count + 1) m.ends.ended y ne;
          epoch = put_else x m.clock.epoch
              m.ends.epoch y ne;
        });
    gives = λ y h u. dite (ℕ_discrete y x)
        (λ same. let t : put_in x true m.ends.is_spent y ≡ true = put_here x true m.ends.is_spent y same in absurd (cc))
        (λ ne. let t : put_in x true m.ends.is_spent y ≡ m.ends.is_spent y = put_else x true m.ends.is_spent y ne in
        absurd (cc));
  }

  pub given_back_follows : (x : ℕ) → m.ends.epoch x + 2 ≤ m.clock.epoch → Follows callers m (given_back x m)
  given_back_follows x old = record {
    step = rest record {
      passes = λ i. record { is_open = refl; birth = refl; since = refl; word = λ _. refl };
      epoch =
          refl;
      count = refl;
    };
    moves = stays callers m.clock (given_back x m).clock refl;
    ends = λ y. inl record { ended = refl; epoch = refl };
    gives = λ y h u. dite (ℕ_discrete y x)
        (λ same. omega (arith, ap m.ends.epoch same, old))
        (λ ne. let t : put_in x false m.ends.is_spent y ≡ m.ends.is_spent y = put_else x false m.ends.is_spent y ne in
        absurd (cc));
  }

-- two callers, each clear
pub both : (P : ℕ → Type 0) → P 0 → P 1 → (i : ℕ) → i < 2 → P i
both P zero_is one_is zero small = zero_is
both P zero_is one_is (suc zero) small = one_is
both P zero_is one_is (suc (suc n)) small = absurd (omega (arith, small))
