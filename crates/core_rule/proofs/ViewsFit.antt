-- Views that fit a journal, and how they go on fitting.
use Rattle.std.proofs.Common.{◌≡◌, ◌≢◌, ℕ, zero, suc, ◌≤◌, true, false, true≢false, List, [], ◌∷◌, ◌++◌, length, set}
use Rattle.std.proofs.Common.{refl, sym, ap, ◌∙◌, subst, arith, ⊎_elim}
use Rattle.std.specs.Prelude.{slice_index}
use Rattle.std.proofs.lemmas.List.{set-get_or}
use mathlib.Core.Option.{some, some-injective, some-ne-none}
use lib.ListN.{get_elem?}
use Rattle.atomic_table.specs.Table.{State as TableState, keeps, stepped as step_to, opening as opening_table}
use Rattle.atomic_table.proofs.Lists.{at_set}
use Rattle.packed_link.specs.Layout.{Sizes}
use Rattle.core_journal.specs.Event.{draws}
use Rattle.core_journal.specs.declared.event.Event.{Event}
use Rattle.core_journal.specs.Machine.{opening_words, machine, word_at}
use Rattle.core_journal.specs.State.{state}
use Rattle.core_journal.proofs.Lists.{every_map, prefix_refl, prefix_trans, prefix_snoc, prefix_length}
use Rattle.core_kept.specs.Kept.{IsKept, IsQuiet}
use Rattle.core_rule.specs.Owes.{Reaches}
use Rattle.core_rule.specs.Plays.{IsSound, seen}
use Rattle.core_rule.specs.Rule.{IsAccount, Fits, Ruled, reach, first_view}
use Rattle.core_rule.specs.declared.view.View.{View}
use Rattle.core_kept.proofs.Induction.{kept_front}
use Rattle.core_kept.proofs.Callers.{quiet_more, quiet_front, drawn_other, drawn_more}

abbrev pub Table : Type 0
Table = TableState (Unit {0}) View

-- an account stays where the journal grows by an event of another caller
pub account_more : (sizes : Sizes) (journal : List Event) (o o' : ℕ → ℕ) (j reach reach' : ℕ) (e : Event) (a : ℕ × ℕ)
    → e.caller ≢ a.0 → o' a.0 ≡ o a.0 → reach ≤ reach' → IsAccount sizes journal o j reach a → IsAccount sizes
    (journal ++ e ∷ []) o' j reach' a
account_more sizes journal o o' j reach reach' e a other same far c = record {
  own = same ∙ c.own;
  drawn = omega (arith, drawn_more sizes journal e, c.drawn);
  old = omega
      (arith, c.old, far);
  quiet = quiet_more journal e a.0 a.1 other c.quiet;
}

-- an account of a seat that has seen more, or of another seat
pub account_far : (sizes : Sizes) (journal : List Event) (o o' : ℕ → ℕ) (j j' reach reach' : ℕ) (a : ℕ × ℕ) →
    (o a.0 ≡ j → o' a.0 ≡ j') → reach ≤ reach' → IsAccount sizes journal o j reach a
    → IsAccount sizes journal o' j' reach' a
account_far sizes journal o o' j j' reach reach' a same far c = record
    { own = same c.own; drawn = c.drawn; old = omega (arith, c.old, far); quiet = c.quiet }

-- what fits goes on fitting where the journal grows by an event of another number, which draws none of its own
pub fits_more : (sizes : Sizes) (journal : List Event) (d : ℕ) (o o' : ℕ → ℕ) (j : ℕ) (u : View) (e : Event) →
    ((a : ℕ × ℕ) (reach : ℕ) → IsAccount sizes journal o j reach a → (e.caller ≢ a.0) × (o' a.0 ≡ o a.0)) →
    (u.draws ≡ true → draws e.kind ≡ false) → Fits sizes journal d o j u → Fits sizes (journal ++ e ∷ []) d o' j u
fits_more sizes journal d o o' j u e elses plain f = record {
  front = prefix_trans u.front journal (journal ++ e ∷ []) f.front (prefix_snoc journal e);
  met = prefix_trans u.met journal (journal ++ e ∷ []) f.met (prefix_snoc journal e);
  draws = λ is. let n = f.draws is in record {
    one = n.one;
    drawn = omega
        (arith, drawn_other sizes journal e (plain is), n.drawn);
  };
  numbered = λ is. let n = f.numbered is in let k = elses (u.number, u.last)
      (length u.front) n in account_more sizes journal o o' j (length u.front) (length u.front) e
      (u.number, u.last) k.0 k.1 (omega arith) n;
  others = every_map (IsAccount sizes journal o j (reach u)) (IsAccount sizes (journal ++ e ∷ []) o' j (reach u))
      (λ a c. let k = elses a (reach u) c in account_more sizes journal o o' j (reach u) (reach u) e a k.0 k.1
      (omega arith) c) u.others f.others;
  apart = f.apart;
}

-- the seat's own view, which has seen the whole journal
pub fits_seen : (sizes : Sizes) (journal : List Event) (d : ℕ) (o : ℕ → ℕ) (j : ℕ) (v : View)
    → Fits sizes journal d o j v → Fits sizes journal d o j (seen v journal)
fits_seen sizes journal d o j v f = record {
  front = prefix_refl journal;
  met = f.met;
  draws = λ is. let n = f.draws is in record { one = n.one; drawn = n.drawn };
  numbered = λ is. account_far sizes journal o o j j (length v.front) (length journal) (v.number, v.last) (λ x. x)
      (prefix_length v.front journal f.front) (f.numbered is);
  others = every_map (IsAccount sizes journal o j (reach v)) (IsAccount sizes journal o j (reach (seen v journal)))
      (λ a c. account_far sizes journal o o j j (reach v) (reach (seen v journal)) a (λ x. x)
      (omega (arith, prefix_length v.front journal f.front)) c) v.others f.others;
  apart = f.apart;
}

-- one view is set
pub seats_set : (sizes : Sizes) (journal : List Event) (d : ℕ) (o : ℕ → ℕ) (views : List View) (id : ℕ) (w : View)
    → ((j : ℕ) (u : View) → j ≢ id → get_elem? views j ≡ some u → Fits sizes journal d o j u)
    → Fits sizes journal d o id w
    → (j : ℕ) (u : View) → get_elem? (set views id w) j ≡ some u → Fits sizes journal d o j u
seats_set sizes journal d o views id w others mine j u at =
    ⊎_elim
    (λ (x : (j ≡ id) × (w ≡ u)). subst (λ (y : ℕ × View). Fits sizes journal d o y.0 y.1)
    (λ i. (sym x.0 i, x.1 i)) mine)
    (λ (x : (j ≢ id) × (get_elem? views j ≡ some u)). others j u x.0 x.1)
    (at_set views id j w u at)

-- the rule holds of a new table
pub begins : (sizes : Sizes) → Ruled sizes (opening_table (opening_words sizes) [] (first_view sizes))
unfolding machine state
begins sizes = record {
  journal = [];
  drawer = 0;
  owner = λ _. 0;
  words = refl;
  kept = record { steps = tt };
  seats =
      one;
}
  where
    one : (j : ℕ) (v : View) → get_elem? (first_view sizes ∷ []) j ≡ some v → Fits sizes [] 0 (λ _. 0) j v
    one zero v at = subst (Fits sizes [] 0 (λ _. 0) 0) (some-injective (first_view sizes) v at) record {
      front = prefix_refl [];
      met = prefix_refl [];
      draws = λ _. record { one = refl; drawn = refl };
      numbered = λ
          is. absurd (true≢false (sym is));
      others = tt;
      apart = λ _. tt;
    }
    one (suc j) v at = absurd (some-ne-none v (sym at))

-- a step that changes no word
pub same_words : (sizes : Sizes) (s : Table) (h : Ruled sizes s) (i id : ℕ) (w : View)
    → Fits sizes h.journal h.drawer h.owner id w → Ruled sizes (step_to s i (slice_index s.words i) id [] w keeps)
same_words sizes s h i id w fits = record {
  journal = h.journal;
  drawer = h.drawer;
  owner = h.owner;
  words = set-get_or s.words i 0 ∙ h.words;
  kept = h.kept;
  seats = seats_set sizes h.journal h.drawer h.owner s.views id w (λ j u _ at. h.seats j u at) fits;
}

-- the word that the step finds is that of the journal
pub found_word : (sizes : Sizes) (s : Table) (h : Ruled sizes s) (i : ℕ)
    → slice_index s.words i ≡ word_at sizes h.journal i
unfolding word_at
found_word sizes s h i = ap (λ (ws : List ℕ). slice_index ws i) h.words

there_still : {A : Type 0} (xs : List A) (i : ℕ) (a b : A) → get_elem? xs i ≡ some a → get_elem? (set xs i b) i ≡ some b
there_still [] i a b e = absurd (some-ne-none a (sym e))
there_still (x ∷ xs) zero a b e = refl
there_still (x ∷ xs) (suc i) a b e = there_still xs i a b e

-- a seat's view is sound in each state of the rule
pub sound_at : (sizes : Sizes) (s : Table) (h : Ruled sizes s) (id : ℕ) (v : View) → get_elem? s.views id ≡ some v
    → v.sizes ≡ sizes → IsSound v
sound_at sizes s h id v me same =
    let f = h.seats id v me in record {
      kept = subst (λ (z : Sizes). IsKept z v.front) (sym same) (kept_front sizes v.front h.journal f.front h.kept);
      quiet = λ has. quiet_front v.front h.journal v.number v.last f.front (f.numbered has).quiet;
      old = λ has. (f.numbered has).old;
      others = every_map (IsAccount sizes h.journal h.owner id (reach v)) (λ (a : ℕ × ℕ). IsQuiet v.front a.0 a.1)
          (λ a c. quiet_front v.front h.journal a.0 a.1 f.front c.quiet) v.others f.others;
    }

pub sound_after : (sizes : Sizes) (s : Table) (i x id : ℕ) (v w : View) → get_elem? s.views id ≡ some v
    → w.sizes ≡ sizes → Ruled sizes (step_to s i x id [] w keeps) → IsSound w
sound_after sizes s i x id v w me same after = sound_at sizes (step_to s i x id [] w keeps) after id w
    (there_still s.views id v w me) same

-- the journal is one that the seat may meet
pub reaches : (sizes : Sizes) (s : Table) (h : Ruled sizes s) (id : ℕ) (v : View) → v.sizes ≡ sizes
    → get_elem? s.views id ≡ some v → v.numbered ≡ true → Reaches v h.journal
reaches sizes s h id v same me has =
    let f = h.seats id v me in
    let n = f.numbered has in
    record {
      kept = subst (λ (z : Sizes). IsKept z h.journal)
          (sym same) h.kept;
      front = f.front;
      quiet = n.quiet;
      old = n.old;
    }
