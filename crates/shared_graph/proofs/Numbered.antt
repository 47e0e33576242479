-- Callers that are numbered from 0 in order are all callers, each once.
use Rattle.std.proofs.Common.{◌≡◌, ◌≢◌, ◌⊎◌, ℕ, zero, suc, ◌+◌, ◌<◌, ◌≤◌, List, [], ◌∷◌, length, map, get_or, inl, inr}
use Rattle.std.proofs.Common.{refl, sym, ap, ◌∙◌, arith, ⊎_elim}
use Rattle.graph_kinds.specs.History.{Every}
use Rattle.core_journal.specs.declared.book.Book.{Book}
use Rattle.core_journal.specs.Right.{CallersApart}
use Rattle.graph_table.specs.Tokens.{TableValue}
use Rattle.shared_graph.specs.Callers.{CallerValue, HasCaller, HoldsEach, IsCallerOf, book_in}
use Rattle.shared_graph.specs.Gathering.{AreCallersOf}
use Rattle.shared_graph.proofs.Gathered.{every_home}

abbrev AreFrom : ℕ → List CallerValue → Type 0
AreFrom n cs = (i : ℕ) (d : CallerValue) → i < length cs → (get_or cs i d).hand.token.view.number ≡ n + i

rest_from : (n : ℕ) (c : CallerValue) (cs : List CallerValue) → AreFrom n (c ∷ cs) → AreFrom (suc n) cs
rest_from n c cs from i d low = from (suc i) d (omega (arith, low)) ∙ omega arith

eq_or : (a b : ℕ) → a ≤ b → (a ≡ b) ⊎ (a < b)
eq_or zero zero le = inl refl
eq_or zero (suc b) le = inr (omega arith)
eq_or (suc a) zero le = absurd (omega (arith, le))
eq_or (suc a) (suc b) le = ⊎_elim (λ (e : a ≡ b). inl (ap suc e)) (λ (l : a < b). inr (omega (arith, l)))
    (eq_or a b (omega (arith, le)))

has_each : (n number : ℕ) (cs : List CallerValue) → AreFrom n cs → n ≤ number → number < n + length cs
    → HasCaller cs number
has_each n number [] from low high = absurd (omega (arith, low, high))
has_each n number (c ∷ cs) from low high = ⊎_elim
    (λ (e : n ≡ number). inl
    (let f : c.hand.token.view.number ≡ n + 0 = from 0 c (omega arith) in omega (arith, e, f)))
    (λ (l : n < number). inr
    (has_each (suc n) number cs (rest_from n c cs from) (omega (arith, l)) (omega (arith, high))))
    (eq_or n number low)

others_of : (n m : ℕ) (cs : List CallerValue) → AreFrom n cs → m < n
    → Every (λ (b : Book). b.caller ≢ m) (map book_in cs)
others_of n m [] from low = tt
others_of n m (c ∷ cs) from low = (
  (λ e. let f = from 0 c (omega arith) in omega (arith, e, f, low)),
  others_of (suc n) m cs (rest_from n c cs from) (omega (arith, low)),
)

all_apart : (n : ℕ) (cs : List CallerValue) → AreFrom n cs → CallersApart (map book_in cs)
all_apart n [] from = tt
all_apart n (c ∷ cs) from =
    let first = from 0 c (omega arith) in (
      others_of (suc n) c.hand.token.view.number cs (rest_from n c cs from) (omega (arith, first)),
      all_apart (suc n) cs (rest_from n c cs from),
    )

pub holds_each : (g : TableValue) (cs : List CallerValue) → length cs ≡ g.sizes.callers → AreCallersOf g cs
    → ((i : ℕ) (d : CallerValue) → i < length cs → (get_or cs i d).hand.token.view.number ≡ i) → HoldsEach g cs
holds_each g cs count home from =
    let from0 : AreFrom 0 cs = λ i d low. from i d low ∙ omega arith in
    record {
      home = every_home g cs home;
      each = λ n low. has_each 0 n cs from0 (omega arith) (omega (arith, low, count));
      apart = all_apart 0 cs from0;
    }

-- two callers of a graph of two, numbered 0 and 1
module _ (g : TableValue) (a b : CallerValue) (two : g.sizes.callers ≡ 2) (ha : IsCallerOf g a) (hb : IsCallerOf g b)
    (zero_is : a.hand.token.view.number ≡ 0) (one_is : b.hand.token.view.number ≡ 1) where
  both_home : AreCallersOf g (a ∷ b ∷ [])
  both_home zero d low = ha
  both_home (suc zero) d low = hb
  both_home (suc (suc i)) d low = absurd (omega (arith, low))

  both_numbers : (i : ℕ) (d : CallerValue) → i < 2 → (get_or (a ∷ b ∷ []) i d).hand.token.view.number ≡ i
  both_numbers zero d low = zero_is
  both_numbers (suc zero) d low = one_is
  both_numbers (suc (suc i)) d low = absurd (omega (arith, low))

  pub holds_two : HoldsEach g (a ∷ b ∷ [])
  holds_two = holds_each g (a ∷ b ∷ []) (sym two) both_home both_numbers
