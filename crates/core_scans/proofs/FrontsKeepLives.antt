-- What stays from a front of a journal to a longer one.
use Rattle.std.proofs.Common.{◌≡◌, ℕ, zero, suc, ◌+◌, ◌<◌, ◌≤◌, true, false, List, [], ◌∷◌, length, get_or, Some, refl}
use Rattle.std.proofs.Common.{subst, arith}
use Rattle.std.specs.Prelude.{slice_get}
use Rattle.graph_kinds.specs.History.{Every}
use Rattle.packed_link.specs.declared.link.Life.{Life}
use Rattle.core_journal.specs.declared.event.Event.{Event}
use Rattle.core_journal.specs.Life.{key_of, link_of, vertex_marked, edge_marked, unlinked}
use Rattle.core_journal.specs.Prefix.{IsPrefix}
use Rattle.core_journal.proofs.KeptLives.{key_more, link_more, vertex_marked_more, edge_marked_more, unlinked_more}
use Rattle.core_journal.proofs.NotBefore.{not_before}

pub some_is : {A : Type 0} (a b : A) → Some a ≡ Some b → a ≡ b
some_is a b p = cc

module _ (front journal : List Event) (p : IsPrefix front journal) where
  pub key_on : (x : Life) (k : ℕ) → key_of front x ≡ Some k → key_of journal x ≡ Some k
  key_on x k h = subst (λ (j : List Event). key_of j x ≡ Some k) p.whole (key_more front p.rest x k h)

  pub link_on : (x : Life) (link : Event) → link_of front x ≡ Some link → link_of journal x ≡ Some link
  link_on x link h = subst (λ (j : List Event). link_of j x ≡ Some link) p.whole (link_more front p.rest x link h)

  pub marked_on : (x : Life) → vertex_marked front x ≡ true → vertex_marked journal x ≡ true
  marked_on x h = subst (λ (j : List Event). vertex_marked j x ≡ true) p.whole (vertex_marked_more front p.rest x h)

  pub unmarked_back : (x : Life) → vertex_marked journal x ≡ false → vertex_marked front x ≡ false
  unmarked_back x h = not_before (λ (j : List Event). vertex_marked j x) (λ past more. vertex_marked_more past more x)
      front journal p h

  pub uncut_back : (x : Life) → edge_marked journal x ≡ false → edge_marked front x ≡ false
  uncut_back x h = not_before (λ (j : List Event). edge_marked j x) (λ past more. edge_marked_more past more x) front
      journal p h

  pub stays_back : (x : Life) → unlinked journal x ≡ false → unlinked front x ≡ false
  stays_back x h = not_before (λ (j : List Event). unlinked j x) (λ past more. unlinked_more past more x) front journal
      p h

-- a fact of each element of a list, at a place
pub every_at : {A : Type 0} (P : A → Type 0) (xs : List A) (k : ℕ) (x : A) → Every P xs → slice_get xs k ≡ Some x → P x
every_at P [] k x f h = absurd (cc)
every_at P (y ∷ ys) zero x f h = let same : y ≡ x = cc in subst P same f.0
every_at P (y ∷ ys) (suc k) x f h = every_at P ys k x f.1 h

-- an element by its place
pub get_at : {A : Type 0} (xs : List A) (k : ℕ) (d : A) → k < length xs → slice_get xs k ≡ Some (get_or xs k d)
get_at [] k d h = absurd (omega arith)
get_at (y ∷ ys) zero d h = refl
get_at (y ∷ ys) (suc k) d h = get_at ys k d (omega arith)

-- an order by its contrary
pub not_below : (x y : ℕ) → (x < y → ⊥) → y ≤ x
not_below x zero h = omega arith
not_below zero (suc y) h = absurd (h (omega arith))
not_below (suc x) (suc y) h = omega (arith, not_below x y (λ (g : x < y). h (omega arith)))

pub less_by : (a b : ℕ) → (b ≤ a → ⊥) → a < b
less_by a b h = omega (arith, not_below b (a + 1) (λ (g : b < a + 1). h (omega arith)))
