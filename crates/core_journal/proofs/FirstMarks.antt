-- The first event that marks one of two vertex lives.
use Rattle.std.proofs.Common.{◌≡◌, ◌⊎◌, ℕ, zero, suc, ◌<◌, ◌≤◌, Bool, true, false, ◌&&◌, ◌||◌, List, [], ◌∷◌, take}
use Rattle.std.proofs.Common.{Some, inl, inr, refl, sym, ap, ◌∙◌, true≢false, arith}
use Rattle.std.specs.Prelude.{slice_get}
use Rattle.std.specs.List.{list_any}
use Rattle.graph_kinds.proofs.Calls.{and_left, and_right}
use Rattle.packed_link.specs.declared.link.Life.{Life}
use Rattle.core_journal.specs.declared.event.Event.{Event}
use Rattle.core_journal.specs.Event.{same_life, marks_vertex, links_vertex}
use Rattle.core_journal.specs.Life.{vertex_marked}
use Rattle.core_journal.specs.Overtaken.{IsFirstMark, IsLiving}
use Rattle.core_journal.proofs.Snoc.{same_is, same_self}

module _ {A : Type 0} (test : A → Bool) where
  -- what passed among the first elements passes among more of them
  taken_more : (xs : List A) (p q : ℕ) → p ≤ q → list_any test (take p xs) ≡ true → list_any test (take q xs) ≡ true
  taken_more xs zero q less t = absurd (true≢false (sym t))
  taken_more [] (suc p) q less t = absurd (true≢false (sym t))
  taken_more (x ∷ xs) (suc p) zero less t = absurd (omega arith)
  taken_more (x ∷ xs) (suc p) (suc q) less t = elim (test x) as
      (λ b. (b || list_any test (take p xs)) ≡ true → (b || list_any test (take q xs)) ≡ true) [
        | true ↦ λ g. refl
        | false ↦ λ g. taken_more xs p q (omega arith) g
      ] t

  -- what passed nowhere among the first elements passes nowhere among fewer of them
  taken_fewer : (xs : List A) (p q : ℕ) → p ≤ q → list_any test (take q xs) ≡ false → list_any test (take p xs) ≡ false
  taken_fewer xs p q less f = by (list_any test (take p xs)) refl
    where
      by : (b : Bool) → list_any test (take p xs) ≡ b → b ≡ false
      by false e = refl
      by true e = absurd (true≢false (sym (taken_more xs p q less e) ∙ f))

  -- an element that passes is among the first ones up to it
  taken_at : (xs : List A) (m p : ℕ) (x : A) → slice_get xs m ≡ Some x → test x ≡ true → m < p → list_any test
      (take p xs) ≡ true
  taken_at xs m zero x at t less = absurd (omega arith)
  taken_at [] m (suc p) x at t less = absurd (cc)
  taken_at (y ∷ ys) zero (suc p) x at t less = let same : y ≡ x = cc in ap (λ b. b || list_any test (take p ys))
      (ap test same ∙ t)
  taken_at (y ∷ ys) (suc m) (suc p) x at t less = or_true (test y) (list_any test (take p ys))
      (taken_at ys m p x at t (omega arith))
    where
      or_true : (b c : Bool) → c ≡ true → (b || c) ≡ true
      or_true true c e = refl
      or_true false c e = e

-- a living life stays so up to the first mark
living_until : (journal : List Event) (x : Life) (p q m : ℕ) → IsLiving (take p journal) x → p ≤ q → vertex_marked
    (take m journal) x ≡ false → q ≤ m → IsLiving (take q journal) x
living_until journal x p q m living less unmarked until = record {
  linked = taken_more (λ (e : Event). links_vertex e.kind && same_life x e.life) journal p q less living.linked;
  unmarked = taken_fewer (λ (e : Event). marks_vertex e.kind && same_life x e.life) journal q m until unmarked;
}

-- no mark comes before a moment at which a life is unmarked
mark_after : (journal : List Event) (x : Life) (p m : ℕ) (mark : Event) → slice_get journal m ≡ Some mark
    → marks_vertex mark.kind ≡ true → mark.life ≡ x → vertex_marked (take p journal) x ≡ false → (m < p → ⊥)
mark_after journal x p m mark at kind life unmarked less =
    true≢false (sym (taken_at (λ (e : Event). marks_vertex e.kind && same_life x e.life) journal m p mark at passes
    less) ∙ unmarked)
  where
    passes : (marks_vertex mark.kind && same_life x mark.life) ≡ true
    passes = ap (λ b. b && same_life x mark.life) kind ∙ (ap (λ (y : Life). same_life x y) life ∙ same_self x)

pub own_case : (journal : List Event) (u v : Life) (p r q m : ℕ) → IsLiving (take p journal) u → IsLiving
    (take r journal) v → p ≤ q → r ≤ q → IsFirstMark journal u v m → q ≤ m
    → IsLiving (take q journal) u × IsLiving (take q journal) v
own_case journal u v p r q m of_u of_v p_q r_q first until = (
  living_until journal u p q m of_u p_q first.first_of_u
      until,
  living_until journal v r q m of_v r_q first.first_of_v until,
)

pub late_case : (journal : List Event) (u v : Life) (p r q m : ℕ) → IsLiving (take p journal) u → IsLiving
    (take r journal) v → p ≤ q → r ≤ q → IsFirstMark journal u v m → m < q
    → (p ≤ m) ⊎ (r ≤ m)
late_case journal u v p r q m of_u of_v p_q r_q first before = by first.life
  where
    by : (first.mark.life ≡ u) ⊎ (first.mark.life ≡ v) → (p ≤ m) ⊎ (r ≤ m)
    by (inl life) = inl (let h = mark_after journal u p m first.mark first.at first.kind life of_u.unmarked in omega
        (arith, h))
    by (inr life) = inr (let h = mark_after journal v r m first.mark first.at first.kind life of_v.unmarked in omega
        (arith, h))

-- the first mark of one of two lives
pub first_mark : (journal : List Event) (u v : Life) → (vertex_marked journal u ≡ true) ⊎
    (vertex_marked journal v ≡ true) → (m : ℕ) × IsFirstMark journal u v m
first_mark [] u v (inl h) = absurd (true≢false (sym h))
first_mark [] u v (inr h) = absurd (true≢false (sym h))
first_mark (x ∷ xs) u v h = by (marks_vertex x.kind && same_life u x.life)
    (marks_vertex x.kind && same_life v x.life) refl refl (λ g. first_mark xs u v g) h
  where
    later : (marks_vertex x.kind && same_life u x.life) ≡ false → (marks_vertex x.kind && same_life v x.life) ≡ false →
        (m : ℕ) × IsFirstMark xs u v m → (m : ℕ) × IsFirstMark (x ∷ xs) u v m
    later no_u no_v (m, f) = (
      suc m,
      record {
        mark = f.mark;
        at = f.at;
        kind = f.kind;
        life = f.life;
        first_of_u = ap (λ b. b || vertex_marked (take m xs) u) no_u ∙ f.first_of_u;
        first_of_v = ap (λ b. b || vertex_marked (take m xs) v) no_v ∙ f.first_of_v;
      },
    )

    by : (s t : Bool) → (marks_vertex x.kind && same_life u x.life) ≡ s →
        (marks_vertex x.kind && same_life v x.life) ≡ t
        → ((vertex_marked xs u ≡ true) ⊎ (vertex_marked xs v ≡ true) → (m : ℕ) × IsFirstMark xs u v m)
        → ((s || vertex_marked xs u) ≡ true) ⊎ ((t || vertex_marked xs v) ≡ true) → (m : ℕ) × IsFirstMark (x ∷ xs) u v m
    by true t is_u is_v rest g = (
      0,
      record {
        mark = x;
        at = refl;
        kind = and_left (marks_vertex x.kind) (same_life u x.life) is_u;
        life = inl (sym (same_is u x.life (and_right (marks_vertex x.kind) (same_life u x.life) is_u)));
        first_of_u = refl;
        first_of_v = refl;
      },
    )
    by false true is_u is_v rest g = (
      0,
      record {
        mark = x;
        at = refl;
        kind = and_left (marks_vertex x.kind) (same_life v x.life) is_v;
        life = inr (sym (same_is v x.life (and_right (marks_vertex x.kind) (same_life v x.life) is_v)));
        first_of_u = refl;
        first_of_v = refl;
      },
    )
    by false false is_u is_v rest g = later is_u is_v (rest g)
