-- Safe reuse goes on with each event, where a node that is taken again has no life that goes on.
use Rattle.std.proofs.Common.{◌≡◌, ℕ, zero, suc, ◌<◌, ◌≤◌, ◌==◌, Bool, true, false, cond, not, ◌&&◌, List, [], ◌∷◌}
use Rattle.std.proofs.Common.{◌++◌, length, take, filter_map, Option, Some, None, refl, sym, ap, ◌∙◌, subst, arith}
use Rattle.std.proofs.Common.{append_assoc, append-nil, true≢false, inl, inr, ◌⊎◌}
use Rattle.std.specs.Prelude.{slice_get}
use Rattle.std.specs.List.{list_all, cons_option}
use Rattle.graph_kinds.specs.History.{Every}
use Rattle.packed_link.specs.Layout.{Sizes}
use Rattle.packed_link.specs.declared.link.Life.{Life}
use Rattle.core_journal.specs.declared.event.Kind.TheVariants.{PopFree}
use Rattle.core_journal.specs.declared.event.Event.{Event}
use Rattle.core_journal.specs.Event.{pops}
use Rattle.core_journal.specs.Reuse.{IsOver, ReusesSafely}
use Rattle.core_journal.proofs.Lists.{get_short, get_back, take_front, take_here}

-- an element of a longer list is one of the shorter, or the new one at its end
get_last : (xs : List Event) (x : Event) (k : ℕ) (e : Event) → slice_get (xs ++ x ∷ []) k ≡ Some e →
    (slice_get xs k ≡ Some e) ⊎ ((k ≡ length xs) × (x ≡ e))
get_last [] x zero e at = inr (refl, cc)
get_last [] x (suc k) e at = absurd (cc)
get_last (y ∷ xs) x zero e at = inl at
get_last (y ∷ xs) x (suc k) e at = by (get_last xs x k e at)
  where
    by : (slice_get xs k ≡ Some e) ⊎ ((k ≡ length xs) × (x ≡ e)) → (slice_get (y ∷ xs) (suc k) ≡ Some e) ⊎
        ((suc k ≡ length (y ∷ xs)) × (x ≡ e))
    by (inl h) = inl h
    by (inr h) = inr (omega (arith, h.0), h.1)

-- one more event, where a node is taken only if its earlier lives are over
pub reuse_snoc : (sizes : Sizes) (past : List Event) (e : Event) → ReusesSafely sizes past
    → (e.kind ≡ PopFree → (k : ℕ) (earlier : Event) → slice_get past k ≡ Some earlier → earlier.kind ≡ PopFree
    → earlier.life.index ≡ e.life.index → IsOver sizes past earlier.life)
    → ReusesSafely sizes (past ++ e ∷ [])
reuse_snoc sizes past e r over = record {
  each = λ q f at kind k earlier less was pop same. cases q f at kind k earlier
      less was pop same (get_last past e q f at);
}
  where
    within : (q k : ℕ) (earlier : Event) → k < q → q ≤ length past → slice_get (past ++ e ∷ []) k ≡ Some earlier
        → slice_get past k ≡ Some earlier
    within q k earlier less low was = sym (get_back past (e ∷ []) k (omega (arith, less, low))) ∙ was

    cases : (q : ℕ) (f : Event) → slice_get (past ++ e ∷ []) q ≡ Some f → f.kind ≡ PopFree → (k : ℕ) (earlier : Event)
        → k < q → slice_get (past ++ e ∷ []) k ≡ Some earlier → earlier.kind ≡ PopFree
        → earlier.life.index ≡ f.life.index
        → (slice_get past q ≡ Some f) ⊎ ((q ≡ length past) × (e ≡ f)) → IsOver sizes
        (take q (past ++ e ∷ [])) earlier.life
    cases q f at kind k earlier less was pop same (inl old) =
        let low : q < length past = get_short past q f old in
        subst (λ (l : List Event). IsOver sizes l earlier.life) (sym (take_front past (e ∷ []) q (omega (arith, low))))
        (r.each q f old kind k earlier less (within q k earlier less (omega (arith, low)) was) pop same)
    cases q f at kind k earlier less was pop same (inr new) =
        let here : take q (past ++ e ∷ []) ≡ past = ap (λ (n : ℕ). take n (past ++ e ∷ [])) new.0 ∙ take_here past
        (e ∷ []) in
        subst (λ (l : List Event). IsOver sizes l earlier.life) (sym here)
        (over (ap (λ (d : Event). d.kind) new.1 ∙ kind) k earlier
        (within q k earlier less (omega (arith, new.0)) was) pop
        (same ∙ ap (λ (d : Event). d.life.index) (sym new.1)))

-- the empty journal reuses safely
pub reuse_nil : (sizes : Sizes) → ReusesSafely sizes []
reuse_nil sizes = record { each = λ q e at kind k earlier less was pop same. absurd (cc) }

abbrev pub none_taken : List Event → Bool
none_taken xs = list_all (λ (e : Event). not (pops e.kind)) xs

-- events that take no node go on safely
pub quiet_stretch : (sizes : Sizes) (past xs : List Event) → none_taken xs ≡ true → ReusesSafely sizes past
    → ReusesSafely sizes (past ++ xs)
quiet_stretch sizes past [] h r = subst (ReusesSafely sizes) (sym (append-nil past)) r
quiet_stretch sizes past (x ∷ xs) h r =
    let s = split (pops x.kind) refl h in
    subst (ReusesSafely sizes) (append_assoc past (x ∷ []) xs)
    (quiet_stretch sizes (past ++ x ∷ []) xs s.1 (reuse_snoc sizes past x r
    (λ kind. absurd (true≢false (sym (ap pops kind) ∙ s.0)))))
  where
    split : (b : Bool) → pops x.kind ≡ b → (not b && none_taken xs) ≡ true → (pops x.kind ≡ false) ×
        (none_taken xs ≡ true)
    split true is h = absurd (cc)
    split false is h = (is, h)

-- the lives for which a node was taken
abbrev pub life_taken : ℕ → Event → Option Life
life_taken index e = cond (pops e.kind && (e.life.index == index)) (Some e.life) None

abbrev pub lives_taken : ℕ → List Event → List Life
lives_taken index xs = filter_map (life_taken index) xs

equal : (n : ℕ) → (n == n) ≡ true
equal n = grind arith

one_of : (P : Life → Type 0) (index : ℕ) (xs : List Event) → Every P (lives_taken index xs) → (k : ℕ) (d : Event)
    → slice_get xs k ≡ Some d → d.kind ≡ PopFree → d.life.index ≡ index → P d.life
one_of P index [] h k d at kind same = absurd (cc)
one_of P index (x ∷ xs) h zero d at kind same =
    let here : x ≡ d = cc in
    let found : life_taken index x ≡ Some d.life = ap (life_taken index) here ∙
    (λ i. cond (pops (kind i) && (same i == index)) (Some d.life) None) ∙ ap (λ b. cond b (Some d.life) None)
    (equal index) in
    (subst (λ (o : Option Life). Every P (cons_option o (lives_taken index xs))) found h).0
one_of P index (x ∷ xs) h (suc k) d at kind same = one_of P index xs (rest (life_taken index x) h) k d at kind same
  where
    rest : (o : Option Life) → Every P (cons_option o (lives_taken index xs)) → Every P (lives_taken index xs)
    rest None h = h
    rest (Some y) h = h.1

-- a node is taken whose lives before are over
pub take_one : (sizes : Sizes) (past : List Event) (e : Event) → ReusesSafely sizes past → Every (IsOver sizes past)
    (lives_taken e.life.index past) → ReusesSafely sizes (past ++ e ∷ [])
take_one sizes past e r over = reuse_snoc sizes past e r (λ kind k earlier was pop same. one_of
    (IsOver sizes past) e.life.index past over k earlier was pop same)
