-- Load by load, a walk in an open pass comes to what that pass has met.
use Rattle.std.proofs.Common.{◌≡◌, ◌≢◌, ℕ, ◌<◌, true, List, [], ◌∷◌, sym, ◌∙◌, subst, ⊎_elim, inl, inr}
use Rattle.graph_kinds.specs.History.{Every}
use Rattle.packed_link.specs.Link.{index_of, nowhere}
use Rattle.packed_link.specs.Layout.{Sizes, IsLayout, bucket_at, link_at, second_at}
use Rattle.core_journal.specs.declared.event.Event.{Event}
use Rattle.core_journal.specs.Machine.{word_at}
use Rattle.core_journal.specs.Prefix.{IsPrefix}
use Rattle.core_journal.specs.Reuse.{pass_in}
use Rattle.core_kept.specs.Facts.{HasMet, IsSamePass}
use Rattle.core_kept.specs.Kept.{IsKept}
use Rattle.core_lists.specs.Walks.{LeadsTo, Load, led_to, CameTo, ComesFrom, from_bucket, from_link, from_list}
use Rattle.core_lists.specs.Walks.{from_met, from_met_list, IsLoad, IsWalk, StaysMet, IsMetBehind, IsMetFirst, IsMetIn}
use Rattle.core_kept.proofs.Induction.{kept_front}
use Rattle.core_lists.proofs.MetWordsLead.{walk_head, walk_link, walk_list}
use Rattle.core_kept.proofs.MetWords.{still_met}

module _ (sizes : Sizes) (z : IsLayout sizes) (journal : List Event) (kept : IsKept sizes journal) (caller : ℕ) where
  -- a load led to none, or to what the pass had met then and has met still
  abbrev pub LedToMet : Load → Type 0
  LedToMet l = LeadsTo (word_at sizes l.moment l.place) (StaysMet sizes l.moment journal caller)

  kept_then : (moment : List Event) → IsSamePass sizes moment journal caller → IsKept sizes moment
  kept_then moment p = kept_front sizes moment journal p.before kept

  -- what was met at a moment of the pass is met still
  shown : (moment : List Event) → IsSamePass sizes moment journal caller → (y : ℕ) → y < sizes.nodes
      → HasMet sizes moment caller y → StaysMet sizes moment journal caller y
  shown moment p y there m = let s = still_met sizes z moment journal kept caller y p m in record
      { there = there; then = m; still = s.0; life = s.1.tag }

  -- two moments of one pass
  between : (first second : List Event) → IsPrefix first second → IsSamePass sizes first journal caller
      → IsSamePass sizes second journal caller → (pass_in sizes second caller).is_open ≡ true
      → IsSamePass sizes first second caller
  between first second p a b open_ = record { before = p; open_still = open_; since = sym b.since ∙ a.since }

  -- a node to which the walk came is met at each later load of the pass
  came : (l : Load) → (pass_in sizes l.moment caller).is_open ≡ true → IsSamePass sizes l.moment journal caller →
      (earlier : List Load) → IsWalk sizes journal caller earlier → Every LedToMet earlier
      → Every (λ (k : Load). IsPrefix k.moment l.moment) earlier → (x : ℕ) → CameTo sizes earlier x → (x < sizes.nodes)
      × HasMet sizes l.moment caller x
  came l open_ p [] _ _ _ x c = absurd c
  came l open_ p (k ∷ earlier) walk was before x c = ⊎_elim
      (λ (here : (led_to sizes k ≡ x) × (x ≢ nowhere)). ⊎_elim
      (λ (none : led_to sizes k ≡ nowhere). absurd (here.1 (sym here.0 ∙ none)))
      (λ (m : StaysMet sizes k.moment journal caller (led_to sizes k)).
      let s : StaysMet sizes k.moment journal caller x = subst (StaysMet sizes k.moment journal caller) here.0 m in (
        s.there,
        (still_met sizes z k.moment l.moment (kept_then l.moment p) caller x
            (between k.moment l.moment before.0 walk.0.same p open_) s.then).0,
      ))
      was.0)
      (λ (rest : CameTo sizes earlier x). came l open_ p earlier walk.1 was.1 before.1 x rest)
      c

  -- so the next load leads on
  next : (l : Load) (earlier : List Load) → IsLoad sizes journal caller earlier l → IsWalk sizes journal caller earlier
      → Every LedToMet earlier → LedToMet l
  next l earlier d walk was = by d.from
    where
      on : (P : ℕ → Type 0) (place : ℕ) → l.place ≡ place → ((y : ℕ) → P y → (y < sizes.nodes)
          × HasMet sizes l.moment caller y) → LeadsTo (word_at sizes l.moment place) P → LedToMet l
      on P place at give leads = subst (λ (q : ℕ). LeadsTo (word_at sizes l.moment q)
          (StaysMet sizes l.moment journal caller)) (sym at) (⊎_elim
          (λ (none : index_of (word_at sizes l.moment place) ≡ nowhere). inl none)
          (λ (p : P (index_of (word_at sizes l.moment place))). let g = give
          (index_of (word_at sizes l.moment place)) p in inr
          (shown l.moment d.same (index_of (word_at sizes l.moment place)) g.0 g.1))
          leads)

      by : ComesFrom sizes caller earlier l → LedToMet l
      by (from_bucket j low at) = on (IsMetFirst sizes l.moment caller j) (bucket_at sizes j) at
          (λ y m. (m.there, m.met)) (walk_head sizes z l.moment (kept_then l.moment d.same) caller d.pass j low)
      by (from_link x c at) =
          let m = came l d.pass d.same earlier walk was d.later x c in
          on (IsMetBehind sizes l.moment caller x) (link_at sizes x) at (λ y b. (b.there, b.met))
          (walk_link sizes z l.moment (kept_then l.moment d.same) caller x m.0 m.1)
      by (from_list x c vertex at) =
          let m = came l d.pass d.same earlier walk was d.later x c in
          on (IsMetIn sizes l.moment caller x) (second_at sizes x) at (λ y b. (b.there, b.met))
          (walk_list sizes z l.moment (kept_then l.moment d.same) caller x m.0 m.1 vertex)
      by (from_met x there m at) = on (IsMetBehind sizes l.moment caller x) (link_at sizes x) at
          (λ y b. (b.there, b.met)) (walk_link sizes z l.moment (kept_then l.moment d.same) caller x there m)
      by (from_met_list x there m vertex at) = on (IsMetIn sizes l.moment caller x) (second_at sizes x) at
          (λ y b. (b.there, b.met)) (walk_list sizes z l.moment (kept_then l.moment d.same) caller x there m vertex)

  pub walk_meets : (loads : List Load) → IsWalk sizes journal caller loads → Every LedToMet loads
  walk_meets [] _ = tt
  walk_meets (l ∷ earlier) walk = let was = walk_meets earlier walk.1 in (next l earlier walk.0 walk.1 was, was)
