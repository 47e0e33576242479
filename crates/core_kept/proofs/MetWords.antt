-- What an open pass has met keeps its words while the pass is open.
use Rattle.std.proofs.Common.{◌≡◌, ◌≢◌, ℕ, ◌<◌, Bool, List, true, false, refl, sym, ap, ◌∙◌, arith}
use Rattle.packed_link.specs.Layout.{Sizes, IsLayout, key_at, second_at, third_at}
use Rattle.packed_link.specs.Link.{pack}
use Rattle.packed_link.specs.declared.link.Life.{Life}
use Rattle.core_journal.specs.declared.event.Event.{Event}
use Rattle.core_journal.specs.Machine.{word_at}
use Rattle.core_journal.specs.State.{Mode, Free, Fresh, Linked, Spent}
use Rattle.core_kept.specs.Facts.{HasMet, IsSamePass}
use Rattle.core_kept.specs.Kept.{IsKept}
use Rattle.core_kept.specs.Nodes.{node_in, IsUsed, IsRipe}
use Rattle.core_kept.proofs.Contents.{contents}
use Rattle.core_kept.proofs.Induction.{kept_front}
use Rattle.core_kept.proofs.Ripe.{ripe_before}
use Rattle.core_kept.proofs.MetLives.{IsSameLinked, met_stays}

-- what is met is linked or spent
pub met_used : (sizes : Sizes) (journal : List Event) (caller x : ℕ) → HasMet sizes journal caller x → IsUsed
    (node_in sizes journal x).mode
met_used sizes journal caller x m = by (node_in sizes journal x).mode m.free m.fresh
  where
    by : (k : Mode) → k ≢ Free → k ≢ Fresh → IsUsed k
    by Free f g = f refl
    by Fresh f g = g refl
    by Linked f g = tt
    by Spent f g = tt

-- a ripe node is met in no open pass
pub ripe_not_met : (sizes : Sizes) → IsLayout sizes → (journal : List Event) → IsKept sizes journal → (caller i x : ℕ)
    → IsRipe sizes journal caller x → HasMet sizes journal i x → ⊥
ripe_not_met sizes z journal kept caller i x r m = omega (
  arith,
  ripe_before sizes z journal kept caller x i r m.pass,
  m.spent r.stamped.spent.spent,
)

module _ (sizes : Sizes) (z : IsLayout sizes) (front journal : List Event) (kept : IsKept sizes journal) (caller x : ℕ)
    (p : IsSamePass sizes front journal caller) (m : HasMet sizes front caller x) where
  -- it's met still, in its life
  pub still_met : HasMet sizes journal caller x × IsSameLinked (node_in sizes front x) (node_in sizes journal x)
  still_met = met_stays sizes z caller x front journal p.before kept m p.open_still p.since

  -- its key stays
  pub key_stays : x < sizes.nodes → word_at sizes journal (key_at sizes x) ≡ word_at sizes front (key_at sizes x)
  key_stays there = by (node_in sizes front x).vertex refl
    where
      by : (b : Bool) → (node_in sizes front x).vertex ≡ b → word_at sizes journal
          (key_at sizes x) ≡ word_at sizes front (key_at sizes x)
      by true is =
          let s = still_met in
          let old = ((contents sizes z front (kept_front sizes front journal p.before kept)).each x there).vertex
          (met_used sizes front caller x m) is in
          let new = ((contents sizes z journal kept).each x there).vertex (met_used sizes journal caller x s.0)
          (s.1.vertex ∙ is) in
          new.key_word ∙ (s.1.key ∙ sym old.key_word)
      by false is =
          let s = still_met in
          let old = ((contents sizes z front (kept_front sizes front journal p.before kept)).each x there).edge
          (met_used sizes front caller x m) is in
          let new = ((contents sizes z journal kept).each x there).edge (met_used sizes journal caller x s.0)
          (s.1.vertex ∙ is) in
          new.key_word ∙ (s.1.key ∙ sym old.key_word)

  -- so do an edge's target and weight
  pub edge_stays : x < sizes.nodes → (node_in sizes front x).vertex ≡ false →
      (word_at sizes journal (second_at sizes x) ≡ word_at sizes front (second_at sizes x)) ×
      (word_at sizes journal (third_at sizes x) ≡ word_at sizes front (third_at sizes x))
  edge_stays there is =
      let s = still_met in
      let old = ((contents sizes z front (kept_front sizes front journal p.before kept)).each x there).edge
      (met_used sizes front caller x m) is in
      let new = ((contents sizes z journal kept).each x there).edge (met_used sizes journal caller x s.0)
      (s.1.vertex ∙ is) in (
        new.target_word ∙ (ap (λ (y : Life). pack y.index 0 y.tag) s.1.target ∙ sym old.target_word),
        new.weight_word ∙
            (s.1.weight ∙ sym old.weight_word),
      )
