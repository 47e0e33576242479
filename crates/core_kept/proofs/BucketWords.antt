-- The word of a bucket is never marked.
use Rattle.std.proofs.Common.{◌≡◌, ◌≢◌, ℕ, ◌<◌, List, ap, ◌∙◌, arith}
use mathlib.Core.Logic.{dite}
use native.Mathlib.Decide.{ℕ_discrete}
use Rattle.packed_link.specs.Link.{index_of, mark_of, tag_of}
use Rattle.packed_link.specs.Layout.{Sizes, IsLayout, bucket_at, BucketWord}
use Rattle.packed_link.proofs.Links.{mark_of-pack}
use Rattle.core_journal.specs.declared.event.Kind.TheVariants.{LinkVertex, UnlinkVertex, ReplaceEdge}
use Rattle.core_journal.specs.declared.event.Event.{Event}
use Rattle.core_journal.specs.Machine.{word_at}
use Rattle.core_journal.specs.State.{State, state}
use Rattle.core_journal.proofs.MachineWords.{word_first}
use Rattle.core_kept.specs.Kept.{IsKept}
use Rattle.core_kept.proofs.ByKind.{KeepsByKind, IsAfter, holds_all}

record AreUnmarked (sizes : Sizes) (s : State) (w : ℕ → ℕ) : Type 0 where
  pub each : (j : ℕ) → j < sizes.buckets → mark_of (w (bucket_at sizes j)) ≡ 0

module _ (sizes : Sizes) (past : List Event) (e : Event) (w : ℕ → ℕ) (a : IsAfter sizes past e w)
    (c : AreUnmarked sizes (state sizes past) (word_at sizes past)) (s : State) where
  -- the event writes an unmarked word, wherever
  unmarked_word : mark_of e.word ≡ 0 → AreUnmarked sizes s w
  unmarked_word live = record {
    each = λ j low. dite (ℕ_discrete (bucket_at sizes j) e.place)
        (λ is. ap (λ i. mark_of (w i)) is ∙ (ap mark_of (a.here (omega (arith, is, low))) ∙ live))
        (λ ne. ap mark_of (a.else (bucket_at sizes j) ne) ∙ c.each j low);
  }

  -- the event writes no bucket's word
  other_word : ((j : ℕ) → j < sizes.buckets → bucket_at sizes j ≢ e.place) → AreUnmarked sizes s w
  other_word ne = record { each = λ j low. ap mark_of (a.else (bucket_at sizes j) (ne j low)) ∙ c.each j low }

unmarked_step : (sizes : Sizes) → IsLayout sizes → KeepsByKind sizes (AreUnmarked sizes)
unmarked_step sizes z past e kept c LinkVertex by ok w a = unmarked_word sizes past e w a c _
    (ap mark_of ok.word ∙ mark_of-pack e.life.index 0 (tag_of (word_at sizes past e.place))
    (omega (arith, ok.there, z.few_nodes)) (omega arith))
unmarked_step sizes z past e kept c UnlinkVertex by ok w a = unmarked_word sizes past e w a c _
    (ap mark_of ok.word ∙ mark_of-pack (index_of (word_at sizes past _)) 0 (tag_of (word_at sizes past e.place))
    (omega arith) (omega arith))
unmarked_step sizes z past e kept c ReplaceEdge by ok w a = other_word sizes past e w a c _
    (λ j low h. omega (arith, ok.place, ok.old_there, h, low))
unmarked_step sizes z past e kept c _ by ok w a = other_word sizes past e w a c _
    (λ j low h. omega (arith, ok.place, ok.there, h, low))

-- the word of a bucket is unmarked
pub bucket_unmarked : (sizes : Sizes) → IsLayout sizes → (journal : List Event) → IsKept sizes journal → (j : ℕ)
    → j < sizes.buckets → mark_of (word_at sizes journal (bucket_at sizes j)) ≡ 0
bucket_unmarked sizes z journal kept j low = (holds_all sizes (AreUnmarked sizes) (unmarked_step sizes z)
    (record { each = λ i there. ap mark_of (word_first sizes (BucketWord i) there) }) journal kept).each j low
