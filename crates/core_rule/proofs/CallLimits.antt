-- Limits of the numbers that a token loads: the tag of the free list, the epoch, and the tag of a life.
use Rattle.std.proofs.Common.{◌≡◌, ℕ, ◌^◌, ◌<◌, ◌≤◌, List, sym, ap, ◌∙◌, arith}
use Rattle.packed_link.specs.Link.{tag_of}
use Rattle.packed_link.specs.Layout.{IsLayout, free_at, epoch_at}
use Rattle.packed_link.specs.declared.link.Life.{Life}
use Rattle.core_journal.specs.declared.event.Event.{Event}
use Rattle.core_journal.specs.Machine.{word_at}
use Rattle.core_journal.specs.Prefix.{IsPrefix}
use Rattle.core_kept.specs.Kept.{IsKept}
use Rattle.core_kept.proofs.FirstWords.{numbers}
use Rattle.core_kept.proofs.FreeList.{free_list}
use Rattle.core_kept.proofs.Induction.{kept_front}
use Rattle.core_kept.proofs.NoWrap.{bounds}
use Rattle.core_rule.specs.Fronts.{IsLifeAt}
use Rattle.core_rule.specs.declared.view.View.{View}

module _ (v : View) (z : IsLayout v.sizes) (kept : IsKept v.sizes v.front) where
  pub free_tag_low : (first : List Event) → IsPrefix first v.front → (seen : ℕ) → word_at v.sizes first
      (free_at v.sizes) ≡ seen → tag_of seen ≤ 2 ^ 37
  free_tag_low first p seen is =
      let k = kept_front v.sizes first v.front p kept in
      omega (arith, (bounds v.sizes z first k).changes, sym (ap tag_of is) ∙ (free_list v.sizes z first k).tag)

  pub epoch_low : (loaded : List Event) → IsPrefix loaded v.front → (seen : ℕ) → word_at v.sizes loaded
      (epoch_at v.sizes) ≡ seen → seen ≤ 2 ^ 38
  epoch_low loaded p seen is =
      let k = kept_front v.sizes loaded v.front p kept in
      omega (arith, (bounds v.sizes z loaded k).epoch, (numbers v.sizes loaded k).epoch, is)

  pub life_tag_low : (x : Life) → IsLifeAt v x → x.tag < 2 ^ 39
  life_tag_low x l = omega (arith, (bounds v.sizes z v.front kept).lives x.index, l.tag)
