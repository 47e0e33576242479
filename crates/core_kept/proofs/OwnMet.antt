-- What the open pass of a caller has met at a front with all of its events is met still while only others make events.
use Rattle.std.proofs.Common.{◌≡◌, ℕ, ◌<◌, ◌≤◌, Bool, true, false, List, length, refl, ap, ◌∙◌, arith}
use Rattle.packed_link.specs.Link.{mark_of}
use Rattle.packed_link.specs.Layout.{Sizes, IsLayout, key_at, link_at}
use Rattle.core_journal.specs.declared.event.Event.{Event}
use Rattle.core_journal.specs.Prefix.{IsPrefix}
use Rattle.core_journal.specs.Machine.{word_at}
use Rattle.core_journal.specs.State.{Mode, Free, Fresh, Linked, Spent, Pass}
use Rattle.core_journal.specs.Reuse.{pass_in}
use Rattle.core_kept.specs.Kept.{IsKept, IsQuiet}
use Rattle.core_kept.specs.Nodes.{node_in, IsUsed}
use Rattle.core_kept.specs.Facts.{HasMet, IsSamePass}
use Rattle.core_kept.proofs.Contents.{contents}
use Rattle.core_kept.proofs.LinkWords.{link_words}
use Rattle.core_kept.proofs.MetWords.{met_used, still_met, key_stays}
use Rattle.core_kept.proofs.OwnFacts.{pass_stays}
use Rattle.core_kept.proofs.MetLives.{IsSameLinked}

-- it's still met, the same life and the same vertex or edge, with its key
pub record IsMetStill (sizes : Sizes) (front journal : List Event) (caller x : ℕ) : Type 0 where
  pub pass : pass_in sizes journal caller ≡ pass_in sizes front caller
  pub met : HasMet sizes journal caller x
  pub same : IsSameLinked (node_in sizes front x) (node_in sizes journal x)
  pub used : IsUsed (node_in sizes journal x).mode
  pub key : x < sizes.nodes → word_at sizes journal (key_at sizes x) ≡ word_at sizes front (key_at sizes x)

pub met_still : (sizes : Sizes) → IsLayout sizes → (caller last x : ℕ) (front journal : List Event)
    → IsPrefix front journal → IsKept sizes journal → IsQuiet journal caller last → last ≤ length front
    → HasMet sizes front caller x → IsMetStill sizes front journal caller x
met_still sizes z caller last x front journal p kept quiet old m =
    let pass : pass_in sizes journal caller ≡ pass_in sizes front caller = pass_stays sizes caller last front journal p
    kept quiet old in
    let same : IsSamePass sizes front journal caller = record
    { before = p; open_still = ap (λ (q : Pass). q.is_open) pass ∙ m.pass; since = ap (λ (q : Pass). q.since) pass }
    in
    let now = still_met sizes z front journal kept caller x same m in
    record {
      pass = pass;
      met = now.0;
      same = now.1;
      used = met_used sizes journal caller x now.0;
      key = key_stays sizes
          z front journal kept caller x same m;
    }

-- what is met and has an unmarked link is linked
pub met_linked : (sizes : Sizes) → IsLayout sizes → (journal : List Event) → IsKept sizes journal → (caller x : ℕ)
    → x < sizes.nodes → HasMet sizes journal caller x → mark_of (word_at sizes journal (link_at sizes x)) ≡ 0 →
    (node_in sizes journal x).mode ≡ Linked
met_linked sizes z journal kept caller x there m live = by (node_in sizes journal x).mode refl
  where
    by : (k : Mode) → (node_in sizes journal x).mode ≡ k → k ≡ Linked
    by Linked e = refl
    by Free e = absurd (m.free e)
    by Fresh e = absurd (m.fresh e)
    by Spent e = let d = ((link_words sizes z journal kept).each x there).spent e in absurd
        (omega (arith, d.marked, live))

-- the key word of a node that was linked is its key
pub key_word_is : (sizes : Sizes) → IsLayout sizes → (journal : List Event) → IsKept sizes journal → (x : ℕ)
    → x < sizes.nodes → IsUsed (node_in sizes journal x).mode → word_at sizes journal (key_at sizes x) ≡
    (node_in sizes journal x).key
key_word_is sizes z journal kept x there used = by (node_in sizes journal x).vertex refl
  where
    by : (b : Bool) → (node_in sizes journal x).vertex ≡ b → word_at sizes journal (key_at sizes x) ≡
        (node_in sizes journal x).key
    by true e = (((contents sizes z journal kept).each x there).vertex used e).key_word
    by false e = (((contents sizes z journal kept).each x there).edge used e).key_word
