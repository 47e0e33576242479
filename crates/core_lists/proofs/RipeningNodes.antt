-- How a spent node becomes ripe: it's stamped, an epoch is shown, and both stay until the node is given back.
use Rattle.std.proofs.Common.{◌≡◌, ◌≢◌, ℕ, ◌+◌, ◌<◌, ◌≤◌, List, [], ◌∷◌, ◌++◌, length, refl, sym, ap, ◌∙◌}
use Rattle.packed_link.specs.Layout.{Sizes, IsLayout, epoch_at}
use Rattle.core_journal.specs.declared.event.Kind.TheVariants.{PushFree}
use Rattle.core_journal.specs.declared.event.Event.{Event}
use Rattle.core_journal.specs.Prefix.{IsPrefix}
use Rattle.core_journal.specs.Machine.{word_at}
use Rattle.core_journal.specs.State.{Node}
use Rattle.core_journal.proofs.Lists.{prefix_refl, prefix_snoc, prefix_trans}
use Rattle.core_kept.specs.Kept.{IsKept, IsQuiet}
use Rattle.core_kept.specs.Nodes.{node_in, IsSpentWith, IsStamped, IsRipe}
use Rattle.core_kept.proofs.Induction.{kept_front}
use Rattle.core_kept.proofs.OwnSpent.{spent_stays}
use Rattle.core_lists.proofs.EventKeepsRest.{spent_still}
use Rattle.core_kept.proofs.NodesInPlace.{used_there}

pub stamped : (sizes : Sizes) (journal : List Event) (caller x stamp : ℕ) → IsSpentWith sizes journal caller x
    → word_at sizes journal (epoch_at sizes) ≤ stamp → IsStamped sizes journal caller x stamp
stamped sizes journal caller x stamp s low = record {
  spent = s;
  when = journal;
  when_before = prefix_refl journal;
  when_spent = s.spent;
  when_life = refl;
  when_epoch = low;
}

pub ripens : (sizes : Sizes) (shown journal : List Event) → IsPrefix shown journal → (caller x stamp : ℕ)
    → IsStamped sizes journal caller x stamp → stamp + 2 ≤ word_at sizes shown (epoch_at sizes)
    → IsRipe sizes journal caller x
ripens sizes shown journal p caller x stamp s high = record {
  stamp = stamp;
  stamped = s;
  shown = shown;
  shown_before =
      p;
  shown_epoch = high;
}

-- a node is spent with the caller still, in its life
record IsStillSpent (sizes : Sizes) (front journal : List Event) (caller x : ℕ) : Type 0 where
  pub before : IsPrefix front journal
  pub spent : IsSpentWith sizes journal caller x
  pub tag : (node_in sizes journal x).tag ≡ (node_in sizes front x).tag

module _ (sizes : Sizes) (front journal : List Event) (caller x : ℕ) (s : IsStillSpent sizes front journal caller x)
  where
    still_stamped : (stamp : ℕ) → IsStamped sizes front caller x stamp → IsStamped sizes journal caller x stamp
    still_stamped stamp t = record {
      spent = s.spent;
      when = t.when;
      when_before = prefix_trans t.when front journal t.when_before s.before;
      when_spent = t.when_spent;
      when_life = t.when_life ∙ sym s.tag;
      when_epoch = t.when_epoch;
    }

    still_ripe : IsRipe sizes front caller x → IsRipe sizes journal caller x
    still_ripe r = ripens sizes r.shown journal (prefix_trans r.shown front journal r.shown_before s.before) caller x
        r.stamp (still_stamped r.stamp r.stamped) r.shown_epoch

-- while others act
still_beyond : (sizes : Sizes) → IsLayout sizes → (caller last x : ℕ) (front journal : List Event)
    → IsPrefix front journal → IsKept sizes journal → IsQuiet journal caller last → last ≤ length front
    → IsSpentWith sizes front caller x → IsStillSpent sizes front journal caller x
still_beyond sizes z caller last x front journal p kept quiet old s =
    let there : x < sizes.nodes = used_there sizes front x (kept_front sizes front journal p kept)
    (λ h. let t = s.spent in absurd (cc)) in
    let k = spent_stays sizes z caller last x there front journal p kept quiet old s in
    record {
      before = p;
      spent = record {
        spent = ap (λ (n : Node). n.mode) k.node ∙ s.spent;
        mine = ap
            (λ (n : Node). n.who) k.node ∙ s.mine;
      };
      tag = ap (λ (n : Node). n.tag) k.node;
    }

-- behind an event that doesn't give it back
still_behind : (sizes : Sizes) → IsLayout sizes → (past : List Event) (e : Event) → IsKept sizes (past ++ e ∷ []) →
    (caller x : ℕ) → (e.kind ≡ PushFree → e.life.index ≢ x) → IsSpentWith sizes past caller x → IsStillSpent sizes past
    (past ++ e ∷ []) caller x
still_behind sizes z past e kept caller x other s =
    let r = spent_still sizes past e kept z caller x other s in
    record { before = prefix_snoc past e; spent = r.0; tag = r.1 }

pub stamp_beyond : (sizes : Sizes) → IsLayout sizes → (caller last x stamp : ℕ) (front journal : List Event)
    → IsPrefix front journal → IsKept sizes journal → IsQuiet journal caller last → last ≤ length front
    → IsStamped sizes front caller x stamp → IsStamped sizes journal caller x stamp
stamp_beyond sizes z caller last x stamp front journal p kept quiet old t = still_stamped sizes front journal caller x
    (still_beyond sizes z caller last x front journal p kept quiet old t.spent) stamp t

pub stamp_behind : (sizes : Sizes) → IsLayout sizes → (past : List Event) (e : Event) → IsKept sizes (past ++ e ∷ []) →
    (caller x stamp : ℕ) → (e.kind ≡ PushFree → e.life.index ≢ x) → IsStamped sizes past caller x stamp
    → IsStamped sizes (past ++ e ∷ []) caller x stamp
stamp_behind sizes z past e kept caller x stamp other t = still_stamped sizes past (past ++ e ∷ []) caller x
    (still_behind sizes z past e kept caller x other t.spent) stamp t

pub ripe_beyond : (sizes : Sizes) → IsLayout sizes → (caller last x : ℕ) (front journal : List Event)
    → IsPrefix front journal → IsKept sizes journal → IsQuiet journal caller last → last ≤ length front
    → IsRipe sizes front caller x → IsRipe sizes journal caller x
ripe_beyond sizes z caller last x front journal p kept quiet old r = still_ripe sizes front journal caller x
    (still_beyond sizes z caller last x front journal p kept quiet old r.stamped.spent) r

pub ripe_behind : (sizes : Sizes) → IsLayout sizes → (past : List Event) (e : Event) → IsKept sizes (past ++ e ∷ []) →
    (caller x : ℕ) → (e.kind ≡ PushFree → e.life.index ≢ x) → IsRipe sizes past caller x → IsRipe sizes
    (past ++ e ∷ []) caller x
ripe_behind sizes z past e kept caller x other r = still_ripe sizes past (past ++ e ∷ []) caller x
    (still_behind sizes z past e kept caller x other r.stamped.spent) r
