-- Each node is in exactly one state.
use Rattle.std.proofs.Common.{◌≡◌, ℕ, ◌<◌, List, refl, sym, ap, ◌∙◌}
use Rattle.std.specs.Prelude.{Contains}
use Rattle.packed_link.specs.Layout.{Sizes, IsLayout}
use Rattle.core_journal.specs.declared.event.Event.{Event}
use Rattle.core_journal.specs.State.{Mode, Free, Fresh, Linked, Spent, state}
use Rattle.core_kept.specs.Free.{is_free}
use Rattle.core_kept.specs.Kept.{IsKept}
use Rattle.core_kept.specs.Nodes.{node_in}
use Rattle.core_kept.specs.Standings.{Standing, OnFreeList, FreshWith, OnChain, SpentBy, StandsAs}
use Rattle.core_kept.proofs.FreeList.{free_is, free_list}
use Rattle.core_kept.proofs.LinkWords.{link_words}

-- some state
pub some_standing : (sizes : Sizes) → IsLayout sizes → (journal : List Event) → IsKept sizes journal → (x : ℕ)
    → x < sizes.nodes → (standing : Standing) × StandsAs sizes journal x standing
some_standing sizes z journal kept x t = by (node_in sizes journal x).mode refl
  where
    by : (m : Mode) → (node_in sizes journal x).mode ≡ m → (standing : Standing) × StandsAs sizes journal x standing
    by Free is = (
      OnFreeList,
      record {
        mode = is;
        listed = (free_list sizes z journal kept).all x t
            (ap is_free is);
        link = ((link_words sizes z journal kept).each x t).free is;
      },
    )
    by Fresh is = (
      FreshWith (node_in sizes journal x).who,
      record
          { mode = is; with = refl; link = ((link_words sizes z journal kept).each x t).fresh is },
    )
    by Linked is = (OnChain, record { mode = is; link = ((link_words sizes z journal kept).each x t).linked is })
    by Spent is = (
      SpentBy (node_in sizes journal x).who,
      record
          { mode = is; by = refl; link = ((link_words sizes z journal kept).each x t).spent is },
    )

-- and no other
pub one_standing : (sizes : Sizes) (journal : List Event) (x : ℕ) (a b : Standing) → StandsAs sizes journal x a
    → StandsAs sizes journal x b → a ≡ b
one_standing sizes journal x OnFreeList OnFreeList p q = refl
one_standing sizes journal x OnChain OnChain p q = refl
one_standing sizes journal x (FreshWith i) (FreshWith j) p q = ap FreshWith (sym p.with ∙ q.with)
one_standing sizes journal x (SpentBy i) (SpentBy j) p q = ap SpentBy (sym p.by ∙ q.by)
one_standing sizes journal x a b p q = let m = sym p.mode ∙ q.mode in absurd (cc)

-- only free nodes stand on the free list
pub listed_free : (sizes : Sizes) → IsLayout sizes → (journal : List Event) → IsKept sizes journal → (x : ℕ) → Contains
    (state sizes journal).free x → (node_in sizes journal x).mode ≡ Free
listed_free sizes z journal kept x on = free_is (node_in sizes journal x).mode
    ((free_list sizes z journal kept).only x on)
