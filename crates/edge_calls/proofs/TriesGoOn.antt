-- What was found stays found while a node is taken and filled.
use Rattle.std.proofs.Common.{◌≡◌, ◌≢◌, ℕ, ◌+◌, ◌<◌, true, false, List, [], ◌∷◌, sym, ◌∙◌, subst, arith}
use Rattle.graph_kinds.specs.History.{Every}
use Rattle.packed_link.specs.Layout.{IsLayout, key_at}
use Rattle.packed_link.specs.Link.{index_of}
use Rattle.packed_link.specs.declared.link.Life.{Life}
use Rattle.core_journal.specs.declared.event.Event.{Event}
use Rattle.core_rule.specs.Fronts.{MetVertex, key_in}
use Rattle.core_rule.specs.OwnEvents.{pop_event}
use Rattle.core_rule.specs.Views.{GoesOn}
use Rattle.core_rule.specs.declared.view.View.{View}
use Rattle.core_rule.proofs.ViewShows.{goes_further, key_still, vertex_still}
use Rattle.core_stretches.specs.Holdings.{IsFilledAsEdge}
use Rattle.core_stretches.specs.Makes.{Makes, StaysInPass}
use Rattle.core_stretches.proofs.MakesTell.{makes_goes}
use Rattle.core_stretches.proofs.WordsLeadOn.{goes_sizes}
use Rattle.node_arena.specs.Filling.{edge_stores}
use Rattle.node_arena.specs.Taking.{IsTaken}
use Rattle.edge_list.specs.EdgePositions.{EdgePositionValue, IsFilledForGap, IsGapOfEdge, IsSeenEdge}
use Rattle.edge_list.specs.declared.edge.Edge.{Edge}
use Rattle.edge_list.proofs.EdgePositionsGoOn.{edge_gap_makes, edge_place_apart, edge_place_not_free, seen_makes}
use Rattle.edge_list.proofs.ReplacementsTell.{stores_stay}

-- the take of a node leaves the pass open
pub pop_stays : (v : View) (seen next : ℕ) → Every StaysInPass (pop_event v seen next ∷ [])
pop_stays v seen next = ((λ y. absurd (cc), λ y. absurd (cc)), tt)

pub taken_goes : (v w : View) (x : Life) → IsTaken v w x → GoesOn v w
taken_goes v w x t = makes_goes v w (pop_event v t.seen t.next ∷ []) (pop_stays v t.seen t.next) t.makes

pub filled_goes : (v w : View) (x : Life) (key next : ℕ) (target : Life) (weight : ℕ)
    → Makes v (edge_stores v x key next target weight) w → GoesOn v w
filled_goes v w x key next target weight h =
    makes_goes v w (edge_stores v x key next target weight) (stores_stay v x key next target weight) h

-- an edge that was found is so after a node is taken
pub seen_taken : (v w : View) (x : Life) (source : Life) (edge : Edge) (moment : List Event) → IsLayout v.sizes
    → IsTaken v w x → IsSeenEdge v source edge moment → IsSeenEdge w source edge moment
seen_taken v w x source edge moment z t s = seen_makes v w (pop_event v t.seen t.next ∷ []) source edge moment z
    (pop_stays v t.seen t.next) (edge_place_not_free true v _ z s.position, tt) t.makes s

-- a gap is one after a node is taken and filled for it, and the node is filled for the gap
module _ (v m w : View) (p : EdgePositionValue) (x target : Life) (weight : ℕ) (z : IsLayout v.sizes)
    (g : IsGapOfEdge v p) (t : IsTaken v m x)
    (h : Makes m (edge_stores m x p.key (index_of p.word) target weight) w)
    (f : IsFilledAsEdge w p.key (index_of p.word) target weight x) where
  goes_m : GoesOn v m
  goes_m = taken_goes v m x t

  layout_m : IsLayout m.sizes
  layout_m = subst IsLayout (sym (goes_sizes v m goes_m)) z

  gap_m : IsGapOfEdge m p
  gap_m = edge_gap_makes v m (pop_event v t.seen t.next ∷ []) p z (pop_stays v t.seen t.next)
      (edge_place_not_free false v p z g.position, tt) t.makes g

  apart : (field : ℕ) → field < 4 → key_at m.sizes x.index + field ≢ p.place
  apart field low = edge_place_apart false m p x field layout_m low t.held gap_m.position

  pub gap_filled : IsGapOfEdge w p
  gap_filled = edge_gap_makes m w (edge_stores m x p.key (index_of p.word) target weight) p layout_m
      (stores_stay m x p.key (index_of p.word) target weight)
      (apart 0 (omega arith), (apart 1 (omega arith), (apart 2 (omega arith), (apart 3 (omega arith), tt)))) h gap_m

  pub filled_for : MetVertex v target → key_in v target.index ≡ p.key → IsFilledForGap w p target weight x
  filled_for met key =
      let g = goes_further v m w goes_m (filled_goes m w x p.key (index_of p.word) target weight h) in
      record {
        filled = f;
        to = vertex_still v w z g target met;
        to_key = key_still v w z g target.index met.life.there met.met ∙ key;
      }
