-- What unmarked and marked edges tell of the pairs of the graph.
use Rattle.std.proofs.Common.{◌≡◌, ◌≢◌, ℕ, Bool, true, false, List, Some, None, refl, sym, ap, ◌∙◌, ⊎_elim, take}
use Rattle.std.proofs.Common.{cond}
use Rattle.graph_kinds.specs.Graph.{weight_of}
use Rattle.packed_link.specs.Layout.{Sizes, IsLayout}
use Rattle.packed_link.specs.declared.link.Life.{Life}
use Rattle.core_journal.specs.declared.event.Kind.{Kind}
use Rattle.core_journal.specs.declared.event.Kind.TheVariants.{MarkEdge, ReplaceEdge}
use Rattle.core_journal.specs.declared.event.Event.{Event}
use Rattle.core_journal.specs.Event.{replaces}
use Rattle.core_journal.specs.GraphOf.{graph_of, present_key}
use Rattle.core_journal.specs.Life.{edge_marked}
use Rattle.core_journal.specs.Prefix.{IsPrefix}
use Rattle.core_journal.proofs.FirstMarkOfLife.{first_cut_of}
use Rattle.core_kept.specs.Kept.{IsKept}
use Rattle.core_lists.specs.Replacements.{IsReplacedBy}
use Rattle.core_lists.proofs.GraphOfLives.{no_edge_no_pair, other_target_no_pair, weight_between}
use Rattle.core_lists.proofs.MarksTakeAway.{pair_cut}
use Rattle.core_stretches.specs.Moments.{LacksEdge}
use Rattle.edge_list.specs.EdgePairs.{IsPairGone}
use Rattle.edge_list.specs.EdgePositions.{IsUnmarkedEdge}
use Rattle.edge_list.specs.declared.edge.Edge.{Edge}
use Rattle.edge_list.proofs.EdgePositionsGoOn.{linked_later}

marked_else : (b : Bool) → (b ≡ false → ⊥) → b ≡ true
marked_else true not = refl
marked_else false not = absurd (not refl)

module _ (sizes : Sizes) (z : IsLayout sizes) (journal : List Event) (kept : IsKept sizes journal) where
  -- the pair of an unmarked edge has its weight
  pub has_pair : (source : Life) (edge : Edge) (a b : ℕ) → IsUnmarkedEdge source edge journal
      → present_key journal source ≡ Some a → present_key journal edge.target ≡ Some b
      → weight_of (graph_of journal) a b ≡ Some edge.weight
  has_pair source edge a b u from to = weight_between sizes z journal kept edge.life u.linked.link a b u.linked.is
      u.unmarked (ap (present_key journal) u.linked.from ∙ from) (ap (present_key journal) u.linked.to ∙ to)
      ∙ ap Some u.linked.of_weight

  -- where no edge of the source with a key is unmarked, there's no pair
  pub lacks_pair : (source : Life) (a key : ℕ) → LacksEdge source key journal → present_key journal source ≡ Some a
      → weight_of (graph_of journal) a key ≡ None
  lacks_pair source a key l from = no_edge_no_pair sizes z journal kept source a key from
      (λ x link is of_source of_key. marked_else (edge_marked journal x)
      (λ live. l.none x link is live of_source of_key))

  -- nor where the unmarked one leads to another life of the key
  pub stale_pair : (source target : Life) (edge : Edge) (a : ℕ) → IsUnmarkedEdge source edge journal
      → present_key journal source ≡ Some a → present_key journal target ≡ Some edge.key → edge.target ≢ target
      → weight_of (graph_of journal) a edge.key ≡ None
  stale_pair source target edge a u from to other = other_target_no_pair sizes z journal kept source target edge.life
      u.linked.link a edge.key from to u.linked.is u.unmarked u.linked.from u.linked.of_key
      (λ same. other (sym u.linked.to ∙ same))

  -- nor right after the mark of one that wasn't replaced
  pub pair_gone : (moment : List Event) (source : Life) (edge : Edge) → IsPrefix moment journal
      → IsUnmarkedEdge source edge moment → edge_marked journal edge.life ≡ true
      → ((new : Life) → IsReplacedBy journal edge.life new → ⊥) → IsPairGone source edge moment journal
  pair_gone moment source edge before u dead unreplaced =
      let h = first_cut_of moment journal before edge.life u.unmarked dead in
      let c = h.2 in
      let l = linked_later moment journal edge.life source edge.target edge.key edge.weight before u.linked in
      record {
        number = h.0;
        since = h.1;
        cut = c;
        gone = λ a b from to.
            let p = pair_cut sizes z journal kept edge.life h.0 l.link a b c l.is
            (ap (present_key (take h.0 journal)) l.from ∙ from) (ap (present_key (take h.0 journal)) l.to ∙ to) in
            ⊎_elim (λ (is : c.event.kind ≡ MarkEdge). p.gone is)
            (λ (is : c.event.kind ≡ ReplaceEdge). absurd (unreplaced c.event.life (record {
              number = h.0;
              event = c.event;
              at = c.at;
              kind = is;
              of_old = ap (λ (k : Kind). cond (replaces k) c.event.old c.event.life) (sym is) ∙ c.life;
              of_new = refl;
            })))
            p.kinds;
      }
