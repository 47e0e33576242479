-- A vertex that a sweep has gone through stays clean.
use Rattle.std.proofs.Common.{◌≡◌, ◌≢◌, ℕ, ◌<◌, false, List, [], ◌∷◌, ◌++◌, refl, sym, subst}
use Rattle.packed_link.specs.Layout.{Sizes, IsLayout}
use Rattle.core_journal.specs.declared.event.Kind.{Kind}
use Rattle.core_journal.specs.declared.event.Kind.TheVariants.{PopFree, LinkVertex, MarkVertex, UnlinkVertex, LinkEdge}
use Rattle.core_journal.specs.declared.event.Kind.TheVariants.{MarkEdge, UnlinkEdge, FreezeHead, FreezeEdge, StoreFree}
use Rattle.core_journal.specs.declared.event.Kind.TheVariants.{PushFree, ReplaceEdge}
use Rattle.core_journal.specs.declared.event.Event.{Event}
use Rattle.core_journal.specs.State.{Fresh, Node, State, put, handed, state_by, state}
use Rattle.core_journal.proofs.States.{state-snoc}
use Rattle.core_kept.specs.Kept.{Allowed, AllowedAs, IsKept}
use Rattle.core_kept.specs.Nodes.{node_in}
use Rattle.core_kept.proofs.ByKind.{put_case, handed_case, marked_state, closed_state}
use Rattle.core_kept.proofs.LinkWords.{link_words}
use Rattle.core_kept.proofs.ReplaceCases.{replaced_case}
use Rattle.core_counts.specs.Swept.{IsCleanVertex}

clean_put : (s : State) (i : ℕ) (v : Node) (x : ℕ) → (x ≡ i → IsCleanVertex (s.node i) → IsCleanVertex v)
    → IsCleanVertex (s.node x) → IsCleanVertex (put i v s.node x)
clean_put s i v x new c = put_case IsCleanVertex i v s.node x
    (λ same. new same (subst (λ (y : ℕ). IsCleanVertex (s.node y)) same c)) (λ _. c)

clean_handed : (s : State) (v x : ℕ) → IsCleanVertex (s.node x) → IsCleanVertex ((handed v s).node x)
clean_handed s v x c = handed_case IsCleanVertex s v x c (λ _ _ _ m. absurd (cc))

module _ (sizes : Sizes) (z : IsLayout sizes) (past : List Event) (e : Event) (kept : IsKept sizes past) where
  abbrev s : State
  s = state sizes past

  -- a node that is linked next isn't marked
  fresh_unmarked : e.life.index < sizes.nodes → (s.node e.life.index).mode ≡ Fresh →
      (s.node e.life.index).marked ≡ false
  fresh_unmarked t f = (((link_words sizes z past kept).each e.life.index t).unmarked f).0

  edge_mark : (x : ℕ) → (s.node e.life.index).vertex ≡ false → IsCleanVertex (s.node x) → IsCleanVertex
      ((marked_state s e.life.index).node x)
  edge_mark x v c = clean_put s e.life.index _ x (λ _ _ m u. absurd (cc)) c

  clean_by : (k : Kind) → AllowedAs k sizes past e → (x : ℕ) → (k ≡ MarkVertex → e.life.index ≢ x) → IsCleanVertex
      (s.node x) → IsCleanVertex ((state_by k sizes e s).node x)
  clean_by PopFree ok x n c = clean_put s e.life.index _ x (λ _ _ m. absurd (cc)) c
  clean_by LinkVertex ok x n c = clean_put s e.life.index _ x (λ _ _ m u. fresh_unmarked ok.there ok.fresh.fresh) c
  clean_by LinkEdge ok x n c = clean_put s e.life.index _ x (λ _ _ m u. absurd (cc)) c
  clean_by MarkVertex ok x n c = clean_put s e.life.index _ x (λ same _ m u. absurd (n refl (sym same))) c
  clean_by UnlinkVertex ok x n c = clean_put s e.life.index _ x (λ _ _ m. absurd (cc)) c
  clean_by UnlinkEdge ok x n c = clean_put s e.life.index _ x (λ _ _ m. absurd (cc)) c
  clean_by StoreFree ok x n c = clean_put s e.life.index _ x (λ _ d. d) c
  clean_by PushFree ok x n c = clean_put s e.life.index _ x (λ _ _ m. absurd (cc)) c
  clean_by MarkEdge ok x n c = clean_handed (marked_state s e.life.index) (s.node e.life.index).source.index x
      (edge_mark x ok.linked.edge c)
  clean_by FreezeEdge ok x n c = clean_handed (marked_state s e.life.index) (s.node e.life.index).source.index x
      (edge_mark x ok.linked.edge c)
  clean_by FreezeHead ok x n c = clean_handed (closed_state s e.life.index) e.life.index x c
  clean_by ReplaceEdge ok x n c = replaced_case sizes z past e kept ok IsCleanVertex x (λ _ m u. absurd (cc))
      (λ _. clean_put s e.old.index _ x (λ _ _ m u. let w = ok.linked.edge in absurd (cc)) c) (λ _ _ _ _ m. absurd (cc))
  clean_by _ ok x n c = c

  pub clean_stays : Allowed sizes past e → (x : ℕ) → (e.kind ≡ MarkVertex → e.life.index ≢ x) → IsCleanVertex
      (node_in sizes past x) → IsCleanVertex (node_in sizes (past ++ e ∷ []) x)
  clean_stays ok x n c = subst (λ (t : State). IsCleanVertex (t.node x)) (sym (state-snoc sizes past e))
      (clean_by e.kind ok.as_kind x n c)
