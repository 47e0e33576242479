-- What each node is where none is free, and a caller has swept and has no node.
use Rattle.std.proofs.Common.{◌≡◌, ◌≢◌, ◌⊎◌, ℕ, ◌<◌, Bool, true, false, not, ◌&&◌, List, refl, sym, ap, ap₂, ◌∙◌, subst}
use Rattle.std.proofs.Common.{inl, inr, ⊎_elim, eq-eqb}
use Rattle.packed_link.specs.Layout.{Sizes, IsLayout}
use Rattle.core_journal.specs.declared.event.Event.{Event}
use Rattle.core_journal.specs.State.{Mode, Free, Fresh, Linked, Spent, State, is_linked, state}
use Rattle.core_kept.specs.Kept.{IsKept}
use Rattle.core_kept.specs.Nodes.{node_in, IsUsed, IsFreshWith, IsSpentWith, IsLinkedEdge, IsLinkedVertex}
use Rattle.core_lists.proofs.ListHoldsKept.{sources}
use Rattle.core_counts.specs.Nodes.{is_key, is_key_life, is_pair}
use Rattle.core_counts.specs.Swept.{IsSwept, IsAnothers, IsOfGraphOr}

key_flags : (m : Mode) (v d : Bool) → m ≡ Linked → v ≡ true → d ≡ false → (is_linked m && (v && not d)) ≡ true
key_flags m v d a b c = ap₂ (λ (p : Mode) (q : Bool). is_linked p && (q && not d)) a b ∙ ap not c

pair_flags : (m : Mode) (v d c e : Bool) → m ≡ Linked → v ≡ false → d ≡ false → c ≡ true → e ≡ true →
    ((is_linked m && (not v && not d)) && (c && e)) ≡ true
pair_flags m v d c e a b f g h = ap₂ (λ (p q : Bool). p && q)
    (ap₂ (λ (p : Mode) (q : Bool). is_linked p && (not q && not d)) a b ∙ ap not f) (ap₂ (λ (p q : Bool). p && q) g h)

module _ (sizes : Sizes) (z : IsLayout sizes) (journal : List Event) (kept : IsKept sizes journal) (caller : ℕ)
    (none : (x : ℕ) → x < sizes.nodes → (node_in sizes journal x).mode ≢ Free)
    (fresh : (x : ℕ) → IsFreshWith sizes journal caller x → ⊥)
    (spent : (x : ℕ) → IsSpentWith sizes journal caller x → ⊥)
    (swept : IsSwept sizes journal) where
  abbrev s : State
  s = state sizes journal

  vertex_node : (x : ℕ) → x < sizes.nodes → IsLinkedVertex sizes journal x → is_key (s.node x) ≡ true
  vertex_node x t v = key_flags (s.node x).mode (s.node x).vertex (s.node x).marked v.linked v.vertex
      (swept.vertices x t v)

  edge_node : (x : ℕ) → x < sizes.nodes → IsLinkedEdge sizes journal x → IsOfGraphOr sizes journal caller x
  edge_node x t e = by (s.node (s.node x).source.index).mode refl
    where
      by : (m : Mode) → (s.node (s.node x).source.index).mode ≡ m → IsOfGraphOr sizes journal caller x
      by Linked m =
          let at = (sources sizes z journal kept).each x t e in
          let g = swept.edges x t e m in
          let key = vertex_node (s.node x).source.index at.list.there
          (record { linked = m; vertex = at.list.vertex }) in
          let source : is_key_life s (s.node x).source ≡ true = ap₂ (λ (p q : Bool). p && q) key
          (eq-eqb (s.node (s.node x).source.index).tag (s.node x).source.tag (sym at.life)) in
          inl (inr (pair_flags (s.node x).mode (s.node x).vertex (s.node x).marked _ _ e.linked e.edge g.0 source g.1))
      by Spent m =
          let at = (sources sizes z journal kept).each x t e in
          inr record {
            other = (s.node (s.node x).source.index).who;
            apart = λ h. spent (s.node x).source.index (record { spent = m; mine = h });
            how = inr (e, record { spent = m; vertex = at.list.vertex; mine = refl });
          }
      by Free m = let at = (sources sizes z journal kept).each x t e in absurd (subst IsUsed m at.list.used)
      by Fresh m = let at = (sources sizes z journal kept).each x t e in absurd (subst IsUsed m at.list.used)

  pub each_is : (x : ℕ) → x < sizes.nodes → IsOfGraphOr sizes journal caller x
  each_is x t = by (s.node x).mode refl (s.node x).vertex refl
    where
      by : (m : Mode) → (s.node x).mode ≡ m → (v : Bool) → (s.node x).vertex ≡ v → IsOfGraphOr sizes journal caller x
      by Free m v i = absurd (none x t m)
      by Fresh m v i = inr record {
        other = (s.node x).who;
        apart = λ h. fresh x
            (record { fresh = m; mine = h });
        how = inl (inl record { fresh = m; mine = refl });
      }
      by Spent m v i = inr record {
        other = (s.node x).who;
        apart = λ h. spent x
            (record { spent = m; mine = h });
        how = inl (inr record { spent = m; mine = refl });
      }
      by Linked m true i = inl (inl (vertex_node x t (record { linked = m; vertex = i })))
      by Linked m false i = edge_node x t (record { linked = m; edge = i })

  -- where no other caller has anything, each node is of the graph
  pub all_swept : ((other x : ℕ) → other ≢ caller → IsFreshWith sizes journal other x → ⊥) →
      ((other x : ℕ) → other ≢ caller → IsSpentWith sizes journal other x → ⊥) → (x : ℕ) → x < sizes.nodes →
      (is_key (s.node x) ≡ true) ⊎ (is_pair s (s.node x) ≡ true)
  all_swept no_fresh no_spent x t = ⊎_elim (λ (g : (is_key (s.node x) ≡ true) ⊎ (is_pair s (s.node x) ≡ true)). g)
      (λ (a : IsAnothers sizes journal caller x). ⊎_elim
      (λ (h : IsFreshWith sizes journal a.other x ⊎ IsSpentWith sizes journal a.other x). ⊎_elim
      (λ (f : IsFreshWith sizes journal a.other x). absurd (no_fresh a.other x a.apart f))
      (λ (f : IsSpentWith sizes journal a.other x). absurd (no_spent a.other x a.apart f)) h)
      (λ (h : IsLinkedEdge sizes journal x × _). absurd (no_spent a.other (node_in sizes journal x).source.index a.apart
      (record { spent = h.1.spent; mine = h.1.mine }))) a.how)
      (each_is x t)
