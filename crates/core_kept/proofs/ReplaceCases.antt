-- A node after an edge is replaced: the new edge's, or one that is as after a mark of the old edge.
use Rattle.std.proofs.Common.{◌≡◌, ◌≢◌, ℕ, ◌+◌, List, [], ◌∷◌, ◌++◌, true, false, refl, sym, ap, ◌∙◌, subst, arith}
use Rattle.packed_link.specs.Layout.{Sizes, IsLayout}
use mathlib.Core.Logic.{dite}
use native.Mathlib.Decide.{ℕ_discrete}
use Rattle.core_journal.specs.declared.event.Event.{Event}
use Rattle.core_journal.specs.declared.event.Kind.{Kind}
use Rattle.packed_link.specs.Link.{index_of, mark_of, tag_of}
use Rattle.packed_link.proofs.Links.{index_of-pack, mark_of-pack}
use Rattle.core_journal.specs.Machine.{word_at}
use Rattle.core_journal.proofs.States.{state-snoc}
use Rattle.core_journal.specs.declared.event.Kind.TheVariants.{ReplaceEdge}
use Rattle.core_journal.specs.State.{Linked, Spent, Node, State, joined_edge, frozen_part, state_by, state}
use Rattle.std.specs.List.{list_any}
use Rattle.std.proofs.Common.{◌==◌}
use Rattle.core_kept.specs.Kept.{IsKept}
use Rattle.core_kept.specs.Nodes.{node_in}
use Rattle.core_kept.specs.Edges.{IsReplaceEdge}
use Rattle.core_kept.proofs.LinkWords.{link_words}
use Rattle.core_kept.proofs.ByKind.{put_case, put_same, put_other, handed_case, marked_state}
use Rattle.core_kept.proofs.Replaced.{old_apart, old_joined}

-- the node of the new edge
abbrev pub new_edge_node : Node → Event → ℕ → Node
new_edge_node v e count = record v {
  mode = Linked;
  vertex = false;
  key = e.key;
  source = e.source;
  target = e.target;
  weight = e.weight;
  since = count + 1;
}

module _ (sizes : Sizes) (z : IsLayout sizes) (past : List Event) (e : Event) (kept : IsKept sizes past)
    (ok : IsReplaceEdge sizes past e) where
  -- a fresh node is unmarked
  pub new_unmarked : (node_in sizes past e.life.index).marked ≡ false
  new_unmarked = (((link_words sizes z past kept).each e.life.index ok.there).unmarked ok.fresh.fresh).0

  -- another node than the new edge's, before the frozen part is handed over, is as after a mark of the old edge
  pub else_marked : (x : ℕ) → x ≢ e.life.index
      → (marked_state (joined_edge sizes e (state sizes past)) e.old.index).node x ≡
      (marked_state (state sizes past) e.old.index).node x
  else_marked x ne =
      let s : State = state sizes past in
      let j : State = joined_edge sizes e s in
      let v = new_edge_node (s.node e.life.index) e s.count in
      put_case (λ (u : Node). u ≡ (marked_state s e.old.index).node x) e.old.index
      (record (j.node e.old.index) { marked = true }) j.node x
      (λ same. subst (λ (i : ℕ). record (j.node e.old.index) { marked = true } ≡ (marked_state s e.old.index).node i)
      (sym same)
      (ap (λ (n : Node). record n { marked = true }) (old_joined sizes past e ok) ∙ sym
      (put_same e.old.index (record (s.node e.old.index) { marked = true }) s.node)))
      (λ other. put_other e.life.index v s.node x ne ∙ sym (put_other e.old.index
      (record (s.node e.old.index) { marked = true }) s.node x other))

  -- by cases on what a node is after the event
  pub replaced_case : (P : Node → Type 0) (x : ℕ)
      → (x ≡ e.life.index → P (new_edge_node (node_in sizes past e.life.index) e (state sizes past).count))
      → (x ≢ e.life.index → P ((marked_state (state sizes past) e.old.index).node x))
      → (x ≢ e.life.index → ((marked_state (state sizes past) e.old.index).node x).mode ≡ Linked
      → ((marked_state (state sizes past) e.old.index).node x).marked ≡ true
      → list_any (λ z. z == x) (frozen_part (marked_state (joined_edge sizes e (state sizes past)) e.old.index)
      ((joined_edge sizes e (state sizes past)).node e.old.index).source.index) ≡ true
      → P (record ((marked_state (state sizes past) e.old.index).node x) {
        mode = Spent;
        who = ((marked_state (joined_edge sizes e (state sizes past)) e.old.index).node
            ((joined_edge sizes e (state sizes past)).node e.old.index).source.index).who;
        ended = (state sizes past).count + 1;
        epoch = (state sizes past).epoch;
      }))
      → P ((state_by ReplaceEdge sizes e (state sizes past)).node x)
  replaced_case P x new same given =
      let s : State = state sizes past in
      let j : State = joined_edge sizes e s in
      let v = new_edge_node (s.node e.life.index) e s.count in
      let t : State = marked_state j e.old.index in
      let at_new : x ≡ e.life.index → t.node x ≡ v = λ is. ap t.node is
      ∙ (put_other e.old.index (record (j.node e.old.index) { marked = true }) j.node e.life.index
      (λ h. old_apart sizes past e ok (sym h))
      ∙ put_same e.life.index v s.node) in
      dite (ℕ_discrete x e.life.index)
      (λ is. handed_case P t (j.node e.old.index).source.index x (subst P (sym (at_new is)) (new is))
      (λ _ marked _. let f = ap (λ (n : Node). n.marked) (sym (at_new is)) in let g : v.marked ≡ true = ap
      (λ (n : Node). n.marked) (sym (at_new is)) ∙ marked in let u : v.marked ≡ false = new_unmarked in absurd
      (cc)))
      (λ ne. handed_case P t (j.node e.old.index).source.index x (subst P (sym (else_marked x ne)) (same ne))
      (λ m marked part. subst (λ (n : Node). P (record n {
        mode = Spent;
        who =
            (t.node (j.node e.old.index).source.index).who;
        ended = s.count + 1;
        epoch = s.epoch;
      }))
      (sym (else_marked x ne))
      (given ne (ap (λ (n : Node). n.mode) (sym (else_marked x ne)) ∙ m)
      (ap (λ (n : Node). n.marked) (sym (else_marked x ne)) ∙ marked) part)))

  -- the word that is written leads to the new edge's node
  pub leads_new : index_of e.word ≡ e.life.index
  leads_new = ap index_of ok.word ∙ index_of-pack e.life.index 1 (tag_of (word_at sizes past e.place))
      (omega (arith, ok.there, z.few_nodes))

  -- and is marked
  pub marks_old : mark_of e.word ≡ 1
  marks_old = ap mark_of ok.word ∙ mark_of-pack e.life.index 1 (tag_of (word_at sizes past e.place))
      (omega (arith, ok.there, z.few_nodes)) (omega arith)

  -- that node after the event
  pub new_after : e.kind ≡ ReplaceEdge → node_in sizes (past ++ e ∷ []) e.life.index ≡ new_edge_node
      (node_in sizes past e.life.index) e (state sizes past).count
  new_after is =
      let v = new_edge_node (node_in sizes past e.life.index) e (state sizes past).count in
      ap (λ (s : State). s.node e.life.index) (state-snoc sizes past e)
      ∙ subst (λ (k : Kind). (state_by k sizes e (state sizes past)).node e.life.index ≡ v) (sym is)
      (replaced_case (λ (u : Node). u ≡ v) e.life.index (λ _. refl) (λ ne. absurd (ne refl)) (λ ne. absurd (ne refl)))
