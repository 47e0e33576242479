-- Edges that are linked and not marked are linked nodes.
use Rattle.std.proofs.Common.{◌+◌, ◌≡◌, ◌≢◌, ℕ, Bool, true, false, cond, List, [], ◌∷◌, ◌++◌, Some, refl, sym, ap, ◌∙◌}
use Rattle.std.proofs.Common.{subst}
use Rattle.packed_link.specs.Layout.{Sizes, IsLayout}
use Rattle.packed_link.specs.declared.link.Life.{Life}
use Rattle.core_journal.specs.declared.event.Kind.{Kind}
use Rattle.core_journal.specs.declared.event.Kind.TheVariants.{PopFree, LinkVertex, MarkVertex, UnlinkVertex, LinkEdge}
use Rattle.core_journal.specs.declared.event.Kind.TheVariants.{MarkEdge, UnlinkEdge, FreezeHead, FreezeEdge, StoreFree}
use Rattle.core_journal.specs.declared.event.Kind.TheVariants.{PushFree, ReplaceEdge}
use Rattle.core_journal.specs.declared.event.Event.{Event}
use Rattle.core_journal.specs.Event.{same_life, links_edge, marks_edge, cuts_edge, cut_life, replaces}
use Rattle.core_journal.specs.Life.{link_of, edge_marked}
use Rattle.core_journal.specs.State.{Linked, Node, State, put, handed, opening, state_by, state}
use Rattle.core_journal.proofs.Snoc.{same_is, link_skip, link_else, cut_skip, cut_else, cut_here, own_else, own_here}
use Rattle.core_kept.specs.Kept.{IsKept}
use Rattle.core_kept.specs.Nodes.{node_in, IsUsed}
use Rattle.core_kept.proofs.ByKind.{KeepsIn, put_case, put_other, handed_case, marked_state, closed_state, all_in}
use Rattle.core_kept.proofs.LinkWords.{taken}
use Rattle.core_kept.proofs.PastLives.{this_life}
use Rattle.core_kept.proofs.ReplaceCases.{replaced_case}
use Rattle.core_kept.proofs.Named.{life_is, named}
use Rattle.core_kept.proofs.NodesInPlace.{used_there}
use Rattle.core_kept.proofs.LinkedVertices.{linked_dead}

-- a node is a linked edge, in a life
pub record IsLiveEdge (v : Node) (tag : ℕ) : Type 0 where
  pub life : tag ≡ v.tag
  pub linked : v.mode ≡ Linked
  pub edge : v.vertex ≡ false

-- an edge life that was linked and not marked is that of its node
pub record LiveEdges (journal : List Event) (s : State) : Type 0 where
  pub live : (x : Life) (link : Event) → link_of journal x ≡ Some link → edge_marked journal x ≡ false → IsLiveEdge
      (s.node x.index) x.tag

-- an unmarked edge life that is that of its node, before an event and after it
abbrev StaysEdge : List Event → State → State → Type 0
StaysEdge past s s' = (x : Life) → edge_marked past x ≡ false → IsLiveEdge (s.node x.index) x.tag → IsLiveEdge
    (s'.node x.index) x.tag

put_edge : (past : List Event) (s : State) (i : ℕ) (v : Node) →
    ((x : Life) → x.index ≡ i → edge_marked past x ≡ false → IsLiveEdge (s.node i) x.tag → IsLiveEdge v x.tag) →
    (x : Life) → edge_marked past x ≡ false → IsLiveEdge (s.node x.index) x.tag → IsLiveEdge
    (put i v s.node x.index) x.tag
put_edge past s i v new x f h = put_case (λ (u : Node). IsLiveEdge u x.tag) i v s.node x.index
    (λ same. new x same f (subst (λ (y : ℕ). IsLiveEdge (s.node y) x.tag) same h)) (λ _. h)

-- an event that links and marks no edge, where unmarked linked edges stay
edges_still : (past : List Event) (e : Event) (s s' : State) → links_edge e.kind ≡ false → cuts_edge e.kind ≡ false
    → LiveEdges past s → StaysEdge past s s' → LiveEdges (past ++ e ∷ []) s'
edges_still past e s s' l m c stays = record {
  live = λ x link h f. let g = sym (cut_skip past e m x) ∙ f in stays x g
      (c.live x link (sym (link_skip past e l x) ∙ h) g);
}

-- a linked edge that isn't marked in its life
pub unmarked_node : (sizes : Sizes) → IsLayout sizes → (past : List Event) → IsKept sizes past → (x : Life) → IsLiveEdge
    (node_in sizes past x.index) x.tag → edge_marked past x ≡ false → (node_in sizes past x.index).marked ≡ false
unmarked_node sizes z past kept x h f =
    let there = used_there sizes past x.index kept (λ m. let l = h.linked in absurd (cc)) in
    let mark = ((named sizes z past kept).each x.index there).edge_mark (subst IsUsed (sym h.linked) tt) h.edge in
    sym mark ∙ (ap (edge_marked past) (sym (life_is x x.index (node_in sizes past x.index).tag refl h.life)) ∙ f)

-- an event that marks an edge: it's another one that isn't marked then, and a frozen part is handed over
edges_cut : (sizes : Sizes) → IsLayout sizes → (past : List Event) (e : Event) → IsKept sizes past → (v : ℕ)
    → links_edge e.kind ≡ false → marks_edge e.kind ≡ true → e.life.tag ≡ (node_in sizes past e.life.index).tag
    → LiveEdges past (state sizes past)
    → LiveEdges (past ++ e ∷ []) (handed v (marked_state (state sizes past) e.life.index))
edges_cut sizes z past e kept v l m life c = record { live = λ x link h f. by x link h f (same_life x e.life) refl }
  where
    by : (x : Life) (link : Event) → link_of (past ++ e ∷ []) x ≡ Some link → edge_marked (past ++ e ∷ []) x ≡ false →
        (b : Bool) → same_life x e.life ≡ b → IsLiveEdge ((handed v (marked_state (state sizes past) e.life.index)).node
        x.index) x.tag
    by x link h f true same = let t = sym (own_here past e m) ∙
        (ap (edge_marked (past ++ e ∷ [])) (sym (same_is x e.life same)) ∙ f) in absurd (cc)
    by x link h f false same =
        let g = sym (own_else past e m x same) ∙ f in
        let old = c.live x link (sym (link_skip past e l x) ∙ h) g in
        let apart : x.index ≢ e.life.index = λ at.
        let t : x.tag ≡ e.life.tag = old.life ∙ (ap (λ (y : ℕ). (node_in sizes past y).tag) at ∙ sym life) in
        let one = this_life x e.life at t in absurd (cc) in
        let still : (marked_state (state sizes past) e.life.index).node x.index ≡ node_in sizes past x.index = put_other
        e.life.index _ (state sizes past).node x.index apart in
        handed_case (λ (u : Node). IsLiveEdge u x.tag) (marked_state (state sizes past) e.life.index) v x.index
        (subst (λ (u : Node). IsLiveEdge u x.tag) (sym still) old)
        (λ _ mark _. let no = unmarked_node sizes z past kept x old g in let yes = ap (λ (u : Node). u.marked)
        (sym still) ∙ mark in absurd (cc))

edges_step : (sizes : Sizes) → IsLayout sizes → KeepsIn sizes
    (λ (j : List Event) (s : State) (w : ℕ → ℕ). LiveEdges j s)
edges_step sizes z past e kept c PopFree is ok w a = edges_still past e (state sizes past) _ (ap links_edge is)
    (ap cuts_edge is) c (put_edge past (state sizes past) e.life.index _
    (λ x _ _ h. absurd (let m = h.linked in let f = (taken sizes z past e kept ok).free in cc)))
edges_step sizes z past e kept c PushFree is ok w a = edges_still past e (state sizes past) _ (ap links_edge is)
    (ap cuts_edge is) c (put_edge past (state sizes past) e.life.index _
    (λ x _ _ h. absurd (let m = h.linked in let f = ok.ripe.stamped.spent.spent in cc)))
edges_step sizes z past e kept c StoreFree is ok w a = edges_still past e (state sizes past) _ (ap links_edge is)
    (ap cuts_edge is) c (put_edge past (state sizes past) e.life.index _
    (λ x _ _ h. absurd (let m = h.linked in let f = ok.ripe.stamped.spent.spent in cc)))
edges_step sizes z past e kept c LinkVertex is ok w a = edges_still past e (state sizes past) _ (ap links_edge is)
    (ap cuts_edge is) c (put_edge past (state sizes past) e.life.index _
    (λ x _ _ h. absurd (let m = h.linked in let f = ok.fresh.fresh in cc)))
edges_step sizes z past e kept c MarkVertex is ok w a = edges_still past e (state sizes past) _ (ap links_edge is)
    (ap cuts_edge is) c (put_edge past (state sizes past) e.life.index _
    (λ x _ _ h. absurd (let m = h.edge in let f = ok.linked.vertex in cc)))
edges_step sizes z past e kept c UnlinkVertex is ok w a = edges_still past e (state sizes past) _ (ap links_edge is)
    (ap cuts_edge is) c (put_edge past (state sizes past) e.life.index _
    (λ x _ _ h. absurd (let m = h.edge in let f = ok.linked.vertex in cc)))
edges_step sizes z past e kept c UnlinkEdge is ok w a = edges_still past e (state sizes past) _ (ap links_edge is)
    (ap cuts_edge is) c
    (put_edge past (state sizes past) e.life.index _ (λ x at f h.
    let yes = linked_dead sizes z past kept e.life.index ok.there ok.linked.linked ok.dead in
    let here : IsLiveEdge (node_in sizes past x.index) x.tag = subst
    (λ (y : ℕ). IsLiveEdge (node_in sizes past y) x.tag) (sym at) h in
    let no : (node_in sizes past e.life.index).marked ≡ false = ap (λ (y : ℕ). (node_in sizes past y).marked) (sym at)
    ∙ unmarked_node sizes z past kept x here f in
    absurd (cc)))
edges_step sizes z past e kept c FreezeHead is ok w a = edges_still past e (state sizes past) _ (ap links_edge is)
    (ap cuts_edge is) c
    (λ x f h. handed_case (λ (u : Node). IsLiveEdge u x.tag) (closed_state (state sizes past) e.life.index) e.life.index
    x.index h
    (λ _ yes _. let no = unmarked_node sizes z past kept x h f in absurd (cc)))
edges_step sizes z past e kept c ReplaceEdge is ok w a = record
    { live = λ x link h f. by x link h f (same_life x e.life) (same_life x e.old) refl refl }
  where
    which : cut_life e ≡ e.old
    which = ap (λ (k : Kind). cond (replaces k) e.old e.life) is

    by : (x : Life) (link : Event) → link_of (past ++ e ∷ []) x ≡ Some link → edge_marked (past ++ e ∷ []) x ≡ false →
        (b c : Bool) → same_life x e.life ≡ b → same_life x e.old ≡ c
        → IsLiveEdge ((state_by ReplaceEdge sizes e (state sizes past)).node x.index) x.tag
    by x link h f true c same old =
        let one = same_is x e.life same in
        let at : x.index ≡ e.life.index = ap (λ (y : Life). y.index) one in
        replaced_case sizes z past e kept ok (λ (u : Node). IsLiveEdge u x.tag) x.index
        (λ _. record { life = ap (λ (y : Life). y.tag) one ∙ ok.life; linked = refl; edge = refl })
        (λ ne. absurd (ne at)) (λ ne. absurd (ne at))
    by x link h f false true same old =
        let t = sym (cut_here past e (ap cuts_edge is)) ∙ (ap (edge_marked (past ++ e ∷ []))
        (which ∙ sym (same_is x e.old old)) ∙ f) in absurd (cc)
    by x link h f false false same old =
        let g = sym (cut_else past e x (ap (same_life x) which ∙ old)) ∙ f in
        let was = c.live x link (sym (link_else past e x same) ∙ h) g in
        let not_new : x.index ≢ e.life.index = λ at. let m = sym (ap (λ (y : ℕ). (node_in sizes past y).mode) at)
        ∙ was.linked in let o = ok.fresh.fresh in absurd (cc) in
        let not_old : x.index ≢ e.old.index = λ at.
        let t : x.tag ≡ e.old.tag = was.life ∙ (ap (λ (y : ℕ). (node_in sizes past y).tag) at ∙ sym ok.old_life) in
        let one = this_life x e.old at t in absurd (cc) in
        let still : (marked_state (state sizes past) e.old.index).node x.index ≡ node_in sizes past x.index = put_other
        e.old.index _ (state sizes past).node x.index not_old in
        replaced_case sizes z past e kept ok (λ (u : Node). IsLiveEdge u x.tag) x.index
        (λ at. absurd (not_new at))
        (λ _. subst (λ (u : Node). IsLiveEdge u x.tag) (sym still) was)
        (λ _ _ mark _. let no = unmarked_node sizes z past kept x was g in let yes = ap (λ (u : Node). u.marked)
        (sym still) ∙ mark in absurd (cc))
edges_step sizes z past e kept c MarkEdge is ok w a = edges_cut sizes z past e kept
    (node_in sizes past e.life.index).source.index (ap links_edge is) (ap marks_edge is) ok.life c
edges_step sizes z past e kept c FreezeEdge is ok w a = edges_cut sizes z past e kept
    (node_in sizes past e.life.index).source.index (ap links_edge is) (ap marks_edge is) ok.life c
edges_step sizes z past e kept c LinkEdge is ok w a = record {
  live = λ x link h f. by x link h (sym (cut_skip past e (ap cuts_edge is) x) ∙ f) (same_life x e.life) refl;
}
  where
    v : Node
    v = record (node_in sizes past e.life.index) {
      mode = Linked;
      vertex = false;
      key = e.key;
      source = e.source;
      target
          = e.target;
      weight = e.weight;
      since = (state sizes past).count + 1;
    }

    by : (x : Life) (link : Event) → link_of (past ++ e ∷ []) x ≡ Some link → edge_marked past x ≡ false → (b : Bool)
        → same_life x e.life ≡ b → IsLiveEdge (put e.life.index v (state sizes past).node x.index) x.tag
    by x link h f true same = let one = same_is x e.life same in put_case
        (λ (u : Node). IsLiveEdge u x.tag) e.life.index v (state sizes past).node x.index
        (λ _. record { life = ap (λ (y : Life). y.tag) one ∙ ok.life; linked = refl; edge = refl })
        (λ ne. absurd (ne (ap (λ (y : Life). y.index) one)))
    by x link h f false same = put_edge past (state sizes past) e.life.index v
        (λ y _ _ g. absurd (let m = g.linked in let o = ok.fresh.fresh in cc)) x f
        (c.live x link (sym (link_else past e x same) ∙ h) f)
edges_step sizes z past e kept c _ is ok w a = edges_still past e (state sizes past) _ (ap links_edge is)
    (ap cuts_edge is) c (λ x f h. h)

no_edges : (sizes : Sizes) → LiveEdges [] (opening sizes)
unfolding link_of
no_edges sizes = record { live = λ x link h f. absurd (cc) }

-- edge lives after each kept journal
pub live_edges : (sizes : Sizes) → IsLayout sizes → (journal : List Event) → IsKept sizes journal → LiveEdges journal
    (state sizes journal)
live_edges sizes z journal kept = all_in sizes (λ (j : List Event) (s : State) (w : ℕ → ℕ). LiveEdges j s)
    (edges_step sizes z) (no_edges sizes) journal kept
