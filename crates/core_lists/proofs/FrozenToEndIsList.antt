-- A list is one still after it's frozen to its end, while no edge of its vertex's life is stored for the free list.
use Rattle.std.proofs.Common.{◌≡◌, ◌≢◌, ◌⊎◌, ◌↔◌, ℕ, ◌<◌, Bool, true, false, List, [], ◌∷◌, ◌++◌, Some, None, refl, sym}
use Rattle.std.proofs.Common.{ap, ◌∙◌, subst, arith, ⊎_elim, inl, inr}
use mathlib.Core.Logic.{dite}
use native.Mathlib.Decide.{ℕ_discrete}
use Rattle.graph_kinds.specs.Levels.{stands_in}
use Rattle.packed_link.specs.Link.{nowhere, index_of, mark_of}
use Rattle.packed_link.specs.Layout.{Sizes, IsLayout, second_at}
use Rattle.packed_link.specs.declared.link.Life.{Life}
use Rattle.core_chain.specs.Met.{IsMet}
use Rattle.core_chain.proofs.Meets.{IsMet-from_Meets}
use Rattle.core_journal.specs.declared.event.Kind.{Kind}
use Rattle.core_journal.specs.declared.event.Kind.TheVariants.{PopFree, LinkVertex, MarkVertex, UnlinkVertex, LinkEdge}
use Rattle.core_journal.specs.declared.event.Kind.TheVariants.{MarkEdge, UnlinkEdge, FreezeHead, FreezeEdge, StoreFree}
use Rattle.core_journal.specs.declared.event.Kind.TheVariants.{PushFree, ReplaceEdge}
use Rattle.core_journal.specs.declared.event.Event.{Event}
use Rattle.core_journal.specs.Event.{same_life, links_edge, unlinks}
use Rattle.core_journal.specs.Life.{link_of, unlinked}
use Rattle.core_journal.specs.Machine.{word_at}
use Rattle.core_journal.specs.State.{Free, Fresh, Linked, Spent, Node, State, put, handed, joined_edge, state_by, state}
use Rattle.core_journal.proofs.KeptLives.{link_more}
use Rattle.core_journal.proofs.Snoc.{same_is, same_self}
use Rattle.core_kept.specs.Kept.{AllowedAs, IsKept}
use Rattle.core_kept.specs.Nodes.{node_in, IsUsed, is_listed}
use Rattle.core_kept.specs.Freezing.{IsFrozenWord}
use Rattle.core_lists.specs.Chains.{list_word, edge_chain, life_in, HasList, IsEdgeOf, IsInList, KeepsList}
use Rattle.core_kept.proofs.ByKind.{IsAfter, KeepsIn, put_case, put_same, put_other, handed_case, marked_state}
use Rattle.core_kept.proofs.ByKind.{since_still}
use Rattle.core_kept.proofs.ByKind.{closed_state, all_in}
use Rattle.core_kept.proofs.LinkWords.{link_words, taken}
use Rattle.core_kept.proofs.Contents.{contents}
use Rattle.core_kept.proofs.PastLives.{same_tag}
use Rattle.core_kept.proofs.MarkedWords.{stored_before}
use Rattle.core_kept.proofs.Named.{life_is, named, link_first}
use Rattle.core_kept.proofs.EdgeEnds.{new_edge}
use Rattle.core_kept.proofs.ReplaceCases.{new_edge_node, replaced_case}
use Rattle.core_kept.proofs.LinkedVertices.{unlinked_skip, unlinked_other, life_of}
use Rattle.core_kept.proofs.NodesInPlace.{used_there}
use Rattle.core_kept.proofs.NodesOnLists.{IsWordOf, unlinked_was, linked_was, linked_none, yes_no}
use Rattle.core_lists.proofs.ListHolds.{IsFinished, open_mode}
use Rattle.core_lists.proofs.ListHoldsKept.{listing, link_only, link_joins, replace_joins, not_closed, IsOpenIn}
use Rattle.core_lists.proofs.ListHoldsKept.{has_open}
use Rattle.core_lists.proofs.ListingsBehindSteps.{joins_unfinished, popped_was}
use Rattle.core_lists.proofs.ListChains.{IsList, IsOff, IsLinkedStill, lists, list_after, untouched, stays}
use Rattle.core_lists.proofs.ListChains.{idle_stays, off_link, same_link, off_unlink, same_unlink, off_mark, off_close}
use Rattle.core_lists.proofs.LivesOnLists.{still_life, not_cut, of_edge, StandsAll, stands_after, all_edges}
use Rattle.core_lists.proofs.FrozenPart.{frozen_end}
use Rattle.core_lists.proofs.ClosedHeadStays.{finished_or}

-- a life was linked as an edge of a life
record IsLinkedTo (journal : List Event) (source l : Life) : Type 0 where
  pub link : Event
  pub is : link_of journal l ≡ Some link
  pub from : link.source ≡ source

-- what stands on a list was linked as an edge of its vertex's life, given back or not
record OfLists (journal : List Event) (s : State) : Type 0 where
  pub on : (x y : ℕ) → stands_in (s.edges x) y ≡ true → IsLinkedTo journal (life_of x (s.node x)) (life_of y (s.node y))

of_more : (past : List Event) (e : Event) (source l : Life) → IsLinkedTo past source l → IsLinkedTo
    (past ++ e ∷ []) source l
of_more past e source l h = record { link = h.link; is = link_more past (e ∷ []) l h.link h.is; from = h.from }

-- an event that changes no life and adds to no list
of_still : (past : List Event) (e : Event) (s s' : State) → ((x : ℕ) → life_of x (s'.node x) ≡ life_of x (s.node x)) →
    ((x y : ℕ) → stands_in (s'.edges x) y ≡ true → stands_in (s.edges x) y ≡ true) → OfLists past s → OfLists
    (past ++ e ∷ []) s'
of_still past e s s' same less c = record {
  on = λ x y h. subst (λ (l : Life). IsLinkedTo (past ++ e ∷ []) l (life_of y (s'.node y))) (sym (same x))
      (subst (IsLinkedTo (past ++ e ∷ []) (life_of x (s.node x))) (sym (same y))
      (of_more past e _ _ (c.on x y (less x y h))));
}

of_lists_step : (sizes : Sizes) → IsLayout sizes → KeepsIn sizes
    (λ (j : List Event) (s : State) (w : ℕ → ℕ). OfLists j s)
of_lists_step sizes z past e kept c PopFree is ok w a = record {
  on = λ x y h.
      let s : State = state sizes past in
      let v : Node = record (s.node e.life.index) {
        mode = Fresh;
        who = e.caller;
        tag = e.life.tag;
        marked = false;
        stored = false;
      } in
      let r = popped_was sizes s.node s.edges s.frozen (listing sizes z past kept) e.life.index v
      (taken sizes z past e kept ok).free refl x y h in
      subst (λ (n : Node). IsLinkedTo (past ++ e ∷ []) (life_of x n) (life_of y (put e.life.index v s.node y)))
      (sym (put_other e.life.index v s.node x r.0))
      (subst (λ (n : Node). IsLinkedTo (past ++ e ∷ []) (life_of x (s.node x)) (life_of y n))
      (sym (put_other e.life.index v s.node y r.2)) (of_more past e _ _ (c.on x y r.1)));
}
of_lists_step sizes z past e kept c ReplaceEdge is ok w a = record {
  on = λ x y h.
      let s : State = state sizes past in
      let s' : State = state_by ReplaceEdge sizes e s in
      let j = replace_joins sizes z past e kept (listing sizes z past kept) ok in
      subst (λ (l : Life). IsLinkedTo (past ++ e ∷ []) l (life_of y (s'.node y)))
      (sym (still_life ReplaceEdge tt sizes e s x)) (subst (IsLinkedTo (past ++ e ∷ []) (life_of x (s.node x)))
      (sym (still_life ReplaceEdge tt sizes e s y)) (⊎_elim
      (λ (t : stands_in (s.edges x) y ≡ true). of_more past e _ _ (c.on x y t))
      (λ (t : (y ≡ e.life.index) × IsWordOf sizes (second_at sizes x) e.place (s.edges x)).
      let home : x ≡ e.source.index = j.only x t.1 in
      let this : life_of y (s.node y) ≡ e.life = sym (life_is e.life y (s.node y).tag (sym t.0)
      (ok.life ∙ ap (λ (i : ℕ). (s.node i).tag) (sym t.0))) in
      let source : e.source ≡ life_of x (s.node x) = life_is e.source x (s.node x).tag (sym home)
      (j.life ∙ ap (λ (i : ℕ). (s.node i).tag) (sym home)) in
      let new : link_of past e.life ≡ None = ap (link_of past)
      (life_is e.life e.life.index (s.node e.life.index).tag refl ok.life) ∙
      (((named sizes z past kept).each e.life.index ok.there).new ok.fresh.fresh).link in
      record {
        link = e;
        is = ap (link_of (past ++ e ∷ [])) this ∙ link_first past e e.life new (ap links_edge is)
            (same_self e.life);
        from = source;
      })
      (linked_was sizes (second_at sizes x) e.place e.life.index y (s.edges x) h)));
}
of_lists_step sizes z past e kept c LinkEdge is ok w a = record {
  on = λ x y h.
      let s : State = state sizes past in
      let s' : State = state_by LinkEdge sizes e s in
      subst (λ (l : Life). IsLinkedTo (past ++ e ∷ []) l (life_of y (s'.node y)))
      (sym (still_life LinkEdge tt sizes e s x)) (subst (IsLinkedTo (past ++ e ∷ []) (life_of x (s.node x)))
      (sym (still_life LinkEdge tt sizes e s y)) (⊎_elim
      (λ (t : stands_in (s.edges x) y ≡ true). of_more past e _ _ (c.on x y t))
      (λ (t : (y ≡ e.life.index) × _).
      let home : x ≡ e.source.index = link_only sizes z past e kept (listing sizes z past kept) ok x t.1 in
      let this : life_of y (s.node y) ≡ e.life = sym (life_is e.life y (s.node y).tag (sym t.0)
      (ok.life ∙ ap (λ (i : ℕ). (s.node i).tag) (sym t.0))) in
      let source : e.source ≡ life_of x (s.node x) = life_is e.source x (s.node x).tag (sym home)
      (ok.source.life ∙ ap (λ (i : ℕ). (s.node i).tag) (sym home)) in
      record {
        link = e;
        is = ap (link_of (past ++ e ∷ [])) this ∙ link_first past e e.life
            (new_edge sizes z past e kept is ok).new (ap links_edge is) (same_self e.life);
        from = source;
      })
      (linked_was sizes (second_at sizes x) e.place e.life.index y (s.edges x) h)));
}
of_lists_step sizes z past e kept c UnlinkEdge is ok w a = of_still past e (state sizes past)
    (state_by UnlinkEdge sizes e (state sizes past)) (still_life UnlinkEdge tt sizes e (state sizes past))
    (λ x y h. (unlinked_was e.life.index y ((state sizes past).edges x) h).0) c
of_lists_step sizes z past e kept c k is ok w a = of_still past e (state sizes past)
    (state_by k sizes e (state sizes past)) (still_life k tt sizes e (state sizes past)) (λ x y h. h) c

of_lists : (sizes : Sizes) → IsLayout sizes → (journal : List Event) → IsKept sizes journal → OfLists journal
    (state sizes journal)
of_lists sizes z journal kept = all_in sizes (λ (j : List Event) (s : State) (w : ℕ → ℕ). OfLists j s)
    (of_lists_step sizes z) (record { on = λ x y h. absurd (cc) }) journal kept

-- what stands on a list is an edge of its vertex's life that wasn't unlinked
pub edge_on : (sizes : Sizes) → IsLayout sizes → (journal : List Event) → IsKept sizes journal → (x y : ℕ) → is_listed
    (state sizes journal) x y ≡ true → IsEdgeOf journal (life_in sizes journal x) (life_in sizes journal y)
edge_on sizes z journal kept x y h =
    let d = (of_lists sizes z journal kept).on x y h in
    record { link = d.link; is = d.is; from = d.from; stays = (not_cut sizes z journal kept).on x y h }

-- a life is its node's, which is linked or spent and isn't stored, by a state
pub record IsHeldIn (s : State) (l : Life) : Type 0 where
  pub life : l.tag ≡ (s.node l.index).tag
  pub used : IsUsed (s.node l.index).mode
  pub unstored : (s.node l.index).stored ≡ false

-- a node that is used after an event was used before it
handed_used : (s : State) (v x : ℕ) → IsUsed ((handed v s).node x).mode → IsUsed (s.node x).mode ×
    (((handed v s).node x).vertex ≡ (s.node x).vertex)
handed_used s v x = handed_case (λ (n : Node). IsUsed n.mode → IsUsed (s.node x).mode × (n.vertex ≡ (s.node x).vertex))
    s v x (λ u. (u, refl)) (λ l _ _ _. (subst IsUsed (sym l) tt, refl))

-- the kinds that link no node
abbrev IsNoLink : Kind → Type 0
IsNoLink LinkVertex = ⊥
IsNoLink LinkEdge = ⊥
IsNoLink ReplaceEdge = ⊥
IsNoLink _ = Unit {0}

put_still : (s : State) (i : ℕ) (v : Node) (x : ℕ) → (IsUsed v.mode → IsUsed (s.node i).mode ×
    (v.vertex ≡ (s.node i).vertex)) → IsUsed (put i v s.node x).mode → IsUsed (s.node x).mode ×
    ((put i v s.node x).vertex ≡ (s.node x).vertex)
put_still s i v x was = put_case (λ (n : Node). IsUsed n.mode → IsUsed (s.node x).mode × (n.vertex ≡ (s.node x).vertex))
    i v s.node x
    (λ same u. subst (λ (j : ℕ). IsUsed (s.node j).mode × (v.vertex ≡ (s.node j).vertex)) (sym same) (was u))
    (λ _ u. (u, refl))

mark_still : (s : State) (i v x : ℕ) → IsUsed ((handed v (marked_state s i)).node x).mode → IsUsed (s.node x).mode ×
    (((handed v (marked_state s i)).node x).vertex ≡ (s.node x).vertex)
mark_still s i v x u =
    let h = handed_used (marked_state s i) v x u in
    let q = put_still s i (record (s.node i) { marked = true }) x (λ u. (u, refl)) h.0 in
    (q.0, h.1 ∙ q.1)

used_same : (sizes : Sizes) (past : List Event) (e : Event) (k : Kind) → IsNoLink k → AllowedAs k sizes past e → (x : ℕ)
    → IsUsed ((state_by k sizes e (state sizes past)).node x).mode → IsUsed (node_in sizes past x).mode ×
    (((state_by k sizes e (state sizes past)).node x).vertex ≡ (node_in sizes past x).vertex)
used_same sizes past e LinkVertex n ok x = absurd n
used_same sizes past e LinkEdge n ok x = absurd n
used_same sizes past e ReplaceEdge n ok x = absurd n
used_same sizes past e PopFree n ok x = put_still (state sizes past) e.life.index _ x (λ u. absurd u)
used_same sizes past e MarkVertex n ok x = put_still (state sizes past) e.life.index _ x (λ u. (u, refl))
used_same sizes past e UnlinkVertex n ok x = put_still (state sizes past) e.life.index _ x
    (λ _. (subst IsUsed (sym ok.linked.linked) tt, refl))
used_same sizes past e UnlinkEdge n ok x = put_still (state sizes past) e.life.index _ x
    (λ _. (subst IsUsed (sym ok.linked.linked) tt, refl))
used_same sizes past e StoreFree n ok x = put_still (state sizes past) e.life.index _ x (λ u. (u, refl))
used_same sizes past e PushFree n ok x = put_still (state sizes past) e.life.index _ x (λ u. absurd u)
used_same sizes past e MarkEdge n ok x = mark_still (state sizes past) e.life.index
    (node_in sizes past e.life.index).source.index x
used_same sizes past e FreezeEdge n ok x = mark_still (state sizes past) e.life.index
    (node_in sizes past e.life.index).source.index x
used_same sizes past e FreezeHead n ok x = λ u. handed_used (closed_state (state sizes past) e.life.index) e.life.index
    x u
used_same sizes past e _ n ok x = λ u. (u, refl)

used_before : (sizes : Sizes) (past : List Event) (e : Event) (k : Kind) → AllowedAs k sizes past e → (x : ℕ) → IsUsed
    ((state_by k sizes e (state sizes past)).node x).mode → IsUsed (node_in sizes past x).mode ⊎
    ((node_in sizes past x).mode ≡ Fresh)
used_before sizes past e LinkVertex ok x = put_case (λ (n : Node). IsUsed n.mode → IsUsed (node_in sizes past x).mode ⊎
    ((node_in sizes past x).mode ≡ Fresh)) e.life.index _ (state sizes past).node x
    (λ same _. inr (ap (λ (j : ℕ). (node_in sizes past j).mode) same ∙ ok.fresh.fresh)) (λ _ u. inl u)
used_before sizes past e LinkEdge ok x = put_case (λ (n : Node). IsUsed n.mode → IsUsed (node_in sizes past x).mode ⊎
    ((node_in sizes past x).mode ≡ Fresh)) e.life.index _ (state sizes past).node x
    (λ same _. inr (ap (λ (j : ℕ). (node_in sizes past j).mode) same ∙ ok.fresh.fresh)) (λ _ u. inl u)
used_before sizes past e ReplaceEdge ok x = λ u.
    let s : State = state sizes past in
    let j : State = joined_edge sizes e s in
    put_case (λ (n : Node). IsUsed n.mode → IsUsed (s.node x).mode ⊎ ((s.node x).mode ≡ Fresh)) e.life.index
    (new_edge_node (s.node e.life.index) e s.count) s.node x
    (λ same _. inr (ap (λ (i : ℕ). (s.node i).mode) same ∙ ok.fresh.fresh)) (λ _ v. inl v)
    (mark_still j e.old.index (j.node e.old.index).source.index x u).0
used_before sizes past e k ok x = λ u. inl (used_same sizes past e k tt ok x u).0

-- an edge life that is held after an event was held before it
held_before : (sizes : Sizes) → IsLayout sizes → (past : List Event) (e : Event) → IsKept sizes past → (k : Kind)
    → AllowedAs k sizes past e → (l : Life) (link : Event) → link_of past l ≡ Some link → IsHeldIn
    (state_by k sizes e (state sizes past)) l → IsHeldIn (state sizes past) l
held_before sizes z past e kept PopFree ok l link is h =
    let s : State = state sizes past in
    put_case (λ (n : Node). l.tag ≡ n.tag → IsUsed n.mode → n.stored ≡ false → IsHeldIn s l) e.life.index
    (record (s.node e.life.index) {
      mode = Fresh;
      who = e.caller;
      tag = e.life.tag;
      marked = false;
      stored = false;
    }) s.node l.index
    (λ _ t u f. absurd u) (λ _ t u f. record { life = t; used = u; unstored = f }) h.life h.used h.unstored
held_before sizes z past e kept k ok l link is h =
    let s : State = state sizes past in
    let tag : l.tag ≡ (s.node l.index).tag = h.life ∙ same_tag k tt sizes e s l.index in
    let f : (s.node l.index).stored ≡ false = stored_before k tt sizes e s l.index h.unstored in
    ⊎_elim (λ (q : IsUsed (s.node l.index).mode). record { life = tag; used = q; unstored = f })
    (λ (m : (s.node l.index).mode ≡ Fresh).
    let there = used_there sizes past l.index kept (λ n. absurd (cc)) in
    let new = (((named sizes z past kept).each l.index there).new m).link in
    let no : link_of past l ≡ None = ap (link_of past) (life_is l l.index (s.node l.index).tag refl tag) ∙ new in
    absurd (cc))
    (used_before sizes past e k ok l.index h.used)

-- a vertex none of whose edges was stored, by a state
record IsUnbroken (sizes : Sizes) (journal : List Event) (s : State) (x : ℕ) : Type 0 where
  pub used : IsUsed (s.node x).mode
  pub vertex : (s.node x).vertex ≡ true
  pub each : (l : Life) (link : Event) → link_of journal l ≡ Some link → link.source ≡ life_of x (s.node x)
      → unlinked journal l ≡ false → IsHeldIn s l

-- a life that is unlinked next is held
cut_held : (sizes : Sizes) → IsLayout sizes → (past : List Event) (e : Event) → IsKept sizes past → (k : Kind)
    → unlinks k ≡ true → AllowedAs k sizes past e → IsHeldIn (state sizes past) e.life
cut_held sizes z past e kept UnlinkVertex u ok = record {
  life = ok.life;
  used = subst IsUsed
      (sym ok.linked.linked) tt;
  unstored = ((link_words sizes z past kept).each e.life.index ok.there).unstored
      ok.linked.linked;
}
cut_held sizes z past e kept UnlinkEdge u ok = record {
  life = ok.life;
  used = subst IsUsed
      (sym ok.linked.linked) tt;
  unstored = ((link_words sizes z past kept).each e.life.index ok.there).unstored
      ok.linked.linked;
}
cut_held sizes z past e kept _ u ok = absurd (cc)

-- the taking of a node leaves no life of a used node to another
life_before : (sizes : Sizes) → (past : List Event) (e : Event) (k : Kind) → AllowedAs k sizes past e → (x : ℕ) → IsUsed
    ((state_by k sizes e (state sizes past)).node x).mode → life_of x
    ((state_by k sizes e (state sizes past)).node x) ≡ life_of x (node_in sizes past x)
life_before sizes past e PopFree ok x u =
    let s : State = state sizes past in
    let v : Node = record (s.node e.life.index) {
      mode = Fresh;
      who = e.caller;
      tag = e.life.tag;
      marked = false;
      stored
          = false;
    } in
    ap (life_of x) (put_other e.life.index v s.node x (λ same. subst IsUsed
    (ap (λ (j : ℕ). (put e.life.index v s.node j).mode) same ∙ ap (λ (n : Node). n.mode)
    (put_same e.life.index v s.node)) u))
life_before sizes past e k ok x u = still_life k tt sizes e (state sizes past) x

-- what wasn't broken after an event wasn't before it
unbroken_before : (sizes : Sizes) → IsLayout sizes → (past : List Event) (e : Event) → IsKept sizes past → (k : Kind)
    → e.kind ≡ k → AllowedAs k sizes past e → (x : ℕ) → IsUnbroken sizes (past ++ e ∷ [])
    (state_by k sizes e (state sizes past)) x → IsUsed (node_in sizes past x).mode →
    ((state_by k sizes e (state sizes past)).node x).vertex ≡ (node_in sizes past x).vertex
    → IsUnbroken sizes past (state sizes past) x
unbroken_before sizes z past e kept k is ok x b used vertex = record {
  used = used;
  vertex = sym vertex ∙ b.vertex;
  each = λ l link h from stays. by l link h from stays (unlinked (past ++ e ∷ []) l) refl;
}
  where
    held : (l : Life) → unlinked past l ≡ false → unlinked (past ++ e ∷ []) l ≡ true → IsHeldIn (state sizes past) l
    held l old new = yes_no (IsHeldIn (state sizes past) l) (unlinks k)
        (λ u. yes_no (IsHeldIn (state sizes past) l) (same_life l e.life)
        (λ same. subst (IsHeldIn (state sizes past)) (sym (same_is l e.life same))
        (cut_held sizes z past e kept k u ok))
        (λ other. let t = sym (unlinked_other past e l other) ∙ new in absurd (cc)))
        (λ u. let t = sym (unlinked_skip past e (ap unlinks is ∙ u) l) ∙ new in absurd (cc))

    by : (l : Life) (link : Event) → link_of past l ≡ Some link → link.source ≡ life_of x (node_in sizes past x)
        → unlinked past l ≡ false → (c : Bool) → unlinked (past ++ e ∷ []) l ≡ c → IsHeldIn (state sizes past) l
    by l link h from stays true u = held l stays u
    by l link h from stays false u = held_before sizes z past e kept k ok l link h
        (b.each l link (link_more past (e ∷ []) l link h) (from ∙ sym (life_before sizes past e k ok x b.used)) u)

-- a mark leaves by which event a node was linked
mark_since : (s : State) (i y : ℕ) → ((marked_state s i).node y).since ≡ (s.node y).since
mark_since s i y = put_case (λ (n : Node). n.since ≡ (s.node y).since) i (record (s.node i) { marked = true }) s.node y
    (λ same. ap (λ (j : ℕ). (s.node j).since) (sym same)) (λ _. refl)

-- a list that is frozen to its end and of which no edge was stored is one still, and has all edges of its vertex's life
record ClosedLists (sizes : Sizes) (journal : List Event) (s : State) (w : ℕ → ℕ) : Type 0 where
  pub each : (x : ℕ) → IsUnbroken sizes journal s x → IsFinished s.node s.edges s.frozen x → IsList sizes s w x
      × StandsAll journal s x

module _ (sizes : Sizes) (z : IsLayout sizes) (past : List Event) (e : Event) (kept : IsKept sizes past) (x : ℕ)
    (b : IsUnbroken sizes past (state sizes past) x) (f : IsFinished (state sizes past).node (state sizes past).edges
    (state sizes past).frozen x) where
  -- its edges are in their lives
  held_on : (y : ℕ) → stands_in ((state sizes past).edges x) y ≡ true →
      IsHeldIn (state sizes past) (life_in sizes past y)
  held_on y h = let d = edge_on sizes z past kept x y h in b.each (life_in sizes past y) d.link d.is d.from d.stays

  closed_unfree : (node_in sizes past e.life.index).mode ≡ Free → stands_in ((state sizes past).edges x)
      e.life.index ≡ true → ⊥
  closed_unfree m h = subst IsUsed m (held_on e.life.index h).used

  -- the source of an edge that is linked, marked or unlinked has a list that isn't frozen to its end
  not_home : (y : ℕ) → y < sizes.nodes → (node_in sizes past y).mode ≡ Linked → (node_in sizes past y).vertex ≡ false
      → x ≢ (node_in sizes past y).source.index
  not_home y t l edge same = ((listing sizes z past kept).source y t l edge).list.unfinished
      (subst (IsFinished (state sizes past).node (state sizes past).edges (state sizes past).frozen) same f)

  -- no edge of its list is fresh
  unfresh : (y : ℕ) → stands_in ((state sizes past).edges x) y ≡ true → y ≡ e.life.index →
      (node_in sizes past e.life.index).mode ≢ Fresh
  unfresh y on same m = ((listing sizes z past kept).on x y on).unfresh
      (ap (λ (i : ℕ). (node_in sizes past i).mode) same ∙ m)

  closed_after : (k : Kind) → (k ≡ StoreFree → stands_in ((state sizes past).edges x) e.life.index ≡ true → ⊥)
      → AllowedAs k sizes past e → (w : ℕ → ℕ) → IsAfter sizes past e w → IsList sizes (state sizes past)
      (word_at sizes past) x → IsList sizes (state_by k sizes e (state sizes past)) w x
  closed_after LinkEdge u ok w a old =
      let s : State = state sizes past in
      let ne : x ≢ e.source.index = λ same. joins_unfinished sizes s.node s.edges s.frozen
      (listing sizes z past kept) e.life.index e.place _ (link_joins sizes z past e kept
      (listing sizes z past kept) ok) (subst (IsFinished s.node s.edges s.frozen) same f) in
      let same = same_link sizes z past e kept x ok ne in
      let since : IsLinkedStill sizes past (state_by LinkEdge sizes e s) x = λ y on. put_case
      (λ (n : Node). n.since ≡ (s.node y).since) e.life.index
      (new_edge_node (s.node e.life.index) e s.count) s.node y
      (λ at. absurd (unfresh y on at ok.fresh.fresh)) (λ _. refl) in
      stays sizes s (state_by LinkEdge sizes e s) (word_at sizes past) w x same
      (untouched sizes past e w (state_by LinkEdge sizes e s) x a (off_link sizes z past e kept x ok ne) since same)
      old
  closed_after UnlinkEdge u ok w a old =
      let s : State = state sizes past in
      let ne = not_home e.life.index ok.there ok.linked.linked ok.linked.edge in
      let same = same_unlink sizes z past e kept x ne in
      stays sizes s (state_by UnlinkEdge sizes e s) (word_at sizes past) w x same
      (untouched sizes past e w (state_by UnlinkEdge sizes e s) x a (off_unlink sizes z past e kept x ok ne)
      (λ y on. since_still UnlinkEdge tt sizes e s y) same) old
  closed_after ReplaceEdge u ok w a old =
      let s : State = state sizes past in
      let c = listing sizes z past kept in
      let j = replace_joins sizes z past e kept c ok in
      let ne : x ≢ e.source.index = λ same. joins_unfinished sizes s.node s.edges s.frozen c e.life.index e.place _ j
      (subst (IsFinished s.node s.edges s.frozen) same f) in
      let home : (s.node e.old.index).source.index ≡ e.source.index = ap (λ (l : Life). l.index) (sym ok.source) in
      let same = linked_none sizes (second_at sizes x) e.place e.life.index (s.edges x) (λ at. ne (j.only x at)) in
      let off : IsOff sizes past e x = record {
        head = λ h. omega (arith, ok.place, h);
        links = λ y t h. let at : e.old.index ≡ y = omega (arith, ok.place, h) in ne
            (sym (c.on x y t).index ∙ (ap (λ (i : ℕ). (s.node i).source.index) (sym at) ∙ home));
        keys = λ y _ h. omega (arith, ok.place, h);
      } in
      let since : IsLinkedStill sizes past (state_by ReplaceEdge sizes e s) x = λ y on. replaced_case sizes z past e
      kept ok (λ (n : Node). n.since ≡ (s.node y).since) y
      (λ at. absurd (unfresh y on at ok.fresh.fresh))
      (λ _. mark_since s e.old.index y)
      (λ _ _ _ _. mark_since s e.old.index y) in
      stays sizes s (state_by ReplaceEdge sizes e s) (word_at sizes past) w x same
      (untouched sizes past e w (state_by ReplaceEdge sizes e s) x a off since same) old
  closed_after MarkEdge u ok w a old = stays sizes (state sizes past) (state_by MarkEdge sizes e (state sizes past))
      (word_at sizes past) w x refl
      (untouched sizes past e w (state_by MarkEdge sizes e (state sizes past)) x a
      (off_mark sizes z past e kept x ok.place (not_home e.life.index ok.there ok.linked.linked ok.linked.edge))
      (λ y on. since_still MarkEdge tt sizes e (state sizes past) y) refl) old
  closed_after FreezeEdge u ok w a old = stays sizes (state sizes past) (state_by FreezeEdge sizes e (state sizes past))
      (word_at sizes past) w x refl
      (untouched sizes past e w (state_by FreezeEdge sizes e (state sizes past)) x a
      (off_mark sizes z past e kept x ok.place (not_home e.life.index ok.there ok.linked.linked ok.linked.edge))
      (λ y on. since_still FreezeEdge tt sizes e (state sizes past) y) refl) old
  closed_after FreezeHead u ok w a old =
      let ne : x ≢ e.life.index = λ same.
      let open_head = not_closed sizes z past e kept (listing sizes z past kept) e.life.index ok.there
      (subst IsUsed (sym ok.spent.spent) tt) ok.spent.vertex
      (subst (λ (p : ℕ). mark_of (word_at sizes past p) ≡ 0) ok.place ok.unmarked) in
      let h = ap (state sizes past).frozen (sym same) ∙ f.head in absurd (cc) in
      stays sizes (state sizes past) (state_by FreezeHead sizes e (state sizes past)) (word_at sizes past) w x refl
      (untouched sizes past e w (state_by FreezeHead sizes e (state sizes past)) x a
      (off_close sizes z past e kept x ok.place ne) (λ y on. since_still FreezeHead tt sizes e (state sizes past) y)
      refl) old
  closed_after k u ok w a old = idle_stays sizes z past e kept x b.used closed_unfree k u tt ok w a old

-- by cases on whether it was frozen to its end before
closed_case : (sizes : Sizes) → IsLayout sizes → (past : List Event) (e : Event) → IsKept sizes past → (k : Kind)
    → e.kind ≡ k → AllowedAs k sizes past e → (w : ℕ → ℕ) → IsAfter sizes past e w → ClosedLists sizes past
    (state sizes past) (word_at sizes past)
    → (x : ℕ) → IsUnbroken sizes (past ++ e ∷ []) (state_by k sizes e (state sizes past)) x → IsUsed
    (node_in sizes past x).mode × (((state_by k sizes e (state sizes past)).node x).vertex ≡
    (node_in sizes past x).vertex) → IsList sizes (state_by k sizes e (state sizes past)) w x × StandsAll
    (past ++ e ∷ []) (state_by k sizes e (state sizes past)) x
closed_case sizes z past e kept k is ok w a c x b q =
    let s : State = state sizes past in
    let old : IsUnbroken sizes past s x = unbroken_before sizes z past e kept k is ok x b q.0 q.1 in
    ⊎_elim
    (λ (f : IsFinished s.node s.edges s.frozen x).
    let d = c.each x old f in (
      closed_after sizes z past e kept x old f k (λ stores h. not_stored stores h) ok w a d.0,
      stands_after sizes z past
          e kept x d.1 k is ok (λ pops. apart old k pops ok),
    ))
    (λ (n : IsFinished s.node s.edges s.frozen x → ⊥).
    let o : IsOpenIn sizes s x = record {
      there = used_there sizes past x kept
          (λ m. subst IsUsed m q.0);
      used = q.0;
      vertex = old.vertex;
      unfinished = n;
    } in (
      list_after sizes z past e kept k ok w a x o ((lists sizes z past kept).each x o),
      stands_after sizes z past e kept
          x ((all_edges sizes z past kept).each x o) k is ok (λ pops. apart old k pops ok),
    ))
    (finished_or s.node s.edges s.frozen x)
  where
    apart : IsUnbroken sizes past (state sizes past) x → (j : Kind) → j ≡ PopFree → AllowedAs j sizes past e →
        (x ≢ e.life.index) × (stands_in ((state sizes past).edges x) e.life.index ≡ true → ⊥)
    apart old PopFree pops ok =
        let free = (taken sizes z past e kept ok).free in (
          (λ same. subst IsUsed (ap (λ (i : ℕ). (node_in sizes past i).mode) same ∙ free) q.0),
          (λ h. let d = edge_on sizes z past kept x e.life.index h in subst IsUsed free
              (old.each (life_in sizes past e.life.index) d.link d.is d.from d.stays).used),
        )
    apart old _ pops ok = absurd (cc)

    not_stored : k ≡ StoreFree → stands_in ((state sizes past).edges x) e.life.index ≡ true → ⊥
    not_stored stores h =
        let s : State = state sizes past in
        let d = edge_on sizes z past kept x e.life.index h in
        let now : IsUnbroken sizes (past ++ e ∷ []) (state_by StoreFree sizes e s) x = subst
        (λ (j : Kind). IsUnbroken sizes (past ++ e ∷ []) (state_by j sizes e s) x) stores b in
        let held = now.each (life_in sizes past e.life.index) d.link
        (link_more past (e ∷ []) (life_in sizes past e.life.index) d.link d.is)
        (d.from ∙ sym (still_life StoreFree tt sizes e s x))
        (unlinked_skip past e (ap unlinks (is ∙ stores)) (life_in sizes past e.life.index) ∙ d.stays) in
        let yes = ap (λ (n : Node). n.stored) (put_same e.life.index
        (record (s.node e.life.index) { stored = true }) s.node) in
        let no = held.unstored in
        absurd (cc)

closed_step : (sizes : Sizes) → IsLayout sizes → KeepsIn sizes (ClosedLists sizes)
closed_step sizes z past e kept c LinkVertex is ok w a = record {
  each = λ x b f. dite (ℕ_discrete x e.life.index)
      (λ same. let h = ap (state sizes past).frozen (sym same) ∙ f.head in let g =
      ((contents sizes z past kept).each e.life.index ok.there).fresh ok.fresh.fresh in absurd (cc))
      (λ ne.
      let at = put_other e.life.index (record (node_in sizes past e.life.index)
      { mode = Linked; vertex = true; key = e.key }) (state sizes past).node x ne in
      closed_case sizes z past e kept LinkVertex is ok w a c x b
      (subst (λ (n : Node). IsUsed n.mode) at b.used, ap (λ (n : Node). n.vertex) at));
}
closed_step sizes z past e kept c ReplaceEdge is ok w a = record {
  each = λ x b f.
      let s : State = state sizes past in
      let j : State = joined_edge sizes e s in
      let v : Node = new_edge_node (s.node e.life.index) e s.count in
      let h = mark_still j e.old.index (j.node e.old.index).source.index x b.used in
      dite (ℕ_discrete x e.life.index)
      (λ same. let t = b.vertex in let u = h.1 ∙ (ap (λ (i : ℕ). (put e.life.index v s.node i).vertex) same ∙ ap
      (λ (n : Node). n.vertex) (put_same e.life.index v s.node)) in absurd (cc))
      (λ ne.
      let at = put_other e.life.index v s.node x ne in
      closed_case sizes z past e kept ReplaceEdge is ok w a c x b
      (subst (λ (n : Node). IsUsed n.mode) at h.0, h.1 ∙ ap (λ (n : Node). n.vertex) at));
}
closed_step sizes z past e kept c LinkEdge is ok w a = record {
  each = λ x b f.
      let v : Node = new_edge_node (node_in sizes past e.life.index) e (state sizes past).count in
      dite (ℕ_discrete x e.life.index)
      (λ same. let t = b.vertex in let u = ap (λ (j : ℕ). (put e.life.index v (state sizes past).node j).vertex) same
      ∙ ap (λ (n : Node). n.vertex) (put_same e.life.index v (state sizes past).node) in absurd (cc))
      (λ ne.
      let at = put_other e.life.index v (state sizes past).node x ne in
      closed_case sizes z past e kept LinkEdge is ok w a c x b
      (subst (λ (n : Node). IsUsed n.mode) at b.used, ap (λ (n : Node). n.vertex) at));
}
closed_step sizes z past e kept c k is ok w a = record {
  each = λ x b f. closed_case sizes z past e kept k is ok w a c x
      b (used_same sizes past e k tt ok x b.used);
}

closed_lists : (sizes : Sizes) → IsLayout sizes → (journal : List Event) → IsKept sizes journal
    → ClosedLists sizes journal (state sizes journal) (word_at sizes journal)
closed_lists sizes z journal kept = all_in sizes (ClosedLists sizes) (closed_step sizes z)
    (record { each = λ x b f. absurd (b.used) }) journal kept

-- a list of which no edge was stored is a chain along which one meets the state's list, and has all edges of its
-- vertex's life
kept_both : (sizes : Sizes) → IsLayout sizes → (journal : List Event) → IsKept sizes journal → (x : ℕ)
    → KeepsList sizes journal x → IsList sizes (state sizes journal) (word_at sizes journal) x × StandsAll journal
    (state sizes journal) x
kept_both sizes z journal kept x k =
    let s : State = state sizes journal in
    ⊎_elim
    (λ (f : IsFinished s.node s.edges s.frozen x). (closed_lists sizes z journal kept).each x record {
      used = k.used;
      vertex = k.vertex;
      each = λ l link is from stays. let d = k.edges l record { link = link; is = is; from = from; stays = stays } in
          record { life = d.life; used = d.used; unstored = d.unstored };
    } f)
    (λ (n : IsFinished s.node s.edges s.frozen x → ⊥).
    let o : IsOpenIn sizes s x = record { there = k.there; used = k.used; vertex = k.vertex; unfinished = n } in
    ((lists sizes z journal kept).each x o, (all_edges sizes z journal kept).each x o))
    (finished_or s.node s.edges s.frozen x)

pub kept_list : (sizes : Sizes) → IsLayout sizes → (journal : List Event) → IsKept sizes journal → (x : ℕ)
    → KeepsList sizes journal x → IsList sizes (state sizes journal) (word_at sizes journal) x
kept_list sizes z journal kept x k = (kept_both sizes z journal kept x k).0

-- the lives on it are the edges of its vertex's life that weren't unlinked
pub kept_lives : (sizes : Sizes) → IsLayout sizes → (journal : List Event) → IsKept sizes journal → (x : ℕ)
    → KeepsList sizes journal x → (l : Life) → IsInList sizes journal x l ↔ IsEdgeOf journal (life_in sizes journal x) l
kept_lives sizes z journal kept x k l = (
  (λ i. subst (IsEdgeOf journal (life_in sizes journal x)) (sym
      (life_is l l.index (node_in sizes journal l.index).tag refl i.life))
      (edge_on sizes z journal kept x l.index i.on)),
  (λ f.
      let h = (kept_both sizes z journal kept x k).1 l f.link f.is f.from f.stays in
      record { there = ((listing sizes z journal kept).on x l.index h.on).there; life = h.life; on = h.on }),
)

pub kept_met : (sizes : Sizes) → IsLayout sizes → (journal : List Event) → IsKept sizes journal → (x : ℕ)
    → KeepsList sizes journal x → IsMet (edge_chain sizes journal x) ((state sizes journal).edges x)
kept_met sizes z journal kept x k = let b = kept_list sizes z journal kept x k in IsMet-from_Meets
    (edge_chain sizes journal x) ((state sizes journal).edges x) b.chain b.met

-- each list that isn't frozen to its end is one
pub has_keeps : (sizes : Sizes) → IsLayout sizes → (journal : List Event) → IsKept sizes journal → (x : ℕ)
    → HasList sizes journal x → KeepsList sizes journal x
has_keeps sizes z journal kept x has = record {
  there = has.there;
  used = has.used;
  vertex = has.vertex;
  edges = λ y f.
      let c = listing sizes z journal kept in
      let o = has_open sizes journal x has in
      let i = of_edge sizes z journal kept x has y f in
      record {
        life = i.life;
        used = ⊎_elim (λ (m : (node_in sizes journal y.index).mode ≡ Linked). subst IsUsed (sym m) tt)
            (λ (m : (node_in sizes journal y.index).mode ≡ Spent). subst IsUsed (sym m) tt)
            (open_mode sizes (state sizes journal).node (state sizes journal).edges
            (state sizes journal).frozen x y.index c o i.on);
        unstored = c.held x y.index o i.on;
      };
}

-- a frozen word of such a list leads to none, or to an edge of it
pub kept_leads : (sizes : Sizes) → IsLayout sizes → (journal : List Event) → IsKept sizes journal → (x place : ℕ)
    → KeepsList sizes journal x → IsFrozenWord sizes journal x place
    → (index_of (word_at sizes journal place) ≡ nowhere) ⊎ (is_listed (state sizes journal) x
    (index_of (word_at sizes journal place)) ≡ true)
kept_leads sizes z journal kept x place k f =
    let d = frozen_end sizes journal x place f in
    subst (λ (p : ℕ). (index_of (word_at sizes journal p) ≡ nowhere) ⊎
    (is_listed (state sizes journal) x (index_of (word_at sizes journal p)) ≡ true)) d.place_is
    (dite (ℕ_discrete (index_of (word_at sizes journal (list_word sizes x d.at))) nowhere) (λ none. inl none)
    (λ some. inr ((kept_list sizes z journal kept x k).chain.leads d.at d.on some).0))
