-- The lives on the list of a vertex are those that were linked as edges of its life and not unlinked.
use Rattle.std.proofs.Common.{◌≡◌, ◌≢◌, ℕ, ◌<◌, ◌⊎◌, Bool, true, false, List, [], ◌∷◌, ◌++◌, Some, None, refl, sym, ap}
use Rattle.std.proofs.Common.{◌∙◌, subst, arith, ⊎_elim, inl, inr}
use Rattle.graph_kinds.specs.Levels.{stands_in}
use Rattle.packed_link.specs.Layout.{Sizes, IsLayout, link_at, second_at}
use Rattle.packed_link.specs.Link.{mark_of, mark_bit}
use Rattle.packed_link.specs.declared.link.Life.{Life}
use Rattle.core_chain.specs.Chain.{Next, Precedes, rank_of}
use Rattle.core_chain.proofs.Orders.{by_order, rises_behind}
use Rattle.core_journal.specs.declared.event.Kind.{Kind}
use Rattle.core_journal.specs.declared.event.Kind.TheVariants.{PopFree, LinkVertex, UnlinkVertex, LinkEdge, UnlinkEdge}
use Rattle.core_journal.specs.declared.event.Kind.TheVariants.{ReplaceEdge}
use Rattle.core_journal.specs.declared.event.Event.{Event}
use Rattle.core_journal.specs.Event.{same_life, links_edge, unlinks}
use Rattle.core_journal.specs.Machine.{word_at}
use Rattle.core_journal.specs.Life.{link_of, unlinked, edge_marked}
use Rattle.core_journal.specs.State.{Fresh, Linked, Spent, Node, State, unlinked_from, state, state_by}
use Rattle.core_journal.proofs.Snoc.{same_is, link_skip, link_else}
use Rattle.core_kept.specs.Kept.{AllowedAs, IsKept}
use Rattle.core_kept.specs.Nodes.{node_in, IsUsed, IsLinkedEdge}
use Rattle.core_lists.specs.Chains.{edge_chain, life_in, HasList, IsEdgeOf, IsInList, IsAtSource, IsOlder}
use Rattle.core_kept.proofs.ByKind.{KeepsIn, put_other, all_in}
use Rattle.core_kept.proofs.LinkWords.{taken, used_link}
use Rattle.core_kept.proofs.Contents.{contents}
use Rattle.core_kept.proofs.PastLives.{BeginsNoLife, same_tag, other_index, this_life}
use Rattle.core_kept.proofs.Named.{life_is, named, link_first}
use Rattle.core_kept.proofs.EdgeEnds.{new_vertex, new_edge, new_replacing}
use Rattle.core_kept.proofs.LinkedVertices.{unlinked_skip, unlinked_other, IsStanding, life_of, standing, linked_stays}
use Rattle.core_kept.proofs.LinkedVertices.{not_this}
use Rattle.core_kept.proofs.LinkedEdges.{live_edges}
use Rattle.core_kept.proofs.NodesInPlace.{used_there}
use Rattle.core_kept.proofs.NodesOnLists.{yes_no, unlinked_was, unlinked_keeps, linked_was, linked_keeps, linked_joins}
use Rattle.core_lists.proofs.ListHolds.{open_mode}
use Rattle.core_lists.proofs.ListHoldsKept.{listing, link_joins, replace_joins, IsOpenIn, open_before, open_linked}
use Rattle.core_lists.proofs.ListHoldsKept.{has_open, sources}
use Rattle.core_lists.proofs.ListingsBehindSteps.{popped_was, popped_not}
use Rattle.core_lists.proofs.ListChains.{lists}

-- no life on a list was unlinked
pub record NotCut (journal : List Event) (s : State) : Type 0 where
  pub on : (x y : ℕ) → stands_in (s.edges x) y ≡ true → unlinked journal (life_of y (s.node y)) ≡ false

-- no kind but the taking of a node changes the life of a node
pub still_life : (k : Kind) → BeginsNoLife k → (sizes : Sizes) (e : Event) (s : State) (y : ℕ) → life_of y
    ((state_by k sizes e s).node y) ≡ life_of y (s.node y)
still_life k o sizes e s y = let f : ℕ → Life = λ n. record { index = y; tag = n } in ap f (same_tag k o sizes e s y)

not_cut_step : (sizes : Sizes) → IsLayout sizes → KeepsIn sizes (λ (j : List Event) (s : State) (w : ℕ → ℕ). NotCut j s)
not_cut_step sizes z past e kept c PopFree is ok w a =
    let s : State = state sizes past in
    let v : Node = record (s.node e.life.index) {
      mode = Fresh;
      who = e.caller;
      tag = e.life.tag;
      marked = false;
      stored
          = false;
    } in record {
      on = λ x y h.
          let r = popped_was sizes s.node s.edges s.frozen (listing sizes z past kept) e.life.index v
          (taken sizes z past e kept ok).free refl x y h in
          ap (λ (n : Node). unlinked (past ++ e ∷ []) (life_of y n)) (put_other e.life.index v s.node y r.2) ∙
          (unlinked_skip past e (ap unlinks is) (life_of y (s.node y)) ∙ c.on x y r.1);
    }
not_cut_step sizes z past e kept c ReplaceEdge is ok w a = record {
  on = λ x y h.
      let s : State = state sizes past in
      ap (unlinked (past ++ e ∷ [])) (still_life ReplaceEdge tt sizes e s y) ∙
      (unlinked_skip past e (ap unlinks is) (life_of y (s.node y)) ∙ ⊎_elim
      (λ (t : stands_in (s.edges x) y ≡ true). c.on x y t)
      (λ (t : (y ≡ e.life.index) × _). (standing sizes z past kept).each y
      (subst (λ (i : ℕ). IsStanding (s.node i).mode) (sym t.0) (subst IsStanding (sym ok.fresh.fresh) tt)))
      (linked_was sizes (second_at sizes x) e.place e.life.index y (s.edges x) h));
}
not_cut_step sizes z past e kept c LinkEdge is ok w a = record {
  on = λ x y h.
      let s : State = state sizes past in
      ap (unlinked (past ++ e ∷ [])) (still_life LinkEdge tt sizes e s y) ∙
      (unlinked_skip past e (ap unlinks is) (life_of y (s.node y)) ∙ ⊎_elim
      (λ (t : stands_in (s.edges x) y ≡ true). c.on x y t)
      (λ (t : (y ≡ e.life.index) × _). (standing sizes z past kept).each y
      (subst (λ (i : ℕ). IsStanding (s.node i).mode) (sym t.0) (subst IsStanding (sym ok.fresh.fresh) tt)))
      (linked_was sizes (second_at sizes x) e.place e.life.index y (s.edges x) h));
}
not_cut_step sizes z past e kept c UnlinkEdge is ok w a = record {
  on = λ x y h.
      let s : State = state sizes past in
      let r = unlinked_was e.life.index y (s.edges x) h in
      ap (unlinked (past ++ e ∷ [])) (still_life UnlinkEdge tt sizes e s y) ∙
      (unlinked_other past e (life_of y (s.node y)) (other_index (life_of y (s.node y)) e.life r.1) ∙ c.on x y r.0);
}
not_cut_step sizes z past e kept c UnlinkVertex is ok w a = record {
  on = λ x y h.
      let s : State = state sizes past in
      let ne : y ≢ e.life.index = λ same. let v = ok.linked.vertex in let b = ap (λ (i : ℕ). (s.node i).vertex)
      (sym same) ∙ ((listing sizes z past kept).on x y h).edge in absurd (cc) in
      ap (unlinked (past ++ e ∷ [])) (still_life UnlinkVertex tt sizes e s y) ∙
      (unlinked_other past e (life_of y (s.node y)) (other_index (life_of y (s.node y)) e.life ne) ∙ c.on x y h);
}
not_cut_step sizes z past e kept c k is ok w a = record {
  on = λ x y h. ap (unlinked (past ++ e ∷ [])) (still_life k tt sizes e (state sizes past) y) ∙
      (unlinked_skip past e (ap unlinks is) (life_of y (node_in sizes past y)) ∙ c.on x y h);
}

pub not_cut : (sizes : Sizes) → IsLayout sizes → (journal : List Event) → IsKept sizes journal → NotCut journal
    (state sizes journal)
not_cut sizes z journal kept = all_in sizes (λ (j : List Event) (s : State) (w : ℕ → ℕ). NotCut j s)
    (not_cut_step sizes z) (record { on = λ x y h. refl }) journal kept

-- a life stands on the list of a vertex
pub record IsStandingOn (s : State) (x : ℕ) (l : Life) : Type 0 where
  pub life : l.tag ≡ (s.node l.index).tag
  pub on : stands_in (s.edges x) l.index ≡ true

-- all lives that were linked as edges of a vertex's life and not unlinked stand on its list
abbrev pub StandsAll : List Event → State → ℕ → Type 0
StandsAll journal s x = (l : Life) (link : Event) → link_of journal l ≡ Some link → link.source ≡ life_of x (s.node x)
    → unlinked journal l ≡ false → IsStandingOn s x l

-- they do, where the list isn't frozen to its end
pub record AllEdges (sizes : Sizes) (journal : List Event) (s : State) : Type 0 where
  pub each : (x : ℕ) → IsOpenIn sizes s x → StandsAll journal s x

-- where no tag and no list changes
stands_still : (s s' : State) (x : ℕ) (l : Life) → (s'.node l.index).tag ≡ (s.node l.index).tag → s'.edges x ≡ s.edges x
    → IsStandingOn s x l → IsStandingOn s' x l
stands_still s s' x l tag same h = record {
  life = h.life ∙ sym tag;
  on = subst
      (λ (xs : List ℕ). stands_in xs l.index ≡ true) (sym same) h.on;
}

some_is : {A : Type 0} (a b : A) → Some a ≡ Some b → a ≡ b
some_is a b p = cc

module _ (sizes : Sizes) (z : IsLayout sizes) (past : List Event) (e : Event) (kept : IsKept sizes past) (x : ℕ)
    (c : StandsAll past (state sizes past) x) where
  -- an edge that is linked stands on the list of its source, and so does every other that did
  link_stands : e.kind ≡ LinkEdge → AllowedAs LinkEdge sizes past e → StandsAll (past ++ e ∷ [])
      (state_by LinkEdge sizes e (state sizes past)) x
  link_stands is ok l link h from stays = by (same_life l e.life) refl
    where
      s : State
      s = state sizes past

      s' : State
      s' = state_by LinkEdge sizes e s

      by : (b : Bool) → same_life l e.life ≡ b → IsStandingOn s' x l
      by true same =
          let one = same_is l e.life same in
          let new : link_of past l ≡ None = ap (link_of past) one ∙ (new_edge sizes z past e kept is ok).new in
          let which : e ≡ link = some_is e link (sym (link_first past e l new (ap links_edge is) same) ∙ h) in
          let home : e.source.index ≡ x = ap (λ (d : Event). d.source.index) which ∙ ap (λ (y : Life). y.index) from in
          record {
            life = ap (λ (y : Life). y.tag) one ∙ (ok.life ∙ (sym (same_tag LinkEdge tt sizes e s e.life.index) ∙ ap
                (λ (y : Life). (s'.node y.index).tag) (sym one)));
            on = subst (λ (i : ℕ). stands_in (s'.edges x) i ≡ true) (ap (λ (y : Life). y.index) (sym one))
                (subst (λ (y : ℕ). stands_in (s'.edges y) e.life.index ≡ true) home
                (linked_joins sizes (second_at sizes e.source.index) e.place e.life.index (s.edges e.source.index)
                (link_joins sizes z past e kept (listing sizes z past kept) ok).word));
          }
      by false same =
          let old = c l link (sym (link_else past e l same) ∙ h) (from ∙ still_life LinkEdge tt sizes e s x)
          (sym (unlinked_skip past e (ap unlinks is) l) ∙ stays) in
          record {
            life = old.life ∙ sym (same_tag LinkEdge tt sizes e s l.index);
            on = linked_keeps sizes
                (second_at sizes x) e.place e.life.index l.index (s.edges x) old.on;
          }

  -- so does an edge that replaces another
  replace_stands : e.kind ≡ ReplaceEdge → AllowedAs ReplaceEdge sizes past e → StandsAll (past ++ e ∷ [])
      (state_by ReplaceEdge sizes e (state sizes past)) x
  replace_stands is ok l link h from stays = by (same_life l e.life) refl
    where
      s : State
      s = state sizes past

      s' : State
      s' = state_by ReplaceEdge sizes e s

      by : (b : Bool) → same_life l e.life ≡ b → IsStandingOn s' x l
      by true same =
          let one = same_is l e.life same in
          let new : link_of past l ≡ None = ap (link_of past) one ∙ (new_replacing sizes z past e kept is ok).new in
          let which : e ≡ link = some_is e link (sym (link_first past e l new (ap links_edge is) same) ∙ h) in
          let home : e.source.index ≡ x = ap (λ (d : Event). d.source.index) which ∙ ap (λ (y : Life). y.index) from in
          record {
            life = ap (λ (y : Life). y.tag) one ∙ (ok.life ∙ (sym (same_tag ReplaceEdge tt sizes e s e.life.index) ∙ ap
                (λ (y : Life). (s'.node y.index).tag) (sym one)));
            on = subst (λ (i : ℕ). stands_in (s'.edges x) i ≡ true) (ap (λ (y : Life). y.index) (sym one))
                (subst (λ (y : ℕ). stands_in (s'.edges y) e.life.index ≡ true) home
                (linked_joins sizes (second_at sizes e.source.index) e.place e.life.index (s.edges e.source.index)
                (replace_joins sizes z past e kept (listing sizes z past kept) ok).word));
          }
      by false same =
          let old = c l link (sym (link_else past e l same) ∙ h) (from ∙ still_life ReplaceEdge tt sizes e s x)
          (sym (unlinked_skip past e (ap unlinks is) l) ∙ stays) in
          record {
            life = old.life ∙ sym (same_tag ReplaceEdge tt sizes e s l.index);
            on = linked_keeps sizes
                (second_at sizes x) e.place e.life.index l.index (s.edges x) old.on;
          }

  -- an edge that wasn't unlinked with the event stands on the list still
  cut_stands : e.kind ≡ UnlinkEdge → AllowedAs UnlinkEdge sizes past e → StandsAll (past ++ e ∷ [])
      (state_by UnlinkEdge sizes e (state sizes past)) x
  cut_stands is ok l link h from stays =
      let s : State = state sizes past in
      let other = not_this past e l (ap unlinks is) stays in
      let old = c l link (sym (link_skip past e (ap links_edge is) l) ∙ h) (from ∙ still_life UnlinkEdge tt sizes e s x)
      (sym (unlinked_other past e l other) ∙ stays) in
      let apart : l.index ≢ e.life.index = λ same.
      let t : l.tag ≡ e.life.tag = old.life ∙ (ap (λ (i : ℕ). (s.node i).tag) same ∙ sym ok.life) in
      let one = this_life l e.life same t in absurd (cc) in
      record {
        life = old.life ∙ sym (same_tag UnlinkEdge tt sizes e s l.index);
        on = unlinked_keeps e.life.index
            l.index (s.edges x) old.on apart;
      }

  -- a node that is taken is neither the vertex nor one of its edges
  pop_stands : e.kind ≡ PopFree → AllowedAs PopFree sizes past e → x ≢ e.life.index →
      (stands_in ((state sizes past).edges x) e.life.index ≡ true → ⊥) → StandsAll (past ++ e ∷ [])
      (state_by PopFree sizes e (state sizes past)) x
  pop_stands is ok not_x off l link h from stays =
      let s : State = state sizes past in
      let v : Node = record (s.node e.life.index) {
        mode = Fresh;
        who = e.caller;
        tag = e.life.tag;
        marked = false;
        stored = false;
      } in
      let old = c l link (sym (link_skip past e (ap links_edge is) l) ∙ h)
      (from ∙ ap (λ (n : Node). life_of x n) (put_other e.life.index v s.node x not_x))
      (sym (unlinked_skip past e (ap unlinks is) l) ∙ stays) in
      let apart : l.index ≢ e.life.index = λ same. off (subst (λ (i : ℕ). stands_in (s.edges x) i ≡ true) same old.on)
      in
      record {
        life = old.life ∙ ap (λ (n : Node). n.tag) (sym (put_other e.life.index v s.node l.index apart));
        on = subst (λ (xs : List ℕ). stands_in xs l.index ≡ true)
            (sym (put_other e.life.index [] (λ y. unlinked_from e.life.index (s.edges y)) x not_x))
            (unlinked_keeps e.life.index l.index (s.edges x) old.on apart);
      }

  unlink_stands : e.kind ≡ UnlinkVertex → AllowedAs UnlinkVertex sizes past e → StandsAll (past ++ e ∷ [])
      (state_by UnlinkVertex sizes e (state sizes past)) x
  unlink_stands is ok l link h from stays =
      let s : State = state sizes past in
      let other = not_this past e l (ap unlinks is) stays in
      stands_still s (state_by UnlinkVertex sizes e s) x l (same_tag UnlinkVertex tt sizes e s l.index) refl
      (c l link (sym (link_skip past e (ap links_edge is) l) ∙ h) (from ∙ still_life UnlinkVertex tt sizes e s x)
      (sym (unlinked_other past e l other) ∙ stays))

  -- by the kind
  pub stands_after : (k : Kind) → e.kind ≡ k → AllowedAs k sizes past e →
      (k ≡ PopFree → (x ≢ e.life.index) × (stands_in ((state sizes past).edges x) e.life.index ≡ true → ⊥)) → StandsAll
      (past ++ e ∷ []) (state_by k sizes e (state sizes past)) x
  stands_after PopFree is ok apart l link h from stays = pop_stands is ok (apart refl).0
      (apart refl).1 l link h from stays
  stands_after ReplaceEdge is ok apart l link h from stays = replace_stands is ok l link h from stays
  stands_after LinkEdge is ok apart l link h from stays = link_stands is ok l link h from stays
  stands_after UnlinkEdge is ok apart l link h from stays = cut_stands is ok l link h from stays
  stands_after UnlinkVertex is ok apart l link h from stays = unlink_stands is ok l link h from stays
  stands_after k is ok apart l link h from stays =
      let s : State = state sizes past in
      stands_still s (state_by k sizes e s) x l (same_tag k tt sizes e s l.index) refl
      (c l link (sym (link_skip past e (ap links_edge is) l) ∙ h) (from ∙ still_life k tt sizes e s x)
      (sym (unlinked_skip past e (ap unlinks is) l) ∙ stays))

-- no edge has a vertex as its source that is linked now
new_stands : (sizes : Sizes) → IsLayout sizes → (past : List Event) (e : Event) → IsKept sizes past
    → e.kind ≡ LinkVertex → AllowedAs LinkVertex sizes past e → (x : ℕ) → x ≡ e.life.index → StandsAll past
    (state sizes past) x
new_stands sizes z past e kept is ok x same l link h from stays =
    let s : State = state sizes past in
    let this : life_of x (s.node x) ≡ e.life = sym (life_is e.life x (s.node x).tag (sym same)
    (ok.life ∙ ap (λ (i : ℕ). (s.node i).tag) (sym same))) in
    absurd (((new_vertex sizes z past e kept is ok).unnamed l link h).0 (from ∙ this))

all_edges_step : (sizes : Sizes) → IsLayout sizes → KeepsIn sizes
    (λ (j : List Event) (s : State) (w : ℕ → ℕ). AllEdges sizes j s)
all_edges_step sizes z past e kept c LinkVertex is ok w a = record {
  each = λ x o. stands_after sizes z past e kept x (⊎_elim (λ (b : IsOpenIn sizes (state sizes past) x). c.each x b)
      (λ (same : x ≡ e.life.index). new_stands sizes z past e kept is ok x same)
      (open_linked sizes z past e kept ok x o)) LinkVertex is ok (λ p. absurd (cc));
}
all_edges_step sizes z past e kept c PopFree is ok w a = record {
  each = λ x o.
      let s : State = state sizes past in
      let b = open_before sizes z past e kept PopFree tt ok x o in
      let free = (taken sizes z past e kept ok).free in
      stands_after sizes z past e kept x (c.each x b) PopFree is ok
      (λ _. (
        (λ same. subst IsUsed (ap (λ (i : ℕ). (s.node i).mode) same ∙ free) b.used),
        (λ t.
            let f = popped_not sizes s.node s.edges s.frozen (listing sizes z past kept) e.life.index
            (record (s.node e.life.index) {
              mode = Fresh;
              who = e.caller;
              tag = e.life.tag;
              marked = false;
              stored =
                  false;
            }) free refl x b in absurd (cc)),
      ));
}
all_edges_step sizes z past e kept c k is ok w a = record {
  each = λ x o. stands_after sizes z past e kept x
      (c.each x (open_before sizes z past e kept k tt ok x o)) k is ok (λ p. absurd (cc));
}

pub all_edges : (sizes : Sizes) → IsLayout sizes → (journal : List Event) → IsKept sizes journal
    → AllEdges sizes journal (state sizes journal)
all_edges sizes z journal kept = all_in sizes (λ (j : List Event) (s : State) (w : ℕ → ℕ). AllEdges sizes j s)
    (all_edges_step sizes z) (record { each = λ x o. absurd (o.used) }) journal kept

-- the lives on a list are those that were linked as edges of its vertex's life, and not unlinked
pub edge_of : (sizes : Sizes) → IsLayout sizes → (journal : List Event) → IsKept sizes journal → (x : ℕ)
    → HasList sizes journal x → (l : Life) → IsInList sizes journal x l → IsEdgeOf journal (life_in sizes journal x) l
edge_of sizes z journal kept x has l i =
    let c = listing sizes z journal kept in
    let d = c.on x l.index i.on in
    let used : IsUsed (node_in sizes journal l.index).mode = ⊎_elim
    (λ (m : (node_in sizes journal l.index).mode ≡ Linked). subst IsUsed (sym m) tt)
    (λ (m : (node_in sizes journal l.index).mode ≡ Spent). subst IsUsed (sym m) tt)
    (open_mode sizes (state sizes journal).node (state sizes journal).edges (state sizes journal).frozen x l.index c
    (has_open sizes journal x has) i.on) in
    let n = ((named sizes z journal kept).each l.index i.there).edge_link used d.edge in
    let this : l ≡ life_of l.index (node_in sizes journal l.index) = life_is l l.index
    (node_in sizes journal l.index).tag refl i.life in
    record {
      link = n.link;
      is = ap (link_of journal) this ∙ n.is;
      from = n.from ∙ life_is (node_in sizes journal l.index).source x (node_in sizes journal x).tag d.index d.life;
      stays = ap (unlinked journal) this ∙ (not_cut sizes z journal kept).on x l.index i.on;
    }

pub of_edge : (sizes : Sizes) → IsLayout sizes → (journal : List Event) → IsKept sizes journal → (x : ℕ)
    → HasList sizes journal x → (l : Life) → IsEdgeOf journal (life_in sizes journal x) l → IsInList sizes journal x l
of_edge sizes z journal kept x has l f =
    let h = (all_edges sizes z journal kept).each x (has_open sizes journal x has) l f.link f.is f.from f.stays in
    record { there = ((listing sizes z journal kept).on x l.index h.on).there; life = h.life; on = h.on }

-- the key of an edge on a list is that with which it was linked
list_key : (sizes : Sizes) → IsLayout sizes → (journal : List Event) → IsKept sizes journal → (x : ℕ)
    → HasList sizes journal x → (l : Life) (f : IsEdgeOf journal (life_in sizes journal x) l) →
    (edge_chain sizes journal x).key l.index ≡ f.link.key
list_key sizes z journal kept x has l f =
    let c = listing sizes z journal kept in
    let i = of_edge sizes z journal kept x has l f in
    let d = c.on x l.index i.on in
    let used : IsUsed (node_in sizes journal l.index).mode = ⊎_elim
    (λ (m : (node_in sizes journal l.index).mode ≡ Linked). subst IsUsed (sym m) tt)
    (λ (m : (node_in sizes journal l.index).mode ≡ Spent). subst IsUsed (sym m) tt)
    (open_mode sizes (state sizes journal).node (state sizes journal).edges (state sizes journal).frozen x l.index c
    (has_open sizes journal x has) i.on) in
    let n = ((named sizes z journal kept).each l.index i.there).edge_link used d.edge in
    let this : l ≡ life_of l.index (node_in sizes journal l.index) = life_is l l.index
    (node_in sizes journal l.index).tag refl i.life in
    let which : n.link ≡ f.link = some_is n.link f.link (sym n.is ∙ (ap (link_of journal) (sym this) ∙ f.is)) in
    (((contents sizes z journal kept).each l.index i.there).edge used d.edge).key_word ∙
    (sym n.of_key ∙ ap (λ (e : Event). e.key) which)

same_node : (x y : ℕ) → Next x ≡ Next y → x ≡ y
same_node x y e = cc

-- the mark of an edge on a list is that of its node
list_mark : (sizes : Sizes) → IsLayout sizes → (journal : List Event) → IsKept sizes journal → (x : ℕ)
    → HasList sizes journal x → (l : Life) → IsInList sizes journal x l → edge_marked journal l ≡ false → mark_of
    (word_at sizes journal (link_at sizes l.index)) ≡ 0
list_mark sizes z journal kept x has l i live =
    let c = listing sizes z journal kept in
    let d = c.on x l.index i.on in
    let used : IsUsed (node_in sizes journal l.index).mode = ⊎_elim
    (λ (m : (node_in sizes journal l.index).mode ≡ Linked). subst IsUsed (sym m) tt)
    (λ (m : (node_in sizes journal l.index).mode ≡ Spent). subst IsUsed (sym m) tt)
    (open_mode sizes (state sizes journal).node (state sizes journal).edges (state sizes journal).frozen x l.index c
    (has_open sizes journal x has) i.on) in
    let this : l ≡ life_of l.index (node_in sizes journal l.index) = life_is l l.index
    (node_in sizes journal l.index).tag refl i.life in
    (used_link sizes z journal kept l.index i.there used).1
    ∙ ap mark_bit (sym (((named sizes z journal kept).each l.index i.there).edge_mark used d.edge) ∙
    (ap (edge_marked journal) (sym this) ∙ live))

-- of two edges of one key on a list that isn't frozen to its end, one that stands before the other is marked and older
list_older : (sizes : Sizes) → IsLayout sizes → (journal : List Event) → IsKept sizes journal → (x : ℕ)
    → HasList sizes journal x → (k l : Life) → IsInList sizes journal x k → IsInList sizes journal x l →
    (edge_chain sizes journal x).key k.index ≡ (edge_chain sizes journal x).key l.index
    → Precedes (edge_chain sizes journal x) (Next k.index) (Next l.index) → IsOlder sizes journal k l
list_older sizes z journal kept x has k l i j keys low = record {
  marked = yes_no (edge_marked journal k ≡ true) (edge_marked journal k) (λ t. t)
      (λ f.
      let rises = rises_behind (edge_chain sizes journal x) (Next k.index) (Next l.index)
      ((lists sizes z journal kept).each x (has_open sizes journal x has)).chain i.on j.on
      (list_mark sizes z journal kept x has k i f) low in
      absurd (omega (arith, rises, keys)));
  before = ⊎_elim {A = rank_of (edge_chain sizes journal x) (Next k.index) < rank_of (edge_chain sizes journal x)
      (Next l.index)} (λ less. absurd (omega (arith, less, keys))) (λ same. same.1) low;
}

-- of two edges of one source and one key, on a list that isn't frozen to its end, one is marked and older
pub one_listed : (sizes : Sizes) → IsLayout sizes → (journal : List Event) → IsKept sizes journal → (x : ℕ)
    → HasList sizes journal x → (k l : Life) (a : IsEdgeOf journal (life_in sizes journal x) k)
    (b : IsEdgeOf journal (life_in sizes journal x) l) → a.link.key ≡ b.link.key
    → (k ≡ l) ⊎ IsOlder sizes journal k l ⊎ IsOlder sizes journal l k
one_listed sizes z journal kept x has k l a b same =
    let i = of_edge sizes z journal kept x has k a in
    let j = of_edge sizes z journal kept x has l b in
    let keys : (edge_chain sizes journal x).key k.index ≡ (edge_chain sizes journal x).key l.index = list_key sizes z
    journal kept x has k a ∙ (same ∙ sym (list_key sizes z journal kept x has l b)) in
    by_order (edge_chain sizes journal x) (Next k.index) (Next l.index)
    ((lists sizes z journal kept).each x (has_open sizes journal x has)).chain i.on j.on
    (λ e. let at : k.index ≡ l.index = same_node k.index l.index e in inl
    (λ n. record {
      index = at n;
      tag = (i.life ∙ (ap (λ (y : ℕ). (node_in sizes journal y).tag) at ∙ sym j.life)) n;
    }))
    (λ low. inr (inl (list_older sizes z journal kept x has k l i j keys low)))
    (λ high. inr (inr (list_older sizes z journal kept x has l k j i (sym keys) high)))

-- a present edge is its node's life, linked, and on the list of its source
pub record IsPresentEdge (sizes : Sizes) (journal : List Event) (l : Life) : Type 0 where
  pub there : l.index < sizes.nodes
  pub life : l.tag ≡ (node_in sizes journal l.index).tag
  pub linked : IsLinkedEdge sizes journal l.index
  pub at : IsAtSource sizes journal l.index

pub present_edge : (sizes : Sizes) → IsLayout sizes → (journal : List Event) → IsKept sizes journal → (l : Life)
    (link : Event) → link_of journal l ≡ Some link → edge_marked journal l ≡ false → IsPresentEdge sizes journal l
present_edge sizes z journal kept l link is unmarked =
    let h = (live_edges sizes z journal kept).live l link is unmarked in
    let there = used_there sizes journal l.index kept (λ m. let n = h.linked in absurd (cc)) in
    let e : IsLinkedEdge sizes journal l.index = record { linked = h.linked; edge = h.edge } in
    record { there = there; life = h.life; linked = e; at = (sources sizes z journal kept).each l.index there e }

-- the source of a present edge has a list, in the life that was the edge's source
pub record IsSourceOf (sizes : Sizes) (journal : List Event) (source : Life) : Type 0 where
  pub list : HasList sizes journal source.index
  pub life : source ≡ life_in sizes journal source.index

pub present_source : (sizes : Sizes) → IsLayout sizes → (journal : List Event) → IsKept sizes journal → (l : Life)
    (link : Event) → link_of journal l ≡ Some link → edge_marked journal l ≡ false
    → IsSourceOf sizes journal link.source
present_source sizes z journal kept l link is unmarked =
    let p = present_edge sizes z journal kept l link is unmarked in
    let v : Node = node_in sizes journal l.index in
    let n = ((named sizes z journal kept).each l.index p.there).edge_link
    (subst IsUsed (sym p.linked.linked) tt) p.linked.edge in
    let which : n.link ≡ link = some_is n.link link (sym n.is ∙
    (ap (link_of journal) (sym (life_is l l.index v.tag refl p.life)) ∙ is)) in
    let same : v.source ≡ link.source = sym n.from ∙ ap (λ (e : Event). e.source) which in
    subst (IsSourceOf sizes journal) same record {
      list = p.at.list;
      life = life_is v.source v.source.index
          (node_in sizes journal v.source.index).tag refl p.at.life;
    }

-- of two edges of one source and one key of which one isn't marked, the other is marked and older
pub one_unmarked : (sizes : Sizes) → IsLayout sizes → (journal : List Event) → IsKept sizes journal →
    (source k l : Life) (a : IsEdgeOf journal source k) (b : IsEdgeOf journal source l) → a.link.key ≡ b.link.key
    → edge_marked journal k ≡ false
    → (k ≡ l) ⊎ IsOlder sizes journal l k
one_unmarked sizes z journal kept source k l a b same unmarked =
    let s : IsSourceOf sizes journal source = subst (IsSourceOf sizes journal) a.from
    (present_source sizes z journal kept k a.link a.is unmarked) in
    ⊎_elim (λ (e : k ≡ l). inl e)
    (λ (o : IsOlder sizes journal k l ⊎ IsOlder sizes journal l k). ⊎_elim
    (λ (h : IsOlder sizes journal k l). let m = h.marked in absurd (cc))
    (λ (h : IsOlder sizes journal l k). inr h) o)
    (one_listed sizes z journal kept source.index s.list k l
    record { link = a.link; is = a.is; from = a.from ∙ s.life; stays = a.stays }
    record { link = b.link; is = b.is; from = b.from ∙ s.life; stays = b.stays } same)

-- a present edge wasn't unlinked
pub edge_present : (sizes : Sizes) → IsLayout sizes → (journal : List Event) → IsKept sizes journal → (l : Life)
    (link : Event) → link_of journal l ≡ Some link → edge_marked journal l ≡ false → IsEdgeOf journal link.source l
edge_present sizes z journal kept l link is unmarked =
    let p = present_edge sizes z journal kept l link is unmarked in
    record { link = link; is = is; from = refl; stays = linked_stays sizes z journal kept l p.life p.linked.linked }

-- two present edges of one source and one key are one
pub one_present_edge : (sizes : Sizes) → IsLayout sizes → (journal : List Event) → IsKept sizes journal → (k l : Life)
    (a b : Event) → link_of journal k ≡ Some a → link_of journal l ≡ Some b → a.source ≡ b.source → a.key ≡ b.key
    → edge_marked journal k ≡ false → edge_marked journal l ≡ false → k ≡ l
one_present_edge sizes z journal kept k l a b is_a is_b from same u v =
    let e = edge_present sizes z journal kept k a is_a u in
    let f = edge_present sizes z journal kept l b is_b v in
    ⊎_elim (λ (e : k ≡ l). e) (λ (o : IsOlder sizes journal l k). let m = o.marked in absurd (cc))
    (one_unmarked sizes z journal kept a.source k l record { link = a; is = is_a; from = refl; stays = e.stays } record
    { link = b; is = is_b; from = sym from; stays = f.stays } same u)
