-- The list of a vertex that a caller spent stays one while others act.
use Rattle.std.proofs.Common.{◌≡◌, ◌≢◌, ℕ, ◌+◌, ◌<◌, ◌≤◌, true, false, List, [], ◌∷◌, ◌++◌, Option, Some, None, length}
use Rattle.std.proofs.Common.{refl, sym, ap, ◌∙◌, subst}
use Rattle.graph_kinds.specs.Levels.{stands_in}
use Rattle.packed_link.specs.Layout.{Sizes, IsLayout}
use Rattle.packed_link.specs.declared.link.Life.{Life}
use Rattle.core_journal.specs.declared.event.Kind.{Kind}
use Rattle.core_journal.specs.declared.event.Kind.TheVariants.{PopFree, LinkVertex, MarkVertex, UnlinkVertex, LinkEdge}
use Rattle.core_journal.specs.declared.event.Kind.TheVariants.{MarkEdge, UnlinkEdge, FreezeHead, FreezeEdge, StoreFree}
use Rattle.core_journal.specs.declared.event.Kind.TheVariants.{PushFree, ReplaceEdge}
use Rattle.core_journal.specs.declared.event.Event.{Event}
use Rattle.core_journal.specs.Event.{same_life, links_edge}
use Rattle.core_journal.specs.Life.{link_of, unlinked}
use Rattle.core_journal.specs.Prefix.{IsPrefix}
use Rattle.core_journal.specs.State.{Linked, Spent, Node, State, put, handed, state_by, state}
use Rattle.core_journal.proofs.KeptLives.{link_more, unlinked_more}
use Rattle.core_journal.proofs.Snoc.{same_is, link_skip, link_else}
use Rattle.core_journal.proofs.States.{state-snoc}
use Rattle.core_kept.specs.Kept.{Allowed, AllowedAs, IsKept, IsQuiet}
use Rattle.core_kept.specs.Nodes.{node_in, IsUsed, is_listed}
use Rattle.core_kept.specs.Freezing.{IsSpentVertex}
use Rattle.core_lists.specs.Chains.{life_in, IsEdgeOf, KeepsList}
use Rattle.core_kept.proofs.Induction.{kept_beyond}
use Rattle.core_kept.proofs.ByKind.{put_case, put_same, put_other, handed_case, marked_state, closed_state}
use Rattle.core_kept.proofs.LinkWords.{link_words, taken}
use Rattle.core_kept.proofs.LinkedVertices.{life_of}
use Rattle.core_lists.proofs.ListHolds.{part_listed, handed_split}
use Rattle.core_lists.proofs.ListHoldsKept.{listing}
use Rattle.core_lists.proofs.FrozenToEndIsList.{IsHeldIn, kept_lives}
use Rattle.core_lists.proofs.PartSpender.{spenders}
use Rattle.core_kept.proofs.NodesOnLists.{yes_no}
use Rattle.core_kept.proofs.ReplaceCases.{replaced_case}

-- a caller's spent vertex and its list
record IsOwnList (sizes : Sizes) (caller x tag : ℕ) (journal : List Event) (s : State) : Type 0 where
  pub there : x < sizes.nodes
  pub spent : (s.node x).mode ≡ Spent
  pub vertex : (s.node x).vertex ≡ true
  pub mine : (s.node x).who ≡ caller
  pub life : (s.node x).tag ≡ tag
  pub edges : (l : Life) (link : Event) → link_of journal l ≡ Some link → link.source ≡ life_of x (s.node x)
      → unlinked journal l ≡ false → IsHeldIn s l

-- a vertex is in the same state, life and hands
record IsSameVertex (v v' : Node) : Type 0 where
  pub mode : v'.mode ≡ v.mode
  pub vertex : v'.vertex ≡ v.vertex
  pub who : v'.who ≡ v.who
  pub tag : v'.tag ≡ v.tag

same_vertex : (v v' : Node) → v' ≡ v → IsSameVertex v v'
same_vertex v v' is = record {
  mode = ap (λ (n : Node). n.mode) is;
  vertex = ap (λ (n : Node). n.vertex) is;
  who = ap
      (λ (n : Node). n.who) is;
  tag = ap (λ (n : Node). n.tag) is;
}

module _ (sizes : Sizes) (z : IsLayout sizes) (past : List Event) (e : Event) (kept : IsKept sizes past)
    (caller x tag : ℕ) (c : IsOwnList sizes caller x tag past (state sizes past))
    (unstored : e.kind ≡ StoreFree → stands_in ((state sizes past).edges x) e.life.index ≡ true → ⊥)
    (unpushed : e.kind ≡ PushFree → x ≢ e.life.index) where
  as_keeps : KeepsList sizes past x
  as_keeps = record {
    there = c.there;
    used = subst IsUsed (sym c.spent) tt;
    vertex = c.vertex;
    edges = λ y f. let h = c.edges y f.link f.is f.from f.stays in record
        { life = h.life; used = h.used; unstored = h.unstored };
  }

  -- a node in another state is another
  apart_mode : (i : ℕ) → (node_in sizes past i).mode ≢ Spent → x ≢ i
  apart_mode i ne same = ne (ap (λ (j : ℕ). (node_in sizes past j).mode) (sym same) ∙ c.spent)

  not_handed : (s : State) (v : ℕ) → ((y : ℕ) → s.edges y ≡ (state sizes past).edges y)
      → s.node x ≡ node_in sizes past x → (handed v s).node x ≡ node_in sizes past x
  not_handed s v lists is = handed_split (λ (n : Node). n ≡ node_in sizes past x) s v x (λ _. is)
      (λ at _. let b = ((listing sizes z past kept).on v x (subst (λ (l : List ℕ). stands_in l x ≡ true) (lists v)
      (part_listed s.node s.edges s.frozen v x at))).edge in let t = c.vertex in absurd (cc))

  -- so the vertex stays in its state and its life
  own_still : (k : Kind) → e.kind ≡ k → AllowedAs k sizes past e → IsSameVertex (node_in sizes past x)
      ((state_by k sizes e (state sizes past)).node x)
  own_still PopFree is ok = same_vertex (node_in sizes past x) _
      (put_other e.life.index _ (state sizes past).node x (apart_mode e.life.index
      (λ m. let f = (taken sizes z past e kept ok).free in absurd (cc))))
  own_still LinkVertex is ok = same_vertex (node_in sizes past x) _
      (put_other e.life.index _ (state sizes past).node x (apart_mode e.life.index
      (λ m. let f = ok.fresh.fresh in absurd (cc))))
  own_still LinkEdge is ok = same_vertex (node_in sizes past x) _
      (put_other e.life.index _ (state sizes past).node x (apart_mode e.life.index
      (λ m. let f = ok.fresh.fresh in absurd (cc))))
  own_still MarkVertex is ok = same_vertex (node_in sizes past x) _
      (put_other e.life.index _ (state sizes past).node x (apart_mode e.life.index
      (λ m. let f = ok.linked.linked in absurd (cc))))
  own_still UnlinkVertex is ok = same_vertex (node_in sizes past x) _
      (put_other e.life.index _ (state sizes past).node x (apart_mode e.life.index
      (λ m. let f = ok.linked.linked in absurd (cc))))
  own_still UnlinkEdge is ok = same_vertex (node_in sizes past x) _
      (put_other e.life.index _ (state sizes past).node x (apart_mode e.life.index
      (λ m. let f = ok.linked.linked in absurd (cc))))
  own_still StoreFree is ok = put_case (λ (n : Node). IsSameVertex (node_in sizes past x) n) e.life.index _
      (state sizes past).node x
      (λ same. subst (λ (j : ℕ). IsSameVertex (node_in sizes past j)
      (record (node_in sizes past e.life.index) { stored = true }))
      (sym same) record { mode = refl; vertex = refl; who = refl; tag = refl })
      (λ _. same_vertex (node_in sizes past x) (node_in sizes past x) refl)
  own_still PushFree is ok = same_vertex (node_in sizes past x) _
      (put_other e.life.index _ (state sizes past).node x (unpushed is))
  own_still ReplaceEdge is ok =
      let s : State = state sizes past in
      let at : (marked_state s e.old.index).node x ≡ s.node x = put_other e.old.index
      (record (s.node e.old.index) { marked = true }) s.node x
      (apart_mode e.old.index (λ m. let f = ok.linked.linked in absurd (cc))) in
      replaced_case sizes z past e kept ok (λ (n : Node). IsSameVertex (node_in sizes past x) n) x
      (λ same. absurd (apart_mode e.life.index (λ m. let f = ok.fresh.fresh in absurd (cc)) same))
      (λ _. same_vertex (node_in sizes past x) ((marked_state s e.old.index).node x) at)
      (λ _ l _ _. let m : Linked ≡ Spent = sym l ∙ (ap (λ (n : Node). n.mode) at ∙ c.spent) in absurd (cc))
  own_still MarkEdge is ok = same_vertex (node_in sizes past x) _
      (not_handed (marked_state (state sizes past) e.life.index) (node_in sizes past e.life.index).source.index
      (λ _. refl) (put_other e.life.index _ (state sizes past).node x
      (apart_mode e.life.index (λ m. let f = ok.linked.linked in absurd (cc)))))
  own_still FreezeEdge is ok = same_vertex (node_in sizes past x) _
      (not_handed (marked_state (state sizes past) e.life.index) (node_in sizes past e.life.index).source.index
      (λ _. refl) (put_other e.life.index _ (state sizes past).node x
      (apart_mode e.life.index (λ m. let f = ok.linked.linked in absurd (cc)))))
  own_still FreezeHead is ok = same_vertex (node_in sizes past x) _
      (not_handed (closed_state (state sizes past) e.life.index) e.life.index (λ _. refl) refl)
  own_still _ is ok = same_vertex (node_in sizes past x) _ (refl)

  module _ (l : Life) (h : IsHeldIn (state sizes past) l) (on : stands_in ((state sizes past).edges x) l.index ≡ true)
    where
      put_held : (i : ℕ) (v : Node) → (l.index ≡ i → (v.tag ≡ (node_in sizes past i).tag) × IsUsed v.mode ×
          (v.stored ≡ (node_in sizes past i).stored)) → (s' : State) → s'.node l.index ≡ put i v
          (state sizes past).node l.index → IsHeldIn s' l
      put_held i v same s' is =
          let q = put_case (λ (n : Node). (l.tag ≡ n.tag) × IsUsed n.mode × (n.stored ≡ false)) i v
          (state sizes past).node l.index
          (λ at. let r = same at in (
            h.life ∙ (ap (λ (j : ℕ). (node_in sizes past j).tag) at ∙ sym r.0),
            r.1,
            r.2 ∙
                (ap (λ (j : ℕ). (node_in sizes past j).stored) (sym at) ∙ h.unstored),
          ))
          (λ _. (h.life, h.used, h.unstored)) in
          record {
            life = q.0 ∙ ap (λ (n : Node). n.tag) (sym is);
            used = subst (λ (n : Node). IsUsed n.mode)
                (sym is) q.1;
            unstored = ap (λ (n : Node). n.stored) is ∙ q.2;
          }

      handed_held : (s : State) (v : ℕ) → IsHeldIn s l → IsHeldIn (handed v s) l
      handed_held s v d =
          let q = handed_case (λ (n : Node). (l.tag ≡ n.tag) × IsUsed n.mode × (n.stored ≡ false)) s v l.index
          (d.life, d.used, d.unstored) (λ _ _ _. (d.life, tt, d.unstored)) in
          record { life = q.0; used = q.1; unstored = q.2 }

      not_used : (i : ℕ) → (IsUsed (node_in sizes past i).mode → ⊥) → l.index ≢ i
      not_used i none same = none (subst (λ (j : ℕ). IsUsed (node_in sizes past j).mode) same h.used)

      held_after : (k : Kind) → e.kind ≡ k → AllowedAs k sizes past e →
          IsHeldIn (state_by k sizes e (state sizes past)) l
      held_after PopFree is ok = put_held e.life.index _ (λ same. absurd
          (not_used e.life.index (λ u. subst IsUsed (taken sizes z past e kept ok).free u) same))
          (state_by PopFree sizes e (state sizes past)) refl
      held_after LinkVertex is ok = put_held e.life.index _ (λ same. absurd
          (not_used e.life.index (λ u. subst IsUsed ok.fresh.fresh u) same))
          (state_by LinkVertex sizes e (state sizes past)) refl
      held_after LinkEdge is ok = put_held e.life.index _ (λ same. absurd
          (not_used e.life.index (λ u. subst IsUsed ok.fresh.fresh u) same))
          (state_by LinkEdge sizes e (state sizes past)) refl
      held_after MarkVertex is ok = put_held e.life.index _
          (λ same. (refl, subst IsUsed (sym ok.linked.linked) tt, refl))
          (state_by MarkVertex sizes e (state sizes past)) refl
      held_after UnlinkVertex is ok = put_held e.life.index _ (λ same. (refl, tt, refl))
          (state_by UnlinkVertex sizes e (state sizes past)) refl
      held_after UnlinkEdge is ok = put_held e.life.index _ (λ same. (refl, tt, refl))
          (state_by UnlinkEdge sizes e (state sizes past)) refl
      held_after StoreFree is ok = put_held e.life.index _ (λ same. absurd
          (unstored is (subst (λ (j : ℕ). stands_in ((state sizes past).edges x) j ≡ true) same on)))
          (state_by StoreFree sizes e (state sizes past)) refl
      held_after PushFree is ok = put_held e.life.index _ (λ same. let f :
          (node_in sizes past e.life.index).stored ≡ false = ap (λ (j : ℕ). (node_in sizes past j).stored) (sym same)
          ∙ h.unstored in let t = ok.stored in absurd (cc)) (state_by PushFree sizes e (state sizes past)) refl
      held_after ReplaceEdge is ok =
          let s : State = state sizes past in
          let m = put_case (λ (n : Node). (l.tag ≡ n.tag) × IsUsed n.mode × (n.stored ≡ false)) e.old.index
          (record (s.node e.old.index) { marked = true }) s.node l.index
          (λ at. (
            h.life ∙ ap (λ (j : ℕ). (s.node j).tag) at,
            subst (λ (j : ℕ). IsUsed (s.node j).mode) at h.used,
            ap
                (λ (j : ℕ). (s.node j).stored) (sym at) ∙ h.unstored,
          ))
          (λ _. (h.life, h.used, h.unstored)) in
          let q = replaced_case sizes z past e kept ok (λ (n : Node). (l.tag ≡ n.tag) × IsUsed n.mode ×
          (n.stored ≡ false)) l.index
          (λ same. absurd (not_used e.life.index (λ u. subst IsUsed ok.fresh.fresh u) same)) (λ _. m)
          (λ _ _ _ _. (m.0, tt, m.2)) in
          record { life = q.0; used = q.1; unstored = q.2 }
      held_after MarkEdge is ok = handed_held (marked_state (state sizes past) e.life.index)
          (node_in sizes past e.life.index).source.index (put_held e.life.index _
          (λ same. (refl, subst IsUsed (sym ok.linked.linked) tt, refl))
          (marked_state (state sizes past) e.life.index) refl)
      held_after FreezeEdge is ok = handed_held (marked_state (state sizes past) e.life.index)
          (node_in sizes past e.life.index).source.index (put_held e.life.index _
          (λ same. (refl, subst IsUsed (sym ok.linked.linked) tt, refl))
          (marked_state (state sizes past) e.life.index) refl)
      held_after FreezeHead is ok = handed_held (closed_state (state sizes past) e.life.index) e.life.index record
          { life = h.life; used = h.used; unstored = h.unstored }
      held_after _ is ok = record { life = h.life; used = h.used; unstored = h.unstored }

  -- an edge that is linked next is held
  new_held : (k : Kind) → links_edge k ≡ true → AllowedAs k sizes past e → IsHeldIn
      (state_by k sizes e (state sizes past)) e.life
  new_held LinkEdge is ok =
      let v : Node = record (node_in sizes past e.life.index) {
        mode = Linked;
        vertex = false;
        key = e.key;
        source = e.source;
        target = e.target;
        weight = e.weight;
        since =
            (state sizes past).count + 1;
      } in
      let at = put_same e.life.index v (state sizes past).node in
      record {
        life = ok.life ∙ ap (λ (n : Node). n.tag) (sym at);
        used = subst (λ (n : Node). IsUsed n.mode) (sym at) tt;
        unstored = ap (λ (n : Node). n.stored) at ∙ (((link_words sizes z past kept).each e.life.index
            ok.there).unmarked ok.fresh.fresh).1;
      }
  new_held ReplaceEdge is ok =
      let q = replaced_case sizes z past e kept ok (λ (n : Node). (e.life.tag ≡ n.tag) × IsUsed n.mode ×
      (n.stored ≡ false)) e.life.index
      (λ _. (ok.life, tt, (((link_words sizes z past kept).each e.life.index ok.there).unmarked ok.fresh.fresh).1))
      (λ ne. absurd (ne refl)) (λ ne _ _ _. absurd (ne refl)) in
      record { life = q.0; used = q.1; unstored = q.2 }
  new_held _ is ok = absurd (cc)

  own_edge : (k : Kind) → e.kind ≡ k → AllowedAs k sizes past e → (l : Life) (link : Event) → link_of
      (past ++ e ∷ []) l ≡ Some link → link.source ≡ life_of x (node_in sizes past x) → unlinked
      (past ++ e ∷ []) l ≡ false → IsHeldIn (state_by k sizes e (state sizes past)) l
  own_edge k is ok l link h from stays = by (link_of past l) refl
    where
      value : (a b : Event) → Some a ≡ Some b → a ≡ b
      value a b p = cc

      was : unlinked past l ≡ false
      was = yes_no (unlinked past l ≡ false) (unlinked past l)
          (λ t. let u = unlinked_more past (e ∷ []) l t in absurd (cc)) (λ f. f)

      by : (o : Option Event) → link_of past l ≡ o → IsHeldIn (state_by k sizes e (state sizes past)) l
      by (Some d) q =
          let same : d ≡ link = value d link (sym (link_more past (e ∷ []) l d q) ∙ h) in
          let f : IsEdgeOf past (life_in sizes past x) l = record
          { link = d; is = q; from = ap (λ (y : Event). y.source) same ∙ from; stays = was } in
          let i = (kept_lives sizes z past kept x as_keeps l).1 f in
          held_after l (c.edges l d q f.from was) i.on k is ok
      by None q = yes_no (IsHeldIn (state_by k sizes e (state sizes past)) l) (same_life l e.life)
          (λ one. yes_no (IsHeldIn (state_by k sizes e (state sizes past)) l) (links_edge k)
          (λ links. subst (IsHeldIn (state_by k sizes e (state sizes past))) (sym (same_is l e.life one))
          (new_held k links ok))
          (λ none. let t = sym q ∙ (sym (link_skip past e (ap links_edge is ∙ none) l) ∙ h) in absurd (cc)))
          (λ else. let t = sym q ∙ (sym (link_else past e l else) ∙ h) in absurd (cc))

  own_step : (k : Kind) → e.kind ≡ k → AllowedAs k sizes past e → IsOwnList sizes caller x tag (past ++ e ∷ [])
      (state_by k sizes e (state sizes past))
  own_step k is ok =
      let same = own_still k is ok in record {
        there = c.there;
        spent = same.mode ∙ c.spent;
        vertex = same.vertex ∙ c.vertex;
        mine = same.who ∙ c.mine;
        life = same.tag ∙ c.life;
        edges = λ l link h from stays. own_edge k is ok l link h
            (from ∙ ap (λ (t : ℕ). record { index = x; tag = t }) same.tag) stays;
      }

-- a node that another caller stores for the free list or gives back is spent with that caller: it's neither the vertex
-- nor an edge
-- of its list
module _ (sizes : Sizes) (z : IsLayout sizes) (past : List Event) (e : Event) (kept : IsKept sizes past)
    (caller x tag : ℕ) (c : IsOwnList sizes caller x tag past (state sizes past)) (ok : Allowed sizes past e)
    (other : e.caller ≢ caller) where
  not_stored : e.kind ≡ StoreFree → stands_in ((state sizes past).edges x) e.life.index ≡ true → ⊥
  not_stored is on =
      let ripe = (subst (λ (k : Kind). AllowedAs k sizes past e) is ok.as_kind).ripe in
      let who = ((spenders sizes z past kept).edge x e.life.index
      (subst IsUsed (sym c.spent) tt) c.vertex on ripe.stamped.spent.spent).1 in
      other (sym ripe.stamped.spent.mine ∙ (who ∙ c.mine))

  not_pushed : e.kind ≡ PushFree → x ≢ e.life.index
  not_pushed is same = other (sym (subst (λ (k : Kind). AllowedAs k sizes past e) is ok.as_kind).ripe.stamped.spent.mine
      ∙ (ap (λ (j : ℕ). (node_in sizes past j).who) (sym same) ∙ c.mine))

-- while others act, the list of a vertex that the caller spent stays one
pub own_list_stays : (sizes : Sizes) → IsLayout sizes → (caller last x : ℕ) (front journal : List Event)
    → IsPrefix front journal → IsKept sizes journal → IsQuiet journal caller last → last ≤ length front
    → IsSpentVertex sizes front caller x → KeepsList sizes front x
    → IsSpentVertex sizes journal caller x × KeepsList sizes journal x ×
    ((node_in sizes journal x).tag ≡ (node_in sizes front x).tag)
own_list_stays sizes z caller last x front journal p kept quiet old spent k =
    let P : List Event → Type 0 = λ j. IsOwnList sizes caller x (node_in sizes front x).tag j (state sizes j) in
    let end : P journal = kept_beyond sizes P caller last
    (λ past e before c other ok. subst (IsOwnList sizes caller x (node_in sizes front x).tag (past ++ e ∷ []))
    (sym (state-snoc sizes past e)) (own_step sizes z past e before caller x (node_in sizes front x).tag c
    (not_stored sizes z past e before caller x (node_in sizes front x).tag c ok other)
    (not_pushed sizes z past e before caller x (node_in sizes front x).tag c ok other) e.kind refl ok.as_kind))
    front journal p kept quiet old record {
      there = k.there;
      spent = spent.spent;
      vertex = spent.vertex;
      mine = spent.mine;
      life = refl;
      edges = λ l link is from stays. let d = k.edges l record { link = link; is = is; from = from; stays = stays } in
          record { life = d.life; used = d.used; unstored = d.unstored };
    } in (
      record { spent = end.spent; vertex = end.vertex; mine = end.mine },
      record {
        there = end.there;
        used = subst IsUsed (sym end.spent) tt;
        vertex = end.vertex;
        edges = λ y f. let h = end.edges y f.link f.is f.from f.stays in record
            { life = h.life; used = h.used; unstored = h.unstored };
      },
      end.life,
    )

-- and while the caller stores no edge of it for the free list, and doesn't give the vertex back
pub own_list_steps : (sizes : Sizes) → IsLayout sizes → (past : List Event) (e : Event) (caller x : ℕ)
    → IsKept sizes past → Allowed sizes past e → (e.kind ≡ StoreFree → is_listed
    (state sizes past) x e.life.index ≡ false) → (e.kind ≡ PushFree → e.life.index ≢ x)
    → IsSpentVertex sizes past caller x → KeepsList sizes past x
    → IsSpentVertex sizes (past ++ e ∷ []) caller x × KeepsList sizes (past ++ e ∷ []) x ×
    ((node_in sizes (past ++ e ∷ []) x).tag ≡ (node_in sizes past x).tag)
own_list_steps sizes z past e caller x kept ok unstored unpushed spent k =
    let end : IsOwnList sizes caller x (node_in sizes past x).tag (past ++ e ∷ []) (state sizes (past ++ e ∷ [])) =
    subst (IsOwnList sizes caller x (node_in sizes past x).tag (past ++ e ∷ [])) (sym (state-snoc sizes past e))
    (own_step sizes z past e kept caller x (node_in sizes past x).tag record {
      there = k.there;
      spent = spent.spent;
      vertex = spent.vertex;
      mine = spent.mine;
      life = refl;
      edges = λ l link is from stays. let d = k.edges l record { link = link; is = is; from = from; stays = stays } in
          record { life = d.life; used = d.used; unstored = d.unstored };
    } (λ is t. let f = unstored is in absurd (cc)) (λ is same. unpushed is (sym same)) e.kind refl ok.as_kind) in (
      record { spent = end.spent; vertex = end.vertex; mine = end.mine },
      record {
        there = end.there;
        used = subst IsUsed (sym end.spent) tt;
        vertex = end.vertex;
        edges = λ y f. let h = end.edges y f.link f.is f.from f.stays in record
            { life = h.life; used = h.used; unstored = h.unstored };
      },
      end.life,
    )
