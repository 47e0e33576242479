-- What a token knows by its front makes its steps on closed lists allowed: an edge is frozen, and a link is stored for
-- the free
-- list.
use Rattle.std.proofs.Common.{◌≡◌, ◌≢◌, ℕ, ◌<◌, ◌≤◌, true, List, [], ◌∷◌, ◌++◌, length, inl, inr, refl, sym, ap, ◌∙◌}
use Rattle.std.proofs.Common.{subst, arith, ⊎_elim}
use Rattle.graph_kinds.specs.Levels.{stands_in}
use Rattle.packed_link.specs.Link.{pack, index_of, mark_of, mark_bit, nowhere}
use Rattle.packed_link.specs.Layout.{Sizes, IsLayout, link_at, second_at}
use Rattle.packed_link.specs.declared.link.Life.{Life}
use Rattle.core_chain.specs.Chain.{ChainWord, Head, Next, IsOn}
use Rattle.core_chain.proofs.Orders.{one_leads}
use Rattle.core_journal.specs.declared.event.Kind.{Kind}
use Rattle.core_journal.specs.declared.event.Kind.TheVariants.{PopFree, LinkVertex, MarkVertex, UnlinkVertex, LinkEdge}
use Rattle.core_journal.specs.declared.event.Kind.TheVariants.{MarkEdge, UnlinkEdge, FreezeHead, FreezeEdge, StoreFree}
use Rattle.core_journal.specs.declared.event.Kind.TheVariants.{PushFree, ReplaceEdge}
use Rattle.core_journal.specs.declared.event.Event.{Event}
use Rattle.core_journal.specs.Prefix.{IsPrefix}
use Rattle.core_journal.specs.Machine.{word_at}
use Rattle.core_journal.specs.State.{Mode, Free, Fresh, Linked, Spent, Node, State, put, handed, unlinked_from}
use Rattle.core_journal.specs.State.{joined_edge, state_by, state}
use Rattle.core_journal.proofs.Lists.{prefix_trans, prefix_snoc, prefix_refl}
use Rattle.core_journal.proofs.States.{state-snoc}
use Rattle.core_kept.specs.Facts.{IsKeptSpent}
use Rattle.core_kept.specs.Kept.{AllowedAs, IsKept, IsQuiet}
use Rattle.core_kept.specs.Nodes.{node_in, IsUsed, IsVertex, IsSpentWith, is_listed, is_frozen}
use Rattle.core_kept.specs.Edges.{IsUnlinkEdge}
use Rattle.core_kept.specs.FreeNodes.{IsPushFree, IsStoreFree}
use Rattle.core_kept.specs.Freezing.{IsSpentVertex, IsFrozenWord, IsFreezeEdge}
use Rattle.core_lists.specs.Chains.{list_word, edge_chain, life_in, KeepsList}
use Rattle.core_rule.specs.Fronts.{MayFreezeEdge, MayStoreFree}
use Rattle.core_rule.specs.OwnEvents.{freeze_edge_event, store_free_event}
use Rattle.core_rule.specs.Owes.{Reaches}
use Rattle.core_rule.specs.declared.view.View.{View}
use Rattle.core_kept.proofs.Callers.{quiet_more, quiet_front}
use Rattle.core_lists.proofs.FrozenToEndIsList.{edge_on, kept_leads}
use Rattle.core_lists.proofs.ClosedHeadStays.{finished_stays, part_stays, old_finished}
use Rattle.core_kept.proofs.Contents.{contents}
use Rattle.core_lists.proofs.ListChains.{lists, cut_spot}
use Rattle.core_kept.proofs.Induction.{kept_beyond, kept_front}
use Rattle.core_kept.proofs.LinkWords.{link_words, taken}
use Rattle.core_lists.proofs.ListHolds.{part_listed}
use Rattle.core_kept.proofs.NodesOnLists.{unlinked_keeps, linked_keeps}
use Rattle.core_lists.proofs.ListHoldsKept.{listing, sources, has_open}
use Rattle.core_kept.proofs.MarkedWords.{marked_head_stays}
use Rattle.core_rule.proofs.OwnLifts.{own_spent, still_ripe}
use Rattle.core_kept.proofs.OwnSpent.{spent_stays}
use Rattle.core_kept.proofs.ReplaceCases.{new_edge_node}
use Rattle.core_lists.proofs.PartSpender.{spenders, part_who}
use Rattle.core_kept.proofs.ByKind.{put_case, put_other, handed_case, marked_state, closed_state}

-- a ripe node's link is stored for the free list
pub lift_store_free : (v : View) → IsLayout v.sizes → (next : ℕ) (x : Life) → MayStoreFree v next x →
    (journal : List Event) → Reaches v journal → IsStoreFree v.sizes journal (store_free_event v next x)
lift_store_free v z next x m journal r =
    let s = own_spent v z journal r x.index m.life.there m.ripe.stamped.spent in
    let tag : (node_in v.sizes journal x.index).tag ≡ (node_in v.sizes v.front x.index).tag = ap
    (λ (u : Node). u.tag) s.node in
    let unfresh : (node_in v.sizes v.front x.index).mode ≢ Fresh = λ h. let t = m.ripe.stamped.spent.spent in absurd
    (cc) in
    record {
      life = m.life.tag ∙ sym tag;
      there = m.life.there;
      place = refl;
      next = next;
      next_there = m.next_there;
      word = ap (λ (t : ℕ). pack next 1 t) (m.life.tag ∙ sym tag);
      ripe = still_ripe v z journal r x.index m.ripe;
      own_list = λ h. finished_stays v.sizes z x.index v.front journal r.front r.kept tag
          (m.own_list (sym (ap (λ (u : Node). u.vertex) s.node) ∙ h));
      list = old_finished v.sizes z x.index v.front journal r.front r.kept unfresh tag m.list;
    }

-- a node stands on a list, in this life, and is linked or spent
record IsUsedOn (tag source x : ℕ) (s : State) : Type 0 where
  pub life : (s.node x).tag ≡ tag
  pub used : IsUsed (s.node x).mode
  pub on : is_listed s source x ≡ true

-- a node that is linked or spent, in this life
abbrev IsUsedIn : ℕ → Node → Type 0
IsUsedIn tag v = (v.tag ≡ tag) × IsUsed v.mode

module _ (tag source x : ℕ) where
  in_put : (s : State) (i : ℕ) (u : Node) → IsUsedIn tag (s.node x) →
      (x ≡ i → IsUsedIn tag (s.node i) → IsUsedIn tag u) → IsUsedIn tag
      (put i u s.node x)
  in_put s i u c new = put_case (λ (y : Node). IsUsedIn tag y) i u s.node x
      (λ same. new same (subst (λ (y : ℕ). IsUsedIn tag (s.node y)) same c)) (λ _. c)

  in_handed : (s : State) (i : ℕ) → IsUsedIn tag (s.node x) → IsUsedIn tag ((handed i s).node x)
  in_handed s i c = handed_case (λ (y : Node). IsUsedIn tag y) s i x c (λ _ _ _. (c.0, tt))

-- a frozen word of the list of a vertex that is spent with a caller, which leads to a node, at a front
module _ (sizes : Sizes) (z : IsLayout sizes) (caller last place x : ℕ) (source : Life) (front : List Event)
    (old : IsKept sizes front) (within : last ≤ length front)
    (vertex : IsVertex sizes front source) (spent : IsSpentVertex sizes front caller source.index)
    (word : IsFrozenWord sizes front source.index place)
    (handed_over : (y : ℕ) → is_frozen (state sizes front) source.index y ≡ true → IsSpentWith sizes front caller y ×
    (y < sizes.nodes))
    (leads : index_of (word_at sizes front place) ≡ x) (there : x < sizes.nodes) where
  -- what stands at a journal that goes on from there without an event of the caller
  module _ (journal : List Event) (p : IsPrefix front journal) (kept : IsKept sizes journal)
      (quiet : IsQuiet journal caller last) where
    source_still : IsKeptSpent sizes front journal source.index
    source_still = spent_stays sizes z caller last source.index vertex.there front journal p kept quiet within record
        { spent = spent.spent; mine = spent.mine }

    source_tag : (node_in sizes journal source.index).tag ≡ (node_in sizes front source.index).tag
    source_tag = ap (λ (u : Node). u.tag) source_still.node

    source_now : IsVertex sizes journal source
    source_now = record {
      there = vertex.there;
      life = vertex.life ∙ sym source_tag;
      used = subst IsUsed (sym (ap (λ (u : Node). u.mode) source_still.node)) vertex.used;
      vertex = ap (λ (u : Node). u.vertex) source_still.node ∙ vertex.vertex;
    }

    spent_now : IsSpentVertex sizes journal caller source.index
    spent_now = record {
      spent = ap (λ (u : Node). u.mode) source_still.node
          ∙ spent.spent;
      vertex = source_now.vertex;
      mine = ap (λ (u : Node). u.who) source_still.node ∙ spent.mine;
    }

    head_now : (state sizes journal).frozen source.index ≡ true
    head_now = source_still.closed ∙ word.head

    -- the frozen word is the same, frozen and marked
    pub record IsSameWord : Type 0 where
      pub frozen : IsFrozenWord sizes journal source.index place
      pub same : word_at sizes journal place ≡ word_at sizes front place
      pub marked : mark_of (word_at sizes journal place) ≡ 1
      pub at : ChainWord
      pub at_place : list_word sizes source.index at ≡ place
      pub on : IsOn (edge_chain sizes journal source.index) at

    pub same_word : IsSameWord
    same_word = ⊎_elim
        (λ (h : place ≡ second_at sizes source.index).
        let unfresh : (node_in sizes front source.index).mode ≢ Fresh = λ f. let t = spent.spent in absurd (cc) in
        let c = ((contents sizes z front old).each source.index vertex.there).vertex vertex.used vertex.vertex in
        let d = ((contents sizes z journal kept).each source.index vertex.there).vertex source_now.used
        source_now.vertex in
        let marked : mark_of (word_at sizes front (second_at sizes source.index)) ≡ 1 = c.second_mark
        ∙ ap mark_bit word.head in
        let stays = marked_head_stays sizes z source.index front journal p kept unfresh marked source_tag in
        record {
          frozen = record { head = head_now; at = inl h };
          same = ap (word_at sizes journal) h ∙ (stays ∙ ap (word_at sizes front) (sym h));
          marked = ap (λ (i : ℕ). mark_of (word_at sizes journal i)) h ∙ (d.second_mark ∙ ap mark_bit head_now);
          at = Head;
          at_place = sym h;
          on = tt;
        })
        (λ (h : (y : ℕ) × (is_frozen (state sizes front) source.index y ≡ true) × (place ≡ link_at sizes y)).
        let y = h.0 in
        let mine = handed_over y h.1 in
        let s = spent_stays sizes z caller last y mine.1 front journal p kept quiet within mine.0 in
        let mode : (node_in sizes journal y).mode ≡ Spent = ap (λ (u : Node). u.mode) s.node ∙ mine.0.spent in
        let part : is_frozen (state sizes journal) source.index y ≡ true = part_stays sizes z source.index y front
        journal p kept source_tag (ap (λ (u : Node). u.tag) s.node) h.1 (subst IsUsed (sym mode) tt) in
        record {
          frozen = record { head = head_now; at = inr (y, part, h.2) };
          same = ap (word_at sizes journal) h.2 ∙ (s.link ∙ ap (word_at sizes front) (sym h.2));
          marked = ap (λ (i : ℕ). mark_of (word_at sizes journal i)) h.2 ∙
              (((link_words sizes z journal kept).each y mine.1).spent mode).marked;
          at = Next y;
          at_place = sym h.2;
          on = part_listed (state sizes journal).node (state sizes journal).edges
              (state sizes journal).frozen source.index y part;
        })
        word.at

    leads_now : index_of (word_at sizes journal place) ≡ x
    leads_now = ap index_of same_word.same ∙ leads

    -- what it leads to isn't unlinked, since no unmarked word leads there
    not_unlinked : (e : Event) → IsUnlinkEdge sizes journal e → is_listed (state sizes journal) source.index x ≡ true
        → x ≢ e.life.index
    not_unlinked e ok on same =
        let at = (sources sizes z journal kept).each e.life.index ok.there ok.linked in
        let home : ℕ = (node_in sizes journal e.life.index).source.index in
        let is : home ≡ source.index = ap (λ (i : ℕ). (node_in sizes journal i).source.index) (sym same) ∙
        ((listing sizes z journal kept).on source.index x on).index in
        let s = cut_spot sizes z journal e kept ok in
        let w = same_word in
        let c = ((lists sizes z journal kept).each home (has_open sizes journal home at.list)).chain in
        let next : (edge_chain sizes journal home).next s.at ≡ x = ap
        (λ (i : ℕ). index_of (word_at sizes journal i)) s.place ∙ (ok.leads ∙ sym same) in
        let mine_on : IsOn (edge_chain sizes journal home) w.at = subst
        (λ (i : ℕ). IsOn (edge_chain sizes journal i) w.at) (sym is) w.on in
        let mine_place : list_word sizes home w.at ≡ place = subst (λ (i : ℕ). list_word sizes i w.at ≡ place)
        (sym is) w.at_place in
        let mine_next : (edge_chain sizes journal home).next w.at ≡ x = ap
        (λ (i : ℕ). index_of (word_at sizes journal i)) mine_place ∙ leads_now in
        let some : (edge_chain sizes journal home).next s.at ≢ nowhere = λ h. omega
        (arith, h, next, there, z.few_nodes) in
        let one : s.at ≡ w.at = one_leads (edge_chain sizes journal home) s.at w.at c s.on mine_on some
        (next ∙ sym mine_next) in
        let places : e.place ≡ place = sym s.place ∙ (ap (list_word sizes home) one ∙ mine_place) in
        let live : mark_of (word_at sizes journal place) ≡ 0 = ap (λ (i : ℕ). mark_of (word_at sizes journal i))
        (sym places) ∙ ok.unmarked in
        omega (arith, live, w.marked)

    -- nor is it given back by another caller
    not_pushed : (e : Event) → IsPushFree sizes journal e → e.caller ≢ caller → is_listed
        (state sizes journal) source.index x ≡ true → x ≢ e.life.index
    not_pushed e ok other on same =
        let spent_x : (node_in sizes journal x).mode ≡ Spent = ap (λ (i : ℕ). (node_in sizes journal i).mode) same
        ∙ ok.ripe.stamped.spent.spent in
        let who = ((spenders sizes z journal kept).edge source.index x source_now.used source_now.vertex on spent_x).1
        in
        other (sym ok.ripe.stamped.spent.mine ∙ (ap (λ (i : ℕ). (node_in sizes journal i).who) (sym same) ∙
        (who ∙ spent_now.mine)))

    module _ (tag : ℕ) (e : Event) (other : e.caller ≢ caller)
        (c : IsUsedOn tag source.index x (state sizes journal)) where
      is_in : IsUsedIn tag (node_in sizes journal x)
      is_in = (c.life, c.used)

      not_mode : (m : Mode) (i : ℕ) → (IsUsed m → ⊥) → (node_in sizes journal i).mode ≡ m → x ≢ i
      not_mode m i none is same = none (subst IsUsed (ap (λ (y : ℕ). (node_in sizes journal y).mode) same ∙ is) c.used)

      behind_step : (k : Kind) → AllowedAs k sizes journal e → IsUsedOn tag source.index x
          (state_by k sizes e (state sizes journal))
      behind_step PopFree ok =
          let free = (taken sizes z journal e kept ok).free in
          let ne : source.index ≢ e.life.index = λ h. let t : (node_in sizes journal source.index).mode ≡ Free = ap
          (λ (y : ℕ). (node_in sizes journal y).mode) h ∙ free in let u = spent_now.spent in absurd (cc) in
          let at : (state_by PopFree sizes e (state sizes journal)).edges source.index ≡ _ = put_other e.life.index []
          (λ (u : ℕ). unlinked_from e.life.index ((state sizes journal).edges u)) source.index ne in
          let i = in_put tag source.index x (state sizes journal) e.life.index _ is_in
          (λ same _. absurd (not_mode Free e.life.index (λ u. u) free same)) in
          record {
            life = i.0;
            used = i.1;
            on = ap (λ (l : List ℕ). stands_in l x) at ∙ unlinked_keeps e.life.index x
                ((state sizes journal).edges source.index) c.on (not_mode Free e.life.index (λ u. u) free);
          }
      behind_step LinkVertex ok = let i = in_put tag source.index x (state sizes journal) e.life.index _ is_in
          (λ same _. absurd (not_mode Fresh e.life.index (λ u. u) ok.fresh.fresh same)) in record
          { life = i.0; used = i.1; on = c.on }
      behind_step MarkVertex ok = let i = in_put tag source.index x (state sizes journal) e.life.index _ is_in
          (λ _ d. d) in record { life = i.0; used = i.1; on = c.on }
      behind_step UnlinkVertex ok = let i = in_put tag source.index x (state sizes journal) e.life.index _ is_in
          (λ _ d. (d.0, tt)) in record { life = i.0; used = i.1; on = c.on }
      behind_step LinkEdge ok =
          let i = in_put tag source.index x (state sizes journal) e.life.index _ is_in
          (λ same _. absurd (not_mode Fresh e.life.index (λ u. u) ok.fresh.fresh same)) in
          record {
            life = i.0;
            used = i.1;
            on = linked_keeps sizes (second_at sizes source.index) e.place e.life.index x
                ((state sizes journal).edges source.index) c.on;
          }
      behind_step UnlinkEdge ok =
          let ne = not_unlinked e ok c.on in
          let i = in_put tag source.index x (state sizes journal) e.life.index _ is_in (λ same _. absurd (ne same)) in
          record {
            life = i.0;
            used = i.1;
            on = unlinked_keeps e.life.index x
                ((state sizes journal).edges source.index) c.on ne;
          }
      behind_step ReplaceEdge ok =
          let s : State = state sizes journal in
          let j : State = joined_edge sizes e s in
          let ij = in_put tag source.index x s e.life.index (new_edge_node (s.node e.life.index) e s.count) is_in
          (λ same _. absurd (not_mode Fresh e.life.index (λ u. u) ok.fresh.fresh same)) in
          let i = in_handed tag source.index x (marked_state j e.old.index) (j.node e.old.index).source.index
          (in_put tag source.index x j e.old.index (record (j.node e.old.index) { marked = true }) ij (λ _ d. d)) in
          record {
            life = i.0;
            used = i.1;
            on = linked_keeps sizes (second_at sizes source.index) e.place e.life.index x
                (s.edges source.index) c.on;
          }
      behind_step MarkEdge ok = let i = in_handed tag source.index x (marked_state (state sizes journal) e.life.index)
          (node_in sizes journal e.life.index).source.index (in_put tag source.index x
          (state sizes journal) e.life.index _ is_in (λ _ d. d)) in record { life = i.0; used = i.1; on = c.on }
      behind_step FreezeEdge ok = let i = in_handed tag source.index x (marked_state (state sizes journal) e.life.index)
          (node_in sizes journal e.life.index).source.index (in_put tag source.index x
          (state sizes journal) e.life.index _ is_in (λ _ d. d)) in record { life = i.0; used = i.1; on = c.on }
      behind_step FreezeHead ok = let i = in_handed tag source.index x
          (closed_state (state sizes journal) e.life.index) e.life.index is_in in record
          { life = i.0; used = i.1; on = c.on }
      behind_step StoreFree ok = let i = in_put tag source.index x (state sizes journal) e.life.index _ is_in
          (λ _ d. d) in record { life = i.0; used = i.1; on = c.on }
      behind_step PushFree ok = let i = in_put tag source.index x (state sizes journal) e.life.index _ is_in
          (λ same _. absurd (not_pushed e ok other c.on same)) in record { life = i.0; used = i.1; on = c.on }
      behind_step _ ok = record { life = c.life; used = c.used; on = c.on }

  -- so it stands behind that word still
  record IsBehindIn (tag : ℕ) (journal : List Event) : Type 0 where
    pub before : IsPrefix front journal
    pub behind : IsUsedOn tag source.index x (state sizes journal)

  behind_stays : (tag : ℕ) (journal : List Event) → IsPrefix front journal → IsKept sizes journal
      → IsQuiet journal caller last → IsUsedOn tag source.index x (state sizes front) → IsUsedOn tag source.index x
      (state sizes journal)
  behind_stays tag journal p kept quiet start = (kept_beyond sizes
      (λ (j : List Event). IsQuiet j caller last × IsBehindIn tag j) caller last
      (λ past e past_kept c other ok. (
        quiet_more past e caller last other c.0,
        record {
          before = prefix_trans front past (past ++ e ∷ []) c.1.before (prefix_snoc past e);
          behind = subst (λ (s : State). IsUsedOn tag source.index x s) (sym (state-snoc sizes past e))
              (behind_step past c.1.before past_kept c.0 tag e other c.1.behind e.kind ok.as_kind);
        },
      )) front journal p kept quiet within (
        quiet_front front journal caller last p quiet,
        record
            { before = prefix_refl front; behind = start },
      )).1.behind

module _ (v : View) (z : IsLayout v.sizes) (journal : List Event) (r : Reaches v journal) where
  -- an edge on the list of a vertex whose list is one still is used, and those of the frozen part are spent with the
  -- caller
  used_at : (source : Life) → KeepsList v.sizes v.front source.index → (y : ℕ) → is_listed
      (state v.sizes v.front) source.index y ≡ true → IsUsed (node_in v.sizes v.front y).mode
  used_at source list y on = (list.edges (life_in v.sizes v.front y)
      (edge_on v.sizes z v.front (kept_front v.sizes v.front journal r.front r.kept) source.index y on)).used

  pub handed_at : (source : Life) → KeepsList v.sizes v.front source.index
      → IsSpentVertex v.sizes v.front v.number source.index → (y : ℕ) → is_frozen
      (state v.sizes v.front) source.index y ≡ true → IsSpentWith v.sizes v.front v.number y × (y < v.sizes.nodes)
  handed_at source list spent y part =
      let old : IsKept v.sizes v.front = kept_front v.sizes v.front journal r.front r.kept in
      let on = part_listed (state v.sizes v.front).node (state v.sizes v.front).edges
      (state v.sizes v.front).frozen source.index y part in
      let who = part_who v.sizes z v.front old source.index y list.used list.vertex part (used_at source list y on) in (
        record { spent = who.0; mine = who.1 ∙ spent.mine },
        ((listing v.sizes z v.front old).on source.index y
            on).there,
      )

  -- the edge to which an own frozen word leads is in its life still, linked or spent, and stands on the list
  pub edge_behind : (source : Life) (place : ℕ) (x : Life) → MayFreezeEdge v source place x
      → ((node_in v.sizes journal x.index).tag ≡ x.tag) × IsUsed (node_in v.sizes journal x.index).mode ×
      (is_listed (state v.sizes journal) source.index x.index ≡ true)
  edge_behind source place x m =
      let old : IsKept v.sizes v.front = kept_front v.sizes v.front journal r.front r.kept in
      let vertex : IsVertex v.sizes v.front source = record {
        there = m.life.there;
        life = m.life.tag;
        used =
            m.list.used;
        vertex = m.list.vertex;
      } in
      let on : is_listed (state v.sizes v.front) source.index x.index ≡ true = ⊎_elim
      (λ (none : index_of (word_at v.sizes v.front place) ≡ nowhere). absurd
      (let t = m.edge.there in omega (arith, none, m.leads, t, z.few_nodes)))
      (λ (h : is_listed (state v.sizes v.front) source.index (index_of (word_at v.sizes v.front place)) ≡ true). subst
      (λ (i : ℕ). is_listed (state v.sizes v.front) source.index i ≡ true) m.leads h)
      (kept_leads v.sizes z v.front old source.index place m.list m.frozen) in
      let b : IsUsedOn x.tag source.index x.index (state v.sizes journal) =
      behind_stays v.sizes z v.number v.last place x.index source v.front old r.old vertex m.spent m.frozen
      (handed_at source m.list m.spent) m.leads m.edge.there x.tag journal r.front r.kept r.quiet
      record { life = sym m.edge.tag; used = used_at source m.list x.index on; on = on } in
      (b.life, b.used, b.on)

  -- an edge is frozen
  pub lift_freeze_edge : (source : Life) (place : ℕ) (x : Life) → MayFreezeEdge v source place x → mark_of
      (word_at v.sizes journal (link_at v.sizes x.index)) ≡ 0 → IsFreezeEdge v.sizes journal
      (freeze_edge_event v x (word_at v.sizes journal (link_at v.sizes x.index)))
  lift_freeze_edge source place x m live =
      let old : IsKept v.sizes v.front = kept_front v.sizes v.front journal r.front r.kept in
      let vertex : IsVertex v.sizes v.front source = record {
        there = m.life.there;
        life = m.life.tag;
        used =
            m.list.used;
        vertex = m.list.vertex;
      } in
      let on : is_listed (state v.sizes v.front) source.index x.index ≡ true = ⊎_elim
      (λ (none : index_of (word_at v.sizes v.front place) ≡ nowhere). absurd
      (let t = m.edge.there in omega (arith, none, m.leads, t, z.few_nodes)))
      (λ (h : is_listed (state v.sizes v.front) source.index (index_of (word_at v.sizes v.front place)) ≡ true). subst
      (λ (i : ℕ). is_listed (state v.sizes v.front) source.index i ≡ true) m.leads h)
      (kept_leads v.sizes z v.front old source.index place m.list m.frozen) in
      let handed_over = handed_at source m.list m.spent in
      let behind : IsUsedOn x.tag source.index x.index (state v.sizes journal) =
      behind_stays v.sizes z v.number v.last place x.index source v.front old r.old vertex m.spent m.frozen handed_over
      m.leads m.edge.there x.tag journal r.front r.kept r.quiet
      record { life = sym m.edge.tag; used = used_at source m.list x.index on; on = on } in
      let now : IsVertex v.sizes journal source = source_now v.sizes z v.number v.last place x.index source v.front old
      r.old vertex m.spent m.frozen handed_over m.leads m.edge.there journal r.front r.kept r.quiet in
      let spent : IsSpentVertex v.sizes journal v.number source.index = spent_now v.sizes z v.number v.last place
      x.index source v.front old r.old vertex m.spent m.frozen handed_over m.leads m.edge.there journal r.front
      r.kept r.quiet in
      let word = same_word v.sizes z v.number v.last place x.index source v.front old r.old vertex m.spent m.frozen
      handed_over m.leads m.edge.there journal r.front r.kept r.quiet in
      let at = (listing v.sizes z journal r.kept).on source.index x.index behind.on in
      let from : (node_in v.sizes journal x.index).source ≡ source = λ i. record
      { index = at.index i; tag = (at.life ∙ sym now.life) i } in
      record {
        life = sym behind.life;
        there = m.edge.there;
        place = refl;
        linked = record { linked = linked_by (node_in v.sizes journal x.index).mode behind.used refl; edge = at.edge };
        source = subst (λ (y : Life). IsVertex v.sizes journal y) (sym from) now;
        spent = subst (λ (y : Life). IsSpentVertex v.sizes journal v.number y.index) (sym from) spent;
        before = place;
        frozen = subst (λ (y : Life). IsFrozenWord v.sizes journal y.index place) (sym from) word.frozen;
        leads = ap index_of word.same ∙ m.leads;
        unmarked = live;
        word = refl;
      }
    where
      linked_by : (k : Mode) → IsUsed k → (node_in v.sizes journal x.index).mode ≡ k →
          (node_in v.sizes journal x.index).mode ≡ Linked
      linked_by Linked u is = is
      linked_by Spent u is = let d = ((link_words v.sizes z journal r.kept).each x.index m.edge.there).spent is in
          absurd (omega (arith, d.marked, live))
      linked_by Free u is = absurd u
      linked_by Fresh u is = absurd u
