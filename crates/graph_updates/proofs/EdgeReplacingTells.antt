-- What replacing an edge on a hand tells, after the counter of its source was raised for it.
use Rattle.std.proofs.Common.{◌≡◌, ◌≢◌, ◌⊎◌, ◌&&◌, ◌+◌, ℕ, Bool, true, false, cond, List, [], ◌∷◌, ◌++◌}
use Rattle.std.proofs.Common.{append-nil, Option, None, Some, ap₂}
use Rattle.std.proofs.Common.{inl, inr, refl, sym, ap, ◌∙◌, subst, arith}
use Rattle.std.specs.Prelude.{◌==◌, option_map, slice_get}
use Rattle.std.proofs.lemmas.Bool.{eqb-true}
use mathlib.Core.List.{append_cancel_right}
use Rattle.graph_kinds.specs.Answer.{answer, by_weight, plain, there_with}
use Rattle.graph_kinds.specs.Graph.{Graph, has, weight_of}
use Rattle.graph_kinds.specs.History.{Every}
use Rattle.graph_kinds.specs.declared.call.Call.TheVariants.{AddEdge}
use Rattle.graph_kinds.specs.declared.outcome.Outcome.TheVariants.{Added, Changed, NoVertex, Present}
use Rattle.packed_link.specs.Layout.{IsLayout, free_at, link_at}
use Rattle.packed_link.specs.Link.{index_of}
use Rattle.packed_link.specs.declared.link.Life.{Life}
use Rattle.core_journal.specs.declared.event.Event.{Event}
use Rattle.core_journal.specs.Event.{moves, pops, raises}
use Rattle.core_journal.specs.GraphOf.{both, call_by, edge_by, graph_of, present_key}
use Rattle.core_journal.specs.Life.{key_of, vertex_marked}
use Rattle.core_journal.specs.Right.{NoneFree}
use Rattle.core_journal.specs.declared.event.Kind.{Kind}
use Rattle.core_journal.specs.Prefix.{IsPrefix}
use Rattle.core_journal.proofs.Lists.{get_back, get_short, prefix_refl, prefix_snoc, prefix_trans}
use Rattle.core_journal.proofs.LivesOf.{key_of_life}
use Rattle.core_kept.specs.Kept.{IsKept}
use Rattle.core_kept.proofs.EdgeEnds.{ends_linked}
use Rattle.core_kept.proofs.Induction.{kept_front}
use Rattle.core_lists.proofs.ChangedByAnother.{change_counts}
use Rattle.core_rule.specs.Stretches.{HasPass}
use Rattle.core_rule.specs.Views.{GoesOn, Steps}
use Rattle.core_rule.specs.declared.view.View.{View}
use Rattle.core_stretches.specs.Holdings.{IsHeldFresh}
use Rattle.core_stretches.specs.Makes.{Makes, StaysInPass, StepsBy, of_kinds}
use Rattle.core_stretches.specs.Moments.{Carries, HoldsBetween}
use Rattle.core_stretches.proofs.MakesAddUp.{makes_chain}
use Rattle.core_stretches.proofs.MakesTell.{makes_goes, makes_later, makes_leaves}
use Rattle.edge_list.specs.EdgeMarks.{IsEdgeReplaced, MatchEdgeReplaced, RaisedValue, replacing, replacing_stores}
use Rattle.edge_list.specs.EdgePositions.{IsSeenEdge, IsUnmarkedEdge}
use Rattle.edge_list.specs.declared.edge.Edge.{Edge}
use Rattle.edge_list.specs.declared.replacing.EdgeReplaced.{EdgeReplaced}
use Rattle.edge_list.specs.declared.replacing.EdgeReplaced.TheVariants.{Done, Lost}
use Rattle.edge_list.specs.declared.walks.EdgeSighting.{EdgeSighting}
use Rattle.edge_list.proofs.EdgeMarksTell.{raised_goes}
use Rattle.edge_list.proofs.EdgePositionsGoOn.{edge_place_not_free, seen_makes}
use Rattle.edge_list.proofs.EdgesTellPairs.{has_pair}
use Rattle.node_arena.specs.Filling.{edge_stores}
use Rattle.graph_table.specs.Tokens.{IsOf, TableValue, TokenValue}
use Rattle.graph_updates.specs.EdgeAdding.{IsBare, IsEdgeAdded, IsEdgeOvertaken, IsOneOver, IsUnraised, MatchConcluded}
use Rattle.graph_updates.specs.EdgeAdding.{MatchPlaced}
use Rattle.graph_updates.specs.Exchanges.{IsOnPair}
use Rattle.graph_updates.specs.declared.edge_adding.AddTurn.{AddTurn}
use Rattle.graph_updates.specs.declared.edge_adding.AddTurn.TheVariants as turn
use Rattle.graph_updates.specs.declared.pairs.Ends.{Ends}
use Rattle.graph_updates.specs.declared.pairs.Lack.TheVariants as lacks
use Rattle.graph_updates.specs.EdgeChanging.{IsNodeReady, IsNoneReady, IsReplacedOnce, MatchReplacedOnce, holding}
use Rattle.graph_updates.specs.EdgeRaises.{IsLastRaised, IsRaisedOnce, RaisesFor}
use Rattle.graph_updates.specs.EdgeRemoving.{GoesOnBare}
use Rattle.graph_updates.specs.Hands.{HandValue, HasItsNodes, HoldsSpare, IsHandOf}
use Rattle.graph_updates.specs.Parts.{Fell, GoesOnBy, HasHelped, IsReadying, LeavesGraph, may_take}
use Rattle.graph_updates.proofs.AddingAddsUp.{fell_since, goes_on_chain, helped_on, leaves_by_loads, leaves_grows}
use Rattle.graph_updates.proofs.AddingTells.{ready_stays}
use Rattle.graph_updates.proofs.AddingTries.{calm_by_kind, calm_hand, calm_nodes, calm_pass, ready_calm, with_spare}
use Rattle.graph_updates.proofs.BurialLists.{every_both, every_map}
use Rattle.graph_updates.proofs.EdgeChangingTells.{once_fell, once_keeps, once_leaves}
use Rattle.graph_updates.proofs.EdgeMarkingTells.{KeepsHand, seen_before}
use Rattle.graph_updates.proofs.EdgeRaisesTell.{raises_for, unraised_goes, unraised_loads}
use Rattle.graph_updates.proofs.EdgeRemovingTells.{bare_on}
use Rattle.graph_updates.proofs.LocatingTells.{helped_grows}
use Rattle.graph_updates.proofs.OwnChanges.{until_grows}
use Rattle.graph_updates.proofs.PairsTell.{linked_since, present_then, unmarked_since}
use Rattle.graph_updates.proofs.PartsLeave.{IsCalm, helps_leave, leaves_chain, leaves_less, only_fresh, spare_goes}

-- what a front has, each later one has
get_more : (past more : List Event) (k : ℕ) (e : Event) → slice_get past k ≡ Some e
    → slice_get (past ++ more) k ≡ Some e
get_more past more k e at = get_back past more k (get_short past k e at) ∙ at

-- before a step nothing was made
self_before : (v m : View) (own : Option Event) → Steps v own m → Steps v None v
self_before v m own t = record {
  view = refl;
  grown = v.front;
  reaches = record {
    kept = kept_front v.sizes v.front t.grown t.reaches.front t.reaches.kept;
    front = prefix_refl v.front;
    quiet = record {
      none = λ k e far at by. t.reaches.quiet.none k e far
          (subst (λ (j : List Event). slice_get j k ≡ Some e) t.reaches.front.whole
          (get_more v.front t.reaches.front.rest k e at)) by;
    };
    old = t.reaches.old;
  };
  front = sym (append-nil v.front);
  kept = kept_front v.sizes v.front t.grown t.reaches.front t.reaches.kept;
}

split_by : (v w : View) (es : List Event) (e : Event) → StepsBy v (es ++ e ∷ []) w
    → (m : View) × (StepsBy v es m × StepsBy m (e ∷ []) w)
split_by v w [] e (m, by, t, rest) = (v, (self_before v m (Some e) t, (m, by, t, rest)))
split_by v w (d ∷ ds) e (m, by, t, rest) =
    let r = split_by m w ds e rest in
    (r.0, ((m, by, t, r.1.0), r.1.1))

-- a stretch is split before its last event
pub makes_split : (v w : View) (es : List Event) (e : Event) → Makes v (es ++ e ∷ []) w
    → (m : View) × (Makes v es m × Makes m (e ∷ []) w)
makes_split v w es e h =
    let r = split_by v w es e h.steps in
    (r.0, (record { steps = r.1.0 }, record { steps = r.1.1 }))

-- a node was filled as an edge
module _ (v w : View) (x : Life) (key next : ℕ) (target : Life) (weight : ℕ)
    (makes : Makes v (edge_stores v x key next target weight) w) where
  abbrev stores : List Event
  stores = edge_stores v x key next target weight

  stores_ready : Every (λ (e : Event). IsReadying e.kind) stores
  stores_ready = (inr refl, (inr refl, (inr refl, (inr refl, tt))))

  pub stores_leave : LeavesGraph true 0 0 v w
  stores_leave = record {
    own = stores;
    makes = makes;
    leaves = λ z. makes_leaves v w stores z (inl refl, (inl refl, (inl refl, (inl refl, tt)))) makes;
    takes = omega arith;
    shifts = omega arith;
    raised = λ is. absurd (cc);
  }

-- what replacing makes touches nothing that a hand holds but its spare node, and raises nothing
record IsCalmStretch (v w : View) : Type 0 where
  own : List Event
  makes : Makes v own w
  calm : Every IsCalm own
  stays : Every StaysInPass own
  none : of_kinds raises own ≡ 0

replacing_calm : (m : EdgeReplaced) (r : RaisedValue) (weight : ℕ) (x : Life) (t u : View)
    → MatchEdgeReplaced m r weight x t u → IsCalmStretch t u
replacing_calm (Done life) r weight x t u (same, k) =
    let stores = replacing_stores t r weight k.seen x in
    let e = replacing t r weight k.seen x in
    let ready : Every (λ (d : Event). IsReadying d.kind) stores = (inr refl, (inr refl, (inr refl, (inr refl, tt)))) in
    record {
      own = stores ++ e ∷ [];
      makes = k.makes;
      calm = every_both IsCalm stores (e ∷ [])
          (every_map (λ (d : Event). IsReadying d.kind) IsCalm ready_calm stores ready)
          (calm_by_kind e refl (λ is. absurd (cc)) (λ is. absurd (cc)), tt);
      stays = every_both StaysInPass stores (e ∷ [])
          (every_map (λ (d : Event). IsReadying d.kind) StaysInPass ready_stays stores ready)
          (((λ is. absurd (cc)), (λ is. absurd (cc))), tt);
      none = refl;
    }
replacing_calm (Lost fresh) r weight x t u (same, inl k) = record {
  own = [];
  makes = k.makes;
  calm = tt;
  stays = tt;
  none = refl;
}
replacing_calm (Lost fresh) r weight x t u (same, inr k) =
    let stores = replacing_stores t r weight k.seen x in
    let ready : Every (λ (d : Event). IsReadying d.kind) stores = (inr refl, (inr refl, (inr refl, (inr refl, tt)))) in
    record {
      own = stores;
      makes = k.makes;
      calm = every_map (λ (d : Event). IsReadying d.kind) IsCalm ready_calm stores ready;
      stays = every_map (λ (d : Event). IsReadying d.kind) StaysInPass ready_stays stores ready;
      none = refl;
    }

-- an edge was to be replaced by a node that the hand held ready
module _ (g : TableValue) (h : HandValue) (t u : TokenValue) (source : Life) (s : EdgeSighting) (x : Life)
    (weight : ℕ) (last : Option RaisedValue) (r : RaisedValue) (of : IsHandOf g h) (at : IsOf g t)
    (held : IsHeldFresh h.token.view x)
    (seen : IsSeenEdge h.token.view source s.edge s.moment.value.view.front)
    (o : IsRaisedOnce source s.edge last h.token.view t.view r) where
  with_node : IsHandOf g (holding h x)
  with_node = record { of = of.of; numbered = of.numbered; there = of.there; limbo = of.limbo; spare = held }

  pub fresh_there : IsHeldFresh t.view x
  fresh_there =
      let k = once_keeps source s.edge last h.token.view t.view r o in
      spare_goes h.token.view t.view k.own of.of.layout k.makes k.plain (Some x) held

  abbrev to_t : IsPrefix h.token.view.front t.view.front
  to_t = (makes_later h.token.view t.view o.own o.makes).grows

  module _ (now : IsOf g u) (m : EdgeReplaced) (k : MatchEdgeReplaced m r weight x t.view u.view) where
    first : KeepsHand h.token.view t.view
    first = once_keeps source s.edge last h.token.view t.view r o

    then : IsCalmStretch t.view u.view
    then = replacing_calm m r weight x t.view u.view k

    abbrev own : List Event
    own = first.own ++ then.own

    makes : Makes h.token.view own u.view
    makes = makes_chain h.token.view t.view u.view first.own then.own first.makes then.makes

    calm : Every IsCalm own
    calm = every_both IsCalm first.own then.own first.calm then.calm

    stays : Every StaysInPass own
    stays = every_both StaysInPass first.own then.own first.stays then.stays

    pub replaced_hand : (spare : Option Life) → HoldsSpare spare u.view → IsHandOf g (with_spare h u spare)
    replaced_hand spare has = calm_hand g h u own of makes calm now spare has

    pub replaced_pass : HasPass h.token.view → HasPass u.view
    replaced_pass opened = calm_pass g h u.view own of makes calm stays opened

    pub replaced_stays : GoesOn h.token.view u.view
    replaced_stays = makes_goes h.token.view u.view own stays makes

    pub replaced_last : IsLastRaised source s.edge.key u.view (Some r)
    replaced_last = (
      raised_goes t.view u.view r at.layout (makes_goes t.view u.view then.own then.stays then.makes) o.raised,
      (ap (λ (e : Edge). e.key) o.edge_is, (ap (key_of u.view.front) o.source_is, inl o.source_is)),
    )

    pub replaced_raised : (v : View) → IsUnraised v h.token.view
        → HoldsBetween v.front h.token.view.front (IsUnmarkedEdge source s.edge) s.moment.value.view.front
        → RaisesFor source s.edge.key last (Some r) v u.view
    replaced_raised v before there = raises_for source s.edge s.moment.value.view.front last r v h.token.view t.view
        u.view there.holds o before.own then.own before.makes before.raised then.makes then.none there.since there.until
        of.of.layout of.of.sound.kept

  module _ (now : IsOf g u) (n : HasItsNodes (holding h x)) where
    -- it was
    as_found : IsEdgeReplaced r weight x t.view u.view
        → IsEdgeReplaced (record { source = source; edge = s.edge }) weight x t.view u.view
    as_found k =
        let one : IsEdgeReplaced (record { source = source; edge = r.edge }) weight x t.view u.view = subst
        (λ (y : Life). IsEdgeReplaced (record { source = y; edge = r.edge }) weight x t.view u.view) o.source_is k in
        subst (λ (e : Edge). IsEdgeReplaced (record { source = source; edge = e }) weight x t.view u.view) o.edge_is one

    pub replaced_done : (life : Life) → MatchEdgeReplaced (Done life) r weight x t.view u.view
        → MatchReplacedOnce true source s weight (holding h x) (with_spare h u None)
    replaced_done life k =
        let y : RaisedValue = record { source = source; edge = s.edge } in
        let q = as_found k.1 in
        let stores = replacing_stores t.view y weight q.seen x in
        let e = replacing t.view y weight q.seen x in
        let half = makes_split t.view u.view stores e q.makes in
        record {
          before = half.0;
          event = e;
          first = leaves_chain true 0 0 0 0 h.token.view t.view half.0
              (once_leaves source s.edge last h.token.view t.view r o)
              (stores_leave t.view half.0 x s.edge.key (index_of q.seen) s.edge.target weight half.1.0);
          makes = half.1.1;
          kind = refl;
          source_is = refl;
          target_is = refl;
          weight_is = refl;
          carries = q.carries;
          unmarked = q.unmarked;
          spare = refl;
          nodes = calm_nodes g (holding h x) u (own now (Done life) k) with_node (makes now (Done life) k)
              (calm now (Done life) k) now None n q.none;
          uses = refl;
        }

    -- it was not
    kept_on : LeavesGraph true 0 0 t.view u.view → (fresh : Life)
        → MatchEdgeReplaced (Lost fresh) r weight x t.view u.view → IsHeldFresh u.view x
        → GoesOnBare (holding h x) (with_spare h u (Some x))
    kept_on rest fresh k still = record {
      stretch = leaves_chain true 0 0 0 0 h.token.view t.view u.view
          (once_leaves source s.edge last h.token.view t.view r o) rest;
      spare = refl;
      nodes = calm_nodes g (holding h x) u (own now (Lost fresh) k) with_node (makes now (Lost fresh) k)
          (calm now (Lost fresh) k) now (Some x) n (only_fresh u.view x now.sound.kept still);
      uses = refl;
    }

    pub still_held : (fresh : Life) → MatchEdgeReplaced (Lost fresh) r weight x t.view u.view → IsHeldFresh u.view x
    still_held fresh (same, inl k) = spare_goes t.view u.view [] at.layout k.makes tt (Some x) fresh_there
    still_held fresh (same, inr k) = k.held

    pub replaced_lost : (fresh : Life) → MatchEdgeReplaced (Lost fresh) r weight x t.view u.view
        → MatchReplacedOnce false source s weight (holding h x) (with_spare h u (Some x))
    replaced_lost fresh (same, inl k) = (
      kept_on (leaves_by_loads true t.view u.view k.makes) fresh (same, inl k) (still_held fresh (same, inl k)),
      once_fell source s.edge last h.token.view t.view r o of.of.layout at.layout s.moment.value.view.front seen u.view
          now.layout now.sound.kept k.makes k.marked,
    )
    replaced_lost fresh (same, inr k) =
        let moment = s.moment.value.view.front in
        let early = prefix_trans moment t.view.front k.loaded
        (prefix_trans moment h.token.view.front t.view.front
        (seen_before h.token.view source s.edge moment seen) to_t) k.found.since in (
          kept_on (stores_leave t.view u.view x r.edge.key (index_of k.seen) r.edge.target weight k.makes) fresh
              (same, inr k) (still_held fresh (same, inr k)),
          fell_since 1 u.view.number moment k.loaded u.view.front early k.found.until (record {
            least = change_counts k.loaded u.view.front u.view.number (link_at u.view.sizes r.edge.life.index)
                k.changed;
          }),
        )

-- an edge that was found is one still after a node was made ready
pub ready_seen : (h j : HandValue) (x : Life) → IsLayout h.token.view.sizes → IsNodeReady x h j → (source : Life)
    (edge : Edge) (moment : List Event) → IsSeenEdge h.token.view source edge moment
    → IsSeenEdge j.token.view source edge moment
ready_seen h j x z ready source edge moment seen =
    let v = h.token.view in
    seen_makes v j.token.view ready.unraised.own source edge moment z ready.unraised.stays
    (every_map (λ (e : Event). e.place ≡ free_at v.sizes) (λ (e : Event). e.place ≢ link_at v.sizes edge.life.index)
    (λ e at same. edge_place_not_free true v _ z seen.position (sym at ∙ same)) ready.unraised.own ready.at)
    ready.unraised.makes seen

-- no node was ready
pub none_unraised : (h j : HandValue) → IsNoneReady h j → IsUnraised h.token.view j.token.view
none_unraised h j k = unraised_loads h.token.view j.token.view k.makes

pub none_bare : (ends : Ends) (h j n : HandValue) → IsNoneReady h j → NoneFree h.token.view.sizes j.token.view.front
    → HasHelped j n → vertex_marked j.token.view.front ends.from ≡ false
    → vertex_marked j.token.view.front ends.to ≡ false → IsBare ends h n
none_bare ends h j n k empty helped from to =
    let p = (unraised_goes h.token.view j.token.view (none_unraised h j k)).grows in
    record {
      on = goes_on_chain true h j n k.on (helped_on true j n k.on.nodes helped);
      from = unmarked_since h.token.view.front j.token.view.front p ends.from from;
      to = unmarked_since h.token.view.front j.token.view.front p ends.to to;
      then = j.token.view.front;
      empty = record { since = p; until = helped_grows j n helped; holds = empty };
      bare = helped.spare ∙ k.spare;
    }

pub none_over : (ends : Ends) (h j n : HandValue) (life : Life) → IsNoneReady h j → HasHelped j n
    → ((life ≡ ends.from) ⊎ (life ≡ ends.to)) × (vertex_marked n.token.view.front life ≡ true)
    → IsOneOver ends (lacks.Vertex life) h n
none_over ends h j n life k helped over = record {
  on = goes_on_chain true h j n k.on (helped_on true j n k.on.nodes helped);
  life = life;
  lack_is = refl;
  one = over.0;
  marked = over.1;
}

-- an edge of another weight is there, so adding changes it
changed_answer : (g : Graph) (a b w weight : ℕ) → has g a ≡ true → has g b ≡ true → weight_of g a b ≡ Some w
    → w ≢ weight → plain (Changed w) ≡ answer g (AddEdge a b weight)
unfolding answer
changed_answer g a b w weight from to is other = by (w == weight) refl
    ∙ sym (ap₂ (λ (x y : Bool). cond (x && y) (by_weight (weight_of g a b) (there_with weight) Added) (plain NoVertex))
    from to ∙ ap (λ (o : Option ℕ). by_weight o (there_with weight) Added) is)
  where
    by : (c : Bool) → (w == weight) ≡ c → plain (Changed w) ≡ plain (there_with weight w)
    by true same = absurd (other (eqb-true w weight same))
    by false apart = ap (λ (c : Bool). plain (cond c (Present w) (Changed w))) (sym apart)

-- an edge of a pair was replaced, by a node that was made ready before
module _ (h j k n : HandValue) (ends : Ends) (s : EdgeSighting) (a weight : ℕ) (x : Life)
    (z : IsLayout k.token.view.sizes) (kept : IsKept k.token.view.sizes k.token.view.front)
    (ready : IsNodeReady x h j) (rep : IsReplacedOnce ends.from s.edge weight (holding j x) k) (helped : HasHelped k n)
    (from_key : key_of h.token.view.front ends.from ≡ Some a) (target : s.edge.target ≡ ends.to)
    (other : s.edge.weight ≢ weight) where
  abbrev done : View
  done = k.token.view

  abbrev b : ℕ
  b = s.edge.key

  abbrev past : List Event
  past = rep.carries.past

  until : IsPrefix past done.front
  until = subst (IsPrefix past) (sym rep.carries.front) (prefix_snoc past rep.event)

  since : IsPrefix h.token.view.front past
  since = prefix_trans h.token.view.front j.token.view.front past
      (unraised_goes h.token.view j.token.view ready.unraised).grows
      (prefix_trans j.token.view.front rep.before.front past
      (leaves_grows true 0 0 j.token.view rep.before rep.first)
      (until_grows rep.before done rep.event rep.makes past rep.carries.front rep.carries.by))

  kept_past : IsKept done.sizes past
  kept_past = kept_front done.sizes past done.front until kept

  source_key : key_of past ends.from ≡ Some a
  source_key = linked_since h.token.view.front past since ends.from a from_key

  target_key : key_of past s.edge.target ≡ Some b
  target_key =
      let l = rep.unmarked.linked in
      sym (ap (key_of past) l.to) ∙ ((ends_linked done.sizes z past kept_past).target s.edge.life l.link l.is
      ∙ ap Some l.of_key)

  first_part : LeavesGraph true (may_take h.spare) 0 h.token.view rep.before
  first_part =
      let on = ready.on in
      let few = on.spares in
      leaves_less true (on.taken + 0) 0 (may_take h.spare) 0 h.token.view rep.before (omega (arith, few)) (omega arith)
      (leaves_chain true on.taken 0 0 0 h.token.view j.token.view rep.before on.stretch rep.first)

  unlike_is : (pops rep.event.kind ≡ false) × ((moves rep.event.kind ≡ false) × (raises rep.event.kind ≡ false))
  unlike_is = (ap pops rep.kind, (ap moves rep.kind, ap raises rep.kind))

  rest : LeavesGraph true 0 0 done n.token.view
  rest = helps_leave true done n.token.view helped.helped.only

  on_pair : IsOnPair (AddEdge a b weight) a b ends.from ends.to rep.event done
  on_pair = subst (λ (y : Life). IsOnPair (AddEdge a b weight) a b ends.from y rep.event done) target (record {
    past = past;
    front = rep.carries.front;
    by = rep.carries.by;
    link = rep.event;
    edge = ap (λ (d : Kind). edge_by d past rep.event) rep.kind;
    source_is = rep.source_is;
    target_is = rep.target_is;
    call_is = ap (λ (d : Kind). call_by d past rep.event) rep.kind
        ∙ (ap₂ (λ (o p : Option ℕ). option_map (λ (q : ℕ × ℕ). AddEdge q.0 q.1 rep.event.weight) (both o p))
        (ap (key_of past) rep.source_is ∙ source_key) (ap (key_of past) rep.target_is ∙ target_key)
        ∙ ap (λ (w : ℕ). Some (AddEdge a b w)) rep.weight_is);
    present = rep.carries.present a b;
    missing = rep.carries.missing;
  })

  spare_is : n.spare ≡ None
  spare_is = helped.spare ∙ rep.spare

  uses_is : n.uses ≡ h.uses
  uses_is = helped.uses ∙ (rep.uses ∙ ready.on.uses)

  -- both ends were alive after that
  module _ (from : vertex_marked done.front ends.from ≡ false) (to : vertex_marked done.front ends.to ≡ false) where
    here : IsPrefix past past
    here = record { rest = []; whole = append-nil past }

    from_there : present_key past ends.from ≡ Some a
    from_there = present_then past past done.front here until ends.from a source_key from

    to_there : present_key past s.edge.target ≡ Some b
    to_there = present_then past past done.front here until s.edge.target b target_key
        (ap (vertex_marked done.front) target ∙ to)

    change_carries : Carries (AddEdge a b weight) rep.event done
    change_carries = rep.carries.present a b from_there to_there

    change_reply : plain (Changed s.edge.weight) ≡ answer (graph_of change_carries.past) (AddEdge a b weight)
    change_reply =
        let same : change_carries.past ≡ past = append_cancel_right change_carries.past past (rep.event ∷ [])
        (sym change_carries.front ∙ rep.carries.front) in
        let reply = changed_answer (graph_of past) a b s.edge.weight weight (key_of_life past ends.from a from_there)
        (key_of_life past s.edge.target b to_there)
        (has_pair done.sizes z past kept_past ends.from s.edge a b rep.unmarked from_there to_there) other in
        reply ∙ ap (λ (l : List Event). answer (graph_of l) (AddEdge a b weight)) (sym same)

    changed_added : (m : TokenValue) → m.view.front ≡ done.front
        → IsEdgeAdded a b weight (Changed s.edge.weight) h n m
    changed_added m at = record {
      carries = record {
        before = rep.before;
        done = done;
        event = rep.event;
        first = first_part;
        makes = rep.makes;
        unlike = unlike_is;
        carries = change_carries;
        at_is = at;
        last = rest;
      };
      changes = refl;
      reply = change_reply;
      spare = spare_is;
      nodes = helped.nodes rep.nodes;
      uses = uses_is;
    }

  -- or one of them is over by then
  changed_overtaken : (m : TokenValue) → m.view.front ≡ done.front
      → (vertex_marked n.token.view.front ends.from ≡ true) ⊎ (vertex_marked n.token.view.front ends.to ≡ true)
      → IsEdgeOvertaken a b weight ends h n m.view.front
  changed_overtaken m at over = record {
    exchange = record {
      before = rep.before;
      done = done;
      event = rep.event;
      first = first_part;
      makes = rep.makes;
      unlike = unlike_is;
      on = on_pair;
      at_is = at;
      last = rest;
    };
    marked = over;
    spare = spare_is;
    nodes = helped.nodes rep.nodes;
    uses = uses_is;
  }

  pub changed_placed : (r : AddTurn) → MatchConcluded r (Changed s.edge.weight) ends k.token n.token
      → MatchPlaced r (Changed s.edge.weight) (turn.FullAtEdge s) ends a b weight s.moment.value.view.front h n
  changed_placed (turn.Done o m) c = (c.0, changed_added c.1.from c.1.to m.value c.1.moment)
  changed_placed (turn.Overtaken e m) c = (c.0, changed_overtaken m.value c.1.0 c.1.1)
  changed_placed (turn.Present p) c = absurd c
  changed_placed (turn.Lacks l) c = absurd c
  changed_placed (turn.FullAtGap q) c = absurd c
  changed_placed (turn.FullAtEdge p) c = absurd c
  changed_placed (turn.Stale p) c = absurd c
  changed_placed turn.Lost c = absurd c

-- it wasn't replaced
pub change_lost : (h j k : HandValue) (x source : Life) (s : EdgeSighting) (weight : ℕ) → IsNodeReady x h j
    → MatchReplacedOnce false source s weight (holding j x) k
    → GoesOnBy true h k × Fell 1 k.token.view.number s.moment.value.view.front k.token.view.front
change_lost h j k x source s weight ready lost = (
  goes_on_chain true h (holding j x) k ready.on (bare_on (holding j x) k lost.0),
  lost.1,
)

-- no node was taken, since another caller changed the free list
pub take_lost : (h j : HandValue) (source : Life) (s : EdgeSighting) → IsNoneReady h j
    → IsSeenEdge h.token.view source s.edge s.moment.value.view.front
    → Fell 1 j.token.view.number h.token.view.front j.token.view.front
    → GoesOnBy true h j × Fell 1 j.token.view.number s.moment.value.view.front j.token.view.front
take_lost h j source s k seen fell = (
  k.on,
  fell_since 1 j.token.view.number s.moment.value.view.front h.token.view.front j.token.view.front
      (seen_before h.token.view source s.edge s.moment.value.view.front seen)
      (unraised_goes h.token.view j.token.view (none_unraised h j k)).grows fell,
)
