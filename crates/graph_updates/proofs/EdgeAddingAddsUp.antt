-- Adding an edge: what a part came to, told from before it.
use Rattle.std.proofs.Common.{◌≡◌, ◌≢◌, ◌⊎◌, ℕ, ◌+◌, ◌-◌, ◌<◌, ◌≤◌, ◌&&◌, Bool, true, false, cond, List, [], ◌∷◌}
use Rattle.std.proofs.Common.{None, Some}
use Rattle.std.proofs.Common.{Option}
use Rattle.std.proofs.Common.{length, slice_get, refl, sym, ap, ap₂, ◌∙◌, subst, arith, ne_eqb, ⊎_elim}
use Rattle.std.proofs.lemmas.Bool.{cases_lt}
use Rattle.std.specs.Prelude.{is_some}
use Rattle.graph_kinds.specs.Answer.{answer, by_weight, is_added, needs_node, plain, there_with}
use Rattle.graph_kinds.specs.Graph.{Graph, has, weight_of}
use Rattle.graph_kinds.specs.declared.call.Call.{Call}
use Rattle.graph_kinds.specs.declared.call.Call.TheVariants.{AddEdge}
use Rattle.graph_kinds.specs.declared.outcome.Outcome.{Outcome}
use Rattle.graph_kinds.specs.declared.outcome.Outcome.TheVariants.{Added, Changed, NoVertex, Present}
use Rattle.packed_link.specs.Layout.{IsLayout, Sizes, free_at}
use Rattle.packed_link.specs.declared.link.Life.{Life}
use Rattle.core_journal.specs.declared.event.Event.{Event}
use Rattle.core_journal.specs.declared.event.Kind.{Kind}
use Rattle.core_journal.specs.declared.event.Kind.TheVariants.{LinkEdge, ReplaceEdge}
use Rattle.core_journal.specs.Event.{counted, links_edge, pops, same_life}
use Rattle.core_journal.specs.GraphOf.{graph_of}
use Rattle.core_journal.specs.Life.{edge_linked, key_of, link_of, vertex_marked}
use Rattle.core_journal.specs.Prefix.{IsPrefix}
use Rattle.core_journal.specs.Right.{NoneFree}
use Rattle.core_journal.proofs.ForeignAddsUp.{one_foreign}
use Rattle.core_journal.proofs.KeptLives.{link_more, linked-link}
use Rattle.core_journal.proofs.Lists.{get_back, get_front, get_short, prefix_trans}
use Rattle.core_kept.specs.Counts.{made, most_pops}
use Rattle.core_kept.specs.Kept.{IsKept}
use Rattle.core_lists.proofs.LowerCounters.{found_at}
use Rattle.core_rule.specs.Fronts.{MetVertex}
use Rattle.core_rule.specs.Stretches.{HasPass}
use Rattle.core_rule.specs.Views.{GoesOn}
use Rattle.core_rule.specs.declared.view.View.{View}
use Rattle.core_rule.proofs.ViewShows.{vertex_still}
use Rattle.core_stretches.specs.Moments.{Has, HoldsBetween, LacksEdge}
use Rattle.core_stretches.proofs.MakesTell.{makes_goes, makes_later, makes_own}
use Rattle.edge_list.specs.EdgePositions.{EdgePositionValue, IsGapOfEdge, IsUnmarkedEdge}
use Rattle.edge_list.specs.declared.marking.EdgeMarked.{EdgeMarked}
use Rattle.edge_list.specs.declared.marking.EdgeMarked.TheVariants.{Won, Was, Replaced}
use Rattle.edge_list.specs.declared.walks.EdgeSighting.{EdgeSighting}
use Rattle.edge_list.proofs.EdgePositionsGoOn.{edge_gap_makes, edge_place_not_free}
use Rattle.graph_table.specs.Tokens.{TokenValue}
use Rattle.graph_updates.specs.EdgeAdding.{IsBare, IsEdgeAdded, IsEdgeFull, IsEdgeOvertaken, IsOneOver, IsUnraised}
use Rattle.graph_updates.specs.EdgeAdding.{MatchAddTurn, MatchAddTurns, MatchEdgeAddTried, tried_of}
use Rattle.graph_updates.specs.EdgeAdding.{MatchPlaced, MatchStaleMarked}
use Rattle.graph_updates.specs.EdgeLinking.{IsAtFree}
use Rattle.graph_updates.specs.EdgeLocating.{WasEdgeGone, WasEdgeHere}
use Rattle.graph_updates.specs.EdgeRemoving.{GoesOnBare}
use Rattle.graph_updates.specs.Exchanges.{ExchangesOn, IsOvertakenBy}
use Rattle.graph_updates.specs.Hands.{HandValue, HasItsNodes}
use Rattle.graph_updates.specs.Pairs.{AreEnds, HasPair, LacksPair, MatchEndsAlive, MatchLack, lack_outcome}
use Rattle.graph_updates.specs.declared.pairs.EndsAlive.TheVariants as alive
use Rattle.graph_updates.specs.Parts.{Fell, GoesOnBy, HasHelped, IsHelp, LeavesGraph, may_take}
use Rattle.graph_updates.specs.Replying.{NeedsNode}
use Rattle.graph_updates.specs.declared.edge_adding.AddTurn.{AddTurn}
use Rattle.graph_updates.specs.declared.edge_adding.AddTurn.TheVariants as turn
use Rattle.graph_updates.specs.declared.edge_adding.EdgeAddTried.TheVariants as tried
use Rattle.graph_updates.specs.declared.pairs.Ends.{Ends}
use Rattle.graph_updates.specs.declared.pairs.Lack.{Lack}
use Rattle.graph_updates.specs.declared.pairs.Lack.TheVariants as lack
use Rattle.graph_updates.proofs.AddingAddsUp.{fell_since, goes_on_chain, helped_on, leaves_grows, leaves_made}
use Rattle.graph_updates.proofs.AddingAddsUp.{leaves_number}
use Rattle.graph_updates.proofs.BurialLists.{every_map}
use Rattle.graph_updates.proofs.EdgeRaisesTell.{unmarked_then}
use Rattle.graph_updates.proofs.EdgeRemovingTells.{bare_on}
use Rattle.graph_updates.proofs.EndsTell.{key_later}
use Rattle.graph_updates.proofs.HandsHelp.{has_helped_chain}
use Rattle.graph_updates.proofs.LocatingTells.{between_earlier, between_later, fell_as, fell_both, fell_none}
use Rattle.graph_updates.proofs.LocatingTells.{helped_grows, helped_number}
use Rattle.graph_updates.proofs.MarkPlaces.{any_here}
use Rattle.graph_updates.proofs.PairsTell.{end_over, pair_missing, pair_seen, unmarked_since}
use Rattle.graph_updates.proofs.PartsLeave.{each_kind, helps_leave, leaves_chain, leaves_less, pass_goes}

-- a node was made ready without raises
pub free_unraised : (v w : View) → IsAtFree v w → IsUnraised v w
free_unraised v w h = record { own = h.own; stays = h.stays; makes = h.makes; raised = h.raised }

-- a node was made ready: what was met was met, and a position stays
module _ (v w : View) (h : IsAtFree v w) (z : IsLayout v.sizes) where
  free_goes : GoesOn v w
  free_goes = makes_goes v w h.own h.stays h.makes

  pub free_pass : HasPass v → HasPass w
  free_pass opened = pass_goes v w h.own z h.makes true h.stays opened

  pub free_grows : IsPrefix v.front w.front
  free_grows = (makes_later v w h.own h.makes).grows

  pub free_met : (x : Life) → MetVertex v x → MetVertex w x
  free_met x met = vertex_still v w z free_goes x met

  pub free_key : (x : Life) (key : ℕ) → key_of v.front x ≡ Some key → key_of w.front x ≡ Some key
  free_key x key is = key_later v w free_grows x key is

  pub free_gap : (p : EdgePositionValue) → IsGapOfEdge v p → IsGapOfEdge w p
  free_gap p gap = edge_gap_makes v w h.own p z h.stays
      (every_map (λ (e : Event). e.place ≡ free_at v.sizes) (λ (e : Event). e.place ≢ p.place)
      (λ e at same. edge_place_not_free false v p z gap.position (sym at ∙ same)) h.own h.at)
      h.makes gap

pub gap_before : (v : View) (p : EdgePositionValue) → IsGapOfEdge v p → IsPrefix p.moment v.front
gap_before v p gap = subst (λ (j : List Event). IsPrefix j v.front) gap.position.at gap.position.goes.grows

-- an exchange on an edge, told from before a stretch that leaves the graph
pub exchanges_since : (call : Call) (a b : ℕ) (source target : Life) (n m k : ℕ) (u v w : View) (at : List Event)
    → LeavesGraph true n 0 u v → ExchangesOn call a b source target m k v w at
    → ExchangesOn call a b source target (n + m) k u w at
exchanges_since call a b source target n m k u v w at h e = record {
  before = e.before;
  done = e.done;
  event = e.event;
  first = leaves_chain true n 0 m 0 u v e.before h e.first;
  makes = e.makes;
  unlike = e.unlike;
  on = e.on;
  at_is = e.at_is;
  last = e.last;
}

pub exchanges_less : (call : Call) (a b : ℕ) (source target : Life) (n m k : ℕ) (v w : View) (at : List Event) → n ≤ m
    → ExchangesOn call a b source target n k v w at → ExchangesOn call a b source target m k v w at
exchanges_less call a b source target n m k v w at low e = record {
  before = e.before;
  done = e.done;
  event = e.event;
  first = leaves_less true n 0 m 0 v e.before low (omega arith) e.first;
  makes = e.makes;
  unlike = e.unlike;
  on = e.on;
  at_is = e.at_is;
  last = e.last;
}

-- what an edge call came to after a part that left the graph, told from before that
module _ (old now new : HandValue) (g : GoesOnBy true old now) where
  since_grows : IsPrefix old.token.view.front now.token.view.front
  since_grows = leaves_grows true g.taken 0 old.token.view now.token.view g.stretch

  since_sizes : now.token.view.sizes ≡ old.token.view.sizes
  since_sizes = (makes_later old.token.view now.token.view g.stretch.own g.stretch.makes).sizes

  pub since_on : GoesOnBy true now new → GoesOnBy true old new
  since_on h = goes_on_chain true old now new g h

  pub since_added : (a b weight : ℕ) (o : Outcome) (m : TokenValue) → IsEdgeAdded a b weight o now new m
      → IsEdgeAdded a b weight o old new m
  since_added a b weight o m h =
      let s = g.spares in
      record {
        carries = record {
          before = h.carries.before;
          done = h.carries.done;
          event = h.carries.event;
          first = leaves_less true (g.taken + may_take now.spare) 0 (may_take old.spare) 0 old.token.view
              h.carries.before s (omega arith)
              (leaves_chain true g.taken 0 (may_take now.spare) 0 old.token.view now.token.view h.carries.before
              g.stretch h.carries.first);
          makes = h.carries.makes;
          unlike = h.carries.unlike;
          carries = h.carries.carries;
          at_is = h.carries.at_is;
          last = h.carries.last;
        };
        changes = h.changes;
        reply = h.reply;
        spare = h.spare;
        nodes = h.nodes;
        uses = h.uses ∙ g.uses;
      }

  pub since_overtaken : (a b weight : ℕ) (ends : Ends) (at : List Event) → IsEdgeOvertaken a b weight ends now new at
      → IsEdgeOvertaken a b weight ends old new at
  since_overtaken a b weight ends at h =
      let s = g.spares in
      record {
        exchange = exchanges_less (AddEdge a b weight) a b ends.from ends.to (g.taken + may_take now.spare)
            (may_take old.spare) 0 old.token.view new.token.view at s
            (exchanges_since (AddEdge a b weight) a b ends.from ends.to g.taken (may_take now.spare) 0 old.token.view
            now.token.view new.token.view at g.stretch h.exchange);
        marked = h.marked;
        spare = h.spare;
        nodes = h.nodes;
        uses = h.uses ∙ g.uses;
      }

  pub since_over : (ends : Ends) (l : Lack) → IsOneOver ends l now new → IsOneOver ends l old new
  since_over ends l h = record {
    on = since_on h.on;
    life = h.life;
    lack_is = h.lack_is;
    one = h.one;
    marked = h.marked;
  }

  pub since_bare : (ends : Ends) → IsBare ends now new → IsBare ends old new
  since_bare ends h = record {
    on = since_on h.on;
    from = unmarked_since old.token.view.front now.token.view.front since_grows ends.from h.from;
    to = unmarked_since old.token.view.front now.token.view.front since_grows ends.to h.to;
    then = h.then;
    empty = subst (λ (s : Sizes). HoldsBetween old.token.view.front new.token.view.front (NoneFree s) h.then)
        since_sizes
        (between_earlier (NoneFree now.token.view.sizes) old.token.view.front now.token.view.front new.token.view.front
        h.then since_grows h.empty);
    bare = h.bare;
  }

  pub since_overtaken_by : (a b weight : ℕ) (ends : Ends) (at : List Event)
      → IsOvertakenBy (AddEdge a b weight) a b (may_take now.spare) ends now new at
      → IsOvertakenBy (AddEdge a b weight) a b (may_take old.spare) ends old new at
  since_overtaken_by a b weight ends at h =
      let x = h.on.exchange in
      let s = g.spares in
      record {
        on = record {
          exchange = record {
            before = x.before;
            done = x.done;
            event = x.event;
            first = leaves_less true (g.taken + may_take now.spare) 0 (may_take old.spare) 0 old.token.view x.before s
                (omega arith)
                (leaves_chain true g.taken 0 (may_take now.spare) 0 old.token.view now.token.view x.before g.stretch
                x.first);
            makes = x.makes;
            unlike = x.unlike;
            on = x.on;
            at_is = x.at_is;
            last = x.last;
          };
          from_then = h.on.from_then;
          from_there = between_earlier (Has a ends.from) old.token.view.front now.token.view.front x.before.front
              h.on.from_then since_grows h.on.from_there;
          to_then = h.on.to_then;
          to_there = between_earlier (Has b ends.to) old.token.view.front now.token.view.front x.before.front
              h.on.to_then since_grows h.on.to_there;
          marked = h.on.marked;
        };
        nodes = h.nodes;
        uses = h.uses ∙ g.uses;
      }

  pub on_limit : made pops old.token.view.number old.token.view.front + may_take old.spare ≤ most_pops
      → made pops now.token.view.number now.token.view.front + may_take now.spare ≤ most_pops
  on_limit low =
      let m = leaves_made true g.taken 0 old.token.view now.token.view g.stretch in
      let s = g.spares in
      omega (arith, m, low, s)

  pub edge_full_since : (a b weight : ℕ) (at : List Event) → IsEdgeFull a b weight now new at
      → IsEdgeFull a b weight old new at
  edge_full_since a b weight at f = record {
    on = since_on f.on;
    needs = between_earlier (NeedsNode (AddEdge a b weight)) old.token.view.front now.token.view.front
        new.token.view.front at since_grows f.needs;
    then = f.then;
    empty = subst (λ (s : Sizes). HoldsBetween old.token.view.front new.token.view.front (NoneFree s) f.then)
        since_sizes
        (between_earlier (NoneFree now.token.view.sizes) old.token.view.front now.token.view.front new.token.view.front
        f.then since_grows f.empty);
    bare = f.bare;
  }

  pub placed_earlier : (r : AddTurn) (o : Outcome) (full : AddTurn) (ends : Ends) (a b weight : ℕ) (since : List Event)
      → MatchPlaced r o full ends a b weight since now new → MatchPlaced r o full ends a b weight since old new
  placed_earlier (turn.Done p m) o full ends a b weight since h = (h.0, since_added a b weight o m.value h.1)
  placed_earlier (turn.Overtaken e m) o full ends a b weight since h = (
    h.0,
    since_overtaken a b weight ends m.value.view.front h.1,
  )
  placed_earlier (turn.Lacks l) o full ends a b weight since h = since_over ends l h
  placed_earlier (turn.FullAtGap q) o full ends a b weight since h = (h.0, since_bare ends h.1)
  placed_earlier (turn.FullAtEdge s) o full ends a b weight since h = (h.0, since_bare ends h.1)
  placed_earlier turn.Lost o full ends a b weight since h = (since_on h.0, h.1)
  placed_earlier (turn.Present s) o full ends a b weight since h = absurd h
  placed_earlier (turn.Stale m) o full ends a b weight since h = absurd h

-- a missing pair, or one of another weight, needs a node
needs_added : (g : Graph) (a b w : ℕ) → has g a ≡ true → has g b ≡ true → weight_of g a b ≡ None
    → needs_node g (AddEdge a b w) ≡ true
unfolding answer needs_node
needs_added g a b w from to none = ap₂
    (λ (x y : Bool). is_added (cond (x && y) (by_weight (weight_of g a b) (there_with w) Added) (plain
    NoVertex)).outcome)
    from to
    ∙ ap (λ (o : Option ℕ). is_added (by_weight o (there_with w) Added).outcome) none

needs_changed : (g : Graph) (a b w x : ℕ) → has g a ≡ true → has g b ≡ true → weight_of g a b ≡ Some x → x ≢ w
    → needs_node g (AddEdge a b w) ≡ true
unfolding answer needs_node
needs_changed g a b w x from to is other = ap₂
    (λ (x y : Bool). is_added (cond (x && y) (by_weight (weight_of g a b) (there_with w) Added) (plain
    NoVertex)).outcome)
    from to
    ∙ (ap (λ (o : Option ℕ). is_added (by_weight o (there_with w) Added).outcome) is
    ∙ ap (λ (c : Bool). is_added (cond c (Present x) (Changed x))) (ne_eqb x w other))

pub lacking_needs : (a b w : ℕ) (j : List Event) → LacksPair a b j → NeedsNode (AddEdge a b w) j
lacking_needs a b w j h = record { needs = needs_added (graph_of j) a b w h.from h.to h.none }

pub differing_needs : (a b w x : ℕ) (j : List Event) → HasPair a b x j → x ≢ w → NeedsNode (AddEdge a b w) j
differing_needs a b w x j h other = record { needs = needs_changed (graph_of j) a b w x h.from h.to h.weight_is other }

-- the moment of the position or of the edge of a turn that ended for want of a node
pub data IsFullTurn : AddTurn → List Event → Type 0 where
  AtGap : (q : EdgePositionValue) → IsFullTurn (turn.FullAtGap q) q.moment
  AtEdge : (s : EdgeSighting) → IsFullTurn (turn.FullAtEdge s) s.moment.value.view.front

same_gap : (q : EdgePositionValue) (full : AddTurn) (at : List Event) → IsFullTurn full at → turn.FullAtGap q ≡ full
    → q.moment ≡ at
same_gap q _ _ (AtGap p) h = cc
same_gap q _ _ (AtEdge s) h = absurd (cc)

same_sighting : (s : EdgeSighting) (full : AddTurn) (at : List Event) → IsFullTurn full at → turn.FullAtEdge s ≡ full
    → s.moment.value.view.front ≡ at
same_sighting s _ _ (AtGap p) h = absurd (cc)
same_sighting s _ _ (AtEdge t) h = cc

-- one walk and what follows from it, told from before the walk
module _ (old now new : HandValue) (helped : HasHelped old now) (nodes : HasItsNodes old) where
  walk_on : GoesOnBy true old now
  walk_on = helped_on true old now nodes helped

  new_grows : GoesOnBy true now new → IsPrefix now.token.view.front new.token.view.front
  new_grows g = leaves_grows true g.taken 0 now.token.view new.token.view g.stretch

  turn_full : (ends : Ends) (a b weight : ℕ) (since at : List Event) → IsPrefix old.token.view.front since
      → IsPrefix since now.token.view.front → at ≡ since
      → (IsBare ends now new → NeedsNode (AddEdge a b weight) since) → IsBare ends now new
      → IsEdgeFull a b weight old new at
  turn_full ends a b weight since at from until same needs h =
      let bare = since_bare old now new walk_on ends h in
      record {
        on = bare.on;
        needs = subst (λ (j : List Event). HoldsBetween old.token.view.front new.token.view.front
            (NeedsNode (AddEdge a b weight)) j) (sym same) (record {
              since = from;
              until = prefix_trans since now.token.view.front new.token.view.front until (new_grows h.on);
              holds = needs h;
            });
        then = bare.then;
        empty = bare.empty;
        bare = bare.bare;
      }

  pub turn_placed : (r : AddTurn) (o : Outcome) (full : AddTurn) (ends : Ends) (a b weight : ℕ) (since : List Event)
      → IsPrefix old.token.view.front since → IsPrefix since now.token.view.front → IsFullTurn full since
      → (IsBare ends now new → NeedsNode (AddEdge a b weight) since)
      → MatchPlaced r o full ends a b weight since now new → MatchAddTurn r ends a b weight old new
  turn_placed (turn.Done p m) o full ends a b weight since from until f needs h = subst (λ (q : Outcome). IsEdgeAdded
      a b weight q old new m.value) (sym h.0)
      (since_added old now new walk_on a b weight o m.value h.1)
  turn_placed (turn.Overtaken e m) o full ends a b weight since from until f needs h = (
    h.0,
    since_overtaken old now new walk_on a b weight ends m.value.view.front h.1,
  )
  turn_placed (turn.Lacks l) o full ends a b weight since from until f needs h = since_over old now new walk_on ends l h
  turn_placed (turn.FullAtGap q) o full ends a b weight since from until f needs h = turn_full ends a b weight since
      q.moment from until
      (same_gap q full since f h.0) needs h.1
  turn_placed (turn.FullAtEdge s) o full ends a b weight since from until f needs h = turn_full ends a b weight since
      s.moment.value.view.front from until
      (same_sighting s full since f h.0) needs h.1
  turn_placed turn.Lost o full ends a b weight since from until f needs h = (
    since_on old now new walk_on h.0,
    fell_since 1 new.token.view.number old.token.view.front since new.token.view.front from
        (prefix_trans since now.token.view.front new.token.view.front until (new_grows h.0)) h.1,
  )
  turn_placed (turn.Present s) o full ends a b weight since from until f needs h = absurd h
  turn_placed (turn.Stale m) o full ends a b weight since from until f needs h = absurd h

  pub turn_over : (ends : Ends) (x : Life) → HasHelped now new
      → ((x ≡ ends.from) ⊎ (x ≡ ends.to)) × (vertex_marked new.token.view.front x ≡ true)
      → IsOneOver ends (lack.Vertex x) old new
  turn_over ends x h over = record {
    on = helped_on true old new nodes (has_helped_chain old now new helped h);
    life = x;
    lack_is = refl;
    one = over.0;
    marked = over.1;
  }

  pub walk_limit : made pops old.token.view.number old.token.view.front + may_take old.spare ≤ most_pops
      → made pops now.token.view.number now.token.view.front + may_take now.spare ≤ most_pops
  walk_limit low =
      let m = leaves_made false 0 0 old.token.view now.token.view
      (helps_leave false old.token.view now.token.view helped.helped.only) in
      let same = ap may_take helped.spare in
      omega (arith, m, low, same)

  -- between them the keys of both ends are known
  module _ (ends : Ends) (a b weight : ℕ) (z : IsLayout now.token.view.sizes)
      (kept : IsKept now.token.view.sizes now.token.view.front) (from_key : key_of old.token.view.front ends.from ≡
      Some a)
      (to_key : key_of old.token.view.front ends.to ≡ Some b) where
    -- the edge is there
    pub turn_present : (s : EdgeSighting) → WasEdgeHere ends.from b old.token.view now.token.view s
        → s.edge.target ≡ ends.to → s.edge.weight ≡ weight → HasHelped now new
        → MatchEndsAlive alive.Both ends now.token.view new.token.view
        → GoesOnBy true old new
        × HoldsBetween old.token.view.front new.token.view.front (HasPair a b weight) s.moment.value.view.front
    turn_present s here target same h both = (
      helped_on true old new nodes (has_helped_chain old now new helped h),
      subst (λ (w : ℕ). HoldsBetween old.token.view.front new.token.view.front (HasPair a b w)
          s.moment.value.view.front) same
          (between_later (HasPair a b s.edge.weight) old.token.view.front now.token.view.front new.token.view.front
          s.moment.value.view.front (helped_grows now new h)
          (pair_seen a b old.token.view now.token.view ends from_key to_key z kept both.0 both.1 s here target)),
    )

    -- it's missing
    pub turn_link : (r : AddTurn) (q : EdgePositionValue) → WasEdgeGone ends.from b old.token.view now.token.view q
        → MatchPlaced r Added (turn.FullAtGap q) ends a b weight q.moment now new
        → MatchAddTurn r ends a b weight old new
    turn_link r q gone h = turn_placed r Added (turn.FullAtGap q) ends a b weight q.moment gone.there.since
        gone.there.until (AtGap q)
        (λ bare. lacking_needs a b weight q.moment
        (pair_missing a b old.token.view now.token.view ends from_key to_key z kept bare.from bare.to q gone).holds)
        h

    -- it has another weight
    pub turn_change : (r : AddTurn) (s : EdgeSighting) → WasEdgeHere ends.from b old.token.view now.token.view s
        → s.edge.target ≡ ends.to → s.edge.weight ≢ weight
        → MatchPlaced r (Changed s.edge.weight) (turn.FullAtEdge s) ends a s.edge.key weight
        s.moment.value.view.front now new
        → MatchAddTurn r ends a b weight old new
    turn_change r s here target other h = turn_placed r (Changed s.edge.weight) (turn.FullAtEdge s) ends a b weight
        s.moment.value.view.front here.there.since here.there.until (AtEdge s)
        (λ bare. differing_needs a b weight s.edge.weight s.moment.value.view.front
        (pair_seen a b old.token.view now.token.view ends from_key to_key z kept bare.from bare.to s here target).holds
        other)
        (subst (λ (k : ℕ). MatchPlaced r (Changed s.edge.weight) (turn.FullAtEdge s) ends a k weight
        s.moment.value.view.front now new) here.key_is h)

-- an edge that was found, of a source and key that had no edge before, was linked by another since then
links_counted : (k : Kind) → links_edge k ≡ true → counted k ≡ true
links_counted LinkEdge h = refl
links_counted ReplaceEdge h = refl
links_counted _ h = absurd (cc)

help_links_none : (k : Kind) → IsHelp k → links_edge k ≡ false
help_links_none k h = ⊎_elim (λ is. ap links_edge is) (λ r. ⊎_elim (λ is. ap links_edge is)
    (λ s. ⊎_elim (λ is. ap links_edge is) (λ is. ap links_edge is) s) r) h

module _ (old now : HandValue) (helped : HasHelped old now) (source : Life) (s : EdgeSighting)
    (lacks : LacksEdge source s.edge.key old.token.view.front)
    (h : HoldsBetween old.token.view.front now.token.view.front (IsUnmarkedEdge source s.edge)
    s.moment.value.view.front) where
  abbrev moment : List Event
  moment = s.moment.value.view.front

  abbrev test : Event → Bool
  test e = links_edge e.kind && same_life s.edge.life e.life

  abbrev link : Event
  link = h.holds.linked.link

  found : (k : ℕ) × (slice_get moment k ≡ Some link) × (test link ≡ true)
  unfolding link_of
  found = found_at test moment link h.holds.linked.is

  -- it wasn't linked at the start
  not_linked : link_of old.token.view.front s.edge.life ≡ None
  not_linked = by (link_of old.token.view.front s.edge.life) refl
    where
      value : (x y : Event) → Some x ≡ Some y → x ≡ y
      value x y e = cc

      by : (o : Option Event) → link_of old.token.view.front s.edge.life ≡ o
          → link_of old.token.view.front s.edge.life ≡ None
      by None is = is
      by (Some d) is =
          let same : d ≡ link = value d link
          (sym (subst (λ (j : List Event). link_of j s.edge.life ≡ Some d) h.since.whole
          (link_more old.token.view.front h.since.rest s.edge.life d is)) ∙ h.holds.linked.is) in
          absurd (lacks.none s.edge.life d is
          (unmarked_then old.token.view.front moment h.since s.edge.life h.holds.unmarked)
          (ap (λ (e : Event). e.source) same ∙ h.holds.linked.from)
          (ap (λ (e : Event). e.key) same ∙ h.holds.linked.of_key))

  far : length old.token.view.front ≤ found.0
  far = ⊎_elim
      (λ (low : found.0 < length old.token.view.front).
      let at : slice_get old.token.view.front found.0 ≡ Some link = sym
      (get_back old.token.view.front h.since.rest found.0 low)
      ∙ (ap (λ (j : List Event). slice_get j found.0) h.since.whole ∙ found.1) in
      let there : edge_linked old.token.view.front s.edge.life ≡ true =
      any_here test old.token.view.front found.0 link at found.2 in
      let none : edge_linked old.token.view.front s.edge.life ≡ false =
      linked-link old.token.view.front s.edge.life ∙ ap is_some not_linked in
      let both : true ≡ false = sym there ∙ none in
      absurd (cc))
      (λ (high : length old.token.view.front ≤ found.0). high)
      (cases_lt found.0 (length old.token.view.front))

  at_now : slice_get now.token.view.front found.0 ≡ Some link
  at_now = subst (λ (j : List Event). slice_get j found.0 ≡ Some link) h.until.whole
      (get_front moment h.until.rest found.0 link found.1)

  links : links_edge link.kind ≡ true
  links = first (links_edge link.kind) (same_life s.edge.life link.life) found.2
    where
      first : (x y : Bool) → (x && y) ≡ true → x ≡ true
      first true y e = refl
      first false y e = absurd (cc)

  other : link.caller ≢ now.token.view.number
  other by =
      let o = helped.helped.only in
      let none = (makes_own (λ (e : Event). links_edge e.kind ≡ false) old.token.view now.token.view o.own
      (each_kind IsHelp (λ k. links_edge k ≡ false) help_links_none o.own o.are) o.makes).each found.0 link far at_now
      (by ∙ helped_number old now helped) in
      let both : true ≡ false = sym links ∙ none in
      absurd (cc)

  pub linked_by_another : Fell 1 now.token.view.number old.token.view.front now.token.view.front
  linked_by_another = record {
    least = one_foreign now.token.view.front now.token.view.number (length old.token.view.front)
        (length now.token.view.front) found.0 link far (get_short now.token.view.front found.0 link at_now) at_now
        (links_counted link.kind links) other;
  }

-- an edge to an earlier life of the key was to be marked
pub turn_stale : (r : EdgeMarked) (old now new : HandValue) (source : Life) (key : ℕ) (s : EdgeSighting)
    → HasItsNodes old → HasHelped old now → WasEdgeHere source key old.token.view now.token.view s
    → GoesOnBare now new
    → MatchStaleMarked r source s.edge.key s.moment.value.view.front new.token.view
    → GoesOnBy true old new × (MatchStaleMarked r source key old.token.view.front new.token.view
    × (LacksEdge source key old.token.view.front
    → Fell 1 new.token.view.number old.token.view.front new.token.view.front))
turn_stale r old now new source key s nodes helped here bare m =
    let on = goes_on_chain true old now new (helped_on true old now nodes helped) (bare_on now new bare) in
    let up = leaves_grows true 0 0 now.token.view new.token.view bare.stretch in
    let until = prefix_trans s.moment.value.view.front now.token.view.front new.token.view.front here.there.until up
    in (
      on,
      (
        told r (subst (λ (k : ℕ). MatchStaleMarked r source k s.moment.value.view.front new.token.view) here.key_is m)
            until,
        λ lacks.
            let fell = linked_by_another old now helped source s
            (subst (λ (k : ℕ). LacksEdge source k old.token.view.front) (sym here.key_is) lacks) here.there in
            subst (λ (n : ℕ). Fell 1 n old.token.view.front new.token.view.front)
            (sym (leaves_number true 0 0 now.token.view new.token.view bare.stretch))
            (fell_as (1 + 0) 1 now.token.view.number old.token.view.front new.token.view.front (omega arith)
            (fell_both 1 0 now.token.view.number old.token.view.front now.token.view.front new.token.view.front
            (helped_grows old now helped) up fell
            (fell_none now.token.view.number now.token.view.front new.token.view.front))),
      ),
    )
  where
    told : (r : EdgeMarked) → MatchStaleMarked r source key s.moment.value.view.front new.token.view
        → IsPrefix s.moment.value.view.front new.token.view.front
        → MatchStaleMarked r source key old.token.view.front new.token.view
    told Won h p = h
    told Was h p = fell_since 1 new.token.view.number old.token.view.front s.moment.value.view.front
        new.token.view.front here.there.since p h
    told Replaced h p = fell_since 1 new.token.view.number old.token.view.front s.moment.value.view.front
        new.token.view.front here.there.since p h

-- a turn that placed an edge wasn't at one to be marked
pub not_stale : (r : AddTurn) (o : Outcome) (full : AddTurn) (ends : Ends) (a b weight : ℕ) (since : List Event)
    (old new : HandValue) (m : EdgeMarked) → MatchPlaced r o full ends a b weight since old new → r ≡ turn.Stale m → ⊥
not_stale r o full ends a b weight since old new m h is = subst
    (λ (q : AddTurn). MatchPlaced q o full ends a b weight since old new) is h

-- the second turn of a try, told from before the first
module _ (old now new : HandValue) (ends : Ends) (a b weight : ℕ)
    (first : MatchAddTurn (turn.Stale Won) ends a b weight old now) where
  first_on : GoesOnBy true old now
  first_on = first.0

  first_grows : IsPrefix old.token.view.front now.token.view.front
  first_grows = leaves_grows true first_on.taken 0 old.token.view now.token.view first_on.stretch

  pub turns_told : (r : AddTurn) → MatchAddTurn r ends a b weight now new → MatchAddTurns r ends a b weight old new
  turns_told (turn.Done o m) h = since_added old now new first_on a b weight o m.value h
  turns_told (turn.Overtaken e m) h = (
    h.0,
    since_overtaken old now new first_on a b weight ends m.value.view.front h.1,
  )
  turns_told (turn.Present s) h = (
    since_on old now new first_on h.0,
    between_earlier (HasPair a b weight) old.token.view.front now.token.view.front new.token.view.front
        s.moment.value.view.front first_grows h.1,
  )
  turns_told (turn.Lacks l) h = since_over old now new first_on ends l h
  turns_told (turn.FullAtGap q) h = edge_full_since old now new first_on a b weight q.moment h
  turns_told (turn.FullAtEdge s) h = edge_full_since old now new first_on a b weight s.moment.value.view.front h
  turns_told (turn.Stale m) h = (
    since_on old now new first_on h.0,
    fell_since 1 new.token.view.number old.token.view.front now.token.view.front new.token.view.front first_grows
        (leaves_grows true h.0.taken 0 now.token.view new.token.view h.0.stretch) (h.1.1 first.1.0),
  )
  turns_told turn.Lost h = (
    since_on old now new first_on h.0,
    fell_since 1 new.token.view.number old.token.view.front now.token.view.front new.token.view.front first_grows
        (leaves_grows true h.0.taken 0 now.token.view new.token.view h.0.stretch) h.1,
  )

  pub first_limit : made pops old.token.view.number old.token.view.front + may_take old.spare ≤ most_pops
      → made pops now.token.view.number now.token.view.front + may_take now.spare ≤ most_pops
  first_limit low = on_limit old now now first_on low

-- a try of one turn, which wasn't at an edge to be marked
pub turn_only : (r : AddTurn) (old new : HandValue) (ends : Ends) (a b weight : ℕ)
    → ((m : EdgeMarked) → r ≡ turn.Stale m → ⊥) → MatchAddTurn r ends a b weight old new
    → MatchAddTurns r ends a b weight old new
turn_only (turn.Done o m) old new ends a b weight unlike h = h
turn_only (turn.Overtaken e m) old new ends a b weight unlike h = h
turn_only (turn.Present s) old new ends a b weight unlike h = h
turn_only (turn.Lacks l) old new ends a b weight unlike h = h
turn_only (turn.FullAtGap q) old new ends a b weight unlike h = h
turn_only (turn.FullAtEdge s) old new ends a b weight unlike h = h
turn_only (turn.Stale m) old new ends a b weight unlike h = absurd (unlike m refl)
turn_only turn.Lost old new ends a b weight unlike h = h

-- a try, told from before its ends were located
module _ (a b weight : ℕ) (old mid new : HandValue) (ends : Ends) (helped : HasHelped old mid)
    (nodes : HasItsNodes old) (e : AreEnds a b old.token.view mid.token.view ends) where
  located_on : GoesOnBy true old mid
  located_on = helped_on true old mid nodes helped

  on_grows : GoesOnBy true mid new → IsPrefix mid.token.view.front new.token.view.front
  on_grows g = leaves_grows true g.taken 0 mid.token.view new.token.view g.stretch

  added_grows : (o : Outcome) (m : TokenValue) → IsEdgeAdded a b weight o mid new m
      → IsPrefix mid.token.view.front new.token.view.front
  added_grows o m h =
      let k = h.carries in
      prefix_trans mid.token.view.front k.before.front new.token.view.front
      (leaves_grows true (may_take mid.spare) 0 mid.token.view k.before k.first)
      (prefix_trans k.before.front k.done.front new.token.view.front
      (makes_later k.before k.done (k.event ∷ []) k.makes).grows (leaves_grows true 0 0 k.done new.token.view k.last))

  overtaken_grows : (at : List Event) → IsEdgeOvertaken a b weight ends mid new at
      → IsPrefix mid.token.view.front new.token.view.front
  overtaken_grows at h =
      let k = h.exchange in
      prefix_trans mid.token.view.front k.before.front new.token.view.front
      (leaves_grows true (may_take mid.spare) 0 mid.token.view k.before k.first)
      (prefix_trans k.before.front k.done.front new.token.view.front
      (makes_later k.before k.done (k.event ∷ []) k.makes).grows (leaves_grows true 0 0 k.done new.token.view k.last))

  pub turns_grow : (r : AddTurn) → MatchAddTurns r ends a b weight mid new
      → IsPrefix mid.token.view.front new.token.view.front
  turns_grow (turn.Done o m) h = added_grows o m.value h
  turns_grow (turn.Overtaken f m) h = overtaken_grows m.value.view.front h.1
  turns_grow (turn.Present s) h = on_grows h.0
  turns_grow (turn.Lacks l) h = on_grows h.on
  turns_grow (turn.FullAtGap q) h = on_grows h.on
  turns_grow (turn.FullAtEdge s) h = on_grows h.on
  turns_grow (turn.Stale m) h = on_grows h.0
  turns_grow turn.Lost h = on_grows h.0

  overtaken_by : (f : Ends) (at : List Event) → f ≡ ends → IsEdgeOvertaken a b weight ends mid new at
      → IsOvertakenBy (AddEdge a b weight) a b (may_take old.spare) f old new at
  overtaken_by f at same h =
      let x = h.exchange in
      let s = located_on.spares in
      let up = leaves_grows true (may_take mid.spare) 0 mid.token.view h.exchange.before h.exchange.first in
      subst (λ (g : Ends). IsOvertakenBy (AddEdge a b weight) a b (may_take old.spare) g old new at) (sym same)
      (record {
        on = record {
          exchange = record {
            before = x.before;
            done = x.done;
            event = x.event;
            first = leaves_less true (located_on.taken + may_take mid.spare) 0 (may_take old.spare) 0 old.token.view
                x.before s (omega arith)
                (leaves_chain true located_on.taken 0 (may_take mid.spare) 0 old.token.view mid.token.view x.before
                located_on.stretch x.first);
            makes = x.makes;
            unlike = x.unlike;
            on = x.on;
            at_is = x.at_is;
            last = x.last;
          };
          from_then = e.from_then;
          from_there = between_later (Has a ends.from) old.token.view.front mid.token.view.front
              h.exchange.before.front e.from_then up e.from_there;
          to_then = e.to_then;
          to_there = between_later (Has b ends.to) old.token.view.front mid.token.view.front
              h.exchange.before.front e.to_then up e.to_there;
          marked = h.marked;
        };
        nodes = h.nodes;
        uses = h.uses ∙ located_on.uses;
      })

  lacks_by : (l : Lack) → IsOneOver ends l mid new
      → GoesOnBy true old new × (MatchLack l a b old.token.view new.token.view × (lack_outcome l ≡ NoVertex))
  lacks_by l h = (
    since_on old mid new located_on h.on,
    subst (λ (k : Lack). MatchLack k a b old.token.view new.token.view × (lack_outcome k ≡ NoVertex)) (sym h.lack_is) (
      end_over a b old.token.view mid.token.view new.token.view ends e (on_grows h.on) h.life h.one h.marked,
      refl,
    ),
  )

  pub tried_told : (r : AddTurn) (lost tries : ℕ) → tried_of r ≢ tried.Lost → MatchAddTurns r ends a b weight mid new
      → MatchEdgeAddTried (tried_of r) a b weight lost tries old new
  tried_told (turn.Done o m) lost tries unlike h = since_added old mid new located_on a b weight o m.value h
  tried_told (turn.Overtaken f m) lost tries unlike h = overtaken_by f m.value.view.front h.0 h.1
  tried_told (turn.Present s) lost tries unlike h = (
    since_on old mid new located_on h.0,
    between_earlier (HasPair a b weight) old.token.view.front mid.token.view.front new.token.view.front
        s.moment.value.view.front (helped_grows old mid helped) h.1,
  )
  tried_told (turn.Lacks l) lost tries unlike h = lacks_by l h
  tried_told (turn.FullAtGap q) lost tries unlike h = edge_full_since old mid new located_on a b weight q.moment h
  tried_told (turn.FullAtEdge s) lost tries unlike h = edge_full_since old mid new located_on a b weight
      s.moment.value.view.front h
  tried_told (turn.Stale m) lost tries unlike h = absurd (unlike refl)
  tried_told turn.Lost lost tries unlike h = absurd (unlike refl)

  lost_on : GoesOnBy true mid new × Fell 1 new.token.view.number mid.token.view.front new.token.view.front
      → GoesOnBy true old new × Fell 1 new.token.view.number mid.token.view.front new.token.view.front
  lost_on h = (since_on old mid new located_on h.0, h.1)

  pub lost_told : (r : AddTurn) → tried_of r ≡ tried.Lost → MatchAddTurns r ends a b weight mid new
      → GoesOnBy true old new × Fell 1 new.token.view.number mid.token.view.front new.token.view.front
  lost_told (turn.Stale m) is h = lost_on h
  lost_told turn.Lost is h = lost_on h
  lost_told (turn.Done o m) is h = absurd (cc)
  lost_told (turn.Overtaken f m) is h = absurd (cc)
  lost_told (turn.Present s) is h = absurd (cc)
  lost_told (turn.Lacks l) is h = absurd (cc)
  lost_told (turn.FullAtGap q) is h = absurd (cc)
  lost_told (turn.FullAtEdge s) is h = absurd (cc)

  pub lost_fell : (first lost : ℕ) → first ≤ lost
      → Fell (lost - first) old.token.view.number old.token.view.front mid.token.view.front
      → GoesOnBy true old new × Fell 1 new.token.view.number mid.token.view.front new.token.view.front
      → IsPrefix mid.token.view.front new.token.view.front
      → Fell (lost + 1 - first) old.token.view.number old.token.view.front new.token.view.front
  lost_fell first lost low f h grows =
      let number = leaves_number true h.0.taken 0 old.token.view new.token.view h.0.stretch in
      fell_as (lost - first + 1) (lost + 1 - first) old.token.view.number old.token.view.front new.token.view.front
      (omega (arith, low))
      (fell_both (lost - first) 1 old.token.view.number old.token.view.front mid.token.view.front
      new.token.view.front (helped_grows old mid helped) grows f
      (subst (λ (n : ℕ). Fell 1 n mid.token.view.front new.token.view.front) number h.1))
