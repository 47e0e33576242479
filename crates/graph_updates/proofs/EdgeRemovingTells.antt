-- What removing an edge tells: its mark carries the removal out if both ends are alive after it, else the call is
-- overtaken; and if another caller marked the edge, the pair lacks it right after that mark.
use Rattle.std.proofs.Common.{◌≡◌, ◌≢◌, ◌⊎◌, ℕ, ◌+◌, ◌-◌, ◌≤◌, ◌&&◌, Bool, true, false, cond, List, [], ◌∷◌}
use Rattle.std.proofs.Common.{None, Option, Some, take, inl, inr, refl, sym, ap, ap₂, ◌∙◌, subst, arith, append-nil}
use Rattle.std.specs.Prelude.{option_and_then, option_map}
use mathlib.Core.List.{append_cancel_right}
use Rattle.graph_kinds.specs.Answer.{answer, by_weight, plain}
use Rattle.graph_kinds.specs.Graph.{Graph, has, weight_of}
use Rattle.graph_kinds.specs.declared.call.Call.TheVariants.{RemoveEdge}
use Rattle.graph_kinds.specs.declared.outcome.Outcome.TheVariants.{NoEdge, NoVertex, Removed}
use Rattle.packed_link.specs.Layout.{IsLayout}
use Rattle.packed_link.specs.declared.link.Life.{Life}
use Rattle.core_counts.specs.Totals.{RaisesOnce}
use Rattle.core_counts.proofs.RaisesOfEdges.{once_done, once_stays}
use Rattle.core_journal.specs.declared.event.Event.{Event}
use Rattle.core_journal.specs.Event.{raises}
use Rattle.core_journal.specs.GraphOf.{both, ends_of, graph_of, present_key}
use Rattle.core_journal.specs.Life.{key_of, vertex_marked}
use Rattle.core_journal.specs.Prefix.{IsPrefix}
use Rattle.core_journal.proofs.Lists.{prefix_length, prefix_snoc, prefix_take, prefix_trans}
use Rattle.core_journal.proofs.LivesOf.{key_of_life, present_is}
use Rattle.core_kept.specs.Counts.{made}
use Rattle.core_kept.specs.Kept.{IsKept}
use Rattle.core_kept.proofs.EdgeEnds.{ends_linked}
use Rattle.core_kept.proofs.Induction.{kept_front}
use Rattle.core_lists.proofs.ChangedByAnother.{front_in}
use Rattle.core_rule.specs.OwnEvents.{mark_edge_event}
use Rattle.core_rule.specs.declared.view.View.{View}
use Rattle.core_stretches.specs.Moments.{Carries, Has}
use Rattle.core_stretches.proofs.MakesTell.{makes_counts, makes_later}
use Rattle.edge_list.specs.declared.edge.Edge.{Edge}
use Rattle.edge_list.specs.declared.walks.EdgeSighting.{EdgeSighting}
use Rattle.edge_list.proofs.EdgesTellPairs.{has_pair, pair_gone}
use Rattle.graph_table.specs.Tokens.{TableValue, TokenValue}
use Rattle.graph_updates.specs.EdgeLooking.{LacksWith}
use Rattle.graph_updates.specs.EdgeRaises.{HasRaised, RaisesKept}
use Rattle.graph_updates.specs.EdgeRemoving.{IsEdgeRemoved, IsMarkedOnce, IsPairSeen, MatchEdgeRemoveTried}
use Rattle.graph_updates.specs.EdgeRemoving.{MatchPairMarked}
use Rattle.graph_updates.specs.EdgeRemoving.{GoesOnBare, RaisesSince, WasMarkedOnce}
use Rattle.graph_updates.specs.Exchanges.{IsOnPair, IsOvertakenBy}
use Rattle.graph_updates.specs.Hands.{HandValue, HasItsNodes, IsHandOf}
use Rattle.graph_updates.specs.Pairs.{AreEnds, IsPairCut, MatchLack}
use Rattle.graph_updates.specs.Parts.{Fell, GoesOnBy, HasHelped, LeavesGraph, may_take}
use Rattle.graph_updates.specs.declared.pairs.Ends.{Ends}
use Rattle.graph_updates.specs.declared.pairs.Lack.{Lack}
use Rattle.graph_updates.specs.declared.pairs.Lack.TheVariants as lacks
use Rattle.graph_updates.specs.declared.edge_removing.EdgeRemoveTried.{EdgeRemoveTried}
use Rattle.graph_updates.specs.declared.edge_removing.EdgeRemoveTried.TheVariants as tried
use Rattle.graph_updates.proofs.AddingAddsUp.{fell_since, goes_on_chain, helped_on, leaves_grows, leaves_none}
use Rattle.graph_updates.proofs.AddingAddsUp.{leaves_number}
use Rattle.graph_updates.proofs.EndsTell.{mark_later}
use Rattle.graph_updates.proofs.LocatingTells.{between_earlier, between_later, fell_as, fell_both, fell_none}
use Rattle.graph_updates.proofs.LocatingTells.{helped_grows}
use Rattle.graph_updates.proofs.PairsTell.{from_linked, lack_told, linked_since, located_grows, present_then}
use Rattle.graph_updates.proofs.PairsTell.{to_linked, unmarked_since}
use Rattle.graph_updates.proofs.TriesAddUp.{pair_cut_later}
use Rattle.graph_updates.proofs.PartsLeave.{helps_leave, leaves_chain}
use Rattle.graph_updates.proofs.RaisesAddUp.{raised_left}

-- a part that takes no node goes on
pub bare_on : (old new : HandValue) → GoesOnBare old new → GoesOnBy true old new
bare_on old new h =
    let same = ap may_take h.spare in
    record { taken = 0; stretch = h.stretch; spares = omega (arith, same); nodes = h.nodes; uses = h.uses }

pub bare_chain : (a b c : HandValue) → GoesOnBare a b → GoesOnBare b c → GoesOnBare a c
bare_chain a b c g h = record {
  stretch = leaves_chain true 0 0 0 0 a.token.view b.token.view c.token.view g.stretch h.stretch;
  spare = h.spare ∙ g.spare;
  nodes = h.nodes;
  uses = h.uses ∙ g.uses;
}

pub helped_bare : (old new : HandValue) → HasItsNodes old → HasHelped old new → GoesOnBare old new
helped_bare old new n h = record {
  stretch = helps_leave true old.token.view new.token.view h.helped.only;
  spare = h.spare;
  nodes = h.nodes n;
  uses = h.uses;
}

pub bare_none : (g : TableValue) (h : HandValue) → IsHandOf g h → HasItsNodes h → GoesOnBare h h
bare_none g h of n = record { stretch = leaves_none true g h of; spare = refl; nodes = n; uses = refl }

-- a pair that the graph has is answered with its weight
removed_answer : (g : Graph) (a b w : ℕ) → has g a ≡ true → has g b ≡ true → weight_of g a b ≡ Some w
    → plain (Removed w) ≡ answer g (RemoveEdge a b)
unfolding answer
removed_answer g a b w from to is = sym (ap₂
    (λ (x y : Bool). cond (x && y) (by_weight (weight_of g a b) Removed NoEdge) (plain NoVertex)) from to
    ∙ ap (λ (o : Option ℕ). by_weight o Removed NoEdge) is)

-- a key that a life was linked with before is the one that it has later
key_back : (past last : List Event) → IsPrefix past last → (x : Life) (a : ℕ) → key_of past x ≢ None
    → key_of last x ≡ Some a → key_of past x ≡ Some a
key_back past last p x a some h = by (key_of past x) refl
  where
    by : (o : Option ℕ) → key_of past x ≡ o → key_of past x ≡ Some a
    by None is = absurd (some is)
    by (Some j) is = is ∙ (sym (linked_since past last p x j is) ∙ h)

-- an edge was marked between two lives that have the keys of a pair
module _ (a b : ℕ) (source : Life) (edge : Edge) (h k : HandValue) (mo : IsMarkedOnce source edge h k)
    (z : IsLayout k.token.view.sizes) (kept : IsKept k.token.view.sizes k.token.view.front)
    (from_key : key_of k.token.view.front source ≡ Some a) (key_is : edge.key ≡ b) where
  abbrev done : View
  done = k.token.view

  abbrev event : Event
  event = mark_edge_event mo.before edge.life mo.found

  abbrev past : List Event
  past = mo.carries.past

  until : IsPrefix past done.front
  until = subst (IsPrefix past) (sym mo.carries.front) (prefix_snoc past event)

  kept_past : IsKept done.sizes past
  kept_past = kept_front done.sizes past done.front until kept

  source_key : key_of past source ≡ Some a
  source_key = key_back past done.front until source a
      (λ none. (ends_linked done.sizes z past kept_past).source edge.life mo.unmarked.linked.link mo.unmarked.linked.is
      (ap (key_of past) mo.unmarked.linked.from ∙ none)) from_key

  target_key : key_of past edge.target ≡ Some b
  target_key =
      let l = mo.unmarked.linked in
      sym (ap (key_of past) l.to) ∙ ((ends_linked done.sizes z past kept_past).target edge.life l.link l.is
      ∙ ap Some (l.of_key ∙ key_is))

  pub mark_on_pair : IsOnPair (RemoveEdge a b) a b source edge.target event done
  mark_on_pair =
      let l = mo.unmarked.linked in
      record {
        past = past;
        front = mo.carries.front;
        by = mo.carries.by;
        link = l.link;
        edge = l.is;
        source_is = l.from;
        target_is = l.to;
        call_is = ap (λ (o : Option Event). option_map (λ (p : ℕ × ℕ). RemoveEdge p.0 p.1)
            (option_and_then (ends_of past) o)) l.is
            ∙ ap₂ (λ (x y : Option ℕ). option_map (λ (p : ℕ × ℕ). RemoveEdge p.0 p.1) (both x y))
            (ap (key_of past) l.from ∙ source_key) (ap (key_of past) l.to ∙ target_key);
        present = mo.carries.present a b;
        missing = mo.carries.missing;
      }

  -- both ends were alive after that: the removal was carried out
  module _ (from : vertex_marked done.front source ≡ false) (to : vertex_marked done.front edge.target ≡ false) where
    from_there : present_key past source ≡ Some a
    from_there = present_then past past done.front (record { rest = []; whole = append-nil past }) until source a
        source_key from

    to_there : present_key past edge.target ≡ Some b
    to_there = present_then past past done.front (record { rest = []; whole = append-nil past }) until edge.target b
        target_key to

    pub mark_carries : Carries (RemoveEdge a b) event done
    mark_carries = mo.carries.present a b from_there to_there

    pub mark_reply : plain (Removed edge.weight) ≡ answer (graph_of mark_carries.past) (RemoveEdge a b)
    mark_reply =
        let same : mark_carries.past ≡ past = append_cancel_right mark_carries.past past (event ∷ [])
        (sym mark_carries.front ∙ mo.carries.front) in
        let reply = removed_answer (graph_of past) a b edge.weight (key_of_life past source a from_there)
        (key_of_life past edge.target b to_there)
        (has_pair done.sizes z past kept_past source edge a b mo.unmarked from_there to_there) in
        reply ∙ ap (λ (l : List Event). answer (graph_of l) (RemoveEdge a b)) (sym same)

-- the edge of a pair was seen and is to be marked
module _ (a b : ℕ) (ends : Ends) (s : EdgeSighting) (old h : HandValue) (q : IsPairSeen a b ends s old h) where
  grown : IsPrefix old.token.view.front q.mid.front
  grown = located_grows a b old.token.view q.mid ends q.ends_are

  on_to : IsPrefix q.mid.front h.token.view.front
  on_to = prefix_trans q.mid.front s.moment.value.view.front h.token.view.front q.here.there.since q.here.there.until

  from_here : key_of h.token.view.front ends.from ≡ Some a
  from_here = linked_since q.mid.front h.token.view.front on_to ends.from a
      (from_linked a b old.token.view q.mid ends q.ends_are)

  module _ (k : HandValue) (later : IsPrefix h.token.view.front k.token.view.front) (z : IsLayout k.token.view.sizes)
      (kept : IsKept k.token.view.sizes k.token.view.front) where
    from_now : key_of k.token.view.front ends.from ≡ Some a
    from_now = linked_since h.token.view.front k.token.view.front later ends.from a from_here

    -- it was marked by this call
    module _ (mo : IsMarkedOnce ends.from s.edge h k) (n : HandValue) (then : HasHelped k n) (nodes : HasItsNodes n)
        (m : TokenValue) (at : m.view.front ≡ k.token.view.front) where
      first : LeavesGraph true 0 0 old.token.view mo.before
      first = leaves_chain true 0 0 0 0 old.token.view h.token.view mo.before
          (helps_leave true old.token.view h.token.view q.helped.helped.only) mo.first

      pub won_removed : vertex_marked k.token.view.front ends.from ≡ false
          → vertex_marked k.token.view.front ends.to ≡ false → IsEdgeRemoved a b s.edge.weight old n m
      won_removed from to =
          let target = ap (vertex_marked k.token.view.front) q.target ∙ to in
          record {
            carries = record {
              before = mo.before;
              done = k.token.view;
              event = mark_edge_event mo.before s.edge.life mo.found;
              first = first;
              makes = mo.makes;
              unlike = (refl, (refl, refl));
              carries = mark_carries a b ends.from s.edge h k mo z kept from_now q.here.key_is from target;
              at_is = at;
              last = helps_leave true k.token.view n.token.view then.helped.only;
            };
            reply = mark_reply a b ends.from s.edge h k mo z kept from_now q.here.key_is from target;
            nodes = nodes;
            uses = then.uses ∙ (mo.uses ∙ q.helped.uses);
          }

      pub won_overtaken : (vertex_marked n.token.view.front ends.from ≡ true)
          ⊎ (vertex_marked n.token.view.front ends.to ≡ true)
          → IsOvertakenBy (RemoveEdge a b) a b 0 ends old n m.view.front
      won_overtaken over =
          let e = q.ends_are in
          let to_before = (makes_later h.token.view mo.before mo.first.own mo.first.makes).grows in
          let up = prefix_trans q.mid.front h.token.view.front mo.before.front on_to to_before in
          record {
            on = record {
              exchange = record {
                before = mo.before;
                done = k.token.view;
                event = mark_edge_event mo.before s.edge.life mo.found;
                first = first;
                makes = mo.makes;
                unlike = (refl, (refl, refl));
                on = subst (λ (x : Life). IsOnPair (RemoveEdge a b) a b ends.from x
                    (mark_edge_event mo.before s.edge.life mo.found) k.token.view) q.target
                    (mark_on_pair a b ends.from s.edge h k mo z kept from_now q.here.key_is);
                at_is = at;
                last = helps_leave true k.token.view n.token.view then.helped.only;
              };
              from_then = e.from_then;
              from_there = between_later (Has a ends.from) old.token.view.front q.mid.front mo.before.front e.from_then
                  up
                  e.from_there;
              to_then = e.to_then;
              to_there = between_later (Has b ends.to) old.token.view.front q.mid.front mo.before.front e.to_then up
                  e.to_there;
              marked = over;
            };
            nodes = nodes;
            uses = then.uses ∙ (mo.uses ∙ q.helped.uses);
          }

    -- it was marked by another: if both ends are alive, the pair lacks it right after that mark
    was_cut : WasMarkedOnce s.edge.life h k → vertex_marked k.token.view.front ends.from ≡ false
        → vertex_marked k.token.view.front ends.to ≡ false → IsPairCut a b old.token.view k.token.view s.edge.life
    was_cut w from to =
        let now = k.token.view in
        let moment = s.moment.value.view.front in
        let seen_until = prefix_trans moment h.token.view.front now.front q.here.there.until later in
        let g = pair_gone now.sizes z now.front kept moment ends.from s.edge seen_until q.here.there.holds w.marked
        w.unreplaced in
        let n = g.number in
        let far = g.since in
        let early = prefix_length q.mid.front moment q.here.there.since in
        let start = prefix_length old.token.view.front q.mid.front grown in
        let all = prefix_trans q.mid.front h.token.view.front now.front on_to later in
        let up_to = front_in q.mid.front now.front n all (omega (arith, far, early)) in
        let behind = front_in q.mid.front now.front (n + 1) all (omega (arith, far, early)) in
        let fk = from_linked a b old.token.view q.mid ends q.ends_are in
        let tk = to_linked a b old.token.view q.mid ends q.ends_are in
        record {
          number = n;
          since = omega (arith, far, early, start);
          cut = g.cut;
          lacks = record {
            from = key_of_life (take (n + 1) now.front) ends.from a (present_then q.mid.front (take (n + 1) now.front)
                now.front behind (prefix_take now.front (n + 1)) ends.from a fk from);
            to = key_of_life (take (n + 1) now.front) ends.to b (present_then q.mid.front (take (n + 1) now.front)
                now.front behind (prefix_take now.front (n + 1)) ends.to b tk to);
            none = g.gone a b
                (present_then q.mid.front (take n now.front) now.front up_to (prefix_take now.front n) ends.from a fk
                from)
                (ap (present_key (take n now.front)) q.target ∙ present_then q.mid.front (take n now.front) now.front
                up_to
                (prefix_take now.front n) ends.to b tk to);
          };
        }

    pub was_lacking : WasMarkedOnce s.edge.life h k → (n : HandValue) → HasHelped k n → (l : Lack)
        → LacksWith l (lacks.Marked s.edge.life) ends k.token.view n.token.view
        → GoesOnBy true old n × MatchLack l a b old.token.view n.token.view
    was_lacking w n then l told =
        let so_far = goes_on_chain true old h k (helped_on true old h q.nodes q.helped) (bare_on h k w.on) in
        let more = helped_grows k n then in
        let all = prefix_trans q.mid.front k.token.view.front n.token.view.front
        (prefix_trans q.mid.front h.token.view.front k.token.view.front on_to later) more in (
          goes_on_chain true old k n so_far (helped_on true k n w.on.nodes then),
          lack_told a b old.token.view q.mid n.token.view ends q.ends_are all k.token.view l (lacks.Marked s.edge.life)
              told
              (λ from to. pair_cut_later a b old.token.view k.token.view n.token.view s.edge.life more
              (was_cut w from to)),
        )

    -- it was replaced: the try is lost
    pub replaced_lost : GoesOnBare h k → Fell 1 k.token.view.number s.moment.value.view.front k.token.view.front
        → GoesOnBare old k × Fell 1 k.token.view.number q.mid.front k.token.view.front
    replaced_lost on fell = (
      bare_chain old h k (helped_bare old h q.nodes q.helped) on,
      fell_since 1 k.token.view.number q.mid.front s.moment.value.view.front k.token.view.front q.here.there.since
          (prefix_trans s.moment.value.view.front h.token.view.front k.token.view.front q.here.there.until later) fell,
    )

-- what a caller raised, over a stretch in which it helped
pub helped_raised : (old new : HandValue) → HasHelped old new → HasRaised None old.token.view
    → HasRaised None new.token.view
helped_raised old new h o = record {
  again = o.again + 0;
  few = let f = o.few in omega (arith, f);
  once = (raised_left 0 0 old.token.view new.token.view
      (helps_leave false old.token.view new.token.view h.helped.only)).each o.again o.once;
}

-- since a start: what was so before a stretch that helped is so after it
pub helped_since : (old new : HandValue) (start : List Event) (again : ℕ) → HasHelped old new
    → RaisesOnce start old.token.view.front old.token.view.number again []
    → RaisesOnce start new.token.view.front new.token.view.number again []
helped_since old new start again h o =
    let v = old.token.view in
    let w = new.token.view in
    let leaves = helps_leave false v w h.helped.only in
    let later = makes_later v w leaves.own leaves.makes in
    let count = makes_counts raises v w leaves.own leaves.makes in
    let none = leaves.raised refl in
    let named : made raises w.number w.front ≡ made raises v.number w.front = ap (λ (n : ℕ). made raises n w.front)
    later.number in
    let same : made raises v.number w.front ≡ made raises v.number v.front = omega (arith, count, none, named) in
    subst (λ (n : ℕ). RaisesOnce start w.front n again []) (sym later.number)
    (once_stays v.number again [] start v.front w.front later.grows same o)

-- a stretch behind one that helped
pub since_helped : (source : Life) (moment : List Event) (old mid new : HandValue) → HasHelped old mid
    → IsPrefix old.token.view.front moment → RaisesSince source moment mid.token.view new.token.view
    → RaisesSince source old.token.view.front old.token.view new.token.view
since_helped source moment old mid new h p r = record {
  each = λ start again early live o. r.each start again (prefix_trans start old.token.view.front moment early p) live
      (helped_since old mid start again h o);
}

-- one before a stretch that helps
pub since_then : (source : Life) (moment : List Event) (old mid new : HandValue)
    → RaisesSince source moment old.token.view mid.token.view → HasHelped mid new
    → RaisesSince source moment old.token.view new.token.view
since_then source moment old mid new r h = record {
  each = λ start again early live o. kept again
      ((raised_left 0 0 mid.token.view new.token.view
      (helps_leave false mid.token.view new.token.view h.helped.only)).each
      again (r.each start again early live o));
}
  where
    kept : (again : ℕ) → RaisesOnce new.token.view.front new.token.view.front new.token.view.number (again + 0) []
        → RaisesOnce new.token.view.front new.token.view.front new.token.view.number again []
    kept again o = subst
        (λ (n : ℕ). RaisesOnce new.token.view.front new.token.view.front new.token.view.number n []) (omega arith) o

-- a stretch that only helped
pub since_none : (source : Life) (old new : HandValue) → HasHelped old new
    → RaisesSince source old.token.view.front old.token.view new.token.view
since_none source old new h = record {
  each = λ start again early live o.
      let w = new.token.view in
      once_done w.number again [] start w.front
      (prefix_trans start old.token.view.front w.front early (helped_grows old new h))
      (λ i d low. absurd (omega (arith, low))) (helped_since old new start again h o);
}

-- an end that's marked is one of them still
pub over_either : (ends : Ends) (x : Life) (v w : View) → IsPrefix v.front w.front
    → ((x ≡ ends.from) ⊎ (x ≡ ends.to)) × (vertex_marked v.front x ≡ true)
    → (vertex_marked w.front ends.from ≡ true) ⊎ (vertex_marked w.front ends.to ≡ true)
over_either ends x v w p (inl same, marked) = inl (mark_later v w p ends.from
    (ap (vertex_marked v.front) (sym same) ∙ marked))
over_either ends x v w p (inr same, marked) = inr (mark_later v w p ends.to
    (ap (vertex_marked v.front) (sym same) ∙ marked))

-- what a caller raised is kept, over a stretch that helped
pub kept_helped : (old new : HandValue) → HasHelped old new → RaisesKept None None old.token.view new.token.view
kept_helped old new h = record {
  each = λ again o. same again ((raised_left 0 0 old.token.view new.token.view
      (helps_leave false old.token.view new.token.view h.helped.only)).each again o);
}
  where
    same : (again : ℕ) → RaisesOnce new.token.view.front new.token.view.front new.token.view.number (again + 0) []
        → RaisesOnce new.token.view.front new.token.view.front new.token.view.number again []
    same again o = subst
        (λ (n : ℕ). RaisesOnce new.token.view.front new.token.view.front new.token.view.number n []) (omega arith) o

-- and over one that located the ends, and a walk and a mark behind it: the source was present in the first one
pub kept_since : (a b : ℕ) (ends : Ends) (old mid new : HandValue) → HasHelped old mid
    → AreEnds a b old.token.view mid.token.view ends
    → RaisesSince ends.from mid.token.view.front mid.token.view new.token.view
    → RaisesKept None None old.token.view new.token.view
kept_since a b ends old mid new h e r = record {
  each = λ again o. r.each old.token.view.front again (helped_grows old mid h)
      (unmarked_since old.token.view.front e.from_then e.from_there.since ends.from
      (present_is e.from_then ends.from a e.from_there.holds.there).0)
      (helped_since old mid old.token.view.front again h o);
}

-- one stretch behind another
pub kept_chain : (old now new : View) → RaisesKept None None old now → RaisesKept None None now new
    → RaisesKept None None old new
kept_chain old now new g h = record { each = λ again o. h.each again (g.each again o) }

pub raised_kept : (old new : View) → RaisesKept None None old new → HasRaised None old → HasRaised None new
raised_kept old new k o = record { again = o.again; few = o.few; once = k.each o.again o.once }

-- a try that wasn't lost
pub marked_tried : (r : EdgeRemoveTried) (a b lost tries : ℕ) (since : View) (old new : HandValue) → r ≢ tried.Lost
    → MatchPairMarked r a b since old new → MatchEdgeRemoveTried r a b lost tries old new
marked_tried (tried.Marked weight m) a b lost tries since old new other h = h
marked_tried (tried.Overtaken ends m) a b lost tries since old new other h = h
marked_tried (tried.Lacks l) a b lost tries since old new other h = h
marked_tried tried.Lost a b lost tries since old new other h = absurd (other refl)
marked_tried tried.Again a b lost tries since old new other h = absurd h

-- what fell while the ends were located, and in the try behind that, which was lost
pub lost_more : (first lost : ℕ) (old mid new : HandValue) → first ≤ lost → HasHelped old mid
    → GoesOnBare old new → IsPrefix mid.token.view.front new.token.view.front
    → Fell (lost - first) old.token.view.number old.token.view.front mid.token.view.front
    → Fell 1 new.token.view.number mid.token.view.front new.token.view.front
    → Fell (lost + 1 - first) old.token.view.number old.token.view.front new.token.view.front
lost_more first lost old mid new low h on grows f one =
    let number = leaves_number true 0 0 old.token.view new.token.view on.stretch in
    let one_here = subst (λ (n : ℕ). Fell 1 n mid.token.view.front new.token.view.front) number one in
    fell_as (lost - first + 1) (lost + 1 - first) old.token.view.number old.token.view.front new.token.view.front
    (omega (arith, low))
    (fell_both (lost - first) 1 old.token.view.number old.token.view.front mid.token.view.front new.token.view.front
    (helped_grows old mid h) grows f one_here)

-- and where it wasn't
pub lost_same : (n : ℕ) (old mid new : HandValue) → HasHelped old mid → IsPrefix mid.token.view.front
    new.token.view.front
    → Fell n old.token.view.number old.token.view.front mid.token.view.front
    → Fell n old.token.view.number old.token.view.front new.token.view.front
lost_same n old mid new h grows f =
    fell_as (n + 0) n old.token.view.number old.token.view.front new.token.view.front (omega arith)
    (fell_both n 0 old.token.view.number old.token.view.front mid.token.view.front new.token.view.front
    (helped_grows old mid h) grows f (fell_none old.token.view.number mid.token.view.front new.token.view.front))

-- tries that were lost before leave the graph and take no node: what a try came to, told from the first one
module _ (a b : ℕ) (old now new : HandValue) (on : GoesOnBare old now) where
  pub removed_since : (weight : ℕ) (m : TokenValue) → IsEdgeRemoved a b weight now new m
      → IsEdgeRemoved a b weight old new m
  removed_since weight m r =
      let k = r.carries in
      record {
        carries = record {
          before = k.before;
          done = k.done;
          event = k.event;
          first = leaves_chain true 0 0 0 0 old.token.view now.token.view k.before on.stretch k.first;
          makes = k.makes;
          unlike = k.unlike;
          carries = k.carries;
          at_is = k.at_is;
          last = k.last;
        };
        reply = r.reply;
        nodes = r.nodes;
        uses = r.uses ∙ on.uses;
      }

  pub overtaken_since : (ends : Ends) (at : List Event) → IsOvertakenBy (RemoveEdge a b) a b 0 ends now new at
      → IsOvertakenBy (RemoveEdge a b) a b 0 ends old new at
  overtaken_since ends at r =
      let o = r.on in
      let k = o.exchange in
      let p = leaves_grows true 0 0 old.token.view now.token.view on.stretch in
      record {
        on = record {
          exchange = record {
            before = k.before;
            done = k.done;
            event = k.event;
            first = leaves_chain true 0 0 0 0 old.token.view now.token.view k.before on.stretch k.first;
            makes = k.makes;
            unlike = k.unlike;
            on = k.on;
            at_is = k.at_is;
            last = k.last;
          };
          from_then = o.from_then;
          from_there = between_earlier (Has a ends.from) old.token.view.front now.token.view.front k.before.front
              o.from_then
              p o.from_there;
          to_then = o.to_then;
          to_there = between_earlier (Has b ends.to) old.token.view.front now.token.view.front k.before.front o.to_then
              p
              o.to_there;
          marked = o.marked;
        };
        nodes = r.nodes;
        uses = r.uses ∙ on.uses;
      }
