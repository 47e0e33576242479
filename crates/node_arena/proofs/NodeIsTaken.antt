-- What taking a node owes, and what it came to.
use Rattle.std.proofs.Common.{◌≡◌, ℕ, ◌<◌, true, List, [], ◌∷◌, ◌++◌, refl, sym, ap, ap₂, ◌∙◌, subst, arith}
use Rattle.packed_link.specs.Link.{index_of, nowhere}
use Rattle.packed_link.specs.Layout.{Sizes, IsLayout, free_at, link_at}
use Rattle.packed_link.specs.declared.link.Life.{Life}
use Rattle.core_journal.specs.declared.event.Event.{Event}
use Rattle.core_journal.specs.Event.{pops}
use Rattle.core_journal.specs.Machine.{word_at}
use Rattle.core_journal.proofs.Lists.{prefix_refl, prefix_trans}
use Rattle.core_kept.specs.Counts.{made, most_pops}
use Rattle.core_kept.specs.Kept.{IsKept}
use Rattle.core_kept.specs.Nodes.{node_in, IsFreshWith}
use Rattle.core_lists.proofs.EventKeepsRest.{event_life, node_taken}
use Rattle.core_rule.specs.Fronts.{IsLifeAt, MayPopFree}
use Rattle.core_rule.specs.OwnEvents.{pop_event}
use Rattle.core_rule.specs.Plays.{IsSound, Looked, Won}
use Rattle.core_rule.specs.Stretches.{HasNoFresh}
use Rattle.core_rule.specs.declared.view.View.{View}
use Rattle.core_rule.proofs.ViewShows.{win_steps}
use Rattle.core_stretches.specs.Holdings.{IsHeldFresh}
use Rattle.core_stretches.specs.Makes.{Makes}
use Rattle.core_stretches.proofs.HoldingsStay.{makes_none}
use Rattle.core_stretches.proofs.MakesAddUp.{makes_chain, makes_look, makes_won}
use Rattle.core_stretches.proofs.MakesTell.{makes_counts, makes_later}
use Rattle.graph_table.specs.Table.{Missed}
use Rattle.node_arena.specs.Taking.{FoundEmpty, IsTaken, IsTakeLost}
use Rattle.node_arena.proofs.FreeWordSeen.{SawFreeWord, changed_since, seen_then}

pub found_empty : (v m : View) (seen : ℕ) → SawFreeWord v m seen → index_of seen ≡ nowhere → FoundEmpty v m
found_empty v m seen h none = record {
  makes = h.makes;
  empty = ap index_of (ap (λ (s : Sizes). word_at s m.front (free_at s)) h.later.sizes ∙ h.word) ∙ none;
}

-- after the load of the word, that of the link of the node to which it leads
module _ (v m k : View) (seen at next : ℕ) (z : IsLayout v.sizes) (h : SawFreeWord v m seen) (s : IsSound m)
    (has : v.numbered ≡ true) (l : Looked m at next k) (at_is : at ≡ link_at v.sizes (index_of seen))
    (some : index_of seen < v.sizes.nodes) where
  second : Makes m [] k
  second = makes_look m k at next (h.later.numbered ∙ has) s l

  both : Makes v [] k
  both = makes_chain v m k [] [] h.makes second

  pub may_pop : HasNoFresh v → made pops v.number v.front < most_pops → MayPopFree k seen next
  may_pop none few =
      let t = makes_later v k [] both in
      let u = makes_later m k [] second in
      record {
        there = subst (λ (y : Sizes). index_of seen < y.nodes) (sym t.sizes) some;
        first = m.front;
        second = k.front;
        then = u.grows;
        before = prefix_refl k.front;
        word = ap (λ (y : Sizes). word_at y m.front (free_at y)) t.sizes ∙ h.word;
        link = ap (λ (y : Sizes). word_at y k.front (link_at y (index_of seen))) t.sizes ∙
            (ap (word_at v.sizes k.front) (sym at_is) ∙ (ap (λ (y : Sizes). word_at y k.front at) (sym h.later.sizes)
            ∙ sym l.word));
        holds_none = (makes_none v k [] z tt both none).none;
        limit = let c = makes_counts pops v k [] both in omega (arith, c, few);
      }

  -- the exchange won
  module _ (w : View) (sound : IsSound k) (won : Won k (free_at k.sizes) seen (pop_event k seen next) w) where
    has_number : k.numbered ≡ true
    has_number = (makes_later v k [] both).numbered ∙ has

    same_event : pop_event k seen next ≡ pop_event v seen next
    same_event = let t = makes_later v k [] both in ap₂ (λ (s : Sizes) (n : ℕ). pop_event
        (record v { sizes = s; number = n }) seen next) t.sizes t.number

    taken_fresh : IsHeldFresh w (pop_event k seen next).life
    taken_fresh =
        let e = pop_event k seen next in
        let t = win_steps k (free_at k.sizes) seen e w has_number sound won in
        let kept : IsKept k.sizes (t.grown ++ e ∷ []) = subst (λ (j : List Event). IsKept k.sizes j) t.front t.kept in
        let fresh = node_taken k.sizes t.grown e kept refl in
        let layout : IsLayout k.sizes = subst IsLayout (sym (makes_later v k [] both).sizes) z in
        record {
          life = subst (λ (u : View). IsLifeAt u e.life) (sym t.view)
              (record {
                there = fresh.0;
                tag = subst (λ (j : List Event). e.life.tag ≡
                    (node_in k.sizes j e.life.index).tag) (sym t.front)
                    (event_life k.sizes t.grown e kept layout fresh.0);
              });
          fresh = subst (λ (u : View). IsFreshWith u.sizes u.front u.number e.life.index) (sym t.view)
              (subst (λ (j : List Event). IsFreshWith k.sizes j k.number e.life.index) (sym t.front) fresh.1);
        }

    pub taken : (x : Life) → x ≡ (pop_event k seen next).life → IsTaken v w x
    taken x is =
        let e = pop_event k seen next in
        let one = makes_won k w (free_at k.sizes) seen e has_number sound refl won in
        let all : Makes v (e ∷ []) w = makes_chain v k w [] (e ∷ []) both one in
        let since = makes_later m k [] second in
        let until = makes_later k w (e ∷ []) one in
        record {
          seen = seen;
          next = next;
          loaded = m.front;
          found = seen_then v m w seen h (prefix_trans m.front k.front w.front since.grows until.grows);
          some = some;
          life = is ∙ ap (λ (y : Event). y.life) same_event;
          makes = subst (λ (y : Event). Makes v (y ∷ []) w) same_event all;
          last = record { past = won.grown; front = won.front ∙ ap (λ (y : Event). won.grown ++ y ∷ []) same_event };
          held = subst (λ (y : Life). IsHeldFresh w y) (sym is) taken_fresh;
        }

  -- the exchange lost
  pub take_lost : (w : View) (found place : ℕ) → IsSound k → place ≡ free_at k.sizes → Missed k place seen found w
      → IsTakeLost v w
  take_lost w found place sound place_is missed =
      let third = makes_look k w place found ((makes_later v k [] both).numbered ∙ has) sound missed.looked in
      let late : Makes m [] w = makes_chain m k w [] [] second third in
      let sizes = (makes_later k w [] third).sizes in
      record {
        makes = makes_chain v k w [] [] both third;
        seen = seen;
        loaded = m.front;
        found = seen_then v m w seen h (makes_later m w [] late).grows;
        some = some;
        changed = changed_since v m k w seen found [] h second tt late
            (subst (λ (p : ℕ). Missed k p seen found w) (place_is ∙ ap free_at (sym sizes)) missed);
      }
