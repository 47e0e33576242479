-- What giving a node back owes, and what it came to.
use Rattle.std.proofs.Common.{◌≡◌, ◌≢◌, ◌⊎◌, ℕ, ◌<◌, true, List, [], ◌∷◌, ◌++◌, refl, sym, ap, ap₂, ◌∙◌, subst, arith}
use Rattle.packed_link.specs.Link.{index_of, nowhere, pack}
use Rattle.packed_link.specs.Layout.{Sizes, IsLayout, free_at, link_at}
use Rattle.packed_link.specs.declared.link.Life.{Life}
use Rattle.packed_link.proofs.Links.{index_of-pack}
use Rattle.core_journal.specs.declared.event.Kind.TheVariants.{PushFree}
use Rattle.core_journal.specs.declared.event.Event.{Event}
use Rattle.core_journal.specs.Machine.{word_at}
use Rattle.core_journal.specs.State.{Free, Node, State, state}
use Rattle.core_journal.proofs.Lists.{prefix_trans}
use Rattle.core_kept.specs.Kept.{IsKept}
use Rattle.core_kept.specs.Nodes.{node_in}
use Rattle.core_kept.proofs.ByKind.{put_same}
use Rattle.core_lists.proofs.EventKeepsRest.{after_as, link_stored, written}
use Rattle.core_rule.specs.Fronts.{MayPushFree, MayStoreFree}
use Rattle.core_rule.specs.OwnEvents.{push_event, store_free_event}
use Rattle.core_rule.specs.Plays.{IsSound, Stored, Won}
use Rattle.core_rule.specs.declared.view.View.{View}
use Rattle.core_rule.proofs.ViewShows.{store_steps}
use Rattle.core_stretches.specs.Holdings.{IsGivable}
use Rattle.core_stretches.specs.Makes.{Makes}
use Rattle.core_stretches.proofs.MakesAddUp.{makes_chain, makes_look, makes_stored, makes_won}
use Rattle.core_stretches.proofs.MakesTell.{makes_later}
use Rattle.graph_table.specs.Table.{Missed}
use Rattle.node_arena.specs.Giving.{IsGiven, IsGiveLost}
use Rattle.node_arena.proofs.FreeWordSeen.{SawFreeWord, changed_since, leads_somewhere, seen_then}
use Rattle.node_arena.proofs.RipeNodesStay.{makes_givable}

-- a node that was given back is free
given_free : (v w : View) (place found seen : ℕ) (x : Life) → Won v place found (push_event v seen x) w
    → w.sizes ≡ v.sizes → IsKept w.sizes w.front → (node_in w.sizes w.front x.index).mode ≡ Free
given_free v w place found seen x won sizes kept =
    let e = push_event v seen x in
    let now : IsKept w.sizes (won.grown ++ e ∷ []) = subst (λ (j : List Event). IsKept w.sizes j) won.front kept in
    let is = ap (λ (s : State). s.node x.index) (after_as w.sizes won.grown e now PushFree refl) in
    ap (λ (j : List Event). (node_in w.sizes j x.index).mode) won.front
    ∙ (ap (λ (n : Node). n.mode) is ∙ ap (λ (n : Node). n.mode)
    (put_same x.index (record (node_in w.sizes won.grown x.index) { mode = Free }) (state w.sizes won.grown).node))

-- the word of the free list was seen, and the node may be given back
module _ (v m : View) (seen : ℕ) (x : Life) (z : IsLayout v.sizes) (h : SawFreeWord v m seen) (s : IsSound m)
    (has : v.numbered ≡ true) (g : IsGivable v x) where
  seen_givable : IsGivable m x
  seen_givable = makes_givable v m [] z x tt h.makes g

  pub may_store_free : MayStoreFree m (index_of seen) x
  may_store_free = let i = seen_givable in record {
    life = i.life;
    next_there = subst (λ (y : Sizes). (index_of seen < y.nodes) ⊎ (index_of seen ≡ nowhere)) (sym h.later.sizes)
        (leads_somewhere v m seen z h);
    ripe = i.ripe;
    own_list = i.own_list;
    list = i.list;
  }

  -- the node's link was stored
  module _ (u : View) (st : Stored m (store_free_event m (index_of seen) x) u) where
    store : Makes m (store_free_event m (index_of seen) x ∷ []) u
    store = makes_stored m u (store_free_event m (index_of seen) x) (h.later.numbered ∙ has) s refl st

    same_store : store_free_event m (index_of seen) x ≡ store_free_event v (index_of seen) x
    same_store = ap₂ (λ (y : Sizes) (n : ℕ). store_free_event (record v { sizes = y; number = n }) (index_of seen) x)
        h.later.sizes h.later.number

    both : Makes v (store_free_event v (index_of seen) x ∷ []) u
    both = subst (λ (e : Event). Makes v (e ∷ []) u) same_store
        (makes_chain v m u [] (store_free_event m (index_of seen) x ∷ []) h.makes store)

    stored_givable : IsGivable u x
    stored_givable = makes_givable v u (store_free_event v (index_of seen) x ∷ []) z x ((λ is. absurd (cc)), tt) both g

    pub may_push : index_of seen < 16777216 → MayPushFree u seen x
    may_push small =
        let e = store_free_event m (index_of seen) x in
        let t = store_steps m e u (h.later.numbered ∙ has) s st in
        let kept : IsKept m.sizes (t.grown ++ e ∷ []) = subst (λ (j : List Event). IsKept m.sizes j) t.front t.kept in
        let sizes = (makes_later m u (e ∷ []) store).sizes in
        let all = (makes_later v u (store_free_event v (index_of seen) x ∷ []) both).sizes in
        let word : word_at m.sizes u.front (link_at m.sizes x.index) ≡ pack (index_of seen) 1 x.tag = ap
        (λ (j : List Event). word_at m.sizes j (link_at m.sizes x.index)) t.front
        ∙ written m.sizes t.grown e kept in
        record {
          life = stored_givable.life;
          first = m.front;
          before = (makes_later m u (e ∷ []) store).grows;
          word = ap (λ (y : Sizes). word_at y m.front (free_at y)) all ∙ h.word;
          ripe = stored_givable.ripe;
          stored = ap (λ (y : Sizes). (node_in y u.front x.index).stored) sizes ∙
              (ap (λ (j : List Event). (node_in m.sizes j x.index).stored) t.front ∙
              (link_stored m.sizes t.grown e kept refl).1);
          ready = ap (λ (y : Sizes). index_of (word_at y u.front (link_at y x.index))) sizes ∙
              (ap index_of word ∙ index_of-pack (index_of seen) 1 x.tag small);
        }

    has_number : u.numbered ≡ true
    has_number = (makes_later v u (store_free_event v (index_of seen) x ∷ []) both).numbered ∙ has

    -- the exchange won
    pub given : (w : View) (place : ℕ) → IsSound u → Won u place seen (push_event u seen x) w → IsGiven v w x
    given w place sound won =
        let e = push_event u seen x in
        let one = makes_won u w place seen e has_number sound refl won in
        let t = makes_later v u (store_free_event v (index_of seen) x ∷ []) both in
        let last = makes_later u w (e ∷ []) one in
        let same : e ≡ push_event v seen x = ap₂ (λ (y : Sizes) (n : ℕ). push_event
        (record v { sizes = y; number = n }) seen x) t.sizes t.number in
        let mid = makes_later m u (store_free_event m (index_of seen) x ∷ []) store in
        record {
          seen = seen;
          loaded = m.front;
          found = seen_then v m w seen h (prefix_trans m.front u.front w.front mid.grows last.grows);
          makes = subst (λ (y : Event). Makes v (store_free_event v (index_of seen) x ∷ y ∷ []) w) same
              (makes_chain v u w (store_free_event v (index_of seen) x ∷ []) (e ∷ []) both one);
          last = record { past = won.grown; front = won.front ∙ ap (λ (y : Event). won.grown ++ y ∷ []) same };
          free = given_free u w place seen seen x won last.sizes last.kept;
        }

    -- the exchange lost
    pub give_lost : (w : View) (found place : ℕ) → IsSound u → place ≡ free_at u.sizes → Missed u place seen found w
        → IsGiveLost v w x
    give_lost w found place sound place_is missed =
        let e = store_free_event m (index_of seen) x in
        let third = makes_look u w place found has_number sound missed.looked in
        let late : Makes m (e ∷ []) w = makes_chain m u w (e ∷ []) [] store third in
        let all : Makes v (store_free_event v (index_of seen) x ∷ []) w = makes_chain v u w
        (store_free_event v (index_of seen) x ∷ []) [] both third in
        let sizes = (makes_later u w [] third).sizes in
        let g' = makes_givable v w (store_free_event v (index_of seen) x ∷ []) z x ((λ is. absurd (cc)), tt) all g in
        let apart : e.place ≢ free_at w.sizes = λ same. omega (arith, same) in
        record {
          seen = seen;
          loaded = m.front;
          found = seen_then v m w seen h (makes_later m w (e ∷ []) late).grows;
          makes = all;
          changed = changed_since v m u w seen found (e ∷ []) h store (apart, tt) late
              (subst (λ (p : ℕ). Missed u p seen found w) (place_is ∙ ap free_at (sym sizes)) missed);
          givable = g';
        }
