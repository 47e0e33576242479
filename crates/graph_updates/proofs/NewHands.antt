-- A hand whose token has just drawn its number is in order, and holds no node.
use Rattle.std.proofs.Common.{◌≡◌, ◌≢◌, ℕ, ◌<◌, ◌≤◌, Bool, true, false, List, [], ◌∷◌, ◌++◌, None, Some}
use Rattle.std.proofs.Common.{refl, sym, ap, ap₂, ◌∙◌, subst, arith, take, ⊎_elim}
use Rattle.std.specs.Prelude.{slice_get}
use Rattle.graph_kinds.specs.declared.entry.Entry.{Entry}
use Rattle.packed_link.specs.Layout.{Sizes, number_at}
use Rattle.core_journal.specs.declared.event.Kind.{Kind}
use Rattle.core_journal.specs.declared.event.Kind.TheVariants.{DrawNumber}
use Rattle.core_journal.specs.declared.event.Event.{Event}
use Rattle.core_journal.specs.Changes.{is_idle}
use Rattle.core_journal.specs.Event.{pops, moves, raises}
use Rattle.core_journal.specs.GraphOf.{changes}
use Rattle.core_journal.specs.Machine.{word_at}
use Rattle.core_journal.specs.Reuse.{pass_in}
use Rattle.core_journal.specs.Right.{IsBookOf}
use Rattle.core_journal.proofs.GraphRows.{idle_graph}
use Rattle.core_journal.proofs.Lists.{prefix_refl}
use Rattle.core_journal.proofs.Regular.{changes_not}
use Rattle.core_kept.specs.Counts.{made}
use Rattle.core_kept.specs.Kept.{IsKept}
use Rattle.core_kept.specs.Nodes.{IsFreshWith, IsSpentWith}
use Rattle.core_kept.proofs.Callers.{get_snoc}
use Rattle.core_kept.proofs.FirstWords.{numbers}
use Rattle.core_lists.proofs.NewNumbers.{new_closed, new_made, new_quiet, new_unfresh, new_unspent}
use Rattle.core_rule.specs.Plays.{Drew, Looked, draw_event}
use Rattle.core_rule.specs.declared.view.View.{View}
use Rattle.core_stretches.specs.Holdings.{HasNoPass}
use Rattle.epoch_limbo.specs.Limbos.{IsLimboOf, LimboValue}
use Rattle.epoch_limbo.proofs.LimboStays.{limbo_of_none}
use Rattle.graph_table.specs.Tokens.{IsOf, RipeValue, TableValue, TokenValue}
use Rattle.graph_updates.specs.Hands.{HandValue, IsHandOf, IsInOrder, book_of}
use Rattle.graph_updates.specs.Opening.{IsTokenRefused}
use Rattle.graph_updates.specs.declared.opening.HandCause.TheVariants.{Memory}
use Rattle.graph_updates.proofs.HandsStay.{due_closed}
use Rattle.graph_updates.proofs.RaisesAddUp.{raises_of_none}

-- a token that is handed back as it was
pub refused : (g : TableValue) (t : TokenValue) → IsOf g t
    → IsTokenRefused g t.view (record { token = t; cause = Memory })
refused g t of = record { of = of; grows = prefix_refl t.view.front; same = refl; cause = tt }

-- a load of the word of numbers that isn't that of callers leaves a number to draw
pub number_left : (v m : View) (at found : ℕ) → v.draws ≡ true → Looked v at found m → at ≡ number_at v.sizes
    → found ≢ v.sizes.callers → m.drawn < m.sizes.callers
number_left v m at found right looked at_is other =
    let drawn : found ≡ v.drawn = looked.count right at_is in
    let same : m.drawn ≡ v.drawn = ap (λ (u : View). u.drawn) looked.view in
    let sizes : m.sizes ≡ v.sizes = ap (λ (u : View). u.sizes) looked.view in
    let callers = ap (λ (s : Sizes). s.callers) sizes in
    let kept : IsKept v.sizes m.front = subst (λ (s : Sizes). IsKept s m.front) sizes looked.sound.kept in
    let n = numbers v.sizes m.front kept in
    let word : found ≡ word_at v.sizes m.front (number_at v.sizes) = looked.word
    ∙ ap (word_at v.sizes m.front) at_is in
    let is = n.numbers in
    let room = n.room in
    omega (arith, drawn, same, callers, word, is, room, other)

module _ (m w : View) (found : ℕ) (d : Drew m found w) where
  number_is : w.number ≡ found
  number_is = ap (λ (u : View). u.number) d.view

  kept_is : IsKept w.sizes (d.grown ++ draw_event found ∷ [])
  kept_is = subst (λ (j : List Event). IsKept w.sizes j) d.front d.sound.kept

  none_spent : (y : ℕ) → IsSpentWith w.sizes w.front w.number y → ⊥
  none_spent y h = new_unspent w.sizes d.grown (draw_event found) kept_is refl y
      (subst (λ (j : List Event). IsSpentWith w.sizes j found y) d.front
      (subst (λ (n : ℕ). IsSpentWith w.sizes w.front n y) number_is h))

  none_fresh : (y : ℕ) → IsFreshWith w.sizes w.front w.number y → ⊥
  none_fresh y h = new_unfresh w.sizes d.grown (draw_event found) kept_is refl y
      (subst (λ (j : List Event). IsFreshWith w.sizes j found y) d.front
      (subst (λ (n : ℕ). IsFreshWith w.sizes w.front n y) number_is h))

  none_made : (test : Kind → Bool) → test DrawNumber ≡ false → made test w.number w.front ≡ 0
  none_made test off = ap₂ (λ (n : ℕ) (j : List Event). made test n j) number_is d.front
      ∙ new_made w.sizes d.grown (draw_event found) kept_is refl test off

  no_pass : HasNoPass w
  no_pass = ap₂ (λ (n : ℕ) (j : List Event). (pass_in w.sizes j n).is_open) number_is d.front
      ∙ new_closed w.sizes d.grown (draw_event found) kept_is refl

  -- no event of the new number changes the graph
  none_changes : (p : ℕ) (e : Event) → slice_get w.front p ≡ Some e → e.caller ≡ w.number
      → changes (take p w.front) e ≡ true → ⊥
  none_changes p e at by does = ⊎_elim
      (λ (old : slice_get d.grown p ≡ Some e). (new_quiet w.sizes d.grown (draw_event found) kept_is refl).none p e
      (omega arith) old (by ∙ number_is))
      (λ (new : draw_event found ≡ e).
      let idle : is_idle e.kind ≡ true = ap (λ (x : Event). is_idle x.kind) (sym new) in
      let not : changes (take p w.front) e ≡ false = changes_not (take p w.front) e
      (idle_graph (take p w.front) e idle) in
      absurd (cc))
      (get_snoc d.grown (draw_event found) p e (subst (λ (j : List Event). slice_get j p ≡ Some e) d.front at))

  empty_book : w.book ≡ [] → IsBookOf w.sizes w.front (book_of w)
  empty_book empty = subst
      (λ (es : List Entry). IsBookOf w.sizes w.front (record { caller = w.number; entries = es })) (sym empty) (record {
        right = tt;
        framed = record { order = tt };
        covers = λ p e at by does. absurd (none_changes p e at by does);
      })

  -- the hand that is made
  module _ (g : TableValue) (t : TokenValue) (limbo : LimboValue) (view_is : t.view ≡ w) (none : limbo.nodes ≡ []) where
    abbrev pub new_hand : HandValue
    new_hand = record { token = t; limbo = limbo; spare = None; uses = 0; retired = false }

    pub new_of : IsOf g t → m.drawn < m.sizes.callers → m.sizes.nodes ≤ limbo.room → IsHandOf g new_hand
    new_of of left room =
        let number = number_is in
        let next = d.next in
        let sizes : w.sizes ≡ m.sizes = ap (λ (u : View). u.sizes) d.view in
        let callers = ap (λ (s : Sizes). s.callers) sizes in
        let nodes = ap (λ (s : Sizes). s.nodes) sizes in
        let same_number = ap (λ (u : View). u.number) view_is in
        let same_callers = ap (λ (u : View). u.sizes.callers) view_is in
        let same_nodes = ap (λ (u : View). u.sizes.nodes) view_is in
        record {
          of = of;
          numbered = ap (λ (u : View). u.numbered) view_is ∙ ap (λ (u : View). u.numbered) d.view;
          there = omega (arith, number, next, callers, left, same_number, same_callers);
          limbo = record {
            of = subst (λ (ns : List RipeValue). IsLimboOf None t.view ns) (sym none) (limbo_of_none None t.view);
            room = omega (arith, nodes, room, same_nodes);
          };
          spare = tt;
        }

    pub hand_closed : HasNoPass t.view
    hand_closed = subst HasNoPass (sym view_is) no_pass

    pub new_order : m.book ≡ [] → IsInOrder new_hand
    new_order empty =
        let taken = none_made pops refl in
        let moved = none_made moves refl in
        let due = due_closed w no_pass in
        let book : w.book ≡ [] = ap (λ (u : View). u.book) d.view ∙ empty in
        subst (λ (u : View). IsInOrder
        (record {
          token = record { table = t.table; view = u };
          limbo = limbo;
          spare = None;
          uses = 0;
          retired = false;
        })) (sym view_is)
        (record {
          book = empty_book book;
          taken = omega (arith, taken);
          moved = omega (arith, moved, due);
          uses = omega arith;
          again = 0;
          given_up = omega arith;
          raised = raises_of_none w.front w.number (none_made raises refl);
          nodes = record {
            spent = record { each = λ y spent. absurd (none_spent y spent) };
            fresh = record { none = λ y low fresh. none_fresh y fresh };
          };
        })
