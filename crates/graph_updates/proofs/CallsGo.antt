-- A whole call, from its pass's opening to its closing: what it leaves, and what it found at a moment in between.
use Rattle.std.proofs.Common.{◌≡◌, ℕ, ◌+◌, ◌^◌, ◌<◌, ◌≤◌, Bool, true, false, cond, List, [], ◌∷◌, length, inl}
use Rattle.std.proofs.Common.{refl, sym, ap, ◌∙◌, ◌&&◌, arith, subst, None, Option, Some}
use Rattle.graph_kinds.specs.Answer.{alters, answer, is_added, is_change, needs_node, plain}
use Rattle.graph_kinds.specs.Graph.{Graph, has}
use Rattle.graph_kinds.specs.declared.call.Call.{Call}
use Rattle.graph_kinds.specs.declared.call.Call.TheVariants.{AddVertex, HasVertex, RemoveVertex}
use Rattle.graph_kinds.specs.declared.outcome.Outcome.{Outcome}
use Rattle.graph_kinds.specs.declared.outcome.Outcome.TheVariants.{Absent, Added, No, Present, Removed, Yes}
use Rattle.packed_link.specs.Layout.{Sizes}
use Rattle.packed_link.specs.declared.link.Life.{Life}
use Rattle.core_journal.specs.declared.event.Event.{Event}
use Rattle.core_journal.specs.Event.{marks_vertex, moves, pops, same_life}
use Rattle.core_journal.specs.Foreign.{foreign}
use Rattle.core_journal.specs.GraphOf.{graph_of}
use Rattle.core_journal.specs.Life.{vertex_marked}
use Rattle.core_journal.specs.Prefix.{IsPrefix}
use Rattle.core_journal.specs.Right.{NoneFree}
use Rattle.core_journal.proofs.Calls.{there_removed}
use Rattle.core_journal.proofs.ForeignAddsUp.{adds_up, longer_same}
use Rattle.core_journal.proofs.Lists.{any_more, prefix_length, prefix_trans}
use Rattle.core_journal.proofs.LivesOf.{key_of_life, life_of_key}
use Rattle.core_kept.specs.Counts.{made, most_moves, most_pops}
use Rattle.core_rule.specs.OwnEvents.{announce_event}
use Rattle.core_rule.specs.declared.view.View.{View}
use Rattle.core_stretches.specs.Moments.{Has, HoldsBetween, Lacks}
use Rattle.core_stretches.proofs.MakesTell.{makes_counts, makes_later, makes_leaves}
use Rattle.epoch_limbo.specs.Passes.{IsOpened}
use Rattle.graph_updates.specs.Adding.{MatchAdding}
use Rattle.graph_updates.specs.Hands.{HandValue, IsInOrder}
use Rattle.graph_updates.specs.Parts.{CarriesOutBy, Fell, GoesOnBy, LeavesGraph, may_take}
use Rattle.graph_updates.specs.Removing.{MatchRemoving}
use Rattle.graph_updates.specs.Replying.{GivesAnswer, IsDueAgain, IsDueAt, IsDueAtMark, IsDueByChange, IsDueForFull}
use Rattle.graph_updates.specs.Replying.{NeedsNode}
use Rattle.graph_updates.specs.declared.adding.Adding.{Adding}
use Rattle.graph_updates.specs.declared.adding.Adding.TheVariants as adding
use Rattle.graph_updates.specs.declared.removing.Removing.{Removing}
use Rattle.graph_updates.specs.declared.removing.Removing.TheVariants as removing
use Rattle.graph_updates.proofs.PartsLeave.{leaves_any, leaves_chain, leaves_less, leaves_raising}

-- opening a pass leaves the graph
pub opened_leaves : (r : Bool) (v w : View) → IsOpened v w → LeavesGraph r 0 0 v w
opened_leaves r v w o = record {
  own = announce_event v o.epoch ∷ [];
  makes = o.makes;
  leaves = λ z. makes_leaves v w (announce_event v o.epoch ∷ []) z (inl refl, tt) o.makes;
  takes = omega arith;
  shifts = omega arith;
  raised = λ _. refl;
}

-- a call that left the graph
pub whole_leaves : (r : Bool) (a : ℕ) (u v w x : View) → a ≤ 1 → IsOpened u v → LeavesGraph r a 0 v w
    → LeavesGraph false 0 1 w x → LeavesGraph true 1 3 u x
whole_leaves r a u v w x few o g f = leaves_raising r 1 3 u x
    (leaves_less r (0 + a + 0) (0 + 0 + 1) 1 3 u x (omega (arith, few)) (omega arith)
    (leaves_chain r (0 + a) (0 + 0) 0 1 u w x (leaves_chain r 0 0 a 0 u v w (opened_leaves r u v o) g)
    (leaves_any r 0 1 w x f)))

-- a call that carried itself out
pub whole_carries : (r : Bool) (call : Call) (a : ℕ) (u v w x : View) (at : List Event) → a ≤ 1 → IsOpened u v
    → CarriesOutBy r call a 0 v w at → LeavesGraph false 0 1 w x → CarriesOutBy true call 1 3 u x at
whole_carries r call a u v w x at few o h f = record {
  before = h.before;
  done = h.done;
  event = h.event;
  first = leaves_raising r 1 0 u h.before
      (leaves_less r (0 + a) (0 + 0) 1 0 u h.before (omega (arith, few)) (omega arith)
      (leaves_chain r 0 0 a 0 u v h.before (opened_leaves r u v o) h.first));
  makes = h.makes;
  unlike = h.unlike;
  carries = h.carries;
  at_is = h.at_is;
  last = leaves_raising r 0 3 h.done x
      (leaves_less r (0 + 0) (0 + 1) 0 3 h.done x (omega arith) (omega arith)
      (leaves_chain r 0 0 0 1 h.done w x h.last (leaves_any r 0 1 w x f)));
}

-- a moment in a part of a call is one in the call
pub between_wide : (P Q : List Event → Type 0) (a b d e at : List Event) → ((j : List Event) → P j → Q j)
    → IsPrefix a b → IsPrefix d e → HoldsBetween b d P at → HoldsBetween a e Q at
between_wide P Q a b d e at f p q h = record {
  since = prefix_trans a b at p h.since;
  until = prefix_trans at d e h.until q;
  holds = f at h.holds;
}

-- foreign events that fell in a part of a call fell in the call
pub fell_wide : (n c k : ℕ) (a b d e : List Event) → c ≡ k → IsPrefix a b → IsPrefix b d → IsPrefix d e → Fell n c b d
    → Fell n k a e
fell_wide n c k a b d e same p q r f =
    let ab = prefix_length a b p in
    let bd = prefix_length b d q in
    let de = prefix_length d e r in
    let fell = f.least in
    let longer = longer_same d e r c (length b) (length d) (omega arith) in
    let first = adds_up e c (length a) (length b) (length d) ab bd in
    let last = adds_up e c (length a) (length d) (length e) (omega (arith, ab, bd)) de in
    let renamed = ap (λ (i : ℕ). foreign e i (length a) (length e)) same in
    record { least = omega (arith, fell, longer, first, last, renamed) }

-- what a graph gives where a vertex is present with a key
pub has_there : (at : List Event) (key : ℕ) (x : Life) → Has key x at → has (graph_of at) key ≡ true
has_there at key x h = key_of_life at x key h.there

-- or none
pub lacks_there : (at : List Event) (key : ℕ) → Lacks key at → has (graph_of at) key ≡ false
lacks_there at key l = by (has (graph_of at) key) refl
  where
    by : (b : Bool) → has (graph_of at) key ≡ b → has (graph_of at) key ≡ false
    by true e = let h = life_of_key at key e in absurd (l.none h.0 h.1)
    by false e = e

module _ (g : Graph) (key : ℕ) where
  yes_answer : has g key ≡ true → plain Yes ≡ answer g (HasVertex key)
  unfolding answer
  yes_answer is = sym (ap (λ (b : Bool). plain (cond b Yes No)) is)

  yes_stays : has g key ≡ true → alters g (HasVertex key) ≡ false
  unfolding answer alters
  yes_stays is = ap (λ (b : Bool). is_change (cond b Yes No)) is

  no_answer : has g key ≡ false → plain No ≡ answer g (HasVertex key)
  unfolding answer
  no_answer is = sym (ap (λ (b : Bool). plain (cond b Yes No)) is)

  no_stays : has g key ≡ false → alters g (HasVertex key) ≡ false
  unfolding answer alters
  no_stays is = ap (λ (b : Bool). is_change (cond b Yes No)) is

  present_answer : has g key ≡ true → plain (Present 0) ≡ answer g (AddVertex key)
  unfolding answer
  present_answer is = sym (ap (λ (b : Bool). plain (cond b (Present 0) Added)) is)

  present_stays : has g key ≡ true → alters g (AddVertex key) ≡ false
  unfolding answer alters
  present_stays is = ap (λ (b : Bool). is_change (cond b (Present 0) Added)) is

  added_answer : has g key ≡ false → plain Added ≡ answer g (AddVertex key)
  unfolding answer
  added_answer is = sym (ap (λ (b : Bool). plain (cond b (Present 0) Added)) is)

  added_needs : has g key ≡ false → needs_node g (AddVertex key) ≡ true
  unfolding answer needs_node
  added_needs is = ap (λ (b : Bool). is_added (cond b (Present 0) Added)) is

  added_by : alters g (AddVertex key) ≡ true → has g key ≡ false
  added_by h = by (has g key) refl
    where
      by : (b : Bool) → has g key ≡ b → has g key ≡ false
      by true e = let f : true ≡ false = sym h ∙ present_stays e in absurd (cc)
      by false e = e

  removed_answer : has g key ≡ true → plain (Removed 0) ≡ answer g (RemoveVertex key)
  unfolding answer
  removed_answer is = sym (ap (λ (b : Bool). plain (cond b (Removed 0) Absent)) is)

  gone_answer : has g key ≡ false → plain Absent ≡ answer g (RemoveVertex key)
  unfolding answer
  gone_answer is = sym (ap (λ (b : Bool). plain (cond b (Removed 0) Absent)) is)

  gone_stays : has g key ≡ false → alters g (RemoveVertex key) ≡ false
  unfolding answer alters
  gone_stays is = ap (λ (b : Bool). is_change (cond b (Removed 0) Absent)) is

-- what a call gives at a moment
pub gives_yes : (key : ℕ) (x : Life) (at : List Event) → Has key x at → GivesAnswer (HasVertex key) Yes at
gives_yes key x at h = record {
  reply = yes_answer (graph_of at) key (has_there at key x h);
  stays = yes_stays (graph_of at) key (has_there at key x h);
}

pub gives_no : (key : ℕ) (at : List Event) → Lacks key at → GivesAnswer (HasVertex key) No at
gives_no key at l = record {
  reply = no_answer (graph_of at) key (lacks_there at key l);
  stays = no_stays (graph_of at) key (lacks_there at key l);
}

pub gives_present : (key : ℕ) (x : Life) (at : List Event) → Has key x at → GivesAnswer (AddVertex key) (Present 0) at
gives_present key x at h = record {
  reply = present_answer (graph_of at) key (has_there at key x h);
  stays = present_stays (graph_of at) key (has_there at key x h);
}

pub gives_absent : (key : ℕ) (at : List Event) → Lacks key at → GivesAnswer (RemoveVertex key) Absent at
gives_absent key at l = record {
  reply = gone_answer (graph_of at) key (lacks_there at key l);
  stays = gone_stays (graph_of at) key (lacks_there at key l);
}

-- the removal of a key that's gone
pub absent_where : (key : ℕ) (at : List Event) → has (graph_of at) key ≡ false
    → GivesAnswer (RemoveVertex key) Absent at
absent_where key at none = record {
  reply = gone_answer (graph_of at) key none;
  stays = gone_stays (graph_of at) key none;
}

pub needs_one : (key : ℕ) (at : List Event) → Lacks key at → NeedsNode (AddVertex key) at
needs_one key at l = record { needs = added_needs (graph_of at) key (lacks_there at key l) }

pub was_added : (key : ℕ) (g : Graph) → alters g (AddVertex key) ≡ true → plain Added ≡ answer g (AddVertex key)
was_added key g h = added_answer g key (added_by g key h)

pub was_removed : (key : ℕ) (g : Graph) → alters g (RemoveVertex key) ≡ true
    → plain (Removed 0) ≡ answer g (RemoveVertex key)
was_removed key g h = removed_answer g key (there_removed g key h)

-- the counts of a hand whose call has begun are below their limits
module _ (old : HandValue) (w : View) (o : IsInOrder old) (few : old.uses < 2 ^ 32)
    (opened : IsOpened old.token.view w) where
  pub may_pop : made pops w.number w.front < most_pops
  may_pop =
      let same = makes_counts pops old.token.view w (announce_event old.token.view opened.epoch ∷ []) opened.makes in
      let taken = o.taken in
      omega (arith, same, taken, few)

  pub may_move : (r : Bool) (a : ℕ) (x : View) → LeavesGraph r a 0 w x → made moves x.number x.front < most_moves
  may_move r a x h =
      let same = makes_counts moves old.token.view w (announce_event old.token.view opened.epoch ∷ []) opened.makes in
      let more = makes_counts moves w x h.own h.makes in
      let none = h.shifts in
      let moved = o.moved in
      omega (arith, same, more, none, moved, few)

  pub may_move_carried : (r : Bool) (call : Call) (a : ℕ) (x : View) (at : List Event) → CarriesOutBy r call a 0 w x at
      → made moves x.number x.front < most_moves
  may_move_carried r call a x at h =
      let one = makes_counts moves h.before h.done (h.event ∷ []) h.makes in
      let last = makes_counts moves h.done x h.last.own h.last.makes in
      let none = h.last.shifts in
      let low = may_move r a h.before h.first in
      let no_move = ap (λ (b : Bool). cond {A = ℕ} b 1 0) h.unlike.1.0 in
      omega (arith, one, last, none, low, no_move)

-- the sizes of a call's last view are those of its first
later_sizes : (r : Bool) (a b : ℕ) (v w : View) → LeavesGraph r a b v w → w.sizes ≡ v.sizes
later_sizes r a b v w h = (makes_later v w h.own h.makes).sizes

pub may_one : (spare : Option Life) → may_take spare ≤ 1
may_one None = omega arith
may_one (Some x) = omega arith

-- how a call is answered that left the graph: from what it found in its pass
module _ (r : Bool) (a : ℕ) (u v w x : View) (few : a ≤ 1) (o : IsOpened u v) (h : LeavesGraph r a 0 v w)
    (f : LeavesGraph false 0 1 w x) where
  starts : IsPrefix u.front v.front
  starts = (makes_later u v (announce_event u o.epoch ∷ []) o.makes).grows

  goes : IsPrefix v.front w.front
  goes = (makes_later v w h.own h.makes).grows

  stops : IsPrefix w.front x.front
  stops = (makes_later w x f.own f.makes).grows

  pub due_at : (call : Call) (outcome : Outcome) (P : List Event → Type 0) (at : List Event)
      → ((j : List Event) → P j → GivesAnswer call outcome j) → HoldsBetween v.front w.front P at
      → IsDueAt call outcome u x at
  due_at call outcome P at gives found = record {
    stretch = whole_leaves r a u v w x few o h f;
    gives = between_wide P (GivesAnswer call outcome) u.front v.front w.front x.front at gives starts stops found;
  }

  pub due_again : (tries caller : ℕ) → caller ≡ w.number → Fell tries caller v.front w.front → IsDueAgain tries u x
  due_again tries caller same fell = record {
    stretch = whole_leaves r a u v w x few o h f;
    fell = fell_wide tries caller x.number u.front v.front w.front x.front
        (same ∙ sym (makes_later w x f.own f.makes).number) starts goes stops fell;
  }

  pub due_full : (key : ℕ) (at : List Event) → HoldsBetween v.front w.front (Lacks key) at → NoneFree w.sizes w.front
      → IsDueForFull (AddVertex key) u x at
  due_full key at found none = record {
    stretch = whole_leaves r a u v w x few o h f;
    needs = between_wide (Lacks key) (NeedsNode (AddVertex key)) u.front v.front w.front x.front at
        (λ j l. needs_one key j l) starts stops found;
    then = w.front;
    empty = record {
      since = prefix_trans u.front v.front w.front starts goes;
      until = stops;
      holds = subst (λ (s : Sizes). NoneFree s w.front)
          (later_sizes r a 0 v w h ∙ (makes_later u v (announce_event u o.epoch ∷ []) o.makes).sizes) none;
    };
  }

  pub due_for_full : (call : Call) (at then : List Event) → HoldsBetween v.front w.front (NeedsNode call) at
      → HoldsBetween v.front w.front (NoneFree v.sizes) then → IsDueForFull call u x at
  due_for_full call at then needs empty = record {
    stretch = whole_leaves r a u v w x few o h f;
    needs = between_wide (NeedsNode call) (NeedsNode call) u.front v.front w.front x.front at (λ j p. p) starts stops
        needs;
    then = then;
    empty = subst (λ (s : Sizes). HoldsBetween u.front x.front (NoneFree s) then)
        (makes_later u v (announce_event u o.epoch ∷ []) o.makes).sizes
        (between_wide (NoneFree v.sizes) (NoneFree v.sizes) u.front v.front w.front x.front then (λ j p. p) starts
        stops empty);
  }

  pub due_at_mark : (call : Call) (outcome : Outcome) (key : ℕ) (y : Life) (at : List Event)
      → HoldsBetween v.front w.front (Has key y) at → vertex_marked w.front y ≡ true
      → ((journal : List Event) → has (graph_of journal) key ≡ false → GivesAnswer call outcome journal)
      → IsDueAtMark call outcome u x y
  due_at_mark call outcome key y at found marked gives = record {
    stretch = whole_leaves r a u v w x few o h f;
    key = key;
    at = at;
    there = between_wide (Has key y) (Has key y) u.front v.front w.front x.front at (λ j p. p) starts stops found;
    marked = subst (λ (j : List Event). vertex_marked j y ≡ true) stops.whole
        (any_more (λ (e : Event). marks_vertex e.kind && same_life y e.life) w.front stops.rest marked);
    gives = gives;
  }

-- how a call is answered that changed it
pub due_by_change : (r : Bool) (call : Call) (outcome : Outcome) (a : ℕ) (u v w x : View) (at : List Event) → a ≤ 1
    → IsOpened u v → (h : CarriesOutBy r call a 0 v w at) → LeavesGraph false 0 1 w x → is_change outcome ≡ true
    → plain outcome ≡ answer (graph_of h.carries.past) call → IsDueByChange call outcome u x at
unfolding whole_carries
due_by_change r call outcome a u v w x at few o h f changes reply = record {
  stretch = whole_carries r call a u v w x at few o h f;
  changes = changes;
  reply = reply;
}

-- a part of a call takes at most one node
pub goes_few : (r : Bool) (old new : HandValue) (g : GoesOnBy r old new) → g.taken ≤ 1
goes_few r old new g =
    let s = g.spares in
    let m = may_one old.spare in
    omega (arith, s, m)

-- the moves are few still after adding or removing a vertex
module _ (old begun now : HandValue) (o : IsInOrder old) (few : old.uses < 2 ^ 32)
    (opened : IsOpened old.token.view begun.token.view) where
  pub adding_moves : (r : Adding) (key tries : ℕ) → MatchAdding r key tries begun now
      → made moves now.token.view.number now.token.view.front < most_moves
  adding_moves (adding.Linked m) key tries h = may_move_carried old begun.token.view o few opened false (AddVertex key)
      (may_take begun.spare) now.token.view m.value.view.front h.carries
  adding_moves (adding.There s) key tries h = may_move old begun.token.view o few opened false h.0.taken now.token.view
      h.0.stretch
  adding_moves (adding.Full q) key tries h = may_move old begun.token.view o few opened false h.on.taken now.token.view
      h.on.stretch
  adding_moves adding.Again key tries h = may_move old begun.token.view o few opened false h.0.taken now.token.view
      h.0.stretch

  pub removing_moves : (r : Removing) (key tries : ℕ) → MatchRemoving r key tries begun now
      → made moves now.token.view.number now.token.view.front < most_moves
  removing_moves (removing.Marked m) key tries h = may_move_carried old begun.token.view o few opened false
      (RemoveVertex key) 0 now.token.view m.value.view.front h.carries
  removing_moves (removing.WasMarked y) key tries h = may_move old begun.token.view o few opened false h.on.taken
      now.token.view h.on.stretch
  removing_moves (removing.Gone q) key tries h = may_move old begun.token.view o few opened false h.0.taken
      now.token.view
      h.0.stretch
  removing_moves removing.Again key tries h = may_move old begun.token.view o few opened false h.0.taken now.token.view
      h.0.stretch
