-- Adding a vertex: what a try came to, told from before its walk, and the tries that were lost.
use Rattle.std.proofs.Common.{◌≡◌, ℕ, ◌+◌, ◌<◌, ◌≤◌, List, [], None, Bool, false}
use Rattle.std.proofs.Common.{refl, ap, sym, ◌∙◌, subst, arith}
use Rattle.graph_kinds.specs.declared.call.Call.{Call}
use Rattle.graph_kinds.specs.declared.call.Call.TheVariants.{AddVertex}
use Rattle.core_journal.specs.declared.event.Event.{Event}
use Rattle.core_journal.specs.Event.{moves, pops, raises}
use Rattle.core_journal.specs.Prefix.{IsPrefix}
use Rattle.core_journal.proofs.Lists.{prefix_trans}
use Rattle.core_rule.specs.declared.view.View.{View}
use Rattle.core_stretches.specs.Makes.{Makes}
use Rattle.core_stretches.specs.Moments.{Carries}
use Rattle.core_stretches.proofs.MakesAddUp.{makes_self}
use Rattle.core_kept.specs.Counts.{made}
use Rattle.core_stretches.proofs.MakesTell.{makes_counts, makes_later, makes_leaves}
use Rattle.graph_table.specs.Tokens.{TableValue, TokenValue}
use Rattle.vertex_list.specs.Positions.{PositionValue}
use Rattle.vertex_list.proofs.PositionsGoOn.{gap_makes}
use Rattle.graph_updates.specs.Adding.{IsAdded, IsFullAt, IsNodePlaced, IsSameBut, MatchAddTried, MatchPlacingAt}
use Rattle.graph_updates.specs.Hands.{HandValue, HasItsNodes, IsHandOf}
use Rattle.graph_updates.specs.Locating.{WasGone}
use Rattle.graph_updates.specs.Parts.{CarriesOutBy, Fell, GoesOnBy, HasHelped, LeavesGraph, may_take}
use Rattle.graph_updates.specs.declared.adding.AddTried.{AddTried}
use Rattle.graph_updates.specs.declared.adding.AddTried.TheVariants as tried
use Rattle.graph_updates.proofs.AddingTries.{readies_leave}
use Rattle.graph_updates.proofs.LocatingTells.{between_later, fell_as, fell_both, fell_none, gone_earlier}
use Rattle.graph_updates.proofs.PartsLeave.{helps_leave, leaves_chain, leaves_less}

-- a stretch that leaves the graph leads to a later view of the same caller
pub leaves_grows : (r : Bool) (a b : ℕ) (v w : View) → LeavesGraph r a b v w → IsPrefix v.front w.front
leaves_grows r a b v w h = (makes_later v w h.own h.makes).grows

pub leaves_number : (r : Bool) (a b : ℕ) (v w : View) → LeavesGraph r a b v w → w.number ≡ v.number
leaves_number r a b v w h = (makes_later v w h.own h.makes).number

-- nothing was made, but by loads
pub leaves_by_loads : (r : Bool) (v w : View) → Makes v [] w → LeavesGraph r 0 0 v w
leaves_by_loads r v w makes = record {
  own = [];
  makes = makes;
  leaves = λ z. makes_leaves v w [] z tt makes;
  takes = omega arith;
  shifts = omega arith;
  raised = λ _. refl;
}

-- nothing was made
pub leaves_none : (r : Bool) (g : TableValue) (h : HandValue) → IsHandOf g h
    → LeavesGraph r 0 0 h.token.view h.token.view
leaves_none r g h of = record {
  own = [];
  makes = makes_self h.token.view of.numbered of.of.sound;
  leaves = λ z. makes_leaves h.token.view h.token.view [] z tt (makes_self h.token.view of.numbered of.of.sound);
  takes = omega arith;
  shifts = omega arith;
  raised = λ _. refl;
}

pub goes_on_none : (r : Bool) (g : TableValue) (h : HandValue) → IsHandOf g h → HasItsNodes h → GoesOnBy r h h
goes_on_none r g h of n = record {
  taken = 0;
  stretch = leaves_none r g h of;
  spares = omega arith;
  nodes = n;
  uses = refl;
}

-- a hand that helped has gone on
pub helped_on : (r : Bool) (old new : HandValue) → HasItsNodes old → HasHelped old new → GoesOnBy r old new
helped_on r old new n h =
    let same = ap may_take h.spare in
    record {
      taken = 0;
      stretch = helps_leave r old.token.view new.token.view h.helped.only;
      spares = omega (arith, same);
      nodes = h.nodes n;
      uses = h.uses;
    }

pub goes_on_chain : (r : Bool) (a b c : HandValue) → GoesOnBy r a b → GoesOnBy r b c → GoesOnBy r a c
goes_on_chain r a b c g h =
    let first = g.spares in
    let second = h.spares in
    record {
      taken = g.taken + h.taken;
      stretch = leaves_chain r g.taken 0 h.taken 0 a.token.view b.token.view c.token.view g.stretch h.stretch;
      spares = omega (arith, first, second);
      nodes = h.nodes;
      uses = h.uses ∙ g.uses;
    }

-- what fell since a later moment fell since an earlier one
pub fell_since : (n caller : ℕ) (a b c : List Event) → IsPrefix a b → IsPrefix b c → Fell n caller b c
    → Fell n caller a c
fell_since n caller a b c p q f = fell_as (0 + n) n caller a c (omega arith)
    (fell_both 0 n caller a b c p q (fell_none caller a b) f)

-- a stretch that leaves the graph goes before a call that's carried out
pub carries_since : (r : Bool) (call : Call) (a b c : ℕ) (u v w : View) (at : List Event) → LeavesGraph r a 0 u v
    → CarriesOutBy r call b c v w at → CarriesOutBy r call (a + b) c u w at
carries_since r call a b c u v w at h k = record {
  before = k.before;
  done = k.done;
  event = k.event;
  first = leaves_chain r a 0 b 0 u v k.before h k.first;
  makes = k.makes;
  unlike = k.unlike;
  carries = k.carries;
  at_is = k.at_is;
  last = k.last;
}

pub carries_less : (r : Bool) (call : Call) (a b c d : ℕ) (v w : View) (at : List Event) → a ≤ b → c ≤ d
    → CarriesOutBy r call a c v w at → CarriesOutBy r call b d v w at
carries_less r call a b c d v w at low less k = record {
  before = k.before;
  done = k.done;
  event = k.event;
  first = leaves_less r a 0 b 0 v k.before low (omega arith) k.first;
  makes = k.makes;
  unlike = k.unlike;
  carries = k.carries;
  at_is = k.at_is;
  last = leaves_less r 0 c 0 d k.done w (omega arith) less k.last;
}

-- and one behind it
pub carries_then : (r : Bool) (call : Call) (a b c : ℕ) (u v w : View) (at : List Event)
    → CarriesOutBy r call a b u v at → LeavesGraph r 0 c v w → CarriesOutBy r call a (b + c) u w at
carries_then r call a b c u v w at k h = record {
  before = k.before;
  done = k.done;
  event = k.event;
  first = k.first;
  makes = k.makes;
  unlike = k.unlike;
  carries = k.carries;
  at_is = k.at_is;
  last = leaves_chain r 0 b 0 c k.done v w k.last h;
}

-- a node was placed: the vertex is added
placed_added : (g : TableValue) (key : ℕ) (h new : HandValue) (p : PositionValue) (m : TokenValue) → IsHandOf g new
    → HasItsNodes new → p.key ≡ key → IsSameBut h new → new.spare ≡ None
    → IsNodePlaced p.key h.spare h.token.view new.token.view m → IsAdded key h new m
placed_added g key h new p m of n key_is same bare k = record {
  carries = record {
    before = k.before;
    done = new.token.view;
    event = k.event;
    first = readies_leave (may_take h.spare) h.token.view k.before k.first;
    makes = k.makes;
    unlike = (ap pops k.kind, (ap moves k.kind, ap raises k.kind));
    carries = subst (λ (i : ℕ). Carries (AddVertex i) k.event new.token.view) key_is k.carries;
    at_is = k.moment;
    last = leaves_none false g new of;
  };
  spare = bare;
  nodes = n;
  uses = same.uses;
}

-- what placing came to, told from before the walk that found the gap
pub tried_since : (g : TableValue) (r : AddTried) (key : ℕ) (old h new : HandValue) (p : PositionValue) → IsHandOf g h
    → IsHandOf g new → HasItsNodes old → HasItsNodes new → HasHelped old h → WasGone key old.token.view h.token.view p
    → MatchPlacingAt r p h new → MatchAddTried r key old new
tried_since g (tried.Linked m) key old h new p of now n nodes helped gone k =
    let a = placed_added g key h new p m.value now nodes gone.key_is k.0 k.1.0 k.1.1 in
    let same = ap may_take helped.spare in
    record {
      carries = carries_less false (AddVertex key) (0 + may_take h.spare) (may_take old.spare) 0 0 old.token.view
          new.token.view m.value.view.front (omega (arith, same)) (omega arith)
          (carries_since false (AddVertex key) 0 (may_take h.spare) 0 old.token.view h.token.view new.token.view
          m.value.view.front (helps_leave false old.token.view h.token.view helped.helped.only) a.carries);
      spare = a.spare;
      nodes = nodes;
      uses = a.uses ∙ helped.uses;
    }
tried_since g (tried.There s) key old h new p of now n nodes helped gone k = absurd k
tried_since g (tried.Full q) key old h new p of now n nodes helped gone k =
    let v = h.token.view in
    let w = new.token.view in
    let e = k.1.1.1.1 in
    let bare : h.spare ≡ None = k.1.1.0 in
    let bare_new : new.spare ≡ None = k.1.1.1.0 in
    let same : may_take new.spare ≡ may_take h.spare = ap may_take (bare_new ∙ sym bare) in
    let on : GoesOnBy false h new = record {
      taken = 0;
      stretch = leaves_by_loads false v w e.makes;
      spares = omega (arith, same);
      nodes = nodes;
      uses = k.0.uses;
    } in
    let gone_here : WasGone key old.token.view w p = record {
      key_is = gone.key_is;
      gap = gap_makes v w [] p of.of.layout tt tt e.makes gone.gap;
      there = between_later _ old.token.view.front v.front w.front p.moment (makes_later v w [] e.makes).grows
          gone.there;
    } in
    record {
      on = goes_on_chain false old h new (helped_on false old h n helped) on;
      gone = subst (WasGone key old.token.view w) (sym k.1.0) gone_here;
      empty = record { empty = e.empty };
      bare = bare_new;
    }
tried_since g tried.Lost key old h new p of now n nodes helped gone k =
    let v = h.token.view in
    let w = new.token.view in
    let l = k.1 in
    let on : GoesOnBy false h new = record {
      taken = l.taken;
      stretch = readies_leave l.taken v w l.first;
      spares = l.spares;
      nodes = nodes;
      uses = k.0.uses;
    } in
    let on_to_w = (makes_later v w l.first.own l.first.makes).grows in
    let grows = prefix_trans p.moment v.front w.front gone.there.until on_to_w in (
      goes_on_chain false old h new (helped_on false old h n helped) on,
      fell_since 1 w.number old.token.view.front p.moment w.front gone.there.since grows l.fell,
    )

-- tries that were lost, since the call began to add
pub record IsAdding (g : TableValue) (tries lost : ℕ) (old now : HandValue) : Type 0 where
  pub hand : IsHandOf g now
  pub on : GoesOnBy false old now
  pub left : lost < tries
  pub fell : Fell lost now.token.view.number old.token.view.front now.token.view.front

-- what a try came to, told from the first one
module _ (key tries lost : ℕ) (g : TableValue) (old now new : HandValue) (i : IsAdding g tries lost old now) where
  pub added_since : (m : TokenValue) → IsAdded key now new m → IsAdded key old new m
  added_since m a =
      let s = i.on.spares in
      record {
        carries = carries_less false (AddVertex key) (i.on.taken + may_take now.spare) (may_take old.spare) 0 0
            old.token.view new.token.view m.view.front s (omega arith)
            (carries_since false (AddVertex key) i.on.taken (may_take now.spare) 0 old.token.view now.token.view
            new.token.view m.view.front i.on.stretch a.carries);
        spare = a.spare;
        nodes = a.nodes;
        uses = a.uses ∙ i.on.uses;
      }

  pub on_since : GoesOnBy false now new → GoesOnBy false old new
  on_since h = goes_on_chain false old now new i.on h

  pub grows_since : IsPrefix old.token.view.front now.token.view.front
  grows_since = leaves_grows false i.on.taken 0 old.token.view now.token.view i.on.stretch

  pub full_since : (q : PositionValue) → IsFullAt key now new q → IsFullAt key old new q
  full_since q h = record {
    on = on_since h.on;
    gone = gone_earlier key old.token.view now.token.view new.token.view q grows_since h.gone;
    empty = h.empty;
    bare = h.bare;
  }

  pub fell_since_first : GoesOnBy false now new → Fell 1 new.token.view.number now.token.view.front new.token.view.front
      → Fell (lost + 1) new.token.view.number old.token.view.front new.token.view.front
  fell_since_first h f =
      let n = leaves_number false h.taken 0 now.token.view new.token.view h.stretch in
      fell_both lost 1 new.token.view.number old.token.view.front now.token.view.front new.token.view.front grows_since
      (leaves_grows false h.taken 0 now.token.view new.token.view h.stretch)
      (subst (λ (k : ℕ). Fell lost k old.token.view.front now.token.view.front) (sym n) i.fell) f

-- the nodes taken in a stretch, counted
pub leaves_made : (r : Bool) (a b : ℕ) (v w : View) → LeavesGraph r a b v w
    → made pops w.number w.front ≤ made pops v.number v.front + a
leaves_made r a b v w h =
    let n = makes_counts pops v w h.own h.makes in
    let t = h.takes in
    omega (arith, n, t)
