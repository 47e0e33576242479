-- What locating a key tells, try by try.
use Rattle.std.proofs.Common.{◌≡◌, ℕ, ◌+◌, ◌-◌, ◌<◌, ◌≤◌, List, length, ◌∙◌, subst, arith, false}
use Rattle.core_journal.specs.declared.event.Event.{Event}
use Rattle.core_journal.specs.Prefix.{IsPrefix}
use Rattle.core_journal.proofs.ForeignAddsUp.{adds_up, longer_same}
use Rattle.core_journal.proofs.Lists.{prefix_length, prefix_trans}
use Rattle.core_rule.specs.Stretches.{HasPass}
use Rattle.core_rule.specs.declared.view.View.{View}
use Rattle.core_stretches.specs.Moments.{HoldsBetween}
use Rattle.core_stretches.proofs.MakesTell.{makes_later}
use Rattle.graph_table.specs.Tokens.{TableValue}
use Rattle.vertex_list.specs.Positions.{PositionValue}
use Rattle.vertex_list.specs.declared.walks.Sighting.{Sighting}
use Rattle.graph_updates.specs.Hands.{HandValue, IsHandOf, IsInOrder}
use Rattle.graph_updates.specs.Locating.{WasGone, WasHere}
use Rattle.graph_updates.specs.Parts.{Fell, HasHelped}
use Rattle.graph_updates.proofs.HandsStay.{due_open, order_goes}
use Rattle.graph_updates.proofs.PartsLeave.{helps_leave}
use Rattle.graph_updates.proofs.SeekingSteps.{helps_pass}

-- no foreign event has to fall
pub fell_none : (caller : ℕ) (old new : List Event) → Fell 0 caller old new
fell_none caller old new = record { least = omega arith }

-- those of two stretches that adjoin
pub fell_both : (m n caller : ℕ) (a b c : List Event) → IsPrefix a b → IsPrefix b c → Fell m caller a b
    → Fell n caller b c → Fell (m + n) caller a c
fell_both m n caller a b c p q f g =
    let low = prefix_length a b p in
    let high = prefix_length b c q in
    let sum = adds_up c caller (length a) (length b) (length c) low high in
    let same = longer_same b c q caller (length a) (length b) (omega arith) in
    let first = f.least in
    let second = g.least in
    record { least = omega (arith, sum, same, first, second) }

pub fell_as : (m n caller : ℕ) (a b : List Event) → n ≤ m → Fell m caller a b → Fell n caller a b
fell_as m n caller a b low f = let l = f.least in record { least = omega (arith, l, low) }

-- what was so since a view was so since an earlier one
pub between_earlier : (P : List Event → Type 0) (a b c at : List Event) → IsPrefix a b → HoldsBetween b c P at
    → HoldsBetween a c P at
between_earlier P a b c at p h = record { since = prefix_trans a b at p h.since; until = h.until; holds = h.holds }

-- and to a later one
pub between_later : (P : List Event → Type 0) (a b c at : List Event) → IsPrefix b c → HoldsBetween a b P at
    → HoldsBetween a c P at
between_later P a b c at p h = record { since = h.since; until = prefix_trans at b c h.until p; holds = h.holds }

pub here_earlier : (key : ℕ) (u v w : View) (s : Sighting) → IsPrefix u.front v.front → WasHere key v w s
    → WasHere key u w s
here_earlier key u v w s p h = record {
  met = h.met;
  there = between_earlier _ u.front v.front w.front s.moment.value.view.front p h.there;
}

pub gone_earlier : (key : ℕ) (u v w : View) (q : PositionValue) → IsPrefix u.front v.front → WasGone key v w q
    → WasGone key u w q
gone_earlier key u v w q p h = record {
  key_is = h.key_is;
  gap = h.gap;
  there = between_earlier _ u.front v.front w.front q.moment p h.there;
}

-- a hand that locates a key, since it began
pub record IsLocating (g : TableValue) (first tries lost : ℕ) (old now : HandValue) : Type 0 where
  pub hand : IsHandOf g now
  pub helped : HasHelped old now
  pub more : first ≤ lost
  pub left : lost < tries
  pub fell : Fell (lost - first) old.token.view.number old.token.view.front now.token.view.front

pub helped_grows : (old new : HandValue) → HasHelped old new → IsPrefix old.token.view.front new.token.view.front
helped_grows old new h = (makes_later old.token.view new.token.view h.helped.only.own h.helped.only.makes).grows

pub helped_number : (old new : HandValue) → HasHelped old new → new.token.view.number ≡ old.token.view.number
helped_number old new h = (makes_later old.token.view new.token.view h.helped.only.own h.helped.only.makes).number

-- a try that was lost is one more
pub fell_more : (first lost : ℕ) (old now new : HandValue) → first ≤ lost → HasHelped old now → HasHelped now new
    → Fell (lost - first) old.token.view.number old.token.view.front now.token.view.front
    → Fell 1 new.token.view.number now.token.view.front new.token.view.front
    → Fell (lost + 1 - first) old.token.view.number old.token.view.front new.token.view.front
fell_more first lost old now new low a b f one =
    let number : new.token.view.number ≡ old.token.view.number = helped_number now new b ∙ helped_number old now a in
    let one_here = subst (λ (n : ℕ). Fell 1 n now.token.view.front new.token.view.front) number one in
    let both = fell_both (lost - first) 1 old.token.view.number old.token.view.front now.token.view.front
    new.token.view.front (helped_grows old now a) (helped_grows now new b) f one_here in
    fell_as (lost - first + 1) (lost + 1 - first) old.token.view.number old.token.view.front new.token.view.front
    (omega (arith, low)) both

-- and one that wasn't leaves as many
pub fell_on : (n : ℕ) (old now new : HandValue) → HasHelped old now → HasHelped now new
    → Fell n old.token.view.number old.token.view.front now.token.view.front
    → Fell n old.token.view.number old.token.view.front new.token.view.front
fell_on n old now new a b f =
    fell_as (n + 0) n old.token.view.number old.token.view.front new.token.view.front (omega arith)
    (fell_both n 0 old.token.view.number old.token.view.front now.token.view.front new.token.view.front
    (helped_grows old now a) (helped_grows now new b) f
    (fell_none old.token.view.number now.token.view.front new.token.view.front))

-- a hand in order that helps in its pass is in order
pub order_helped : (g : TableValue) (old new : HandValue) → IsHandOf g old → HasPass old.token.view → HasHelped old new
    → IsInOrder old → IsInOrder new
order_helped g old new of opened h order =
    let v = old.token.view in
    let w = new.token.view in
    let due = due_open v opened in
    let due_new = due_open w (helps_pass v w of.of.layout h.helped.only opened) in
    let uses = h.uses in
    let most = order.uses in
    order_goes old new 0 0 of.of.layout (helps_leave false v w h.helped.only) (h.nodes order.nodes) (omega (
      arith,
      uses,
    ))
    (omega (arith, uses, due, due_new)) (omega (arith, uses, most)) order
