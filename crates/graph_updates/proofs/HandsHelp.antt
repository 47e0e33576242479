-- A hand that helped: what every call asks of it holds still, it has its nodes, and it's in order if it was.
use Rattle.std.proofs.Common.{◌≡◌, ◌||◌, ℕ, ◌<◌, ◌≤◌, Bool, true, false}
use Rattle.std.proofs.Common.{length, ltb, refl, ap, ◌∙◌, arith}
use Rattle.graph_kinds.specs.History.{Every}
use Rattle.core_journal.specs.declared.event.Event.{Event}
use Rattle.core_journal.specs.declared.event.Kind.TheVariants.{PopFree}
use Rattle.core_rule.specs.Stretches.{is_of_fresh}
use Rattle.epoch_limbo.specs.Limbos.{LimboValue}
use Rattle.graph_table.specs.Tokens.{IsOf, TableValue, TokenValue}
use Rattle.graph_updates.specs.Hands.{HandValue, HasItsNodes, IsHandOf}
use Rattle.graph_updates.specs.Parts.{HasHelped, Helps, IsHelp}
use Rattle.graph_updates.proofs.PartsLeave.{each_kind, help_fresh, help_takes, other_goes, spare_goes, still_numbered}
use Rattle.graph_updates.proofs.PartsLeave.{still_there}
use Rattle.graph_updates.proofs.SeekingSteps.{helps_chain, helps_look}
use Rattle.core_stretches.proofs.MakesAddUp.{makes_self}

-- the hand with another token and limbo, that has retired nodes or not
abbrev pub with_parts : HandValue → TokenValue → LimboValue → Bool → HandValue
with_parts h t limbo r = record { token = t; limbo = limbo; spare = h.spare; uses = h.uses; retired = r }

module _ (g : TableValue) (h : HandValue) (t : TokenValue) (limbo : LimboValue) (r : Bool) (of : IsHandOf g h)
    (now : IsOf g t) (helped : Helps h.limbo limbo h.token.view t.view) where
  plain : Every (λ (e : Event). is_of_fresh e.kind ≡ false) helped.only.own
  plain = each_kind IsHelp (λ k. is_of_fresh k ≡ false) help_fresh helped.only.own helped.only.are

  pub helped_of : IsHandOf g (with_parts h t limbo r)
  helped_of =
      let v = h.token.view in
      let own = helped.only.own in
      let makes = helped.only.makes in
      record {
        of = now;
        numbered = still_numbered v t.view own of.of.layout makes of.numbered;
        there = still_there v t.view own of.of.layout makes of.there;
        limbo = helped.limbo;
        spare = spare_goes v t.view own of.of.layout makes plain h.spare of.spare;
      }

  pub helped_nodes : HasItsNodes h → HasItsNodes (with_parts h t limbo r)
  helped_nodes n =
      let v = h.token.view in
      record {
        spent = helped.all n.spent;
        fresh = other_goes v t.view helped.only.own of.of.layout helped.only.makes
            (each_kind IsHelp (λ k. k ≡ PopFree → ⊥) help_takes helped.only.own helped.only.are) plain h.spare of.spare
            n.fresh;
      }

  pub has_helped : r ≡ (h.retired || ltb (length h.limbo.nodes) (length limbo.nodes))
      → HasHelped h (with_parts h t limbo r)
  has_helped is = record {
    helped = helped;
    nodes = helped_nodes;
    spare = refl;
    uses = refl;
    retired = is;
  }

-- retired or not, where the limbo grew
pub grown_retired : (b : Bool) (m n : ℕ) → m < n → true ≡ (b || ltb m n)
grown_retired true m n low = refl
grown_retired false m n low = grind arith

pub same_retired : (b : Bool) (m n : ℕ) → n ≤ m → b ≡ (b || ltb m n)
same_retired true m n low = refl
same_retired false m n low = grind arith

-- a hand that did nothing
pub has_helped_none : (g : TableValue) (h : HandValue) → IsHandOf g h → HasHelped h h
has_helped_none g h of = record {
  helped = helps_look h.limbo h.token.view h.token.view of.of.layout of.limbo
      (makes_self h.token.view of.numbered of.of.sound);
  nodes = λ n. n;
  spare = refl;
  uses = refl;
  retired = same_retired h.retired (length h.limbo.nodes) (length h.limbo.nodes) (omega arith);
}

-- one part behind another
retired_chain : (r : Bool) (a b c : ℕ) → a ≤ b → b ≤ c → ((r || ltb a b) || ltb b c) ≡ (r || ltb a c)
retired_chain true a b c low high = refl
retired_chain false a b c low high = grind arith

pub has_helped_chain : (h k l : HandValue) → HasHelped h k → HasHelped k l → HasHelped h l
has_helped_chain h k l a b = record {
  helped = helps_chain h.limbo k.limbo l.limbo h.token.view k.token.view l.token.view a.helped b.helped;
  nodes = λ n. b.nodes (a.nodes n);
  spare = b.spare ∙ a.spare;
  uses = b.uses ∙ a.uses;
  retired = b.retired ∙ (ap (λ (r : Bool). r || ltb (length k.limbo.nodes) (length l.limbo.nodes)) a.retired
      ∙ retired_chain h.retired (length h.limbo.nodes) (length k.limbo.nodes) (length l.limbo.nodes) a.helped.more
      b.helped.more);
}
