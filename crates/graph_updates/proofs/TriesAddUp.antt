-- Tries of a call on a pair, one behind another: what they leave, what fell, and what the pair lacks.
use Rattle.std.proofs.Common.{◌≡◌, ℕ, ◌+◌, ◌-◌, ◌<◌, ◌≤◌, ◌&&◌, Bool, true, false, List, Some, length, take, arith}
use Rattle.std.proofs.Common.{ap, ◌∙◌, subst, sym}
use Rattle.std.specs.Prelude.{slice_get}
use Rattle.packed_link.specs.declared.link.Life.{Life}
use Rattle.core_journal.specs.declared.event.Event.{Event}
use Rattle.core_journal.specs.Event.{marks_vertex, same_life}
use Rattle.core_journal.specs.Life.{edge_marked, vertex_marked}
use Rattle.core_journal.specs.Marks.{IsCutOf}
use Rattle.core_journal.specs.Prefix.{IsPrefix}
use Rattle.core_journal.proofs.Lists.{any_more, get_front, get_short, prefix_length, take_front}
use Rattle.core_rule.specs.Stretches.{HasPass}
use Rattle.core_rule.specs.declared.view.View.{View}
use Rattle.core_stretches.specs.Moments.{Has}
use Rattle.graph_table.specs.Tokens.{TableValue}
use Rattle.graph_updates.specs.Hands.{HandValue, HasItsNodes, IsHandOf}
use Rattle.graph_updates.specs.Pairs.{IsPairCut, LacksEnd, LacksPair, MatchLack}
use Rattle.graph_updates.specs.Parts.{Fell, GoesOnBy}
use Rattle.graph_updates.specs.declared.pairs.Lack.{Lack}
use Rattle.graph_updates.specs.declared.pairs.Lack.TheVariants as lacks
use Rattle.graph_updates.proofs.AddingAddsUp.{goes_on_chain, goes_on_none, leaves_grows, leaves_number}
use Rattle.graph_updates.proofs.LocatingTells.{between_earlier, between_later, fell_as, fell_both, fell_none}

-- as many events of a longer journal, where there are so many
taken_same : (old new : List Event) → IsPrefix old new → (n : ℕ) → n ≤ length old → take n old ≡ take n new
taken_same old new p n low = sym (take_front old p.rest n low) ∙ ap (take n) p.whole

-- what a pair lacks since a view it lacks since an earlier one
pub lack_earlier : (a b : ℕ) (u v w : View) → IsPrefix u.front v.front → (l : Lack) → MatchLack l a b v w
    → MatchLack l a b u w
lack_earlier a b u v w p (lacks.Key q) h = between_earlier (LacksEnd a b) u.front v.front w.front q.moment p h
lack_earlier a b u v w p (lacks.Vertex x) h = record {
  key = h.key;
  key_is = h.key_is;
  at = h.at;
  there = between_earlier (Has h.key x) u.front v.front w.front h.at p h.there;
  marked = h.marked;
}
lack_earlier a b u v w p (lacks.Edge q) h = between_earlier (LacksPair a b) u.front v.front w.front q.moment p h
lack_earlier a b u v w p (lacks.Stale s) h =
    between_earlier (LacksPair a b) u.front v.front w.front s.moment.value.view.front p h
lack_earlier a b u v w p (lacks.Marked x) h =
    let low = prefix_length u.front v.front p in
    let since = h.since in
    record { number = h.number; since = omega (arith, low, since); cut = h.cut; lacks = h.lacks }

-- the first mark of an edge is that in a longer journal too
cut_later : (old new : List Event) → IsPrefix old new → (x : Life) (n : ℕ) → IsCutOf old x n → IsCutOf new x n
cut_later old new p x n h =
    let short = get_short old n h.event h.at in
    record {
      event = h.event;
      at = subst (λ (l : List Event). slice_get l n ≡ Some h.event) p.whole (get_front old p.rest n h.event h.at);
      cuts = h.cuts;
      life = h.life;
      uncut = subst (λ (l : List Event). edge_marked l x ≡ false) (taken_same old new p n (omega (arith, short)))
          h.uncut;
    }

-- an edge that was marked, with its place, by a later view
pub pair_cut_later : (a b : ℕ) (v w x : View) (y : Life) → IsPrefix w.front x.front → IsPairCut a b v w y
    → IsPairCut a b v x y
pair_cut_later a b v w x y p h =
    let short = get_short w.front h.number h.cut.event h.cut.at in
    record {
      number = h.number;
      since = h.since;
      cut = cut_later w.front x.front p y h.number h.cut;
      lacks = subst (LacksPair a b) (taken_same w.front x.front p (h.number + 1) (omega (arith, short))) h.lacks;
    }

-- and what it lacks by a view it lacks by a later one
pub lack_later : (a b : ℕ) (v w x : View) → IsPrefix w.front x.front → (l : Lack) → MatchLack l a b v w
    → MatchLack l a b v x
lack_later a b v w x p (lacks.Key q) h = between_later (LacksEnd a b) v.front w.front x.front q.moment p h
lack_later a b v w x p (lacks.Vertex y) h = record {
  key = h.key;
  key_is = h.key_is;
  at = h.at;
  there = between_later (Has h.key y) v.front w.front x.front h.at p h.there;
  marked = subst (λ (j : List Event). vertex_marked j y ≡ true) p.whole
      (any_more (λ (e : Event). marks_vertex e.kind && same_life y e.life) w.front p.rest h.marked);
}
lack_later a b v w x p (lacks.Edge q) h = between_later (LacksPair a b) v.front w.front x.front q.moment p h
lack_later a b v w x p (lacks.Stale s) h =
    between_later (LacksPair a b) v.front w.front x.front s.moment.value.view.front p h
lack_later a b v w x p (lacks.Marked y) h = pair_cut_later a b v w x y p h

-- so many tries were lost since a call began to try
pub record IsTrying (r : Bool) (g : TableValue) (tries lost : ℕ) (old now : HandValue) : Type 0 where
  pub hand : IsHandOf g now
  pub pass : HasPass now.token.view
  pub on : GoesOnBy r old now
  pub left : lost < tries
  pub fell : Fell lost now.token.view.number old.token.view.front now.token.view.front

pub trying_none : (r : Bool) (g : TableValue) (tries : ℕ) (h : HandValue) → IsHandOf g h → HasPass h.token.view
    → HasItsNodes h → 0 < tries → IsTrying r g tries 0 h h
trying_none r g tries h of pass nodes some = record {
  hand = of;
  pass = pass;
  on = goes_on_none r g h of nodes;
  left = some;
  fell = fell_none h.token.view.number h.token.view.front h.token.view.front;
}

-- one try more
module _ (r : Bool) (g : TableValue) (tries lost : ℕ) (old now new : HandValue) (i : IsTrying r g tries lost old now)
  where
    pub trying_grows : IsPrefix old.token.view.front now.token.view.front
    trying_grows = leaves_grows r i.on.taken 0 old.token.view now.token.view i.on.stretch

    pub trying_on : GoesOnBy r now new → GoesOnBy r old new
    trying_on h = goes_on_chain r old now new i.on h

    pub trying_fell : (more : ℕ) → lost ≤ more → GoesOnBy r now new
        → Fell (more - lost) now.token.view.number now.token.view.front new.token.view.front
        → Fell more new.token.view.number old.token.view.front new.token.view.front
    trying_fell more low h f =
        let v = old.token.view in
        let m = now.token.view in
        let w = new.token.view in
        let later = leaves_grows r h.taken 0 m w h.stretch in
        subst (λ (n : ℕ). Fell more n v.front w.front) (sym (leaves_number r h.taken 0 m w h.stretch))
        (fell_as (lost + (more - lost)) more m.number v.front w.front (omega (arith, low))
        (fell_both lost (more - lost) m.number v.front m.front w.front trying_grows later i.fell f))
