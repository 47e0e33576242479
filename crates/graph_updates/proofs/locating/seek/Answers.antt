use Rattle.std.proofs.Common.{◌≡◌, ℕ, false, [], List, ap, arith, sym, subst, ◌∙◌}
use Rattle.packed_link.specs.Layout.{Sizes}
use Rattle.core_journal.specs.declared.event.Event.{Event}
use Rattle.core_journal.specs.Prefix.{IsPrefix}
use Rattle.core_journal.proofs.Lists.{prefix_trans}
use Rattle.core_rule.proofs.OwnStretch.{goes_opened}
use Rattle.core_rule.proofs.SpentSince.{spent_since_grows}
use Rattle.core_stretches.specs.Moments.{Lacks}
use Rattle.core_stretches.proofs.MakesAddUp.{makes_chain}
use Rattle.core_stretches.proofs.MakesTell.{makes_goes, makes_later}
use Rattle.graph_updates.proofs.PartsLeave.{limbo_goes}
use Rattle.graph_updates.proofs.SeekingSteps.{bury_position, cleared_helps, cleared_smaller, helps_chain, helps_look}
use Rattle.graph_updates.proofs.SeekingSteps.{helps_pass, lost_fell, moment_before, unlink_cuts}
use Rattle.graph_updates.proofs.locating.seek.Goals as goal

pub loop-seen-init : goal.loop-seen-init
loop-seen-init c =
    let v = c.args.token.now.view in
    let m = c.start-position.new.token.view in
    let s = c.start-position.ensures in
    record {
      of = s.table;
      helped = helps_look c.args.limbo.now v m c.requires.table.layout c.requires.limbo s.makes;
      position = s.position;
      key_is = s.key;
      since = subst (λ (j : List Event). IsPrefix v.front j) (sym s.moment) (makes_later v m [] s.makes).grows;
    }

pub walk-requires-clause-number : goal.walk-requires-clause-number
walk-requires-clause-number c =
    let v = c.args.token.now.view in
    let t = c.loop-seen.token.view in
    let i = c.loop-seen.invariant in
    let now = c.loop-seen.limbo in
    let old = c.args.limbo.now in
    (makes_later v t i.helped.only.own i.helped.only.makes).numbered ∙ c.requires.number

pub returns-in-Here-clause-helped : goal.returns-in-Here-clause-helped
returns-in-Here-clause-helped c =
    let v = c.args.token.now.view in
    let t = c.loop-seen.token.view in
    let i = c.loop-seen.invariant in
    let now = c.loop-seen.limbo in
    let old = c.args.limbo.now in
    let u = c.walk.new.token.view in
    helps_chain old now now v t u i.helped (helps_look now t u i.of.layout i.helped.limbo c.in-Here.ensures.makes)

pub returns-in-Gone-clause-helped : goal.returns-in-Gone-clause-helped
returns-in-Gone-clause-helped c =
    let v = c.args.token.now.view in
    let t = c.loop-seen.token.view in
    let i = c.loop-seen.invariant in
    let now = c.loop-seen.limbo in
    let old = c.args.limbo.now in
    let u = c.walk.new.token.view in
    helps_chain old now now v t u i.helped (helps_look now t u i.of.layout i.helped.limbo c.in-Gone.ensures.makes)

pub returns-in-Gone-clause-sought : goal.returns-in-Gone-clause-sought
returns-in-Gone-clause-sought c =
    let v = c.args.token.now.view in
    let t = c.loop-seen.token.view in
    let i = c.loop-seen.invariant in
    let now = c.loop-seen.limbo in
    let old = c.args.limbo.now in
    let u = c.walk.new.token.view in
    let f = c.in-Gone.ensures.found in
    record {
      key_is = f.key ∙ i.key_is;
      gap = f.gap;
      there = record {
        since = prefix_trans v.front c.loop-seen.position.moment c.in-Gone.gap.moment i.since f.there.since;
        until = f.there.until;
        holds = subst (λ (k : ℕ). Lacks k c.in-Gone.gap.moment) i.key_is f.there.holds;
      };
    }

pub unlink-requires-clause-number : goal.unlink-requires-clause-number
unlink-requires-clause-number c =
    let v = c.args.token.now.view in
    let t = c.loop-seen.token.view in
    let i = c.loop-seen.invariant in
    let now = c.loop-seen.limbo in
    let old = c.args.limbo.now in
    let u = c.walk.new.token.view in
    (makes_later t u [] c.in-Dead.ensures.makes).numbered
    ∙ ((makes_later v t i.helped.only.own i.helped.only.makes).numbered ∙ c.requires.number)

pub bury-requires-clause-number : goal.bury-requires-clause-number
bury-requires-clause-number c =
    let v = c.args.token.now.view in
    let t = c.loop-seen.token.view in
    let i = c.loop-seen.invariant in
    let now = c.loop-seen.limbo in
    let old = c.args.limbo.now in
    let u = c.walk.new.token.view in
    let zu = c.in-Dead.ensures.table.layout in
    let lu = limbo_goes t u [] i.of.layout c.in-Dead.ensures.makes tt now i.helped.limbo in
    let w = c.unlink.new.token.view in
    let cut = c.in-Done.ensures.unlinked in
    let x = c.in-Done.spent in
    let p = c.in-Dead.before in
    let q = c.in-Done.behind in
    (makes_later u w _ cut.makes).numbered ∙ ((makes_later t u [] c.in-Dead.ensures.makes).numbered
    ∙ ((makes_later v t i.helped.only.own i.helped.only.makes).numbered ∙ c.requires.number))

pub bury-requires-clause-vertex : goal.bury-requires-clause-vertex
bury-requires-clause-vertex c =
    let v = c.args.token.now.view in
    let t = c.loop-seen.token.view in
    let i = c.loop-seen.invariant in
    let now = c.loop-seen.limbo in
    let old = c.args.limbo.now in
    let u = c.walk.new.token.view in
    let zu = c.in-Dead.ensures.table.layout in
    let lu = limbo_goes t u [] i.of.layout c.in-Dead.ensures.makes tt now i.helped.limbo in
    let w = c.unlink.new.token.view in
    let cut = c.in-Done.ensures.unlinked in
    let x = c.in-Done.spent in
    let p = c.in-Dead.before in
    let q = c.in-Done.behind in
    unlink_cuts u w p q x zu cut now lu

pub loop-seen-smaller : goal.loop-seen-smaller
loop-seen-smaller c =
    let v = c.args.token.now.view in
    let t = c.loop-seen.token.view in
    let i = c.loop-seen.invariant in
    let now = c.loop-seen.limbo in
    let old = c.args.limbo.now in
    let u = c.walk.new.token.view in
    let zu = c.in-Dead.ensures.table.layout in
    let lu = limbo_goes t u [] i.of.layout c.in-Dead.ensures.makes tt now i.helped.limbo in
    let w = c.unlink.new.token.view in
    let cut = c.in-Done.ensures.unlinked in
    let x = c.in-Done.spent in
    let p = c.in-Dead.before in
    let q = c.in-Done.behind in
    let y = c.bury.new.token.view in
    let new = c.bury.new.limbo in
    let b = c.bury.ensures.buried in
    let opened_t = helps_pass v t c.requires.table.layout i.helped.only c.requires.pass in
    let opened_u = goes_opened t u (makes_goes t u [] tt c.in-Dead.ensures.makes) opened_t in
    let sizes_u : u.sizes ≡ t.sizes = (makes_later t u [] c.in-Dead.ensures.makes).sizes in
    let sizes_w : w.sizes ≡ u.sizes = (makes_later u w _ cut.makes).sizes in
    let sizes_y : y.sizes ≡ w.sizes = (makes_later w y b.own b.makes).sizes in
    let same : u.sizes.nodes ≡ y.sizes.nodes = ap (λ (s : Sizes). s.nodes) (sym (sizes_y ∙ sizes_w)) in
    let fewer = cleared_smaller u w y p q x now new zu cut b opened_u same in
    let grown = spent_since_grows t u i.of.layout (makes_goes t u [] tt c.in-Dead.ensures.makes) opened_t in
    let nodes : u.sizes.nodes ≡ t.sizes.nodes = ap (λ (s : Sizes). s.nodes) sizes_u in
    omega (arith, fewer, grown, nodes)

pub loop-seen-preserved : goal.loop-seen-preserved
loop-seen-preserved c =
    let v = c.args.token.now.view in
    let t = c.loop-seen.token.view in
    let i = c.loop-seen.invariant in
    let now = c.loop-seen.limbo in
    let old = c.args.limbo.now in
    let u = c.walk.new.token.view in
    let zu = c.in-Dead.ensures.table.layout in
    let lu = limbo_goes t u [] i.of.layout c.in-Dead.ensures.makes tt now i.helped.limbo in
    let w = c.unlink.new.token.view in
    let cut = c.in-Done.ensures.unlinked in
    let x = c.in-Done.spent in
    let p = c.in-Dead.before in
    let q = c.in-Done.behind in
    let y = c.bury.new.token.view in
    let new = c.bury.new.limbo in
    let b = c.bury.ensures.buried in
    let more = helps_chain old now new v u y
    (helps_chain old now now v t u i.helped (helps_look now t u i.of.layout i.helped.limbo c.in-Dead.ensures.makes))
    (cleared_helps u w y p q x now new zu cut b lu) in
    let f = c.in-Dead.ensures.found in
    record {
      of = c.bury.ensures.table;
      helped = more;
      position = bury_position now new w y x c.in-Done.ensures.table.layout b q (cut.position false f.position);
      key_is = cut.key ∙ (f.key ∙ i.key_is);
      since = subst (λ (j : List Event). IsPrefix v.front j) (sym cut.moment)
          (prefix_trans v.front u.front w.front
          (prefix_trans v.front t.front u.front (makes_later v t i.helped.only.own i.helped.only.makes).grows
          (makes_later t u [] c.in-Dead.ensures.makes).grows)
          (makes_later u w _ cut.makes).grows);
    }

pub returns-in-Lost-clause-helped : goal.returns-in-Lost-clause-helped
returns-in-Lost-clause-helped c =
    let v = c.args.token.now.view in
    let t = c.loop-seen.token.view in
    let i = c.loop-seen.invariant in
    let now = c.loop-seen.limbo in
    let old = c.args.limbo.now in
    let u = c.walk.new.token.view in
    let zu = c.in-Dead.ensures.table.layout in
    let lu = limbo_goes t u [] i.of.layout c.in-Dead.ensures.makes tt now i.helped.limbo in
    let w = c.unlink.new.token.view in
    let lost = c.in-Lost.ensures.unlinked in
    helps_chain old now now v t w i.helped (helps_look now t w i.of.layout i.helped.limbo
    (makes_chain t u w [] [] c.in-Dead.ensures.makes lost.makes))

pub returns-in-Lost-clause-sought : goal.returns-in-Lost-clause-sought
returns-in-Lost-clause-sought c =
    let v = c.args.token.now.view in
    let t = c.loop-seen.token.view in
    let i = c.loop-seen.invariant in
    let now = c.loop-seen.limbo in
    let old = c.args.limbo.now in
    let u = c.walk.new.token.view in
    let zu = c.in-Dead.ensures.table.layout in
    let lu = limbo_goes t u [] i.of.layout c.in-Dead.ensures.makes tt now i.helped.limbo in
    let w = c.unlink.new.token.view in
    let lost = c.in-Lost.ensures.unlinked in
    let f = c.in-Dead.ensures.found in
    let p = c.in-Dead.before in
    lost_fell v w p u (prefix_trans v.front c.loop-seen.position.moment p.moment i.since f.since)
    (prefix_trans p.moment u.front w.front (moment_before u p f.position) (makes_later u w [] lost.makes).grows) lost
