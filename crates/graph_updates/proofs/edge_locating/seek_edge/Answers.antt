use Rattle.std.proofs.Common.{◌≡◌, ℕ, [], List, ap, arith, sym, subst, ◌∙◌}
use Rattle.packed_link.specs.Layout.{Sizes}
use Rattle.packed_link.specs.declared.link.Life.{Life}
use Rattle.core_journal.specs.declared.event.Event.{Event}
use Rattle.core_journal.specs.Prefix.{IsPrefix}
use Rattle.core_journal.proofs.Lists.{prefix_trans}
use Rattle.core_rule.proofs.OwnStretch.{goes_opened}
use Rattle.core_rule.proofs.SpentSince.{spent_since_grows}
use Rattle.core_stretches.specs.Moments.{LacksEdge}
use Rattle.core_stretches.proofs.MakesAddUp.{makes_chain}
use Rattle.core_stretches.proofs.MakesTell.{makes_goes, makes_later}
use Rattle.graph_updates.proofs.EdgeSeekingSteps.{edge_goes, edge_helps, edge_moment_before, edge_room, edge_smaller}
use Rattle.graph_updates.proofs.EdgeSeekingSteps.{lost_edge_fell}
use Rattle.graph_updates.proofs.PartsLeave.{limbo_goes}
use Rattle.graph_updates.proofs.SeekingSteps.{helps_chain, helps_look, helps_pass}
use Rattle.graph_updates.proofs.edge_locating.seek_edge.Goals as goal

pub returns-in-Frozen-clause-helped : goal.returns-in-Frozen-clause-helped
returns-in-Frozen-clause-helped c = helps_look c.args.limbo.now c.args.token.now.view c.start.new.token.view
    c.requires.table.layout c.requires.limbo c.in-Frozen.ensures.makes

pub loop-seen-init : goal.loop-seen-init
loop-seen-init c =
    let v = c.args.token.now.view in
    let m = c.start.new.token.view in
    let s = c.in-At.ensures in
    record {
      of = s.table;
      helped = helps_look c.args.limbo.now v m c.requires.table.layout c.requires.limbo s.makes;
      position = s.started.position;
      source_is = s.started.source_is;
      key_is = s.started.key_is;
      since = subst (λ (j : List Event). IsPrefix v.front j) (sym s.started.moment) (makes_later v m [] s.makes).grows;
    }

pub walk-requires-clause-number : goal.walk-requires-clause-number
walk-requires-clause-number c =
    let i = c.loop-seen.invariant in
    (makes_later c.args.token.now.view c.loop-seen.token.view i.helped.only.own i.helped.only.makes).numbered
    ∙ c.requires.number

pub returns-in-Here-clause-helped : goal.returns-in-Here-clause-helped
returns-in-Here-clause-helped c =
    let v = c.args.token.now.view in
    let t = c.loop-seen.token.view in
    let i = c.loop-seen.invariant in
    let now = c.loop-seen.limbo in
    let u = c.walk.new.token.view in
    helps_chain c.args.limbo.now now now v t u i.helped
    (helps_look now t u i.of.layout i.helped.limbo c.in-Here.ensures.makes)

pub returns-in-Gone-clause-helped : goal.returns-in-Gone-clause-helped
returns-in-Gone-clause-helped c =
    let v = c.args.token.now.view in
    let t = c.loop-seen.token.view in
    let i = c.loop-seen.invariant in
    let now = c.loop-seen.limbo in
    let u = c.walk.new.token.view in
    helps_chain c.args.limbo.now now now v t u i.helped
    (helps_look now t u i.of.layout i.helped.limbo c.in-Gone.ensures.makes)

pub returns-in-Gone-clause-sought : goal.returns-in-Gone-clause-sought
returns-in-Gone-clause-sought c =
    let v = c.args.token.now.view in
    let i = c.loop-seen.invariant in
    let f = c.in-Gone.ensures.found in
    let at = c.in-Gone.gap.moment in
    record {
      source_is = f.source ∙ i.source_is;
      key_is = f.key ∙ i.key_is;
      gap = f.gap;
      there = record {
        since = prefix_trans v.front c.loop-seen.position.moment at i.since f.there.since;
        until = f.there.until;
        holds = subst (λ (k : ℕ). LacksEdge c.args.from k at) i.key_is
            (subst (λ (x : Life). LacksEdge x c.loop-seen.position.key at) i.source_is f.there.holds);
      };
    }

pub unlink-requires-clause-number : goal.unlink-requires-clause-number
unlink-requires-clause-number c =
    let i = c.loop-seen.invariant in
    (makes_later c.loop-seen.token.view c.walk.new.token.view [] c.in-Dead.ensures.makes).numbered
    ∙ ((makes_later c.args.token.now.view c.loop-seen.token.view i.helped.only.own i.helped.only.makes).numbered
    ∙ c.requires.number)

pub retire-requires-clause-number : goal.retire-requires-clause-number
retire-requires-clause-number c =
    let i = c.loop-seen.invariant in
    (makes_later c.walk.new.token.view c.unlink.new.token.view _ c.in-Done.ensures.unlinked.makes).numbered
    ∙ ((makes_later c.loop-seen.token.view c.walk.new.token.view [] c.in-Dead.ensures.makes).numbered
    ∙ ((makes_later c.args.token.now.view c.loop-seen.token.view i.helped.only.own i.helped.only.makes).numbered
    ∙ c.requires.number))

pub retire-requires-clause-room : goal.retire-requires-clause-room
retire-requires-clause-room c =
    let t = c.loop-seen.token.view in
    let i = c.loop-seen.invariant in
    let now = c.loop-seen.limbo in
    let u = c.walk.new.token.view in
    let lu = limbo_goes t u [] i.of.layout c.in-Dead.ensures.makes tt now i.helped.limbo in
    edge_room u c.unlink.new.token.view c.in-Dead.before c.in-Done.behind c.in-Done.spent now
    c.in-Dead.ensures.table.layout c.in-Done.ensures.unlinked lu

pub loop-seen-smaller : goal.loop-seen-smaller
loop-seen-smaller c =
    let v = c.args.token.now.view in
    let t = c.loop-seen.token.view in
    let i = c.loop-seen.invariant in
    let now = c.loop-seen.limbo in
    let u = c.walk.new.token.view in
    let zu = c.in-Dead.ensures.table.layout in
    let lu = limbo_goes t u [] i.of.layout c.in-Dead.ensures.makes tt now i.helped.limbo in
    let w = c.unlink.new.token.view in
    let cut = c.in-Done.ensures.unlinked in
    let y = c.retire.new.token.view in
    let r = c.retire.ensures in
    let opened_t = helps_pass v t c.requires.table.layout i.helped.only c.requires.pass in
    let look = makes_goes t u [] tt c.in-Dead.ensures.makes in
    let sizes_u : u.sizes ≡ t.sizes = (makes_later t u [] c.in-Dead.ensures.makes).sizes in
    let sizes_w : w.sizes ≡ u.sizes = (makes_later u w _ cut.makes).sizes in
    let sizes_y : y.sizes ≡ w.sizes = (makes_later w y [] r.makes).sizes in
    let same : u.sizes.nodes ≡ y.sizes.nodes = ap (λ (s : Sizes). s.nodes) (sym (sizes_y ∙ sizes_w)) in
    let fewer = edge_smaller u w c.in-Dead.before c.in-Done.behind c.in-Done.spent now zu cut lu y c.retire.new.self
    r.makes r.retired (goes_opened t u look opened_t) same in
    let grown = spent_since_grows t u i.of.layout look opened_t in
    let nodes : u.sizes.nodes ≡ t.sizes.nodes = ap (λ (s : Sizes). s.nodes) sizes_u in
    omega (arith, fewer, grown, nodes)

pub loop-seen-preserved : goal.loop-seen-preserved
loop-seen-preserved c =
    let v = c.args.token.now.view in
    let t = c.loop-seen.token.view in
    let i = c.loop-seen.invariant in
    let now = c.loop-seen.limbo in
    let old = c.args.limbo.now in
    let u = c.walk.new.token.view in
    let zu = c.in-Dead.ensures.table.layout in
    let lu = limbo_goes t u [] i.of.layout c.in-Dead.ensures.makes tt now i.helped.limbo in
    let w = c.unlink.new.token.view in
    let cut = c.in-Done.ensures.unlinked in
    let x = c.in-Done.spent in
    let p = c.in-Dead.before in
    let q = c.in-Done.behind in
    let y = c.retire.new.token.view in
    let new = c.retire.new.self in
    let r = c.retire.ensures in
    let f = c.in-Dead.ensures.found in
    record {
      of = r.table;
      helped = helps_chain old now new v u y
          (helps_chain old now now v t u i.helped
          (helps_look now t u i.of.layout i.helped.limbo c.in-Dead.ensures.makes))
          (edge_helps u w p q x now zu cut lu y new r.makes r.retired);
      position = edge_goes u w p q x now zu cut lu y new r.makes r.retired f.position;
      source_is = cut.source ∙ (f.source ∙ i.source_is);
      key_is = cut.key ∙ (f.key ∙ i.key_is);
      since = subst (λ (j : List Event). IsPrefix v.front j) (sym cut.moment)
          (prefix_trans v.front u.front w.front
          (prefix_trans v.front t.front u.front (makes_later v t i.helped.only.own i.helped.only.makes).grows
          (makes_later t u [] c.in-Dead.ensures.makes).grows)
          (makes_later u w _ cut.makes).grows);
    }

pub returns-in-Lost-clause-helped : goal.returns-in-Lost-clause-helped
returns-in-Lost-clause-helped c =
    let v = c.args.token.now.view in
    let t = c.loop-seen.token.view in
    let i = c.loop-seen.invariant in
    let now = c.loop-seen.limbo in
    let u = c.walk.new.token.view in
    let w = c.unlink.new.token.view in
    helps_chain c.args.limbo.now now now v t w i.helped (helps_look now t w i.of.layout i.helped.limbo
    (makes_chain t u w [] [] c.in-Dead.ensures.makes c.in-Lost.ensures.unlinked.makes))

pub returns-in-Lost-clause-sought : goal.returns-in-Lost-clause-sought
returns-in-Lost-clause-sought c =
    let v = c.args.token.now.view in
    let i = c.loop-seen.invariant in
    let u = c.walk.new.token.view in
    let w = c.unlink.new.token.view in
    let lost = c.in-Lost.ensures.unlinked in
    let f = c.in-Dead.ensures.found in
    let p = c.in-Dead.before in
    lost_edge_fell v w p u (prefix_trans v.front c.loop-seen.position.moment p.moment i.since f.since)
    (prefix_trans p.moment u.front w.front (edge_moment_before u p f.position) (makes_later u w [] lost.makes).grows)
    lost
