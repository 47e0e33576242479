use Rattle.std.proofs.Common.{◌≡◌, ap, ◌∙◌}
use Rattle.core_journal.proofs.Lists.{prefix_trans}
use Rattle.core_rule.proofs.ViewShows.{vertex_still}
use Rattle.graph_table.specs.Tokens.{TokenValue}
use Rattle.graph_updates.specs.Hands.{HandValue}
use Rattle.graph_updates.proofs.EdgeRemovingTells.{over_either, replaced_lost, since_then, was_lacking, won_overtaken}
use Rattle.graph_updates.proofs.EdgeRemovingTells.{won_removed}
use Rattle.graph_updates.proofs.EndsTell.{met_helped}
use Rattle.graph_updates.proofs.HandsHelp.{has_helped_chain}
use Rattle.graph_updates.proofs.LocatingTells.{helped_grows}
use Rattle.graph_updates.proofs.SeekingSteps.{helps_pass}
use Rattle.graph_updates.proofs.edge_removing.mark_pair.Goals as goal

pub check_ends-alive-requires-clause-from : goal.check_ends-alive-requires-clause-from
check_ends-alive-requires-clause-from c = vertex_still c.args.hand.now.token.view c.mark_once.new.hand.token.view
    c.requires.hand.of.layout c.in-Won.ensures.goes c.args.ends.from c.requires.from

pub check_ends-alive-requires-clause-to : goal.check_ends-alive-requires-clause-to
check_ends-alive-requires-clause-to c = vertex_still c.args.hand.now.token.view c.mark_once.new.hand.token.view
    c.requires.hand.of.layout c.in-Won.ensures.goes c.args.ends.to c.requires.to

pub find_edge-requires-clause-pass : goal.find_edge-requires-clause-pass
find_edge-requires-clause-pass c = helps_pass c.mark_once.new.hand.token.view c.check_ends-alive.new.hand.token.view
    c.in-Won.ensures.hand.of.layout c.check_ends-alive.ensures.helped.helped.only c.in-Won.ensures.pass

pub find_edge-requires-clause-from : goal.find_edge-requires-clause-from
find_edge-requires-clause-from c = met_helped c.mark_once.new.hand c.check_ends-alive.new.hand
    c.in-Won.ensures.hand.of.layout c.check_ends-alive.ensures.helped c.args.ends.from
    (vertex_still c.args.hand.now.token.view c.mark_once.new.hand.token.view c.requires.hand.of.layout
    c.in-Won.ensures.goes c.args.ends.from c.requires.from)

pub lack_with-requires-clause-from : goal.lack_with-requires-clause-from
lack_with-requires-clause-from c = vertex_still c.args.hand.now.token.view c.mark_once.new.hand.token.view
    c.requires.hand.of.layout c.in-Was.ensures.goes c.args.ends.from c.requires.from

pub lack_with-requires-clause-to : goal.lack_with-requires-clause-to
lack_with-requires-clause-to c = vertex_still c.args.hand.now.token.view c.mark_once.new.hand.token.view
    c.requires.hand.of.layout c.in-Was.ensures.goes c.args.ends.to c.requires.to

pub returns-in-Both-clause-pass : goal.returns-in-Both-clause-pass
returns-in-Both-clause-pass c =
    let k = c.mark_once.new.hand in
    let l = c.check_ends-alive.new.hand in
    let n = c.find_edge.new.hand in
    let all = has_helped_chain k l n c.check_ends-alive.ensures.helped c.find_edge.ensures.helped in
    helps_pass k.token.view n.token.view c.in-Won.ensures.hand.of.layout all.helped.only c.in-Won.ensures.pass

pub returns-in-Both-clause-raised : goal.returns-in-Both-clause-raised
returns-in-Both-clause-raised c =
    let k = c.mark_once.new.hand in
    let l = c.check_ends-alive.new.hand in
    let n = c.find_edge.new.hand in
    let all = has_helped_chain k l n c.check_ends-alive.ensures.helped c.find_edge.ensures.helped in
    since_then c.args.ends.from c.args.seen.now.moment.value.view.front c.args.hand.now k n c.in-Won.ensures.raised all

pub returns-in-Both-clause-marked : goal.returns-in-Both-clause-marked
returns-in-Both-clause-marked c = λ old a b q.
    let h = c.args.hand.now in
    let k = c.mark_once.new.hand in
    let l = c.check_ends-alive.new.hand in
    let n = c.find_edge.new.hand in
    let e = c.in-Won.ensures in
    let all = has_helped_chain k l n c.check_ends-alive.ensures.helped c.find_edge.ensures.helped in
    let at : c.of-moment.result.value.view.front ≡ k.token.view.front = ap (λ (t : TokenValue). t.view.front)
    c.of-moment.ensures ∙ ap (λ (o : HandValue). o.token.view.front) c.hand.view_is in
    won_removed a b c.args.ends c.args.seen.now old h q k e.goes.grows e.hand.of.layout e.hand.of.sound.kept e.marked n
    all
    (all.nodes e.nodes) c.of-moment.result.value at c.in-Both.ensures.alive.0 c.in-Both.ensures.alive.1

pub returns-in-Over-clause-pass : goal.returns-in-Over-clause-pass
returns-in-Over-clause-pass c =
    let k = c.mark_once.new.hand in
    let l = c.check_ends-alive.new.hand in
    let n = c.find_edge.new.hand in
    let all = has_helped_chain k l n c.check_ends-alive.ensures.helped c.find_edge.ensures.helped in
    helps_pass k.token.view n.token.view c.in-Won.ensures.hand.of.layout all.helped.only c.in-Won.ensures.pass

pub returns-in-Over-clause-raised : goal.returns-in-Over-clause-raised
returns-in-Over-clause-raised c =
    let k = c.mark_once.new.hand in
    let l = c.check_ends-alive.new.hand in
    let n = c.find_edge.new.hand in
    let all = has_helped_chain k l n c.check_ends-alive.ensures.helped c.find_edge.ensures.helped in
    since_then c.args.ends.from c.args.seen.now.moment.value.view.front c.args.hand.now k n c.in-Won.ensures.raised all

pub returns-in-Over-clause-marked : goal.returns-in-Over-clause-marked
returns-in-Over-clause-marked c = λ old a b q.
    let h = c.args.hand.now in
    let k = c.mark_once.new.hand in
    let l = c.check_ends-alive.new.hand in
    let n = c.find_edge.new.hand in
    let e = c.in-Won.ensures in
    let all = has_helped_chain k l n c.check_ends-alive.ensures.helped c.find_edge.ensures.helped in
    let at : c.of-moment.result.value.view.front ≡ k.token.view.front = ap (λ (t : TokenValue). t.view.front)
    c.of-moment.ensures ∙ ap (λ (o : HandValue). o.token.view.front) c.hand.view_is in
    won_overtaken a b c.args.ends c.args.seen.now old h q k e.goes.grows e.hand.of.layout e.hand.of.sound.kept e.marked
    n
    all (all.nodes e.nodes) c.of-moment.result.value at
    (over_either c.args.ends c.in-Over.field-0 l.token.view n.token.view (helped_grows l n c.find_edge.ensures.helped)
    c.in-Over.ensures.alive)

pub returns-in-Was-clause-pass : goal.returns-in-Was-clause-pass
returns-in-Was-clause-pass c = helps_pass c.mark_once.new.hand.token.view c.lack_with.new.hand.token.view
    c.in-Was.ensures.hand.of.layout c.lack_with.ensures.helped.helped.only c.in-Was.ensures.pass

pub returns-in-Was-clause-raised : goal.returns-in-Was-clause-raised
returns-in-Was-clause-raised c = since_then c.args.ends.from c.args.seen.now.moment.value.view.front c.args.hand.now
    c.mark_once.new.hand c.lack_with.new.hand c.in-Was.ensures.raised c.lack_with.ensures.helped

pub returns-in-Was-clause-marked : goal.returns-in-Was-clause-marked
returns-in-Was-clause-marked c = λ old a b q.
    let h = c.args.hand.now in
    let k = c.mark_once.new.hand in
    let e = c.in-Was.ensures in
    was_lacking a b c.args.ends c.args.seen.now old h q k e.goes.grows e.hand.of.layout e.hand.of.sound.kept e.marked
    c.lack_with.new.hand c.lack_with.ensures.helped c.lack_with.result c.lack_with.ensures.lack

pub returns-in-Replaced-clause-marked : goal.returns-in-Replaced-clause-marked
returns-in-Replaced-clause-marked c = λ old a b q.
    let h = c.args.hand.now in
    let k = c.mark_once.new.hand in
    let e = c.in-Replaced.ensures in
    replaced_lost a b c.args.ends c.args.seen.now old h q k e.goes.grows e.hand.of.layout e.hand.of.sound.kept
    e.marked.0
    e.marked.1

pub returns-in-Both-clause-grows : goal.returns-in-Both-clause-grows
returns-in-Both-clause-grows c =
    let k = c.mark_once.new.hand in
    let l = c.check_ends-alive.new.hand in
    let n = c.find_edge.new.hand in
    let all = has_helped_chain k l n c.check_ends-alive.ensures.helped c.find_edge.ensures.helped in
    prefix_trans c.args.hand.now.token.view.front k.token.view.front n.token.view.front c.in-Won.ensures.goes.grows
    (helped_grows k n all)

pub returns-in-Over-clause-grows : goal.returns-in-Over-clause-grows
returns-in-Over-clause-grows c =
    let k = c.mark_once.new.hand in
    let l = c.check_ends-alive.new.hand in
    let n = c.find_edge.new.hand in
    let all = has_helped_chain k l n c.check_ends-alive.ensures.helped c.find_edge.ensures.helped in
    prefix_trans c.args.hand.now.token.view.front k.token.view.front n.token.view.front c.in-Won.ensures.goes.grows
    (helped_grows k n all)

pub returns-in-Was-clause-grows : goal.returns-in-Was-clause-grows
returns-in-Was-clause-grows c =
    let k = c.mark_once.new.hand in
    let n = c.lack_with.new.hand in
    prefix_trans c.args.hand.now.token.view.front k.token.view.front n.token.view.front c.in-Was.ensures.goes.grows
    (helped_grows k n c.lack_with.ensures.helped)
