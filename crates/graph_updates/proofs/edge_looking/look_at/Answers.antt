use Rattle.graph_updates.specs.Pairs.{LacksPair}
use Rattle.graph_updates.proofs.CallsGo.{between_wide}
use Rattle.graph_updates.proofs.EndsTell.{met_helped}
use Rattle.graph_updates.proofs.HandsHelp.{has_helped_chain}
use Rattle.graph_updates.proofs.LocatingTells.{between_later, helped_grows}
use Rattle.graph_updates.proofs.PairsTell.{end_over, from_linked, lack_told, located_grows, pair_missing, pair_seen}
use Rattle.graph_updates.proofs.PairsTell.{pair_stale}
use Rattle.graph_updates.proofs.edge_looking.look_at.Goals as goal

pub check_ends-requires-clause-from : goal.check_ends-requires-clause-from
check_ends-requires-clause-from c = met_helped c.args.hand.now c.find_pair.new.hand c.requires.hand.of.layout
    c.find_pair.ensures.helped c.args.ends.from c.requires.from

pub check_ends-requires-clause-to : goal.check_ends-requires-clause-to
check_ends-requires-clause-to c = met_helped c.args.hand.now c.find_pair.new.hand c.requires.hand.of.layout
    c.find_pair.ensures.helped c.args.ends.to c.requires.to

pub lack_with-requires-clause-from : goal.lack_with-requires-clause-from
lack_with-requires-clause-from c = met_helped c.args.hand.now c.find_pair.new.hand c.requires.hand.of.layout
    c.find_pair.ensures.helped c.args.ends.from c.requires.from

pub lack_with-requires-clause-to : goal.lack_with-requires-clause-to
lack_with-requires-clause-to c = met_helped c.args.hand.now c.find_pair.new.hand c.requires.hand.of.layout
    c.find_pair.ensures.helped c.args.ends.to c.requires.to

pub lack_with-requires-in-Gone-clause-from : goal.lack_with-requires-in-Gone-clause-from
lack_with-requires-in-Gone-clause-from c = met_helped c.args.hand.now c.find_pair.new.hand c.requires.hand.of.layout
    c.find_pair.ensures.helped c.args.ends.from c.requires.from

pub lack_with-requires-in-Gone-clause-to : goal.lack_with-requires-in-Gone-clause-to
lack_with-requires-in-Gone-clause-to c = met_helped c.args.hand.now c.find_pair.new.hand c.requires.hand.of.layout
    c.find_pair.ensures.helped c.args.ends.to c.requires.to

pub returns-in-Both-clause-helped : goal.returns-in-Both-clause-helped
returns-in-Both-clause-helped c = has_helped_chain c.args.hand.now c.find_pair.new.hand c.check_ends.new.hand
    c.find_pair.ensures.helped c.check_ends.ensures.helped

pub returns-in-Over-check_ends-clause-helped : goal.returns-in-Over-check_ends-clause-helped
returns-in-Over-check_ends-clause-helped c = has_helped_chain c.args.hand.now c.find_pair.new.hand
    c.check_ends.new.hand c.find_pair.ensures.helped c.check_ends.ensures.helped

pub returns-in-Stale-clause-helped : goal.returns-in-Stale-clause-helped
returns-in-Stale-clause-helped c = has_helped_chain c.args.hand.now c.find_pair.new.hand c.lack_with.new.hand
    c.find_pair.ensures.helped c.lack_with.ensures.helped

pub returns-in-Gone-clause-helped : goal.returns-in-Gone-clause-helped
returns-in-Gone-clause-helped c = has_helped_chain c.args.hand.now c.find_pair.new.hand c.lack_with-in-Gone.new.hand
    c.find_pair.ensures.helped c.lack_with-in-Gone.ensures.helped

pub returns-in-Both-clause-looked : goal.returns-in-Both-clause-looked
returns-in-Both-clause-looked c = λ v a e.
    let m = c.args.hand.now.token.view in
    let w = c.find_pair.new.hand.token.view in
    let x = c.check_ends.new.hand.token.view in
    let ends = c.args.ends in
    let f = c.in-Edge.ensures.found in
    between_later _ m.front w.front x.front c.in-Edge.seen.moment.value.view.front
    (helped_grows c.find_pair.new.hand c.check_ends.new.hand c.check_ends.ensures.helped)
    (pair_seen a c.args.to m w ends (from_linked a c.args.to v m ends e) c.requires.key
    c.find_pair.ensures.hand.of.layout c.find_pair.ensures.hand.of.sound.kept c.in-Both.ensures.alive.0
    c.in-Both.ensures.alive.1 c.in-Edge.seen f.0 f.1)

pub returns-in-Over-check_ends-clause-looked : goal.returns-in-Over-check_ends-clause-looked
returns-in-Over-check_ends-clause-looked c = λ v a e.
    let m = c.args.hand.now.token.view in
    let x = c.check_ends.new.hand.token.view in
    let all = has_helped_chain c.args.hand.now c.find_pair.new.hand c.check_ends.new.hand c.find_pair.ensures.helped
    c.check_ends.ensures.helped in
    end_over a c.args.to v m x c.args.ends e (helped_grows c.args.hand.now c.check_ends.new.hand all)
    c.in-Over-check_ends.life c.in-Over-check_ends.ensures.alive.0 c.in-Over-check_ends.ensures.alive.1

pub returns-in-Over-clause-looked : goal.returns-in-Over-clause-looked
returns-in-Over-clause-looked c = λ v a e.
    let m = c.args.hand.now.token.view in
    let w = c.find_pair.new.hand.token.view in
    end_over a c.args.to v m w c.args.ends e
    (helped_grows c.args.hand.now c.find_pair.new.hand c.find_pair.ensures.helped) c.in-Over.life
    c.in-Over.ensures.found.0 c.in-Over.ensures.found.1

pub returns-in-Stale-clause-looked : goal.returns-in-Stale-clause-looked
returns-in-Stale-clause-looked c = λ v a e.
    let m = c.args.hand.now.token.view in
    let w = c.find_pair.new.hand.token.view in
    let x = c.lack_with.new.hand.token.view in
    let ends = c.args.ends in
    let f = c.in-Stale.ensures.found in
    let s = c.in-Stale.seen in
    let later = helped_grows c.find_pair.new.hand c.lack_with.new.hand c.lack_with.ensures.helped in
    let all = has_helped_chain c.args.hand.now c.find_pair.new.hand c.lack_with.new.hand c.find_pair.ensures.helped
    c.lack_with.ensures.helped in
    lack_told a c.args.to v m x ends e (helped_grows c.args.hand.now c.lack_with.new.hand all) w c.lack_with.result _
    c.lack_with.ensures.lack
    (λ from to. between_wide (LacksPair a c.args.to) (LacksPair a c.args.to) v.front m.front w.front x.front
    s.moment.value.view.front (λ j h. h) (located_grows a c.args.to v m ends e) later
    (pair_stale a c.args.to m w ends (from_linked a c.args.to v m ends e) c.requires.key
    c.find_pair.ensures.hand.of.layout c.find_pair.ensures.hand.of.sound.kept from to s f.0 f.1.0))

pub returns-in-Gone-clause-looked : goal.returns-in-Gone-clause-looked
returns-in-Gone-clause-looked c = λ v a e.
    let m = c.args.hand.now.token.view in
    let w = c.find_pair.new.hand.token.view in
    let x = c.lack_with-in-Gone.new.hand.token.view in
    let ends = c.args.ends in
    let q = c.in-Gone.gap in
    let later = helped_grows c.find_pair.new.hand c.lack_with-in-Gone.new.hand c.lack_with-in-Gone.ensures.helped in
    let all = has_helped_chain c.args.hand.now c.find_pair.new.hand c.lack_with-in-Gone.new.hand
    c.find_pair.ensures.helped c.lack_with-in-Gone.ensures.helped in
    lack_told a c.args.to v m x ends e (helped_grows c.args.hand.now c.lack_with-in-Gone.new.hand all) w
    c.lack_with-in-Gone.result _ c.lack_with-in-Gone.ensures.lack
    (λ from to. between_wide (LacksPair a c.args.to) (LacksPair a c.args.to) v.front m.front w.front x.front q.moment
    (λ j h. h) (located_grows a c.args.to v m ends e) later
    (pair_missing a c.args.to m w ends (from_linked a c.args.to v m ends e) c.requires.key
    c.find_pair.ensures.hand.of.layout c.find_pair.ensures.hand.of.sound.kept from to q c.in-Gone.ensures.found))
