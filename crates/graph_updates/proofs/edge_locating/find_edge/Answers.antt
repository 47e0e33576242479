use Rattle.std.proofs.Common.{◌<◌, ◌≤◌, ℕ, true, length, sym, subst}
use Rattle.graph_updates.specs.contracts.hand.Hand.{the_view}
use Rattle.graph_updates.specs.Hands.{HandValue, IsHandOf}
use Rattle.graph_updates.specs.Parts.{HasHelped}
use Rattle.graph_updates.proofs.HandsHelp.{grown_retired, has_helped, helped_of, same_retired, with_parts}
use Rattle.graph_updates.proofs.edge_locating.find_edge.Goals as goal

pub returns-then-held-len-clause-hand : goal.returns-then-held-len-clause-hand
returns-then-held-len-clause-hand c =
    let h = the_view c.hand.inside in
    let g = c.args.table.now in
    let of : IsHandOf g h = subst (IsHandOf g) (sym c.hand.view_is) c.requires.hand in
    let t = c.seek_edge-sought.new.token in
    let limbo = c.seek_edge-sought.new.limbo in
    let s = c.seek_edge-sought.ensures in
    helped_of g h t limbo true of s.table s.helped

pub returns-then-held-len-clause-helped : goal.returns-then-held-len-clause-helped
returns-then-held-len-clause-helped c =
    let h = the_view c.hand.inside in
    let g = c.args.table.now in
    let of : IsHandOf g h = subst (IsHandOf g) (sym c.hand.view_is) c.requires.hand in
    let t = c.seek_edge-sought.new.token in
    let limbo = c.seek_edge-sought.new.limbo in
    let s = c.seek_edge-sought.ensures in
    let low : length h.limbo.nodes < length limbo.nodes = subst (λ (k : ℕ). k < length limbo.nodes)
    c.len-held.ensures.length (subst (λ (k : ℕ). c.len-held.result < k) c.len.ensures.length c.if-held-len.true) in
    let is = grown_retired h.retired (length h.limbo.nodes) (length limbo.nodes) low in
    subst (λ (k : HandValue). HasHelped k (with_parts h t limbo true)) c.hand.view_is
    (has_helped g h t limbo true of s.table s.helped is)

pub returns-else-held-len-clause-hand : goal.returns-else-held-len-clause-hand
returns-else-held-len-clause-hand c =
    let h = the_view c.hand.inside in
    let g = c.args.table.now in
    let of : IsHandOf g h = subst (IsHandOf g) (sym c.hand.view_is) c.requires.hand in
    let t = c.seek_edge-sought.new.token in
    let limbo = c.seek_edge-sought.new.limbo in
    let s = c.seek_edge-sought.ensures in
    helped_of g h t limbo c.hand.inside.retired of s.table s.helped

pub returns-else-held-len-clause-helped : goal.returns-else-held-len-clause-helped
returns-else-held-len-clause-helped c =
    let h = the_view c.hand.inside in
    let g = c.args.table.now in
    let of : IsHandOf g h = subst (IsHandOf g) (sym c.hand.view_is) c.requires.hand in
    let t = c.seek_edge-sought.new.token in
    let limbo = c.seek_edge-sought.new.limbo in
    let s = c.seek_edge-sought.ensures in
    let low : length limbo.nodes ≤ length h.limbo.nodes = subst (λ (k : ℕ). length limbo.nodes ≤ k)
    c.len-held.ensures.length (subst (λ (k : ℕ). k ≤ c.len-held.result) c.len.ensures.length c.if-held-len.false) in
    let is = same_retired h.retired (length h.limbo.nodes) (length limbo.nodes) low in
    subst (λ (k : HandValue). HasHelped k (with_parts h t limbo c.hand.inside.retired)) c.hand.view_is
    (has_helped g h t limbo c.hand.inside.retired of s.table s.helped is)
