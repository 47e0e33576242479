use Rattle.table_calls.proofs.every_kind.nodes_are_given_back.Goals as goal

pub store_ripe-requires-clause-retired : goal.store_ripe-requires-clause-retired
store_ripe-requires-clause-retired g c =
    let x = c.retire-ripe.result.life in
    let stamp = c.retire-ripe.result.stamp in
    let closed = c.close_pass.ensures.keeps.each x stamp c.retire-ripe.ensures.retired in
    let checked = c.check_callers.ensures.keeps.each x stamp closed in
    let moved = c.move_on.ensures.keeps.each x stamp checked in
    let again = c.check_callers-3.ensures.keeps.each x stamp moved in
    c.move_on-3.ensures.keeps.each x stamp again

pub store_ripe-requires-2-clause-retired : goal.store_ripe-requires-2-clause-retired
store_ripe-requires-2-clause-retired g c =
    let x = c.retire-ripe_too.result.life in
    let stamp = c.retire-ripe_too.result.stamp in
    let closed = c.close_pass-2.ensures.keeps.each x stamp c.retire-ripe_too.ensures.retired in
    let checked = c.check_callers-2.ensures.keeps.each x stamp closed in
    c.move_on-2.ensures.keeps.each x stamp checked
