use Rattle.std.proofs.Common.{◌≤◌, subst, sym}
use Rattle.packed_link.specs.Layout.{Sizes}
use Rattle.free_list_rounds.proofs.FirstRound.{entered}
use Rattle.free_list_rounds.proofs.worker.enter.Goals as goal

pub returns-clause-between : goal.returns-clause-between
returns-clause-between c = entered c.args.token.view c.draw_number.new.token.view c.draw_number.result
    c.draw_number.ensures.drew c.split_token-other.new.token c.args.limbo
    c.split_token-other.ensures.kept c.requires.empty c.requires.left
    (subst (λ (z : Sizes). z.nodes ≤ c.args.limbo.room) (sym c.requires.table.sizes) c.requires.room)
