use Rattle.std.proofs.Common.{subst}
use Rattle.vertex_calls.specs.Causes.{IsWalked}
use Rattle.vertex_list.specs.declared.walks.Found.{Found}
use Rattle.scan_rows.proofs.RootsFound.{root_found}
use Rattle.scan_rows.proofs.looking.find_root.Goals as goal

pub returns-in-Here-clause-found : goal.returns-in-Here-clause-found
returns-in-Here-clause-found c =
    let walked = subst (λ (r : Found). IsWalked c.args.key r c.args.token.now.view c.look_for.new.token.view)
    c.in-Here.is c.look_for.ensures.walked in
    root_found c.args.table.now c.args.token.now c.look_for.new.token c.args.key c.in-Here.sighting c.requires.table
    c.look_for.ensures.table c.requires.number c.requires.pass walked.makes walked
