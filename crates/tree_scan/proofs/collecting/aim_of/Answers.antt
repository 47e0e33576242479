use Rattle.std.proofs.Common.{rules, arith, ◌≡◌, []}
use Rattle.packed_link.specs.Link.{mark_of}
use Rattle.core_stretches.proofs.MakesTell.{makes_goes}
use Rattle.tree_scan.proofs.TargetsLoaded.{rows_later}
use Rattle.tree_scan.proofs.collecting.aim_of.Goals as goal

pub returns-then-not-marked-clause-aim : goal.returns-then-not-marked-clause-aim
returns-then-not-marked-clause-aim c =
    let live : mark_of c.args.edge.row.link ≡ 0 = search rules in
    let t = c.target_row.ensures.target in
    record {
      pushed = t.pushed;
      seen = record {
        row = λ n is. let r = t.is n is in (r.0, r.1, live);
        over = λ none _. t.over none;
      };
      unreplaced = λ f. omega (arith, f.marked, live);
    }

pub returns-then-leads_to_its_key-clause-met : goal.returns-then-leads_to_its_key-clause-met
returns-then-leads_to_its_key-clause-met c = λ start at steps e. rows_later c.args.token.now.view
    c.leads_to_its_key.new.token.view c.requires.table.layout
    (makes_goes c.args.token.now.view c.leads_to_its_key.new.token.view [] tt c.leads_to_its_key.ensures.makes) start
    c.args.scan.now e.within.met

pub returns-clause-met : goal.returns-clause-met
returns-clause-met c = λ start at steps e. rows_later c.args.token.now.view
    c.leads_to_its_key.new.token.view c.requires.table.layout
    (makes_goes c.args.token.now.view c.leads_to_its_key.new.token.view [] tt c.leads_to_its_key.ensures.makes) start
    c.args.scan.now e.within.met
