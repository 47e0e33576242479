use Rattle.std.proofs.Common.{◌∙◌, ◌∷◌, []}
use Rattle.core_rule.specs.OwnEvents.{announce_event, withdraw_event}
use Rattle.core_stretches.proofs.MakesAddUp.{makes_chain}
use Rattle.layer_rows.proofs.WorkGoesOn.{work_idle}
use Rattle.layer_rows.proofs.passes.renew.Goals as goal

pub returns-clause-makes : goal.returns-clause-makes
returns-clause-makes c =
    let v = c.args.token.now.view in
    let m = c.end_pass.new.token.view in
    let opened = c.begin_pass.ensures.makes in
    record {
      between = m;
      epoch = opened.0;
      makes = makes_chain v m c.begin_pass.new.token.view (withdraw_event v ∷ []) (announce_event m opened.0 ∷ [])
          c.end_pass.ensures.makes opened.1;
    }

pub returns-clause-work : goal.returns-clause-work
returns-clause-work c =
    let first = c.end_pass.ensures.idle in
    let h = c.requires.work in
    work_idle c.end_pass.new.token.view c.begin_pass.new.token.view c.begin_pass.ensures.resting
    c.begin_pass.ensures.idle (first.unspent h.unspent) (first.moved ∙ h.unmoved)

pub returns-clause-taken : goal.returns-clause-taken
returns-clause-taken c = c.begin_pass.ensures.idle.taken ∙ c.end_pass.ensures.idle.taken
