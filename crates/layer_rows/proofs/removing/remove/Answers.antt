use Rattle.std.proofs.Common.{◌∷◌, [], refl, inl, inr, ◌∙◌}
use Rattle.core_journal.proofs.Lists.{prefix_refl, prefix_trans}
use Rattle.core_stretches.proofs.MakesTell.{makes_later}
use Rattle.vertex_calls.proofs.Causes.{came_to_none}
use Rattle.core_rule.specs.OwnEvents.{mark_vertex_event, unlink_vertex_event}
use Rattle.layer_rows.proofs.CausesTell.{lost_word, not_dead, was_marked}
use Rattle.layer_rows.proofs.WorkGoesOn.{gets_none, number_on, only_one, pass_on, there_on}
use Rattle.layer_rows.proofs.WorkGoesOn.{unmoved_on, unspent_on, walked_here}
use Rattle.layer_rows.proofs.removing.remove.Goals as goal

pub look_for-requires-2-clause-pass : goal.look_for-requires-2-clause-pass
look_for-requires-2-clause-pass c =
    let m = c.look_for.new.token.view in
    let k = c.in-Won.ensures.marked in
    let e = mark_vertex_event m c.in-Here.seen.life k.found in
    pass_on m c.mark.new.token.view (e ∷ []) (((λ y. absurd (cc)), (λ y. absurd (cc))), tt) k.makes
    (pass_on c.args.token.now.view m [] tt c.in-Here.ensures.walked.makes c.requires.work.resting.pass)

pub returns-in-Done-clause-removed : goal.returns-in-Done-clause-removed
returns-in-Done-clause-removed c =
    let v = c.args.token.now.view in
    let m = c.look_for.new.token.view in
    let a = c.mark.new.token.view in
    let u = c.look_for-2.new.token.view in
    let w = c.unlink.new.token.view in
    let first = c.in-Here.ensures.walked in
    let k = c.in-Won.ensures.marked in
    let second = c.in-Dead.ensures.walked in
    let done = c.in-Done.ensures.unlinked in
    let x = c.in-Done.spent in
    let p = c.in-Dead.position in
    let e = mark_vertex_event m c.in-Here.seen.life k.found in
    let unlink = unlink_vertex_event u p.place p.word done.next x in
    let unspent = unspent_on a u [] c.mark.ensures.table.layout tt second.makes
    (unspent_on m a (e ∷ []) c.look_for.ensures.table.layout (gets_none e refl (λ y. absurd (cc)), tt) k.makes
    (unspent_on v m [] c.requires.table.layout tt first.makes c.requires.work.unspent)) in
    let h = c.requires.work in
    let mark = e ∷ [] in
    let cut = unlink ∷ [] in
    record {
      numbered = number_on u w cut done.makes (number_on a u [] second.makes (number_on m a mark k.makes
          (number_on v m [] first.makes h.resting.numbered)));
      there = there_on u w cut done.makes (there_on a u [] second.makes (there_on m a mark k.makes
          (there_on v m [] first.makes h.resting.there)));
      pass = pass_on u w cut (((λ y. absurd (cc)), (λ y. absurd (cc))), tt) done.makes (pass_on a u [] tt second.makes
          (pass_on m a mark (((λ y. absurd (cc)), (λ y. absurd (cc))), tt) k.makes
          (pass_on v m [] tt first.makes h.resting.pass)));
      vertex = done.spent;
      unclosed = done.unclosed;
      only = only_one u w unlink c.look_for-2.ensures.table.layout unspent refl done.makes;
      unmoved = unmoved_on u w cut refl done.makes (unmoved_on a u [] refl second.makes
          (unmoved_on m a mark refl k.makes (unmoved_on v m [] refl first.makes h.unmoved)));
    }

pub returns-in_default-clause-none : goal.returns-in_default-clause-none
returns-in_default-clause-none c = λ _.
    inl (came_to_none c.args.token.now.view c.look_for.new.token.view c.args.key c.look_for.result
    c.look_for.ensures.walked c.in_default.not-Here)

pub returns-in_default-mark-clause-none : goal.returns-in_default-mark-clause-none
returns-in_default-mark-clause-none c = λ _.
    let v = c.args.token.now.view in
    let m = c.look_for.new.token.view in
    let w = c.mark.new.token.view in
    let was = was_marked c.mark.result c.in-Here.seen.life m w c.mark.ensures.marked c.in_default-mark.not-Won in
    inr (inl (record {
      life = c.in-Here.seen.life;
      moment = c.in-Here.seen.moment.value.view.front;
      there = walked_here v v m w c.args.key c.in-Here.seen (prefix_refl v.front)
          (makes_later m w [] was.makes).grows c.in-Here.ensures.walked;
      marked = was.marked;
    }))

pub returns-in_default-look_for-clause-none : goal.returns-in_default-look_for-clause-none
returns-in_default-look_for-clause-none c = λ _.
    let v = c.args.token.now.view in
    let m = c.look_for.new.token.view in
    let a = c.mark.new.token.view in
    inr (inr (inl (record {
      before = m;
      then = a;
      since = (makes_later v m [] c.in-Here.ensures.walked.makes).grows;
      life = c.in-Here.seen.life;
      mark = c.in-Won.ensures.marked;
      walked = not_dead a c.look_for-2.new.token.view c.args.key c.look_for-2.result c.look_for-2.ensures.walked
          c.in_default-look_for.not-Dead;
    })))

pub returns-clause-none : goal.returns-clause-none
returns-clause-none c = λ _.
    let v = c.args.token.now.view in
    let m = c.look_for.new.token.view in
    let a = c.mark.new.token.view in
    let u = c.look_for-2.new.token.view in
    let k = c.in-Won.ensures.marked in
    let e = mark_vertex_event m c.in-Here.seen.life k.found in
    let walked = c.in-Dead.ensures.walked in
    let p = c.in-Dead.position in
    let before = prefix_trans v.front m.front a.front (makes_later v m [] c.in-Here.ensures.walked.makes).grows
    (makes_later m a (e ∷ []) k.makes).grows in
    inr (inr (inr (lost_word v a c.unlink.new.token.view u c.args.key p before (walked.found.key ∙ walked.key_is)
    (prefix_trans a.front walked.from.moment p.moment walked.since walked.found.since) c.in-Lost.ensures.unlinked)))
