use Rattle.core_kept.proofs.MarkedWords.{marked_link_stays, marked_head_stays}
use Rattle.core_kept.proofs.words.marked_words_stay.Goals as goal

pub returns-clause-link : goal.returns-clause-link
returns-clause-link c = λ sizes z x front journal p kept fresh marked tag stored. marked_link_stays sizes z x front
    journal p kept fresh marked tag stored

pub returns-clause-head : goal.returns-clause-head
returns-clause-head c = λ sizes z x front journal p kept fresh marked tag. marked_head_stays sizes z x front journal p
    kept fresh marked tag
