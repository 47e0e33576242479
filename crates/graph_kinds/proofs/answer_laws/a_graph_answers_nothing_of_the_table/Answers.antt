use Rattle.graph_kinds.proofs.PlainAnswers.{not_overtaken, not_full, not_again, not_worn}
use Rattle.graph_kinds.proofs.answer_laws.a_graph_answers_nothing_of_the_table.Goals as goal

pub returns-clause-overtaken : goal.returns-clause-overtaken
returns-clause-overtaken c = λ g call. not_overtaken g call

pub returns-clause-full : goal.returns-clause-full
returns-clause-full c = λ g call. not_full g call

pub returns-clause-again : goal.returns-clause-again
returns-clause-again c = λ g call. not_again g call

pub returns-clause-worn : goal.returns-clause-worn
returns-clause-worn c = λ g call. not_worn g call
