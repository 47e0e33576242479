use Rattle.core_rule.proofs.ViewShows.{look_steps, reply_steps, meet_steps, win_steps, store_steps, step_view}
use Rattle.core_rule.proofs.ViewShows.{step_last, step_goes_on, goes_further}
use Rattle.core_rule.proofs.views.a_view_goes_on.Goals as goal

pub returns-clause-look : goal.returns-clause-look
returns-clause-look c = λ v place found w has s l. look_steps v place found w has s l

pub returns-clause-win : goal.returns-clause-win
returns-clause-win c = λ v place found e w has s t. win_steps v place found e w has s t

pub returns-clause-store : goal.returns-clause-store
returns-clause-store c = λ v e w has s t. store_steps v e w has s t

pub returns-clause-pass : goal.returns-clause-pass
returns-clause-pass c = λ v w own t spares. step_goes_on v w own t spares

pub returns-clause-chain : goal.returns-clause-chain
returns-clause-chain c = λ u v w a b. goes_further u v w a b

pub returns-clause-view : goal.returns-clause-view
returns-clause-view c = λ v w own t. step_view v w own t

pub returns-clause-last : goal.returns-clause-last
returns-clause-last c = λ v w e t. step_last v w e t

pub returns-clause-reply : goal.returns-clause-reply
returns-clause-reply c = λ v entry w has s l. reply_steps v entry w has s l

pub returns-clause-meet : goal.returns-clause-meet
returns-clause-meet c = λ v w has s l. meet_steps v w has s l
