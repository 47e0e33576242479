use Rattle.core_worked.proofs.WorkedTokens.{store_34, reply_45, meet_45, looked_52, win_41, goes_pass, goes_chain}
use Rattle.core_worked.proofs.WorkedTokens.{vertex_later, edge_later, dead_later, below_later, leads_later}
use Rattle.core_worked.proofs.WorkedTokens.{raised_later}
use Rattle.core_worked.proofs.laws_tokens.worked_views_go_on.Goals as goal

pub returns-clause-look : goal.returns-clause-look
returns-clause-look c = looked_52

pub returns-clause-win : goal.returns-clause-win
returns-clause-win c = win_41

pub returns-clause-pass : goal.returns-clause-pass
returns-clause-pass c = goes_pass

pub returns-clause-chain : goal.returns-clause-chain
returns-clause-chain c = goes_chain

pub returns-clause-vertex : goal.returns-clause-vertex
returns-clause-vertex c = vertex_later

pub returns-clause-edge : goal.returns-clause-edge
returns-clause-edge c = edge_later

pub returns-clause-dead : goal.returns-clause-dead
returns-clause-dead c = dead_later

pub returns-clause-below : goal.returns-clause-below
returns-clause-below c = below_later

pub returns-clause-leads : goal.returns-clause-leads
returns-clause-leads c = leads_later

pub returns-clause-raised : goal.returns-clause-raised
returns-clause-raised c = raised_later

pub returns-clause-store : goal.returns-clause-store
returns-clause-store c = store_34

pub returns-clause-reply : goal.returns-clause-reply
returns-clause-reply c = reply_45

pub returns-clause-meet : goal.returns-clause-meet
returns-clause-meet c = meet_45
