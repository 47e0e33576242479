use Rattle.core_scans.proofs.PushesKeepLives.{more_vertex, more_started, more_edge, more_chain, root_key}
use Rattle.core_scans.proofs.collect.pushes_keep_lives.Goals as goal

pub returns-clause-vertex : goal.returns-clause-vertex
returns-clause-vertex c = more_vertex

pub returns-clause-started : goal.returns-clause-started
returns-clause-started c = more_started

pub returns-clause-edge : goal.returns-clause-edge
returns-clause-edge c = more_edge

pub returns-clause-chain : goal.returns-clause-chain
returns-clause-chain c = more_chain

pub returns-clause-root : goal.returns-clause-root
returns-clause-root c = root_key
