use Rattle.std.proofs.Common.{◌≡◌, ◌+◌, ◌-◌, false, []}
use Rattle.core_journal.specs.Prefix.{IsPrefix}
use Rattle.core_stretches.specs.Makes.{Makes}
use Rattle.core_stretches.proofs.WordsLeadOn.{low_at}
use Rattle.graph_table.specs.Tokens.{IsOf}
use Rattle.edge_list.specs.EdgePositions.{IsEdgePosition}
use Rattle.edge_list.proofs.walks.walk.Given as goal

abbrev pub invariant-loop-layout : goal.invariant-loop-layout
invariant-loop-layout l = record {
  of : IsOf l.fn.table l.token;
  makes : Makes l.fn.token.view [] l.token.view;
  source : l.position.source ≡ l.fn.position.source;
  key : l.position.key ≡ l.fn.position.key;
  since : IsPrefix l.fn.position.moment l.position.moment;
  at : IsEdgePosition false l.token.view l.position;
}

abbrev pub decreases-loop-layout : goal.decreases-loop-layout
decreases-loop-layout l = l.fn.position.key + 1 - low_at l.fn.table.sizes l.position.moment l.position.place
