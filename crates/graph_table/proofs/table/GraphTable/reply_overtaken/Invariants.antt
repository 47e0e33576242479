use Rattle.std.specs.Prelude.{length}
use Rattle.graph_table.specs.Table.{overtaken_entry}
use Rattle.graph_table.proofs.table.GraphTable.reply_overtaken.Given as goal

abbrev pub ghosts-tell_overtaken : goal.ghosts-tell_overtaken
ghosts-tell_overtaken a = record {
  entry = overtaken_entry a._call.now a._tries (length a._start.now.value.view.front) a._exchange.now.value.view.front
      a._source a._target a.token.now.view.front;
}
