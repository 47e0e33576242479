use Rattle.std.specs.Prelude.{◌+◌, length}
use Rattle.graph_kinds.specs.Answer.{plain}
use Rattle.graph_kinds.specs.declared.entry.Class.TheVariants.{Silent}
use Rattle.graph_table.specs.Table.{before_mark, entry_of}
use Rattle.graph_table.proofs.table.GraphTable.reply_after_mark.Given as goal

abbrev pub ghosts-tell_after_mark : goal.ghosts-tell_after_mark
ghosts-tell_after_mark a = record {
  entry = entry_of a._call.now a._tries (plain a._outcome) Silent (length a._start.now.value.view.front)
      (before_mark a._life a.token.now.view.front + 1);
}
