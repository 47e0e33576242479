use Rattle.std.specs.Prelude.{length}
use Rattle.graph_table.specs.Table.{entry_of, place_in}
use Rattle.graph_table.proofs.table.GraphTable.reply.Given as goal

abbrev pub ghosts-tell : goal.ghosts-tell
ghosts-tell a = record {
  entry = entry_of a._call.now a._tries
      (record { outcome = a._outcome; keys = a._keys.now; ends = a._ends.now }) a._class
      (length a._start.now.value.view.front) (place_in a._class a._place.now.value.view.front);
}
