-- What a command writes for the rows of its input.
use Rattle.std.specs.Prelude.{◌≡◌, ℕ, All, List, Option, Ok, Err, IsOk, IfSome, true, false, ◌+◌, ◌≤◌, length, Bool}
use Rattle.std.specs.declared.string.String.{String}
use Rattle.std.proofs.Common.{Global}
use Rattle.graph_kinds.specs.declared.call.Row.{Row}
use Rattle.graph_kinds.specs.declared.answer.Answer.{Answer}
use Rattle.graph_kinds.specs.Graph.{Graph, empty_graph}
use Rattle.graph_kinds.specs.Answer.{answers, after_all}
use Rattle.graph_kinds.specs.History.{Item, IsInterleaving, IsLegal, calls_of}
use Rattle.op_text.specs.Rows.{rows}
use Rattle.op_text.specs.Text.{text}
use Rattle.graph_kinds.specs.Stream.{Rose, TakesMany}
use Rattle.shared_graph.specs.Performing.{IsVertexCall}
use Rattle.graph_tool.specs.Command.{command_of}
use Rattle.graph_tool.specs.Input.{TakesAtMost, most_bytes}
use Rattle.graph_tool.specs.declared.status.Status.{Status}
use Rattle.graph_tool.specs.declared.status.Status.TheVariants.{Done, Usage, BadRow, ReadFault, WriteFault, Memory}
use Rattle.graph_tool.specs.declared.status.UsageCause.TheVariants.{InputTooLong}
use Rattle.graph_tool.specs.declared.command.Command.{Command}
use Rattle.graph_tool.specs.declared.command.Command.TheVariants.{Run, Replay}

-- how many callers the rows may name
abbrev pub callers : ℕ
callers = 16

-- the text of answers and a graph, where a legal history that holds the rows with these answers ends in that graph
pub record IsRun (asked : List Row) (written : List ℕ) : Type 0 where
  pub replies : List Answer
  pub graph : Graph
  pub history : List Item
  pub text_is : written ≡ text replies graph
  pub interleaving : IsInterleaving asked replies history
  pub legal : IsLegal history graph

-- the text of the answers and of the graph of the rows in input order
abbrev pub replayed : List Row → List ℕ
replayed asked = text (answers empty_graph (calls_of asked)) (after_all empty_graph (calls_of asked))

-- what a command writes for rows
abbrev pub Writes : Command → List Row → List ℕ → Type 0
Writes Run asked written = IsRun asked written
Writes Replay asked written = written ≡ replayed asked

-- all rows are of vertices
abbrev pub AreOfVertices : List Row → Type 0
AreOfVertices asked = All (λ (r : Row). IsVertexCall r.call) asked

-- rows that are answered in input order on the graph of one caller: all rows of replay, and those of run unless all
-- are of vertices
abbrev pub RunsAlone : Command → List Row → Type 0
RunsAlone Replay asked = Unit {0}
RunsAlone Run asked = AreOfVertices asked → ⊥

-- the words are a command
abbrev pub IsAccepted : List (String Global) → Type 0
IsAccepted words = IsOk (command_of words)

-- what the words ask to be written for these bytes: the text of their command for the rows of the bytes
pub record Asks (words : List (String Global)) (bytes written : List ℕ) : Type 0 where
  pub command : Command
  pub accepted : command_of words ≡ Ok command
  pub asked : List Row
  pub read : rows callers bytes ≡ Ok asked
  pub text_is : Writes command asked written

-- why the rows of an input were not read, by what was taken of the source (left before and after), whether it has
-- ended, and its count of faults before and after
abbrev pub IsRefused : Option (List ℕ) → Option (List ℕ) → Bool → ℕ → ℕ → Status → Type 0
IsRefused old new ended before after (Usage cause) =
    (cause ≡ InputTooLong) × TakesMany old new (most_bytes + 1) × (ended ≡ false)
IsRefused old new ended before after (BadRow row cause) =
    (ended ≡ true) × IfSome old (λ bytes. rows callers bytes ≡ Err (row, cause)) × TakesAtMost old new most_bytes
    × IfSome old (λ bytes. length bytes ≤ most_bytes)
IsRefused old new ended before after ReadFault = Rose before after × TakesAtMost old new most_bytes × (ended ≡ false)
IsRefused old new ended before after Memory = Unit {0}
IsRefused old new ended before after Done = ⊥
IsRefused old new ended before after WriteFault = ⊥
