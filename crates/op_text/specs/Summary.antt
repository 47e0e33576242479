-- The summary of a run: seven lines of counts. No vertex is lost where as many were added as were removed or are
-- there.
use Rattle.std.specs.Prelude.{ℕ, ◌+◌, ◌==◌, Bool, true, false, if◌then◌else◌, List, ◌++◌, codes, length}
use Rattle.std.specs.Prelude.{option_map, unwrap_or}
use Rattle.std.specs.Fmt.{decimal}
use Rattle.std.specs.List.{count_by}
use Rattle.graph_kinds.specs.declared.call.Call.{Call}
use Rattle.graph_kinds.specs.declared.call.Call.TheVariants.{AddVertex, RemoveVertex}
use Rattle.graph_kinds.specs.declared.call.Row.{Row}
use Rattle.graph_kinds.specs.declared.outcome.Outcome.{Outcome}
use Rattle.graph_kinds.specs.declared.outcome.Outcome.TheVariants.{Added, Removed}
use Rattle.graph_kinds.specs.declared.answer.Answer.{Answer}
use Rattle.graph_kinds.specs.Graph.{Graph, key_count, pair_count}
use Rattle.graph_kinds.specs.History.{Item, answered}
use Rattle.op_text.specs.Text.{line}

-- a vertex was added: the call adds one, and its outcome is Added
abbrev pub adds_key : Call → Outcome → Bool
adds_key (AddVertex k) Added = true
adds_key _ _ = false

-- a vertex was removed: the call removes one, and its outcome is Removed
abbrev pub removes_key : Call → Outcome → Bool
removes_key (RemoveVertex k) (Removed w) = true
removes_key _ _ = false

-- an item's answer tells that a vertex was added, or that one was removed; an item that still runs tells nothing
abbrev pub adds_in : Item → Bool
adds_in i = unwrap_or (option_map (λ (r : Answer). adds_key i.call r.outcome) i.reply) false

abbrev pub removes_in : Item → Bool
removes_in i = unwrap_or (option_map (λ (r : Answer). removes_key i.call r.outcome) i.reply) false

-- how many items of a history added a vertex, and how many removed one
abbrev pub items_adding : List Item → ℕ
items_adding h = count_by adds_in h

abbrev pub items_removing : List Item → ℕ
items_removing h = count_by removes_in h

-- how many of the rows added a vertex, and how many removed one, by their answers
abbrev pub vertices_added : List Row → List Answer → ℕ
vertices_added asked replies = items_adding (answered asked replies)

abbrev pub vertices_removed : List Row → List Answer → ℕ
vertices_removed asked replies = items_removing (answered asked replies)

-- the line of a count: its name and the number
abbrev pub count_line : List ℕ → ℕ → List ℕ
count_line name count = line (name ++ (codes " " ++ decimal count))

-- the last line: whether as many vertices were added as were removed and are there
abbrev pub conserved_line : ℕ → ℕ → ℕ → List ℕ
conserved_line gained lost vertices =
    if gained == lost + vertices then codes "conserved yes\n" else codes "conserved no\n"

-- the seven lines of these counts
abbrev pub summary_lines : ℕ → ℕ → ℕ → ℕ → ℕ → ℕ → List ℕ
summary_lines rows callers gained lost vertices edges =
    count_line (codes "rows") rows
    ++ (count_line (codes "callers") callers
    ++ (count_line (codes "added") gained
    ++ (count_line (codes "removed") lost
    ++ (count_line (codes "vertices") vertices
    ++ (count_line (codes "edges") edges
    ++ conserved_line gained lost vertices)))))

-- the summary of rows for so many callers, with their answers and the numbers of vertices and edges at the end
abbrev pub summary_by : List Row → ℕ → List Answer → ℕ → ℕ → List ℕ
summary_by asked callers replies vertices edges =
    summary_lines (length asked) callers (vertices_added asked replies) (vertices_removed asked replies) vertices edges

-- the summary of rows for so many callers, with their answers and the graph at the end
abbrev pub summary : List Row → ℕ → List Answer → Graph → List ℕ
summary asked callers replies g = summary_by asked callers replies (key_count g) (pair_count g)
