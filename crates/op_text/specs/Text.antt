-- The text of answers and of a graph. Numbers are decimal without leading zeros; each line ends with a line feed.
use Rattle.std.specs.Prelude.{◌≡◌, ℕ, ◌-◌, ◌<◌, ◌==◌, cond, List, [], ◌∷◌, ◌++◌, codes, flat_map, take, drop, length}
use Rattle.std.specs.Prelude.{slice_index}
use Rattle.std.specs.Fmt.{decimal}
use Rattle.std.specs.List.Sorted.{IsStrictlyIncreasing}
use Rattle.std.specs.FinMap as map
use Rattle.graph_kinds.specs.declared.outcome.Outcome.{Outcome}
use Rattle.graph_kinds.specs.declared.outcome.Outcome.TheVariants.{Added, Present, Changed, Removed, Absent, Yes, No}
use Rattle.graph_kinds.specs.declared.outcome.Outcome.TheVariants.{Edge, NoVertex, NoEdge, Path, Cost, NoPath, Levels}
use Rattle.graph_kinds.specs.declared.outcome.Outcome.TheVariants.{Overtaken, Full, Again, Worn}
use Rattle.graph_kinds.specs.declared.answer.Answer.{Answer}
use Rattle.graph_kinds.specs.Graph.{Graph, sorted_keys}

-- a text with its line feed
abbrev pub line : List ℕ → List ℕ
line text = text ++ codes "\n"

-- each number after a space
abbrev pub spaced : List ℕ → List ℕ
spaced numbers = flat_map (λ n. 32 ∷ decimal n) numbers

-- the keys of each level, by where each ends
abbrev pub levels_by : ℕ → List ℕ → List ℕ → List (List ℕ)
levels_by from keys [] = []
levels_by from keys (end ∷ ends) = take (end - from) keys ∷ levels_by end (drop (end - from) keys) ends

-- the keys of each level, with a bar between levels
abbrev pub barred : List (List ℕ) → List ℕ
barred [] = []
barred (l ∷ []) = spaced l
barred (l ∷ m ∷ ls) = spaced l ++ (codes " |" ++ barred (m ∷ ls))

-- a word, and a number after it where it isn't 0
abbrev pub with_weight : List ℕ → ℕ → List ℕ
with_weight word w = cond (w == 0) word (word ++ (32 ∷ decimal w))

-- the line of an outcome with its keys and level ends, without its line feed
abbrev pub outcome_text : Outcome → List ℕ → List ℕ → List ℕ
outcome_text Added keys ends = codes "added"
outcome_text (Present w) keys ends = with_weight (codes "present") w
outcome_text (Changed w) keys ends = codes "changed " ++ decimal w
outcome_text (Removed w) keys ends = with_weight (codes "removed") w
outcome_text Absent keys ends = codes "absent"
outcome_text Yes keys ends = codes "yes"
outcome_text No keys ends = codes "no"
outcome_text (Edge w) keys ends = codes "edge " ++ decimal w
outcome_text NoVertex keys ends = codes "no vertex"
outcome_text NoEdge keys ends = codes "no edge"
outcome_text Path keys ends = codes "path" ++ spaced keys
outcome_text (Cost c) keys ends = codes "cost " ++ (decimal c ++ (codes " path" ++ spaced keys))
outcome_text NoPath keys ends = codes "no path"
outcome_text (Levels n) keys ends = codes "levels" ++ barred (levels_by 0 keys ends)
outcome_text Overtaken keys ends = codes "overtaken"
outcome_text Full keys ends = codes "full"
outcome_text Again keys ends = codes "again"
outcome_text Worn keys ends = codes "worn"

-- the line of an answer
abbrev pub answer_line : Answer → List ℕ
answer_line a = line (outcome_text a.outcome a.keys a.ends)

-- levels end where their numbers say: n of them, rising strictly, the last at the number of keys
pub record AreEnds (n : ℕ) (keys ends : List ℕ) : Type 0 where
  pub each : length ends ≡ n
  pub rise : IsStrictlyIncreasing ends
  pub some : 0 < n → slice_index ends (n - 1) ≡ length keys
  pub none : n ≡ 0 → keys ≡ []

-- what the keys and ends of an outcome must be to be written
abbrev pub IsWritable : Outcome → List ℕ → List ℕ → Type 0
IsWritable (Levels n) keys ends = AreEnds n keys ends
IsWritable _ keys ends = Unit {0}

-- the line of the keys, by rising key
abbrev pub vertices_line : Graph → List ℕ
vertices_line g = line (codes "vertices" ++ spaced (sorted_keys g))

-- the line of a pair with its weight
abbrev pub edge_line : (ℕ × ℕ) × ℕ → List ℕ
edge_line e = line (codes "edge" ++ spaced (e.0.0 ∷ e.0.1 ∷ e.1 ∷ []))

-- the lines of a graph: its keys, then its pairs by rising first and then rising second key
abbrev pub graph_text : Graph → List ℕ
graph_text g = vertices_line g ++ flat_map edge_line (map.entries g.pairs)

-- one line an answer, in order
abbrev pub answer_lines : List Answer → List ℕ
answer_lines answers = flat_map answer_line answers

-- the lines of the answers, and then those of the graph
abbrev pub text : List Answer → Graph → List ℕ
text answers g = answer_lines answers ++ graph_text g
