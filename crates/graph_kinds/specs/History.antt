-- Histories: what callers asked and were answered, in one order, and when that order is legal.
use Rattle.std.specs.Prelude.{◌≡◌, ◌≢◌, ℕ, ◌==◌, true, ◌⊎◌, List, [], ◌∷◌, ◌++◌, Option, Some, None, filter, map}
use Rattle.std.specs.Prelude.{length}
use Rattle.std.specs.List.{zip}
use Rattle.graph_kinds.specs.declared.call.Call.{Call}
use Rattle.graph_kinds.specs.declared.call.Call.TheVariants.{RemoveVertex, AddEdge, RemoveEdge}
use Rattle.graph_kinds.specs.declared.call.Row.{Row}
use Rattle.graph_kinds.specs.declared.outcome.Outcome.{Outcome}
use Rattle.graph_kinds.specs.declared.outcome.Outcome.TheVariants.{Removed, Overtaken, Full, Again}
use Rattle.graph_kinds.specs.declared.answer.Answer.{Answer}
use Rattle.graph_kinds.specs.Graph.{Graph, empty_graph, has}
use Rattle.graph_kinds.specs.Answer.{answer, alters, needs_node, after}

-- one call of a caller, with its answer; a call that still runs has none
pub record Item : Type 0 where
  pub caller : ℕ
  pub call : Call
  pub reply : Option Answer

-- a fact of each item of a list
module _ {A : Type 0} where
  abbrev pub Every : (A → Type 0) → List A → Type 0
  Every P [] = Unit {0}
  Every P (x ∷ xs) = P x × Every P xs

-- the items of one caller, in order
abbrev pub items_of : ℕ → List Item → List Item
items_of caller h = filter (λ (i : Item). i.caller == caller) h

-- the item of a row with its answer
abbrev pub item_by : Row × Answer → Item
item_by p = record { caller = p.0.caller; call = p.0.call; reply = Some p.1 }

-- the items of rows with their answers, in the order of the rows
abbrev pub answered : List Row → List Answer → List Item
answered rows replies = map item_by (zip rows replies)

-- the calls of rows, in order
abbrev pub calls_of : List Row → List Call
calls_of rows = map (λ (r : Row). r.call) rows

-- a history holds the rows with these answers, one item each and no other, those of each caller in the order of the
-- rows
pub record IsInterleaving (rows : List Row) (replies : List Answer) (h : List Item) : Type 0 where
  pub one_each : length replies ≡ length rows
  pub in_order : (caller : ℕ) → items_of caller h ≡ items_of caller (answered rows replies)

-- the call is on a pair of keys, and this is one of the two
abbrev pub Touches : Call → ℕ → Type 0
Touches (AddEdge a b w) k = (k ≡ a) ⊎ (k ≡ b)
Touches (RemoveEdge a b) k = (k ≡ a) ⊎ (k ≡ b)
Touches _ k = ⊥

-- the call still runs, or was answered Removed
abbrev pub Removes : Option Answer → Type 0
Removes None = Unit {0}
Removes (Some r) = r.outcome ≡ Removed 0

-- a call on an edge was overtaken: a later item of another caller removes one of the call's keys, which is
-- a key of the graph here, and stands before the next item of this caller
pub record IsOvertaken (g : Graph) (caller : ℕ) (call : Call) (later : List Item) : Type 0 where
  pub between : List Item
  pub removal : Item
  pub beyond : List Item
  pub whole : later ≡ between ++ removal ∷ beyond
  pub alone : Every (λ (i : Item). i.caller ≢ caller) between
  pub other : removal.caller ≢ caller
  pub key : ℕ
  pub removes : removal.call ≡ RemoveVertex key
  pub touched : Touches call key
  pub there : has g key ≡ true
  pub done : Removes removal.reply

-- an item overtakes one on an edge: it's another caller's, and removes a key of that edge
pub record Overtakes (removal i : Item) : Type 0 where
  pub other : removal.caller ≢ i.caller
  pub key : ℕ
  pub removes : removal.call ≡ RemoveVertex key
  pub touched : Touches i.call key
  pub done : Removes removal.reply

-- what an answer demands of the graph before its item, by its outcome
abbrev pub Demand : Outcome → Answer → Graph → Item → List Item → Type 0
Demand Again r g i later = Unit {0}
Demand Full r g i later = needs_node g i.call ≡ true
Demand Overtaken r g i later = IsOvertaken g i.caller i.call later
Demand _ r g i later = r ≡ answer g i.call

-- what an item demands: a running call alters the graph
abbrev pub Meets : Option Answer → Graph → Item → List Item → Type 0
Meets None g i later = alters g i.call ≡ true
Meets (Some r) g i later = Demand r.outcome r g i later

-- the graph that an answered call leaves, by its outcome: Full and Again change nothing
abbrev pub left_by : Outcome → Graph → Call → Graph
left_by Full g c = g
left_by Again g c = g
left_by _ g c = after g c

-- the graph after an item; a call that still runs has made its change
abbrev pub next : Graph → Call → Option Answer → Graph
next g c None = after g c
next g c (Some r) = left_by r.outcome g c

-- replayed from a graph, each item meets its demand, and the graph after the last is this one
abbrev pub LegalFrom : Graph → List Item → Graph → Type 0
LegalFrom g [] last = g ≡ last
LegalFrom g (i ∷ later) last = Meets i.reply g i later × LegalFrom (next g i.call i.reply) later last

-- replayed from the empty graph, each item meets its demand, and the graph after the last is this one
pub record IsLegal (h : List Item) (last : Graph) : Type 0 where
  pub steps : LegalFrom empty_graph h last
