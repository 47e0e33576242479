-- As many vertices were added as were removed and are there, in each legal history.
use Rattle.std.proofs.Common.{◌≡◌, ℕ, ◌+◌, ◌<◌, ◌∙◌, sym, ap, refl, subst, Bool, true, false, cond, List, [], ◌∷◌}
use Rattle.std.proofs.Common.{Some, None, arith, inl, inr}
use Rattle.std.specs.Prelude.{Option, IsSome, option_map, unwrap_or}
use Rattle.std.specs.Ordering.{nat_cmp}
use Rattle.std.specs.Cmp.{nat_cmp_total}
use Rattle.std.specs.FinSet as set
use Rattle.std.proofs.lemmas.Bool.{cases_Bool, cases_eq}
use Rattle.graph_kinds.specs.declared.call.Call.{Call}
use Rattle.graph_kinds.specs.declared.call.Call.TheVariants.{AddVertex, RemoveVertex, HasVertex, AddEdge, RemoveEdge}
use Rattle.graph_kinds.specs.declared.call.Call.TheVariants.{HasEdge, Reach, Levels, Cheapest}
use Rattle.graph_kinds.specs.declared.outcome.Outcome.{Outcome}
use Rattle.graph_kinds.specs.declared.outcome.Outcome.TheVariants.{Overtaken, Full, Again}
use Rattle.graph_kinds.specs.declared.answer.Answer.{Answer}
use Rattle.graph_kinds.specs.Graph.{Graph, empty_graph, has, key_count}
use Rattle.graph_kinds.specs.Answer.{answer, alters, after, change}
use Rattle.graph_kinds.specs.History.{Item, Every, Demand, IsLegal, LegalFrom, Meets, Touches, left_by, next}
use Rattle.op_text.specs.Summary.{adds_in, adds_key, items_adding, items_removing, removes_in, removes_key}
use Rattle.op_text.proofs.Counted.{count_by-cons}

-- one where a test passes, and else none
abbrev one_if : Bool → ℕ
one_if b = cond b 1 0

-- a call with this outcome that leads from one graph to another counts the vertices that come and go
abbrev IsBalanced : Call → Outcome → Graph → Graph → Type 0
IsBalanced c o g h = one_if (adds_key c o) + key_count g ≡ one_if (removes_key c o) + key_count h

-- a call on an edge, or a question
abbrev IsNoVertexCall : Call → Type 0
IsNoVertexCall (AddVertex k) = ⊥
IsNoVertexCall (RemoveVertex k) = ⊥
IsNoVertexCall _ = Unit {0}

kept_either : (b : Bool) (x g : Graph) → x.keys ≡ g.keys → key_count g ≡ key_count (cond b x g)
kept_either true x g e = ap set.len (sym e)
kept_either false x g e = refl

-- it counts none and keeps the vertices, whatever its outcome
balanced_no_vertex : (g : Graph) (c : Call) (o : Outcome) → IsNoVertexCall c → IsBalanced c o g (after g c)
unfolding after
balanced_no_vertex g (AddVertex k) o other = absurd other
balanced_no_vertex g (RemoveVertex k) o other = absurd other
balanced_no_vertex g (HasVertex k) o other = ap (λ (n : ℕ). 0 + n) (kept_either (alters g (HasVertex k)) g g refl)
balanced_no_vertex g (AddEdge a b w) o other = ap (λ (n : ℕ). 0 + n)
    (kept_either (alters g (AddEdge a b w)) (change g (AddEdge a b w)) g refl)
balanced_no_vertex g (RemoveEdge a b) o other = ap (λ (n : ℕ). 0 + n)
    (kept_either (alters g (RemoveEdge a b)) (change g (RemoveEdge a b)) g refl)
balanced_no_vertex g (HasEdge a b) o other = ap (λ (n : ℕ). 0 + n) (kept_either (alters g (HasEdge a b)) g g refl)
balanced_no_vertex g (Reach a b) o other = ap (λ (n : ℕ). 0 + n) (kept_either (alters g (Reach a b)) g g refl)
balanced_no_vertex g (Levels a) o other = ap (λ (n : ℕ). 0 + n) (kept_either (alters g (Levels a)) g g refl)
balanced_no_vertex g (Cheapest a b) o other = ap (λ (n : ℕ). 0 + n) (kept_either (alters g (Cheapest a b)) g g refl)

-- a vertex to be added, that is there or not
balanced_added : (g : Graph) (k : ℕ) → IsBalanced (AddVertex k) (answer g (AddVertex k)).outcome g
    (after g (AddVertex k))
unfolding after alters answer
balanced_added g k = elim (cases_Bool (has g k)) [
  | inl there ↦ rw there refl
  | inr gone ↦
      let more = set.len-insert nat_cmp_total g.keys k in
      rw gone (omega (arith, rw gone at more))
]

differ : true ≡ false → ⊥
differ e = cc e

-- a vertex that is a key is one of at least one
some_keys : (g : Graph) (k : ℕ) → has g k ≡ true → 0 < key_count g
some_keys g k there = elim (cases_eq (key_count g) 0) [
  | inl none ↦
      let empty : g.keys ≡ set.empty = set.empty_of_len g.keys none in
      let absent : has g k ≡ false =
      ap (λ (s : set.FinSet nat_cmp). set.contains s k) empty ∙ set.contains-empty nat_cmp k in
      absurd (differ (sym there ∙ absent))
  | inr some ↦ omega arith
]

-- a vertex to be removed, that is there or not
balanced_removed : (g : Graph) (k : ℕ) → IsBalanced (RemoveVertex k) (answer g (RemoveVertex k)).outcome g
    (after g (RemoveVertex k))
unfolding after alters answer
balanced_removed g k = elim (cases_Bool (has g k)) [
  | inl there ↦
      let less = set.len-remove nat_cmp_total g.keys k in
      let some = some_keys g k there in
      rw there (omega (arith, rw there at less))
  | inr gone ↦ rw gone refl
]

-- each call with its answer
balanced_answer : (g : Graph) (c : Call) → IsBalanced c (answer g c).outcome g (after g c)
balanced_answer g (AddVertex k) = balanced_added g k
balanced_answer g (RemoveVertex k) = balanced_removed g k
balanced_answer g (HasVertex k) = balanced_no_vertex g (HasVertex k) (answer g (HasVertex k)).outcome tt
balanced_answer g (AddEdge a b w) = balanced_no_vertex g (AddEdge a b w) (answer g (AddEdge a b w)).outcome tt
balanced_answer g (RemoveEdge a b) = balanced_no_vertex g (RemoveEdge a b) (answer g (RemoveEdge a b)).outcome tt
balanced_answer g (HasEdge a b) = balanced_no_vertex g (HasEdge a b) (answer g (HasEdge a b)).outcome tt
balanced_answer g (Reach a b) = balanced_no_vertex g (Reach a b) (answer g (Reach a b)).outcome tt
balanced_answer g (Levels a) = balanced_no_vertex g (Levels a) (answer g (Levels a)).outcome tt
balanced_answer g (Cheapest a b) = balanced_no_vertex g (Cheapest a b) (answer g (Cheapest a b)).outcome tt

-- Full and Again count none, and leave the graph
balanced_full : (g : Graph) (c : Call) → IsBalanced c Full g g
balanced_full g (AddVertex k) = refl
balanced_full g (RemoveVertex k) = refl
balanced_full g _ = refl

balanced_again : (g : Graph) (c : Call) → IsBalanced c Again g g
balanced_again g (AddVertex k) = refl
balanced_again g (RemoveVertex k) = refl
balanced_again g _ = refl

-- what is overtaken is a call on an edge
edge_only : (c : Call) (k : ℕ) → Touches c k → IsNoVertexCall c
edge_only (AddVertex j) k h = h
edge_only (RemoveVertex j) k h = h
edge_only _ k h = tt

-- each outcome that meets its demand
balanced_demand : (o : Outcome) (r : Answer) (g : Graph) (i : Item) (later : List Item) → r.outcome ≡ o
    → Demand o r g i later → IsBalanced i.call o g (left_by o g i.call)
balanced_demand Again r g i later is met = balanced_again g i.call
balanced_demand Full r g i later is met = balanced_full g i.call
balanced_demand Overtaken r g i later is met =
    balanced_no_vertex g i.call Overtaken (edge_only i.call met.key met.touched)
balanced_demand o r g i later is met =
    let same : (answer g i.call).outcome ≡ o = ap (λ (a : Answer). a.outcome) (sym met) ∙ is in
    subst (λ (x : Outcome). IsBalanced i.call x g (after g i.call)) same (balanced_answer g i.call)

-- an item that was answered, by its reply
balanced_reply : (reply : Option Answer) (g : Graph) (i : Item) (later : List Item) → IsSome reply
    → Meets reply g i later
    → one_if (unwrap_or (option_map (λ (r : Answer). adds_key i.call r.outcome) reply) false) + key_count g ≡
    one_if (unwrap_or (option_map (λ (r : Answer). removes_key i.call r.outcome) reply) false)
    + key_count (next g i.call reply)
balanced_reply None g i later some met = cc some
balanced_reply (Some r) g i later some met = balanced_demand r.outcome r g i later refl met

-- a history from a graph on
pub balanced_from : (g : Graph) (h : List Item) (last : Graph) → Every (λ (i : Item). IsSome i.reply) h
    → LegalFrom g h last → items_adding h + key_count g ≡ items_removing h + key_count last
balanced_from g [] last all steps = ap (λ (x : Graph). 0 + key_count x) steps
balanced_from g (i ∷ later) last all steps =
    let one = balanced_reply i.reply g i later all.0 steps.0 in
    let rest = balanced_from (next g i.call i.reply) later last all.1 steps.1 in
    omega (arith, one, rest, count_by-cons adds_in i later, count_by-cons removes_in i later)

-- a history from the empty graph on
pub balanced : (h : List Item) (last : Graph) → Every (λ (i : Item). IsSome i.reply) h → IsLegal h last
    → items_adding h ≡ items_removing h + key_count last
balanced h last all legal =
    let none : key_count empty_graph ≡ 0 = set.len-empty nat_cmp in
    omega (arith, none, balanced_from empty_graph h last all legal.steps)
