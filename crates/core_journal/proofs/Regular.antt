-- Each row of the table of changes is regular.
use Rattle.std.proofs.Common.{◌≡◌, ◌≢◌, ℕ, Bool, true, false, not, List, [], ◌∷◌, ◌++◌, Some, None, refl, sym, ap, ◌∙◌}
use Rattle.std.proofs.Common.{subst, true≢false, append-nil, append_assoc}
use Rattle.std.specs.Prelude.{option_map, option_and_then}
use Rattle.graph_kinds.specs.Graph.{has, weight_of}
use Rattle.graph_kinds.specs.Answer.{alters, after, change}
use Rattle.graph_kinds.specs.declared.call.Call.{Call}
use Rattle.graph_kinds.specs.declared.call.Call.TheVariants.{AddVertex, RemoveVertex, AddEdge, RemoveEdge}
use Rattle.graph_kinds.proofs.Calls.{after_change}
use Rattle.packed_link.specs.declared.link.Life.{Life}
use Rattle.core_journal.specs.declared.event.Kind.{Kind}
use Rattle.core_journal.specs.declared.event.Event.{Event}
use Rattle.core_journal.specs.Event.{marks_vertex, marks_edge}
use Rattle.core_journal.specs.GraphOf.{both, ends_of, present_key, pair_between, present_pair, graph_of, call_by}
use Rattle.core_journal.specs.GraphOf.{call_of, same_graph, changes, IsRegularEvent, RegularFrom, IsRegular}
use Rattle.core_journal.specs.Changes.{is_idle, IsNewVertex, IsRemovedVertex, IsNewEdge, IsRemovedEdge, IsReplacing}
use Rattle.core_journal.specs.Changes.{IsReplacedEdge}
use Rattle.core_journal.proofs.Calls.{same_graph_is, same_graph_self, altered, adds_vertex, removes_there, adds_edge}
use Rattle.core_journal.proofs.Calls.{changes_edge, removes_edge}
use Rattle.core_journal.proofs.Snoc.{idle_is, cuts_is}
use Rattle.core_journal.proofs.GraphRows.{idle_graph, hidden_graph, new_vertex_graph, removed_vertex_graph}
use Rattle.core_journal.proofs.GraphRows.{new_edge_graph, no_edge_graph, removed_edge_graph, replaced_edge_graph}
use Rattle.core_journal.proofs.GraphRows.{hidden_replaced_graph}
use Rattle.core_journal.proofs.LivesOf.{present_is, joined_is, key_of_life, only_pair}

-- an event that leaves the graph does not change it
pub changes_not : (past : List Event) (e : Event) → graph_of (past ++ e ∷ []) ≡ graph_of past → changes past e ≡ false
unfolding changes
changes_not past e same = ap not (ap (same_graph (graph_of past)) same ∙ same_graph_self (graph_of past))

-- an event after which the graph differs changes it
pub changes_yes : (past : List Event) (e : Event) → graph_of (past ++ e ∷ []) ≢ graph_of past → changes past e ≡ true
unfolding changes
changes_yes past e ne = by (same_graph (graph_of past) (graph_of (past ++ e ∷ []))) refl
  where
    by : (b : Bool) → same_graph (graph_of past) (graph_of (past ++ e ∷ [])) ≡ b → not b ≡ true
    by true is = absurd (ne (sym (same_graph_is (graph_of past) (graph_of (past ++ e ∷ [])) is)))
    by false is = refl

-- an event that leaves the graph, and marks no vertex
pub regular_still : (past : List Event) (e : Event) → graph_of (past ++ e ∷ []) ≡ graph_of past
    → marks_vertex e.kind ≡ false → IsRegularEvent past e
regular_still past e same quiet = record {
  removal = λ marks. absurd (true≢false (sym marks ∙ quiet));
  carried = λ does. absurd (true≢false (sym does ∙ changes_not past e same));
}

-- an event that changes the graph as its call does
pub regular_call : (past : List Event) (e : Event) (c : Call) → call_of past e ≡ Some c → alters
    (graph_of past) c ≡ true → graph_of (past ++ e ∷ []) ≡ change (graph_of past) c → IsRegularEvent past e
regular_call past e c is does leads =
    let to : graph_of (past ++ e ∷ []) ≡ after (graph_of past) c = leads ∙ sym (after_change (graph_of past) c does) in
    record {
      removal = λ marks. changes_yes past e (λ same. altered (graph_of past) c does (sym to ∙ same));
      carried = λ changed. record { call = c; is = is; alters = does; leads = to };
    }

-- a new vertex is linked whose key is not there
pub new_vertex_regular : (past : List Event) (e : Event) → IsNewVertex past e → has (graph_of past) e.key ≡ false
    → IsRegularEvent past e
new_vertex_regular past e n absent =
    regular_call past e (AddVertex e.key) (ap (λ (k : Kind). call_by k past e) n.kind)
    (adds_vertex (graph_of past) e.key absent) (new_vertex_graph past e n)

-- the only present vertex of its key is marked
pub removed_vertex_regular : (past : List Event) (e : Event) (key : ℕ) → IsRemovedVertex past e key
    → IsRegularEvent past e
removed_vertex_regular past e key r =
    regular_call past e (RemoveVertex key) (ap (λ (k : Kind). call_by k past e) r.kind ∙ ap (option_map RemoveVertex)
    (present_is past e.life key r.there).1)
    (removes_there (graph_of past) key (key_of_life past e.life key r.there)) (removed_vertex_graph past e key r)

-- an edge is linked between present vertices whose pair is not there
pub new_edge_regular : (past : List Event) (e : Event) (a b : ℕ) → IsNewEdge past e → present_key past e.source ≡ Some a
    → present_key past e.target ≡ Some b → weight_of (graph_of past) a b ≡ None → IsRegularEvent past e
new_edge_regular past e a b n s t absent =
    regular_call past e (AddEdge a b e.weight)
    (ap (λ (k : Kind). call_by k past e) n.kind ∙ (λ i. option_map (λ (p : ℕ × ℕ). AddEdge p.0 p.1 e.weight)
    (both ((present_is past e.source a s).1 i) ((present_is past e.target b t).1 i))))
    (adds_edge (graph_of past) a b e.weight (key_of_life past e.source a s) (key_of_life past e.target b t) absent)
    (new_edge_graph past e a b n s t)

-- an edge is linked of which an end is not present
pub no_edge_regular : (past : List Event) (e : Event) → IsNewEdge past e → pair_between past e ≡ None
    → IsRegularEvent past e
no_edge_regular past e n gone = regular_still past e (no_edge_graph past e n gone) (ap marks_vertex n.kind)

-- the only present edge of its pair is marked
pub removed_edge_regular : (past : List Event) (e : Event) (a b : ℕ) → IsRemovedEdge past e a b → IsRegularEvent past e
removed_edge_regular past e a b r =
    let j = joined_is past e.life a b r.weight r.there in
    regular_call past e (RemoveEdge a b)
    (ap (λ (k : Kind). call_by k past e) r.kind ∙ (ap (λ o. option_map (λ (p : ℕ × ℕ). RemoveEdge p.0 p.1)
    (option_and_then (ends_of past) o)) j.is
    ∙ (λ i. option_map (λ (p : ℕ × ℕ). RemoveEdge p.0 p.1) (both ((present_is past j.link.source a j.source).1 i)
    ((present_is past j.link.target b j.target).1 i)))))
    (removes_edge (graph_of past) a b r.weight (key_of_life past j.link.source a j.source)
    (key_of_life past j.link.target b j.target) (only_pair past e.life a b r.weight r.there r.only))
    (removed_edge_graph past e a b r)

-- an edge is replaced that is the only present one of its pair, by one of another weight
pub replaced_edge_regular : (past : List Event) (e : Event) (a b : ℕ) → (r : IsReplacedEdge past e a b) →
    ((x : Life) (w : ℕ) → present_pair past x ≡ Some ((a, b), w) → x ≡ e.old) → r.weight ≢ e.weight
    → IsRegularEvent past e
replaced_edge_regular past e a b r only ne =
    regular_call past e (AddEdge a b e.weight)
    (ap (λ (k : Kind). call_by k past e) r.replaces.kind ∙ (λ i. option_map (λ (p : ℕ × ℕ). AddEdge p.0 p.1 e.weight)
    (both ((present_is past e.source a r.source).1 i) ((present_is past e.target b r.target).1 i))))
    (changes_edge (graph_of past) a b r.weight e.weight (key_of_life past e.source a r.source)
    (key_of_life past e.target b r.target) (only_pair past e.old a b r.weight r.there only) ne)
    (replaced_edge_graph past e a b r)

-- an edge is replaced whose pair is not there
pub hidden_replaced_regular : (past : List Event) (e : Event) → IsReplacing past e → present_pair past e.old ≡ None
    → pair_between past e ≡ None → IsRegularEvent past e
hidden_replaced_regular past e n hidden none = regular_still past e (hidden_replaced_graph past e n hidden none)
    (ap marks_vertex n.kind)

-- an edge is marked whose pair is not there
pub hidden_regular : (past : List Event) (e : Event) → marks_edge e.kind ≡ true → present_pair past e.life ≡ None
    → IsRegularEvent past e
hidden_regular past e cuts hidden = regular_still past e (hidden_graph past e cuts hidden) (cuts_is e.kind cuts).1

-- an event neither links nor marks
pub idle_regular : (past : List Event) (e : Event) → is_idle e.kind ≡ true → IsRegularEvent past e
idle_regular past e idle = regular_still past e (idle_graph past e idle) (idle_is e.kind idle).marks

regular_push : (past xs : List Event) (e : Event) → RegularFrom past xs → IsRegularEvent (past ++ xs) e
    → RegularFrom past (xs ++ e ∷ [])
regular_push past [] e r k = (subst (λ (l : List Event). IsRegularEvent l e) (append-nil past) k, tt)
regular_push past (x ∷ xs) e r k = (
  r.0,
  regular_push (past ++ x ∷ []) xs e r.1
      (subst (λ (l : List Event). IsRegularEvent l e) (sym (append_assoc past (x ∷ []) xs)) k),
)

-- one more regular event
pub regular_snoc : (past : List Event) (e : Event) → IsRegular past → IsRegularEvent past e → IsRegular (past ++ e ∷ [])
regular_snoc past e r k = record { steps = regular_push [] past e r.steps k }
