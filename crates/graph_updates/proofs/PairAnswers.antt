-- What the calls on a pair are answered, by what the graph has or lacks of it.
use Rattle.std.proofs.Common.{◌≡◌, ◌⊎◌, ℕ, ◌^◌, ◌<◌, ◌≤◌, ◌&&◌, Bool, true, false, cond, List, [], ◌∷◌, Option, sym, ap}
use Rattle.std.proofs.Common.{ap₂, ◌∙◌, arith, ◌==◌}
use Rattle.std.proofs.Common.{⊎_elim, refl}
use Rattle.graph_kinds.specs.Answer.{alters, answer, by_weight, is_change, on_keys, plain, there_with}
use Rattle.graph_kinds.specs.Graph.{Graph, has, weight_of}
use Rattle.graph_kinds.specs.declared.answer.Answer.{Answer}
use Rattle.graph_kinds.specs.declared.call.Call.{Call}
use Rattle.graph_kinds.specs.declared.call.Call.TheVariants.{AddEdge, HasEdge, RemoveEdge}
use Rattle.graph_kinds.specs.declared.outcome.Outcome.{Outcome}
use Rattle.graph_kinds.specs.declared.outcome.Outcome.TheVariants.{Added, Changed, Edge, NoEdge, NoVertex, Present}
use Rattle.graph_kinds.specs.declared.outcome.Outcome.TheVariants.{Removed}
use Rattle.core_journal.specs.declared.event.Event.{Event}
use Rattle.core_journal.specs.Event.{moves}
use Rattle.core_journal.specs.GraphOf.{graph_of}
use Rattle.core_kept.specs.Counts.{made, most_moves}
use Rattle.core_rule.specs.OwnEvents.{announce_event}
use Rattle.core_rule.specs.declared.view.View.{View}
use Rattle.core_stretches.proofs.MakesTell.{makes_later}
use Rattle.epoch_limbo.specs.Passes.{IsOpened}
use Rattle.graph_updates.specs.Pairs.{HasPair, LacksBy, LacksEnd, LacksPair, MatchLack, lack_outcome}
use Rattle.graph_updates.specs.Parts.{LeavesGraph}
use Rattle.graph_updates.specs.Replying.{GivesAnswer, IsDueLacking}
use Rattle.graph_updates.specs.declared.pairs.Lack.{Lack}
use Rattle.graph_updates.specs.declared.pairs.Lack.TheVariants as lacks
use Rattle.graph_updates.specs.EdgeLooking.{MatchEdgeLooked}
use Rattle.graph_updates.specs.Hands.{HandValue, IsInOrder}
use Rattle.graph_updates.specs.declared.edge_looking.EdgeLooked.{EdgeLooked}
use Rattle.graph_updates.specs.declared.edge_looking.EdgeLooked.TheVariants as looked
use Rattle.graph_updates.proofs.CallsGo.{may_move, whole_leaves}
use Rattle.graph_updates.proofs.TriesAddUp.{lack_earlier, lack_later}

-- a graph that has both keys, and one that lacks one
keys_both : (g : Graph) (a b : ℕ) (then : Answer) → has g a ≡ true → has g b ≡ true → on_keys g a b then ≡ then
keys_both g a b then from to = ap (λ (c : Bool). cond c then (plain NoVertex))
    (ap₂ (λ (c d : Bool). c && d) from to)

one_missing : (c d : Bool) → (c ≡ false) ⊎ (d ≡ false) → (c && d) ≡ false
one_missing true true h = ⊎_elim (λ is. absurd (cc)) (λ is. absurd (cc)) h
one_missing true false h = cc
one_missing false d h = cc

keys_missing : (g : Graph) (a b : ℕ) (then : Answer) → (has g a ≡ false) ⊎ (has g b ≡ false)
    → on_keys g a b then ≡ plain NoVertex
keys_missing g a b then h = ap (λ (c : Bool). cond c then (plain NoVertex)) (one_missing (has g a) (has g b) h)

-- an answer that tells of no change leaves the graph
gives_by : (call : Call) (o : Outcome) (journal : List Event) → answer (graph_of journal) call ≡ plain o
    → is_change o ≡ false → GivesAnswer call o journal
unfolding alters
gives_by call o journal is none = record {
  reply = sym is;
  stays = ap (λ (x : Answer). is_change x.outcome) is ∙ none;
}

-- looking up a pair that the graph has
pub gives_edge : (a b weight : ℕ) (journal : List Event) → HasPair a b weight journal
    → GivesAnswer (HasEdge a b) (Edge weight) journal
unfolding answer
gives_edge a b weight journal h =
    let g = graph_of journal in
    gives_by (HasEdge a b) (Edge weight) journal
    (keys_both g a b (by_weight (weight_of g a b) Edge NoEdge) h.from h.to
    ∙ ap (λ (o : Option ℕ). by_weight o Edge NoEdge) h.weight_is) cc

same_weight : (n : ℕ) → (n == n) ≡ true
same_weight n = grind arith

-- adding one that the graph has with this weight
pub gives_present : (a b weight : ℕ) (journal : List Event) → HasPair a b weight journal
    → GivesAnswer (AddEdge a b weight) (Present weight) journal
unfolding answer
gives_present a b weight journal h =
    let g = graph_of journal in
    gives_by (AddEdge a b weight) (Present weight) journal
    (keys_both g a b (by_weight (weight_of g a b) (there_with weight) Added) h.from h.to
    ∙ (ap (λ (o : Option ℕ). by_weight o (there_with weight) Added) h.weight_is
    ∙ ap (λ (c : Bool). plain (cond c (Present weight) (Changed weight))) (same_weight weight))) cc

-- or one of which it lacks a key
pub add_lacking : (a b weight : ℕ) (journal : List Event) (l : Lack) → lack_outcome l ≡ NoVertex → LacksBy l a b journal
    → GivesAnswer (AddEdge a b weight) (lack_outcome l) journal
unfolding answer
add_lacking a b weight journal (lacks.Key q) none h = gives_by (AddEdge a b weight) NoVertex journal
    (keys_missing (graph_of journal) a b (by_weight (weight_of (graph_of journal) a b) (there_with weight) Added)
    h.missing) cc
add_lacking a b weight journal (lacks.Vertex x) none h = gives_by (AddEdge a b weight) NoVertex journal
    (keys_missing (graph_of journal) a b (by_weight (weight_of (graph_of journal) a b) (there_with weight) Added)
    h.missing) cc
add_lacking a b weight journal (lacks.Edge q) none h = absurd (cc)
add_lacking a b weight journal (lacks.Stale s) none h = absurd (cc)
add_lacking a b weight journal (lacks.Marked x) none h = absurd (cc)

-- a pair of which the graph lacks a key, and one that it lacks
module _ (a b : ℕ) (journal : List Event) where
  end_gives : (there : ℕ → Outcome) (call : Call) → answer (graph_of journal) call
      ≡ on_keys (graph_of journal) a b (by_weight (weight_of (graph_of journal) a b) there NoEdge)
      → LacksEnd a b journal → GivesAnswer call NoVertex journal
  end_gives there call is l = gives_by call NoVertex journal (is ∙ keys_missing (graph_of journal) a b
      (by_weight (weight_of (graph_of journal) a b) there NoEdge) l.missing) cc

  pair_gives : (there : ℕ → Outcome) (call : Call) → answer (graph_of journal) call
      ≡ on_keys (graph_of journal) a b (by_weight (weight_of (graph_of journal) a b) there NoEdge)
      → LacksPair a b journal → GivesAnswer call NoEdge journal
  pair_gives there call is l =
      let g = graph_of journal in
      gives_by call NoEdge journal (is ∙ (keys_both g a b (by_weight (weight_of g a b) there NoEdge) l.from l.to
      ∙ ap (λ (o : Option ℕ). by_weight o there NoEdge) l.none)) cc

  lacking : (there : ℕ → Outcome) (call : Call) → answer (graph_of journal) call
      ≡ on_keys (graph_of journal) a b (by_weight (weight_of (graph_of journal) a b) there NoEdge)
      → (l : Lack) → LacksBy l a b journal → GivesAnswer call (lack_outcome l) journal
  lacking there call is (lacks.Key q) h = end_gives there call is h
  lacking there call is (lacks.Vertex x) h = end_gives there call is h
  lacking there call is (lacks.Edge q) h = pair_gives there call is h
  lacking there call is (lacks.Stale s) h = pair_gives there call is h
  lacking there call is (lacks.Marked x) h = pair_gives there call is h

  -- looking it up
  pub has_lacking : (l : Lack) → LacksBy l a b journal → GivesAnswer (HasEdge a b) (lack_outcome l) journal
  unfolding answer
  has_lacking l h = lacking Edge (HasEdge a b) refl l h

  -- removing it
  pub remove_lacking : (l : Lack) → LacksBy l a b journal → GivesAnswer (RemoveEdge a b) (lack_outcome l) journal
  unfolding answer
  remove_lacking l h = lacking Removed (RemoveEdge a b) refl l h

-- how a call is answered that left the graph, by what the pair lacked in its pass
pub due_lacking : (call : Call) (r : Bool) (a from to : ℕ) (u v w x : View) → a ≤ 1 → IsOpened u v
    → LeavesGraph r a 0 v w → LeavesGraph false 0 1 w x → (l : Lack) → MatchLack l from to v w
    → ((journal : List Event) → LacksBy l from to journal → GivesAnswer call (lack_outcome l) journal)
    → IsDueLacking call u x l
due_lacking call r a from to u v w x few o h f l lack gives = record {
  stretch = whole_leaves r a u v w x few o h f;
  from = from;
  to = to;
  lacks = lack_later from to u w x (makes_later w x f.own f.makes).grows l
      (lack_earlier from to u v w (makes_later u v (announce_event u o.epoch ∷ []) o.makes).grows l lack);
  gives = gives;
}

-- the moves are few still after looking an edge up
pub looking_moves : (old begun now : HandValue) → IsInOrder old → old.uses < 2 ^ 32
    → IsOpened old.token.view begun.token.view → (r : EdgeLooked) (a b tries : ℕ)
    → MatchEdgeLooked r a b tries begun now
    → made moves now.token.view.number now.token.view.front < most_moves
looking_moves old begun now o few opened (looked.Edge s) a b tries h = may_move old begun.token.view o few opened false
    h.0.taken now.token.view h.0.stretch
looking_moves old begun now o few opened (looked.Lacks l) a b tries h = may_move old begun.token.view o few opened
    false h.0.taken now.token.view h.0.stretch
looking_moves old begun now o few opened looked.Again a b tries h = may_move old begun.token.view o few opened false
    h.0.taken now.token.view h.0.stretch
