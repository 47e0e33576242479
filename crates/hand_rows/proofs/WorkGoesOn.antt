-- A token stays at work over what it makes in its pass.
use Rattle.std.proofs.Common.{◌≡◌, ◌≢◌, ◌⊎◌, ℕ, true, List, [], ◌∷◌, ◌++◌}
use Rattle.graph_kinds.specs.History.{Every}
use Rattle.packed_link.specs.declared.link.Life.{Life}
use Rattle.core_journal.specs.declared.event.Event.{Event}
use Rattle.core_rule.specs.Fronts.{MetVertex}
use Rattle.core_rule.specs.OwnEvents.{mark_vertex_event, pop_event}
use Rattle.core_rule.proofs.ViewShows.{vertex_still}
use Rattle.core_stretches.specs.Makes.{Makes, StaysInPass}
use Rattle.core_stretches.proofs.MakesTell.{makes_goes}
use Rattle.graph_table.specs.Tokens.{IsOf, TableValue, TokenValue}
use Rattle.vertex_list.specs.Changes.{IsMarked, MatchLinked}
use Rattle.vertex_list.specs.Positions.{PositionValue}
use Rattle.vertex_list.specs.declared.changes.Linked.{Linked}
use Rattle.vertex_list.specs.declared.changes.Linked.TheVariants as linked
use Rattle.node_arena.specs.Filling.{vertex_stores}
use Rattle.node_arena.specs.Taking.{MatchTaken}
use Rattle.node_arena.specs.declared.taking.Taken.{Taken}
use Rattle.node_arena.specs.declared.taking.Taken.TheVariants as taken
use Rattle.graph_updates.proofs.PartsLeave.{pass_goes, still_numbered}
use Rattle.hand_rows.specs.Lent.{IsLentOpen}

pub work_goes : (g : TableValue) (t u : TokenValue) (own : List Event) → Every StaysInPass own
    → Makes t.view own u.view → IsOf g u → IsLentOpen g t → IsLentOpen g u
work_goes g t u own stays makes of h = record {
  of = of;
  numbered = still_numbered t.view u.view own h.of.layout makes h.numbered;
  pass = pass_goes t.view u.view own h.of.layout makes true stays h.pass;
}

pub linked_work : (r : Linked) (p : PositionValue) (x : Life) (g : TableValue) (t u : TokenValue) → IsOf g u
    → IsLentOpen g t → MatchLinked r p x t.view u.view → IsLentOpen g u
linked_work (linked.Done life) p x g t u of h m = work_goes g t u _ (((λ is. absurd (cc)), (λ is. absurd (cc))), tt)
    m.1.makes of h
linked_work (linked.Lost fresh) p x g t u of h m = work_goes g t u [] tt m.1.makes of h

pub took_work : (r : Taken) (g : TableValue) (t u : TokenValue) → IsOf g u → IsLentOpen g t → MatchTaken r t.view u.view
    → IsLentOpen g u
took_work (taken.Node x) g t u of h m = work_goes g t u (pop_event t.view m.seen m.next ∷ [])
    (((λ is. absurd (cc)), (λ is. absurd (cc))), tt) m.makes of h
took_work taken.Empty g t u of h m = work_goes g t u [] tt m.makes of h
took_work taken.Lost g t u of h m = work_goes g t u [] tt m.makes of h

pub filled_work : (g : TableValue) (t u : TokenValue) (x : Life) (key next : ℕ) → IsOf g u → IsLentOpen g t
    → Makes t.view (vertex_stores t.view x key next) u.view → IsLentOpen g u
filled_work g t u x key next of h makes = work_goes g t u (vertex_stores t.view x key next) (
  ((λ is. absurd (cc)), (λ is. absurd (cc))),
  (
    ((λ is. absurd (cc)), (λ is. absurd (cc))),
    (((λ is. absurd (cc)), (λ is. absurd (cc))), (((λ is. absurd (cc)), (λ is. absurd (cc))), tt)),
  ),
)
    makes of h

pub marked_work : (g : TableValue) (t u : TokenValue) (x : Life) → IsOf g u → IsLentOpen g t → IsMarked x t.view u.view
    → IsLentOpen g u
marked_work g t u x of h m = work_goes g t u (mark_vertex_event t.view x m.found ∷ [])
    (((λ is. absurd (cc)), (λ is. absurd (cc))), tt) m.makes of h

pub marked_met : (g : TableValue) (t u : TokenValue) (x : Life) → IsLentOpen g t → IsMarked x t.view u.view
    → MetVertex t.view x → MetVertex u.view x
marked_met g t u x h m met = vertex_still t.view u.view h.of.layout
    (makes_goes t.view u.view (mark_vertex_event t.view x m.found ∷ []) (((λ is. absurd (cc)), (λ is. absurd (cc))), tt)
    m.makes) x met
