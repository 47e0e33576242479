-- What a walk came to since an older front, and what a change of another caller tells of it.
use Rattle.std.proofs.Common.{◌≡◌, ℕ, List, [], inl, inr, sym, subst, refl, ◌∙◌}
use Rattle.core_journal.specs.declared.event.Event.{Event}
use Rattle.core_journal.specs.Prefix.{IsPrefix}
use Rattle.core_journal.proofs.Lists.{prefix_trans}
use Rattle.core_rule.specs.declared.view.View.{View}
use Rattle.packed_link.specs.declared.link.Life.{Life}
use Rattle.core_stretches.specs.Makes.{Makes}
use Rattle.core_stretches.specs.Moments.{Has, Lacks}
use Rattle.core_stretches.proofs.MakesAddUp.{makes_chain}
use Rattle.core_stretches.proofs.MakesTell.{makes_later}
use Rattle.node_arena.specs.Taking.{MatchTaken}
use Rattle.node_arena.specs.declared.taking.Taken.{Taken}
use Rattle.node_arena.specs.declared.taking.Taken.TheVariants.{Node, Empty, Lost}
use Rattle.vertex_calls.specs.Causes.{CameToNoGap, CameToNone, IsWalked, MetDead, CameToNoNode, WasMissing, WasPresent}
use Rattle.vertex_list.specs.Positions.{PositionValue}
use Rattle.vertex_list.specs.Walks.{MatchFound}
use Rattle.vertex_list.specs.declared.walks.Found.{Found}
use Rattle.vertex_list.specs.declared.walks.Found.TheVariants.{Here, Gone, Dead}
use Rattle.vertex_list.specs.declared.walks.Sighting.{Sighting}

-- a walk from the position at which it was begun
pub is_walked : (v m w : View) (key : ℕ) (p : PositionValue) (r : Found) → Makes v [] m → p.key ≡ key
    → p.moment ≡ m.front → Makes m [] w → MatchFound r p w → IsWalked key r v w
is_walked v m w key p r first key_is moment second found = record {
  from = p;
  key_is = key_is;
  since = subst (λ (j : List Event). IsPrefix v.front j) (sym moment) (makes_later v m [] first).grows;
  makes = makes_chain v m w [] [] first second;
  found = found;
}

-- a vertex that a walk came to was present since the old front
pub was_present : (v w : View) (key : ℕ) (s : Sighting) → IsWalked key (Here s) v w → WasPresent key v w
was_present v w key s h = record {
  life = s.life;
  moment = s.moment.value.view.front;
  there = record {
    since = prefix_trans v.front h.from.moment s.moment.value.view.front h.since h.found.there.since;
    until = h.found.there.until;
    holds = subst (λ (k : ℕ). Has k s.life s.moment.value.view.front) h.key_is h.found.there.holds;
  };
}

-- a gap that it came to tells that the key was missing since the old front
pub was_missing : (v w : View) (key : ℕ) (q : PositionValue) → IsWalked key (Gone q) v w → WasMissing key v w
was_missing v w key q h = record {
  moment = q.moment;
  there = record {
    since = prefix_trans v.front h.from.moment q.moment h.since h.found.there.since;
    until = h.found.there.until;
    holds = subst (λ (k : ℕ). Lacks k q.moment) h.key_is h.found.there.holds;
  };
}

pub met_dead : (v w : View) (key : ℕ) (q : PositionValue) → IsWalked key (Dead q) v w → MetDead key v w
met_dead v w key q h = record {
  position = q;
  key_is = h.found.key ∙ h.key_is;
  since = prefix_trans v.front h.from.moment q.moment h.since h.found.since;
  dead = h.found.dead;
}

-- by what it came to, where that is no gap, or no vertex
pub no_gap : (v w : View) (key : ℕ) (r : Found) → IsWalked key r v w → ((q : PositionValue) → r ≡ Gone q → ⊥)
    → CameToNoGap key v w
no_gap v w key (Here s) h not = inl (was_present v w key s h)
no_gap v w key (Gone q) h not = absurd (not q refl)
no_gap v w key (Dead q) h not = inr (met_dead v w key q h)

pub came_to_none : (v w : View) (key : ℕ) (r : Found) → IsWalked key r v w → ((s : Sighting) → r ≡ Here s → ⊥)
    → CameToNone key v w
came_to_none v w key (Here s) h not = absurd (not s refl)
came_to_none v w key (Gone q) h not = inl (was_missing v w key q h)
came_to_none v w key (Dead q) h not = inr (met_dead v w key q h)

-- behind loads no node was taken
pub took_none : (v m w : View) (r : Taken) → Makes v [] m → MatchTaken r m w → ((x : Life) → r ≡ Node x → ⊥)
    → CameToNoNode v w
took_none v m w (Node x) first h not = absurd (not x refl)
took_none v m w Empty first h not = record { then = m; loads = first; cause = inl h }
took_none v m w Lost first h not = record { then = m; loads = first; cause = inr h }
