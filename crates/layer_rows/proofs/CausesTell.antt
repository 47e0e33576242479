-- Why a call of these rows came to none, by what its last call told.
use Rattle.std.proofs.Common.{◌≡◌, ◌⊎◌, ℕ, ⊎_elim, inl, inr, refl}
use Rattle.packed_link.specs.declared.link.Life.{Life}
use Rattle.core_journal.specs.Prefix.{IsPrefix}
use Rattle.core_journal.proofs.Lists.{prefix_trans}
use Rattle.core_rule.specs.declared.view.View.{View}
use Rattle.vertex_calls.specs.Causes.{CameToNoGap, CameToNone, IsWalked, LostWord, MetDead, WasMissing, WasPresent}
use Rattle.vertex_calls.proofs.Causes.{was_missing, was_present}
use Rattle.vertex_list.specs.Changes.{IsLost, MatchMarked, WasMarked}
use Rattle.vertex_list.specs.Positions.{PositionValue}
use Rattle.vertex_list.specs.declared.changes.Marked.{Marked}
use Rattle.vertex_list.specs.declared.changes.Marked.TheVariants.{Won, Was}
use Rattle.vertex_list.specs.declared.walks.Found.{Found}
use Rattle.vertex_list.specs.declared.walks.Found.TheVariants.{Here, Gone, Dead}

-- what a walk came to is told since an older front too
present_since : (v m w : View) (key : ℕ) → IsPrefix v.front m.front → WasPresent key m w → WasPresent key v w
present_since v m w key before h = record {
  life = h.life;
  moment = h.moment;
  there = record {
    since = prefix_trans v.front m.front h.moment before h.there.since;
    until = h.there.until;
    holds = h.there.holds;
  };
}

missing_since : (v m w : View) (key : ℕ) → IsPrefix v.front m.front → WasMissing key m w → WasMissing key v w
missing_since v m w key before h = record {
  moment = h.moment;
  there = record {
    since = prefix_trans v.front m.front h.moment before h.there.since;
    until = h.there.until;
    holds = h.there.holds;
  };
}

dead_since : (v m w : View) (key : ℕ) → IsPrefix v.front m.front → MetDead key m w → MetDead key v w
dead_since v m w key before h = record {
  position = h.position;
  key_is = h.key_is;
  since = prefix_trans v.front m.front h.position.moment before h.since;
  dead = h.dead;
}

pub no_gap_since : (v m w : View) (key : ℕ) → IsPrefix v.front m.front → CameToNoGap key m w → CameToNoGap key v w
no_gap_since v m w key before h = ⊎_elim
    (λ (p : WasPresent key m w). inl (present_since v m w key before p))
    (λ (d : MetDead key m w). inr (dead_since v m w key before d)) h

pub none_since : (v m w : View) (key : ℕ) → IsPrefix v.front m.front → CameToNone key m w → CameToNone key v w
none_since v m w key before h = ⊎_elim
    (λ (p : WasMissing key m w). inl (missing_since v m w key before p))
    (λ (d : MetDead key m w). inr (dead_since v m w key before d)) h

-- the word of a position that a walk for the key handed back was changed
pub lost_word : (v m w u : View) (key : ℕ) (p : PositionValue) → IsPrefix v.front m.front → p.key ≡ key
    → IsPrefix m.front p.moment → IsLost p u w → LostWord key v w
lost_word v m w u key p before key_is since h = record {
  position = p;
  key_is = key_is;
  since = prefix_trans v.front m.front p.moment before since;
  changed = h.changed;
}

-- a walk that came to no marked vertex
pub not_dead : (v w : View) (key : ℕ) (r : Found) → IsWalked key r v w → ((q : PositionValue) → r ≡ Dead q → ⊥)
    → WasPresent key v w ⊎ WasMissing key v w
not_dead v w key (Here s) h not = inl (was_present v w key s h)
not_dead v w key (Gone q) h not = inr (was_missing v w key q h)
not_dead v w key (Dead q) h not = absurd (not q refl)

-- a mark that wasn't won was there
pub was_marked : (r : Marked) (x : Life) (v w : View) → MatchMarked r x v w → (r ≡ Won → ⊥) → WasMarked x v w
was_marked Won x v w h not = absurd (not refl)
was_marked Was x v w h not = h
