-- A token that is ready stays so over what it makes in its pass, where it takes no node.
use Rattle.std.proofs.Common.{◌≡◌, ◌≢◌, ℕ, ◌+◌, ◌<◌, ◌≤◌, true, false, List, [], ◌∷◌, refl, sym, ◌∙◌, subst, arith}
use Rattle.std.proofs.Common.{⊎_elim}
use Rattle.graph_kinds.specs.History.{Every}
use Rattle.packed_link.specs.Link.{index_of}
use Rattle.packed_link.specs.Layout.{IsLayout, bucket_at, free_at}
use Rattle.packed_link.specs.declared.link.Life.{Life}
use Rattle.core_journal.specs.Event.{pops}
use Rattle.core_journal.specs.declared.event.Event.{Event}
use Rattle.core_journal.specs.declared.event.Kind.TheVariants.{PopFree}
use Rattle.core_kept.specs.Counts.{made}
use Rattle.core_rule.specs.Fronts.{IsVertexLink, MetVertex}
use Rattle.core_rule.specs.OwnEvents.{announce_event, pop_event}
use Rattle.core_rule.specs.declared.view.View.{View}
use Rattle.core_rule.proofs.OwnStretch.{goes_opened}
use Rattle.core_rule.proofs.ViewShows.{vertex_still}
use Rattle.core_stretches.specs.Holdings.{IsFilledAsVertex}
use Rattle.core_stretches.specs.Makes.{Makes, StaysInPass, of_kinds}
use Rattle.core_stretches.proofs.HoldingsStay.{makes_none}
use Rattle.core_stretches.proofs.MakesTell.{makes_counts, makes_goes, makes_later}
use Rattle.epoch_limbo.specs.Passes.{IsOpened}
use Rattle.table_calls.specs.Resting.{IsResting, uses_of}
use Rattle.node_arena.specs.Filling.{vertex_stores}
use Rattle.node_arena.specs.Taking.{IsTaken}
use Rattle.vertex_calls.specs.Ready.{IsInPass, IsPrepared, IsReady, is_done}
use Rattle.vertex_list.specs.Changes.{MatchLinked, MatchMarked, MatchUnlinked}
use Rattle.vertex_list.specs.Positions.{PositionValue, IsGap}
use Rattle.vertex_list.specs.declared.changes.Linked.{Linked}
use Rattle.vertex_list.specs.declared.changes.Linked.TheVariants.{Done, Lost}
use Rattle.vertex_list.specs.declared.changes.Marked.{Marked}
use Rattle.vertex_list.specs.declared.changes.Marked.TheVariants.{Won, Was}
use Rattle.vertex_list.specs.declared.changes.Unlinked.{Unlinked}
use Rattle.vertex_list.specs.declared.changes.Unlinked.TheVariants.{Done as UnlinkDone, Lost as UnlinkLost}
use Rattle.vertex_list.proofs.PositionsGoOn.{gap_makes, place_apart, position_leads}

pub count_stays : (n : ℕ) (v w : View) (own : List Event) → of_kinds pops own ≡ 0 → Makes v own w
    → made pops v.number v.front ≤ n → made pops w.number w.front ≤ n
count_stays n v w own none h few = let c = makes_counts pops v w own h in omega (arith, c, none, few)

pub ready_stays : (n : ℕ) (v w : View) (own : List Event) → IsLayout v.sizes → Every StaysInPass own
    → Every (λ (e : Event). e.kind ≢ PopFree) own → of_kinds pops own ≡ 0 → Makes v own w → IsReady n v → IsReady n w
ready_stays n v w own z stays takes none h r = record {
  numbered = (makes_later v w own h).numbered ∙ r.numbered;
  pass = goes_opened v w (makes_goes v w own stays h) r.pass;
  bare = makes_none v w own z takes h r.bare;
  few = count_stays n v w own none h r.few;
}

pub ready_looks : (n : ℕ) (v w : View) → IsLayout v.sizes → Makes v [] w → IsReady n v → IsReady n w
ready_looks n v w z h r = ready_stays n v w [] z tt tt refl h r

-- a token that opened its pass
pub opened : (v w : View) → IsLayout v.sizes → IsResting false v → uses_of v ≡ 0 → IsOpened v w → IsReady 0 w
opened v w z n none o = record {
  numbered = (makes_later v w (announce_event v o.epoch ∷ []) o.makes).numbered ∙ n.numbered;
  pass = o.opened;
  bare = makes_none v w (announce_event v o.epoch ∷ []) z (λ y. absurd (cc), tt) o.makes n.bare;
  few = count_stays 0 v w (announce_event v o.epoch ∷ []) refl o.makes (omega (arith, none));
}

-- also where it marks or unlinks a vertex
pub marked : (n : ℕ) (v w : View) (x : Life) (m : Marked) → IsLayout v.sizes → MatchMarked m x v w → IsReady n v
    → IsReady n w
marked n v w x Won z h r = ready_stays n v w _ z ((λ y. absurd (cc), λ y. absurd (cc)), tt)
    (λ y. absurd (cc), tt) refl h.makes r
marked n v w x Was z h r = ready_looks n v w z h.makes r

pub met_still : (v w : View) (x : Life) (m : Marked) → IsLayout v.sizes → MatchMarked m x v w → MetVertex v x
    → MetVertex w x
met_still v w x Won z h met = vertex_still v w z
    (makes_goes v w _ ((λ y. absurd (cc), λ y. absurd (cc)), tt) h.makes) x met
met_still v w x Was z h met = vertex_still v w z (makes_goes v w [] tt h.makes) x met

pub unlinked : (n : ℕ) (v w : View) (p : PositionValue) (u : Unlinked) → IsLayout v.sizes → MatchUnlinked u p v w
    → IsReady n v → IsReady n w
unlinked n v w p (UnlinkDone x q) z h r = ready_stays n v w _ z ((λ y. absurd (cc), λ y. absurd (cc)), tt)
    (λ y. absurd (cc), tt) refl h.makes r
unlinked n v w p UnlinkLost z h r = ready_looks n v w z h.makes r

-- a vertex that was prepared is linked
pub linked : (n : ℕ) (v w : View) (p : PositionValue) (x : Life) (l : Linked) → MatchLinked l p x v w
    → IsPrepared n v p x → is_done l ≡ true → IsReady n w
linked n v w p x (Done life) h r done = record {
  numbered = (makes_later v w _ h.1.makes).numbered ∙ r.numbered;
  pass = goes_opened v w (makes_goes v w _ ((λ y. absurd (cc), λ y. absurd (cc)), tt) h.1.makes) r.pass;
  bare = h.1.none;
  few = count_stays n v w _ refl h.1.makes r.few;
}
linked n v w p x (Lost fresh) h r done = absurd (cc)

-- also where it's lost, the token has its number and its pass
pub in_pass : (n : ℕ) (v w : View) (p : PositionValue) (x : Life) (l : Linked) → MatchLinked l p x v w
    → IsPrepared n v p x → IsInPass w
in_pass n v w p x (Done life) h r = record {
  numbered = (makes_later v w _ h.1.makes).numbered ∙ r.numbered;
  pass = goes_opened v w (makes_goes v w _ ((λ y. absurd (cc), λ y. absurd (cc)), tt) h.1.makes) r.pass;
}
in_pass n v w p x (Lost fresh) h r = record {
  numbered = (makes_later v w [] h.1.makes).numbered ∙ r.numbered;
  pass = goes_opened v w (makes_goes v w [] tt h.1.makes) r.pass;
}

pub pass_looks : (v w : View) → Makes v [] w → IsInPass v → IsInPass w
pass_looks v w h r = record {
  numbered = (makes_later v w [] h).numbered ∙ r.numbered;
  pass = goes_opened v w (makes_goes v w [] tt h) r.pass;
}

-- the word of the free list is no place of a position
free_apart : (v : View) (p : PositionValue) → IsLayout v.sizes → IsGap v p → free_at v.sizes ≢ p.place
free_apart v p z g same = ⊎_elim
    (λ (b : (j : ℕ) × (j < v.sizes.buckets) × (p.place ≡ bucket_at v.sizes j)). omega (arith, b.2, same))
    (λ (b : (x : Life) × IsVertexLink v p.place x). let is = b.1.place_is in omega (arith, is, same))
    (position_leads false v p z g.position)

-- a node is taken and filled behind a walk
pub prepared : (n : ℕ) (v m w : View) (p : PositionValue) (x : Life) (key next : ℕ) → IsLayout v.sizes → IsReady n v
    → IsGap v p → IsTaken v m x → Makes m (vertex_stores m x key next) w → IsFilledAsVertex w key next x → key ≡ p.key
    → next ≡ index_of p.word → IsPrepared (n + 1) w p x
prepared n v m w p x key next z r g t h f key_is next_is =
    let pop = pop_event v t.seen t.next in
    let first = makes_later v m (pop ∷ []) t.makes in
    let z' : IsLayout m.sizes = subst IsLayout (sym first.sizes) z in
    let stays : Every StaysInPass (pop ∷ []) = ((λ y. absurd (cc), λ y. absurd (cc)), tt) in
    let stays' : Every StaysInPass (vertex_stores m x key next) = (
      (λ y. absurd (cc), λ y. absurd (cc)),
      (
        (λ y. absurd (cc), λ y. absurd (cc)),
        ((λ y. absurd (cc), λ y. absurd (cc)), ((λ y. absurd (cc), λ y. absurd (cc)), tt)),
      ),
    ) in
    let at = gap_makes v m (pop ∷ []) p z stays (free_apart v p z g, tt) t.makes g in
    let apart = λ (field : ℕ) (low : field < 4). place_apart false m p x field z' low t.held at.position in
    let one = makes_counts pops v m (pop ∷ []) t.makes in
    let few = r.few in
    record {
      numbered = (makes_later m w (vertex_stores m x key next) h).numbered ∙ (first.numbered ∙ r.numbered);
      pass = goes_opened m w (makes_goes m w (vertex_stores m x key next) stays' h)
          (goes_opened v m (makes_goes v m (pop ∷ []) stays t.makes) r.pass);
      few = count_stays (n + 1) m w (vertex_stores m x key next) refl h (omega (arith, one, few));
      gap = gap_makes m w (vertex_stores m x key next) p z' stays'
          (apart 0 (omega arith), (apart 1 (omega arith), (apart 2 (omega arith), (apart 3 (omega arith), tt)))) h at;
      filled = subst (λ (k : ℕ). IsFilledAsVertex w k (index_of p.word) x) key_is
          (subst (λ (i : ℕ). IsFilledAsVertex w key i x) next_is f);
    }
