-- A walk of a source's list that helps, step by step: what it finds marked is unlinked and retired, and the position
-- goes on.
use Rattle.std.proofs.Common.{◌≡◌, ◌≢◌, ◌⊎◌, ℕ, ◌+◌, ◌-◌, ◌<◌, ◌≤◌, false, true, List, [], ◌∷◌, ◌++◌, length}
use Rattle.std.proofs.Common.{length-append, None, Some, inl, inr, refl, ap, sym, ◌∙◌, subst, arith, ⊎_elim}
use Rattle.graph_kinds.specs.Levels.{stands_in}
use Rattle.packed_link.specs.Layout.{IsLayout, epoch_at}
use Rattle.packed_link.specs.declared.link.Life.{Life}
use Rattle.core_journal.specs.declared.event.Event.{Event}
use Rattle.core_journal.specs.Machine.{word_at}
use Rattle.core_journal.specs.Prefix.{IsPrefix}
use Rattle.core_journal.proofs.ForeignAddsUp.{adds_up}
use Rattle.core_journal.proofs.Lists.{prefix_length}
use Rattle.core_kept.specs.Nodes.{IsSpentWith}
use Rattle.core_lists.proofs.ChangedByAnother.{change_counts}
use Rattle.core_rule.specs.OwnEvents.{unlink_edge_event}
use Rattle.core_rule.specs.Retired.{IsRetired}
use Rattle.core_rule.specs.Stretches.{HasPass, spent_since}
use Rattle.core_rule.specs.Views.{Steps}
use Rattle.core_rule.specs.declared.view.View.{View}
use Rattle.core_rule.proofs.OwnStretch.{goes_opened}
use Rattle.core_rule.proofs.SpentSince.{spent_since_bound, spent_since_grows, unlink_counts}
use Rattle.core_rule.proofs.ViewShows.{step_goes_on}
use Rattle.core_stretches.specs.Makes.{Makes}
use Rattle.core_stretches.proofs.HoldingsStay.{makes_got_unlink}
use Rattle.core_stretches.proofs.MakesAddUp.{makes_chain}
use Rattle.core_stretches.proofs.MakesTell.{makes_later}
use Rattle.epoch_limbo.specs.Limbos.{LimboValue, IsOut, IsRetiredInto, index_in}
use Rattle.epoch_limbo.proofs.LimboStays.{limbo_room}
use Rattle.graph_table.specs.Tokens.{IsOf, RipeValue, TableValue, TokenValue}
use Rattle.edge_list.specs.EdgeChanges.{IsEdgeTryLost, IsEdgeUnlinked}
use Rattle.edge_list.specs.EdgePositions.{EdgePositionValue, IsEdgePosition}
use Rattle.edge_list.proofs.EdgePositionsGoOn.{edge_position_makes}
use Rattle.graph_updates.specs.Burying.{IsIn}
use Rattle.graph_updates.specs.Hands.{HasAllSpent, IsRoomyLimbo}
use Rattle.graph_updates.specs.Parts.{Fell, Helps}
use Rattle.graph_updates.proofs.BurialLists.{every_map, in_left, in_right}
use Rattle.graph_updates.proofs.PartsLeave.{got_none, limbo_goes, spent_before, still_room}

-- a walk that helps, since a view
pub record IsSeekingEdge (g : TableValue) (source : Life) (key : ℕ) (old now : LimboValue) (v : View) (t : TokenValue)
    (p : EdgePositionValue) : Type 0 where
  pub of : IsOf g t
  pub helped : Helps old now v t.view
  pub position : IsEdgePosition false t.view p
  pub source_is : p.source ≡ source
  pub key_is : p.key ≡ key
  pub since : IsPrefix v.front p.moment

-- the moment of a position is behind its view
pub edge_moment_before : (v : View) (p : EdgePositionValue) → IsEdgePosition false v p → IsPrefix p.moment v.front
edge_moment_before v p h = subst (λ (j : List Event). IsPrefix j v.front) h.at h.goes.grows

-- a lost unlink: a foreign event fell in the walk
pub lost_edge_fell : (v w : View) (p : EdgePositionValue) (at : View) → IsPrefix v.front p.moment
    → IsPrefix p.moment w.front → IsEdgeTryLost p at w → Fell 1 w.number v.front w.front
lost_edge_fell v w p at since until lost =
    let a = prefix_length v.front p.moment since in
    let b = prefix_length p.moment w.front until in
    let one = change_counts p.moment w.front w.number p.place lost.changed in
    let sum = adds_up w.front w.number (length v.front) (length p.moment) (length w.front) a b in
    record { least = omega (arith, one, sum) }

-- an edge is unlinked, and then retired
module _ (v w : View) (p q : EdgePositionValue) (x : Life) (old : LimboValue) (z : IsLayout v.sizes)
    (u : IsEdgeUnlinked p v w x q) (l : IsRoomyLimbo old v) where
  abbrev cut : Event
  cut = unlink_edge_event v p.place p.word u.next x

  out : IsOut x.index old.nodes
  out = every_map (λ (r : RipeValue). IsRetired None v r.life r.stamp) (λ (r : RipeValue). index_in r ≢ x.index)
      (λ r ret is. u.new (subst (λ (k : ℕ). IsSpentWith v.sizes v.front v.number k) is ret.stamped.spent)) old.nodes
      l.of.each

  limbo_cut : IsRoomyLimbo old w
  limbo_cut = limbo_goes v w (cut ∷ []) z u.makes ((λ is. absurd (cc)), tt) old l

  -- there's room for it
  pub edge_room : length old.nodes < old.room
  edge_room =
      let few = limbo_room None w old.nodes x (makes_later v w (cut ∷ []) u.makes).kept limbo_cut.of
      (u.retirable None).held out in
      let room = limbo_cut.room in
      omega (arith, few, room)

  module _ (y : View) (new : LimboValue) (look : Makes w [] y) (r : IsRetiredInto old new w y x) where
    whole : Makes v (cut ∷ []) y
    whole = makes_chain v w y (cut ∷ []) [] u.makes look

    abbrev ripe : RipeValue
    ripe = record { life = x; stamp = word_at y.sizes y.front (epoch_at y.sizes) }

    was_or_is : HasAllSpent old v → (i : ℕ) → IsSpentWith y.sizes y.front y.number i → IsIn (old.nodes ++ ripe ∷ []) i
    was_or_is h i spent =
        let later = makes_later v y (cut ∷ []) whole in
        let got = makes_got_unlink v y cut z v.front None [] refl whole (got_none old v l h) in
        ⊎_elim (λ (a : IsSpentWith y.sizes v.front y.number i ⊎ (stands_in (x.index ∷ []) i ≡ true)). ⊎_elim
        (λ (b : IsSpentWith y.sizes v.front y.number i). in_left old.nodes (ripe ∷ []) i
        (h.each i (spent_before v y i later.sizes later.number b)))
        (λ (b : stands_in (x.index ∷ []) i ≡ true). in_right old.nodes (ripe ∷ []) i b)
        a)
        (λ (a : ⊥). absurd a) (got.old i spent)

    pub edge_helps : Helps old new v y
    edge_helps =
        let room = still_room v y (cut ∷ []) z whole old.room l.room in
        let same = r.room in
        let n : length new.nodes ≡ length old.nodes + 1 = ap length r.nodes ∙ length-append old.nodes (ripe ∷ []) in
        record {
          only = record { own = cut ∷ []; are = (inr (inl refl), tt); makes = whole };
          limbo = record {
            of = r.limbo None limbo_cut.of (u.retirable None) out;
            room = omega (arith, room, same);
          };
          all = λ h. record {
            each = λ i spent. subst (λ (ns : List RipeValue). IsIn ns i) (sym r.nodes) (was_or_is h i spent);
          };
          more = omega (arith, n);
        }

    pub edge_goes : IsEdgePosition false v p → IsEdgePosition false y q
    edge_goes h = edge_position_makes false w y [] q tt tt look (u.position false h)

    -- one more node is spent since the pass began
    spent_more : HasPass v → spent_since v + 1 ≤ spent_since y
    spent_more opened =
        let m = whole.steps.0 in
        let t : Steps v (Some cut) m = whole.steps.2 in
        let rest : Steps m None y = whole.steps.3 in
        let g = step_goes_on v m (Some cut) t ((λ is. absurd (cc)), (λ is. absurd (cc))) in
        let k = step_goes_on m y None rest tt in
        let zm : IsLayout m.sizes = subst IsLayout (sym (ap (λ (s : View). s.sizes) g.view)) z in
        let first = unlink_counts v m cut z t refl opened refl in
        let second = spent_since_grows m y zm k (goes_opened v m g opened) in
        omega (arith, first, second)

    pub edge_smaller : HasPass v → v.sizes.nodes ≡ y.sizes.nodes
        → y.sizes.nodes - spent_since y < v.sizes.nodes - spent_since v
    edge_smaller opened same =
        let more = spent_more opened in
        let bound = spent_since_bound y in
        omega (arith, more, bound, same)
