-- One edge of collect: it's recorded with its target, or passed over.
use Rattle.std.proofs.Common.{◌≡◌, ◌≢◌, ⊎_elim, ℕ, ◌+◌, ◌-◌, ◌<◌, ◌≤◌, List, [], ◌∷◌, All, get_or}
use Rattle.std.proofs.Common.{Option, Some, length, length-append, take, drop, refl, sym, ap, ◌∙◌, subst, arith}
use Rattle.std.proofs.Math.ListN.{length-set}
use Rattle.graph_kinds.specs.History.{Every}
use Rattle.packed_link.specs.Link.{index_of, nowhere}
use Rattle.packed_link.specs.Layout.{IsLayout, Sizes, link_at}
use Rattle.packed_link.specs.declared.link.Life.{Life}
use Rattle.core_journal.specs.declared.event.Event.{Event}
use Rattle.core_journal.specs.Machine.{word_at}
use Rattle.core_journal.proofs.Lists.{every_map}
use Rattle.core_rule.specs.Fronts.{key_in}
use Rattle.core_rule.specs.Views.{GoesOn}
use Rattle.core_rule.specs.declared.view.View.{View}
use Rattle.core_scans.specs.Seen.{IsTargetSeen, OnlyLooks}
use Rattle.core_scans.specs.Walking.{AreRowsMet, AreRowsReached, IsEdgeLoaded, IsFoundReplaced, IsLonger, IsMore}
use Rattle.core_scans.specs.Walking.{IsNextEdge, last_row}
use Rattle.core_scans.proofs.EdgeSteps.{edge_passed, edge_recorded}
use Rattle.core_scans.proofs.FrontsKeepLives.{every_at, get_at}
use Rattle.core_scans.proofs.PushesKeepLives.{more_chain, more_edge, more_same, more_vertex}
use Rattle.core_scans.proofs.PushesKeepRows.{longer_same, longer_vertex, reached_edge, reached_new, reached_vertex}
use Rattle.core_scans.proofs.RoomInScan.{room_for_edge}
use Rattle.core_scans.proofs.RowSteps.{within_later}
use Rattle.core_stretches.specs.Makes.{Makes}
use Rattle.core_stretches.proofs.MakesTell.{makes_goes, makes_later}
use Rattle.scan_record.specs.declared.rows.EdgeRow.{EdgeRow}
use Rattle.scan_record.specs.Scan.{IsScan, ScanValue, edges_of, last_edges, new_row, row_at, with_edge, with_vertex}
use Rattle.scan_record.proofs.Edges.{longer_row}
use Rattle.tree_scan.specs.Collects.{IsAimed, IsAtEdge, IsEdgeTold, IsGrown, IsPushedFor}
use Rattle.tree_scan.specs.declared.collecting.LoadedEdge.{LoadedEdge}
use Rattle.tree_scan.proofs.RowsAgain.{looks_on}

-- what was only looked on is so at a later view, by its own sizes and number
pub looks_later : (v w : View) (start : List Event) → Makes v [] w → OnlyLooks v.sizes v.number start v.front
    → OnlyLooks w.sizes w.number start w.front
looks_later v w start made looks =
    let later = makes_later v w [] made in
    subst (λ (n : ℕ). OnlyLooks w.sizes n start w.front) (sym later.number)
    (subst (λ (y : Sizes). OnlyLooks y v.number start w.front) (sym later.sizes) (looks_on v w start made looks))

pub edge_later : (v w : View) → IsLayout v.sizes → Makes v [] w → (start : List Event) (s : ScanValue) (at steps : ℕ)
    → IsAtEdge v start s at steps → IsAtEdge w start s at steps
edge_later v w z made start s at steps h = record {
  looks = looks_later v w start made h.looks;
  within = within_later v w z (makes_goes v w [] tt made) start s at steps h.within;
  reached = h.reached;
  room = omega (arith, ap (λ (y : Sizes). y.nodes) (makes_later v w [] made).sizes, h.room);
}

pub edge_room : (v : View) → IsLayout v.sizes → (start : List Event) (s : ScanValue) → IsScan s → (at steps : ℕ)
    → IsAtEdge v start s at steps → index_of at ≢ nowhere → length s.edges < s.nodes
edge_room v z start s is at steps h some =
    let less = room_for_edge v z start s h.looks.kept h.looks.quiet h.looks.opened is at steps h.within some in
    omega (arith, less, h.room)

every_all : (P : EdgeRow → Type 0) (xs : List EdgeRow) → Every P xs → All P xs
every_all P xs f k d low = every_at P xs k (get_or xs k d) f (get_at xs k d low)

-- a scan that is as it was, or has a row more for a target
module _ (s t : ScanValue) (target : Life) (key : ℕ) (row : Option ℕ) (pushed : IsPushedFor s t target key row) where
  pub longer : IsLonger s t
  longer = ⊎_elim (λ (same : t ≡ s). subst (IsLonger s) (sym same) (longer_same s))
      (λ (more : (t ≡ with_vertex s target key) × (row ≡ Some (length s.rows))). subst (IsLonger s) (sym more.0)
      (longer_vertex s target key)) pushed

  pub more_pushed : IsMore s t
  more_pushed = ⊎_elim (λ (same : t ≡ s). subst (IsMore s) (sym same) (more_same s))
      (λ (more : (t ≡ with_vertex s target key) × (row ≡ Some (length s.rows))). subst (IsMore s) (sym more.0)
      (more_vertex s target key)) pushed

  pub nodes_pushed : t.nodes ≡ s.nodes
  nodes_pushed = ⊎_elim (λ (same : t ≡ s). ap (λ (y : ScanValue). y.nodes) same)
      (λ (more : (t ≡ with_vertex s target key) × (row ≡ Some (length s.rows))). ap (λ (y : ScanValue). y.nodes) more.0)
      pushed

  -- an edge is pushed that leads to that row
  pub reached_pushed : IsScan t → (e : EdgeRow) → e.target ≡ row → 0 < s.next → s.next ≤ length s.rows
      → AreRowsReached s (length s.rows) → AreRowsReached (with_edge t e) (length (with_edge t e).rows)
  reached_pushed is e of begun inside reached =
      let next = longer.next in
      let begun_t : 0 < t.next = omega (arith, begun, next) in
      let same_length : length (with_edge t e).rows ≡ length t.rows = length-set t.rows (t.next - 1) (longer_row t) in
      subst (AreRowsReached (with_edge t e)) (sym same_length) (⊎_elim
      (λ (same : t ≡ s). reached_edge t is e begun_t (length t.rows) (omega arith)
      (subst (λ (y : ScanValue). AreRowsReached y (length y.rows)) (sym same) reached))
      (λ (more : (t ≡ with_vertex s target key) × (row ≡ Some (length s.rows))).
      let long : length t.rows ≡ length s.rows + 1 = ap (λ (y : ScanValue). length y.rows) more.0
      ∙ length-append s.rows (new_row target key ∷ []) in
      let old : AreRowsReached t (length s.rows) = subst (λ (y : ScanValue). AreRowsReached y (length s.rows))
      (sym more.0) (reached_vertex s target key (length s.rows) (omega arith) reached) in
      subst (AreRowsReached (with_edge t e)) (sym long) (reached_new t is e begun_t (length s.rows)
      (omega (arith, long)) (omega (arith, next, inside)) (of ∙ more.1) old)) pushed)

-- an edge that was loaded at a view, and what became of it at a later one
module _ (v w : View) (z : IsLayout v.sizes) (made : Makes v [] w) (s : ScanValue) (at : ℕ) (edge : LoadedEdge)
    (some : index_of at ≢ nowhere) (told : IsEdgeTold v at edge) where
  goes : GoesOn v w
  goes = makes_goes v w [] tt made

  pub passed : (start : List Event) (steps : ℕ) → IsAtEdge v start s at steps
      → IsFoundReplaced w edge.row.key edge.row.link → IsAtEdge w start s edge.row.link (steps + 1)
  passed start steps h found =
      let key : edge.row.key ≡ key_in v (index_of at) = told.loaded.key ∙ ap (key_in v) told.loaded.index in
      let word : word_at v.sizes v.front (link_at v.sizes (index_of at)) ≡ edge.row.link = ap
      (λ (i : ℕ). word_at v.sizes v.front (link_at v.sizes i)) (sym told.loaded.index) ∙ sym told.loaded.link in
      let later = edge_later v w z made start s at steps h in
      record {
        looks = later.looks;
        within = edge_passed v w z start s at steps edge.row.link h.within some word goes h.looks.kept
            (subst (λ (k : ℕ). IsFoundReplaced w k edge.row.link) key found);
        reached = h.reached;
        room = later.room;
      }

  module _ (t : ScanValue) (row : Option ℕ) (aim : IsAimed w s t edge row) where
    abbrev recorded_row : EdgeRow
    recorded_row = record edge.row { target = row }

    on : IsLonger s t
    on = longer s t edge.target edge.row.key row aim.pushed

    pub room_pushed : (start : List Event) (steps : ℕ) → IsAtEdge v start s at steps → IsScan s
        → length t.edges < t.nodes
    room_pushed start steps h is =
        let less = edge_room v z start s is at steps h some in
        let nodes = nodes_pushed s t edge.target edge.row.key row aim.pushed in
        omega (arith, less, nodes, ap (λ (l : List EdgeRow). length l) on.edges)

    pub target_inside : (n : ℕ) → row ≡ Some n → n < length t.rows
    target_inside n is = (aim.seen.row n is).0

    pub rising : (start : List Event) (steps : ℕ) → IsAtEdge v start s at steps
        → All (λ (e : EdgeRow). e.key < edge.row.key) (last_edges t)
    rising start steps h =
        let next : IsNextEdge v (last_row s).life (edges_of s (last_row s)) (index_of at) = ⊎_elim
        (λ (none : index_of at ≡ nowhere). absurd (some none))
        (λ (n : IsNextEdge v (last_row s).life (edges_of s (last_row s)) (index_of at)). n) h.within.onward in
        let key : edge.row.key ≡ key_in v (index_of at) = told.loaded.key ∙ ap (key_in v) told.loaded.index in
        let begun = h.within.begun in
        let inside = h.within.some in
        let old : last_row t ≡ last_row s = ap (λ (n : ℕ). row_at t (n - 1)) on.next
        ∙ on.same (s.next - 1) (omega (arith, begun, inside)) in
        let edges : last_edges t ≡ edges_of s (last_row s) = ap (edges_of t) old
        ∙ ap (λ (l : List EdgeRow). take (last_row s).count (drop (last_row s).first l)) on.edges in
        subst (All (λ (e : EdgeRow). e.key < edge.row.key)) (sym edges)
        (every_all (λ (e : EdgeRow). e.key < edge.row.key) (edges_of s (last_row s))
        (every_map (λ (e : EdgeRow). e.key < key_in v (index_of at)) (λ (e : EdgeRow). e.key < edge.row.key)
        (λ e less. omega (arith, less, key)) (edges_of s (last_row s)) next.above))

    pub grown : IsScan t → IsGrown s (with_edge t recorded_row)
    grown is = record {
      more = more_chain s t (with_edge t recorded_row)
          (more_pushed s t edge.target edge.row.key row aim.pushed) (more_edge t is recorded_row);
      nodes = nodes_pushed s t edge.target edge.row.key row aim.pushed;
      next = on.next;
    }

    pub recorded : IsScan t → (start : List Event) (steps : ℕ) → IsAtEdge v start s at steps → AreRowsMet w start t
        → IsAtEdge w start (with_edge t recorded_row) edge.row.link (steps + 1)
    recorded is start steps h rows =
        let later = edge_later v w z made start s at steps h in
        let loaded : IsEdgeLoaded v at recorded_row = record {
          index = told.loaded.index;
          link = told.loaded.link;
          tag = told.loaded.tag;
          key = told.loaded.key;
          weight = told.loaded.weight;
        } in
        record {
          looks = later.looks;
          within = edge_recorded v w z start s t is at steps recorded_row h.within some loaded goes on h.looks.kept rows
              aim.unreplaced (λ link linked. subst (IsTargetSeen t w.front recorded_row)
              (sym (told.target link linked)) aim.seen);
          reached = reached_pushed s t edge.target edge.row.key row aim.pushed is recorded_row refl h.within.begun
              h.within.some h.reached;
          room = omega (arith, later.room, nodes_pushed s t edge.target edge.row.key row aim.pushed);
        }
