-- What each push does to the graph of a scan.
use Rattle.std.proofs.Common.{◌≡◌, ℕ, zero, suc, ◌+◌, ◌-◌, ◌<◌, ◌≤◌, Bool, ◌||◌, List, [], ◌∷◌, ◌++◌, length, take}
use Rattle.std.proofs.Common.{drop, get_or, map, filter_map, Some, None, refl, sym, ap, ◌∙◌, arith, append_assoc}
use Rattle.std.proofs.Common.{append-nil, length-append}
use Rattle.std.specs.Prelude.{All, flat_map, option_map}
use Rattle.std.specs.List.{list_any, cons_option}
use Rattle.std.specs.Ordering.{nat_cmp, eq_by_cmp}
use Rattle.std.specs.Cmp.{nat_cmp_total}
use Rattle.std.specs.FinMap as finmap
use Rattle.std.specs.FinSet as set
use Rattle.std.proofs.Math.Bool.{or_comm, or-false}
use Rattle.std.proofs.Math.ListN as list
use Rattle.std.proofs.Math.Seq.{map-set_same}
use Rattle.std.proofs.lemmas.Grind.{flat_map-append}
use Rattle.std.proofs.lemmas.List.{map-append, take-append-le, drop-append-le, length-drop, take_all}
use Rattle.std.proofs.lemmas.List.Folds.{list_any-append}
use Rattle.std.proofs.lemmas.List.Elements.{filter_map-append, All-nil, All-cons, All-head, All-tail, All-append}
use Rattle.std.proofs.lemmas.List.Elements.{All-take, All-drop, All-from_get_or}
use Rattle.packed_link.specs.declared.link.Life.{Life}
use Rattle.graph_kinds.specs.Graph.{Graph, pair_cmp, weight_of}
use Rattle.graph_kinds.proofs.Graphs.{pair_same, pair_total}
use Rattle.scan_record.specs.declared.rows.VertexRow.{VertexRow}
use Rattle.scan_record.specs.declared.rows.EdgeRow.{EdgeRow}
use Rattle.scan_record.specs.Scan.{ScanValue, IsScan, row_at, edges_of, new_row, blank_life, blank_edge, with_vertex}
use Rattle.scan_record.specs.Scan.{with_started, with_edge}
use Rattle.scan_record.specs.ScanGraph.{pair_of, pairs_of, graph_of_scan}
use Rattle.scan_record.proofs.Places.{told_written}
use Rattle.scan_record.proofs.Starts.{started_row}
use Rattle.scan_record.proofs.Edges.{longer_row}
use Rattle.scan_record.proofs.Vertices.{row_at-with_vertex}

abbrev no_row : VertexRow
no_row = new_row blank_life 0

-- a set made of a list, with one element more at its end
from_list-push : (ks : List ℕ) (k : ℕ) → set.from_list {R = nat_cmp} (ks ++ k ∷ []) ≡ set.insert (set.from_list ks) k
from_list-push ks k =
    set.same_set nat_cmp_total set.nat_cmp-IsAntisymmetric _ _
    (λ q.
    let test : ℕ → Bool = eq_by_cmp nat_cmp q in
    set.contains-from_list nat_cmp_total (ks ++ k ∷ []) q
    ∙ list_any-append test ks (k ∷ [])
    ∙ ap (λ (b : Bool). list_any test ks || b) (or-false (test k))
    ∙ or_comm (list_any test ks) (test k)
    ∙ ap (λ (b : Bool). test k || b) (sym (set.contains-from_list nat_cmp_total ks q))
    ∙ sym (set.contains-insert nat_cmp_total (set.from_list ks) k q))

-- what is told alike of each row
flat_same : {X : Type 0} (f g : VertexRow → List X) → ((r : VertexRow) → f r ≡ g r) → (rs : List VertexRow)
    → flat_map f rs ≡ flat_map g rs
flat_same f g same [] = refl
flat_same f g same (r ∷ rs) = λ i. same r i ++ flat_same f g same rs i

-- a row is replaced by one of which the same is told
flat_written : {X : Type 0} (f : VertexRow → List X) (rs : List VertexRow) (n : ℕ) (r : VertexRow) → n < length rs
    → f r ≡ f (get_or rs n no_row) → flat_map f (list.set rs n r) ≡ flat_map f rs
flat_written f [] n r inside same = absurd (omega arith)
flat_written f (x ∷ xs) zero r inside same = ap (λ ys. ys ++ flat_map f xs) same
flat_written f (x ∷ xs) (suc n) r inside same = ap (λ ys. f x ++ ys) (flat_written f xs n r (omega arith) same)

flat_none : {X : Type 0} (f : VertexRow → List X) (rs : List VertexRow) →
    ((q : ℕ) → q < length rs → f (get_or rs q no_row) ≡ []) → flat_map f rs ≡ []
flat_none f [] none = refl
flat_none f (x ∷ xs) none = ap (λ ys. ys ++ flat_map f xs) (none 0 (omega arith)) ∙ flat_none f xs
    (λ q h. none (suc q) (omega arith))

-- more is told of one row, the same of those before, and nothing of those behind: so it comes at the end
flat_more : {X : Type 0} (f g : VertexRow → List X) (rs : List VertexRow) (n : ℕ) (r : VertexRow) (more : List X)
    → n < length rs
    → ((q : ℕ) → q < n → g (get_or rs q no_row) ≡ f (get_or rs q no_row)) → g r ≡ f (get_or rs n no_row) ++ more
    → ((q : ℕ) → n < q → q < length rs → (f (get_or rs q no_row) ≡ []) × (g (get_or rs q no_row) ≡ []))
    → flat_map g (list.set rs n r) ≡ flat_map f rs ++ more
flat_more f g [] n r more inside before here behind = absurd (omega arith)
flat_more f g (x ∷ xs) zero r more inside before here behind =
    let none_f : flat_map f xs ≡ [] = flat_none f xs (λ q h. (behind (suc q) (omega arith) (omega arith)).0) in
    let none_g : flat_map g xs ≡ [] = flat_none g xs (λ q h. (behind (suc q) (omega arith) (omega arith)).1) in
    ap (λ ys. g r ++ ys) none_g ∙ append-nil (g r) ∙ here
    ∙ ap (λ ys. ys ++ more) (sym (append-nil (f x)) ∙ ap (λ ys. f x ++ ys) (sym none_f))
flat_more f g (x ∷ xs) (suc n) r more inside before here behind =
    ap (λ ys. ys ++ flat_map g (list.set xs n r)) (before 0 (omega arith))
    ∙ ap (λ ys. f x ++ ys)
    (flat_more f g xs n r more (omega arith) (λ q h. before (suc q) (omega arith)) here
    (λ q h k. behind (suc q) (omega arith) (omega arith)))
    ∙ sym (append_assoc (f x) (flat_map f xs) more)

-- the target of an edge is a row
abbrev InRows : ScanValue → EdgeRow → Type 0
InRows s edge = (t : ℕ) → edge.target ≡ Some t → t < length s.rows

all_in_rows : (s : ScanValue) → IsScan s → (r : VertexRow) → All (InRows s) (edges_of s r)
all_in_rows s is r = All-take (InRows s) r.count (drop r.first s.edges)
    (All-drop (InRows s) r.first s.edges (All-from_get_or (InRows s) s.edges blank_edge
    (λ p h t e. is.targets_are_rows p t h e)))

-- edges have the same pairs where the rows keep their keys
pairs_alike : (s v : ScanValue) → ((t : ℕ) → t < length s.rows → (row_at v t).key ≡ (row_at s t).key) → (from : ℕ)
    (edges : List EdgeRow) → All (InRows s) edges → filter_map (pair_of v from) edges ≡ filter_map
    (pair_of s from) edges
pairs_alike s v keys from [] all = refl
pairs_alike s v keys from (edge ∷ edges) all =
    let later = pairs_alike s v keys from edges (All-tail (InRows s) edge edges all) in
    let inside = All-head (InRows s) edge edges all in
    elim edge.target as (λ o. edge.target ≡ o → cons_option (option_map
    (λ t. ((from, (row_at v t).key), edge.weight)) o) (filter_map (pair_of v from) edges)
    ≡ cons_option (option_map (λ t. ((from, (row_at s t).key), edge.weight)) o) (filter_map (pair_of s from) edges)) [
      | None ↦ λ _. later
      | Some t ↦ λ is. λ i. ((from, keys t (inside t is) i), edge.weight) ∷ later i
    ] refl

abbrev graph_by : List ℕ → List ((ℕ × ℕ) × ℕ) → Graph
graph_by ks ps = record { keys = set.from_list ks; pairs = finmap.from_entries ps }

abbrev key_of_vertex : VertexRow → ℕ
key_of_vertex row = row.key

pub graph-vertex : (s : ScanValue) (life : Life) (key : ℕ) → IsScan s → graph_of_scan (with_vertex s life key) ≡ record
    (graph_of_scan s) { keys = set.insert (graph_of_scan s).keys key }
graph-vertex s life key is =
    let v = with_vertex s life key in
    let keys : (t : ℕ) → t < length s.rows → (row_at v t).key ≡ (row_at s t).key = λ t h. ap key_of_vertex
    (row_at-with_vertex s life key t h) in
    let pairs : flat_map (pairs_of v) (s.rows ++ new_row life key ∷ []) ≡ flat_map (pairs_of s) s.rows =
    flat_map-append (pairs_of v) s.rows (new_row life key ∷ []) ∙ append-nil (flat_map (pairs_of v) s.rows)
    ∙ flat_same (pairs_of v) (pairs_of s) (λ r. pairs_alike s v keys r.key (edges_of s r) (all_in_rows s is r)) s.rows
    in
    ap (λ ps. graph_by (map key_of_vertex (s.rows ++ new_row life key ∷ [])) ps) pairs
    ∙ ap (λ (ks : set.FinSet nat_cmp). record (graph_of_scan s) { keys = ks })
    (ap (λ ks. set.from_list {R = nat_cmp} ks) (map-append key_of_vertex s.rows (new_row life key ∷ [])) ∙
    from_list-push
    (map key_of_vertex s.rows) key)

pub graph-started : (s : ScanValue) (k counter head : ℕ) → IsScan s → k < length s.rows → s.next ≤ k → graph_of_scan
    (with_started s k counter head) ≡ graph_of_scan s
graph-started s k counter head is inside later =
    let v = with_started s k counter head in
    let row = started_row s k counter head in
    let keys : (t : ℕ) → t < length s.rows → (row_at v t).key ≡
    (row_at s t).key = λ t h. told_written key_of_vertex s.rows k row no_row refl t in
    let none : pairs_of v (row_at s k) ≡ [] = ap (pairs_of v) (is.not_started k later inside) in
    let pairs : flat_map (pairs_of v) (list.set s.rows k row) ≡ flat_map (pairs_of s) s.rows =
    flat_written (pairs_of v) s.rows k row inside (sym none)
    ∙ flat_same (pairs_of v) (pairs_of s) (λ r. pairs_alike s v keys r.key (edges_of s r) (all_in_rows s is r)) s.rows
    in
    ap (λ ps. graph_by (map key_of_vertex (list.set s.rows k row)) ps) pairs
    ∙ ap (λ ks. graph_by ks (flat_map (pairs_of s) s.rows)) (map-set_same key_of_vertex s.rows k row no_row refl)

-- the pairs after a push of an edge: that of the edge, if it has a target, comes last
pairs-edge : (s : ScanValue) (edge : EdgeRow) → IsScan s → 0 < s.next → InRows s edge
    → flat_map (pairs_of (with_edge s edge)) (with_edge s edge).rows ≡ flat_map (pairs_of s) s.rows ++ filter_map
    (pair_of s (row_at s (s.next - 1)).key) (edge ∷ [])
pairs-edge s edge is some target =
    let v = with_edge s edge in
    let n : ℕ = s.next - 1 in
    let old = row_at s n in
    let row = longer_row s in
    let inside : n < length s.rows = omega (arith, is.started_are_rows) in
    let end : old.first + old.count ≡ length s.edges = is.last_ends some in
    let keys : (t : ℕ) → t < length s.rows → (row_at v t).key ≡
    (row_at s t).key = λ t h. told_written key_of_vertex s.rows n row no_row refl t in
    let whole : (e : List EdgeRow) → old.first + (old.count + 1) ≡ length e → take (old.count + 1)
    (drop old.first e) ≡ drop old.first e = λ e long. take_all (old.count + 1) (drop old.first e)
    (omega (arith, length-drop old.first e)) in
    let was : edges_of s old ≡ drop old.first s.edges = take_all old.count (drop old.first s.edges)
    (omega (arith, length-drop old.first s.edges)) in
    let now : edges_of v row ≡ edges_of s old ++ edge ∷ [] =
    whole (s.edges ++ edge ∷ []) (omega (arith, length-append s.edges (edge ∷ []))) ∙ drop-append-le old.first s.edges
    (edge ∷ []) (omega arith) ∙ ap (λ es. es ++ edge ∷ []) (sym was) in
    let kept : (q : ℕ) → q < length s.rows → edges_of v (row_at s q) ≡ edges_of s (row_at s q) = λ q h.
    let e = is.edges_end q h in
    ap (take (row_at s q).count) (drop-append-le (row_at s q).first s.edges (edge ∷ []) (omega arith))
    ∙ take-append-le (row_at s q).count (drop (row_at s q).first s.edges) (edge ∷ [])
    (omega (arith, length-drop (row_at s q).first s.edges)) in
    flat_more (pairs_of s) (pairs_of v) s.rows n row (filter_map (pair_of s old.key) (edge ∷ [])) inside
    (λ q h. ap (filter_map (pair_of v (row_at s q).key)) (kept q (omega arith)) ∙ pairs_alike s v keys (row_at s q).key
    (edges_of s (row_at s q)) (all_in_rows s is (row_at s q)))
    (ap (filter_map (pair_of v old.key)) now
    ∙ pairs_alike s v keys old.key (edges_of s old ++ edge ∷ [])
    (All-append (InRows s) (edges_of s old) (edge ∷ []) (all_in_rows s is old)
    (All-cons (InRows s) edge [] target (All-nil (InRows s))))
    ∙ filter_map-append (pair_of s old.key) (edges_of s old) (edge ∷ []))
    (λ q h k. (ap (pairs_of s) (is.not_started q (omega arith) k), ap (pairs_of v) (is.not_started q (omega arith) k)))

graph-edge_by : (s : ScanValue) (edge : EdgeRow) (ps : List ((ℕ × ℕ) × ℕ)) → IsScan s → 0 < s.next → InRows s edge
    → filter_map (pair_of s (row_at s (s.next - 1)).key) (edge ∷ []) ≡ ps
    → graph_of_scan (with_edge s edge) ≡ graph_by (map key_of_vertex s.rows) (flat_map (pairs_of s) s.rows ++ ps)
graph-edge_by s edge ps is some target told =
    let row = longer_row s in
    ap (λ qs. graph_by (map key_of_vertex (list.set s.rows (s.next - 1) row)) qs)
    (pairs-edge s edge is some target ∙ ap (λ qs. flat_map (pairs_of s) s.rows ++ qs) told)
    ∙ ap (λ ks. graph_by ks (flat_map (pairs_of s) s.rows ++ ps))
    (map-set_same key_of_vertex s.rows (s.next - 1) row no_row refl)

pub graph-edge : (s : ScanValue) (edge : EdgeRow) (t : ℕ) → IsScan s → 0 < s.next → edge.target ≡ Some t
    → t < length s.rows
    → weight_of (graph_of_scan s) (row_at s (s.next - 1)).key (row_at s t).key ≡ None
    → graph_of_scan (with_edge s edge) ≡ record (graph_of_scan s)
    { pairs = finmap.insert (graph_of_scan s).pairs ((row_at s (s.next - 1)).key, (row_at s t).key) edge.weight }
graph-edge s edge t is some told inside none =
    let from = (row_at s (s.next - 1)).key in
    let pair : ℕ × ℕ = (from, (row_at s t).key) in
    let ps = flat_map (pairs_of s) s.rows in
    let within : InRows s edge = λ u e. let same : Some t ≡ Some u = sym told
    ∙ e in let this : t ≡ u = cc in omega arith in
    let here : filter_map (pair_of s from) (edge ∷ []) ≡ (pair, edge.weight) ∷ [] = ap
    (λ o. cons_option (option_map (λ u. ((from, (row_at s u).key), edge.weight)) o) []) told in
    graph-edge_by s edge ((pair, edge.weight) ∷ []) is some within here
    ∙ ap (λ (m : finmap.FinMap pair_cmp ℕ). record (graph_of_scan s) { pairs = m })
    (finmap.from_entries_push pair_total pair_same ps pair edge.weight
    (sym (finmap.get-from_entries pair_total ps pair) ∙ none))

pub graph-edge_out : (s : ScanValue) (edge : EdgeRow) → IsScan s → 0 < s.next → edge.target ≡ None → graph_of_scan
    (with_edge s edge) ≡ graph_of_scan s
graph-edge_out s edge is some told =
    let from = (row_at s (s.next - 1)).key in
    let within : InRows s edge = λ u e. let same : None ≡ Some u = sym told ∙ e in absurd (cc) in
    let here : filter_map (pair_of s from) (edge ∷ []) ≡ [] = ap
    (λ o. cons_option (option_map (λ u. ((from, (row_at s u).key), edge.weight)) o) []) told in
    graph-edge_by s edge [] is some within here ∙ ap (λ ps. graph_by (map key_of_vertex s.rows) ps)
    (append-nil (flat_map (pairs_of s) s.rows))
