-- How a part is collected, row by row and edge by edge, and that what stands at the end is the part.
use Rattle.std.proofs.Common.{◌≡◌, ℕ, zero, suc, ◌+◌, ◌-◌, ◌<◌, ◌≤◌, ◌==◌, ◌&&◌, ◌||◌, Bool, true, false, cond, List}
use Rattle.std.proofs.Common.{[], ◌∷◌, ◌++◌, length, get_or, take, drop, map, Option, Some, None, is_some, inl, inr}
use Rattle.std.proofs.Common.{refl, sym, ap, subst, arith, ◌∙◌, eqb-true, true≢false, length-drop, append_assoc}
use Rattle.std.proofs.Common.{append-nil}
use Rattle.std.proofs.Math.ListN.{set, length-set}
use Rattle.std.specs.Prelude.{All, find, option_map}
use Rattle.std.specs.declared.cmp.Ordering.TheVariants.{Less}
use Rattle.std.specs.Ordering.{nat_cmp, MatchOrdering}
use Rattle.std.specs.Cmp.{nat_cmp_total, ranks}
use Rattle.std.specs.List.{AllByRecursion, list_any}
use Rattle.std.specs.List.Sorted.{IsStrictlySortedBy}
use Rattle.std.specs.BTreeMap.{get, is_at}
use Rattle.std.specs.Map.{keys_of, lookup}
use Rattle.std.proofs.lemmas.Bool.{cases_lt}
use Rattle.std.proofs.lemmas.List.{get_or-set_same, get_or-set_other, drop-append-le, take-append-le, map-append}
use Rattle.std.proofs.lemmas.List.Elements.{All-nil, All-cons, All-head, All-tail, All-weaker, All-append, All-get_or}
use Rattle.std.proofs.lemmas.List.Elements.{All-take, All-drop}
use Rattle.std.proofs.lemmas.Map.Keys.{sorted_head, sorted_tail}
use Rattle.std.proofs.lemmas.Map.Views.{All-found}
use Rattle.graph_kinds.specs.Graph.{Graph, IsGraph, has, weight_of}
use Rattle.graph_kinds.specs.Path.{IsPath}
use Rattle.graph_kinds.specs.Part.{IsPart}
use Rattle.scan_record.specs.declared.rows.VertexRow.{VertexRow}
use Rattle.scan_record.specs.declared.rows.EdgeRow.{EdgeRow}
use Rattle.scan_record.specs.Scan.{ScanValue, IsScan, IsComplete, row_at, edges_of, last_edges, new_row, blank_life}
use Rattle.scan_record.specs.Scan.{blank_edge, empty_scan, with_started, with_edge}
use Rattle.scan_record.specs.ScanGraph.{graph_of_scan, leads_to, weight_to}
use Rattle.plain_graph.specs.Kept.{Edges, Vertices, Rises, graph_in_maps, holds, weight_by}
use Rattle.plain_graph.specs.declared.numbers.Numbers.{Numbers}
use Rattle.plain_graph.specs.Collecting.{IsNumbering, HasRowLives, with_key, MeetsKey, told, edge_list, edges_at}
use Rattle.plain_graph.specs.Collecting.{LeadsToRow, IsWithinReach, IsCollected}
use Rattle.plain_graph.proofs.Held.{has-held, weight-held}
use Rattle.plain_graph.proofs.Numbering.{itself, at_key, row_at-with_key, row_at-new_key, length-with_key}
use Rattle.plain_graph.proofs.Numbering.{numbering_kept}

pub indexed_more : (s : ScanValue) (key : ℕ) → HasRowLives s → HasRowLives (with_key s key)
indexed_more s key is k h =
    let long = length-with_key s key in
    elim (cases_lt k (length s.rows)) as (λ _. (row_at (with_key s key) k).life.index ≡ k) [
      | inl lt ↦ ap (λ r. r.life.index) (row_at-with_key s key k lt) ∙ is k lt
      | inr ge ↦ let last : length s.rows ≡ k = omega arith in ap (λ r. r.life.index) (row_at-new_key s key k last)
          ∙ last
    ]

-- a scan with one row more meets its key, and so does one that has it
pub meets_pushed : (s t : ScanValue) (key : ℕ) → t ≡ with_key s key → MeetsKey s t key
meets_pushed s t key is = subst (λ (v : ScanValue). MeetsKey s v key) (sym is) (record {
  longer = omega (arith, length-with_key s key);
  rows = row_at-with_key s key;
  fresh = λ k ge lt. (let last : length s.rows ≡ k = omega (arith, length-with_key s key) in ap
      (λ (r : VertexRow). r.key) (row_at-new_key s key k last));
  edges = refl;
  started = refl;
  next = refl;
  keys = refl;
  ends = refl;
})

pub meets_none : (s : ScanValue) (key : ℕ) → MeetsKey s s key
meets_none s key = record {
  longer = omega arith;
  rows = λ k h. refl;
  fresh = λ k ge lt. absurd (omega arith);
  edges = refl;
  started = refl;
  next = refl;
  keys = refl;
  ends = refl;
}

-- the root's row alone
pub collected_root : (m : Vertices) (numbers : Numbers) (s t : ScanValue) (root nodes : ℕ) → s ≡ empty_scan nodes
    → t ≡ with_key s root → holds m root ≡ true → IsNumbering numbers t → HasRowLives t → IsCollected m numbers t 0 0 ×
    ((row_at t 0).key ≡ root)
collected_root m numbers s t root nodes empty is held numbering indexed =
    let whole : t ≡ with_key (empty_scan nodes) root = is ∙ ap (λ v. with_key v root) empty in
    let one : length t.rows ≡ 1 = ap (λ (v : ScanValue). length v.rows) whole in
    let key : (row_at t 0).key ≡ root = ap (λ (v : ScanValue). (row_at v 0).key) whole in (
      record {
        some = omega arith;
        within = omega arith;
        numbering = numbering;
        indexed = indexed;
        reached = λ k h. (let first : k ≡ 0 = omega arith in
            record {
              path = root ∷ [];
              is_path = (
                sym key,
                sym key ∙ ap (λ n. (row_at t n).key)
                    (sym first),
                has-held m root ∙ held,
              );
            });
        next = ap (λ (v : ScanValue). v.next) whole;
        started = ap (λ (v : ScanValue). v.started) whole;
        done = λ k h. absurd (omega arith);
        targets = subst (All (LeadsToRow t)) (sym (ap (λ (v : ScanValue). v.edges) whole)) (All-nil (LeadsToRow t));
        no_keys = ap (λ (v : ScanValue). v.keys) whole;
        no_ends = ap (λ (v : ScanValue). v.ends) whole;
      },
      key,
    )

-- after a key is met that is reached
module _ (m : Vertices) (old new : Numbers) (s t : ScanValue) (key n at : ℕ) (meets : MeetsKey s t key)
    (p : IsCollected m old s n at) where
  pub root_met : (row_at t 0).key ≡ (row_at s 0).key
  root_met = ap (λ (r : VertexRow). r.key) (meets.rows 0 p.some)

  leads_met : (e : EdgeRow) → LeadsToRow s e → LeadsToRow t e
  leads_met e l = record {
    row = l.row;
    target = l.target;
    within = omega (arith, l.within, meets.longer);
    key = ap
        (λ (r : VertexRow). r.key) (meets.rows l.row l.within) ∙ l.key;
  }

  pub collected_met : IsNumbering new t → HasRowLives t → IsWithinReach m (row_at s 0).key key
      → IsCollected m new t n at
  collected_met numbering indexed reached = record {
    some = omega (arith, p.some, meets.longer);
    within = omega (arith, p.within, meets.longer);
    numbering = numbering;
    indexed = indexed;
    reached = λ k h. elim (cases_lt k (length s.rows)) as (λ _. IsWithinReach m (row_at t 0).key (row_at t k).key) [
      | inl lt ↦ subst (λ (x : ℕ). IsWithinReach m x (row_at t k).key) (sym root_met)
          (subst (λ (r : VertexRow). IsWithinReach m (row_at s 0).key r.key) (sym (meets.rows k lt)) (p.reached k lt))
      | inr ge ↦ subst (λ (x : ℕ). IsWithinReach m x (row_at t k).key) (sym root_met)
          (subst (IsWithinReach m (row_at s 0).key) (sym (meets.fresh k ge h)) reached)
    ];
    next = meets.next ∙ p.next;
    started = meets.started ∙ p.started;
    done = λ k h. (let lt : k < length s.rows = omega (arith, p.within) in
        (λ i. map told (take (meets.rows k lt i).count (drop (meets.rows k lt i).first (meets.edges i)))) ∙
        (p.done k h ∙ ap (λ (r : VertexRow). edges_at m r.key) (sym (meets.rows k lt))));
    targets = subst (All (LeadsToRow t)) (sym meets.edges) (All-weaker (LeadsToRow s)
        (LeadsToRow t) leads_met s.edges p.targets);
    no_keys = meets.keys ∙ p.no_keys;
    no_ends = meets.ends ∙ p.no_ends;
  }

-- a write of a row that keeps its key and its life
module _ (rows : List VertexRow) (r : ℕ) (v : VertexRow) (inside : r < length rows) where
  written : {A : Type 0} (f : VertexRow → A) → f v ≡ f (get_or rows r (new_row blank_life 0)) → (k : ℕ) → f
      (get_or (set rows r v) k (new_row blank_life 0)) ≡ f (get_or rows k (new_row blank_life 0))
  written f same k = by (k == r) refl
    where
      by : (t : Bool) → (k == r) ≡ t → f (get_or (set rows r v) k (new_row blank_life 0)) ≡ f
          (get_or rows k (new_row blank_life 0))
      by true e = let here : k ≡ r = eqb-true k r e in
          ap (λ n. f (get_or (set rows r v) n (new_row blank_life 0))) here ∙
          (ap f (get_or-set_same rows r v (new_row blank_life 0) inside) ∙
          (same ∙ ap (λ n. f (get_or rows n (new_row blank_life 0))) (sym here)))
      by false e = ap f (get_or-set_other rows r k v (new_row blank_life 0)
          (λ here. true≢false (sym (ap (λ n. n == r) here ∙ itself r) ∙ e)))

-- keys and lives of the rows stay, and so do the edges of the first n
record KeepsEdgesBelow (s t : ScanValue) (n : ℕ) : Type 0 where
  pub long : length t.rows ≡ length s.rows
  pub keys : (k : ℕ) → (row_at t k).key ≡ (row_at s k).key
  pub lives : (k : ℕ) → (row_at t k).life.index ≡ (row_at s k).life.index
  pub done : (k : ℕ) → k < n → edges_of t (row_at t k) ≡ edges_of s (row_at s k)

keeps_started : (s : ScanValue) (r : ℕ) → r < length s.rows → KeepsEdgesBelow s (with_started s r 0 0) r
keeps_started s r inside =
    let v = record (row_at s r) { counter = 0; head = 0; first = length s.edges; count = 0 } in
    record {
      long = length-set s.rows r v;
      keys = written s.rows r v inside (λ (x : VertexRow). x.key) refl;
      lives = written s.rows r v inside (λ (x : VertexRow). x.life.index) refl;
      done = λ k h. ap (edges_of s) (get_or-set_other s.rows r k v (new_row blank_life 0) (omega arith));
    }

keeps_edge : (s : ScanValue) (e : EdgeRow) (n : ℕ) → IsScan s → s.next ≡ n + 1 → n < length s.rows → KeepsEdgesBelow s
    (with_edge s e) n
keeps_edge s e n valid next inside =
    let r = s.next - 1 in
    let here : r < length s.rows = omega arith in
    let v = record (row_at s r) { count = (row_at s r).count + 1 } in
    record {
      long = length-set s.rows r v;
      keys = written s.rows r v here (λ (x : VertexRow). x.key) refl;
      lives = written s.rows r v here (λ (x : VertexRow). x.life.index) refl;
      done = λ k h.
          ap (edges_of (with_edge s e)) (get_or-set_other s.rows r k v (new_row blank_life 0) (omega arith))
          ∙ same_edges (row_at s k) (valid.edges_end k (omega arith));
    }
  where
    same_edges : (r : VertexRow) → r.first + r.count ≤ length s.edges → edges_of (with_edge s e) r ≡ edges_of s r
    same_edges r end =
        ap (take r.count) (drop-append-le r.first s.edges (e ∷ []) (omega arith))
        ∙ take-append-le r.count (drop r.first s.edges) (e ∷ []) (omega (arith, length-drop r.first s.edges))

module _ (m : Vertices) (numbers : Numbers) (s t : ScanValue) (n at : ℕ) (p : IsCollected m numbers s n at)
    (keeps : KeepsEdgesBelow s t n) where
  leads_kept : (e : EdgeRow) → LeadsToRow s e → LeadsToRow t e
  leads_kept e l = record {
    row = l.row;
    target = l.target;
    within = omega
        (arith, l.within, keeps.long);
    key = keeps.keys l.row ∙ l.key;
  }

  collected_kept : (later : ℕ) → t.next ≡ later → t.started ≡ later → t.keys ≡ s.keys → t.ends ≡ s.ends → All
      (LeadsToRow t) t.edges → IsCollected m numbers t n later
  collected_kept later next started keys ends targets = record {
    some = omega (arith, p.some, keeps.long);
    within = omega (arith, p.within, keeps.long);
    numbering = numbering_kept numbers s t keeps.long keeps.keys p.numbering;
    indexed = λ k h. keeps.lives k ∙ p.indexed k (omega (arith, keeps.long));
    reached = λ k h. subst (λ (x : ℕ). IsWithinReach m x (row_at t k).key) (sym (keeps.keys 0))
        (subst (IsWithinReach m (row_at s 0).key) (sym (keeps.keys k)) (p.reached k (omega (arith, keeps.long))));
    next = next;
    started = started;
    done = λ k h. ap (map told) (keeps.done k h) ∙ (p.done k h ∙ ap (edges_at m) (sym (keeps.keys k)));
    targets = targets;
    no_keys = keys ∙ p.no_keys;
    no_ends = ends ∙ p.no_ends;
  }

-- after the edges of a row were started
pub collected_started : (m : Vertices) (numbers : Numbers) (s : ScanValue) (r : ℕ) → IsCollected m numbers s r r
    → r < length s.rows
    → IsCollected m numbers (with_started s r 0 0) r (r + 1) ×
    ((row_at (with_started s r 0 0) 0).key ≡ (row_at s 0).key) ×
    ((row_at (with_started s r 0 0) r).key ≡ (row_at s r).key)
collected_started m numbers s r p inside =
    let keeps = keeps_started s r inside in (
      collected_kept m numbers s (with_started s r 0 0) r r p keeps (r + 1) refl (ap (λ n. n + 1) p.started) refl refl
          (All-weaker (LeadsToRow s) (LeadsToRow (with_started s r 0 0))
          (leads_kept m numbers s (with_started s r 0 0) r r p keeps) s.edges p.targets),
      keeps.keys 0,
      keeps.keys r,
    )

-- after an edge was pushed that leads to a row with its key
pub collected_edge : (m : Vertices) (numbers : Numbers) (s : ScanValue) (e : EdgeRow) (r : ℕ) → IsScan s
    → IsCollected m numbers s r (r + 1) → r < length s.rows → LeadsToRow s e
    → IsCollected m numbers (with_edge s e) r (r + 1) × ((row_at (with_edge s e) 0).key ≡ (row_at s 0).key) ×
    ((row_at (with_edge s e) r).key ≡ (row_at s r).key) × (length (with_edge s e).rows ≡ length s.rows)
collected_edge m numbers s e r valid p inside leads =
    let keeps = keeps_edge s e r valid p.next inside in
    let t = with_edge s e in
    let kept = leads_kept m numbers s t r (r + 1) p keeps in (
      collected_kept m numbers s t r (r + 1) p keeps (r + 1) p.next p.started refl refl
          (All-append (LeadsToRow t) s.edges (e ∷ []) (All-weaker (LeadsToRow s) (LeadsToRow t) kept s.edges p.targets)
          (All-cons (LeadsToRow t) e [] (kept e leads) (All-nil (LeadsToRow t)))),
      keeps.keys 0,
      keeps.keys r,
      keeps.long,
    )

-- after the last edge of a row
pub collected_row : (m : Vertices) (numbers : Numbers) (s : ScanValue) (r : ℕ) → IsCollected m numbers s r (r + 1)
    → r < length s.rows → map told (last_edges s) ≡ edges_at m (row_at s r).key → IsCollected m numbers s (r + 1)
    (r + 1)
collected_row m numbers s r p inside last = record {
  some = p.some;
  within = omega arith;
  numbering = p.numbering;
  indexed = p.indexed;
  reached = p.reached;
  next = p.next;
  started = p.started;
  done = λ k h. elim (cases_lt k r) as (λ _. map told (edges_of s (row_at s k)) ≡ edges_at m (row_at s k).key) [
    | inl lt ↦ p.done k lt
    | inr ge ↦
        let here : k ≡ r = omega arith in
        let at : s.next - 1 ≡ r = omega (arith, p.next) in
        subst (λ (n : ℕ). map told (edges_of s (row_at s n)) ≡ edges_at m (row_at s n).key) (sym here)
        (ap (λ n. map told (edges_of s (row_at s n))) (sym at) ∙ last)
  ];
  targets = p.targets;
  no_keys = p.no_keys;
  no_ends = p.no_ends;
}

-- what each element of a list is, the one in the middle is
pub in_middle : (P : ℕ × ℕ → Type 0) (xs : List (ℕ × ℕ)) (y : ℕ × ℕ) (zs whole : List (ℕ × ℕ)) → xs ++ y ∷ zs ≡ whole
    → All P whole → P y
in_middle P xs y zs whole is all = by xs (subst (All P) (sym is) all)
  where
    by : (xs : List (ℕ × ℕ)) → All P (xs ++ y ∷ zs) → P y
    by [] all = All-head P y zs all
    by (x ∷ xs) all = by xs (All-tail P x (xs ++ y ∷ zs) all)

key_in_middle : (P : ℕ → Type 0) (xs : List (ℕ × ℕ)) (y : ℕ × ℕ) (zs : List (ℕ × ℕ)) → AllByRecursion P
    (keys_of (xs ++ y ∷ zs)) → P y.0
key_in_middle P [] y zs all = all.0
key_in_middle P (x ∷ xs) y zs all = key_in_middle P xs y zs all.1

less_from_cmp : (x y : ℕ) → nat_cmp x y ≡ Less → x < y
less_from_cmp x y e = subst (λ r. MatchOrdering r (x < y) (x ≡ y) (y < x)) e (ranks x y)

-- the edges so far are below the next one
pub edges_below : (done : List EdgeRow) (e : ℕ × ℕ) (rest whole : List (ℕ × ℕ)) → IsStrictlySortedBy nat_cmp
    (keys_of whole) → map told done ++ e ∷ rest ≡ whole → All (λ x. x.key < e.0) done
edges_below [] e rest whole rising adds = All-nil (λ x. x.key < e.0)
edges_below (d ∷ done) e rest [] rising adds = absurd (cc)
edges_below (d ∷ done) e rest (w ∷ whole) rising adds =
    let head : told d ≡ w = cc in
    let tail : map told done ++ e ∷ rest ≡ whole = cc in
    let above = subst (λ (es : List (ℕ × ℕ)). AllByRecursion (λ y. nat_cmp w.0 y ≡ Less) (keys_of es)) (sym tail)
    (sorted_head nat_cmp w.0 (keys_of whole) rising) in
    let less = less_from_cmp w.0 e.0 (key_in_middle (λ y. nat_cmp w.0 y ≡ Less) (map told done) e rest above) in
    All-cons (λ x. x.key < e.0) d done (subst (λ (x : ℕ). x < e.0) (sym (ap (λ (p : ℕ × ℕ). p.0) head)) less)
    (edges_below done e rest whole (sorted_tail nat_cmp w.0 (keys_of whole) rising) tail)

-- one edge more was told
pub told_more : (done : List EdgeRow) (e : EdgeRow) (rest whole : List (ℕ × ℕ)) → map told done ++ told e ∷ rest ≡ whole
    → map told (done ++ e ∷ []) ++ rest ≡ whole
told_more done e rest whole is = ap (λ xs. xs ++ rest) (map-append told done (e ∷ [])) ∙
    (append_assoc (map told done) (told e ∷ []) rest ∙ is)

-- a path with one pair more
path_more : (g : Graph) (a b c : ℕ) (p : List ℕ) → IsPath g a b p → has g b ≡ true → has g c ≡ true → is_some
    (weight_of g b c) ≡ true → (q : List ℕ) × IsPath g a c q
path_more g a b c [] path b_key c_key pair = absurd path
path_more g a b c (x ∷ []) path b_key c_key pair = (
  a ∷ c ∷ [],
  (
    refl,
    subst (λ (y : ℕ). is_some (weight_of g y c) ≡ true) (sym path.1 ∙ path.0) pair,
    (refl, refl, c_key),
  ),
)
path_more g a b c (x ∷ y ∷ p) path b_key c_key pair =
    let rest = path_more g y b c (y ∷ p) path.2 b_key c_key pair in
    longer rest.0 rest.1
  where
    longer : (q : List ℕ) → IsPath g y c q → (q : List ℕ) × IsPath g a c q
    longer [] h = absurd h
    longer (z ∷ []) h = (
      x ∷ z ∷ [],
      (
        path.0,
        subst (λ (v : ℕ). is_some (weight_of g x v) ≡ true)
            (sym h.0) path.1,
        subst (λ (v : ℕ). IsPath g v c (z ∷ [])) (sym h.0) h,
      ),
    )
    longer (z ∷ v ∷ q) h = (
      x ∷ z ∷ v ∷ q,
      (
        path.0,
        subst (λ (v : ℕ). is_some (weight_of g x v) ≡ true)
            (sym h.0) path.1,
        subst (λ (u : ℕ). IsPath g u c (z ∷ v ∷ q)) (sym h.0) h,
      ),
    )

-- the target of an edge of a vertex that is reached
module _ (m : Vertices) (rises : Rises m) (sound : IsGraph (graph_in_maps m)) (a key : ℕ) (edges : Edges)
    (found : get nat_cmp m key ≡ Some edges) where
  looked_up : All (λ e. get nat_cmp edges e.0 ≡ Some e.1) edges.entries
  looked_up = All-found nat_cmp_total edges (rises.inner key edges found)

  module _ (done : List (ℕ × ℕ)) (e : ℕ × ℕ) (rest : List (ℕ × ℕ)) (is : done ++ e ∷ rest ≡ edges.entries) where
    weight_is : weight_of (graph_in_maps m) key e.0 ≡ Some e.1
    weight_is = weight-held m rises.outer key e.0 ∙ (ap (λ o. weight_by o e.0) found ∙ in_middle
        (λ e. get nat_cmp edges e.0 ≡ Some e.1) done e rest edges.entries is looked_up)

    pub edge_weighed : 1 ≤ e.1
    edge_weighed = sound.weighed key e.0 e.1 weight_is

    pub target_reached : IsWithinReach m a key → IsWithinReach m a e.0
    target_reached r =
        let more = path_more (graph_in_maps m) a key e.0 r.path r.is_path (sound.from_key key e.0 e.1 weight_is)
        (sound.to_key key e.0 e.1 weight_is) (ap (λ o. is_some o) weight_is) in
        record { path = more.0; is_path = more.1 }

-- ---- at the end

pub collected_is_complete : (m : Vertices) (numbers : Numbers) (s : ScanValue) → IsCollected m numbers s (length s.rows)
    (length s.rows) → IsComplete s
collected_is_complete m numbers s p = record {
  has_root = p.some;
  all_started = p.started;
  keys_differ = p.numbering.differ;
  target_keys = λ q t h e.
      let l = All-get_or (LeadsToRow s) s.edges q blank_edge h p.targets in
      let both : Some l.row ≡ Some t = sym l.target ∙ e in
      let equal : l.row ≡ t = cc in
      ap (λ n. (row_at s n).key) (sym equal) ∙ l.key;
}

-- among edge rows that lead to rows a target is found as among what they tell
weight_told : (s : ScanValue) (q : ℕ) (es : List EdgeRow) → All (LeadsToRow s) es → weight_to q es ≡ lookup
    (is_at (nat_cmp q)) (map told es)
weight_told s q [] all = refl
weight_told s q (e ∷ es) all =
    let rest = weight_told s q es (All-tail (LeadsToRow s) e es all) in
    let l = All-head (LeadsToRow s) e es all in
    let leads : leads_to q e ≡ (e.key == q) = ap (λ (o : Option ℕ). is_some o && (e.key == q)) l.target in
    ap (λ b. option_map (λ (x : EdgeRow). x.weight) (cond b (Some e) (find (leads_to q) es)))
    (leads ∙ sym (at_key q e.key))
    ∙ by (is_at (nat_cmp q) e.key) rest
  where
    by : (t : Bool) → weight_to q es ≡ lookup (is_at (nat_cmp q)) (map told es) → option_map (λ (x : EdgeRow). x.weight)
        (cond t (Some e) (find (leads_to q) es)) ≡ cond t (Some e.weight) (lookup (is_at (nat_cmp q)) (map told es))
    by true r = refl
    by false r = r

held_list : (o : Option Edges) (q : ℕ) → lookup (is_at (nat_cmp q)) (edge_list o) ≡ weight_by o q
held_list None q = refl
held_list (Some edges) q = refl

-- a key that some row has is the key of a row with a number
row_of_key : (q : ℕ) (rows : List VertexRow) → list_any (λ row. row.key == q) rows ≡ true → (k : ℕ) × (k < length rows)
    × ((get_or rows k (new_row blank_life 0)).key ≡ q)
row_of_key q [] some = absurd (cc)
row_of_key q (row ∷ rows) some = by (λ e. row_of_key q rows e) (row.key == q) refl some
  where
    by : (list_any (λ row. row.key == q) rows ≡ true → (k : ℕ) × (k < length rows) ×
        ((get_or rows k (new_row blank_life 0)).key ≡ q))
        → (t : Bool) → (row.key == q) ≡ t → (t || list_any (λ row. row.key == q) rows) ≡ true → (k : ℕ) ×
        (k < length (row ∷ rows)) × ((get_or (row ∷ rows) k (new_row blank_life 0)).key ≡ q)
    by later true e f = (zero, omega arith, eqb-true row.key q e)
    by later false e f = let r = later f in (suc r.0, omega (arith, r.1), r.2)

key_of_row : (rows : List VertexRow) (k : ℕ) → k < length rows → list_any
    (λ row. row.key == (get_or rows k (new_row blank_life 0)).key) rows ≡ true
key_of_row [] k h = absurd (omega arith)
key_of_row (row ∷ rows) zero h = ap (λ t. t || list_any (λ r. r.key == row.key) rows) (itself row.key)
key_of_row (row ∷ rows) (suc k) h =
    let key = (get_or rows k (new_row blank_life 0)).key in
    ap (λ t. (row.key == key) || t) (key_of_row rows k (omega arith)) ∙ elim (row.key == key) as
    (λ t. (t || true) ≡ true) [ true ↦ refl | false ↦ refl ]

module _ (m : Vertices) (numbers : Numbers) (s : ScanValue) (root : ℕ)
    (keys_law : (key : ℕ) → has (graph_of_scan s) key ≡ list_any (λ row. row.key == key) s.rows)
    (weights_law : (k key : ℕ) → k < length s.rows → weight_of (graph_of_scan s) (row_at s k).key key ≡ weight_to key
    (edges_of s (row_at s k)))
    (scan_sound : IsGraph (graph_of_scan s)) (rises : Rises m)
    (p : IsCollected m numbers s (length s.rows) (length s.rows)) (rooted : (row_at s 0).key ≡ root) where
  same_weights : (a b : ℕ) → has (graph_of_scan s) a ≡ true → weight_of (graph_of_scan s) a b ≡ weight_of
      (graph_in_maps m) a b
  same_weights a b there =
      let from = row_of_key a s.rows (sym (keys_law a) ∙ there) in
      let row = row_at s from.0 in
      ap (λ n. weight_of (graph_of_scan s) n b) (sym from.2)
      ∙ (weights_law from.0 b from.1
      ∙ (weight_told s b (edges_of s row) (All-take (LeadsToRow s) row.count (drop row.first s.edges)
      (All-drop (LeadsToRow s) row.first s.edges p.targets))
      ∙ (ap (lookup (is_at (nat_cmp b))) (p.done from.0 from.1)
      ∙ (ap (λ n. lookup (is_at (nat_cmp b)) (edges_at m n)) from.2
      ∙ (held_list (get nat_cmp m a) b ∙ sym (weight-held m rises.outer a b))))))

  -- a path from a key of the scan ends at one
  closed : (a b : ℕ) (path : List ℕ) → has (graph_of_scan s) a ≡ true → IsPath (graph_in_maps m) a b path → has
      (graph_of_scan s) b ≡ true
  closed a b [] there path = absurd path
  closed a b (x ∷ []) there path = ap (has (graph_of_scan s)) (sym path.1 ∙ path.0) ∙ there
  closed a b (x ∷ y ∷ path) there way =
      let from : has (graph_of_scan s) x ≡ true = ap (has (graph_of_scan s)) way.0 ∙ there in
      closed y b (y ∷ path) (step x y from (weight_of (graph_in_maps m) x y) refl way.1) way.2
    where
      step : (x y : ℕ) → has (graph_of_scan s) x ≡ true → (o : Option ℕ) → weight_of (graph_in_maps m) x y ≡ o → is_some
          (weight_of (graph_in_maps m) x y) ≡ true → has (graph_of_scan s) y ≡ true
      step x y from None e some = absurd (true≢false (sym some ∙ ap (λ o. is_some o) e))
      step x y from (Some w) e some = scan_sound.to_key x y w (same_weights x y from ∙ e)

  root_there : has (graph_of_scan s) root ≡ true
  root_there = keys_law root ∙ (ap (λ q. list_any (λ row. row.key == q) s.rows) (sym rooted)
      ∙ key_of_row s.rows 0 p.some)

  pub collected_is_part : IsPart (graph_in_maps m) root (graph_of_scan s)
  collected_is_part = record {
    keys = λ x. (
      λ there. (let from = row_of_key x s.rows (sym (keys_law x) ∙ there) in
          let r = p.reached from.0 from.1 in (
            r.path,
            subst (λ (b : ℕ). IsPath (graph_in_maps m) root b r.path) from.2
                (subst (λ (a : ℕ). IsPath (graph_in_maps m) a (row_at s from.0).key r.path) rooted r.is_path),
          )),
      λ way. closed root x way.0 root_there way.1,
    );
    pairs = λ x y w. (
      λ e. (let there = scan_sound.from_key x y w e in (there, sym (same_weights x y there) ∙ e)),
      λ h. same_weights x y h.0 ∙ h.1,
    );
  }

-- ---- while the edges of a row are pushed

-- the rows before number r are done, that row has the edges of its vertex but those of `rest`, and row 0 has the root
pub record IsInRow (m : Vertices) (numbers : Numbers) (s : ScanValue) (r key root : ℕ)
    (rest : List (ℕ × ℕ)) : Type 0 where
  pub collected : IsCollected m numbers s r (r + 1)
  pub rooted : (row_at s 0).key ≡ root
  pub inside : r < length s.rows
  pub keyed : (row_at s r).key ≡ key
  pub left : map told (last_edges s) ++ rest ≡ edges_at m key

pub row_begins : (m : Vertices) (numbers : Numbers) (s t : ScanValue) (r key : ℕ) (rest : List (ℕ × ℕ))
    → IsCollected m numbers s r r → r < length s.rows → t ≡ with_started s r 0 0 → last_edges t ≡ [] → key ≡
    (row_at s r).key → rest ≡ edges_at m key
    → IsInRow m numbers t r key (row_at s 0).key rest
row_begins m numbers s t r key rest p inside is none key_is all =
    let begun = collected_started m numbers s r p inside in
    record {
      collected = subst (λ (v : ScanValue). IsCollected m numbers v r (r + 1)) (sym is) begun.0;
      rooted = ap (λ (v : ScanValue). (row_at v 0).key) is ∙ begun.1;
      inside = subst (λ (v : ScanValue). r < length v.rows) (sym is)
          (omega (
            arith,
            length-set s.rows r (record (row_at s r)
                { counter = 0; head = 0; first = length s.edges; count = 0 }),
          ));
      keyed = ap (λ (v : ScanValue). (row_at v r).key) is ∙ (begun.2 ∙ sym key_is);
      left = ap (λ (es : List EdgeRow). map told es ++ rest) none ∙ all;
    }

module _ (m : Vertices) (rises : Rises m) (sound : IsGraph (graph_in_maps m)) (edges : Edges) (key : ℕ)
    (found : get nat_cmp m key ≡ Some edges) (r root : ℕ) where
  whole_is : (s : ScanValue) (rest : List (ℕ × ℕ)) → map told (last_edges s) ++ rest ≡ edges_at m key → map told
      (last_edges s) ++ rest ≡ edges.entries
  whole_is s rest left = left ∙ ap edge_list found

  pub row_meets : (old new : Numbers) (s t : ScanValue) (e : ℕ × ℕ) (rest : List (ℕ × ℕ)) → IsInRow m old s r key root
      (e ∷ rest) → MeetsKey s t e.0 → IsNumbering new t → HasRowLives t → IsInRow m new t r key root (e ∷ rest)
  row_meets old new s t e rest p meets numbering indexed =
      let from = subst (IsWithinReach m (row_at s 0).key) p.keyed (p.collected.reached r p.inside) in
      let reached = target_reached m rises sound (row_at s 0).key key edges found (map told (last_edges s)) e rest
      (whole_is s (e ∷ rest) p.left) from in
      let at : s.next - 1 ≡ r = omega (arith, p.collected.next) in
      let same : row_at t (t.next - 1) ≡ row_at s (s.next - 1) = ap (λ n. row_at t (n - 1)) meets.next ∙ meets.rows
      (s.next - 1) (subst (λ (n : ℕ). n < length s.rows) (sym at) p.inside) in
      record {
        collected = collected_met m old new s t e.0 r (r + 1) meets p.collected numbering indexed reached;
        rooted = root_met m old new s t e.0 r (r + 1) meets p.collected ∙ p.rooted;
        inside = omega (arith, p.inside, meets.longer);
        keyed = ap (λ (v : VertexRow). v.key) (meets.rows r p.inside) ∙ p.keyed;
        left = (λ i. map told (take (same i).count (drop (same i).first (meets.edges i))) ++ e ∷ rest) ∙ p.left;
      }

  pub row_pushes : (numbers : Numbers) (s t : ScanValue) (edge : EdgeRow) (e : ℕ × ℕ) (rest : List (ℕ × ℕ))
      → IsInRow m numbers s r key root (e ∷ rest) → IsScan s → LeadsToRow s edge → told edge ≡ e
      → t ≡ with_edge s edge → last_edges t ≡ last_edges s ++ edge ∷ [] → IsInRow m numbers t r key root rest
  row_pushes numbers s t edge e rest p valid leads tells is last =
      let pushed = collected_edge m numbers s edge r valid p.collected p.inside leads in
      record {
        collected = subst (λ (v : ScanValue). IsCollected m numbers v r (r + 1)) (sym is) pushed.0;
        rooted = ap (λ (v : ScanValue). (row_at v 0).key) is ∙ (pushed.1 ∙ p.rooted);
        inside = subst (λ (v : ScanValue). r < length v.rows) (sym is) (omega (arith, pushed.3, p.inside));
        keyed = ap (λ (v : ScanValue). (row_at v r).key) is ∙ (pushed.2 ∙ p.keyed);
        left = ap (λ (es : List EdgeRow). map told es ++ rest) last ∙ told_more (last_edges s) edge rest
            (edges_at m key) (ap (λ (x : ℕ × ℕ). map told (last_edges s) ++ x ∷ rest) tells ∙ p.left);
      }

  pub row_rises : (numbers : Numbers) (s : ScanValue) (e : ℕ × ℕ) (rest : List (ℕ × ℕ)) → IsInRow m numbers s r key root
      (e ∷ rest) → All (λ x. x.key < e.0) (last_edges s)
  row_rises numbers s e rest p = edges_below (last_edges s) e rest edges.entries (rises.inner key edges found)
      (whole_is s (e ∷ rest) p.left)

  pub row_weighed : (numbers : Numbers) (s : ScanValue) (e : ℕ × ℕ) (rest : List (ℕ × ℕ))
      → IsInRow m numbers s r key root (e ∷ rest) → 1 ≤ e.1
  row_weighed numbers s e rest p = edge_weighed m rises sound root key edges found (map told (last_edges s)) e rest
      (whole_is s (e ∷ rest) p.left)

pub row_ends : (m : Vertices) (numbers : Numbers) (s : ScanValue) (r key root : ℕ) → IsInRow m numbers s r key root []
    → IsCollected m numbers s (r + 1) (r + 1)
row_ends m numbers s r key root p = collected_row m numbers s r p.collected p.inside
    (sym (append-nil (map told (last_edges s))) ∙ (p.left ∙ ap (edges_at m) (sym p.keyed)))
