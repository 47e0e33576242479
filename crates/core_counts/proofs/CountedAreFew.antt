-- The events of counted kinds, by kind, and how many there are at most.
use Rattle.std.proofs.Common.{◌≡◌, ℕ, zero, suc, ◌+◌, ◌-◌, ◌*◌, ◌<◌, ◌≤◌, Bool, true, false, cond, not, ◌&&◌, List, []}
use Rattle.std.proofs.Common.{◌∷◌, length, filter, drop, take, refl, arith}
use Rattle.std.specs.Prelude.{◌==◌}
use Rattle.packed_link.specs.Layout.{Sizes, IsLayout}
use Rattle.core_journal.specs.Event.{unlinks_vertex, unlinks_edge, pushes}
use Rattle.core_journal.specs.declared.event.Kind.{Kind}
use Rattle.core_journal.specs.declared.event.Kind.TheVariants.{DrawNumber, PopFree, StorePrivate, LinkVertex}
use Rattle.core_journal.specs.declared.event.Kind.TheVariants.{MarkVertex, UnlinkVertex, LinkEdge, Raise, MarkEdge}
use Rattle.core_journal.specs.declared.event.Kind.TheVariants.{UnlinkEdge, Announce, Withdraw, MoveEpoch, FreezeHead}
use Rattle.core_journal.specs.declared.event.Kind.TheVariants.{FreezeEdge, StoreFree, PushFree, ReplaceEdge}
use Rattle.core_journal.specs.declared.event.Event.{Event}
use Rattle.core_journal.specs.Event.{links_vertex, marks_vertex, links_edge, marks_edge, cuts_edge, replaces}
use Rattle.core_journal.specs.Event.{freezes_head}
use Rattle.core_journal.specs.Event.{counted}
use Rattle.core_journal.specs.Foreign.{foreign}
use Rattle.core_journal.specs.State.{state}
use Rattle.core_journal.specs.Event.{pops, links, raises}
use Rattle.core_kept.specs.Counts.{made, all_made}
use Rattle.core_kept.specs.Kept.{IsKept}
use Rattle.core_counts.specs.Totals.{total, RaisesApart}
use Rattle.core_counts.proofs.LivesGoOneWay.{one_way, given_taken}
use Rattle.core_counts.proofs.FewerOfEachLife.{fewer_in_all, fewer_cuts, fewer_cut}
use Rattle.core_counts.proofs.SumsOverCallers.{all_sum, total_times_more}
use Rattle.core_lists.proofs.FewEdges.{edges_are_links}

abbrev one : Bool → ℕ
one b = cond b 1 0

all_cons : (test : Kind → Bool) (e : Event) (es : List Event) → all_made test (e ∷ es) ≡ one
    (test e.kind) + all_made test es
all_cons test e es = by (test e.kind)
  where
    by : (b : Bool) → length (cond b (e ∷ filter (λ (d : Event). test d.kind) es)
        (filter (λ (d : Event). test d.kind) es)) ≡ cond b 1 0 + all_made test es
    by true = omega arith
    by false = omega arith

-- a kind is counted where it's one of these
parts : (k : Kind) → one (counted k) ≡ one (pops k) + one (pushes k) + one (links_vertex k) + one (marks_vertex k) + one
    (unlinks_vertex k) + one (freezes_head k) + one (links_edge k) + one (raises k) + one (marks_edge k) + one
    (unlinks_edge k)
parts DrawNumber = refl
parts PopFree = refl
parts StorePrivate = refl
parts LinkVertex = refl
parts MarkVertex = refl
parts UnlinkVertex = refl
parts LinkEdge = refl
parts Raise = refl
parts MarkEdge = refl
parts UnlinkEdge = refl
parts Announce = refl
parts Withdraw = refl
parts MoveEpoch = refl
parts FreezeHead = refl
parts FreezeEdge = refl
parts StoreFree = refl
parts PushFree = refl
parts ReplaceEdge = refl

-- an edge is marked by itself, or by the one that replaces it
cut_parts : (k : Kind) → one (cuts_edge k) ≡ one (marks_edge k) + one (replaces k)
cut_parts MarkEdge = refl
cut_parts FreezeEdge = refl
cut_parts ReplaceEdge = refl
cut_parts _ = refl

link_parts : (k : Kind) → one (links k) ≡ one (links_vertex k) + one (links_edge k)
link_parts LinkVertex = refl
link_parts LinkEdge = refl
link_parts ReplaceEdge = refl
link_parts _ = refl

counted_parts : (journal : List Event) → all_made counted journal ≡ all_made pops journal + all_made pushes journal +
    all_made links_vertex journal + all_made marks_vertex journal + all_made unlinks_vertex journal + all_made
    freezes_head journal + all_made links_edge journal + all_made raises journal + all_made marks_edge journal +
    all_made unlinks_edge journal
counted_parts [] = refl
counted_parts (e ∷ es) =
    let h = counted_parts es in
    let p = parts e.kind in
    omega (
      arith,
      h,
      p,
      all_cons counted e es,
      all_cons pops e es,
      all_cons pushes e es,
      all_cons links_vertex e es,
      all_cons marks_vertex e es,
      all_cons unlinks_vertex e es,
      all_cons freezes_head e es,
      all_cons links_edge e es,
      all_cons raises e es,
      all_cons marks_edge e es,
      all_cons unlinks_edge e es,
    )

links_parts : (journal : List Event) → all_made links journal ≡ all_made links_vertex journal + all_made links_edge
    journal
links_parts [] = refl
links_parts (e ∷ es) = let h = links_parts es in let p = link_parts e.kind in omega
    (arith, h, p, all_cons links e es, all_cons links_vertex e es, all_cons links_edge e es)

cuts_parts : (journal : List Event) → all_made cuts_edge journal ≡ all_made marks_edge journal + all_made replaces
    journal
cuts_parts [] = refl
cuts_parts (e ∷ es) = let h = cuts_parts es in let p = cut_parts e.kind in omega
    (arith, h, p, all_cons cuts_edge e es, all_cons marks_edge e es, all_cons replaces e es)

more_times : (n a b : ℕ) → a ≤ b → n * a ≤ n * b
more_times zero a b h = omega arith
more_times (suc n) a b h = let q = more_times n a b h in let s : suc n * a ≡ a + n * a = step n a in let t : suc n * b ≡
    b + n * b = step n b in omega (arith, q, s, t, h)
  where
    step : (n m : ℕ) → suc n * m ≡ m + n * m
    step n m = omega arith

module _ (sizes : Sizes) (z : IsLayout sizes) (journal : List Event) (kept : IsKept sizes journal) where
  pub links_few : all_made links journal ≤ all_made pops journal
  links_few = fewer_in_all links pops journal (λ x. (one_way sizes z journal kept x).linked)

  module _ (callers : ℕ) (drawn : (state sizes journal).drawn ≤ callers) (again : ℕ → ℕ)
      (raise : (i : ℕ) → i < callers → RaisesApart journal i (again i)) where
    pub raises_few : all_made raises journal ≤ callers * all_made links_edge journal + total again callers
    raises_few =
        let sum = all_sum sizes raises callers journal kept drawn in
        let most = total_times_more (λ (i : ℕ). made raises i journal) again (all_made links_edge journal) callers
        (λ i low. let r = raise i low in let h = edges_are_links journal r.edges r.apart r.linked in let g = r.few in
        omega (arith, h, g)) in
        omega (arith, sum, most)

    pub few_by_kinds : all_made counted journal + all_made replaces journal ≤ 2 * all_made pops journal + 4 * all_made
        links_vertex journal + (3 + callers) * all_made links_edge journal + total again callers
    few_by_kinds =
        let way = one_way sizes z journal kept in
        let a = fewer_in_all marks_vertex links_vertex journal (λ x. (way x).vertex_marked) in
        let b = fewer_in_all unlinks_vertex marks_vertex journal (λ x. (way x).vertex_unlinked) in
        let c = fewer_in_all freezes_head unlinks_vertex journal (λ x. (way x).closed) in
        let d = fewer_cuts links_edge journal (λ x. (way x).edge_marked) in
        let f = fewer_cut unlinks_edge journal (λ x. (way x).edge_unlinked) in
        let g = fewer_in_all pushes pops journal (given_taken sizes z journal kept) in
        let r = raises_few in
        let q : (3 + callers) * all_made links_edge journal ≡ 3 * all_made links_edge journal + callers * all_made
        links_edge journal = split callers (all_made links_edge journal) in
        omega (arith, counted_parts journal, cuts_parts journal, a, b, c, d, f, g, r, q)
      where
        split : (n m : ℕ) → (3 + n) * m ≡ 3 * m + n * m
        split n m = omega arith

    pub few_by_links : all_made counted journal ≤ 6 * all_made pops journal + callers *
        (all_made pops journal - all_made links_vertex journal) + total again callers
    few_by_links =
        let h = few_by_kinds in
        let l = links_few in
        let p = links_parts journal in
        let t = more_times callers (all_made links_edge journal) (all_made pops journal - all_made links_vertex journal)
        (omega (arith, l, p)) in
        let q : (3 + callers) * all_made links_edge journal ≡ 3 * all_made links_edge journal + callers * all_made
        links_edge journal = split callers (all_made links_edge journal) in
        omega (arith, h, l, p, t, q)
      where
        split : (n m : ℕ) → (3 + n) * m ≡ 3 * m + n * m
        split n m = omega arith

    pub few_by_takes : (uses : ℕ) → all_made pops journal ≤ uses → total again callers ≤ uses
        → all_made counted journal ≤ (callers + 8) * uses
    few_by_takes uses low less =
        let h = few_by_kinds in
        let l = links_few in
        let p = links_parts journal in
        let e : ℕ = all_made links_edge journal in
        let t = more_times callers (all_made links_edge journal) uses (omega (arith, l, p, low)) in
        let q : (3 + callers) * all_made links_edge journal ≡ 3 * all_made links_edge journal + callers * all_made
        links_edge journal = split callers (all_made links_edge journal) in
        let r : (callers + 8) * uses ≡ callers * uses + 8 * uses = other callers uses in
        omega (arith, h, l, p, low, less, t, q, r)
      where
        split : (n m : ℕ) → (3 + n) * m ≡ 3 * m + n * m
        split n m = omega arith

        other : (n m : ℕ) → (n + 8) * m ≡ n * m + 8 * m
        other n m = omega arith

times_more : (a b n : ℕ) → a ≤ b → a * n ≤ b * n
times_more a b zero h = omega arith
times_more a b (suc n) h = let q = times_more a b n h in let s : a * suc n ≡ a + a * n = step a n in let t : b * suc n ≡
    b + b * n = step b n in omega (arith, q, s, t, h)
  where
    step : (m k : ℕ) → m * suc k ≡ m + m * k
    step m k = omega arith

-- for the callers that drew their numbers, against any number of callers
pub few_of_callers : (sizes : Sizes) → IsLayout sizes → (journal : List Event) → IsKept sizes journal →
    (callers uses : ℕ) → (state sizes journal).drawn ≤ callers → (again : ℕ → ℕ) →
    ((i : ℕ) → i < (state sizes journal).drawn → RaisesApart journal i (again i)) → all_made pops journal ≤ uses
    → total again (state sizes journal).drawn ≤ uses → all_made counted journal ≤ (callers + 8) * uses
few_of_callers sizes z journal kept callers uses drawn again raise low less =
    let h = few_by_takes sizes z journal kept (state sizes journal).drawn (omega arith) again raise uses low less in
    let t = times_more ((state sizes journal).drawn + 8) (callers + 8) uses (omega (arith, drawn)) in
    omega (arith, h, t)

-- a part of the journal, and part of its kinds
taken_few : (test : Kind → Bool) (n : ℕ) (journal : List Event) → all_made test (take n journal) ≤ all_made test journal
taken_few test zero journal = omega arith
taken_few test (suc n) [] = omega arith
taken_few test (suc n) (e ∷ es) = omega (arith, all_cons test e (take n es), all_cons test e es, taken_few test n es)

dropped_few : (test : Kind → Bool) (n : ℕ) (journal : List Event) → all_made test
    (drop n journal) ≤ all_made test journal
dropped_few test zero journal = omega arith
dropped_few test (suc n) [] = omega arith
dropped_few test (suc n) (e ∷ es) = omega (arith, all_cons test e es, dropped_few test n es)

others_few : (caller : ℕ) (journal : List Event) → length (filter
    (λ (e : Event). counted e.kind && not (e.caller == caller)) journal) ≤ all_made counted journal
others_few caller [] = omega arith
others_few caller (e ∷ es) = by (counted e.kind) (not (e.caller == caller)) (others_few caller es)
  where
    by : (a b : Bool) → length (filter (λ (d : Event). counted d.kind && not (d.caller == caller)) es) ≤ all_made
        counted es → length (cond (a && b) (e ∷ filter (λ (d : Event). counted d.kind && not (d.caller == caller)) es)
        (filter (λ (d : Event). counted d.kind && not (d.caller == caller)) es)) ≤ length
        (cond a (e ∷ filter (λ (d : Event). counted d.kind) es) (filter (λ (d : Event). counted d.kind) es))
    by true true h = omega (arith, h)
    by true false h = omega (arith, h)
    by false b h = h

pub foreign_few : (journal : List Event) (caller start end : ℕ)
    → foreign journal caller start end ≤ all_made counted journal
foreign_few journal caller start end = omega (
  arith,
  others_few caller
      (drop start (take end journal)),
  dropped_few counted start (take end journal),
  taken_few counted end journal,
)
