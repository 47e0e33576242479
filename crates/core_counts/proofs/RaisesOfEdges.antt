-- A caller that raises at most once for each edge, but for those that it gives up.
use Rattle.std.proofs.Common.{◌≡◌, ◌≢◌, ℕ, zero, suc, ◌+◌, ◌^◌, ◌≤◌, Bool, true, false, cond, ◌&&◌, List, [], ◌∷◌, ◌++◌}
use Rattle.std.proofs.Common.{length, Some, eqb, inl, inr, sym, ap, ◌∙◌, subst, arith}
use Rattle.std.specs.Prelude.{All, AllPairs, is_some}
use Rattle.packed_link.specs.Layout.{Sizes, IsLayout}
use Rattle.packed_link.specs.declared.link.Life.{Life}
use Rattle.core_journal.specs.declared.event.Event.{Event}
use Rattle.core_journal.specs.Event.{links_edge, raises}
use Rattle.core_journal.specs.Life.{edge_linked, edge_marked, link_of, vertex_marked}
use Rattle.core_journal.specs.Prefix.{IsPrefix}
use Rattle.core_journal.proofs.KeptLives.{edge_linked_more, edge_marked_more, link_more, vertex_marked_more}
use Rattle.core_journal.proofs.KeptLives.{linked-link}
use Rattle.core_kept.specs.Counts.{made, all_made}
use Rattle.core_kept.specs.Kept.{IsKept, IsQuiet}
use Rattle.core_kept.proofs.Callers.{made_none, made_quiet}
use Rattle.core_kept.proofs.PastLives.{count_snoc}
use Rattle.core_lists.proofs.FewEdges.{edges_are_links, edges_few}
use Rattle.core_counts.specs.Totals.{IsEdgeOver, IsNotOver, RaisesApart, RaisesOnce}

still_linked : (front rest : List Event) (xs : List Life) → All (λ (x : Life). edge_linked front x ≡ true) xs → All
    (λ (x : Life). edge_linked (front ++ rest) x ≡ true) xs
still_linked front rest xs h = λ i d low. edge_linked_more front rest _ (h i d low)

pub apart_opening : (caller : ℕ) → RaisesApart [] caller 0
apart_opening caller = record {
  edges = [];
  apart = λ i j d low high. absurd
      (omega (arith, high));
  linked = λ i d low. absurd (omega (arith, low));
  few = omega arith;
}

pub apart_others : (caller again last : ℕ) (front journal : List Event) → IsPrefix front journal → last ≤ length front
    → IsQuiet journal caller last → RaisesApart front caller again → RaisesApart journal caller again
apart_others caller again last front journal p old quiet a = record {
  edges = a.edges;
  apart = a.apart;
  linked = subst (λ (j : List Event). All (λ (x : Life). edge_linked j x ≡ true) a.edges) p.whole
      (still_linked front p.rest a.edges a.linked);
  few = let same = made_quiet raises caller last front journal p old quiet in let h = a.few in omega (arith, same, h);
}

pub apart_other : (caller again : ℕ) (past : List Event) (e : Event) → raises e.kind ≡ false
    → RaisesApart past caller again → RaisesApart (past ++ e ∷ []) caller again
apart_other caller again past e is a = record {
  edges = a.edges;
  apart = a.apart;
  linked = still_linked past (e ∷ []) a.edges a.linked;
  few = let same = made_none raises caller past e is in let h = a.few in omega (arith, same, h);
}

more_apart : (x : Life) (xs : List Life) → AllPairs ◌≢◌ xs → All (λ (y : Life). x ≢ y) xs → AllPairs ◌≢◌ (x ∷ xs)
more_apart x xs apart new = λ i j d low high. by i j d low high
  where
    by : AllPairs ◌≢◌ (x ∷ xs)
    by zero zero d low high = absurd (omega (arith, low))
    by zero (suc j) d low high = new j d (omega (arith, high))
    by (suc i) zero d low high = absurd (omega (arith, low))
    by (suc i) (suc j) d low high = apart i j d (omega (arith, low)) (omega (arith, high))

more_linked : (P : Life → Type 0) (x : Life) (xs : List Life) → P x → All P xs → All P (x ∷ xs)
more_linked P x xs p h = λ i d low. by i d low
  where
    by : All P (x ∷ xs)
    by zero d low = p
    by (suc i) d low = h i d (omega (arith, low))

at_most_one : (b : Bool) → cond b 1 0 ≤ 1
at_most_one true = omega arith
at_most_one false = omega arith

pub apart_raise : (caller again : ℕ) (past : List Event) (e : Event) (x : Life) → edge_linked past x ≡ true →
    (a : RaisesApart past caller again) → All (λ (y : Life). x ≢ y) a.edges → RaisesApart (past ++ e ∷ []) caller again
apart_raise caller again past e x is a new = record {
  edges = x ∷ a.edges;
  apart = more_apart x a.edges a.apart new;
  linked = more_linked (λ (y : Life). edge_linked (past ++ e ∷ []) y ≡ true) x a.edges
      (edge_linked_more past (e ∷ []) x is) (still_linked past (e ∷ []) a.edges a.linked);
  few = let most : made raises caller (past ++ e ∷ []) ≤ made raises caller past + 1 = omega (
    arith,
    count_snoc (λ (d : Event). raises d.kind && eqb d.caller caller) past e,
    at_most_one
        (raises e.kind && eqb e.caller caller),
  ) in let h = a.few in omega (arith, most, h);
}

-- an edge that's over stays so
over_more : (front rest : List Event) (x : Life) → IsEdgeOver front x → IsEdgeOver (front ++ rest) x
over_more front rest x (inl h) = inl (edge_marked_more front rest x h)
over_more front rest x (inr h) = inr record {
  link = h.link;
  linked = link_more front rest x h.link h.linked;
  marked =
      vertex_marked_more front rest h.link.source h.marked;
}

still_over : (front rest : List Event) (xs : List Life) → All (IsEdgeOver front) xs → All
    (IsEdgeOver (front ++ rest)) xs
still_over front rest xs h = λ i d low. over_more front rest _ (h i d low)

pub once_opening : (caller : ℕ) → RaisesOnce [] [] caller 0 []
once_opening caller = record {
  edges = [];
  apart = λ i j d low high. absurd
      (omega (arith, high));
  linked = λ i d low. absurd (omega (arith, low));
  over = λ i d low. absurd
      (omega (arith, low));
  few = omega arith;
}

pub once_stays : (caller again : ℕ) (held : List Life) (start front journal : List Event) → IsPrefix front journal
    → made raises caller journal ≡ made raises caller front → RaisesOnce start front caller again held
    → RaisesOnce start journal caller again held
once_stays caller again held start front journal p same a = record {
  edges = a.edges;
  apart = a.apart;
  linked = subst (λ (j : List Event). All (λ (x : Life). edge_linked j x ≡ true) (held ++ a.edges)) p.whole
      (still_linked front p.rest (held ++ a.edges) a.linked);
  over = a.over;
  few = let h = a.few in omega (arith, same, h);
}

value : (a b : Event) → Some a ≡ Some b → a ≡ b
value a b h = cc

-- one that isn't over differs from those that are
new_edge : (front rest : List Event) (x y : Life) → IsNotOver front (front ++ rest) x → IsEdgeOver front y → x ≢ y
new_edge front rest x y n (inl h) same = let t = sym n.unmarked ∙ (ap (edge_marked front) same ∙ h) in absurd (cc)
new_edge front rest x y n (inr h) same =
    let link : n.link ≡ h.link = value n.link h.link (sym n.linked ∙
    (ap (link_of (front ++ rest)) same ∙ link_more front rest y h.link h.linked)) in
    let t : false ≡ true = sym n.source ∙ (ap (λ (d : Event). vertex_marked front d.source) link ∙ h.marked) in
    absurd (cc)

-- what holds of two lists holds of both
all_both : (P : Life → Type 0) (xs ys : List Life) → All P xs → All P ys → All P (xs ++ ys)
all_both P [] ys a b = b
all_both P (x ∷ xs) ys a b = more_linked P x (xs ++ ys) (a zero x (omega arith))
    (all_both P xs ys (λ i d low. a (suc i) d (omega (arith, low))) b)

pub once_raise : (caller again : ℕ) (held : List Life) (start past : List Event) (e : Event) (x : Life)
    → IsPrefix start past → IsNotOver start past x → All (λ (y : Life). x ≢ y) held
    → RaisesOnce start past caller again held → RaisesOnce start (past ++ e ∷ []) caller again (x ∷ held)
once_raise caller again held start past e x p n new a =
    let most : made raises caller (past ++ e ∷ []) ≤ made raises caller past + 1 = omega (
      arith,
      count_snoc (λ (d : Event). raises d.kind && eqb d.caller caller) past e,
      at_most_one
          (raises e.kind && eqb e.caller caller),
    ) in
    let few = a.few in
    let there : edge_linked past x ≡ true = linked-link past x ∙ ap is_some n.linked in
    let at : IsNotOver start (start ++ p.rest) x = subst (λ (j : List Event). IsNotOver start j x) (sym p.whole) n in
    record {
      edges = a.edges;
      apart = more_apart x (held ++ a.edges) a.apart (all_both (λ (y : Life). x ≢ y) held a.edges new
          (λ i d low. new_edge start p.rest x _ at (a.over i d low)));
      linked = more_linked (λ (y : Life). edge_linked (past ++ e ∷ []) y ≡ true) x (held ++ a.edges)
          (edge_linked_more past (e ∷ []) x there) (still_linked past (e ∷ []) (held ++ a.edges) a.linked);
      over = a.over;
      few = omega (arith, most, few);
    }

still_there : (start journal : List Event) (xs : List Life) → IsPrefix start journal → All (IsEdgeOver start) xs → All
    (IsEdgeOver journal) xs
still_there start journal xs p h = subst (λ (j : List Event). All (IsEdgeOver j) xs) p.whole
    (still_over start p.rest xs h)

pub once_done : (caller again : ℕ) (held : List Life) (start journal : List Event) → IsPrefix start journal → All
    (IsEdgeOver journal) held → RaisesOnce start journal caller again held → RaisesOnce journal journal caller again []
once_done caller again held start journal p h a = record {
  edges = held ++ a.edges;
  apart = a.apart;
  linked = a.linked;
  over = all_both (IsEdgeOver journal) held a.edges h (still_there start journal a.edges p a.over);
  few = a.few;
}

less_apart : (x : Life) (xs : List Life) → AllPairs ◌≢◌ (x ∷ xs) → AllPairs ◌≢◌ xs
less_apart x xs h = λ i j d low high. h (suc i) (suc j) d (omega (arith, low)) (omega (arith, high))

less_linked : (P : Life → Type 0) (x : Life) (xs : List Life) → All P (x ∷ xs) → All P xs
less_linked P x xs h = λ i d low. h (suc i) d (omega (arith, low))

-- an edge that was raised for and isn't over may be raised for again
pub once_lost : (caller again : ℕ) (x : Life) (held : List Life) (start journal : List Event) → IsPrefix start journal
    → All (IsEdgeOver journal) held → RaisesOnce start journal caller again (x ∷ held)
    → RaisesOnce journal journal caller (again + 1) []
once_lost caller again x held start journal p h a = record {
  edges = held ++ a.edges;
  apart = less_apart x (held ++ a.edges) a.apart;
  linked = less_linked (λ (y : Life). edge_linked journal y ≡ true) x (held ++ a.edges) a.linked;
  over = all_both (IsEdgeOver journal) held a.edges h (still_there start journal a.edges p a.over);
  few = let g = a.few in omega (arith, g);
}

pub once_apart : (caller again : ℕ) (held : List Life) (start journal : List Event)
    → RaisesOnce start journal caller again held → RaisesApart journal caller again
once_apart caller again held start journal a = record {
  edges = held ++ a.edges;
  apart = a.apart;
  linked = a.linked;
  few
      = a.few;
}

pub once_links : (caller again : ℕ) (held : List Life) (start journal : List Event)
    → RaisesOnce start journal caller again held → made raises caller journal ≤ all_made links_edge journal + again
once_links caller again held start journal a = let few = a.few in let h = edges_are_links journal
    (held ++ a.edges) a.apart a.linked in omega (arith, few, h)

pub once_few : (sizes : Sizes) → IsLayout sizes → (start journal : List Event) → IsKept sizes journal →
    (caller again : ℕ) (held : List Life) → RaisesOnce start journal caller again held
    → made raises caller journal ≤ 2 ^ 36 + again
once_few sizes z start journal kept caller again held a = let few = a.few in let h = edges_few sizes z journal kept
    (held ++ a.edges) a.apart a.linked in omega (arith, few, h)
