-- Few edges are ever linked: a caller links no more than it took nodes.
use Rattle.std.proofs.Common.{◌≡◌, ◌≢◌, ℕ, zero, suc, ◌+◌, ◌^◌, ◌≤◌, Bool, true, false, cond, not, ◌&&◌, ◌||◌, List, []}
use Rattle.std.proofs.Common.{◌∷◌, ◌++◌, length, filter, refl, sym, ap, ◌∙◌, subst, arith}
use Rattle.std.specs.Prelude.{All, AllPairs}
use mathlib.Core.Logic.{dite}
use native.Mathlib.Decide.{ℕ_discrete}
use Rattle.graph_kinds.specs.History.{Every}
use Rattle.packed_link.specs.Layout.{Sizes, IsLayout}
use Rattle.packed_link.specs.declared.link.Life.{Life}
use Rattle.core_journal.specs.declared.event.Kind.{Kind}
use Rattle.core_journal.specs.declared.event.Kind.TheVariants.{PopFree, LinkEdge, ReplaceEdge}
use Rattle.core_journal.specs.declared.event.Event.{Event}
use Rattle.core_journal.specs.Event.{links_edge, same_life, pops}
use Rattle.core_journal.specs.Life.{edge_linked}
use Rattle.core_journal.specs.State.{Fresh, Linked, Node, State, put, joined_edge, state_by, state}
use Rattle.core_journal.proofs.Lists.{every_filter, every_map}
use Rattle.core_journal.proofs.Snoc.{same_is}
use Rattle.core_kept.specs.Counts.{made, all_made, most_pops}
use Rattle.core_kept.specs.Kept.{IsKept}
use Rattle.core_kept.specs.Nodes.{IsFreshWith}
use Rattle.core_kept.proofs.NoWrap.{all_few, made_most, pop_limit}
use Rattle.core_kept.proofs.Callers.{made_none, made_one, made_other}
use Rattle.core_kept.proofs.OwnFacts.{fresh_was}
use Rattle.core_lists.proofs.EventKeepsRest.{one_fresh}
use Rattle.core_kept.proofs.ReplaceCases.{new_edge_node}
use Rattle.core_kept.proofs.ByKind.{KeepsIn, put_case, put_same, handed_case, marked_state, all_in}

-- a caller took a node for each edge that it linked, and one more while it holds a fresh one
record IsPaid (caller : ℕ) (journal : List Event) (s : State) : Type 0 where
  pub linked : made links_edge caller journal ≤ made pops caller journal
  pub fresh : (x : ℕ) → (s.node x).mode ≡ Fresh → (s.node x).who ≡ caller
      → made links_edge caller journal + 1 ≤ made pops caller journal

-- an event that neither takes a node nor links an edge
paid_other : (sizes : Sizes) (caller : ℕ) (past : List Event) (e : Event) (k : Kind) → e.kind ≡ k → k ≢ PopFree
    → links_edge k ≡ false → pops k ≡ false → IsPaid caller past (state sizes past) → IsPaid caller (past ++ e ∷ [])
    (state_by k sizes e (state sizes past))
paid_other sizes caller past e k is other l p c =
    let links = made_none links_edge caller past e (ap links_edge is ∙ l) in
    let taken = made_none pops caller past e (ap pops is ∙ p) in
    record {
      linked = let h = c.linked in omega (arith, links, taken, h);
      fresh = λ x m w.
          let was = fresh_was k sizes e (state sizes past) caller x (λ h. absurd (other h)) m w in
          let h = c.fresh x was.0 was.1 in
          omega (arith, links, taken, h);
    }

-- the node of an edge that replaces another is fresh no more
unfresh_new : (sizes : Sizes) (e : Event) (s : State) → ((state_by ReplaceEdge sizes e s).node e.life.index).mode ≢
    Fresh
unfresh_new sizes e s =
    let j : State = joined_edge sizes e s in
    let v : Node = new_edge_node (s.node e.life.index) e s.count in
    let linked : (j.node e.life.index).mode ≡ Linked = ap (λ (n : Node). n.mode) (put_same e.life.index v s.node) in
    handed_case (λ (n : Node). n.mode ≢ Fresh) (marked_state j e.old.index)
    (j.node e.old.index).source.index e.life.index
    (put_case (λ (n : Node). n.mode ≢ Fresh) e.old.index (record (j.node e.old.index) { marked = true }) j.node
    e.life.index
    (λ same m. let t = ap (λ (i : ℕ). (j.node i).mode) same ∙ m in absurd (cc)) (λ _ m. absurd (cc)))
    (λ _ _ _ m. absurd (cc))

paid_step : (sizes : Sizes) (caller : ℕ) → KeepsIn sizes (λ (j : List Event) (s : State) (w : ℕ → ℕ). IsPaid caller j s)
paid_step sizes caller past e kept c PopFree is ok w a =
    let links = made_none links_edge caller past e (ap links_edge is) in
    dite (ℕ_discrete e.caller caller)
    (λ mine.
    let taken : made pops caller (past ++ e ∷ []) ≡ made pops caller past + 1 = subst
    (λ (n : ℕ). made pops n (past ++ e ∷ []) ≡ made pops n past + 1) mine (made_one pops past e (ap pops is)) in
    let h = c.linked in
    record { linked = omega (arith, links, taken, h); fresh = λ x _ _. omega (arith, links, taken, h) })
    (λ theirs.
    let taken = made_other pops caller past e theirs in
    record {
      linked = let h = c.linked in omega (arith, links, taken, h);
      fresh = λ x. put_case (λ (v : Node). v.mode ≡ Fresh → v.who ≡ caller → made links_edge caller
          (past ++ e ∷ []) + 1 ≤ made pops caller (past ++ e ∷ [])) e.life.index _ (state sizes past).node x
          (λ _ _ w. absurd (theirs w)) (λ _ m w. let h = c.fresh x m w in omega (arith, links, taken, h));
    })
paid_step sizes caller past e kept c ReplaceEdge is ok w a =
    let s : State = state sizes past in
    let taken = made_none pops caller past e (ap pops is) in
    dite (ℕ_discrete e.caller caller)
    (λ mine.
    let links : made links_edge caller (past ++ e ∷ []) ≡ made links_edge caller past + 1 = subst
    (λ (n : ℕ). made links_edge n (past ++ e ∷ []) ≡ made links_edge n past + 1) mine
    (made_one links_edge past e (ap links_edge is)) in
    let held : IsFreshWith sizes past caller e.life.index = record
    { fresh = ok.fresh.fresh; mine = ok.fresh.mine ∙ mine } in
    let h = c.fresh e.life.index held.fresh held.mine in
    record {
      linked = omega (arith, links, taken, h);
      fresh = λ x m q.
          let was = fresh_was ReplaceEdge sizes e s caller x (λ g. absurd (cc)) m q in
          let same : x ≡ e.life.index = one_fresh sizes past kept caller x e.life.index
          (record { fresh = was.0; mine = was.1 }) held in
          absurd (unfresh_new sizes e s (subst (λ (y : ℕ). ((state_by ReplaceEdge sizes e s).node y).mode ≡ Fresh) same
          m));
    })
    (λ theirs.
    let links = made_other links_edge caller past e theirs in
    record {
      linked = let h = c.linked in omega (arith, links, taken, h);
      fresh = λ x m q.
          let was = fresh_was ReplaceEdge sizes e s caller x (λ g. absurd (cc)) m q in
          let h = c.fresh x was.0 was.1 in
          omega (arith, links, taken, h);
    })
paid_step sizes caller past e kept c LinkEdge is ok w a =
    let s : State = state sizes past in
    let v : Node = record (s.node e.life.index) {
      mode = Linked;
      vertex = false;
      key = e.key;
      source = e.source;
      target
          = e.target;
      weight = e.weight;
      since = s.count + 1;
    } in
    let taken = made_none pops caller past e (ap pops is) in
    dite (ℕ_discrete e.caller caller)
    (λ mine.
    let links : made links_edge caller (past ++ e ∷ []) ≡ made links_edge caller past + 1 = subst
    (λ (n : ℕ). made links_edge n (past ++ e ∷ []) ≡ made links_edge n past + 1) mine
    (made_one links_edge past e (ap links_edge is)) in
    let held : IsFreshWith sizes past caller e.life.index = record
    { fresh = ok.fresh.fresh; mine = ok.fresh.mine ∙ mine } in
    let h = c.fresh e.life.index held.fresh held.mine in
    record {
      linked = omega (arith, links, taken, h);
      fresh = λ x m q.
          let was = fresh_was LinkEdge sizes e s caller x (λ g. absurd (cc)) m q in
          let same : x ≡ e.life.index = one_fresh sizes past kept caller x e.life.index
          (record { fresh = was.0; mine = was.1 }) held in
          let now : (put e.life.index v s.node e.life.index).mode ≡ Fresh = subst
          (λ (y : ℕ). (put e.life.index v s.node y).mode ≡ Fresh) same m in
          let no : Linked ≡ Fresh = sym (ap (λ (n : Node). n.mode) (put_same e.life.index v s.node)) ∙ now in
          absurd (cc);
    })
    (λ theirs.
    let links = made_other links_edge caller past e theirs in
    record {
      linked = let h = c.linked in omega (arith, links, taken, h);
      fresh = λ x m q.
          let was = fresh_was LinkEdge sizes e s caller x (λ g. absurd (cc)) m q in
          let h = c.fresh x was.0 was.1 in
          omega (arith, links, taken, h);
    })
paid_step sizes caller past e kept c k is ok w a = paid_other sizes caller past e k is (λ h. absurd (cc)) refl refl c

pub edges_paid : (sizes : Sizes) (journal : List Event) → IsKept sizes journal → (caller : ℕ)
    → made links_edge caller journal ≤ made pops caller journal
edges_paid sizes journal kept caller = (all_in sizes (λ (j : List Event) (s : State) (w : ℕ → ℕ). IsPaid caller j s)
    (paid_step sizes caller) (record { linked = omega arith; fresh = λ x m q. absurd (cc) }) journal kept).linked

-- lives that differ
abbrev Apart : List Life → Type 0
Apart [] = Unit {0}
Apart (x ∷ xs) = Every (λ y. x ≢ y) xs × Apart xs

every_of : {X : Type 0} (P : X → Type 0) (xs : List X) → All P xs → Every P xs
every_of P [] f = tt
every_of P (x ∷ xs) f = (f zero x (omega arith), every_of P xs (λ k d low. f (suc k) d (omega (arith, low))))

apart_of : (xs : List Life) → AllPairs ◌≢◌ xs → Apart xs
apart_of [] f = tt
apart_of (x ∷ xs) f = (
  every_of (λ y. x ≢ y) xs (λ k d low. f zero (suc k) d (omega arith) (omega (arith, low))),
  apart_of xs (λ i j d less low. f (suc i) (suc j) d (omega (arith, less)) (omega (arith, low))),
)

apart_filter : (test : Life → Bool) (xs : List Life) → Apart xs → Apart (filter test xs)
apart_filter test [] a = tt
apart_filter test (x ∷ xs) a = elim (test x) as (λ b. Apart (cond b (x ∷ filter test xs) (filter test xs))) [
  | true ↦ (every_filter (λ y. x ≢ y) (λ y. x ≢ y) test (λ y h _. h) xs a.0, apart_filter test xs a.1)
  | false ↦ apart_filter test xs a.1
]

-- none of them is this life
keeps_all : (z : Life) (xs : List Life) → Every (λ y. z ≢ y) xs → length
    (filter (λ x. not (same_life x z)) xs) ≡ length xs
keeps_all z [] h = refl
keeps_all z (x ∷ xs) h = by (same_life x z) refl (keeps_all z xs h.1)
  where
    by : (b : Bool) → same_life x z ≡ b → length (filter (λ x. not (same_life x z)) xs) ≡ length xs → length
        (cond (not b) (x ∷ filter (λ x. not (same_life x z)) xs) (filter (λ x. not (same_life x z)) xs)) ≡ length
        (x ∷ xs)
    by true e rest = absurd (h.0 (sym (same_is x z e)))
    by false e rest = omega (arith, rest)

-- at most one of them is this life
drops_one : (z : Life) (xs : List Life) → Apart xs → length xs ≤ length (filter (λ x. not (same_life x z)) xs) + 1
drops_one z [] a = omega arith
drops_one z (x ∷ xs) a = by (same_life x z) refl (drops_one z xs a.1)
  where
    by : (b : Bool) → same_life x z ≡ b → length xs ≤ length (filter (λ x. not (same_life x z)) xs) + 1 → length
        (x ∷ xs) ≤ length (cond (not b) (x ∷ filter (λ x. not (same_life x z)) xs)
        (filter (λ x. not (same_life x z)) xs)) + 1
    by true e rest = let all = keeps_all z xs (subst (λ (y : Life). Every (λ u. y ≢ u) xs) (same_is x z e) a.0) in omega
        (arith, all)
    by false e rest = omega (arith, rest)

-- as many events link edges as there are edges that were linked
edges_counted : (journal : List Event) (xs : List Life) → Apart xs → Every (λ x. edge_linked journal x ≡ true) xs
    → length xs ≤ all_made links_edge journal
edges_counted [] [] a h = omega arith
edges_counted [] (x ∷ xs) a h = let t = h.0 in absurd (cc)
edges_counted (e ∷ es) xs a h = by (λ ys p q. edges_counted es ys p q) (links_edge e.kind) refl
  where
    later : (b : Bool) (x : Life) → links_edge e.kind ≡ b → edge_linked (e ∷ es) x ≡ true →
        (b && same_life x e.life) ≡ false → edge_linked es x ≡ true
    later b x is t none = subst (λ (c : Bool). (c || edge_linked es x) ≡ true) none
        (subst (λ (c : Bool). ((c && same_life x e.life) || edge_linked es x) ≡ true) is t)

    other : (c : Bool) → not c ≡ true → (true && c) ≡ false
    other true t = absurd (cc)
    other false t = refl

    by : ((ys : List Life) → Apart ys → Every (λ x. edge_linked es x ≡ true) ys → length ys ≤ all_made links_edge es) →
        (b : Bool) → links_edge e.kind ≡ b → length xs ≤ length
        (cond (links_edge e.kind) (e ∷ filter (λ (d : Event). links_edge d.kind) es)
        (filter (λ (d : Event). links_edge d.kind) es))
    by more true is =
        let ys = filter (λ x. not (same_life x e.life)) xs in
        let rest = more ys (apart_filter (λ x. not (same_life x e.life)) xs a)
        (every_filter (λ x. edge_linked (e ∷ es) x ≡ true) (λ x. edge_linked es x ≡ true)
        (λ x. not (same_life x e.life)) (λ x t n. later true x is t (other (same_life x e.life) n)) xs h) in
        let one = drops_one e.life xs a in
        subst (λ (c : Bool). length xs ≤ length (cond c (e ∷ filter (λ (d : Event). links_edge d.kind) es)
        (filter (λ (d : Event). links_edge d.kind) es))) (sym is) (omega (arith, rest, one))
    by more false is =
        let rest = more xs a (every_map (λ x. edge_linked (e ∷ es) x ≡ true) (λ x. edge_linked es x ≡ true)
        (λ x t. later false x is t refl) xs h) in
        subst (λ (c : Bool). length xs ≤ length (cond c (e ∷ filter (λ (d : Event). links_edge d.kind) es)
        (filter (λ (d : Event). links_edge d.kind) es))) (sym is) rest

pub edges_are_links : (journal : List Event) (xs : List Life) → AllPairs ◌≢◌ xs → All
    (λ (x : Life). edge_linked journal x ≡ true) xs → length xs ≤ all_made links_edge journal
edges_are_links journal xs apart linked = edges_counted journal xs (apart_of xs apart)
    (every_of (λ x. edge_linked journal x ≡ true) xs linked)

pub edges_few : (sizes : Sizes) → IsLayout sizes → (journal : List Event) → IsKept sizes journal → (xs : List Life)
    → AllPairs ◌≢◌ xs → All (λ x. edge_linked journal x ≡ true) xs → length xs ≤ 2 ^ 36
edges_few sizes z journal kept xs apart linked =
    let counted = edges_are_links journal xs apart linked in
    let few = all_few sizes links_edge most_pops journal kept
    (λ i. let paid = edges_paid sizes journal kept i in let most = made_most sizes pops most_pops
    (pop_limit sizes) journal kept i in omega (arith, paid, most)) in
    omega (arith, counted, few, z.few_callers)
