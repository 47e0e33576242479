-- The graph of a journal by its lives.
use Rattle.std.proofs.Common.{◌≡◌, ℕ, Bool, true, false, cond, ◌&&◌, ◌||◌, ◌==◌, List, [], ◌∷◌, ◌++◌, filter_map, find}
use Rattle.std.proofs.Common.{reverse, Option, Some, None, ◌⊎◌, inl, inr, refl, sym, ap, ◌∙◌, subst, true≢false, arith}
use Rattle.std.proofs.Common.{eqb-true}
use Rattle.std.specs.Prelude.{option_map, option_and_then}
use Rattle.std.specs.List.{list_any, cons_option}
use Rattle.std.specs.Ordering.{eq_by_cmp}
use Rattle.std.proofs.lemmas.List.{reverse-append}
use Rattle.graph_kinds.specs.Graph.{pair_cmp, has, weight_of}
use Rattle.graph_kinds.proofs.Calls.{and_left, and_right}
use Rattle.graph_kinds.proofs.Graphs.{pair_total}
use Rattle.graph_kinds.proofs.PathsLists.{In}
use Rattle.std.specs.Cmp.{tied_itself, Equal-is}
use Rattle.packed_link.specs.declared.link.Life.{Life}
use Rattle.core_journal.specs.declared.event.Event.{Event}
use Rattle.core_journal.specs.Event.{same_life, links_vertex, links_edge}
use Rattle.core_journal.specs.Life.{vertex_marked, edge_marked, key_of, link_of}
use Rattle.core_journal.specs.GraphOf.{both, weighed, present_key, pair_between, present_pair, key_by, pair_by}
use Rattle.core_journal.specs.GraphOf.{graph_of}
use Rattle.core_journal.proofs.Snoc.{same_is}
use Rattle.core_journal.proofs.GraphRows.{has-graph, weight-graph, sought, tied}

equal : (n : ℕ) → (n == n) ≡ true
equal n = grind arith

if_some : {A : Type 0} (b : Bool) (o : Option A) (x : A) → cond b None o ≡ Some x → (b ≡ false) × (o ≡ Some x)
if_some true o x e = absurd (cc)
if_some false o x e = (refl, e)

when_some : {A : Type 0} (b : Bool) (o : Option A) (x : A) → cond b o None ≡ Some x → (b ≡ true) × (o ≡ Some x)
when_some true o x e = (refl, e)
when_some false o x e = absurd (cc)

-- a present vertex life has its key
pub present_is : (journal : List Event) (x : Life) (k : ℕ) → present_key journal x ≡ Some k →
    (vertex_marked journal x ≡ false) × (key_of journal x ≡ Some k)
present_is journal x k h = if_some (vertex_marked journal x) (key_of journal x) k h

-- what a present edge life is
pub record IsJoined (journal : List Event) (x : Life) (a b w : ℕ) : Type 0 where
  pub uncut : edge_marked journal x ≡ false
  pub link : Event
  pub is : link_of journal x ≡ Some link
  pub source : present_key journal link.source ≡ Some a
  pub target : present_key journal link.target ≡ Some b
  pub weight : link.weight ≡ w

-- a present edge life was linked, is unmarked, and has two present ends
pub joined_is : (journal : List Event) (x : Life) (a b w : ℕ) → present_pair journal x ≡ Some ((a, b), w)
    → IsJoined journal x a b w
joined_is journal x a b w h =
    let c = if_some (edge_marked journal x) (option_and_then (pair_between journal) (link_of journal x))
    ((a, b), w) h in
    by (link_of journal x) refl c.0 c.1
  where
    ends : (link : Event) → link_of journal x ≡ Some link → edge_marked journal x ≡ false → (s t : Option ℕ)
        → present_key journal link.source ≡ s → present_key journal link.target ≡ t
        → weighed link.weight (both s t) ≡ Some ((a, b), w) → IsJoined journal x a b w
    ends link is cut (Some c) (Some d) s t e =
        let from : (ℕ × ℕ) × ℕ = ((c, d), link.weight) in
        let to : (ℕ × ℕ) × ℕ = ((a, b), w) in
        let f : from ≡ to = cc in
        record {
          uncut = cut;
          link = link;
          is = is;
          source = s ∙ (λ i. Some (f i).0.0);
          target = t ∙
              (λ i. Some (f i).0.1);
          weight = λ i. (f i).1;
        }
    ends link is cut None t s u e = absurd (cc)
    ends link is cut (Some c) None s t e = absurd (cc)

    by : (o : Option Event) → link_of journal x ≡ o → edge_marked journal x ≡ false → option_and_then
        (pair_between journal) o ≡ Some ((a, b), w) → IsJoined journal x a b w
    by None is cut e = absurd (cc)
    by (Some link) is cut e = ends link is cut (present_key journal link.source)
        (present_key journal link.target) refl refl e

found_test : {A : Type 0} (test : A → Bool) (xs : List A) (d : A) → find test xs ≡ Some d → test d ≡ true
found_test test [] d e = absurd (cc)
found_test test (x ∷ xs) d e = elim (test x) as (λ b. test x ≡ b → cond b (Some x) (find test xs) ≡ Some d
    → test d ≡ true) [
      | true ↦ λ t f. let same : x ≡ d = cc in ap test (sym same) ∙ t
      | false ↦ λ t f. found_test test xs d f
    ] refl e

key_case : (f : Event → Option ℕ) (P : Type 0) (k : ℕ) (d : Event) → (f d ≡ Some k → P) → (ks : List ℕ) →
    (list_any (λ y. y == k) ks ≡ true → P) → (o : Option ℕ) → f d ≡ o → list_any (λ y. y == k) (cons_option o ks) ≡ true
    → P
key_case f P k d here ks rest None is e = rest e
key_case f P k d here ks rest (Some j) is e = elim (j == k) as
    (λ b. (j == k) ≡ b → (b || list_any (λ y. y == k) ks) ≡ true → P) [
      | true ↦ λ t g. here (is ∙ ap (λ (n : ℕ). Some n) (eqb-true j k t))
      | false ↦ λ t g. rest g
    ] refl e

-- a listed key is that of an event
key_listed : (f : Event → Option ℕ) (P : Type 0) (k : ℕ) → ((d : Event) → f d ≡ Some k → P) → (xs : List Event)
    → list_any (λ y. y == k) (filter_map f xs) ≡ true → P
key_listed f P k gives [] e = absurd (true≢false (sym e))
key_listed f P k gives (d ∷ xs) e = key_case f P k d (gives d) (filter_map f xs) (λ g. key_listed f P k gives xs g)
    (f d) refl e

-- the key of an event that is found is listed
key_found : (f : Event → Option ℕ) (k : ℕ) (test : Event → Bool) (d : Event) → f d ≡ Some k → (xs : List Event)
    → find test xs ≡ Some d → list_any (λ y. y == k) (filter_map f xs) ≡ true
key_found f k test d is [] e = absurd (cc)
key_found f k test d is (x ∷ xs) e = elim (test x) as (λ b. cond b (Some x) (find test xs) ≡ Some d → list_any
    (λ y. y == k) (filter_map f (x ∷ xs)) ≡ true) [
      | true ↦ λ g. let same : x ≡ d = cc in ap (λ o. list_any (λ y. y == k) (cons_option o (filter_map f xs)))
          (ap f same ∙ is) ∙ ap (λ b. b || list_any (λ y. y == k) (filter_map f xs)) (equal k)
      | false ↦ λ g. more (f x) (filter_map f xs) (key_found f k test d is xs g)
    ] e
  where
    more : (o : Option ℕ) (ks : List ℕ) → list_any (λ y. y == k) ks ≡ true → list_any (λ y. y == k)
        (cons_option o ks) ≡ true
    more None ks h = h
    more (Some j) ks h = ap (λ b. (j == k) || b) h ∙ or_true (j == k)
      where
        or_true : (b : Bool) → (b || true) ≡ true
        or_true true = refl
        or_true false = refl

-- a key of the graph is that of a present vertex life
pub life_of_key : (journal : List Event) (k : ℕ) → has (graph_of journal) k ≡ true → (x : Life) ×
    (present_key journal x ≡ Some k)
life_of_key journal k h = key_listed (key_by journal) ((x : Life) × (present_key journal x ≡ Some k)) k
    (λ d e. (d.life, (when_some (links_vertex d.kind) (present_key journal d.life) k e).1)) journal
    (sym (has-graph journal k) ∙ h)

-- the key of a present vertex life is one of the graph
pub key_of_life : (journal : List Event) (x : Life) (k : ℕ) → present_key journal x ≡ Some k → has
    (graph_of journal) k ≡ true
unfolding key_of
key_of_life journal x k h = by (find (λ (e : Event). links_vertex e.kind && same_life x e.life) journal) refl
    (present_is journal x k h).1
  where
    by : (o : Option Event) → find (λ (e : Event). links_vertex e.kind && same_life x e.life) journal ≡ o → option_map
        (λ (e : Event). e.key) o ≡ Some k → has (graph_of journal) k ≡ true
    by None is e = absurd (cc)
    by (Some d) is e =
        let t = found_test (λ (e : Event). links_vertex e.kind && same_life x e.life) journal d is in
        let links = and_left (links_vertex d.kind) (same_life x d.life) t in
        let same = same_is x d.life (and_right (links_vertex d.kind) (same_life x d.life) t) in
        has-graph journal k ∙ key_found (key_by journal) k (λ (e : Event). links_vertex e.kind && same_life x e.life) d
        (ap (λ b. cond b (present_key journal d.life) None) links ∙ (ap (present_key journal) (sym same) ∙ h)) journal
        is

pair_case : (f : Event → Option ((ℕ × ℕ) × ℕ)) (P : Type 0) (q : ℕ × ℕ) (w : ℕ) (d : Event) → (f d ≡ Some (q, w) → P) →
    (ps : List ((ℕ × ℕ) × ℕ)) → (sought q ps ≡ Some w → P) → (o : Option ((ℕ × ℕ) × ℕ)) → f d ≡ o → sought q
    (cons_option o ps) ≡ Some w → P
pair_case f P q w d here ps rest None is e = rest e
pair_case f P q w d here ps rest (Some p) is e = elim (eq_by_cmp pair_cmp q p.0) as
    (λ b. eq_by_cmp pair_cmp q p.0 ≡ b → cond b (Some p.1) (sought q ps) ≡ Some w → P) [
      | true ↦ λ t g. let v : p.1 ≡ w = cc in here (is ∙ (λ i. Some (sym (tied q p.0 t) i, v i)))
      | false ↦ λ t g. rest g
    ] refl e

pair_listed : (f : Event → Option ((ℕ × ℕ) × ℕ)) (P : Type 0) (q : ℕ × ℕ) (w : ℕ) →
    ((d : Event) → f d ≡ Some (q, w) → P) → (xs : List Event) → sought q (filter_map f xs) ≡ Some w → P
pair_listed f P q w gives [] e = absurd (cc)
pair_listed f P q w gives (d ∷ xs) e = pair_case f P q w d (gives d) (filter_map f xs)
    (λ g. pair_listed f P q w gives xs g) (f d) refl e

-- the weight of a pair of the graph is that of a present edge life
pub life_of_pair : (journal : List Event) (a b w : ℕ) → weight_of (graph_of journal) a b ≡ Some w → (x : Life) ×
    (present_pair journal x ≡ Some ((a, b), w))
life_of_pair journal a b w h = pair_listed (pair_by journal) ((x : Life) × (present_pair journal x ≡ Some ((a, b), w)))
    (a, b) w
    (λ d e. (d.life, (when_some (links_edge d.kind) (present_pair journal d.life) ((a, b), w) e).1)) (reverse journal)
    (sym (weight-graph journal a b) ∙ h)

pair_among : (f : Event → Option ((ℕ × ℕ) × ℕ)) (q : ℕ × ℕ) (w : ℕ) (d : Event) → f d ≡ Some (q, w) → (xs : List Event)
    → In d xs → (v : ℕ) × (sought q (filter_map f xs) ≡ Some v)
pair_among f q w d is [] h = absurd h
pair_among f q w d is (x ∷ xs) (inl same) = (
  w,
  ap (λ o. sought q (cons_option o (filter_map f xs))) (ap f same ∙ is)
      ∙ ap (λ b. cond b (Some w) (sought q (filter_map f xs))) ((Equal-is (pair_cmp q q)).1 (tied_itself pair_total q)),
)
pair_among f q w d is (x ∷ xs) (inr h) = more (f x) (filter_map f xs) (pair_among f q w d is xs h)
  where
    more : (o : Option ((ℕ × ℕ) × ℕ)) (ps : List ((ℕ × ℕ) × ℕ)) → (v : ℕ) × (sought q ps ≡ Some v) → (v : ℕ) ×
        (sought q (cons_option o ps) ≡ Some v)
    more None ps h = h
    more (Some p) ps h = elim (eq_by_cmp pair_cmp q p.0) as (λ b. (v : ℕ) × (cond b (Some p.1) (sought q ps) ≡ Some v))
        [ true ↦ (p.1, refl) | false ↦ h ]

among_last : (d : Event) (xs : List Event) (x : Event) → (x ≡ d) ⊎ In d xs → In d (xs ++ x ∷ [])
among_last d [] x (inl h) = inl h
among_last d [] x (inr h) = absurd h
among_last d (y ∷ ys) x (inl h) = inr (among_last d ys x (inl h))
among_last d (y ∷ ys) x (inr (inl h)) = inl h
among_last d (y ∷ ys) x (inr (inr h)) = inr (among_last d ys x (inr h))

among_reverse : (d : Event) (xs : List Event) → In d xs → In d (reverse xs)
among_reverse d [] h = absurd h
among_reverse d (x ∷ xs) (inl h) = subst (In d) (sym (reverse-append (x ∷ []) xs))
    (among_last d (reverse xs) x (inl h))
among_reverse d (x ∷ xs) (inr h) = subst (In d) (sym (reverse-append (x ∷ []) xs))
    (among_last d (reverse xs) x (inr (among_reverse d xs h)))

found_among : (test : Event → Bool) (xs : List Event) (d : Event) → find test xs ≡ Some d → In d xs
found_among test [] d e = absurd (cc)
found_among test (x ∷ xs) d e = elim (test x) as (λ b. cond b (Some x) (find test xs) ≡ Some d → In d (x ∷ xs)) [
  | true ↦ λ g. let same : x ≡ d = cc in inl same
  | false ↦ λ g. inr (found_among test xs d g)
] e

-- a present edge life has a pair of the graph
pub pair_of_life : (journal : List Event) (x : Life) (a b w : ℕ) → present_pair journal x ≡ Some ((a, b), w) → (v : ℕ) ×
    (weight_of (graph_of journal) a b ≡ Some v)
unfolding link_of
pair_of_life journal x a b w h =
    let j = joined_is journal x a b w h in
    let t = found_test (λ (e : Event). links_edge e.kind && same_life x e.life) journal j.link j.is in
    let links = and_left (links_edge j.link.kind) (same_life x j.link.life) t in
    let same = same_is x j.link.life (and_right (links_edge j.link.kind) (same_life x j.link.life) t) in
    let listed = pair_among (pair_by journal) (a, b) w j.link
    (ap (λ c. cond c (present_pair journal j.link.life) None) links ∙ (ap (present_pair journal) (sym same) ∙ h))
    (reverse journal)
    (among_reverse j.link journal (found_among (λ (e : Event). links_edge e.kind && same_life x e.life) journal j.link
    j.is)) in
    (listed.0, weight-graph journal a b ∙ listed.1)

-- the weight of the only present edge life of a pair
pub only_pair : (journal : List Event) (x : Life) (a b w : ℕ) → present_pair journal x ≡ Some ((a, b), w) →
    ((y : Life) (v : ℕ) → present_pair journal y ≡ Some ((a, b), v) → y ≡ x) → weight_of (graph_of journal) a b ≡ Some w
only_pair journal x a b w h only =
    let p = pair_of_life journal x a b w h in
    let y = life_of_pair journal a b p.0 p.1 in
    p.1 ∙ ap (λ (n : ℕ). Some n) (same_weight p.0 w (sym y.1 ∙ (ap (present_pair journal) (only y.0 p.0 y.1) ∙ h)))
  where
    same_weight : (v u : ℕ) → ◌≡◌ {A = Option ((ℕ × ℕ) × ℕ)} (Some ((a, b), v)) (Some ((a, b), u)) → v ≡ u
    same_weight v u f =
        let from : (ℕ × ℕ) × ℕ = ((a, b), v) in
        let to : (ℕ × ℕ) × ℕ = ((a, b), u) in
        let same : from ≡ to = cc in
        λ i. (same i).1

-- both ends of a pair of the graph are its keys
pub ends_there : (journal : List Event) (a b w : ℕ) → weight_of (graph_of journal) a b ≡ Some w →
    (has (graph_of journal) a ≡ true) × (has (graph_of journal) b ≡ true)
ends_there journal a b w h =
    let x = life_of_pair journal a b w h in
    let j = joined_is journal x.0 a b w x.1 in
    (key_of_life journal j.link.source a j.source, key_of_life journal j.link.target b j.target)
