-- What each kind of event does to the graph.
use Rattle.std.proofs.Common.{◌≡◌, ℕ, Bool, true, false, cond, not, ◌&&◌, ◌||◌, ◌==◌, List, [], ◌∷◌, ◌++◌, filter_map}
use Rattle.std.proofs.Common.{reverse, Option, Some, None, refl, sym, ap, ◌∙◌, true≢false, arith, eqb-true, ne_eqb, ◌⊎◌}
use Rattle.std.proofs.Common.{⊎_elim, inl, inr}
use Rattle.std.specs.Prelude.{option_map, option_and_then}
use Rattle.std.specs.List.{list_any, cons_option}
use Rattle.std.specs.Cmp.{nat_cmp_total, Equal-is}
use Rattle.std.specs.Ordering.{eq_by_cmp}
use Rattle.std.specs.FinMap as map
use Rattle.std.specs.FinMap.Entries as entry
use Rattle.std.specs.FinSet as set
use Rattle.graph_kinds.specs.Graph.{pair_cmp, has, weight_of}
use Rattle.graph_kinds.specs.Answer.{change, without}
use Rattle.graph_kinds.specs.History.{Every}
use Rattle.graph_kinds.specs.declared.call.Call.TheVariants.{AddVertex, RemoveVertex, AddEdge, RemoveEdge}
use Rattle.graph_kinds.proofs.Graphs.{pair_total, pair_same, pair_tied, has_cut, weight_cut, weight_kept}
use Rattle.graph_kinds.proofs.Graphs as graphs
use Rattle.graph_kinds.proofs.Calls.{and_left, and_right}
use Rattle.packed_link.specs.declared.link.Life.{Life}
use Rattle.core_journal.specs.declared.event.Event.{Event}
use Rattle.core_journal.specs.Event.{same_life, links_vertex, marks_vertex, links_edge, marks_edge, cuts_edge, replaces}
use Rattle.core_journal.specs.Event.{cut_life}
use Rattle.core_journal.specs.Life.{vertex_marked, edge_marked, key_of, link_of}
use Rattle.core_journal.specs.GraphOf.{both, weighed, present_key, pair_between, present_pair, key_by, pair_by}
use Rattle.core_journal.specs.GraphOf.{graph_of}
use Rattle.core_journal.specs.Changes.{is_idle, IsNewVertex, IsRemovedVertex, IsNewEdge, IsRemovedEdge, IsReplacing}
use Rattle.core_journal.specs.Changes.{IsReplacedEdge, IsFrozenEdge}
use Rattle.core_journal.proofs.Lists.{every_map}
use Rattle.core_journal.proofs.Snoc.{same_is, same_self, differs, filter_same, filter_each, filter_skip, filter_last}
use Rattle.core_journal.proofs.Snoc.{filter_reverse, every_reverse, none_found, find_last, idle_is, cuts_is, link_skip}
use Rattle.core_journal.proofs.Snoc.{link_else, marked_skip, marked_here, cut_skip, cut_else, cut_here, own_else}
use Rattle.core_journal.proofs.Snoc.{own_here, present_skip, present_else, between_skip}

-- an event after which each life is what it was leaves the graph
pub graph_stays : (past : List Event) (e : Event) → ((x : Life) → present_key (past ++ e ∷ []) x ≡ present_key past x) →
    ((x : Life) → present_pair (past ++ e ∷ []) x ≡ present_pair past x)
    → key_by past e ≡ None → pair_by past e ≡ None → graph_of (past ++ e ∷ []) ≡ graph_of past
unfolding graph_of
graph_stays past e keys pairs no_key no_pair =
    let k : filter_map (key_by (past ++ e ∷ [])) (past ++ e ∷ []) ≡ filter_map (key_by past) past =
    filter_same _ (key_by past) (λ d. ap (λ o. cond (links_vertex d.kind) o None) (keys d.life)) (past ++ e ∷ [])
    ∙ filter_skip (key_by past) past e no_key in
    let p : filter_map (pair_by (past ++ e ∷ [])) (reverse (past ++ e ∷ [])) ≡ filter_map (pair_by past)
    (reverse past) =
    filter_same _ (pair_by past) (λ d. ap (λ o. cond (links_edge d.kind) o None) (pairs d.life))
    (reverse (past ++ e ∷ []))
    ∙ (filter_reverse (pair_by past) past e ∙ ap (λ o. cons_option o (filter_map (pair_by past) (reverse past)))
    no_pair) in
    λ i. record { keys = set.from_list (k i); pairs = map.from_entries (p i) }

-- a kind that neither links nor marks
pub idle_graph : (past : List Event) (e : Event) → is_idle e.kind ≡ true → graph_of (past ++ e ∷ []) ≡ graph_of past
idle_graph past e h =
    let i = idle_is e.kind h in
    graph_stays past e (present_skip past e i.links i.marks)
    (λ x j. cond (cut_skip past e i.cuts x j) None (pair_in i.links i.marks (link_skip past e i.joins x j) j))
    (ap (λ b. cond b (present_key past e.life) None) i.links) (ap (λ b. cond b (present_pair past e.life) None) i.joins)
  where
    pair_in : (l : links_vertex e.kind ≡ false) → (m : marks_vertex e.kind ≡ false) → (o : Option Event)
        → option_and_then (pair_between (past ++ e ∷ [])) o ≡ option_and_then (pair_between past) o
    pair_in l m None = refl
    pair_in l m (Some link) = between_skip past e l m link

-- a pair is there for what links it found, where keys and pairs between them are what they were
pair_of_link : (past : List Event) (e : Event) → ((link : Event) → pair_between
    (past ++ e ∷ []) link ≡ pair_between past link) → (o : Option Event) → option_and_then
    (pair_between (past ++ e ∷ [])) o ≡ option_and_then (pair_between past) o
pair_of_link past e same None = refl
pair_of_link past e same (Some link) = same link

-- the pair of another edge than the marked one
pair_uncut : (past : List Event) (e : Event) → marks_edge e.kind ≡ true → (x : Life) → same_life x e.life ≡ false
    → present_pair (past ++ e ∷ []) x ≡ present_pair past x
pair_uncut past e cuts x h =
    let k = cuts_is e.kind cuts in
    λ i. cond (own_else past e cuts x h i) None ((ap (option_and_then (pair_between (past ++ e ∷ [])))
    (link_skip past e k.2 x) ∙ pair_of_link past e (between_skip past e k.0 k.1) (link_of past x)) i)

pair_cut : (past : List Event) (e : Event) → marks_edge e.kind ≡ true → present_pair (past ++ e ∷ []) e.life ≡ None
pair_cut past e cuts = ap (λ b. cond b None (option_and_then (pair_between (past ++ e ∷ []))
    (link_of (past ++ e ∷ []) e.life))) (own_here past e cuts)

-- an edge is marked whose pair isn't there
pub hidden_graph : (past : List Event) (e : Event) → marks_edge e.kind ≡ true → present_pair past e.life ≡ None
    → graph_of (past ++ e ∷ []) ≡ graph_of past
hidden_graph past e cuts hidden =
    let k = cuts_is e.kind cuts in
    graph_stays past e (present_skip past e k.0 k.1) (λ x. pair x (same_life x e.life) refl)
    (ap (λ b. cond b (present_key past e.life) None) k.0) (ap (λ b. cond b (present_pair past e.life) None) k.2)
  where
    pair : (x : Life) (b : Bool) → same_life x e.life ≡ b → present_pair (past ++ e ∷ []) x ≡ present_pair past x
    pair x false h = pair_uncut past e cuts x h
    pair x true h =
        let same = same_is x e.life h in
        ap (present_pair (past ++ e ∷ [])) same ∙ (pair_cut past e cuts ∙
        (sym hidden ∙ ap (present_pair past) (sym same)))

-- an edge whose source is marked has no pair
gone_source : (past : List Event) (x : Life) → ((link : Event) → link_of past x ≡ Some link
    → vertex_marked past link.source ≡ true) → present_pair past x ≡ None
gone_source past x gone = ap (cond (edge_marked past x) None) (by (link_of past x) refl) ∙ none (edge_marked past x)
  where
    none : (b : Bool) → cond {A = Option ((ℕ × ℕ) × ℕ)} b None None ≡ None
    none true = refl
    none false = refl

    by : (o : Option Event) → link_of past x ≡ o → option_and_then (pair_between past) o ≡ None
    by None is = refl
    by (Some link) is = ap (λ b. weighed link.weight (both (cond b None (key_of past link.source))
        (present_key past link.target))) (gone link is)

-- an edge is frozen whose source is marked
pub frozen_graph : (past : List Event) (e : Event) → IsFrozenEdge past e → graph_of (past ++ e ∷ []) ≡ graph_of past
frozen_graph past e f = hidden_graph past e (ap marks_edge f.kind) (gone_source past e.life f.gone)

-- a new vertex is linked: its key comes last of all
pub new_vertex_graph : (past : List Event) (e : Event) → IsNewVertex past e → graph_of (past ++ e ∷ []) ≡ change
    (graph_of past) (AddVertex e.key)
unfolding graph_of key_of
new_vertex_graph past e n =
    let keys : filter_map (key_by (past ++ e ∷ [])) (past ++ e ∷ []) ≡ filter_map (key_by past) past ++ e.key ∷ [] =
    filter_last (key_by (past ++ e ∷ [])) past e e.key here
    ∙ ap (λ (l : List ℕ). l ++ e.key ∷ []) (filter_each (key_by (past ++ e ∷ [])) (key_by past) past
    (every_map (λ (d : Event). (links_vertex d.kind && same_life e.life d.life) ≡ false)
    (λ (d : Event). key_by (past ++ e ∷ []) d ≡ key_by past d) (λ d h. old d (links_vertex d.kind) h) past none)) in
    let pairs : filter_map (pair_by (past ++ e ∷ [])) (reverse (past ++ e ∷ [])) ≡ filter_map (pair_by past)
    (reverse past) =
    filter_reverse (pair_by (past ++ e ∷ [])) past e
    ∙ (ap (λ k. cons_option (cond (links_edge k) (present_pair (past ++ e ∷ []) e.life) None)
    (filter_map (pair_by (past ++ e ∷ [])) (reverse past))) n.kind
    ∙ filter_same (pair_by (past ++ e ∷ [])) (pair_by past) (λ d. ap (λ o. cond (links_edge d.kind) o None)
    (pair d.life)) (reverse past)) in
    (λ j. record { keys = set.from_list (keys j); pairs = map.from_entries (pairs j) })
    ∙ (λ j. record {
      keys = set.from_list_push nat_cmp_total map.nat_cmp-IsAntisymmetric
          (filter_map (key_by past) past) e.key j;
      pairs = map.from_entries (filter_map (pair_by past) (reverse past));
    })
  where
    no_mark : marks_vertex e.kind ≡ false
    no_mark = ap marks_vertex n.kind

    not_found : (o : Option Event) → option_map (λ (d : Event). d.key) o ≡ None → o ≡ None
    not_found None h = refl
    not_found (Some d) h = absurd (cc)

    none : Every (λ (d : Event). (links_vertex d.kind && same_life e.life d.life) ≡ false) past
    none = none_found (λ (d : Event). links_vertex d.kind && same_life e.life d.life) past (not_found _ n.new)

    here : key_by (past ++ e ∷ []) e ≡ Some e.key
    here =
        let found = find_last (λ (d : Event). links_vertex d.kind && same_life e.life d.life) past e (not_found _ n.new)
        ((λ i. links_vertex (n.kind i) && same_self e.life i)) in
        (λ i. cond (links_vertex (n.kind i)) (cond ((marked_skip past e no_mark e.life ∙ n.unmarked) i) None
        (option_map (λ (d : Event). d.key) (found i))) None)

    flip : (x y : Life) → same_life x y ≡ false → same_life y x ≡ false
    flip x y h = differs y x (λ s. true≢false (sym (ap (same_life x) s ∙ same_self x) ∙ h))

    else : (x : Life) → same_life x e.life ≡ false → present_key (past ++ e ∷ []) x ≡ present_key past x
    else x h = present_else past e x h

    old : (d : Event) (b : Bool) → (b && same_life e.life d.life) ≡ false → cond b
        (present_key (past ++ e ∷ []) d.life) None ≡ cond b (present_key past d.life) None
    old d true h = else d.life (flip e.life d.life h)
    old d false h = refl

    joined : (x : Life) (o : Option Event) → link_of past x ≡ o → option_and_then
        (pair_between (past ++ e ∷ [])) o ≡ option_and_then (pair_between past) o
    joined x None is = refl
    joined x (Some link) is =
        let apart = n.unnamed x link is in
        λ i. weighed link.weight (both (else link.source (differs link.source e.life apart.0) i)
        (else link.target (differs link.target e.life apart.1) i))

    pair : (x : Life) → present_pair (past ++ e ∷ []) x ≡ present_pair past x
    pair x = λ i. cond (cut_skip past e (ap cuts_edge n.kind) x i) None
        ((ap (option_and_then (pair_between (past ++ e ∷ []))) (link_skip past e (ap links_edge n.kind) x) ∙ joined x
        (link_of past x) refl) i)

-- an edge is linked: its pair comes first of all, where there is one
new_pairs : (past : List Event) (e : Event) → IsNewEdge past e → filter_map (pair_by (past ++ e ∷ []))
    (reverse (past ++ e ∷ [])) ≡ cons_option (pair_between past e) (filter_map (pair_by past) (reverse past))
unfolding link_of
new_pairs past e n =
    filter_reverse (pair_by (past ++ e ∷ [])) past e
    ∙ (λ i. cons_option (here i) (filter_each (pair_by (past ++ e ∷ [])) (pair_by past) (reverse past)
    (every_reverse (λ d. pair_by (past ++ e ∷ []) d ≡ pair_by past d) past
    (every_map (λ (d : Event). (links_edge d.kind && same_life e.life d.life) ≡ false)
    (λ (d : Event). pair_by (past ++ e ∷ []) d ≡ pair_by past d) (λ d h. old d (links_edge d.kind) h) past none))
    i))
  where
    same : (link : Event) → pair_between (past ++ e ∷ []) link ≡ pair_between past link
    same link = between_skip past e (ap links_vertex n.kind) (ap marks_vertex n.kind) link

    none : Every (λ (d : Event). (links_edge d.kind && same_life e.life d.life) ≡ false) past
    none = none_found (λ (d : Event). links_edge d.kind && same_life e.life d.life) past n.new

    uncut : (x : Life) → edge_marked (past ++ e ∷ []) x ≡ edge_marked past x
    uncut x = cut_skip past e (ap cuts_edge n.kind) x

    here : pair_by (past ++ e ∷ []) e ≡ pair_between past e
    here =
        let found = find_last (λ (d : Event). links_edge d.kind && same_life e.life d.life) past e n.new
        (λ i. links_edge (n.kind i) && same_self e.life i) in
        (λ i. cond (links_edge (n.kind i)) (cond ((uncut e.life ∙ n.unmarked) i) None
        (option_and_then (pair_between (past ++ e ∷ [])) (found i))) None) ∙ same e

    flip : (x y : Life) → same_life x y ≡ false → same_life y x ≡ false
    flip x y h = differs y x (λ s. true≢false (sym (ap (same_life x) s ∙ same_self x) ∙ h))

    pair : (x : Life) → same_life x e.life ≡ false → present_pair (past ++ e ∷ []) x ≡ present_pair past x
    pair x h = λ i. cond (uncut x i) None ((ap (option_and_then (pair_between (past ++ e ∷ []))) (link_else past e x h)
        ∙ pair_of_link past e same (link_of past x)) i)

    old : (d : Event) (b : Bool) → (b && same_life e.life d.life) ≡ false → cond b
        (present_pair (past ++ e ∷ []) d.life) None ≡ cond b (present_pair past d.life) None
    old d true h = pair d.life (flip e.life d.life h)
    old d false h = refl

new_edge_keys : (past : List Event) (e : Event) → IsNewEdge past e → filter_map (key_by (past ++ e ∷ []))
    (past ++ e ∷ []) ≡ filter_map (key_by past) past
new_edge_keys past e n =
    filter_same _ (key_by past) (λ d. ap (λ o. cond (links_vertex d.kind) o None)
    (present_skip past e (ap links_vertex n.kind) (ap marks_vertex n.kind) d.life)) (past ++ e ∷ [])
    ∙ filter_skip (key_by past) past e (ap (λ k. cond (links_vertex k) (present_key past e.life) None) n.kind)

-- an edge is linked between present vertices
pub new_edge_graph : (past : List Event) (e : Event) (a b : ℕ) → IsNewEdge past e → present_key past e.source ≡ Some a
    → present_key past e.target ≡ Some b
    → graph_of (past ++ e ∷ []) ≡ change (graph_of past) (AddEdge a b e.weight)
unfolding graph_of
new_edge_graph past e a b n s t =
    let k = new_edge_keys past e n in
    let p = new_pairs past e n ∙ (λ i. cons_option (weighed e.weight (both (s i) (t i)))
    (filter_map (pair_by past) (reverse past))) in
    λ i. record { keys = set.from_list (k i); pairs = map.from_entries (p i) }

-- an edge is linked of which an end is not present
pub no_edge_graph : (past : List Event) (e : Event) → IsNewEdge past e → pair_between past e ≡ None → graph_of
    (past ++ e ∷ []) ≡ graph_of past
unfolding graph_of
no_edge_graph past e n gone =
    let k = new_edge_keys past e n in
    let p = new_pairs past e n ∙ ap (λ o. cons_option o (filter_map (pair_by past) (reverse past))) gone in
    λ i. record { keys = set.from_list (k i); pairs = map.from_entries (p i) }

-- the keys but one
abbrev keep_key : ℕ → Option ℕ → Option ℕ
keep_key key None = None
keep_key key (Some k) = cond (k == key) None (Some k)

-- the pairs that pass a test
abbrev keep_pair : (ℕ × ℕ → Bool) → Option ((ℕ × ℕ) × ℕ) → Option ((ℕ × ℕ) × ℕ)
keep_pair t None = None
keep_pair t (Some p) = cond (t p.0) (Some p) None

equal : (n : ℕ) → (n == n) ≡ true
equal n = grind arith

any_kept : (f g : Event → Option ℕ) (key : ℕ) → ((d : Event) → g d ≡ keep_key key (f d)) → (q : ℕ) (xs : List Event)
    → list_any (λ y. y == q) (filter_map g xs) ≡ (not (q == key) && list_any (λ y. y == q) (filter_map f xs))
any_kept f g key each q [] = no_and (not (q == key))
  where
    no_and : (b : Bool) → false ≡ (b && false)
    no_and true = refl
    no_and false = refl
any_kept f g key each q (d ∷ xs) =
    let rest = any_kept f g key each q xs in
    ap (λ o. list_any (λ y. y == q) (cons_option o (filter_map g xs))) (each d) ∙ by (f d) (filter_map f xs)
    (filter_map g xs) rest
  where
    case : (k : ℕ) (a b : Bool) → (k == key) ≡ a → (q == key) ≡ b → (ys zs : List ℕ) → list_any (λ y. y == q) zs ≡
        (not b && list_any (λ y. y == q) ys)
        → list_any (λ y. y == q) (cons_option (cond a None (Some k)) zs) ≡
        (not b && ((k == q) || list_any (λ y. y == q) ys))
    case k true true e f ys zs h = h
    case k true false e f ys zs h =
        let ne : (k == q) ≡ false = ne_eqb k q (λ s. true≢false (sym (ap (λ n. n == key) (sym s) ∙ e) ∙ f)) in
        h ∙ ap (λ t. t || list_any (λ y. y == q) ys) (sym ne)
    case k false true e f ys zs h =
        let ne : (k == q) ≡ false = ne_eqb k q (λ s. true≢false (sym (ap (λ n. n == key) s ∙ f) ∙ e)) in
        ap (λ t. t || list_any (λ y. y == q) zs) ne ∙ h
    case k false false e f ys zs h = ap (λ t. (k == q) || t) h

    by : (o : Option ℕ) (ys zs : List ℕ) → list_any (λ y. y == q) zs ≡ (not (q == key) && list_any (λ y. y == q) ys)
        → list_any (λ y. y == q) (cons_option (keep_key key o) zs) ≡
        (not (q == key) && list_any (λ y. y == q) (cons_option o ys))
    by None ys zs h = h
    by (Some k) ys zs h = case k (k == key) (q == key) refl refl ys zs h

-- what the list of pairs has for one
abbrev pub sought : ℕ × ℕ → List ((ℕ × ℕ) × ℕ) → Option ℕ
sought q ys = entry.find pair_cmp q ys

-- pairs that tie are one
pub tied : (p q : ℕ × ℕ) → eq_by_cmp pair_cmp p q ≡ true → p ≡ q
tied p q e = pair_same p q ((Equal-is (pair_cmp p q)).0 e)

find_kept : (f g : Event → Option ((ℕ × ℕ) × ℕ)) (t : ℕ × ℕ → Bool) → ((d : Event) → g d ≡ keep_pair t (f d)) →
    (q : ℕ × ℕ) (xs : List Event)
    → entry.find pair_cmp q (filter_map g xs) ≡ cond (t q) (entry.find pair_cmp q (filter_map f xs)) None
find_kept f g t each q [] = none (t q)
  where
    none : (b : Bool) → None ≡ cond {A = Option ℕ} b None None
    none true = refl
    none false = refl
find_kept f g t each q (d ∷ xs) =
    let rest = find_kept f g t each q xs in
    ap (λ o. entry.find pair_cmp q (cons_option o (filter_map g xs))) (each d) ∙ by (f d) (filter_map f xs)
    (filter_map g xs) rest
  where
    case : (p : (ℕ × ℕ) × ℕ) (a b : Bool) → t p.0 ≡ a → eq_by_cmp pair_cmp q p.0 ≡ b → (ys zs : List ((ℕ × ℕ) × ℕ))
        → sought q zs ≡ cond (t q) (sought q ys) None
        → sought q (cons_option (cond a (Some p) None) zs) ≡ cond (t q) (cond b (Some p.1) (sought q ys)) None
    case p true true e f ys zs h =
        let on : t q ≡ true = ap t (tied q p.0 f) ∙ e in
        ap (λ c. cond c (Some p.1) (sought q zs)) f ∙ sym (ap (λ c. cond c (Some p.1) None) on)
    case p true false e f ys zs h = ap (λ c. cond c (Some p.1) (sought q zs)) f ∙ h
    case p false true e f ys zs h =
        let off : t q ≡ false = ap t (tied q p.0 f) ∙ e in
        h ∙ (ap (λ c. cond c (sought q ys) None) off ∙ sym (ap (λ c. cond c (Some p.1) None) off))
    case p false false e f ys zs h = h

    by : (o : Option ((ℕ × ℕ) × ℕ)) (ys zs : List ((ℕ × ℕ) × ℕ)) → sought q zs ≡ cond (t q) (sought q ys) None
        → sought q (cons_option (keep_pair t o) zs) ≡ cond (t q) (sought q (cons_option o ys)) None
    by None ys zs h = h
    by (Some p) ys zs h = case p (t p.0) (eq_by_cmp pair_cmp q p.0) refl refl ys zs h

-- the keys of the graph are those of its list
pub has-graph : (journal : List Event) (q : ℕ) → has (graph_of journal) q ≡ list_any (λ y. y == q)
    (filter_map (key_by journal) journal)
unfolding graph_of
has-graph journal q = set.contains-from_list_nat (filter_map (key_by journal) journal) q

-- the weight of a pair is that of the edge that was linked last
pub weight-graph : (journal : List Event) (a b : ℕ) → weight_of (graph_of journal) a b ≡ entry.find pair_cmp (a, b)
    (filter_map (pair_by journal) (reverse journal))
unfolding graph_of
weight-graph journal a b = map.get-from_entries pair_total (filter_map (pair_by journal) (reverse journal)) (a, b)

-- the weights of the graph to which an edge is added
weight-added : (journal : List Event) (p : ℕ × ℕ) (w : ℕ) (c d : ℕ)
    → weight_of (change (graph_of journal) (AddEdge p.0 p.1 w)) c d ≡ cond (eq_by_cmp pair_cmp (c, d) p) (Some w)
    (entry.find pair_cmp (c, d) (filter_map (pair_by journal) (reverse journal)))
unfolding graph_of
weight-added journal p w c d = map.get-from_entries pair_total ((p, w) ∷ filter_map (pair_by journal) (reverse journal))
    (c, d)

-- a pair without this key
abbrev free_of : ℕ → ℕ × ℕ → Bool
free_of key p = not (p.0 == key) && not (p.1 == key)

both_kept : (key w : ℕ) (a b : Option ℕ) → weighed w (both (keep_key key a) (keep_key key b)) ≡ keep_pair (free_of key)
    (weighed w (both a b))
both_kept key w None b = refl
both_kept key w (Some a) None = by (a == key)
  where
    by : (t : Bool) → weighed w (both (cond t None (Some a)) None) ≡ None
    by true = refl
    by false = refl
both_kept key w (Some a) (Some b) = by (a == key) (b == key)
  where
    by : (s t : Bool) → weighed w (both (cond s None (Some a)) (cond t None (Some b))) ≡ cond (not s && not t)
        (Some ((a, b), w)) None
    by true t = refl
    by false true = refl
    by false false = refl

-- the only present vertex of its key is marked
pub removed_vertex_graph : (past : List Event) (e : Event) (key : ℕ) → IsRemovedVertex past e key → graph_of
    (past ++ e ∷ []) ≡ change (graph_of past) (RemoveVertex key)
removed_vertex_graph past e key r = graphs.same_graph (graph_of (past ++ e ∷ []))
    (without (graph_of past) key) keys weights
  where
    marks : marks_vertex e.kind ≡ true
    marks = ap marks_vertex r.kind

    gone : present_key (past ++ e ∷ []) e.life ≡ None
    gone = ap (λ b. cond b None (key_of (past ++ e ∷ []) e.life)) (marked_here past e marks)

    here : (y : Life) → y ≡ e.life → present_key (past ++ e ∷ []) y ≡ None
    here y same = ap (present_key (past ++ e ∷ [])) same ∙ gone

    keeps : (y : Life) → present_key (past ++ e ∷ []) y ≡ keep_key key (present_key past y)
    keeps y = by (present_key past y) refl
      where
        one : (k : ℕ) → k ≡ key → present_key past y ≡ Some k → y ≡ e.life
        one k same is = r.only y (is ∙ ap (λ (n : ℕ). Some n) same)

        apart : (k : ℕ) → (k == key) ≡ false → present_key past y ≡ Some k → same_life y e.life ≡ false
        apart k ne is = differs y e.life (λ same.
            let f : Some k ≡ Some key = sym is ∙ (ap (present_key past) same ∙ r.there) in
            let n : k ≡ key = cc in
            true≢false (sym (ap (λ j. j == key) n ∙ equal key) ∙ ne))

        case : (k : ℕ) (b : Bool) → (k == key) ≡ b → present_key past y ≡ Some k → present_key
            (past ++ e ∷ []) y ≡ cond b None (Some k)
        case k true eq is = here y (one k (eqb-true k key eq) is)
        case k false ne is = present_else past e y (apart k ne is) ∙ is

        absent : (b : Bool) → same_life y e.life ≡ b → present_key past y ≡ None → present_key (past ++ e ∷ []) y ≡ None
        absent true s is = here y (same_is y e.life s)
        absent false s is = present_else past e y s ∙ is

        by : (o : Option ℕ) → present_key past y ≡ o → present_key (past ++ e ∷ []) y ≡ keep_key key o
        by None is = absent (same_life y e.life) refl is
        by (Some k) is = case k (k == key) refl is

    key_kept : (d : Event) → key_by (past ++ e ∷ []) d ≡ keep_key key (key_by past d)
    key_kept d = elim (links_vertex d.kind) as (λ b. cond b (present_key (past ++ e ∷ []) d.life) None ≡ keep_key key
        (cond b (present_key past d.life) None)) [ true ↦ keeps d.life | false ↦ refl ]

    keys : (q : ℕ) → has (graph_of (past ++ e ∷ [])) q ≡ has (without (graph_of past) key) q
    keys q =
        has-graph (past ++ e ∷ []) q
        ∙ (ap (list_any (λ y. y == q)) (filter_skip (key_by (past ++ e ∷ [])) past e
        (ap (λ k. cond (links_vertex k) (present_key (past ++ e ∷ []) e.life) None) r.kind))
        ∙ (any_kept (key_by past) (key_by (past ++ e ∷ [])) key key_kept q past
        ∙ sym (has_cut (graph_of past).keys key q ∙ ap (λ b. not (q == key) && b) (has-graph past q))))

    between : (link : Event) → pair_between (past ++ e ∷ []) link ≡ keep_pair (free_of key) (pair_between past link)
    between link = (λ i. weighed link.weight (both (keeps link.source i) (keeps link.target i)))
        ∙ both_kept key link.weight (present_key past link.source) (present_key past link.target)

    pair : (x : Life) → present_pair (past ++ e ∷ []) x ≡ keep_pair (free_of key) (present_pair past x)
    pair x =
        (λ i. cond (cut_skip past e (ap cuts_edge r.kind) x i) None
        (option_and_then (pair_between (past ++ e ∷ [])) (link_skip past e (ap links_edge r.kind) x i)))
        ∙ by (edge_marked past x) (link_of past x)
      where
        by : (c : Bool) (o : Option Event) → cond c None (option_and_then (pair_between (past ++ e ∷ [])) o) ≡ keep_pair
            (free_of key) (cond c None (option_and_then (pair_between past) o))
        by true o = refl
        by false None = refl
        by false (Some link) = between link

    pair_kept : (d : Event) → pair_by (past ++ e ∷ []) d ≡ keep_pair (free_of key) (pair_by past d)
    pair_kept d = elim (links_edge d.kind) as (λ b. cond b (present_pair (past ++ e ∷ []) d.life) None ≡ keep_pair
        (free_of key) (cond b (present_pair past d.life) None)) [ true ↦ pair d.life | false ↦ refl ]

    weights : (a b : ℕ) → weight_of (graph_of (past ++ e ∷ [])) a b ≡ weight_of (without (graph_of past) key) a b
    weights a b =
        weight-graph (past ++ e ∷ []) a b
        ∙ (ap (entry.find pair_cmp (a, b)) (filter_reverse (pair_by (past ++ e ∷ [])) past e ∙ ap
        (λ k. cons_option (cond (links_edge k) (present_pair (past ++ e ∷ []) e.life) None)
        (filter_map (pair_by (past ++ e ∷ [])) (reverse past))) r.kind)
        ∙ (find_kept (pair_by past) (pair_by (past ++ e ∷ [])) (free_of key) pair_kept (a, b) (reverse past)
        ∙ sym (weight_kept (graph_of past).pairs (free_of key) a b ∙ ap (λ o. cond (free_of key (a, b)) o None)
        (weight-graph past a b))))

-- another pair than this one
abbrev other_than : ℕ → ℕ → ℕ × ℕ → Bool
other_than a b p = not ((p.0 == a) && (p.1 == b))

-- the only present edge of its pair is marked
pub removed_edge_graph : (past : List Event) (e : Event) (a b : ℕ) → IsRemovedEdge past e a b → graph_of
    (past ++ e ∷ []) ≡ change (graph_of past) (RemoveEdge a b)
removed_edge_graph past e a b r = graphs.same_graph (graph_of (past ++ e ∷ []))
    (change (graph_of past) (RemoveEdge a b)) keys weights
  where
    cuts : marks_edge e.kind ≡ true
    cuts = ap marks_edge r.kind

    turned : (c : Bool) → not c ≡ false → c ≡ true
    turned true h = refl
    turned false h = absurd (cc)

    is_pair : (p : ℕ × ℕ) → other_than a b p ≡ false → p ≡ (a, b)
    is_pair p h =
        let t = turned ((p.0 == a) && (p.1 == b)) h in
        let f = eqb-true p.0 a (and_left (p.0 == a) (p.1 == b) t) in
        let s = eqb-true p.1 b (and_right (p.0 == a) (p.1 == b) t) in
        λ i. (f i, s i)

    own : other_than a b (a, b) ≡ false
    own = λ i. not (equal a i && equal b i)

    pair : (x : Life) → present_pair (past ++ e ∷ []) x ≡ keep_pair (other_than a b) (present_pair past x)
    pair x = by (present_pair past x) refl
      where
        here : x ≡ e.life → present_pair (past ++ e ∷ []) x ≡ None
        here same = ap (present_pair (past ++ e ∷ [])) same ∙ pair_cut past e cuts

        apart : (p : (ℕ × ℕ) × ℕ) → other_than a b p.0 ≡ true → present_pair past x ≡ Some p
            → same_life x e.life ≡ false
        apart p ne is = differs x e.life (λ same.
            let f : Some p ≡ Some ((a, b), r.weight) = sym is ∙ (ap (present_pair past) same ∙ r.there) in
            let n : p ≡ ((a, b), r.weight) = cc in
            true≢false (sym ne ∙ (ap (λ (q : (ℕ × ℕ) × ℕ). other_than a b q.0) n ∙ own)))

        case : (p : (ℕ × ℕ) × ℕ) (t : Bool) → other_than a b p.0 ≡ t → present_pair past x ≡ Some p → present_pair
            (past ++ e ∷ []) x ≡ cond t (Some p) None
        case p true ne is = pair_uncut past e cuts x (apart p ne is) ∙ is
        case p false eq is = here (r.only x p.1 (is ∙ (λ i. Some (is_pair p.0 eq i, p.1))))

        absent : (t : Bool) → same_life x e.life ≡ t → present_pair past x ≡ None → present_pair
            (past ++ e ∷ []) x ≡ None
        absent true s is = here (same_is x e.life s)
        absent false s is = pair_uncut past e cuts x s ∙ is

        by : (o : Option ((ℕ × ℕ) × ℕ)) → present_pair past x ≡ o → present_pair (past ++ e ∷ []) x ≡ keep_pair
            (other_than a b) o
        by None is = absent (same_life x e.life) refl is
        by (Some p) is = case p (other_than a b p.0) refl is

    pair_kept : (d : Event) → pair_by (past ++ e ∷ []) d ≡ keep_pair (other_than a b) (pair_by past d)
    pair_kept d = elim (links_edge d.kind) as (λ t. cond t (present_pair (past ++ e ∷ []) d.life) None ≡ keep_pair
        (other_than a b) (cond t (present_pair past d.life) None)) [ true ↦ pair d.life | false ↦ refl ]

    same_keys : filter_map (key_by (past ++ e ∷ [])) (past ++ e ∷ []) ≡ filter_map (key_by past) past
    same_keys =
        let k = cuts_is e.kind cuts in
        filter_same _ (key_by past) (λ d. ap (λ o. cond (links_vertex d.kind) o None)
        (present_skip past e k.0 k.1 d.life)) (past ++ e ∷ [])
        ∙ filter_skip (key_by past) past e (ap (λ t. cond t (present_key past e.life) None) k.0)

    keys : (q : ℕ) → has (graph_of (past ++ e ∷ [])) q ≡ has (graph_of past) q
    keys q = has-graph (past ++ e ∷ []) q ∙ (ap (list_any (λ y. y == q)) same_keys ∙ sym (has-graph past q))

    flip : (t : Bool) (o : Option ℕ) → cond (not t) o None ≡ cond t None o
    flip true o = refl
    flip false o = refl

    weights : (c d : ℕ) → weight_of (graph_of (past ++ e ∷ [])) c d ≡ weight_of
        (change (graph_of past) (RemoveEdge a b)) c d
    weights c d =
        weight-graph (past ++ e ∷ []) c d
        ∙ (ap (entry.find pair_cmp (c, d)) (filter_reverse (pair_by (past ++ e ∷ [])) past e ∙ ap
        (λ k. cons_option (cond (links_edge k) (present_pair (past ++ e ∷ []) e.life) None)
        (filter_map (pair_by (past ++ e ∷ [])) (reverse past))) r.kind)
        ∙ (find_kept (pair_by past) (pair_by (past ++ e ∷ [])) (other_than a b) pair_kept (c, d) (reverse past)
        ∙ (flip ((c == a) && (d == b)) (entry.find pair_cmp (c, d) (filter_map (pair_by past) (reverse past)))
        ∙ sym (weight_cut (graph_of past).pairs a b c d ∙ ap (λ o. cond ((c == a) && (d == b)) None o)
        (weight-graph past c d)))))

-- pairs of another key are found as they were, where each that goes has this key
find_less : (f g : Event → Option ((ℕ × ℕ) × ℕ)) (q : ℕ × ℕ) (xs : List Event)
    → Every (λ d. (g d ≡ f d) ⊎ ((g d ≡ None) × ((p : (ℕ × ℕ) × ℕ) × (f d ≡ Some p) ×
    (eq_by_cmp pair_cmp q p.0 ≡ false)))) xs
    → sought q (filter_map g xs) ≡ sought q (filter_map f xs)
find_less f g q [] h = refl
find_less f g q (d ∷ xs) h =
    let rest = find_less f g q xs h.1 in
    ⊎_elim (λ same. ap (λ o. sought q (cons_option o (filter_map g xs))) same ∙ onto (f d) (filter_map g xs)
    (filter_map f xs) rest)
    (λ gone. ap (λ o. sought q (cons_option o (filter_map g xs))) gone.0
    ∙ (rest ∙ sym (ap (λ o. sought q (cons_option o (filter_map f xs))) gone.1.1
    ∙ ap (λ c. cond c (Some gone.1.0.1) (sought q (filter_map f xs))) gone.1.2))) h.0
  where
    onto : (o : Option ((ℕ × ℕ) × ℕ)) (ys zs : List ((ℕ × ℕ) × ℕ)) → sought q ys ≡ sought q zs → sought q
        (cons_option o ys) ≡ sought q (cons_option o zs)
    onto None ys zs k = k
    onto (Some p) ys zs k = ap (λ t. cond (eq_by_cmp pair_cmp q p.0) (Some p.1) t) k

module _ (past : List Event) (e : Event) (n : IsReplacing past e) where
  same_between : (link : Event) → pair_between (past ++ e ∷ []) link ≡ pair_between past link
  same_between link = between_skip past e (ap links_vertex n.kind) (ap marks_vertex n.kind) link

  is_old : cut_life e ≡ e.old
  is_old = ap (λ k. cond (replaces k) e.old e.life) n.kind

  uncut : (x : Life) → same_life x e.old ≡ false → edge_marked (past ++ e ∷ []) x ≡ edge_marked past x
  uncut x h = cut_else past e x (ap (same_life x) is_old ∙ h)

  cut_old : edge_marked (past ++ e ∷ []) e.old ≡ true
  cut_old = sym (ap (edge_marked (past ++ e ∷ [])) is_old) ∙ cut_here past e (ap cuts_edge n.kind)

  -- the pair of the new edge is the one between its ends
  pair_new : present_pair (past ++ e ∷ []) e.life ≡ pair_between past e
  unfolding link_of
  pair_new =
      let found = find_last (λ (d : Event). links_edge d.kind && same_life e.life d.life) past e n.new
      (λ i. links_edge (n.kind i) && same_self e.life i) in
      (λ i. cond ((uncut e.life (differs e.life e.old n.apart) ∙ n.unmarked) i) None
      (option_and_then (pair_between (past ++ e ∷ [])) (found i))) ∙ same_between e

  -- the old edge has none any more, and each other has its own
  pair_old : present_pair (past ++ e ∷ []) e.old ≡ None
  pair_old = ap (λ b. cond b None (option_and_then (pair_between (past ++ e ∷ [])) (link_of (past ++ e ∷ []) e.old)))
      cut_old

  pair_else : (x : Life) → same_life x e.life ≡ false → same_life x e.old ≡ false → present_pair
      (past ++ e ∷ []) x ≡ present_pair past x
  pair_else x h g = λ i. cond (uncut x g i) None ((ap (option_and_then (pair_between (past ++ e ∷ [])))
      (link_else past e x h) ∙ pair_of_link past e same_between (link_of past x)) i)

  same_keys : filter_map (key_by (past ++ e ∷ [])) (past ++ e ∷ []) ≡ filter_map (key_by past) past
  same_keys =
      filter_same _ (key_by past) (λ d. ap (λ o. cond (links_vertex d.kind) o None)
      (present_skip past e (ap links_vertex n.kind) (ap marks_vertex n.kind) d.life)) (past ++ e ∷ [])
      ∙ filter_skip (key_by past) past e (ap (λ k. cond (links_vertex k) (present_key past e.life) None) n.kind)

  first_pair : filter_map (pair_by (past ++ e ∷ [])) (reverse (past ++ e ∷ [])) ≡ cons_option (pair_between past e)
      (filter_map (pair_by (past ++ e ∷ [])) (reverse past))
  first_pair =
      filter_reverse (pair_by (past ++ e ∷ [])) past e
      ∙ ap (λ o. cons_option o (filter_map (pair_by (past ++ e ∷ [])) (reverse past)))
      (ap (λ k. cond (links_edge k) (present_pair (past ++ e ∷ []) e.life) None) n.kind ∙ pair_new)

  -- no earlier event linked the new life
  unlinked_before : Every (λ (d : Event). (links_edge d.kind && same_life e.life d.life) ≡ false) past
  unfolding link_of
  unlinked_before = none_found (λ (d : Event). links_edge d.kind && same_life e.life d.life) past n.new

-- an edge is replaced whose pair is there: the pair has the new weight
pub replaced_edge_graph : (past : List Event) (e : Event) (a b : ℕ) → IsReplacedEdge past e a b → graph_of
    (past ++ e ∷ []) ≡ change (graph_of past) (AddEdge a b e.weight)
replaced_edge_graph past e a b r = graphs.same_graph (graph_of (past ++ e ∷ []))
    (change (graph_of past) (AddEdge a b e.weight)) keys weights
  where
    n : IsReplacing past e
    n = r.replaces

    keys : (q : ℕ) → has (graph_of (past ++ e ∷ [])) q ≡ has (graph_of past) q
    keys q = has-graph (past ++ e ∷ []) q ∙ (ap (list_any (λ y. y == q)) (same_keys past e n) ∙ sym (has-graph past q))

    flip : (x y : Life) → same_life x y ≡ false → same_life y x ≡ false
    flip x y h = differs y x (λ s. true≢false (sym (ap (same_life x) s ∙ same_self x) ∙ h))

    less : (q : ℕ × ℕ) → eq_by_cmp pair_cmp q (a, b) ≡ false → (d : Event) →
        (links_edge d.kind && same_life e.life d.life) ≡ false
        → (pair_by (past ++ e ∷ []) d ≡ pair_by past d)
        ⊎ ((pair_by (past ++ e ∷ []) d ≡ None) × ((p : (ℕ × ℕ) × ℕ) × (pair_by past d ≡ Some p) ×
        (eq_by_cmp pair_cmp q p.0 ≡ false)))
    less q apart d h = by (links_edge d.kind) refl (same_life d.life e.old) refl h
      where
        by : (l : Bool) → links_edge d.kind ≡ l → (o : Bool) → same_life d.life e.old ≡ o →
            (l && same_life e.life d.life) ≡ false
            → (pair_by (past ++ e ∷ []) d ≡ pair_by past d)
            ⊎ ((pair_by (past ++ e ∷ []) d ≡ None) × ((p : (ℕ × ℕ) × ℕ) × (pair_by past d ≡ Some p) ×
            (eq_by_cmp pair_cmp q p.0 ≡ false)))
        by false is o at k = inl (ap (λ t. cond t (present_pair (past ++ e ∷ []) d.life) None) is ∙ sym
            (ap (λ t. cond t (present_pair past d.life) None) is))
        by true is false at k = inl (ap (λ o. cond (links_edge d.kind) o None)
            (pair_else past e n d.life (flip e.life d.life k) at))
        by true is true at k =
            let same = same_is d.life e.old at in
            inr (
              ap (λ t. cond t (present_pair (past ++ e ∷ []) d.life) None) is ∙
                  (ap (present_pair (past ++ e ∷ [])) same ∙ pair_old past e n),
              (
                ((a, b), r.weight),
                ap (λ t. cond t (present_pair past d.life) None) is ∙
                    (ap (present_pair past) same ∙ r.there),
                apart,
              ),
            )

    rest : (q : ℕ × ℕ) (t : Bool) → eq_by_cmp pair_cmp q (a, b) ≡ t
        → cond t (Some e.weight) (sought q (filter_map (pair_by (past ++ e ∷ [])) (reverse past))) ≡ cond t
        (Some e.weight) (sought q (filter_map (pair_by past) (reverse past)))
    rest q true apart = refl
    rest q false apart =
        find_less (pair_by past) (pair_by (past ++ e ∷ [])) q (reverse past)
        (every_reverse _ past (every_map (λ (d : Event). (links_edge d.kind && same_life e.life d.life) ≡ false) _
        (less q apart) past (unlinked_before past e n)))

    weights : (c d : ℕ) → weight_of (graph_of (past ++ e ∷ [])) c d ≡ weight_of
        (change (graph_of past) (AddEdge a b e.weight)) c d
    weights c d =
        weight-graph (past ++ e ∷ []) c d
        ∙ (ap (sought (c, d)) (first_pair past e n ∙ (λ i. cons_option
        (weighed e.weight (both (r.source i) (r.target i))) (filter_map (pair_by (past ++ e ∷ [])) (reverse past))))
        ∙ (rest (c, d) (eq_by_cmp pair_cmp (c, d) (a, b)) refl ∙ sym (weight-added past (a, b) e.weight c d)))

-- an edge is replaced whose pair isn't there, nor that of the new one
pub hidden_replaced_graph : (past : List Event) (e : Event) → IsReplacing past e → present_pair past e.old ≡ None
    → pair_between past e ≡ None → graph_of (past ++ e ∷ []) ≡ graph_of past
hidden_replaced_graph past e n hidden none = graphs.same_graph (graph_of (past ++ e ∷ [])) (graph_of past) keys weights
  where
    keys : (q : ℕ) → has (graph_of (past ++ e ∷ [])) q ≡ has (graph_of past) q
    keys q = has-graph (past ++ e ∷ []) q ∙ (ap (list_any (λ y. y == q)) (same_keys past e n) ∙ sym (has-graph past q))

    flip : (x y : Life) → same_life x y ≡ false → same_life y x ≡ false
    flip x y h = differs y x (λ s. true≢false (sym (ap (same_life x) s ∙ same_self x) ∙ h))

    old : (d : Event) → (links_edge d.kind && same_life e.life d.life) ≡ false → pair_by
        (past ++ e ∷ []) d ≡ pair_by past d
    old d h = by (links_edge d.kind) refl (same_life d.life e.old) refl h
      where
        by : (l : Bool) → links_edge d.kind ≡ l → (o : Bool) → same_life d.life e.old ≡ o →
            (l && same_life e.life d.life) ≡ false → pair_by (past ++ e ∷ []) d ≡ pair_by past d
        by false is o at k = ap (λ t. cond t (present_pair (past ++ e ∷ []) d.life) None) is ∙ sym
            (ap (λ t. cond t (present_pair past d.life) None) is)
        by true is false at k = ap (λ o. cond (links_edge d.kind) o None)
            (pair_else past e n d.life (flip e.life d.life k) at)
        by true is true at k =
            let same = same_is d.life e.old at in
            ap (λ o. cond (links_edge d.kind) o None)
            ((ap (present_pair (past ++ e ∷ [])) same ∙ pair_old past e n) ∙ sym (ap (present_pair past) same ∙ hidden))

    weights : (c d : ℕ) → weight_of (graph_of (past ++ e ∷ [])) c d ≡ weight_of (graph_of past) c d
    weights c d =
        weight-graph (past ++ e ∷ []) c d
        ∙ (ap (sought (c, d)) (first_pair past e n ∙ (ap (λ o. cons_option o
        (filter_map (pair_by (past ++ e ∷ [])) (reverse past))) none
        ∙ filter_each (pair_by (past ++ e ∷ [])) (pair_by past) (reverse past)
        (every_reverse (λ d. pair_by (past ++ e ∷ []) d ≡ pair_by past d) past
        (every_map (λ (d : Event). (links_edge d.kind && same_life e.life d.life) ≡ false)
        (λ (d : Event). pair_by (past ++ e ∷ []) d ≡ pair_by past d) old past (unlinked_before past e n)))))
        ∙ sym (weight-graph past c d))
