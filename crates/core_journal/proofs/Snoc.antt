-- What one more event is to the lives of a journal.
use Rattle.std.proofs.Common.{◌≡◌, ◌≢◌, ℕ, Bool, true, false, cond, ◌&&◌, ◌||◌, ◌==◌, List, [], ◌∷◌, ◌++◌, find}
use Rattle.std.proofs.Common.{filter_map, reverse, Option, Some, None, refl, sym, ap, ◌∙◌, subst, true≢false, arith}
use Rattle.std.proofs.Common.{eqb-true}
use Rattle.std.specs.Prelude.{option_map}
use Rattle.std.specs.List.{list_any, cons_option}
use Rattle.std.proofs.lemmas.List.{reverse-append}
use Rattle.graph_kinds.specs.History.{Every}
use Rattle.graph_kinds.proofs.Calls.{and_left, and_right}
use Rattle.packed_link.specs.declared.link.Life.{Life}
use Rattle.core_journal.specs.declared.event.Kind.{Kind}
use Rattle.core_journal.specs.declared.event.Kind.TheVariants.{LinkVertex, MarkVertex, LinkEdge, MarkEdge, ReplaceEdge}
use Rattle.core_journal.specs.declared.event.Kind.TheVariants.{FreezeEdge}
use Rattle.core_journal.specs.declared.event.Event.{Event}
use Rattle.core_journal.specs.Event.{same_life, links_vertex, marks_vertex, links_edge, marks_edge, cuts_edge, replaces}
use Rattle.core_journal.specs.Event.{cut_life}
use Rattle.core_journal.specs.Life.{vertex_marked, edge_marked, key_of, link_of}
use Rattle.core_journal.specs.GraphOf.{both, weighed, present_key, pair_between}
use Rattle.core_journal.specs.Changes.{is_idle}
use Rattle.core_journal.proofs.Lists.{every_append}

equal : (n : ℕ) → (n == n) ≡ true
equal n = grind arith

and_no : (a b : Bool) → a ≡ false → (a && b) ≡ false
and_no a b h = ap (λ c. c && b) h

no_and : (a b : Bool) → b ≡ false → (a && b) ≡ false
no_and true b h = h
no_and false b h = refl

-- lives that the test finds to be one are one
pub same_is : (x y : Life) → same_life x y ≡ true → x ≡ y
same_is x y h =
    let i : x.index ≡ y.index = eqb-true x.index y.index (and_left (x.index == y.index) (x.tag == y.tag) h) in
    let t : x.tag ≡ y.tag = eqb-true x.tag y.tag (and_right (x.index == y.index) (x.tag == y.tag) h) in
    λ j. record { index = i j; tag = t j }

-- the test finds a life to be itself
pub same_self : (x : Life) → same_life x x ≡ true
same_self x = ap (λ b. b && (x.tag == x.tag)) (equal x.index) ∙ equal x.tag

-- lives that are not one fail the test
pub differs : (x y : Life) → x ≢ y → same_life x y ≡ false
differs x y ne = by (same_life x y) refl
  where
    by : (b : Bool) → same_life x y ≡ b → b ≡ false
    by true e = absurd (ne (same_is x y e))
    by false e = refl

-- and the other way round
pub unlike : (x y : Life) → same_life x y ≡ false → x ≢ y
unlike x y h e = true≢false (sym (ap (same_life x) (sym e) ∙ ap (λ b. b) (same_self x)) ∙ h)

-- one more element that fails a test changes no outcome of it
pub any_skip : {A : Type 0} (test : A → Bool) (xs : List A) (x : A) → test x ≡ false → list_any test
    (xs ++ x ∷ []) ≡ list_any test xs
any_skip test [] x h = ap (λ b. b || false) h
any_skip test (y ∷ ys) x h = ap (λ b. test y || b) (any_skip test ys x h)

-- one more element that passes makes it pass
pub any_last : {A : Type 0} (test : A → Bool) (xs : List A) (x : A) → test x ≡ true → list_any test
    (xs ++ x ∷ []) ≡ true
any_last test [] x h = ap (λ b. b || false) h
any_last test (y ∷ ys) x h = ap (λ b. test y || b) (any_last test ys x h) ∙ or_true (test y)
  where
    or_true : (b : Bool) → (b || true) ≡ true
    or_true true = refl
    or_true false = refl

-- one more element that fails is not found
pub find_skip : {A : Type 0} (test : A → Bool) (xs : List A) (x : A) → test x ≡ false → find test
    (xs ++ x ∷ []) ≡ find test xs
find_skip test [] x h = ap (λ b. cond b (Some x) None) h
find_skip test (y ∷ ys) x h = ap (λ o. cond (test y) (Some y) o) (find_skip test ys x h)

-- one more element that passes is found where none was
pub find_last : {A : Type 0} (test : A → Bool) (xs : List A) (x : A) → find test xs ≡ None → test x ≡ true → find test
    (xs ++ x ∷ []) ≡ Some x
find_last test [] x none h = ap (λ b. cond b (Some x) None) h
find_last test (y ∷ ys) x none h = elim (test y) as (λ b. cond b (Some y) (find test ys) ≡ None → cond b (Some y)
    (find test (ys ++ x ∷ [])) ≡ Some x) [ true ↦ λ e. absurd (cc) | false ↦ λ e. find_last test ys x e h ] none

-- where none is found each fails
pub none_found : {A : Type 0} (test : A → Bool) (xs : List A) → find test xs ≡ None → Every (λ x. test x ≡ false) xs
none_found test [] h = tt
none_found test (x ∷ xs) h = elim (test x) as (λ b. test x ≡ b → cond b (Some x) (find test xs) ≡ None → Every
    (λ y. test y ≡ false) (x ∷ xs)) [ true ↦ λ e f. absurd (cc) | false ↦ λ e f. (e, none_found test xs f) ] refl h

-- two functions that agree give one list
pub filter_same : {A B : Type 0} (f g : A → Option B) → ((x : A) → f x ≡ g x) → (xs : List A)
    → filter_map f xs ≡ filter_map g xs
filter_same f g same [] = refl
filter_same f g same (x ∷ xs) = λ i. cons_option (same x i) (filter_same f g same xs i)

-- so where they agree on the elements
pub filter_each : {A B : Type 0} (f g : A → Option B) (xs : List A) → Every (λ x. f x ≡ g x) xs
    → filter_map f xs ≡ filter_map g xs
filter_each f g [] h = refl
filter_each f g (x ∷ xs) h = λ i. cons_option (h.0 i) (filter_each f g xs h.1 i)

-- one more element that gives nothing
pub filter_skip : {A B : Type 0} (f : A → Option B) (xs : List A) (x : A) → f x ≡ None → filter_map f
    (xs ++ x ∷ []) ≡ filter_map f xs
filter_skip f [] x h = ap (λ o. cons_option o []) h
filter_skip f (y ∷ ys) x h = ap (cons_option (f y)) (filter_skip f ys x h)

-- one more element that gives something
pub filter_last : {A B : Type 0} (f : A → Option B) (xs : List A) (x : A) (y : B) → f x ≡ Some y → filter_map f
    (xs ++ x ∷ []) ≡ filter_map f xs ++ y ∷ []
filter_last f [] x y h = ap (λ o. cons_option o []) h
filter_last {B = B} f (z ∷ zs) x y h = ap (cons_option (f z)) (filter_last f zs x y h) ∙ onto (f z) (filter_map f zs)
  where
    onto : (o : Option B) (ys : List B) → cons_option o (ys ++ y ∷ []) ≡ cons_option o ys ++ y ∷ []
    onto None ys = refl
    onto (Some w) ys = refl

-- the last event comes first
pub filter_reverse : {B : Type 0} (f : Event → Option B) (past : List Event) (e : Event) → filter_map f
    (reverse (past ++ e ∷ [])) ≡ cons_option (f e) (filter_map f (reverse past))
filter_reverse f past e = ap (filter_map f) (reverse-append past (e ∷ []))

-- a fact of each element of a reversed list
pub every_reverse : {A : Type 0} (P : A → Type 0) (xs : List A) → Every P xs → Every P (reverse xs)
every_reverse P [] h = tt
every_reverse P (x ∷ xs) h = subst (Every P) (sym (reverse-append (x ∷ []) xs))
    (every_append P (reverse xs) (x ∷ []) (every_reverse P xs h.1) (h.0, tt))

-- an idle kind neither links nor marks
pub record IsIdleKind (k : Kind) : Type 0 where
  pub links : links_vertex k ≡ false
  pub marks : marks_vertex k ≡ false
  pub joins : links_edge k ≡ false
  pub cuts : cuts_edge k ≡ false

-- what an idle kind does not do
pub idle_is : (k : Kind) → is_idle k ≡ true → IsIdleKind k
idle_is LinkVertex h = absurd (true≢false (sym h))
idle_is MarkVertex h = absurd (true≢false (sym h))
idle_is LinkEdge h = absurd (true≢false (sym h))
idle_is MarkEdge h = absurd (true≢false (sym h))
idle_is FreezeEdge h = absurd (true≢false (sym h))
idle_is ReplaceEdge h = absurd (true≢false (sym h))
idle_is _ h = record { links = refl; marks = refl; joins = refl; cuts = refl }

-- a kind that marks an edge does nothing else
pub cuts_is : (k : Kind) → marks_edge k ≡ true → (links_vertex k ≡ false) × (marks_vertex k ≡ false) ×
    (links_edge k ≡ false)
cuts_is MarkEdge h = (refl, refl, refl)
cuts_is FreezeEdge h = (refl, refl, refl)
cuts_is _ h = absurd (true≢false (sym h))

-- it marks its own life, which is no edge that it replaces
pub cuts_own : (k : Kind) → marks_edge k ≡ true → (cuts_edge k ≡ true) × (replaces k ≡ false)
cuts_own MarkEdge h = (refl, refl)
cuts_own FreezeEdge h = (refl, refl)
cuts_own _ h = absurd (true≢false (sym h))

pub own_cut : (e : Event) → marks_edge e.kind ≡ true → cut_life e ≡ e.life
own_cut e h = ap (λ b. cond b e.old e.life) (cuts_own e.kind h).1

module _ (past : List Event) (e : Event) where
  -- keys and links of lives, where the event links nothing or is about another life
  pub key_skip : links_vertex e.kind ≡ false → (x : Life) → key_of (past ++ e ∷ []) x ≡ key_of past x
  unfolding key_of
  key_skip h x = ap (option_map (λ (d : Event). d.key)) (find_skip _ past e
      (and_no (links_vertex e.kind) (same_life x e.life) h))

  pub key_else : (x : Life) → same_life x e.life ≡ false → key_of (past ++ e ∷ []) x ≡ key_of past x
  unfolding key_of
  key_else x h = ap (option_map (λ (d : Event). d.key)) (find_skip _ past e
      (no_and (links_vertex e.kind) (same_life x e.life) h))

  pub link_skip : links_edge e.kind ≡ false → (x : Life) → link_of (past ++ e ∷ []) x ≡ link_of past x
  unfolding link_of
  link_skip h x = find_skip _ past e (and_no (links_edge e.kind) (same_life x e.life) h)

  pub link_else : (x : Life) → same_life x e.life ≡ false → link_of (past ++ e ∷ []) x ≡ link_of past x
  unfolding link_of
  link_else x h = find_skip _ past e (no_and (links_edge e.kind) (same_life x e.life) h)

  -- marks of lives likewise, and the mark that the event makes
  pub marked_skip : marks_vertex e.kind ≡ false → (x : Life) → vertex_marked (past ++ e ∷ []) x ≡ vertex_marked past x
  marked_skip h x = any_skip _ past e (and_no (marks_vertex e.kind) (same_life x e.life) h)

  pub marked_else : (x : Life) → same_life x e.life ≡ false → vertex_marked (past ++ e ∷ []) x ≡ vertex_marked past x
  marked_else x h = any_skip _ past e (no_and (marks_vertex e.kind) (same_life x e.life) h)

  pub marked_here : marks_vertex e.kind ≡ true → vertex_marked (past ++ e ∷ []) e.life ≡ true
  marked_here h = any_last _ past e (ap (λ b. b && same_life e.life e.life) h ∙ same_self e.life)

  pub cut_skip : cuts_edge e.kind ≡ false → (x : Life) → edge_marked (past ++ e ∷ []) x ≡ edge_marked past x
  cut_skip h x = any_skip _ past e (and_no (cuts_edge e.kind) (same_life x (cut_life e)) h)

  pub cut_else : (x : Life) → same_life x (cut_life e) ≡ false → edge_marked (past ++ e ∷ []) x ≡ edge_marked past x
  cut_else x h = any_skip _ past e (no_and (cuts_edge e.kind) (same_life x (cut_life e)) h)

  pub cut_here : cuts_edge e.kind ≡ true → edge_marked (past ++ e ∷ []) (cut_life e) ≡ true
  cut_here h = any_last _ past e (ap (λ b. b && same_life (cut_life e) (cut_life e)) h ∙ same_self (cut_life e))

  -- so where the event marks its own life
  pub own_else : marks_edge e.kind ≡ true → (x : Life) → same_life x e.life ≡ false → edge_marked
      (past ++ e ∷ []) x ≡ edge_marked past x
  own_else m x h = cut_else x (ap (same_life x) (own_cut e m) ∙ h)

  pub own_here : marks_edge e.kind ≡ true → edge_marked (past ++ e ∷ []) e.life ≡ true
  own_here m = sym (ap (edge_marked (past ++ e ∷ [])) (own_cut e m)) ∙ cut_here (cuts_own e.kind m).0

  -- the key of a present vertex stays where no vertex is linked or marked
  pub present_skip : links_vertex e.kind ≡ false → marks_vertex e.kind ≡ false → (x : Life) → present_key
      (past ++ e ∷ []) x ≡ present_key past x
  present_skip l m x = λ i. cond (marked_skip m x i) None (key_skip l x i)

  -- so where the event is about another life
  pub present_else : (x : Life) → same_life x e.life ≡ false → present_key (past ++ e ∷ []) x ≡ present_key past x
  present_else x h = λ i. cond (marked_else x h i) None (key_else x h i)

  -- so does the pair of an edge between them
  pub between_skip : links_vertex e.kind ≡ false → marks_vertex e.kind ≡ false → (link : Event) → pair_between
      (past ++ e ∷ []) link ≡ pair_between past link
  between_skip l m link = λ i. weighed link.weight (both (present_skip l m link.source i)
      (present_skip l m link.target i))
