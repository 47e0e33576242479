-- Facts of the state and the words, kind by kind.
use Rattle.std.proofs.Common.{◌≡◌, ◌≢◌, ℕ, ◌+◌, ◌<◌, List, [], ◌∷◌, ◌++◌, Bool, true, false, cond, ◌&&◌, refl, sym, ap}
use Rattle.std.proofs.Common.{◌∙◌, subst, ne_eqb, eq-eqb, eqb-true, ◌≤◌, arith}
use Rattle.std.specs.Prelude.{take_while, ◌==◌, ◌||◌}
use Rattle.std.proofs.lemmas.List.Sums.{take_while-cons}
use Rattle.std.specs.List.{list_any}
use mathlib.Core.Logic.{dite}
use native.Mathlib.Decide.{ℕ_discrete}
use Rattle.core_chain.specs.Table.{WritesWord}
use Rattle.packed_link.specs.Layout.{Sizes, word_count}
use Rattle.core_journal.specs.Event.{draws}
use Rattle.core_journal.specs.declared.event.Kind.{Kind}
use Rattle.core_journal.specs.declared.event.Kind.TheVariants.{PopFree, LinkVertex, MarkVertex, UnlinkVertex, LinkEdge}
use Rattle.core_journal.specs.declared.event.Kind.TheVariants.{MarkEdge, UnlinkEdge, ReplaceEdge}
use Rattle.core_journal.specs.declared.event.Kind.TheVariants.{FreezeHead, FreezeEdge}
use Rattle.core_journal.specs.declared.event.Kind.TheVariants.{StoreFree, PushFree}
use Rattle.core_journal.specs.declared.event.Event.{Event}
use Rattle.core_journal.specs.Prefix.{IsPrefix}
use Rattle.core_journal.specs.Machine.{word_at}
use Rattle.core_journal.specs.State.{Mode, Spent, Linked, Node, State, is_linked, put, handed, frozen_part, state_by}
use Rattle.core_journal.specs.State.{opening, state, joined_edge}
use Rattle.core_journal.proofs.MachineWords.{word_here, word_else}
use Rattle.core_journal.proofs.States.{state-nil, state-snoc, counted_by}
use Rattle.core_kept.specs.Kept.{Allowed, AllowedAs, IsKept}
use Rattle.core_kept.specs.Nodes.{node_in}
use Rattle.core_kept.proofs.Induction.{kept_all, kept_onward}

-- the words after an event
pub record IsAfter (sizes : Sizes) (past : List Event) (e : Event) (w : ℕ → ℕ) : Type 0 where
  pub here : e.place < word_count sizes → w e.place ≡ e.word
  pub else : (i : ℕ) → i ≢ e.place → w i ≡ word_at sizes past i

pub after_event : (sizes : Sizes) (past : List Event) (e : Event) → IsAfter sizes past e
    (word_at sizes (past ++ e ∷ []))
after_event sizes past e = record { here = word_here sizes past e; else = word_else sizes past e }

-- an event writes the word at its place
pub writes_at : (sizes : Sizes) (past : List Event) (e : Event) (w : ℕ → ℕ) (place word : ℕ) → IsAfter sizes past e w
    → place ≡ e.place → e.place < word_count sizes → e.word ≡ word → WritesWord (word_at sizes past) w place word
writes_at sizes past e w place word a at near is = record {
  written = ap w at ∙
      (a.here near ∙ is);
  others = λ i ne. a.else i (λ h. ne (h ∙ sym at));
}

-- a fact of the state and the words is kept by an event, by its kind
abbrev pub KeepsByKind : Sizes → (State → (ℕ → ℕ) → Type 0) → Type 0
KeepsByKind sizes P = (past : List Event) (e : Event) → IsKept sizes past → P (state sizes past) (word_at sizes past)
    → (k : Kind) → (draws k ≡ false → e.caller < (state sizes past).drawn) → AllowedAs k sizes past e
    → (w : ℕ → ℕ) → IsAfter sizes past e w → P (state_by k sizes e (state sizes past)) w

module _ (sizes : Sizes) (P : State → (ℕ → ℕ) → Type 0) where
  pub kept_step : KeepsByKind sizes P → (past : List Event) (e : Event) → IsKept sizes past → P (state sizes past)
      (word_at sizes past) → Allowed sizes past e → P (state sizes (past ++ e ∷ [])) (word_at sizes (past ++ e ∷ []))
  kept_step step past e kept p ok = subst (λ (s : State). P s (word_at sizes (past ++ e ∷ [])))
      (sym (state-snoc sizes past e)) (step past e kept p e.kind ok.by ok.as_kind (word_at sizes (past ++ e ∷ []))
      (after_event sizes past e))

  -- what holds at opening and is kept by each kind holds after each kept journal
  pub holds_all : KeepsByKind sizes P → P (opening sizes) (word_at sizes []) → (journal : List Event)
      → IsKept sizes journal → P (state sizes journal) (word_at sizes journal)
  holds_all step first journal kept = kept_all sizes (λ (j : List Event). P (state sizes j) (word_at sizes j))
      (kept_step step) (subst (λ (s : State). P s (word_at sizes [])) (sym (state-nil sizes)) first) journal kept

  -- what holds of a front and is kept by each kind holds of the journal
  pub holds_onward : KeepsByKind sizes P → (front journal : List Event) → IsPrefix front journal → IsKept sizes journal
      → P (state sizes front) (word_at sizes front) → P (state sizes journal) (word_at sizes journal)
  holds_onward step front journal p kept first = kept_onward sizes
      (λ (j : List Event). P (state sizes j) (word_at sizes j)) (kept_step step) front journal p kept first

-- the same of a fact that also speaks of the journal
abbrev pub KeepsIn : Sizes → (List Event → State → (ℕ → ℕ) → Type 0) → Type 0
KeepsIn sizes P = (past : List Event) (e : Event) → IsKept sizes past → P past (state sizes past) (word_at sizes past)
    → (k : Kind) → e.kind ≡ k → AllowedAs k sizes past e
    → (w : ℕ → ℕ) → IsAfter sizes past e w → P (past ++ e ∷ []) (state_by k sizes e (state sizes past)) w

module _ (sizes : Sizes) (P : List Event → State → (ℕ → ℕ) → Type 0) where
  pub step_in : KeepsIn sizes P → (past : List Event) (e : Event) → IsKept sizes past → P past (state sizes past)
      (word_at sizes past) → Allowed sizes past e → P (past ++ e ∷ []) (state sizes (past ++ e ∷ []))
      (word_at sizes (past ++ e ∷ []))
  step_in step past e kept p ok = subst (λ (s : State). P (past ++ e ∷ []) s (word_at sizes (past ++ e ∷ [])))
      (sym (state-snoc sizes past e)) (step past e kept p e.kind refl ok.as_kind (word_at sizes (past ++ e ∷ []))
      (after_event sizes past e))

  pub all_in : KeepsIn sizes P → P [] (opening sizes) (word_at sizes []) → (journal : List Event) → IsKept sizes journal
      → P journal (state sizes journal) (word_at sizes journal)
  all_in step first journal kept = kept_all sizes (λ (j : List Event). P j (state sizes j) (word_at sizes j))
      (step_in step) (subst (λ (s : State). P [] s (word_at sizes [])) (sym (state-nil sizes)) first) journal kept

module _ {A : Type 0} where
  -- by cases on whether it's the entry that was replaced
  pub put_case : (P : A → Type 0) (i : ℕ) (a : A) (f : ℕ → A) (x : ℕ) → (x ≡ i → P a) → (x ≢ i → P (f x)) → P
      (put i a f x)
  put_case P i a f x same other = dite (ℕ_discrete x i)
      (λ e. subst (λ (b : Bool). P (cond b a (f x))) (sym (eq-eqb x i e)) (same e))
      (λ ne. subst (λ (b : Bool). P (cond b a (f x))) (sym (ne_eqb x i ne)) (other ne))

  -- the same of two tables at once
  pub put_both : {B : Type 0} (P : A → B → Type 0) (i : ℕ) (a : A) (b : B) (f : ℕ → A) (g : ℕ → B) (x : ℕ) →
      (x ≡ i → P a b) → (x ≢ i → P (f x) (g x)) → P (put i a f x) (put i b g x)
  put_both {B} P i a b f g x same other = dite (ℕ_discrete x i)
      (λ e. subst (λ (c : Bool). P (cond c a (f x)) (cond c b (g x))) (sym (eq-eqb x i e)) (same e))
      (λ ne. subst (λ (c : Bool). P (cond c a (f x)) (cond c b (g x))) (sym (ne_eqb x i ne)) (other ne))

  pub put_same : (i : ℕ) (a : A) (f : ℕ → A) → put i a f i ≡ a
  put_same i a f = ap (λ (b : Bool). cond b a (f i)) (eq-eqb i i refl)

  pub put_other : (i : ℕ) (a : A) (f : ℕ → A) (x : ℕ) → x ≢ i → put i a f x ≡ f x
  put_other i a f x ne = ap (λ (b : Bool). cond b a (f x)) (ne_eqb x i ne)

-- a node of the longest prefix whose nodes pass a test passes it
in_take_while : (test : ℕ → Bool) (xs : List ℕ) (y : ℕ) → list_any (λ z. z == y) (take_while test xs) ≡ true
    → test y ≡ true
in_take_while test [] y h = absurd (cc)
in_take_while test (x ∷ xs) y h = by (in_take_while test xs y) (test x) refl
    (subst (λ (l : List ℕ). list_any (λ z. z == y) l ≡ true) (take_while-cons test x xs) h)
  where
    first : (list_any (λ z. z == y) (take_while test xs) ≡ true → test y ≡ true) → (b : Bool) → (x == y) ≡ b
        → test x ≡ true → (b || list_any (λ z. z == y) (take_while test xs)) ≡ true → test y ≡ true
    first more true e t h = subst (λ (i : ℕ). test i ≡ true) (eqb-true x y e) t
    first more false e t h = more h

    by : (list_any (λ z. z == y) (take_while test xs) ≡ true → test y ≡ true) → (b : Bool) → test x ≡ b → list_any
        (λ z. z == y) (cond b (x ∷ take_while test xs) []) ≡ true → test y ≡ true
    by more true e h = first more (x == y) refl e h
    by more false e h = absurd (cc)

-- the frozen part of a list is marked
pub part_marked : (s : State) (x y : ℕ) → list_any (λ z. z == y) (frozen_part s x) ≡ true → (s.node y).marked ≡ true
part_marked s x y h = by (s.frozen x) h
  where
    by : (b : Bool) → list_any (λ z. z == y) (cond b (take_while (λ y. (s.node y).marked) (s.edges x)) []) ≡ true →
        (s.node y).marked ≡ true
    by true h = in_take_while (λ y. (s.node y).marked) (s.edges x) y h
    by false h = absurd (cc)

-- by cases on whether a linked node of the frozen part is handed over
pub handed_case : (P : Node → Type 0) (s : State) (x y : ℕ) → P (s.node y)
    → ((s.node y).mode ≡ Linked → (s.node y).marked ≡ true → list_any (λ z. z == y) (frozen_part s x) ≡ true → P
    (record (s.node y) { mode = Spent; who = (s.node x).who; ended = s.count; epoch = s.epoch }))
    → P ((handed x s).node y)
handed_case P s x y same given = by (list_any (λ z. z == y) (frozen_part s x)) refl
  where
    linked : (m : Mode) → is_linked m ≡ true → m ≡ Linked
    linked Linked h = refl
    linked _ h = absurd (cc)

    inner : (c : Bool) → is_linked (s.node y).mode ≡ c → list_any (λ z. z == y) (frozen_part s x) ≡ true → P
        (cond c (record (s.node y) { mode = Spent; who = (s.node x).who; ended = s.count; epoch = s.epoch }) (s.node y))
    inner true e h = given (linked (s.node y).mode e) (part_marked s x y h) h
    inner false e h = same

    by : (b : Bool) → list_any (λ z. z == y) (frozen_part s x) ≡ b → P
        (cond (b && is_linked (s.node y).mode) (record (s.node y)
        { mode = Spent; who = (s.node x).who; ended = s.count; epoch = s.epoch }) (s.node y))
    by true e = inner (is_linked (s.node y).mode) refl e
    by false e = same

-- the state in which a node is marked, before the frozen part is handed over
abbrev pub marked_state : State → ℕ → State
marked_state s i = record s { count = s.count + 1; node = put i (record (s.node i) { marked = true }) s.node }

-- the state in which a list is closed at its head, before the frozen part is handed over
abbrev pub closed_state : State → ℕ → State
closed_state s i = record s { count = s.count + 1; frozen = put i true s.frozen }

-- the kinds that link no edge
abbrev pub IsNoJoin : Kind → Type 0
IsNoJoin LinkEdge = ⊥
IsNoJoin ReplaceEdge = ⊥
IsNoJoin _ = Unit {0}

pub put_since : (s : State) (i : ℕ) (v : Node) → v.since ≡ (s.node i).since → (y : ℕ) → (put i v s.node y).since ≡
    (s.node y).since
put_since s i v h y = put_case (λ (n : Node). n.since ≡ (s.node y).since) i v s.node y
    (λ same. h ∙ ap (λ (j : ℕ). (s.node j).since) (sym same)) (λ _. refl)

pub handed_since : (x : ℕ) (s : State) (y : ℕ) → ((handed x s).node y).since ≡ (s.node y).since
handed_since x s y = handed_case (λ (n : Node). n.since ≡ (s.node y).since) s x y refl (λ _ _ _. refl)

-- such an event leaves by which event a node was linked
pub since_still : (k : Kind) → IsNoJoin k → (sizes : Sizes) (e : Event) (s : State) (y : ℕ) →
    ((state_by k sizes e s).node y).since ≡ (s.node y).since
since_still LinkEdge n sizes e s y = absurd n
since_still ReplaceEdge n sizes e s y = absurd n
since_still PopFree n sizes e s y = put_since s e.life.index _ refl y
since_still LinkVertex n sizes e s y = put_since s e.life.index _ refl y
since_still MarkVertex n sizes e s y = put_since s e.life.index _ refl y
since_still UnlinkVertex n sizes e s y = put_since s e.life.index _ refl y
since_still UnlinkEdge n sizes e s y = put_since s e.life.index _ refl y
since_still StoreFree n sizes e s y = put_since s e.life.index _ refl y
since_still PushFree n sizes e s y = put_since s e.life.index _ refl y
since_still MarkEdge n sizes e s y = handed_since (s.node e.life.index).source.index (marked_state s e.life.index) y
    ∙ put_since s e.life.index (record (s.node e.life.index) { marked = true }) refl y
since_still FreezeEdge n sizes e s y = handed_since (s.node e.life.index).source.index (marked_state s e.life.index) y
    ∙ put_since s e.life.index (record (s.node e.life.index) { marked = true }) refl y
since_still FreezeHead n sizes e s y = handed_since e.life.index (closed_state s e.life.index) y
since_still _ n sizes e s y = refl

-- each node was linked by an event before
pub record Sinces (s : State) : Type 0 where
  pub each : (x : ℕ) → (s.node x).since ≤ s.count

sinces_step : (sizes : Sizes) → KeepsByKind sizes (λ (s : State) (w : ℕ → ℕ). Sinces s)
sinces_step sizes past e kept c LinkEdge by ok w a = record {
  each = λ x. put_case
      (λ (v : Node). v.since ≤ (state sizes past).count + 1) e.life.index
      (record (node_in sizes past e.life.index) {
        mode = Linked;
        vertex = false;
        key = e.key;
        source = e.source;
        target =
            e.target;
        weight = e.weight;
        since = (state sizes past).count + 1;
      }) (state sizes past).node x (λ _. omega arith)
      (λ _. omega (arith, c.each x));
}
sinces_step sizes past e kept c ReplaceEdge by ok w a = record {
  each = λ x.
      let s : State = state sizes past in
      let j : State = joined_edge sizes e s in
      let h = handed_since (j.node e.old.index).source.index (marked_state j e.old.index) x in
      let p = put_since j e.old.index (record (j.node e.old.index) { marked = true }) refl x in
      let q = put_case (λ (v : Node). v.since ≤ s.count + 1) e.life.index
      (record (s.node e.life.index) {
        mode = Linked;
        vertex = false;
        key = e.key;
        source = e.source;
        target =
            e.target;
        weight = e.weight;
        since = s.count + 1;
      }) s.node x (λ _. omega arith)
      (λ _. omega (arith, c.each x)) in omega (arith, h, p, q);
}
sinces_step sizes past e kept c k by ok w a = record {
  each = λ x. omega
      (arith, since_still k tt sizes e (state sizes past) x, counted_by k sizes e (state sizes past), c.each x);
}

pub sinces : (sizes : Sizes) (journal : List Event) → IsKept sizes journal → Sinces (state sizes journal)
sinces sizes journal kept = holds_all sizes (λ (s : State) (w : ℕ → ℕ). Sinces s) (sinces_step sizes)
    (record { each = λ x. omega arith }) journal kept
