-- Nodes past the end of the table are free, and what stands on a list of edges is no vertex and isn't being filled.
use Rattle.std.proofs.Common.{◌≡◌, ◌≢◌, ℕ, ◌<◌, ◌≤◌, ◌⊎◌, ◌%◌, Bool, true, false, cond, ◌&&◌, ◌||◌, ◌==◌, List, [], ◌∷◌}
use Rattle.std.proofs.Common.{refl, sym, ◌∙◌, subst, arith, inl, inr, ◌+◌}
use Rattle.std.specs.Prelude.{take_while}
use Rattle.std.proofs.lemmas.List.Sums.{take_while-cons}
use Rattle.std.proofs.lemmas.Bool.{cases_lt}
use Rattle.graph_kinds.specs.Levels.{stands_in}
use Rattle.packed_link.specs.Layout.{Sizes, second_at}
use Rattle.core_journal.specs.declared.event.Kind.TheVariants.{PopFree, LinkVertex, MarkVertex, UnlinkVertex, LinkEdge}
use Rattle.core_journal.specs.declared.event.Kind.TheVariants.{MarkEdge, UnlinkEdge, FreezeHead, FreezeEdge, StoreFree}
use Rattle.core_journal.specs.declared.event.Kind.TheVariants.{PushFree, ReplaceEdge}
use Rattle.core_journal.specs.declared.event.Event.{Event}
use Rattle.core_journal.specs.State.{Free, Fresh, Node, State, is_linked, put, handed, frozen_part, unlinked_from}
use Rattle.core_journal.specs.State.{state, joined_edge, Linked}
use Rattle.core_kept.specs.Kept.{IsKept}
use Rattle.core_kept.specs.Nodes.{node_in}
use Rattle.core_kept.specs.Nodes.{is_of_bucket}
use Rattle.core_kept.proofs.ByKind.{KeepsByKind, put_case, put_other, handed_case, marked_state, closed_state}
use Rattle.core_kept.proofs.ByKind.{holds_all}
use Rattle.core_kept.proofs.MetFromHead.{linked_stands, unlinked_stands}

-- a node past the end of the table is free
record FreeBeyond (sizes : Sizes) (s : State) : Type 0 where
  pub each : (x : ℕ) → sizes.nodes ≤ x → (s.node x).mode ≡ Free

put_beyond : (sizes : Sizes) (s : State) (i : ℕ) (v : Node) → i < sizes.nodes → FreeBeyond sizes s → (x : ℕ)
    → sizes.nodes ≤ x → (put i v s.node x).mode ≡ Free
put_beyond sizes s i v there c x far = put_case (λ (u : Node). u.mode ≡ Free) i v s.node x
    (λ same. absurd (omega arith)) (λ _. c.each x far)

handed_beyond : (sizes : Sizes) (s : State) (v : ℕ) → FreeBeyond sizes s → FreeBeyond sizes (handed v s)
handed_beyond sizes s v c = record {
  each = λ x far. handed_case (λ (u : Node). u.mode ≡ Free) s v x (c.each x far)
      (λ m _ _. let f = c.each x far in absurd (cc));
}

beyond_step : (sizes : Sizes) → KeepsByKind sizes (λ (s : State) (w : ℕ → ℕ). FreeBeyond sizes s)
beyond_step sizes past e kept c PopFree by ok w a = record {
  each = put_beyond sizes
      (state sizes past) e.life.index _ ok.there c;
}
beyond_step sizes past e kept c LinkVertex by ok w a = record
    { each = put_beyond sizes (state sizes past) e.life.index _ ok.there c }
beyond_step sizes past e kept c MarkVertex by ok w a = record
    { each = put_beyond sizes (state sizes past) e.life.index _ ok.there c }
beyond_step sizes past e kept c UnlinkVertex by ok w a = record
    { each = put_beyond sizes (state sizes past) e.life.index _ ok.there c }
beyond_step sizes past e kept c LinkEdge by ok w a = record {
  each = put_beyond sizes
      (state sizes past) e.life.index _ ok.there c;
}
beyond_step sizes past e kept c UnlinkEdge by ok w a = record
    { each = put_beyond sizes (state sizes past) e.life.index _ ok.there c }
beyond_step sizes past e kept c StoreFree by ok w a = record {
  each = put_beyond sizes
      (state sizes past) e.life.index _ ok.there c;
}
beyond_step sizes past e kept c PushFree by ok w a = record {
  each = put_beyond sizes
      (state sizes past) e.life.index _ ok.there c;
}
beyond_step sizes past e kept c MarkEdge by ok w a = handed_beyond sizes (marked_state (state sizes past) e.life.index)
    (node_in sizes past e.life.index).source.index record {
      each = put_beyond sizes
          (state sizes past) e.life.index _ ok.there c;
    }
beyond_step sizes past e kept c ReplaceEdge by ok w a = handed_beyond sizes
    (marked_state (joined_edge sizes e (state sizes past)) e.old.index)
    ((joined_edge sizes e (state sizes past)).node e.old.index).source.index record {
      each = put_beyond sizes (joined_edge sizes e (state sizes past)) e.old.index _ ok.old_there record
          { each = put_beyond sizes (state sizes past) e.life.index _ ok.there c };
    }
beyond_step sizes past e kept c FreezeEdge by ok w a = handed_beyond sizes
    (marked_state (state sizes past) e.life.index) (node_in sizes past e.life.index).source.index record
    { each = put_beyond sizes (state sizes past) e.life.index _ ok.there c }
beyond_step sizes past e kept c FreezeHead by ok w a = handed_beyond sizes
    (closed_state (state sizes past) e.life.index) e.life.index record { each = c.each }
beyond_step sizes past e kept c _ by ok w a = record { each = c.each }

free_beyond : (sizes : Sizes) (journal : List Event) → IsKept sizes journal → FreeBeyond sizes (state sizes journal)
free_beyond sizes journal kept = holds_all sizes (λ (s : State) (w : ℕ → ℕ). FreeBeyond sizes s) (beyond_step sizes)
    (record { each = λ x far. refl }) journal kept

-- a node that isn't free is one of the table
pub used_there : (sizes : Sizes) (journal : List Event) (x : ℕ) → IsKept sizes journal →
    (node_in sizes journal x).mode ≢ Free → x < sizes.nodes
used_there sizes journal x kept used = by (cases_lt x sizes.nodes)
  where
    by : (x < sizes.nodes) ⊎ (sizes.nodes ≤ x) → x < sizes.nodes
    by (inl h) = h
    by (inr far) = absurd (used ((free_beyond sizes journal kept).each x far))

-- a node that is no vertex and isn't being filled
abbrev pub IsEdgeNode : Node → Type 0
IsEdgeNode v = (v.mode ≢ Fresh) × (v.vertex ≡ false)

-- what stands on a list of edges is an edge, or was one before it was given back
pub record OnLists (s : State) : Type 0 where
  pub each : (x y : ℕ) → stands_in (s.edges x) y ≡ true → IsEdgeNode (s.node y)

-- one node changes, and is an edge where it was one
put_lists : (s : State) (i : ℕ) (v : Node) → OnLists s → (IsEdgeNode (s.node i) → IsEdgeNode v) → (x y : ℕ) → stands_in
    (s.edges x)
    y ≡ true → IsEdgeNode (put i v s.node y)
put_lists s i v c new x y h = put_case IsEdgeNode i v s.node y
    (λ same. new (subst (λ (z : ℕ). IsEdgeNode (s.node z)) same (c.each x y h))) (λ _. c.each x y h)

handed_lists : (s : State) (v : ℕ) → OnLists s → OnLists (handed v s)
handed_lists s v c = record {
  each = λ x y h. handed_case IsEdgeNode s v y (c.each x y h)
      (λ _ _ _. ((λ f. absurd (cc)), (c.each x y h).1));
}

pub marked_lists : (s : State) (i : ℕ) → OnLists s → OnLists (marked_state s i)
marked_lists s i c = record { each = put_lists s i _ c (λ h. h) }

-- the lists on which an edge is linked that replaces another
pub joined_lists : (sizes : Sizes) (past : List Event) (e : Event) → OnLists (state sizes past) → OnLists
    (joined_edge sizes e (state sizes past))
joined_lists sizes past e c = record {
  each = λ x y h. put_case IsEdgeNode e.life.index (record (node_in sizes past e.life.index) {
    mode = Linked;
    vertex = false;
    key = e.key;
    source = e.source;
    target = e.target;
    weight = e.weight;
    since =
        (state sizes past).count + 1;
  }) (state sizes past).node y
      (λ same. ((λ f. absurd (cc)), refl))
      (λ ne. c.each x y (sym (linked_stands sizes (second_at sizes x) e.place e.life.index y
      ((state sizes past).edges x) ne) ∙ h));
}

lists_step : (sizes : Sizes) → KeepsByKind sizes (λ (s : State) (w : ℕ → ℕ). OnLists s)
lists_step sizes past e kept c PopFree by ok w a =
    let v : Node = record (node_in sizes past e.life.index) {
      mode = Fresh;
      who = e.caller;
      tag = e.life.tag;
      marked =
          false;
      stored = false;
    } in
    record {
      each = λ x y. put_case (λ (l : List ℕ). stands_in l y ≡ true → IsEdgeNode
          (put e.life.index v (state sizes past).node y)) e.life.index []
          (λ z. unlinked_from e.life.index ((state sizes past).edges z)) x
          (λ _ h. absurd (let f : false ≡ true = h in cc))
          (λ _ h.
          let u = unlinked_stands e.life.index y ((state sizes past).edges x) h in
          subst IsEdgeNode (sym (put_other e.life.index v (state sizes past).node y u.0)) (c.each x y u.1));
    }
lists_step sizes past e kept c LinkVertex by ok w a = record {
  each = put_lists (state sizes past) e.life.index _ c
      (λ h. absurd (h.0 ok.fresh.fresh));
}
lists_step sizes past e kept c MarkVertex by ok w a = record {
  each = put_lists (state sizes past) e.life.index _ c
      (λ h. h);
}
lists_step sizes past e kept c UnlinkVertex by ok w a = record
    { each = put_lists (state sizes past) e.life.index _ c (λ h. ((λ f. absurd (cc)), h.1)) }
lists_step sizes past e kept c LinkEdge by ok w a = record {
  each = λ x y h. put_case IsEdgeNode e.life.index _ (state sizes past).node y
      (λ same. ((λ f. absurd (cc)), refl))
      (λ ne. c.each x y (sym (linked_stands sizes (second_at sizes x) e.place e.life.index y
      ((state sizes past).edges x) ne) ∙ h));
}
lists_step sizes past e kept c UnlinkEdge by ok w a = record {
  each = λ x y h. put_lists (state sizes past) e.life.index _ c (λ h. ((λ f. absurd (cc)), h.1)) x y
      (unlinked_stands e.life.index y ((state sizes past).edges x) h).1;
}
lists_step sizes past e kept c StoreFree by ok w a = record {
  each = put_lists (state sizes past) e.life.index _ c
      (λ h. h);
}
lists_step sizes past e kept c PushFree by ok w a = record {
  each = put_lists (state sizes past) e.life.index _ c
      (λ h. ((λ f. absurd (cc)), h.1));
}
lists_step sizes past e kept c MarkEdge by ok w a = handed_lists (marked_state (state sizes past) e.life.index)
    (node_in sizes past e.life.index).source.index (marked_lists (state sizes past) e.life.index c)
lists_step sizes past e kept c ReplaceEdge by ok w a =
    let t : State = joined_edge sizes e (state sizes past) in
    handed_lists (marked_state t e.old.index) (t.node e.old.index).source.index (marked_lists t e.old.index record {
      each = λ x y h. put_case IsEdgeNode e.life.index _ (state sizes past).node y
          (λ same. ((λ f. absurd (cc)), refl))
          (λ ne. c.each x y (sym (linked_stands sizes (second_at sizes x) e.place e.life.index y
          ((state sizes past).edges x) ne) ∙ h));
    })
lists_step sizes past e kept c FreezeEdge by ok w a = handed_lists (marked_state (state sizes past) e.life.index)
    (node_in sizes past e.life.index).source.index (marked_lists (state sizes past) e.life.index c)
lists_step sizes past e kept c FreezeHead by ok w a = handed_lists
    (closed_state (state sizes past) e.life.index) e.life.index record { each = c.each }
lists_step sizes past e kept c _ by ok w a = record { each = c.each }

-- what stands on a list after each kept journal
pub on_lists : (sizes : Sizes) (journal : List Event) → IsKept sizes journal → OnLists (state sizes journal)
on_lists sizes journal kept = holds_all sizes (λ (s : State) (w : ℕ → ℕ). OnLists s) (lists_step sizes)
    (record { each = λ x y h. absurd (cc) }) journal kept

-- the longest prefix whose nodes pass a test is part of the list
part_stands : (test : ℕ → Bool) (y : ℕ) (xs : List ℕ) → stands_in (take_while test xs) y ≡ true → stands_in xs y ≡ true
part_stands test y [] h = absurd (cc)
part_stands test y (x ∷ xs) h = by (part_stands test y xs) (test x)
    (subst (λ (l : List ℕ). stands_in l y ≡ true) (take_while-cons test x xs) h)
  where
    inner : (b : Bool) → (stands_in (take_while test xs) y ≡ true → stands_in xs y ≡ true) →
        (b || stands_in (take_while test xs) y) ≡ true → (b || stands_in xs y) ≡ true
    inner true more h = refl
    inner false more h = more h

    by : (stands_in (take_while test xs) y ≡ true → stands_in xs y ≡ true) → (b : Bool) → stands_in
        (cond b (x ∷ take_while test xs) [])
        y ≡ true → stands_in (x ∷ xs) y ≡ true
    by more true h = inner (x == y) more h
    by more false h = absurd (cc)

-- the frozen part of a list is part of it
pub frozen_stands : (s : State) (x y : ℕ) → stands_in (frozen_part s x) y ≡ true → stands_in (s.edges x) y ≡ true
frozen_stands s x y h = by (s.frozen x) h
  where
    by : (b : Bool) → stands_in (cond b (take_while (λ z. (s.node z).marked) (s.edges x)) []) y ≡ true → stands_in
        (s.edges x)
        y ≡ true
    by true h = part_stands (λ z. (s.node z).marked) y (s.edges x) h
    by false h = absurd (cc)

-- no vertex is handed over with the frozen part of a list
pub handed_bucket : (sizes : Sizes) (s : State) (v j y : ℕ) → OnLists s → is_of_bucket sizes
    (handed v s) j y ≡ is_of_bucket sizes s j y
handed_bucket sizes s v j y c = handed_case (λ (u : Node). (is_linked u.mode &&
    (u.vertex && (u.key % sizes.buckets == j))) ≡ is_of_bucket sizes s j y) s v y refl
    (λ _ _ part. sym (none (is_linked (s.node y).mode) (s.node y).vertex ((s.node y).key % sizes.buckets == j)
    (c.each v y (frozen_stands s v y part)).1))
  where
    none : (a b k : Bool) → b ≡ false → (a && (b && k)) ≡ false
    none true true k h = absurd (cc)
    none true false k h = refl
    none false b k h = refl
