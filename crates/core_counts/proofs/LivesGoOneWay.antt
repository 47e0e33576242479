-- Each life goes through each stage at most once, and only after the one that it needs.
use Rattle.std.proofs.Common.{◌≡◌, ◌≢◌, ℕ, ◌+◌, ◌<◌, ◌≤◌, Bool, true, false, cond, ◌&&◌, ◌||◌, List, [], ◌∷◌, ◌++◌}
use Rattle.std.proofs.Common.{length, filter, refl, sym, ap, ◌∙◌, subst, arith}
use Rattle.std.specs.Prelude.{is_some}
use Rattle.std.specs.List.{list_any}
use Rattle.packed_link.specs.Link.{mark_of}
use Rattle.packed_link.specs.Layout.{Sizes, IsLayout, link_at}
use Rattle.packed_link.specs.declared.link.Life.{Life}
use Rattle.core_journal.specs.Event.{unlinks_vertex, unlinks_edge, pushes}
use Rattle.core_journal.specs.declared.event.Kind.{Kind}
use Rattle.core_journal.specs.declared.event.Kind.TheVariants.{PopFree, LinkVertex, MarkVertex, UnlinkVertex, LinkEdge}
use Rattle.core_journal.specs.declared.event.Kind.TheVariants.{MarkEdge, UnlinkEdge, FreezeHead, FreezeEdge, PushFree}
use Rattle.core_journal.specs.declared.event.Kind.TheVariants.{ReplaceEdge}
use Rattle.core_journal.specs.declared.event.Event.{Event}
use Rattle.core_journal.specs.Event.{same_life, links_vertex, marks_vertex, links_edge, marks_edge, cuts_edge, cut_life}
use Rattle.core_journal.specs.Event.{replaces, unlinks, freezes_head}
use Rattle.core_journal.specs.Life.{vertex_linked, edge_linked}
use Rattle.core_journal.specs.Machine.{word_at}
use Rattle.core_journal.specs.State.{Mode, Free, Linked, Spent, Node, state}
use Rattle.core_journal.proofs.KeptLives.{linked-key, linked-link}
use Rattle.core_journal.proofs.Snoc.{same_is, own_cut}
use Rattle.core_journal.specs.Event.{pops, links}
use Rattle.core_kept.specs.Counts.{about}
use Rattle.core_kept.specs.Kept.{Allowed, AllowedAs, IsKept}
use Rattle.core_kept.specs.Nodes.{node_in, IsUsed, IsFrozenToEnd}
use Rattle.core_lists.specs.Chains.{HasList}
use Rattle.core_lists.proofs.ListHoldsKept.{sources}
use Rattle.core_kept.proofs.Induction.{kept_all}
use Rattle.core_kept.proofs.LinkWords.{taken, link_words, mark_is, mark_isnt}
use Rattle.core_kept.proofs.LinkedOnce.{linked_once}
use Rattle.core_kept.proofs.PastLives.{count_snoc, about_other, about_else, about_this, lives}
use Rattle.core_kept.proofs.Named.{life_is, named}
use Rattle.core_kept.proofs.Contents.{contents}
use Rattle.core_counts.specs.Totals.{cuts, GoesOneWay}
use Rattle.core_kept.proofs.LinkedVertices.{life_of}
use Rattle.core_counts.proofs.NodesTellStages.{told, about_more, is_early}

module _ {A : Type 0} where
  none_counted : (test : A → Bool) (xs : List A) → list_any test xs ≡ false → length (filter test xs) ≡ 0
  none_counted test [] h = refl
  none_counted test (x ∷ xs) h = by (test x) (none_counted test xs) h
    where
      by : (b : Bool) → (list_any test xs ≡ false → length (filter test xs) ≡ 0) → (b || list_any test xs) ≡ false
          → length (cond b (x ∷ filter test xs) (filter test xs)) ≡ 0
      by true more h = absurd (cc)
      by false more h = more h

  some_counted : (test : A → Bool) (xs : List A) → list_any test xs ≡ true → 1 ≤ length (filter test xs)
  some_counted test [] h = absurd (cc)
  some_counted test (x ∷ xs) h = by (test x) (some_counted test xs) h
    where
      by : (b : Bool) → (list_any test xs ≡ true → 1 ≤ length (filter test xs)) → (b || list_any test xs) ≡ true
          → 1 ≤ length (cond b (x ∷ filter test xs) (filter test xs))
      by true more h = omega arith
      by false more h = more h

-- events of some kinds are such of more kinds
fewer_kinds : (test more : Kind → Bool) → ((k : Kind) → test k ≡ true → more k ≡ true) → (x : Life)
    (journal : List Event) → about test x journal ≤ about more x journal
fewer_kinds test more each x [] = omega arith
fewer_kinds test more each x (e ∷ es) = by (test e.kind) (more e.kind) (same_life x e.life) (each e.kind)
    (fewer_kinds test more each x es)
  where
    by : (a b c : Bool) → (a ≡ true → b ≡ true) → about test x es ≤ about more x es → length
        (cond (a && c) (e ∷ filter (λ (d : Event). test d.kind && same_life x d.life) es)
        (filter (λ (d : Event). test d.kind && same_life x d.life) es)) ≤ length
        (cond (b && c) (e ∷ filter (λ (d : Event). more d.kind && same_life x d.life) es)
        (filter (λ (d : Event). more d.kind && same_life x d.life) es))
    by true true true g h = omega (arith, h)
    by true true false g h = h
    by true false c g h = let t = g refl in absurd (cc)
    by false true true g h = omega (arith, h)
    by false true false g h = h
    by false false c g h = h

used_linked : (m : Mode) → m ≡ Linked → IsUsed m
used_linked Linked h = tt
used_linked _ h = absurd (cc)

used_spent : (m : Mode) → m ≡ Spent → IsUsed m
used_spent Spent h = tt
used_spent _ h = absurd (cc)

-- how many events of some kinds are about a life in some sense
abbrev times : (Kind → Bool) → (Event → Life) → Life → List Event → ℕ
times test at x journal = length (filter (λ (d : Event). test d.kind && same_life x (at d)) journal)

times-snoc : (test : Kind → Bool) (at : Event → Life) (x : Life) (past : List Event) (e : Event) → times test at x
    (past ++ e ∷ []) ≡ times test at x past + cond (test e.kind && same_life x (at e)) 1 0
times-snoc test at x past e = count_snoc (λ (d : Event). test d.kind && same_life x (at d)) past e

-- before an event of these kinds its life has none of them, and one of the others
abbrev FollowsOther : Sizes → (Kind → Bool) → (Event → Life) → (Life → List Event → ℕ) → Type 0
FollowsOther sizes test at other = (past : List Event) (e : Event) → IsKept sizes past → (k : Kind) → e.kind ≡ k
    → AllowedAs k sizes past e → test k ≡ true → (times test at (at e) past ≡ 0) × (1 ≤ other (at e) past)

module _ (sizes : Sizes) (test : Kind → Bool) (at : Event → Life) (other : Life → List Event → ℕ)
    (more : (x : Life) (past : List Event) (e : Event) → other x past ≤ other x (past ++ e ∷ []))
    (none : (x : Life) → 0 ≤ other x []) (before : FollowsOther sizes test at other) where
  follow_step : (past : List Event) (e : Event) → IsKept sizes past → ((x : Life) → times test at x past ≤ other x past)
      → Allowed sizes past e → (x : Life) → times test at x (past ++ e ∷ []) ≤ other x (past ++ e ∷ [])
  follow_step past e kept h ok x = by (test e.kind) refl (same_life x (at e)) refl (times-snoc test at x past e)
    where
      by : (b : Bool) → test e.kind ≡ b → (c : Bool) → same_life x (at e) ≡ c → times test at x
          (past ++ e ∷ []) ≡ times test at x past + cond (b && c) 1 0 → times test at x (past ++ e ∷ []) ≤ other x
          (past ++ e ∷ [])
      by true t true s is =
          let g = before past e kept e.kind refl ok.as_kind t in
          let l : x ≡ at e = same_is x (at e) s in
          let none : times test at x past ≡ 0 = ap (λ (y : Life). times test at y past) l ∙ g.0 in
          let one : other x past ≡ other (at e) past = ap (λ (y : Life). other y past) l in
          omega (arith, is, none, one, g.1, more x past e)
      by true t false s is = omega (arith, is, h x, more x past e)
      by false t c s is = omega (arith, is, h x, more x past e)

  follows : (journal : List Event) → IsKept sizes journal → (x : Life) → times test at x journal ≤ other x journal
  follows journal kept = kept_all sizes (λ (j : List Event). (x : Life) → times test at x j ≤ other x j) follow_step
      none journal kept

-- no life has two
module _ (sizes : Sizes) (test : Kind → Bool) (before : (past : List Event) (e : Event) → IsKept sizes past → (k : Kind)
    → e.kind ≡ k → AllowedAs k sizes past e → test k ≡ true → about test e.life past ≡ 0) where
  once : (journal : List Event) → IsKept sizes journal → (x : Life) → about test x journal ≤ 1
  once journal kept = kept_all sizes (λ (j : List Event). (x : Life) → about test x j ≤ 1) step
      (λ x. omega arith) journal kept
    where
      step : (past : List Event) (e : Event) → IsKept sizes past → ((x : Life) → about test x past ≤ 1)
          → Allowed sizes past e → (x : Life) → about test x (past ++ e ∷ []) ≤ 1
      step past e kept h ok x = by (test e.kind) refl (same_life x e.life) refl
        where
          by : (b : Bool) → test e.kind ≡ b → (c : Bool) → same_life x e.life ≡ c → about test x (past ++ e ∷ []) ≤ 1
          by true t true s =
              let none : about test x past ≡ 0 = ap (λ (y : Life). about test y past) (same_is x e.life s)
              ∙ before past e kept e.kind refl ok.as_kind t in
              omega (arith, about_this test x past e t s, none)
          by true t false s = omega (arith, about_else test x past e s, h x)
          by false t c s = omega (arith, about_other test x past e t, h x)

abbrev life_of_event : Event → Life
life_of_event e = e.life

cuts_more : (x : Life) (past : List Event) (e : Event) → cuts x past ≤ cuts x (past ++ e ∷ [])
cuts_more x past e = omega (arith, times-snoc cuts_edge cut_life x past e)

-- a life that its node is in
module _ (sizes : Sizes) (z : IsLayout sizes) (past : List Event) (kept : IsKept sizes past) (l : Life)
    (life : l.tag ≡ (node_in sizes past l.index).tag) where
  abbrev x : ℕ
  x = l.index

  abbrev v : Node
  v = node_in sizes past l.index

  itself : l ≡ life_of x v
  itself = life_is l x v.tag refl life

  its : (test : Kind → Bool) → about test l past ≡ about test (life_of x v) past
  its test = ap (λ (y : Life). about test y past) itself

  its_cuts : cuts l past ≡ cuts (life_of x v) past
  its_cuts = ap (λ (y : Life). cuts y past) itself

  was_taken : v.mode ≢ Free → 1 ≤ about pops l past
  was_taken m = omega (arith, its pops, ((told sizes z past kept).each x).taken m)

  -- a linked node by the mark of its link
  not_marked : x < sizes.nodes → v.mode ≡ Linked → mark_of (word_at sizes past (link_at sizes x)) ≡ 0 → v.marked ≡ false
  not_marked t m w = mark_isnt v.marked (sym (((link_words sizes z past kept).each x t).linked m).mark ∙ w)

  is_marked : x < sizes.nodes → v.mode ≡ Linked → mark_of (word_at sizes past (link_at sizes x)) ≡ 1 → v.marked ≡ true
  is_marked t m w = mark_is v.marked (sym (((link_words sizes z past kept).each x t).linked m).mark ∙ w)

  vertex_link : x < sizes.nodes → IsUsed v.mode → v.vertex ≡ true → 1 ≤ about links_vertex l past
  vertex_link t u w =
      let key = ((named sizes z past kept).each x t).vertex_key u w in
      let is : vertex_linked past (life_of x v) ≡ true = linked-key past (life_of x v) ∙ ap is_some key in
      omega (
        arith,
        its links_vertex,
        some_counted (λ (d : Event). links_vertex d.kind && same_life
            (life_of x v) d.life) past is,
      )

  edge_link : x < sizes.nodes → IsUsed v.mode → v.vertex ≡ false → 1 ≤ about links_edge l past
  edge_link t u w =
      let link = ((named sizes z past kept).each x t).edge_link u w in
      let is : edge_linked past (life_of x v) ≡ true = linked-link past (life_of x v) ∙ ap is_some link.is in
      omega (
        arith,
        its links_edge,
        some_counted (λ (d : Event). links_edge d.kind && same_life (life_of x v) d.life)
            past is,
      )

  vertex_unmarked : x < sizes.nodes → IsUsed v.mode → v.vertex ≡ true → v.marked ≡ false → about marks_vertex l past ≡ 0
  vertex_unmarked t u w m = its marks_vertex ∙ none_counted (λ (d : Event). marks_vertex d.kind && same_life
      (life_of x v) d.life) past (((named sizes z past kept).each x t).vertex_mark u w ∙ m)

  vertex_mark : x < sizes.nodes → IsUsed v.mode → v.vertex ≡ true → v.marked ≡ true → 1 ≤ about marks_vertex l past
  vertex_mark t u w m = omega (
    arith,
    its marks_vertex,
    some_counted
        (λ (d : Event). marks_vertex d.kind && same_life (life_of x v) d.life) past
        (((named sizes z past kept).each x t).vertex_mark u w ∙ m),
  )

  edge_unmarked : x < sizes.nodes → IsUsed v.mode → v.vertex ≡ false → v.marked ≡ false → cuts l past ≡ 0
  edge_unmarked t u w m = its_cuts ∙ none_counted (λ (d : Event). cuts_edge d.kind && same_life (life_of x v)
      (cut_life d)) past (((named sizes z past kept).each x t).edge_mark u w ∙ m)

  edge_mark : x < sizes.nodes → IsUsed v.mode → v.vertex ≡ false → v.marked ≡ true → 1 ≤ cuts l past
  edge_mark t u w m = omega (
    arith,
    its_cuts,
    some_counted (λ (d : Event). cuts_edge d.kind && same_life (life_of x v)
        (cut_life d)) past (((named sizes z past kept).each x t).edge_mark u w ∙ m),
  )

  not_unlinked : (test : Kind → Bool) → ((k : Kind) → test k ≡ true → unlinks k ≡ true) → v.mode ≡ Linked
      → about test l past ≡ 0
  not_unlinked test each m =
      let none = ((told sizes z past kept).each x).unlinked (ap is_early m) in
      omega (arith, its test, fewer_kinds test unlinks each (life_of x v) past, none)

  -- an edge that's linked and unmarked is to be marked
  to_mark : x < sizes.nodes → v.mode ≡ Linked → v.vertex ≡ false → mark_of (word_at sizes past (link_at sizes x)) ≡ 0 →
      (cuts l past ≡ 0) × (1 ≤ about links_edge l past)
  to_mark t m w off =
      let u = used_linked _ m in
      (edge_unmarked t u w (not_marked t m off), edge_link t u w)

module _ (sizes : Sizes) (z : IsLayout sizes) where
  takes : (past : List Event) (e : Event) → IsKept sizes past → (k : Kind) → e.kind ≡ k → AllowedAs k sizes past e
      → pops k ≡ true → about pops e.life past ≡ 0
  takes past e kept PopFree is ok t = (lives sizes z past kept).later pops e.life
      (omega (arith, (taken sizes z past e kept ok).tag))
  takes past e kept _ is ok t = absurd (cc)

  link_takes : FollowsOther sizes links life_of_event (about pops)
  link_takes past e kept LinkVertex is ok t = (
    its sizes z past kept e.life ok.life links ∙ (linked_once sizes z past kept).fresh e.life.index ok.fresh.fresh,
    was_taken sizes z past kept e.life ok.life (let f = ok.fresh.fresh in λ h. absurd (cc)),
  )
  link_takes past e kept LinkEdge is ok t = (
    its sizes z past kept e.life ok.life links ∙ (linked_once sizes z past kept).fresh e.life.index ok.fresh.fresh,
    was_taken sizes z past kept e.life ok.life (let f = ok.fresh.fresh in λ h. absurd (cc)),
  )
  link_takes past e kept ReplaceEdge is ok t = (
    its sizes z past kept e.life ok.life links ∙ (linked_once sizes z past kept).fresh e.life.index ok.fresh.fresh,
    was_taken sizes z past kept e.life ok.life (let f = ok.fresh.fresh in λ h. absurd (cc)),
  )
  link_takes past e kept _ is ok t = absurd (cc)

  at_link : (past : List Event) (e : Event) (i : ℕ) (n : ℕ) → e.place ≡ i → mark_of (word_at sizes past e.place) ≡ n
      → mark_of (word_at sizes past i) ≡ n
  at_link past e i n p m = ap (λ (j : ℕ). mark_of (word_at sizes past j)) (sym p) ∙ m

  mark_links_vertex : FollowsOther sizes marks_vertex life_of_event (about links_vertex)
  mark_links_vertex past e kept MarkVertex is ok t =
      let u = used_linked _ ok.linked.linked in
      let m = not_marked sizes z past kept e.life ok.life ok.there ok.linked.linked
      (at_link past e _ 0 ok.place ok.unmarked) in (
        vertex_unmarked sizes z past kept e.life ok.life ok.there u ok.linked.vertex m,
        vertex_link sizes z past kept
            e.life ok.life ok.there u ok.linked.vertex,
      )
  mark_links_vertex past e kept _ is ok t = absurd (cc)

  unlink_marks_vertex : FollowsOther sizes unlinks_vertex life_of_event (about marks_vertex)
  unlink_marks_vertex past e kept UnlinkVertex is ok t =
      let u = used_linked _ ok.linked.linked in (
        not_unlinked sizes z past kept e.life ok.life unlinks_vertex within ok.linked.linked,
        vertex_mark sizes z past
            kept e.life ok.life ok.there u ok.linked.vertex (is_marked sizes z past kept e.life ok.life ok.there
            ok.linked.linked ok.dead),
      )
    where
      within : (k : Kind) → unlinks_vertex k ≡ true → unlinks k ≡ true
      within UnlinkVertex h = refl
      within _ h = absurd (cc)
  unlink_marks_vertex past e kept _ is ok t = absurd (cc)

  close_unlinks_vertex : FollowsOther sizes freezes_head life_of_event (about unlinks_vertex)
  close_unlinks_vertex past e kept FreezeHead is ok t =
      let u = used_spent _ ok.spent.spent in
      let words = ((contents sizes z past kept).each e.life.index ok.there).vertex u ok.spent.vertex in
      let head : (state sizes past).frozen e.life.index ≡ false = mark_isnt _
      (sym words.second_mark ∙ at_link past e _ 0 ok.place ok.unmarked) in
      let s = ok.spent.spent in (
        its sizes z past kept e.life ok.life freezes_head ∙ ((told sizes z past kept).each e.life.index).unclosed
            (λ h. absurd (cc)) head,
        omega (
          arith,
          its sizes z past kept e.life ok.life unlinks_vertex,
          ((told sizes z past kept).each e.life.index).spent ok.spent.spent ok.spent.vertex,
        ),
      )
  close_unlinks_vertex past e kept _ is ok t = absurd (cc)

  -- the life that an event marks as an edge
  abbrev IsToMark : List Event → Life → Type 0
  IsToMark past l = (cuts l past ≡ 0) × (1 ≤ about links_edge l past)

  cuts_itself : (e : Event) (k : Kind) → e.kind ≡ k → marks_edge k ≡ true → cut_life e ≡ e.life
  cuts_itself e k is m = own_cut e (ap marks_edge is ∙ m)

  mark_links_edge : FollowsOther sizes cuts_edge cut_life (about links_edge)
  mark_links_edge past e kept MarkEdge is ok t = subst (IsToMark past) (sym (cuts_itself e MarkEdge is refl))
      (to_mark sizes z past kept e.life ok.life ok.there ok.linked.linked ok.linked.edge
      (at_link past e _ 0 ok.place ok.unmarked))
  mark_links_edge past e kept FreezeEdge is ok t = subst (IsToMark past) (sym (cuts_itself e FreezeEdge is refl))
      (to_mark sizes z past kept e.life ok.life ok.there ok.linked.linked ok.linked.edge
      (at_link past e _ 0 ok.place ok.unmarked))
  mark_links_edge past e kept ReplaceEdge is ok t = subst (IsToMark past)
      (sym (ap (λ (k : Kind). cond (replaces k) e.old e.life) is))
      (to_mark sizes z past kept e.old ok.old_life ok.old_there ok.linked.linked ok.linked.edge
      (at_link past e _ 0 ok.place ok.unmarked))
  mark_links_edge past e kept _ is ok t = absurd (cc)

  unlink_marks_edge : FollowsOther sizes unlinks_edge life_of_event cuts
  unlink_marks_edge past e kept UnlinkEdge is ok t =
      let u = used_linked _ ok.linked.linked in (
        not_unlinked sizes z past kept e.life ok.life unlinks_edge within ok.linked.linked,
        edge_mark sizes z past kept
            e.life ok.life ok.there u ok.linked.edge (is_marked sizes z past kept e.life ok.life ok.there
            ok.linked.linked
            ok.dead),
      )
    where
      within : (k : Kind) → unlinks_edge k ≡ true → unlinks k ≡ true
      within UnlinkEdge h = refl
      within _ h = absurd (cc)
  unlink_marks_edge past e kept _ is ok t = absurd (cc)

  push_takes : FollowsOther sizes pushes life_of_event (about pops)
  push_takes past e kept PushFree is ok t =
      let s = ok.ripe.stamped.spent.spent in (
        its sizes z past kept e.life ok.life pushes ∙ ((told sizes z past kept).each e.life.index).back
            (λ h. absurd (cc)),
        was_taken sizes z past kept e.life ok.life (λ h. absurd (cc)),
      )
  push_takes past e kept _ is ok t = absurd (cc)

  -- the list of a vertex that's stored is closed, and a spent edge is marked
  push_closes : FollowsOther sizes pushes life_of_event
      (λ (x : Life) (j : List Event). about freezes_head x j + cuts x j)
  push_closes past e kept PushFree is ok t =
      let v : Node = node_in sizes past e.life.index in
      let s = ok.ripe.stamped.spent.spent in (
        (push_takes past e kept PushFree is ok t).0,
        by v.vertex refl ((state sizes past).frozen e.life.index) refl
            (used_spent _ s),
      )
    where
      by : (b : Bool) → (node_in sizes past e.life.index).vertex ≡ b → (f : Bool) →
          (state sizes past).frozen e.life.index ≡ f → IsUsed (node_in sizes past e.life.index).mode
          → 1 ≤ about freezes_head e.life past + cuts e.life past
      by true w true f u = omega (
        arith,
        its sizes z past kept e.life ok.life freezes_head,
        ((told sizes z past kept).each e.life.index).closed f,
      )
      by true w false f u =
          let has : HasList sizes past e.life.index = record {
            there = ok.there;
            used = u;
            vertex = w;
            unfinished = λ
                (h : IsFrozenToEnd sizes past e.life.index). let c = h.head in absurd (cc);
          } in
          let no : (node_in sizes past e.life.index).stored ≡ false =
          (sources sizes z past kept).unstored e.life.index has in
          let yes : (node_in sizes past e.life.index).stored ≡ true = ok.stored in
          absurd (cc)
      by false w f c u = omega (
        arith,
        edge_mark sizes z past kept e.life ok.life ok.there u w
            (((link_words sizes z past kept).each e.life.index ok.there).marked ok.ripe.stamped.spent.spent),
      )
  push_closes past e kept _ is ok t = absurd (cc)

  -- as many are given back as were taken at most
  pub given_taken : (journal : List Event) → IsKept sizes journal → (x : Life)
      → about pushes x journal ≤ about pops x journal
  given_taken = follows sizes pushes life_of_event (about pops) (about_more pops) (λ x. omega arith) push_takes

  pub one_way : (journal : List Event) → IsKept sizes journal → (x : Life) → GoesOneWay journal x
  one_way journal kept x = record {
    taken = once sizes pops takes journal kept x;
    linked = follows sizes links life_of_event (about pops) (about_more pops) (λ x. omega arith) link_takes
        journal kept x;
    vertex_marked = follows sizes marks_vertex life_of_event (about links_vertex) (about_more links_vertex)
        (λ x. omega arith) mark_links_vertex journal kept x;
    vertex_unlinked = follows sizes unlinks_vertex life_of_event (about marks_vertex) (about_more marks_vertex)
        (λ x. omega arith) unlink_marks_vertex journal kept x;
    closed = follows sizes freezes_head life_of_event (about unlinks_vertex) (about_more unlinks_vertex)
        (λ x. omega arith) close_unlinks_vertex journal kept x;
    edge_marked = follows sizes cuts_edge cut_life (about links_edge) (about_more links_edge)
        (λ x. omega arith) mark_links_edge journal kept x;
    edge_unlinked = follows sizes unlinks_edge life_of_event cuts cuts_more (λ x. omega arith) unlink_marks_edge
        journal kept x;
    given_back = follows sizes pushes life_of_event (λ (y : Life) (j : List Event). about freezes_head y j + cuts y j)
        (λ y past e. omega (arith, about_more freezes_head y past e, cuts_more y past e))
        (λ x. omega arith) push_closes journal kept x;
  }
