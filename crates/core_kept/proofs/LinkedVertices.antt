-- Lives that are linked and not yet unlinked are those of linked nodes.
use Rattle.std.proofs.Common.{◌≡◌, ◌≢◌, ℕ, ◌<◌, Bool, true, false, ◌&&◌, List, [], ◌∷◌, ◌++◌, Option, Some, None, refl}
use Rattle.std.proofs.Common.{sym, ap, ◌∙◌, subst, arith}
use Rattle.packed_link.specs.Link.{mark_of}
use Rattle.packed_link.specs.Layout.{Sizes, IsLayout, link_at}
use Rattle.packed_link.specs.declared.link.Life.{Life}
use Rattle.core_journal.specs.declared.event.Kind.TheVariants.{PopFree, LinkVertex, MarkVertex, UnlinkVertex, LinkEdge}
use Rattle.core_journal.specs.declared.event.Kind.TheVariants.{MarkEdge, UnlinkEdge, FreezeHead, FreezeEdge, StoreFree}
use Rattle.core_journal.specs.declared.event.Kind.TheVariants.{PushFree, ReplaceEdge}
use Rattle.core_journal.specs.declared.event.Event.{Event}
use Rattle.core_journal.specs.Event.{same_life, links_vertex, unlinks}
use Rattle.core_journal.specs.Life.{key_of, vertex_marked, unlinked}
use Rattle.core_journal.specs.Machine.{word_at}
use Rattle.core_journal.specs.State.{Mode, Fresh, Linked, Spent, Node, State, put, handed, opening, joined_edge, state}
use Rattle.core_journal.proofs.Snoc.{any_skip, any_last, same_is, same_self, key_skip, key_else}
use Rattle.core_journal.proofs.KeptLives.{key_more, vertex_marked_more}
use Rattle.core_kept.specs.Kept.{IsKept}
use Rattle.core_kept.specs.Nodes.{node_in, IsUsed}
use Rattle.core_kept.proofs.ByKind.{KeepsIn, put_case, handed_case, marked_state, closed_state, all_in}
use Rattle.core_kept.proofs.LinkWords.{link_words, taken, mark_is}
use Rattle.core_kept.proofs.PastLives.{other_index, this_life, lives}
use Rattle.core_kept.proofs.ReplaceCases.{new_edge_node, replaced_case}
use Rattle.core_kept.proofs.Named.{life_is, named, none_any, key_first}
use Rattle.core_kept.proofs.NodesInPlace.{OnLists, on_lists, marked_lists, joined_lists, frozen_stands}

module _ (past : List Event) (e : Event) where
  -- what was unlinked, where the event unlinks nothing, or another life, or this one
  pub unlinked_skip : unlinks e.kind ≡ false → (x : Life) → unlinked (past ++ e ∷ []) x ≡ unlinked past x
  unlinked_skip h x = any_skip _ past e (ap (λ (b : Bool). b && same_life x e.life) h)

  pub unlinked_other : (x : Life) → same_life x e.life ≡ false → unlinked (past ++ e ∷ []) x ≡ unlinked past x
  unlinked_other x h = any_skip _ past e (by (unlinks e.kind) h)
    where
      by : (b : Bool) → same_life x e.life ≡ false → (b && same_life x e.life) ≡ false
      by true h = h
      by false h = refl

  pub unlinked_here : unlinks e.kind ≡ true → unlinked (past ++ e ∷ []) e.life ≡ true
  unlinked_here h = any_last _ past e (ap (λ (b : Bool). b && same_life e.life e.life) h ∙ same_self e.life)

-- a node is fresh or linked
abbrev pub IsStanding : Mode → Type 0
IsStanding Fresh = Unit {0}
IsStanding Linked = Unit {0}
IsStanding _ = ⊥

-- the life of a node
abbrev pub life_of : ℕ → Node → Life
life_of x v = record { index = x; tag = v.tag }

-- the life of a node that is fresh or linked wasn't unlinked
pub record StandLinked (journal : List Event) (s : State) : Type 0 where
  pub each : (x : ℕ) → IsStanding (s.node x).mode → unlinked journal (life_of x (s.node x)) ≡ false

put_standing : (past : List Event) (e : Event) (s : State) (i : ℕ) (v : Node) → unlinks e.kind ≡ false
    → StandLinked past s → (IsStanding v.mode → IsStanding (s.node i).mode) → v.tag ≡ (s.node i).tag
    → (x : ℕ) → IsStanding (put i v s.node x).mode → unlinked (past ++ e ∷ []) (life_of x (put i v s.node x)) ≡ false
put_standing past e s i v other c mode tag x = put_case (λ (u : Node). IsStanding u.mode → unlinked (past ++ e ∷ [])
    (life_of x u) ≡ false) i v s.node x
    (λ same h.
    let old : IsStanding (s.node x).mode = subst (λ (y : ℕ). IsStanding (s.node y).mode) (sym same) (mode h) in
    let t : v.tag ≡ (s.node x).tag = tag ∙ ap (λ (y : ℕ). (s.node y).tag) (sym same) in
    ap (λ (y : ℕ). unlinked (past ++ e ∷ []) (record { index = x; tag = y })) t ∙
    (unlinked_skip past e other (life_of x (s.node x)) ∙ c.each x old))
    (λ _ h. unlinked_skip past e other (life_of x (s.node x)) ∙ c.each x h)

handed_standing : (journal : List Event) (s : State) (v : ℕ) → StandLinked journal s → StandLinked journal (handed v s)
handed_standing journal s v c = record {
  each = λ x. handed_case
      (λ (u : Node). IsStanding u.mode → unlinked journal (life_of x u) ≡ false) s v x (c.each x) (λ _ _ _ h. absurd h);
}

-- the node that is unlinked is spent, and no other life is unlinked
cut_standing : (past : List Event) (e : Event) (s : State) (v : Node) → v.mode ≡ Spent → StandLinked past s → (x : ℕ)
    → IsStanding (put e.life.index v s.node x).mode → unlinked (past ++ e ∷ [])
    (life_of x (put e.life.index v s.node x)) ≡ false
cut_standing past e s v m c x = put_case (λ (u : Node). IsStanding u.mode → unlinked (past ++ e ∷ [])
    (life_of x u) ≡ false) e.life.index v s.node x
    (λ _ h. absurd (subst IsStanding m h))
    (λ ne h. unlinked_other past e (life_of x (s.node x)) (other_index (life_of x (s.node x)) e.life ne) ∙ c.each x h)

standing_step : (sizes : Sizes) → IsLayout sizes → KeepsIn sizes
    (λ (j : List Event) (s : State) (w : ℕ → ℕ). StandLinked j s)
standing_step sizes z past e kept c PopFree is ok w a = record {
  each = λ x. put_case (λ (u : Node). IsStanding u.mode → unlinked (past ++ e ∷ []) (life_of x u) ≡ false) e.life.index
      _ (state sizes past).node x
      (λ same _.
      let y : Life = record { index = x; tag = e.life.tag } in
      let t = (taken sizes z past e kept ok).tag in
      let later : (node_in sizes past x).tag < e.life.tag = subst (λ (i : ℕ). (node_in sizes past i).tag < e.life.tag)
      (sym same) (omega arith) in
      unlinked_skip past e (ap unlinks is) y ∙ none_any unlinks y past
      ((lives sizes z past kept).later unlinks y later))
      (λ _ h. unlinked_skip past e (ap unlinks is) (life_of x (node_in sizes past x)) ∙ c.each x h);
}
standing_step sizes z past e kept c LinkVertex is ok w a = record {
  each = put_standing past e (state sizes past) e.life.index _ (ap unlinks is) c
      (λ _. subst IsStanding (sym ok.fresh.fresh) tt) refl;
}
standing_step sizes z past e kept c LinkEdge is ok w a = record {
  each = put_standing past e (state sizes past) e.life.index _ (ap unlinks is) c
      (λ _. subst IsStanding (sym ok.fresh.fresh) tt) refl;
}
standing_step sizes z past e kept c MarkVertex is ok w a = record
    { each = put_standing past e (state sizes past) e.life.index _ (ap unlinks is) c (λ h. h) refl }
standing_step sizes z past e kept c StoreFree is ok w a = record
    { each = put_standing past e (state sizes past) e.life.index _ (ap unlinks is) c (λ h. h) refl }
standing_step sizes z past e kept c PushFree is ok w a = record
    { each = put_standing past e (state sizes past) e.life.index _ (ap unlinks is) c (λ h. absurd h) refl }
standing_step sizes z past e kept c ReplaceEdge is ok w a =
    let s : State = state sizes past in
    record {
      each = λ x. replaced_case sizes z past e kept ok (λ (u : Node). IsStanding u.mode → unlinked (past ++ e ∷ [])
          (life_of x u) ≡ false) x
          (λ same _. unlinked_skip past e (ap unlinks is) (life_of x (node_in sizes past e.life.index))
          ∙ subst (λ (y : ℕ). unlinked past (life_of y (node_in sizes past e.life.index)) ≡ false) (sym same)
          (c.each e.life.index (subst IsStanding (sym ok.fresh.fresh) tt)))
          (λ _. put_standing past e s e.old.index (record (s.node e.old.index) { marked = true }) (ap unlinks is) c
          (λ h. h) refl x)
          (λ _ _ _ _ h. absurd h);
    }
standing_step sizes z past e kept c MarkEdge is ok w a = handed_standing (past ++ e ∷ [])
    (marked_state (state sizes past) e.life.index) (node_in sizes past e.life.index).source.index record
    { each = put_standing past e (state sizes past) e.life.index _ (ap unlinks is) c (λ h. h) refl }
standing_step sizes z past e kept c FreezeEdge is ok w a = handed_standing (past ++ e ∷ [])
    (marked_state (state sizes past) e.life.index) (node_in sizes past e.life.index).source.index record
    { each = put_standing past e (state sizes past) e.life.index _ (ap unlinks is) c (λ h. h) refl }
standing_step sizes z past e kept c FreezeHead is ok w a = handed_standing (past ++ e ∷ [])
    (closed_state (state sizes past) e.life.index) e.life.index record
    { each = λ x h. unlinked_skip past e (ap unlinks is) (life_of x (node_in sizes past x)) ∙ c.each x h }
standing_step sizes z past e kept c UnlinkVertex is ok w a = record
    { each = cut_standing past e (state sizes past) _ refl c }
standing_step sizes z past e kept c UnlinkEdge is ok w a = record
    { each = cut_standing past e (state sizes past) _ refl c }
standing_step sizes z past e kept c _ is ok w a = record {
  each = λ x h. unlinked_skip past e (ap unlinks is)
      (life_of x (node_in sizes past x)) ∙ c.each x h;
}

pub standing : (sizes : Sizes) → IsLayout sizes → (journal : List Event) → IsKept sizes journal → StandLinked journal
    (state sizes journal)
standing sizes z journal kept = all_in sizes (λ (j : List Event) (s : State) (w : ℕ → ℕ). StandLinked j s)
    (standing_step sizes z) (record { each = λ x h. refl }) journal kept

-- the life of a linked node wasn't unlinked
pub linked_stays : (sizes : Sizes) → IsLayout sizes → (journal : List Event) → IsKept sizes journal → (x : Life)
    → x.tag ≡ (node_in sizes journal x.index).tag → (node_in sizes journal x.index).mode ≡ Linked
    → unlinked journal x ≡ false
linked_stays sizes z journal kept x life m =
    ap (unlinked journal) (life_is x x.index (node_in sizes journal x.index).tag refl life) ∙
    (standing sizes z journal kept).each x.index (subst IsStanding (sym m) tt)

some_is : {A : Type 0} (a b : A) → Some a ≡ Some b → a ≡ b
some_is a b p = cc

-- a key that a life has after an event it had before, or the event linked it
by_key : {P : Type 0} (past : List Event) (e : Event) (x : Life) (k : ℕ) → key_of (past ++ e ∷ []) x ≡ Some k →
    (key_of past x ≡ Some k → P) → (links_vertex e.kind ≡ true → x ≡ e.life → e.key ≡ k → P) → P
by_key {P} past e x k h old new = by (key_of past x) refl
  where
    inner : (l s : Bool) → links_vertex e.kind ≡ l → same_life x e.life ≡ s → key_of past x ≡ None → P
    inner true true i j none = new i (same_is x e.life j) (some_is e.key k (sym (key_first past e x none i j) ∙ h))
    inner true false i j none = let f = sym none ∙ (sym (key_else past e x j) ∙ h) in absurd (cc)
    inner false s i j none = let f = sym none ∙ (sym (key_skip past e i x) ∙ h) in absurd (cc)

    by : (o : Option ℕ) → key_of past x ≡ o → P
    by None i = inner (links_vertex e.kind) (same_life x e.life) refl refl i
    by (Some d) i = old (i ∙ (sym (key_more past (e ∷ []) x d i) ∙ h))

-- a node is a linked vertex of a key, in a life
pub record IsLiveVertex (v : Node) (tag key : ℕ) : Type 0 where
  pub life : tag ≡ v.tag
  pub linked : v.mode ≡ Linked
  pub vertex : v.vertex ≡ true
  pub key_is : v.key ≡ key

-- a vertex life that was linked and not unlinked is that of its node, and one that was unlinked was marked
pub record LiveVertices (journal : List Event) (s : State) : Type 0 where
  pub live : (x : Life) (k : ℕ) → key_of journal x ≡ Some k → unlinked journal x ≡ false → IsLiveVertex
      (s.node x.index) x.tag k
  pub ended : (x : Life) (k : ℕ) → key_of journal x ≡ Some k → unlinked journal x ≡ true
      → vertex_marked journal x ≡ true

put_live : (s : State) (i : ℕ) (v : Node) → ((tag k : ℕ) → IsLiveVertex (s.node i) tag k → IsLiveVertex v tag k) →
    (x tag k : ℕ) → IsLiveVertex (s.node x) tag k → IsLiveVertex (put i v s.node x) tag k
put_live s i v new x tag k h = put_case (λ (u : Node). IsLiveVertex u tag k) i v s.node x
    (λ same. new tag k (subst (λ (y : ℕ). IsLiveVertex (s.node y) tag k) same h)) (λ _. h)

handed_live : (s : State) (v : ℕ) → OnLists s → (x tag k : ℕ) → IsLiveVertex (s.node x) tag k → IsLiveVertex
    ((handed v s).node x) tag k
handed_live s v c x tag k h = handed_case (λ (u : Node). IsLiveVertex u tag k) s v x h
    (λ _ _ part. absurd (let t = h.vertex in let f = (c.each v x (frozen_stands s v x part)).1 in cc))

-- an event that links and unlinks no vertex, where linked vertices stay
live_still : (past : List Event) (e : Event) (s s' : State) → links_vertex e.kind ≡ false → unlinks e.kind ≡ false
    → LiveVertices past s → ((x tag k : ℕ) → IsLiveVertex (s.node x) tag k → IsLiveVertex (s'.node x) tag k)
    → LiveVertices (past ++ e ∷ []) s'
live_still past e s s' l u c stays = record {
  live = λ x k h f. stays x.index x.tag k (c.live x k (sym (key_skip past e l x) ∙ h)
      (sym (unlinked_skip past e u x) ∙ f));
  ended = λ x k h t. vertex_marked_more past (e ∷ []) x (c.ended x k (sym (key_skip past e l x) ∙ h)
      (sym (unlinked_skip past e u x) ∙ t));
}

-- a life that isn't unlinked after an event that unlinks another is none that this event unlinks
pub not_this : (past : List Event) (e : Event) (x : Life) → unlinks e.kind ≡ true → unlinked (past ++ e ∷ []) x ≡ false
    → same_life x e.life ≡ false
not_this past e x u f = by (same_life x e.life) refl
  where
    by : (b : Bool) → same_life x e.life ≡ b → same_life x e.life ≡ false
    by false h = h
    by true h = let t = sym (unlinked_here past e u) ∙ (ap (unlinked (past ++ e ∷ [])) (sym (same_is x e.life h)) ∙ f)
        in absurd (cc)

-- an event that unlinks a node
live_cut : (past : List Event) (e : Event) (s : State) (v : Node) → links_vertex e.kind ≡ false → unlinks e.kind ≡ true
    → e.life.tag ≡ (s.node e.life.index).tag → LiveVertices past s
    → ((k : ℕ) → key_of past e.life ≡ Some k → vertex_marked past e.life ≡ true) → (s' : State) →
    ((x : ℕ) → s'.node x ≡ put e.life.index v s.node x) → LiveVertices (past ++ e ∷ []) s'
live_cut past e s v l u life c marked s' nodes = record {
  live = λ x k h f.
      let other = not_this past e x u f in
      let old = c.live x k (sym (key_skip past e l x) ∙ h) (sym (unlinked_other past e x other) ∙ f) in
      subst (λ (w : Node). IsLiveVertex w x.tag k) (sym (nodes x.index))
      (put_case (λ (w : Node). IsLiveVertex w x.tag k) e.life.index v s.node x.index
      (λ same.
      let t : x.tag ≡ e.life.tag = old.life ∙ (ap (λ (y : ℕ). (s.node y).tag) same ∙ sym life) in
      let one = this_life x e.life same t in absurd (cc))
      (λ _. old));
  ended = λ x k h t. by (same_life x e.life) x k refl h t;
}
  where
    by : (b : Bool) (x : Life) (k : ℕ) → same_life x e.life ≡ b → key_of (past ++ e ∷ []) x ≡ Some k → unlinked
        (past ++ e ∷ []) x ≡ true → vertex_marked (past ++ e ∷ []) x ≡ true
    by true x k same h t =
        let one = same_is x e.life same in
        vertex_marked_more past (e ∷ []) x (subst (λ (y : Life). vertex_marked past y ≡ true) (sym one)
        (marked k (ap (key_of past) (sym one) ∙ (sym (key_skip past e l x) ∙ h))))
    by false x k same h t = vertex_marked_more past (e ∷ []) x
        (c.ended x k (sym (key_skip past e l x) ∙ h) (sym (unlinked_other past e x same) ∙ t))

-- a linked node whose link is marked is marked
pub linked_dead : (sizes : Sizes) → IsLayout sizes → (past : List Event) → IsKept sizes past → (x : ℕ) → x < sizes.nodes
    → (node_in sizes past x).mode ≡ Linked → mark_of (word_at sizes past (link_at sizes x)) ≡ 1 →
    (node_in sizes past x).marked ≡ true
linked_dead sizes z past kept x there m dead = mark_is (node_in sizes past x).marked
    (sym (((link_words sizes z past kept).each x there).linked m).mark ∙ dead)

-- a node that isn't a linked vertex may become what it will
no_live : (s : State) (i : ℕ) (v : Node) → (s.node i).mode ≢ Linked → (tag k : ℕ) → IsLiveVertex (s.node i) tag k
    → IsLiveVertex v tag k
no_live s i v none tag k h = absurd (none h.linked)

vertices_step : (sizes : Sizes) → IsLayout sizes → KeepsIn sizes
    (λ (j : List Event) (s : State) (w : ℕ → ℕ). LiveVertices j s)
vertices_step sizes z past e kept c PopFree is ok w a = live_still past e (state sizes past) _ (ap links_vertex is)
    (ap unlinks is) c (put_live (state sizes past) e.life.index _
    (no_live (state sizes past) e.life.index _ (λ m. let f = (taken sizes z past e kept ok).free in absurd (cc))))
vertices_step sizes z past e kept c PushFree is ok w a = live_still past e (state sizes past) _ (ap links_vertex is)
    (ap unlinks is) c (put_live (state sizes past) e.life.index _
    (no_live (state sizes past) e.life.index _ (λ m. let f = ok.ripe.stamped.spent.spent in absurd (cc))))
vertices_step sizes z past e kept c StoreFree is ok w a = live_still past e (state sizes past) _ (ap links_vertex is)
    (ap unlinks is) c (put_live (state sizes past) e.life.index _
    (no_live (state sizes past) e.life.index _ (λ m. let f = ok.ripe.stamped.spent.spent in absurd (cc))))
vertices_step sizes z past e kept c LinkEdge is ok w a = live_still past e (state sizes past) _ (ap links_vertex is)
    (ap unlinks is) c (put_live (state sizes past) e.life.index _
    (no_live (state sizes past) e.life.index _ (λ m. let f = ok.fresh.fresh in absurd (cc))))
vertices_step sizes z past e kept c MarkVertex is ok w a = live_still past e (state sizes past) _ (ap links_vertex is)
    (ap unlinks is) c (put_live (state sizes past) e.life.index _
    (λ tag k h. record { life = h.life; linked = h.linked; vertex = h.vertex; key_is = h.key_is }))
vertices_step sizes z past e kept c ReplaceEdge is ok w a =
    let s : State = state sizes past in
    let j : State = joined_edge sizes e s in
    live_still past e s _ (ap links_vertex is) (ap unlinks is) c
    (λ x tag k h. handed_live (marked_state j e.old.index) (j.node e.old.index).source.index
    (marked_lists j e.old.index (joined_lists sizes past e (on_lists sizes past kept))) x tag k
    (put_live j e.old.index (record (j.node e.old.index) { marked = true })
    (λ tag k h. record { life = h.life; linked = h.linked; vertex = h.vertex; key_is = h.key_is }) x tag k
    (put_live s e.life.index (new_edge_node (s.node e.life.index) e s.count)
    (no_live s e.life.index _ (λ m. let f = ok.fresh.fresh in absurd (cc))) x tag k h)))
vertices_step sizes z past e kept c MarkEdge is ok w a = live_still past e (state sizes past) _ (ap links_vertex is)
    (ap unlinks is) c
    (λ x tag k h. handed_live (marked_state (state sizes past) e.life.index)
    (node_in sizes past e.life.index).source.index (marked_lists (state sizes past) e.life.index
    (on_lists sizes past kept)) x tag k
    (put_live (state sizes past) e.life.index _ (λ tag k h. record
    { life = h.life; linked = h.linked; vertex = h.vertex; key_is = h.key_is }) x tag k h))
vertices_step sizes z past e kept c FreezeEdge is ok w a = live_still past e (state sizes past) _ (ap links_vertex is)
    (ap unlinks is) c
    (λ x tag k h. handed_live (marked_state (state sizes past) e.life.index)
    (node_in sizes past e.life.index).source.index (marked_lists (state sizes past) e.life.index
    (on_lists sizes past kept)) x tag k
    (put_live (state sizes past) e.life.index _ (λ tag k h. record
    { life = h.life; linked = h.linked; vertex = h.vertex; key_is = h.key_is }) x tag k h))
vertices_step sizes z past e kept c FreezeHead is ok w a = live_still past e (state sizes past) _ (ap links_vertex is)
    (ap unlinks is) c
    (λ x tag k h. handed_live (closed_state (state sizes past) e.life.index) e.life.index record
    { each = (on_lists sizes past kept).each } x tag k h)
vertices_step sizes z past e kept c UnlinkVertex is ok w a = live_cut past e (state sizes past) _ (ap links_vertex is)
    (ap unlinks is) ok.life c
    (λ k h.
    let mark = ((named sizes z past kept).each e.life.index ok.there).vertex_mark
    (subst IsUsed (sym ok.linked.linked) tt) ok.linked.vertex in
    ap (vertex_marked past) (life_is e.life e.life.index (node_in sizes past e.life.index).tag refl ok.life) ∙
    (mark ∙ linked_dead sizes z past kept e.life.index ok.there ok.linked.linked ok.dead))
    _ (λ x. refl)
vertices_step sizes z past e kept c UnlinkEdge is ok w a = live_cut past e (state sizes past) _ (ap links_vertex is)
    (ap unlinks is) ok.life c (λ k h. by k h (unlinked past e.life) refl) _ (λ x. refl)
  where
    by : (k : ℕ) → key_of past e.life ≡ Some k → (b : Bool) → unlinked past e.life ≡ b
        → vertex_marked past e.life ≡ true
    by k h true u = c.ended e.life k h u
    by k h false u = absurd (let t = (c.live e.life k h u).vertex in let f = ok.linked.edge in cc)
vertices_step sizes z past e kept c LinkVertex is ok w a = record {
  live = λ x k h f. by_key past e x k h
      (λ old. put_live (state sizes past) e.life.index _ (no_live (state sizes past) e.life.index _
      (λ m. let g = ok.fresh.fresh in absurd (cc))) x.index x.tag k
      (c.live x k old (sym (unlinked_skip past e (ap unlinks is) x) ∙ f)))
      (λ _ one key. put_case (λ (u : Node). IsLiveVertex u x.tag k) e.life.index _ (state sizes past).node x.index
      (λ same. record { life = ap (λ (y : Life). y.tag) one ∙ ok.life; linked = refl; vertex = refl; key_is = key })
      (λ ne. absurd (ne (ap (λ (y : Life). y.index) one))));
  ended = λ x k h t. by_key past e x k h
      (λ old. vertex_marked_more past (e ∷ []) x (c.ended x k old (sym (unlinked_skip past e (ap unlinks is) x) ∙ t)))
      (λ _ one key.
      let f = (standing sizes z past kept).each e.life.index (subst IsStanding (sym ok.fresh.fresh) tt) in
      let g = ap (unlinked past) (life_is e.life e.life.index (node_in sizes past e.life.index).tag refl ok.life) ∙ f in
      let u = ap (unlinked past) (sym one) ∙ (sym (unlinked_skip past e (ap unlinks is) x) ∙ t) in
      absurd (cc));
}
vertices_step sizes z past e kept c _ is ok w a = live_still past e (state sizes past) _ (ap links_vertex is)
    (ap unlinks is) c (λ x tag k h. h)

none_first : (sizes : Sizes) → LiveVertices [] (opening sizes)
unfolding key_of
none_first sizes = record { live = λ x k h f. absurd (cc); ended = λ x k h t. absurd (cc) }

-- vertex lives after each kept journal
pub live_vertices : (sizes : Sizes) → IsLayout sizes → (journal : List Event) → IsKept sizes journal
    → LiveVertices journal (state sizes journal)
live_vertices sizes z journal kept = all_in sizes (λ (j : List Event) (s : State) (w : ℕ → ℕ). LiveVertices j s)
    (vertices_step sizes z) (none_first sizes) journal kept
