-- A frozen word of a list stays as it is while the list is one.
use Rattle.std.proofs.Common.{◌≡◌, ◌≢◌, ℕ, ◌<◌, ◌≤◌, true, false, List, [], ◌∷◌, ◌++◌, length, inl, inr, refl, sym, ap}
use Rattle.std.proofs.Common.{◌∙◌, subst, arith, ⊎_elim}
use Rattle.packed_link.specs.Link.{index_of, mark_of, mark_bit, with_mark}
use Rattle.packed_link.specs.Layout.{Sizes, IsLayout, link_at, second_at}
use Rattle.packed_link.specs.declared.link.Life.{Life}
use Rattle.core_journal.specs.declared.event.Kind.{Kind}
use Rattle.core_journal.specs.declared.event.Kind.TheVariants.{PopFree, StorePrivate, LinkVertex, MarkVertex}
use Rattle.core_journal.specs.declared.event.Kind.TheVariants.{UnlinkVertex, LinkEdge, Raise, MarkEdge, UnlinkEdge}
use Rattle.core_journal.specs.declared.event.Kind.TheVariants.{FreezeHead, FreezeEdge, StoreFree, PushFree, ReplaceEdge}
use Rattle.core_journal.specs.declared.event.Event.{Event}
use Rattle.core_journal.specs.Prefix.{IsPrefix}
use Rattle.core_journal.specs.Machine.{word_at}
use Rattle.core_journal.specs.State.{Mode, Free, Fresh, Linked, Spent, Node, State, handed, state}
use Rattle.core_journal.proofs.Lists.{prefix_snoc}
use Rattle.core_kept.specs.Kept.{AllowedAs, IsKept, IsQuiet}
use Rattle.core_kept.specs.Nodes.{node_in, IsUsed, IsSpentWith, is_listed, is_frozen}
use Rattle.core_kept.specs.Freezing.{IsSpentVertex, IsFrozenWord}
use Rattle.core_lists.specs.Chains.{life_in, KeepsList}
use Rattle.core_lists.proofs.FrozenToEndIsList.{edge_on}
use Rattle.core_lists.proofs.ClosedHeadStays.{head_stays, part_stays}
use Rattle.core_kept.proofs.Contents.{contents}
use Rattle.core_rule.proofs.FoundMarkedIsSpent.{found_at}
use Rattle.core_kept.proofs.Induction.{kept_front, past_kept, last_allowed}
use Rattle.core_lists.proofs.SpentVertexKeepsList.{own_list_stays, own_list_steps}
use Rattle.core_kept.proofs.LinkWords.{link_words, taken}
use Rattle.core_lists.proofs.ListHolds.{part_listed}
use Rattle.core_lists.proofs.ListHoldsKept.{listing}
use Rattle.core_kept.proofs.MarkedWords.{marked_head_stays, marked_link_stays}
use Rattle.core_kept.proofs.OwnSpent.{spent_stays}
use Rattle.core_lists.proofs.EventKeepsRest.{allowed_as, after_as, spent_kept, written}
use Rattle.core_lists.proofs.PartSpender.{part_who}
use Rattle.core_kept.proofs.ByKind.{put_same, handed_case, closed_state}

module _ (sizes : Sizes) (z : IsLayout sizes) (journal : List Event) (kept : IsKept sizes journal) (x : ℕ)
    (k : KeepsList sizes journal x) where
  -- an edge of the frozen part
  record IsOfPart (y : ℕ) : Type 0 where
    pub there : y < sizes.nodes
    pub edge : (node_in sizes journal y).vertex ≡ false
    pub on : is_listed (state sizes journal) x y ≡ true
    pub spent : (node_in sizes journal y).mode ≡ Spent
    pub mine : (node_in sizes journal y).who ≡ (node_in sizes journal x).who
    pub unstored : (node_in sizes journal y).stored ≡ false

  part_is : (y : ℕ) → is_frozen (state sizes journal) x y ≡ true → IsOfPart y
  part_is y h =
      let s : State = state sizes journal in
      let on : is_listed s x y ≡ true = part_listed s.node s.edges s.frozen x y h in
      let d = (listing sizes z journal kept).on x y on in
      let u = k.edges (life_in sizes journal y) (edge_on sizes z journal kept x y on) in
      let who = part_who sizes z journal kept x y k.used k.vertex h u.used in
      record { there = d.there; edge = d.edge; on = on; spent = who.0; mine = who.1; unstored = u.unstored }

  -- its second word is marked where its list is closed
  head_mark : (state sizes journal).frozen x ≡ true → mark_of (word_at sizes journal (second_at sizes x)) ≡ 1
  head_mark h = (((contents sizes z journal kept).each x k.there).vertex k.used k.vertex).second_mark ∙ ap mark_bit h

  pub frozen_marked : (place : ℕ) → IsFrozenWord sizes journal x place → mark_of (word_at sizes journal place) ≡ 1
  frozen_marked place f = ⊎_elim
      (λ (h : place ≡ second_at sizes x). subst (λ (i : ℕ). mark_of (word_at sizes journal i) ≡ 1) (sym h)
      (head_mark f.head))
      (λ (h : (y : ℕ) × (is_frozen (state sizes journal) x y ≡ true) × (place ≡ link_at sizes y)).
      let d = part_is h.0 h.1 in
      subst (λ (i : ℕ). mark_of (word_at sizes journal i) ≡ 1) (sym h.2)
      (((link_words sizes z journal kept).each h.0 d.there).spent d.spent).marked)
      f.at

-- a spent node that isn't stored is so still, in its life
record IsSpentStill (sizes : Sizes) (front journal : List Event) (y : ℕ) : Type 0 where
  pub spent : (node_in sizes journal y).mode ≡ Spent
  pub tag : (node_in sizes journal y).tag ≡ (node_in sizes front y).tag
  pub unstored : (node_in sizes journal y).stored ≡ false

same_still : (sizes : Sizes) (front journal : List Event) (y : ℕ) → node_in sizes journal y ≡ node_in sizes front y →
    (node_in sizes front y).mode ≡ Spent → (node_in sizes front y).stored ≡ false → IsSpentStill sizes front journal y
same_still sizes front journal y is spent unstored = record {
  spent = ap (λ (n : Node). n.mode) is ∙ spent;
  tag = ap
      (λ (n : Node). n.tag) is;
  unstored = ap (λ (n : Node). n.stored) is ∙ unstored;
}

-- where the vertex is in its life and each edge of the frozen part is spent still
word_stays : (sizes : Sizes) → IsLayout sizes → (front journal : List Event) → IsPrefix front journal
    → IsKept sizes journal → (old : IsKept sizes front) → (x place : ℕ) → KeepsList sizes front x →
    (node_in sizes journal x).tag ≡ (node_in sizes front x).tag
    → ((y : ℕ) → is_frozen (state sizes front) x y ≡ true → IsSpentStill sizes front journal y)
    → IsFrozenWord sizes front x place → IsFrozenWord sizes journal x place ×
    (word_at sizes journal place ≡ word_at sizes front place)
word_stays sizes z front journal p kept old x place k tag still f =
    let head = head_stays sizes z x front journal p kept tag f.head in
    ⊎_elim
    (λ (h : place ≡ second_at sizes x).
    let unfresh : (node_in sizes front x).mode ≢ Fresh = λ m. absurd (subst IsUsed m k.used) in
    let same = marked_head_stays sizes z x front journal p kept unfresh (head_mark sizes z front old x k f.head) tag in
    (record { head = head; at = inl h }, ap (word_at sizes journal) h ∙ (same ∙ ap (word_at sizes front) (sym h))))
    (λ (h : (y : ℕ) × (is_frozen (state sizes front) x y ≡ true) × (place ≡ link_at sizes y)).
    let y = h.0 in
    let d = part_is sizes z front old x k y h.1 in
    let s = still y h.1 in
    let part = part_stays sizes z x y front journal p kept tag s.tag h.1 (subst IsUsed (sym s.spent) tt) in
    let unfresh : (node_in sizes front y).mode ≢ Fresh = λ m. let t = d.spent in absurd (cc) in
    let same = marked_link_stays sizes z y front journal p kept unfresh
    (((link_words sizes z front old).each y d.there).spent d.spent).marked s.tag s.unstored in (
      record { head = head; at = inr (y, part, h.2) },
      ap (word_at sizes journal) h.2 ∙
          (same ∙ ap (word_at sizes front) (sym h.2)),
    ))
    f.at

-- while others act
pub frozen_beyond : (sizes : Sizes) → IsLayout sizes → (caller last x place : ℕ) (front journal : List Event)
    → IsPrefix front journal → IsKept sizes journal → IsQuiet journal caller last → last ≤ length front
    → IsSpentVertex sizes front caller x → KeepsList sizes front x → IsFrozenWord sizes front x place
    → IsFrozenWord sizes journal x place × (word_at sizes journal place ≡ word_at sizes front place)
frozen_beyond sizes z caller last x place front journal p kept quiet within spent k f =
    let old = kept_front sizes front journal p kept in
    let own = own_list_stays sizes z caller last x front journal p kept quiet within spent k in
    word_stays sizes z front journal p kept old x place k own.2
    (λ y h.
    let d = part_is sizes z front old x k y h in
    let s = spent_stays sizes z caller last y d.there front journal p kept quiet within record
    { spent = d.spent; mine = d.mine ∙ spent.mine } in
    same_still sizes front journal y s.node d.spent d.unstored) f

-- no event but the storing of its link is about a spent edge that isn't stored
not_about : (sizes : Sizes) → IsLayout sizes → (past : List Event) (e : Event) → IsKept sizes past → (y : ℕ)
    → y < sizes.nodes → (node_in sizes past y).mode ≡ Spent → (node_in sizes past y).vertex ≡ false →
    (node_in sizes past y).stored ≡ false → (k : Kind) → (k ≡ StoreFree → y ≢ e.life.index) → AllowedAs k sizes past e
    → y ≢ e.life.index
not_about sizes z past e kept y there spent edge unstored k other ok same = by k other ok
  where
    mode : (m : Mode) → (node_in sizes past e.life.index).mode ≡ m → m ≡ Spent
    mode m is = sym is ∙ (ap (λ (i : ℕ). (node_in sizes past i).mode) (sym same) ∙ spent)

    not_vertex : (node_in sizes past e.life.index).vertex ≡ true → ⊥
    not_vertex v = let f : (node_in sizes past e.life.index).vertex ≡ false = ap
        (λ (i : ℕ). (node_in sizes past i).vertex) (sym same) ∙ edge in absurd (cc)

    by : (k : Kind) → (k ≡ StoreFree → y ≢ e.life.index) → AllowedAs k sizes past e → ⊥
    by PopFree other ok = let m = mode Free (taken sizes z past e kept ok).free in absurd (cc)
    by StorePrivate other ok = let m = mode Fresh ok.fresh.fresh in absurd (cc)
    by LinkVertex other ok = let m = mode Fresh ok.fresh.fresh in absurd (cc)
    by LinkEdge other ok = let m = mode Fresh ok.fresh.fresh in absurd (cc)
    by ReplaceEdge other ok = let m = mode Fresh ok.fresh.fresh in absurd (cc)
    by MarkVertex other ok = let m = mode Linked ok.linked.linked in absurd (cc)
    by UnlinkVertex other ok = let m = mode Linked ok.linked.linked in absurd (cc)
    by MarkEdge other ok = let m = mode Linked ok.linked.linked in absurd (cc)
    by UnlinkEdge other ok = let m = mode Linked ok.linked.linked in absurd (cc)
    by FreezeEdge other ok = let m = mode Linked ok.linked.linked in absurd (cc)
    by Raise other ok = not_vertex ok.vertex.vertex
    by FreezeHead other ok = not_vertex ok.spent.vertex
    by StoreFree other ok = other refl same
    by PushFree other ok = let f : (node_in sizes past e.life.index).stored ≡ false = ap
        (λ (i : ℕ). (node_in sizes past i).stored) (sym same) ∙ unstored in let t = ok.stored in absurd (cc)
    by _ other ok = let h : e.life.index ≡ 16777215 = ap (λ (l : Life). l.index) ok.life in absurd
        (omega (arith, h, same, there, z.few_nodes))

-- behind one event
module _ (sizes : Sizes) (z : IsLayout sizes) (past : List Event) (e : Event) (caller x : ℕ)
    (kept : IsKept sizes (past ++ e ∷ []))
    (unstored : e.kind ≡ StoreFree → is_listed (state sizes past) x e.life.index ≡ false)
    (unpushed : e.kind ≡ PushFree → e.life.index ≢ x) (spent : IsSpentVertex sizes past caller x)
    (k : KeepsList sizes past x) where
  pub list_steps : IsSpentVertex sizes (past ++ e ∷ []) caller x × KeepsList sizes (past ++ e ∷ []) x ×
      ((node_in sizes (past ++ e ∷ []) x).tag ≡ (node_in sizes past x).tag)
  list_steps = own_list_steps sizes z past e caller x (past_kept sizes past e kept)
      (last_allowed sizes past e kept) unstored unpushed spent k

  pub frozen_next_step : (place : ℕ) → IsFrozenWord sizes past x place → IsFrozenWord sizes (past ++ e ∷ []) x place ×
      (word_at sizes (past ++ e ∷ []) place ≡ word_at sizes past place)
  frozen_next_step place f =
      let old = past_kept sizes past e kept in
      word_stays sizes z past (past ++ e ∷ []) (prefix_snoc past e) kept old x place k list_steps.2
      (λ y h.
      let d = part_is sizes z past old x k y h in
      let apart : e.kind ≡ StoreFree → y ≢ e.life.index = λ is same. let t = ap
      (λ (i : ℕ). is_listed (state sizes past) x i) (sym same) ∙ d.on in let n = unstored is in absurd (cc) in
      let ne = not_about sizes z past e old y d.there d.spent d.edge d.unstored e.kind apart
      (last_allowed sizes past e kept).as_kind in
      let s = spent_kept sizes past e kept z caller y d.there ne record { spent = d.spent; mine = d.mine ∙ spent.mine }
      in
      same_still sizes past (past ++ e ∷ []) y s.node d.spent d.unstored) f

-- a list is closed at its head
pub head_frozen_word : (sizes : Sizes) (past : List Event) (e : Event) → IsKept sizes (past ++ e ∷ [])
    → e.kind ≡ FreezeHead → IsSpentVertex sizes (past ++ e ∷ []) e.caller e.life.index × IsFrozenWord sizes
    (past ++ e ∷ []) e.life.index (second_at sizes e.life.index)
head_frozen_word sizes past e kept is =
    let s : State = state sizes past in
    let i = e.life.index in
    let ok = allowed_as sizes past e kept FreezeHead is in
    let after = after_as sizes past e kept FreezeHead is in
    let node : (handed i (closed_state s i)).node i ≡ s.node i = handed_case (λ (u : Node). u ≡ s.node i)
    (closed_state s i) i i refl (λ l _ _. let t = ok.spent.spent in absurd (cc)) in
    let same : node_in sizes (past ++ e ∷ []) i ≡ s.node i = ap (λ (r : State). r.node i) after ∙ node in (
      record {
        spent = ap (λ (n : Node). n.mode) same ∙ ok.spent.spent;
        vertex = ap (λ (n : Node). n.vertex) same
            ∙ ok.spent.vertex;
        mine = ap (λ (n : Node). n.who) same ∙ ok.spent.mine;
      },
      record { head = ap (λ (r : State). r.frozen i) after ∙ put_same i true s.frozen; at = inl refl },
    )

-- an edge to which a frozen word leads is frozen
pub edge_frozen_word : (sizes : Sizes) → IsLayout sizes → (past : List Event) (e : Event) (x place : ℕ) → IsKept sizes
    (past ++ e ∷ []) → e.kind ≡ FreezeEdge → IsSpentVertex sizes past e.caller x → KeepsList sizes past x
    → IsFrozenWord sizes past x place → index_of (word_at sizes past place) ≡ e.life.index
    → IsSpentWith sizes (past ++ e ∷ []) e.caller e.life.index × IsFrozenWord sizes (past ++ e ∷ []) x
    (link_at sizes e.life.index)
edge_frozen_word sizes z past e x place kept is spent k f leads =
    let ok = allowed_as sizes past e kept FreezeEdge is in
    let not_store : e.kind ≡ StoreFree → is_listed (state sizes past) x e.life.index ≡ false = λ h. absurd (cc) in
    let not_push : e.kind ≡ PushFree → e.life.index ≢ x = λ h. absurd (cc) in
    let own = list_steps sizes z past e e.caller x kept not_store not_push spent k in
    let word = frozen_next_step sizes z past e e.caller x kept not_store not_push spent k place f in
    let there = ok.there in
    let mark : mark_of (word_at sizes (past ++ e ∷ []) (link_at sizes e.life.index)) ≡ 1 = ap
    (λ (i : ℕ). mark_of (word_at sizes (past ++ e ∷ []) i)) (sym ok.place) ∙
    (ap mark_of (written sizes past e kept ∙ ok.word) ∙ mark_set (word_at sizes past e.place)) in
    found_at sizes z (past ++ e ∷ []) kept e.caller x place own.0 own.1 word.0 e.life.index (ap index_of word.1 ∙ leads)
    (λ h. omega (arith, h, there, z.few_nodes)) mark
  where
    mark_set : (w : ℕ) → mark_of (with_mark w) ≡ 1
    mark_set w = omega arith
