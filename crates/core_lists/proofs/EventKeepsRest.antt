-- What an event leaves as it was, and what it does to the node that it's about.
use Rattle.std.proofs.Common.{◌≡◌, ◌≢◌, ℕ, ◌+◌, ◌<◌, true, false, List, [], ◌∷◌, ◌++◌, length, refl, sym, ap, ◌∙◌}
use Rattle.std.proofs.Common.{subst, arith}
use mathlib.Core.Logic.{dite}
use native.Mathlib.Decide.{ℕ_discrete}
use Rattle.packed_link.specs.Layout.{Sizes, IsLayout, word_count, key_at, link_at, second_at, third_at}
use Rattle.packed_link.specs.declared.link.Life.{Life}
use Rattle.core_journal.specs.declared.event.Kind.{Kind}
use Rattle.core_journal.specs.declared.event.Kind.TheVariants.{DrawNumber, PopFree, StorePrivate, LinkVertex}
use Rattle.core_journal.specs.declared.event.Kind.TheVariants.{UnlinkVertex, LinkEdge, UnlinkEdge, Announce, Withdraw}
use Rattle.core_journal.specs.declared.event.Kind.TheVariants.{MoveEpoch, StoreFree, PushFree, MarkVertex, MarkEdge}
use Rattle.core_journal.specs.declared.event.Kind.TheVariants.{FreezeEdge, FreezeHead, ReplaceEdge}
use Rattle.core_journal.specs.declared.event.Event.{Event}
use Rattle.core_journal.specs.Machine.{word_at}
use Rattle.core_journal.specs.State.{Fresh, Linked, Spent, Pass, Node, State, put, state_by, state}
use Rattle.core_journal.specs.Reuse.{pass_in}
use Rattle.core_journal.proofs.MachineWords.{word_here}
use Rattle.core_journal.proofs.States.{state-snoc, count-length}
use Rattle.core_kept.specs.Kept.{Allowed, AllowedAs, IsKept}
use Rattle.core_kept.specs.Nodes.{IsUsed, node_in, IsFreshWith, IsSpentWith, IsLinkedVertex, IsLinkedEdge, is_listed}
use Rattle.core_kept.specs.Freezing.{IsSpentVertex}
use Rattle.core_lists.specs.Chains.{HasList}
use Rattle.core_kept.specs.Facts.{IsHeld, IsKeptSpent}
use Rattle.core_kept.proofs.Induction.{past_kept, last_allowed}
use Rattle.core_kept.proofs.ByKind.{KeepsIn, after_event, put_case, put_same, handed_case, closed_state, all_in}
use Rattle.core_kept.proofs.NodesOnLists.{unlinked_was, yes_no}
use Rattle.core_kept.proofs.PastLives.{same_tag}
use Rattle.core_kept.proofs.OwnFacts.{nowhere_near, fresh_was}
use Rattle.core_kept.proofs.OwnSpent.{left_by}
use Rattle.core_kept.proofs.FreeList.{first_is_free}
use Rattle.core_kept.proofs.NodesInPlace.{used_there}
use Rattle.core_kept.proofs.ReplaceCases.{replaced_case}
use Rattle.core_kept.proofs.Replaced.{old_apart}
use Rattle.core_lists.proofs.SpentWordsLead.{unclosed}

-- a caller holds at most one fresh node
record OneFresh (s : State) : Type 0 where
  pub one : (x y : ℕ) → (s.node x).mode ≡ Fresh → (s.node y).mode ≡ Fresh → (s.node x).who ≡ (s.node y).who → x ≡ y

one_still : (k : Kind) → k ≢ PopFree → (sizes : Sizes) (e : Event) (s : State) → OneFresh s → OneFresh
    (state_by k sizes e s)
one_still k other sizes e s c = record {
  one = λ x y f g same.
      let a = fresh_was k sizes e s ((state_by k sizes e s).node x).who x (λ is. absurd (other is)) f refl in
      let b = fresh_was k sizes e s ((state_by k sizes e s).node x).who y (λ is. absurd (other is)) g (sym same) in
      c.one x y a.0 b.0 (a.1 ∙ sym b.1);
}

one_taken : (sizes : Sizes) (past : List Event) (e : Event) → IsKept sizes past →
    ((x : ℕ) → x < sizes.nodes → IsFreshWith sizes past e.caller x → ⊥) → OneFresh (state sizes past) → OneFresh
    (state_by PopFree sizes e (state sizes past))
one_taken sizes past e kept none c =
    let s : State = state sizes past in
    let i = e.life.index in
    let v : Node = record (s.node i) { mode = Fresh; who = e.caller; tag = e.life.tag; marked = false; stored = false }
    in
    let held : (y : ℕ) → (s.node y).mode ≡ Fresh → (s.node y).who ≡ e.caller → ⊥ = λ y m w. none y
    (used_there sizes past y kept (λ h. absurd (cc))) (record { fresh = m; mine = w }) in
    record {
      one = λ x y. put_case (λ (a : Node). a.mode ≡ Fresh → (put i v s.node y).mode ≡ Fresh → a.who ≡
          (put i v s.node y).who → x ≡ y) i v s.node x
          (λ at _. put_case (λ (b : Node). b.mode ≡ Fresh → e.caller ≡ b.who → x ≡ y) i v s.node y
          (λ too _ _. at ∙ sym too) (λ _ m w. absurd (held y m (sym w))))
          (λ _ f. put_case (λ (b : Node). b.mode ≡ Fresh → (s.node x).who ≡ b.who → x ≡ y) i v s.node y
          (λ too _ w. absurd (held x f w)) (λ _ g w. c.one x y f g w));
    }

one_step : (sizes : Sizes) → KeepsIn sizes (λ (j : List Event) (s : State) (w : ℕ → ℕ). OneFresh s)
one_step sizes past e kept c PopFree is ok w a = one_taken sizes past e kept ok.holds_none c
one_step sizes past e kept c k is ok w a = one_still k (λ h. absurd (cc)) sizes e (state sizes past) c

pub one_fresh : (sizes : Sizes) (journal : List Event) → IsKept sizes journal → (caller x y : ℕ)
    → IsFreshWith sizes journal caller x → IsFreshWith sizes journal caller y → x ≡ y
one_fresh sizes journal kept caller x y f g =
    let c : OneFresh (state sizes journal) = all_in sizes (λ (j : List Event) (s : State) (w : ℕ → ℕ). OneFresh s)
    (one_step sizes) (record { one = λ x y f g same. absurd (cc) }) journal kept in
    c.one x y f.fresh g.fresh (f.mine ∙ sym g.mine)

-- the place of each event is a word of the table
place_there : (k : Kind) (sizes : Sizes) (past : List Event) (e : Event) → AllowedAs k sizes past e
    → e.place < word_count sizes
place_there StorePrivate sizes past e ok = omega (arith, ok.place, ok.there)
place_there LinkVertex sizes past e ok = omega (arith, ok.place)
place_there UnlinkVertex sizes past e ok = omega (arith, ok.place)
place_there LinkEdge sizes past e ok = omega (arith, ok.place)
place_there UnlinkEdge sizes past e ok = omega (arith, ok.place)
place_there _ sizes past e ok = omega (arith, ok.place, ok.there)

-- a life of the table is that of its node after an event that is about it
life_by : (k : Kind) (sizes : Sizes) → IsLayout sizes → (past : List Event) (e : Event) → AllowedAs k sizes past e
    → e.life.index < sizes.nodes → e.life.tag ≡ ((state_by k sizes e (state sizes past)).node e.life.index).tag
life_by PopFree sizes z past e ok there = sym (ap (λ (v : Node). v.tag)
    (put_same e.life.index _ (state sizes past).node))
life_by DrawNumber sizes z past e ok there = let h : e.life.index ≡ 16777215 = ap
    (λ (l : Life). l.index) ok.life in absurd (omega (arith, h, there, z.few_nodes))
life_by Announce sizes z past e ok there = let h : e.life.index ≡ 16777215 = ap
    (λ (l : Life). l.index) ok.life in absurd (omega (arith, h, there, z.few_nodes))
life_by Withdraw sizes z past e ok there = let h : e.life.index ≡ 16777215 = ap
    (λ (l : Life). l.index) ok.life in absurd (omega (arith, h, there, z.few_nodes))
life_by MoveEpoch sizes z past e ok there = let h : e.life.index ≡ 16777215 = ap
    (λ (l : Life). l.index) ok.life in absurd (omega (arith, h, there, z.few_nodes))
life_by k sizes z past e ok there = ok.life ∙ sym (same_tag k tt sizes e (state sizes past) e.life.index)

-- which kinds open and close a pass
pass_by : (k : Kind) → k ≢ Announce → k ≢ Withdraw → (sizes : Sizes) (e : Event) (s : State) (caller : ℕ) →
    (state_by k sizes e s).pass caller ≡ s.pass caller
pass_by Announce a w sizes e s caller = absurd (a refl)
pass_by Withdraw a w sizes e s caller = absurd (w refl)
pass_by _ a w sizes e s caller = refl

-- a node is in the same state, hands and life
record StaysSpent (v v' : Node) : Type 0 where
  pub mode : v'.mode ≡ v.mode
  pub who : v'.who ≡ v.who
  pub tag : v'.tag ≡ v.tag
  pub vertex : v'.vertex ≡ v.vertex

module _ (sizes : Sizes) (past : List Event) (e : Event) (kept : IsKept sizes (past ++ e ∷ [])) where
  was_kept : IsKept sizes past
  was_kept = past_kept sizes past e kept

  allowed : Allowed sizes past e
  allowed = last_allowed sizes past e kept

  pub allowed_as : (k : Kind) → e.kind ≡ k → AllowedAs k sizes past e
  allowed_as k is = subst (λ (j : Kind). AllowedAs j sizes past e) is allowed.as_kind

  pub after_as : (k : Kind) → e.kind ≡ k → state sizes (past ++ e ∷ []) ≡ state_by k sizes e (state sizes past)
  after_as k is = state-snoc sizes past e ∙ ap (λ (j : Kind). state_by j sizes e (state sizes past)) is

  -- the node that an event is about, where its kind puts it
  node_as : (k : Kind) → e.kind ≡ k → (v : Node) → (state_by k sizes e (state sizes past)).node e.life.index ≡ v
      → node_in sizes (past ++ e ∷ []) e.life.index ≡ v
  node_as k is v h = ap (λ (s : State). s.node e.life.index) (after_as k is) ∙ h

  pub written : word_at sizes (past ++ e ∷ []) e.place ≡ e.word
  written = word_here sizes past e (place_there e.kind sizes past e allowed.as_kind)

  pub event_life : IsLayout sizes → e.life.index < sizes.nodes → e.life.tag ≡
      (node_in sizes (past ++ e ∷ []) e.life.index).tag
  event_life z there = life_by e.kind sizes z past e allowed.as_kind there ∙ sym
      (ap (λ (s : State). (s.node e.life.index).tag) (state-snoc sizes past e))

  -- what it isn't about stays
  pub fresh_kept : IsLayout sizes → (caller x : ℕ) → x < sizes.nodes → x ≢ e.life.index
      → IsFreshWith sizes past caller x → IsHeld sizes past (past ++ e ∷ []) x
  fresh_kept z caller x there ne f =
      let t = nowhere_near sizes z past e was_kept caller x there f (λ _. ne) e.kind allowed.as_kind in
      let a = after_event sizes past e in
      record {
        node = ap (λ (s : State). s.node x) (state-snoc sizes past e) ∙ t.0;
        key = a.else (key_at sizes x) t.1.0;
        link = a.else (link_at sizes x) t.1.1;
        second = a.else (second_at sizes x) t.1.2;
        third = a.else (third_at sizes x) t.1.3;
      }

  pub spent_kept : IsLayout sizes → (caller x : ℕ) → x < sizes.nodes → x ≢ e.life.index
      → IsSpentWith sizes past caller x → IsKeptSpent sizes past (past ++ e ∷ []) x
  spent_kept z caller x there ne f =
      let t = left_by sizes z past e was_kept caller x there f (λ _. ne) e.kind allowed.as_kind in
      let a = after_event sizes past e in
      record {
        node = ap (λ (s : State). s.node x) (state-snoc sizes past e) ∙ t.node;
        key = a.else (key_at sizes x) t.key;
        link = a.else (link_at sizes x) t.link;
        closed = ap (λ (s : State). s.frozen x) (state-snoc sizes past e) ∙ t.frozen;
      }

  pub pass_kept : e.kind ≢ Announce → e.kind ≢ Withdraw → (caller : ℕ) → pass_in sizes
      (past ++ e ∷ []) caller ≡ pass_in sizes past caller
  pass_kept a w caller = ap (λ (s : State). s.pass caller) (state-snoc sizes past e) ∙ pass_by e.kind a w sizes e
      (state sizes past) caller

  -- a spent node that the event is about stays in its state and its life, but where it's given back
  spent_here : IsLayout sizes → (node_in sizes past e.life.index).mode ≡ Spent → (k : Kind) → k ≢ PushFree
      → AllowedAs k sizes past e → StaysSpent (node_in sizes past e.life.index)
      ((state_by k sizes e (state sizes past)).node e.life.index)
  spent_here z m PopFree other ok = let f = first_is_free sizes z past was_kept e.life.index ok.there ok.seen in absurd
      (cc)
  spent_here z m LinkVertex other ok = let f = ok.fresh.fresh in absurd (cc)
  spent_here z m LinkEdge other ok = let f = ok.fresh.fresh in absurd (cc)
  spent_here z m MarkVertex other ok = let f = ok.linked.linked in absurd (cc)
  spent_here z m UnlinkVertex other ok = let f = ok.linked.linked in absurd (cc)
  spent_here z m UnlinkEdge other ok = let f = ok.linked.linked in absurd (cc)
  spent_here z m ReplaceEdge other ok = let f = ok.fresh.fresh in absurd (cc)
  spent_here z m MarkEdge other ok = let f = ok.linked.linked in absurd (cc)
  spent_here z m FreezeEdge other ok = let f = ok.linked.linked in absurd (cc)
  spent_here z m PushFree other ok = absurd (other refl)
  spent_here z m StoreFree other ok = subst (StaysSpent (node_in sizes past e.life.index))
      (sym (put_same e.life.index _ (state sizes past).node)) record
      { mode = refl; who = refl; tag = refl; vertex = refl }
  spent_here z m FreezeHead other ok = handed_case (λ (u : Node). StaysSpent (node_in sizes past e.life.index) u)
      (closed_state (state sizes past) e.life.index) e.life.index e.life.index record
      { mode = refl; who = refl; tag = refl; vertex = refl } (λ l _ _. absurd (cc))
  spent_here z m _ other ok = record { mode = refl; who = refl; tag = refl; vertex = refl }

  pub spent_still : IsLayout sizes → (caller x : ℕ) → (e.kind ≡ PushFree → e.life.index ≢ x)
      → IsSpentWith sizes past caller x
      → IsSpentWith sizes (past ++ e ∷ []) caller x × ((node_in sizes (past ++ e ∷ []) x).tag ≡
      (node_in sizes past x).tag) × ((node_in sizes (past ++ e ∷ []) x).vertex ≡ (node_in sizes past x).vertex)
  spent_still z caller x other f =
      let r : StaysSpent (node_in sizes past x) (node_in sizes (past ++ e ∷ []) x) = dite (ℕ_discrete x e.life.index)
      (λ same. subst (λ (y : ℕ). StaysSpent (node_in sizes past y) (node_in sizes (past ++ e ∷ []) y)) (sym same)
      (subst (StaysSpent (node_in sizes past e.life.index))
      (sym (ap (λ (s : State). s.node e.life.index) (state-snoc sizes past e)))
      (spent_here z (ap (λ (y : ℕ). (node_in sizes past y).mode) (sym same) ∙ f.spent) e.kind
      (λ h. other h (sym same)) allowed.as_kind)))
      (λ ne.
      let is = (spent_kept z caller x (used_there sizes past x was_kept (λ h. let t = f.spent in absurd (cc))) ne
      f).node in
      record {
        mode = ap (λ (n : Node). n.mode) is;
        who = ap (λ (n : Node). n.who) is;
        tag = ap
            (λ (n : Node). n.tag) is;
        vertex = ap (λ (n : Node). n.vertex) is;
      }) in
      (record { spent = r.mode ∙ f.spent; mine = r.who ∙ f.mine }, r.tag, r.vertex)

  -- a node that is fresh with a caller was so before, where it took none
  before : e.kind ≢ PopFree → (caller x : ℕ) → IsFreshWith sizes (past ++ e ∷ []) caller x
      → IsFreshWith sizes past caller x
  before other caller x f =
      let is = ap (λ (s : State). s.node x) (state-snoc sizes past e) in
      let was = fresh_was e.kind sizes e (state sizes past) caller x (λ h. absurd (other h))
      (sym (ap (λ (v : Node). v.mode) is) ∙ f.fresh) (sym (ap (λ (v : Node). v.who) is) ∙ f.mine) in
      record { fresh = was.0; mine = was.1 }

  pub none_kept : e.kind ≢ PopFree → (caller : ℕ) → ((x : ℕ) → x < sizes.nodes → IsFreshWith sizes past caller x → ⊥) →
      (x : ℕ) → x < sizes.nodes → IsFreshWith sizes (past ++ e ∷ []) caller x → ⊥
  none_kept other caller none x there f = none x there (before other caller x f)

  -- a node is taken
  pub node_taken : e.kind ≡ PopFree → (e.life.index < sizes.nodes) × IsFreshWith sizes
      (past ++ e ∷ []) e.caller e.life.index
  node_taken is =
      let v : Node = record (node_in sizes past e.life.index)
      { mode = Fresh; who = e.caller; tag = e.life.tag; marked = false; stored = false } in
      let h = node_as PopFree is v (put_same e.life.index v (state sizes past).node) in
      ((allowed_as PopFree is).there, record { fresh = ap (λ (n : Node). n.mode) h; mine = ap (λ (n : Node). n.who) h })

  pub node_filled : e.kind ≡ StorePrivate → (x : ℕ) → node_in sizes (past ++ e ∷ []) x ≡ node_in sizes past x
  node_filled is x = ap (λ (s : State). s.node x) (after_as StorePrivate is)

  -- a node is linked, and its caller holds no other fresh one
  no_more : e.kind ≢ PopFree → IsFreshWith sizes past e.caller e.life.index →
      (node_in sizes (past ++ e ∷ []) e.life.index).mode ≡ Linked → (x : ℕ) → x < sizes.nodes → IsFreshWith sizes
      (past ++ e ∷ []) e.caller x → ⊥
  no_more other mine linked x there f =
      let same : x ≡ e.life.index = one_fresh sizes past was_kept e.caller x e.life.index
      (before other e.caller x f) mine in
      let m : (node_in sizes (past ++ e ∷ []) e.life.index).mode ≡ Fresh = subst
      (λ (y : ℕ). (node_in sizes (past ++ e ∷ []) y).mode ≡ Fresh) same f.fresh in
      absurd (cc)

  -- the node of an edge that is linked by the event
  record IsJoinedNode (v : Node) : Type 0 where
    pub linked : v.mode ≡ Linked
    pub edge : v.vertex ≡ false
    pub source : v.source ≡ e.source

  pub vertex_joined : e.kind ≡ LinkVertex → IsLinkedVertex sizes (past ++ e ∷ []) e.life.index ×
      ((x : ℕ) → x < sizes.nodes → IsFreshWith sizes (past ++ e ∷ []) e.caller x → ⊥)
  vertex_joined is =
      let v : Node = record (node_in sizes past e.life.index) { mode = Linked; vertex = true; key = e.key } in
      let h = node_as LinkVertex is v (put_same e.life.index v (state sizes past).node) in
      let linked = ap (λ (n : Node). n.mode) h in (
        record { linked = linked; vertex = ap (λ (n : Node). n.vertex) h },
        no_more (λ h. absurd (cc))
            (allowed_as LinkVertex is).fresh linked,
      )

  pub edge_joined : e.kind ≡ LinkEdge → IsLinkedEdge sizes (past ++ e ∷ []) e.life.index ×
      ((node_in sizes (past ++ e ∷ []) e.life.index).source ≡ e.source) ×
      ((x : ℕ) → x < sizes.nodes → IsFreshWith sizes (past ++ e ∷ []) e.caller x → ⊥)
  edge_joined is =
      let v : Node = record (node_in sizes past e.life.index) {
        mode = Linked;
        vertex = false;
        key = e.key;
        source = e.source;
        target = e.target;
        weight = e.weight;
        since =
            (state sizes past).count + 1;
      } in
      let h = node_as LinkEdge is v (put_same e.life.index v (state sizes past).node) in
      let linked = ap (λ (n : Node). n.mode) h in (
        record { linked = linked; edge = ap (λ (n : Node). n.vertex) h },
        ap (λ (n : Node). n.source) h,
        no_more
            (λ h. absurd (cc)) (allowed_as LinkEdge is).fresh linked,
      )

  -- an edge is replaced: the new one is linked, and the old one is marked
  pub edge_replaced : IsLayout sizes → e.kind ≡ ReplaceEdge → IsLinkedEdge sizes (past ++ e ∷ []) e.life.index ×
      ((node_in sizes (past ++ e ∷ []) e.life.index).source ≡ e.source)
      × ((node_in sizes (past ++ e ∷ []) e.old.index).marked ≡ true) ×
      ((x : ℕ) → x < sizes.nodes → IsFreshWith sizes (past ++ e ∷ []) e.caller x → ⊥)
  edge_replaced z is =
      let ok = allowed_as ReplaceEdge is in
      let s : State = state sizes past in
      let new : IsJoinedNode ((state_by ReplaceEdge sizes e s).node e.life.index) = replaced_case sizes z past e
      was_kept ok IsJoinedNode e.life.index
      (λ _. record { linked = refl; edge = refl; source = refl }) (λ ne. absurd (ne refl))
      (λ ne _ _ _. absurd (ne refl)) in
      let old : ((state_by ReplaceEdge sizes e s).node e.old.index).marked ≡ true = replaced_case sizes z past e
      was_kept ok (λ (u : Node). u.marked ≡ true) e.old.index
      (λ same. absurd (old_apart sizes past e ok same)) (λ _. ap (λ (u : Node). u.marked)
      (put_same e.old.index (record (s.node e.old.index) { marked = true }) s.node)) (λ _ _ marked _. marked) in
      let h = subst (λ (t : State). IsJoinedNode (t.node e.life.index)) (sym (after_as ReplaceEdge is)) new in (
        record { linked = h.linked; edge = h.edge },
        h.source,
        subst (λ (t : State). (t.node e.old.index).marked ≡ true)
            (sym (after_as ReplaceEdge is)) old,
        no_more (λ h. absurd (cc)) ok.fresh h.linked,
      )

  -- a node is unlinked
  pub vertex_spent : IsLayout sizes → e.kind ≡ UnlinkVertex → IsSpentVertex sizes (past ++ e ∷ []) e.caller e.life.index
      × HasList sizes (past ++ e ∷ []) e.life.index
  vertex_spent z is =
      let v : Node = record (node_in sizes past e.life.index)
      { mode = Spent; who = e.caller; ended = (state sizes past).count + 1; epoch = (state sizes past).epoch } in
      let h = node_as UnlinkVertex is v (put_same e.life.index v (state sizes past).node) in
      let ok = allowed_as UnlinkVertex is in
      let vertex : (node_in sizes (past ++ e ∷ []) e.life.index).vertex ≡ true = ap (λ (n : Node). n.vertex) h
      ∙ ok.linked.vertex in
      let open_ : (state sizes (past ++ e ∷ [])).frozen e.life.index ≡ false = ap (λ (s : State). s.frozen e.life.index)
      (after_as UnlinkVertex is) ∙ unclosed sizes z past was_kept e.life.index ok.linked.linked in (
        record { spent = ap (λ (n : Node). n.mode) h; vertex = vertex; mine = ap (λ (n : Node). n.who) h },
        record {
          there = ok.there;
          used = subst IsUsed (sym (ap (λ (n : Node). n.mode) h)) tt;
          vertex = vertex;
          unfinished = λ f. let t = f.head in absurd (cc);
        },
      )

  pub edge_spent : e.kind ≡ UnlinkEdge → IsSpentWith sizes (past ++ e ∷ []) e.caller e.life.index ×
      ((x : ℕ) → is_listed (state sizes (past ++ e ∷ [])) x e.life.index ≡ false)
  edge_spent is =
      let v : Node = record (node_in sizes past e.life.index)
      { mode = Spent; who = e.caller; ended = (state sizes past).count + 1; epoch = (state sizes past).epoch } in
      let h = node_as UnlinkEdge is v (put_same e.life.index v (state sizes past).node) in (
        record { spent = ap (λ (n : Node). n.mode) h; mine = ap (λ (n : Node). n.who) h },
        λ x. subst (λ (s : State). is_listed s x e.life.index ≡ false) (sym (after_as UnlinkEdge is))
            (yes_no (is_listed (state_by UnlinkEdge sizes e (state sizes past)) x e.life.index ≡ false)
            (is_listed (state_by UnlinkEdge sizes e (state sizes past)) x e.life.index)
            (λ t. absurd ((unlinked_was e.life.index e.life.index ((state sizes past).edges x) t).1 refl)) (λ f. f)),
      )

  -- the link of a node is stored for the free list
  pub link_stored : e.kind ≡ StoreFree → IsSpentWith sizes (past ++ e ∷ []) e.caller e.life.index ×
      ((node_in sizes (past ++ e ∷ []) e.life.index).stored ≡ true)
  link_stored is =
      let v : Node = record (node_in sizes past e.life.index) { stored = true } in
      let h = node_as StoreFree is v (put_same e.life.index v (state sizes past).node) in
      let ripe = (allowed_as StoreFree is).ripe in (
        record {
          spent = ap (λ (n : Node). n.mode) h ∙ ripe.stamped.spent.spent;
          mine = ap (λ (n : Node). n.who) h
              ∙ ripe.stamped.spent.mine;
        },
        ap (λ (n : Node). n.stored) h,
      )

  -- a pass is opened and closed
  pub pass_opened : e.kind ≡ Announce → ((pass_in sizes (past ++ e ∷ []) e.caller).is_open ≡ true) ×
      ((pass_in sizes (past ++ e ∷ []) e.caller).since ≡ length past)
  pass_opened is =
      let q : Pass = record { is_open = true; birth = (state sizes past).epoch; since = (state sizes past).count } in
      let h = ap (λ (s : State). s.pass e.caller) (after_as Announce is) ∙ put_same e.caller q
      (state sizes past).pass in
      (ap (λ (p : Pass). p.is_open) h, ap (λ (p : Pass). p.since) h ∙ count-length sizes past)

  pub pass_closed : e.kind ≡ Withdraw → (pass_in sizes (past ++ e ∷ []) e.caller).is_open ≡ false
  pass_closed is =
      let q : Pass = record (pass_in sizes past e.caller) { is_open = false } in
      ap (λ (p : Pass). p.is_open) (ap (λ (s : State). s.pass e.caller) (after_as Withdraw is) ∙ put_same e.caller q
      (state sizes past).pass)
