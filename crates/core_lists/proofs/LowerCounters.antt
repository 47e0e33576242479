-- The counter of an edge's source is higher than when the edge was linked, once it was raised for the edge.
use Rattle.std.proofs.Common.{◌≡◌, ◌≢◌, ℕ, zero, suc, ◌<◌, ◌≤◌, Bool, true, false, cond, ◌&&◌, List, [], ◌∷◌, length}
use Rattle.std.proofs.Common.{filter, find, take, Option, Some, None, refl, sym, ap, ◌∙◌, subst, arith}
use Rattle.std.specs.Prelude.{slice_get, is_some}
use Rattle.std.proofs.lemmas.Bool.{and_parts, and_from}
use Rattle.std.proofs.Math.Seq.{take-length}
use mathlib.Core.Logic.{dite}
use native.Mathlib.Decide.{ℕ_discrete}
use Rattle.packed_link.specs.Layout.{Sizes, IsLayout, third_at}
use Rattle.packed_link.specs.declared.link.Life.{Life}
use Rattle.core_journal.specs.declared.event.Kind.{Kind}
use Rattle.core_journal.specs.declared.event.Kind.TheVariants.{PopFree, StorePrivate, LinkEdge, Raise, MarkEdge}
use Rattle.core_journal.specs.declared.event.Kind.TheVariants.{FreezeEdge, ReplaceEdge}
use Rattle.core_journal.specs.declared.event.Event.{Event}
use Rattle.core_journal.specs.Event.{same_life, links_edge, cuts_edge, replaces, cut_life, raises}
use Rattle.core_journal.specs.Life.{key_of, link_of, edge_linked, vertex_marked}
use Rattle.core_journal.specs.GraphOf.{present_key}
use Rattle.core_journal.specs.Machine.{word_at}
use Rattle.core_journal.specs.Prefix.{IsPrefix}
use Rattle.core_journal.specs.State.{Mode, Free, Fresh, Linked, Spent, Node, State, state}
use Rattle.core_journal.proofs.KeptLives.{link_more, linked-link}
use Rattle.core_journal.proofs.Lists.{prefix_take}
use Rattle.core_journal.proofs.Snoc.{same_self}
use Rattle.core_kept.specs.Counts.{raised}
use Rattle.core_kept.specs.Edges.{IsRaisedFor}
use Rattle.core_kept.specs.Kept.{AllowedAs, IsKept}
use Rattle.core_kept.specs.Nodes.{node_in, IsUsed, IsVertex, IsLinkedEdge}
use Rattle.core_kept.specs.Facts.{HasMet}
use Rattle.core_lists.specs.Raised.{IsLinkedLower}
use Rattle.core_lists.proofs.MetWordsLead.{met_unstored}
use Rattle.core_kept.proofs.Induction.{allowed_at, kept_front}
use Rattle.core_kept.proofs.ByKind.{IsAfter, KeepsByKind, put_case, holds_onward}
use Rattle.core_kept.proofs.LinkWords.{link_words, taken}
use Rattle.core_kept.proofs.LinkedOnce.{fresh_before}
use Rattle.core_kept.proofs.PastLives.{BeginsNoLife, same_tag, counters}
use Rattle.core_kept.proofs.Named.{life_is, named}
use Rattle.core_kept.proofs.EdgeEnds.{ends_linked, frozen_edge, not_none}
use Rattle.core_kept.proofs.NodesInPlace.{used_there}
use Rattle.core_lists.proofs.OneVertexOfKey.{present_live}
use Rattle.core_lists.proofs.ListHoldsKept.{sources}

module _ {A : Type 0} where
  -- an element of a front stands before its end
  taken_at : (xs : List A) (n k : ℕ) (x : A) → slice_get (take n xs) k ≡ Some x → (slice_get xs k ≡ Some x) × (k < n)
  taken_at xs zero k x h = absurd (cc)
  taken_at [] (suc n) k x h = absurd (cc)
  taken_at (y ∷ ys) (suc n) zero x h = (h, omega arith)
  taken_at (y ∷ ys) (suc n) (suc k) x h = let r = taken_at ys n k x h in (r.0, omega (arith, r.1))

  -- a front of a front
  take_twice : (xs : List A) (m n : ℕ) → m ≤ n → take m (take n xs) ≡ take m xs
  take_twice xs zero n h = refl
  take_twice xs (suc m) zero h = absurd (omega arith)
  take_twice [] (suc m) (suc n) h = refl
  take_twice (x ∷ xs) (suc m) (suc n) h = ap (λ (l : List A). x ∷ l) (take_twice xs m n (omega arith))

  -- what is found stands somewhere, and passes the test
  pub found_at : (test : A → Bool) (xs : List A) (x : A) → find test xs ≡ Some x → (k : ℕ) × (slice_get xs k ≡ Some x) ×
      (test x ≡ true)
  found_at test [] x h = absurd (cc)
  found_at test (y ∷ ys) x h = by (test y) refl (found_at test ys x) h
    where
      by : (b : Bool) → test y ≡ b → (find test ys ≡ Some x → (k : ℕ) × (slice_get ys k ≡ Some x) × (test x ≡ true))
          → cond b (Some y) (find test ys) ≡ Some x → (k : ℕ) × (slice_get (y ∷ ys) k ≡ Some x) × (test x ≡ true)
      by true e more h = let same : y ≡ x = cc in (0, h, ap test (sym same) ∙ e)
      by false e more h = let r = more h in (suc r.0, r.1, r.2)

  -- a longer front has no fewer that pass a test
  no_fewer : (test : A → Bool) (xs : List A) (m n : ℕ) → m ≤ n → length (filter test (take m xs)) ≤ length
      (filter test (take n xs))
  no_fewer test xs zero n h = omega arith
  no_fewer test xs (suc m) zero h = absurd (omega arith)
  no_fewer test [] (suc m) (suc n) h = omega arith
  no_fewer test (x ∷ xs) (suc m) (suc n) h = by (test x) (no_fewer test xs m n (omega arith))
    where
      by : (b : Bool) → length (filter test (take m xs)) ≤ length (filter test (take n xs)) → length
          (cond b (x ∷ filter test (take m xs)) (filter test (take m xs))) ≤ length
          (cond b (x ∷ filter test (take n xs)) (filter test (take n xs)))
      by true h = omega arith
      by false h = h

  -- and one that passes makes it more
  one_more : (test : A → Bool) (xs : List A) (n : ℕ) (x : A) → slice_get xs n ≡ Some x → test x ≡ true → length
      (filter test (take n xs)) < length (filter test xs)
  one_more test [] n x at hits = absurd (cc)
  one_more test (y ∷ ys) zero x at hits = let same : y ≡ x = cc in subst
      (λ (b : Bool). 0 < length (cond b (y ∷ filter test ys) (filter test ys))) (sym (ap test same ∙ hits))
      (omega arith)
  one_more test (y ∷ ys) (suc n) x at hits = by (test y) (one_more test ys n x at hits)
    where
      by : (b : Bool) → length (filter test (take n ys)) < length (filter test ys) → length
          (cond b (y ∷ filter test (take n ys)) (filter test (take n ys))) < length
          (cond b (y ∷ filter test ys) (filter test ys))
      by true h = omega arith
      by false h = h

-- an edge that was linked has its event
pub edge_event : (journal : List Event) (x : Life) (link : Event) → link_of journal x ≡ Some link → (k : ℕ) ×
    (slice_get journal k ≡ Some link) × (links_edge link.kind ≡ true)
unfolding link_of
edge_event journal x link h =
    let r = found_at (λ (e : Event). links_edge e.kind && same_life x e.life) journal link h in
    (r.0, r.1, (and_parts (links_edge link.kind) (same_life x link.life) r.2).0)

linked_there : (journal : List Event) (x : Life) → edge_linked journal x ≡ true → (link : Event) ×
    (link_of journal x ≡ Some link)
linked_there journal x h = by (link_of journal x) refl (sym (linked-link journal x) ∙ h)
  where
    by : (o : Option Event) → link_of journal x ≡ o → is_some o ≡ true → (link : Event) ×
        (link_of journal x ≡ Some link)
    by None e t = absurd (cc)
    by (Some d) e t = (d, e)

-- the edge that was linked, and the counter then
record IsRaisedSince (past : List Event) (link : Event) : Type 0 where
  pub place : ℕ
  pub at : slice_get past place ≡ Some link
  pub links : links_edge link.kind ≡ true
  pub raises : raised link.source (take place past) < raised link.source past

raised_since : (sizes : Sizes) (past : List Event) (caller : ℕ) (x : Life) (link : Event) → link_of past x ≡ Some link
    → IsRaisedFor sizes past caller x link.source → IsRaisedSince past link
raised_since sizes past caller x link is r =
    let d = linked_there (take r.number past) x r.linked in
    let p = prefix_take past r.number in
    let later : link_of past x ≡ Some d.0 = subst (λ (l : List Event). link_of l x ≡ Some d.0) p.whole
    (link_more (take r.number past) p.rest x d.0 d.1) in
    let same : d.0 ≡ link = cc in
    let f = edge_event (take r.number past) x d.0 d.1 in
    let at = taken_at past r.number f.0 d.0 f.1 in
    let test : Event → Bool = λ (e : Event). raises e.kind && same_life link.source e.life in
    let hits : test r.raise ≡ true = and_from (raises r.raise.kind) (same_life link.source r.raise.life)
    (ap raises r.kind) (ap (same_life link.source) r.vertex ∙ same_self link.source) in
    let low = no_fewer test past f.0 r.number (omega (arith, at.1)) in
    let more = one_more test past r.number r.raise r.at hits in
    record {
      place = f.0;
      at = at.0 ∙ ap Some same;
      links = ap (λ (e : Event). links_edge e.kind) (sym same)
          ∙ f.2;
      raises = omega arith;
    }

-- the source of an edge that is linked, in the place of another or not, is a vertex
linked_from : (sizes : Sizes) → IsLayout sizes → (past : List Event) → IsKept sizes past → (e : Event) (k : Kind)
    → links_edge k ≡ true → AllowedAs k sizes past e → IsVertex sizes past e.source
linked_from sizes z past kept e LinkEdge h ok = ok.source
linked_from sizes z past kept e ReplaceEdge h ok =
    let at = (sources sizes z past kept).each e.old.index ok.old_there ok.linked in
    subst (IsVertex sizes past) (sym ok.source) record {
      there = at.list.there;
      life = at.life;
      used = at.list.used;
      vertex = at.list.vertex;
    }
linked_from sizes z past kept e _ h ok = absurd (cc)

-- the third word of a vertex counts the raises of its life
counter_word : (sizes : Sizes) → IsLayout sizes → (past : List Event) → IsKept sizes past → (x : Life)
    → IsVertex sizes past x → word_at sizes past (third_at sizes x.index) ≡ raised x past
counter_word sizes z past kept x v =
    ((counters sizes z past kept).each x.index v.there).third v.used v.vertex ∙ ap (λ (y : Life). raised y past)
    (sym (life_is x x.index (node_in sizes past x.index).tag refl v.life))

-- where a caller raised the counter of the source for an edge, it's higher than when the edge was linked
lower_at : (sizes : Sizes) → IsLayout sizes → (journal : List Event) → IsKept sizes journal → (p caller : ℕ) (x : Life)
    (link : Event) → link_of (take p journal) x ≡ Some link
    → IsRaisedFor sizes (take p journal) caller x link.source → IsVertex sizes (take p journal) link.source
    → IsLinkedLower sizes journal p link
lower_at sizes z journal kept p caller x link is r v =
    let past : List Event = take p journal in
    let kept_past = kept_front sizes past journal (prefix_take journal p) kept in
    let s = raised_since sizes past caller x link is r in
    let at = taken_at journal p s.place link s.at in
    let early : take s.place past ≡ take s.place journal = take_twice journal s.place p (omega (arith, at.1)) in
    let less : raised link.source (take s.place journal) < raised link.source past = subst
    (λ (l : List Event). raised link.source l < raised link.source past) early s.raises in
    let kept_then = kept_front sizes (take s.place journal) journal (prefix_take journal s.place) kept in
    let from = linked_from sizes z (take s.place journal) kept_then link link.kind s.links
    (allowed_at sizes journal s.place link kept at.0).as_kind in
    let then_word = counter_word sizes z (take s.place journal) kept_then link.source from in
    let now_word = counter_word sizes z past kept_past link.source v in
    record { place = s.place; before = at.1; at = at.0; raises = less; word = omega (arith, less, then_word, now_word) }

-- an unmarked source is a vertex still
source_there : (sizes : Sizes) → IsLayout sizes → (past : List Event) → IsKept sizes past → (x : Life) (link : Event)
    → link_of past x ≡ Some link → vertex_marked past link.source ≡ false → IsVertex sizes past link.source
source_there sizes z past kept x link is live =
    let key = not_none (key_of past link.source) ((ends_linked sizes z past kept).source x link is) in
    let here : present_key past link.source ≡ Some key.0 = ap (λ (b : Bool). cond b None (key_of past link.source)) live
    ∙ key.1 in
    let v = present_live sizes z past kept link.source key.0 here in
    record {
      there = used_there sizes past link.source.index kept (λ f. let m = v.linked in absurd (cc));
      life = v.life;
      used = subst IsUsed (sym v.linked) tt;
      vertex = v.vertex;
    }

-- a linked edge for which its source's counter was raised, of which the source isn't marked, was linked while the
-- counter was lower
raised_edge : (sizes : Sizes) → IsLayout sizes → (journal : List Event) → IsKept sizes journal → (p caller : ℕ)
    (x : Life) (link : Event) → x.index < sizes.nodes → x.tag ≡ (node_in sizes (take p journal) x.index).tag
    → IsLinkedEdge sizes (take p journal) x.index
    → IsRaisedFor sizes (take p journal) caller x (node_in sizes (take p journal) x.index).source → link_of
    (take p journal) x ≡ Some link → vertex_marked (take p journal) link.source ≡ false
    → IsLinkedLower sizes journal p link
raised_edge sizes z journal kept p caller x link there life linked raise is live =
    let past : List Event = take p journal in
    let kept_past = kept_front sizes past journal (prefix_take journal p) kept in
    let v = node_in sizes past x.index in
    let d = ((named sizes z past kept_past).each x.index there).edge_link
    (subst IsUsed (sym linked.linked) tt) linked.edge in
    let one : link_of past x ≡ Some d.link = ap (link_of past) (life_is x x.index v.tag refl life) ∙ d.is in
    let same : d.link ≡ link = cc in
    let from : v.source ≡ link.source = sym d.from ∙ ap (λ (y : Event). y.source) same in
    lower_at sizes z journal kept p caller x link is (subst (IsRaisedFor sizes past caller x) from raise)
    (source_there sizes z past kept_past x link is live)

-- an edge that is marked or replaced, of which the source isn't marked, was linked while the counter was lower
pub marked_lower : (sizes : Sizes) → IsLayout sizes → (journal : List Event) → IsKept sizes journal → (p : ℕ)
    (e link : Event) → slice_get journal p ≡ Some e → cuts_edge e.kind ≡ true
    → link_of (take p journal) (cut_life e) ≡ Some link → vertex_marked (take p journal) link.source ≡ false
    → IsLinkedLower sizes journal p link
marked_lower sizes z journal kept p e link at cuts is live = by e.kind refl cuts
    (allowed_at sizes journal p e kept at).as_kind
  where
    -- the life that is marked
    cut : (k : Kind) → e.kind ≡ k → cond (replaces k) e.old e.life ≡ cut_life e
    cut k i = ap (λ (c : Kind). cond (replaces c) e.old e.life) (sym i)

    by : (k : Kind) → e.kind ≡ k → cuts_edge k ≡ true → AllowedAs k sizes (take p journal) e
        → IsLinkedLower sizes journal p link
    by MarkEdge i m ok = raised_edge sizes z journal kept p e.caller e.life link ok.there ok.life ok.linked ok.raised
        (ap (link_of (take p journal)) (cut MarkEdge i) ∙ is) live
    by ReplaceEdge i m ok = raised_edge sizes z journal kept p e.caller e.old link ok.old_there ok.old_life ok.linked
        ok.raised (ap (link_of (take p journal)) (cut ReplaceEdge i) ∙ is) live
    by FreezeEdge i m ok =
        let kept_past = kept_front sizes (take p journal) journal (prefix_take journal p) kept in
        let t = (frozen_edge sizes z (take p journal) e kept_past i ok).gone link
        (ap (link_of (take p journal)) (cut FreezeEdge i) ∙ is) in absurd (cc)
    by _ i m ok = absurd (cc)

-- the third word of a node is no less than it was, while the node is in this life
record IsNoLess (sizes : Sizes) (x tag word : ℕ) (s : State) (w : ℕ → ℕ) : Type 0 where
  pub low : tag ≤ (s.node x).tag
  pub fresh : (s.node x).tag ≡ tag → (s.node x).mode ≢ Fresh
  pub no_less : (s.node x).tag ≡ tag → word ≤ w (third_at sizes x)

module _ (sizes : Sizes) (z : IsLayout sizes) (x tag word : ℕ) where
  -- a kind writes no less
  third_word : (past : List Event) (e : Event) (k : Kind) → BeginsNoLife k → AllowedAs k sizes past e →
      (node_in sizes past x).mode ≢ Fresh → (w : ℕ → ℕ) → IsAfter sizes past e w → word_at sizes past
      (third_at sizes x) ≤ w (third_at sizes x)
  third_word past e PopFree o ok fresh w a = absurd o
  third_word past e Raise o ok fresh w a = dite (ℕ_discrete (third_at sizes x) e.place)
      (λ h.
      let here : w (third_at sizes x) ≡ e.word = ap w h ∙ a.here (omega (arith, ok.place, ok.there)) in
      let old : word_at sizes past (third_at sizes x) ≡ word_at sizes past e.place = ap (word_at sizes past) h in
      omega (arith, here, old, ok.word))
      (λ ne. omega (arith, a.else (third_at sizes x) ne))
  third_word past e StorePrivate o ok fresh w a = dite (ℕ_discrete x e.life.index)
      (λ same. absurd (fresh (ap (λ (y : ℕ). (node_in sizes past y).mode) same ∙ ok.fresh.fresh)))
      (λ ne. omega (arith, a.else (third_at sizes x) (λ h. ne (omega (arith, ok.place, h)))))
  third_word past e k o ok fresh w a = omega (
    arith,
    a.else (third_at sizes x)
        (λ h. omega (arith, ok.place, ok.there, h)),
  )

  no_less_step : KeepsByKind sizes (IsNoLess sizes x tag word)
  no_less_step past e kept c PopFree by ok w a =
      let t = taken sizes z past e kept ok in record {
        low = put_case (λ (u : Node). tag ≤ u.tag) e.life.index _ (state sizes past).node x
            (λ same. let n : (node_in sizes past x).tag ≡ (node_in sizes past e.life.index).tag = ap
            (λ (y : ℕ). (node_in sizes past y).tag) same in omega (arith, c.low, n, t.tag)) (λ _. c.low);
        fresh = put_case (λ (u : Node). u.tag ≡ tag → u.mode ≢ Fresh) e.life.index _ (state sizes past).node x
            (λ same h. let n : (node_in sizes past x).tag ≡ (node_in sizes past e.life.index).tag = ap
            (λ (y : ℕ). (node_in sizes past y).tag) same in absurd (omega (arith, c.low, n, t.tag, h))) (λ _. c.fresh);
        no_less = put_case (λ (u : Node). u.tag ≡ tag → word ≤ w (third_at sizes x)) e.life.index _
            (state sizes past).node x
            (λ same h. let n : (node_in sizes past x).tag ≡ (node_in sizes past e.life.index).tag = ap
            (λ (y : ℕ). (node_in sizes past y).tag) same in absurd (omega (arith, c.low, n, t.tag, h)))
            (λ _ h. omega (arith, c.no_less h, a.else (third_at sizes x) (λ p. omega (arith, ok.place, p))));
      }
  no_less_step past e kept c k by ok w a =
      let same = same_tag k tt sizes e (state sizes past) x in record {
        low = omega (arith, c.low, same);
        fresh = λ h m. c.fresh (sym same ∙ h) (fresh_before k tt sizes e (state sizes past) x m);
        no_less = λ h. omega (arith, c.no_less (sym same ∙ h), third_word past e k tt ok (c.fresh (sym same ∙ h)) w a);
      }

-- a counter never falls while its node isn't taken again
pub counter_rises : (sizes : Sizes) → IsLayout sizes → (x : ℕ) (front journal : List Event) → IsPrefix front journal
    → IsKept sizes journal → (node_in sizes front x).mode ≢ Fresh → (node_in sizes journal x).tag ≡
    (node_in sizes front x).tag
    → word_at sizes front (third_at sizes x) ≤ word_at sizes journal (third_at sizes x)
counter_rises sizes z x front journal p kept fresh tag =
    let P = IsNoLess sizes x (node_in sizes front x).tag (word_at sizes front (third_at sizes x)) in
    (holds_onward sizes P (no_less_step sizes z x (node_in sizes front x).tag (word_at sizes front (third_at sizes x)))
    front journal p kept record { low = omega arith; fresh = λ _. fresh; no_less = λ _. omega arith }).no_less tag

-- what a pass has met isn't stored for the free list
pub unstored_met : (sizes : Sizes) → IsLayout sizes → (journal : List Event) → IsKept sizes journal → (caller x : ℕ)
    → x < sizes.nodes → HasMet sizes journal caller x → (node_in sizes journal x).stored ≡ false
unstored_met sizes z journal kept caller x there m = by (node_in sizes journal x).mode refl
  where
    by : (k : Mode) → (node_in sizes journal x).mode ≡ k → (node_in sizes journal x).stored ≡ false
    by Linked e = ((link_words sizes z journal kept).each x there).unstored e
    by Spent e = met_unstored sizes z journal kept caller x there m e
    by Free e = absurd (m.free e)
    by Fresh e = absurd (m.fresh e)

-- in a pass that has met the source, in which a caller raised the counter for an edge
pub met_lower : (sizes : Sizes) → IsLayout sizes → (journal : List Event) → IsKept sizes journal → (caller : ℕ)
    (x : Life) (link : Event) → link_of journal x ≡ Some link → IsVertex sizes journal link.source
    → HasMet sizes journal caller link.source.index → IsRaisedFor sizes journal caller x link.source
    → IsLinkedLower sizes journal (length journal) link × ((node_in sizes journal link.source.index).stored ≡ false)
met_lower sizes z journal kept caller x link is vertex m r =
    let whole : take (length journal) journal ≡ journal = take-length journal in
    let was : link_of (take (length journal) journal) x ≡ Some link =
    ap (λ (l : List Event). link_of l x) whole ∙ is in (
      lower_at sizes z journal kept (length journal) caller x link was
          (subst (λ (l : List Event). IsRaisedFor sizes l caller x link.source) (sym whole) r)
          (subst (λ (l : List Event). IsVertex sizes l link.source) (sym whole) vertex),
      unstored_met sizes z journal kept caller link.source.index vertex.there m,
    )
