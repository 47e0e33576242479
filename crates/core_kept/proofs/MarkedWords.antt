-- A marked link word or second word of a life changes no more, but for the link that is stored for the free list.
use Rattle.std.proofs.Common.{◌≡◌, ◌≢◌, ◌⊎◌, ℕ, ◌≤◌, true, false, List, refl, sym, ap, ◌∙◌, arith, inl, inr}
use Rattle.packed_link.specs.Link.{mark_of}
use Rattle.packed_link.specs.Layout.{Sizes, IsLayout, link_at, second_at}
use Rattle.core_journal.specs.declared.event.Kind.{Kind}
use Rattle.core_journal.specs.declared.event.Kind.TheVariants.{PopFree, StorePrivate, LinkVertex, MarkVertex}
use Rattle.core_journal.specs.declared.event.Kind.TheVariants.{UnlinkVertex, LinkEdge, MarkEdge, UnlinkEdge, FreezeHead}
use Rattle.core_journal.specs.declared.event.Kind.TheVariants.{FreezeEdge, StoreFree, PushFree, ReplaceEdge}
use Rattle.core_journal.specs.declared.event.Event.{Event}
use Rattle.core_journal.specs.Prefix.{IsPrefix}
use Rattle.core_journal.specs.Machine.{word_at}
use Rattle.core_journal.specs.State.{Fresh, Node, State, put, handed, state_by, state, joined_edge}
use Rattle.core_kept.specs.Kept.{AllowedAs, IsKept}
use Rattle.core_kept.specs.Nodes.{node_in}
use Rattle.core_kept.proofs.ByKind.{KeepsByKind, put_case, put_same, handed_case, marked_state, closed_state}
use Rattle.core_kept.proofs.ByKind.{holds_onward}
use Rattle.core_kept.proofs.LinkWords.{taken}
use Rattle.core_kept.proofs.PastLives.{BeginsNoLife, same_tag}
use Rattle.core_kept.proofs.LinkedOnce.{fresh_before}

put_stored : (s : State) (i : ℕ) (v : Node) (x : ℕ) → (v.stored ≡ false → (s.node i).stored ≡ false) →
    (put i v s.node x).stored ≡ false → (s.node x).stored ≡ false
put_stored s i v x was = put_case (λ (u : Node). u.stored ≡ false → (s.node x).stored ≡ false) i v s.node x
    (λ same m. ap (λ (y : ℕ). (s.node y).stored) same ∙ was m) (λ _ m. m)

handed_stored : (s : State) (v x : ℕ) → ((handed v s).node x).stored ≡ false → (s.node x).stored ≡ false
handed_stored s v x = handed_case (λ (u : Node). u.stored ≡ false → (s.node x).stored ≡ false) s v x (λ m. m)
    (λ _ _ _ m. m)

-- only the taking of a node makes it unstored
pub stored_before : (k : Kind) → BeginsNoLife k → (sizes : Sizes) (e : Event) (s : State) (x : ℕ) →
    ((state_by k sizes e s).node x).stored ≡ false → (s.node x).stored ≡ false
stored_before PopFree o sizes e s x = absurd o
stored_before LinkVertex o sizes e s x = put_stored s e.life.index _ x (λ m. m)
stored_before MarkVertex o sizes e s x = put_stored s e.life.index _ x (λ m. m)
stored_before UnlinkVertex o sizes e s x = put_stored s e.life.index _ x (λ m. m)
stored_before LinkEdge o sizes e s x = put_stored s e.life.index _ x (λ m. m)
stored_before UnlinkEdge o sizes e s x = put_stored s e.life.index _ x (λ m. m)
stored_before StoreFree o sizes e s x = put_stored s e.life.index _ x (λ m. absurd (cc))
stored_before PushFree o sizes e s x = put_stored s e.life.index _ x (λ m. m)
stored_before MarkEdge o sizes e s x = λ m. put_stored s e.life.index (record (s.node e.life.index) { marked = true }) x
    (λ m. m) (handed_stored (marked_state s e.life.index) (s.node e.life.index).source.index x m)
stored_before ReplaceEdge o sizes e s x = λ m. put_stored s e.life.index _ x (λ m. m)
    (put_stored (joined_edge sizes e s) e.old.index (record ((joined_edge sizes e s).node e.old.index)
    { marked = true }) x (λ m. m) (handed_stored (marked_state (joined_edge sizes e s) e.old.index)
    ((joined_edge sizes e s).node e.old.index).source.index x m))
stored_before FreezeEdge o sizes e s x = λ m. put_stored s e.life.index
    (record (s.node e.life.index) { marked = true }) x (λ m. m)
    (handed_stored (marked_state s e.life.index) (s.node e.life.index).source.index x m)
stored_before FreezeHead o sizes e s x = λ m. handed_stored (closed_state s e.life.index) e.life.index x m
stored_before _ o sizes e s x = λ m. m

-- the word at a place of a node is what it was, while the node is in this life and, of its link, while that isn't
-- stored
record WordStays (sizes : Sizes) (x place tag word : ℕ) (s : State) (w : ℕ → ℕ) : Type 0 where
  pub low : tag ≤ (s.node x).tag
  pub fresh : (s.node x).tag ≡ tag → (s.node x).mode ≢ Fresh
  pub word_is : (s.node x).tag ≡ tag → (place ≡ link_at sizes x → (s.node x).stored ≡ false) → w place ≡ word

module _ (sizes : Sizes) (z : IsLayout sizes) (x place tag word : ℕ)
    (at : (place ≡ link_at sizes x) ⊎ (place ≡ second_at sizes x)) (marked : mark_of word ≡ 1) where
  -- an unmarked word isn't the marked one
  not_unmarked : (past : List Event) (e : Event) → mark_of (word_at sizes past e.place) ≡ 0
      → word_at sizes past place ≡ word → place ≢ e.place
  not_unmarked past e live is h = let old : word_at sizes past e.place ≡ word = ap (word_at sizes past) (sym h)
      ∙ is in omega (arith, old, live, marked)

  -- no kind writes the word
  not_written : (past : List Event) (e : Event) (k : Kind) → BeginsNoLife k → AllowedAs k sizes past e
      → word_at sizes past place ≡ word → (node_in sizes past x).mode ≢ Fresh
      → (place ≡ link_at sizes x → ((state_by k sizes e (state sizes past)).node x).stored ≡ false) → place ≢ e.place
  not_written past e PopFree o ok is fresh stored = absurd o
  not_written past e LinkVertex o ok is fresh stored = not_unmarked past e ok.unmarked is
  not_written past e MarkVertex o ok is fresh stored = not_unmarked past e ok.unmarked is
  not_written past e UnlinkVertex o ok is fresh stored = not_unmarked past e ok.unmarked is
  not_written past e LinkEdge o ok is fresh stored = not_unmarked past e ok.unmarked is
  not_written past e MarkEdge o ok is fresh stored = not_unmarked past e ok.unmarked is
  not_written past e UnlinkEdge o ok is fresh stored = not_unmarked past e ok.unmarked is
  not_written past e ReplaceEdge o ok is fresh stored = not_unmarked past e ok.unmarked is
  not_written past e FreezeHead o ok is fresh stored = not_unmarked past e ok.unmarked is
  not_written past e FreezeEdge o ok is fresh stored = not_unmarked past e ok.unmarked is
  not_written past e StorePrivate o ok is fresh stored = λ h. let same : x ≡ e.life.index = omega
      (arith, h, at, ok.place) in fresh (ap (λ (y : ℕ). (node_in sizes past y).mode) same ∙ ok.fresh.fresh)
  not_written past e StoreFree o ok is fresh stored = λ h.
      let same : x ≡ e.life.index = omega (arith, h, at, ok.place) in
      let link : place ≡ link_at sizes x = omega (arith, h, same, ok.place) in
      let t : ((put e.life.index (record (node_in sizes past e.life.index) { stored = true }) (state sizes past).node)
      x).stored ≡ true = ap (λ (y : ℕ). ((put e.life.index
      (record (node_in sizes past e.life.index) { stored = true }) (state sizes past).node) y).stored) same ∙ ap
      (λ (v : Node). v.stored) (put_same e.life.index (record (node_in sizes past e.life.index) { stored = true })
      (state sizes past).node) in
      let u = stored link in absurd (cc)
  not_written past e _ o ok is fresh stored = λ h. omega (arith, at, ok.place, ok.there, h)

  still_step : KeepsByKind sizes (WordStays sizes x place tag word)
  still_step past e kept c PopFree by ok w a =
      let t = taken sizes z past e kept ok in record {
        low = put_case (λ (u : Node). tag ≤ u.tag) e.life.index _ (state sizes past).node x
            (λ same. let n : (node_in sizes past x).tag ≡ (node_in sizes past e.life.index).tag = ap
            (λ (y : ℕ). (node_in sizes past y).tag) same in omega (arith, c.low, n, t.tag)) (λ _. c.low);
        fresh = put_case (λ (u : Node). u.tag ≡ tag → u.mode ≢ Fresh) e.life.index _ (state sizes past).node x
            (λ same h. let n : (node_in sizes past x).tag ≡ (node_in sizes past e.life.index).tag = ap
            (λ (y : ℕ). (node_in sizes past y).tag) same in absurd (omega (arith, c.low, n, t.tag, h))) (λ _. c.fresh);
        word_is = put_case (λ (u : Node). u.tag ≡ tag → (place ≡ link_at sizes x → u.stored ≡ false) → w place ≡ word)
            e.life.index _ (state sizes past).node x
            (λ same h _. let n : (node_in sizes past x).tag ≡ (node_in sizes past e.life.index).tag = ap
            (λ (y : ℕ). (node_in sizes past y).tag) same in absurd (omega (arith, c.low, n, t.tag, h)))
            (λ _ h stored. a.else place (λ p. omega (arith, at, ok.place, p)) ∙ c.word_is h stored);
      }
  still_step past e kept c k by ok w a =
      let same = same_tag k tt sizes e (state sizes past) x in record {
        low = omega (arith, c.low, same);
        fresh = λ h m. c.fresh (sym same ∙ h) (fresh_before k tt sizes e (state sizes past) x m);
        word_is = λ h stored.
            let old : word_at sizes past place ≡ word = c.word_is (sym same ∙ h)
            (λ l. stored_before k tt sizes e (state sizes past) x (stored l)) in
            a.else place (not_written past e k tt ok old (c.fresh (sym same ∙ h)) stored) ∙ old;
      }

-- a marked link of a life stays until it's stored for the free list
pub marked_link_stays : (sizes : Sizes) → IsLayout sizes → (x : ℕ) (front journal : List Event) → IsPrefix front journal
    → IsKept sizes journal → (node_in sizes front x).mode ≢ Fresh → mark_of (word_at sizes front (link_at sizes x)) ≡ 1
    → (node_in sizes journal x).tag ≡ (node_in sizes front x).tag → (node_in sizes journal x).stored ≡ false
    → word_at sizes journal (link_at sizes x) ≡ word_at sizes front (link_at sizes x)
marked_link_stays sizes z x front journal p kept fresh marked tag stored =
    let P = WordStays sizes x (link_at sizes x) (node_in sizes front x).tag (word_at sizes front (link_at sizes x)) in
    (holds_onward sizes P (still_step sizes z x (link_at sizes x) (node_in sizes front x).tag
    (word_at sizes front (link_at sizes x)) (inl refl) marked) front journal p kept record
    { low = omega arith; fresh = λ _. fresh; word_is = λ _ _. refl }).word_is tag (λ _. stored)

-- a closed head of a life stays until the node is taken again
pub marked_head_stays : (sizes : Sizes) → IsLayout sizes → (x : ℕ) (front journal : List Event) → IsPrefix front journal
    → IsKept sizes journal → (node_in sizes front x).mode ≢ Fresh → mark_of
    (word_at sizes front (second_at sizes x)) ≡ 1
    → (node_in sizes journal x).tag ≡ (node_in sizes front x).tag → word_at sizes journal
    (second_at sizes x) ≡ word_at sizes front (second_at sizes x)
marked_head_stays sizes z x front journal p kept fresh marked tag =
    let P =
    WordStays sizes x (second_at sizes x) (node_in sizes front x).tag (word_at sizes front (second_at sizes x)) in
    (holds_onward sizes P (still_step sizes z x (second_at sizes x) (node_in sizes front x).tag
    (word_at sizes front (second_at sizes x)) (inr refl) marked) front journal p kept record
    { low = omega arith; fresh = λ _. fresh; word_is = λ _ _. refl }).word_is tag (λ h. absurd (omega (arith, h)))
