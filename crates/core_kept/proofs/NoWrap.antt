-- No number of the table wraps: each caller makes only so many events of three kinds, and there are few callers.
use Rattle.std.proofs.Common.{◌≡◌, ◌≢◌, ℕ, zero, suc, ◌+◌, ◌*◌, ◌<◌, ◌≤◌, Bool, true, false, cond, ◌&&◌, eqb, List, []}
use Rattle.std.proofs.Common.{◌∷◌, ◌++◌, length, filter, refl, sym, ap, ◌∙◌, subst, arith, eq-eqb, ne_eqb}
use Rattle.std.specs.Prelude.{AllPairs, drop, get_or}
use Rattle.std.specs.List.{IsDistinct, list_any}
use Rattle.std.proofs.lemmas.Map.Keys.{IsDistinct-from_apart}
use Rattle.std.proofs.lemmas.Map.Steps.{length-le_from_distinct_below}
use Rattle.std.proofs.lemmas.List.FromFn.{length-range_with_len}
use mathlib.Core.Logic.{dite}
use native.Mathlib.Decide.{ℕ_discrete}
use Rattle.packed_link.specs.Link.{index_of}
use Rattle.packed_link.specs.Layout.{Sizes, IsLayout, free_at}
use Rattle.packed_link.specs.declared.link.Life.{Life}
use Rattle.core_epoch.specs.Free.{Leads, FreeList}
use Rattle.core_epoch.proofs.FreeList.{first_of_pool}
use Rattle.core_journal.specs.declared.event.Kind.{Kind}
use Rattle.core_journal.specs.declared.event.Kind.TheVariants.{PopFree, Raise, MoveEpoch}
use Rattle.core_journal.specs.declared.event.Event.{Event}
use Rattle.core_journal.specs.Event.{same_life, pops, raises, moves}
use Rattle.core_journal.specs.Machine.{word_at}
use Rattle.core_journal.specs.State.{Node, State, without_first, state}
use Rattle.core_journal.proofs.States.{state-snoc}
use Rattle.core_kept.specs.Counts.{all_made, made, about, most_pops, most_raises, most_moves}
use Rattle.core_kept.specs.Kept.{Allowed, AllowedAs, IsKept}
use Rattle.core_kept.specs.Free.{pool_in}
use Rattle.core_kept.specs.Facts.{Bounds}
use Rattle.core_kept.proofs.Induction.{kept_all, kept_snoc}
use Rattle.core_kept.proofs.ByKind.{KeepsIn, put_case, all_in}
use Rattle.core_kept.proofs.FirstWords.{numbers}
use Rattle.core_kept.proofs.FreeList.{free_list, few_nodes, behind_is}
use Rattle.core_kept.proofs.LinkWords.{taken}
use Rattle.core_kept.proofs.PastLives.{count_snoc, same_tag, counters}
use Rattle.core_kept.proofs.Callers.{called_by, made_other}

all_other : (test : Kind → Bool) (past : List Event) (e : Event) → test e.kind ≡ false → all_made test
    (past ++ e ∷ []) ≡ all_made test past
all_other test past e is = count_snoc (λ (d : Event). test d.kind) past e ∙
    (ap (λ (b : Bool). all_made test past + cond b 1 0) is ∙ omega arith)

all_this : (test : Kind → Bool) (past : List Event) (e : Event) → test e.kind ≡ true → all_made test
    (past ++ e ∷ []) ≡ all_made test past + 1
all_this test past e is = count_snoc (λ (d : Event). test d.kind) past e ∙ ap
    (λ (b : Bool). all_made test past + cond b 1 0) is

made_same : (test : Kind → Bool) (caller : ℕ) (past : List Event) (e : Event) → e.caller ≡ caller → made test caller
    (past ++ e ∷ []) ≡ made test caller past + cond (test e.kind) 1 0
made_same test caller past e is = by (test e.kind) (count_snoc
    (λ (d : Event). test d.kind && eqb d.caller caller) past e)
  where
    by : (b : Bool) → made test caller (past ++ e ∷ []) ≡ made test caller past + cond (b && eqb e.caller caller) 1 0
        → made test caller (past ++ e ∷ []) ≡ made test caller past + cond b 1 0
    by true h = h ∙ ap (λ (c : Bool). made test caller past + cond c 1 0) (eq-eqb e.caller caller is)
    by false h = h

about_all : (test : Kind → Bool) (x : Life) (journal : List Event) → about test x journal ≤ all_made test journal
about_all test x [] = omega arith
about_all test x (e ∷ es) = by (test e.kind) (same_life x e.life) (about_all test x es)
  where
    by : (b c : Bool) → about test x es ≤ all_made test es → length
        (cond (b && c) (e ∷ filter (λ (d : Event). test d.kind && same_life x d.life) es)
        (filter (λ (d : Event). test d.kind && same_life x d.life) es)) ≤ length
        (cond b (e ∷ filter (λ (d : Event). test d.kind) es) (filter (λ (d : Event). test d.kind) es))
    by true true h = omega (arith, h)
    by true false h = omega (arith, h)
    by false c h = h

-- the events of the callers below a number
abbrev below : (Kind → Bool) → ℕ → List Event → ℕ
below test zero journal = 0
below test (suc n) journal = made test n journal + below test n journal

made_more : (test : Kind → Bool) (caller : ℕ) (past : List Event) (e : Event) → made test caller past ≤ made test caller
    (past ++ e ∷ [])
made_more test caller past e = omega (arith, count_snoc (λ (d : Event). test d.kind && eqb d.caller caller) past e)

below_more : (test : Kind → Bool) (n : ℕ) (past : List Event) (e : Event) → below test n past ≤ below test n
    (past ++ e ∷ [])
below_more test zero past e = omega arith
below_more test (suc n) past e = omega (arith, made_more test n past e, below_more test n past e)

below_this : (test : Kind → Bool) (n : ℕ) (past : List Event) (e : Event) → e.caller < n → below test n past + cond
    (test e.kind) 1 0 ≤ below test n (past ++ e ∷ [])
below_this test zero past e h = absurd (omega (arith, h))
below_this test (suc n) past e h = dite (ℕ_discrete e.caller n)
    (λ same. omega (arith, made_same test n past e same, below_more test n past e))
    (λ ne. omega (arith, made_more test n past e, below_this test n past e (omega (arith, h, ne))))

below_most : (test : Kind → Bool) (n most : ℕ) (journal : List Event) → ((i : ℕ) → made test i journal ≤ most)
    → below test n journal ≤ n * most
below_most test zero most journal h = omega arith
below_most test (suc n) most journal h = let q : suc n * most ≡ most + n * most = times n most in omega
    (arith, h n, below_most test n most journal h, q)
  where
    times : (n most : ℕ) → suc n * most ≡ most + n * most
    times n most = omega arith

-- the caller of an allowed event is one of the callers
caller_there : (sizes : Sizes) (past : List Event) (e : Event) → IsKept sizes past → Allowed sizes past e
    → e.caller < sizes.callers
caller_there sizes past e kept ok =
    let room = (numbers sizes (past ++ e ∷ []) (kept_snoc sizes past e kept ok)).room in
    let drawn = ap (λ (s : State). s.drawn) (state-snoc sizes past e) in
    omega (arith, called_by e.kind sizes past e ok.by ok.as_kind, drawn, room)

-- all events are those of the callers
all_below : (sizes : Sizes) (test : Kind → Bool) (journal : List Event) → IsKept sizes journal
    → all_made test journal ≤ below test sizes.callers journal
all_below sizes test journal kept = kept_all sizes (λ (j : List Event). all_made test j ≤ below test sizes.callers j)
    (λ past e k h ok. omega (
      arith,
      count_snoc (λ (d : Event). test d.kind) past e,
      below_this test sizes.callers past e
          (caller_there sizes past e k ok),
      h,
    ))
    (omega arith) journal kept

-- where each caller makes at most so many
pub all_few : (sizes : Sizes) (test : Kind → Bool) (most : ℕ) (journal : List Event) → IsKept sizes journal →
    ((i : ℕ) → made test i journal ≤ most) → all_made test journal ≤ sizes.callers * most
all_few sizes test most journal kept few = omega (
  arith,
  all_below sizes test journal kept,
  below_most test
      sizes.callers most journal few,
)

module _ (sizes : Sizes) (test : Kind → Bool) (most : ℕ) (limit : (past : List Event) (e : Event) (k : Kind)
    → AllowedAs k sizes past e → test k ≡ true → made test e.caller past < most) where
  -- no caller makes more than that many
  pub made_most : (journal : List Event) → IsKept sizes journal → (i : ℕ) → made test i journal ≤ most
  made_most journal kept = kept_all sizes (λ (j : List Event). (i : ℕ) → made test i j ≤ most)
      (λ past e _ h ok i. dite (ℕ_discrete e.caller i)
      (λ same. by past e i same (test e.kind) refl (h i) ok)
      (λ ne. omega (arith, made_other test i past e ne, h i)))
      (λ i. omega arith) journal kept
    where
      by : (past : List Event) (e : Event) (i : ℕ) → e.caller ≡ i → (b : Bool) → test e.kind ≡ b
          → made test i past ≤ most → Allowed sizes past e → made test i (past ++ e ∷ []) ≤ most
      by past e i same true is h ok = let low : made test i past < most = subst
          (λ (c : ℕ). made test c past < most) same (limit past e e.kind ok.as_kind is) in omega
          (arith, made_same test i past e same ∙ ap (λ (b : Bool). made test i past + cond b 1 0) is, low)
      by past e i same false is h ok = omega (
        arith,
        made_same test i past e same ∙ ap
            (λ (b : Bool). made test i past + cond b 1 0) is,
        h,
      )

  -- all callers make at most that many each
  all_most : (journal : List Event) → IsKept sizes journal → all_made test journal ≤ sizes.callers * most
  all_most journal kept = all_few sizes test most journal kept (made_most journal kept)

pub pop_limit : (sizes : Sizes) (past : List Event) (e : Event) (k : Kind) → AllowedAs k sizes past e → pops k ≡ true
    → made pops e.caller past < most_pops
pop_limit sizes past e PopFree ok is = ok.limit
pop_limit sizes past e _ ok is = absurd (cc)

raise_limit : (sizes : Sizes) (past : List Event) (e : Event) (k : Kind) → AllowedAs k sizes past e → raises k ≡ true
    → made raises e.caller past < most_raises
raise_limit sizes past e Raise ok is = ok.limit
raise_limit sizes past e _ ok is = absurd (cc)

move_limit : (sizes : Sizes) (past : List Event) (e : Event) (k : Kind) → AllowedAs k sizes past e → moves k ≡ true
    → made moves e.caller past < most_moves
move_limit sizes past e MoveEpoch ok is = ok.limit
move_limit sizes past e _ ok is = absurd (cc)

-- the changes of the free list against its length, the lives of nodes, and the epoch, by the numbers of events
record IsBalanced (sizes : Sizes) (journal : List Event) (s : State) : Type 0 where
  pub free : s.changes + sizes.nodes ≡ 2 * all_made pops journal + length s.free
  pub tag : (x : ℕ) → (s.node x).tag ≤ all_made pops journal
  pub epoch : s.epoch ≡ all_made moves journal

balance_step : (sizes : Sizes) → IsLayout sizes → KeepsIn sizes
    (λ (j : List Event) (s : State) (w : ℕ → ℕ). IsBalanced sizes j s)
balance_step sizes z past e kept c PopFree is ok w a =
    let s : State = state sizes past in
    let list : s.free ≡ e.life.index ∷ drop 1 s.free = first_of_pool sizes.nodes (pool_in sizes past) e.life.index
    (few_nodes sizes z) (free_list sizes z past kept) ok.there ok.seen in
    let size : length s.free ≡ length (without_first s.free) + 1 = ap length list ∙
    (ap (λ (xs : List ℕ). length (e.life.index ∷ xs)) (sym (behind_is s.free)) ∙ omega arith) in
    let more = all_this pops past e (ap pops is) in
    record {
      free = omega (arith, c.free, size, more);
      tag = λ x. put_case (λ (v : Node). v.tag ≤ all_made pops (past ++ e ∷ [])) e.life.index _ s.node x
          (λ _. omega (arith, (taken sizes z past e kept ok).tag, c.tag e.life.index, more))
          (λ _. omega (arith, c.tag x, more));
      epoch = c.epoch ∙ sym (all_other moves past e (ap moves is));
    }
balance_step sizes z past e kept c MoveEpoch is ok w a =
    let same = all_other pops past e (ap pops is) in
    record {
      free = omega (arith, c.free, same);
      tag = λ x. omega (arith, c.tag x, same);
      epoch = omega
          (arith, c.epoch, all_this moves past e (ap moves is));
    }
balance_step sizes z past e kept c k is ok w a =
    let same = all_other pops past e (ap pops is) in
    record {
      free = omega (arith, c.free, same);
      tag = λ x. omega (arith, same_tag k tt sizes e (state sizes past) x, c.tag x, same);
      epoch = c.epoch ∙ sym (all_other moves past e (ap moves is));
    }

balanced : (sizes : Sizes) → IsLayout sizes → (journal : List Event) → IsKept sizes journal → IsBalanced sizes journal
    (state sizes journal)
balanced sizes z journal kept = all_in sizes (λ (j : List Event) (s : State) (w : ℕ → ℕ). IsBalanced sizes j s)
    (balance_step sizes z)
    (record { free = omega (arith, length-range_with_len 0 sizes.nodes); tag = λ x. omega arith; epoch = refl }) journal
    kept

once_distinct : (xs : List ℕ) → AllPairs ◌≢◌ xs → IsDistinct eqb xs
unfolding IsDistinct
once_distinct xs once = IsDistinct-from_apart eqb xs (λ i j d low high. ne_eqb (get_or xs i d) (get_or xs j d)
    (once i j d low high))

leads_below : (nodes : ℕ) (link : ℕ → ℕ) (i : ℕ) (xs : List ℕ) → Leads nodes link i xs → (q : ℕ) → list_any
    (eqb q) xs ≡ true → q < nodes
leads_below nodes link i [] c q h = absurd (cc)
leads_below nodes link i (x ∷ xs) c q h = dite (ℕ_discrete q x)
    (λ same. let t = c.1 in omega (arith, t, same))
    (λ ne. leads_below nodes link (index_of (link x)) xs c.2 q
    (let e : eqb q x ≡ false = ne_eqb q x ne in grind (arith, e, h)))

-- the numbers of a kept journal
pub bounds : (sizes : Sizes) → IsLayout sizes → (journal : List Event) → IsKept sizes journal → Bounds sizes
    (state sizes journal) (word_at sizes journal)
bounds sizes z journal kept =
    let s : State = state sizes journal in
    let f : FreeList sizes.nodes (pool_in sizes journal) = free_list sizes z journal kept in
    let few : length s.free ≤ sizes.nodes = length-le_from_distinct_below s.free sizes.nodes
    (once_distinct s.free f.once) (leads_below sizes.nodes (pool_in sizes journal).link
    (index_of (word_at sizes journal (free_at sizes))) s.free f.leads) in
    let b = balanced sizes z journal kept in
    let p = all_most sizes pops most_pops (pop_limit sizes) journal kept in
    let r = all_most sizes raises most_raises (raise_limit sizes) journal kept in
    let m = all_most sizes moves most_moves (move_limit sizes) journal kept in
    record {
      changes = omega (arith, b.free, few, p, z.few_callers);
      lives = λ x. omega (arith, b.tag x, p, z.few_callers);
      epoch = omega (arith, b.epoch, m, z.few_callers);
      counters = λ x t u v. let c = ((counters sizes z journal kept).each x t).third u v in omega
          (arith, c, about_all raises (record { index = x; tag = (s.node x).tag }) journal, r, z.few_callers);
    }
