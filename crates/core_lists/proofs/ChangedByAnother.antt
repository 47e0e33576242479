-- A word that a pass may exchange, and that changed without an own event, was changed by a counted event of another.
use Rattle.std.proofs.Common.{◌≡◌, ◌≢◌, ℕ, zero, suc, ◌+◌, ◌<◌, ◌≤◌, true, List, [], ◌∷◌, ◌++◌, Some, length}
use Rattle.std.proofs.Common.{append_assoc, append-nil, take, refl, sym, ap, ◌∙◌, subst, arith}
use Rattle.std.specs.Prelude.{slice_get}
use mathlib.Core.Logic.{dite}
use native.Mathlib.Decide.{ℕ_discrete}
use Rattle.packed_link.specs.Layout.{Sizes, IsLayout, bucket_at, free_at, key_at}
use Rattle.core_journal.specs.declared.event.Kind.{Kind}
use Rattle.core_journal.specs.declared.event.Kind.TheVariants.{DrawNumber, StorePrivate, Announce, Withdraw, MoveEpoch}
use Rattle.core_journal.specs.declared.event.Kind.TheVariants.{StoreFree}
use Rattle.core_journal.specs.declared.event.Event.{Event}
use Rattle.core_journal.specs.Event.{counted}
use Rattle.core_journal.specs.Foreign.{foreign}
use Rattle.core_journal.specs.Machine.{word_at}
use Rattle.core_journal.specs.Prefix.{IsPrefix}
use Rattle.core_journal.specs.Reuse.{pass_in}
use Rattle.core_journal.specs.State.{Pass}
use Rattle.core_journal.proofs.ForeignAddsUp.{one_foreign}
use Rattle.core_journal.proofs.Lists.{get_short, prefix_take}
use Rattle.core_journal.proofs.MachineWords.{word_else}
use Rattle.core_kept.specs.Facts.{HasMet, IsSamePass}
use Rattle.core_kept.specs.Kept.{AllowedAs, IsKept}
use Rattle.core_kept.specs.Nodes.{node_in}
use Rattle.core_kept.proofs.Induction.{kept_front, allowed_at}
use Rattle.core_kept.proofs.MetWords.{ripe_not_met, still_met}
use Rattle.core_kept.proofs.PassBetween.{pass_between}
use Rattle.core_lists.specs.Changed.{IsChangedByAnother, HasNoneAt}

-- an event at a place, behind a front
record IsWrite (rest : List Event) (place : ℕ) : Type 0 where
  pub k : ℕ
  pub event : Event
  pub at : slice_get rest k ≡ Some event
  pub here : event.place ≡ place

written : (sizes : Sizes) (front rest : List Event) (place : ℕ) → word_at sizes
    (front ++ rest) place ≢ word_at sizes front place → IsWrite rest place
written sizes front [] place ne = absurd (ne (ap (λ (j : List Event). word_at sizes j place) (append-nil front)))
written sizes front (e ∷ es) place ne = dite (ℕ_discrete place e.place)
    (λ is. record { k = 0; event = e; at = refl; here = sym is })
    (λ other.
    let w = written sizes (front ++ e ∷ []) es place (λ same. ne
    (ap (λ (j : List Event). word_at sizes j place) (sym (append_assoc front (e ∷ []) es)) ∙
    (same ∙ word_else sizes front e place other))) in
    record { k = suc w.k; event = w.event; at = w.at; here = w.here })

-- an element of the second part of a list
pub get_behind : (xs ys : List Event) (k : ℕ) (e : Event) → slice_get ys k ≡ Some e → slice_get (xs ++ ys)
    (length xs + k) ≡ Some e
get_behind [] ys k e at = let n : length {A = Event} [] + k ≡ k = omega arith in subst
    (λ (i : ℕ). slice_get ys i ≡ Some e) (sym n) at
get_behind (x ∷ xs) ys k e at = let n : length (x ∷ xs) + k ≡ suc (length xs + k) = omega arith in subst
    (λ (i : ℕ). slice_get (x ∷ (xs ++ ys)) i ≡ Some e) (sym n) (get_behind xs ys k e at)

-- a front begins each front that is no shorter
take_longer : (xs ys : List Event) (p : ℕ) → length xs ≤ p → IsPrefix xs (take p (xs ++ ys))
take_longer [] ys p far = record { rest = take p ys; whole = refl }
take_longer (x ∷ xs) ys zero far = absurd (omega arith)
take_longer (x ∷ xs) ys (suc p) far = let h = take_longer xs ys p
    (omega arith) in record { rest = h.rest; whole = ap (λ (l : List Event). x ∷ l) h.whole }

pub front_in : (front journal : List Event) (p : ℕ) → IsPrefix front journal → length front ≤ p → IsPrefix front
    (take p journal)
front_in front journal p q far = subst (λ (j : List Event). IsPrefix front (take p j)) q.whole
    (take_longer front q.rest p far)

module _ (sizes : Sizes) (front journal : List Event) (q : IsPrefix front journal) (kept : IsKept sizes journal)
    (caller place : ℕ) where
  -- where each event at the place is counted, the word was changed by another
  by_another : ((p : ℕ) (e : Event) → length front ≤ p → slice_get journal p ≡ Some e → e.place ≡ place
      → counted e.kind ≡ true) → HasNoneAt front journal caller place
      → word_at sizes journal place ≢ word_at sizes front place → IsChangedByAnother front journal caller place
  by_another counts none ne =
      let h = written sizes front q.rest place (λ same. ne (ap (λ (j : List Event). word_at sizes j place) (sym q.whole)
      ∙ same)) in
      let p = length front + h.k in
      let at : slice_get journal p ≡ Some h.event = subst (λ (j : List Event). slice_get j p ≡ Some h.event) q.whole
      (get_behind front q.rest h.k h.event h.at) in
      let since : length front ≤ p = omega arith in
      record {
        number = p;
        event = h.event;
        since = since;
        until = get_short journal p h.event at;
        at = at;
        here = h.here;
        counts = counts p h.event since at h.here;
        other = λ mine. none.none p h.event since at mine h.here;
      }

-- only taking and giving back write the word of the free list
counts_free : (sizes : Sizes) (past : List Event) (e : Event) (k : Kind) → AllowedAs k sizes past e
    → e.place ≡ free_at sizes → counted k ≡ true
counts_free sizes past e DrawNumber ok here = absurd (omega (arith, here, ok.place))
counts_free sizes past e Announce ok here = absurd (omega (arith, here, ok.place))
counts_free sizes past e Withdraw ok here = absurd (omega (arith, here, ok.place))
counts_free sizes past e MoveEpoch ok here = absurd (omega (arith, here, ok.place))
counts_free sizes past e StorePrivate ok here = absurd (omega (arith, here, ok.place))
counts_free sizes past e StoreFree ok here = absurd (omega (arith, here, ok.place))
counts_free sizes past e _ ok here = refl

-- an event at the word of a bucket is counted
counts_bucket : (sizes : Sizes) (past : List Event) (e : Event) (k : Kind) (j : ℕ) → j < sizes.buckets
    → AllowedAs k sizes past e → e.place ≡ bucket_at sizes j → counted k ≡ true
counts_bucket sizes past e DrawNumber j low ok here = absurd (omega (arith, here, ok.place))
counts_bucket sizes past e Announce j low ok here = absurd (omega (arith, here, ok.place, ok.there))
counts_bucket sizes past e Withdraw j low ok here = absurd (omega (arith, here, ok.place, ok.there))
counts_bucket sizes past e MoveEpoch j low ok here = absurd (omega (arith, here, ok.place))
counts_bucket sizes past e StorePrivate j low ok here = absurd (omega (arith, here, ok.place, low))
counts_bucket sizes past e StoreFree j low ok here = absurd (omega (arith, here, ok.place, low))
counts_bucket sizes past e _ j low ok here = refl

-- an event at a word of a node that is met is counted
counts_node : (sizes : Sizes) → IsLayout sizes → (past : List Event) (e : Event) (k : Kind) → IsKept sizes past →
    (caller x field : ℕ) → field < 4 → HasMet sizes past caller x → AllowedAs k sizes past e
    → e.place ≡ key_at sizes x + field → counted k ≡ true
counts_node sizes z past e DrawNumber kept caller x field low m ok here = absurd (omega (arith, here, ok.place))
counts_node sizes z past e Announce kept caller x field low m ok here = absurd (omega (arith, here, ok.place, ok.there))
counts_node sizes z past e Withdraw kept caller x field low m ok here = absurd (omega (arith, here, ok.place, ok.there))
counts_node sizes z past e MoveEpoch kept caller x field low m ok here = absurd (omega (arith, here, ok.place))
counts_node sizes z past e StorePrivate kept caller x field low m ok here =
    let same : x ≡ e.life.index = omega (arith, here, ok.place, low) in
    absurd (m.fresh (ap (λ (y : ℕ). (node_in sizes past y).mode) same ∙ ok.fresh.fresh))
counts_node sizes z past e StoreFree kept caller x field low m ok here =
    let same : x ≡ e.life.index = omega (arith, here, ok.place, low) in
    absurd (ripe_not_met sizes z past kept e.caller caller e.life.index ok.ripe
    (subst (HasMet sizes past caller) same m))
counts_node sizes z past e _ kept caller x field low m ok here = refl

module _ (sizes : Sizes) (front journal : List Event) (q : IsPrefix front journal) (kept : IsKept sizes journal)
    (caller : ℕ) where
  pub free_changed : HasNoneAt front journal caller (free_at sizes) → word_at sizes journal
      (free_at sizes) ≢ word_at sizes front (free_at sizes) → IsChangedByAnother front journal caller (free_at sizes)
  free_changed = by_another sizes front journal q kept caller (free_at sizes)
      (λ p e since at here. counts_free sizes (take p journal) e e.kind
      (allowed_at sizes journal p e kept at).as_kind here)

  pub bucket_changed : (j : ℕ) → j < sizes.buckets → HasNoneAt front journal caller (bucket_at sizes j)
      → word_at sizes journal (bucket_at sizes j) ≢ word_at sizes front (bucket_at sizes j)
      → IsChangedByAnother front journal caller (bucket_at sizes j)
  bucket_changed j low = by_another sizes front journal q kept caller (bucket_at sizes j)
      (λ p e since at here. counts_bucket sizes (take p journal) e e.kind j low
      (allowed_at sizes journal p e kept at).as_kind here)

  module _ (z : IsLayout sizes) (opened : (pass_in sizes front caller).is_open ≡ true)
      (same : pass_in sizes journal caller ≡ pass_in sizes front caller) where
    -- what the pass had met at the front it has met at each moment since
    pub met_between : (middle : List Event) → IsPrefix front middle → IsPrefix middle journal → (x : ℕ)
        → HasMet sizes front caller x → HasMet sizes middle caller x
    met_between middle p r x m =
        let pass = pass_between sizes caller front middle journal kept p r opened same in
        let within : IsSamePass sizes front middle caller = record {
          before = p;
          open_still = ap (λ (s : Pass). s.is_open) pass ∙ opened;
          since = ap
              (λ (s : Pass). s.since) pass;
        } in
        (still_met sizes z front middle (kept_front sizes middle journal r kept) caller x within m).0

    pub node_changed : (x field : ℕ) → field < 4 → HasMet sizes front caller x → HasNoneAt front journal caller
        (key_at sizes x + field) → word_at sizes journal (key_at sizes x + field) ≢ word_at sizes front
        (key_at sizes x + field) → IsChangedByAnother front journal caller (key_at sizes x + field)
    node_changed x field low m = by_another sizes front journal q kept caller (key_at sizes x + field)
        (λ p e since at here.
        let before = prefix_take journal p in
        counts_node sizes z (take p journal) e e.kind (kept_front sizes (take p journal) journal before kept) caller x
        field low
        (met_between (take p journal) (front_in front journal p q since) before x m)
        (allowed_at sizes journal p e kept at).as_kind here)

-- it's a foreign event
pub change_counts : (front journal : List Event) (caller place : ℕ) → IsChangedByAnother front journal caller place
    → 1 ≤ foreign journal caller (length front) (length journal)
change_counts front journal caller place c = one_foreign journal caller (length front)
    (length journal) c.number c.event c.since c.until c.at c.counts c.other
