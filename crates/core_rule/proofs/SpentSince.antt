-- The nodes that a token has spent since its pass began are never fewer, one more at each of its unlinks, and at most
-- all.
use Rattle.std.proofs.Common.{◌≡◌, ◌≢◌, ℕ, zero, suc, ◌+◌, ◌<◌, ◌≤◌, ◌&&◌, Bool, true, false, cond, ltb, List, [], ◌∷◌}
use Rattle.std.proofs.Common.{◌++◌, Some, refl, sym, ap, ap₂, ◌∙◌, subst, arith, eqb-true, eq-eqb}
use Rattle.std.proofs.lemmas.Bool.{and_parts, ltb-true, lt-ltb}
use mathlib.Core.Logic.{dite}
use native.Mathlib.Decide.{ℕ_discrete}
use Rattle.std.specs.Prelude.{◌==◌}
use Rattle.packed_link.specs.Layout.{Sizes, IsLayout}
use Rattle.core_journal.specs.Event.{unlinks}
use Rattle.core_journal.specs.declared.event.Kind.{Kind}
use Rattle.core_journal.specs.declared.event.Kind.TheVariants.{Announce, Withdraw, PushFree, UnlinkVertex, UnlinkEdge}
use Rattle.core_journal.specs.declared.event.Event.{Event}
use Rattle.core_journal.specs.Prefix.{IsPrefix}
use Rattle.core_journal.specs.Reuse.{pass_in}
use Rattle.core_journal.specs.State.{Mode, Linked, Spent, Node, Pass}
use Rattle.core_journal.proofs.Lists.{prefix_refl, prefix_snoc, prefix_trans}
use Rattle.core_kept.specs.Counts.{count_below}
use Rattle.core_kept.specs.Facts.{HasMet, IsSamePass}
use Rattle.core_kept.specs.Kept.{Allowed, IsKept}
use Rattle.core_kept.specs.Moments.{is_spent}
use Rattle.core_kept.specs.Nodes.{node_in, IsSpentWith, IsRipe}
use Rattle.core_kept.proofs.Induction.{kept_onward, kept_snoc}
use Rattle.core_kept.proofs.MetWords.{ripe_not_met, still_met}
use Rattle.core_kept.proofs.OwnFacts.{pass_stays}
use Rattle.core_kept.proofs.PassBetween.{pass_between}
use Rattle.core_lists.proofs.EventKeepsRest.{allowed_as, edge_spent, pass_kept, spent_still, vertex_spent}
use Rattle.core_rule.specs.Stretches.{HasPass, is_spent_since, spent_since}
use Rattle.core_rule.specs.Views.{GoesOn, Steps}
use Rattle.core_rule.specs.declared.view.View.{View}
use Rattle.core_rule.proofs.ViewShows.{step_goes_on}

-- numbers that pass a test
one_no_less : (b c : Bool) → (b ≡ true → c ≡ true) → cond b 1 0 ≤ cond c 1 0
one_no_less true c h = subst (λ (d : Bool). 1 ≤ cond d 1 0) (sym (h refl)) (omega arith)
one_no_less false c h = omega arith

count_no_less : (f g : ℕ → Bool) (n : ℕ) → ((x : ℕ) → x < n → f x ≡ true → g x ≡ true)
    → count_below f n ≤ count_below g n
count_no_less f g zero h = omega arith
count_no_less f g (suc n) h = omega (
  arith,
  one_no_less (f n) (g n) (h n (omega arith)),
  count_no_less f g n
      (λ x low. h x (omega (arith, low))),
)

pub count_more : (f g : ℕ → Bool) (n x : ℕ) → x < n → f x ≡ false → g x ≡ true →
    ((y : ℕ) → y < n → f y ≡ true → g y ≡ true) → count_below f n + 1 ≤ count_below g n
count_more f g zero x low fails passes h = absurd (omega (arith, low))
count_more f g (suc n) x low fails passes h = dite (ℕ_discrete x n)
    (λ is.
    let a : ◌≡◌ {A = ℕ} (cond (f n) 1 0) 0 = ap (λ (b : Bool). cond b 1 0) (ap f (sym is) ∙ fails) in
    let b : ◌≡◌ {A = ℕ} (cond (g n) 1 0) 1 = ap (λ (b : Bool). cond b 1 0) (ap g (sym is) ∙ passes) in
    omega (arith, a, b, count_no_less f g n (λ y below. h y (omega (arith, below)))))
    (λ ne. omega (
      arith,
      one_no_less (f n) (g n) (h n (omega arith)),
      count_more f g n x
          (omega (arith, low, ne)) fails passes (λ y below. h y (omega (arith, below))),
    ))

pub count_at_most : (f : ℕ → Bool) (n : ℕ) → count_below f n ≤ n
count_at_most f zero = omega arith
count_at_most f (suc n) = omega (arith, at_most (f n), count_at_most f n)
  where
    at_most : (b : Bool) → cond b 1 0 ≤ 1
    at_most true = omega arith
    at_most false = omega arith

-- what the test of a node says
record IsSpentAfter (n : Node) (caller since : ℕ) : Type 0 where
  pub spent : n.mode ≡ Spent
  pub mine : n.who ≡ caller
  pub later : since < n.ended

after_test : (n : Node) (caller since : ℕ) → is_spent_since n caller since ≡ true → IsSpentAfter n caller since
after_test n caller since h =
    let a = and_parts (is_spent n.mode) ((n.who == caller) && ltb since n.ended) h in
    let b = and_parts (n.who == caller) (ltb since n.ended) a.1 in
    record { spent = by n.mode a.0; mine = eqb-true n.who caller b.0; later = ltb-true since n.ended b.1 }
  where
    by : (m : Mode) → is_spent m ≡ true → m ≡ Spent
    by Spent t = refl
    by _ t = absurd (cc)

test_after : (n : Node) (caller since : ℕ) → IsSpentAfter n caller since → is_spent_since n caller since ≡ true
test_after n caller since h = ap₂ (λ (a b : Bool). a && b) (ap is_spent h.spent)
    (ap₂ (λ (a b : Bool). a && b) (eq-eqb n.who caller h.mine) (lt-ltb since n.ended h.later))

-- a node that the pass has met and that its caller spent is spent with it while the pass is open
module _ (sizes : Sizes) (z : IsLayout sizes) (c x : ℕ) (front : List Event)
    (opened : (pass_in sizes front c).is_open ≡ true) (m : HasMet sizes front c x)
    (f : IsSpentWith sizes front c x) where
  same_from : (journal : List Event) → IsPrefix front journal → pass_in sizes journal c ≡ pass_in sizes front c
      → IsSamePass sizes front journal c
  same_from journal p same = record {
    before = p;
    open_still = ap (λ (q : Pass). q.is_open) same ∙ opened;
    since = ap
        (λ (q : Pass). q.since) same;
  }

  abbrev SpentInPass : List Event → Type 0
  SpentInPass j = IsPrefix front j × (pass_in sizes j c ≡ pass_in sizes front c → IsSpentWith sizes j c x)

  on_step : (past : List Event) (e : Event) → IsKept sizes past → SpentInPass past → Allowed sizes past e → SpentInPass
      (past ++ e ∷ [])
  on_step past e kept h ok =
      let now = kept_snoc sizes past e kept ok in (
        prefix_trans front past (past ++ e ∷ []) h.0 (prefix_snoc past e),
        λ same.
            let was = pass_between sizes c front past (past ++ e ∷ []) now h.0 (prefix_snoc past e) opened same in
            let met = (still_met sizes z front past kept c x (same_from past h.0 was) m).0 in
            (spent_still sizes past e now z c x
            (λ is at. ripe_not_met sizes z past kept e.caller c x
            (subst (λ (i : ℕ). IsRipe sizes past e.caller i) at (allowed_as sizes past e now PushFree is).ripe) met)
            (h.1 was)).0,
      )

  pub spent_on : (journal : List Event) → IsPrefix front journal → IsKept sizes journal
      → pass_in sizes journal c ≡ pass_in sizes front c → IsSpentWith sizes journal c x
  spent_on journal p kept same = (kept_onward sizes SpentInPass on_step front journal p kept
      (prefix_refl front, λ _. f)).1
      same

  spent_after : (journal : List Event) → IsPrefix front journal → IsKept sizes journal
      → pass_in sizes journal c ≡ pass_in sizes front c → IsSpentAfter (node_in sizes journal x) c
      (pass_in sizes journal c).since
  spent_after journal p kept same =
      let s = spent_on journal p kept same in
      record {
        spent = s.spent;
        mine = s.mine;
        later = (still_met sizes z front journal kept c x
            (same_from journal p same) m).0.spent s.spent;
      }

-- what the test of a node says of the pass
met_after : (v : View) (x : ℕ) → HasPass v → IsSpentAfter (node_in v.sizes v.front x) v.number
    (pass_in v.sizes v.front v.number).since → HasMet v.sizes v.front v.number x
met_after v x opened h = record {
  pass = opened;
  free = λ e. let s = h.spent in absurd
      (cc);
  fresh = λ e. let s = h.spent in absurd (cc);
  spent = λ _. h.later;
}

-- whether a node of a view was spent since the pass began
abbrev pub counts : View → ℕ → Bool
counts v x = is_spent_since (node_in v.sizes v.front x) v.number (pass_in v.sizes v.front v.number).since

pub spent_since_bound : (v : View) → spent_since v ≤ v.sizes.nodes
spent_since_bound v = count_at_most (counts v) v.sizes.nodes

module _ (v w : View) (z : IsLayout v.sizes) (g : GoesOn v w) (opened : HasPass v) where
  still_counts : (x : ℕ) → counts v x ≡ true → counts w x ≡ true
  still_counts x h =
      let t = after_test (node_in v.sizes v.front x) v.number (pass_in v.sizes v.front v.number).since h in
      let s = spent_after v.sizes z v.number x v.front opened
      (met_after v x opened t) record { spent = t.spent; mine = t.mine } w.front g.grows g.kept g.pass in
      subst (λ (u : View). counts u x ≡ true) (sym g.view) (test_after (node_in v.sizes w.front x) v.number
      (pass_in v.sizes w.front v.number).since s)

  same_nodes : count_below (counts w) w.sizes.nodes ≡ count_below (counts w) v.sizes.nodes
  same_nodes = ap (λ (u : View). count_below (counts w) u.sizes.nodes) g.view

  pub spent_since_grows : spent_since v ≤ spent_since w
  spent_since_grows = omega (
    arith,
    same_nodes,
    count_no_less (counts v) (counts w) v.sizes.nodes
        (λ x low h. still_counts x h),
  )

  pub spent_since_one : (x : ℕ) → x < v.sizes.nodes → counts v x ≡ false → counts w x ≡ true
      → spent_since v + 1 ≤ spent_since w
  spent_since_one x there old new = omega (
    arith,
    same_nodes,
    count_more (counts v)
        (counts w) v.sizes.nodes x there old new (λ y low h. still_counts y h),
  )

-- an own unlink
module _ (v w : View) (e : Event) (z : IsLayout v.sizes) (t : Steps v (Some e) w) (by : e.caller ≡ v.number)
    (opened : HasPass v) where
  kept_end : IsKept v.sizes (t.grown ++ e ∷ [])
  kept_end = subst (IsKept v.sizes) t.front t.kept

  pass_grown : pass_in v.sizes t.grown v.number ≡ pass_in v.sizes v.front v.number
  pass_grown = pass_stays v.sizes v.number v.last v.front t.grown t.reaches.front t.reaches.kept t.reaches.quiet
      t.reaches.old

  -- the node was linked before the event, and so it wasn't counted
  not_counted : (node_in v.sizes t.grown e.life.index).mode ≡ Linked → counts v e.life.index ≡ false
  not_counted linked = by_test (counts v e.life.index) refl
    where
      by_test : (b : Bool) → counts v e.life.index ≡ b → b ≡ false
      by_test false is = refl
      by_test true is =
          let i = e.life.index in
          let h = after_test (node_in v.sizes v.front i) v.number (pass_in v.sizes v.front v.number).since is in
          let s = spent_on v.sizes z v.number i v.front opened
          (met_after v i opened h) record { spent = h.spent; mine = h.mine } t.grown t.reaches.front t.reaches.kept
          pass_grown in
          let m = s.spent in absurd (cc)

  now_counted : (node_in v.sizes t.grown e.life.index).mode ≡ Linked → IsSpentWith v.sizes
      (t.grown ++ e ∷ []) e.caller e.life.index → pass_in v.sizes
      (t.grown ++ e ∷ []) v.number ≡ pass_in v.sizes t.grown v.number → counts w e.life.index ≡ true
  now_counted linked f same =
      let i = e.life.index in
      let o : (pass_in v.sizes t.grown v.number).is_open ≡ true = ap (λ (q : Pass). q.is_open) pass_grown ∙ opened in
      let m : HasMet v.sizes t.grown v.number i = record {
        pass = o;
        free = λ h. absurd (cc);
        fresh = λ h. absurd
            (cc);
        spent = λ h. absurd (cc);
      } in
      let p : IsSamePass v.sizes t.grown (t.grown ++ e ∷ []) v.number = record {
        before = prefix_snoc t.grown e;
        open_still = ap (λ (q : Pass). q.is_open) same ∙ o;
        since = ap
            (λ (q : Pass). q.since) same;
      } in
      let later = (still_met v.sizes z t.grown (t.grown ++ e ∷ []) kept_end v.number i p m).0.spent f.spent in
      let h : counts (record v { front = t.grown ++ e ∷ [] }) i ≡ true = test_after
      (node_in v.sizes (t.grown ++ e ∷ []) i) v.number (pass_in v.sizes (t.grown ++ e ∷ []) v.number).since record
      { spent = f.spent; mine = f.mine ∙ by; later = later } in
      subst (λ (u : View). counts u i ≡ true) (sym t.view) (subst
      (λ (j : List Event). counts (record v { front = j }) i ≡ true) (sym t.front) h)

  pub unlink_counts : unlinks e.kind ≡ true → spent_since v + 1 ≤ spent_since w
  unlink_counts is = by_kind e.kind refl is
    where
      on : e.kind ≢ Announce → e.kind ≢ Withdraw → GoesOn v w
      on a b = step_goes_on v w (Some e) t (a, b)

      by_kind : (k : Kind) → e.kind ≡ k → unlinks k ≡ true → spent_since v + 1 ≤ spent_since w
      by_kind UnlinkVertex k u =
          let ok = allowed_as v.sizes t.grown e kept_end UnlinkVertex k in
          let s = (vertex_spent v.sizes t.grown e kept_end z k).0 in
          let same = pass_kept v.sizes t.grown e kept_end (λ h. absurd (cc)) (λ h. absurd (cc)) v.number in
          spent_since_one v w z (on (λ h. absurd (cc)) (λ h. absurd (cc))) opened e.life.index ok.there
          (not_counted ok.linked.linked) (now_counted ok.linked.linked record { spent = s.spent; mine = s.mine }
          same)
      by_kind UnlinkEdge k u =
          let ok = allowed_as v.sizes t.grown e kept_end UnlinkEdge k in
          let s = (edge_spent v.sizes t.grown e kept_end k).0 in
          let same = pass_kept v.sizes t.grown e kept_end (λ h. absurd (cc)) (λ h. absurd (cc)) v.number in
          spent_since_one v w z (on (λ h. absurd (cc)) (λ h. absurd (cc))) opened e.life.index ok.there
          (not_counted ok.linked.linked) (now_counted ok.linked.linked s same)
      by_kind _ k u = absurd (cc)
