-- The free list, change by change.
use Rattle.std.proofs.Common.{◌≡◌, ◌≢◌, ℕ, zero, suc, ◌+◌, ◌-◌, ◌<◌, ◌≤◌, Bool, true, false, cond, List, [], ◌∷◌, drop}
use Rattle.std.proofs.Common.{refl, sym, ap, ◌∙◌, subst, arith, ⊎_elim, eq-eqb, ne_eqb}
use Rattle.std.specs.Prelude.{AllPairs, Contains}
use Rattle.std.specs.List.{range_with_len}
use mathlib.Core.Logic.{dite}
use native.Mathlib.Decide.{ℕ_discrete}
use Rattle.packed_link.specs.Link.{pack, nowhere, index_of, mark_of, tag_of}
use Rattle.core_epoch.specs.Run.{IsRunOf, last_of}
use Rattle.core_epoch.specs.Free.{Pool, Leads, FreeList, IsNewPool, TakesFirst, GivesBack, LeavesFree, Change, take}
use Rattle.core_epoch.specs.Free.{give, leave, IsUnchanged}
use Rattle.core_epoch.proofs.Lists.{contains_first, contains_later, contains_cases, once_first, once_rest, once_more}
use Rattle.core_epoch.proofs.Lists.{range_contains, range_within, range_once}

module _ (nodes : ℕ) where
  -- links that stay lead through the same nodes
  pub leads_kept : (link link' : ℕ → ℕ) (i : ℕ) (xs : List ℕ) → ((x : ℕ) → Contains xs x → link' x ≡ link x)
      → Leads nodes link i xs → Leads nodes link' i xs
  leads_kept link link' i [] same c = c
  leads_kept link link' i (x ∷ xs) same c = (
    c.0,
    c.1,
    subst (λ (v : ℕ). Leads nodes link' (index_of v) xs) (sym (same x (contains_first x x xs refl)))
        (leads_kept link link' (index_of (link x)) xs (λ y at. same y (contains_later y x xs at)) c.2),
  )

  -- the first of the list, where the word leads to a node
  pub first_of_list : (link : ℕ → ℕ) (i : ℕ) (xs : List ℕ) → nodes ≤ nowhere → i < nodes → Leads nodes link i xs
      → xs ≡ i ∷ drop 1 xs
  first_of_list link i [] z t c = absurd (omega (arith, z, c, t))
  first_of_list link i (x ∷ xs) z t c = ap (λ (y : ℕ). y ∷ xs) (sym c.0)

  pub first_of_pool : (pool : Pool) (x : ℕ) → nodes ≤ nowhere → FreeList nodes pool → x < nodes
      → index_of pool.first ≡ x → pool.free ≡ x ∷ drop 1 pool.free
  first_of_pool pool x z f t is = first_of_list pool.link x pool.free z t
      (subst (λ (i : ℕ). Leads nodes pool.link i pool.free) is f.leads)

  -- a node to which the word leads is free
  pub first_is_free : (pool : Pool) (x : ℕ) → nodes ≤ nowhere → FreeList nodes pool → x < nodes
      → index_of pool.first ≡ x → pool.is_free x ≡ true
  first_is_free pool x z f t is = f.only x (subst (λ (xs : List ℕ). Contains xs x) (sym (first_of_pool pool x z f t is))
      (contains_first x x (drop 1 pool.free) refl))

  -- taking the first node
  pub free_taken : (old new : Pool) (x : ℕ) → nodes ≤ nowhere → FreeList nodes old → TakesFirst nodes old new x
      → FreeList nodes new
  free_taken old new x z f s =
      let xs : List ℕ = drop 1 old.free in
      let list : old.free ≡ x ∷ xs = first_of_pool old x z f s.there s.leads in
      let leads : Leads nodes old.link (index_of old.first) (x ∷ xs) = subst
      (λ (ys : List ℕ). Leads nodes old.link (index_of old.first) ys) list f.leads in
      let once : AllPairs ◌≢◌ (x ∷ xs) = subst (λ (ys : List ℕ). AllPairs ◌≢◌ ys) list f.once in
      let only : (y : ℕ) → Contains (x ∷ xs) y → old.is_free y ≡ true = subst
      (λ (ys : List ℕ). (y : ℕ) → Contains ys y → old.is_free y ≡ true) list f.only in
      let all : (y : ℕ) → y < nodes → old.is_free y ≡ true → Contains (x ∷ xs) y = subst
      (λ (ys : List ℕ). (y : ℕ) → y < nodes → old.is_free y ≡ true → Contains ys y) list f.all in
      let to : index_of new.first ≡ index_of (old.link x) = omega (arith, s.word) in
      let after : FreeList nodes (record new { free = xs }) = record {
        leads = subst (λ (i : ℕ). Leads nodes new.link i xs) (sym to)
            (leads_kept old.link new.link (index_of (old.link x)) xs (λ y _. s.others.link y) leads.2);
        tag = omega (arith, s.word, f.tag, s.changes);
        unmarked = omega (arith, s.word);
        once = once_rest x xs once;
        only = λ y at. s.others.is_free y (λ same. once_first x xs once y at (sym same)) ∙ only y
            (contains_later y x xs at);
        all = λ y t m. dite (ℕ_discrete y x)
            (λ same. let u : new.is_free y ≡ false = ap new.is_free same ∙ s.taken in absurd (cc))
            (λ ne. ⊎_elim (λ (same : x ≡ y). absurd (ne (sym same))) (λ (at : Contains xs y). at)
            (contains_cases y x xs (all y t (sym (s.others.is_free y ne) ∙ m))));
      } in
      subst (λ (ys : List ℕ). FreeList nodes (record new { free = ys })) (sym s.list) after

  -- giving a node back
  pub free_given : (old new : Pool) (x : ℕ) → nodes ≤ nowhere → FreeList nodes old → GivesBack nodes old new x
      → FreeList nodes new
  free_given old new x z f s =
      let to : index_of new.first ≡ x = omega (arith, s.word, s.there, z) in
      let next : index_of (new.link x) ≡ index_of old.first = ap index_of (s.others.link x) ∙ s.ready in
      let apart : (y : ℕ) → Contains old.free y → x ≢ y = λ y at same. let t : old.is_free x ≡ true = ap old.is_free
      same ∙ f.only y at in let u = s.used in absurd (cc) in
      let after : FreeList nodes (record new { free = x ∷ old.free }) = record {
        leads = (
          to,
          s.there,
          subst (λ (i : ℕ). Leads nodes new.link i old.free) (sym next)
              (leads_kept old.link new.link (index_of old.first) old.free (λ y _. s.others.link y) f.leads),
        );
        tag = omega (arith, s.word, s.there, z, f.tag, s.changes);
        unmarked = omega (arith, s.word, s.there, z);
        once = once_more x old.free apart f.once;
        only = λ y at. ⊎_elim (λ (same : x ≡ y). ap new.is_free (sym same) ∙ s.given)
            (λ (later : Contains old.free y). s.others.is_free y (λ same. apart y later (sym same)) ∙ f.only y later)
            (contains_cases y x old.free at);
        all = λ y t m. dite (ℕ_discrete y x) (λ same. contains_first y x old.free (sym same))
            (λ ne. contains_later y x old.free (f.all y t (sym (s.others.is_free y ne) ∙ m)));
      } in
      subst (λ (ys : List ℕ). FreeList nodes (record new { free = ys })) (sym s.list) after

  -- neither the word nor a free node is touched
  pub free_left : (old new : Pool) → FreeList nodes old → LeavesFree old new → FreeList nodes new
  free_left old new f s =
      let after : FreeList nodes (record new { free = old.free }) = record {
        leads = subst (λ (i : ℕ). Leads nodes new.link i old.free) (sym (ap index_of s.first))
            (leads_kept old.link new.link (index_of old.first) old.free (λ y at. s.link y (f.only y at)) f.leads);
        tag = ap tag_of s.first ∙ (f.tag ∙ sym s.changes);
        unmarked = ap mark_of s.first ∙ f.unmarked;
        once = f.once;
        only = λ y at. s.is_free y ∙ f.only y at;
        all = λ y t m. f.all y t (sym (s.is_free y) ∙ m);
      } in
      subst (λ (ys : List ℕ). FreeList nodes (record new { free = ys })) (sym s.list) after

  pub free_kept : (old new : Pool) → nodes ≤ nowhere → FreeList nodes old → Change nodes old new → FreeList nodes new
  free_kept old new z f (take x s) = free_taken old new x z f s
  free_kept old new z f (give x s) = free_given old new x z f s
  free_kept old new z f (leave s) = free_left old new f s

  -- at opening the nodes lead to one another
  leads_up : (pool : Pool) → IsNewPool nodes pool → nodes ≤ nowhere → (k n : ℕ) → k + n + 1 ≡ nodes
      → Leads nodes pool.link k (range_with_len k (suc n))
  leads_up pool p z k zero h =
      let word : pool.link k ≡ pack nowhere 1 0 = p.link k (omega (arith, h)) ∙ ap
      (λ (b : Bool). pack (cond b nowhere (k + 1)) 1 0) (eq-eqb (k + 1) nodes (omega (arith, h))) in
      (refl, omega (arith, h), omega (arith, word))
  leads_up pool p z k (suc n) h =
      let word : pool.link k ≡ pack (k + 1) 1 0 = p.link k (omega (arith, h)) ∙ ap
      (λ (b : Bool). pack (cond b nowhere (k + 1)) 1 0) (ne_eqb (k + 1) nodes (λ e. omega (arith, e, h))) in
      let to : k + 1 ≡ index_of (pool.link k) = omega (arith, word, z, h) in (
        refl,
        omega (arith, h),
        subst (λ (i : ℕ). Leads nodes pool.link i (range_with_len (k + 1) (suc n))) to
            (leads_up pool p z (k + 1) n (omega (arith, h))),
      )

  pub free_new : (pool : Pool) → 1 ≤ nodes → nodes ≤ nowhere → IsNewPool nodes pool → FreeList nodes pool
  free_new pool some z p =
      let size : suc (nodes - 1) ≡ nodes = omega (arith, some) in
      let first : 0 ≡ index_of pool.first = omega (arith, p.first) in
      let after : FreeList nodes (record pool { free = range_with_len 0 nodes }) = record {
        leads = subst (λ (m : ℕ). Leads nodes pool.link (index_of pool.first) (range_with_len 0 m)) size
            (subst (λ (i : ℕ). Leads nodes pool.link i (range_with_len 0 (suc (nodes - 1)))) first
            (leads_up pool p z 0 (nodes - 1) (omega (arith, some))));
        tag = omega (arith, p.first, p.changes);
        unmarked = omega (arith, p.first);
        once = range_once 0 nodes;
        only = λ x at. p.is_free x (omega (arith, (range_within 0 nodes x at).1));
        all = λ x t _. range_contains 0 nodes x (omega arith) (omega (arith, t));
      } in
      subst (λ (ys : List ℕ). FreeList nodes (record pool { free = ys })) (sym p.free) after

  module _ (seen next : ℕ) (z : nodes ≤ nowhere) (there : index_of seen < nodes) where
    -- a word that was seen, step by step
    pub unchanged_kept : (old new : Pool) → FreeList nodes old → IsUnchanged seen next old → Change nodes old new
        → IsUnchanged seen next new
    unchanged_kept old new f c (take x s) = record {
      low = omega (arith, c.low, s.changes);
      word = λ h. absurd
          (omega (arith, c.low, s.changes, h));
      link = λ h. absurd (omega (arith, c.low, s.changes, h));
    }
    unchanged_kept old new f c (give x s) = record {
      low = omega (arith, c.low, s.changes);
      word = λ h. absurd
          (omega (arith, c.low, s.changes, h));
      link = λ h. absurd (omega (arith, c.low, s.changes, h));
    }
    unchanged_kept old new f c (leave s) = record {
      low = omega (arith, c.low, s.changes);
      word = λ h. s.first ∙ c.word (sym s.changes ∙ h);
      link = λ h. let is : old.first ≡ seen = c.word (sym s.changes ∙ h) in s.link (index_of seen)
          (first_is_free old (index_of seen) z f there (ap index_of is)) ∙ c.link (sym s.changes ∙ h);
    }

    unchanged_run : (first : Pool) (rest : List Pool) → FreeList nodes first → IsUnchanged seen next first → IsRunOf
        (Change nodes) first rest → FreeList nodes (last_of first rest) × IsUnchanged seen next (last_of first rest)
    unchanged_run first [] f c run = (f, c)
    unchanged_run first (new ∷ rest) f c run = unchanged_run new rest (free_kept first new z f run.0)
        (unchanged_kept first new f c run.0) run.1

  changes_rise : (old new : Pool) → Change nodes old new → old.changes ≤ new.changes
  changes_rise old new (take x s) = omega (arith, s.changes)
  changes_rise old new (give x s) = omega (arith, s.changes)
  changes_rise old new (leave s) = omega (arith, s.changes)

  changes_run : (first : Pool) (rest : List Pool) → IsRunOf (Change nodes) first rest → first.changes ≤
      (last_of first rest).changes
  changes_run first [] run = omega arith
  changes_run first (new ∷ rest) run = omega (arith, changes_rise first new run.0, changes_run new rest run.1)

  -- the word was seen, then the link of its node; where the word is the same again, so is the link
  pub seen_again : (seen next : ℕ) (first : Pool) (between later : List Pool) → nodes ≤ nowhere → index_of seen < nodes
      → FreeList nodes first → first.first ≡ seen
      → IsRunOf (Change nodes) first between → (last_of first between).link (index_of seen) ≡ next
      → IsRunOf (Change nodes) (last_of first between) later → (last_of (last_of first between) later).first ≡ seen
      → (last_of (last_of first between) later).link (index_of seen) ≡ next
  seen_again seen next first between later z there f was run link more is =
      let middle : Pool = last_of first between in
      let last : Pool = last_of middle later in
      let old : ℕ = first.link (index_of seen) in
      let tag : tag_of seen ≡ first.changes = ap tag_of (sym was) ∙ f.tag in
      let start : IsUnchanged seen old first = record { low = omega (arith, tag); word = λ _. was; link = λ _. refl } in
      let mid = unchanged_run seen old z there first between f start run in
      let now = unchanged_run seen old z there middle later mid.0 mid.1 more in
      let end : tag_of seen ≡ last.changes = ap tag_of (sym is) ∙ now.0.tag in
      let same : middle.changes ≡ tag_of seen = omega (arith, mid.1.low, changes_run middle later more, end) in
      now.1.link (sym end) ∙ (sym (mid.1.link same) ∙ link)
