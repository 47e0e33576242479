-- From a node that an open pass has met, linked or spent, a word leads to what the pass has met.
use Rattle.std.proofs.Common.{◌≡◌, ◌≢◌, ◌⊎◌, ℕ, ◌%◌, ◌<◌, true, false, List, [], ◌∷◌, ◌++◌, refl, sym, ap, ◌∙◌, subst}
use Rattle.std.proofs.Common.{arith, ⊎_elim, inl, inr}
use Rattle.packed_link.specs.Link.{index_of, mark_of, mark_bit}
use Rattle.packed_link.specs.Layout.{Sizes, IsLayout, bucket_at, link_at, second_at}
use Rattle.core_journal.specs.declared.event.Event.{Event}
use Rattle.core_journal.specs.Machine.{word_at}
use Rattle.core_journal.specs.Reuse.{pass_in}
use Rattle.core_journal.specs.State.{Mode, Free, Fresh, Linked, Spent, Node, State, state}
use Rattle.core_journal.proofs.Lists.{prefix_snoc}
use Rattle.core_journal.proofs.States.{state-nil}
use Rattle.core_kept.specs.Facts.{HasMet, IsSamePass}
use Rattle.core_kept.specs.Kept.{Allowed, IsKept}
use Rattle.core_kept.specs.Nodes.{node_in, IsUsed, IsRipe}
use Rattle.core_lists.specs.Walks.{LeadsTo, IsMetBehind, IsMetIn, IsMetFirst}
use Rattle.core_kept.proofs.Induction.{kept_all, kept_front, kept_snoc}
use Rattle.core_lists.proofs.LinkedWordsLead.{IsLinkedBehind, IsLinkedIn, IsLinkedFirst, leads_same, bucket_leads}
use Rattle.core_lists.proofs.LinkedWordsLead.{head_leads}
use Rattle.core_kept.proofs.LinkWords.{link_words, used_link}
use Rattle.core_kept.proofs.MarkedWords.{marked_link_stays, marked_head_stays}
use Rattle.core_kept.proofs.MetWords.{met_used, ripe_not_met, still_met, key_stays}
use Rattle.core_kept.proofs.ModeSteps.{ModeStep, stays, spends, swaps, links, takes, frees, IsGoingOn, IsBeginning}
use Rattle.core_kept.proofs.ModeSteps.{turn, closing, stored_was, pass_was}
use Rattle.core_kept.proofs.Contents.{contents}
use Rattle.core_kept.proofs.ReplaceCases.{leads_new, marks_old, new_after}
use Rattle.core_kept.proofs.Ripe.{ended}
use Rattle.core_lists.proofs.SpentWordsLead.{unclosed, linked_leads, head_marked}
use Rattle.core_kept.proofs.NodesOnLists.{yes_no}

module _ (sizes : Sizes) (journal : List Event) (i : ℕ) (open_ : (pass_in sizes journal i).is_open ≡ true) where
  -- an open pass has met each linked node
  pub linked_met : (x : ℕ) → (node_in sizes journal x).mode ≡ Linked → HasMet sizes journal i x
  linked_met x linked = record {
    pass = open_;
    free = λ h. absurd (cc);
    fresh = λ h. absurd (cc);
    spent = λ h. absurd
        (cc);
  }

  met_behind : (x y : ℕ) → IsLinkedBehind sizes journal x y → IsMetBehind sizes journal i x y
  met_behind x y d = record {
    there = d.there;
    met = linked_met y d.linked;
    kind = d.kind;
    rising = d.rising;
    strictly =
        d.strictly;
    bucket = d.bucket;
    source = d.source;
  }

  met_inside : (x y : ℕ) → IsLinkedIn sizes journal x y → IsMetIn sizes journal i x y
  met_inside x y d = record { there = d.there; met = linked_met y d.linked; edge = d.edge; source = d.source }

  met_first : (j y : ℕ) → IsLinkedFirst sizes journal j y → IsMetFirst sizes journal i j y
  met_first j y d = record { there = d.there; met = linked_met y d.linked; vertex = d.vertex; bucket = d.bucket }

-- a spent node that a pass has met was met by this pass before an event
pub record IsMetBefore (sizes : Sizes) (past journal : List Event) (i x : ℕ) : Type 0 where
  pub same : IsSamePass sizes past journal i
  pub met : HasMet sizes past i x

pub met_before : (sizes : Sizes) (z : IsLayout sizes) (past : List Event) (e : Event) (kept : IsKept sizes past)
    → Allowed sizes past e → (i x : ℕ) → HasMet sizes (past ++ e ∷ []) i x →
    (node_in sizes (past ++ e ∷ []) x).mode ≡ Spent → IsMetBefore sizes past (past ++ e ∷ []) i x
met_before sizes z past e kept ok i x m spent = ⊎_elim
    (λ (g : IsGoingOn sizes past (state sizes (past ++ e ∷ [])) i). record {
      same = record { before = prefix_snoc past e; open_still = m.pass; since = g.since };
      met = by g (turn sizes z past e kept ok x);
    })
    (λ (b : IsBeginning sizes past (state sizes (past ++ e ∷ [])) i). absurd
    (omega (
      arith,
      b.since,
      ap (λ (v : Node). v.ended) (b.nodes x),
      m.spent spent,
      (ended sizes past kept).ended x,
    )))
    (pass_was sizes z past e kept ok i m.pass)
  where
    by : IsGoingOn sizes past (state sizes (past ++ e ∷ [])) i → ModeStep sizes past e
        (word_at sizes (past ++ e ∷ [])) x (node_in sizes (past ++ e ∷ []) x) → HasMet sizes past i x
    by g (stays h q _ _) =
        let was : (node_in sizes past x).mode ≡ Spent = sym h ∙ spent in
        record {
          pass = g.open_before;
          free = λ f. absurd (cc);
          fresh = λ f. absurd (cc);
          spent = λ _. omega
              (arith, m.spent spent, q, g.since);
        }
    by g (spends h _ _ _) = linked_met sizes past i g.open_before x h
    by g (swaps _ _ _ h _ _ _) = linked_met sizes past i g.open_before x h
    by g (links _ h) = absurd (cc)
    by g (takes _ h) = absurd (cc)
    by g (frees _ h) = absurd (cc)

-- no node that an open pass has met is stored for the free list
abbrev NoneMetIsStored : Sizes → List Event → Type 0
NoneMetIsStored sizes journal = (i x : ℕ) → x < sizes.nodes → HasMet sizes journal i x →
    (node_in sizes journal x).mode ≡ Spent → (node_in sizes journal x).stored ≡ false

unstored_step : (sizes : Sizes) → IsLayout sizes → (past : List Event) (e : Event) → IsKept sizes past
    → NoneMetIsStored sizes past → Allowed sizes past e → NoneMetIsStored sizes (past ++ e ∷ [])
unstored_step sizes z past e kept c ok i x within m spent = yes_no ((node_in sizes (past ++ e ∷ []) x).stored ≡ false)
    (node_in sizes (past ++ e ∷ []) x).stored
    (λ h.
    let b = met_before sizes z past e kept ok i x m spent in
    ⊎_elim
    (λ (old : (node_in sizes past x).stored ≡ true). absurd (by b old (turn sizes z past e kept ok x)))
    (λ (r : IsRipe sizes past e.caller x). absurd (ripe_not_met sizes z past kept e.caller i x r b.met))
    (stored_was sizes z past e kept ok x h))
    (λ h. h)
  where
    by : IsMetBefore sizes past (past ++ e ∷ []) i x → (node_in sizes past x).stored ≡ true → ModeStep sizes past e
        (word_at sizes (past ++ e ∷ [])) x (node_in sizes (past ++ e ∷ []) x) → ⊥
    by b old (stays h _ _ _) = let f = c i x within b.met (sym h ∙ spent) in absurd (cc)
    by b old (spends h _ _ _) = let f = ((link_words sizes z past kept).each x within).unstored h in absurd (cc)
    by b old (swaps _ _ _ h _ _ _) = let f = ((link_words sizes z past kept).each x within).unstored h in absurd (cc)
    by b old (links _ h) = absurd (cc)
    by b old (takes _ h) = absurd (cc)
    by b old (frees _ h) = absurd (cc)

-- at opening no node is spent
unspent : (sizes : Sizes) {P : Type 0} (x : ℕ) → (node_in sizes [] x).mode ≡ Spent → P
unspent sizes x m = let free : (node_in sizes [] x).mode ≡ Free = ap (λ (s : State). (s.node x).mode)
    (state-nil sizes) in absurd (cc)

pub met_unstored : (sizes : Sizes) → IsLayout sizes → (journal : List Event) → IsKept sizes journal → (i x : ℕ)
    → x < sizes.nodes → HasMet sizes journal i x → (node_in sizes journal x).mode ≡ Spent →
    (node_in sizes journal x).stored ≡ false
met_unstored sizes z journal kept = kept_all sizes (NoneMetIsStored sizes) (unstored_step sizes z)
    (λ i x _ _ m. unspent sizes x m) journal kept

-- what is met is linked or spent
pub met_modes : (sizes : Sizes) (journal : List Event) (i x : ℕ) → HasMet sizes journal i x →
    ((node_in sizes journal x).mode ≡ Linked) ⊎ ((node_in sizes journal x).mode ≡ Spent)
met_modes sizes journal i x m = by (node_in sizes journal x).mode m.free m.fresh
  where
    by : (k : Mode) → k ≢ Free → k ≢ Fresh → (k ≡ Linked) ⊎ (k ≡ Spent)
    by Free f g = absurd (f refl)
    by Fresh f g = absurd (g refl)
    by Linked f g = inl refl
    by Spent f g = inr refl

-- so it's not stored, linked or spent
pub met_not_stored : (sizes : Sizes) → IsLayout sizes → (journal : List Event) → IsKept sizes journal → (i x : ℕ)
    → x < sizes.nodes → HasMet sizes journal i x → (node_in sizes journal x).stored ≡ false
met_not_stored sizes z journal kept i x within m = ⊎_elim
    (λ (h : (node_in sizes journal x).mode ≡ Linked). ((link_words sizes z journal kept).each x within).unstored h)
    (λ (h : (node_in sizes journal x).mode ≡ Spent). met_unstored sizes z journal kept i x within m h)
    (met_modes sizes journal i x m)

-- what was met behind a node, and inside it, is so while the pass is open
module _ (sizes : Sizes) (z : IsLayout sizes) (front journal : List Event) (kept : IsKept sizes journal) (i x : ℕ)
    (p : IsSamePass sizes front journal i) (m : HasMet sizes front i x) where
  -- a link that is unmarked was unmarked
  live_before : x < sizes.nodes → mark_of (word_at sizes journal (link_at sizes x)) ≡ 0 → mark_of
      (word_at sizes front (link_at sizes x)) ≡ 0
  live_before within live =
      let s = still_met sizes z front journal kept i x p m in
      let old = (used_link sizes z front (kept_front sizes front journal p.before kept) x within
      (met_used sizes front i x m)).1 in
      yes_no (mark_of (word_at sizes front (link_at sizes x)) ≡ 0) (node_in sizes front x).marked
      (λ t. let marked : mark_of (word_at sizes front (link_at sizes x)) ≡ 1 = old ∙ ap mark_bit t in
      let same = marked_link_stays sizes z x front journal p.before kept m.fresh marked s.1.tag
      (met_not_stored sizes z journal kept i x within s.0) in
      absurd (omega (arith, marked, live, ap mark_of same)))
      (λ f. old ∙ ap mark_bit f)

  behind_stays : x < sizes.nodes → (y : ℕ) → IsMetBehind sizes front i x y → IsMetBehind sizes journal i x y
  behind_stays within y d =
      let s = still_met sizes z front journal kept i x p m in
      let t = still_met sizes z front journal kept i y p d.met in
      let key_x = key_stays sizes z front journal kept i x p m within in
      let key_y = key_stays sizes z front journal kept i y p d.met d.there in
      record {
        there = d.there;
        met = t.0;
        kind = t.1.vertex ∙ (d.kind ∙ sym s.1.vertex);
        rising = omega (arith, d.rising, key_x, key_y);
        strictly = λ c. let low = d.strictly (⊎_elim (λ (t : (node_in sizes journal x).vertex ≡ true). inl
            (sym s.1.vertex ∙ t)) (λ (live : mark_of (word_at sizes journal (link_at sizes x)) ≡ 0). inr
            (live_before within live)) c) in omega (arith, low, key_x, key_y);
        bucket = λ v. ap (λ (k : ℕ). k % sizes.buckets) key_y ∙
            (d.bucket (sym s.1.vertex ∙ v) ∙ ap (λ (k : ℕ). k % sizes.buckets) (sym key_x));
        source = λ f. t.1.source ∙ (d.source (sym s.1.vertex ∙ f) ∙ sym s.1.source);
      }

  inside_stays : (y : ℕ) → IsMetIn sizes front i x y → IsMetIn sizes journal i x y
  inside_stays y d =
      let s = still_met sizes z front journal kept i x p m in
      let t = still_met sizes z front journal kept i y p d.met in
      record {
        there = d.there;
        met = t.0;
        edge = t.1.vertex ∙ d.edge;
        source = t.1.source ∙
            (d.source ∙ λ k. record { index = x; tag = sym s.1.tag k });
      }

-- the words of a spent node that an open pass has met lead to what the pass has met
record MetLinks (sizes : Sizes) (journal : List Event) : Type 0 where
  pub link : (i x : ℕ) → x < sizes.nodes → HasMet sizes journal i x → (node_in sizes journal x).mode ≡ Spent
      → LeadsTo (word_at sizes journal (link_at sizes x)) (IsMetBehind sizes journal i x)
  pub list : (i x : ℕ) → x < sizes.nodes → HasMet sizes journal i x → (node_in sizes journal x).mode ≡ Spent →
      (node_in sizes journal x).vertex ≡ true
      → LeadsTo (word_at sizes journal (second_at sizes x)) (IsMetIn sizes journal i x)

module _ (sizes : Sizes) (z : IsLayout sizes) (past : List Event) (e : Event) (kept : IsKept sizes past)
    (ok : Allowed sizes past e) (c : MetLinks sizes past) where
  abbrev grown : List Event
  grown = past ++ e ∷ []

  kept_after : IsKept sizes grown
  kept_after = kept_snoc sizes past e kept ok

  met_link : (i x : ℕ) → x < sizes.nodes → HasMet sizes grown i x → (node_in sizes grown x).mode ≡ Spent → LeadsTo
      (word_at sizes grown (link_at sizes x)) (IsMetBehind sizes grown i x)
  met_link i x within m spent = by (met_before sizes z past e kept ok i x m spent) (turn sizes z past e kept ok x)
    where
      by : IsMetBefore sizes past grown i x → ModeStep sizes past e (word_at sizes grown) x (node_in sizes grown x)
          → LeadsTo (word_at sizes grown (link_at sizes x)) (IsMetBehind sizes grown i x)
      by b (stays h _ t _) =
          let was : (node_in sizes past x).mode ≡ Spent = sym h ∙ spent in
          let same = marked_link_stays sizes z x past grown (prefix_snoc past e) kept_after (λ f. absurd (cc))
          (((link_words sizes z past kept).each x within).spent was).marked t
          (met_unstored sizes z grown kept_after i x within m spent) in
          leads_same (word_at sizes past (link_at sizes x)) (word_at sizes grown (link_at sizes x))
          (IsMetBehind sizes past i x) (IsMetBehind sizes grown i x) (ap index_of same)
          (λ y d. behind_stays sizes z past grown kept_after i x b.same b.met within y d) (c.link i x within b.met was)
      by b (spends h _ _ same) = leads_same (word_at sizes past (link_at sizes x))
          (word_at sizes grown (link_at sizes x)) (IsLinkedBehind sizes past x) (IsMetBehind sizes grown i x) same
          (λ y d. behind_stays sizes z past grown kept_after i x b.same b.met within y
          (met_behind sizes past i b.met.pass x y d)) (linked_leads sizes z past kept x within h)
      by b (swaps is r same h _ _ here) = inr (subst (IsMetBehind sizes grown i x)
          (sym (ap index_of here ∙ leads_new sizes z past e kept r))
          (let y : ℕ = e.life.index in
          let new = new_after sizes z past e kept r is in
          let linked : (node_in sizes grown y).mode ≡ Linked = ap (λ (v : Node). v.mode) new in
          let edge : (node_in sizes grown y).vertex ≡ false = ap (λ (v : Node). v.vertex) new in
          let s = still_met sizes z past grown kept_after i x b.same b.met in
          let was : (node_in sizes past x).vertex ≡ false = ap (λ (j : ℕ). (node_in sizes past j).vertex) same
          ∙ r.linked.edge in
          let no_vertex : (node_in sizes grown x).vertex ≡ true → ⊥ = λ t. let f = s.1.vertex ∙ was in absurd (cc) in
          let key_x = key_stays sizes z past grown kept_after i x b.same b.met within ∙
          (((contents sizes z past kept).each x within).edge (subst IsUsed (sym h) tt) was).key_word in
          let key_y = (((contents sizes z grown kept_after).each y r.there).edge
          (subst IsUsed (sym linked) tt) edge).key_word ∙
          (ap (λ (v : Node). v.key) new ∙ (r.key ∙ ap (λ (j : ℕ). (node_in sizes past j).key) (sym same))) in
          record {
            there = r.there;
            met = linked_met sizes grown i m.pass y linked;
            kind = edge ∙ sym (s.1.vertex ∙ was);
            rising = omega (arith, key_x, key_y);
            strictly = λ c. absurd (⊎_elim no_vertex (λ (live : mark_of (word_at sizes grown (link_at sizes x)) ≡ 0).
                let one = ap mark_of here ∙ marks_old sizes z past e kept r in omega (arith, live, one)) c);
            bucket = λ t. absurd (no_vertex t);
            source = λ _. ap (λ (v : Node). v.source) new ∙ (r.source ∙
                (ap (λ (j : ℕ). (node_in sizes past j).source) (sym same) ∙ sym s.1.source));
          }))
      by b (links _ h) = absurd (cc)
      by b (takes _ h) = absurd (cc)
      by b (frees _ h) = absurd (cc)

  met_list : (i x : ℕ) → x < sizes.nodes → HasMet sizes grown i x → (node_in sizes grown x).mode ≡ Spent →
      (node_in sizes grown x).vertex ≡ true → LeadsTo (word_at sizes grown (second_at sizes x))
      (IsMetIn sizes grown i x)
  met_list i x within m spent vertex = yes_no (LeadsTo (word_at sizes grown (second_at sizes x))
      (IsMetIn sizes grown i x)) ((state sizes grown).frozen x)
      (λ h. by h (met_before sizes z past e kept ok i x m spent) (turn sizes z past e kept ok x))
      (λ open_. leads_same (word_at sizes grown (second_at sizes x)) (word_at sizes grown (second_at sizes x))
      (IsLinkedIn sizes grown x) (IsMetIn sizes grown i x) refl (met_inside sizes grown i m.pass x)
      (head_leads sizes z grown kept_after x within (subst IsUsed (sym spent) tt) vertex open_))
    where
      by : (state sizes grown).frozen x ≡ true → IsMetBefore sizes past grown i x → ModeStep sizes past e
          (word_at sizes grown) x (node_in sizes grown x) → LeadsTo (word_at sizes grown (second_at sizes x))
          (IsMetIn sizes grown i x)
      by h b (stays k _ t v) =
          let was : (node_in sizes past x).mode ≡ Spent = sym k ∙ spent in
          let kind : (node_in sizes past x).vertex ≡ true = sym v ∙ vertex in
          yes_no (LeadsTo (word_at sizes grown (second_at sizes x)) (IsMetIn sizes grown i x))
          ((state sizes past).frozen x)
          (λ closed.
          let same = marked_head_stays sizes z x past grown (prefix_snoc past e) kept_after (λ f. absurd (cc))
          (head_marked sizes z past kept x within was kind closed) t in
          leads_same (word_at sizes past (second_at sizes x)) (word_at sizes grown (second_at sizes x))
          (IsMetIn sizes past i x) (IsMetIn sizes grown i x) (ap index_of same)
          (λ y d. inside_stays sizes z past grown kept_after i x b.same b.met y d) (c.list i x within b.met was kind))
          (λ open_.
          leads_same (word_at sizes past (second_at sizes x)) (word_at sizes grown (second_at sizes x))
          (IsLinkedIn sizes past x) (IsMetIn sizes grown i x) (closing sizes z past e kept ok x open_ h).leads
          (λ y d. inside_stays sizes z past grown kept_after i x b.same b.met y
          (met_inside sizes past i b.met.pass x y d)) (head_leads sizes z past kept x within
          (subst IsUsed (sym was) tt) kind open_))
      by h b (spends k _ _ _) = let d = (closing sizes z past e kept ok x (unclosed sizes z past kept x k) h).spent in
          absurd (cc)
      by h b (swaps _ _ _ k _ _ _) = let d = (closing sizes z past e kept ok x (unclosed sizes z past kept x k) h).spent
          in absurd (cc)
      by h b (links _ k) = absurd (cc)
      by h b (takes _ k) = absurd (cc)
      by h b (frees _ k) = absurd (cc)

  met_step : MetLinks sizes grown
  met_step = record { link = met_link; list = met_list }

met_links : (sizes : Sizes) → IsLayout sizes → (journal : List Event) → IsKept sizes journal → MetLinks sizes journal
met_links sizes z journal kept = kept_all sizes (MetLinks sizes) (λ past e k c ok. met_step sizes z past e k ok c)
    (record { link = λ i x _ _ m. unspent sizes x m; list = λ i x _ _ m _. unspent sizes x m }) journal kept

module _ (sizes : Sizes) (z : IsLayout sizes) (journal : List Event) (kept : IsKept sizes journal) (i : ℕ) where
  -- from the word of a bucket
  pub walk_head : (pass_in sizes journal i).is_open ≡ true → (j : ℕ) → j < sizes.buckets → LeadsTo
      (word_at sizes journal (bucket_at sizes j)) (IsMetFirst sizes journal i j)
  walk_head open_ j low = leads_same (word_at sizes journal (bucket_at sizes j))
      (word_at sizes journal (bucket_at sizes j)) (IsLinkedFirst sizes journal j) (IsMetFirst sizes journal i j) refl
      (met_first sizes journal i open_ j) (bucket_leads sizes z journal kept j low)

  -- from the link of a node that was met
  pub walk_link : (x : ℕ) → x < sizes.nodes → HasMet sizes journal i x → LeadsTo
      (word_at sizes journal (link_at sizes x)) (IsMetBehind sizes journal i x)
  walk_link x within m = ⊎_elim
      (λ (linked : (node_in sizes journal x).mode ≡ Linked). leads_same (word_at sizes journal (link_at sizes x))
      (word_at sizes journal (link_at sizes x)) (IsLinkedBehind sizes journal x)
      (IsMetBehind sizes journal i x) refl (met_behind sizes journal i m.pass x)
      (linked_leads sizes z journal kept x within linked))
      (λ (spent : (node_in sizes journal x).mode ≡ Spent). (met_links sizes z journal kept).link i x within m spent)
      (met_modes sizes journal i x m)

  -- from the second word of a vertex that was met
  pub walk_list : (x : ℕ) → x < sizes.nodes → HasMet sizes journal i x → (node_in sizes journal x).vertex ≡ true
      → LeadsTo (word_at sizes journal (second_at sizes x)) (IsMetIn sizes journal i x)
  walk_list x within m vertex = ⊎_elim
      (λ (linked : (node_in sizes journal x).mode ≡ Linked). leads_same (word_at sizes journal (second_at sizes x))
      (word_at sizes journal (second_at sizes x)) (IsLinkedIn sizes journal x) (IsMetIn sizes journal i x) refl
      (met_inside sizes journal i m.pass x) (head_leads sizes z journal kept x within
      (subst IsUsed (sym linked) tt) vertex (unclosed sizes z journal kept x linked)))
      (λ (spent : (node_in sizes journal x).mode ≡ Spent). (met_links sizes z journal kept).list i x within m spent
      vertex)
      (met_modes sizes journal i x m)
