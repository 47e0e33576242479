-- The words of a spent node lead to linked nodes, or to nodes whose last end isn't before its own.
use Rattle.std.proofs.Common.{◌≡◌, ◌≢◌, ◌⊎◌, ℕ, ◌+◌, ◌<◌, ◌≤◌, true, false, List, [], ◌∷◌, ◌++◌, length-append, refl}
use Rattle.std.proofs.Common.{sym, ap, ◌∙◌, subst, arith, ⊎_elim, inl, inr}
use Rattle.packed_link.specs.Link.{index_of, mark_of, mark_bit}
use Rattle.packed_link.specs.Layout.{Sizes, IsLayout, link_at, second_at}
use Rattle.core_journal.specs.declared.event.Event.{Event}
use Rattle.core_journal.specs.Machine.{word_at}
use Rattle.core_journal.specs.State.{Free, Linked, Spent, Node, State, state}
use Rattle.core_journal.proofs.Lists.{prefix_snoc}
use Rattle.core_journal.proofs.States.{state-nil, count-length}
use Rattle.core_kept.specs.Kept.{Allowed, IsKept}
use Rattle.core_kept.specs.Nodes.{node_in, IsUsed}
use Rattle.core_lists.specs.Walks.{LeadsTo, IsNoEarlier, SpentLinks}
use Rattle.core_kept.proofs.Contents.{contents}
use Rattle.core_kept.proofs.Induction.{kept_all, kept_snoc}
use Rattle.core_lists.proofs.LinkedWordsLead.{IsLinkedBehind, IsLinkedIn, leads_same, vertex_leads, edge_leads}
use Rattle.core_lists.proofs.LinkedWordsLead.{head_leads}
use Rattle.core_kept.proofs.LinkWords.{link_words}
use Rattle.core_kept.proofs.MarkedWords.{marked_link_stays, marked_head_stays}
use Rattle.core_kept.proofs.ModeSteps.{ModeStep, stays, spends, swaps, links, takes, frees, turn, closing, unstored_was}
use Rattle.core_kept.proofs.ModeSteps.{ends_on}
use Rattle.core_kept.proofs.NodesInPlace.{used_there}
use Rattle.core_kept.proofs.ReplaceCases.{leads_new, new_after}
use Rattle.core_kept.proofs.Ripe.{ended}
use Rattle.core_kept.proofs.NodesOnLists.{yes_no}

-- the list of a linked vertex isn't closed
abbrev IsUnclosed : Sizes → List Event → Type 0
IsUnclosed sizes journal = (x : ℕ) → (node_in sizes journal x).mode ≡ Linked → (state sizes journal).frozen x ≡ false

unclosed_step : (sizes : Sizes) → IsLayout sizes → (past : List Event) (e : Event) → IsKept sizes past
    → IsUnclosed sizes past → Allowed sizes past e → IsUnclosed sizes (past ++ e ∷ [])
unclosed_step sizes z past e kept c ok x linked = yes_no ((state sizes (past ++ e ∷ [])).frozen x ≡ false)
    ((state sizes (past ++ e ∷ [])).frozen x)
    (λ h. absurd (by h (turn sizes z past e kept ok x))) (λ h. h)
  where
    not_spent : (state sizes past).frozen x ≡ false → (state sizes (past ++ e ∷ [])).frozen x ≡ true →
        (node_in sizes past x).mode ≢ Spent → ⊥
    not_spent open_ h ne = ne (closing sizes z past e kept ok x open_ h).spent

    by : (state sizes (past ++ e ∷ [])).frozen x ≡ true → ModeStep sizes past e (word_at sizes (past ++ e ∷ [])) x
        (node_in sizes (past ++ e ∷ []) x) → ⊥
    by h (stays m _ _ _) = let was : (node_in sizes past x).mode ≡ Linked = sym m ∙ linked in not_spent (c x was) h
        (λ s. absurd (cc))
    by h (spends _ m _ _) = absurd (cc)
    by h (swaps _ _ _ _ m _ _) = absurd (cc)
    by h (links m _) =
        let there = used_there sizes past x kept (λ f. absurd (cc)) in
        not_spent (((contents sizes z past kept).each x there).fresh m) h (λ s. absurd (cc))
    by h (takes _ m) = absurd (cc)
    by h (frees _ m) = absurd (cc)

pub unclosed : (sizes : Sizes) → IsLayout sizes → (journal : List Event) → IsKept sizes journal → (x : ℕ) →
    (node_in sizes journal x).mode ≡ Linked → (state sizes journal).frozen x ≡ false
unclosed sizes z journal kept = kept_all sizes (IsUnclosed sizes) (unclosed_step sizes z)
    (subst (λ (s : State). (x : ℕ) → (s.node x).mode ≡ Linked → s.frozen x ≡ false) (sym (state-nil sizes))
    (λ x m. refl)) journal kept

-- the link of a linked node
pub linked_leads : (sizes : Sizes) → IsLayout sizes → (journal : List Event) → IsKept sizes journal → (x : ℕ)
    → x < sizes.nodes → (node_in sizes journal x).mode ≡ Linked → LeadsTo (word_at sizes journal (link_at sizes x))
    (IsLinkedBehind sizes journal x)
linked_leads sizes z journal kept x within linked = yes_no (LeadsTo (word_at sizes journal (link_at sizes x))
    (IsLinkedBehind sizes journal x)) (node_in sizes journal x).vertex
    (λ t. vertex_leads sizes z journal kept x record { linked = linked; vertex = t })
    (λ f. edge_leads sizes z journal kept x within record { linked = linked; edge = f })

-- a closed head is marked
pub head_marked : (sizes : Sizes) → IsLayout sizes → (journal : List Event) → IsKept sizes journal → (x : ℕ)
    → x < sizes.nodes → (node_in sizes journal x).mode ≡ Spent → (node_in sizes journal x).vertex ≡ true →
    (state sizes journal).frozen x ≡ true
    → mark_of (word_at sizes journal (second_at sizes x)) ≡ 1
head_marked sizes z journal kept x within spent vertex closed =
    (((contents sizes z journal kept).each x within).vertex (subst IsUsed (sym spent) tt) vertex).second_mark
    ∙ ap mark_bit closed

module _ (sizes : Sizes) (z : IsLayout sizes) (past : List Event) (e : Event) (kept : IsKept sizes past)
    (ok : Allowed sizes past e) where
  abbrev grown : List Event
  grown = past ++ e ∷ []

  kept_after : IsKept sizes grown
  kept_after = kept_snoc sizes past e kept ok

  -- an end that a node gets now is the last
  ends_last : (x : ℕ) → (node_in sizes grown x).ended ≤ (state sizes past).count + 1
  ends_last x = omega (
    arith,
    (ended sizes grown kept_after).ended x,
    count-length sizes grown,
    count-length sizes past,
    length-append past (e ∷ []),
  )

  -- a node that was linked is linked, or it ends now
  linked_later : (x y : ℕ) → y < sizes.nodes → (node_in sizes past y).mode ≡ Linked → IsNoEarlier sizes grown x y
  linked_later x y there was = record { there = there; later = by (turn sizes z past e kept ok y) }
    where
      by : ModeStep sizes past e (word_at sizes grown) y (node_in sizes grown y) →
          ((node_in sizes grown y).mode ≡ Linked) ⊎ ((node_in sizes grown x).ended ≤ (node_in sizes grown y).ended)
      by (stays m _ _ _) = inl (m ∙ was)
      by (spends _ _ q _) = inr (omega (arith, q, ends_last x))
      by (swaps _ _ _ _ _ q _) = inr (omega (arith, q, ends_last x))
      by (links m _) = absurd (cc)
      by (takes m _) = absurd (cc)
      by (frees m _) = absurd (cc)

  -- what was no earlier is so
  still_later : (x y : ℕ) → (node_in sizes grown x).ended ≡ (node_in sizes past x).ended → IsNoEarlier sizes past x y
      → IsNoEarlier sizes grown x y
  still_later x y same c = ⊎_elim
      (λ (was : (node_in sizes past y).mode ≡ Linked). linked_later x y c.there was)
      (λ (low : (node_in sizes past x).ended ≤ (node_in sizes past y).ended). record
      { there = c.there; later = inr (omega (arith, low, same, ends_on sizes z past e kept ok y)) }) c.later

  spent_link : SpentLinks sizes past → (x : ℕ) → x < sizes.nodes → (node_in sizes grown x).mode ≡ Spent →
      (node_in sizes grown x).stored ≡ false → LeadsTo (word_at sizes grown (link_at sizes x))
      (IsNoEarlier sizes grown x)
  spent_link c x within spent unstored = by (turn sizes z past e kept ok x)
    where
      by : ModeStep sizes past e (word_at sizes grown) x (node_in sizes grown x) → LeadsTo
          (word_at sizes grown (link_at sizes x)) (IsNoEarlier sizes grown x)
      by (stays m q t _) =
          let was : (node_in sizes past x).mode ≡ Spent = sym m ∙ spent in
          let same = marked_link_stays sizes z x past grown (prefix_snoc past e) kept_after (λ f. absurd (cc))
          (((link_words sizes z past kept).each x within).spent was).marked t unstored in
          leads_same (word_at sizes past (link_at sizes x)) (word_at sizes grown (link_at sizes x))
          (IsNoEarlier sizes past x) (IsNoEarlier sizes grown x) (ap index_of same) (λ y d. still_later x y q d)
          (c.link x within was (unstored_was sizes z past e kept ok x was unstored))
      by (spends m _ _ same) = leads_same (word_at sizes past (link_at sizes x)) (word_at sizes grown (link_at sizes x))
          (IsLinkedBehind sizes past x) (IsNoEarlier sizes grown x) same (λ y d. linked_later x y d.there d.linked)
          (linked_leads sizes z past kept x within m)
      by (swaps is r _ _ _ _ here) = inr (subst (IsNoEarlier sizes grown x)
          (sym (ap index_of here ∙ leads_new sizes z past e kept r))
          record { there = r.there; later = inl (ap (λ (v : Node). v.mode) (new_after sizes z past e kept r is)) })
      by (links _ m) = absurd (cc)
      by (takes _ m) = absurd (cc)
      by (frees _ m) = absurd (cc)

  -- the head of a list that this event closes
  closed_now : (x : ℕ) → x < sizes.nodes → (node_in sizes past x).vertex ≡ true → (state sizes past).frozen x ≡ false →
      (state sizes grown).frozen x ≡ true → LeadsTo (word_at sizes grown (second_at sizes x))
      (IsNoEarlier sizes grown x)
  closed_now x within vertex open_ closed =
      let d = closing sizes z past e kept ok x open_ closed in
      leads_same (word_at sizes past (second_at sizes x)) (word_at sizes grown (second_at sizes x))
      (IsLinkedIn sizes past x) (IsNoEarlier sizes grown x) d.leads (λ y d. linked_later x y d.there d.linked)
      (head_leads sizes z past kept x within (subst IsUsed (sym d.spent) tt) vertex open_)

  spent_list : SpentLinks sizes past → (x : ℕ) → x < sizes.nodes → (node_in sizes grown x).mode ≡ Spent →
      (node_in sizes grown x).vertex ≡ true → LeadsTo (word_at sizes grown (second_at sizes x))
      (IsNoEarlier sizes grown x)
  spent_list c x within spent vertex = yes_no (LeadsTo (word_at sizes grown (second_at sizes x))
      (IsNoEarlier sizes grown x)) ((state sizes grown).frozen x)
      (λ h. by h (turn sizes z past e kept ok x))
      (λ open_. leads_same (word_at sizes grown (second_at sizes x)) (word_at sizes grown (second_at sizes x))
      (IsLinkedIn sizes grown x) (IsNoEarlier sizes grown x) refl
      (λ y d. record { there = d.there; later = inl d.linked })
      (head_leads sizes z grown kept_after x within (subst IsUsed (sym spent) tt) vertex open_))
    where
      by : (state sizes grown).frozen x ≡ true → ModeStep sizes past e (word_at sizes grown) x (node_in sizes grown x)
          → LeadsTo (word_at sizes grown (second_at sizes x)) (IsNoEarlier sizes grown x)
      by h (stays m q t v) =
          let was : (node_in sizes past x).mode ≡ Spent = sym m ∙ spent in
          let kind : (node_in sizes past x).vertex ≡ true = sym v ∙ vertex in
          yes_no (LeadsTo (word_at sizes grown (second_at sizes x)) (IsNoEarlier sizes grown x))
          ((state sizes past).frozen x)
          (λ closed.
          let same = marked_head_stays sizes z x past grown (prefix_snoc past e) kept_after (λ f. absurd (cc))
          (head_marked sizes z past kept x within was kind closed) t in
          leads_same (word_at sizes past (second_at sizes x)) (word_at sizes grown (second_at sizes x))
          (IsNoEarlier sizes past x) (IsNoEarlier sizes grown x) (ap index_of same) (λ y d. still_later x y q d)
          (c.list x within was kind))
          (λ open_. closed_now x within kind open_ h)
      by h (spends m _ _ _) = let d = (closing sizes z past e kept ok x (unclosed sizes z past kept x m) h).spent in
          absurd (cc)
      by h (swaps _ _ _ m _ _ _) = let d = (closing sizes z past e kept ok x (unclosed sizes z past kept x m) h).spent
          in absurd (cc)
      by h (links _ m) = absurd (cc)
      by h (takes _ m) = absurd (cc)
      by h (frees _ m) = absurd (cc)

  spent_step : SpentLinks sizes past → SpentLinks sizes grown
  spent_step c = record { link = spent_link c; list = spent_list c }

-- where spent nodes lead after each kept journal
pub spent_links : (sizes : Sizes) → IsLayout sizes → (journal : List Event) → IsKept sizes journal
    → SpentLinks sizes journal
spent_links sizes z journal kept = kept_all sizes (SpentLinks sizes) (λ past e k c ok. spent_step sizes z past e k ok c)
    (record { link = λ x _ m _. nothing x m; list = λ x _ m _. nothing x m }) journal kept
  where
    nothing : {P : Type 0} (x : ℕ) → (node_in sizes [] x).mode ≡ Spent → P
    nothing x m = let free : (node_in sizes [] x).mode ≡ Free = ap (λ (s : State). (s.node x).mode)
        (state-nil sizes) in absurd (cc)
