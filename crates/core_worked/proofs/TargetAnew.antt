-- The worked journal in which the target of an edge is removed and added anew is kept, and the pair isn't in its graph.
use Rattle.std.proofs.Common.{◌≡◌, ℕ, ◌%◌, ◌<◌, None, List, [], ◌∷◌, ◌++◌, take, get_or, refl, ap, arith, inr, lit<}
use Rattle.graph_kinds.specs.Graph.{weight_of}
use Rattle.packed_link.specs.Link.{pack, nowhere}
use Rattle.packed_link.specs.Layout.{key_at}
use Rattle.packed_link.specs.declared.link.Life.{Life}
use Rattle.core_journal.specs.declared.event.Event.{Event}
use Rattle.core_journal.specs.Event.{blank}
use Rattle.core_journal.specs.GraphOf.{graph_of}
use Rattle.core_journal.specs.Life.{key_of, link_of}
use Rattle.core_journal.specs.Machine.{machine, word_at}
use Rattle.core_journal.specs.State.{state}
use Rattle.core_journal.specs.Worked.{small, first_life}
use Rattle.core_kept.specs.Kept.{Allowed, IsKept}
use Rattle.core_kept.specs.Nodes.{IsLinkedVertex}
use Rattle.core_kept.proofs.Induction.{kept_snoc}
use Rattle.core_lists.proofs.GraphOfLives.{other_target_no_pair}
use Rattle.core_worked.specs.TargetAnew.{target_anew}
use Rattle.core_worked.specs.TwoLives.{links_new, two_lives}
use Rattle.core_worked.proofs.KnownSteps.{front_kept}
use Rattle.core_worked.proofs.SmallSteps.{none_fresh, announced, filled, withdrawn, at_link}
use Rattle.core_worked.proofs.TwoLives.{two_lives_kept}
use Rattle.core_worked.proofs.TwoLivesShown.{small_layout}

abbrev first : ℕ → List Event
first n = take n target_anew

next : (n : ℕ) → IsKept small (first n) → Allowed small (first n) (get_or target_anew n blank) → IsKept small
    (first n ++ get_or target_anew n blank ∷ [])
next n = kept_snoc small (first n) (get_or target_anew n blank)

kept_26 : IsKept small (first 26)
kept_26 = front_kept two_lives two_lives_kept 26

kept_27 : IsKept small (first 27)
unfolding machine word_at state
kept_27 = next 26 kept_26 (announced (first 26) 0 (lit< tt) refl refl)

kept_28 : IsKept small (first 28)
unfolding machine word_at state
kept_28 = next 27 kept_27 (record {
  by = λ _. lit< tt;
  as_kind = record {
    life = refl;
    there = lit< tt;
    place = refl;
    linked = record { linked = refl; vertex = refl };
    unmarked = refl;
    word = refl;
    pass = refl;
  };
})

kept_29 : IsKept small (first 29)
unfolding machine word_at state
kept_29 = next 28 kept_28 (record {
  by = λ _. lit< tt;
  as_kind = record {
    life = refl;
    there = lit< tt;
    bucket = 0;
    before = 0;
    place = inr (refl, lit< tt);
    before_linked = λ x h. at_link (IsLinkedVertex small (first 28)) 0 x h (record { linked = refl; vertex = refl });
    unmarked = refl;
    leads = refl;
    linked = record { linked = refl; vertex = refl };
    dead = refl;
    word = refl;
    pass = refl;
  };
})

kept_30 : IsKept small (first 30)
unfolding state
kept_30 = next 29 kept_29 (withdrawn (first 29) (lit< tt) refl)

kept_31 : IsKept small (first 31)
unfolding machine word_at state
kept_31 = next 30 kept_30 (announced (first 30) 0 (lit< tt) refl refl)

kept_32 : IsKept small (first 32)
unfolding machine word_at state
kept_32 = next 31 kept_31 (record {
  by = λ _. lit< tt;
  as_kind = record {
    life = refl;
    there = lit< tt;
    place = refl;
    seen = refl;
    word = refl;
    holds_none = none_fresh
        (first 31) refl;
    limit = lit< tt;
  };
})

kept_33 : IsKept small (first 33)
unfolding state
kept_33 = next 32 kept_32 (filled (first 32) 3 0 2 (lit< tt) (lit< tt) (lit< tt) (lit< tt)
    (λ h. absurd (omega (arith, h))) refl (record { fresh = refl; mine = refl }))

kept_34 : IsKept small (first 34)
unfolding state
kept_34 = next 33 kept_33 (filled (first 33) 3 1 (pack nowhere 0 1) (lit< tt) (lit< tt) (lit< tt) (lit< tt)
    (λ _. (refl, refl)) refl (record { fresh = refl; mine = refl }))

kept_35 : IsKept small (first 35)
unfolding state
kept_35 = next 34 kept_34 (filled (first 34) 3 2 (pack nowhere 0 1) (lit< tt) (lit< tt) (lit< tt) (lit< tt)
    (λ h. absurd (omega (arith, h))) refl (record { fresh = refl; mine = refl }))

kept_36 : IsKept small (first 36)
unfolding state
kept_36 = next 35 kept_35 (filled (first 35) 3 3 0 (lit< tt) (lit< tt) (lit< tt) (lit< tt)
    (λ h. absurd (omega (arith, h))) refl (record { fresh = refl; mine = refl }))

pub anew_kept : IsKept small target_anew
unfolding machine word_at state
anew_kept = next 36 kept_36 (record {
  by = λ _. lit< tt;
  as_kind = record {
    life = refl;
    there = lit< tt;
    bucket = 0;
    before = 0;
    place = inr (refl, lit< tt);
    linked = λ x h. at_link (λ y. IsLinkedVertex small (first 36) y) 0 x h (record { linked = refl; vertex = refl });
    unmarked = refl;
    gap = record {
      bucket_word = λ j h t. omega (arith, t);
      bucket = λ x h. at_link (λ y. word_at small (first 36) (key_at small y) % 1 ≡ 0) 0 x h refl;
      below = λ x h. at_link (λ y. word_at small (first 36) (key_at small y) < 2) 0 x h (lit< tt);
      above = λ ne. absurd (ne refl);
    };
    word = refl;
    fresh = record { fresh = refl; mine = refl };
    filled = record { key_word = refl; key_fits = lit< tt; link_word = refl; second_word = refl; third_word = refl };
    pass = refl;
  };
})

pub no_pair_anew : weight_of (graph_of target_anew) 1 2 ≡ None
unfolding key_of link_of
no_pair_anew = other_target_no_pair small small_layout target_anew anew_kept (first_life 0) (first_life 3)
    (first_life 2) (links_new 2 5) 1 2 refl refl refl refl refl refl
    (λ same. let h : 1 ≡ 3 = ap (λ (l : Life). l.index) same in omega (arith, h))
