-- The worked journal of queries is kept, event by event.
use Rattle.std.proofs.Common.{ℕ, [], ◌∷◌, ◌++◌, get_or, refl, arith, inl, lit<, lit≤}
use Rattle.packed_link.specs.Link.{pack, nowhere}
use Rattle.core_journal.specs.declared.event.Event.{Event}
use Rattle.core_journal.specs.Event.{blank}
use Rattle.core_journal.specs.Life.{key_of, link_of}
use Rattle.core_journal.specs.Machine.{machine, word_at}
use Rattle.core_journal.specs.State.{state}
use Rattle.core_journal.specs.Worked.{small, first_life}
use Rattle.core_kept.specs.Kept.{Allowed, IsKept}
use Rattle.core_kept.proofs.Induction.{kept_snoc}
use Rattle.core_lists.proofs.MetWordsLead.{linked_met}
use Rattle.core_worked.specs.TwoLives.{two_lives}
use Rattle.core_worked.proofs.KnownSteps.{front_kept}
use Rattle.core_worked.proofs.SmallSteps.{whole, none_fresh, announced, filled, withdrawn}
use Rattle.core_worked.proofs.TwoLives.{two_lives_kept}
use Rattle.core_scans.specs.Worked.{beside_queries, moment}

abbrev event : ℕ → Event
event n = get_or beside_queries n blank

next : (n : ℕ) → IsKept small (moment n) → Allowed small (moment n) (event n)
    → IsKept small (moment n ++ event n ∷ [])
next n = kept_snoc small (moment n) (event n)

kept_18 : IsKept small (moment 18)
kept_18 = front_kept two_lives two_lives_kept 18

kept_19 : IsKept small (moment 19)
unfolding machine word_at state
kept_19 = next 18 kept_18 (announced (moment 18) 0 (lit< tt) refl refl)

kept_20 : IsKept small (moment 20)
unfolding machine word_at state
kept_20 = next 19 kept_19 (record {
  by = λ _. lit< tt;
  as_kind = record {
    life = refl;
    there = lit< tt;
    place = refl;
    seen = refl;
    word = refl;
    holds_none = none_fresh (moment 19) refl;
    limit = lit< tt;
  };
})

kept_21 : IsKept small (moment 21)
unfolding state
kept_21 = next 20 kept_20 (filled (moment 20) 2 0 2 (lit< tt) (lit< tt) (lit< tt) (lit< tt)
    (λ h. absurd (omega (arith, h))) refl (record { fresh = refl; mine = refl }))

kept_22 : IsKept small (moment 22)
unfolding state
kept_22 = next 21 kept_21 (filled (moment 21) 2 1 (pack nowhere 0 1) (lit< tt) (lit< tt) (lit< tt) (lit< tt)
    (λ _. (refl, refl)) refl (record { fresh = refl; mine = refl }))

kept_23 : IsKept small (moment 23)
unfolding state
kept_23 = next 22 kept_22 (filled (moment 22) 2 2 (pack 1 0 1) (lit< tt) (lit< tt) (lit< tt) (lit< tt)
    (λ h. absurd (omega (arith, h))) refl (record { fresh = refl; mine = refl }))

kept_24 : IsKept small (moment 24)
unfolding state
kept_24 = next 23 kept_23 (filled (moment 23) 2 3 3 (lit< tt) (lit< tt) (lit< tt) (lit< tt)
    (λ h. absurd (omega (arith, h))) refl (record { fresh = refl; mine = refl }))

kept_25 : IsKept small (moment 25)
unfolding machine word_at state key_of
kept_25 = next 24 kept_24 (record {
  by = λ _. lit< tt;
  as_kind = record {
    life = refl;
    there = lit< tt;
    source = record { there = lit< tt; life = refl; used = tt; vertex = refl };
    before = 0;
    place = inl (refl, lit< tt);
    linked = λ x h. absurd (omega (arith, h));
    unmarked = refl;
    gap = record { below = λ x h. absurd (omega (arith, h)); above = λ ne. absurd (ne refl) };
    word = refl;
    fresh = record { fresh = refl; mine = refl };
    filled = record {
      key_word = refl;
      key_fits = lit< tt;
      link_word = refl;
      second_word = refl;
      third_word = refl;
      some = lit≤ tt;
      weight_fits = lit< tt;
    };
    target_key = refl;
    source_met = linked_met small (moment 24) 0 refl 0 refl;
    target = record { there = lit< tt; life = refl; used = tt; vertex = refl };
    target_met = linked_met small (moment 24) 0 refl 1 refl;
    pass = refl;
  };
})

kept_26 : IsKept small (moment 26)
unfolding state
kept_26 = next 25 kept_25 (withdrawn (moment 25) (lit< tt) refl)

kept_27 : IsKept small (moment 27)
unfolding machine word_at state
kept_27 = next 26 kept_26 (record {
  by = λ _. lit< tt;
  as_kind = record {
    life = refl;
    there = lit< tt;
    place = refl;
    loaded = moment 26;
    before = whole (moment 26);
    word = refl;
    closed = refl;
  };
})

kept_28 : IsKept small (moment 28)
unfolding machine word_at state
kept_28 = next 27 kept_27 (announced (moment 27) 0 (lit< tt) refl refl)

kept_29 : IsKept small (moment 29)
unfolding machine word_at state
kept_29 = next 28 kept_28 (record {
  by = λ _. lit< tt;
  as_kind = record {
    life = refl;
    there = lit< tt;
    place = refl;
    seen = refl;
    word = refl;
    holds_none = none_fresh (moment 28) refl;
    limit = lit< tt;
  };
})

kept_30 : IsKept small (moment 30)
unfolding state
kept_30 = next 29 kept_29 (filled (moment 29) 3 0 1 (lit< tt) (lit< tt) (lit< tt) (lit< tt)
    (λ h. absurd (omega (arith, h))) refl (record { fresh = refl; mine = refl }))

kept_31 : IsKept small (moment 31)
unfolding state
kept_31 = next 30 kept_30 (filled (moment 30) 3 1 (pack 2 0 1) (lit< tt) (lit< tt) (lit< tt) (lit< tt)
    (λ _. (refl, refl)) refl (record { fresh = refl; mine = refl }))

kept_32 : IsKept small (moment 32)
unfolding state
kept_32 = next 31 kept_31 (filled (moment 31) 3 2 (pack 0 0 1) (lit< tt) (lit< tt) (lit< tt) (lit< tt)
    (λ h. absurd (omega (arith, h))) refl (record { fresh = refl; mine = refl }))

kept_33 : IsKept small (moment 33)
unfolding state
kept_33 = next 32 kept_32 (filled (moment 32) 3 3 4 (lit< tt) (lit< tt) (lit< tt) (lit< tt)
    (λ h. absurd (omega (arith, h))) refl (record { fresh = refl; mine = refl }))

kept_34 : IsKept small (moment 34)
unfolding machine word_at state key_of
kept_34 = next 33 kept_33 (record {
  by = λ _. lit< tt;
  as_kind = record {
    life = refl;
    there = lit< tt;
    source = record { there = lit< tt; life = refl; used = tt; vertex = refl };
    before = 0;
    place = inl (refl, lit< tt);
    linked = λ x h. absurd (omega (arith, h));
    unmarked = refl;
    gap = record { below = λ x h. absurd (omega (arith, h)); above = λ _. lit< tt };
    word = refl;
    fresh = record { fresh = refl; mine = refl };
    filled = record {
      key_word = refl;
      key_fits = lit< tt;
      link_word = refl;
      second_word = refl;
      third_word = refl;
      some = lit≤ tt;
      weight_fits = lit< tt;
    };
    target_key = refl;
    source_met = linked_met small (moment 33) 0 refl 0 refl;
    target = record { there = lit< tt; life = refl; used = tt; vertex = refl };
    target_met = linked_met small (moment 33) 0 refl 0 refl;
    pass = refl;
  };
})

kept_35 : IsKept small (moment 35)
unfolding machine word_at state link_of
kept_35 = next 34 kept_34 (record {
  by = λ _. lit< tt;
  as_kind = record {
    life = refl;
    there = lit< tt;
    place = refl;
    vertex = record { there = lit< tt; life = refl; used = tt; vertex = refl };
    moment = moment 34;
    before = whole (moment 34);
    since = lit< tt;
    edge = first_life 3;
    link = event 33;
    linked = refl;
    from = refl;
    unmarked = refl;
    word = refl;
    met = linked_met small (moment 34) 0 refl 0 refl;
    pass = refl;
    limit = lit< tt;
  };
})

kept_36 : IsKept small (moment 36)
unfolding machine word_at state
kept_36 = next 35 kept_35 (record {
  by = λ _. lit< tt;
  as_kind = record {
    life = refl;
    there = lit< tt;
    place = refl;
    linked = record { linked = refl; edge = refl };
    unmarked = refl;
    word = refl;
    raised = record {
      number = 34;
      since = lit< tt;
      raise = event 34;
      at = refl;
      kind = refl;
      by = refl;
      vertex = refl;
      linked = refl;
    };
    pass = refl;
  };
})

pub kept_37 : IsKept small (moment 37)
unfolding machine word_at state
kept_37 = next 36 kept_36 (record {
  by = λ _. lit< tt;
  as_kind = record {
    life = refl;
    there = lit< tt;
    source = record { there = lit< tt; life = refl; used = tt; vertex = refl };
    before = 0;
    place = inl (refl, lit< tt);
    before_linked = λ x h. absurd (omega (arith, h));
    unmarked = refl;
    leads = refl;
    linked = record { linked = refl; edge = refl };
    dead = refl;
    source_met = linked_met small (moment 36) 0 refl 0 refl;
    word = refl;
    pass = refl;
  };
})

pub kept_38 : IsKept small (moment 38)
unfolding machine word_at state
kept_38 = next 37 kept_37 (record {
  by = λ _. lit< tt;
  as_kind = record {
    life = refl;
    there = lit< tt;
    place = refl;
    seen = refl;
    word = refl;
    holds_none = none_fresh (moment 37) refl;
    limit = lit< tt;
  };
})

kept_39 : IsKept small (moment 39)
unfolding state
kept_39 = next 38 kept_38 (filled (moment 38) 4 0 2 (lit< tt) (lit< tt) (lit< tt) (lit< tt)
    (λ h. absurd (omega (arith, h))) refl (record { fresh = refl; mine = refl }))

kept_40 : IsKept small (moment 40)
unfolding state
kept_40 = next 39 kept_39 (filled (moment 39) 4 1 (pack nowhere 0 1) (lit< tt) (lit< tt) (lit< tt) (lit< tt)
    (λ _. (refl, refl)) refl (record { fresh = refl; mine = refl }))

kept_41 : IsKept small (moment 41)
unfolding state
kept_41 = next 40 kept_40 (filled (moment 40) 4 2 (pack 1 0 1) (lit< tt) (lit< tt) (lit< tt) (lit< tt)
    (λ h. absurd (omega (arith, h))) refl (record { fresh = refl; mine = refl }))

kept_42 : IsKept small (moment 42)
unfolding state
kept_42 = next 41 kept_41 (filled (moment 41) 4 3 7 (lit< tt) (lit< tt) (lit< tt) (lit< tt)
    (λ h. absurd (omega (arith, h))) refl (record { fresh = refl; mine = refl }))

kept_43 : IsKept small (moment 43)
unfolding machine word_at state link_of
kept_43 = next 42 kept_42 (record {
  by = λ _. lit< tt;
  as_kind = record {
    life = refl;
    there = lit< tt;
    place = refl;
    vertex = record { there = lit< tt; life = refl; used = tt; vertex = refl };
    moment = moment 42;
    before = whole (moment 42);
    since = lit< tt;
    edge = first_life 2;
    link = event 24;
    linked = refl;
    from = refl;
    unmarked = refl;
    word = refl;
    met = linked_met small (moment 42) 0 refl 0 refl;
    pass = refl;
    limit = lit< tt;
  };
})

pub kept_44 : IsKept small (moment 44)
unfolding machine word_at state
kept_44 = next 43 kept_43 (record {
  by = λ _. lit< tt;
  as_kind = record {
    life = refl;
    there = lit< tt;
    old_life = refl;
    old_there = lit< tt;
    place = refl;
    linked = record { linked = refl; edge = refl };
    unmarked = refl;
    word = refl;
    fresh = record { fresh = refl; mine = refl };
    filled = record {
      key_word = refl;
      key_fits = lit< tt;
      link_word = refl;
      second_word = refl;
      third_word = refl;
      some = lit≤ tt;
      weight_fits = lit< tt;
    };
    key = refl;
    source = refl;
    target = refl;
    other = λ h. omega (arith, h);
    raised = record {
      number = 42;
      since = lit< tt;
      raise = event 42;
      at = refl;
      kind = refl;
      by = refl;
      vertex = refl;
      linked = refl;
    };
    pass = refl;
  };
})
