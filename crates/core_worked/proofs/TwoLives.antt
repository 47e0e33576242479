-- The worked journal with all kinds of events but replacements is kept: its events, one by one.
use Rattle.std.proofs.Common.{◌≡◌, ℕ, ◌%◌, ◌<◌, true≢false, List, [], ◌∷◌, ◌++◌, take, drop, get_or, refl, sym, arith}
use Rattle.std.proofs.Common.{inl, inr, lit<, lit≤}
use Rattle.packed_link.specs.Link.{pack, nowhere}
use Rattle.packed_link.specs.Layout.{key_at, second_at}
use Rattle.core_journal.specs.declared.event.Event.{Event}
use Rattle.core_journal.specs.Event.{blank}
use Rattle.core_journal.specs.Life.{key_of, link_of}
use Rattle.core_journal.specs.Machine.{machine, word_at}
use Rattle.core_journal.specs.Prefix.{IsPrefix}
use Rattle.core_journal.specs.State.{Spent, state}
use Rattle.core_journal.specs.Worked.{small, first_life}
use Rattle.core_lists.proofs.MetWordsLead.{linked_met}
use Rattle.core_kept.specs.Kept.{Allowed, IsKept}
use Rattle.core_kept.specs.Nodes.{node_in, IsLinkedVertex, IsRipe}
use Rattle.core_worked.specs.TwoLives.{two_lives}
use Rattle.core_kept.proofs.Induction.{kept_snoc}
use Rattle.core_worked.proofs.SmallSteps.{whole, none_fresh, announced, filled, withdrawn, moved, at_link, frozen_list}
use Rattle.core_worked.proofs.SmallSteps.{on_none, on_one}

-- a front of the journal, and the event of a number
abbrev pub before : ℕ → List Event
before n = take n two_lives

abbrev pub event : ℕ → Event
event n = get_or two_lives n blank

next : (n : ℕ) → IsKept small (before n) → Allowed small (before n) (event n) → IsKept small (before n ++ event n ∷ [])
next n = kept_snoc small (before n) (event n)

-- a node that was spent by event 43 is ripe once the epoch is 2
pub ripe : (past : List Event) (x : ℕ) → IsPrefix (before 47) past → (node_in small past x).mode ≡ Spent →
    (node_in small past x).who ≡ 0 → (node_in small (before 45) x).mode ≡ Spent → (node_in small (before 45) x).tag ≡
    (node_in small past x).tag
    → IsRipe small past 0 x
unfolding machine word_at
ripe past x p spent mine was same = record {
  stamp = 0;
  stamped = record {
    spent = record { spent = spent; mine = mine };
    when = before 45;
    when_before = record { rest = drop 45 (before 47) ++ p.rest; whole = p.whole };
    when_spent = was;
    when_life = same;
    when_epoch = lit≤ tt;
  };
  shown = before 47;
  shown_before = p;
  shown_epoch = lit≤ tt;
}

-- two vertices are added: events 0 to 17

kept_1 : IsKept small (before 1)
unfolding machine word_at state
kept_1 = next 0 (record { steps = tt }) (record {
  by = λ t. absurd
      (true≢false t);
  as_kind = record { life = refl; there = lit< tt; place = refl; word = refl; caller = refl };
})

kept_2 : IsKept small (before 2)
unfolding machine word_at state
kept_2 = next 1 kept_1 (record {
  by = λ t. absurd (true≢false t);
  as_kind = record
      { life = refl; there = lit< tt; place = refl; word = refl; caller = refl };
})

pub kept_3 : IsKept small (before 3)
unfolding machine word_at state
kept_3 = next 2 kept_2 (announced (before 2) 0 (lit< tt) refl refl)

pub kept_4 : IsKept small (before 4)
unfolding machine word_at state
kept_4 = next 3 kept_3 (record {
  by = λ _. lit< tt;
  as_kind = record {
    life = refl;
    there = lit< tt;
    place = refl;
    seen = refl;
    word = refl;
    holds_none = none_fresh
        (before 3) refl;
    limit = lit< tt;
  };
})

kept_5 : IsKept small (before 5)
unfolding state
kept_5 = next 4 kept_4 (filled (before 4) 0 0 1 (lit< tt) (lit< tt) (lit< tt) (lit< tt)
    (λ h. absurd (omega (arith, h))) refl (record { fresh = refl; mine = refl }))

kept_6 : IsKept small (before 6)
unfolding state
kept_6 = next 5 kept_5 (filled (before 5) 0 1 (pack nowhere 0 1) (lit< tt) (lit< tt) (lit< tt) (lit< tt)
    (λ _. (refl, refl)) refl (record { fresh = refl; mine = refl }))

kept_7 : IsKept small (before 7)
unfolding state
kept_7 = next 6 kept_6 (filled (before 6) 0 2 (pack nowhere 0 1) (lit< tt) (lit< tt) (lit< tt) (lit< tt)
    (λ h. absurd (omega (arith, h))) refl (record { fresh = refl; mine = refl }))

pub kept_8 : IsKept small (before 8)
unfolding state
kept_8 = next 7 kept_7 (filled (before 7) 0 3 0 (lit< tt) (lit< tt) (lit< tt) (lit< tt)
    (λ h. absurd (omega (arith, h))) refl (record { fresh = refl; mine = refl }))

kept_9 : IsKept small (before 9)
unfolding machine word_at state
kept_9 = next 8 kept_8 (record {
  by = λ _. lit< tt;
  as_kind = record {
    life = refl;
    there = lit< tt;
    bucket = 0;
    before = 0;
    place = inl (refl, lit< tt);
    linked = λ x h. absurd (omega (arith, h));
    unmarked = refl;
    gap = record {
      bucket_word = λ j h t. omega (arith, t);
      bucket = λ x h. absurd
          (omega (arith, h));
      below = λ x h. absurd (omega (arith, h));
      above = λ ne. absurd (ne refl);
    };
    word = refl;
    fresh = record { fresh = refl; mine = refl };
    filled = record { key_word = refl; key_fits = lit< tt; link_word = refl; second_word = refl; third_word = refl };
    pass = refl;
  };
})

kept_10 : IsKept small (before 10)
unfolding state
kept_10 = next 9 kept_9 (withdrawn (before 9) (lit< tt) refl)

kept_11 : IsKept small (before 11)
unfolding machine word_at state
kept_11 = next 10 kept_10 (announced (before 10) 0 (lit< tt) refl refl)

kept_12 : IsKept small (before 12)
unfolding machine word_at state
kept_12 = next 11 kept_11 (record {
  by = λ _. lit< tt;
  as_kind = record {
    life = refl;
    there = lit< tt;
    place = refl;
    seen = refl;
    word = refl;
    holds_none = none_fresh
        (before 11) refl;
    limit = lit< tt;
  };
})

kept_13 : IsKept small (before 13)
unfolding state
kept_13 = next 12 kept_12 (filled (before 12) 1 0 2 (lit< tt) (lit< tt) (lit< tt) (lit< tt)
    (λ h. absurd (omega (arith, h))) refl (record { fresh = refl; mine = refl }))

kept_14 : IsKept small (before 14)
unfolding state
kept_14 = next 13 kept_13 (filled (before 13) 1 1 (pack nowhere 0 1) (lit< tt) (lit< tt) (lit< tt) (lit< tt)
    (λ _. (refl, refl)) refl (record { fresh = refl; mine = refl }))

kept_15 : IsKept small (before 15)
unfolding state
kept_15 = next 14 kept_14 (filled (before 14) 1 2 (pack nowhere 0 1) (lit< tt) (lit< tt) (lit< tt) (lit< tt)
    (λ h. absurd (omega (arith, h))) refl (record { fresh = refl; mine = refl }))

pub kept_16 : IsKept small (before 16)
unfolding state
kept_16 = next 15 kept_15 (filled (before 15) 1 3 0 (lit< tt) (lit< tt) (lit< tt) (lit< tt)
    (λ h. absurd (omega (arith, h))) refl (record { fresh = refl; mine = refl }))

kept_17 : IsKept small (before 17)
unfolding machine word_at state
kept_17 = next 16 kept_16 (record {
  by = λ _. lit< tt;
  as_kind = record {
    life = refl;
    there = lit< tt;
    bucket = 0;
    before = 0;
    place = inr (refl, lit< tt);
    linked = λ x h. at_link (λ y. IsLinkedVertex small (before 16) y) 0 x h (record { linked = refl; vertex = refl });
    unmarked = refl;
    gap = record {
      bucket_word = λ j h t. omega (arith, t);
      bucket = λ x h. at_link (λ y. word_at small (before 16) (key_at small y) % 1 ≡ 0) 0 x h refl;
      below = λ x h. at_link (λ y. word_at small (before 16) (key_at small y) < 2) 0 x h (lit< tt);
      above = λ ne. absurd (ne refl);
    };
    word = refl;
    fresh = record { fresh = refl; mine = refl };
    filled = record { key_word = refl; key_fits = lit< tt; link_word = refl; second_word = refl; third_word = refl };
    pass = refl;
  };
})

kept_18 : IsKept small (before 18)
unfolding state
kept_18 = next 17 kept_17 (withdrawn (before 17) (lit< tt) refl)

-- the first edge is added: events 18 to 25

pub kept_19 : IsKept small (before 19)
unfolding machine word_at state
kept_19 = next 18 kept_18 (announced (before 18) 0 (lit< tt) refl refl)

kept_20 : IsKept small (before 20)
unfolding machine word_at state
kept_20 = next 19 kept_19 (record {
  by = λ _. lit< tt;
  as_kind = record {
    life = refl;
    there = lit< tt;
    place = refl;
    seen = refl;
    word = refl;
    holds_none = none_fresh
        (before 19) refl;
    limit = lit< tt;
  };
})

kept_21 : IsKept small (before 21)
unfolding state
kept_21 = next 20 kept_20 (filled (before 20) 2 0 2 (lit< tt) (lit< tt) (lit< tt) (lit< tt)
    (λ h. absurd (omega (arith, h))) refl (record { fresh = refl; mine = refl }))

kept_22 : IsKept small (before 22)
unfolding state
kept_22 = next 21 kept_21 (filled (before 21) 2 1 (pack nowhere 0 1) (lit< tt) (lit< tt) (lit< tt) (lit< tt)
    (λ _. (refl, refl)) refl (record { fresh = refl; mine = refl }))

kept_23 : IsKept small (before 23)
unfolding state
kept_23 = next 22 kept_22 (filled (before 22) 2 2 (pack 1 0 1) (lit< tt) (lit< tt) (lit< tt) (lit< tt)
    (λ h. absurd (omega (arith, h))) refl (record { fresh = refl; mine = refl }))

pub kept_24 : IsKept small (before 24)
unfolding state
kept_24 = next 23 kept_23 (filled (before 23) 2 3 5 (lit< tt) (lit< tt) (lit< tt) (lit< tt)
    (λ h. absurd (omega (arith, h))) refl (record { fresh = refl; mine = refl }))

kept_25 : IsKept small (before 25)
unfolding machine word_at state key_of
kept_25 = next 24 kept_24 (record {
  by = λ _. lit< tt;
  as_kind = record {
    life = refl;
    there = lit< tt;
    source = record { there = lit< tt; life = refl; used = tt; vertex = refl };
    before = 0;
    place = inl (refl, lit< tt);
    linked = λ x h. absurd (omega (arith, h));
    unmarked = refl;
    gap = record { below = λ x h. absurd (omega (arith, h)); above = λ ne. absurd (ne refl) };
    word = refl;
    fresh = record { fresh = refl; mine = refl };
    filled = record {
      key_word = refl;
      key_fits = lit< tt;
      link_word = refl;
      second_word = refl;
      third_word = refl;
      some
          = lit≤ tt;
      weight_fits = lit< tt;
    };
    target_key = refl;
    source_met = linked_met small (before 24) 0 refl 0 refl;
    target = record { there = lit< tt; life = refl; used = tt; vertex = refl };
    target_met = linked_met small (before 24) 0 refl 1 refl;
    pass = refl;
  };
})

kept_26 : IsKept small (before 26)
unfolding state
kept_26 = next 25 kept_25 (withdrawn (before 25) (lit< tt) refl)

-- it is removed: events 26 to 30

pub kept_27 : IsKept small (before 27)
unfolding machine word_at state
kept_27 = next 26 kept_26 (announced (before 26) 0 (lit< tt) refl refl)

pub kept_28 : IsKept small (before 28)
unfolding machine word_at state link_of
kept_28 = next 27 kept_27 (record {
  by = λ _. lit< tt;
  as_kind = record {
    life = refl;
    there = lit< tt;
    place = refl;
    vertex = record { there = lit< tt; life = refl; used = tt; vertex = refl };
    moment = before 27;
    before = whole (before 27);
    since = lit< tt;
    edge = first_life 2;
    link = event 24;
    linked = refl;
    from = refl;
    unmarked = refl;
    word = refl;
    met = linked_met small (before 27) 0 refl 0 refl;
    pass = refl;
    limit = lit< tt;
  };
})

pub kept_29 : IsKept small (before 29)
unfolding machine word_at state
kept_29 = next 28 kept_28 (record {
  by = λ _. lit< tt;
  as_kind = record {
    life = refl;
    there = lit< tt;
    place = refl;
    linked = record { linked = refl; edge = refl };
    unmarked = refl;
    word = refl;
    raised = record {
      number = 27;
      since = lit< tt;
      raise = event 27;
      at = refl;
      kind = refl;
      by = refl;
      vertex = refl;
      linked = refl;
    };
    pass = refl;
  };
})

kept_30 : IsKept small (before 30)
unfolding machine word_at state
kept_30 = next 29 kept_29 (record {
  by = λ _. lit< tt;
  as_kind = record {
    life = refl;
    there = lit< tt;
    source = record { there = lit< tt; life = refl; used = tt; vertex = refl };
    before = 0;
    place = inl (refl, lit< tt);
    before_linked = λ x h. absurd (omega (arith, h));
    unmarked = refl;
    leads = refl;
    linked = record { linked = refl; edge = refl };
    dead = refl;
    source_met = linked_met small (before 29) 0 refl 0 refl;
    word = refl;
    pass = refl;
  };
})

kept_31 : IsKept small (before 31)
unfolding state
kept_31 = next 30 kept_30 (withdrawn (before 30) (lit< tt) refl)

-- the second edge is added: events 31 to 38

pub kept_32 : IsKept small (before 32)
unfolding machine word_at state
kept_32 = next 31 kept_31 (announced (before 31) 0 (lit< tt) refl refl)

kept_33 : IsKept small (before 33)
unfolding machine word_at state
kept_33 = next 32 kept_32 (record {
  by = λ _. lit< tt;
  as_kind = record {
    life = refl;
    there = lit< tt;
    place = refl;
    seen = refl;
    word = refl;
    holds_none = none_fresh
        (before 32) refl;
    limit = lit< tt;
  };
})

kept_34 : IsKept small (before 34)
unfolding state
kept_34 = next 33 kept_33 (filled (before 33) 3 0 2 (lit< tt) (lit< tt) (lit< tt) (lit< tt)
    (λ h. absurd (omega (arith, h))) refl (record { fresh = refl; mine = refl }))

kept_35 : IsKept small (before 35)
unfolding state
kept_35 = next 34 kept_34 (filled (before 34) 3 1 (pack nowhere 0 1) (lit< tt) (lit< tt) (lit< tt) (lit< tt)
    (λ _. (refl, refl)) refl (record { fresh = refl; mine = refl }))

kept_36 : IsKept small (before 36)
unfolding state
kept_36 = next 35 kept_35 (filled (before 35) 3 2 (pack 1 0 1) (lit< tt) (lit< tt) (lit< tt) (lit< tt)
    (λ h. absurd (omega (arith, h))) refl (record { fresh = refl; mine = refl }))

pub kept_37 : IsKept small (before 37)
unfolding state
kept_37 = next 36 kept_36 (filled (before 36) 3 3 6 (lit< tt) (lit< tt) (lit< tt) (lit< tt)
    (λ h. absurd (omega (arith, h))) refl (record { fresh = refl; mine = refl }))

kept_38 : IsKept small (before 38)
unfolding machine word_at state key_of
kept_38 = next 37 kept_37 (record {
  by = λ _. lit< tt;
  as_kind = record {
    life = refl;
    there = lit< tt;
    source = record { there = lit< tt; life = refl; used = tt; vertex = refl };
    before = 0;
    place = inl (refl, lit< tt);
    linked = λ x h. absurd (omega (arith, h));
    unmarked = refl;
    gap = record { below = λ x h. absurd (omega (arith, h)); above = λ ne. absurd (ne refl) };
    word = refl;
    fresh = record { fresh = refl; mine = refl };
    filled = record {
      key_word = refl;
      key_fits = lit< tt;
      link_word = refl;
      second_word = refl;
      third_word = refl;
      some
          = lit≤ tt;
      weight_fits = lit< tt;
    };
    target_key = refl;
    source_met = linked_met small (before 37) 0 refl 0 refl;
    target = record { there = lit< tt; life = refl; used = tt; vertex = refl };
    target_met = linked_met small (before 37) 0 refl 1 refl;
    pass = refl;
  };
})

kept_39 : IsKept small (before 39)
unfolding state
kept_39 = next 38 kept_38 (withdrawn (before 38) (lit< tt) refl)

-- its source is removed: events 39 to 44

pub kept_40 : IsKept small (before 40)
unfolding machine word_at state
kept_40 = next 39 kept_39 (announced (before 39) 0 (lit< tt) refl refl)

pub kept_41 : IsKept small (before 41)
unfolding machine word_at state
kept_41 = next 40 kept_40 (record {
  by = λ _. lit< tt;
  as_kind = record {
    life = refl;
    there = lit< tt;
    place = refl;
    linked = record { linked = refl; vertex = refl };
    unmarked = refl;
    word = refl;
    pass = refl;
  };
})

pub kept_42 : IsKept small (before 42)
unfolding machine word_at state
kept_42 = next 41 kept_41 (record {
  by = λ _. lit< tt;
  as_kind = record {
    life = refl;
    there = lit< tt;
    bucket = 0;
    before = 0;
    place = inl (refl, lit< tt);
    before_linked = λ x h. absurd (omega (arith, h));
    unmarked = refl;
    leads = refl;
    linked = record { linked = refl; vertex = refl };
    dead = refl;
    word = refl;
    pass = refl;
  };
})

kept_43 : IsKept small (before 43)
unfolding machine word_at state
kept_43 = next 42 kept_42 (record {
  by = λ _. lit< tt;
  as_kind = record {
    life = refl;
    there = lit< tt;
    place = refl;
    spent = record { spent = refl; vertex = refl; mine = refl };
    unmarked
        = refl;
    word = refl;
  };
})

kept_44 : IsKept small (before 44)
unfolding machine word_at state
kept_44 = next 43 kept_43 (record {
  by = λ _. lit< tt;
  as_kind = record {
    life = refl;
    there = lit< tt;
    place = refl;
    linked = record { linked = refl; edge = refl };
    source = record { there = lit< tt; life = refl; used = tt; vertex = refl };
    spent = record { spent = refl; vertex = refl; mine = refl };
    before = second_at small 0;
    frozen = record { head = refl; at = inl refl };
    leads = refl;
    unmarked = refl;
    word = refl;
  };
})

kept_45 : IsKept small (before 45)
unfolding state
kept_45 = next 44 kept_44 (withdrawn (before 44) (lit< tt) refl)

-- the epoch is moved on, and two nodes are given back: events 45 to 50

pub kept_46 : IsKept small (before 46)
unfolding machine word_at state
kept_46 = next 45 kept_45 (moved (before 45) 0 (lit< tt) refl (inl refl) refl refl (lit< tt))

kept_47 : IsKept small (before 47)
unfolding machine word_at state
kept_47 = next 46 kept_46 (moved (before 46) 1 (lit< tt) refl (inl refl) refl refl (lit< tt))

kept_48 : IsKept small (before 48)
unfolding machine word_at state
kept_48 = next 47 kept_47 (record {
  by = λ _. lit< tt;
  as_kind = record {
    life = refl;
    there = lit< tt;
    place = refl;
    next = 4;
    next_there = inl (lit< tt);
    word = refl;
    ripe = ripe (before 47) 3 (record { rest = drop 47 (before 47); whole = refl }) refl refl refl refl;
    own_list = λ h. absurd (true≢false (sym h));
    list = on_one (before 47) 3 (frozen_list (before 47) refl refl refl) refl;
  };
})

kept_49 : IsKept small (before 49)
unfolding machine word_at state
kept_49 = next 48 kept_48 (record {
  by = λ _. lit< tt;
  as_kind = record {
    life = refl;
    there = lit< tt;
    place = refl;
    ripe = ripe (before 48) 3 (record { rest = drop 47 (before 48); whole = refl }) refl refl refl refl;
    stored = refl;
    ready = refl;
    word = refl;
  };
})

kept_50 : IsKept small (before 50)
unfolding machine word_at state
kept_50 = next 49 kept_49 (record {
  by = λ _. lit< tt;
  as_kind = record {
    life = refl;
    there = lit< tt;
    place = refl;
    next = 3;
    next_there = inl (lit< tt);
    word = refl;
    ripe = ripe (before 49) 0 (record { rest = drop 47 (before 49); whole = refl }) refl refl refl refl;
    own_list = λ _. frozen_list (before 49) refl refl refl;
    list = on_none (before 49) 0 refl;
  };
})

kept_51 : IsKept small (before 51)
unfolding machine word_at state
kept_51 = next 50 kept_50 (record {
  by = λ _. lit< tt;
  as_kind = record {
    life = refl;
    there = lit< tt;
    place = refl;
    ripe = ripe (before 50) 0 (record { rest = drop 47 (before 50); whole = refl }) refl refl refl refl;
    stored = refl;
    ready = refl;
    word = refl;
  };
})

-- one of them is taken again: events 51 and 52

kept_52 : IsKept small (before 52)
unfolding machine word_at state
kept_52 = next 51 kept_51 (announced (before 51) 2 (lit< tt) refl refl)

kept_53 : IsKept small (before 53)
unfolding machine word_at state
kept_53 = next 52 kept_52 (record {
  by = λ _. lit< tt;
  as_kind = record {
    life = refl;
    there = lit< tt;
    place = refl;
    seen = refl;
    word = refl;
    holds_none = none_fresh
        (before 52) refl;
    limit = lit< tt;
  };
})

pub two_lives_kept : IsKept small two_lives
two_lives_kept = kept_53
