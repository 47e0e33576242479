-- The worked journal in which edges are replaced is kept: its events, one by one.
use Rattle.std.proofs.Common.{◌≡◌, ℕ, true≢false, List, [], ◌∷◌, ◌++◌, take, drop, get_or, refl, sym, arith, inl, inr}
use Rattle.std.proofs.Common.{lit<, lit≤}
use Rattle.packed_link.specs.Link.{pack, nowhere}
use Rattle.packed_link.specs.Layout.{link_at}
use Rattle.core_journal.specs.declared.event.Event.{Event}
use Rattle.core_journal.specs.Event.{blank}
use Rattle.core_journal.specs.Life.{key_of, link_of}
use Rattle.core_journal.specs.Machine.{machine, word_at}
use Rattle.core_journal.specs.Prefix.{IsPrefix}
use Rattle.core_journal.specs.State.{Spent, state}
use Rattle.core_journal.specs.Worked.{small, first_life}
use Rattle.core_kept.specs.Kept.{Allowed, IsKept}
use Rattle.core_kept.specs.Nodes.{node_in, IsRipe}
use Rattle.core_worked.specs.Replacing.{replacing_journal}
use Rattle.core_worked.specs.TwoLives.{two_lives}
use Rattle.core_kept.proofs.Induction.{kept_snoc}
use Rattle.core_worked.proofs.KnownSteps.{front_kept}
use Rattle.core_lists.proofs.MetWordsLead.{linked_met}
use Rattle.core_worked.proofs.SmallSteps.{whole, none_fresh, announced, filled, withdrawn, moved, on_none}
use Rattle.core_worked.proofs.TwoLives.{two_lives_kept}

-- a front of the journal, and the event of a number
abbrev pub first : ℕ → List Event
first n = take n replacing_journal

abbrev pub event : ℕ → Event
event n = get_or replacing_journal n blank

next : (n : ℕ) → IsKept small (first n) → Allowed small (first n) (event n) → IsKept small (first n ++ event n ∷ [])
next n = kept_snoc small (first n) (event n)

-- a node that was spent by event 73 is ripe once the epoch is 2
ripe : (past : List Event) (x : ℕ) → IsPrefix (first 76) past → (node_in small past x).mode ≡ Spent →
    (node_in small past x).who ≡ 0 → (node_in small (first 74) x).mode ≡ Spent → (node_in small (first 74) x).tag ≡
    (node_in small past x).tag
    → IsRipe small past 0 x
unfolding machine word_at
ripe past x p spent mine was same = record {
  stamp = 0;
  stamped = record {
    spent = record { spent = spent; mine = mine };
    when = first 74;
    when_before = record { rest = drop 74 (first 76) ++ p.rest; whole = p.whole };
    when_spent = was;
    when_life = same;
    when_epoch = lit≤ tt;
  };
  shown = first 76;
  shown_before = p;
  shown_epoch = lit≤ tt;
}

pub kept_26 : IsKept small (first 26)
kept_26 = front_kept two_lives two_lives_kept 26

-- the edge is replaced: events 26 to 34

pub kept_27 : IsKept small (first 27)
unfolding machine word_at state
kept_27 = next 26 kept_26 (announced (first 26) 0 (lit< tt) refl refl)

pub kept_28 : IsKept small (first 28)
unfolding machine word_at state
kept_28 = next 27 kept_27 (record {
  by = λ _. lit< tt;
  as_kind = record {
    life = refl;
    there = lit< tt;
    place = refl;
    seen = refl;
    word = refl;
    holds_none = none_fresh
        (first 27) refl;
    limit = lit< tt;
  };
})

pub kept_29 : IsKept small (first 29)
unfolding state
kept_29 = next 28 kept_28 (filled (first 28) 3 0 2 (lit< tt) (lit< tt) (lit< tt) (lit< tt)
    (λ h. absurd (omega (arith, h))) refl (record { fresh = refl; mine = refl }))

pub kept_30 : IsKept small (first 30)
unfolding state
kept_30 = next 29 kept_29 (filled (first 29) 3 1 (pack nowhere 0 1) (lit< tt) (lit< tt) (lit< tt) (lit< tt)
    (λ _. (refl, refl)) refl (record { fresh = refl; mine = refl }))

pub kept_31 : IsKept small (first 31)
unfolding state
kept_31 = next 30 kept_30 (filled (first 30) 3 2 (pack 1 0 1) (lit< tt) (lit< tt) (lit< tt) (lit< tt)
    (λ h. absurd (omega (arith, h))) refl (record { fresh = refl; mine = refl }))

pub kept_32 : IsKept small (first 32)
unfolding state
kept_32 = next 31 kept_31 (filled (first 31) 3 3 6 (lit< tt) (lit< tt) (lit< tt) (lit< tt)
    (λ h. absurd (omega (arith, h))) refl (record { fresh = refl; mine = refl }))

pub kept_33 : IsKept small (first 33)
unfolding machine word_at state link_of
kept_33 = next 32 kept_32 (record {
  by = λ _. lit< tt;
  as_kind = record {
    life = refl;
    there = lit< tt;
    place = refl;
    vertex = record { there = lit< tt; life = refl; used = tt; vertex = refl };
    moment = first 32;
    before = whole (first 32);
    since = lit< tt;
    edge = first_life 2;
    link = event 24;
    linked = refl;
    from = refl;
    unmarked = refl;
    word = refl;
    met = linked_met small (first 32) 0 refl 0 refl;
    pass = refl;
    limit = lit< tt;
  };
})

pub kept_34 : IsKept small (first 34)
unfolding machine word_at state
kept_34 = next 33 kept_33 (record {
  by = λ _. lit< tt;
  as_kind = record {
    life = refl;
    there = lit< tt;
    old_life = refl;
    old_there = lit< tt;
    place = refl;
    linked = record { linked = refl; edge = refl };
    unmarked = refl;
    word = refl;
    fresh = record { fresh = refl; mine = refl };
    filled = record {
      key_word = refl;
      key_fits = lit< tt;
      link_word = refl;
      second_word = refl;
      third_word = refl;
      some
          = lit≤ tt;
      weight_fits = lit< tt;
    };
    key = refl;
    source = refl;
    target = refl;
    other = λ h. omega (arith, h);
    raised = record {
      number = 32;
      since = lit< tt;
      raise = event 32;
      at = refl;
      kind = refl;
      by = refl;
      vertex = refl;
      linked = refl;
    };
    pass = refl;
  };
})

pub kept_35 : IsKept small (first 35)
unfolding state
kept_35 = next 34 kept_34 (withdrawn (first 34) (lit< tt) refl)

-- it is replaced again: events 35 to 43

pub kept_36 : IsKept small (first 36)
unfolding machine word_at state
kept_36 = next 35 kept_35 (announced (first 35) 0 (lit< tt) refl refl)

pub kept_37 : IsKept small (first 37)
unfolding machine word_at state
kept_37 = next 36 kept_36 (record {
  by = λ _. lit< tt;
  as_kind = record {
    life = refl;
    there = lit< tt;
    place = refl;
    seen = refl;
    word = refl;
    holds_none = none_fresh
        (first 36) refl;
    limit = lit< tt;
  };
})

pub kept_38 : IsKept small (first 38)
unfolding state
kept_38 = next 37 kept_37 (filled (first 37) 4 0 2 (lit< tt) (lit< tt) (lit< tt) (lit< tt)
    (λ h. absurd (omega (arith, h))) refl (record { fresh = refl; mine = refl }))

pub kept_39 : IsKept small (first 39)
unfolding state
kept_39 = next 38 kept_38 (filled (first 38) 4 1 (pack nowhere 0 1) (lit< tt) (lit< tt) (lit< tt) (lit< tt)
    (λ _. (refl, refl)) refl (record { fresh = refl; mine = refl }))

pub kept_40 : IsKept small (first 40)
unfolding state
kept_40 = next 39 kept_39 (filled (first 39) 4 2 (pack 1 0 1) (lit< tt) (lit< tt) (lit< tt) (lit< tt)
    (λ h. absurd (omega (arith, h))) refl (record { fresh = refl; mine = refl }))

pub kept_41 : IsKept small (first 41)
unfolding state
kept_41 = next 40 kept_40 (filled (first 40) 4 3 7 (lit< tt) (lit< tt) (lit< tt) (lit< tt)
    (λ h. absurd (omega (arith, h))) refl (record { fresh = refl; mine = refl }))

pub kept_42 : IsKept small (first 42)
unfolding machine word_at state link_of
kept_42 = next 41 kept_41 (record {
  by = λ _. lit< tt;
  as_kind = record {
    life = refl;
    there = lit< tt;
    place = refl;
    vertex = record { there = lit< tt; life = refl; used = tt; vertex = refl };
    moment = first 41;
    before = whole (first 41);
    since = lit< tt;
    edge = first_life 3;
    link = event 33;
    linked = refl;
    from = refl;
    unmarked = refl;
    word = refl;
    met = linked_met small (first 41) 0 refl 0 refl;
    pass = refl;
    limit = lit< tt;
  };
})

pub kept_43 : IsKept small (first 43)
unfolding machine word_at state
kept_43 = next 42 kept_42 (record {
  by = λ _. lit< tt;
  as_kind = record {
    life = refl;
    there = lit< tt;
    old_life = refl;
    old_there = lit< tt;
    place = refl;
    linked = record { linked = refl; edge = refl };
    unmarked = refl;
    word = refl;
    fresh = record { fresh = refl; mine = refl };
    filled = record {
      key_word = refl;
      key_fits = lit< tt;
      link_word = refl;
      second_word = refl;
      third_word = refl;
      some
          = lit≤ tt;
      weight_fits = lit< tt;
    };
    key = refl;
    source = refl;
    target = refl;
    other = λ h. omega (arith, h);
    raised = record {
      number = 41;
      since = lit< tt;
      raise = event 41;
      at = refl;
      kind = refl;
      by = refl;
      vertex = refl;
      linked = refl;
    };
    pass = refl;
  };
})

pub kept_44 : IsKept small (first 44)
unfolding state
kept_44 = next 43 kept_43 (withdrawn (first 43) (lit< tt) refl)

-- it is removed, and all three nodes are unlinked: events 44 to 50

pub kept_45 : IsKept small (first 45)
unfolding machine word_at state
kept_45 = next 44 kept_44 (announced (first 44) 0 (lit< tt) refl refl)

pub kept_46 : IsKept small (first 46)
unfolding machine word_at state link_of
kept_46 = next 45 kept_45 (record {
  by = λ _. lit< tt;
  as_kind = record {
    life = refl;
    there = lit< tt;
    place = refl;
    vertex = record { there = lit< tt; life = refl; used = tt; vertex = refl };
    moment = first 45;
    before = whole (first 45);
    since = lit< tt;
    edge = first_life 4;
    link = event 42;
    linked = refl;
    from = refl;
    unmarked = refl;
    word = refl;
    met = linked_met small (first 45) 0 refl 0 refl;
    pass = refl;
    limit = lit< tt;
  };
})

pub kept_47 : IsKept small (first 47)
unfolding machine word_at state
kept_47 = next 46 kept_46 (record {
  by = λ _. lit< tt;
  as_kind = record {
    life = refl;
    there = lit< tt;
    place = refl;
    linked = record { linked = refl; edge = refl };
    unmarked = refl;
    word = refl;
    raised = record {
      number = 45;
      since = lit< tt;
      raise = event 45;
      at = refl;
      kind = refl;
      by = refl;
      vertex = refl;
      linked = refl;
    };
    pass = refl;
  };
})

pub kept_48 : IsKept small (first 48)
unfolding machine word_at state
kept_48 = next 47 kept_47 (record {
  by = λ _. lit< tt;
  as_kind = record {
    life = refl;
    there = lit< tt;
    source = record { there = lit< tt; life = refl; used = tt; vertex = refl };
    before = 0;
    place = inl (refl, lit< tt);
    before_linked = λ x h. absurd (omega (arith, h));
    unmarked = refl;
    leads = refl;
    linked = record { linked = refl; edge = refl };
    dead = refl;
    source_met = linked_met small (first 47) 0 refl 0 refl;
    word = refl;
    pass = refl;
  };
})

pub kept_49 : IsKept small (first 49)
unfolding machine word_at state
kept_49 = next 48 kept_48 (record {
  by = λ _. lit< tt;
  as_kind = record {
    life = refl;
    there = lit< tt;
    source = record { there = lit< tt; life = refl; used = tt; vertex = refl };
    before = 0;
    place = inl (refl, lit< tt);
    before_linked = λ x h. absurd (omega (arith, h));
    unmarked = refl;
    leads = refl;
    linked = record { linked = refl; edge = refl };
    dead = refl;
    source_met = linked_met small (first 48) 0 refl 0 refl;
    word = refl;
    pass = refl;
  };
})

pub kept_50 : IsKept small (first 50)
unfolding machine word_at state
kept_50 = next 49 kept_49 (record {
  by = λ _. lit< tt;
  as_kind = record {
    life = refl;
    there = lit< tt;
    source = record { there = lit< tt; life = refl; used = tt; vertex = refl };
    before = 0;
    place = inl (refl, lit< tt);
    before_linked = λ x h. absurd (omega (arith, h));
    unmarked = refl;
    leads = refl;
    linked = record { linked = refl; edge = refl };
    dead = refl;
    source_met = linked_met small (first 49) 0 refl 0 refl;
    word = refl;
    pass = refl;
  };
})

pub kept_51 : IsKept small (first 51)
unfolding state
kept_51 = next 50 kept_50 (withdrawn (first 50) (lit< tt) refl)

-- the pair is added anew: events 51 to 58

pub kept_52 : IsKept small (first 52)
unfolding machine word_at state
kept_52 = next 51 kept_51 (announced (first 51) 0 (lit< tt) refl refl)

pub kept_53 : IsKept small (first 53)
unfolding machine word_at state
kept_53 = next 52 kept_52 (record {
  by = λ _. lit< tt;
  as_kind = record {
    life = refl;
    there = lit< tt;
    place = refl;
    seen = refl;
    word = refl;
    holds_none = none_fresh
        (first 52) refl;
    limit = lit< tt;
  };
})

pub kept_54 : IsKept small (first 54)
unfolding state
kept_54 = next 53 kept_53 (filled (first 53) 5 0 2 (lit< tt) (lit< tt) (lit< tt) (lit< tt)
    (λ h. absurd (omega (arith, h))) refl (record { fresh = refl; mine = refl }))

pub kept_55 : IsKept small (first 55)
unfolding state
kept_55 = next 54 kept_54 (filled (first 54) 5 1 (pack nowhere 0 1) (lit< tt) (lit< tt) (lit< tt) (lit< tt)
    (λ _. (refl, refl)) refl (record { fresh = refl; mine = refl }))

pub kept_56 : IsKept small (first 56)
unfolding state
kept_56 = next 55 kept_55 (filled (first 55) 5 2 (pack 1 0 1) (lit< tt) (lit< tt) (lit< tt) (lit< tt)
    (λ h. absurd (omega (arith, h))) refl (record { fresh = refl; mine = refl }))

pub kept_57 : IsKept small (first 57)
unfolding state
kept_57 = next 56 kept_56 (filled (first 56) 5 3 8 (lit< tt) (lit< tt) (lit< tt) (lit< tt)
    (λ h. absurd (omega (arith, h))) refl (record { fresh = refl; mine = refl }))

pub kept_58 : IsKept small (first 58)
unfolding machine word_at state key_of
kept_58 = next 57 kept_57 (record {
  by = λ _. lit< tt;
  as_kind = record {
    life = refl;
    there = lit< tt;
    source = record { there = lit< tt; life = refl; used = tt; vertex = refl };
    before = 0;
    place = inl (refl, lit< tt);
    linked = λ x h. absurd (omega (arith, h));
    unmarked = refl;
    gap = record { below = λ x h. absurd (omega (arith, h)); above = λ ne. absurd (ne refl) };
    word = refl;
    fresh = record { fresh = refl; mine = refl };
    filled = record {
      key_word = refl;
      key_fits = lit< tt;
      link_word = refl;
      second_word = refl;
      third_word = refl;
      some
          = lit≤ tt;
      weight_fits = lit< tt;
    };
    target_key = refl;
    source_met = linked_met small (first 57) 0 refl 0 refl;
    target = record { there = lit< tt; life = refl; used = tt; vertex = refl };
    target_met = linked_met small (first 57) 0 refl 1 refl;
    pass = refl;
  };
})

pub kept_59 : IsKept small (first 59)
unfolding state
kept_59 = next 58 kept_58 (withdrawn (first 58) (lit< tt) refl)

-- that edge is replaced: events 59 to 67

pub kept_60 : IsKept small (first 60)
unfolding machine word_at state
kept_60 = next 59 kept_59 (announced (first 59) 0 (lit< tt) refl refl)

pub kept_61 : IsKept small (first 61)
unfolding machine word_at state
kept_61 = next 60 kept_60 (record {
  by = λ _. lit< tt;
  as_kind = record {
    life = refl;
    there = lit< tt;
    place = refl;
    seen = refl;
    word = refl;
    holds_none = none_fresh
        (first 60) refl;
    limit = lit< tt;
  };
})

pub kept_62 : IsKept small (first 62)
unfolding state
kept_62 = next 61 kept_61 (filled (first 61) 6 0 2 (lit< tt) (lit< tt) (lit< tt) (lit< tt)
    (λ h. absurd (omega (arith, h))) refl (record { fresh = refl; mine = refl }))

pub kept_63 : IsKept small (first 63)
unfolding state
kept_63 = next 62 kept_62 (filled (first 62) 6 1 (pack nowhere 0 1) (lit< tt) (lit< tt) (lit< tt) (lit< tt)
    (λ _. (refl, refl)) refl (record { fresh = refl; mine = refl }))

pub kept_64 : IsKept small (first 64)
unfolding state
kept_64 = next 63 kept_63 (filled (first 63) 6 2 (pack 1 0 1) (lit< tt) (lit< tt) (lit< tt) (lit< tt)
    (λ h. absurd (omega (arith, h))) refl (record { fresh = refl; mine = refl }))

pub kept_65 : IsKept small (first 65)
unfolding state
kept_65 = next 64 kept_64 (filled (first 64) 6 3 9 (lit< tt) (lit< tt) (lit< tt) (lit< tt)
    (λ h. absurd (omega (arith, h))) refl (record { fresh = refl; mine = refl }))

pub kept_66 : IsKept small (first 66)
unfolding machine word_at state link_of
kept_66 = next 65 kept_65 (record {
  by = λ _. lit< tt;
  as_kind = record {
    life = refl;
    there = lit< tt;
    place = refl;
    vertex = record { there = lit< tt; life = refl; used = tt; vertex = refl };
    moment = first 65;
    before = whole (first 65);
    since = lit< tt;
    edge = first_life 5;
    link = event 57;
    linked = refl;
    from = refl;
    unmarked = refl;
    word = refl;
    met = linked_met small (first 65) 0 refl 0 refl;
    pass = refl;
    limit = lit< tt;
  };
})

pub kept_67 : IsKept small (first 67)
unfolding machine word_at state
kept_67 = next 66 kept_66 (record {
  by = λ _. lit< tt;
  as_kind = record {
    life = refl;
    there = lit< tt;
    old_life = refl;
    old_there = lit< tt;
    place = refl;
    linked = record { linked = refl; edge = refl };
    unmarked = refl;
    word = refl;
    fresh = record { fresh = refl; mine = refl };
    filled = record {
      key_word = refl;
      key_fits = lit< tt;
      link_word = refl;
      second_word = refl;
      third_word = refl;
      some
          = lit≤ tt;
      weight_fits = lit< tt;
    };
    key = refl;
    source = refl;
    target = refl;
    other = λ h. omega (arith, h);
    raised = record {
      number = 65;
      since = lit< tt;
      raise = event 65;
      at = refl;
      kind = refl;
      by = refl;
      vertex = refl;
      linked = refl;
    };
    pass = refl;
  };
})

pub kept_68 : IsKept small (first 68)
unfolding state
kept_68 = next 67 kept_67 (withdrawn (first 67) (lit< tt) refl)

-- its source is removed, and its list closed: events 68 to 73

pub kept_69 : IsKept small (first 69)
unfolding machine word_at state
kept_69 = next 68 kept_68 (announced (first 68) 0 (lit< tt) refl refl)

pub kept_70 : IsKept small (first 70)
unfolding machine word_at state
kept_70 = next 69 kept_69 (record {
  by = λ _. lit< tt;
  as_kind = record {
    life = refl;
    there = lit< tt;
    place = refl;
    linked = record { linked = refl; vertex = refl };
    unmarked = refl;
    word = refl;
    pass = refl;
  };
})

pub kept_71 : IsKept small (first 71)
unfolding machine word_at state
kept_71 = next 70 kept_70 (record {
  by = λ _. lit< tt;
  as_kind = record {
    life = refl;
    there = lit< tt;
    bucket = 0;
    before = 0;
    place = inl (refl, lit< tt);
    before_linked = λ x h. absurd (omega (arith, h));
    unmarked = refl;
    leads = refl;
    linked = record { linked = refl; vertex = refl };
    dead = refl;
    word = refl;
    pass = refl;
  };
})

pub kept_72 : IsKept small (first 72)
unfolding machine word_at state
kept_72 = next 71 kept_71 (record {
  by = λ _. lit< tt;
  as_kind = record {
    life = refl;
    there = lit< tt;
    place = refl;
    spent = record { spent = refl; vertex = refl; mine = refl };
    unmarked
        = refl;
    word = refl;
  };
})

pub kept_73 : IsKept small (first 73)
unfolding machine word_at state
kept_73 = next 72 kept_72 (record {
  by = λ _. lit< tt;
  as_kind = record {
    life = refl;
    there = lit< tt;
    place = refl;
    linked = record { linked = refl; edge = refl };
    source = record { there = lit< tt; life = refl; used = tt; vertex = refl };
    spent = record { spent = refl; vertex = refl; mine = refl };
    before = link_at small 5;
    frozen = record { head = refl; at = inr (5, refl, refl) };
    leads = refl;
    unmarked = refl;
    word = refl;
  };
})

pub kept_74 : IsKept small (first 74)
unfolding state
kept_74 = next 73 kept_73 (withdrawn (first 73) (lit< tt) refl)

-- the epoch is moved on, and the node of the first edge is given back: events 74 to 77

pub kept_75 : IsKept small (first 75)
unfolding machine word_at state
kept_75 = next 74 kept_74 (moved (first 74) 0 (lit< tt) refl (inl refl) refl refl (lit< tt))

pub kept_76 : IsKept small (first 76)
unfolding machine word_at state
kept_76 = next 75 kept_75 (moved (first 75) 1 (lit< tt) refl (inl refl) refl refl (lit< tt))

pub kept_77 : IsKept small (first 77)
unfolding machine word_at state
kept_77 = next 76 kept_76 (record {
  by = λ _. lit< tt;
  as_kind = record {
    life = refl;
    there = lit< tt;
    place = refl;
    next = 7;
    next_there = inl (lit< tt);
    word = refl;
    ripe = ripe (first 76) 2 (record { rest = drop 76 (first 76); whole = refl }) refl refl refl refl;
    own_list = λ h. absurd (true≢false (sym h));
    list = on_none (first 76) 2 refl;
  };
})

pub kept_78 : IsKept small (first 78)
unfolding machine word_at state
kept_78 = next 77 kept_77 (record {
  by = λ _. lit< tt;
  as_kind = record {
    life = refl;
    there = lit< tt;
    place = refl;
    ripe = ripe (first 77) 2 (record { rest = drop 76 (first 77); whole = refl }) refl refl refl refl;
    stored = refl;
    ready = refl;
    word = refl;
  };
})

pub replacing_kept : IsKept small replacing_journal
replacing_kept = kept_78
