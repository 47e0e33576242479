-- The worked journal of two callers at once is kept, and its steps are made by fronts that lag behind the journal.
use Rattle.std.proofs.Common.{ℕ, List, [], ◌∷◌, ◌++◌, take, drop, get_or, refl, arith, inl, inr, lit<, lit≤}
use Rattle.packed_link.specs.Link.{pack, nowhere}
use Rattle.packed_link.specs.Layout.{link_at, second_at}
use Rattle.core_journal.specs.declared.event.Event.{Event}
use Rattle.core_journal.specs.Event.{blank}
use Rattle.core_journal.specs.Life.{key_of}
use Rattle.core_journal.specs.Machine.{machine, word_at}
use Rattle.core_journal.specs.State.{state}
use Rattle.core_journal.specs.TwoCallers.{callers_journal}
use Rattle.core_journal.specs.Worked.{small, first_life}
use Rattle.core_lists.proofs.MetWordsLead.{linked_met}
use Rattle.core_rule.specs.Fronts.{MayMarkVertex, MayUnlinkVertex, MayFreezeHead, MayLinkEdge}
use Rattle.core_kept.specs.Kept.{Allowed, IsKept}
use Rattle.core_worked.specs.KnownSteps.{view_among, MakesNext}
use Rattle.core_kept.specs.Nodes.{IsLinkedVertex}
use Rattle.core_rule.specs.OwnEvents.{mark_vertex_event, unlink_vertex_event, link_edge_event, freeze_head_event}
use Rattle.core_worked.specs.TwoLives.{two_lives}
use Rattle.core_kept.proofs.Induction.{kept_snoc}
use Rattle.core_worked.proofs.KnownSteps.{front_kept, reached, met_vertex}
use Rattle.core_worked.proofs.SmallSteps.{whole, none_fresh, announced, filled, withdrawn, at_link}
use Rattle.core_worked.proofs.TwoLives.{two_lives_kept}

-- a front of the journal, and one more event
abbrev first : ℕ → List Event
first n = take n callers_journal

abbrev event : ℕ → Event
event n = get_or callers_journal n blank

next : (n : ℕ) → IsKept small (first n) → Allowed small (first n) (event n) → IsKept small (first n ++ event n ∷ [])
next n = kept_snoc small (first n) (event n)

-- the edge is filled while its target is removed: events 18 to 28

kept_19 : IsKept small (first 19)
unfolding machine word_at state
kept_19 = next 18 (front_kept two_lives two_lives_kept 18) (announced (first 18) 0 (lit< tt) refl refl)

kept_20 : IsKept small (first 20)
unfolding machine word_at state
kept_20 = next 19 kept_19 (record {
  by = λ _. lit< tt;
  as_kind = record {
    life = refl;
    there = lit< tt;
    place = refl;
    loaded = first 19;
    before = whole
        (first 19);
    word = refl;
    closed = refl;
  };
})

kept_21 : IsKept small (first 21)
unfolding machine word_at state
kept_21 = next 20 kept_20 (record {
  by = λ _. lit< tt;
  as_kind = record {
    life = refl;
    there = lit< tt;
    place = refl;
    seen = refl;
    word = refl;
    holds_none = none_fresh
        (first 20) refl;
    limit = lit< tt;
  };
})

kept_22 : IsKept small (first 22)
unfolding state
kept_22 = next 21 kept_21 (filled (first 21) 2 0 2 (lit< tt) (lit< tt) (lit< tt) (lit< tt)
    (λ h. absurd (omega (arith, h))) refl (record { fresh = refl; mine = refl }))

kept_23 : IsKept small (first 23)
unfolding machine word_at state
kept_23 = next 22 kept_22 (record {
  by = λ _. lit< tt;
  as_kind = record {
    life = refl;
    there = lit< tt;
    place = refl;
    linked = record { linked = refl; vertex = refl };
    unmarked = refl;
    word = refl;
    pass = refl;
  };
})

kept_24 : IsKept small (first 24)
unfolding state
kept_24 = next 23 kept_23 (filled (first 23) 2 1 (pack nowhere 0 1) (lit< tt) (lit< tt) (lit< tt) (lit< tt)
    (λ _. (refl, refl)) refl (record { fresh = refl; mine = refl }))

kept_25 : IsKept small (first 25)
unfolding machine word_at state
kept_25 = next 24 kept_24 (record {
  by = λ _. lit< tt;
  as_kind = record {
    life = refl;
    there = lit< tt;
    bucket = 0;
    before = 0;
    place = inr (refl, lit< tt);
    before_linked = λ x h. at_link (λ y. IsLinkedVertex small (first 24) y) 0 x h
        (record { linked = refl; vertex = refl });
    unmarked = refl;
    leads = refl;
    linked = record { linked = refl; vertex = refl };
    dead = refl;
    word = refl;
    pass = refl;
  };
})

kept_26 : IsKept small (first 26)
unfolding state
kept_26 = next 25 kept_25 (filled (first 25) 2 2 (pack 1 0 1) (lit< tt) (lit< tt) (lit< tt) (lit< tt)
    (λ h. absurd (omega (arith, h))) refl (record { fresh = refl; mine = refl }))

kept_27 : IsKept small (first 27)
unfolding machine word_at state
kept_27 = next 26 kept_26 (record {
  by = λ _. lit< tt;
  as_kind = record {
    life = refl;
    there = lit< tt;
    place = refl;
    spent = record { spent = refl; vertex = refl; mine = refl };
    unmarked
        = refl;
    word = refl;
  };
})

kept_28 : IsKept small (first 28)
unfolding state
kept_28 = next 27 kept_27 (filled (first 27) 2 3 5 (lit< tt) (lit< tt) (lit< tt) (lit< tt)
    (λ h. absurd (omega (arith, h))) refl (record { fresh = refl; mine = refl }))

kept_29 : IsKept small (first 29)
unfolding state
kept_29 = next 28 kept_28 (record {
  by = λ _. lit< tt;
  as_kind = record
      { life = refl; there = lit< tt; place = refl; word = refl; pass = refl };
})

-- it is linked, and caller 1 looks for it: events 29 to 32

kept_30 : IsKept small (first 30)
unfolding machine word_at state key_of
kept_30 = next 29 kept_29 (record {
  by = λ _. lit< tt;
  as_kind = record {
    life = refl;
    there = lit< tt;
    source = record { there = lit< tt; life = refl; used = tt; vertex = refl };
    before = 0;
    place = inl (refl, lit< tt);
    linked = λ x h. absurd (omega (arith, h));
    unmarked = refl;
    gap = record { below = λ x h. absurd (omega (arith, h)); above = λ ne. absurd (ne refl) };
    word = refl;
    fresh = record { fresh = refl; mine = refl };
    filled = record {
      key_word = refl;
      key_fits = lit< tt;
      link_word = refl;
      second_word = refl;
      third_word = refl;
      some
          = lit≤ tt;
      weight_fits = lit< tt;
    };
    target_key = refl;
    source_met = linked_met small (first 29) 0 refl 0 refl;
    target = record { there = lit< tt; life = refl; used = tt; vertex = refl };
    target_met = record { pass = refl; free = λ h. absurd (cc); fresh = λ h. absurd (cc); spent = λ _. lit< tt };
    pass = refl;
  };
})

kept_31 : IsKept small (first 31)
unfolding state
kept_31 = next 30 kept_30 (withdrawn (first 30) (lit< tt) refl)

kept_32 : IsKept small (first 32)
unfolding machine word_at state
kept_32 = next 31 kept_31 (record {
  by = λ _. lit< tt;
  as_kind = record {
    life = refl;
    there = lit< tt;
    place = refl;
    loaded = first 31;
    before = whole
        (first 31);
    word = refl;
    closed = refl;
  };
})

kept_33 : IsKept small (first 33)
unfolding state
kept_33 = next 32 kept_32 (record {
  by = λ _. lit< tt;
  as_kind = record
      { life = refl; there = lit< tt; place = refl; word = refl; pass = refl };
})

pub callers_kept : IsKept small callers_journal
callers_kept = kept_33

-- caller 1 opened its pass before caller 0 took a node, and marks the vertex behind that

pub among_mark : MayMarkVertex (view_among 1 20) (first_life 1)
unfolding state
among_mark = record {
  vertex = met_vertex (view_among 1 20) 1 (lit< tt) refl refl refl refl;
}

pub makes_mark : MakesNext callers_journal (view_among 1 20) 22 (pack nowhere 0 1)
    (mark_vertex_event (view_among 1 20) (first_life 1) (pack nowhere 0 1))
unfolding machine word_at
makes_mark = record {
  reaches = reached callers_journal callers_kept 1 20 22
      (record { rest = drop 20 (first 22); whole = refl }) refl (lit≤ tt);
  finds = refl;
  makes = refl;
}

-- it unlinks the vertex from the link of the one before it

pub among_unlink : MayUnlinkVertex (view_among 1 23) (link_at small 0) (pack 1 0 1) nowhere (first_life 1)
unfolding machine word_at state
among_unlink = record {
  pass = refl;
  before = inr (
    first_life 0,
    record {
      met = met_vertex (view_among 1 23) 0 (lit< tt) refl refl refl refl;
      place_is = refl;
    },
  );
  unmarked = refl;
  leads = refl;
  vertex = met_vertex (view_among 1 23) 1 (lit< tt) refl refl refl refl;
  dead = refl;
  next_is = refl;
}

pub makes_unlink : MakesNext callers_journal (view_among 1 23) 24 (pack 1 0 1)
    (unlink_vertex_event (view_among 1 23) (link_at small 0) (pack 1 0 1) nowhere (first_life 1))
unfolding machine word_at
makes_unlink = record {
  reaches = reached callers_journal callers_kept 1 23 24
      (record { rest = drop 23 (first 24); whole = refl }) refl (lit≤ tt);
  finds = refl;
  makes = refl;
}

-- it closes the list of the vertex

pub among_freeze : MayFreezeHead (view_among 1 25) (first_life 1)
unfolding state
among_freeze = record {
  life = record { there = lit< tt; tag = refl };
  spent = record
      { spent = refl; vertex = refl; mine = refl };
}

pub makes_freeze : MakesNext callers_journal (view_among 1 25) 26 (pack nowhere 0 1)
    (freeze_head_event (view_among 1 25) (first_life 1) (pack nowhere 0 1))
unfolding machine word_at
makes_freeze = record {
  reaches = reached callers_journal callers_kept 1 25 26
      (record { rest = drop 25 (first 26); whole = refl }) refl (lit≤ tt);
  finds = refl;
  makes = refl;
}

-- caller 0 links the edge; its target is spent by then, and its pass has met it all the same

pub among_link : MayLinkEdge (view_among 0 28) (second_at small 0) (pack nowhere 0 1) 2 (first_life 0) (first_life 1) 5
    (first_life 2)
unfolding machine word_at state
among_link = record {
  life = record { there = lit< tt; tag = refl };
  from = met_vertex (view_among 0 28) 0 (lit< tt) refl refl refl refl;
  before = inl refl;
  behind = λ ne. absurd (ne refl);
  unmarked = refl;
  fresh = record { fresh = refl; mine = refl };
  filled = record {
    key_word = refl;
    key_fits = lit< tt;
    link_word = refl;
    second_word = refl;
    third_word = refl;
    some =
        lit≤ tt;
    weight_fits = lit< tt;
  };
  to = record {
    life = record { there = lit< tt; tag = refl };
    met = record { pass = refl; free = λ h. absurd (cc); fresh = λ h. absurd (cc); spent = λ _. lit< tt };
    vertex = refl;
  };
  to_key = refl;
}

pub makes_link : MakesNext callers_journal (view_among 0 28) 29 (pack nowhere 0 1)
    (link_edge_event (view_among 0 28) (second_at small 0) (pack nowhere 0 1) 2 (first_life 0) (first_life 1) 5
    (first_life 2))
unfolding machine word_at
makes_link = record {
  reaches = reached callers_journal callers_kept 0 28 29
      (record { rest = drop 28 (first 29); whole = refl }) refl (lit≤ tt);
  finds = refl;
  makes = refl;
}
