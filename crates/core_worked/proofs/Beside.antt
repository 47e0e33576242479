-- The worked journal with links in front of others and behind others is kept, and tokens make its steps.
use Rattle.std.proofs.Common.{◌≡◌, ℕ, ◌<◌, ◌≤◌, true, true≢false, not, ◌==◌, List, [], ◌∷◌, ◌++◌, length, take, drop}
use Rattle.std.proofs.Common.{get_or, refl, sym, arith, inl, inr, lit<, lit≤}
use Rattle.std.specs.List.{list_all}
use Rattle.packed_link.specs.Link.{pack, nowhere}
use Rattle.packed_link.specs.Layout.{bucket_at, key_at, link_at, second_at}
use Rattle.core_journal.specs.declared.event.Event.{Event}
use Rattle.core_journal.specs.Event.{blank}
use Rattle.core_journal.specs.Life.{key_of, link_of}
use Rattle.core_journal.specs.Machine.{machine, word_at}
use Rattle.core_journal.specs.State.{state}
use Rattle.core_journal.specs.Worked.{small, first_life}
use Rattle.core_lists.proofs.MetWordsLead.{linked_met}
use Rattle.core_worked.specs.Beside.{beside_others}
use Rattle.core_kept.specs.Edges.{IsEdgeFrom}
use Rattle.core_rule.specs.Fronts.{MayLinkVertex, MayLinkEdge, MayUnlinkEdge, MayFreezeEdge}
use Rattle.core_kept.specs.Kept.{Allowed, IsKept}
use Rattle.core_worked.specs.KnownSteps.{view_beside, MakesNext}
use Rattle.core_kept.specs.Nodes.{IsLinkedVertex}
use Rattle.core_rule.specs.Owes.{Reaches}
use Rattle.core_rule.specs.OwnEvents.{link_vertex_event, link_edge_event, unlink_edge_event, freeze_edge_event}
use Rattle.core_worked.specs.TwoLives.{two_lives}
use Rattle.core_lists.proofs.FrozenToEndIsList.{has_keeps}
use Rattle.core_kept.proofs.Induction.{kept_snoc}
use Rattle.core_worked.proofs.KnownSteps.{front_kept, reached, met_vertex, met_edge}
use Rattle.core_worked.proofs.TwoLivesShown.{small_layout}
use Rattle.core_worked.proofs.SmallSteps.{whole, none_fresh, announced, filled, withdrawn, at_link}
use Rattle.core_worked.proofs.TwoLives.{two_lives_kept}

-- a front of the journal, and the event of a number
abbrev first : ℕ → List Event
first n = take n beside_others

abbrev event : ℕ → Event
event n = get_or beside_others n blank

next : (n : ℕ) → IsKept small (first n) → Allowed small (first n) (event n) → IsKept small (first n ++ event n ∷ [])
next n = kept_snoc small (first n) (event n)

-- a vertex is added in front: events 26 to 33

kept_27 : IsKept small (first 27)
unfolding machine word_at state
kept_27 = next 26 (front_kept two_lives two_lives_kept 26) (announced (first 26) 0 (lit< tt) refl refl)

kept_28 : IsKept small (first 28)
unfolding machine word_at state
kept_28 = next 27 kept_27 (record {
  by = λ _. lit< tt;
  as_kind = record {
    life = refl;
    there = lit< tt;
    place = refl;
    seen = refl;
    word = refl;
    holds_none = none_fresh
        (first 27) refl;
    limit = lit< tt;
  };
})

kept_29 : IsKept small (first 29)
unfolding state
kept_29 = next 28 kept_28 (filled (first 28) 3 0 0 (lit< tt) (lit< tt) (lit< tt) (lit< tt)
    (λ h. absurd (omega (arith, h))) refl (record { fresh = refl; mine = refl }))

kept_30 : IsKept small (first 30)
unfolding state
kept_30 = next 29 kept_29 (filled (first 29) 3 1 (pack 0 0 1) (lit< tt) (lit< tt) (lit< tt) (lit< tt)
    (λ _. (refl, refl)) refl (record { fresh = refl; mine = refl }))

kept_31 : IsKept small (first 31)
unfolding state
kept_31 = next 30 kept_30 (filled (first 30) 3 2 (pack nowhere 0 1) (lit< tt) (lit< tt) (lit< tt) (lit< tt)
    (λ h. absurd (omega (arith, h))) refl (record { fresh = refl; mine = refl }))

kept_32 : IsKept small (first 32)
unfolding state
kept_32 = next 31 kept_31 (filled (first 31) 3 3 0 (lit< tt) (lit< tt) (lit< tt) (lit< tt)
    (λ h. absurd (omega (arith, h))) refl (record { fresh = refl; mine = refl }))

kept_33 : IsKept small (first 33)
unfolding machine word_at state
kept_33 = next 32 kept_32 (record {
  by = λ _. lit< tt;
  as_kind = record {
    life = refl;
    there = lit< tt;
    bucket = 0;
    before = 0;
    place = inl (refl, lit< tt);
    linked = λ x h. absurd (omega (arith, h));
    unmarked = refl;
    gap = record {
      bucket_word = λ j h t. omega (arith, t);
      bucket = λ x h. absurd
          (omega (arith, h));
      below = λ x h. absurd (omega (arith, h));
      above = λ _. lit< tt;
    };
    word = refl;
    fresh = record { fresh = refl; mine = refl };
    filled = record { key_word = refl; key_fits = lit< tt; link_word = refl; second_word = refl; third_word = refl };
    pass = refl;
  };
})

kept_34 : IsKept small (first 34)
unfolding state
kept_34 = next 33 kept_33 (withdrawn (first 33) (lit< tt) refl)

-- an edge is added in front: events 34 to 41

kept_35 : IsKept small (first 35)
unfolding machine word_at state
kept_35 = next 34 kept_34 (announced (first 34) 0 (lit< tt) refl refl)

kept_36 : IsKept small (first 36)
unfolding machine word_at state
kept_36 = next 35 kept_35 (record {
  by = λ _. lit< tt;
  as_kind = record {
    life = refl;
    there = lit< tt;
    place = refl;
    seen = refl;
    word = refl;
    holds_none = none_fresh
        (first 35) refl;
    limit = lit< tt;
  };
})

kept_37 : IsKept small (first 37)
unfolding state
kept_37 = next 36 kept_36 (filled (first 36) 4 0 0 (lit< tt) (lit< tt) (lit< tt) (lit< tt)
    (λ h. absurd (omega (arith, h))) refl (record { fresh = refl; mine = refl }))

kept_38 : IsKept small (first 38)
unfolding state
kept_38 = next 37 kept_37 (filled (first 37) 4 1 (pack 2 0 1) (lit< tt) (lit< tt) (lit< tt) (lit< tt)
    (λ _. (refl, refl)) refl (record { fresh = refl; mine = refl }))

kept_39 : IsKept small (first 39)
unfolding state
kept_39 = next 38 kept_38 (filled (first 38) 4 2 (pack 3 0 1) (lit< tt) (lit< tt) (lit< tt) (lit< tt)
    (λ h. absurd (omega (arith, h))) refl (record { fresh = refl; mine = refl }))

kept_40 : IsKept small (first 40)
unfolding state
kept_40 = next 39 kept_39 (filled (first 39) 4 3 7 (lit< tt) (lit< tt) (lit< tt) (lit< tt)
    (λ h. absurd (omega (arith, h))) refl (record { fresh = refl; mine = refl }))

kept_41 : IsKept small (first 41)
unfolding machine word_at state key_of
kept_41 = next 40 kept_40 (record {
  by = λ _. lit< tt;
  as_kind = record {
    life = refl;
    there = lit< tt;
    source = record { there = lit< tt; life = refl; used = tt; vertex = refl };
    before = 0;
    place = inl (refl, lit< tt);
    linked = λ x h. absurd (omega (arith, h));
    unmarked = refl;
    gap = record { below = λ x h. absurd (omega (arith, h)); above = λ _. lit< tt };
    word = refl;
    fresh = record { fresh = refl; mine = refl };
    filled = record {
      key_word = refl;
      key_fits = lit< tt;
      link_word = refl;
      second_word = refl;
      third_word = refl;
      some
          = lit≤ tt;
      weight_fits = lit< tt;
    };
    target_key = refl;
    source_met = linked_met small (first 40) 0 refl 0 refl;
    target = record { there = lit< tt; life = refl; used = tt; vertex = refl };
    target_met = linked_met small (first 40) 0 refl 3 refl;
    pass = refl;
  };
})

kept_42 : IsKept small (first 42)
unfolding state
kept_42 = next 41 kept_41 (withdrawn (first 41) (lit< tt) refl)

-- the first edge is removed behind it: events 42 to 46

kept_43 : IsKept small (first 43)
unfolding machine word_at state
kept_43 = next 42 kept_42 (announced (first 42) 0 (lit< tt) refl refl)

kept_44 : IsKept small (first 44)
unfolding machine word_at state link_of
kept_44 = next 43 kept_43 (record {
  by = λ _. lit< tt;
  as_kind = record {
    life = refl;
    there = lit< tt;
    place = refl;
    vertex = record { there = lit< tt; life = refl; used = tt; vertex = refl };
    moment = first 43;
    before = whole (first 43);
    since = lit< tt;
    edge = first_life 2;
    link = event 24;
    linked = refl;
    from = refl;
    unmarked = refl;
    word = refl;
    met = linked_met small (first 43) 0 refl 0 refl;
    pass = refl;
    limit = lit< tt;
  };
})

kept_45 : IsKept small (first 45)
unfolding machine word_at state
kept_45 = next 44 kept_44 (record {
  by = λ _. lit< tt;
  as_kind = record {
    life = refl;
    there = lit< tt;
    place = refl;
    linked = record { linked = refl; edge = refl };
    unmarked = refl;
    word = refl;
    raised = record {
      number = 43;
      since = lit< tt;
      raise = event 43;
      at = refl;
      kind = refl;
      by = refl;
      vertex = refl;
      linked = refl;
    };
    pass = refl;
  };
})

kept_46 : IsKept small (first 46)
unfolding machine word_at state
kept_46 = next 45 kept_45 (record {
  by = λ _. lit< tt;
  as_kind = record {
    life = refl;
    there = lit< tt;
    source = record { there = lit< tt; life = refl; used = tt; vertex = refl };
    before = 4;
    place = inr (refl, lit< tt);
    before_linked = λ x h. at_link (λ y. IsEdgeFrom small (first 45) (first_life 0) y) 4 x h
        (record { linked = record { linked = refl; edge = refl }; from = refl });
    unmarked = refl;
    leads = refl;
    linked = record { linked = refl; edge = refl };
    dead = refl;
    source_met = linked_met small (first 45) 0 refl 0 refl;
    word = refl;
    pass = refl;
  };
})

kept_47 : IsKept small (first 47)
unfolding state
kept_47 = next 46 kept_46 (withdrawn (first 46) (lit< tt) refl)

-- it's added behind it again: events 47 to 54

kept_48 : IsKept small (first 48)
unfolding machine word_at state
kept_48 = next 47 kept_47 (announced (first 47) 0 (lit< tt) refl refl)

kept_49 : IsKept small (first 49)
unfolding machine word_at state
kept_49 = next 48 kept_48 (record {
  by = λ _. lit< tt;
  as_kind = record {
    life = refl;
    there = lit< tt;
    place = refl;
    seen = refl;
    word = refl;
    holds_none = none_fresh
        (first 48) refl;
    limit = lit< tt;
  };
})

kept_50 : IsKept small (first 50)
unfolding state
kept_50 = next 49 kept_49 (filled (first 49) 5 0 2 (lit< tt) (lit< tt) (lit< tt) (lit< tt)
    (λ h. absurd (omega (arith, h))) refl (record { fresh = refl; mine = refl }))

kept_51 : IsKept small (first 51)
unfolding state
kept_51 = next 50 kept_50 (filled (first 50) 5 1 (pack nowhere 0 1) (lit< tt) (lit< tt) (lit< tt) (lit< tt)
    (λ _. (refl, refl)) refl (record { fresh = refl; mine = refl }))

kept_52 : IsKept small (first 52)
unfolding state
kept_52 = next 51 kept_51 (filled (first 51) 5 2 (pack 1 0 1) (lit< tt) (lit< tt) (lit< tt) (lit< tt)
    (λ h. absurd (omega (arith, h))) refl (record { fresh = refl; mine = refl }))

kept_53 : IsKept small (first 53)
unfolding state
kept_53 = next 52 kept_52 (filled (first 52) 5 3 6 (lit< tt) (lit< tt) (lit< tt) (lit< tt)
    (λ h. absurd (omega (arith, h))) refl (record { fresh = refl; mine = refl }))

kept_54 : IsKept small (first 54)
unfolding machine word_at state key_of
kept_54 = next 53 kept_53 (record {
  by = λ _. lit< tt;
  as_kind = record {
    life = refl;
    there = lit< tt;
    source = record { there = lit< tt; life = refl; used = tt; vertex = refl };
    before = 4;
    place = inr (refl, lit< tt);
    linked = λ x h. at_link (λ y. IsEdgeFrom small (first 53) (first_life 0) y) 4 x h
        (record { linked = record { linked = refl; edge = refl }; from = refl });
    unmarked = refl;
    gap = record {
      below = λ x h. at_link (λ y. word_at small (first 53) (key_at small y) < 2) 4 x h
          (lit< tt);
      above = λ ne. absurd (ne refl);
    };
    word = refl;
    fresh = record { fresh = refl; mine = refl };
    filled = record {
      key_word = refl;
      key_fits = lit< tt;
      link_word = refl;
      second_word = refl;
      third_word = refl;
      some
          = lit≤ tt;
      weight_fits = lit< tt;
    };
    target_key = refl;
    source_met = linked_met small (first 53) 0 refl 0 refl;
    target = record { there = lit< tt; life = refl; used = tt; vertex = refl };
    target_met = linked_met small (first 53) 0 refl 1 refl;
    pass = refl;
  };
})

kept_55 : IsKept small (first 55)
unfolding state
kept_55 = next 54 kept_54 (withdrawn (first 54) (lit< tt) refl)

-- the source is removed, and its list is closed: events 55 to 61

kept_56 : IsKept small (first 56)
unfolding machine word_at state
kept_56 = next 55 kept_55 (announced (first 55) 0 (lit< tt) refl refl)

kept_57 : IsKept small (first 57)
unfolding machine word_at state
kept_57 = next 56 kept_56 (record {
  by = λ _. lit< tt;
  as_kind = record {
    life = refl;
    there = lit< tt;
    place = refl;
    linked = record { linked = refl; vertex = refl };
    unmarked = refl;
    word = refl;
    pass = refl;
  };
})

kept_58 : IsKept small (first 58)
unfolding machine word_at state
kept_58 = next 57 kept_57 (record {
  by = λ _. lit< tt;
  as_kind = record {
    life = refl;
    there = lit< tt;
    bucket = 0;
    before = 3;
    place = inr (refl, lit< tt);
    before_linked = λ x h. at_link (λ y. IsLinkedVertex small (first 57) y) 3 x h
        (record { linked = refl; vertex = refl });
    unmarked = refl;
    leads = refl;
    linked = record { linked = refl; vertex = refl };
    dead = refl;
    word = refl;
    pass = refl;
  };
})

kept_59 : IsKept small (first 59)
unfolding machine word_at state
kept_59 = next 58 kept_58 (record {
  by = λ _. lit< tt;
  as_kind = record {
    life = refl;
    there = lit< tt;
    place = refl;
    spent = record { spent = refl; vertex = refl; mine = refl };
    unmarked
        = refl;
    word = refl;
  };
})

kept_60 : IsKept small (first 60)
unfolding machine word_at state
kept_60 = next 59 kept_59 (record {
  by = λ _. lit< tt;
  as_kind = record {
    life = refl;
    there = lit< tt;
    place = refl;
    linked = record { linked = refl; edge = refl };
    source = record { there = lit< tt; life = refl; used = tt; vertex = refl };
    spent = record { spent = refl; vertex = refl; mine = refl };
    before = second_at small 0;
    frozen = record { head = refl; at = inl refl };
    leads = refl;
    unmarked = refl;
    word = refl;
  };
})

kept_61 : IsKept small (first 61)
unfolding machine word_at state
kept_61 = next 60 kept_60 (record {
  by = λ _. lit< tt;
  as_kind = record {
    life = refl;
    there = lit< tt;
    place = refl;
    linked = record { linked = refl; edge = refl };
    source = record { there = lit< tt; life = refl; used = tt; vertex = refl };
    spent = record { spent = refl; vertex = refl; mine = refl };
    before = link_at small 4;
    frozen = record { head = refl; at = inr (4, refl, refl) };
    leads = refl;
    unmarked = refl;
    word = refl;
  };
})

kept_62 : IsKept small (first 62)
unfolding state
kept_62 = next 61 kept_61 (withdrawn (first 61) (lit< tt) refl)

pub beside_others_kept : IsKept small beside_others
beside_others_kept = kept_62

-- a token of caller 0 may meet its own front
own_front : (n : ℕ) → n ≤ length (first n) → list_all (λ e. not (e.caller == 0)) (drop n (first n)) ≡ true → Reaches
    (view_beside 0 n) (first n)
own_front n old none = reached beside_others beside_others_kept 0 n n (whole (first n)) none old

-- a vertex is linked in front of another one

pub may_link_before : MayLinkVertex (view_beside 0 32) (bucket_at small 0) (pack 0 0 0) 0 (first_life 3)
unfolding machine word_at state
may_link_before = record {
  life = record { there = lit< tt; tag = refl };
  pass = refl;
  before = inl refl;
  behind = λ _. record {
    life = first_life 0;
    is = refl;
    met = met_vertex (view_beside 0 32) 0
        (lit< tt) refl refl refl refl;
    above = lit< tt;
  };
  unmarked = refl;
  fresh = record { fresh = refl; mine = refl };
  filled = record { key_word = refl; key_fits = lit< tt; link_word = refl; second_word = refl; third_word = refl };
}

pub makes_link_before : MakesNext beside_others (view_beside 0 32) 32 (pack 0 0 0)
    (link_vertex_event (view_beside 0 32) (bucket_at small 0) (pack 0 0 0) 0 (first_life 3))
unfolding machine word_at
makes_link_before = record { reaches = own_front 32 (lit≤ tt) refl; finds = refl; makes = refl }

-- an edge is linked in front of another one

pub may_edge_before : MayLinkEdge (view_beside 0 40) (second_at small 0) (pack 2 0 1) 0 (first_life 0) (first_life 3) 7
    (first_life 4)
unfolding machine word_at state
may_edge_before = record {
  life = record { there = lit< tt; tag = refl };
  from = met_vertex (view_beside 0 40) 0 (lit< tt) refl refl refl refl;
  before = inl refl;
  behind = λ _. record {
    life = first_life 2;
    is = refl;
    met = met_edge (view_beside 0 40) 2
        (lit< tt) refl refl refl refl refl;
    above = lit< tt;
  };
  unmarked = refl;
  fresh = record { fresh = refl; mine = refl };
  filled = record {
    key_word = refl;
    key_fits = lit< tt;
    link_word = refl;
    second_word = refl;
    third_word = refl;
    some =
        lit≤ tt;
    weight_fits = lit< tt;
  };
  to = met_vertex (view_beside 0 40) 3 (lit< tt) refl refl refl refl;
  to_key = refl;
}

pub makes_edge_before : MakesNext beside_others (view_beside 0 40) 40 (pack 2 0 1)
    (link_edge_event (view_beside 0 40) (second_at small 0) (pack 2 0 1) 0 (first_life 0) (first_life 3) 7
    (first_life 4))
unfolding machine word_at
makes_edge_before = record { reaches = own_front 40 (lit≤ tt) refl; finds = refl; makes = refl }

-- an edge is unlinked behind another one

pub may_unlink_behind : MayUnlinkEdge (view_beside 0 45) (link_at small 4) (pack 2 0 1) nowhere (first_life 0)
    (first_life 2)
unfolding machine word_at state
may_unlink_behind = record {
  from = met_vertex (view_beside 0 45) 0 (lit< tt) refl refl refl refl;
  before = inr (
    first_life 4,
    record {
      met = met_edge (view_beside 0 45) 4
          (lit< tt) refl refl refl refl refl;
      place_is = refl;
    },
  );
  unmarked = refl;
  leads = refl;
  edge = met_edge (view_beside 0 45) 2 (lit< tt) refl refl refl refl refl;
  dead = refl;
  next_is = refl;
}

pub makes_unlink_behind : MakesNext beside_others (view_beside 0 45) 45 (pack 2 0 1)
    (unlink_edge_event (view_beside 0 45) (link_at small 4) (pack 2 0 1) nowhere (first_life 2))
unfolding machine word_at
makes_unlink_behind = record { reaches = own_front 45 (lit≤ tt) refl; finds = refl; makes = refl }

-- an edge is linked behind another one

pub may_edge_behind : MayLinkEdge (view_beside 0 53) (link_at small 4) (pack nowhere 0 1) 2 (first_life 0)
    (first_life 1) 6 (first_life 5)
unfolding machine word_at state
may_edge_behind = record {
  life = record { there = lit< tt; tag = refl };
  from = met_vertex (view_beside 0 53) 0 (lit< tt) refl refl refl refl;
  before = inr (
    first_life 4,
    record {
      met = met_edge (view_beside 0 53) 4
          (lit< tt) refl refl refl refl refl;
      place_is = refl;
      below = lit< tt;
    },
  );
  behind = λ ne. absurd (ne refl);
  unmarked = refl;
  fresh = record { fresh = refl; mine = refl };
  filled = record {
    key_word = refl;
    key_fits = lit< tt;
    link_word = refl;
    second_word = refl;
    third_word = refl;
    some =
        lit≤ tt;
    weight_fits = lit< tt;
  };
  to = met_vertex (view_beside 0 53) 1 (lit< tt) refl refl refl refl;
  to_key = refl;
}

pub makes_edge_behind : MakesNext beside_others (view_beside 0 53) 53 (pack nowhere 0 1)
    (link_edge_event (view_beside 0 53) (link_at small 4) (pack nowhere 0 1) 2 (first_life 0) (first_life 1) 6
    (first_life 5))
unfolding machine word_at
makes_edge_behind = record { reaches = own_front 53 (lit≤ tt) refl; finds = refl; makes = refl }

-- an edge is frozen behind a frozen one

pub may_freeze_behind : MayFreezeEdge (view_beside 0 60) (first_life 0) (link_at small 4) (first_life 5)
unfolding machine word_at state
may_freeze_behind = record {
  life = record { there = lit< tt; tag = refl };
  spent = record { spent = refl; vertex = refl; mine = refl };
  list = has_keeps small small_layout (first 60) (front_kept beside_others beside_others_kept 60) 0
      (record { there = lit< tt; used = tt; vertex = refl; unfinished = λ f. true≢false (sym (f.edges 5 refl)) });
  frozen = record { head = refl; at = inr (4, refl, refl) };
  edge = record { there = lit< tt; tag = refl };
  leads = refl;
}

pub makes_freeze_behind : MakesNext beside_others (view_beside 0 60) 60 (pack nowhere 0 1)
    (freeze_edge_event (view_beside 0 60) (first_life 5) (pack nowhere 0 1))
unfolding machine word_at
makes_freeze_behind = record { reaches = own_front 60 (lit≤ tt) refl; finds = refl; makes = refl }
