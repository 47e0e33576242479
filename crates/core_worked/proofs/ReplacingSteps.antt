-- On the worked journal in which edges are replaced a token makes such a step, and four events are refused that break
-- one part of its
-- condition.
use Rattle.std.proofs.Common.{◌≡◌, ℕ, List, [], ◌∷◌, ◌++◌, refl, ap, arith, lit<, lit≤}
use Rattle.packed_link.specs.Link.{pack, nowhere}
use Rattle.packed_link.specs.Layout.{second_at, third_at}
use Rattle.packed_link.specs.declared.link.Life.{Life}
use Rattle.core_journal.specs.declared.event.Event.{Event}
use Rattle.core_journal.specs.Life.{link_of}
use Rattle.core_journal.specs.Machine.{machine, word_at}
use Rattle.core_journal.specs.State.{state}
use Rattle.core_journal.specs.TwoCallers.{fills}
use Rattle.core_journal.specs.Worked.{small, first_life}
use Rattle.core_journal.specs.Event.{raises}
use Rattle.core_kept.specs.Edges.{IsReplaceEdge}
use Rattle.core_rule.specs.Fronts.{MayReplaceEdge}
use Rattle.core_kept.specs.Kept.{IsKept}
use Rattle.core_worked.specs.KnownSteps.{view_replacing, MakesNext}
use Rattle.core_rule.specs.OwnEvents.{replace_event}
use Rattle.core_worked.specs.Refused.{IsRefusedBehind}
use Rattle.core_worked.specs.Replacing.{replacing_journal, raises_to, replaces_by, not_raised_for, same_weight}
use Rattle.core_worked.specs.Replacing.{other_target, replaces_target, marked_meanwhile}
use Rattle.core_worked.specs.TwoLives.{marks_first}
use Rattle.core_kept.proofs.Induction.{allowed_at, kept_snoc}
use Rattle.core_worked.proofs.KnownSteps.{reached, met_edge}
use Rattle.core_lists.proofs.MetWordsLead.{linked_met}
use Rattle.core_worked.proofs.Replacing.{first, event, kept_30, kept_31, kept_32, kept_33, replacing_kept}
use Rattle.core_worked.proofs.SmallSteps.{whole, none_such, filled}

pub makes_replace : MakesNext replacing_journal (view_replacing 0 33) 33 (pack nowhere 0 1)
    (replace_event (view_replacing 0 33) (pack nowhere 0 1) 2 (first_life 0) (first_life 1) 6 (first_life 2)
    (first_life 3))
unfolding machine word_at
makes_replace = record {
  reaches = reached replacing_journal replacing_kept 0 33 33 (whole (first 33)) refl
      (lit≤ tt);
  finds = refl;
  makes = refl;
}

pub may_replace : MayReplaceEdge (view_replacing 0 33) (pack nowhere 0 1) 2 (first_life 0) (first_life 1) 6
    (first_life 2) (first_life 3)
unfolding machine word_at state link_of
may_replace = record {
  life = record { there = lit< tt; tag = refl };
  edge = met_edge (view_replacing 0 33) 2 (lit< tt) refl refl refl refl refl;
  raised = record {
    number = 32;
    since = lit< tt;
    raise = event 32;
    at = refl;
    kind = refl;
    by = refl;
    vertex = refl;
    linked = refl;
  };
  unmarked = refl;
  fresh = record { fresh = refl; mine = refl };
  filled = record {
    key_word = refl;
    key_fits = lit< tt;
    link_word = refl;
    second_word = refl;
    third_word = refl;
    some =
        lit≤ tt;
    weight_fits = lit< tt;
  };
  link = event 24;
  link_is = refl;
  same_key = refl;
  same_target = refl;
  other_weight = λ h. omega (arith, h);
}

-- the counter wasn't raised
pub refused_not_raised : IsRefusedBehind small not_raised_for (replaces_by 2 3 6)
refused_not_raised = record {
  front = kept_32;
  whole = λ kept.
      let a : IsReplaceEdge small not_raised_for (replaces_by 2 3 6) =
      (allowed_at small (not_raised_for ++ replaces_by 2 3 6 ∷ []) 32 (replaces_by 2 3 6) kept refl).as_kind in
      none_such (λ (e : Event). raises e.kind) not_raised_for refl a.raised.number a.raised.raise a.raised.at
      (ap raises a.raised.kind);
}

-- the weight is the same
abbrev filled_weight : List Event
filled_weight = first 31 ++ fills 0 3 (third_at small 3) 5 ∷ []

kept_weight : IsKept small filled_weight
unfolding state
kept_weight = kept_snoc small (first 31) (fills 0 3 (third_at small 3) 5) kept_31
    (filled (first 31) 3 3 5 (lit< tt) (lit< tt) (lit< tt) (lit< tt) (λ h. absurd (omega (arith, h))) refl
    (record { fresh = refl; mine = refl }))

kept_same_weight : IsKept small same_weight
unfolding machine word_at state link_of
kept_same_weight = kept_snoc small filled_weight (raises_to 1) kept_weight (record {
  by = λ _. lit< tt;
  as_kind = record {
    life = refl;
    there = lit< tt;
    place = refl;
    vertex = record { there = lit< tt; life = refl; used = tt; vertex = refl };
    moment = filled_weight;
    before = whole filled_weight;
    since = lit< tt;
    edge = first_life 2;
    link = event 24;
    linked = refl;
    from = refl;
    unmarked = refl;
    word = refl;
    met = linked_met small filled_weight 0 refl 0 refl;
    pass = refl;
    limit = lit< tt;
  };
})

pub refused_same_weight : IsRefusedBehind small same_weight (replaces_by 2 3 5)
unfolding state
refused_same_weight = record {
  front = kept_same_weight;
  whole = λ kept.
      let a : IsReplaceEdge small same_weight (replaces_by 2 3 5) =
      (allowed_at small (same_weight ++ replaces_by 2 3 5 ∷ []) 33 (replaces_by 2 3 5) kept refl).as_kind in
      a.other refl;
}

-- the target is another
abbrev filled_target : List Event
filled_target = first 30 ++ fills 0 3 (second_at small 3) (pack 0 0 1) ∷ []

kept_target : IsKept small filled_target
unfolding state
kept_target = kept_snoc small (first 30) (fills 0 3 (second_at small 3) (pack 0 0 1)) kept_30
    (filled (first 30) 3 2 (pack 0 0 1) (lit< tt) (lit< tt) (lit< tt) (lit< tt) (λ h. absurd (omega (arith, h))) refl
    (record { fresh = refl; mine = refl }))

abbrev filled_both : List Event
filled_both = filled_target ++ fills 0 3 (third_at small 3) 6 ∷ []

kept_both : IsKept small filled_both
unfolding state
kept_both = kept_snoc small filled_target (fills 0 3 (third_at small 3) 6) kept_target
    (filled filled_target 3 3 6 (lit< tt) (lit< tt) (lit< tt) (lit< tt) (λ h. absurd (omega (arith, h))) refl
    (record { fresh = refl; mine = refl }))

kept_other_target : IsKept small other_target
unfolding machine word_at state link_of
kept_other_target = kept_snoc small filled_both (raises_to 1) kept_both (record {
  by = λ _. lit< tt;
  as_kind = record {
    life = refl;
    there = lit< tt;
    place = refl;
    vertex = record { there = lit< tt; life = refl; used = tt; vertex = refl };
    moment = filled_both;
    before = whole filled_both;
    since = lit< tt;
    edge = first_life 2;
    link = event 24;
    linked = refl;
    from = refl;
    unmarked = refl;
    word = refl;
    met = linked_met small filled_both 0 refl 0 refl;
    pass = refl;
    limit = lit< tt;
  };
})

pub refused_other_target : IsRefusedBehind small other_target replaces_target
unfolding state
refused_other_target = record {
  front = kept_other_target;
  whole = λ kept.
      let a : IsReplaceEdge small other_target replaces_target =
      (allowed_at small (other_target ++ replaces_target ∷ []) 33 replaces_target kept refl).as_kind in
      let same : ◌≡◌ {A = ℕ} 0 1 = ap (λ (l : Life). l.index) a.target in
      absurd (omega (arith, same));
}

-- the old edge is marked
kept_marked : IsKept small marked_meanwhile
unfolding machine word_at state
kept_marked = kept_snoc small (first 33) marks_first kept_33 (record {
  by = λ _. lit< tt;
  as_kind = record {
    life = refl;
    there = lit< tt;
    place = refl;
    linked = record { linked = refl; edge = refl };
    unmarked = refl;
    word = refl;
    raised = record {
      number = 32;
      since = lit< tt;
      raise = event 32;
      at = refl;
      kind = refl;
      by = refl;
      vertex = refl;
      linked = refl;
    };
    pass = refl;
  };
})

pub refused_marked : IsRefusedBehind small marked_meanwhile (replaces_by 2 3 6)
unfolding machine word_at
refused_marked = record {
  front = kept_marked;
  whole = λ kept.
      let a : IsReplaceEdge small marked_meanwhile (replaces_by 2 3 6) =
      (allowed_at small (marked_meanwhile ++ replaces_by 2 3 6 ∷ []) 34 (replaces_by 2 3 6) kept refl).as_kind in
      let open_ : ◌≡◌ {A = ℕ} 1 0 = a.unmarked in
      absurd (omega (arith, open_));
}
