-- Each refused event breaks one part of its condition.
use Rattle.std.proofs.Common.{◌≡◌, ℕ, ◌+◌, ◌<◌, ◌≤◌, Bool, true, false, true≢false, List, [], ◌∷◌, ◌++◌, take, get_or}
use Rattle.std.proofs.Common.{refl, ◌∙◌, sym, ap, subst, arith, inl, inr, lit<, lit≤}
use Rattle.std.specs.Prelude.{Some, slice_get}
use Rattle.graph_kinds.specs.History.{Every}
use Rattle.packed_link.specs.Link.{pack, with_mark, index_of, mark_of, tag_of, nowhere}
use Rattle.packed_link.specs.Layout.{epoch_at, bucket_at, link_at}
use Rattle.core_journal.specs.declared.event.Event.{Event}
use Rattle.core_journal.specs.declared.event.Kind.{Kind}
use Rattle.core_journal.specs.declared.event.Kind.TheVariants.{DrawNumber, PopFree, StorePrivate, LinkVertex}
use Rattle.core_journal.specs.declared.event.Kind.TheVariants.{MarkVertex, UnlinkVertex, LinkEdge, Raise, MarkEdge}
use Rattle.core_journal.specs.declared.event.Kind.TheVariants.{UnlinkEdge, Announce, Withdraw, MoveEpoch, FreezeHead}
use Rattle.core_journal.specs.declared.event.Kind.TheVariants.{FreezeEdge, StoreFree, PushFree, ReplaceEdge}
use Rattle.core_journal.specs.Event.{blank, links_edge, raises}
use Rattle.core_journal.specs.Life.{link_of}
use Rattle.core_journal.specs.Reuse.{pass_in}
use Rattle.core_journal.specs.Machine.{machine, word_at}
use Rattle.core_journal.specs.State.{state}
use Rattle.core_journal.specs.TwoCallers.{announces, takes, withdraws}
use Rattle.core_journal.specs.Worked.{small}
use Rattle.core_kept.specs.Edges.{IsLinkEdge, IsMarkEdge, IsRaise, IsUnlinkEdge}
use Rattle.core_kept.specs.FreeNodes.{IsPopFree, IsStoreFree}
use Rattle.core_kept.specs.Kept.{Allowed, AllowedAs, IsKept}
use Rattle.core_kept.specs.Passes.{IsChecked, IsMoveEpoch}
use Rattle.core_worked.specs.Refused.{IsRefusedBehind, holding, outside, made_in_a_pass, event_of, inside, moves_own}
use Rattle.core_worked.specs.Refused.{edgeless, unraised, closed, unmet, raises_again, unmet_source, unmet_target}
use Rattle.core_worked.specs.Refused.{unmet_list, lagging, early, unclosed}
use Rattle.core_kept.specs.Nodes.{node_in, IsLinkedVertex}
use Rattle.core_worked.specs.TwoLives.{raises_source, links_new, marks_first, marks_a_vertex, unlinks_a_vertex}
use Rattle.core_worked.specs.TwoLives.{stores_link, moves_epoch, with_other, removes_vertex}
use Rattle.core_kept.proofs.Announcements.{epoch_was}
use Rattle.core_journal.proofs.KeptLives.{link_more}
use Rattle.core_lists.proofs.LowerCounters.{edge_event}
use Rattle.core_kept.proofs.NearEpochs.{checked}
use Rattle.core_kept.proofs.Induction.{allowed_at, kept_snoc}
use Rattle.core_worked.proofs.SmallSteps.{none_such, none_fresh, announced, filled, withdrawn, moved, at_link}
use Rattle.core_worked.proofs.TwoLives.{before, kept_3, kept_4, kept_8, kept_16, kept_19, kept_24, kept_27, kept_28}
use Rattle.core_worked.proofs.TwoLives.{kept_29, kept_32, kept_37, kept_40, kept_41, kept_42, kept_46}

pub refused_holding : IsRefusedBehind small holding (takes 0 1 2)
unfolding state
refused_holding = record {
  front = kept_4;
  whole = λ kept. let a : IsPopFree small holding (takes 0 1 2) =
      (allowed_at small (holding ++ takes 0 1 2 ∷ []) 4 (takes 0 1 2) kept refl).as_kind in a.holds_none 0 (lit< tt)
      (record { fresh = refl; mine = refl });
}

-- whether an event of this kind is made in a pass
abbrev in_a_pass : Kind → Bool
in_a_pass LinkVertex = true
in_a_pass MarkVertex = true
in_a_pass UnlinkVertex = true
in_a_pass LinkEdge = true
in_a_pass Raise = true
in_a_pass MarkEdge = true
in_a_pass UnlinkEdge = true
in_a_pass _ = false

passes : (k : Kind) (past : List Event) (e : Event) → AllowedAs k small past e → in_a_pass k ≡ true →
    (pass_in small past e.caller).is_open ≡ true
passes LinkVertex past e a t = a.pass
passes MarkVertex past e a t = a.pass
passes UnlinkVertex past e a t = a.pass
passes LinkEdge past e a t = a.pass
passes Raise past e a t = a.pass
passes MarkEdge past e a t = a.pass
passes UnlinkEdge past e a t = a.pass
passes ReplaceEdge past e a t = a.pass
passes DrawNumber past e a t = absurd (true≢false (sym t))
passes PopFree past e a t = absurd (true≢false (sym t))
passes StorePrivate past e a t = absurd (true≢false (sym t))
passes Announce past e a t = absurd (true≢false (sym t))
passes Withdraw past e a t = absurd (true≢false (sym t))
passes MoveEpoch past e a t = absurd (true≢false (sym t))
passes FreezeHead past e a t = absurd (true≢false (sym t))
passes FreezeEdge past e a t = absurd (true≢false (sym t))
passes StoreFree past e a t = absurd (true≢false (sym t))
passes PushFree past e a t = absurd (true≢false (sym t))

refused_at : (n : ℕ) → IsKept small (before n) → 0 < (state small (before n)).drawn →
    (pass_in small (before n) 0).is_open ≡ true → slice_get (outside n ++ event_of n ∷ []) (n + 1) ≡ Some (event_of n)
    → take (n + 1) (outside n ++ event_of n ∷ []) ≡ outside n
    → in_a_pass (event_of n).kind ≡ true → (pass_in small (outside n) (event_of n).caller).is_open ≡ false
    → IsRefusedBehind small (outside n) (event_of n)
refused_at n kept drawn runs at front is shut = record {
  front = kept_snoc small (before n) (withdraws 0) kept (withdrawn (before n) drawn runs);
  whole = λ now.
      let a = allowed_at small (outside n ++ event_of n ∷ []) (n + 1) (event_of n) now at in
      let b : Allowed small (outside n) (event_of n) = subst (λ (l : List Event). Allowed small l (event_of n)) front a
      in
      true≢false (sym (passes (event_of n).kind (outside n) (event_of n) b.as_kind is) ∙ shut);
}

pub refused_outside : Every (λ (n : ℕ). IsRefusedBehind small (outside n) (event_of n)) made_in_a_pass
unfolding state
refused_outside = (
  refused_at 8 kept_8 (lit< tt) refl refl refl refl refl,
  (
    refused_at 16 kept_16 (lit< tt) refl refl refl refl refl,
    (
      refused_at 24 kept_24 (lit< tt) refl refl refl refl refl,
      (
        refused_at 27 kept_27 (lit< tt) refl refl refl refl refl,
        (
          refused_at 28 kept_28 (lit< tt) refl refl refl refl refl,
          (
            refused_at 29 kept_29 (lit< tt) refl refl refl refl refl,
            (
              refused_at 37 kept_37 (lit< tt) refl refl refl refl refl,
              (
                refused_at 40 kept_40 (lit< tt) refl refl refl refl refl,
                (
                  refused_at 41 kept_41 (lit< tt) refl refl refl refl refl,
                  tt,
                ),
              ),
            ),
          ),
        ),
      ),
    ),
  ),
)

pub refused_inside : IsRefusedBehind small inside moves_own
unfolding state
refused_inside = record {
  front = kept_3;
  whole = λ kept.
      let a : IsMoveEpoch small inside moves_own = (allowed_at small
      (inside ++ moves_own ∷ []) 3 moves_own kept refl).as_kind in
      true≢false a.closed;
}

pub refused_edgeless : IsRefusedBehind small edgeless raises_source
refused_edgeless = record {
  front = kept_19;
  whole = λ kept.
      let a : IsRaise small edgeless raises_source = (allowed_at small
      (edgeless ++ raises_source ∷ []) 19 raises_source kept refl).as_kind in
      let linked : link_of edgeless a.edge ≡ Some a.link = subst
      (λ (l : List Event). link_of l a.edge ≡ Some a.link) a.before.whole
      (link_more a.moment a.before.rest a.edge a.link a.linked) in
      let e = edge_event edgeless a.edge a.link linked in
      none_such (λ d. links_edge d.kind) edgeless refl e.0 a.link e.1 e.2;
}

pub refused_unraised : IsRefusedBehind small unraised marks_first
refused_unraised = record {
  front = kept_27;
  whole = λ kept.
      let a : IsMarkEdge small unraised marks_first = (allowed_at small
      (unraised ++ marks_first ∷ []) 27 marks_first kept refl).as_kind in
      none_such (λ e. raises e.kind) unraised refl a.raised.number a.raised.raise a.raised.at (ap raises a.raised.kind);
}

-- one more event of a journal
next_in : (journal : List Event) (n : ℕ) → IsKept small (take n journal) → Allowed small (take n journal)
    (get_or journal n blank) → IsKept small (take n journal ++ get_or journal n blank ∷ [])
next_in journal n = kept_snoc small (take n journal) (get_or journal n blank)

-- the vertex of node 0 may be marked, and then unlinked
vertex_marked : (past : List Event) → 0 < (state small past).drawn → (node_in small past 0).tag ≡ 1
    → IsLinkedVertex small past 0 → word_at small past (link_at small 0) ≡ pack 1 0 1 →
    (pass_in small past 0).is_open ≡ true → Allowed small past marks_a_vertex
vertex_marked past drawn tag linked link runs = record {
  by = λ _. drawn;
  as_kind = record {
    life = sym tag;
    there = lit< tt;
    place = refl;
    linked = linked;
    unmarked = ap mark_of link;
    word =
        sym (ap with_mark link);
    pass = runs;
  };
}

vertex_unlinked : (past : List Event) → 0 < (state small past).drawn → (node_in small past 0).tag ≡ 1
    → IsLinkedVertex small past 0 → word_at small past (bucket_at small 0) ≡ pack 0 0 0 → word_at small past
    (link_at small 0) ≡ pack 1 1 1 → (pass_in small past 0).is_open ≡ true
    → Allowed small past unlinks_a_vertex
vertex_unlinked past drawn tag linked head link runs = record {
  by = λ _. drawn;
  as_kind = record {
    life = sym tag;
    there = lit< tt;
    bucket = 0;
    before = 0;
    place = inl (refl, lit< tt);
    before_linked = λ x h. absurd (omega (arith, h));
    unmarked = ap mark_of head;
    leads = ap index_of head;
    linked = linked;
    dead = ap mark_of link;
    word = λ i. pack (index_of (sym link i)) 0 (tag_of (sym head i));
    pass = runs;
  };
}

closed_38 : IsKept small (take 38 closed)
unfolding machine word_at state
closed_38 = next_in closed 37 kept_37 (vertex_marked (take 37 closed) (lit< tt) refl
    (record { linked = refl; vertex = refl }) refl refl)

closed_39 : IsKept small (take 39 closed)
unfolding machine word_at state
closed_39 = next_in closed 38 closed_38 (vertex_unlinked (take 38 closed) (lit< tt) refl
    (record { linked = refl; vertex = refl }) refl refl refl)

closed_40 : IsKept small closed
unfolding machine word_at state
closed_40 = next_in closed 39 closed_39 (record {
  by = λ _. lit< tt;
  as_kind = record {
    life = refl;
    there = lit< tt;
    place = refl;
    spent = record { spent = refl; vertex = refl; mine = refl };
    unmarked
        = refl;
    word = refl;
  };
})

pub refused_late : IsRefusedBehind small closed (links_new 3 6)
unfolding machine word_at state
refused_late = record {
  front = closed_40;
  whole = λ kept.
      let a : IsLinkEdge small closed (links_new 3 6) = (allowed_at small (closed ++ links_new 3 6 ∷ []) 40
      (links_new 3 6) kept refl).as_kind in
      let unmarked : 1 ≡ 0 = a.unmarked in
      omega (arith, unmarked);
}

-- a vertex with an edge that was removed before the pass began
unmet_43 : IsKept small (take 43 unmet)
unfolding state
unmet_43 = next_in unmet 42 kept_42 (withdrawn (take 42 unmet) (lit< tt) refl)

unmet_44 : IsKept small unmet
unfolding machine word_at state
unmet_44 = next_in unmet 43 unmet_43 (announced (take 43 unmet) 0 (lit< tt) refl refl)

pub refused_unmet : IsRefusedBehind small unmet raises_again
unfolding state
refused_unmet = record {
  front = unmet_44;
  whole = λ kept.
      let a : IsRaise small unmet raises_again = (allowed_at small
      (unmet ++ raises_again ∷ []) 44 raises_again kept refl).as_kind in
      let late : 43 < 42 = a.met.spent refl in
      omega (arith, late);
}

-- an edge from a vertex that was removed before the pass began
source_33 : IsKept small (take 33 unmet_source)
unfolding machine word_at state
source_33 = next_in unmet_source 32 kept_32 (vertex_marked (take 32 unmet_source) (lit< tt) refl
    (record { linked = refl; vertex = refl }) refl refl)

source_34 : IsKept small (take 34 unmet_source)
unfolding machine word_at state
source_34 = next_in unmet_source 33 source_33 (vertex_unlinked (take 33 unmet_source) (lit< tt) refl
    (record { linked = refl; vertex = refl }) refl refl refl)

source_35 : IsKept small (take 35 unmet_source)
unfolding state
source_35 = next_in unmet_source 34 source_34 (withdrawn (take 34 unmet_source) (lit< tt) refl)

source_36 : IsKept small (take 36 unmet_source)
unfolding machine word_at state
source_36 = next_in unmet_source 35 source_35 (announced (take 35 unmet_source) 0 (lit< tt) refl refl)

source_37 : IsKept small (take 37 unmet_source)
unfolding machine word_at state
source_37 = next_in unmet_source 36 source_36 (record {
  by = λ _. lit< tt;
  as_kind = record {
    life = refl;
    there = lit< tt;
    place = refl;
    seen = refl;
    word = refl;
    holds_none = none_fresh
        (take 36 unmet_source) refl;
    limit = lit< tt;
  };
})

source_38 : IsKept small (take 38 unmet_source)
unfolding state
source_38 = next_in unmet_source 37 source_37 (filled (take 37 unmet_source) 3 0 2 (lit< tt) (lit< tt) (lit< tt)
    (lit< tt) (λ h. absurd (omega (arith, h))) refl (record { fresh = refl; mine = refl }))

source_39 : IsKept small (take 39 unmet_source)
unfolding state
source_39 = next_in unmet_source 38 source_38 (filled (take 38 unmet_source) 3 1 (pack nowhere 0 1) (lit< tt) (lit< tt)
    (lit< tt) (lit< tt) (λ _. (refl, refl)) refl (record { fresh = refl; mine = refl }))

source_40 : IsKept small (take 40 unmet_source)
unfolding state
source_40 = next_in unmet_source 39 source_39 (filled (take 39 unmet_source) 3 2 (pack 1 0 1) (lit< tt) (lit< tt)
    (lit< tt) (lit< tt) (λ h. absurd (omega (arith, h))) refl (record { fresh = refl; mine = refl }))

source_41 : IsKept small unmet_source
unfolding state
source_41 = next_in unmet_source 40 source_40 (filled (take 40 unmet_source) 3 3 6 (lit< tt) (lit< tt) (lit< tt)
    (lit< tt) (λ h. absurd (omega (arith, h))) refl (record { fresh = refl; mine = refl }))

pub refused_unmet_source : IsRefusedBehind small unmet_source (links_new 3 6)
unfolding state
refused_unmet_source = record {
  front = source_41;
  whole = λ kept.
      let a : IsLinkEdge small unmet_source (links_new 3 6) =
      (allowed_at small (unmet_source ++ links_new 3 6 ∷ []) 41 (links_new 3 6) kept refl).as_kind in
      let late : 35 < 34 = a.source_met.spent refl in
      omega (arith, late);
}

-- an edge to a vertex that was removed before the pass began
target_20 : IsKept small (take 20 unmet_target)
unfolding machine word_at state
target_20 = next_in unmet_target 19 kept_19 (record {
  by = λ _. lit< tt;
  as_kind = record {
    life = refl;
    there = lit< tt;
    place = refl;
    linked = record { linked = refl; vertex = refl };
    unmarked = refl;
    word = refl;
    pass = refl;
  };
})

target_21 : IsKept small (take 21 unmet_target)
unfolding machine word_at state
target_21 = next_in unmet_target 20 target_20 (record {
  by = λ _. lit< tt;
  as_kind = record {
    life = refl;
    there = lit< tt;
    bucket = 0;
    before = 0;
    place = inr (refl, lit< tt);
    before_linked = λ x h. at_link (IsLinkedVertex small (take 20 unmet_target)) 0 x h
        (record { linked = refl; vertex = refl });
    unmarked = refl;
    leads = refl;
    linked = record { linked = refl; vertex = refl };
    dead = refl;
    word = refl;
    pass = refl;
  };
})

target_22 : IsKept small (take 22 unmet_target)
unfolding state
target_22 = next_in unmet_target 21 target_21 (withdrawn (take 21 unmet_target) (lit< tt) refl)

target_23 : IsKept small (take 23 unmet_target)
unfolding machine word_at state
target_23 = next_in unmet_target 22 target_22 (announced (take 22 unmet_target) 0 (lit< tt) refl refl)

target_24 : IsKept small (take 24 unmet_target)
unfolding machine word_at state
target_24 = next_in unmet_target 23 target_23 (record {
  by = λ _. lit< tt;
  as_kind = record {
    life = refl;
    there = lit< tt;
    place = refl;
    seen = refl;
    word = refl;
    holds_none = none_fresh
        (take 23 unmet_target) refl;
    limit = lit< tt;
  };
})

target_25 : IsKept small (take 25 unmet_target)
unfolding state
target_25 = next_in unmet_target 24 target_24 (filled (take 24 unmet_target) 2 0 2 (lit< tt) (lit< tt) (lit< tt)
    (lit< tt) (λ h. absurd (omega (arith, h))) refl (record { fresh = refl; mine = refl }))

target_26 : IsKept small (take 26 unmet_target)
unfolding state
target_26 = next_in unmet_target 25 target_25 (filled (take 25 unmet_target) 2 1 (pack nowhere 0 1) (lit< tt) (lit< tt)
    (lit< tt) (lit< tt) (λ _. (refl, refl)) refl (record { fresh = refl; mine = refl }))

target_27 : IsKept small (take 27 unmet_target)
unfolding state
target_27 = next_in unmet_target 26 target_26 (filled (take 26 unmet_target) 2 2 (pack 1 0 1) (lit< tt) (lit< tt)
    (lit< tt) (lit< tt) (λ h. absurd (omega (arith, h))) refl (record { fresh = refl; mine = refl }))

target_28 : IsKept small unmet_target
unfolding state
target_28 = next_in unmet_target 27 target_27 (filled (take 27 unmet_target) 2 3 5 (lit< tt) (lit< tt) (lit< tt)
    (lit< tt) (λ h. absurd (omega (arith, h))) refl (record { fresh = refl; mine = refl }))

pub refused_unmet_target : IsRefusedBehind small unmet_target (links_new 2 5)
unfolding state
refused_unmet_target = record {
  front = target_28;
  whole = λ kept.
      let a : IsLinkEdge small unmet_target (links_new 2 5) =
      (allowed_at small (unmet_target ++ links_new 2 5 ∷ []) 28 (links_new 2 5) kept refl).as_kind in
      let late : 22 < 21 = a.target_met.spent refl in
      omega (arith, late);
}

-- a marked edge of a vertex that was removed before the pass began
list_30 : IsKept small (take 30 unmet_list)
unfolding machine word_at state
list_30 = next_in unmet_list 29 kept_29 (vertex_marked (take 29 unmet_list) (lit< tt) refl
    (record { linked = refl; vertex = refl }) refl refl)

list_31 : IsKept small (take 31 unmet_list)
unfolding machine word_at state
list_31 = next_in unmet_list 30 list_30 (vertex_unlinked (take 30 unmet_list) (lit< tt) refl
    (record { linked = refl; vertex = refl }) refl refl refl)

list_32 : IsKept small (take 32 unmet_list)
unfolding state
list_32 = next_in unmet_list 31 list_31 (withdrawn (take 31 unmet_list) (lit< tt) refl)

list_33 : IsKept small unmet_list
unfolding machine word_at state
list_33 = next_in unmet_list 32 list_32 (announced (take 32 unmet_list) 0 (lit< tt) refl refl)

pub refused_unmet_list : IsRefusedBehind small unmet_list (event_of 29)
unfolding state
refused_unmet_list = record {
  front = list_33;
  whole = λ kept.
      let a : IsUnlinkEdge small unmet_list (event_of 29) = (allowed_at small (unmet_list ++ event_of 29 ∷ []) 33
      (event_of 29) kept refl).as_kind in
      let late : 32 < 31 = a.source_met.spent refl in
      omega (arith, late);
}

-- the epoch is moved on from 0 while a pass is open that announced it
lagging_kept : IsKept small lagging
unfolding machine word_at state
lagging_kept = kept_snoc small (before 3) (moves_epoch 1) kept_3
    (moved (before 3) 0 (lit< tt) refl (inr (lit≤ tt)) refl refl (lit< tt))

pub refused_lagging : IsRefusedBehind small lagging (moves_epoch 2)
unfolding machine word_at state
refused_lagging = record {
  front = lagging_kept;
  whole = λ kept.
      let a : IsMoveEpoch small lagging (moves_epoch 2) = (allowed_at small (lagging ++ moves_epoch 2 ∷ []) 4
      (moves_epoch 2) kept refl).as_kind in
      let c = checked small a.loaded lagging 0 (lit< tt) lagging_kept
      (subst (λ (n : ℕ). IsChecked small a.loaded lagging n 0) (sym a.seen) (a.checked 0 (lit< tt))) in
      let late : word_at small a.loaded (epoch_at small) ≤ 0 = c.born refl in
      let seen : word_at small a.loaded (epoch_at small) ≡ 1 = a.seen in
      omega (arith, late, seen);
}

epoch_early : (state small early).epoch ≡ 1
unfolding state
epoch_early = refl

pub refused_early : IsRefusedBehind small early (stores_link 3 4)
refused_early = record {
  front = kept_46;
  whole = λ kept.
      let a : IsStoreFree small early (stores_link 3 4) = (allowed_at small (early ++ stores_link 3 4 ∷ []) 46
      (stores_link 3 4) kept refl).as_kind in
      omega (arith, epoch_was small a.ripe.shown early a.ripe.shown_before kept_46, a.ripe.shown_epoch, epoch_early);
}

unclosed_kept : IsKept small unclosed
unfolding machine word_at state
unclosed_kept =
    let front : List Event = with_other ++ (announces 0 ∷ removes_vertex) in
    let one = kept_snoc small front (withdraws 0) kept_42 (withdrawn front (lit< tt) refl) in
    let two = kept_snoc small (front ++ withdraws 0 ∷ []) (moves_epoch 1) one
    (moved (front ++ withdraws 0 ∷ []) 0 (lit< tt) refl (inl refl) refl refl (lit< tt)) in
    kept_snoc small (front ++ (withdraws 0 ∷ moves_epoch 1 ∷ [])) (moves_epoch 2) two
    (moved (front ++ (withdraws 0 ∷ moves_epoch 1 ∷ [])) 1 (lit< tt) refl (inl refl) refl refl (lit< tt))

pub refused_unclosed : IsRefusedBehind small unclosed (stores_link 0 4)
unfolding state
refused_unclosed = record {
  front = unclosed_kept;
  whole = λ kept.
      let a : IsStoreFree small unclosed (stores_link 0 4) = (allowed_at small (unclosed ++ stores_link 0 4 ∷ []) 45
      (stores_link 0 4) kept refl).as_kind in
      true≢false (sym (a.own_list refl).head);
}
