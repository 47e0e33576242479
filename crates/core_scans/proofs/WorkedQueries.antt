-- What the collects and verifies of the worked journal have seen.
use Rattle.std.proofs.Common.{◌≡◌, ℕ, zero, suc, ◌<◌, ◌≤◌, List, [], ◌∷◌, Some, take, refl, ap, subst, arith, inl, inr}
use Rattle.std.proofs.Common.{lit<, lit≤}
use Rattle.packed_link.specs.Link.{pack, mark_of, nowhere}
use Rattle.packed_link.specs.Layout.{link_at, second_at, third_at}
use Rattle.scan_record.specs.declared.rows.EdgeRow.{EdgeRow}
use Rattle.scan_record.specs.Scan.{row_at}
use Rattle.core_journal.specs.declared.event.Event.{Event}
use Rattle.core_journal.specs.Life.{key_of, link_of}
use Rattle.core_journal.specs.Machine.{machine, word_at}
use Rattle.core_journal.specs.Prefix.{IsPrefix}
use Rattle.core_journal.specs.State.{state}
use Rattle.core_journal.specs.Worked.{small, first_life}
use Rattle.core_journal.proofs.Lists.{prefix_take}
use Rattle.core_lists.proofs.MetWordsLead.{linked_met}
use Rattle.core_scans.specs.Differing.{DiffersNow}
use Rattle.core_scans.specs.Held.{IsHeldAt}
use Rattle.core_scans.specs.Seen.{Recorded, PassedOver, WasAt, IsTargetSeen, IsEdgeSeen, IsRowSeen, IsLedTo}
use Rattle.core_scans.specs.Seen.{HasCollected}
use Rattle.core_scans.specs.Seen.{IsSeenReplaced, IsRowSame, IsSame}
use Rattle.core_scans.specs.Worked.{beside_queries, moment, edge_to_two, scan_from_one, scan_before}
use Rattle.core_scans.specs.Worked.{scan_between, scan_after}

-- the fronts of the journal, in order
pub moments_rise : (n m : ℕ) → n ≤ m → IsPrefix (moment n) (moment m)
moments_rise n m h = subst (λ (l : List Event). IsPrefix l (moment m)) (twice beside_queries n m h)
    (prefix_take (moment m) n)
  where
    twice : (xs : List Event) (n m : ℕ) → n ≤ m → take n (take m xs) ≡ take n xs
    twice xs zero m h = refl
    twice xs (suc n) zero h = absurd (omega arith)
    twice [] (suc n) (suc m) h = refl
    twice (x ∷ xs) (suc n) (suc m) h = ap (λ (l : List Event). x ∷ l) (twice xs n m (omega arith))

-- a word was loaded at a front between two others
was : (from n to place word : ℕ) → from ≤ n → n ≤ to → word_at small (moment n) place ≡ word
    → WasAt small (moment from) (moment to) place word
was from n to place word a b h = record {
  moment = moment n;
  after = moments_rise from n a;
  before = moments_rise n to b;
  word_is = h;
}

-- of the rows of vertex 1 and 2
two : (P : ℕ → Type 0) → P 0 → P 1 → (k : ℕ) → k < 2 → P k
two P a b zero low = a
two P a b (suc zero) low = b
two P a b (suc (suc k)) low = absurd (omega (arith, low))

-- the edge leads to row 1
leads : (counter : ℕ) (e : EdgeRow) → e.target ≡ Some 1 → mark_of e.link ≡ 0 → (end : List Event)
    → IsTargetSeen (scan_from_one counter e) end e (first_life 1)
leads counter e target unmarked end = record {
  row = λ t h. let same : 1 ≡ t = cc in
      subst (λ (n : ℕ). (n < 2) × ((row_at (scan_from_one counter e) n).life ≡ first_life 1) × (mark_of e.link ≡ 0))
      same
      (lit< tt, refl, unmarked);
  over = λ h. absurd (cc);
}

reached : (counter : ℕ) (e : EdgeRow) → e.target ≡ Some 1 → (t : ℕ) → 0 < t → t < 2
    → IsLedTo (scan_from_one counter e) t
reached counter e target zero some low = absurd (omega (arith, some))
reached counter e target (suc zero) some low = record {
  from = 0;
  earlier = lit< tt;
  place = 0;
  edge = e;
  at = refl;
  leads = target;
}
reached counter e target (suc (suc t)) some low = absurd (omega (arith, low))

-- before the edge from 1 to 1 comes; collect ends there, or at a later moment
edge_before : (to : ℕ) → 27 ≤ to → IsEdgeSeen small 1 scan_before (moment 27) (moment to) (first_life 0)
    (edge_to_two 2 3)
unfolding machine word_at state link_of
edge_before to h = record {
  moment = moment 27;
  after = moments_rise 27 27 (lit≤ tt);
  before = moments_rise 27 to h;
  word_is = refl;
  met = linked_met small (moment 27) 1 refl 2 refl;
  life = refl;
  edge = refl;
  link = _;
  is = refl;
  from = refl;
  key = refl;
  weight = refl;
  target = leads 0 (edge_to_two 2 3) refl refl (moment to);
}

pub collected_before : (to : ℕ) → 27 ≤ to → HasCollected small 1 (moment 27) (moment to) scan_before
unfolding machine word_at key_of
collected_before to h = record {
  some = lit< tt;
  started = refl;
  rows = two (λ k. IsRowSeen small 1 scan_before (moment 27) (moment to) (row_at scan_before k))
      record {
        found = moment 27;
        after = moments_rise 27 27 (lit≤ tt);
        present = refl;
        begin = moment 27;
        then = moments_rise 27 27 (lit≤ tt);
        before = moments_rise 27 to h;
        counter = refl;
        head = was 27 27 to (second_at small 0) (pack 2 0 1) (lit≤ tt) h refl;
        walked = Recorded (edge_to_two 2 3) ∷ [];
        leads = (refl, (λ f. absurd (omega (arith, f))), refl);
        meetings = (edge_before to h, tt);
        edges = refl;
      }
      record {
        found = moment 27;
        after = moments_rise 27 27 (lit≤ tt);
        present = refl;
        begin = moment 27;
        then = moments_rise 27 27 (lit≤ tt);
        before = moments_rise 27 to h;
        counter = refl;
        head = was 27 27 to (second_at small 1) (pack nowhere 0 1) (lit≤ tt) h refl;
        walked = [];
        leads = refl;
        meetings = tt;
        edges = refl;
      };
  reached = reached 0 (edge_to_two 2 3) refl;
}

-- the list is as it was recorded, and the counter isn't
pub head_late : word_at small (moment 37) (second_at small 0) ≡ pack 2 0 1
unfolding machine word_at
head_late = refl

pub link_late : word_at small (moment 37) (link_at small 2) ≡ pack nowhere 0 1
unfolding machine word_at
link_late = refl

pub counter_late : word_at small (moment 37) (third_at small 0) ≡ 1
unfolding machine word_at
counter_late = refl

pub differs_late : DiffersNow small scan_before (moment 37) (row_at scan_before 0)
differs_late = inr (inr (inl (λ same. let late = counter_late in absurd (omega (arith, late, same)))))

-- a counter that is loaded before the list doesn't tell it
pub counter_early : word_at small (moment 34) (third_at small 0) ≡ 0
unfolding machine word_at
counter_early = refl

head_between : word_at small (moment 34) (second_at small 0) ≡ pack 3 0 1
unfolding machine word_at
head_between = refl

pub not_held : IsHeldAt small (moment 34) scan_before → ⊥
not_held h = let r = (h 0 (lit< tt)).head in let e = head_between in omega (arith, r, e)

-- after the edge from 1 to 1 is gone
edge_between : IsEdgeSeen small 1 scan_between (moment 37) (moment 37) (first_life 0) (edge_to_two 2 3)
unfolding machine word_at state link_of
edge_between = record {
  moment = moment 37;
  after = moments_rise 37 37 (lit≤ tt);
  before = moments_rise 37 37 (lit≤ tt);
  word_is = refl;
  met = linked_met small (moment 37) 1 refl 2 refl;
  life = refl;
  edge = refl;
  link = _;
  is = refl;
  from = refl;
  key = refl;
  weight = refl;
  target = leads 1 (edge_to_two 2 3) refl refl (moment 37);
}

pub collected_between : HasCollected small 1 (moment 37) (moment 37) scan_between
unfolding machine word_at key_of
collected_between = record {
  some = lit< tt;
  started = refl;
  rows = two (λ k. IsRowSeen small 1 scan_between (moment 37) (moment 37) (row_at scan_between k))
      record {
        found = moment 37;
        after = moments_rise 37 37 (lit≤ tt);
        present = refl;
        begin = moment 37;
        then = moments_rise 37 37 (lit≤ tt);
        before = moments_rise 37 37 (lit≤ tt);
        counter = refl;
        head = was 37 37 37 (second_at small 0) (pack 2 0 1) (lit≤ tt) (lit≤ tt) refl;
        walked = Recorded (edge_to_two 2 3) ∷ [];
        leads = (refl, (λ f. absurd (omega (arith, f))), refl);
        meetings = (edge_between, tt);
        edges = refl;
      }
      record {
        found = moment 37;
        after = moments_rise 37 37 (lit≤ tt);
        present = refl;
        begin = moment 37;
        then = moments_rise 37 37 (lit≤ tt);
        before = moments_rise 37 37 (lit≤ tt);
        counter = refl;
        head = was 37 37 37 (second_at small 1) (pack nowhere 0 1) (lit≤ tt) (lit≤ tt) refl;
        walked = [];
        leads = refl;
        meetings = tt;
        edges = refl;
      };
  reached = reached 1 (edge_to_two 2 3) refl;
}

pub same_between : IsSame small (moment 37) (moment 38) scan_between
unfolding machine word_at
same_between = two (λ k. IsRowSame small scan_between (moment 37) (moment 38) (row_at scan_between k))
    record {
      counted = moment 37;
      after = moments_rise 37 37 (lit≤ tt);
      head = was 37 37 37 (second_at small 0) (pack 2 0 1) (lit≤ tt) (lit≤ tt) refl;
      links = (was 37 37 37 (link_at small 2) (pack nowhere 0 1) (lit≤ tt) (lit≤ tt) refl, tt);
      counter = refl;
      last = moment 38;
      then = moments_rise 37 38 (lit≤ tt);
      before = moments_rise 38 38 (lit≤ tt);
      life = refl;
      unmarked = refl;
    }
    record {
      counted = moment 38;
      after = moments_rise 37 38 (lit≤ tt);
      head = was 37 38 38 (second_at small 1) (pack nowhere 0 1) (lit≤ tt) (lit≤ tt) refl;
      links = tt;
      counter = refl;
      last = moment 38;
      then = moments_rise 38 38 (lit≤ tt);
      before = moments_rise 38 38 (lit≤ tt);
      life = refl;
      unmarked = refl;
    }

-- after the edge from 1 to 2 was replaced: its node is passed over
replaced_after : IsSeenReplaced small 1 (moment 44) (moment 44) 2 (pack 4 1 1)
unfolding machine word_at state
replaced_after = record {
  moment = moment 44;
  after = moments_rise 44 44 (lit≤ tt);
  before = moments_rise 44 44 (lit≤ tt);
  word_is = refl;
  met = linked_met small (moment 44) 1 refl 2 refl;
  edge = refl;
  replaced = record { marked = refl; some = λ h. let none : 4 ≡ nowhere = h in omega (arith, none); key = refl };
}

edge_after : IsEdgeSeen small 1 scan_after (moment 44) (moment 44) (first_life 0) (edge_to_two 4 7)
unfolding machine word_at state link_of
edge_after = record {
  moment = moment 44;
  after = moments_rise 44 44 (lit≤ tt);
  before = moments_rise 44 44 (lit≤ tt);
  word_is = refl;
  met = linked_met small (moment 44) 1 refl 4 refl;
  life = refl;
  edge = refl;
  link = _;
  is = refl;
  from = refl;
  key = refl;
  weight = refl;
  target = leads 2 (edge_to_two 4 7) refl refl (moment 44);
}

pub collected_after : HasCollected small 1 (moment 44) (moment 44) scan_after
unfolding machine word_at key_of
collected_after = record {
  some = lit< tt;
  started = refl;
  rows = two (λ k. IsRowSeen small 1 scan_after (moment 44) (moment 44) (row_at scan_after k))
      record {
        found = moment 44;
        after = moments_rise 44 44 (lit≤ tt);
        present = refl;
        begin = moment 44;
        then = moments_rise 44 44 (lit≤ tt);
        before = moments_rise 44 44 (lit≤ tt);
        counter = refl;
        head = was 44 44 44 (second_at small 0) (pack 2 0 1) (lit≤ tt) (lit≤ tt) refl;
        walked = PassedOver 2 (pack 4 1 1) ∷ Recorded (edge_to_two 4 7) ∷ [];
        leads = (refl, (λ f. absurd (omega (arith, f))), (refl, (λ f. absurd (omega (arith, f))), refl));
        meetings = (replaced_after, (edge_after, tt));
        edges = refl;
      }
      record {
        found = moment 44;
        after = moments_rise 44 44 (lit≤ tt);
        present = refl;
        begin = moment 44;
        then = moments_rise 44 44 (lit≤ tt);
        before = moments_rise 44 44 (lit≤ tt);
        counter = refl;
        head = was 44 44 44 (second_at small 1) (pack nowhere 0 1) (lit≤ tt) (lit≤ tt) refl;
        walked = [];
        leads = refl;
        meetings = tt;
        edges = refl;
      };
  reached = reached 2 (edge_to_two 4 7) refl;
}

pub same_after : IsSame small (moment 44) (moment 44) scan_after
unfolding machine word_at
same_after = two (λ k. IsRowSame small scan_after (moment 44) (moment 44) (row_at scan_after k))
    record {
      counted = moment 44;
      after = moments_rise 44 44 (lit≤ tt);
      head = was 44 44 44 (second_at small 0) (pack 2 0 1) (lit≤ tt) (lit≤ tt) refl;
      links = (was 44 44 44 (link_at small 4) (pack nowhere 0 1) (lit≤ tt) (lit≤ tt) refl, tt);
      counter = refl;
      last = moment 44;
      then = moments_rise 44 44 (lit≤ tt);
      before = moments_rise 44 44 (lit≤ tt);
      life = refl;
      unmarked = refl;
    }
    record {
      counted = moment 44;
      after = moments_rise 44 44 (lit≤ tt);
      head = was 44 44 44 (second_at small 1) (pack nowhere 0 1) (lit≤ tt) (lit≤ tt) refl;
      links = tt;
      counter = refl;
      last = moment 44;
      then = moments_rise 44 44 (lit≤ tt);
      before = moments_rise 44 44 (lit≤ tt);
      life = refl;
      unmarked = refl;
    }
