-- What verify's loads show of a row, and what its verdict tells then.
use Rattle.std.proofs.Common.{◌≡◌, ℕ, zero, suc, ◌+◌, ◌<◌, ◌≤◌, true, List, [], ◌∷◌, length, take, Some, sym}
use Rattle.std.proofs.Common.{append-nil, ap, ap₂, ◌∙◌, subst, arith, ⊎_elim}
use Rattle.std.proofs.lemmas.Bool.{cases_lt}
use Rattle.std.specs.Prelude.{drop, slice_get}
use Rattle.packed_link.specs.Link.{mark_of, tag_of}
use Rattle.packed_link.specs.Layout.{IsLayout, Sizes, link_at, second_at, third_at}
use Rattle.scan_record.specs.declared.rows.VertexRow.{VertexRow}
use Rattle.scan_record.specs.declared.rows.EdgeRow.{EdgeRow}
use Rattle.scan_record.specs.Scan.{ScanValue, IsScan, row_at, edge_at, edges_of, blank_edge}
use Rattle.scan_record.proofs.Edges.{length-edges_of, get_or-edges_of}
use Rattle.core_journal.specs.declared.event.Event.{Event}
use Rattle.core_journal.specs.Machine.{word_at}
use Rattle.core_journal.specs.Prefix.{IsPrefix}
use Rattle.core_journal.proofs.Lists.{get_back, prefix_trans}
use Rattle.core_rule.specs.Plays.{Looked}
use Rattle.core_rule.specs.declared.view.View.{View}
use Rattle.core_journal.specs.Foreign.{IsForeign}
use Rattle.core_scans.specs.Differing.{DiffersNow}
use Rattle.core_scans.specs.Seen.{IsInside, OnlyLooks}
use Rattle.core_scans.specs.Walking.{AreRowsSame, IsRowAgain}
use Rattle.core_scans.proofs.DifferingWasChanged.{differs_foreign}
use Rattle.core_scans.proofs.FrontsKeepLives.{get_at}
use Rattle.core_scans.proofs.HeldIsThePart.{inside, same_part}
use Rattle.core_scans.proofs.OnlyLooking.{looks_until}
use Rattle.core_scans.proofs.VerifyGoesOn.{counted_later, head_again, row_counted, row_same, same_later}
use Rattle.core_scans.proofs.VerifyGoesOn.{again_later}
use Rattle.tree_scan.specs.Verdicts.{IsFallenRow, IsFilledScan, IsPartAt}
use Rattle.core_stretches.specs.Makes.{Makes}
use Rattle.core_stretches.proofs.MakesAddUp.{makes_chain, makes_look}
use Rattle.core_stretches.proofs.MakesTell.{makes_later}
use Rattle.graph_table.specs.Tokens.{TableValue, TokenValue, IsOf}

-- a load after a stretch without own events makes none
pub load_makes : (g : TableValue) (t m u : TokenValue) (place found : ℕ) → t.view.numbered ≡ true
    → Makes t.view [] m.view → IsOf g m → Looked m.view place found u.view → Makes t.view [] u.view
load_makes g t m u place found has made of look =
    let later = makes_later t.view m.view [] made in
    makes_chain t.view m.view u.view [] [] made
    (makes_look m.view u.view place found (later.numbered ∙ has) of.sound look)

-- what is loaded is the word at the new front
pub word_loaded : (g : TableValue) (m u : TokenValue) (at place found : ℕ) → IsOf g m
    → Looked m.view at found u.view → at ≡ place → word_at g.sizes u.view.front place ≡ found
word_loaded g m u at place found of look is = sym
    (look.word ∙ ap₂ (λ (z : Sizes) (p : ℕ). word_at z u.view.front p) of.sizes is)

-- the edge at a place of a row
pub edge_there : (s : ScanValue) (k n : ℕ) (row : VertexRow) (e : EdgeRow) → IsScan s → k < length s.rows
    → n < row.count → row ≡ row_at s k → e ≡ edge_at s (row.first + n)
    → slice_get (edges_of s (row_at s k)) n ≡ Some e
edge_there s k n row e ok low less is at =
    let inside : n < (row_at s k).count = subst (λ (r : VertexRow). n < r.count) is less in
    get_at (edges_of s (row_at s k)) n blank_edge (omega (arith, length-edges_of s k ok low, inside))
    ∙ (ap Some (get_or-edges_of s (row_at s k) n inside)
    ∙ ap Some (sym (at ∙ ap (λ (r : VertexRow). edge_at s (r.first + n)) is)))

at_most : (n : ℕ) (es : List EdgeRow) → length (take n es) ≤ n
at_most zero es = omega arith
at_most (suc n) [] = omega arith
at_most (suc n) (e ∷ es) = let h = at_most n es in omega (arith, h)

-- all words of a row were loaded again and are the recorded ones, and its vertex is alive: so one more row is the same
pub row_found : (sizes : Sizes) (s : ScanValue) (k : ℕ) (old head links counted now : List Event) → IsPrefix old head
    → IsPrefix head links → IsPrefix links counted → IsPrefix counted now
    → word_at sizes head (second_at sizes (row_at s k).life.index) ≡ (row_at s k).head
    → ((end : List Event) → IsRowAgain sizes s end head (row_at s k) 0
    → IsRowAgain sizes s end links (row_at s k) (row_at s k).count)
    → word_at sizes counted (third_at sizes (row_at s k).life.index) ≡ (row_at s k).counter
    → tag_of (word_at sizes now (link_at sizes (row_at s k).life.index)) ≡ (row_at s k).life.tag
    → mark_of (word_at sizes now (link_at sizes (row_at s k).life.index)) ≡ 0
    → (end : List Event) → IsPrefix end old → AreRowsSame sizes end old s k → AreRowsSame sizes end now s (k + 1)
row_found sizes s k old head links counted now p q r t word again counter tag live end since same =
    let row = row_at s k in
    let first = head_again sizes s end head row (prefix_trans end old head since p) word in
    let all = again_later sizes s end links counted r row row.count (again end first) in
    let done = row_counted sizes s end counted row row.count all (at_most row.count (drop row.first s.edges)) counter in
    let behind = prefix_trans old links now (prefix_trans old head links p q) (prefix_trans links counted now r t) in
    row_same sizes s end now k (same_later sizes s end old now behind k same)
    (counted_later sizes s end counted now t row done) tag live

-- a token that only looked since a front, and made nothing since, only looked
pub looks_on : (v w : View) (start : List Event) → Makes v [] w → OnlyLooks v.sizes v.number start v.front
    → OnlyLooks v.sizes v.number start w.front
looks_on v w start made looks =
    let a = made.steps in
    let p = (makes_later v w [] made).grows in
    let front : w.front ≡ a.grown = a.front ∙ append-nil a.grown in
    record {
      kept = a.kept;
      opened = looks.opened;
      quiet = record {
        none = λ k e far at by. ⊎_elim
            (λ (low : k < length v.front). looks.quiet.none k e far (sym (get_back v.front p.rest k low)
            ∙ subst (λ (j : List Event). slice_get j k ≡ Some e) (sym p.whole) at) by)
            (λ (high : length v.front ≤ k). a.reaches.quiet.none k e
            (let o = a.reaches.old in omega (arith, o, high))
            (subst (λ (j : List Event). slice_get j k ≡ Some e) front at) by)
            (cases_lt k (length v.front));
      };
    }

-- what verify loads is inside of the table
pub inside_table : (v : View) (start end : List Event) (s : ScanValue) → IsScan s → IsFilledScan v start end s
    → IsInside v.sizes s
inside_table v start end s is f = inside v.sizes v.number start end s
    (looks_until v.sizes v.number start end v.front f.looks f.until).kept is f.collected

-- all rows were found the same
pub same_told : (v w : View) (start end : List Event) (s : ScanValue) → IsLayout v.sizes → Makes v [] w → IsScan s
    → IsFilledScan v start end s → AreRowsSame v.sizes end w.front s (length s.rows) → IsPartAt end s
same_told v w start end s z made is f same =
    let looks = looks_on v w start made f.looks in
    let p = prefix_trans end v.front w.front f.until (makes_later v w [] made).grows in
    let q = same_part v.sizes z v.number start end w.front s looks p is f.collected same in
    record { complete = q.0; root = q.1; part = q.2 }

-- a row isn't as it was recorded
pub differs_told : (v w : View) (start end : List Event) (s : ScanValue) (k : ℕ) → IsLayout v.sizes → Makes v [] w
    → k < length s.rows → IsFilledScan v start end s → DiffersNow v.sizes s w.front (row_at s k)
    → IsFallenRow w start s k
differs_told v w start end s k z made low f other =
    let looks = looks_on v w start made f.looks in
    let later = makes_later v w [] made in
    let p = prefix_trans end v.front w.front f.until later.grows in
    let foreign = differs_foreign v.sizes z v.number start end w.front s looks p (row_at s k) (f.collected.rows k low)
    other in
    record {
      row = low;
      differs = subst (λ (y : Sizes). DiffersNow y s w.front (row_at s k)) (sym later.sizes) other;
      foreign = subst (λ (n : ℕ). IsForeign w.front n (length start) (length w.front)) (sym later.number) foreign;
    }
