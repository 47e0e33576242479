-- Collect begins with its root, goes from row to row, and is at its end when all rows were started.
use Rattle.std.proofs.Common.{◌≡◌, ℕ, ◌+◌, ◌<◌, ◌≤◌, ◌^◌, [], List, Some, length, refl, sym, ap, ◌∙◌, subst}
use Rattle.std.proofs.Common.{arith}
use Rattle.std.proofs.Math.ListN.{length-set}
use Rattle.packed_link.specs.Layout.{IsLayout, Sizes, key_at, second_at, third_at}
use Rattle.packed_link.specs.declared.link.Life.{Life}
use Rattle.core_journal.specs.declared.event.Event.{Event}
use Rattle.core_journal.specs.Machine.{word_at}
use Rattle.core_journal.proofs.Lists.{prefix_refl, prefix_trans}
use Rattle.core_kept.proofs.Contents.{contents}
use Rattle.core_kept.proofs.MetWords.{met_used}
use Rattle.core_kept.specs.Kept.{IsKept}
use Rattle.core_rule.specs.Fronts.{MetVertex, key_in}
use Rattle.core_rule.specs.Views.{GoesOn}
use Rattle.core_rule.specs.declared.view.View.{View}
use Rattle.core_rule.proofs.ViewShows.{key_still, vertex_still}
use Rattle.core_scans.specs.Walking.{AreRowsReached, IsMore}
use Rattle.core_scans.proofs.PushesKeepLives.{root_key}
use Rattle.core_scans.proofs.PushesKeepRows.{reached_started}
use Rattle.core_scans.proofs.RowSteps.{between_done, between_first, row_started}
use Rattle.core_stretches.specs.Makes.{Makes}
use Rattle.core_stretches.proofs.MakesAddUp.{makes_chain}
use Rattle.core_stretches.proofs.MakesTell.{makes_later}
use Rattle.core_stretches.proofs.WordsLeadOn.{goes_sizes}
use Rattle.graph_table.specs.Tokens.{TableValue, TokenValue, IsOf}
use Rattle.scan_record.specs.Scan.{IsScan, ScanValue, empty_scan, row_at, with_started, with_vertex}
use Rattle.scan_record.proofs.Starts.{started_row}
use Rattle.tree_scan.specs.Collects.{IsAtEdge, IsAtRow, IsCollectedFrom, IsRootFound}
use Rattle.tree_scan.proofs.EdgesLoaded.{HasLoaded}
use Rattle.tree_scan.proofs.EdgesRecorded.{looks_later}

-- a row is started with its counter, which was loaded first, and its head
pub row_begun : (v a b : View) → IsLayout v.sizes → Makes v [] b → GoesOn a b → (start : List Event) (s : ScanValue)
    → IsScan s → IsAtRow v start s → s.next < length s.rows → (counter head : ℕ)
    → HasLoaded v a (third_at v.sizes (row_at s s.next).life.index) counter
    → HasLoaded v b (second_at v.sizes (row_at s s.next).life.index) head
    → IsAtEdge b start (with_started s s.next counter head) head 0
row_begun v a b z made on start s is h low counter head first second =
    let t = with_started s s.next counter head in
    let long : length t.rows ≡ length s.rows = length-set s.rows s.next (started_row s s.next counter head) in
    record {
      looks = looks_later v b start made h.looks;
      within = row_started v a b z start s is h.between low first.goes on counter head (sym first.word)
          (sym second.word);
      reached = subst (AreRowsReached t) (sym long) (reached_started s is s.next counter head (length s.rows)
          (omega arith) low h.reached);
      room = omega (arith, ap (λ (y : Sizes). y.nodes) (makes_later v b [] made).sizes, h.room);
    }

-- collect stands between two rows, and row 0 is the root's
pub record IsCollecting (g : TableValue) (t : TokenValue) (root : Life) (s : ScanValue) (u : TokenValue)
    (r : ScanValue) (row : ℕ) : Type 0 where
  pub of : IsOf g u
  pub makes : Makes t.view [] u.view
  pub nodes : r.nodes ≡ s.nodes
  pub next : row ≡ r.next
  pub some_row : 0 < length r.rows
  pub root_is : (row_at r 0).life ≡ root
  pub start : List Event
  pub some : IsAtRow u.view start r
  pub stands : (start : List Event) (key : ℕ) → IsRootFound t.view start root key → IsAtRow u.view start r

-- the root's key was loaded
module _ (v w : View) (z : IsLayout v.sizes) (made : Makes v [] w) (root : Life) (found : ℕ)
    (h : HasLoaded v w (key_at v.sizes root.index) found) where
  root_key_is : MetVertex v root → found ≡ key_in v root.index
  root_key_is m = h.word ∙ (ap (λ (s : Sizes). word_at s w.front (key_at s root.index)) (sym (goes_sizes v w h.goes))
      ∙ key_still v w z h.goes root.index m.life.there m.met)

  pub root_key_fits : MetVertex v root → IsKept v.sizes v.front → found < 2 ^ 32
  root_key_fits m kept =
      let c = ((contents v.sizes z v.front kept).each root.index m.life.there).vertex
      (met_used v.sizes v.front v.number root.index m.met) m.vertex in
      subst (λ (k : ℕ). k < 2 ^ 32) (sym c.key_word ∙ sym (root_key_is m)) c.key_fits

  pub first_row : (start : List Event) (key nodes : ℕ) → v.sizes.nodes ≤ nodes → IsRootFound v start root key
      → IsAtRow w start (with_vertex (empty_scan nodes) root found)
  first_row start key nodes room f =
      let same : found ≡ key = root_key_is f.met ∙ f.key_is in
      record {
        looks = looks_later v w start made f.looks;
        between = between_first w start nodes root found (prefix_trans start v.front w.front f.front h.goes.grows)
            (f.present ∙ ap Some (sym same)) (vertex_still v w z h.goes root f.met)
            (key_still v w z h.goes root.index f.met.life.there f.met.met ∙ sym (root_key_is f.met));
        reached = λ t some low. absurd (omega (arith, some, low));
        room = omega (arith, room, ap (λ (y : Sizes). y.nodes) (goes_sizes v w h.goes));
      }

pub collect_first : (g : TableValue) (t u : TokenValue) (root : Life) (s r : ScanValue) (found : ℕ) → IsOf g t
    → IsOf g u → Makes t.view [] u.view → g.sizes.nodes ≤ s.nodes
    → HasLoaded t.view u.view (key_at t.view.sizes root.index) found
    → r ≡ with_vertex (empty_scan s.nodes) root found → (start : List Event) (key : ℕ)
    → IsRootFound t.view start root key → IsCollecting g t root s u r 0
collect_first g t u root s r found of of' made room h is start key f =
    let enough : t.view.sizes.nodes ≤ s.nodes = omega (arith, room, ap (λ (y : Sizes). y.nodes) of.sizes) in
    let row = λ (st : List Event) (k : ℕ) (x : IsRootFound t.view st root k).
    first_row t.view u.view of.layout made root found h st k s.nodes enough x in
    subst (λ (y : ScanValue). IsCollecting g t root s u y 0) (sym is) record {
      of = of';
      makes = made;
      nodes = refl;
      next = refl;
      some_row = omega arith;
      root_is = refl;
      start = start;
      some = row start key f;
      stands = row;
    }

pub collect_next : (g : TableValue) (t : TokenValue) (root : Life) (s : ScanValue) (u w : TokenValue)
    (r q : ScanValue) (row : ℕ) → IsCollecting g t root s u r row → IsOf g w → Makes u.view [] w.view → IsMore r q
    → q.nodes ≡ r.nodes → q.next ≡ r.next + 1
    → ((start : List Event) → IsAtRow u.view start r → IsAtRow w.view start q)
    → IsCollecting g t root s w q (row + 1)
collect_next g t root s u w r q row h of made more nodes next on = record {
  of = of;
  makes = makes_chain t.view u.view w.view [] [] h.makes made;
  nodes = nodes ∙ h.nodes;
  next = omega (arith, next, h.next);
  some_row = omega (arith, h.some_row, more.rows);
  root_is = more.lives 0 h.some_row ∙ h.root_is;
  start = h.start;
  some = on h.start h.some;
  stands = λ start key f. on start (h.stands start key f);
}

pub collect_done : (g : TableValue) (t : TokenValue) (root : Life) (s : ScanValue) (u : TokenValue) (r : ScanValue)
    (row : ℕ) → IsCollecting g t root s u r row → IsScan r → length r.rows ≤ row → (start : List Event) (key : ℕ)
    → IsRootFound t.view start root key → IsCollectedFrom u.view start root key r
collect_done g t root s u r row h is long start key f =
    let e = h.stands start key f in
    let all = between_done u.view start r e.between e.reached (omega (arith, h.next, long, is.started_are_rows)) in
    record {
      filled = record { collected = all; until = prefix_refl u.view.front; looks = e.looks };
      valid = is;
      root_is = h.root_is;
      key_is = root_key u.view.sizes u.view.number start u.view.front r root key all f.present h.root_is;
    }
