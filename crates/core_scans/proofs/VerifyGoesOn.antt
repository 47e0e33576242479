-- What verify carries from load to load.
use Rattle.std.proofs.Common.{◌≡◌, ℕ, zero, suc, ◌+◌, ◌≤◌, List, [], ◌∷◌, length, take, Some, sym, subst, arith}
use Rattle.std.specs.Prelude.{slice_get}
use mathlib.Core.Logic.{dite}
use native.Mathlib.Decide.{ℕ_discrete}
use Rattle.graph_kinds.specs.History.{Every}
use Rattle.packed_link.specs.Link.{mark_of, tag_of}
use Rattle.packed_link.specs.Layout.{Sizes, link_at, second_at, third_at}
use Rattle.scan_record.specs.declared.rows.VertexRow.{VertexRow}
use Rattle.scan_record.specs.declared.rows.EdgeRow.{EdgeRow}
use Rattle.scan_record.specs.Scan.{ScanValue, row_at, edges_of}
use Rattle.core_journal.specs.declared.event.Event.{Event}
use Rattle.core_journal.specs.Machine.{word_at}
use Rattle.core_journal.specs.Prefix.{IsPrefix}
use Rattle.core_journal.proofs.Lists.{prefix_refl, prefix_trans, every_map}
use Rattle.core_scans.specs.Seen.{WasAt, IsRowSame}
use Rattle.core_scans.specs.Walking.{AreRowsSame, IsRowAgain, IsRowCounted}
use Rattle.core_scans.proofs.CollectGoesOn.{was_on}

module _ (sizes : Sizes) (s : ScanValue) (end now later : List Event) (p : IsPrefix now later) where
  link_on_ : (e : EdgeRow) → WasAt sizes end now (link_at sizes e.life.index) e.link
      → WasAt sizes end later (link_at sizes e.life.index) e.link
  link_on_ e w = was_on sizes end now later (link_at sizes e.life.index) e.link p w

  pub again_later : (row : VertexRow) (found : ℕ) → IsRowAgain sizes s end now row found
      → IsRowAgain sizes s end later row found
  again_later row found h = record {
    front = prefix_trans end now later h.front p;
    head = was_on sizes end now later (second_at sizes row.life.index) row.head p h.head;
    links = every_map (λ (e : EdgeRow). WasAt sizes end now (link_at sizes e.life.index) e.link)
        (λ (e : EdgeRow). WasAt sizes end later (link_at sizes e.life.index) e.link) link_on_
        (take found (edges_of s row)) h.links;
  }

  pub counted_later : (row : VertexRow) → IsRowCounted sizes s end now row → IsRowCounted sizes s end later row
  counted_later row h = record {
    counted = h.counted;
    after = h.after;
    before = prefix_trans h.counted now later
        h.before p;
    head = h.head;
    links = h.links;
    counter = h.counter;
  }

  pub same_later : (k : ℕ) → AreRowsSame sizes end now s k → AreRowsSame sizes end later s k
  same_later k h i low =
      let r = h i low in
      record {
        counted = r.counted;
        after = r.after;
        head = r.head;
        links = r.links;
        counter = r.counter;
        last = r.last;
        then = r.then;
        before = prefix_trans r.last now later r.before p;
        life = r.life;
        unmarked = r.unmarked;
      }

module _ (sizes : Sizes) (s : ScanValue) (end now : List Event) where
  pub head_again : (row : VertexRow) → IsPrefix end now → word_at sizes now (second_at sizes row.life.index) ≡ row.head
      → IsRowAgain sizes s end now row 0
  head_again row p h = record {
    front = p;
    head = record {
      moment = now;
      after = p;
      before = prefix_refl now;
      word_is =
          h;
    };
    links = tt;
  }

  take_more : (P : EdgeRow → Type 0) (es : List EdgeRow) (n : ℕ) (e : EdgeRow) → slice_get es n ≡ Some e
      → Every P (take n es) → P e → Every P (take (n + 1) es)
  take_more P [] n e at f h = absurd (cc)
  take_more P (x ∷ es) zero e at f h = let same : x ≡ e = cc in (subst P (sym same) h, tt)
  take_more P (x ∷ es) (suc n) e at f h = subst (λ (m : ℕ). Every P (take m (x ∷ es))) (sym (add_one n))
      (f.0, take_more P es n e at f.1 h)
    where
      add_one : (n : ℕ) → suc n + 1 ≡ suc (n + 1)
      add_one n = omega arith

  pub link_again : (row : VertexRow) (found : ℕ) (e : EdgeRow) → IsRowAgain sizes s end now row found
      → slice_get (edges_of s row) found ≡ Some e → word_at sizes now (link_at sizes e.life.index) ≡ e.link
      → IsRowAgain sizes s end now row (found + 1)
  link_again row found e h at word = record {
    front = h.front;
    head = h.head;
    links = take_more (λ (e : EdgeRow). WasAt sizes end now (link_at sizes e.life.index) e.link) (edges_of s row) found
        e at h.links record { moment = now; after = h.front; before = prefix_refl now; word_is = word };
  }

  take_whole : (P : EdgeRow → Type 0) (es : List EdgeRow) (n : ℕ) → length es ≤ n → Every P (take n es) → Every P es
  take_whole P [] n long f = tt
  take_whole P (x ∷ es) zero long f = absurd (omega arith)
  take_whole P (x ∷ es) (suc n) long f = (f.0, take_whole P es n (omega arith) f.1)

  pub row_counted : (row : VertexRow) (found : ℕ) → IsRowAgain sizes s end now row found
      → length (edges_of s row) ≤ found → word_at sizes now (third_at sizes row.life.index) ≡ row.counter
      → IsRowCounted sizes s end now row
  row_counted row found h long word = record {
    counted = now;
    after = h.front;
    before = prefix_refl now;
    head = h.head;
    links = take_whole (λ (e : EdgeRow). WasAt sizes end now (link_at sizes e.life.index) e.link) (edges_of s row) found
        long h.links;
    counter = word;
  }

  pub row_same : (k : ℕ) → AreRowsSame sizes end now s k → IsRowCounted sizes s end now (row_at s k)
      → tag_of (word_at sizes now (link_at sizes (row_at s k).life.index)) ≡ (row_at s k).life.tag
      → mark_of (word_at sizes now (link_at sizes (row_at s k).life.index)) ≡ 0 → AreRowsSame sizes end now s (k + 1)
  row_same k h c tag live i low = dite (ℕ_discrete i k)
      (λ same. subst (λ (n : ℕ). IsRowSame sizes s end now (row_at s n))
      (sym same) record {
        counted = c.counted;
        after = c.after;
        head = c.head;
        links = c.links;
        counter = c.counter;
        last = now;
        then = c.before;
        before = prefix_refl now;
        life = tag;
        unmarked = live;
      })
      (λ ne. h i (omega (arith, low, ne)))
