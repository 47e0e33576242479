-- What the link of a target tells that was loaded, and what goes on over it.
use Rattle.std.proofs.Common.{◌≡◌, ◌≢◌, ◌⊎◌, inl, inr, ⊎_elim, ℕ, ◌<◌, ◌-◌, true, List, Some, length, sym, ap, ◌∙◌}
use Rattle.std.proofs.Common.{subst, arith}
use Rattle.packed_link.specs.Link.{mark_of, tag_of}
use Rattle.packed_link.specs.Layout.{IsLayout, Sizes, link_at}
use Rattle.packed_link.specs.declared.link.Life.{Life}
use Rattle.core_journal.specs.declared.event.Event.{Event}
use Rattle.core_journal.specs.GraphOf.{present_key}
use Rattle.core_journal.specs.Life.{key_of, vertex_marked}
use Rattle.core_journal.specs.Machine.{word_at}
use Rattle.core_journal.specs.Prefix.{IsPrefix}
use Rattle.core_journal.specs.Reuse.{pass_in}
use Rattle.core_journal.proofs.Lists.{prefix_trans}
use Rattle.core_kept.specs.Kept.{IsKept}
use Rattle.core_lists.proofs.LinkTellsPresence.{over}
use Rattle.core_rule.specs.Fronts.{MetVertex, key_in}
use Rattle.core_rule.specs.Views.{GoesOn}
use Rattle.core_rule.specs.declared.view.View.{View}
use Rattle.core_scans.specs.Walking.{AreRowsMet, IsWithin}
use Rattle.core_scans.proofs.AliveIsMet.{alive_met}
use Rattle.core_scans.proofs.FrontsKeepLives.{key_on}
use Rattle.core_scans.proofs.PushesKeepRows.{met_pushed, none_of_index}
use Rattle.core_scans.proofs.RoomInScan.{room_for_row}
use Rattle.core_scans.proofs.RowSteps.{met_later}
use Rattle.core_stretches.proofs.WordsLeadOn.{goes_sizes}
use Rattle.scan_record.specs.Scan.{IsScan, ScanValue, row_at, with_vertex}
use Rattle.tree_scan.specs.Collects.{IsAtEdge}
use Rattle.tree_scan.proofs.EdgesLoaded.{HasLoaded}

-- the front at which the root was found begins the view's
pub from_start : (v : View) (start : List Event) (s : ScanValue) (at steps : ℕ) → IsWithin v start s at steps
    → IsPrefix start v.front
from_start v start s at steps h = prefix_trans start h.row.begin v.front
    (prefix_trans start h.row.found h.row.begin h.row.after h.row.then) h.row.before

-- the rows that were met
pub rows_later : (v w : View) → IsLayout v.sizes → GoesOn v w → (start : List Event) (s : ScanValue)
    → AreRowsMet v start s → AreRowsMet w start s
rows_later v w z g start s rows k low = met_later v w z g start (row_at s k) (rows k low)

-- the pass is open, since a row was met
pub pass_opened : (v : View) (start : List Event) (s : ScanValue) (at steps : ℕ) → IsWithin v start s at steps
    → (pass_in v.sizes v.front v.number).is_open ≡ true
pass_opened v start s at steps h = (h.met (s.next - 1) (omega (arith, h.begun, h.some))).met.met.pass

module _ (v w : View) (z : IsLayout v.sizes) (target : Life) (key found : ℕ)
    (h : HasLoaded v w (link_at v.sizes target.index) found) (linked : key_of v.front target ≡ Some key) where
  sizes : w.sizes ≡ v.sizes
  sizes = goes_sizes v w h.goes

  layout : IsLayout w.sizes
  layout = subst IsLayout (sym sizes) z

  kept : IsKept w.sizes w.front
  kept = subst (λ (y : Sizes). IsKept y w.front) (sym sizes) h.goes.kept

  linked_now : key_of w.front target ≡ Some key
  linked_now = key_on v.front w.front h.goes.grows target key linked

  link_word : word_at w.sizes w.front (link_at w.sizes target.index) ≡ found
  link_word = ap (λ (y : Sizes). word_at y w.front (link_at y target.index)) sizes ∙ sym h.word

  pub target_over : (tag_of found ≢ target.tag) ⊎ (mark_of found ≡ 1) → vertex_marked w.front target ≡ true
  target_over other = over w.sizes layout w.front kept target key linked_now (⊎_elim
      (λ (ne : tag_of found ≢ target.tag). inl
      (λ (is : tag_of (word_at w.sizes w.front (link_at w.sizes target.index)) ≡ target.tag).
      ne (sym (ap tag_of link_word) ∙ is)))
      (λ (one : mark_of found ≡ 1). inr (ap mark_of link_word ∙ one)) other)

  module _ (start : List Event) (s : ScanValue) (at steps : ℕ) (e : IsAtEdge v start s at steps) where
    pub rows_now : AreRowsMet w start s
    rows_now = rows_later v w z h.goes start s e.within.met

    open_now : (pass_in w.sizes w.front w.number).is_open ≡ true
    open_now = (rows_now (s.next - 1) (omega (arith, e.within.begun, e.within.some))).met.met.pass

    module _ (tag : tag_of found ≡ target.tag) (live : mark_of found ≡ 0) where
      pub target_met : MetVertex w target × (key_in w target.index ≡ key) × (present_key w.front target ≡ Some key)
      target_met = alive_met w layout kept open_now target key linked_now (ap tag_of link_word ∙ tag)
          (ap mark_of link_word ∙ live)

      module _ (none : (k : ℕ) → k < length s.rows → (row_at s k).life ≢ target) where
        pub absent : (k : ℕ) → k < length s.rows → (row_at s k).life.index ≢ target.index
        absent = none_of_index w start s target rows_now target_met.0 none

        pub row_room : IsScan s → length s.rows < s.nodes
        row_room is =
            let less = room_for_row w start s target is rows_now target_met.0 absent in
            omega (arith, less, ap (λ (y : Sizes). y.nodes) sizes, e.room)

      pub pushed_met : AreRowsMet w start (with_vertex s target key)
      pushed_met = met_pushed w start s target key
          (prefix_trans start v.front w.front (from_start v start s at steps e.within) h.goes.grows) rows_now
          target_met.0 target_met.1 target_met.2
