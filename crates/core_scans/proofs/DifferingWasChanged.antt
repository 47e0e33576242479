-- What isn't as it was recorded was changed by a counted event of another caller.
use Rattle.std.proofs.Common.{◌≡◌, ◌≢◌, inl, inr, ⊎_elim, ℕ, ◌+◌, ◌<◌, true, List}
use Rattle.std.proofs.Common.{length}
use Rattle.std.proofs.Common.{Some, refl, sym, ap, ◌∙◌, arith, lit<}
use Rattle.std.specs.Prelude.{slice_get}
use Rattle.packed_link.specs.Link.{mark_of, tag_of}
use Rattle.packed_link.specs.Layout.{Sizes, IsLayout, key_at, link_at, second_at, third_at}
use Rattle.scan_record.specs.declared.rows.VertexRow.{VertexRow}
use Rattle.scan_record.specs.declared.rows.EdgeRow.{EdgeRow}
use Rattle.scan_record.specs.Scan.{ScanValue, edges_of}
use Rattle.core_journal.specs.declared.event.Event.{Event}
use Rattle.core_journal.specs.Foreign.{IsForeign}
use Rattle.core_journal.specs.Machine.{word_at}
use Rattle.core_journal.specs.Prefix.{IsPrefix}
use Rattle.core_journal.specs.Reuse.{pass_in}
use Rattle.core_journal.specs.State.{Linked, Pass}
use Rattle.core_journal.proofs.LivesOf.{present_is}
use Rattle.core_journal.proofs.Lists.{prefix_refl, prefix_trans, prefix_length}
use Rattle.core_kept.specs.Facts.{HasMet}
use Rattle.core_kept.specs.Kept.{IsKept}
use Rattle.core_kept.specs.Nodes.{node_in}
use Rattle.core_kept.proofs.Induction.{kept_front}
use Rattle.core_kept.proofs.LinkedVertices.{IsLiveVertex}
use Rattle.core_kept.proofs.MetWords.{still_met}
use Rattle.core_kept.proofs.NodesInPlace.{used_there}
use Rattle.core_lists.specs.Changed.{HasNoneAt, IsChangedByAnother}
use Rattle.core_lists.proofs.ChangedByAnother.{node_changed}
use Rattle.core_lists.proofs.LinkTellsPresence.{over}
use Rattle.core_lists.proofs.OneVertexOfKey.{present_live}
use Rattle.core_scans.specs.Differing.{DiffersNow, HasOtherLink, IsVertexOver}
use Rattle.core_scans.specs.Seen.{IsEdgeSeen, IsRowSeen, OnlyLooks}
use Rattle.core_scans.proofs.FrontsKeepLives.{every_at}
use Rattle.core_scans.proofs.RecordedOfWalk.{row_edges}
use Rattle.core_scans.proofs.RowIsHeld.{pass_at, same_pass}

-- what was changed since a later front was changed since an earlier one
since_earlier : (caller place : ℕ) (front later journal : List Event) → IsPrefix front later
    → IsChangedByAnother later journal caller place → IsChangedByAnother front journal caller place
since_earlier caller place front later journal p c = record {
  number = c.number;
  event = c.event;
  since = omega (arith, prefix_length front later p, c.since);
  until = c.until;
  at = c.at;
  here = c.here;
  counts = c.counts;
  other = c.other;
}

-- it's a foreign event
pub change_is_foreign : (front journal : List Event) (caller place : ℕ) → IsChangedByAnother front journal caller place
    → IsForeign journal caller (length front) (length journal)
change_is_foreign front journal caller place c = record {
  number = c.number;
  event = c.event;
  since = c.since;
  until = c.until;
  at = c.at;
  counts = c.counts;
  other = c.other;
}

module _ (sizes : Sizes) (z : IsLayout sizes) (caller : ℕ) (start end now : List Event) (s : ScanValue)
    (looks : OnlyLooks sizes caller start now) (seen_all : IsPrefix end now) where
  -- the word of a node that was met isn't as it was at a moment since the start
  word_changed : (j : List Event) → IsPrefix start j → IsPrefix j now → (x field word : ℕ) → field < 4
      → HasMet sizes j caller x → word_at sizes j (key_at sizes x + field) ≡ word
      → word_at sizes now (key_at sizes x + field) ≢ word
      → IsChangedByAnother start now caller (key_at sizes x + field)
  word_changed j p q x field word low m was differs =
      let pass = pass_at sizes z caller start now now s looks.kept (prefix_refl now) looks.quiet looks.opened in
      let opened : (pass_in sizes j caller).is_open ≡ true = ap (λ (o : Pass). o.is_open) (pass j p q) ∙ looks.opened in
      let one = pass now (prefix_trans start j now p q) (prefix_refl now) ∙ sym (pass j p q) in
      let none : HasNoneAt j now caller (key_at sizes x + field) = record {
        none = λ k e far at mine. absurd (looks.quiet.none k e (omega (arith, prefix_length start j p, far)) at mine);
      } in
      since_earlier caller (key_at sizes x + field) start j now p
      (node_changed sizes j now q looks.kept caller z opened one x field low m none (λ h. differs (h ∙ was)))

  module _ (row : VertexRow) (seen : IsRowSeen sizes caller s start end row) where
    found_now : IsPrefix seen.found now
    found_now = prefix_trans seen.found seen.begin now seen.then (prefix_trans seen.begin end now seen.before seen_all)

    kept_found : IsKept sizes seen.found
    kept_found = kept_front sizes seen.found now found_now looks.kept

    -- the row's vertex was met where it was found
    live : IsLiveVertex (node_in sizes seen.found row.life.index) row.life.tag row.key
    live = present_live sizes z seen.found kept_found row.life row.key seen.present

    there : row.life.index < sizes.nodes
    there = used_there sizes seen.found row.life.index kept_found (λ f. let m = live.linked in absurd (cc))

    met_found : HasMet sizes seen.found caller row.life.index
    met_found =
        let linked : (node_in sizes seen.found row.life.index).mode ≡ Linked = live.linked in record {
          pass = ap (λ (o : Pass). o.is_open) (pass_at sizes z caller start now now s looks.kept (prefix_refl now)
              looks.quiet looks.opened seen.found seen.after found_now) ∙ looks.opened;
          free = λ f. absurd (cc);
          fresh = λ f. absurd (cc);
          spent = λ f. absurd (cc);
        }

    met_at : (j : List Event) → IsPrefix seen.found j → IsPrefix j now → HasMet sizes j caller row.life.index
    met_at j p q = (still_met sizes z seen.found j (kept_front sizes j now q looks.kept) caller row.life.index
        (same_pass sizes z caller start now now s looks.kept (prefix_refl now) looks.quiet looks.opened seen.found j
        seen.after p q) met_found).0

    row_changed : (j : List Event) (field word : ℕ) → field < 4 → IsPrefix seen.found j → IsPrefix j now
        → word_at sizes j (key_at sizes row.life.index + field) ≡ word
        → word_at sizes now (key_at sizes row.life.index + field) ≢ word
        → IsChangedByAnother start now caller (key_at sizes row.life.index + field)
    row_changed j field word low p q was differs = word_changed j (prefix_trans start seen.found j seen.after p) q
        row.life.index field word low (met_at j p q) was differs

    pub head_changed : word_at sizes now (second_at sizes row.life.index) ≢ row.head
        → IsChangedByAnother start now caller (second_at sizes row.life.index)
    head_changed differs = row_changed seen.head.moment 2 row.head (lit< tt)
        (prefix_trans seen.found seen.begin seen.head.moment seen.then seen.head.after)
        (prefix_trans seen.head.moment end now seen.head.before seen_all) seen.head.word_is differs

    pub counter_changed : word_at sizes now (third_at sizes row.life.index) ≢ row.counter
        → IsChangedByAnother start now caller (third_at sizes row.life.index)
    counter_changed differs = row_changed seen.begin 3 row.counter (lit< tt) seen.then
        (prefix_trans seen.begin end now seen.before seen_all) seen.counter differs

    -- where it was found its link told that it's present
    pub over_changed : IsVertexOver sizes now row → IsChangedByAnother start now caller (link_at sizes row.life.index)
    over_changed gone = row_changed seen.found 1 (word_at sizes seen.found (link_at sizes row.life.index)) (lit< tt)
        (prefix_refl seen.found) found_now refl
        (λ same.
        let p = present_is seen.found row.life row.key seen.present in
        let t = over sizes z seen.found kept_found row.life row.key p.1 (⊎_elim
        (λ (other : tag_of (word_at sizes now (link_at sizes row.life.index)) ≢ row.life.tag).
        inl (λ h. other (ap tag_of same ∙ h)))
        (λ (dead : mark_of (word_at sizes now (link_at sizes row.life.index)) ≡ 1).
        inr (sym (ap mark_of same) ∙ dead)) gone) in
        let live = p.0 in absurd (cc))

    pub link_changed : (place : ℕ) (e : EdgeRow) → slice_get (edges_of s row) place ≡ Some e
        → word_at sizes now (link_at sizes e.life.index) ≢ e.link
        → IsChangedByAnother start now caller (link_at sizes e.life.index)
    link_changed place e at differs =
        let es = every_at (IsEdgeSeen sizes caller s seen.begin end row.life) (edges_of s row) place e
        (row_edges sizes caller s start end row seen) at in
        let m_now = prefix_trans es.moment end now es.before seen_all in
        let start_m = prefix_trans start seen.begin es.moment
        (prefix_trans start seen.found seen.begin seen.after seen.then) es.after in
        word_changed es.moment start_m m_now e.life.index 1 e.link (lit< tt) es.met es.word_is differs

    -- so a row that differs does so by a foreign event
    pub differs_foreign : DiffersNow sizes s now row → IsForeign now caller (length start) (length now)
    differs_foreign d = ⊎_elim
        (λ (h : word_at sizes now (second_at sizes row.life.index) ≢ row.head).
        change_is_foreign start now caller (second_at sizes row.life.index) (head_changed h))
        (λ r. ⊎_elim
        (λ (h : HasOtherLink sizes s now row). change_is_foreign start now caller (link_at sizes h.edge.life.index)
        (link_changed h.place h.edge h.at h.other))
        (λ q. ⊎_elim
        (λ (h : word_at sizes now (third_at sizes row.life.index) ≢ row.counter).
        change_is_foreign start now caller (third_at sizes row.life.index) (counter_changed h))
        (λ (h : IsVertexOver sizes now row).
        change_is_foreign start now caller (link_at sizes row.life.index) (over_changed h)) q) r) d
