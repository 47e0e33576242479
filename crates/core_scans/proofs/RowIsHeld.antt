-- The words that a row records stood in the table at the end of collect.
use Rattle.std.proofs.Common.{◌≡◌, ◌≢◌, ℕ, ◌<◌, true, false, List, [], ◌∷◌, length, Some, refl, sym, ap, ◌∙◌}
use Rattle.std.proofs.Common.{subst, arith}
use Rattle.std.specs.Prelude.{slice_get}
use mathlib.Core.Logic.{dite}
use native.Mathlib.Decide.{ℕ_discrete}
use Rattle.graph_kinds.specs.History.{Every}
use Rattle.packed_link.specs.Link.{index_of, mark_of, tag_of, mark_bit}
use Rattle.packed_link.specs.Layout.{Sizes, IsLayout, link_at, second_at, third_at}
use Rattle.packed_link.specs.declared.link.Life.{Life}
use Rattle.packed_link.proofs.Links.{same_parts, mark_of-bound}
use Rattle.scan_record.specs.declared.rows.VertexRow.{VertexRow}
use Rattle.scan_record.specs.declared.rows.EdgeRow.{EdgeRow}
use Rattle.scan_record.specs.Scan.{ScanValue, edges_of}
use Rattle.core_chain.specs.Chain.{Head, Next}
use Rattle.core_journal.specs.declared.event.Event.{Event}
use Rattle.core_journal.specs.Life.{key_of, link_of, vertex_marked, edge_marked}
use Rattle.core_journal.specs.Machine.{word_at}
use Rattle.core_journal.specs.Prefix.{IsPrefix}
use Rattle.core_journal.specs.Reuse.{pass_in}
use Rattle.core_journal.specs.State.{Fresh, Linked, Pass, state}
use Rattle.core_journal.proofs.Lists.{prefix_trans, prefix_refl, get_front}
use Rattle.core_journal.proofs.LivesOf.{present_is}
use Rattle.core_kept.specs.Facts.{HasMet, IsSamePass}
use Rattle.core_kept.specs.Kept.{IsKept, IsQuiet}
use Rattle.core_kept.specs.Nodes.{node_in, is_listed}
use Rattle.core_lists.specs.Chains.{IsEdgeOf}
use Rattle.core_lists.proofs.LinkTellsPresence.{alive, link_there}
use Rattle.core_kept.proofs.Contents.{contents}
use Rattle.core_lists.proofs.LowerCounters.{unstored_met}
use Rattle.core_lists.proofs.LivesOnLists.{edge_present}
use Rattle.core_kept.proofs.Induction.{kept_front}
use Rattle.core_kept.proofs.LinkWords.{used_link, mark_isnt}
use Rattle.core_kept.proofs.MarkedWords.{marked_link_stays, marked_head_stays}
use Rattle.core_kept.proofs.MetWords.{met_used, still_met}
use Rattle.core_kept.proofs.Named.{life_is, named}
use Rattle.core_kept.proofs.OwnFacts.{pass_stays}
use Rattle.core_lists.proofs.OneVertexOfKey.{present_live}
use Rattle.core_lists.proofs.ListedWords.{listed_linked}
use Rattle.core_scans.specs.Seen.{WasAt, IsEdgeSeen, IsRowSeen, IsRowSame}
use Rattle.core_scans.specs.Held.{IsRowHeld}
use Rattle.core_scans.proofs.FrontsKeepLives.{key_on, link_on, uncut_back}
use Rattle.core_scans.proofs.SameWordBetween.{IsHere, IsPlacedAlike, has_list, on_list, placed_alike, same_between}
use Rattle.core_scans.proofs.RecordedOfWalk.{row_edges}
use Rattle.core_scans.proofs.CounterTellsPassing.{here_at, counter_on, none_passed}

-- a mark is set or not
pub by_mark : {P : Type 0} (word : ℕ) → (mark_of word ≡ 0 → P) → (mark_of word ≡ 1 → P) → P
by_mark word zero_ one = dite (ℕ_discrete (mark_of word) 0) zero_ (λ ne. one (omega (arith, mark_of-bound word, ne)))

module _ (sizes : Sizes) (z : IsLayout sizes) (caller : ℕ) (start end now : List Event) (s : ScanValue)
    (kept : IsKept sizes now) (seen_all : IsPrefix end now) (quiet : IsQuiet now caller (length start))
    (open_ : (pass_in sizes start caller).is_open ≡ true) where
  -- the pass is one, from the start on
  pub pass_at : (j : List Event) → IsPrefix start j → IsPrefix j now
      → pass_in sizes j caller ≡ pass_in sizes start caller
  pass_at j p q = pass_stays sizes caller (length start) start j p (kept_front sizes j now q kept)
      record {
        none = λ k e low at. quiet.none k e low (subst (λ (l : List Event). slice_get l k ≡ Some e) q.whole
            (get_front j q.rest k e at));
      } (omega arith)

  pub same_pass : (i j : List Event) → IsPrefix start i → IsPrefix i j → IsPrefix j now → IsSamePass sizes i j caller
  same_pass i j p q r =
      let a = pass_at i p (prefix_trans i j now q r) in
      let b = pass_at j (prefix_trans start i j p q) r in
      record {
        before = q;
        open_still = ap (λ (x : Pass). x.is_open) b ∙ open_;
        since = ap (λ (x : Pass). x.since)
            (b ∙ sym a);
      }

  module _ (row : VertexRow) (seen : IsRowSeen sizes caller s start end row) (same : IsRowSame sizes s end now row)
    where
      v : Life
      v = row.life

      linked : key_of seen.begin row.life ≡ Some row.key
      linked = key_on seen.found seen.begin seen.then row.life row.key
          (present_is seen.found row.life row.key seen.present).1

      start_begin : IsPrefix start seen.begin
      start_begin = prefix_trans start seen.found seen.begin seen.after seen.then

      last_kept : IsKept sizes same.last
      last_kept = kept_front sizes same.last now same.before kept

      end_last : IsPrefix end same.last
      end_last = prefix_trans end same.counted same.last same.after same.then

      long : IsPrefix seen.begin same.last
      long = prefix_trans seen.begin end same.last seen.before end_last

      -- it was alive at last
      live : vertex_marked same.last row.life ≡ false
      live = (present_is same.last row.life row.key (alive sizes z same.last last_kept row.life row.key
          (key_on seen.begin same.last long row.life row.key linked) same.life same.unmarked)).0

      here : (j : List Event) → IsPrefix seen.begin j → IsPrefix j same.last → IsHere sizes z row.life row.key j
      here j p q = here_at sizes z row.life row.key seen.begin same.last last_kept long linked live j p q

      counts : word_at sizes same.counted (third_at sizes row.life.index) ≡ word_at sizes seen.begin
          (third_at sizes row.life.index)
      counts = same.counter ∙ sym seen.counter

      -- what stands on its list at a moment is in the same life later
      lives : (m t : List Event) → IsPrefix seen.begin m → IsPrefix m t → IsPrefix t same.last → (y : ℕ)
          → is_listed (state sizes m) row.life.index y ≡ true → (node_in sizes t y).tag ≡ (node_in sizes m y).tag
      lives m t p q r y on =
          let hm = here m p (prefix_trans m t same.last q r) in
          let t_now = prefix_trans t same.last now r same.before in
          let start_m = prefix_trans start seen.begin m start_begin p in
          let here_m = present_live sizes z m hm.kept row.life row.key hm.present in
          let linked_then : (node_in sizes m y).mode ≡ Linked = listed_linked sizes z m hm.kept row.life.index y
          (has_list sizes z row.life row.key m hm).there here_m.linked here_m.vertex on in
          let met : HasMet sizes m caller y = record {
            pass = ap (λ (x : Pass). x.is_open)
                (pass_at m start_m (prefix_trans m t now q t_now)) ∙ open_;
            free = λ f. absurd (cc);
            fresh = λ f. absurd
                (cc);
            spent = λ f. absurd (cc);
          } in
          (still_met sizes z m t (kept_front sizes t now t_now kept) caller y (same_pass m t start_m q t_now) met).1.tag

      -- the head at the end of collect
      head_held : word_at sizes end (second_at sizes row.life.index) ≡ row.head
      head_held = by_mark row.head unmarked marked
        where
          x : ℕ
          x = row.life.index

          m : List Event
          m = seen.head.moment

          t : List Event
          t = same.head.moment

          hm : IsHere sizes z row.life row.key seen.head.moment
          hm = here seen.head.moment seen.head.after
              (prefix_trans seen.head.moment end same.last seen.head.before end_last)

          t_last : IsPrefix same.head.moment same.last
          t_last = prefix_trans same.head.moment same.counted same.last same.head.before same.then

          ht : IsHere sizes z row.life row.key same.head.moment
          ht = here same.head.moment (prefix_trans seen.begin end same.head.moment seen.before same.head.after) t_last

          he : IsHere sizes z row.life row.key end
          he = here end seen.before end_last

          life_at : (j : List Event) → IsHere sizes z row.life row.key j
              → ((node_in sizes j row.life.index).mode ≢ Fresh)
              × (row.life.tag ≡ (node_in sizes j row.life.index).tag)
          life_at j h = let l = present_live sizes z j h.kept row.life row.key h.present in
              ((λ f. let k = l.linked in absurd (cc)), l.life)

          stays : (i j : List Event) → IsHere sizes z row.life row.key i → IsHere sizes z row.life row.key j
              → IsPrefix i j → mark_of (word_at sizes i (second_at sizes row.life.index)) ≡ 1
              → word_at sizes j (second_at sizes row.life.index) ≡ word_at sizes i (second_at sizes row.life.index)
          stays i j hi hj p dead = marked_head_stays sizes z row.life.index i j p hj.kept (life_at i hi).0 dead
              (sym (life_at j hj).1 ∙ (life_at i hi).1)

          marked : mark_of row.head ≡ 1 → word_at sizes end (second_at sizes row.life.index) ≡ row.head
          marked h = stays seen.head.moment end hm he seen.head.before (ap mark_of seen.head.word_is ∙ h)
              ∙ seen.head.word_is

          tag_at : (j : List Event) → IsHere sizes z row.life row.key j
              → tag_of (word_at sizes j (second_at sizes row.life.index)) ≡ row.life.tag
          tag_at j h =
              let l = has_list sizes z row.life row.key j h in
              (((contents sizes z j h.kept).each row.life.index l.there).vertex l.used l.vertex).second_life
              ∙ sym (life_at j h).1

          unmarked : mark_of row.head ≡ 0 → word_at sizes end (second_at sizes row.life.index) ≡ row.head
          unmarked h =
              let alike : (i j : List Event) → IsPlacedAlike sizes z row.life row.key i j Head = λ i j. record
              { rank = refl; since = refl } in
              let none = λ (l : Life) (f : IsEdgeOf end row.life l) (not_m : IsEdgeOf seen.head.moment row.life l → ⊥)
              (not_t : IsEdgeOf same.head.moment row.life l → ⊥). none_passed sizes z row.life row.key seen.begin
              same.last last_kept long linked live same.counted seen.head.moment end same.head.moment seen.head.after
              seen.head.before same.head.after same.head.before same.then counts l f not_m not_t in
              let m_t = prefix_trans seen.head.moment end same.head.moment seen.head.before same.head.after in
              let index = same_between sizes z row.life row.key seen.head.moment end same.head.moment Head hm he ht tt
              tt
              tt seen.head.before same.head.after (alike seen.head.moment end) (alike end same.head.moment) none
              (lives seen.head.moment same.head.moment seen.head.after m_t t_last)
              (ap index_of (same.head.word_is ∙ sym seen.head.word_is)) in
              same_parts (word_at sizes end (second_at sizes row.life.index)) row.head
              (index ∙ ap index_of seen.head.word_is)
              (by_mark (word_at sizes end (second_at sizes row.life.index))
              (λ (u : mark_of (word_at sizes end (second_at sizes row.life.index)) ≡ 0). u ∙ sym h)
              (λ (d : mark_of (word_at sizes end (second_at sizes row.life.index)) ≡ 1). ap mark_of
              (sym (stays end same.head.moment he ht same.head.after d) ∙ same.head.word_is)))
              (tag_at end he ∙ (sym (tag_at seen.head.moment hm) ∙ ap tag_of seen.head.word_is))

      -- one edge row, with what was seen of it and what was found again
      module _ (e : EdgeRow) (es : IsEdgeSeen sizes caller s seen.begin end row.life e)
          (ws : WasAt sizes end same.counted (link_at sizes e.life.index) e.link) where
        there : e.life.index < sizes.nodes
        there = link_there sizes es.moment
            (kept_front sizes es.moment now (prefix_trans es.moment end now es.before seen_all) kept) e.life es.link
            es.is

        -- what the node is at a moment from its load on
        record IsMetAt (j : List Event) : Type 0 where
          pub kept_j : IsKept sizes j
          pub met_j : HasMet sizes j caller e.life.index
          pub life_j : e.life.tag ≡ (node_in sizes j e.life.index).tag
          pub edge_j : (node_in sizes j e.life.index).vertex ≡ false
          pub here_j : IsHere sizes z row.life row.key j
          pub link_j : link_of j e.life ≡ Some es.link

        met_at : (j : List Event) → IsPrefix es.moment j → IsPrefix j same.last → IsMetAt j
        met_at j p q =
            let j_now = prefix_trans j same.last now q same.before in
            let kept_j = kept_front sizes j now j_now kept in
            let start_m = prefix_trans start seen.begin es.moment start_begin es.after in
            let r = still_met sizes z es.moment j kept_j caller e.life.index (same_pass es.moment j start_m p j_now)
            es.met in
            record {
              kept_j = kept_j;
              met_j = r.0;
              life_j = es.life ∙ sym r.1.tag;
              edge_j = r.1.vertex ∙ es.edge;
              here_j = here j (prefix_trans seen.begin es.moment j es.after p) q;
              link_j = link_on es.moment j p e.life es.link es.is;
            }

        -- the tag and the mark of its link
        tag_met : (j : List Event) → IsMetAt j → tag_of (word_at sizes j (link_at sizes e.life.index)) ≡ e.life.tag
        tag_met j h = (used_link sizes z j h.kept_j e.life.index there (met_used sizes j caller e.life.index h.met_j)).0
            ∙ sym h.life_j

        mark_met : (j : List Event) → IsMetAt j → mark_of (word_at sizes j (link_at sizes e.life.index)) ≡ mark_bit
            (edge_marked j e.life)
        mark_met j h =
            let used = met_used sizes j caller e.life.index h.met_j in
            let n = ((named sizes z j h.kept_j).each e.life.index there).edge_mark used h.edge_j in
            (used_link sizes z j h.kept_j e.life.index there used).1
            ∙ ap mark_bit (sym n ∙ ap (edge_marked j)
            (sym (life_is e.life e.life.index (node_in sizes j e.life.index).tag refl h.life_j)))

        -- an edge of the row, where it isn't marked
        edge_of_row : (j : List Event) → IsMetAt j → edge_marked j e.life ≡ false → IsEdgeOf j row.life e.life
        edge_of_row j g u = subst (λ (x : Life). IsEdgeOf j x e.life) es.from
            (edge_present sizes z j g.kept_j e.life es.link g.link_j u)

        end_met : IsMetAt end
        end_met = met_at end es.before end_last

        again : IsPrefix ws.moment same.last
        again = prefix_trans ws.moment same.counted same.last ws.before same.then

        m_again : IsPrefix es.moment ws.moment
        m_again = prefix_trans es.moment end ws.moment es.before ws.after

        first_met : IsMetAt es.moment
        first_met = met_at es.moment (prefix_refl es.moment) (prefix_trans es.moment end same.last es.before end_last)

        again_met : IsMetAt ws.moment
        again_met = met_at ws.moment m_again again

        -- its link at the end of collect
        pub link_held : word_at sizes end (link_at sizes e.life.index) ≡ e.link
        link_held = by_mark e.link unmarked marked
          where
            marked : mark_of e.link ≡ 1 → word_at sizes end (link_at sizes e.life.index) ≡ e.link
            marked h = marked_link_stays sizes z e.life.index es.moment end es.before end_met.kept_j es.met.fresh
                (ap mark_of es.word_is ∙ h) (sym end_met.life_j ∙ es.life)
                (unstored_met sizes z end end_met.kept_j caller e.life.index there end_met.met_j) ∙ es.word_is

            unmarked : mark_of e.link ≡ 0 → word_at sizes end (link_at sizes e.life.index) ≡ e.link
            unmarked h =
                let uncut_t : edge_marked ws.moment e.life ≡ false = mark_isnt (edge_marked ws.moment e.life)
                (sym (mark_met ws.moment again_met) ∙ (ap mark_of ws.word_is ∙ h)) in
                let uncut_e = uncut_back end ws.moment ws.after e.life uncut_t in
                let uncut_m = uncut_back es.moment ws.moment m_again e.life uncut_t in
                let f_m = edge_of_row es.moment first_met uncut_m in
                let f_e = edge_of_row end end_met uncut_e in
                let f_t = edge_of_row ws.moment again_met uncut_t in
                let none = λ (l : Life) (f : IsEdgeOf end row.life l) (not_m : IsEdgeOf es.moment row.life l → ⊥)
                (not_t : IsEdgeOf ws.moment row.life l → ⊥). none_passed sizes z row.life row.key seen.begin same.last
                last_kept long linked live same.counted es.moment end ws.moment es.after es.before ws.after ws.before
                same.then counts l f not_m not_t in
                let index = same_between sizes z row.life row.key es.moment end ws.moment (Next e.life.index)
                first_met.here_j end_met.here_j again_met.here_j
                (on_list sizes z row.life row.key es.moment first_met.here_j e.life f_m).on
                (on_list sizes z row.life row.key end end_met.here_j e.life f_e).on
                (on_list sizes z row.life row.key ws.moment again_met.here_j e.life f_t).on es.before ws.after
                (placed_alike sizes z row.life row.key es.moment end first_met.here_j end_met.here_j es.before e.life
                f_m
                f_e)
                (placed_alike sizes z row.life row.key end ws.moment end_met.here_j again_met.here_j ws.after e.life f_e
                f_t) none (lives es.moment ws.moment es.after m_again again)
                (ap index_of (ws.word_is ∙ sym es.word_is)) in
                same_parts (word_at sizes end (link_at sizes e.life.index)) e.link (index ∙ ap index_of es.word_is)
                (mark_met end end_met ∙ (ap mark_bit uncut_e ∙ sym h))
                (tag_met end end_met ∙ (sym (tag_met es.moment first_met) ∙ ap tag_of es.word_is))

      links_held : (es : List EdgeRow) → Every (IsEdgeSeen sizes caller s seen.begin end row.life) es
          → Every (λ (e : EdgeRow). WasAt sizes end same.counted (link_at sizes e.life.index) e.link) es
          → Every (λ (e : EdgeRow). word_at sizes end (link_at sizes e.life.index) ≡ e.link) es
      links_held [] f g = tt
      links_held (e ∷ es) f g = (link_held e f.0 g.0, links_held es f.1 g.1)

      -- the whole row
      pub row_held : IsRowHeld sizes s end row
      row_held = record {
        present = (here end seen.before end_last).present;
        counter =
            let up = counter_on sizes z row.life row.key seen.begin same.last last_kept long linked live seen.begin end
            (prefix_refl seen.begin) seen.before end_last in
            let down = counter_on sizes z row.life row.key seen.begin same.last last_kept long linked live end
            same.counted seen.before same.after same.then in
            omega (arith, up, down, seen.counter, same.counter);
        head = head_held;
        links = links_held (edges_of s row) (row_edges sizes caller s start end row seen) same.links;
      }
