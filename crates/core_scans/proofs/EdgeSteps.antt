-- The steps of collect at an edge: it records the edge, or passes it over.
use Rattle.std.proofs.Common.{◌≡◌, ◌≢◌, ℕ, ◌+◌, ◌-◌, ◌<◌, ◌≤◌, List, [], ◌∷◌, ◌++◌, length, take, drop}
use Rattle.std.proofs.Common.{Some, None, inl, inr, ⊎_elim, refl, sym, ap, ◌∙◌, subst, arith, append-nil, length-append}
use mathlib.Core.Logic.{dite}
use native.Mathlib.Decide.{ℕ_discrete}
use Rattle.graph_kinds.specs.History.{Every}
use Rattle.packed_link.specs.Link.{index_of, mark_of, tag_of, nowhere}
use Rattle.packed_link.specs.Layout.{IsLayout, key_at, link_at, second_at, third_at}
use Rattle.packed_link.specs.declared.link.Life.{Life}
use Rattle.scan_record.specs.declared.rows.VertexRow.{VertexRow}
use Rattle.scan_record.specs.declared.rows.EdgeRow.{EdgeRow}
use Rattle.scan_record.specs.Scan.{ScanValue, IsScan, row_at, edges_of, with_edge}
use Rattle.std.proofs.Math.ListN.{length-set}
use Rattle.scan_record.proofs.Edges.{longer_row}
use Rattle.core_journal.specs.declared.event.Event.{Event}
use Rattle.core_journal.specs.GraphOf.{present_key}
use Rattle.core_journal.specs.Life.{link_of}
use Rattle.core_journal.specs.Machine.{word_at}
use Rattle.core_journal.specs.Prefix.{IsPrefix}
use Rattle.core_journal.proofs.Lists.{prefix_refl, prefix_trans, every_map, every_append}
use Rattle.core_journal.specs.State.{Pass}
use Rattle.core_kept.specs.Kept.{IsKept}
use Rattle.core_kept.specs.Facts.{HasMet, IsSamePass}
use Rattle.core_kept.specs.Nodes.{node_in}
use Rattle.core_kept.proofs.MarkedWords.{marked_link_stays}
use Rattle.core_kept.proofs.MetLives.{IsSameLinked}
use Rattle.core_kept.proofs.MetWords.{still_met, key_stays}
use Rattle.core_lists.proofs.LowerCounters.{unstored_met}
use Rattle.core_lists.specs.Chains.{life_in}
use Rattle.core_rule.specs.Fronts.{MetEdge, key_in}
use Rattle.core_rule.specs.Views.{moved_on, GoesOn, IsEdgeShown, IsEdgeBehind}
use Rattle.core_lists.specs.Walks.{LeadsTo}
use Rattle.core_rule.specs.declared.view.View.{View}
use Rattle.core_rule.proofs.ViewShows.{edge_link_shown, key_still, life_shown, edge_shown}
use Rattle.core_scans.specs.Seen.{Meeting, Recorded, PassedOver, recorded, IsTargetSeen, IsEdgeSeen}
use Rattle.core_scans.specs.Seen.{IsSeenReplaced}
use Rattle.core_scans.specs.Seen.{IsMeetingSeen, IsRowSeen}
use Rattle.core_scans.specs.Walking.{IsFoundReplaced}
use Rattle.core_scans.proofs.RecordedOfWalk.{recorded_more}
use Rattle.core_scans.proofs.RowIsHeld.{by_mark}
use Rattle.core_scans.specs.Walking.{IsRowMet, AreRowsMet, LeadsUpTo, IsRowOpen, IsEdgeLoaded, IsNextEdge, last_row}
use Rattle.core_scans.specs.Walking.{IsWithin, IsLonger}
use Rattle.core_scans.proofs.PushesKeepLives.{more_edge, edge_other, edge_same, edges_other, edges_same}
use Rattle.core_scans.specs.Walking.{IsMore}
use Rattle.core_scans.proofs.CollectGoesOn.{was_on, edge_on, meetings_on, row_on, leads_more}
use Rattle.core_scans.proofs.PushesKeepLives.{more_same}
use Rattle.core_scans.proofs.RowSteps.{met_later, next_later, row_like}

-- the edge to which a word leads, in the life of its link
module _ (v : View) (z : IsLayout v.sizes) (kept : IsKept v.sizes v.front) (start : List Event) (s : ScanValue)
    (at steps : ℕ) (x : Life) (h : IsWithin v start s at steps) (some : index_of at ≢ nowhere)
    (led : x.index ≡ index_of at)
    (tagged : tag_of (word_at v.sizes v.front (link_at v.sizes x.index)) ≡ x.tag) where
  next_edge : IsNextEdge v (last_row s).life (edges_of s (last_row s)) (index_of at)
  next_edge = ⊎_elim (λ (none : index_of at ≡ nowhere). absurd (some none))
      (λ (n : IsNextEdge v (last_row s).life (edges_of s (last_row s)) (index_of at)). n) h.onward

  -- the row's edge is the next one
  is_next : next_edge.life ≡ x
  is_next =
      let n = next_edge in
      let index : n.life.index ≡ x.index = n.is ∙ sym led in
      let tag : n.life.tag ≡ x.tag = sym (life_shown v z kept n.life n.met.life n.met.met)
      ∙ (ap (λ (y : ℕ). tag_of (word_at v.sizes v.front (link_at v.sizes y))) index ∙ tagged) in
      λ i. record { index = index i; tag = tag i }

  pub edge_met : MetEdge v (last_row s).life x
  edge_met = subst (MetEdge v (last_row s).life) is_next next_edge.met

-- an edge: its link was loaded, and after that what its target is
module _ (v w : View) (z : IsLayout v.sizes) (start : List Event) (s t : ScanValue) (is : IsScan t)
    (at steps : ℕ) (e : EdgeRow) (h : IsWithin v start s at steps) (some : index_of at ≢ nowhere)
    (loaded : IsEdgeLoaded v at e)
    (g : GoesOn v w) (longer : IsLonger s t) (kept : IsKept v.sizes v.front) (met : AreRowsMet w start t)
    (other : IsFoundReplaced w e.key e.link → ⊥) where
  next : IsNextEdge v (last_row s).life (edges_of s (last_row s)) (index_of at)
  next = next_edge v z kept start s at steps e.life h some loaded.index (sym (ap tag_of loaded.link) ∙ sym loaded.tag)

  met_edge : MetEdge v (last_row s).life e.life
  met_edge = edge_met v z kept start s at steps e.life h some loaded.index (sym (ap tag_of loaded.link)
      ∙ sym loaded.tag)

  module _ (seen_target : (link : Event) → link_of v.front e.life ≡ Some link → IsTargetSeen t w.front e link.target)
    where
      abbrev pub r : ScanValue
      r = with_edge t e

      abbrev u : View
      u = moved_on v w.front w.last

      begun : 0 < t.next
      begun = omega (arith, h.begun, longer.next)

      old : last_row t ≡ last_row s
      old = ap (λ (n : ℕ). row_at t (n - 1)) longer.next ∙ longer.same (s.next - 1) (omega (arith, h.begun, h.some))

      old_edges : edges_of t (last_row t) ≡ edges_of s (last_row s)
      old_edges = ap (edges_of t) old ∙ ap (λ (l : List EdgeRow). take (last_row s).count (drop (last_row s).first l))
          longer.edges

      more_st : IsMore s t
      more_st = record { rows = longer.rows; lives = λ k low. ap (λ (x : VertexRow). x.life) (longer.same k low) }

      more_sr : IsMore s r
      more_sr =
          let m = more_edge t is e in
          record {
            rows = omega (arith, longer.rows, m.rows);
            lives = λ k low. m.lives k (omega (arith, low, longer.rows))
                ∙ more_st.lives k low;
          }

      shown : IsEdgeShown v (last_row s).life e.life
      shown = edge_shown v z kept (last_row s).life e.life met_edge

      here : (begin : List Event) → IsPrefix begin v.front → IsEdgeSeen v.sizes v.number r begin w.front
          (last_row s).life
          e
      here begin p = edge_on v.sizes v.number t r (more_edge t is e) w.front w.front (prefix_refl w.front) begin
          (last_row s).life e record {
            moment = v.front;
            after = p;
            before = g.grows;
            word_is = sym loaded.link;
            met = met_edge.met;
            life = met_edge.life.tag;
            edge = met_edge.edge;
            link = shown.link;
            is = shown.is;
            from = shown.from;
            key = shown.key ∙ sym loaded.key;
            weight = shown.weight ∙ sym loaded.weight;
            target = seen_target shown.link shown.is;
          }

      new_edges : edges_of r (last_row r) ≡ edges_of s (last_row s) ++ e ∷ []
      new_edges = edges_same t is e begun ∙ ap (λ (l : List EdgeRow). l ++ e ∷ []) old_edges

      -- the row with one more edge is that row but for the number of its edges
      new_row_is : last_row r ≡ longer_row t
      new_row_is = edge_same t is e begun

      open_row : IsRowOpen v.sizes v.number r start w.front (last_row r) e.link (steps + 1)
      open_row =
          let o = h.row in
          let life : (last_row r).life ≡ (last_row s).life = ap (λ (x : VertexRow). x.life) new_row_is
          ∙ ap (λ (x : VertexRow). x.life) old in
          let key : (last_row r).key ≡ (last_row s).key = ap (λ (x : VertexRow). x.key) new_row_is
          ∙ ap (λ (x : VertexRow). x.key) old in
          let counter : (last_row r).counter ≡ (last_row s).counter = ap (λ (x : VertexRow). x.counter) new_row_is
          ∙ ap (λ (x : VertexRow). x.counter) old in
          let head : (last_row r).head ≡ (last_row s).head = ap (λ (x : VertexRow). x.head) new_row_is
          ∙ ap (λ (x : VertexRow). x.head) old in
          let there : e.life.index ≢ nowhere = λ f. some (sym loaded.index ∙ f) in
          record {
            found = o.found;
            after = o.after;
            present = (λ i. present_key o.found (life i)) ∙ (o.present ∙ ap Some (sym key));
            begin = o.begin;
            then = o.then;
            before = prefix_trans o.begin v.front w.front o.before g.grows;
            counter = ap (λ (x : Life). word_at v.sizes o.begin (third_at v.sizes x.index)) life
                ∙ (o.counter ∙ sym counter);
            head =
                let hw = was_on v.sizes o.begin v.front w.front (second_at v.sizes (last_row s).life.index)
                (last_row s).head g.grows o.head in
                record {
                  moment = hw.moment;
                  after = hw.after;
                  before = hw.before;
                  word_is = ap
                      (λ (x : Life). word_at v.sizes hw.moment (second_at v.sizes x.index)) life
                      ∙ (hw.word_is ∙ sym head);
                };
            walked = o.walked ++ Recorded e ∷ [];
            long = omega (arith, length-append o.walked (Recorded e ∷ []), o.long);
            leads = subst (λ (x : ℕ). LeadsUpTo x (o.walked ++ Recorded e ∷ []) e.link) (sym head)
                (leads_more (last_row s).head o.walked at (Recorded e) o.leads (sym loaded.index) there);
            meetings = subst
                (λ (x : Life). Every (IsMeetingSeen v.sizes v.number r o.begin w.front x) (o.walked ++ Recorded e ∷ []))
                (sym life) (every_append (IsMeetingSeen v.sizes v.number r o.begin w.front (last_row s).life) o.walked
                (Recorded e ∷ []) (meetings_on v.sizes v.number s r more_sr v.front w.front g.grows o.begin
                (last_row s).life o.walked o.meetings) (here o.begin o.before, tt));
            edges = new_edges ∙ (ap (λ (l : List EdgeRow). l ++ e ∷ []) o.edges ∙
                sym (recorded_more o.walked (Recorded e ∷ [])));
          }

      -- where it wasn't found replaced, it leads to a greater key
      rises_by : (y : ℕ) → index_of e.link ≡ y → IsEdgeBehind v (last_row s).life e.life y → e.key < key_in v y
      rises_by y is d = by_mark e.link
          (λ live. omega (arith, loaded.key, d.strictly (ap mark_of (sym loaded.link) ∙ live)))
          (λ dead.
          let ne : key_in v y ≢ e.key = λ same. other record {
            marked = dead;
            some = λ none. omega (arith, none, is, d.met.life.there, z.few_nodes);
            same = ap (key_in w) is ∙ (key_still v w z g y d.met.life.there d.met.met ∙ same);
          } in
          omega (arith, loaded.key, d.rising, ne))

      -- it leads to none or to the next edge, whose key is greater than all of the row
      onward : LeadsTo e.link (IsNextEdge w (last_row s).life (edges_of s (last_row s) ++ e ∷ []))
      onward =
          let shown_link : LeadsTo e.link (IsEdgeBehind v (last_row s).life e.life) = subst
          (λ (x : ℕ). LeadsTo x (IsEdgeBehind v (last_row s).life e.life)) (sym loaded.link)
          (edge_link_shown v z kept (last_row s).life e.life met_edge) in
          ⊎_elim (λ (none : index_of e.link ≡ nowhere). inl none)
          (λ (d : IsEdgeBehind v (last_row s).life e.life (index_of e.link)).
          let y = index_of e.link in
          let above : e.key < key_in v y = rises_by y refl d in
          let low : key_in v (index_of at) < key_in v y = omega
          (arith, above, loaded.key, ap (key_in v) loaded.index) in
          inr (next_later v w z g (last_row s).life (edges_of s (last_row s) ++ e ∷ []) y record {
            life = life_in v.sizes v.front y;
            is = refl;
            met = d.met;
            above = every_append (λ (x : EdgeRow). x.key < key_in v y) (edges_of s (last_row s)) (e ∷ [])
                (every_map (λ (x : EdgeRow). x.key < key_in v (index_of at)) (λ (x : EdgeRow). x.key < key_in v y)
                (λ x less. omega (arith, less, low)) (edges_of s (last_row s)) next.above) (above, tt);
          })) shown_link

      met_all : AreRowsMet w start r
      met_all k low =
          let same_length : length r.rows ≡ length t.rows = length-set t.rows (t.next - 1) (longer_row t) in
          let m = met k (omega (arith, low, same_length)) in
          dite (ℕ_discrete k (t.next - 1))
          (λ same. row_like w start (row_at t k) (row_at r k) (ap (λ (n : ℕ). (row_at r n).life) same
          ∙ (ap (λ (x : VertexRow). x.life) new_row_is ∙ ap (λ (n : ℕ). (row_at t n).life) (sym same)))
          (ap (λ (n : ℕ). (row_at r n).key) same
          ∙ (ap (λ (x : VertexRow). x.key) new_row_is ∙ ap (λ (n : ℕ). (row_at t n).key) (sym same))) m)
          (λ ne. subst (IsRowMet w start) (sym (edge_other t is e k ne)) m)

      seen_all : (k : ℕ) → k + 1 < t.next → IsRowSeen v.sizes v.number r start w.front (row_at r k)
      seen_all k less =
          let inside : k < length s.rows = omega (arith, less, longer.next, h.some) in
          let inside_t : k < length t.rows = omega (arith, inside, longer.rows) in
          let same : row_at r k ≡ row_at s k = edge_other t is e k (λ f. omega (arith, less, f))
          ∙ longer.same k inside in
          let edges : edges_of r (row_at s k) ≡ edges_of s (row_at s k) =
          ap (edges_of r) (sym (longer.same k inside))
          ∙ (edges_other t is e k inside_t
          ∙ (ap (edges_of t) (longer.same k inside)
          ∙ ap (λ (l : List EdgeRow). take (row_at s k).count (drop (row_at s k).first l)) longer.edges)) in
          subst (IsRowSeen v.sizes v.number r start w.front) (sym same)
          (row_on v.sizes v.number s r more_sr v.front w.front g.grows start (row_at s k) edges
          (h.seen k (omega (arith, less, longer.next))))

      pub edge_recorded : IsWithin w start r e.link (steps + 1)
      edge_recorded = subst (λ (x : View). IsWithin x start r e.link (steps + 1)) (sym g.view) record {
        begun = begun;
        some = omega (arith, h.some, longer.next, more_sr.rows);
        started = longer.started ∙ (h.started ∙ sym longer.next);
        met = λ k low. subst (λ (x : View). IsRowMet x start (row_at r k)) g.view (met_all k low);
        seen = seen_all;
        row = open_row;
        onward =
            let life : (last_row r).life ≡ (last_row s).life = ap (λ (x : VertexRow). x.life) new_row_is
            ∙ ap (λ (x : VertexRow). x.life) old in
            let here_u : LeadsTo e.link (IsNextEdge (moved_on v w.front w.last) (last_row s).life
            (edges_of s (last_row s) ++ e ∷ [])) = subst
            (λ (x : View). LeadsTo e.link (IsNextEdge x (last_row s).life (edges_of s (last_row s) ++ e ∷ []))) g.view
            onward in
            subst (λ (x : Life). LeadsTo e.link (IsNextEdge (moved_on v w.front w.last) x (edges_of r (last_row r))))
            (sym life)
            (subst (λ (l : List EdgeRow). LeadsTo e.link (IsNextEdge (moved_on v w.front w.last) (last_row s).life l))
            (sym new_edges) here_u);
      }

-- an edge that was found replaced, as an edge row
module _ (v w : View) (z : IsLayout v.sizes) (start : List Event) (s : ScanValue) (at steps : ℕ)
    (e : EdgeRow) (h : IsWithin v start s at steps) (some : index_of at ≢ nowhere) (loaded : IsEdgeLoaded v at e)
    (g : GoesOn v w)
    (kept : IsKept v.sizes v.front) (replaced : IsFoundReplaced w e.key e.link) where
  passed_next : IsNextEdge v (last_row s).life (edges_of s (last_row s)) (index_of at)
  passed_next = next_edge v z kept start s at steps e.life h some loaded.index (sym (ap tag_of loaded.link)
      ∙ sym loaded.tag)

  -- the node, met and with its marked link at the later view
  edge : MetEdge v (last_row s).life e.life
  edge = edge_met v z kept start s at steps e.life h some loaded.index (sym (ap tag_of loaded.link) ∙ sym loaded.tag)

  there : e.life.index < v.sizes.nodes
  there = edge.life.there

  met : HasMet v.sizes v.front v.number e.life.index
  met = edge.met

  one_pass : IsSamePass v.sizes v.front w.front v.number
  one_pass = record {
    before = g.grows;
    open_still = ap (λ (p : Pass). p.is_open) g.pass ∙ met.pass;
    since = ap (λ (p : Pass). p.since) g.pass;
  }

  met_on : HasMet v.sizes w.front v.number e.life.index × IsSameLinked (node_in v.sizes v.front e.life.index)
      (node_in v.sizes w.front e.life.index)
  met_on = still_met v.sizes z v.front w.front g.kept v.number e.life.index one_pass met

  link_still : word_at v.sizes w.front (link_at v.sizes e.life.index) ≡ e.link
  link_still = marked_link_stays v.sizes z e.life.index v.front w.front g.grows g.kept met.fresh
      (ap mark_of (sym loaded.link) ∙ replaced.marked) met_on.1.tag
      (unstored_met v.sizes z w.front g.kept v.number e.life.index there met_on.0) ∙ sym loaded.link

  key_now : word_at v.sizes w.front (key_at v.sizes e.life.index) ≡ e.key
  key_now = key_stays v.sizes z v.front w.front g.kept v.number e.life.index one_pass met there ∙ sym loaded.key

  leads_on : IsEdgeBehind v (last_row s).life e.life (index_of e.link)
  leads_on = ⊎_elim (λ (none : index_of e.link ≡ nowhere). absurd (replaced.some none))
      (λ (d : IsEdgeBehind v (last_row s).life e.life (index_of e.link)). d)
      (subst (λ (x : ℕ). LeadsTo x (IsEdgeBehind v (last_row s).life e.life)) (sym loaded.link)
      (edge_link_shown v z kept (last_row s).life e.life edge))

  key_to : word_at v.sizes w.front (key_at v.sizes (index_of e.link)) ≡ e.key
  key_to = subst (λ (x : View). word_at x.sizes w.front (key_at x.sizes (index_of e.link)) ≡ e.key) g.view replaced.same

  passed_seen : (begin : List Event) → IsPrefix begin v.front
      → IsSeenReplaced v.sizes v.number begin w.front e.life.index e.link
  passed_seen begin p = record {
    moment = w.front;
    after = prefix_trans begin v.front w.front p g.grows;
    before = prefix_refl w.front;
    word_is = link_still;
    met = met_on.0;
    edge = met_on.1.vertex ∙ edge.edge;
    replaced = record {
      marked = ap mark_of link_still ∙ replaced.marked;
      some = λ none. replaced.some (sym (ap index_of link_still) ∙ none);
      key = ap (λ (x : ℕ). word_at v.sizes w.front (key_at v.sizes (index_of x))) link_still ∙ (key_to ∙ sym key_now);
    };
  }

  passed_row : IsRowOpen v.sizes v.number s start w.front (last_row s) e.link (steps + 1)
  passed_row =
      let o = h.row in
      let m : Meeting = PassedOver e.life.index e.link in
      record {
        found = o.found;
        after = o.after;
        present = o.present;
        begin = o.begin;
        then = o.then;
        before = prefix_trans o.begin v.front w.front o.before g.grows;
        counter = o.counter;
        head = was_on v.sizes o.begin v.front w.front (second_at v.sizes (last_row s).life.index) (last_row s).head
            g.grows o.head;
        walked = o.walked ++ m ∷ [];
        long = omega (arith, length-append o.walked (m ∷ []), o.long);
        leads = leads_more (last_row s).head o.walked at m o.leads (sym loaded.index)
            (λ f. some (sym loaded.index ∙ f));
        meetings = every_append (IsMeetingSeen v.sizes v.number s o.begin w.front (last_row s).life) o.walked (m ∷ [])
            (meetings_on v.sizes v.number s s (more_same s) v.front w.front g.grows o.begin (last_row s).life o.walked
            o.meetings) (passed_seen o.begin o.before, tt);
        edges = o.edges ∙ sym (recorded_more o.walked (m ∷ []) ∙ append-nil (recorded o.walked));
      }

  passed_onward : IsNextEdge v (last_row s).life (edges_of s (last_row s)) (index_of e.link)
  passed_onward =
      let d = leads_on in
      let less : key_in v (index_of at) ≤ key_in v (index_of e.link) = subst
      (λ (x : ℕ). key_in v x ≤ key_in v (index_of e.link)) loaded.index d.rising in
      record {
        life = life_in v.sizes v.front (index_of e.link);
        is = refl;
        met = d.met;
        above = every_map (λ (x : EdgeRow). x.key < key_in v (index_of at))
            (λ (x : EdgeRow). x.key < key_in v (index_of e.link)) (λ x low. omega (arith, low, less))
            (edges_of s (last_row s)) passed_next.above;
      }

  row_passed : IsWithin w start s e.link (steps + 1)
  row_passed = subst (λ (x : View). IsWithin x start s e.link (steps + 1)) (sym g.view) record {
    begun = h.begun;
    some = h.some;
    started = h.started;
    met = λ k low. subst (λ (x : View). IsRowMet x start (row_at s k)) g.view
        (met_later v w z g start (row_at s k) (h.met k low));
    seen = λ k low. row_on v.sizes v.number s s (more_same s) v.front w.front g.grows start (row_at s k) refl
        (h.seen k low);
    row = passed_row;
    onward = inr (subst (λ (x : View). IsNextEdge x (last_row s).life (edges_of s (last_row s)) (index_of e.link))
        g.view
        (next_later v w z g (last_row s).life (edges_of s (last_row s)) (index_of e.link) passed_onward));
  }

-- such an edge is passed over
pub edge_passed : (v w : View) → IsLayout v.sizes → (start : List Event) (s : ScanValue) (at steps link : ℕ)
    → IsWithin v start s at steps → index_of at ≢ nowhere
    → word_at v.sizes v.front (link_at v.sizes (index_of at)) ≡ link → GoesOn v w → IsKept v.sizes v.front
    → IsFoundReplaced w (key_in v (index_of at)) link → IsWithin w start s link (steps + 1)
edge_passed v w z start s at steps link h some led g kept replaced = row_passed v w z start s at steps record {
  life = record { index = index_of at; tag = tag_of link };
  link = link;
  key = key_in v (index_of at);
  weight = word_at v.sizes v.front (third_at v.sizes (index_of at));
  target = None;
} h some record { index = refl; link = sym led; tag = refl; key = refl; weight = refl } g kept replaced
