-- A scan whose recorded words all hold at the end of collect is the part of the graph that is reached from its root.
use Rattle.std.proofs.Common.{◌≡◌, ⊎_elim, ℕ, zero, suc, ◌+◌, ◌-◌, ◌<◌, ◌==◌, true, false, cond, List, [], ◌∷◌}
use Rattle.std.proofs.Common.{◌++◌, length, map, Option, Some, None, is_some, refl, sym, ap, ◌∙◌, subst}
use Rattle.std.proofs.Common.{arith, eqb-true}
use Rattle.std.specs.Prelude.{slice_get, option_and_then}
use Rattle.std.specs.List.{list_any}
use Rattle.graph_kinds.specs.Graph.{has, weight_of}
use Rattle.graph_kinds.specs.History.{Every}
use Rattle.graph_kinds.specs.Path.{IsPath}
use Rattle.graph_kinds.specs.Part.{IsPart, part}
use Rattle.graph_kinds.proofs.PathsPart.{only_part_law}
use Rattle.graph_kinds.proofs.PathsWalks.{path_on, weight_there}
use Rattle.packed_link.specs.Link.{index_of, mark_of, mark_bit}
use Rattle.packed_link.specs.Layout.{Sizes, IsLayout, link_at}
use Rattle.packed_link.specs.declared.link.Life.{Life}
use Rattle.scan_record.specs.declared.rows.VertexRow.{VertexRow}
use Rattle.scan_record.specs.declared.rows.EdgeRow.{EdgeRow}
use Rattle.scan_record.specs.Asked.{root_of}
use Rattle.scan_record.specs.Scan.{ScanValue, IsScan, IsComplete, row_at, edge_at, edges_of, new_row, blank_life}
use Rattle.scan_record.specs.Scan.{blank_edge}
use Rattle.scan_record.specs.ScanGraph.{graph_of_scan, weight_to}
use Rattle.scan_record.proofs.Edges.{length-edges_of, get_or-edges_of}
use Rattle.scan_record.proofs.GraphOfScan.{weights_law, keys_law}
use Rattle.scan_record.proofs.IsGraphOfScan as scan_graph
use Rattle.scan_record.proofs.FoundItems.{any_place}
use Rattle.scan_record.proofs.ScanFacts.{row_key}
use Rattle.core_chain.specs.Chain.{ChainWord, Head, Next}
use Rattle.core_chain.specs.Met.{MeetsFrom}
use Rattle.core_chain.proofs.Meets.{Meets-unique}
use Rattle.core_journal.specs.declared.event.Event.{Event}
use Rattle.core_journal.specs.GraphOf.{graph_of, present_key, present_pair, pair_between, both, weighed}
use Rattle.core_journal.specs.Life.{key_of, link_of, vertex_marked, edge_marked}
use Rattle.core_journal.specs.Machine.{word_at}
use Rattle.core_journal.specs.Prefix.{IsPrefix}
use Rattle.core_journal.specs.Reuse.{pass_in}
use Rattle.core_journal.specs.State.{state}
use Rattle.core_journal.proofs.Lists.{prefix_refl, prefix_trans}
use Rattle.core_journal.proofs.LivesOf.{IsJoined, present_is, joined_is, key_of_life, life_of_pair, only_pair}
use Rattle.core_kept.specs.Kept.{IsKept, IsQuiet}
use Rattle.core_kept.specs.Nodes.{node_in}
use Rattle.core_lists.specs.Chains.{IsEdgeOf, edge_chain}
use Rattle.core_lists.proofs.LinkTellsPresence.{key_there, link_there}
use Rattle.core_lists.proofs.ListChains.{lists}
use Rattle.core_lists.proofs.LivesOnLists.{edge_present}
use Rattle.core_kept.proofs.EdgeEnds.{ends_linked}
use Rattle.core_kept.proofs.Induction.{kept_front}
use Rattle.core_kept.proofs.LinkWords.{used_link, mark_is, mark_isnt}
use Rattle.core_kept.proofs.MarkedWords.{marked_link_stays}
use Rattle.core_kept.proofs.NodesInPlace.{used_there}
use Rattle.core_lists.proofs.LowerCounters.{unstored_met}
use Rattle.core_lists.proofs.GraphOfLives.{graph_is}
use Rattle.core_kept.specs.Facts.{HasMet}
use Rattle.core_lists.proofs.ListHoldsKept.{has_open}
use Rattle.core_kept.proofs.MetFromHead.{contains_stands}
use Rattle.core_kept.proofs.MetWords.{met_used, still_met}
use Rattle.core_kept.proofs.Named.{life_is, named}
use Rattle.core_lists.proofs.OneEdgeOfPair.{one_pair}
use Rattle.core_lists.proofs.OneVertexOfKey.{one_present}
use Rattle.core_scans.specs.Seen.{Meeting, Recorded, PassedOver, index_met, recorded, IsEdgeSeen, IsSeenReplaced}
use Rattle.core_scans.specs.Seen.{IsMeetingSeen, OnlyLooks, HasCollected, IsInside, IsSame, LeadsAlong}
use Rattle.core_scans.proofs.RecordedOfWalk.{IsRecordedAt, row_edges, met_how}
use Rattle.core_scans.specs.Held.{IsHeldAt}
use Rattle.core_scans.proofs.FrontsKeepLives.{some_is, key_on, link_on, every_at, get_at}
use Rattle.core_scans.proofs.SameWordBetween.{IsHere, has_list, on_list}
use Rattle.core_scans.proofs.OnlyLooking.{looks_until}
use Rattle.core_scans.proofs.RowIsHeld.{same_pass, row_held}
use Rattle.core_scans.proofs.WeightsFound.{found_by, some_found}

-- what is found there and here is the same
as_there : (here there : Option ℕ) (a w : ℕ) → here ≡ Some a → there ≡ Some a → there ≡ Some w → here ≡ Some w
as_there here there a w found other h = found ∙ (sym other ∙ h)

module _ (sizes : Sizes) (z : IsLayout sizes) (caller : ℕ) (start end : List Event) (s : ScanValue)
    (kept : IsKept sizes end) (quiet : IsQuiet end caller (length start))
    (open_ : (pass_in sizes start caller).is_open ≡ true)
    (is : IsScan s) (c : HasCollected sizes caller start end s) (held : IsHeldAt sizes end s) where
  -- a row's vertex, present at the end of collect
  here : (k : ℕ) → k < length s.rows → IsHere sizes z (row_at s k).life (row_at s k).key end
  here k low = record { kept = kept; present = (held k low).present }

  from_start : (k : ℕ) (low : k < length s.rows) → IsPrefix start (c.rows k low).begin
  from_start k low = let r = c.rows k low in prefix_trans start r.found r.begin r.after r.then

  -- an edge of a row, by its place
  record IsIn (k : ℕ) (e : EdgeRow) : Type 0 where
    pub low : k < length s.rows
    pub place : ℕ
    pub at : slice_get (edges_of s (row_at s k)) place ≡ Some e

  edges_seen : (k : ℕ) (low : k < length s.rows)
      → Every (IsEdgeSeen sizes caller s (c.rows k low).begin end (row_at s k).life) (edges_of s (row_at s k))
  edges_seen k low = row_edges sizes caller s start end (row_at s k) (c.rows k low)

  seen : (k : ℕ) (e : EdgeRow) (i : IsIn k e) → IsEdgeSeen sizes caller s (c.rows k i.low).begin end (row_at s k).life e
  seen k e i = every_at (IsEdgeSeen sizes caller s (c.rows k i.low).begin end (row_at s k).life)
      (edges_of s (row_at s k)) i.place e (edges_seen k i.low) i.at

  word : (k : ℕ) (e : EdgeRow) (i : IsIn k e) → word_at sizes end (link_at sizes e.life.index) ≡ e.link
  word k e i = every_at (λ (e : EdgeRow). word_at sizes end (link_at sizes e.life.index) ≡ e.link)
      (edges_of s (row_at s k)) i.place e (held k i.low).links i.at

  -- it's in its life still, and its link tells whether it's marked
  record IsNow (e : EdgeRow) (link : Event) : Type 0 where
    pub life : e.life.tag ≡ (node_in sizes end e.life.index).tag
    pub link_is : link_of end e.life ≡ Some link
    pub mark : mark_of e.link ≡ mark_bit (edge_marked end e.life)

  now : (k : ℕ) (e : EdgeRow) (i : IsIn k e) → IsNow e (seen k e i).link
  now k e i =
      let es = seen k e i in
      let there = link_there sizes es.moment (kept_front sizes es.moment end es.before kept) e.life es.link es.is in
      let start_m = prefix_trans start (c.rows k i.low).begin es.moment (from_start k i.low) es.after in
      let m = still_met sizes z es.moment end kept caller e.life.index
      (same_pass sizes z caller start end end s kept (prefix_refl end) quiet open_ es.moment end start_m es.before
      (prefix_refl end)) es.met in
      let life : e.life.tag ≡ (node_in sizes end e.life.index).tag = es.life ∙ sym m.1.tag in
      let used = met_used sizes end caller e.life.index m.0 in
      let n = ((named sizes z end kept).each e.life.index there).edge_mark used (m.1.vertex ∙ es.edge) in
      record {
        life = life;
        link_is = link_on es.moment end es.before e.life es.link es.is;
        mark =
            ap mark_of (sym (word k e i)) ∙ ((used_link sizes z end kept e.life.index there used).1
            ∙ ap mark_bit (sym n ∙ ap (edge_marked end)
            (sym (life_is e.life e.life.index (node_in sizes end e.life.index).tag refl life))));
      }

  -- an edge at a place among all edges is one of a row
  edge_in : (p : ℕ) → p < length s.edges → (k : ℕ) × IsIn k (edge_at s p)
  edge_in p h =
      let r = is.held p h in
      let row = row_at s r.0 in
      let n : ℕ = p - row.first in
      let inside : n < row.count = omega (arith, r.2, r.3) in
      let place : row.first + n ≡ p = omega (arith, r.2) in
      let got = get_at (edges_of s row) n blank_edge (omega (arith, length-edges_of s r.0 is r.1, inside)) in
      (r.0, record { low = r.1; place = n; at = got ∙ ap Some (get_or-edges_of s row n inside ∙ ap (edge_at s) place) })

  -- the target of an edge is a row of its key
  record IsTarget (e : EdgeRow) (link : Event) (t : ℕ) : Type 0 where
    pub low : t < length s.rows
    pub life : (row_at s t).life ≡ link.target
    pub key : (row_at s t).key ≡ e.key
    pub uncut : edge_marked end e.life ≡ false

  target : (k : ℕ) (e : EdgeRow) (i : IsIn k e) (t : ℕ) → e.target ≡ Some t → IsTarget e (seen k e i).link t
  target k e i t h =
      let es = seen k e i in
      let r = es.target.row t h in
      let low : t < length s.rows = r.0 in
      let g = now k e i in
      let key_t = (present_is end (row_at s t).life (row_at s t).key (held t low).present).1 in
      let key_e = (ends_linked sizes z end kept).target e.life es.link g.link_is in
      let same : (row_at s t).key ≡ es.link.key = some_is (row_at s t).key es.link.key
      (sym key_t ∙ (ap (key_of end) r.1 ∙ key_e)) in
      record {
        low = low;
        life = r.1;
        key = same ∙ es.key;
        uncut = mark_isnt (edge_marked end e.life) (sym g.mark ∙ r.2);
      }

  -- so the scan is complete
  pub complete : IsComplete s
  complete = record {
    has_root = c.some;
    all_started = c.started;
    keys_differ = λ j k lt low same.
        let a = (held j (omega arith)).present in
        let b = (held k low).present in
        let one = one_present sizes z end kept (row_at s j).life (row_at s k).life (row_at s k).key (a ∙ ap Some same)
        b in
        is.indices_differ j k lt low (ap (λ (x : Life). x.index) one);
    target_keys = λ p t h e. let i = edge_in p h in (target i.0 (edge_at s p) i.1 t e).key;
  }

  -- an edge with a target is a pair of the graph, with its weight
  pair_there : (k : ℕ) (e : EdgeRow) (i : IsIn k e) (t : ℕ) → e.target ≡ Some t
      → weight_of (graph_of end) (row_at s k).key e.key ≡ Some e.weight
  pair_there k e i t h =
      let es = seen k e i in
      let g = now k e i in
      let r = target k e i t h in
      let a : present_key end es.link.source ≡ Some (row_at s k).key = ap (present_key end) es.from
      ∙ (held k i.low).present in
      let b : present_key end es.link.target ≡ Some e.key = ap (present_key end) (sym r.life)
      ∙ ((held t r.low).present ∙ ap Some r.key) in
      let here_pair : present_pair end e.life ≡ Some (((row_at s k).key, e.key), e.weight) =
      (λ n. cond (r.uncut n) None (option_and_then (pair_between end) (g.link_is n)))
      ∙ (λ n. weighed (es.weight n) (both (a n) (b n))) in
      only_pair end e.life (row_at s k).key e.key e.weight here_pair
      (λ y v f. one_pair sizes z end kept y e.life (row_at s k).key e.key v e.weight f here_pair)

  -- a key of the scan's graph is a row's
  row_of : (x : ℕ) → has (graph_of_scan s) x ≡ true → (k : ℕ) × (k < length s.rows) × ((row_at s k).key ≡ x)
  row_of x h =
      let r = any_place (λ (row : VertexRow). row.key == x) (new_row blank_life 0) s.rows (sym (keys_law s x) ∙ h) in
      (r.0, r.1, eqb-true (row_at s r.0).key x r.2)

  -- each pair of the scan's graph is one of the graph
  pair_in : (x y w : ℕ) → weight_of (graph_of_scan s) x y ≡ Some w → (has (graph_of_scan s) x ≡ true)
      × (weight_of (graph_of end) x y ≡ Some w)
  pair_in x y w h =
      let there = (scan_graph.graph_law s is complete).from_key x y w h in
      let r = row_of x there in
      let row_weight : weight_to y (edges_of s (row_at s r.0)) ≡ Some w = sym (weights_law s r.0 y is complete r.1)
      ∙ (ap (λ (n : ℕ). weight_of (graph_of_scan s) n y) r.2 ∙ h) in
      let f = found_by y w (edges_of s (row_at s r.0)) row_weight in
      let pair = pair_there r.0 f.edge record { low = r.1; place = f.place; at = f.at } f.row f.target in
      let from = sym r.2 in
      let to = sym f.key in
      (there, (λ n. weight_of (graph_of end) (from n) (to n)) ∙ (pair ∙ ap Some f.weight))

  -- an edge that was seen replaced is met still, with the same marked link
  record IsReplacedNow (index word : ℕ) : Type 0 where
    pub there : index < sizes.nodes
    pub met : HasMet sizes end caller index
    pub edge : (node_in sizes end index).vertex ≡ false
    pub link : word_at sizes end (link_at sizes index) ≡ word
    pub marked : mark_of word ≡ 1

  replaced_now : (begin : List Event) → IsPrefix start begin → (index word : ℕ)
      → IsSeenReplaced sizes caller begin end index word → IsReplacedNow index word
  replaced_now begin p index word r =
      let there = used_there sizes r.moment index (kept_front sizes r.moment end r.before kept) r.met.free in
      let start_m = prefix_trans start begin r.moment p r.after in
      let m = still_met sizes z r.moment end kept caller index (same_pass sizes z caller start end end s kept
      (prefix_refl end) quiet open_ r.moment end start_m r.before (prefix_refl end)) r.met in
      record {
        there = there;
        met = m.0;
        edge = m.1.vertex ∙ r.edge;
        link = marked_link_stays sizes z index r.moment end r.before kept r.met.fresh r.replaced.marked m.1.tag
            (unstored_met sizes z end kept caller index there m.0) ∙ r.word_is;
        marked = ap mark_of (sym r.word_is) ∙ r.replaced.marked;
      }

  -- what the words of a row lead along is its vertex's list
  along : (k : ℕ) → k < length s.rows → (begin : List Event) → IsPrefix start begin → (p : ChainWord) (w : ℕ)
      (ms : List Meeting) → index_of w ≡ (edge_chain sizes end (row_at s k).life.index).next p → LeadsAlong w ms
      → Every (IsMeetingSeen sizes caller s begin end (row_at s k).life) ms
      → Every (λ (e : EdgeRow). word_at sizes end (link_at sizes e.life.index) ≡ e.link) (recorded ms)
      → MeetsFrom (edge_chain sizes end (row_at s k).life.index) p (map index_met ms)
  along k low begin q p w [] at leads f g = sym at ∙ leads
  along k low begin q p w (Recorded e ∷ ms) at leads f g = (
    sym at ∙ leads.0,
    leads.1,
    along k low begin q (Next e.life.index) e.link ms (ap index_of (sym g.0)) leads.2 f.1
        g.1,
  )
  along k low begin q p w (PassedOver index word ∷ ms) at leads f g = (
    sym at ∙ leads.0,
    leads.1,
    along k low begin q (Next index) word ms
        (ap index_of (sym (replaced_now begin q index word f.0).link)) leads.2 f.1 g,
  )

  list_is : (k : ℕ) (low : k < length s.rows)
      → (state sizes end).edges (row_at s k).life.index ≡ map index_met (c.rows k low).walked
  list_is k low =
      let h = here k low in
      let row = row_at s k in
      let r = c.rows k low in
      let chain = edge_chain sizes end row.life.index in
      let met = ((lists sizes z end kept).each row.life.index (has_open sizes end row.life.index
      (has_list sizes z row.life row.key end h))).met in
      let links = subst
      (Every (λ (e : EdgeRow). word_at sizes end (link_at sizes e.life.index) ≡ e.link)) r.edges (held k low).links in
      Meets-unique chain Head ((state sizes end).edges row.life.index) (map index_met r.walked) met
      (along k low r.begin (from_start k low) Head row.head r.walked (ap index_of (sym (held k low).head)) r.leads
      r.meetings links)

  -- an edge that was seen replaced is marked
  replaced_marked : (begin : List Event) → IsPrefix start begin → (l : Life) (word : ℕ)
      → l.tag ≡ (node_in sizes end l.index).tag → IsSeenReplaced sizes caller begin end l.index word
      → edge_marked end l ≡ true
  replaced_marked begin p l word tag r =
      let d = replaced_now begin p l.index word r in
      let used = met_used sizes end caller l.index d.met in
      let n = ((named sizes z end kept).each l.index d.there).edge_mark used d.edge in
      let m = (used_link sizes z end kept l.index d.there used).1 in
      ap (edge_marked end) (life_is l l.index (node_in sizes end l.index).tag refl tag) ∙
      (n ∙ mark_is (node_in sizes end l.index).marked (sym m ∙ (ap mark_of d.link ∙ d.marked)))

  -- an edge of a row's vertex that isn't marked is recorded, with its target
  record IsRecorded (k : ℕ) (l : Life) : Type 0 where
    pub edge : EdgeRow
    pub in_row : IsIn k edge
    pub life_is : edge.life ≡ l

  recorded_edge : (k : ℕ) → k < length s.rows → (l : Life) (link : Event) → link_of end l ≡ Some link
      → edge_marked end l ≡ false → link.source ≡ (row_at s k).life → IsRecorded k l
  recorded_edge k low l link h uncut from =
      let v = (row_at s k).life in
      let r = c.rows k low in
      let f : IsEdgeOf end v l =
      subst (λ (x : Life). IsEdgeOf end x l) from (edge_present sizes z end kept l link h uncut) in
      let i = on_list sizes z v (row_at s k).key end (here k low) l f in
      let listed : list_any (λ (y : ℕ). y == l.index) (map index_met r.walked) ≡ true = subst
      (λ (xs : List ℕ). list_any (λ (y : ℕ). y == l.index) xs ≡ true) (list_is k low) i.on in
      ⊎_elim
      (λ (m : IsRecordedAt r.walked l.index).
      let in_row : IsIn k m.edge = record {
        low = low;
        place = m.place;
        at = ap (λ (es : List EdgeRow). slice_get es m.place) r.edges ∙ m.at;
      } in
      let g = now k m.edge in_row in
      let tag : m.edge.life.tag ≡ l.tag =
      g.life ∙ (ap (λ (y : ℕ). (node_in sizes end y).tag) m.index_is ∙ sym i.life) in
      record { edge = m.edge; in_row = in_row; life_is = λ n. record { index = m.index_is n; tag = tag n } })
      (λ (m : (word : ℕ) × IsSeenReplaced sizes caller r.begin end l.index word).
      let t = replaced_marked r.begin (from_start k low) l m.0 i.life m.1 in absurd (cc))
      (met_how sizes caller s r.begin end v r.walked r.meetings l.index
      (contains_stands l.index (map index_met r.walked) listed))

  -- an unmarked edge row whose target isn't marked has a target
  has_target : (e : EdgeRow) (target : Life)
      → (e.target ≡ None → mark_of e.link ≡ 0 → vertex_marked end target ≡ true) → mark_of e.link ≡ 0
      → vertex_marked end target ≡ false → (t : ℕ) × (e.target ≡ Some t)
  has_target e target over unmarked live = by e.target refl
    where
      by : (o : Option ℕ) → e.target ≡ o → (t : ℕ) × (e.target ≡ Some t)
      by (Some t) h = (t, h)
      by None h = let m = over h unmarked in absurd (cc)

  -- each pair of the graph from a row's key
  module _ (x y w : ℕ) (there : has (graph_of_scan s) x ≡ true) (pair : weight_of (graph_of end) x y ≡ Some w) where
    from_row : (k : ℕ) × (k < length s.rows) × ((row_at s k).key ≡ x)
    from_row = row_of x there

    of_pair : (l : Life) × (present_pair end l ≡ Some ((x, y), w))
    of_pair = life_of_pair end x y w pair

    joined : IsJoined end of_pair.0 x y w
    joined = joined_is end of_pair.0 x y w of_pair.1

    one_source : joined.link.source ≡ (row_at s from_row.0).life
    one_source = one_present sizes z end kept joined.link.source (row_at s from_row.0).life x joined.source
        ((held from_row.0 from_row.1).present ∙ ap Some from_row.2)

    its_edge : IsRecorded from_row.0 of_pair.0
    its_edge = recorded_edge from_row.0 from_row.1 of_pair.0 joined.link joined.is joined.uncut one_source

    abbrev its_seen : IsEdgeSeen sizes caller s (c.rows from_row.0 its_edge.in_row.low).begin end
        (row_at s from_row.0).life
        its_edge.edge
    its_seen = seen from_row.0 its_edge.edge its_edge.in_row

    its_now : IsNow its_edge.edge (seen from_row.0 its_edge.edge its_edge.in_row).link
    its_now = now from_row.0 its_edge.edge its_edge.in_row

    one_link : its_seen.link ≡ joined.link
    one_link = some_is its_seen.link joined.link
        (sym its_now.link_is ∙ (ap (link_of end) its_edge.life_is ∙ joined.is))

    link_key : joined.link.key ≡ y
    link_key = some_is joined.link.key y (sym ((ends_linked sizes z end kept).target of_pair.0 joined.link joined.is)
        ∙ (present_is end joined.link.target y joined.target).1)

    row_key_is : its_edge.edge.key ≡ y
    row_key_is = sym its_seen.key ∙ (ap (λ (e : Event). e.key) one_link ∙ link_key)

    live_target : vertex_marked end its_seen.link.target ≡ false
    live_target = ap (λ (e : Event). vertex_marked end e.target) one_link
        ∙ (present_is end joined.link.target y joined.target).0

    unmarked_row : mark_of its_edge.edge.link ≡ 0
    unmarked_row = its_now.mark ∙ ap mark_bit (ap (edge_marked end) its_edge.life_is ∙ joined.uncut)

    found_target : (t : ℕ) × (its_edge.edge.target ≡ Some t)
    found_target = has_target its_edge.edge its_seen.link.target its_seen.target.over unmarked_row live_target

    found_weight : (n : ℕ) × (weight_to y (edges_of s (row_at s from_row.0)) ≡ Some n)
    found_weight = some_found y (edges_of s (row_at s from_row.0)) its_edge.in_row.place its_edge.edge found_target.0
        its_edge.in_row.at found_target.1 row_key_is

    scan_weight : weight_of (graph_of_scan s) x y ≡ Some found_weight.0
    scan_weight = ap (λ (n : ℕ). weight_of (graph_of_scan s) n y) (sym from_row.2)
        ∙ (weights_law s from_row.0 y is complete from_row.1 ∙ found_weight.1)

    -- is one of the scan's graph
    pair_back : weight_of (graph_of_scan s) x y ≡ Some w
    pair_back = as_there (weight_of (graph_of_scan s) x y) (weight_of (graph_of end) x y) found_weight.0 w scan_weight
        (pair_in x y found_weight.0 scan_weight).1 pair

  -- the root is a key of the graph
  pub root_there : has (graph_of end) (root_of s) ≡ true
  root_there = key_of_life end (row_at s 0).life (row_at s 0).key (held 0 c.some).present

  -- a path leads to each row
  path_to : (n k : ℕ) → k < n → k < length s.rows → (p : List ℕ) × IsPath (graph_of end) (root_of s) (row_at s k).key p
  path_to zero k less low = absurd (omega arith)
  path_to (suc n) zero less low = ((row_at s 0).key ∷ [], (refl, refl, root_there))
  path_to (suc n) (suc k) less low =
      let r = c.reached (suc k) (omega arith) low in
      let from_low : r.from < length s.rows = omega (arith, r.earlier, low) in
      let q = path_to n r.from (omega (arith, r.earlier, less)) from_low in
      let i : IsIn r.from r.edge = record { low = from_low; place = r.place; at = r.at } in
      let t = target r.from r.edge i (suc k) r.leads in
      let pair : weight_of (graph_of end) (row_at s r.from).key (row_at s (suc k)).key ≡ Some r.edge.weight = ap
      (weight_of (graph_of end) (row_at s r.from).key) t.key ∙ pair_there r.from r.edge i (suc k) r.leads in (
        q.0 ++ (row_at s (suc k)).key ∷ [],
        path_on (graph_of end) (root_of s) (row_at s r.from).key
            (row_at s (suc k)).key q.0 q.1 (ap (λ (o : Option ℕ). is_some o) pair)
            (key_of_life end (row_at s (suc k)).life (row_at s (suc k)).key (held (suc k) low).present),
      )

  -- and from a key of the scan none leads out of it
  stays_in : (a b : ℕ) (p : List ℕ) → IsPath (graph_of end) a b p → has (graph_of_scan s) a ≡ true
      → has (graph_of_scan s) b ≡ true
  stays_in a b [] k there = absurd k
  stays_in a b (x ∷ []) k there = subst (λ (n : ℕ). has (graph_of_scan s) n ≡ true) (sym k.0 ∙ k.1) there
  stays_in a b (x ∷ y ∷ p) k there =
      let in_x : has (graph_of_scan s) x ≡ true = subst (λ (n : ℕ). has (graph_of_scan s) n ≡ true) (sym k.0) there in
      let w = weight_there (weight_of (graph_of end) x y) k.1 in
      stays_in y b (y ∷ p) k.2 ((scan_graph.graph_law s is complete).to_key x y w.0 (pair_back x y w.0 in_x w.1))

  is_part : IsPart (graph_of end) (root_of s) (graph_of_scan s)
  is_part = record {
    keys = λ x. (
      (λ h.
          let r = row_of x h in
          let p = path_to (suc r.0) r.0 (omega arith) r.1 in
          (p.0, subst (λ (n : ℕ). IsPath (graph_of end) (root_of s) n p.0) r.2 p.1)),
      (λ q. stays_in (root_of s) x q.0 q.1 (row_key s 0 c.some)),
    );
    pairs = λ x y w. (pair_in x y w, (λ q. pair_back x y w q.0 q.1));
  }

  pub part_is : graph_of_scan s ≡ part (graph_of end) (root_of s)
  part_is = only_part_law (graph_of end) (graph_of_scan s) (root_of s) (graph_is sizes z end kept) root_there is_part

-- what was collected is in the table
pub inside : (sizes : Sizes) (caller : ℕ) (start end : List Event) (s : ScanValue) → IsKept sizes end → IsScan s
    → HasCollected sizes caller start end s → IsInside sizes s
inside sizes caller start end s kept is c = record {
  rows = λ k low.
      let r = c.rows k low in
      let p = prefix_trans r.found r.begin end r.then r.before in
      key_there sizes end kept (row_at s k).life (row_at s k).key
      (key_on r.found end p (row_at s k).life (row_at s k).key
      (present_is r.found (row_at s k).life (row_at s k).key r.present).1);
  edges = λ p h.
      let r = is.held p h in
      let row = row_at s r.0 in
      let n : ℕ = p - row.first in
      let within : n < row.count = omega (arith, r.2, r.3) in
      let place : row.first + n ≡ p = omega (arith, r.2) in
      let got = get_at (edges_of s row) n blank_edge (omega (arith, length-edges_of s r.0 is r.1, within)) in
      let at : slice_get (edges_of s row) n ≡ Some (edge_at s p) = got
      ∙ ap Some (get_or-edges_of s row n within ∙ ap (edge_at s) place) in
      let e = every_at (IsEdgeSeen sizes caller s (c.rows r.0 r.1).begin end row.life) (edges_of s row) n (edge_at s p)
      (row_edges sizes caller s start end row (c.rows r.0 r.1)) at in
      link_there sizes e.moment (kept_front sizes e.moment end e.before kept) (edge_at s p).life e.link e.is;
}

-- from verify's answer to what was held, and to the part
pub same_held : (sizes : Sizes) → IsLayout sizes → (caller : ℕ) (start end now : List Event) (s : ScanValue)
    → OnlyLooks sizes caller start now → IsPrefix end now → HasCollected sizes caller start end s
    → IsSame sizes end now s → IsHeldAt sizes end s
same_held sizes z caller start end now s looks p c same k low =
    row_held sizes z caller start end now s looks.kept p looks.quiet looks.opened (row_at s k) (c.rows k low)
    (same k low)

pub same_part : (sizes : Sizes) → IsLayout sizes → (caller : ℕ) (start end now : List Event) (s : ScanValue)
    → OnlyLooks sizes caller start now → IsPrefix end now → IsScan s → HasCollected sizes caller start end s
    → IsSame sizes end now s → IsComplete s × (has (graph_of end) (root_of s) ≡ true)
    × (graph_of_scan s ≡ part (graph_of end) (root_of s))
same_part sizes z caller start end now s looks p is c same =
    let held = same_held sizes z caller start end now s looks p c same in
    let until = looks_until sizes caller start end now looks p in (
      complete sizes z caller start end s until.kept until.quiet until.opened is c held,
      root_there sizes z caller start end s until.kept until.quiet until.opened is c held,
      part_is sizes z caller start end s until.kept until.quiet until.opened is c held,
    )
