-- The steps of collect: a load, the start of a row, an edge, the end of a row, and the end.
use Rattle.std.proofs.Common.{◌≡◌, ◌≢◌, ℕ, zero, suc, ◌+◌, ◌-◌, ◌<◌, List, [], length, Some, inl, inr, ⊎_elim, refl}
use Rattle.std.proofs.Common.{sym, ap, ◌∙◌, subst, arith}
use mathlib.Core.Logic.{dite}
use native.Mathlib.Decide.{ℕ_discrete}
use Rattle.packed_link.specs.Link.{index_of, nowhere}
use Rattle.packed_link.specs.Layout.{IsLayout, second_at, third_at}
use Rattle.packed_link.specs.declared.link.Life.{Life}
use Rattle.scan_record.specs.declared.rows.VertexRow.{VertexRow}
use Rattle.scan_record.specs.declared.rows.EdgeRow.{EdgeRow}
use Rattle.scan_record.specs.Scan.{ScanValue, IsScan, row_at, edges_of, empty_scan, with_vertex, with_started}
use Rattle.std.proofs.Math.ListN.{length-set}
use Rattle.scan_record.proofs.Starts.{started_row}
use Rattle.core_journal.specs.declared.event.Event.{Event}
use Rattle.core_journal.specs.GraphOf.{present_key}
use Rattle.core_journal.specs.Machine.{word_at}
use Rattle.core_journal.specs.Prefix.{IsPrefix}
use Rattle.core_journal.proofs.Lists.{prefix_refl, prefix_trans, every_map}
use Rattle.core_lists.specs.Chains.{life_in}
use Rattle.core_rule.specs.Fronts.{MetVertex, key_in}
use Rattle.core_rule.specs.Views.{moved_on, GoesOn, IsEdgeIn}
use Rattle.core_lists.specs.Walks.{LeadsTo}
use Rattle.core_rule.specs.declared.view.View.{View}
use Rattle.core_rule.proofs.ViewShows.{vertex_still, edge_still, key_still, goes_further, list_shown}
use Rattle.core_scans.specs.Seen.{IsRowSeen, HasCollected}
use Rattle.core_scans.specs.Walking.{IsRowMet, AreRowsMet, AreRowsReached, IsBetween, IsRowOpen, IsNextEdge, last_row}
use Rattle.core_scans.specs.Walking.{IsWithin}
use Rattle.core_scans.proofs.PushesKeepLives.{more_same, more_started, started_other, started_same}
use Rattle.core_scans.proofs.CollectGoesOn.{row_on, open_on, open_done}

pub leads_map : (word : ℕ) (P Q : ℕ → Type 0) → ((y : ℕ) → P y → Q y) → LeadsTo word P → LeadsTo word Q
leads_map word P Q f h = ⊎_elim (λ n. inl n) (λ (p : P (index_of word)). inr (f (index_of word) p)) h

-- what is said of a row's life and key is said of another with them
pub row_like : (v : View) (start : List Event) (row other : VertexRow) → other.life ≡ row.life → other.key ≡ row.key
    → IsRowMet v start row → IsRowMet v start other
row_like v start row other life key m = record {
  met = subst (MetVertex v) (sym life) m.met;
  key = ap (λ (x : Life). key_in v x.index) life ∙ (m.key ∙ sym key);
  found = m.found;
  after = m.after;
  before = m.before;
  present = (λ i. present_key m.found (life i)) ∙ (m.present ∙ ap Some (sym key));
}

module _ (v w : View) (z : IsLayout v.sizes) (g : GoesOn v w) where
  pub met_later : (start : List Event) (row : VertexRow) → IsRowMet v start row → IsRowMet w start row
  met_later start row m = record {
    met = vertex_still v w z g row.life m.met;
    key = key_still v w z g row.life.index m.met.life.there m.met.met ∙ m.key;
    found = m.found;
    after = m.after;
    before = prefix_trans m.found v.front w.front m.before g.grows;
    present = m.present;
  }

  pub next_later : (source : Life) (es : List EdgeRow) (index : ℕ) → IsNextEdge v source es index
      → IsNextEdge w source es index
  next_later source es index n =
      let key : key_in w index ≡ key_in v index = subst (λ (y : ℕ). key_in w y ≡ key_in v y) n.is
      (key_still v w z g n.life.index n.met.life.there n.met.met) in
      record {
        life = n.life;
        is = n.is;
        met = edge_still v w z g source n.life n.met;
        above = every_map (λ (e : EdgeRow). e.key < key_in v index) (λ (e : EdgeRow). e.key < key_in w index)
            (λ e h. omega (arith, h, key)) es n.above;
      }

  -- a load
  pub between_later : (start : List Event) (s : ScanValue) → IsBetween v start s → IsBetween w start s
  between_later start s h = subst (λ (u : View). IsBetween u start s) (sym g.view) record {
    front = prefix_trans start v.front w.front h.front g.grows;
    some = h.some;
    started = h.started;
    met = λ k low. subst (λ (u : View). IsRowMet u start (row_at s k)) g.view
        (met_later start (row_at s k) (h.met k low));
    seen = λ k low. row_on v.sizes v.number s s (more_same s) v.front w.front g.grows start (row_at s k) refl
        (h.seen k low);
  }

  pub within_later : (start : List Event) (s : ScanValue) (at steps : ℕ) → IsWithin v start s at steps
      → IsWithin w start s at steps
  within_later start s at steps h = subst (λ (u : View). IsWithin u start s at steps) (sym g.view) record {
    begun = h.begun;
    some = h.some;
    started = h.started;
    met = λ k low. subst (λ (u : View). IsRowMet u start (row_at s k)) g.view
        (met_later start (row_at s k) (h.met k low));
    seen = λ k low. row_on v.sizes v.number s s (more_same s) v.front w.front g.grows start (row_at s k) refl
        (h.seen k low);
    row = open_on v.sizes v.number s s (more_same s) v.front w.front g.grows start (last_row s) at steps refl h.row;
    onward = subst (λ (u : View). LeadsTo at (IsNextEdge u (last_row s).life (edges_of s (last_row s)))) g.view
        (leads_map at (IsNextEdge v (last_row s).life (edges_of s (last_row s)))
        (IsNextEdge w (last_row s).life (edges_of s (last_row s)))
        (next_later (last_row s).life (edges_of s (last_row s))) h.onward);
  }

-- the end of a row
pub within_done : (v : View) (start : List Event) (s : ScanValue) (at steps : ℕ) → IsWithin v start s at steps
    → index_of at ≡ nowhere → IsBetween v start s
within_done v start s at steps h none = record {
  front = prefix_trans start h.row.begin v.front (prefix_trans start h.row.found h.row.begin h.row.after h.row.then)
      h.row.before;
  some = omega (arith, h.begun, h.some);
  started = h.started;
  met = h.met;
  seen = λ k low. dite (ℕ_discrete k (s.next - 1))
      (λ same. subst (λ (n : ℕ). IsRowSeen v.sizes v.number s start v.front (row_at s n)) (sym same)
      (open_done v.sizes v.number s start v.front (last_row s) at steps none h.row))
      (λ ne. h.seen k (omega (arith, low, ne)));
}

-- the end of collect
pub between_done : (v : View) (start : List Event) (s : ScanValue) → IsBetween v start s
    → AreRowsReached s (length s.rows) → s.next ≡ length s.rows → HasCollected v.sizes v.number start v.front s
between_done v start s h reached all = record {
  some = h.some;
  started = h.started ∙ all;
  rows = λ k low. h.seen k (omega (arith, all, low));
  reached = reached;
}

-- the start of collect
pub between_first : (v : View) (start : List Event) (nodes : ℕ) (root : Life) (key : ℕ) → IsPrefix start v.front
    → present_key start root ≡ Some key → MetVertex v root → key_in v root.index ≡ key
    → IsBetween v start (with_vertex (empty_scan nodes) root key)
between_first v start nodes root key p there m is = record {
  front = p;
  some = omega arith;
  started = refl;
  met = first;
  seen = λ k low. absurd (omega (arith, low));
}
  where
    first : AreRowsMet v start (with_vertex (empty_scan nodes) root key)
    first zero low = record { met = m; key = is; found = start; after = prefix_refl start; before = p; present = there }
    first (suc k) low = absurd (omega (arith, low))

-- the start of a row: its counter was loaded, and after that its head
module _ (v a b : View) (z : IsLayout v.sizes) (start : List Event) (s : ScanValue) (is : IsScan s)
    (h : IsBetween v start s) (low : s.next < length s.rows) (ga : GoesOn v a) (gb : GoesOn a b) (counter head : ℕ)
    (counted : word_at v.sizes a.front (third_at v.sizes (row_at s s.next).life.index) ≡ counter)
    (led : word_at v.sizes b.front (second_at v.sizes (row_at s s.next).life.index) ≡ head) where
  abbrev pub t : ScanValue
  t = with_started s s.next counter head

  abbrev row : VertexRow
  row = started_row s s.next counter head

  g : GoesOn v b
  g = goes_further v a b ga gb

  here : row_at t s.next ≡ row
  here = started_same s is s.next counter head low

  last : last_row t ≡ row
  last =
      let one : s.next + 1 - 1 ≡ s.next = omega arith in
      ap (row_at t) one ∙ here

  abbrev u : View
  u = moved_on v b.front b.last

  as_u : b ≡ u
  as_u = g.view

  none_yet : edges_of t row ≡ []
  none_yet = refl

  open_row : IsRowOpen v.sizes v.number t start b.front row head 0
  open_row = record {
    found = (h.met s.next low).found;
    after = (h.met s.next low).after;
    present = (h.met s.next low).present;
    begin = a.front;
    then = prefix_trans (h.met s.next low).found v.front a.front (h.met s.next low).before ga.grows;
    before = gb.grows;
    counter = counted;
    head = record { moment = b.front; after = gb.grows; before = prefix_refl b.front; word_is = led };
    walked = [];
    long = refl;
    leads = refl;
    meetings = tt;
    edges = none_yet;
  }

  onward : LeadsTo head (IsNextEdge u (row_at s s.next).life [])
  onward =
      let met_b : MetVertex u (row_at s s.next).life = subst (λ (x : View). MetVertex x (row_at s s.next).life) as_u
      (vertex_still v b z g (row_at s s.next).life (h.met s.next low).met) in
      let shown : LeadsTo head (IsEdgeIn u (row_at s s.next).life) = subst
      (λ (w : ℕ). LeadsTo w (IsEdgeIn u (row_at s s.next).life)) led
      (list_shown u z g.kept (row_at s s.next).life met_b) in
      leads_map head (IsEdgeIn u (row_at s s.next).life) (IsNextEdge u (row_at s s.next).life [])
      (λ y m. record { life = life_in v.sizes b.front y; is = refl; met = m; above = tt }) shown

  pub row_started : IsWithin b start t head 0
  row_started = subst (λ (x : View). IsWithin x start t head 0) (sym as_u) record {
    begun = omega arith;
    some = omega (arith, low, (more_started s is s.next counter head).rows);
    started = ap (λ (k : ℕ). k + 1) h.started;
    met = met_all;
    seen = λ k less.
        let ne : k ≢ s.next = λ e. omega (arith, less, e) in
        subst (IsRowSeen v.sizes v.number t start b.front) (sym (started_other s is s.next counter head k ne))
        (row_on v.sizes v.number s t (more_started s is s.next counter head) v.front b.front g.grows start
        (row_at s k) refl (h.seen k (omega (arith, less))));
    row = subst (λ (r : VertexRow). IsRowOpen v.sizes v.number t start b.front r head 0) (sym last) open_row;
    onward = subst (λ (r : VertexRow). LeadsTo head (IsNextEdge u r.life (edges_of t r))) (sym last) onward;
  }
    where
      met_all : AreRowsMet (moved_on v b.front b.last) start (with_started s s.next counter head)
      met_all k inside = dite (ℕ_discrete k s.next)
          (λ same. subst (IsRowMet u start) (sym (ap (row_at t) same ∙ here))
          (row_like u start (row_at s s.next) row refl refl
          (subst (λ (x : View). IsRowMet x start (row_at s s.next)) as_u
          (met_later v b z g start (row_at s s.next) (h.met s.next low)))))
          (λ ne.
          let inside_s : k < length s.rows = omega (arith, inside, length-set s.rows s.next row) in
          subst (IsRowMet u start) (sym (started_other s is s.next counter head k ne))
          (subst (λ (x : View). IsRowMet x start (row_at s k)) as_u
          (met_later v b z g start (row_at s k) (h.met k inside_s))))
