-- What collect carries from load to load.
use Rattle.std.proofs.Common.{◌≡◌, ◌≢◌, ℕ, List, [], ◌∷◌, ◌++◌, refl, ap, ◌∙◌, arith}
use Rattle.graph_kinds.specs.History.{Every}
use Rattle.packed_link.specs.Link.{index_of, nowhere}
use Rattle.packed_link.specs.Layout.{Sizes, second_at}
use Rattle.packed_link.specs.declared.link.Life.{Life}
use Rattle.scan_record.specs.declared.rows.VertexRow.{VertexRow}
use Rattle.scan_record.specs.declared.rows.EdgeRow.{EdgeRow}
use Rattle.scan_record.specs.Scan.{ScanValue, edges_of}
use Rattle.core_journal.specs.declared.event.Event.{Event}
use Rattle.core_journal.specs.Prefix.{IsPrefix}
use Rattle.core_journal.proofs.Lists.{prefix_trans, every_map}
use Rattle.core_scans.specs.Seen.{WasAt, Meeting, Recorded, PassedOver, index_met, link_met, IsTargetSeen}
use Rattle.core_scans.specs.Seen.{IsEdgeSeen, IsMeetingSeen, LeadsAlong, IsRowSeen}
use Rattle.core_scans.specs.Walking.{LeadsUpTo, IsRowOpen}
use Rattle.core_scans.proofs.FrontsKeepLives.{marked_on}
use Rattle.core_scans.specs.Walking.{IsMore}

-- what was loaded between two moments was loaded between longer ones
pub was_on : (sizes : Sizes) (from to later : List Event) (place word : ℕ) → IsPrefix to later
    → WasAt sizes from to place word → WasAt sizes from later place word
was_on sizes from to later place word p w = record {
  moment = w.moment;
  after = w.after;
  before = prefix_trans w.moment
      to later w.before p;
  word_is = w.word_is;
}

module _ (sizes : Sizes) (caller : ℕ) (s t : ScanValue) (more : IsMore s t) (end later : List Event)
    (p : IsPrefix end later) where
  target_on : (e : EdgeRow) (target : Life) → IsTargetSeen s end e target → IsTargetSeen t later e target
  target_on e target h = record {
    row = λ n is. let r = h.row n is in (omega (arith, r.0, more.rows), more.lives n r.0 ∙ r.1, r.2);
    over = λ none unmarked. marked_on end later p target (h.over none unmarked);
  }

  pub edge_on : (begin : List Event) (source : Life) (e : EdgeRow) → IsEdgeSeen sizes caller s begin end source e
      → IsEdgeSeen sizes caller t begin later source e
  edge_on begin source e h = record {
    moment = h.moment;
    after = h.after;
    before = prefix_trans h.moment end later h.before p;
    word_is = h.word_is;
    met = h.met;
    life = h.life;
    edge = h.edge;
    link = h.link;
    is = h.is;
    from = h.from;
    key = h.key;
    weight = h.weight;
    target = target_on e h.link.target h.target;
  }

  -- what was met, too
  pub meeting_on : (begin : List Event) (source : Life) (m : Meeting) → IsMeetingSeen sizes caller s begin end source m
      → IsMeetingSeen sizes caller t begin later source m
  meeting_on begin source (Recorded e) h = edge_on begin source e h
  meeting_on begin source (PassedOver index word) h = record {
    moment = h.moment;
    after = h.after;
    before = prefix_trans h.moment end later h.before p;
    word_is = h.word_is;
    met = h.met;
    edge = h.edge;
    replaced = h.replaced;
  }

  pub meetings_on : (begin : List Event) (source : Life) (ms : List Meeting)
      → Every (IsMeetingSeen sizes caller s begin end source) ms
      → Every (IsMeetingSeen sizes caller t begin later source) ms
  meetings_on begin source ms f = every_map (IsMeetingSeen sizes caller s begin end source)
      (IsMeetingSeen sizes caller t begin later source) (meeting_on begin source) ms f

  pub row_on : (start : List Event) (row : VertexRow) → edges_of t row ≡ edges_of s row
      → IsRowSeen sizes caller s start end row → IsRowSeen sizes caller t start later row
  row_on start row edges h = record {
    found = h.found;
    after = h.after;
    present = h.present;
    begin = h.begin;
    then = h.then;
    before = prefix_trans h.begin end later h.before p;
    counter = h.counter;
    head = was_on sizes h.begin end later (second_at sizes row.life.index) row.head p h.head;
    walked = h.walked;
    leads = h.leads;
    meetings = meetings_on h.begin row.life h.walked h.meetings;
    edges = edges ∙ h.edges;
  }

  pub open_on : (start : List Event) (row : VertexRow) (at steps : ℕ) → edges_of t row ≡ edges_of s row
      → IsRowOpen sizes caller s start end row at steps → IsRowOpen sizes caller t start later row at steps
  open_on start row at steps edges h = record {
    found = h.found;
    after = h.after;
    present = h.present;
    begin = h.begin;
    then = h.then;
    before = prefix_trans h.begin end later h.before p;
    counter = h.counter;
    head = was_on sizes h.begin end later (second_at sizes row.life.index) row.head p h.head;
    walked = h.walked;
    long = h.long;
    leads = h.leads;
    meetings = meetings_on h.begin row.life h.walked h.meetings;
    edges = edges ∙ h.edges;
  }

-- a row whose list leads to none is seen whole
leads_end : (word : ℕ) (ms : List Meeting) (at : ℕ) → LeadsUpTo word ms at → index_of at ≡ nowhere → LeadsAlong word ms
leads_end word [] at h none = ap index_of h ∙ none
leads_end word (m ∷ ms) at h none = (h.0, h.1, leads_end (link_met m) ms at h.2 none)

pub leads_more : (word : ℕ) (ms : List Meeting) (at : ℕ) (m : Meeting) → LeadsUpTo word ms at
    → index_of at ≡ index_met m → index_met m ≢ nowhere → LeadsUpTo word (ms ++ m ∷ []) (link_met m)
leads_more word [] at m h is some = (ap index_of h ∙ is, some, refl)
leads_more word (d ∷ ms) at m h is some = (h.0, h.1, leads_more (link_met d) ms at m h.2 is some)

pub open_done : (sizes : Sizes) (caller : ℕ) (s : ScanValue) (start end : List Event) (row : VertexRow) (at steps : ℕ)
    → index_of at ≡ nowhere → IsRowOpen sizes caller s start end row at steps → IsRowSeen sizes caller s start end row
open_done sizes caller s start end row at steps none h = record {
  found = h.found;
  after = h.after;
  present = h.present;
  begin = h.begin;
  then = h.then;
  before = h.before;
  counter = h.counter;
  head = h.head;
  walked = h.walked;
  leads = leads_end row.head h.walked at h.leads none;
  meetings = h.meetings;
  edges = h.edges;
}
