-- What the two walks carry from load to load: how much of the scan is recorded, and how much of it was found again.
use Rattle.std.specs.Prelude.{◌≡◌, ◌≢◌, ℕ, ◌+◌, ◌-◌, ◌<◌, ◌≤◌, List, [], ◌∷◌, length, take, Some}
use Rattle.graph_kinds.specs.History.{Every}
use Rattle.packed_link.specs.Link.{index_of, mark_of, tag_of, nowhere}
use Rattle.packed_link.specs.Layout.{Sizes, link_at, second_at, third_at}
use Rattle.packed_link.specs.declared.link.Life.{Life}
use Rattle.scan_record.specs.declared.rows.VertexRow.{VertexRow}
use Rattle.scan_record.specs.declared.rows.EdgeRow.{EdgeRow}
use Rattle.scan_record.specs.Scan.{ScanValue, row_at, edges_of}
use Rattle.core_journal.specs.declared.event.Event.{Event}
use Rattle.core_journal.specs.GraphOf.{present_key}
use Rattle.core_journal.specs.Machine.{word_at}
use Rattle.core_journal.specs.Prefix.{IsPrefix}
use Rattle.core_rule.specs.Fronts.{MetVertex, MetEdge, key_in}
use Rattle.core_lists.specs.Walks.{LeadsTo}
use Rattle.core_rule.specs.declared.view.View.{View}
use Rattle.core_scans.specs.Seen.{WasAt, Meeting, index_met, link_met, recorded, IsMeetingSeen}
use Rattle.core_scans.specs.Seen.{IsRowSeen, IsLedTo, IsRowSame}

-- a row's vertex was met, has the row's key, and was found present with it
pub record IsRowMet (v : View) (start : List Event) (row : VertexRow) : Type 0 where
  pub met : MetVertex v row.life
  pub key : key_in v row.life.index ≡ row.key
  pub found : List Event
  pub after : IsPrefix start found
  pub before : IsPrefix found v.front
  pub present : present_key found row.life ≡ Some row.key

-- each row's vertex was met
abbrev pub AreRowsMet : View → List Event → ScanValue → Type 0
AreRowsMet v start s = (k : ℕ) → k < length s.rows → IsRowMet v start (row_at s k)

-- of the first rows each but the root's is reached by an edge of an earlier one
abbrev pub AreRowsReached : ScanValue → ℕ → Type 0
AreRowsReached s n = (t : ℕ) → 0 < t → t < n → IsLedTo s t

-- collect stands between two rows: those before the next one to be started are seen
pub record IsBetween (v : View) (start : List Event) (s : ScanValue) : Type 0 where
  pub front : IsPrefix start v.front
  pub some : 0 < length s.rows
  pub started : s.started ≡ s.next
  pub met : AreRowsMet v start s
  pub seen : (k : ℕ) → k < s.next → IsRowSeen v.sizes v.number s start v.front (row_at s k)

-- a word leads to the first that is met, the link of each to the next, and that of the last is a word
abbrev pub LeadsUpTo : ℕ → List Meeting → ℕ → Type 0
LeadsUpTo word [] last = word ≡ last
LeadsUpTo word (m ∷ ms) last =
    (index_of word ≡ index_met m) × (index_met m ≢ nowhere) × LeadsUpTo (link_met m) ms last

-- a row is seen up to a word of its list, to which its head leads along so many meetings
pub record IsRowOpen (sizes : Sizes) (caller : ℕ) (s : ScanValue) (start end : List Event) (row : VertexRow)
    (at steps : ℕ) : Type 0 where
  pub found : List Event
  pub after : IsPrefix start found
  pub present : present_key found row.life ≡ Some row.key
  pub begin : List Event
  pub then : IsPrefix found begin
  pub before : IsPrefix begin end
  pub counter : word_at sizes begin (third_at sizes row.life.index) ≡ row.counter
  pub head : WasAt sizes begin end (second_at sizes row.life.index) row.head
  pub walked : List Meeting
  pub long : length walked ≡ steps
  pub leads : LeadsUpTo row.head walked at
  pub meetings : Every (IsMeetingSeen sizes caller s begin end row.life) walked
  pub edges : edges_of s row ≡ recorded walked

-- an edge row is of the node to which a word leads, with the words of that node which a view shows
pub record IsEdgeLoaded (v : View) (at : ℕ) (e : EdgeRow) : Type 0 where
  pub index : e.life.index ≡ index_of at
  pub link : e.link ≡ word_at v.sizes v.front (link_at v.sizes e.life.index)
  pub tag : e.life.tag ≡ tag_of e.link
  pub key : e.key ≡ key_in v e.life.index
  pub weight : e.weight ≡ word_at v.sizes v.front (third_at v.sizes e.life.index)

-- an edge with this key and this link was found replaced: the link is marked and leads to a node of the same key
pub record IsFoundReplaced (v : View) (key link : ℕ) : Type 0 where
  pub marked : mark_of link ≡ 1
  pub some : index_of link ≢ nowhere
  pub same : key_in v (index_of link) ≡ key

-- the node of an index is an edge of the source that was met, with a greater key than each of these edges
pub record IsNextEdge (v : View) (source : Life) (es : List EdgeRow) (index : ℕ) : Type 0 where
  pub life : Life
  pub is : life.index ≡ index
  pub met : MetEdge v source life
  pub above : Every (λ (e : EdgeRow). e.key < key_in v index) es

-- the row that was started last
abbrev pub last_row : ScanValue → VertexRow
last_row s = row_at s (s.next - 1)

-- collect stands within a row, after so many meetings at a word of its list, which leads to none or to the next edge
pub record IsWithin (v : View) (start : List Event) (s : ScanValue) (at steps : ℕ) : Type 0 where
  pub begun : 0 < s.next
  pub some : s.next ≤ length s.rows
  pub started : s.started ≡ s.next
  pub met : AreRowsMet v start s
  pub seen : (k : ℕ) → k + 1 < s.next → IsRowSeen v.sizes v.number s start v.front (row_at s k)
  pub row : IsRowOpen v.sizes v.number s start v.front (last_row s) at steps
  pub onward : LeadsTo at (IsNextEdge v (last_row s).life (edges_of s (last_row s)))

-- a scan is another one with further rows, none of them started
pub record IsLonger (s t : ScanValue) : Type 0 where
  pub next : t.next ≡ s.next
  pub started : t.started ≡ s.started
  pub edges : t.edges ≡ s.edges
  pub rows : length s.rows ≤ length t.rows
  pub same : (k : ℕ) → k < length s.rows → row_at t k ≡ row_at s k

-- verify has found the rows before one the same
abbrev pub AreRowsSame : Sizes → List Event → List Event → ScanValue → ℕ → Type 0
AreRowsSame sizes end now s k = (i : ℕ) → i < k → IsRowSame sizes s end now (row_at s i)

-- verify stands within a row: the head and the links of the first edges were found the same
pub record IsRowAgain (sizes : Sizes) (s : ScanValue) (end now : List Event) (row : VertexRow) (found : ℕ)
    : Type 0 where
  pub front : IsPrefix end now
  pub head : WasAt sizes end now (second_at sizes row.life.index) row.head
  pub links : Every (λ e. WasAt sizes end now (link_at sizes e.life.index) e.link) (take found (edges_of s row))

-- verify has found a row's list the same, and after it the row's counter
pub record IsRowCounted (sizes : Sizes) (s : ScanValue) (end now : List Event) (row : VertexRow) : Type 0 where
  pub counted : List Event
  pub after : IsPrefix end counted
  pub before : IsPrefix counted now
  pub head : WasAt sizes end counted (second_at sizes row.life.index) row.head
  pub links : Every (λ e. WasAt sizes end counted (link_at sizes e.life.index) e.link) (edges_of s row)
  pub counter : word_at sizes counted (third_at sizes row.life.index) ≡ row.counter

-- a scan has more than another: each row is of the same life
pub record IsMore (s t : ScanValue) : Type 0 where
  pub rows : length s.rows ≤ length t.rows
  pub lives : (k : ℕ) → k < length s.rows → (row_at t k).life ≡ (row_at s k).life
