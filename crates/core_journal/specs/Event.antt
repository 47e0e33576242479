-- Events by their kinds, and the lives that they are about.
-- A life is one use of a node: its index and its tag. An event is one won step on one word.
use Rattle.std.specs.Prelude.{Bool, true, false, cond, ◌&&◌, ◌||◌, ◌==◌}
use Rattle.packed_link.specs.Link.{nowhere}
use Rattle.packed_link.specs.declared.link.Life.{Life}
use Rattle.core_journal.specs.declared.event.Kind.{Kind}
use Rattle.core_journal.specs.declared.event.Kind.TheVariants.{DrawNumber, PopFree, StorePrivate, LinkVertex}
use Rattle.core_journal.specs.declared.event.Kind.TheVariants.{MarkVertex, UnlinkVertex, LinkEdge, Raise, MarkEdge}
use Rattle.core_journal.specs.declared.event.Kind.TheVariants.{UnlinkEdge, ReplaceEdge, Announce, Withdraw, MoveEpoch}
use Rattle.core_journal.specs.declared.event.Kind.TheVariants.{FreezeHead, FreezeEdge, StoreFree, PushFree}
use Rattle.core_journal.specs.declared.event.Event.{Event}

-- whether two lives are one: the same node in the same use
abbrev pub same_life : Life → Life → Bool
same_life x y = (x.index == y.index) && (x.tag == y.tag)

-- what an event of a kind is to numbers, nodes, lives and lists
pub record Role : Type 0 where
  pub draws : Bool
  pub pops : Bool
  pub links_vertex : Bool
  pub marks_vertex : Bool
  pub links_edge : Bool
  pub marks_edge : Bool
  pub replaces : Bool
  pub raises : Bool
  pub unlinks_vertex : Bool
  pub unlinks_edge : Bool
  pub moves : Bool
  pub freezes_head : Bool
  pub pushes : Bool
  pub counted : Bool

-- none of these
abbrev pub no_role : Role
no_role = record {
  draws = false;
  pops = false;
  links_vertex = false;
  marks_vertex = false;
  links_edge = false;
  marks_edge = false;
  replaces = false;
  raises = false;
  unlinks_vertex = false;
  unlinks_edge = false;
  moves = false;
  freezes_head = false;
  pushes = false;
  counted = false;
}

-- a row for each kind, and no row for kinds that it doesn't name. Counted are the kinds by which others lose tries: all
-- but draws, stores to a node of one's own, announcements and the epoch
abbrev pub role : Kind → Role
role DrawNumber = record no_role { draws = true }
role PopFree = record no_role { pops = true; counted = true }
role StorePrivate = no_role
role LinkVertex = record no_role { links_vertex = true; counted = true }
role MarkVertex = record no_role { marks_vertex = true; counted = true }
role UnlinkVertex = record no_role { unlinks_vertex = true; counted = true }
role LinkEdge = record no_role { links_edge = true; counted = true }
role Raise = record no_role { raises = true; counted = true }
role MarkEdge = record no_role { marks_edge = true; counted = true }
role UnlinkEdge = record no_role { unlinks_edge = true; counted = true }
role ReplaceEdge = record no_role { links_edge = true; replaces = true; counted = true }
role Announce = no_role
role Withdraw = no_role
role MoveEpoch = record no_role { moves = true }
role FreezeHead = record no_role { freezes_head = true; counted = true }
role FreezeEdge = record no_role { marks_edge = true; counted = true }
role StoreFree = no_role
role PushFree = record no_role { pushes = true; counted = true }

-- a number is drawn
abbrev pub draws : Kind → Bool
draws k = (role k).draws

-- a node is taken
abbrev pub pops : Kind → Bool
pops k = (role k).pops

-- a vertex is linked
abbrev pub links_vertex : Kind → Bool
links_vertex k = (role k).links_vertex

-- a vertex is removed: from here on it is no key of the graph
abbrev pub marks_vertex : Kind → Bool
marks_vertex k = (role k).marks_vertex

-- an edge is linked, in the place of another or not
abbrev pub links_edge : Kind → Bool
links_edge k = (role k).links_edge

-- an edge is marked, by its removal or by the freezing of its list
abbrev pub marks_edge : Kind → Bool
marks_edge k = (role k).marks_edge

-- an edge is replaced by one that is linked behind it
abbrev pub replaces : Kind → Bool
replaces k = (role k).replaces

-- an edge is marked, its own or the one that it replaces
abbrev pub cuts_edge : Kind → Bool
cuts_edge k = marks_edge k || replaces k

-- a vertex or an edge is linked
abbrev pub links : Kind → Bool
links k = links_vertex k || links_edge k

-- a counter is raised
abbrev pub raises : Kind → Bool
raises k = (role k).raises

-- a marked vertex is taken off its chain
abbrev pub unlinks_vertex : Kind → Bool
unlinks_vertex k = (role k).unlinks_vertex

-- a marked edge is taken off its list
abbrev pub unlinks_edge : Kind → Bool
unlinks_edge k = (role k).unlinks_edge

-- a node is taken off its chain or list
abbrev pub unlinks : Kind → Bool
unlinks k = unlinks_vertex k || unlinks_edge k

-- the epoch is moved on
abbrev pub moves : Kind → Bool
moves k = (role k).moves

-- the list of a removed vertex's edges is closed at its head
abbrev pub freezes_head : Kind → Bool
freezes_head k = (role k).freezes_head

-- a spent node is given back
abbrev pub pushes : Kind → Bool
pushes k = (role k).pushes

-- the counted kinds, by which others lose tries
abbrev pub counted : Kind → Bool
counted k = (role k).counted

-- the edge life that such an event marks
abbrev pub cut_life : Event → Life
cut_life e = cond (replaces e.kind) e.old e.life

-- a life that no node has
abbrev pub no_life : Life
no_life = record { index = nowhere; tag = 0 }

-- an event that is about no life and holds no key and no weight; other events are written as changes of it
abbrev pub blank : Event
blank = record {
  caller = 0;
  kind = DrawNumber;
  place = 0;
  word = 0;
  life = no_life;
  key = 0;
  source = no_life;
  target = no_life;
  weight = 0;
  old = no_life;
}
