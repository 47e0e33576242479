-- What an event of each kind does to the chain at whose word it is, and to the graph.
use Rattle.std.specs.Prelude.{◌≡◌, ◌≢◌, ℕ, ◌%◌, ◌<◌, List, [], ◌∷◌, ◌++◌, Some, None}
use Rattle.packed_link.specs.Layout.{Sizes}
use Rattle.graph_kinds.specs.declared.call.Call.TheVariants.{AddVertex, RemoveVertex, AddEdge, RemoveEdge}
use Rattle.core_chain.specs.Chain.{ChainWord, Head}
use Rattle.core_chain.specs.Steps.{Inserts, Replaces, Marks, Unlinks, SetsMark, Freezes, Untouched}
use Rattle.core_journal.specs.declared.event.Kind.{Kind}
use Rattle.core_journal.specs.declared.event.Kind.TheVariants.{DrawNumber, PopFree, StorePrivate, LinkVertex}
use Rattle.core_journal.specs.declared.event.Kind.TheVariants.{MarkVertex, UnlinkVertex, LinkEdge, Raise, MarkEdge}
use Rattle.core_journal.specs.declared.event.Kind.TheVariants.{UnlinkEdge, ReplaceEdge, Announce, Withdraw, MoveEpoch}
use Rattle.core_journal.specs.declared.event.Kind.TheVariants.{FreezeHead, FreezeEdge, StoreFree, PushFree}
use Rattle.core_journal.specs.declared.event.Event.{Event}
use Rattle.core_journal.specs.GraphOf.{graph_of, call_of, present_key, present_pair, pair_between, CarriesOut}
use Rattle.core_kept.specs.Nodes.{node_in}
use Rattle.core_lists.specs.Chains.{bucket_word, list_word, bucket_chain, edge_chain, HasList}

-- the chains of other buckets than one stay as they are, and so do all lists of edges that aren't frozen to their end
pub record OthersThanBucket (sizes : Sizes) (past : List Event) (e : Event) (bucket : ℕ) : Type 0 where
  pub buckets : (j : ℕ) → j < sizes.buckets → j ≢ bucket
      → Untouched (bucket_chain sizes past j) (bucket_chain sizes (past ++ e ∷ []) j)
  pub lists : (x : ℕ) → HasList sizes past x → Untouched (edge_chain sizes past x) (edge_chain sizes (past ++ e ∷ []) x)

-- the chains of all buckets stay as they are, and so do the lists of other vertices than one that aren't frozen to
-- their end
pub record OthersThanList (sizes : Sizes) (past : List Event) (e : Event) (vertex : ℕ) : Type 0 where
  pub buckets : (j : ℕ) → j < sizes.buckets
      → Untouched (bucket_chain sizes past j) (bucket_chain sizes (past ++ e ∷ []) j)
  pub lists : (x : ℕ) → HasList sizes past x → x ≢ vertex
      → Untouched (edge_chain sizes past x) (edge_chain sizes (past ++ e ∷ []) x)

-- a vertex is linked: it joins the chain of its key's bucket, and its key the graph, which had no such key
pub record AddsVertex (sizes : Sizes) (past : List Event) (e : Event) : Type 0 where
  pub at : ChainWord
  pub place : bucket_word sizes (e.key % sizes.buckets) at ≡ e.place
  pub chain : Inserts (bucket_chain sizes past (e.key % sizes.buckets))
      (bucket_chain sizes (past ++ e ∷ []) (e.key % sizes.buckets)) at e.life.index
  pub others : OthersThanBucket sizes past e (e.key % sizes.buckets)
  pub call : call_of past e ≡ Some (AddVertex e.key)
  pub graph : CarriesOut past e

-- a vertex is marked: it stays on its chain, and its key and all pairs of it leave the graph, which had the key
pub record RemovesVertex (sizes : Sizes) (past : List Event) (e : Event) : Type 0 where
  pub key : ℕ
  pub chain : Marks (bucket_chain sizes past (key % sizes.buckets))
      (bucket_chain sizes (past ++ e ∷ []) (key % sizes.buckets)) e.life.index
  pub others : OthersThanBucket sizes past e (key % sizes.buckets)
  pub call : call_of past e ≡ Some (RemoveVertex key)
  pub graph : CarriesOut past e

-- a marked vertex leaves its chain, and the graph stays
pub record UnlinksVertex (sizes : Sizes) (past : List Event) (e : Event) : Type 0 where
  pub bucket : ℕ
  pub at : ChainWord
  pub place : bucket_word sizes bucket at ≡ e.place
  pub chain : Unlinks (bucket_chain sizes past bucket) (bucket_chain sizes (past ++ e ∷ []) bucket) at e.life.index
  pub others : OthersThanBucket sizes past e bucket
  pub graph : graph_of (past ++ e ∷ []) ≡ graph_of past

-- an edge is linked: it joins the list of its source, and its pair the graph, which had no such pair, where both ends
-- are present; else the graph stays
pub record AddsEdge (sizes : Sizes) (past : List Event) (e : Event) : Type 0 where
  pub at : ChainWord
  pub place : list_word sizes e.source.index at ≡ e.place
  pub chain : Inserts (edge_chain sizes past e.source.index)
      (edge_chain sizes (past ++ e ∷ []) e.source.index) at e.life.index
  pub others : OthersThanList sizes past e e.source.index
  pub call : (a b : ℕ) → present_key past e.source ≡ Some a → present_key past e.target ≡ Some b
      → call_of past e ≡ Some (AddEdge a b e.weight)
  pub graph : (a b : ℕ) → present_key past e.source ≡ Some a → present_key past e.target ≡ Some b → CarriesOut past e
  pub none : pair_between past e ≡ None → graph_of (past ++ e ∷ []) ≡ graph_of past

-- an edge is marked: it stays on the list of its source, and its pair leaves the graph, which had it, where both ends
-- are present; else the graph stays
pub record RemovesEdge (sizes : Sizes) (past : List Event) (e : Event) : Type 0 where
  pub source : ℕ
  pub of_source : source ≡ (node_in sizes past e.life.index).source.index
  pub chain : Marks (edge_chain sizes past source) (edge_chain sizes (past ++ e ∷ []) source) e.life.index
  pub others : OthersThanList sizes past e source
  pub call : (a b w : ℕ) → present_pair past e.life ≡ Some ((a, b), w) → call_of past e ≡ Some (RemoveEdge a b)
  pub graph : (a b w : ℕ) → present_pair past e.life ≡ Some ((a, b), w) → CarriesOut past e
  pub none : present_pair past e.life ≡ None → graph_of (past ++ e ∷ []) ≡ graph_of past

-- an edge is replaced: it is marked, and the new one joins the list of its source behind it; where both ends are
-- present the graph, which had the pair with another weight, has it with the new one; else the graph stays
pub record ReplacesEdge (sizes : Sizes) (past : List Event) (e : Event) : Type 0 where
  pub of_source : e.source ≡ (node_in sizes past e.old.index).source
  pub chain : Replaces (edge_chain sizes past e.source.index)
      (edge_chain sizes (past ++ e ∷ []) e.source.index) e.old.index e.life.index
  pub others : OthersThanList sizes past e e.source.index
  pub call : (a b w : ℕ) → present_pair past e.old ≡ Some ((a, b), w) → call_of past e ≡ Some (AddEdge a b e.weight)
  pub graph : (a b w : ℕ) → present_pair past e.old ≡ Some ((a, b), w) → CarriesOut past e
  pub none : present_pair past e.old ≡ None → graph_of (past ++ e ∷ []) ≡ graph_of past

-- a marked edge leaves the list of its source, and the graph stays
pub record UnlinksEdge (sizes : Sizes) (past : List Event) (e : Event) : Type 0 where
  pub source : ℕ
  pub of_source : source ≡ (node_in sizes past e.life.index).source.index
  pub at : ChainWord
  pub place : list_word sizes source at ≡ e.place
  pub chain : Unlinks (edge_chain sizes past source) (edge_chain sizes (past ++ e ∷ []) source) at e.life.index
  pub others : OthersThanList sizes past e source
  pub graph : graph_of (past ++ e ∷ []) ≡ graph_of past

-- the list of a vertex is closed at its head, and the graph stays
pub record ClosesList (sizes : Sizes) (past : List Event) (e : Event) : Type 0 where
  pub chain : SetsMark (edge_chain sizes past e.life.index) (edge_chain sizes (past ++ e ∷ []) e.life.index) Head
  pub others : OthersThanList sizes past e e.life.index
  pub graph : graph_of (past ++ e ∷ []) ≡ graph_of past

-- the edge to which the frozen part of a list leads is frozen, and the graph stays
pub record FreezesEdge (sizes : Sizes) (past : List Event) (e : Event) : Type 0 where
  pub source : ℕ
  pub of_source : source ≡ (node_in sizes past e.life.index).source.index
  pub end : ChainWord
  pub chain : Freezes (edge_chain sizes past source) (edge_chain sizes (past ++ e ∷ []) source) end e.life.index
  pub others : OthersThanList sizes past e source
  pub graph : graph_of (past ++ e ∷ []) ≡ graph_of past

-- the chains of all buckets stay as they are, all lists of edges that aren't frozen to their end, and the graph too
pub record ChangesNone (sizes : Sizes) (past : List Event) (e : Event) : Type 0 where
  pub buckets : (j : ℕ) → j < sizes.buckets
      → Untouched (bucket_chain sizes past j) (bucket_chain sizes (past ++ e ∷ []) j)
  pub lists : (x : ℕ) → HasList sizes past x → Untouched (edge_chain sizes past x) (edge_chain sizes (past ++ e ∷ []) x)
  pub graph : graph_of (past ++ e ∷ []) ≡ graph_of past

-- the effect of each kind
abbrev pub EffectAs : Kind → Sizes → List Event → Event → Type 0
EffectAs LinkVertex sizes past e = AddsVertex sizes past e
EffectAs MarkVertex sizes past e = RemovesVertex sizes past e
EffectAs UnlinkVertex sizes past e = UnlinksVertex sizes past e
EffectAs LinkEdge sizes past e = AddsEdge sizes past e
EffectAs MarkEdge sizes past e = RemovesEdge sizes past e
EffectAs ReplaceEdge sizes past e = ReplacesEdge sizes past e
EffectAs UnlinkEdge sizes past e = UnlinksEdge sizes past e
EffectAs FreezeHead sizes past e = ClosesList sizes past e
EffectAs FreezeEdge sizes past e = FreezesEdge sizes past e
EffectAs DrawNumber sizes past e = ChangesNone sizes past e
EffectAs PopFree sizes past e = ChangesNone sizes past e
EffectAs StorePrivate sizes past e = ChangesNone sizes past e
EffectAs Raise sizes past e = ChangesNone sizes past e
EffectAs Announce sizes past e = ChangesNone sizes past e
EffectAs Withdraw sizes past e = ChangesNone sizes past e
EffectAs MoveEpoch sizes past e = ChangesNone sizes past e
EffectAs StoreFree sizes past e = ChangesNone sizes past e
EffectAs PushFree sizes past e = ChangesNone sizes past e
