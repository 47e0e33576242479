-- The journals of the core: each event was allowed after those before it. One condition a kind, over the journal alone.
use Rattle.std.specs.Prelude.{◌≡◌, ◌≢◌, ℕ, ◌<◌, ◌≤◌, false, List, [], ◌∷◌, ◌++◌, Some, slice_get}
use Rattle.packed_link.specs.Layout.{Sizes}
use Rattle.core_journal.specs.Event.{draws}
use Rattle.core_journal.specs.declared.event.Kind.{Kind}
use Rattle.core_journal.specs.declared.event.Kind.TheVariants.{DrawNumber, PopFree, StorePrivate, LinkVertex}
use Rattle.core_journal.specs.declared.event.Kind.TheVariants.{MarkVertex, UnlinkVertex, LinkEdge, Raise, MarkEdge}
use Rattle.core_journal.specs.declared.event.Kind.TheVariants.{UnlinkEdge, ReplaceEdge, Announce, Withdraw, MoveEpoch}
use Rattle.core_journal.specs.declared.event.Kind.TheVariants.{FreezeHead}
use Rattle.core_journal.specs.declared.event.Kind.TheVariants.{FreezeEdge, StoreFree, PushFree}
use Rattle.core_journal.specs.declared.event.Event.{Event}
use Rattle.core_journal.specs.State.{state}
use Rattle.core_kept.specs.Passes.{IsDrawNumber, IsAnnounce, IsWithdraw, IsMoveEpoch}
use Rattle.core_kept.specs.FreeNodes.{IsPopFree, IsStorePrivate, IsStoreFree, IsPushFree}
use Rattle.core_kept.specs.Vertices.{IsLinkVertex, IsMarkVertex, IsUnlinkVertex}
use Rattle.core_kept.specs.Edges.{IsLinkEdge, IsRaise, IsMarkEdge, IsUnlinkEdge, IsReplaceEdge}
use Rattle.core_kept.specs.Freezing.{IsFreezeHead, IsFreezeEdge}

-- the condition of each kind
abbrev pub AllowedAs : Kind → Sizes → List Event → Event → Type 0
AllowedAs DrawNumber sizes past e = IsDrawNumber sizes past e
AllowedAs PopFree sizes past e = IsPopFree sizes past e
AllowedAs StorePrivate sizes past e = IsStorePrivate sizes past e
AllowedAs LinkVertex sizes past e = IsLinkVertex sizes past e
AllowedAs MarkVertex sizes past e = IsMarkVertex sizes past e
AllowedAs UnlinkVertex sizes past e = IsUnlinkVertex sizes past e
AllowedAs LinkEdge sizes past e = IsLinkEdge sizes past e
AllowedAs Raise sizes past e = IsRaise sizes past e
AllowedAs MarkEdge sizes past e = IsMarkEdge sizes past e
AllowedAs UnlinkEdge sizes past e = IsUnlinkEdge sizes past e
AllowedAs ReplaceEdge sizes past e = IsReplaceEdge sizes past e
AllowedAs Announce sizes past e = IsAnnounce sizes past e
AllowedAs Withdraw sizes past e = IsWithdraw sizes past e
AllowedAs MoveEpoch sizes past e = IsMoveEpoch sizes past e
AllowedAs FreezeHead sizes past e = IsFreezeHead sizes past e
AllowedAs FreezeEdge sizes past e = IsFreezeEdge sizes past e
AllowedAs StoreFree sizes past e = IsStoreFree sizes past e
AllowedAs PushFree sizes past e = IsPushFree sizes past e

-- an event is allowed next: by its kind, and by a caller that has drawn its number, where it isn't itself that draw
pub record Allowed (sizes : Sizes) (past : List Event) (e : Event) : Type 0 where
  pub by : draws e.kind ≡ false → e.caller < (state sizes past).drawn
  pub as_kind : AllowedAs e.kind sizes past e

-- each of these events was allowed after the past and those before it
abbrev pub KeptFrom : Sizes → List Event → List Event → Type 0
KeptFrom sizes past [] = Unit {0}
KeptFrom sizes past (e ∷ es) = Allowed sizes past e × KeptFrom sizes (past ++ e ∷ []) es

-- each event was allowed after those before it
pub record IsKept (sizes : Sizes) (journal : List Event) : Type 0 where
  pub steps : KeptFrom sizes [] journal

-- no event of this caller stands at or after a length
pub record IsQuiet (journal : List Event) (caller last : ℕ) : Type 0 where
  pub none : (k : ℕ) (e : Event) → last ≤ k → slice_get journal k ≡ Some e → e.caller ≢ caller
