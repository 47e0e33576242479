-- The source and the target of an edge were linked before the event that linked the edge.
use Rattle.std.proofs.Common.{◌≡◌, ◌≢◌, ℕ, true, List, Some, None}
use Rattle.std.specs.Prelude.{slice_get, take}
use Rattle.packed_link.specs.Layout.{Sizes, IsLayout}
use Rattle.core_journal.specs.declared.event.Event.{Event}
use Rattle.core_journal.specs.Event.{links_edge}
use Rattle.core_journal.specs.Life.{key_of}
use Rattle.core_journal.proofs.Lists.{prefix_take}
use Rattle.core_kept.specs.Kept.{IsKept}
use Rattle.core_kept.proofs.Induction.{allowed_at, kept_front}
use Rattle.core_kept.proofs.EdgeEnds.{end_keys, ends_linked}

pub ends_before : (sizes : Sizes) → IsLayout sizes → (journal : List Event) → IsKept sizes journal → (k : ℕ)
    (link : Event) → slice_get journal k ≡ Some link → links_edge link.kind ≡ true
    → (key_of (take k journal) link.source ≢ None) × (key_of (take k journal) link.target ≡ Some link.key)
ends_before sizes z journal kept k link at is =
    let past = kept_front sizes (take k journal) journal (prefix_take journal k) kept in
    end_keys sizes z (take k journal) link past (ends_linked sizes z (take k journal) past) link.kind is
    (allowed_at sizes journal k link kept at).as_kind
