-- A vertex that was linked at a moment and is alive later was present then.
use Rattle.std.proofs.Common.{◌≡◌, ℕ, Bool, true, cond, List, Some, None, ap, ◌∙◌}
use Rattle.graph_kinds.specs.Graph.{has}
use Rattle.packed_link.specs.Link.{mark_of, tag_of}
use Rattle.packed_link.specs.Layout.{Sizes, IsLayout, link_at}
use Rattle.packed_link.specs.declared.link.Life.{Life}
use Rattle.core_journal.specs.declared.event.Event.{Event}
use Rattle.core_journal.specs.GraphOf.{graph_of, present_key}
use Rattle.core_journal.specs.Life.{key_of}
use Rattle.core_journal.specs.Machine.{word_at}
use Rattle.core_journal.specs.Prefix.{IsPrefix}
use Rattle.core_journal.proofs.LivesOf.{present_is, key_of_life}
use Rattle.core_kept.specs.Kept.{IsKept}
use Rattle.core_lists.proofs.LinkTellsPresence.{alive}
use Rattle.core_scans.proofs.FrontsKeepLives.{key_on, unmarked_back}

pub present_before : (sizes : Sizes) → IsLayout sizes → (front last : List Event) → IsPrefix front last
    → IsKept sizes last → (x : Life) (k : ℕ) → key_of front x ≡ Some k
    → tag_of (word_at sizes last (link_at sizes x.index)) ≡ x.tag
    → mark_of (word_at sizes last (link_at sizes x.index)) ≡ 0 → (present_key front x ≡ Some k)
    × (has (graph_of front) k ≡ true)
present_before sizes z front last p kept x k linked tag live =
    let later = alive sizes z last kept x k (key_on front last p x k linked) tag live in
    let unmarked = unmarked_back front last p x (present_is last x k later).0 in
    let here : present_key front x ≡ Some k = ap (λ (b : Bool). cond b None (key_of front x)) unmarked ∙ linked in
    (here, key_of_life front x k here)
