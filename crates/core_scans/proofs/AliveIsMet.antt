-- A vertex whose link shows that it's alive was met by an open pass.
use Rattle.std.proofs.Common.{◌≡◌, ℕ, true, Some, sym, ◌∙◌}
use Rattle.packed_link.specs.Link.{mark_of, tag_of}
use Rattle.packed_link.specs.Layout.{IsLayout, link_at}
use Rattle.packed_link.specs.declared.link.Life.{Life}
use Rattle.core_journal.specs.GraphOf.{present_key}
use Rattle.core_journal.specs.Life.{key_of}
use Rattle.core_journal.specs.Machine.{word_at}
use Rattle.core_journal.specs.Reuse.{pass_in}
use Rattle.core_journal.specs.State.{Linked}
use Rattle.core_kept.specs.Kept.{IsKept}
use Rattle.core_kept.specs.Nodes.{node_in}
use Rattle.core_rule.specs.Fronts.{MetVertex, key_in}
use Rattle.core_rule.specs.declared.view.View.{View}
use Rattle.core_lists.proofs.LinkTellsPresence.{alive, key_there}
use Rattle.core_lists.proofs.OneVertexOfKey.{present_live}
use Rattle.core_rule.proofs.ViewShows.{key_shown}
use Rattle.core_scans.proofs.FrontsKeepLives.{some_is}

pub alive_met : (v : View) → IsLayout v.sizes → IsKept v.sizes v.front
    → (pass_in v.sizes v.front v.number).is_open ≡ true → (x : Life) (k : ℕ) → key_of v.front x ≡ Some k
    → tag_of (word_at v.sizes v.front (link_at v.sizes x.index)) ≡ x.tag
    → mark_of (word_at v.sizes v.front (link_at v.sizes x.index)) ≡ 0
    → MetVertex v x × (key_in v x.index ≡ k) × (present_key v.front x ≡ Some k)
alive_met v z kept open_ x k linked tag live =
    let here = alive v.sizes z v.front kept x k linked tag live in
    let p = present_live v.sizes z v.front kept x k here in
    let linked_now : (node_in v.sizes v.front x.index).mode ≡ Linked = p.linked in
    let m : MetVertex v x = record {
      life = record { there = key_there v.sizes v.front kept x k linked; tag = p.life };
      met = record { pass = open_; free = λ f. absurd (cc); fresh = λ f. absurd (cc); spent = λ f. absurd (cc) };
      vertex = p.vertex;
    } in
    (m, some_is (key_in v x.index) k (sym (key_shown v z kept x m) ∙ linked), here)
