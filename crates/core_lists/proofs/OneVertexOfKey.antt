-- A present vertex is on the chain of its bucket, and no other is of its key.
use Rattle.std.proofs.Common.{◌≡◌, ℕ, ◌%◌, Bool, true, false, List, Some, refl, sym, ap, ◌∙◌, subst, arith}
use Rattle.packed_link.specs.Layout.{Sizes, IsLayout}
use Rattle.packed_link.specs.declared.link.Life.{Life}
use Rattle.core_chain.specs.Chain.{Next}
use Rattle.core_journal.specs.declared.event.Event.{Event}
use Rattle.core_journal.specs.GraphOf.{present_key}
use Rattle.core_journal.specs.Life.{key_of, vertex_marked, unlinked}
use Rattle.core_journal.specs.State.{state}
use Rattle.core_journal.proofs.LivesOf.{present_is}
use Rattle.core_kept.specs.Kept.{IsKept}
use Rattle.core_kept.specs.Nodes.{node_in, IsUsed}
use Rattle.core_lists.specs.Chains.{IsVertexOf, IsInBucket}
use Rattle.core_lists.proofs.BucketChains.{is_in, in_is, key_word, home_low, buckets}
use Rattle.core_kept.proofs.LinkedVertices.{IsLiveVertex, linked_stays, live_vertices}
use Rattle.core_kept.proofs.Named.{life_is, named}
use Rattle.core_kept.proofs.NodesInPlace.{used_there}

same_node : (x y : ℕ) → Next x ≡ Next y → x ≡ y
same_node x y e = cc

module _ (sizes : Sizes) (z : IsLayout sizes) (journal : List Event) (kept : IsKept sizes journal) where
  -- a life on the chain of a bucket was linked as a vertex of the bucket, and not unlinked
  pub vertex_of : (j : ℕ) (x : Life) → IsInBucket sizes journal j x → IsVertexOf sizes journal j x
  vertex_of j x h =
      let v = is_in sizes (state sizes journal) j x.index h.on in
      let key = ((named sizes z journal kept).each x.index h.there).vertex_key
      (subst IsUsed (sym v.linked) tt) v.vertex in
      record {
        key = (node_in sizes journal x.index).key;
        key_is = ap (key_of journal) (life_is x x.index (node_in sizes journal x.index).tag refl h.life) ∙ key;
        of_bucket = v.of_bucket;
        stays = linked_stays sizes z journal kept x h.life v.linked;
      }

  -- the life of a linked vertex is on the chain of its bucket
  live_in : (j : ℕ) (x : Life) (k : ℕ) → IsLiveVertex (node_in sizes journal x.index) x.tag k → k % sizes.buckets ≡ j
      → IsInBucket sizes journal j x
  live_in j x k v of = record {
    there = used_there sizes journal x.index kept (λ f. let m = v.linked in absurd (cc));
    life = v.life;
    on = in_is sizes (state sizes journal) j x.index record {
      linked = v.linked;
      vertex = v.vertex;
      of_bucket = ap
          (λ (y : ℕ). y % sizes.buckets) v.key_is ∙ of;
    };
  }

  -- and the other way round
  pub in_bucket : (j : ℕ) (x : Life) → IsVertexOf sizes journal j x → IsInBucket sizes journal j x
  in_bucket j x h = live_in j x h.key ((live_vertices sizes z journal kept).live x h.key h.key_is h.stays) h.of_bucket

  -- a present vertex isn't unlinked, so it's a linked node of its key
  pub present_live : (x : Life) (k : ℕ) → present_key journal x ≡ Some k → IsLiveVertex
      (node_in sizes journal x.index) x.tag k
  present_live x k h = let p = present_is journal x k h in by p.0 p.1 (unlinked journal x) refl
    where
      by : vertex_marked journal x ≡ false → key_of journal x ≡ Some k → (b : Bool) → unlinked journal x ≡ b
          → IsLiveVertex (node_in sizes journal x.index) x.tag k
      by mark key false u = (live_vertices sizes z journal kept).live x k key u
      by mark key true u = let t = (live_vertices sizes z journal kept).ended x k key u in absurd (cc)

  -- it's on the chain of its key's bucket
  pub present_in : (x : Life) (k : ℕ) → present_key journal x ≡ Some k → IsInBucket sizes journal (k % sizes.buckets) x
  present_in x k h = live_in (k % sizes.buckets) x k (present_live x k h) refl

  -- two present vertices of one key are one
  pub one_present : (x y : Life) (k : ℕ) → present_key journal x ≡ Some k → present_key journal y ≡ Some k → x ≡ y
  one_present x y k h g =
      let j : ℕ = k % sizes.buckets in
      let v = present_live x k h in
      let u = present_live y k g in
      let a = present_in x k h in
      let b = present_in y k g in
      let key_x = key_word sizes z journal kept x.index j (is_in sizes (state sizes journal) j x.index a.on)
      ∙ v.key_is in
      let key_y = key_word sizes z journal kept y.index j (is_in sizes (state sizes journal) j y.index b.on)
      ∙ u.key_is in
      let same : x.index ≡ y.index = same_node x.index y.index
      (((buckets sizes z journal kept).each j (home_low sizes z journal kept k)).chain.alone (Next x.index)
      (Next y.index) a.on b.on (omega (arith, key_x, key_y)) refl) in
      let tags : x.tag ≡ y.tag = v.life ∙ (ap (λ (i : ℕ). (node_in sizes journal i).tag) same ∙ sym u.life) in
      λ i. record { index = same i; tag = tags i }
