-- The chain of a bucket as a walk for a key goes along it.
use Rattle.std.proofs.Common.{◌≡◌, ◌≢◌, ℕ, ◌-◌, ◌%◌, ◌<◌, ◌≤◌, inl, inr, refl, sym, ap, ◌∙◌, subst, arith, ⊎_elim}
use Rattle.packed_link.specs.Link.{index_of, mark_of, nowhere}
use Rattle.packed_link.specs.Layout.{Sizes, IsLayout, bucket_at, key_at, link_at}
use Rattle.packed_link.specs.declared.link.Life.{Life}
use Rattle.core_journal.specs.Machine.{word_at}
use Rattle.core_kept.specs.Kept.{IsKept}
use Rattle.core_lists.specs.Chains.{life_in}
use Rattle.core_rule.specs.Fronts.{IsBeforeVertex, IsVertexBelow, MetVertex, key_in}
use Rattle.core_rule.specs.Stretches.{HasPass}
use Rattle.core_rule.specs.Views.{GoesOn, IsVertexIn, IsVertexBehind}
use Rattle.core_rule.specs.declared.view.View.{View}
use Rattle.core_rule.proofs.PassedKeys.{passed_vertex}
use Rattle.core_rule.proofs.ViewShows.{before_vertex_still, head_shown, key_still, vertex_link_shown, vertex_still}
use Rattle.core_stretches.specs.Moments.{Lacks}
use Rattle.core_stretches.proofs.WordsLeadOn.{WordLaws, WalkLaws, IsCountedWord, low_at, low_link, low_else, goes_sizes}

-- a life that was met is that of its node still
pub vertex_life_still : (v w : View) → IsLayout v.sizes → GoesOn v w → (x : ℕ) → MetVertex v (life_in v.sizes v.front x)
    → MetVertex w (life_in w.sizes w.front x)
vertex_life_still v w z g x m =
    let h = vertex_still v w z g (life_in v.sizes v.front x) m in
    let same : life_in v.sizes v.front x ≡ life_in w.sizes w.front x = ap
    (λ (t : ℕ). record { index = x; tag = t }) h.life.tag in
    subst (MetVertex w) same h

-- the link of a vertex that was met leads to none, or to a vertex of a greater key
pub link_leads : (v : View) → IsLayout v.sizes → IsKept v.sizes v.front → (x : Life) → MetVertex v x → index_of
    (word_at v.sizes v.front (link_at v.sizes x.index)) ≢ nowhere → IsVertexBehind v x
    (index_of (word_at v.sizes v.front (link_at v.sizes x.index)))
link_leads v z kept x m some = ⊎_elim
    (λ (none : index_of (word_at v.sizes v.front (link_at v.sizes x.index)) ≡ nowhere). absurd (some none))
    (λ (h : IsVertexBehind v x (index_of (word_at v.sizes v.front (link_at v.sizes x.index)))). h)
    (vertex_link_shown v z kept x m)

-- a vertex of the bucket of a key
abbrev pub IsInBucketOf : ℕ → View → ℕ → Type 0
IsInBucketOf key v x = IsVertexIn v (key % v.sizes.buckets) x

-- a word behind which a vertex of this key may stand
abbrev pub IsBefore : ℕ → View → ℕ → Type 0
IsBefore key v place = IsBeforeVertex v key place

module _ (key : ℕ) where
  bucket_still : (v w : View) → IsLayout v.sizes → GoesOn v w → (x : ℕ) → IsInBucketOf key v x → IsInBucketOf key w x
  bucket_still v w z g x h =
      let same = key_still v w z g x h.met.life.there h.met.met in
      record {
        met = vertex_life_still v w z g x h.met;
        of_bucket = subst (λ (y : Sizes). key_in w x % y.buckets ≡ key % y.buckets) (sym (goes_sizes v w g))
            (ap (λ (k : ℕ). k % v.sizes.buckets) same ∙ h.of_bucket);
      }

  before_counted : (v : View) → IsLayout v.sizes → (place : ℕ) → IsBefore key v place → IsCountedWord v place
  before_counted v z place before = ⊎_elim
      (λ (b : place ≡ bucket_at v.sizes (key % v.sizes.buckets)). inl
      (key % v.sizes.buckets, omega (arith, z.some_buckets), b))
      (λ (b : (x : Life) × IsVertexBelow v key place x). inr (
        b.0.index,
        1,
        omega arith,
        b.1.met.met,
        b.1.place_is
            ∙ omega arith,
      ))
      before

  before_leads : (v : View) → IsLayout v.sizes → IsKept v.sizes v.front → HasPass v → (place : ℕ) → IsBefore key v place
      → index_of (word_at v.sizes v.front place) ≢ nowhere →
      IsInBucketOf key v (index_of (word_at v.sizes v.front place))
  before_leads v z kept opened place before some = ⊎_elim
      (λ (b : place ≡ bucket_at v.sizes (key % v.sizes.buckets)).
      subst (λ (i : ℕ). IsInBucketOf key v (index_of (word_at v.sizes v.front i))) (sym b)
      (⊎_elim
      (λ (none : index_of (word_at v.sizes v.front (bucket_at v.sizes (key % v.sizes.buckets))) ≡ nowhere). absurd
      (some (ap (λ (i : ℕ). index_of (word_at v.sizes v.front i)) b ∙ none)))
      (λ (h : IsVertexIn v (key % v.sizes.buckets) (index_of (word_at v.sizes v.front
      (bucket_at v.sizes (key % v.sizes.buckets))))). h)
      (head_shown v z kept opened (key % v.sizes.buckets) (omega (arith, z.some_buckets)))))
      (λ (b : (x : Life) × IsVertexBelow v key place x).
      let k = link_leads v z kept b.0 b.1.met (λ none. some (ap
      (λ (i : ℕ). index_of (word_at v.sizes v.front i)) b.1.place_is ∙ none)) in
      subst (λ (i : ℕ). IsInBucketOf key v (index_of (word_at v.sizes v.front i))) (sym b.1.place_is)
      (record { met = k.met; of_bucket = k.bucket ∙ b.1.bucket }))
      before

  pub vertex_words : WordLaws (IsInBucketOf key) (IsBefore key)
  vertex_words = record {
    there = λ v x h. h.met.life.there;
    has = λ v x h. h.met.met;
    still = bucket_still;
    stands = λ v w z g place h. before_vertex_still v w z g key place h;
    counted = before_counted;
    leads = before_leads;
  }

  before_low : (v : View) → IsLayout v.sizes → (place : ℕ) → IsBefore key v place → low_at v.sizes v.front place ≤ key
  before_low v z place before = ⊎_elim
      (λ (b : place ≡ bucket_at v.sizes (key % v.sizes.buckets)).
      let low : key % v.sizes.buckets < v.sizes.buckets = omega (arith, z.some_buckets) in
      let field : (place - key_at v.sizes 0) % 4 ≡ 0 = omega (arith, b, low) in
      omega (arith, low_else v.sizes v.front place 0 field refl))
      (λ (b : (x : Life) × IsVertexBelow v key place x).
      let same = low_link v.sizes v.front b.0.index in
      let below = b.1.below in
      subst (λ (i : ℕ). low_at v.sizes v.front i ≤ key) (sym b.1.place_is)
      (subst (λ (n : ℕ). n ≤ key) (sym same) (omega (arith, below))))
      before

  before_rises : (v : View) → IsLayout v.sizes → IsKept v.sizes v.front → (place : ℕ) → IsBefore key v place → mark_of
      (word_at v.sizes v.front place) ≡ 0 → index_of (word_at v.sizes v.front place) ≢ nowhere
      → low_at v.sizes v.front place ≤ key_in v (index_of (word_at v.sizes v.front place))
  before_rises v z kept place before live some = ⊎_elim
      (λ (b : place ≡ bucket_at v.sizes (key % v.sizes.buckets)).
      let low : key % v.sizes.buckets < v.sizes.buckets = omega (arith, z.some_buckets) in
      let field : (place - key_at v.sizes 0) % 4 ≡ 0 = omega (arith, b, low) in
      omega (arith, low_else v.sizes v.front place 0 field refl))
      (λ (b : (x : Life) × IsVertexBelow v key place x).
      let k = link_leads v z kept b.0 b.1.met (λ none. some (ap
      (λ (i : ℕ). index_of (word_at v.sizes v.front i)) b.1.place_is ∙ none)) in
      let same = low_link v.sizes v.front b.0.index in
      let rising = k.rising in
      subst (λ (i : ℕ). low_at v.sizes v.front i ≤ key_in v (index_of (word_at v.sizes v.front i))) (sym b.1.place_is)
      (subst (λ (n : ℕ). n ≤ key_in v (index_of (word_at v.sizes v.front (link_at v.sizes b.0.index)))) (sym same)
      (omega (arith, rising))))
      before

  before_absent : (v : View) → IsLayout v.sizes → IsKept v.sizes v.front → HasPass v → (place : ℕ)
      → IsBefore key v place → mark_of (word_at v.sizes v.front place) ≡ 0 →
      (index_of (word_at v.sizes v.front place) ≢ nowhere → key < key_in v (index_of (word_at v.sizes v.front place)))
      → Lacks key v.front
  before_absent v z kept opened place before live above = record {
    none = passed_vertex v z kept key place before live
        (λ some. record {
          life = life_in v.sizes v.front (index_of (word_at v.sizes v.front place));
          is = refl;
          met =
              (before_leads v z kept opened place before some).met;
          above = above some;
        });
  }

  pub vertex_walks : WalkLaws key (IsInBucketOf key) (IsBefore key) (Lacks key)
  vertex_walks = record {
    words = vertex_words;
    low = before_low;
    rises = before_rises;
    behind = λ v x h below. inr (
      life_in v.sizes v.front x,
      record
          { met = h.met; place_is = refl; below = below; bucket = h.of_bucket },
    );
    absent = before_absent;
  }
