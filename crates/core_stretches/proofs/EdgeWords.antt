-- The list of a source as a walk for a key goes along it, where the source was met. Two neighbours may have one key,
-- but
-- only where the link of the first is marked, and a walk goes on from unmarked words alone.
use Rattle.std.proofs.Common.{◌≡◌, ◌≢◌, ℕ, ◌-◌, ◌%◌, ◌<◌, ◌≤◌, inr, refl, sym, ap, ◌∙◌, subst, arith, ⊎_elim}
use Rattle.packed_link.specs.Link.{index_of, mark_of, nowhere}
use Rattle.packed_link.specs.Layout.{IsLayout, key_at, link_at, second_at}
use Rattle.packed_link.specs.declared.link.Life.{Life}
use Rattle.core_journal.specs.Machine.{word_at}
use Rattle.core_kept.specs.Kept.{IsKept}
use Rattle.core_lists.specs.Chains.{life_in}
use Rattle.core_rule.specs.Fronts.{IsBeforeEdge, IsEdgeBelow, MetEdge, MetVertex, key_in}
use Rattle.core_rule.specs.Stretches.{HasPass}
use Rattle.core_rule.specs.Views.{GoesOn, IsEdgeIn, IsEdgeBehind}
use Rattle.core_rule.specs.declared.view.View.{View}
use Rattle.core_rule.proofs.PassedKeys.{passed_edge}
use Rattle.core_rule.proofs.ViewShows.{before_edge_still, edge_link_shown, edge_still, list_shown, vertex_still}
use Rattle.core_stretches.specs.Moments.{LacksEdge}
use Rattle.core_stretches.proofs.WordsLeadOn.{WordLaws, WalkLaws, IsCountedWord, low_at, low_link, low_else}

-- a life that was met is that of its node still
pub edge_life_still : (source : Life) (v w : View) → IsLayout v.sizes → GoesOn v w → (x : ℕ) → IsEdgeIn v source x
    → IsEdgeIn w source x
edge_life_still source v w z g x m =
    let h = edge_still v w z g source (life_in v.sizes v.front x) m in
    let same : life_in v.sizes v.front x ≡ life_in w.sizes w.front x = ap
    (λ (t : ℕ). record { index = x; tag = t }) h.life.tag in
    subst (MetEdge w source) same h

-- the link of an edge that was met leads to none, or to an edge behind it
pub edge_link_leads : (v : View) → IsLayout v.sizes → IsKept v.sizes v.front → (source x : Life) → MetEdge v source x
    → index_of (word_at v.sizes v.front (link_at v.sizes x.index)) ≢ nowhere → IsEdgeBehind v source x
    (index_of (word_at v.sizes v.front (link_at v.sizes x.index)))
edge_link_leads v z kept source x m some = ⊎_elim
    (λ (none : index_of (word_at v.sizes v.front (link_at v.sizes x.index)) ≡ nowhere). absurd (some none))
    (λ (h : IsEdgeBehind v source x (index_of (word_at v.sizes v.front (link_at v.sizes x.index)))). h)
    (edge_link_shown v z kept source x m)

-- an edge of a source that was met
abbrev pub IsOfSource : Life → View → ℕ → Type 0
IsOfSource source v x = MetVertex v source × IsEdgeIn v source x

-- a word behind which an edge of this source and key may stand
abbrev pub IsBeforeOf : Life → ℕ → View → ℕ → Type 0
IsBeforeOf source key v place = MetVertex v source × IsBeforeEdge v source key place

module _ (source : Life) (key : ℕ) where
  before_counted : (v : View) → IsLayout v.sizes → (place : ℕ) → IsBeforeOf source key v place → IsCountedWord v place
  before_counted v z place (met, before) = ⊎_elim
      (λ (b : place ≡ second_at v.sizes source.index). inr (source.index, 2, omega arith, met.met, b ∙ omega arith))
      (λ (b : (x : Life) × IsEdgeBelow v source key place x). inr
      (b.0.index, 1, omega arith, b.1.met.met, b.1.place_is ∙ omega arith))
      before

  before_leads : (v : View) → IsLayout v.sizes → IsKept v.sizes v.front → HasPass v → (place : ℕ)
      → IsBeforeOf source key v place → index_of (word_at v.sizes v.front place) ≢ nowhere → IsOfSource source v
      (index_of (word_at v.sizes v.front place))
  before_leads v z kept opened place (met, before) some = ⊎_elim
      (λ (b : place ≡ second_at v.sizes source.index).
      subst (λ (i : ℕ). IsOfSource source v (index_of (word_at v.sizes v.front i))) (sym b)
      (⊎_elim
      (λ (none : index_of (word_at v.sizes v.front (second_at v.sizes source.index)) ≡ nowhere). absurd
      (some (ap (λ (i : ℕ). index_of (word_at v.sizes v.front i)) b ∙ none)))
      (λ (h : IsEdgeIn v source (index_of (word_at v.sizes v.front (second_at v.sizes source.index)))). (met, h))
      (list_shown v z kept source met)))
      (λ (b : (x : Life) × IsEdgeBelow v source key place x).
      let k = edge_link_leads v z kept source b.0 b.1.met (λ none. some
      (ap (λ (i : ℕ). index_of (word_at v.sizes v.front i)) b.1.place_is ∙ none)) in
      subst (λ (i : ℕ). IsOfSource source v (index_of (word_at v.sizes v.front i))) (sym b.1.place_is) (met, k.met))
      before

  pub edge_words : WordLaws (IsOfSource source) (IsBeforeOf source key)
  edge_words = record {
    there = λ v x h. h.1.life.there;
    has = λ v x h. h.1.met;
    still = λ v w z g x h. (vertex_still v w z g source h.0, edge_life_still source v w z g x h.1);
    stands = λ v w z g place h. (vertex_still v w z g source h.0, before_edge_still v w z g source key place h.1);
    counted = before_counted;
    leads = before_leads;
  }

  before_low : (v : View) → IsLayout v.sizes → (place : ℕ) → IsBeforeOf source key v place
      → low_at v.sizes v.front place ≤ key
  before_low v z place (met, before) = ⊎_elim
      (λ (b : place ≡ second_at v.sizes source.index).
      let field : (place - key_at v.sizes 0) % 4 ≡ 2 = omega (arith, b) in
      omega (arith, low_else v.sizes v.front place 2 field refl))
      (λ (b : (x : Life) × IsEdgeBelow v source key place x).
      let same = low_link v.sizes v.front b.0.index in
      let below = b.1.below in
      subst (λ (i : ℕ). low_at v.sizes v.front i ≤ key) (sym b.1.place_is)
      (subst (λ (n : ℕ). n ≤ key) (sym same) (omega (arith, below))))
      before

  before_rises : (v : View) → IsLayout v.sizes → IsKept v.sizes v.front → (place : ℕ) → IsBeforeOf source key v place
      → mark_of (word_at v.sizes v.front place) ≡ 0 → index_of (word_at v.sizes v.front place) ≢ nowhere
      → low_at v.sizes v.front place ≤ key_in v (index_of (word_at v.sizes v.front place))
  before_rises v z kept place (met, before) live some = ⊎_elim
      (λ (b : place ≡ second_at v.sizes source.index).
      let field : (place - key_at v.sizes 0) % 4 ≡ 2 = omega (arith, b) in
      omega (arith, low_else v.sizes v.front place 2 field refl))
      (λ (b : (x : Life) × IsEdgeBelow v source key place x).
      let k = edge_link_leads v z kept source b.0 b.1.met (λ none. some
      (ap (λ (i : ℕ). index_of (word_at v.sizes v.front i)) b.1.place_is ∙ none)) in
      let same = low_link v.sizes v.front b.0.index in
      let rising = k.strictly (ap (λ (i : ℕ). mark_of (word_at v.sizes v.front i)) (sym b.1.place_is) ∙ live) in
      subst (λ (i : ℕ). low_at v.sizes v.front i ≤ key_in v (index_of (word_at v.sizes v.front i))) (sym b.1.place_is)
      (subst (λ (n : ℕ). n ≤ key_in v (index_of (word_at v.sizes v.front (link_at v.sizes b.0.index)))) (sym same)
      (omega (arith, rising))))
      before

  before_absent : (v : View) → IsLayout v.sizes → IsKept v.sizes v.front → HasPass v → (place : ℕ)
      → IsBeforeOf source key v place → mark_of (word_at v.sizes v.front place) ≡ 0 →
      (index_of (word_at v.sizes v.front place) ≢ nowhere → key < key_in v (index_of (word_at v.sizes v.front place)))
      → LacksEdge source key v.front
  before_absent v z kept opened place before live above = record {
    none = passed_edge v z kept source key place before.1 live
        (λ some. record {
          life = life_in v.sizes v.front (index_of (word_at v.sizes v.front place));
          is = refl;
          met =
              (before_leads v z kept opened place before some).1;
          above = above some;
        });
  }

  pub edge_walks : WalkLaws key (IsOfSource source) (IsBeforeOf source key) (LacksEdge source key)
  edge_walks = record {
    words = edge_words;
    low = before_low;
    rises = before_rises;
    behind = λ v x h below. (
      h.0,
      inr (
        life_in v.sizes v.front x,
        record
            { met = h.1; place_is = refl; below = below },
      ),
    );
    absent = before_absent;
  }
