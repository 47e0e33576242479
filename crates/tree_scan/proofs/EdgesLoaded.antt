-- What the words of an edge tell that were loaded one after another.
use Rattle.std.proofs.Common.{◌≡◌, ℕ, ◌<◌, ◌≤◌, ◌^◌, [], true, Some, None, inl, inr, ⊎_elim, sym, ap, ap₂, ◌∙◌, subst}
use Rattle.packed_link.specs.Link.{index_of, tag_of}
use Rattle.packed_link.specs.Layout.{IsLayout, Sizes, key_at, link_at, second_at, third_at}
use Rattle.packed_link.specs.declared.link.Life.{Life}
use Rattle.core_journal.specs.declared.event.Event.{Event}
use Rattle.core_journal.specs.Life.{key_of, link_of}
use Rattle.core_journal.specs.Machine.{word_at}
use Rattle.core_kept.proofs.Contents.{contents}
use Rattle.core_kept.proofs.MetWords.{met_used}
use Rattle.core_kept.specs.Kept.{IsKept}
use Rattle.core_rule.specs.Fronts.{MetEdge, key_in}
use Rattle.core_rule.specs.Plays.{Looked}
use Rattle.core_rule.specs.Views.{GoesOn, IsEdgeBehind}
use Rattle.core_rule.specs.declared.view.View.{View}
use Rattle.core_rule.proofs.ShownTargets.{edge_words_still, target_shown}
use Rattle.core_rule.proofs.ViewShows.{edge_link_shown, edge_shown, edge_still, goes_further, key_still, life_shown}
use Rattle.core_scans.proofs.FrontsKeepLives.{some_is}
use Rattle.core_stretches.proofs.MakesAddUp.{makes_look}
use Rattle.core_stretches.proofs.MakesTell.{makes_goes}
use Rattle.core_stretches.proofs.WordsLeadOn.{goes_sizes}
use Rattle.graph_table.specs.Tokens.{TableValue, TokenValue, IsOf}
use Rattle.tree_scan.specs.Collects.{IsEdgeTold, LeadsInside}

-- a word was loaded at a later view of the same pass
pub record HasLoaded (v w : View) (place found : ℕ) : Type 0 where
  pub goes : GoesOn v w
  pub word : found ≡ word_at v.sizes w.front place

pub first_loaded : (g : TableValue) (t m : TokenValue) (at place found : ℕ) → IsOf g t → t.view.numbered ≡ true
    → Looked t.view at found m.view → at ≡ place → HasLoaded t.view m.view place found
first_loaded g t m at place found of has l is = record {
  goes = makes_goes t.view m.view [] tt (makes_look t.view m.view at found has of.sound l);
  word = l.word ∙ ap (word_at t.view.sizes m.view.front) is;
}

pub then_loaded : (g : TableValue) (v : View) (t m : TokenValue) (at place found : ℕ) → IsOf g t → v.numbered ≡ true
    → GoesOn v t.view → Looked t.view at found m.view → at ≡ place → HasLoaded v m.view place found
then_loaded g v t m at place found of has goes l is =
    let on : t.view.numbered ≡ true = ap (λ (x : View). x.numbered) goes.view ∙ has in
    let h = first_loaded g t m at place found of on l is in
    record {
      goes = goes_further v t.view m.view goes h.goes;
      word = h.word ∙ ap (λ (s : Sizes). word_at s m.view.front place) (goes_sizes v t.view goes);
    }

-- the place of a word, by the sizes of the view
pub place_is : (f : Sizes → ℕ → ℕ) (place : ℕ) (layout sizes own : Sizes) (index x : ℕ) → place ≡ f layout index
    → layout ≡ sizes → own ≡ sizes → index ≡ x → place ≡ f own x
place_is f place layout sizes own index x at same of is = at ∙ ap₂ f (same ∙ sym of) is

module _ (v : View) (source x : Life) (z : IsLayout v.sizes) (m : MetEdge v source x) where
  pub key_told : (w : View) (found : ℕ) → HasLoaded v w (key_at v.sizes x.index) found → found ≡ key_in v x.index
  key_told w found h = h.word ∙ (ap (λ (s : Sizes). word_at s w.front (key_at s x.index)) (sym (goes_sizes v w h.goes))
      ∙ key_still v w z h.goes x.index m.life.there m.met)

  pub second_told : (w : View) (found : ℕ) → HasLoaded v w (second_at v.sizes x.index) found
      → found ≡ word_at v.sizes v.front (second_at v.sizes x.index)
  second_told w found h = h.word ∙ (ap (λ (s : Sizes). word_at s w.front (second_at s x.index))
      (sym (goes_sizes v w h.goes)) ∙ (edge_words_still v w z h.goes source x m).0)

  pub third_told : (w : View) (found : ℕ) → HasLoaded v w (third_at v.sizes x.index) found
      → found ≡ word_at v.sizes v.front (third_at v.sizes x.index)
  third_told w found h = h.word ∙ (ap (λ (s : Sizes). word_at s w.front (third_at s x.index))
      (sym (goes_sizes v w h.goes)) ∙ (edge_words_still v w z h.goes source x m).1)

  pub key_fits : IsKept v.sizes v.front → key_in v x.index < 2 ^ 32
  key_fits kept =
      let c = ((contents v.sizes z v.front kept).each x.index m.life.there).edge
      (met_used v.sizes v.front v.number x.index m.met) m.edge in
      subst (λ (k : ℕ). k < 2 ^ 32) (sym c.key_word) c.key_fits

  pub weight_fits : IsKept v.sizes v.front → word_at v.sizes v.front (third_at v.sizes x.index) < 2 ^ 32
  weight_fits kept =
      let s = edge_shown v z kept source x m in
      subst (λ (n : ℕ). n < 2 ^ 32) s.weight s.weight_fits

  -- the edge, at the view at which its link was loaded
  pub told : (w : View) (at index tag link key to weight target_index target_tag : ℕ) → x.index ≡ index_of at
      → index ≡ index_of at → tag ≡ tag_of link → key ≡ key_in v x.index
      → to ≡ word_at v.sizes v.front (second_at v.sizes x.index)
      → weight ≡ word_at v.sizes v.front (third_at v.sizes x.index)
      → HasLoaded v w (link_at v.sizes x.index) link → target_index ≡ index_of to → target_tag ≡ tag_of to
      → IsEdgeTold w at (record {
        row = record {
          life = record { index = index; tag = tag };
          link = link;
          key = key;
          weight = weight;
          target = None;
        };
        target = record { index = target_index; tag = target_tag };
      })
  told w at index tag link key to weight target_index target_tag is index_is tag_is key_is to_is weight_is h to_index
      to_tag =
      let sizes = goes_sizes v w h.goes in
      let y : IsLayout w.sizes = subst IsLayout (sym sizes) z in
      let kept = subst (λ (s : Sizes). IsKept s w.front) (sym sizes) h.goes.kept in
      let met = edge_still v w z h.goes source x m in
      let shown = edge_shown w y kept source x met in
      let aim = target_shown w y kept source x met in
      let same : index ≡ x.index = index_is ∙ sym is in
      let link_is : link ≡ word_at w.sizes w.front (link_at w.sizes x.index) = h.word
      ∙ ap (λ (s : Sizes). word_at s w.front (link_at s x.index)) (sym sizes) in
      let life_tag : tag ≡ x.tag = tag_is ∙ (ap tag_of link_is ∙ life_shown w y kept x met.life met.met) in
      let still = edge_words_still v w z h.goes source x m in
      let weight_now : weight ≡ word_at w.sizes w.front (third_at w.sizes x.index) = weight_is ∙ sym still.1 in
      let to_now : to ≡ word_at w.sizes w.front (second_at w.sizes x.index) = to_is ∙ sym still.0 in
      let key_now : key ≡ key_in w x.index = key_is ∙ sym (key_still v w z h.goes x.index m.life.there m.met) in
      let one : aim.link ≡ shown.link = some_is aim.link shown.link (sym aim.is ∙ shown.is) in
      let weighed : 1 ≤ weight = subst (λ (n : ℕ). 1 ≤ n) (shown.weight ∙ sym weight_now) shown.some in
      let target_is : (e : Event) → e ≡ aim.link → e.target ≡ record { index = target_index; tag = target_tag } =
      λ e is_aim. sym (ap₂ (λ (i t : ℕ). record { index = i; tag = t })
      (to_index ∙ (ap index_of to_now ∙ (aim.index ∙ ap (λ (f : Event). f.target.index) (sym is_aim))))
      (to_tag ∙ (ap tag_of to_now ∙ (aim.tag ∙ ap (λ (f : Event). f.target.tag) (sym is_aim))))) in
      record {
        loaded = record {
          index = index_is;
          link = link_is ∙ ap (λ (i : ℕ). word_at w.sizes w.front (link_at w.sizes i)) (sym same);
          tag = tag_is;
          key = key_now ∙ ap (key_in w) (sym same);
          weight = weight_now ∙ ap (λ (i : ℕ). word_at w.sizes w.front (third_at w.sizes i)) (sym same);
        };
        weighed = weighed;
        leads = subst (LeadsInside w.sizes) (sym link_is) (⊎_elim (λ n. inl n)
            (λ (b : IsEdgeBehind w source x (index_of (word_at w.sizes w.front (link_at w.sizes x.index)))).
            inr b.met.life.there) (edge_link_shown w y kept source x met));
        target = λ e linked. target_is e (some_is e aim.link (sym linked
            ∙ (ap₂ (λ (i t : ℕ). link_of w.front (record { index = i; tag = t })) same life_tag ∙ aim.is)));
        key = ap (key_of w.front) (sym (target_is shown.link (sym one)))
            ∙ (shown.target_key ∙ ap Some (shown.key ∙ sym key_now));
      }
