-- The first vertex of the only bucket is found, marked and unlinked.
use Rattle.std.proofs.Common.{◌≡◌, ◌≢◌, ℕ, ◌<◌, true, List, [], ◌∷◌, ◌++◌, inl, refl, sym, ap, ap₂, ◌∙◌, subst, arith}
use Rattle.std.proofs.Common.{⊎_elim}
use Rattle.packed_link.specs.Link.{index_of, mark_of, nowhere, tag_of}
use Rattle.packed_link.specs.Layout.{Sizes, IsLayout, bucket_at, link_at}
use Rattle.packed_link.specs.declared.link.Life.{Life}
use Rattle.core_journal.specs.declared.event.Event.{Event}
use Rattle.core_journal.specs.Machine.{word_at}
use Rattle.core_kept.specs.Kept.{IsKept}
use Rattle.core_kept.specs.Freezing.{IsSpentVertex}
use Rattle.core_kept.specs.Nodes.{node_in}
use Rattle.core_lists.specs.Chains.{KeepsList, life_in}
use Rattle.core_lists.proofs.EventKeepsRest.{event_life, vertex_spent}
use Rattle.core_lists.proofs.FrozenToEndIsList.{has_keeps}
use Rattle.core_rule.specs.Fronts.{IsLifeAt, MayUnlinkVertex, MetVertex}
use Rattle.core_rule.specs.OwnEvents.{mark_vertex_event, unlink_vertex_event}
use Rattle.core_rule.specs.Plays.{IsSound, Looked, Won}
use Rattle.core_rule.specs.Views.{IsVertexIn}
use Rattle.core_rule.specs.declared.view.View.{View}
use Rattle.core_rule.proofs.ViewShows.{head_shown, life_shown, vertex_still, win_steps}
use Rattle.core_stretches.specs.Holdings.{IsUnlinkedVertex}
use Rattle.core_stretches.specs.Makes.{Makes}
use Rattle.core_stretches.proofs.MakesAddUp.{makes_chain, makes_look, makes_won}
use Rattle.core_stretches.proofs.MakesTell.{makes_goes, makes_later}
use Rattle.limbo_calls.specs.Causes.{LostMark}
use Rattle.limbo_calls.specs.Steady.{LeadsToMet, IsSteady}
use Rattle.limbo_calls.proofs.FirstIsLinked.{only_unmarked}
use Rattle.limbo_calls.proofs.StaysSteady.{pass_by, steady_on}

-- the word of the bucket was loaded, and leads to a vertex
module _ (n : ℕ) (v m : View) (at seen : ℕ) (z : IsLayout v.sizes) (sound : IsSound v) (s : IsSteady true n v)
    (l : Looked v at seen m) (at_is : at ≡ bucket_at v.sizes 0) (one : v.sizes.buckets ≡ 1)
    (some : index_of seen ≢ nowhere) where
  look : Makes v [] m
  look = makes_look v m at seen s.numbered sound l

  same : m.sizes ≡ v.sizes
  same = (makes_later v m [] look).sizes

  layout : IsLayout m.sizes
  layout = subst IsLayout (sym same) z

  word : seen ≡ word_at m.sizes m.front (bucket_at m.sizes 0)
  word = l.word ∙ (ap (word_at v.sizes m.front) at_is ∙ ap (λ (y : Sizes). word_at y m.front (bucket_at y 0))
      (sym same))

  only : m.sizes.buckets ≡ 1
  only = ap (λ (y : Sizes). y.buckets) same ∙ one

  first_met : MetVertex m (life_in m.sizes m.front (index_of seen))
  first_met = subst (λ (w : ℕ). MetVertex m (life_in m.sizes m.front (index_of w))) (sym word) (⊎_elim
      (λ (none : index_of (word_at m.sizes m.front (bucket_at m.sizes 0)) ≡ nowhere). absurd
      (some (ap index_of word ∙ none)))
      (λ (h : IsVertexIn m 0 (index_of (word_at m.sizes m.front (bucket_at m.sizes 0)))). h.met)
      (head_shown m layout (makes_later v m [] look).kept (pass_by true v m [] tt look s.pass) 0 (omega (arith, only))))

  pub first_there : index_of seen < v.sizes.nodes
  first_there = subst (λ (y : Sizes). index_of seen < y.nodes) same first_met.life.there

  pub first_found : (k : View) (at' link index : ℕ) → IsSound m → Looked m at' link k → at' ≡ link_at v.sizes index
      → index ≡ index_of seen → LeadsToMet k seen (record { index = index; tag = tag_of link })
  first_found k at' link index sound_m l' place index_is =
      let has : m.numbered ≡ true = (makes_later v m [] look).numbered ∙ s.numbered in
      let second = makes_look m k at' link has sound_m l' in
      let later = makes_later m k [] second in
      let x = life_in m.sizes m.front (index_of seen) in
      let met = vertex_still m k layout (makes_goes m k [] tt second) x first_met in
      let zk : IsLayout k.sizes = subst IsLayout (sym later.sizes) layout in
      let at_k : link ≡ word_at k.sizes k.front (link_at k.sizes x.index) = l'.word ∙
      (ap (word_at m.sizes k.front) (place ∙ ap₂ link_at (sym same) index_is) ∙ ap
      (λ (y : Sizes). word_at y k.front (link_at y x.index)) (sym later.sizes)) in
      let tag : x.tag ≡ tag_of link = sym (life_shown k zk later.kept x met.life met.met) ∙ ap tag_of (sym at_k) in
      let is : x ≡ record { index = index; tag = tag_of link } = ap₂ (λ (i t : ℕ). record x { index = i; tag = t })
      (sym index_is) tag in
      record {
        met = subst (λ (y : Life). MetVertex k y) is met;
        leads = sym index_is;
        unmarked = only_unmarked m at seen layout (makes_later v m [] look).kept only word;
      }

-- it was marked, its link loaded, and then it's unlinked
module _ (n : ℕ) (v m k : View) (x : Life) (seen place found at dead : ℕ) (z : IsLayout v.sizes) (sound : IsSound v)
    (s : IsSteady true n v) (f : LeadsToMet v seen x) (one : v.sizes.buckets ≡ 1)
    (won : Won v place found (mark_vertex_event v x found) m) (sound_m : IsSound m) (l : Looked m at dead k)
    (at_is : at ≡ link_at v.sizes x.index) (marked : mark_of dead ≡ 1) where
  mark : Makes v (mark_vertex_event v x found ∷ []) m
  mark = makes_won v m place found (mark_vertex_event v x found) s.numbered sound refl won

  marks : Makes v (mark_vertex_event v x found ∷ []) k
  marks = makes_chain v m k (mark_vertex_event v x found ∷ []) [] mark
      (makes_look m k at dead ((makes_later v m _ mark).numbered ∙ s.numbered) sound_m l)

  pub steady_marked : IsSteady true n k
  steady_marked = steady_on true n v k (mark_vertex_event v x found ∷ []) z
      (((λ y. absurd (cc)), (λ y. absurd (cc))), tt) ((λ y. absurd (cc)), tt) refl refl marks s

  pub may_unlink : (bucket next : ℕ) → bucket ≡ bucket_at v.sizes 0 → next ≡ index_of dead
      → MayUnlinkVertex k bucket seen next x
  may_unlink bucket next bucket_is next_is =
      let later = makes_later v k (mark_vertex_event v x found ∷ []) marks in
      let to_m = (makes_later v m (mark_vertex_event v x found ∷ []) mark).sizes in
      let met = vertex_still v k z (makes_goes v k (mark_vertex_event v x found ∷ [])
      (((λ y. absurd (cc)), (λ y. absurd (cc))), tt) marks) x f.met in
      let word : dead ≡ word_at k.sizes k.front (link_at k.sizes x.index) = l.word ∙
      (ap (word_at m.sizes k.front) at_is ∙ ap₂ (λ (y q : Sizes). word_at y k.front (link_at q x.index))
      (to_m ∙ sym later.sizes) (sym later.sizes)) in
      record {
        pass = steady_marked.pass;
        before = inl (
          0,
          subst (λ (b : ℕ). 0 < b) (sym (ap (λ (y : Sizes). y.buckets) later.sizes ∙ one))
              (omega arith),
          bucket_is ∙ ap (λ (y : Sizes). bucket_at y 0) (sym later.sizes),
        );
        unmarked = f.unmarked;
        leads = f.leads;
        vertex = met;
        dead = ap mark_of (sym word) ∙ marked;
        next_is = next_is ∙ ap index_of word;
      }

-- a link that was loaded behind the own mark, and has none
pub lost_mark : (v m k : View) (x : Life) (place found at dead : ℕ) → v.numbered ≡ true → IsSound v
    → Won v place found (mark_vertex_event v x found) m → IsSound m → Looked m at dead k
    → at ≡ link_at v.sizes x.index → mark_of dead ≡ 0 → LostMark x v k
lost_mark v m k x place found at dead has sound won sound_m l at_is unmarked =
    let e = mark_vertex_event v x found in
    let mark : Makes v (e ∷ []) m = makes_won v m place found e has sound refl won in
    let first = makes_later v m (e ∷ []) mark in
    let look = makes_look m k at dead (first.numbered ∙ has) sound_m l in
    let same = (makes_later m k [] look).sizes in
    let word : dead ≡ word_at k.sizes k.front (link_at k.sizes x.index) = l.word ∙
    (ap (word_at m.sizes k.front) (at_is ∙ ap (λ (y : Sizes). link_at y x.index) (sym first.sizes)) ∙ ap
    (λ (y : Sizes). word_at y k.front (link_at y x.index)) (sym same)) in
    record {
      found = found;
      makes = makes_chain v m k (e ∷ []) [] mark look;
      unmarked = ap mark_of (sym word) ∙ unmarked;
    }

-- it was unlinked
module _ (n : ℕ) (v w : View) (x : Life) (place found bucket seen next : ℕ) (z : IsLayout v.sizes) (sound : IsSound v)
    (s : IsSteady true n v) (there : IsLifeAt v x) (won : Won v place found
    (unlink_vertex_event v bucket seen next x) w) where
  abbrev event : Event
  event = unlink_vertex_event v bucket seen next x

  cut : Makes v (event ∷ []) w
  cut = makes_won v w place found event s.numbered sound refl won

  pub steady_cut : IsSteady true n w
  steady_cut = steady_on true n v w (event ∷ []) z (((λ y. absurd (cc)), (λ y. absurd (cc))), tt)
      ((λ y. absurd (cc)), tt) refl refl cut s

  pub is_unlinked : IsUnlinkedVertex w x
  is_unlinked =
      let t = win_steps v place found event w s.numbered sound won in
      let kept : IsKept v.sizes (t.grown ++ event ∷ []) = subst (λ (j : List Event). IsKept v.sizes j) t.front t.kept in
      let r = vertex_spent v.sizes t.grown event kept z refl in
      let list = has_keeps v.sizes z (t.grown ++ event ∷ []) kept x.index r.1 in
      subst (λ (u : View). IsUnlinkedVertex u x) (sym t.view) (record {
        life = record {
          there = there.there;
          tag = subst (λ (j : List Event). x.tag ≡ (node_in v.sizes j x.index).tag)
              (sym t.front) (event_life v.sizes t.grown event kept z there.there);
        };
        spent = subst (λ (j : List Event). IsSpentVertex v.sizes j v.number x.index) (sym t.front) r.0;
        list = subst (λ (j : List Event). KeepsList v.sizes j x.index) (sym t.front) list;
      })
