-- What a token knows behind loads alone, and behind the steps of other kinds.
use Rattle.std.proofs.Common.{◌≡◌, ◌≢◌, ◌⊎◌, ℕ, ◌%◌, ◌<◌, ◌≤◌, Bool, true, false, Option, None, Some, inl, inr, refl}
use Rattle.std.proofs.Common.{sym, ap, ◌∙◌, subst, arith, ⊎_elim}
use Rattle.std.proofs.lemmas.Bool.{cases_lt}
use Rattle.packed_link.specs.Link.{index_of, mark_of, tag_of, nowhere}
use Rattle.packed_link.specs.Layout.{Sizes, IsLayout, bucket_at, link_at, word_count}
use Rattle.packed_link.specs.declared.link.Life.{Life}
use Rattle.core_journal.specs.declared.event.Event.{Event}
use Rattle.core_journal.specs.declared.event.Kind.TheVariants.{Announce, Withdraw}
use Rattle.core_journal.specs.Machine.{word_at}
use Rattle.core_journal.specs.State.{Node}
use Rattle.core_journal.proofs.Lists.{prefix_trans}
use Rattle.core_kept.specs.Nodes.{node_in}
use Rattle.core_lists.specs.Chains.{life_in}
use Rattle.core_lists.specs.Walks.{LeadsTo}
use Rattle.core_rule.specs.Fronts.{MetVertex, LeadsToVertex, IsVertexLink, key_in}
use Rattle.core_rule.specs.Plays.{IsSound, Looked, seen}
use Rattle.core_rule.specs.Stretches.{HasPass, is_of_fresh}
use Rattle.core_rule.specs.Views.{GoesOn, IsVertexIn, IsVertexBehind, Spares, Steps}
use Rattle.core_rule.specs.declared.view.View.{View}
use Rattle.core_rule.proofs.OwnByKind.{own_fresh_by_kind}
use Rattle.core_rule.proofs.ViewShows.{look_steps, win_steps, step_view, step_goes_on, vertex_still, key_still}
use Rattle.core_rule.proofs.ViewShows.{life_shown, head_shown, vertex_link_shown}
use Rattle.graph_table.specs.Table.{MatchMark}
use Rattle.table_calls.specs.Loads.{HasLoaded}
use Rattle.table_calls.specs.Resting.{IsResting, IsHolding, uses_of}
use Rattle.table_calls.specs.Vertices.{IsFound, word_in}
use Rattle.table_calls.proofs.Known.{rests_on, same_pass, same_uses}

pub loaded : (v : View) (place found : ℕ) (w : View) → Looked v place found w → HasLoaded v w
loaded v place found w l = record { grows = l.grows; sound = l.sound; view = l.view }

pub loaded_chain : (u v w : View) → HasLoaded u v → HasLoaded v w → HasLoaded u w
loaded_chain u v w a b = record {
  grows = prefix_trans u.front v.front w.front a.grows b.grows;
  sound = b.sound;
  view =
      b.view ∙ ap (λ (x : View). seen x w.front) a.view;
}

pub loaded_sizes : (v w : View) → HasLoaded v w → w.sizes ≡ v.sizes
loaded_sizes v w h = ap (λ (u : View). u.sizes) h.view

-- as one load of the first word
as_look : (v w : View) → HasLoaded v w → Looked v 0 (word_at v.sizes w.front 0) w
as_look v w h = record {
  grows = h.grows;
  word = refl;
  count = λ _ at. absurd
      (omega (arith, at));
  sound = h.sound;
  view = h.view;
}

-- the word that was loaded
pub word_is : (v : View) (at found : ℕ) (w : View) → Looked v at found w → found ≡ word_in w at
word_is v at found w l = l.word ∙ ap (λ (q : Sizes). word_at q w.front at) (sym (ap (λ (u : View). u.sizes) l.view))

-- behind an own step that takes, fills and links none, a fresh node is held still
pub holds_on : (v w : View) (own : Option Event) → IsLayout v.sizes → Steps v own w → Spares
    (λ (e : Event). is_of_fresh e.kind ≡ false) own → Spares (λ (e : Event). (e.kind ≢ Announce) × (e.kind ≢ Withdraw))
    own → (x : Life) → IsHolding v x → IsHolding w x
holds_on v w own z t spares open_still x h =
    let f = own_fresh_by_kind v w own z t x.index h.held.life.there spares h.held.fresh in
    let same : w.sizes ≡ v.sizes = (step_view v w own t).0 in
    record {
      numbered = (step_view v w own t).2 ∙ h.numbered;
      there = subst (λ (u : View). u.number < u.sizes.callers) (sym t.view) h.there;
      pass = same_pass true v w own t open_still h.pass;
      held = record {
        life = record {
          there = subst (λ (y : Sizes). x.index < y.nodes) (sym same) h.held.life.there;
          tag = h.held.life.tag ∙ (ap (λ (n : Node). n.tag) (sym f.1.node) ∙ ap
              (λ (y : Sizes). (node_in y w.front x.index).tag) (sym same));
        };
        fresh = f.0;
      };
    }

module _ (v w : View) (has : v.numbered ≡ true) (s : IsSound v) (h : HasLoaded v w) where
  pub loaded_steps : Steps v None w
  loaded_steps = look_steps v 0 (word_at v.sizes w.front 0) w has s (as_look v w h)

  pub loaded_goes : GoesOn v w
  loaded_goes = step_goes_on v w None loaded_steps tt

  pub loaded_numbered : w.numbered ≡ true
  loaded_numbered = (step_view v w None loaded_steps).2 ∙ has

  pub loaded_pass : HasPass v → HasPass w
  loaded_pass p = same_pass true v w None loaded_steps tt p

  pub loaded_resting : (opened : Bool) → IsResting opened v → IsResting opened w
  loaded_resting opened n = rests_on opened v w None loaded_steps tt tt n

  pub loaded_holding : IsLayout v.sizes → (x : Life) → IsHolding v x → IsHolding w x
  loaded_holding z x n = holds_on v w None z loaded_steps tt tt x n

  pub loaded_uses : uses_of w ≡ uses_of v
  loaded_uses = same_uses v w None loaded_steps tt tt tt

-- where a word leads that isn't none
pub leads_there : (word index : ℕ) (P : ℕ → Type 0) → LeadsTo word P → index ≡ index_of word → index ≢ nowhere → P index
leads_there word index P h is some = ⊎_elim (λ (n : index_of word ≡ nowhere). absurd (some (is ∙ n)))
    (λ (p : P (index_of word)). subst P (sym is) p) h

-- the word of a bucket that was loaded
pub head_loaded : (v w : View) (bucket at word : ℕ) → IsLayout w.sizes → v.numbered ≡ true → IsSound v → HasPass v
    → bucket < v.sizes.buckets → at ≡ bucket_at v.sizes bucket → Looked v at word w → LeadsTo word (IsVertexIn w bucket)
head_loaded v w bucket at word z has s o low at_is l =
    let h = loaded v at word w l in
    let sizes : w.sizes ≡ v.sizes = loaded_sizes v w h in
    let is : word_at w.sizes w.front (bucket_at w.sizes bucket) ≡ word = ap
    (λ (q : Sizes). word_at q w.front (bucket_at q bucket)) sizes ∙
    (ap (word_at v.sizes w.front) (sym at_is) ∙ sym l.word) in
    subst (λ (n : ℕ). LeadsTo n (IsVertexIn w bucket)) is (head_shown w z l.sound.kept
    (loaded_pass v w has s h o) bucket (subst (λ (q : Sizes). bucket < q.buckets) (sym sizes) low))

-- the word that leads to vertices that was loaded
pub place_leads : (v : View) → IsLayout v.sizes → IsSound v → HasPass v → (place : ℕ) → LeadsToVertex v place → LeadsTo
    (word_in v place) (λ (y : ℕ). MetVertex v (life_in v.sizes v.front y))
place_leads v z s o place b = ⊎_elim
    (λ (h : (j : ℕ) × (j < v.sizes.buckets) × (place ≡ bucket_at v.sizes j)).
    subst (λ (p : ℕ). LeadsTo (word_in v p) (λ (y : ℕ). MetVertex v (life_in v.sizes v.front y))) (sym h.2)
    (⊎_elim (λ (n : index_of (word_in v (bucket_at v.sizes h.0)) ≡ nowhere). inl n)
    (λ (d : IsVertexIn v h.0 (index_of (word_in v (bucket_at v.sizes h.0)))). inr d.met)
    (head_shown v z s.kept o h.0 h.1)))
    (λ (h : (x : Life) × IsVertexLink v place x).
    subst (λ (p : ℕ). LeadsTo (word_in v p) (λ (y : ℕ). MetVertex v (life_in v.sizes v.front y))) (sym h.1.place_is)
    (⊎_elim (λ (n : index_of (word_in v (link_at v.sizes h.0.index)) ≡ nowhere). inl n)
    (λ (d : IsVertexBehind v h.0 (index_of (word_in v (link_at v.sizes h.0.index)))). inr d.met)
    (vertex_link_shown v z s.kept h.0 h.1.met)))
    b

-- the place is one of the table
pub place_there : (v : View) → (place : ℕ) → LeadsToVertex v place → place < word_count v.sizes
place_there v place b = ⊎_elim
    (λ (h : (j : ℕ) × (j < v.sizes.buckets) × (place ≡ bucket_at v.sizes j)). omega (arith, h.1, h.2))
    (λ (h : (x : Life) × IsVertexLink v place x). omega (arith, h.1.place_is, h.1.met.life.there))
    b

-- a vertex that was met is in the life that its link names, which was loaded later
pub life_loaded : (v w : View) (index at link tag : ℕ) → IsLayout v.sizes → IsLayout w.sizes → v.numbered ≡ true
    → IsSound v → MetVertex v (life_in v.sizes v.front index) → Looked v at link w → at ≡ link_at v.sizes index
    → tag ≡ tag_of link → MetVertex w (record { index = index; tag = tag })
life_loaded v w index at link tag z z' has s m l at_is tag_is =
    let h = loaded v at link w l in
    let x = life_in v.sizes v.front index in
    let m' = vertex_still v w z (loaded_goes v w has s h) x m in
    let sizes : w.sizes ≡ v.sizes = loaded_sizes v w h in
    let is : link ≡ word_at w.sizes w.front (link_at w.sizes index) = l.word ∙
    (ap (word_at v.sizes w.front) at_is ∙ ap (λ (q : Sizes). word_at q w.front (link_at q index)) (sym sizes)) in
    let same : tag ≡ x.tag = tag_is ∙ (ap tag_of is ∙ life_shown w z' l.sound.kept x m'.life m'.met) in
    subst (λ (t : ℕ). MetVertex w (record { index = index; tag = t })) (sym same) m'

-- a vertex of a bucket is one still
pub found_still : (v w : View) (bucket : ℕ) (x : Life) → IsLayout v.sizes → GoesOn v w → IsFound v bucket x
    → IsFound w bucket x
found_still v w bucket x z g f =
    let k = key_still v w z g x.index f.met.life.there f.met.met in
    let sizes : w.sizes ≡ v.sizes = ap (λ (u : View). u.sizes) g.view in
    record {
      met = vertex_still v w z g x f.met;
      of_bucket = ap (λ (n : ℕ). n % w.sizes.buckets) k ∙
          (ap (λ (q : Sizes). key_in v x.index % q.buckets) sizes ∙ f.of_bucket);
    }

-- the vertex of a bucket to which its word leads
pub first_found : (v w : View) (bucket index at link tag : ℕ) → IsLayout v.sizes → IsLayout w.sizes → v.numbered ≡ true
    → IsSound v → IsVertexIn v bucket index → Looked v at link w → at ≡ link_at v.sizes index → tag ≡ tag_of link
    → IsFound w bucket (record { index = index; tag = tag })
first_found v w bucket index at link tag z z' has s d l at_is tag_is =
    let g = loaded_goes v w has s (loaded v at link w l) in
    let f = found_still v w bucket (life_in v.sizes v.front index) z g
    (record { met = d.met; of_bucket = d.of_bucket }) in
    record { met = life_loaded v w index at link tag z z' has s d.met l at_is tag_is; of_bucket = f.of_bucket }

-- a mark is set or not
pub bit : (x : ℕ) → (mark_of x ≡ 0) ⊎ (mark_of x ≡ 1)
bit x = ⊎_elim (λ (h : mark_of x < 1). inl (omega (arith, h))) (λ (h : 1 ≤ mark_of x). inr (omega (arith, h)))
    (cases_lt (mark_of x) 1)

-- behind a mark, set now or before
pub marked_steps : (v : View) (place found : ℕ) (e : Event) (w : View) → v.numbered ≡ true → IsSound v
    → MatchMark v place found e w → Steps v (Some e) w ⊎ Steps v None w
marked_steps v place found e w has s m = ⊎_elim (λ (live : mark_of found ≡ 0). inl
    (win_steps v place found e w has s (m.won live))) (λ (dead : mark_of found ≡ 1). inr
    (look_steps v place found w has s (m.was dead))) (bit found)
