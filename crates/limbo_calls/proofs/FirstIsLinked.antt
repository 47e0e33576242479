-- A node is taken, filled and linked as the first of the only bucket.
use Rattle.std.proofs.Common.{◌≡◌, ℕ, ◌+◌, ◌%◌, true, false, List, [], ◌∷◌, ◌++◌, inl, refl, sym, ap, ◌∙◌, subst, arith}
use Rattle.packed_link.specs.Link.{index_of, mark_of, nowhere, pack}
use Rattle.packed_link.specs.Layout.{Sizes, IsLayout, bucket_at}
use Rattle.packed_link.specs.declared.link.Life.{Life}
use Rattle.core_journal.specs.declared.event.Event.{Event}
use Rattle.core_journal.specs.Machine.{word_at}
use Rattle.core_journal.specs.State.{Node}
use Rattle.core_kept.specs.Kept.{IsKept}
use Rattle.core_kept.specs.Nodes.{IsFreshWith}
use Rattle.core_kept.specs.Vertices.{IsFilledVertex}
use Rattle.core_kept.proofs.BucketWords.{bucket_unmarked}
use Rattle.core_lists.proofs.EventKeepsRest.{vertex_joined}
use Rattle.core_rule.specs.Fronts.{MayLinkVertex, key_in}
use Rattle.core_rule.specs.OwnEvents.{announce_event, link_vertex_event, pop_event, withdraw_event}
use Rattle.core_rule.specs.Plays.{IsSound, Looked, Won}
use Rattle.core_rule.specs.Stretches.{HasNoFresh, HasPass}
use Rattle.core_rule.specs.declared.view.View.{View}
use Rattle.core_rule.proofs.ViewShows.{win_steps}
use Rattle.core_stretches.specs.Holdings.{HasNoPass, IsFilledAsVertex}
use Rattle.core_stretches.specs.Makes.{Makes}
use Rattle.core_stretches.proofs.HoldingsStay.{makes_fresh_by_kind, makes_none}
use Rattle.core_stretches.proofs.MakesAddUp.{makes_chain, makes_look, makes_won}
use Rattle.core_stretches.proofs.MakesTell.{makes_later}
use Rattle.epoch_limbo.specs.Passes.{IsOpened}
use Rattle.node_arena.specs.Filling.{vertex_stores}
use Rattle.node_arena.specs.Taking.{IsTaken}
use Rattle.limbo_calls.specs.Causes.{IsFirstLost, LinksOne}
use Rattle.graph_table.specs.Table.{Missed}
use Rattle.core_journal.proofs.Lists.{prefix_trans}
use Rattle.limbo_calls.specs.Steady.{IsSteady}
use Rattle.limbo_calls.proofs.StaysSteady.{pass_by, steady_more}

-- the word of the only bucket has no mark
pub only_unmarked : (m : View) (at seen : ℕ) (z : IsLayout m.sizes) → IsKept m.sizes m.front → m.sizes.buckets ≡ 1
    → seen ≡ word_at m.sizes m.front (bucket_at m.sizes 0) → mark_of seen ≡ 0
only_unmarked m at seen z kept one is = ap mark_of is ∙ bucket_unmarked m.sizes z m.front kept 0 (omega (arith, one))

module _ (n key : ℕ) (v0 v1 v2 : View) (x : Life) (z : IsLayout v0.sizes) (s : IsSteady false n v0)
    (t : IsTaken v0 v1 x) (stores : Makes v1 (vertex_stores v1 x key nowhere) v2) where
  taken_filled : Makes v0 (pop_event v0 t.seen t.next ∷ vertex_stores v1 x key nowhere) v2
  taken_filled = makes_chain v0 v1 v2 (pop_event v0 t.seen t.next ∷ []) (vertex_stores v1 x key nowhere) t.makes stores

  pub closed_then : HasNoPass v2
  closed_then = pass_by false v0 v2 (pop_event v0 t.seen t.next ∷ vertex_stores v1 x key nowhere) (
    ((λ y. absurd (cc)), (λ y. absurd (cc))),
    (
      ((λ y. absurd (cc)), (λ y. absurd (cc))),
      (
        ((λ y. absurd (cc)), (λ y. absurd (cc))),
        (
          ((λ y. absurd (cc)), (λ y. absurd (cc))),
          (((λ y. absurd (cc)), (λ y. absurd (cc))), tt),
        ),
      ),
    ),
  )
      taken_filled s.pass

  module _ (v3 v4 : View) (at seen : ℕ) (filled : IsFilledAsVertex v2 key nowhere x) (o : IsOpened v2 v3)
      (sound : IsSound v3) (l : Looked v3 at seen v4) (at_is : at ≡ bucket_at v0.sizes 0) (one : v0.sizes.buckets ≡ 1)
      (none : index_of seen ≡ nowhere) where
    opened : Makes v0 (pop_event v0 t.seen t.next ∷ (vertex_stores v1 x key nowhere ++ announce_event v2 o.epoch ∷ []))
        v3
    opened = makes_chain v0 v2 v3 (pop_event v0 t.seen t.next ∷ vertex_stores v1 x key nowhere)
        (announce_event v2 o.epoch ∷ []) taken_filled o.makes

    look : Makes v3 [] v4
    look = makes_look v3 v4 at seen ((makes_later v0 v3 _ opened).numbered ∙ s.numbered) sound l

    sizes : v4.sizes ≡ v0.sizes
    sizes = (makes_later v3 v4 [] look).sizes ∙ (makes_later v0 v3 _ opened).sizes

    pass : HasPass v4
    pass = pass_by true v3 v4 [] tt look o.opened

    late : Makes v2 (announce_event v2 o.epoch ∷ []) v4
    late = makes_chain v2 v3 v4 (announce_event v2 o.epoch ∷ []) [] o.makes look

    pub may_link : MayLinkVertex v4 at seen (key_in v4 x.index) x
    may_link =
        let later = makes_later v2 v4 (announce_event v2 o.epoch ∷ []) late in
        let z2 : IsLayout v2.sizes = subst IsLayout (sym (makes_later v0 v2 _ taken_filled).sizes) z in
        let f = makes_fresh_by_kind v2 v4 (announce_event v2 o.epoch ∷ []) z2 x (refl, tt) late filled.held in
        let w = f.1 in
        let tag = ap (λ (q : Node). q.tag) (sym w.node) in
        let was = filled.filled in
        let now : IsFilledVertex v4.sizes v4.front x.index key nowhere = subst
        (λ (y : Sizes). IsFilledVertex y v4.front x.index key nowhere) (sym later.sizes) (record {
          key_word = w.key ∙ was.key_word;
          key_fits = was.key_fits;
          link_word = w.link ∙ (was.link_word ∙ ap (pack nowhere 0) tag);
          second_word = w.second ∙ (was.second_word ∙ ap (pack nowhere 0) tag);
          third_word = w.third ∙ was.third_word;
        }) in
        let buckets : v4.sizes.buckets ≡ 1 = ap (λ (y : Sizes). y.buckets) sizes ∙ one in
        let zero_is : key % v4.sizes.buckets ≡ 0 = ap (λ (b : ℕ). key % b) buckets ∙ omega arith in
        let z4 : IsLayout v4.sizes = subst IsLayout (sym sizes) z in
        let place : at ≡ bucket_at v4.sizes 0 = at_is ∙ ap (λ (y : Sizes). bucket_at y 0) (sym sizes) in
        let word : seen ≡ word_at v4.sizes v4.front (bucket_at v4.sizes 0) = l.word ∙
        (ap (word_at v3.sizes v4.front) place ∙ ap (λ (y : Sizes). word_at y v4.front (bucket_at v4.sizes 0))
        (sym (makes_later v3 v4 [] look).sizes)) in
        subst (λ (k : ℕ). MayLinkVertex v4 at seen k x) (sym now.key_word) (record {
          life = f.0.life;
          pass = pass;
          before = inl (place ∙ ap (bucket_at v4.sizes) (sym zero_is));
          behind = λ some. absurd (some none);
          unmarked = only_unmarked v4 at seen z4 (makes_later v3 v4 [] look).kept buckets word;
          fresh = f.0.fresh;
          filled = subst (λ (i : ℕ). IsFilledVertex v4.sizes v4.front x.index key i) (sym none) now;
        })

    -- another word stood there when the vertex was to be linked
    pub first_lost : (v5 : View) (found : ℕ) → IsSound v4 → Missed v4 at seen found v5 → IsFirstLost v0 v5
    first_lost v5 found sound4 missed =
        let first = makes_later v0 v3 _ opened in
        let has = (makes_later v3 v4 [] look).numbered ∙ (first.numbered ∙ s.numbered) in
        let same = (makes_later v4 v5 [] (makes_look v4 v5 at found has sound4 missed.looked)).sizes in
        let place : at ≡ bucket_at v4.sizes 0 = at_is ∙ ap (λ (y : Sizes). bucket_at y 0) (sym sizes) in
        let word : found ≡ word_at v5.sizes v5.front (bucket_at v5.sizes 0) = missed.looked.word ∙
        (ap (word_at v4.sizes v5.front) place ∙ ap (λ (y : Sizes). word_at y v5.front (bucket_at y 0)) (sym same)) in
        record {
          seen = seen;
          moment = v4.front;
          found = record {
            since = prefix_trans v0.front v3.front v4.front first.grows (makes_later v3 v4 [] look).grows;
            until = missed.looked.grows;
            holds = sym (l.word ∙ (ap (word_at v3.sizes v4.front) at_is ∙ ap
                (λ (y : Sizes). word_at y v4.front (bucket_at v0.sizes 0)) first.sizes));
          };
          empty = none;
          other = λ is. missed.other (word ∙ is);
        }

    module _ (v5 : View) (place found : ℕ) (sound4 : IsSound v4)
        (won : Won v4 place found (link_vertex_event v4 at seen (key_in v4 x.index) x) v5) where
      has_number : v4.numbered ≡ true
      has_number = (makes_later v3 v4 [] look).numbered ∙ ((makes_later v0 v3 _ opened).numbered ∙ s.numbered)

      abbrev event : Event
      event = link_vertex_event v4 at seen (key_in v4 x.index) x

      linked : Makes v4 (event ∷ []) v5
      linked = makes_won v4 v5 place found event has_number sound4 refl won

      pub pass_then : HasPass v5
      pass_then = pass_by true v4 v5 (event ∷ []) (((λ y. absurd (cc)), (λ y. absurd (cc))), tt) linked pass

      bare_then : HasNoFresh v5
      bare_then =
          let g = win_steps v4 place found event v5 has_number sound4 won in
          let kept : IsKept v4.sizes (g.grown ++ event ∷ []) = subst
          (λ (j : List Event). IsKept v4.sizes j) g.front g.kept in
          let h = (vertex_joined v4.sizes g.grown event kept refl).1 in
          subst HasNoFresh (sym g.view) (record {
            none = λ y there f. h y there
                (subst (λ (j : List Event). IsFreshWith v4.sizes j v4.number y) g.front f);
          })

      pub links_one : (v6 : View) → Makes v5 (withdraw_event v5 ∷ []) v6 → LinksOne v0 v6
      links_one v6 closing =
          let a = makes_chain v0 v3 v4 (pop_event v0 t.seen t.next ∷
          (vertex_stores v1 x key nowhere ++ announce_event v2 o.epoch ∷ [])) [] opened look in
          let b = makes_chain v0 v4 v5 (pop_event v0 t.seen t.next ∷
          (vertex_stores v1 x key nowhere ++ announce_event v2 o.epoch ∷ [])) (event ∷ []) a linked in
          record { own = _; makes = makes_chain v0 v5 v6 _ (withdraw_event v5 ∷ []) b closing; one = refl }

      pub steady_added : (v6 : View) → Makes v5 (withdraw_event v5 ∷ []) v6 → HasNoPass v6 → IsSteady false (n + 1) v6
      steady_added v6 closing closed =
          let a = makes_chain v0 v3 v4 (pop_event v0 t.seen t.next ∷
          (vertex_stores v1 x key nowhere ++ announce_event v2 o.epoch ∷ [])) [] opened look in
          let b = makes_chain v0 v4 v5 (pop_event v0 t.seen t.next ∷
          (vertex_stores v1 x key nowhere ++ announce_event v2 o.epoch ∷ [])) (event ∷ []) a linked in
          let c = makes_chain v0 v5 v6 _ (withdraw_event v5 ∷ []) b closing in
          let z5 : IsLayout v5.sizes = subst IsLayout (sym (makes_later v0 v5 _ b).sizes) z in
          steady_more false false n (n + 1) v0 v6 _ c (omega arith) (omega arith)
          (makes_none v5 v6 (withdraw_event v5 ∷ []) z5 ((λ y. absurd (cc)), tt) closing bare_then) closed s
