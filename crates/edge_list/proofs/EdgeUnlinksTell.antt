-- What unlinking a marked edge tells: the exchange on the word before it.
use Rattle.std.proofs.Common.{◌≡◌, ℕ, ◌<◌, Bool, true, false, List, [], ◌∷◌, ◌++◌, Some, refl, sym, ap, ap₂, ◌∙◌}
use Rattle.std.proofs.Common.{subst, arith}
use Rattle.packed_link.specs.Link.{pack, index_of, mark_of, tag_of}
use Rattle.packed_link.specs.Layout.{Sizes, IsLayout, link_at}
use Rattle.packed_link.specs.declared.link.Life.{Life}
use Rattle.packed_link.proofs.Links.{mark_of-pack}
use Rattle.core_journal.specs.declared.event.Kind.{Kind}
use Rattle.core_journal.specs.declared.event.Kind.TheVariants.{UnlinkEdge}
use Rattle.core_journal.specs.declared.event.Event.{Event}
use Rattle.core_journal.specs.Machine.{word_at}
use Rattle.core_journal.specs.State.{Linked, Spent, Node, state}
use Rattle.core_kept.specs.Edges.{IsUnlinkEdge}
use Rattle.core_kept.specs.Kept.{AllowedAs, IsKept}
use Rattle.core_kept.specs.Nodes.{node_in, is_listed, IsSpentWith}
use Rattle.core_kept.proofs.Induction.{last_allowed}
use Rattle.core_kept.proofs.OwnSpent.{spent_stays}
use Rattle.core_lists.proofs.EventKeepsRest.{written, event_life, edge_spent}
use Rattle.core_rule.specs.Fronts.{IsLifeAt, MayUnlinkEdge, MetEdge}
use Rattle.core_rule.specs.OwnEvents.{unlink_edge_event}
use Rattle.core_rule.specs.Plays.{IsSound, Won}
use Rattle.core_rule.specs.Views.{Steps}
use Rattle.core_rule.specs.declared.view.View.{View}
use Rattle.core_rule.proofs.ViewShows.{dead_still, edge_still, life_shown}
use Rattle.core_stretches.proofs.EdgeWords.{IsOfSource}
use Rattle.core_stretches.proofs.MakesAddUp.{makes_won}
use Rattle.core_stretches.proofs.MakesTell.{makes_goes}
use Rattle.core_stretches.proofs.WordsLeadOn.{goes_number, goes_sizes, word_written}
use Rattle.edge_list.specs.EdgeChanges.{IsEdgeUnlinked}
use Rattle.edge_list.specs.EdgePositions.{EdgePositionValue, IsEdgePosition, LeadsToDeadEdge}
use Rattle.edge_list.proofs.EdgeChangesTell.{kept_behind}
use Rattle.edge_list.proofs.EdgePositionsGoOn.{StandsOn, as_edge_position, as_edge_word, edge_place_words}
use Rattle.edge_list.proofs.EdgePositionsGoOn.{edge_position_from, edge_position_leads}

-- a marked edge to which a position leads, by the life that the link tells
pub record IsDeadEdgeSeen (v : View) (p : EdgePositionValue) (x : Life) : Type 0 where
  pub leads : index_of p.word ≡ x.index
  pub edge : MetEdge v p.source x
  pub link_is : word_at v.sizes v.front (link_at v.sizes x.index) ≡ p.link
  pub dead : mark_of (word_at v.sizes v.front (link_at v.sizes x.index)) ≡ 1

pub dead_edge_seen : (v : View) (p : EdgePositionValue) (index tag : ℕ) → IsLayout v.sizes → IsSound v
    → LeadsToDeadEdge v p → index ≡ index_of p.word → tag ≡ tag_of p.link
    → IsDeadEdgeSeen v p (record { index = index; tag = tag })
dead_edge_seen v p index tag z s d index_is tag_is =
    let x = d.edge in
    let same : record { index = index; tag = tag } ≡ x = ap₂ (λ (i t : ℕ). record { index = i; tag = t })
    (index_is ∙ d.leads)
    (tag_is ∙ (ap tag_of d.link_is ∙ life_shown v z s.kept x d.met.life d.met.met)) in
    subst (λ (y : Life). IsDeadEdgeSeen v p y) (sym same)
    (record { leads = d.leads; edge = d.met; link_is = sym d.link_is; dead = d.dead })

not_both : {b : Bool} → b ≡ true → b ≡ false → ⊥
not_both t f = absurd (cc)

module _ (passed : Bool) (v : View) (p : EdgePositionValue) (x : Life) (next : ℕ) (z : IsLayout v.sizes)
    (h : IsEdgePosition passed v p) (d : IsDeadEdgeSeen v p x) (next_is : next ≡ index_of p.link) where
  pub may_unlink_edge : MayUnlinkEdge v p.place p.word next p.source x
  may_unlink_edge = record {
    from = edge_position_from passed v p z h;
    before = edge_position_leads passed v p z h;
    unmarked = h.unmarked;
    leads = d.leads;
    edge = d.edge;
    dead = d.dead;
    next_is = next_is ∙ ap index_of (sym d.link_is);
  }

  -- an edge that is unlinked wasn't spent with the token before
  not_spent : (w : View) (e : Event) → Steps v (Some e) w → e.kind ≡ UnlinkEdge → e.life.index ≡ x.index
      → x.index < v.sizes.nodes → IsSpentWith v.sizes v.front v.number x.index → ⊥
  not_spent w e t is same there f =
      let r = t.reaches in
      let still = spent_stays v.sizes z v.number v.last x.index there v.front t.grown r.front r.kept r.quiet r.old f in
      let ok : IsUnlinkEdge v.sizes t.grown e = subst (λ (k : Kind). AllowedAs k v.sizes t.grown e) is
      (last_allowed v.sizes t.grown e (kept_behind v w e t)).as_kind in
      let was : (node_in v.sizes t.grown x.index).mode ≡ Spent = ap (λ (n : Node). n.mode) still.node ∙ f.spent in
      let linked : (node_in v.sizes t.grown x.index).mode ≡ Linked = ap (λ (y : ℕ). (node_in v.sizes t.grown y).mode)
      (sym same) ∙ ok.linked.linked in
      absurd (cc)

  pub edge_unlinked : (w : View) (q : EdgePositionValue) → v.numbered ≡ true → IsSound v
      → Won v p.place p.word (unlink_edge_event v p.place p.word next x) w → next < 16777216
      → q ≡ record {
        source = p.source;
        key = p.key;
        place = p.place;
        word = pack next 0 (tag_of p.word);
        link = 0;
        moment = w.front;
      }
      → IsEdgeUnlinked p v w x q
  edge_unlinked w q has s won small is =
      let e = unlink_edge_event v p.place p.word next x in
      let makes = makes_won v w p.place p.word e has s refl won in
      let g = makes_goes v w (e ∷ []) ((λ y. absurd (cc), λ y. absurd (cc)), tt) makes in
      let sizes = goes_sizes v w g in
      let z' : IsLayout w.sizes = subst IsLayout (sym sizes) z in
      let kept : IsKept w.sizes (won.grown ++ e ∷ []) = subst
      (λ (j : List Event). IsKept w.sizes j) won.front won.sound.kept in
      let word_is : word_at w.sizes w.front p.place ≡ pack next 0 (tag_of p.word) = subst
      (λ (j : List Event). word_at w.sizes j p.place ≡ pack next 0 (tag_of p.word)) (sym won.front)
      (written w.sizes won.grown e kept) in
      let spent = edge_spent w.sizes won.grown e kept refl in
      let there : x.index < w.sizes.nodes = subst (λ (y : Sizes). x.index < y.nodes)
      (sym sizes) d.edge.life.there in
      let life = event_life w.sizes won.grown e kept z' there in
      let link_is : word_at w.sizes w.front (link_at w.sizes x.index) ≡ p.link =
      dead_still v w z g x.index d.edge.life.there d.edge.met d.dead ∙ d.link_is in
      let met = edge_still v w z g p.source x d.edge in
      let first = makes.steps in
      let made : IsEdgeUnlinked p v w x (record {
        source = p.source;
        key = p.key;
        place = p.place;
        word = pack next 0 (tag_of p.word);
        link = 0;
        moment = w.front;
      }) = record {
        leads = d.leads;
        next = next;
        next_is = next_is ∙ ap index_of (sym link_is);
        makes = makes;
        last = record { past = won.grown; front = won.front };
        retirable = λ but. record {
          held = record {
            life = subst (λ (j : List Event). IsLifeAt (record w { front = j }) x) (sym won.front)
                (record { there = there; tag = life });
            spent = subst (λ (j : List Event). IsSpentWith w.sizes j w.number x.index) (sym won.front)
                (subst (λ (n : ℕ). IsSpentWith w.sizes (won.grown ++ e ∷ []) n x.index)
                (sym (goes_number v w g)) spent.0);
          };
          own_list = λ vertex. absurd (not_both vertex met.edge);
          list = λ y but_y y_there on. absurd (not_both on (subst
              (λ (j : List Event). is_listed (state w.sizes j) y x.index ≡ false) (sym won.front) (spent.1 y)));
        };
        new = λ f. not_spent first.0 e first.2 refl refl (subst (λ (y : Sizes). x.index < y.nodes) sizes there) f;
        source = refl;
        key = refl;
        place = refl;
        word = refl;
        moment = refl;
        position = λ other a. as_edge_position other p.source p.key p.place (pack next 0 (tag_of p.word)) 0 w.front w
            (word_written (IsOfSource p.source) (StandsOn other p.source p.key) (edge_place_words other p.source p.key)
            p.place p.word p.moment v z (as_edge_word other v p a) w (pack next 0 (tag_of p.word)) g word_is
            (mark_of-pack next 0 (tag_of p.word) small (omega arith)));
      } in
      subst (λ (y : EdgePositionValue). IsEdgeUnlinked p v w x y) (sym is) made
