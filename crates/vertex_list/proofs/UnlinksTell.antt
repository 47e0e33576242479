-- What unlinking a marked vertex tells: the exchange on the word before it.
use Rattle.std.proofs.Common.{◌≡◌, ℕ, ◌<◌, Bool, true, false, List, [], ◌∷◌, ◌++◌, Some, refl, sym, ap, ap₂, ◌∙◌}
use Rattle.std.proofs.Common.{subst, arith}
use Rattle.packed_link.specs.Link.{pack, index_of, mark_of, tag_of}
use Rattle.packed_link.specs.Layout.{Sizes, IsLayout, link_at}
use Rattle.packed_link.specs.declared.link.Life.{Life}
use Rattle.packed_link.proofs.Links.{mark_of-pack}
use Rattle.core_journal.specs.declared.event.Kind.{Kind}
use Rattle.core_journal.specs.declared.event.Kind.TheVariants.{UnlinkVertex}
use Rattle.core_journal.specs.declared.event.Event.{Event}
use Rattle.core_journal.specs.Machine.{word_at}
use Rattle.core_journal.specs.State.{Linked, Spent, Node, State, state, state_by}
use Rattle.core_kept.specs.Freezing.{IsSpentVertex}
use Rattle.core_kept.specs.Kept.{AllowedAs, IsKept}
use Rattle.core_kept.specs.Nodes.{node_in, IsSpentWith}
use Rattle.core_kept.specs.Vertices.{IsUnlinkVertex}
use Rattle.core_lists.proofs.SpentWordsLead.{unclosed}
use Rattle.core_journal.proofs.States.{state-snoc}
use Rattle.core_kept.proofs.Induction.{past_kept, last_allowed}
use Rattle.core_kept.proofs.OwnSpent.{spent_stays}
use Rattle.core_lists.specs.Chains.{KeepsList}
use Rattle.core_lists.proofs.EventKeepsRest.{written, event_life, vertex_spent}
use Rattle.core_lists.proofs.FrozenToEndIsList.{has_keeps}
use Rattle.core_rule.specs.Fronts.{IsLifeAt, MayUnlinkVertex, MetVertex}
use Rattle.core_rule.specs.OwnEvents.{unlink_vertex_event}
use Rattle.core_rule.specs.Plays.{IsSound, Won}
use Rattle.core_rule.specs.Views.{Steps}
use Rattle.core_rule.specs.declared.view.View.{View}
use Rattle.core_rule.proofs.OwnStretch.{goes_opened}
use Rattle.core_rule.proofs.ViewShows.{dead_still, life_shown}
use Rattle.core_stretches.proofs.MakesAddUp.{makes_won}
use Rattle.core_stretches.proofs.MakesTell.{makes_goes}
use Rattle.core_stretches.proofs.WordsLeadOn.{goes_number, goes_sizes, word_written}
use Rattle.vertex_list.specs.Changes.{IsUnlinked}
use Rattle.vertex_list.specs.Positions.{PositionValue, IsPosition, LeadsToDead}
use Rattle.vertex_list.proofs.PositionsGoOn.{IsVertexAt, IsPlaceOf, as_position, as_word, place_leads_on, place_still}
use Rattle.vertex_list.proofs.PositionsGoOn.{position_words}

-- a marked vertex to which a position leads, by the life that the link tells
pub record IsDeadSeen (v : View) (p : PositionValue) (x : Life) : Type 0 where
  pub leads : index_of p.word ≡ x.index
  pub vertex : MetVertex v x
  pub link_is : word_at v.sizes v.front (link_at v.sizes x.index) ≡ p.link
  pub dead : mark_of (word_at v.sizes v.front (link_at v.sizes x.index)) ≡ 1

pub dead_seen : (v : View) (p : PositionValue) (index tag : ℕ) → IsLayout v.sizes → IsSound v → LeadsToDead v p
    → index ≡ index_of p.word → tag ≡ tag_of p.link → IsDeadSeen v p (record { index = index; tag = tag })
dead_seen v p index tag z s d index_is tag_is =
    let x = d.vertex in
    let same : record { index = index; tag = tag } ≡ x = ap₂ (λ (i t : ℕ). record { index = i; tag = t })
    (index_is ∙ d.leads)
    (tag_is ∙ (ap tag_of d.link_is ∙ life_shown v z s.kept x d.met.life d.met.met)) in
    subst (λ (y : Life). IsDeadSeen v p y) (sym same)
    (record { leads = d.leads; vertex = d.met; link_is = sym d.link_is; dead = d.dead })

-- the list of a vertex that is unlinked is open at its head
open_behind : (sizes : Sizes) → IsLayout sizes → (past : List Event) (e : Event) → IsKept sizes (past ++ e ∷ [])
    → e.kind ≡ UnlinkVertex → (state sizes (past ++ e ∷ [])).frozen e.life.index ≡ false
open_behind sizes z past e kept is =
    let ok : IsUnlinkVertex sizes past e = subst (λ (k : Kind). AllowedAs k sizes past e) is
    (last_allowed sizes past e kept).as_kind in
    ap (λ (s : State). s.frozen e.life.index) (state-snoc sizes past e)
    ∙ (ap (λ (k : Kind). (state_by k sizes e (state sizes past)).frozen e.life.index) is
    ∙ unclosed sizes z past (past_kept sizes past e kept) e.life.index ok.linked.linked)

module _ (passed : Bool) (v : View) (p : PositionValue) (x : Life) (next : ℕ) (z : IsLayout v.sizes)
    (h : IsPosition passed v p) (d : IsDeadSeen v p x) (next_is : next ≡ index_of p.link) where
  pub may_unlink : MayUnlinkVertex v p.place p.word next x
  may_unlink = record {
    pass = goes_opened h.then v h.goes h.pass;
    before = place_leads_on passed p.key v z p.place
        (place_still passed p.key h.then v (subst IsLayout (goes_sizes h.then v h.goes) z) h.goes p.place h.stands);
    unmarked = h.unmarked;
    leads = d.leads;
    vertex = d.vertex;
    dead = d.dead;
    next_is = next_is ∙ ap index_of (sym d.link_is);
  }

  -- a vertex that is unlinked wasn't spent with the token before
  not_spent : (w : View) (e : Event) → Steps v (Some e) w → e.kind ≡ UnlinkVertex → e.life.index ≡ x.index
      → x.index < v.sizes.nodes → IsSpentWith v.sizes v.front v.number x.index → ⊥
  not_spent w e t is same there f =
      let r = t.reaches in
      let still = spent_stays v.sizes z v.number v.last x.index there v.front t.grown r.front r.kept r.quiet r.old f in
      let ok : IsUnlinkVertex v.sizes t.grown e = subst (λ (k : Kind). AllowedAs k v.sizes t.grown e) is
      (last_allowed v.sizes t.grown e (subst (λ (j : List Event). IsKept v.sizes j) t.front t.kept)).as_kind in
      let was : (node_in v.sizes t.grown x.index).mode ≡ Spent = ap (λ (n : Node). n.mode) still.node ∙ f.spent in
      let linked : (node_in v.sizes t.grown x.index).mode ≡ Linked = ap (λ (y : ℕ). (node_in v.sizes t.grown y).mode)
      (sym same) ∙ ok.linked.linked in
      absurd (cc)

  pub unlinked : (w : View) (q : PositionValue) → v.numbered ≡ true → IsSound v
      → Won v p.place p.word (unlink_vertex_event v p.place p.word next x) w → next < 16777216
      → q ≡ record { key = p.key; place = p.place; word = pack next 0 (tag_of p.word); link = 0; moment = w.front }
      → IsUnlinked p v w x q
  unlinked w q has s won small is =
      let e = unlink_vertex_event v p.place p.word next x in
      let makes = makes_won v w p.place p.word e has s refl won in
      let g = makes_goes v w (e ∷ []) ((λ y. absurd (cc), λ y. absurd (cc)), tt) makes in
      let sizes = goes_sizes v w g in
      let z' : IsLayout w.sizes = subst IsLayout (sym sizes) z in
      let kept : IsKept w.sizes (won.grown ++ e ∷ []) = subst
      (λ (j : List Event). IsKept w.sizes j) won.front won.sound.kept in
      let word_is : word_at w.sizes w.front p.place ≡ pack next 0 (tag_of p.word) = subst
      (λ (j : List Event). word_at w.sizes j p.place ≡ pack next 0 (tag_of p.word)) (sym won.front)
      (written w.sizes won.grown e kept) in
      let spent = vertex_spent w.sizes won.grown e kept z' refl in
      let there : x.index < w.sizes.nodes = subst (λ (y : Sizes). x.index < y.nodes)
      (sym sizes) d.vertex.life.there in
      let life = event_life w.sizes won.grown e kept z' there in
      let link_is : word_at w.sizes w.front (link_at w.sizes x.index) ≡ p.link =
      dead_still v w z g x.index d.vertex.life.there d.vertex.met d.dead ∙ d.link_is in
      let first = makes.steps in
      let made : IsUnlinked p v w x (record {
        key = p.key;
        place = p.place;
        word = pack next 0 (tag_of p.word);
        link = 0;
        moment =
            w.front;
      }) = record {
        leads = d.leads;
        next = next;
        next_is = next_is ∙ ap index_of (sym link_is);
        makes = makes;
        last = record { past = won.grown; front = won.front };
        spent = record {
          life = subst (λ (j : List Event). IsLifeAt (record w { front = j }) x) (sym won.front)
              (record { there = there; tag = life });
          spent = subst (λ (j : List Event). IsSpentVertex w.sizes j w.number x.index) (sym won.front)
              (subst (λ (n : ℕ). IsSpentVertex w.sizes (won.grown ++ e ∷ []) n x.index)
              (sym (goes_number v w g)) spent.0);
          list = subst (λ (j : List Event). KeepsList w.sizes j x.index) (sym won.front)
              (has_keeps w.sizes z' (won.grown ++ e ∷ []) kept x.index spent.1);
        };
        unclosed = subst (λ (j : List Event). (state w.sizes j).frozen x.index ≡ false) (sym won.front)
            (open_behind w.sizes z' won.grown e kept refl);
        new = λ f. not_spent first.0 e first.2 refl refl (subst (λ (y : Sizes). x.index < y.nodes) sizes there) f;
        key = refl;
        place = refl;
        word = refl;
        moment = refl;
        position = λ other a. as_position other p.key p.place (pack next 0 (tag_of p.word)) 0 w.front w
            (word_written IsVertexAt (IsPlaceOf other p.key) (position_words other p.key) p.place p.word p.moment v z
            (as_word other v p a) w (pack next 0 (tag_of p.word)) g word_is
            (mark_of-pack next 0 (tag_of p.word) small (omega arith)));
      } in
      subst (λ (y : PositionValue). IsUnlinked p v w x y) (sym is) made
