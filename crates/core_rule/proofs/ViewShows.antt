-- How a token's view goes on by its steps, and what it shows of the nodes that its pass has met.
use Rattle.std.proofs.Common.{Option, ◌≡◌, ◌≢◌, ℕ, ◌%◌, ◌^◌, ◌<◌, ◌≤◌, Bool, true, false, cond, List, [], ◌∷◌, ◌++◌}
use Rattle.std.proofs.Common.{Some, None, length, take, append-nil, inl, inr, refl, sym, ap, ◌∙◌, subst, arith, ⊎_elim}
use Rattle.std.specs.Prelude.{slice_get, is_some}
use Rattle.packed_link.specs.Link.{pack, index_of, mark_of, tag_of, mark_bit}
use Rattle.packed_link.specs.Layout.{Sizes, IsLayout, bucket_at, link_at, second_at, third_at}
use Rattle.packed_link.specs.declared.link.Life.{Life}
use Rattle.core_journal.specs.Event.{raises}
use Rattle.core_journal.specs.declared.event.Kind.TheVariants.{Announce, Withdraw, Raise}
use Rattle.core_journal.specs.declared.event.Event.{Event}
use Rattle.core_journal.specs.GraphOf.{present_key}
use Rattle.core_journal.specs.Life.{key_of, link_of, edge_linked, edge_marked, vertex_marked}
use Rattle.core_journal.specs.Machine.{word_at}
use Rattle.core_journal.specs.Prefix.{IsPrefix}
use Rattle.core_journal.specs.Reuse.{pass_in}
use Rattle.core_journal.specs.State.{Pass}
use Rattle.core_journal.proofs.KeptLives.{linked-link}
use Rattle.core_journal.proofs.Lists.{get_front, get_here, get_short, take_front, take_here, prefix_refl, prefix_snoc}
use Rattle.core_journal.proofs.Lists.{prefix_trans}
use Rattle.core_journal.proofs.States.{count-length}
use Rattle.core_lists.specs.Chains.{life_in}
use Rattle.core_kept.specs.Counts.{made, most_raises}
use Rattle.core_kept.specs.Edges.{IsRaisedFor}
use Rattle.core_kept.specs.Facts.{HasMet, IsSamePass}
use Rattle.core_rule.specs.Fronts.{IsLifeAt, MetVertex, MetEdge, key_in, IsVertexBelow, IsVertexAbove, IsEdgeBelow}
use Rattle.core_rule.specs.Fronts.{IsEdgeAbove, IsBeforeVertex, IsBeforeEdge, IsVertexLink, IsEdgeLink, LeadsToVertex}
use Rattle.core_rule.specs.Fronts.{LeadsToEdge, MayRaise}
use Rattle.core_kept.specs.Kept.{IsKept, IsQuiet}
use Rattle.core_kept.specs.Nodes.{node_in, IsUsed, IsLinkedVertex, IsLinkedEdge}
use Rattle.core_rule.specs.Plays.{IsSound, Looked, Met, Replied, Won, Stored}
use Rattle.graph_kinds.specs.declared.entry.Entry.{Entry}
use Rattle.core_rule.specs.Views.{moved_on, Spares, Steps, GoesOn, IsVertexIn, IsVertexBehind, IsEdgeIn, IsEdgeBehind}
use Rattle.core_rule.specs.Views.{IsEdgeShown}
use Rattle.core_lists.specs.Walks.{LeadsTo, IsMetFirst, IsMetBehind, IsMetIn}
use Rattle.core_rule.specs.declared.view.View.{View}
use Rattle.core_kept.proofs.Announcements.{announcements}
use Rattle.core_kept.proofs.Contents.{contents}
use Rattle.core_lists.proofs.LowerCounters.{unstored_met}
use Rattle.core_kept.proofs.EdgeEnds.{ends_linked}
use Rattle.core_kept.proofs.Induction.{past_kept}
use Rattle.core_kept.proofs.LinkWords.{used_link}
use Rattle.core_kept.proofs.MarkedWords.{marked_link_stays}
use Rattle.core_lists.proofs.MetWordsLead.{walk_head, walk_link, walk_list}
use Rattle.core_kept.proofs.MetWords.{met_used, still_met, key_stays}
use Rattle.core_kept.proofs.Named.{life_is, named}
use Rattle.core_kept.proofs.OwnFacts.{pass_stays}
use Rattle.core_kept.proofs.OwnMet.{key_word_is, met_linked}
use Rattle.core_lists.proofs.EventKeepsRest.{allowed_as, pass_kept}
use Rattle.core_kept.proofs.MetLives.{IsSameLinked}

-- a view that differs by its front and its last event alone
module _ (v w : View) (last : ℕ) (is : w ≡ moved_on v w.front last) where
  as_moved : w ≡ moved_on v w.front w.last
  as_moved = is ∙ ap (λ (k : ℕ). moved_on v w.front k) (sym (ap (λ (u : View). u.last) is))

  kept_of : IsSound w → IsKept v.sizes w.front
  kept_of s = subst (λ (z : Sizes). IsKept z w.front) (ap (λ (u : View). u.sizes) is) s.kept

-- a load is a step without an event
pub look_steps : (v : View) (place found : ℕ) (w : View) → v.numbered ≡ true → IsSound v → Looked v place found w
    → Steps v None w
look_steps v place found w has s l =
    let quiet : IsQuiet w.front v.number v.last = subst (λ (n : ℕ). IsQuiet w.front n v.last)
    (ap (λ (u : View). u.number) l.view)
    (subst (λ (k : ℕ). IsQuiet w.front w.number k) (ap (λ (u : View). u.last) l.view)
    (l.sound.quiet (ap (λ (u : View). u.numbered) l.view ∙ has))) in
    let kept = kept_of v w v.last l.view l.sound in
    record {
      view = as_moved v w v.last l.view;
      grown = w.front;
      reaches = record
          { kept = kept; front = l.grows; quiet = quiet; old = s.old has };
      front = sym
          (append-nil w.front);
      kept = kept;
    }

-- so is a load that adds an entry, but for the book
pub reply_steps : (v : View) (entry : Entry) (w : View) → v.numbered ≡ true → IsSound v → Replied v entry w
    → Steps v None (record w { book = v.book })
reply_steps v entry w has s l =
    look_steps v 0 (word_at v.sizes w.front 0) (record w { book = v.book }) has s record {
      grows = l.grows;
      word = refl;
      count = λ _ at. absurd (omega (arith, at));
      sound = record { kept = l.sound.kept; quiet = l.sound.quiet; old = l.sound.old; others = l.sound.others };
      view = ap (λ (u : View). record u { book = v.book }) l.view;
    }

-- so is a load behind a join, but for the other's front
pub meet_steps : (v w : View) → v.numbered ≡ true → IsSound v → Met v w → Steps v None (record w { met = v.met })
meet_steps v w has s l =
    look_steps v 0 (word_at v.sizes w.front 0) (record w { met = v.met }) has s record {
      grows = l.grows;
      word = refl;
      count = λ _ at. absurd (omega (arith, at));
      sound = record { kept = l.sound.kept; quiet = l.sound.quiet; old = l.sound.old; others = l.sound.others };
      view = ap (λ (u : View). record u { met = v.met }) l.view;
    }

-- a store is one with its event, and so is a won step
pub store_steps : (v : View) (e : Event) (w : View) → v.numbered ≡ true → IsSound v → Stored v e w → Steps v (Some e) w
store_steps v e w has s t =
    let kept = kept_of v w (length w.front) t.view t.sound in
    let old = past_kept v.sizes t.grown e (subst (IsKept v.sizes) t.front kept) in
    record {
      view = as_moved v w (length w.front) t.view;
      grown = t.grown;
      reaches = record
          { kept = old; front = t.grows; quiet = t.quiet; old = s.old has };
      front = t.front;
      kept = kept;
    }

pub win_steps : (v : View) (place found : ℕ) (e : Event) (w : View) → v.numbered ≡ true → IsSound v
    → Won v place found e w → Steps v (Some e) w
win_steps v place found e w has s t = store_steps v e w has s record
    { grown = t.grown; grows = t.grows; front = t.front; quiet = t.quiet; sound = t.sound; view = t.view }

-- what holds before the step's own event, and behind it, holds of the new front
pub through : (v w : View) (own : Option Event) (t : Steps v own w) (P : List Event → Type 0) (Q : Event → Type 0)
    → Spares Q own → P t.grown → ((e : Event) → Q e → IsKept v.sizes (t.grown ++ e ∷ []) → P t.grown → P
    (t.grown ++ e ∷ [])) → P w.front
through v w None t P Q spares p step = subst P (sym (t.front ∙ append-nil t.grown)) p
through v w (Some e) t P Q spares p step = subst P (sym t.front)
    (step e spares (subst (IsKept v.sizes) t.front t.kept) p)

-- the old front begins the new one
pub step_grows : (v w : View) (own : Option Event) (t : Steps v own w) → IsPrefix v.front w.front
step_grows v w own t = through v w own t (IsPrefix v.front) (λ _. Unit {0}) (nothing own) t.reaches.front
    (λ e _ _ p. prefix_trans v.front t.grown (t.grown ++ e ∷ []) p (prefix_snoc t.grown e))
  where
    nothing : (o : Option Event) → Spares (λ _. Unit {0}) o
    nothing None = tt
    nothing (Some e) = tt

-- the new view is of the same table and number
pub step_view : (v w : View) (own : Option Event) → Steps v own w → (w.sizes ≡ v.sizes) × (w.number ≡ v.number) ×
    (w.numbered ≡ v.numbered) × IsKept w.sizes w.front × IsPrefix v.front w.front
step_view v w own t =
    let sizes : w.sizes ≡ v.sizes = ap (λ (u : View). u.sizes) t.view in (
      sizes,
      ap (λ (u : View). u.number) t.view,
      ap (λ (u : View). u.numbered) t.view,
      subst
          (λ (z : Sizes). IsKept z w.front) (sym sizes) t.kept,
      step_grows v w own t,
    )

pub step_last : (v w : View) (e : Event) (t : Steps v (Some e) w) → (w.front ≡ t.grown ++ e ∷ []) × IsKept v.sizes
    (t.grown ++ e ∷ [])
step_last v w e t = (t.front, subst (IsKept v.sizes) t.front t.kept)

-- the pass stays, but where one is announced or withdrawn
pub step_goes_on : (v w : View) (own : Option Event) → Steps v own w → Spares
    (λ (e : Event). (e.kind ≢ Announce) × (e.kind ≢ Withdraw)) own → GoesOn v w
step_goes_on v w own t spares = record {
  view = t.view;
  grows = step_grows v w own t;
  kept = t.kept;
  pass = through v w own t (λ (j : List Event). pass_in v.sizes j v.number ≡ pass_in v.sizes v.front v.number)
      (λ (e : Event). (e.kind ≢ Announce) × (e.kind ≢ Withdraw)) spares
      (pass_stays v.sizes v.number v.last v.front t.grown t.reaches.front t.reaches.kept t.reaches.quiet t.reaches.old)
      (λ e q kept p. pass_kept v.sizes t.grown e kept q.0 q.1 v.number ∙ p);
}

-- one step after another
pub goes_further : (u v w : View) → GoesOn u v → GoesOn v w → GoesOn u w
goes_further u v w a b =
    let is : w ≡ moved_on u w.front w.last = b.view ∙ ap (λ (y : View). moved_on y w.front w.last) a.view in
    let sizes : v.sizes ≡ u.sizes = ap (λ (y : View). y.sizes) a.view in
    let number : v.number ≡ u.number = ap (λ (y : View). y.number) a.view in
    let pass : pass_in u.sizes w.front u.number ≡ pass_in u.sizes v.front u.number =
    subst (λ (n : ℕ). pass_in u.sizes w.front n ≡ pass_in u.sizes v.front n) number
    (subst (λ (z : Sizes). pass_in z w.front v.number ≡ pass_in z v.front v.number) sizes b.pass) in
    record {
      view = is;
      grows = prefix_trans u.front v.front w.front a.grows b.grows;
      kept = subst (λ (z : Sizes). IsKept z w.front) sizes b.kept;
      pass = pass ∙ a.pass;
    }

-- what a view has met, a later view of the same pass has met
module _ (v : View) (z : IsLayout v.sizes) (front : List Event) (last : ℕ) (grows : IsPrefix v.front front)
    (kept : IsKept v.sizes front) (pass : pass_in v.sizes front v.number ≡ pass_in v.sizes v.front v.number) where
  same_pass : (pass_in v.sizes v.front v.number).is_open ≡ true → IsSamePass v.sizes v.front front v.number
  same_pass o = record {
    before = grows;
    open_still = ap (λ (q : Pass). q.is_open) pass ∙ o;
    since = ap
        (λ (q : Pass). q.since) pass;
  }

  met_on : (x : ℕ) → HasMet v.sizes v.front v.number x → HasMet v.sizes front v.number x × IsSameLinked
      (node_in v.sizes v.front x) (node_in v.sizes front x)
  met_on x m = still_met v.sizes z v.front front kept v.number x (same_pass m.pass) m

  vertex_on : (x : Life) → MetVertex v x → MetVertex (moved_on v front last) x
  vertex_on x m = let s = met_on x.index m.met in record {
    life = record
        { there = m.life.there; tag = m.life.tag ∙ sym s.1.tag };
    met = s.0;
    vertex = s.1.vertex ∙ m.vertex;
  }

  edge_on : (source x : Life) → MetEdge v source x → MetEdge (moved_on v front last) source x
  edge_on source x m = let s = met_on x.index m.met in record {
    life = record { there = m.life.there; tag = m.life.tag ∙ sym s.1.tag };
    met = s.0;
    edge = s.1.vertex
        ∙ m.edge;
    from = s.1.source ∙ m.from;
  }

  key_on : (x : ℕ) → x < v.sizes.nodes → HasMet v.sizes v.front v.number x → key_in
      (moved_on v front last) x ≡ key_in v x
  key_on x there m = key_stays v.sizes z v.front front kept v.number x (same_pass m.pass) m there

  dead_on : (x : ℕ) → x < v.sizes.nodes → HasMet v.sizes v.front v.number x → mark_of
      (word_at v.sizes v.front (link_at v.sizes x)) ≡ 1 → word_at v.sizes front
      (link_at v.sizes x) ≡ word_at v.sizes v.front (link_at v.sizes x)
  dead_on x there m dead = let s = met_on x m in marked_link_stays v.sizes z x v.front front grows kept m.fresh dead
      s.1.tag (unstored_met v.sizes z front kept v.number x there s.0)

  raise_on : (x : Life) → MayRaise v x → made raises v.number front < most_raises → MayRaise (moved_on v front last) x
  raise_on x m few = record {
    vertex = vertex_on x m.vertex;
    moment = m.moment;
    before = prefix_trans m.moment v.front front m.before grows;
    since = let same = ap (λ (q : Pass). q.since) pass in let h = m.since in omega (arith, same, h);
    edge = m.edge;
    link = m.link;
    linked = m.linked;
    from = m.from;
    unmarked = m.unmarked;
    limit = few;
  }

  raised_on : (edge source : Life) → IsRaisedFor v.sizes v.front v.number edge source
      → IsRaisedFor v.sizes front v.number edge source
  raised_on edge source r =
      let at : slice_get (v.front ++ grows.rest) r.number ≡ Some r.raise = get_front v.front grows.rest r.number r.raise
      r.at in
      let low = get_short v.front r.number r.raise r.at in
      let same : take r.number front ≡ take r.number v.front = ap (take r.number) (sym grows.whole)
      ∙ take_front v.front grows.rest r.number (omega (arith, low)) in
      record {
        number = r.number;
        since = let s = ap (λ (q : Pass). q.since) pass in let h = r.since in omega (arith, s, h);
        raise = r.raise;
        at = subst (λ (j : List Event). slice_get j r.number ≡ Some r.raise) grows.whole at;
        kind = r.kind;
        by = r.by;
        vertex = r.vertex;
        linked = ap (λ (j : List Event). edge_linked j edge) same ∙ r.linked;
      }

module _ (v w : View) (z : IsLayout v.sizes) (g : GoesOn v w) where
  pub vertex_still : (x : Life) → MetVertex v x → MetVertex w x
  vertex_still x m = subst (λ (u : View). MetVertex u x) (sym g.view)
      (vertex_on v z w.front w.last g.grows g.kept g.pass x m)

  pub edge_still : (source x : Life) → MetEdge v source x → MetEdge w source x
  edge_still source x m = subst (λ (u : View). MetEdge u source x) (sym g.view)
      (edge_on v z w.front w.last g.grows g.kept g.pass source x m)

  pub key_still : (x : ℕ) → x < v.sizes.nodes → HasMet v.sizes v.front v.number x → key_in w x ≡ key_in v x
  key_still x there m = subst (λ (u : View). key_in u x ≡ key_in v x) (sym g.view)
      (key_on v z w.front w.last g.grows g.kept g.pass x there m)

  pub dead_still : (x : ℕ) → x < v.sizes.nodes → HasMet v.sizes v.front v.number x → mark_of
      (word_at v.sizes v.front (link_at v.sizes x)) ≡ 1 → word_at w.sizes w.front
      (link_at w.sizes x) ≡ word_at v.sizes v.front (link_at v.sizes x)
  dead_still x there m dead = subst (λ (u : View). word_at u.sizes u.front (link_at u.sizes x) ≡ word_at v.sizes v.front
      (link_at v.sizes x)) (sym g.view) (dead_on v z w.front w.last g.grows g.kept g.pass x there m dead)

  pub below_still : (key place : ℕ) (x : Life) → IsVertexBelow v key place x → IsVertexBelow w key place x
  below_still key place x b = subst (λ (u : View). IsVertexBelow u key place x) (sym g.view)
      (let k = key_on v z w.front w.last g.grows g.kept g.pass x.index b.met.life.there b.met.met in
      record {
        met = vertex_on v z w.front w.last g.grows g.kept g.pass x b.met;
        place_is = b.place_is;
        below = subst
            (λ (n : ℕ). n < key) (sym k) b.below;
        bucket = subst (λ (n : ℕ). n % v.sizes.buckets ≡ key % v.sizes.buckets)
            (sym k) b.bucket;
      })

  pub above_still : (key index : ℕ) → IsVertexAbove v key index → IsVertexAbove w key index
  above_still key index b = subst (λ (u : View). IsVertexAbove u key index) (sym g.view)
      (let k = key_on v z w.front w.last g.grows g.kept g.pass b.life.index b.met.life.there b.met.met in
      record {
        life = b.life;
        is = b.is;
        met = vertex_on v z w.front w.last g.grows g.kept g.pass b.life b.met;
        above =
            subst (λ (i : ℕ). key < key_in (moved_on v w.front w.last) i) b.is
            (subst (λ (n : ℕ). key < n) (sym k) (subst (λ (i : ℕ). key < key_in v i) (sym b.is) b.above));
      })

  pub edge_below_still : (source : Life) (key place : ℕ) (x : Life) → IsEdgeBelow v source key place x
      → IsEdgeBelow w source key place x
  edge_below_still source key place x b = subst (λ (u : View). IsEdgeBelow u source key place x) (sym g.view)
      (let k = key_on v z w.front w.last g.grows g.kept g.pass x.index b.met.life.there b.met.met in
      record {
        met = edge_on v z w.front w.last g.grows g.kept g.pass source x b.met;
        place_is = b.place_is;
        below =
            subst (λ (n : ℕ). n < key) (sym k) b.below;
      })

  pub edge_above_still : (source : Life) (key index : ℕ) → IsEdgeAbove v source key index
      → IsEdgeAbove w source key index
  edge_above_still source key index b = subst (λ (u : View). IsEdgeAbove u source key index) (sym g.view)
      (let k = key_on v z w.front w.last g.grows g.kept g.pass b.life.index b.met.life.there b.met.met in
      record {
        life = b.life;
        is = b.is;
        met = edge_on v z w.front w.last g.grows g.kept g.pass source b.life b.met;
        above = subst (λ (i : ℕ). key < key_in (moved_on v w.front w.last) i) b.is
            (subst (λ (n : ℕ). key < n) (sym k) (subst (λ (i : ℕ). key < key_in v i) (sym b.is) b.above));
      })

  -- so a word that led to such nodes does still
  pub before_vertex_still : (key place : ℕ) → IsBeforeVertex v key place → IsBeforeVertex w key place
  before_vertex_still key place b = ⊎_elim
      (λ (h : place ≡ bucket_at v.sizes (key % v.sizes.buckets)). inl
      (subst (λ (u : View). place ≡ bucket_at u.sizes (key % u.sizes.buckets)) (sym g.view) h))
      (λ (h : (x : Life) × IsVertexBelow v key place x). inr (h.0, below_still key place h.0 h.1)) b

  pub before_edge_still : (source : Life) (key place : ℕ) → IsBeforeEdge v source key place
      → IsBeforeEdge w source key place
  before_edge_still source key place b = ⊎_elim
      (λ (h : place ≡ second_at v.sizes source.index). inl (subst (λ (u : View). place ≡ second_at u.sizes source.index)
      (sym g.view) h))
      (λ (h : (x : Life) × IsEdgeBelow v source key place x). inr (h.0, edge_below_still source key place h.0 h.1)) b

  pub leads_to_vertex_still : (place : ℕ) → LeadsToVertex v place → LeadsToVertex w place
  leads_to_vertex_still place b = ⊎_elim
      (λ (h : (j : ℕ) × (j < v.sizes.buckets) × (place ≡ bucket_at v.sizes j)). inl
      (subst (λ (u : View). (j : ℕ) × (j < u.sizes.buckets) × (place ≡ bucket_at u.sizes j)) (sym g.view) h))
      (λ (h : (x : Life) × IsVertexLink v place x). inr (
        h.0,
        record {
          met = vertex_still h.0 h.1.met;
          place_is = subst (λ (u : View). place ≡ link_at u.sizes h.0.index)
              (sym g.view) h.1.place_is;
        },
      )) b

  pub leads_to_edge_still : (source : Life) (place : ℕ) → LeadsToEdge v source place → LeadsToEdge w source place
  leads_to_edge_still source place b = ⊎_elim
      (λ (h : place ≡ second_at v.sizes source.index). inl (subst (λ (u : View). place ≡ second_at u.sizes source.index)
      (sym g.view) h))
      (λ (h : (x : Life) × IsEdgeLink v source place x). inr (
        h.0,
        record {
          met = edge_still source h.0 h.1.met;
          place_is = subst (λ (u : View). place ≡ link_at u.sizes h.0.index)
              (sym g.view) h.1.place_is;
        },
      )) b

  pub raise_still : (x : Life) → MayRaise v x → made raises w.number w.front < most_raises → MayRaise w x
  raise_still x m few = subst (λ (u : View). MayRaise u x) (sym g.view)
      (raise_on v z w.front w.last g.grows g.kept g.pass x m (subst
      (λ (u : View). made raises u.number w.front < most_raises) g.view few))

  pub raised_still : (edge source : Life) → IsRaisedFor v.sizes v.front v.number edge source
      → IsRaisedFor w.sizes w.front w.number edge source
  raised_still edge source r = subst (λ (u : View). IsRaisedFor u.sizes u.front u.number edge source) (sym g.view)
      (raised_on v z w.front w.last g.grows g.kept g.pass edge source r)

-- where the words of a view lead
leads_map : (word : ℕ) (P Q : ℕ → Type 0) → ((y : ℕ) → P y → Q y) → LeadsTo word P → LeadsTo word Q
leads_map word P Q f h = ⊎_elim (λ n. inl n) (λ (p : P (index_of word)). inr (f (index_of word) p)) h

module _ (v : View) (z : IsLayout v.sizes) (kept : IsKept v.sizes v.front) where
  pub head_shown : (pass_in v.sizes v.front v.number).is_open ≡ true → (j : ℕ) → j < v.sizes.buckets → LeadsTo
      (word_at v.sizes v.front (bucket_at v.sizes j)) (IsVertexIn v j)
  head_shown o j low = leads_map (word_at v.sizes v.front (bucket_at v.sizes j)) (IsMetFirst v.sizes v.front v.number j)
      (IsVertexIn v j)
      (λ y d. record {
        met = record { life = record { there = d.there; tag = refl }; met = d.met; vertex = d.vertex };
        of_bucket = d.bucket;
      }) (walk_head v.sizes z v.front kept v.number o j low)

  pub vertex_link_shown : (x : Life) → MetVertex v x → LeadsTo (word_at v.sizes v.front (link_at v.sizes x.index))
      (IsVertexBehind v x)
  vertex_link_shown x m = leads_map (word_at v.sizes v.front (link_at v.sizes x.index))
      (IsMetBehind v.sizes v.front v.number x.index) (IsVertexBehind v x)
      (λ y d. record {
        met = record {
          life = record { there = d.there; tag = refl };
          met = d.met;
          vertex = d.kind
              ∙ m.vertex;
        };
        rising = d.strictly (inl m.vertex);
        bucket = d.bucket m.vertex;
      })
      (walk_link v.sizes z v.front kept v.number x.index m.life.there m.met)

  pub edge_link_shown : (source x : Life) → MetEdge v source x → LeadsTo
      (word_at v.sizes v.front (link_at v.sizes x.index)) (IsEdgeBehind v source x)
  edge_link_shown source x m = leads_map (word_at v.sizes v.front (link_at v.sizes x.index))
      (IsMetBehind v.sizes v.front v.number x.index) (IsEdgeBehind v source x)
      (λ y d. record {
        met = record {
          life = record { there = d.there; tag = refl };
          met = d.met;
          edge = d.kind
              ∙ m.edge;
          from = d.source m.edge ∙ m.from;
        };
        rising = d.rising;
        strictly = λ live. d.strictly (inr live);
      })
      (walk_link v.sizes z v.front kept v.number x.index m.life.there m.met)

  pub list_shown : (x : Life) → MetVertex v x → LeadsTo (word_at v.sizes v.front (second_at v.sizes x.index))
      (IsEdgeIn v x)
  list_shown x m = leads_map (word_at v.sizes v.front (second_at v.sizes x.index))
      (IsMetIn v.sizes v.front v.number x.index) (IsEdgeIn v x)
      (λ y d. record {
        life = record { there = d.there; tag = refl };
        met = d.met;
        edge = d.edge;
        from = d.source ∙ sym
            (life_is x x.index (node_in v.sizes v.front x.index).tag refl m.life.tag);
      })
      (walk_list v.sizes z v.front kept v.number x.index m.life.there m.met m.vertex)

  -- the link of a node that was met tells its life and its mark
  module _ (x : ℕ) (there : x < v.sizes.nodes) (m : HasMet v.sizes v.front v.number x) where
    link_is : (tag_of (word_at v.sizes v.front (link_at v.sizes x)) ≡ (node_in v.sizes v.front x).tag) ×
        (mark_of (word_at v.sizes v.front (link_at v.sizes x)) ≡ mark_bit (node_in v.sizes v.front x).marked)
    link_is = used_link v.sizes z v.front kept x there (met_used v.sizes v.front v.number x m)

    is_live : mark_of (word_at v.sizes v.front (link_at v.sizes x)) ≡ 0 → (node_in v.sizes v.front x).marked ≡ false
    is_live live = by (node_in v.sizes v.front x).marked (sym link_is.1 ∙ live)
      where
        by : (b : Bool) → mark_bit b ≡ 0 → b ≡ false
        by true h = absurd (omega (arith, h))
        by false h = refl

    is_dead : mark_of (word_at v.sizes v.front (link_at v.sizes x)) ≡ 1 → (node_in v.sizes v.front x).marked ≡ true
    is_dead dead = by (node_in v.sizes v.front x).marked (sym link_is.1 ∙ dead)
      where
        by : (b : Bool) → mark_bit b ≡ 1 → b ≡ true
        by true h = refl
        by false h = absurd (omega (arith, h))

  pub life_shown : (x : Life) → IsLifeAt v x → HasMet v.sizes v.front v.number x.index → tag_of
      (word_at v.sizes v.front (link_at v.sizes x.index)) ≡ x.tag
  life_shown x l m = (link_is x.index l.there m).0 ∙ sym l.tag

  own_life : (x : Life) → IsLifeAt v x → x ≡ life_in v.sizes v.front x.index
  own_life x l = life_is x x.index (node_in v.sizes v.front x.index).tag refl l.tag

  module _ (x : Life) (m : MetVertex v x) where
    used : IsUsed (node_in v.sizes v.front x.index).mode
    used = met_used v.sizes v.front v.number x.index m.met

    pub second_shown : tag_of (word_at v.sizes v.front (second_at v.sizes x.index)) ≡ x.tag
    second_shown = (((contents v.sizes z v.front kept).each x.index m.life.there).vertex used m.vertex).second_life
        ∙ sym m.life.tag

    pub key_shown : key_of v.front x ≡ Some (key_in v x.index)
    key_shown = ap (key_of v.front) (own_life x m.life) ∙ (((named v.sizes z v.front kept).each x.index
        m.life.there).vertex_key used m.vertex ∙ ap Some (sym
        (key_word_is v.sizes z v.front kept x.index m.life.there used)))

    mark_shown : vertex_marked v.front x ≡ (node_in v.sizes v.front x.index).marked
    mark_shown = ap (vertex_marked v.front) (own_life x m.life) ∙
        ((named v.sizes z v.front kept).each x.index m.life.there).vertex_mark used m.vertex

    pub present_shown : mark_of (word_at v.sizes v.front (link_at v.sizes x.index)) ≡ 0
        → IsLinkedVertex v.sizes v.front x.index × (present_key v.front x ≡ Some (key_in v x.index))
    present_shown live = (
      record { linked = met_linked v.sizes z v.front kept v.number x.index m.life.there m.met live; vertex = m.vertex },
      ap (λ (b : Bool). cond b None (key_of v.front x)) (mark_shown ∙ is_live x.index m.life.there m.met live)
          ∙ key_shown,
    )

    pub absent_shown : mark_of (word_at v.sizes v.front (link_at v.sizes x.index)) ≡ 1 →
        (vertex_marked v.front x ≡ true) × (present_key v.front x ≡ None)
    absent_shown dead = let marked = mark_shown ∙ is_dead x.index m.life.there m.met dead in
        (marked, ap (λ (b : Bool). cond b None (key_of v.front x)) marked)

  module _ (source x : Life) (m : MetEdge v source x) where
    edge_used : IsUsed (node_in v.sizes v.front x.index).mode
    edge_used = met_used v.sizes v.front v.number x.index m.met

    pub edge_shown : IsEdgeShown v source x
    edge_shown =
        let n = ((named v.sizes z v.front kept).each x.index m.life.there).edge_link edge_used m.edge in
        let c = ((contents v.sizes z v.front kept).each x.index m.life.there).edge edge_used m.edge in
        let is : link_of v.front x ≡ Some n.link = ap (link_of v.front) (own_life x m.life) ∙ n.is in
        let weight : n.link.weight ≡ word_at v.sizes v.front (third_at v.sizes x.index) = n.of_weight
        ∙ sym c.weight_word in
        record {
          link = n.link;
          is = is;
          from = n.from ∙ m.from;
          key = n.of_key ∙ sym c.key_word;
          target = c.target_word ∙ ap (λ (y : Life). pack y.index 0 y.tag) (sym n.to);
          target_key = (ends_linked v.sizes z v.front kept).target x n.link is;
          weight = weight;
          some = subst (λ (k : ℕ). 1 ≤ k) (sym n.of_weight) c.some;
          weight_fits = subst (λ (k : ℕ). k < 2 ^ 32) (sym n.of_weight) c.weight_fits;
        }

    edge_mark_shown : edge_marked v.front x ≡ (node_in v.sizes v.front x.index).marked
    edge_mark_shown = ap (edge_marked v.front) (own_life x m.life) ∙
        ((named v.sizes z v.front kept).each x.index m.life.there).edge_mark edge_used m.edge

    pub edge_live_shown : mark_of (word_at v.sizes v.front (link_at v.sizes x.index)) ≡ 0
        → IsLinkedEdge v.sizes v.front x.index × (edge_marked v.front x ≡ false)
    edge_live_shown live = (
      record {
        linked = met_linked v.sizes z v.front kept v.number x.index m.life.there m.met
            live;
        edge = m.edge;
      },
      edge_mark_shown ∙ is_live x.index m.life.there m.met live,
    )

    pub edge_dead_shown : mark_of (word_at v.sizes v.front (link_at v.sizes x.index)) ≡ 1 → edge_marked v.front x ≡ true
    edge_dead_shown dead = edge_mark_shown ∙ is_dead x.index m.life.there m.met dead

    pub may_raise : MetVertex v source → mark_of (word_at v.sizes v.front (link_at v.sizes x.index)) ≡ 0
        → made raises v.number v.front < most_raises → MayRaise v source
    may_raise from live few = let s = edge_shown in record {
      vertex = from;
      moment = v.front;
      before = prefix_refl v.front;
      since = let began = ((announcements v.sizes v.front kept).inside v.number m.met.pass).began in let n =
          count-length v.sizes v.front in omega (arith, began, n);
      edge = x;
      link = s.link;
      linked = s.is;
      from = s.from;
      unmarked = (edge_live_shown live).1;
      limit = few;
    }

-- a raise is for each edge that was linked before it
pub raise_is_for : (sizes : Sizes) (past : List Event) (e : Event) → IsKept sizes (past ++ e ∷ []) → e.kind ≡ Raise →
    (edge : Life) (link : Event) → link_of past edge ≡ Some link → IsRaisedFor sizes
    (past ++ e ∷ []) e.caller edge e.life
raise_is_for sizes past e kept is edge link linked =
    let ok = allowed_as sizes past e kept Raise is in
    let old = past_kept sizes past e kept in
    let began = ((announcements sizes past old).inside e.caller ok.pass).began in
    let n = count-length sizes past in
    let same : (pass_in sizes (past ++ e ∷ []) e.caller).since ≡ (pass_in sizes past e.caller).since = ap
    (λ (q : Pass). q.since) (pass_kept sizes past e kept (λ h. absurd (cc)) (λ h. absurd (cc)) e.caller) in
    record {
      number = length past;
      since = omega (arith, began, n, same);
      raise = e;
      at = get_here past e [];
      kind = is;
      by = refl;
      vertex = refl;
      linked = ap (λ (j : List Event). edge_linked j edge) (take_here past (e ∷ [])) ∙
          (linked-link past edge ∙ ap is_some linked);
    }
