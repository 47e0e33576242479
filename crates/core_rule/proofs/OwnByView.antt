-- What is a token's own by its view is so by its next view, but for what its event does to it.
use Rattle.std.proofs.Common.{◌≡◌, ◌≢◌, ℕ, ◌<◌, Bool, true, false, List, Option, sym, ap, ◌∙◌, subst}
use Rattle.packed_link.specs.Layout.{Sizes, IsLayout}
use Rattle.packed_link.specs.declared.link.Life.{Life}
use Rattle.core_journal.specs.declared.event.Kind.{Kind}
use Rattle.core_journal.specs.declared.event.Kind.TheVariants.{PopFree}
use Rattle.core_journal.specs.declared.event.Event.{Event}
use Rattle.core_journal.specs.Machine.{word_at}
use Rattle.core_journal.specs.State.{Node, state}
use Rattle.core_lists.specs.Chains.{KeepsList}
use Rattle.core_kept.specs.Counts.{made}
use Rattle.core_kept.specs.Facts.{IsHeld, IsKeptSpent}
use Rattle.core_kept.specs.Freezing.{IsSpentVertex, IsFrozenWord}
use Rattle.core_rule.specs.Fronts.{IsLifeAt}
use Rattle.core_kept.specs.Nodes.{node_in, IsFreshWith, IsSpentWith, IsStamped, IsRipe, IsFrozenToEnd, is_listed}
use Rattle.core_rule.specs.Stretches.{GivesNone, GivesOther}
use Rattle.core_rule.specs.Views.{Spares, Steps}
use Rattle.core_rule.specs.declared.view.View.{View}
use Rattle.core_kept.proofs.Callers.{made_quiet, made_none}
use Rattle.core_lists.proofs.ClosedHeadStays.{finished_stays, old_finished}
use Rattle.core_rule.proofs.FrozenWordStays.{list_steps, frozen_beyond, frozen_next_step}
use Rattle.core_lists.proofs.SpentVertexKeepsList.{own_list_stays}
use Rattle.core_kept.proofs.OwnFacts.{fresh_stays, none_fresh_stays}
use Rattle.core_kept.proofs.OwnSpent.{spent_stays}
use Rattle.core_lists.proofs.EventKeepsRest.{fresh_kept, spent_kept, spent_still, none_kept}
use Rattle.core_lists.proofs.RipeningNodes.{stamp_beyond, stamp_behind, ripe_beyond, ripe_behind}
use Rattle.core_rule.proofs.ViewShows.{through, step_grows}

-- an event is about another node, or doesn't give this one back
abbrev IsElsewhere : ℕ → Event → Type 0
IsElsewhere x e = x ≢ e.life.index

module _ (v w : View) (own : Option Event) (t : Steps v own w) where
  -- a fact of a journal that speaks of the sizes and the number is one of the new view
  at_view : (P : Sizes → List Event → ℕ → Type 0) → P v.sizes w.front v.number → P w.sizes w.front w.number
  at_view P p = subst (λ (u : View). P u.sizes u.front u.number) (sym t.view) p

  pub own_none_kept : Spares (λ (e : Event). e.kind ≢ PopFree) own →
      ((x : ℕ) → x < v.sizes.nodes → IsFreshWith v.sizes v.front v.number x → ⊥) → (x : ℕ) → x < w.sizes.nodes
      → IsFreshWith w.sizes w.front w.number x → ⊥
  own_none_kept spares none = at_view (λ (s : Sizes) (j : List Event) (n : ℕ). (x : ℕ) → x < s.nodes
      → IsFreshWith s j n x → ⊥)
      (through v w own t (λ (j : List Event). (x : ℕ) → x < v.sizes.nodes → IsFreshWith v.sizes j v.number x → ⊥)
      (λ (e : Event). e.kind ≢ PopFree) spares
      (none_fresh_stays v.sizes v.number v.last v.front t.grown t.reaches.front t.reaches.kept t.reaches.quiet
      t.reaches.old none)
      (λ e other kept h. none_kept v.sizes t.grown e kept other v.number h))

  -- the counts of events of other kinds
  pub own_made_same : (test : Kind → Bool) → Spares (λ (e : Event). test e.kind ≡ false) own
      → made test w.number w.front ≡ made test v.number v.front
  own_made_same test spares = at_view (λ (s : Sizes) (j : List Event)
      (n : ℕ). made test n j ≡ made test v.number v.front)
      (through v w own t (λ (j : List Event). made test v.number j ≡ made test v.number v.front)
      (λ (e : Event). test e.kind ≡ false) spares
      (made_quiet test v.number v.last v.front t.grown t.reaches.front t.reaches.old t.reaches.quiet)
      (λ e is kept h. made_none test v.number t.grown e is ∙ h))

module _ (v w : View) (own : Option Event) (z : IsLayout v.sizes) (t : Steps v own w) where
  pub own_fresh_kept : (x : ℕ) → x < v.sizes.nodes → Spares (IsElsewhere x) own → IsFreshWith v.sizes v.front v.number x
      → IsFreshWith w.sizes w.front w.number x × IsHeld v.sizes v.front w.front x
  own_fresh_kept x there spares f =
      let h = fresh_stays v.sizes z v.number v.last x there v.front t.grown t.reaches.front t.reaches.kept
      t.reaches.quiet t.reaches.old f in
      let r : IsHeld v.sizes v.front w.front x = through v w own t (λ (j : List Event). IsHeld v.sizes v.front j x)
      (IsElsewhere x) spares h
      (λ e ne kept h.
      let now : IsFreshWith v.sizes t.grown v.number x = record
      { fresh = ap (λ (n : Node). n.mode) h.node ∙ f.fresh; mine = ap (λ (n : Node). n.who) h.node ∙ f.mine } in
      let k = fresh_kept v.sizes t.grown e kept z v.number x there ne now in
      record {
        node = k.node ∙ h.node;
        key = k.key ∙ h.key;
        link = k.link ∙ h.link;
        second = k.second
            ∙ h.second;
        third = k.third ∙ h.third;
      }) in (
        at_view v w own t (λ (s : Sizes) (j : List Event) (n : ℕ). IsFreshWith s j n x) record
            { fresh = ap (λ (n : Node). n.mode) r.node ∙ f.fresh; mine = ap (λ (n : Node). n.who) r.node ∙ f.mine },
        r,
      )

  pub own_spent_kept : (x : ℕ) → x < v.sizes.nodes → Spares (IsElsewhere x) own → IsSpentWith v.sizes v.front v.number x
      → IsKeptSpent v.sizes v.front w.front x
  own_spent_kept x there spares f = through v w own t (λ (j : List Event). IsKeptSpent v.sizes v.front j x)
      (IsElsewhere x) spares
      (spent_stays v.sizes z v.number v.last x there v.front t.grown t.reaches.front t.reaches.kept t.reaches.quiet
      t.reaches.old f)
      (λ e ne kept h.
      let now : IsSpentWith v.sizes t.grown v.number x = record
      { spent = ap (λ (n : Node). n.mode) h.node ∙ f.spent; mine = ap (λ (n : Node). n.who) h.node ∙ f.mine } in
      let k = spent_kept v.sizes t.grown e kept z v.number x there ne now in
      record { node = k.node ∙ h.node; key = k.key ∙ h.key; link = k.link ∙ h.link; closed = k.closed ∙ h.closed })

  -- a node is spent still, in its life
  record IsSpentThere (j : List Event) (x : ℕ) : Type 0 where
    pub spent : IsSpentWith v.sizes j v.number x
    pub tag : (node_in v.sizes j x).tag ≡ (node_in v.sizes v.front x).tag
    pub vertex : (node_in v.sizes j x).vertex ≡ (node_in v.sizes v.front x).vertex

  spent_there : (x : ℕ) → x < v.sizes.nodes → Spares (GivesOther x) own → IsSpentWith v.sizes v.front v.number x
      → IsSpentThere w.front x
  spent_there x there spares f =
      let h = spent_stays v.sizes z v.number v.last x there v.front t.grown t.reaches.front t.reaches.kept
      t.reaches.quiet t.reaches.old f in
      through v w own t (λ (j : List Event). IsSpentThere j x) (GivesOther x) spares
      record {
        spent = record {
          spent = ap (λ (n : Node). n.mode) h.node ∙ f.spent;
          mine = ap
              (λ (n : Node). n.who) h.node ∙ f.mine;
        };
        tag = ap (λ (n : Node). n.tag) h.node;
        vertex = ap
            (λ (n : Node). n.vertex) h.node;
      }
      (λ e other kept p. let k = spent_still v.sizes t.grown e kept z v.number x other p.spent in record
      { spent = k.0; tag = k.1 ∙ p.tag; vertex = k.2 ∙ p.vertex })

  pub own_spent_still : (x : Life) → Spares (GivesOther x.index) own → IsLifeAt v x
      → IsSpentWith v.sizes v.front v.number x.index
      → IsSpentWith w.sizes w.front w.number x.index × IsLifeAt w x ×
      ((node_in w.sizes w.front x.index).vertex ≡ (node_in v.sizes v.front x.index).vertex)
  own_spent_still x spares l f =
      let r = spent_there x.index l.there spares f in (
        at_view v w own t (λ (s : Sizes) (j : List Event) (n : ℕ). IsSpentWith s j n x.index) r.spent,
        subst (λ (u : View). IsLifeAt u x) (sym t.view) record { there = l.there; tag = l.tag ∙ sym r.tag },
        at_view v w own t (λ (s : Sizes) (j : List Event) (n : ℕ). (node_in s j x.index).vertex ≡
            (node_in v.sizes v.front x.index).vertex) r.vertex,
      )

  pub own_stamp_still : (x stamp : ℕ) → Spares (GivesOther x) own → IsStamped v.sizes v.front v.number x stamp
      → IsStamped w.sizes w.front w.number x stamp
  own_stamp_still x stamp spares f = at_view v w own t (λ (s : Sizes) (j : List Event) (n : ℕ). IsStamped s j n x stamp)
      (through v w own t (λ (j : List Event). IsStamped v.sizes j v.number x stamp) (GivesOther x) spares
      (stamp_beyond v.sizes z v.number v.last x stamp v.front t.grown t.reaches.front t.reaches.kept t.reaches.quiet
      t.reaches.old f)
      (λ e other kept h. stamp_behind v.sizes z t.grown e kept v.number x stamp other h))

  pub own_ripe_still : (x : ℕ) → Spares (GivesOther x) own → IsRipe v.sizes v.front v.number x
      → IsRipe w.sizes w.front w.number x
  own_ripe_still x spares f = at_view v w own t (λ (s : Sizes) (j : List Event) (n : ℕ). IsRipe s j n x)
      (through v w own t (λ (j : List Event). IsRipe v.sizes j v.number x) (GivesOther x) spares
      (ripe_beyond v.sizes z v.number v.last x v.front t.grown t.reaches.front t.reaches.kept t.reaches.quiet
      t.reaches.old f)
      (λ e other kept h. ripe_behind v.sizes z t.grown e kept v.number x other h))

  -- the lists that are frozen to their ends stay so
  pub own_end_still : (x : ℕ) → x < v.sizes.nodes → Spares (GivesOther x) own → IsSpentWith v.sizes v.front v.number x
      → IsFrozenToEnd v.sizes v.front x → IsFrozenToEnd w.sizes w.front x
  own_end_still x there spares f done = at_view v w own t (λ (s : Sizes) (j : List Event) (n : ℕ). IsFrozenToEnd s j x)
      (finished_stays v.sizes z x v.front w.front (step_grows v w own t) t.kept (spent_there x there spares f).tag done)

  pub own_ends_still : (x : ℕ) → x < v.sizes.nodes → Spares (GivesOther x) own → IsSpentWith v.sizes v.front v.number x
      → ((y : ℕ) → y < v.sizes.nodes → is_listed (state v.sizes v.front) y x ≡ true → IsFrozenToEnd v.sizes v.front y) →
      (y : ℕ) → y < w.sizes.nodes → is_listed (state w.sizes w.front) y x ≡ true → IsFrozenToEnd w.sizes w.front y
  own_ends_still x there spares f done = at_view v w own t (λ (s : Sizes) (j : List Event) (n : ℕ). (y : ℕ)
      → y < s.nodes → is_listed (state s j) y x ≡ true → IsFrozenToEnd s j y)
      (old_finished v.sizes z x v.front w.front (step_grows v w own t) t.kept (λ h. let m = f.spent in absurd (cc))
      (spent_there x there spares f).tag done)

  -- the list of a spent vertex, and its frozen words
  record IsListThere (j : List Event) (x : ℕ) : Type 0 where
    pub spent : IsSpentVertex v.sizes j v.number x
    pub list : KeepsList v.sizes j x

  list_there : (x : ℕ) → Spares GivesNone own → IsSpentVertex v.sizes v.front v.number x → KeepsList v.sizes v.front x
      → IsListThere w.front x
  list_there x spares f k =
      let h = own_list_stays v.sizes z v.number v.last x v.front t.grown t.reaches.front t.reaches.kept t.reaches.quiet
      t.reaches.old f k in
      through v w own t (λ (j : List Event). IsListThere j x) GivesNone spares record { spent = h.0; list = h.1 }
      (λ e q kept p. let r = list_steps v.sizes z t.grown e v.number x kept (λ is. absurd (q.0 is))
      (λ is. absurd (q.1 is)) p.spent p.list in record { spent = r.0; list = r.1 })

  pub own_list_still : (x : ℕ) → Spares GivesNone own → IsSpentVertex v.sizes v.front v.number x
      → KeepsList v.sizes v.front x → IsSpentVertex w.sizes w.front w.number x × KeepsList w.sizes w.front x
  own_list_still x spares f k =
      let r = list_there x spares f k in (
        at_view v w own t (λ (s : Sizes) (j : List Event) (n : ℕ). IsSpentVertex s j n x) r.spent,
        at_view v w own t
            (λ (s : Sizes) (j : List Event) (n : ℕ). KeepsList s j x) r.list,
      )

  record IsWordThere (j : List Event) (x place : ℕ) : Type 0 where
    pub spent : IsSpentVertex v.sizes j v.number x
    pub list : KeepsList v.sizes j x
    pub frozen : IsFrozenWord v.sizes j x place
    pub word : word_at v.sizes j place ≡ word_at v.sizes v.front place

  pub own_word_still : (x place : ℕ) → Spares GivesNone own → IsSpentVertex v.sizes v.front v.number x
      → KeepsList v.sizes v.front x → IsFrozenWord v.sizes v.front x place
      → IsFrozenWord w.sizes w.front x place × (word_at w.sizes w.front place ≡ word_at v.sizes v.front place)
  own_word_still x place spares f k frozen =
      let h = own_list_stays v.sizes z v.number v.last x v.front t.grown t.reaches.front t.reaches.kept t.reaches.quiet
      t.reaches.old f k in
      let b = frozen_beyond v.sizes z v.number v.last x place v.front t.grown t.reaches.front t.reaches.kept
      t.reaches.quiet t.reaches.old f k frozen in
      let r = through v w own t (λ (j : List Event). IsWordThere j x place) GivesNone spares record
      { spent = h.0; list = h.1; frozen = b.0; word = b.1 }
      (λ e q kept p.
      let l = list_steps v.sizes z t.grown e v.number x kept (λ is. absurd (q.0 is))
      (λ is. absurd (q.1 is)) p.spent p.list in
      let n = frozen_next_step v.sizes z t.grown e v.number x kept (λ is. absurd (q.0 is))
      (λ is. absurd (q.1 is)) p.spent p.list place p.frozen in
      record { spent = l.0; list = l.1; frozen = n.0; word = n.1 ∙ p.word }) in (
        at_view v w own t (λ (s : Sizes) (j : List Event) (n : ℕ). IsFrozenWord s j x place) r.frozen,
        at_view v w own t
            (λ (s : Sizes) (j : List Event) (n : ℕ). word_at s j place ≡ word_at v.sizes v.front place) r.word,
      )
