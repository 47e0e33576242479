-- A node that was linked says the same of its life for as long as it's in this life: what was linked, and with which
-- words.
use Rattle.std.proofs.Common.{◌≡◌, ◌≢◌, ℕ, ◌≤◌, List, [], ◌∷◌, ◌++◌, true, refl, sym, ap, ◌∙◌, subst, arith}
use Rattle.packed_link.specs.Layout.{Sizes, IsLayout}
use Rattle.core_journal.specs.declared.event.Kind.{Kind}
use Rattle.core_journal.specs.declared.event.Kind.TheVariants.{PopFree, LinkVertex, MarkVertex, UnlinkVertex, LinkEdge}
use Rattle.core_journal.specs.declared.event.Kind.TheVariants.{MarkEdge, UnlinkEdge, FreezeHead, FreezeEdge, StoreFree}
use Rattle.core_journal.specs.declared.event.Kind.TheVariants.{PushFree, ReplaceEdge}
use Rattle.core_journal.specs.declared.event.Event.{Event}
use Rattle.core_journal.specs.Prefix.{IsPrefix}
use Rattle.core_journal.specs.State.{Free, Fresh, Spent, Node, State, put, handed, joined_edge, state_by, state}
use Rattle.core_journal.proofs.States.{state-snoc}
use Rattle.core_kept.specs.Kept.{Allowed, AllowedAs, IsKept}
use Rattle.core_kept.specs.Nodes.{node_in}
use Rattle.core_kept.proofs.LinkWords.{taken}
use Rattle.core_kept.proofs.PastLives.{same_tag}
use Rattle.core_kept.proofs.ReplaceCases.{new_edge_node}
use Rattle.core_kept.proofs.ByKind.{KeepsByKind, put_case, handed_case, marked_state, closed_state, holds_onward}

-- what a node says of its life, which isn't fresh
pub record SaysSame (n v : Node) : Type 0 where
  pub fresh : v.mode ≢ Fresh
  pub vertex : v.vertex ≡ n.vertex
  pub key : v.key ≡ n.key
  pub source : v.source ≡ n.source

-- a node is in no earlier life, and says the same in this one
pub record IsOfLife (n v : Node) : Type 0 where
  pub low : n.tag ≤ v.tag
  pub same : v.tag ≡ n.tag → SaysSame n v

module _ (n : Node) where
  of_put : (s : State) (i x : ℕ) (v : Node) → IsOfLife n (s.node x) → (IsOfLife n (s.node i) → IsOfLife n v)
      → IsOfLife n (put i v s.node x)
  of_put s i x v c new = put_case (λ (u : Node). IsOfLife n u) i v s.node x
      (λ same. new (subst (λ (y : ℕ). IsOfLife n (s.node y)) same c)) (λ _. c)

  of_marked : (v : Node) → IsOfLife n v → IsOfLife n (record v { marked = true })
  of_marked v c = record {
    low = c.low;
    same = λ t. let d = c.same t in record
        { fresh = d.fresh; vertex = d.vertex; key = d.key; source = d.source };
  }

  of_stored : (v : Node) → IsOfLife n v → IsOfLife n (record v { stored = true })
  of_stored v c = record {
    low = c.low;
    same = λ t. let d = c.same t in record
        { fresh = d.fresh; vertex = d.vertex; key = d.key; source = d.source };
  }

  of_free : (v : Node) → IsOfLife n v → IsOfLife n (record v { mode = Free })
  of_free v c = record {
    low = c.low;
    same = λ t. let d = c.same t in record
        { fresh = λ h. absurd (cc); vertex = d.vertex; key = d.key; source = d.source };
  }

  of_spent : (v : Node) (who ended epoch : ℕ) → IsOfLife n v → IsOfLife n
      (record v { mode = Spent; who = who; ended = ended; epoch = epoch })
  of_spent v who ended epoch c = record {
    low = c.low;
    same = λ t. let d = c.same t in record
        { fresh = λ h. absurd (cc); vertex = d.vertex; key = d.key; source = d.source };
  }

  of_handed : (s : State) (v x : ℕ) → IsOfLife n (s.node x) → IsOfLife n ((handed v s).node x)
  of_handed s v x c = handed_case (λ (u : Node). IsOfLife n u) s v x c (λ _ _ _. of_spent (s.node x) _ _ _ c)

  -- a node that was fresh is in a later life
  of_fresh : (v u : Node) → v.mode ≡ Fresh → u.tag ≡ v.tag → IsOfLife n v → IsOfLife n u
  of_fresh v u m tag c = record { low = omega (arith, c.low, tag); same = λ t. absurd ((c.same (sym tag ∙ t)).fresh m) }

  of_step : (sizes : Sizes) → IsLayout sizes → (x : ℕ) → KeepsByKind sizes
      (λ (s : State) (w : ℕ → ℕ). IsOfLife n (s.node x))
  of_step sizes z x past e kept c PopFree by ok w a =
      let t = (taken sizes z past e kept ok).tag in
      of_put (state sizes past) e.life.index x _ c (λ d. record
      { low = omega (arith, d.low, t); same = λ h. absurd (omega (arith, d.low, t, h)) })
  of_step sizes z x past e kept c LinkVertex by ok w a = of_put (state sizes past) e.life.index x _ c
      (of_fresh (node_in sizes past e.life.index) _ ok.fresh.fresh refl)
  of_step sizes z x past e kept c LinkEdge by ok w a = of_put (state sizes past) e.life.index x _ c
      (of_fresh (node_in sizes past e.life.index) _ ok.fresh.fresh refl)
  of_step sizes z x past e kept c MarkVertex by ok w a = of_put (state sizes past) e.life.index x _ c
      (of_marked (node_in sizes past e.life.index))
  of_step sizes z x past e kept c UnlinkVertex by ok w a = of_put (state sizes past) e.life.index x _ c
      (of_spent (node_in sizes past e.life.index) _ _ _)
  of_step sizes z x past e kept c UnlinkEdge by ok w a = of_put (state sizes past) e.life.index x _ c
      (of_spent (node_in sizes past e.life.index) _ _ _)
  of_step sizes z x past e kept c StoreFree by ok w a = of_put (state sizes past) e.life.index x _ c
      (of_stored (node_in sizes past e.life.index))
  of_step sizes z x past e kept c PushFree by ok w a = of_put (state sizes past) e.life.index x _ c
      (of_free (node_in sizes past e.life.index))
  of_step sizes z x past e kept c MarkEdge by ok w a = of_handed (marked_state (state sizes past) e.life.index)
      (node_in sizes past e.life.index).source.index x (of_put (state sizes past) e.life.index x _ c
      (of_marked (node_in sizes past e.life.index)))
  of_step sizes z x past e kept c FreezeEdge by ok w a = of_handed (marked_state (state sizes past) e.life.index)
      (node_in sizes past e.life.index).source.index x (of_put (state sizes past) e.life.index x _ c
      (of_marked (node_in sizes past e.life.index)))
  of_step sizes z x past e kept c FreezeHead by ok w a = of_handed
      (closed_state (state sizes past) e.life.index) e.life.index x c
  of_step sizes z x past e kept c ReplaceEdge by ok w a =
      let s : State = state sizes past in
      let j : State = joined_edge sizes e s in
      let cj : IsOfLife n (j.node x) = of_put s e.life.index x (new_edge_node (s.node e.life.index) e s.count) c
      (of_fresh (s.node e.life.index) _ ok.fresh.fresh refl) in
      of_handed (marked_state j e.old.index) (j.node e.old.index).source.index x
      (of_put j e.old.index x (record (j.node e.old.index) { marked = true }) cj (of_marked (j.node e.old.index)))
  of_step sizes z x past e kept c _ by ok w a = c

-- from a front in which it isn't fresh on
pub life_stays : (sizes : Sizes) → IsLayout sizes → (x : ℕ) (front journal : List Event) → IsPrefix front journal
    → IsKept sizes journal → (node_in sizes front x).mode ≢ Fresh → IsOfLife (node_in sizes front x)
    (node_in sizes journal x)
life_stays sizes z x front journal p kept unfresh =
    let n = node_in sizes front x in
    holds_onward sizes (λ (s : State) (w : ℕ → ℕ). IsOfLife n (s.node x)) (of_step n sizes z x) front journal p kept
    record { low = omega arith; same = λ _. record { fresh = unfresh; vertex = refl; key = refl; source = refl } }

-- tags rise, and that of a node that isn't free stays
tag_by : (k : Kind) (sizes : Sizes) → IsLayout sizes → (past : List Event) (e : Event) → IsKept sizes past
    → AllowedAs k sizes past e → (x : ℕ) → ((node_in sizes past x).tag ≤
    ((state_by k sizes e (state sizes past)).node x).tag)
    × ((node_in sizes past x).mode ≢ Free → ((state_by k sizes e (state sizes past)).node x).tag ≡
    (node_in sizes past x).tag)
tag_by PopFree sizes z past e kept ok x =
    let t = taken sizes z past e kept ok in
    put_case (λ (u : Node). ((node_in sizes past x).tag ≤ u.tag) ×
    ((node_in sizes past x).mode ≢ Free → u.tag ≡ (node_in sizes past x).tag)) e.life.index _
    (state sizes past).node x
    (λ same. let n : (node_in sizes past x).tag ≡ (node_in sizes past e.life.index).tag = ap
    (λ (y : ℕ). (node_in sizes past y).tag) same in
    (omega (arith, n, t.tag), (λ ne. absurd (ne (ap (λ (y : ℕ). (node_in sizes past y).mode) same ∙ t.free)))))
    (λ _. (omega arith, (λ _. refl)))
tag_by k sizes z past e kept ok x = let same = same_tag k tt sizes e (state sizes past) x in
    (omega (arith, same), (λ _. same))

pub tags_rise : (sizes : Sizes) → IsLayout sizes → (past : List Event) (e : Event) → IsKept sizes past
    → Allowed sizes past e → (x : ℕ) → (node_in sizes past x).tag ≤ (node_in sizes (past ++ e ∷ []) x).tag
tags_rise sizes z past e kept ok x = subst (λ (s : State). (node_in sizes past x).tag ≤ (s.node x).tag)
    (sym (state-snoc sizes past e)) (tag_by e.kind sizes z past e kept ok.as_kind x).0

pub tag_kept : (sizes : Sizes) → IsLayout sizes → (past : List Event) (e : Event) → IsKept sizes past
    → Allowed sizes past e → (x : ℕ) → (node_in sizes past x).mode ≢ Free → (node_in sizes (past ++ e ∷ []) x).tag ≡
    (node_in sizes past x).tag
tag_kept sizes z past e kept ok x ne = subst (λ (s : State). (s.node x).tag ≡ (node_in sizes past x).tag)
    (sym (state-snoc sizes past e)) ((tag_by e.kind sizes z past e kept ok.as_kind x).1 ne)
