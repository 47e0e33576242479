-- The number of the event that linked a node stays while the node is in this life.
use Rattle.std.proofs.Common.{◌≡◌, ◌≢◌, ℕ, ◌≤◌, List, true, refl, sym, ◌∙◌, subst, arith}
use Rattle.packed_link.specs.Layout.{Sizes, IsLayout}
use Rattle.core_journal.specs.declared.event.Kind.TheVariants.{PopFree, LinkEdge, ReplaceEdge}
use Rattle.core_journal.specs.declared.event.Event.{Event}
use Rattle.core_journal.specs.Prefix.{IsPrefix}
use Rattle.core_journal.specs.State.{Fresh, Spent, Node, State, state}
use Rattle.core_kept.specs.Kept.{IsKept}
use Rattle.core_kept.specs.Nodes.{node_in}
use Rattle.core_kept.proofs.ByKind.{KeepsByKind, put_case, marked_state, holds_onward, since_still}
use Rattle.core_kept.proofs.LinkWords.{taken}
use Rattle.core_kept.proofs.LinkedOnce.{fresh_before}
use Rattle.core_kept.proofs.PastLives.{same_tag}
use Rattle.core_kept.proofs.ReplaceCases.{replaced_case}

-- a node is in no earlier life, and in this one it isn't fresh and was linked by the same event
record IsNumbered (n v : Node) : Type 0 where
  pub low : n.tag ≤ v.tag
  pub fresh : v.tag ≡ n.tag → v.mode ≢ Fresh
  pub since : v.tag ≡ n.tag → v.since ≡ n.since

module _ (n : Node) where
  -- a fresh node is in a later life
  linked_anew : (v u : Node) → v.mode ≡ Fresh → u.tag ≡ v.tag → IsNumbered n v → IsNumbered n u
  linked_anew v u m tag c = record {
    low = omega (arith, c.low, tag);
    fresh = λ t. absurd (c.fresh (sym tag ∙ t) m);
    since = λ t. absurd (c.fresh (sym tag ∙ t) m);
  }

  numbered_marked : (v : Node) → IsNumbered n v → IsNumbered n (record v { marked = true })
  numbered_marked v c = record { low = c.low; fresh = c.fresh; since = c.since }

  numbered_spent : (v : Node) (who ended epoch : ℕ) → IsNumbered n v
      → IsNumbered n (record v { mode = Spent; who = who; ended = ended; epoch = epoch })
  numbered_spent v who ended epoch c = record { low = c.low; fresh = λ t h. absurd (cc); since = c.since }

  numbered_step : (sizes : Sizes) → IsLayout sizes → (x : ℕ)
      → KeepsByKind sizes (λ (s : State) (w : ℕ → ℕ). IsNumbered n (s.node x))
  numbered_step sizes z x past e kept c PopFree by ok w a =
      let t = (taken sizes z past e kept ok).tag in
      put_case (λ (u : Node). IsNumbered n u) e.life.index _ (state sizes past).node x
      (λ same.
      let d = subst (λ (y : ℕ). IsNumbered n (node_in sizes past y)) same c in
      record {
        low = omega (arith, d.low, t);
        fresh = λ h. absurd (omega (arith, d.low, t, h));
        since = λ h. absurd (omega (arith, d.low, t, h));
      })
      (λ _. c)
  numbered_step sizes z x past e kept c LinkEdge by ok w a =
      put_case (λ (u : Node). IsNumbered n u) e.life.index _ (state sizes past).node x
      (λ same. linked_anew (node_in sizes past e.life.index) _ ok.fresh.fresh refl
      (subst (λ (y : ℕ). IsNumbered n (node_in sizes past y)) same c)) (λ _. c)
  numbered_step sizes z x past e kept c ReplaceEdge by ok w a =
      let before : IsNumbered n ((marked_state (state sizes past) e.old.index).node x) =
      put_case (λ (u : Node). IsNumbered n u) e.old.index _ (state sizes past).node x
      (λ same. numbered_marked (node_in sizes past e.old.index)
      (subst (λ (y : ℕ). IsNumbered n (node_in sizes past y)) same c)) (λ _. c) in
      replaced_case sizes z past e kept ok (λ (u : Node). IsNumbered n u) x
      (λ same. linked_anew (node_in sizes past e.life.index) _ ok.fresh.fresh refl
      (subst (λ (y : ℕ). IsNumbered n (node_in sizes past y)) same c))
      (λ ne. before)
      (λ ne m _ _. numbered_spent ((marked_state (state sizes past) e.old.index).node x) _ _ _ before)
  numbered_step sizes z x past e kept c k by ok w a =
      let tag = same_tag k tt sizes e (state sizes past) x in
      record {
        low = omega (arith, c.low, tag);
        fresh = λ h m. c.fresh (sym tag ∙ h) (fresh_before k tt sizes e (state sizes past) x m);
        since = λ h. since_still k tt sizes e (state sizes past) x ∙ c.since (sym tag ∙ h);
      }

-- from a front in which a node isn't fresh on
pub since_stays : (sizes : Sizes) → IsLayout sizes → (x : ℕ) (front journal : List Event) → IsPrefix front journal
    → IsKept sizes journal → (node_in sizes front x).mode ≢ Fresh
    → (node_in sizes journal x).tag ≡ (node_in sizes front x).tag
    → (node_in sizes journal x).since ≡ (node_in sizes front x).since
since_stays sizes z x front journal p kept unfresh =
    let n = node_in sizes front x in
    (holds_onward sizes (λ (s : State) (w : ℕ → ℕ). IsNumbered n (s.node x)) (numbered_step n sizes z x) front journal p
    kept record { low = omega arith; fresh = λ _. unfresh; since = λ _. refl }).since
