-- A caller that has drawn its number is between two rounds, of which it has made none.
use Rattle.std.proofs.Common.{◌≡◌, ℕ, ◌<◌, ◌≤◌, Bool, false, List, [], ◌∷◌, ◌++◌, None, refl, sym, ap, ap₂, ◌∙◌}
use Rattle.std.proofs.Common.{subst, arith}
use Rattle.packed_link.specs.Layout.{Sizes}
use Rattle.core_journal.specs.declared.event.Kind.{Kind}
use Rattle.core_journal.specs.declared.event.Kind.TheVariants.{DrawNumber}
use Rattle.core_journal.specs.declared.event.Event.{Event}
use Rattle.core_journal.specs.Event.{pops, pushes, moves}
use Rattle.core_journal.specs.Reuse.{pass_in}
use Rattle.core_kept.specs.Counts.{made}
use Rattle.core_kept.specs.Kept.{IsKept}
use Rattle.core_kept.specs.Nodes.{IsFreshWith, IsSpentWith}
use Rattle.core_lists.proofs.NewNumbers.{new_closed, new_unfresh, new_unspent, new_made}
use Rattle.core_rule.specs.Plays.{Drew, draw_event, stays}
use Rattle.core_rule.specs.declared.view.View.{View}
use Rattle.epoch_limbo.specs.Limbos.{LimboValue, IsLimboOf}
use Rattle.epoch_limbo.proofs.LimboStays.{limbo_of_none}
use Rattle.graph_table.specs.Tokens.{RipeValue, TokenValue}
use Rattle.free_list_rounds.specs.Rounds.{IsBetweenRounds}

module _ (v w : View) (found : ℕ) (d : Drew v found w) where
  number_is : w.number ≡ found
  number_is = ap (λ (u : View). u.number) d.view

  kept_is : IsKept w.sizes (d.grown ++ draw_event found ∷ [])
  kept_is = subst (λ (j : List Event). IsKept w.sizes j) d.front d.sound.kept

  none_spent : (y : ℕ) → IsSpentWith w.sizes w.front w.number y → ⊥
  none_spent y h = new_unspent w.sizes d.grown (draw_event found) kept_is refl y
      (subst (λ (j : List Event). IsSpentWith w.sizes j found y) d.front
      (subst (λ (n : ℕ). IsSpentWith w.sizes w.front n y) number_is h))

  none_fresh : (y : ℕ) → IsFreshWith w.sizes w.front w.number y → ⊥
  none_fresh y h = new_unfresh w.sizes d.grown (draw_event found) kept_is refl y
      (subst (λ (j : List Event). IsFreshWith w.sizes j found y) d.front
      (subst (λ (n : ℕ). IsFreshWith w.sizes w.front n y) number_is h))

  none_made : (test : Kind → Bool) → test DrawNumber ≡ false → made test w.number w.front ≡ 0
  none_made test off = ap₂ (λ (n : ℕ) (j : List Event). made test n j) number_is d.front
      ∙ new_made w.sizes d.grown (draw_event found) kept_is refl test off

  no_pass : (pass_in w.sizes w.front w.number).is_open ≡ false
  no_pass = ap₂ (λ (n : ℕ) (j : List Event). (pass_in w.sizes j n).is_open) number_is d.front
      ∙ new_closed w.sizes d.grown (draw_event found) kept_is refl

  pub entered : (t : TokenValue) (limbo : LimboValue) → t.view ≡ stays w → limbo.nodes ≡ []
      → v.drawn < v.sizes.callers → v.sizes.nodes ≤ limbo.room
      → IsBetweenRounds (record { token = t; limbo = limbo; spare = None; rounds = 0; taken = 0; given = 0 })
  entered t limbo kept empty left room =
      let sizes : w.sizes ≡ v.sizes = ap (λ (u : View). u.sizes) d.view in
      let callers = ap (λ (z : Sizes). z.callers) sizes in
      let nodes = ap (λ (z : Sizes). z.nodes) sizes in
      let next = d.next in
      let number = number_is in
      let moved = none_made moves refl in
      subst (λ (u : View). IsBetweenRounds
      (record {
        token = record { table = t.table; view = u };
        limbo = limbo;
        spare = None;
        rounds = 0;
        taken = 0;
        given = 0;
      })) (sym kept)
      (record {
        numbered = ap (λ (u : View). u.numbered) d.view;
        closed = no_pass;
        work = record {
          there = omega (arith, number, next, callers, left);
          roomy = record {
            of = subst (λ (ns : List RipeValue). IsLimboOf None (stays w) ns) (sym empty)
                (limbo_of_none None (stays w));
            room = omega (arith, nodes, room);
          };
          all = record { each = λ y spent. absurd (none_spent y spent) };
        };
        spare = record { none = λ y low fresh. none_fresh y fresh };
        made = record {
          taken = none_made pops refl;
          given = none_made pushes refl;
          moved = omega (arith, moved);
        };
        few_taken = omega arith;
        few_given = omega arith;
      })
