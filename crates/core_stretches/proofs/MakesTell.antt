-- What the list of a token's own events tells of its views: how the later one goes on, and what was left as it was.
use Rattle.std.proofs.Common.{◌≡◌, ℕ, ◌+◌, Bool, true, false, cond, List, [], ◌∷◌, None, Some, refl, sym, ap, ◌∙◌}
use Rattle.std.proofs.Common.{subst, arith, ⊎_elim}
use Rattle.graph_kinds.specs.History.{Every}
use Rattle.packed_link.specs.Layout.{IsLayout}
use Rattle.core_journal.specs.declared.event.Kind.{Kind}
use Rattle.core_journal.specs.declared.event.Kind.TheVariants.{FreezeEdge}
use Rattle.core_journal.specs.declared.event.Event.{Event}
use Rattle.core_journal.specs.Changes.{is_idle}
use Rattle.core_journal.proofs.GraphRows.{idle_graph}
use Rattle.core_journal.proofs.Lists.{prefix_trans}
use Rattle.core_journal.proofs.Regular.{changes_not}
use Rattle.core_kept.specs.Counts.{made}
use Rattle.core_kept.specs.Kept.{IsKept}
use Rattle.core_kept.proofs.Callers.{made_one, made_quiet}
use Rattle.core_lists.proofs.EffectOfKinds.{frozen_leaves}
use Rattle.core_rule.specs.Stretches.{Own, Leaves}
use Rattle.core_rule.specs.Views.{GoesOn, Steps}
use Rattle.core_rule.specs.declared.view.View.{View}
use Rattle.core_rule.proofs.OwnByView.{own_made_same}
use Rattle.core_rule.proofs.OwnStretch.{own_look, own_event, own_chain}
use Rattle.core_rule.proofs.ViewShows.{step_view, step_goes_on, goes_further}
use Rattle.core_stretches.specs.Makes.{StepsBy, Makes, IsLater, of_kinds, StaysInPass, IsGraphless}

later_by : (v w : View) (own : List Event) → StepsBy v own w → IsLater v w
later_by v w [] t = let g = step_view v w None t in record {
  sizes = g.0;
  number = g.1;
  numbered = g.2;
  kept = g.3;
  grows = g.4;
}
later_by v w (e ∷ es) (m, by, t, rest) =
    let g = step_view v m (Some e) t in
    let h = later_by m w es rest in
    record {
      sizes = h.sizes ∙ g.0;
      number = h.number ∙ g.1;
      numbered = h.numbered
          ∙ g.2;
      kept = h.kept;
      grows = prefix_trans v.front m.front w.front g.4 h.grows;
    }

pub makes_later : (v w : View) (own : List Event) → Makes v own w → IsLater v w
makes_later v w own h = later_by v w own h.steps

-- the pass is the same where none was opened or closed
goes_by : (v w : View) (own : List Event) → Every StaysInPass own → StepsBy v own w → GoesOn v w
goes_by v w [] every t = step_goes_on v w None t tt
goes_by v w (e ∷ es) every (m, by, t, rest) = goes_further v m w (step_goes_on v m (Some e) t every.0)
    (goes_by m w es every.1 rest)

pub makes_goes : (v w : View) (own : List Event) → Every StaysInPass own → Makes v own w → GoesOn v w
makes_goes v w own every h = goes_by v w own every h.steps

-- the own events that stand between the views are these
own_by : (P : Event → Type 0) (v w : View) (own : List Event) → Every P own → StepsBy v own w → Own (λ _ e. P e) v w
own_by P v w [] every t = own_look (λ _ e. P e) v w t
own_by P v w (e ∷ es) every (m, by, t, rest) = own_chain (λ _ x. P x) v m w (step_view v m (Some e) t).1
    (later_by m w es rest).grows (own_event (λ _ x. P x) v m e t every.0) (own_by P m w es every.1 rest)

pub makes_own : (P : Event → Type 0) (v w : View) (own : List Event) → Every P own → Makes v own w → Own
    (λ _ e. P e) v w
makes_own P v w own every h = own_by P v w own every h.steps

-- the graph is left as it is
leaves_one : (v m : View) (e : Event) → IsLayout v.sizes → Steps v (Some e) m → IsGraphless e → Own Leaves v m
leaves_one v m e z t g = own_event Leaves v m e t (⊎_elim
    (λ (idle : is_idle e.kind ≡ true). changes_not t.grown e (idle_graph t.grown e idle))
    (λ (is : e.kind ≡ FreezeEdge). frozen_leaves v.sizes z t.grown e
    (subst (λ (j : List Event). IsKept v.sizes j) t.front t.kept) is)
    g)

leaves_by : (v w : View) (own : List Event) → IsLayout v.sizes → Every IsGraphless own → StepsBy v own w
    → Own Leaves v w
leaves_by v w [] z every t = own_look Leaves v w t
leaves_by v w (e ∷ es) z every (m, by, t, rest) =
    let g = step_view v m (Some e) t in
    own_chain Leaves v m w g.1 (later_by m w es rest).grows (leaves_one v m e z t every.0)
    (leaves_by m w es (subst IsLayout (sym g.0) z) every.1 rest)

pub makes_leaves : (v w : View) (own : List Event) → IsLayout v.sizes → Every IsGraphless own → Makes v own w
    → Own Leaves v w
makes_leaves v w own z every h = leaves_by v w own z every h.steps

-- the counts of the caller's events rise by these
counts_one : (test : Kind → Bool) (v m : View) (e : Event) (b : Bool) → test e.kind ≡ b → e.caller ≡ v.number → Steps v
    (Some e) m → made test m.number m.front ≡ made test v.number v.front + cond b 1 0
counts_one test v m e false is by t = own_made_same v m (Some e) t test is ∙ omega arith
counts_one test v m e true is by t =
    let r = t.reaches in
    ap (λ (n : ℕ). made test n m.front) ((step_view v m (Some e) t).1 ∙ sym by)
    ∙ (ap (made test e.caller) t.front ∙ (made_one test t.grown e is ∙ ap (λ (n : ℕ). n + 1)
    (ap (λ (n : ℕ). made test n t.grown) by ∙ made_quiet test v.number v.last v.front t.grown r.front r.old
    r.quiet)))

counts_by : (test : Kind → Bool) (v w : View) (own : List Event) → StepsBy v own w
    → made test w.number w.front ≡ made test v.number v.front + of_kinds test own
counts_by test v w [] t = own_made_same v w None t test tt ∙ omega arith
counts_by test v w (e ∷ es) (m, by, t, rest) =
    let one = counts_one test v m e (test e.kind) refl by t in
    let more = counts_by test m w es rest in
    omega (arith, one, more)

pub makes_counts : (test : Kind → Bool) (v w : View) (own : List Event) → Makes v own w
    → made test w.number w.front ≡ made test v.number v.front + of_kinds test own
makes_counts test v w own h = counts_by test v w own h.steps
