-- Loads, won steps and stores as what a token made, and one stretch behind another.
use Rattle.std.proofs.Common.{◌≡◌, ℕ, ◌<◌, ◌≤◌, true, List, [], ◌∷◌, ◌++◌, length, append-nil, None, Some, Option, refl}
use Rattle.std.proofs.Common.{sym, ap, ◌∙◌, subst, arith, ⊎_elim}
use Rattle.std.specs.Prelude.{slice_get}
use Rattle.std.proofs.lemmas.Bool.{cases_lt}
use Rattle.packed_link.specs.Layout.{Sizes}
use Rattle.core_journal.specs.declared.event.Event.{Event}
use Rattle.core_journal.specs.Prefix.{IsPrefix}
use Rattle.core_journal.proofs.Lists.{get_back, prefix_refl, prefix_trans}
use Rattle.core_kept.specs.Kept.{IsKept}
use Rattle.core_rule.specs.Plays.{IsSound, Looked, Won, Stored}
use Rattle.core_rule.specs.Views.{Steps, moved_on}
use Rattle.core_rule.specs.declared.view.View.{View}
use Rattle.core_rule.proofs.ViewShows.{look_steps, win_steps, store_steps, step_view}
use Rattle.core_stretches.specs.Makes.{StepsBy, Makes}

-- a load and then a step are a step
look_first : (u v w : View) (own : Option Event) → Steps u None v → Steps v own w → Steps u own w
look_first u v w own a b =
    let g = step_view u v None a in
    let front : v.front ≡ a.grown = a.front ∙ append-nil a.grown in
    let p : IsPrefix v.front b.grown = b.reaches.front in
    record {
      view = b.view ∙ ap (λ (x : View). moved_on x w.front w.last) a.view;
      grown = b.grown;
      reaches = record {
        kept = subst (λ (s : Sizes). IsKept s b.grown) g.0 b.reaches.kept;
        front = prefix_trans u.front v.front b.grown g.4 p;
        quiet = record {
          none = λ k e far at by. ⊎_elim
              (λ (low : k < length v.front).
              let at' : slice_get v.front k ≡ Some e = sym (get_back v.front p.rest k low) ∙ subst
              (λ (j : List Event). slice_get j k ≡ Some e) (sym p.whole) at in
              a.reaches.quiet.none k e far (subst (λ (j : List Event). slice_get j k ≡ Some e) front at') by)
              (λ (high : length v.front ≤ k). b.reaches.quiet.none k e
              (let o = b.reaches.old in omega (arith, o, high)) at (by ∙ sym g.1))
              (cases_lt k (length v.front));
        };
        old = a.reaches.old;
      };
      front = b.front;
      kept = subst (λ (s : Sizes). IsKept s w.front) g.0 b.kept;
    }

-- from a view to itself a token made nothing
self_steps : (v : View) → v.numbered ≡ true → IsSound v → Steps v None v
self_steps v has s = record {
  view = refl;
  grown = v.front;
  reaches = record { kept = s.kept; front = prefix_refl v.front; quiet = s.quiet has; old = s.old has };
  front = sym (append-nil v.front);
  kept = s.kept;
}

pub makes_self : (v : View) → v.numbered ≡ true → IsSound v → Makes v [] v
makes_self v has s = record { steps = self_steps v has s }

-- nor did it by a load
pub makes_look : (v w : View) (place found : ℕ) → v.numbered ≡ true → IsSound v → Looked v place found w → Makes v [] w
makes_look v w place found has s l = record { steps = look_steps v place found w has s l }

-- a step that won made its event
pub makes_won : (v w : View) (place found : ℕ) (e : Event) → v.numbered ≡ true → IsSound v → e.caller ≡ v.number
    → Won v place found e w → Makes v (e ∷ []) w
makes_won v w place found e has s by won = record {
  steps = (
    w,
    by,
    win_steps v place found e w has s won,
    self_steps w
        (ap (λ (x : View). x.numbered) won.view ∙ has) won.sound,
  );
}

-- and so did a store
pub makes_stored : (v w : View) (e : Event) → v.numbered ≡ true → IsSound v → e.caller ≡ v.number → Stored v e w
    → Makes v (e ∷ []) w
makes_stored v w e has s by st = record {
  steps = (
    w,
    by,
    store_steps v e w has s st,
    self_steps w
        (ap (λ (x : View). x.numbered) st.view ∙ has) st.sound,
  );
}

-- one stretch behind another
chain_by : (u v w : View) (first second : List Event) → StepsBy u first v → StepsBy v second w → StepsBy u
    (first ++ second) w
chain_by u v w [] [] a b = look_first u v w None a b
chain_by u v w [] (e ∷ es) a (m, by, s, rest) = (m, by ∙ (step_view u v None a).1, look_first u v m (Some e) a s, rest)
chain_by u v w (e ∷ es) second (m, by, s, rest) b = (m, by, s, chain_by m v w es second rest b)

pub makes_chain : (u v w : View) (first second : List Event) → Makes u first v → Makes v second w → Makes u
    (first ++ second) w
makes_chain u v w first second a b = record { steps = chain_by u v w first second a.steps b.steps }
