-- Where lives ended beside passes: a ripe node was spent before each open pass began.
use Rattle.std.proofs.Common.{◌≡◌, ◌≢◌, ◌⊎◌, ℕ, ◌+◌, ◌≤◌, List, true, refl, sym, ap, ◌∙◌, subst, arith, ⊎_elim, inl}
use Rattle.std.proofs.Common.{inr}
use Rattle.packed_link.specs.Layout.{Sizes, IsLayout}
use Rattle.core_epoch.specs.Ends.{Ended, Ordered, EndsSome, GivesOld}
use Rattle.core_epoch.proofs.Beside.{ended_kept, ordered_kept, old_end_before}
use Rattle.core_journal.specs.declared.event.Kind.{Kind}
use Rattle.core_journal.specs.declared.event.Kind.TheVariants.{PopFree, LinkVertex, MarkVertex, UnlinkVertex, LinkEdge}
use Rattle.core_journal.specs.declared.event.Kind.TheVariants.{MarkEdge, UnlinkEdge, FreezeHead, FreezeEdge, StoreFree}
use Rattle.core_journal.specs.declared.event.Kind.TheVariants.{PushFree, ReplaceEdge}
use Rattle.core_journal.specs.declared.event.Event.{Event}
use Rattle.core_journal.specs.State.{Mode, Fresh, Linked, Spent, Node, State, put, handed, state_by, state, joined_edge}
use Rattle.core_journal.specs.Reuse.{pass_in}
use Rattle.core_kept.specs.Kept.{AllowedAs, IsKept}
use Rattle.core_kept.specs.Nodes.{node_in, IsRipe}
use Rattle.core_kept.specs.Moments.{is_spent, clock_by, ends_by, clock_in, ends_in}
use Rattle.core_kept.proofs.Induction.{kept_front}
use Rattle.core_kept.proofs.ByKind.{KeepsByKind, put_case, handed_case, marked_state, closed_state, holds_all}
use Rattle.core_kept.proofs.ByKind.{holds_onward}
use Rattle.core_kept.proofs.FirstWords.{numbers}
use Rattle.core_kept.proofs.Announcements.{announcements, clock_step, epoch_was}
use Rattle.core_kept.proofs.LinkWords.{taken}
use Rattle.core_kept.proofs.NearEpochs.{near}
use Rattle.core_kept.proofs.ReplaceCases.{new_edge_node, replaced_case}

-- the last end of a node's lives stays, or it's this event, which spends the node
abbrev pub EndsAs : State → Node → Node → Type 0
EndsAs s v v' = ((v'.ended ≡ v.ended) × (v'.epoch ≡ v.epoch)) ⊎
    ((v'.ended ≡ s.count + 1) × (v'.epoch ≡ s.epoch) × (v'.mode ≡ Spent))

end_put : (s : State) (i : ℕ) (v : Node) (x : ℕ) → EndsAs s (s.node i) v → EndsAs s (s.node x) (put i v s.node x)
end_put s i v x h = put_case (λ (u : Node). EndsAs s (s.node x) u) i v s.node x
    (λ same. subst (λ (y : ℕ). EndsAs s (s.node y) v) (sym same) h) (λ _. inl (refl, refl))

-- a mark ends no life
end_mark : (s : State) (v v' : Node) → EndsAs s v v' → EndsAs s v (record v' { marked = true })
end_mark s v v' h = h

end_marked : (s : State) (i v x : ℕ) → EndsAs s (s.node x) ((handed v (marked_state s i)).node x)
end_marked s i v x = handed_case (λ (u : Node). EndsAs s (s.node x) u) (marked_state s i) v x
    (end_put s i (record (s.node i) { marked = true }) x (inl (refl, refl)))
    (λ _ _ _. inr (refl, refl, refl))

pub end_by : (k : Kind) (sizes : Sizes) (past : List Event) (e : Event) → AllowedAs k sizes past e → (x : ℕ) → EndsAs
    (state sizes past) (node_in sizes past x) ((state_by k sizes e (state sizes past)).node x)
end_by PopFree sizes past e ok x = end_put (state sizes past) e.life.index _ x (inl (refl, refl))
end_by LinkVertex sizes past e ok x = end_put (state sizes past) e.life.index _ x (inl (refl, refl))
end_by MarkVertex sizes past e ok x = end_put (state sizes past) e.life.index _ x (inl (refl, refl))
end_by UnlinkVertex sizes past e ok x = end_put (state sizes past) e.life.index _ x (inr (refl, refl, refl))
end_by LinkEdge sizes past e ok x = end_put (state sizes past) e.life.index _ x (inl (refl, refl))
end_by UnlinkEdge sizes past e ok x = end_put (state sizes past) e.life.index _ x (inr (refl, refl, refl))
end_by StoreFree sizes past e ok x = end_put (state sizes past) e.life.index _ x (inl (refl, refl))
end_by PushFree sizes past e ok x = end_put (state sizes past) e.life.index _ x (inl (refl, refl))
end_by ReplaceEdge sizes past e ok x =
    let s : State = state sizes past in
    let j : State = joined_edge sizes e s in
    let joined : EndsAs s (s.node x) (j.node x) = end_put s e.life.index
    (new_edge_node (s.node e.life.index) e s.count) x (inl (refl, refl)) in
    handed_case (λ (u : Node). EndsAs s (s.node x) u) (marked_state j e.old.index) (j.node e.old.index).source.index x
    (put_case (λ (u : Node). EndsAs s (s.node x) u) e.old.index (record (j.node e.old.index) { marked = true }) j.node x
    (λ same. end_mark s (s.node x) (j.node e.old.index) (subst (λ (y : ℕ). EndsAs s (s.node x) (j.node y)) same joined))
    (λ _. joined))
    (λ _ _ _. inr (refl, refl, refl))
end_by MarkEdge sizes past e ok x = end_marked (state sizes past) e.life.index
    (node_in sizes past e.life.index).source.index x
end_by FreezeEdge sizes past e ok x = end_marked (state sizes past) e.life.index
    (node_in sizes past e.life.index).source.index x
end_by FreezeHead sizes past e ok x = handed_case (λ (u : Node). EndsAs (state sizes past) (node_in sizes past x) u)
    (closed_state (state sizes past) e.life.index) e.life.index x (inl (refl, refl)) (λ _ _ _. inr (refl, refl, refl))
end_by _ sizes past e ok x = inl (refl, refl)

-- the ends of lives after an event
ends_some : (k : Kind) (sizes : Sizes) (past : List Event) (e : Event) → AllowedAs k sizes past e → EndsSome
    (clock_in sizes past) (ends_in sizes past) (ends_by (state_by k sizes e (state sizes past)))
ends_some k sizes past e ok x = ⊎_elim
    (λ same. inl record { ended = same.0; epoch = same.1 })
    (λ now. inr record { ended = now.0; epoch = now.1; spent = ap is_spent now.2 }) (end_by k sizes past e ok x)

ended_step : (sizes : Sizes) → KeepsByKind sizes (λ (s : State) (w : ℕ → ℕ). Ended (clock_by sizes s w) (ends_by s))
ended_step sizes past e kept c k by ok w a = ended_kept sizes.callers (clock_in sizes past)
    (clock_by sizes (state_by k sizes e (state sizes past)) w) (ends_in sizes past)
    (ends_by (state_by k sizes e (state sizes past))) c
    (clock_step k sizes past e kept ok w a) (ends_some k sizes past e ok)

-- no life ended in the future
pub ended : (sizes : Sizes) (journal : List Event) → IsKept sizes journal → Ended (clock_in sizes journal)
    (ends_in sizes journal)
ended sizes journal kept = holds_all sizes (λ (s : State) (w : ℕ → ℕ). Ended (clock_by sizes s w) (ends_by s))
    (ended_step sizes) (record { epoch = λ x. omega arith; ended = λ x. omega arith }) journal kept

-- a life that is over stays so, with the same end
pub record HasEndedIn (tag end epoch : ℕ) (v : Node) : Type 0 where
  pub low : tag ≤ v.tag
  pub fresh : v.tag ≡ tag → v.mode ≢ Fresh
  pub linked : v.tag ≡ tag → v.mode ≢ Linked
  pub epoch_is : v.tag ≡ tag → v.epoch ≡ epoch

module _ (sizes : Sizes) (z : IsLayout sizes) (x tag end epoch : ℕ) where
  over_put : (s : State) (i : ℕ) (v : Node) → HasEndedIn tag end epoch (s.node x) →
      (HasEndedIn tag end epoch (s.node i) → HasEndedIn tag end epoch v) → HasEndedIn tag end epoch (put i v s.node x)
  over_put s i v c new = put_case (λ (u : Node). HasEndedIn tag end epoch u) i v s.node x
      (λ same. new (subst (λ (y : ℕ). HasEndedIn tag end epoch (s.node y)) same c)) (λ _. c)

  over_handed : (s : State) (v : ℕ) → HasEndedIn tag end epoch (s.node x) → HasEndedIn tag end epoch
      ((handed v s).node x)
  over_handed s v c = handed_case (λ (u : Node). HasEndedIn tag end epoch u) s v x c
      (λ m _ _. record {
        low = c.low;
        fresh = λ h l. absurd (cc);
        linked = λ h l. absurd (cc);
        epoch_is = λ h. absurd
            (c.linked h m);
      })

  over_mark : (v : Node) → HasEndedIn tag end epoch v → HasEndedIn tag end epoch (record v { marked = true })
  over_mark v c = record { low = c.low; fresh = c.fresh; linked = c.linked; epoch_is = c.epoch_is }

  pub over_step : KeepsByKind sizes (λ (s : State) (w : ℕ → ℕ). HasEndedIn tag end epoch (s.node x))
  over_step past e kept c PopFree by ok w a = over_put (state sizes past) e.life.index _ c
      (λ d. let t = taken sizes z past e kept ok in record {
        low = omega (arith, d.low, t.tag);
        fresh = λ h. absurd
            (omega (arith, d.low, t.tag, h));
        linked = λ h. absurd (omega (arith, d.low, t.tag, h));
        epoch_is = λ h. absurd
            (omega (arith, d.low, t.tag, h));
      })
  over_step past e kept c LinkVertex by ok w a = over_put (state sizes past) e.life.index _ c
      (λ d. record {
        low = d.low;
        fresh = λ h l. absurd (cc);
        linked = λ h. absurd
            (d.fresh h ok.fresh.fresh);
        epoch_is = λ h. absurd (d.fresh h ok.fresh.fresh);
      })
  over_step past e kept c LinkEdge by ok w a = over_put (state sizes past) e.life.index _ c
      (λ d. record {
        low = d.low;
        fresh = λ h l. absurd (cc);
        linked = λ h. absurd
            (d.fresh h ok.fresh.fresh);
        epoch_is = λ h. absurd (d.fresh h ok.fresh.fresh);
      })
  over_step past e kept c UnlinkVertex by ok w a = over_put (state sizes past) e.life.index _ c
      (λ d. record {
        low = d.low;
        fresh = λ h l. absurd (cc);
        linked = λ h l. absurd (cc);
        epoch_is = λ h. absurd
            (d.linked h ok.linked.linked);
      })
  over_step past e kept c UnlinkEdge by ok w a = over_put (state sizes past) e.life.index _ c
      (λ d. record {
        low = d.low;
        fresh = λ h l. absurd (cc);
        linked = λ h l. absurd (cc);
        epoch_is = λ h. absurd
            (d.linked h ok.linked.linked);
      })
  over_step past e kept c MarkVertex by ok w a = over_put (state sizes past) e.life.index _ c
      (over_mark (node_in sizes past e.life.index))
  over_step past e kept c StoreFree by ok w a = over_put (state sizes past) e.life.index _ c
      (λ d. record { low = d.low; fresh = d.fresh; linked = d.linked; epoch_is = d.epoch_is })
  over_step past e kept c PushFree by ok w a = over_put (state sizes past) e.life.index _ c
      (λ d. record { low = d.low; fresh = λ h l. absurd (cc); linked = λ h l. absurd (cc); epoch_is = d.epoch_is })
  over_step past e kept c ReplaceEdge by ok w a =
      let s : State = state sizes past in
      let j : State = joined_edge sizes e s in
      let joined : HasEndedIn tag end epoch (j.node x) = over_put s e.life.index
      (new_edge_node (s.node e.life.index) e s.count) c (λ d. record {
        low = d.low;
        fresh = λ h l. absurd (cc);
        linked = λ h. absurd
            (d.fresh h ok.fresh.fresh);
        epoch_is = λ h. absurd (d.fresh h ok.fresh.fresh);
      }) in
      over_handed (marked_state j e.old.index) (j.node e.old.index).source.index
      (over_put j e.old.index _ joined (over_mark (j.node e.old.index)))
  over_step past e kept c MarkEdge by ok w a = over_handed (marked_state (state sizes past) e.life.index)
      (node_in sizes past e.life.index).source.index (over_put (state sizes past) e.life.index _ c
      (over_mark (node_in sizes past e.life.index)))
  over_step past e kept c FreezeEdge by ok w a = over_handed (marked_state (state sizes past) e.life.index)
      (node_in sizes past e.life.index).source.index (over_put (state sizes past) e.life.index _ c
      (over_mark (node_in sizes past e.life.index)))
  over_step past e kept c FreezeHead by ok w a = over_handed (closed_state (state sizes past) e.life.index) e.life.index
      c
  over_step past e kept c _ by ok w a = c

-- the stamp of a ripe node and the epoch that was shown, as facts of now
pub ripe_now : (sizes : Sizes) → IsLayout sizes → (past : List Event) (caller x : ℕ) → IsKept sizes past
    → IsRipe sizes past caller x → (node_in sizes past x).epoch + 2 ≤ (state sizes past).epoch
ripe_now sizes z past caller x kept r =
    let m : (node_in sizes r.stamped.when x).mode ≡ Spent = r.stamped.when_spent in
    let then = kept_front sizes r.stamped.when past r.stamped.when_before kept in
    let tag = (node_in sizes r.stamped.when x).tag in
    let epoch = (node_in sizes r.stamped.when x).epoch in
    let over : HasEndedIn tag 0 epoch (node_in sizes past x) = holds_onward sizes
    (λ (s : State) (w : ℕ → ℕ). HasEndedIn tag 0 epoch (s.node x))
    (over_step sizes z x tag 0 epoch) r.stamped.when past r.stamped.when_before kept
    (record { low = omega arith; fresh = λ _ h. absurd (cc); linked = λ _ h. absurd (cc); epoch_is = λ _. refl }) in
    omega (
      arith,
      over.epoch_is (sym r.stamped.when_life),
      (ended sizes r.stamped.when then).epoch x,
      (numbers sizes r.stamped.when then).epoch,
      r.stamped.when_epoch,
      r.shown_epoch,
      epoch_was sizes r.shown past
          r.shown_before kept,
    )

spent_is : (m : Mode) → is_spent m ≡ true → m ≡ Spent
spent_is Spent h = refl
spent_is _ h = absurd (cc)

-- a spent node stays so until it's given back
spent_stays : (k : Kind) (sizes : Sizes) → IsLayout sizes → (past : List Event) (e : Event) → IsKept sizes past
    → AllowedAs k sizes past e → (x : ℕ) → (node_in sizes past x).mode ≡ Spent →
    (((state_by k sizes e (state sizes past)).node x).mode ≡ Spent) ⊎
    ((node_in sizes past x).epoch + 2 ≤ (state sizes past).epoch)
spent_stays PushFree sizes z past e kept ok x m = put_case (λ (u : Node). (u.mode ≡ Spent) ⊎
    ((node_in sizes past x).epoch + 2 ≤ (state sizes past).epoch)) e.life.index _ (state sizes past).node x
    (λ same. inr (let r = ripe_now sizes z past e.caller e.life.index kept ok.ripe in let t :
    (node_in sizes past x).epoch ≡ (node_in sizes past e.life.index).epoch = ap
    (λ (y : ℕ). (node_in sizes past y).epoch) same in omega (arith, r, t)))
    (λ _. inl m)
spent_stays PopFree sizes z past e kept ok x m = inl (put_case (λ (u : Node). u.mode ≡ Spent) e.life.index _
    (state sizes past).node x
    (λ same. let f = (taken sizes z past e kept ok).free in let t : (node_in sizes past e.life.index).mode ≡ Spent = ap
    (λ (y : ℕ). (node_in sizes past y).mode) (sym same) ∙ m in absurd (cc)) (λ _. m))
spent_stays LinkVertex sizes z past e kept ok x m = inl (put_case (λ (u : Node). u.mode ≡ Spent) e.life.index _
    (state sizes past).node x
    (λ same. let f = ok.fresh.fresh in let t : (node_in sizes past e.life.index).mode ≡ Spent = ap
    (λ (y : ℕ). (node_in sizes past y).mode) (sym same) ∙ m in absurd (cc)) (λ _. m))
spent_stays LinkEdge sizes z past e kept ok x m = inl (put_case (λ (u : Node). u.mode ≡ Spent) e.life.index _
    (state sizes past).node x
    (λ same. let f = ok.fresh.fresh in let t : (node_in sizes past e.life.index).mode ≡ Spent = ap
    (λ (y : ℕ). (node_in sizes past y).mode) (sym same) ∙ m in absurd (cc)) (λ _. m))
spent_stays MarkVertex sizes z past e kept ok x m = inl (put_case (λ (u : Node). u.mode ≡ Spent) e.life.index
    (record (node_in sizes past e.life.index) { marked = true }) (state sizes past).node x
    (λ same. ap (λ (y : ℕ). (node_in sizes past y).mode) (sym same) ∙ m) (λ _. m))
spent_stays StoreFree sizes z past e kept ok x m = inl (put_case (λ (u : Node). u.mode ≡ Spent) e.life.index _
    (state sizes past).node x (λ same. ap (λ (y : ℕ). (node_in sizes past y).mode) (sym same) ∙ m) (λ _. m))
spent_stays UnlinkVertex sizes z past e kept ok x m = inl (put_case (λ (u : Node). u.mode ≡ Spent) e.life.index _
    (state sizes past).node x (λ _. refl) (λ _. m))
spent_stays UnlinkEdge sizes z past e kept ok x m = inl (put_case (λ (u : Node). u.mode ≡ Spent) e.life.index _
    (state sizes past).node x (λ _. refl) (λ _. m))
spent_stays ReplaceEdge sizes z past e kept ok x m = inl (replaced_case sizes z past e kept ok
    (λ (u : Node). u.mode ≡ Spent) x
    (λ same. let f = ok.fresh.fresh in let t : (node_in sizes past e.life.index).mode ≡ Spent = ap
    (λ (y : ℕ). (node_in sizes past y).mode) (sym same) ∙ m in absurd (cc))
    (λ _. put_case (λ (u : Node). u.mode ≡ Spent) e.old.index
    (record (node_in sizes past e.old.index) { marked = true }) (state sizes past).node x
    (λ same. ap (λ (y : ℕ). (node_in sizes past y).mode) (sym same) ∙ m) (λ _. m))
    (λ _ _ _ _. refl))
spent_stays MarkEdge sizes z past e kept ok x m = inl (handed_case (λ (u : Node). u.mode ≡ Spent)
    (marked_state (state sizes past) e.life.index) (node_in sizes past e.life.index).source.index x
    (put_case (λ (u : Node). u.mode ≡ Spent) e.life.index (record (node_in sizes past e.life.index) { marked = true })
    (state sizes past).node x (λ same. ap (λ (y : ℕ). (node_in sizes past y).mode) (sym same) ∙ m) (λ _. m))
    (λ _ _ _. refl))
spent_stays FreezeEdge sizes z past e kept ok x m = inl (handed_case (λ (u : Node). u.mode ≡ Spent)
    (marked_state (state sizes past) e.life.index) (node_in sizes past e.life.index).source.index x
    (put_case (λ (u : Node). u.mode ≡ Spent) e.life.index (record (node_in sizes past e.life.index) { marked = true })
    (state sizes past).node x (λ same. ap (λ (y : ℕ). (node_in sizes past y).mode) (sym same) ∙ m) (λ _. m))
    (λ _ _ _. refl))
spent_stays FreezeHead sizes z past e kept ok x m = inl (handed_case (λ (u : Node). u.mode ≡ Spent)
    (closed_state (state sizes past) e.life.index) e.life.index x m (λ _ _ _. refl))
spent_stays _ sizes z past e kept ok x m = inl m

-- a spent node is given back only where the epoch is two above that of its end
gives_old : (k : Kind) (sizes : Sizes) → IsLayout sizes → (past : List Event) (e : Event) → IsKept sizes past
    → AllowedAs k sizes past e → GivesOld (clock_in sizes past) (ends_in sizes past)
    (ends_by (state_by k sizes e (state sizes past)))
gives_old k sizes z past e kept ok x was now = ⊎_elim
    (λ m. let t = ap is_spent m in absurd (cc))
    (λ old. old) (spent_stays k sizes z past e kept ok x (spent_is (node_in sizes past x).mode was))

ordered_step : (sizes : Sizes) → IsLayout sizes → KeepsByKind sizes
    (λ (s : State) (w : ℕ → ℕ). Ordered (clock_by sizes s w) (ends_by s))
ordered_step sizes z past e kept c k by ok w a = ordered_kept sizes.callers (clock_in sizes past)
    (clock_by sizes (state_by k sizes e (state sizes past)) w) (ends_in sizes past)
    (ends_by (state_by k sizes e (state sizes past)))
    (announcements sizes past kept) (near sizes past kept) (ended sizes past kept) c
    (clock_step k sizes past e kept ok w a) (ends_some k sizes past e ok) (gives_old k sizes z past e kept ok)

-- the ends of lives beside open passes, after each kept journal
pub ordered : (sizes : Sizes) → IsLayout sizes → (journal : List Event) → IsKept sizes journal → Ordered
    (clock_in sizes journal) (ends_in sizes journal)
ordered sizes z journal kept = holds_all sizes (λ (s : State) (w : ℕ → ℕ). Ordered (clock_by sizes s w) (ends_by s))
    (ordered_step sizes z) (record { later = λ i x o. absurd (cc); unspent = λ i x o. absurd (cc) }) journal kept

-- a ripe node was spent before each open pass began
pub ripe_before : (sizes : Sizes) → IsLayout sizes → (journal : List Event) → IsKept sizes journal → (caller x i : ℕ)
    → IsRipe sizes journal caller x → (pass_in sizes journal i).is_open ≡ true → (node_in sizes journal x).ended ≤
    (pass_in sizes journal i).since
ripe_before sizes z journal kept caller x i r o = old_end_before (clock_in sizes journal) (ends_in sizes journal) i x
    (near sizes journal kept) (ordered sizes z journal kept) (ripe_now sizes z journal caller x kept r) o
