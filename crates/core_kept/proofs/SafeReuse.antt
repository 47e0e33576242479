-- Each kept journal reuses safely: where a node is taken, each of its earlier lives has ended, and each open pass was
-- announced
-- after that end.
use Rattle.std.proofs.Common.{◌≡◌, ℕ, List, Some, ap, ◌∙◌, subst, arith, ⊎_elim}
use Rattle.std.specs.Prelude.{slice_get}
use Rattle.packed_link.specs.Layout.{Sizes, IsLayout}
use Rattle.core_journal.specs.declared.event.Kind.{Kind}
use Rattle.core_journal.specs.declared.event.Kind.TheVariants.{PopFree}
use Rattle.core_journal.specs.declared.event.Event.{Event}
use Rattle.core_journal.specs.Reuse.{IsOver, ReusesSafely}
use Rattle.core_journal.specs.State.{Free}
use Rattle.core_journal.proofs.Reuses.{reuse_nil, reuse_snoc}
use Rattle.core_kept.specs.Kept.{Allowed, AllowedAs, IsKept}
use Rattle.core_kept.specs.Moments.{is_spent}
use Rattle.core_kept.specs.Nodes.{node_in}
use Rattle.core_kept.proofs.Induction.{kept_all}
use Rattle.core_kept.proofs.LinkWords.{taken}
use Rattle.core_kept.proofs.LivesEnd.{IsLifeOver, IsPresent, fates}
use Rattle.core_kept.proofs.Ripe.{ordered}

-- a node is taken whose earlier lives are over
over_here : (sizes : Sizes) → IsLayout sizes → (past : List Event) (e : Event) → IsKept sizes past
    → Allowed sizes past e → e.kind ≡ PopFree → (k : ℕ) (a : Event) → slice_get past k ≡ Some a → a.kind ≡ PopFree
    → a.life.index ≡ e.life.index → IsOver sizes past a.life
over_here sizes z past e kept ok is k a at pops same =
    let allowed : AllowedAs PopFree sizes past e = subst (λ (k : Kind). AllowedAs k sizes past e) is ok.as_kind in
    let free : (node_in sizes past a.life.index).mode ≡ Free = ap (λ (y : ℕ). (node_in sizes past y).mode) same ∙
    (taken sizes z past e kept allowed).free in
    ⊎_elim
    (λ (gone : IsLifeOver past a.life (node_in sizes past a.life.index)). record {
      end = gone.life.end;
      ends = gone.life.ends;
      passes = λ i o. omega (
        arith,
        gone.life.before,
        (ordered sizes z past kept).unspent i a.life.index o
            (ap is_spent free),
      );
    })
    (λ (here : IsPresent past a.life (node_in sizes past a.life.index)). absurd (here.free free))
    ((fates sizes z past kept).fate k a at pops)

-- safe reuse
pub reuses_safely : (sizes : Sizes) → IsLayout sizes → (journal : List Event) → IsKept sizes journal
    → ReusesSafely sizes journal
reuses_safely sizes z journal kept = kept_all sizes (ReusesSafely sizes)
    (λ past e k c ok. reuse_snoc sizes past e c (λ is n a at pops same. over_here sizes z past e k ok is n a at pops
    same)) (reuse_nil sizes) journal kept
