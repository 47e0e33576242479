-- Each life is linked at most once.
use Rattle.std.proofs.Common.{◌≡◌, ◌≢◌, ℕ, true, List, [], ◌∷◌, ◌++◌, ap, ap₂, ◌∙◌, arith}
use mathlib.Core.Logic.{dite}
use native.Mathlib.Decide.{ℕ_discrete}
use Rattle.packed_link.specs.Layout.{Sizes, IsLayout}
use Rattle.core_journal.specs.Event.{links}
use Rattle.core_journal.specs.declared.event.Kind.{Kind}
use Rattle.core_journal.specs.declared.event.Kind.TheVariants.{PopFree, LinkVertex, MarkVertex, UnlinkVertex, LinkEdge}
use Rattle.core_journal.specs.declared.event.Kind.TheVariants.{MarkEdge, UnlinkEdge, FreezeHead, FreezeEdge, StoreFree}
use Rattle.core_journal.specs.declared.event.Kind.TheVariants.{PushFree, ReplaceEdge}
use Rattle.core_journal.specs.declared.event.Event.{Event}
use Rattle.core_journal.specs.State.{Fresh, Node, State, put, handed, state_by, state, joined_edge}
use Rattle.core_kept.specs.Counts.{about}
use Rattle.core_kept.specs.Kept.{IsKept}
use Rattle.core_kept.specs.Nodes.{node_in}
use Rattle.core_kept.specs.Facts.{LinkedOnce}
use Rattle.core_kept.proofs.ReplaceCases.{replaced_case}
use Rattle.core_kept.proofs.ByKind.{KeepsIn, put_case, handed_case, marked_state, closed_state, all_in}
use Rattle.core_kept.proofs.LinkWords.{taken}
use Rattle.core_kept.proofs.PastLives.{BeginsNoLife, same_tag, about_other, about_else, about_this}
use Rattle.core_kept.proofs.PastLives.{other_index, other_tag}
use Rattle.core_kept.proofs.PastLives.{this_life, lives}

put_fresh : (s : State) (i : ℕ) (v : Node) (x : ℕ) → (v.mode ≡ Fresh → (s.node i).mode ≡ Fresh) →
    (put i v s.node x).mode ≡ Fresh → (s.node x).mode ≡ Fresh
put_fresh s i v x was = put_case (λ (u : Node). u.mode ≡ Fresh → (s.node x).mode ≡ Fresh) i v s.node x
    (λ same m. ap (λ (y : ℕ). (s.node y).mode) same ∙ was m) (λ _ m. m)

handed_fresh : (s : State) (v x : ℕ) → ((handed v s).node x).mode ≡ Fresh → (s.node x).mode ≡ Fresh
handed_fresh s v x = handed_case (λ (u : Node). u.mode ≡ Fresh → (s.node x).mode ≡ Fresh) s v x (λ m. m)
    (λ _ _ _ m. absurd (cc))

-- only the taking of a node makes it fresh
pub fresh_before : (k : Kind) → BeginsNoLife k → (sizes : Sizes) (e : Event) (s : State) (x : ℕ) →
    ((state_by k sizes e s).node x).mode ≡ Fresh → (s.node x).mode ≡ Fresh
fresh_before PopFree o sizes e s x = absurd o
fresh_before LinkVertex o sizes e s x = put_fresh s e.life.index _ x (λ m. absurd (cc))
fresh_before MarkVertex o sizes e s x = put_fresh s e.life.index _ x (λ m. m)
fresh_before UnlinkVertex o sizes e s x = put_fresh s e.life.index _ x (λ m. absurd (cc))
fresh_before LinkEdge o sizes e s x = put_fresh s e.life.index _ x (λ m. absurd (cc))
fresh_before UnlinkEdge o sizes e s x = put_fresh s e.life.index _ x (λ m. absurd (cc))
fresh_before StoreFree o sizes e s x = put_fresh s e.life.index _ x (λ m. m)
fresh_before PushFree o sizes e s x = put_fresh s e.life.index _ x (λ m. absurd (cc))
fresh_before MarkEdge o sizes e s x = λ m. put_fresh s e.life.index (record (s.node e.life.index) { marked = true }) x
    (λ m. m) (handed_fresh (marked_state s e.life.index) (s.node e.life.index).source.index x m)
fresh_before ReplaceEdge o sizes e s x = λ m. put_fresh s e.life.index _ x (λ m. absurd (cc))
    (put_fresh (joined_edge sizes e s) e.old.index (record ((joined_edge sizes e s).node e.old.index) { marked = true })
    x (λ m. m) (handed_fresh (marked_state (joined_edge sizes e s) e.old.index)
    ((joined_edge sizes e s).node e.old.index).source.index x m))
fresh_before FreezeEdge o sizes e s x = λ m. put_fresh s e.life.index (record (s.node e.life.index) { marked = true }) x
    (λ m. m) (handed_fresh (marked_state s e.life.index) (s.node e.life.index).source.index x m)
fresh_before FreezeHead o sizes e s x = λ m. handed_fresh (closed_state s e.life.index) e.life.index x m
fresh_before _ o sizes e s x = λ m. m

-- the link of a fresh node
linked_now : (past : List Event) (e : Event) (s s' : State) → LinkedOnce past s → links e.kind ≡ true → e.life.tag ≡
    (s.node e.life.index).tag → (s.node e.life.index).mode ≡ Fresh
    → ((x : ℕ) → (s'.node x).mode ≡ Fresh → (x ≢ e.life.index) × ((s.node x).mode ≡ Fresh)) →
    ((x : ℕ) → (s'.node x).tag ≡ (s.node x).tag) → LinkedOnce (past ++ e ∷ []) s'
linked_now past e s s' c is life m was tags = record {
  once = λ x. dite (ℕ_discrete x.index e.life.index)
      (λ i. dite (ℕ_discrete x.tag e.life.tag)
      (λ t. let none : about links x past ≡ 0 = ap₂ (λ (a b : ℕ). about links (record { index = a; tag = b }) past) i
      (t ∙ life) ∙ c.fresh e.life.index m in omega (
        arith,
        about_this links x past e is
            (this_life x e.life i t),
        none,
      ))
      (λ ne. omega (arith, about_else links x past e (other_tag x e.life ne), c.once x)))
      (λ ne. omega (arith, about_else links x past e (other_index x e.life ne), c.once x));
  fresh = λ x f. let w = was x f in ap (λ (t : ℕ). about links (record { index = x; tag = t }) (past ++ e ∷ []))
      (tags x) ∙ (about_else links _ past e (other_index _ e.life w.0) ∙ c.fresh x w.1);
}

linked_once_step : (sizes : Sizes) → IsLayout sizes → KeepsIn sizes
    (λ (j : List Event) (s : State) (w : ℕ → ℕ). LinkedOnce j s)
linked_once_step sizes z past e kept c PopFree is ok w a = record {
  once = λ x. omega (arith, about_other links x past e (ap links is), c.once x);
  fresh = λ x. put_case (λ (u : Node). u.mode ≡ Fresh → about links (record { index = x; tag = u.tag })
      (past ++ e ∷ []) ≡ 0) e.life.index _ (state sizes past).node x
      (λ same _. about_other links _ past e (ap links is) ∙ (lives sizes z past kept).later links
      (record { index = x; tag = e.life.tag }) (let t : (node_in sizes past x).tag ≡
      (node_in sizes past e.life.index).tag = ap (λ (y : ℕ). (node_in sizes past y).tag) same in omega
      (arith, t, (taken sizes z past e kept ok).tag)))
      (λ _ m. about_other links _ past e (ap links is) ∙ c.fresh x m);
}
linked_once_step sizes z past e kept c LinkVertex is ok w a = linked_now past e (state sizes past) _ c
    (ap links is) ok.life ok.fresh.fresh
    (λ x. put_case (λ (u : Node). u.mode ≡ Fresh → (x ≢ e.life.index) × ((node_in sizes past x).mode ≡ Fresh))
    e.life.index _ (state sizes past).node x (λ _ m. absurd (cc)) (λ ne m. (ne, m)))
    (same_tag LinkVertex tt sizes e (state sizes past))
linked_once_step sizes z past e kept c LinkEdge is ok w a = linked_now past e (state sizes past) _ c
    (ap links is) ok.life ok.fresh.fresh
    (λ x. put_case (λ (u : Node). u.mode ≡ Fresh → (x ≢ e.life.index) × ((node_in sizes past x).mode ≡ Fresh))
    e.life.index _ (state sizes past).node x (λ _ m. absurd (cc)) (λ ne m. (ne, m)))
    (same_tag LinkEdge tt sizes e (state sizes past))
linked_once_step sizes z past e kept c ReplaceEdge is ok w a = linked_now past e (state sizes past) _ c
    (ap links is) ok.life ok.fresh.fresh
    (λ x. replaced_case sizes z past e kept ok (λ (u : Node). u.mode ≡ Fresh → (x ≢ e.life.index) ×
    ((node_in sizes past x).mode ≡ Fresh)) x
    (λ _ m. absurd (cc))
    (λ ne. put_case (λ (u : Node). u.mode ≡ Fresh → (x ≢ e.life.index) × ((node_in sizes past x).mode ≡ Fresh))
    e.old.index (record (node_in sizes past e.old.index) { marked = true }) (state sizes past).node x
    (λ same m. (ne, ap (λ (y : ℕ). (node_in sizes past y).mode) same ∙ m)) (λ _ m. (ne, m)))
    (λ _ _ _ _ m. absurd (cc)))
    (same_tag ReplaceEdge tt sizes e (state sizes past))
linked_once_step sizes z past e kept c k is ok w a = record {
  once = λ x. omega (arith, about_other links x past e (ap links is), c.once x);
  fresh = λ x m. ap (λ (t : ℕ). about links (record { index = x; tag = t }) (past ++ e ∷ []))
      (same_tag k tt sizes e (state sizes past) x)
      ∙ (about_other links _ past e (ap links is) ∙ c.fresh x (fresh_before k tt sizes e (state sizes past) x m));
}

-- each life is linked at most once
pub linked_once : (sizes : Sizes) → IsLayout sizes → (journal : List Event) → IsKept sizes journal → LinkedOnce journal
    (state sizes journal)
linked_once sizes z journal kept = all_in sizes (λ (j : List Event) (s : State) (w : ℕ → ℕ). LinkedOnce j s)
    (linked_once_step sizes z) (record { once = λ x. omega arith; fresh = λ x m. absurd (cc) }) journal kept
