-- Where a token answers for each number that was drawn, its front is the whole journal.
use Rattle.std.proofs.Common.{append-nil, get_or, ◌≡◌, ℕ, zero, suc, ◌≤◌, Bool, true, false, cond, List, [], ◌∷◌, ◌++◌}
use Rattle.std.proofs.Common.{length, Some, refl, sym, ap, ◌∙◌, subst, arith, ⊎_elim}
use Rattle.std.specs.Prelude.{slice_get}
use mathlib.Core.Option.{some, some-injective, some-ne-none}
use lib.ListN.{get_elem?}
use Rattle.graph_kinds.specs.History.{Every}
use Rattle.packed_link.specs.Layout.{Sizes}
use Rattle.core_journal.specs.declared.event.Event.{Event}
use Rattle.core_journal.specs.Machine.{word_at}
use Rattle.core_journal.proofs.Lists.{every_append, get_here}
use Rattle.core_kept.specs.Kept.{IsQuiet}
use Rattle.core_rule.specs.Rule.{IsAccount, Ruled, reach, HasAccount, AnswersForAll, AnswersForCallers, own_account}
use Rattle.core_rule.specs.Rule.{accounts}
use Rattle.core_rule.specs.Plays.{IsSound}
use Rattle.core_rule.specs.declared.view.View.{View}
use Rattle.core_kept.proofs.Callers.{called}
use Rattle.core_kept.proofs.FirstWords.{numbers}
use Rattle.core_rule.proofs.ViewsFit.{Table, account_far}

-- a caller is quiet behind what the seat has seen, where the seat has its account
pub record IsQuietWithin (journal : List Event) (reach caller : ℕ) : Type 0 where
  pub last : ℕ
  pub within : last ≤ reach
  pub quiet : IsQuiet journal caller last

quiet_here : (sizes : Sizes) (journal : List Event) (o : ℕ → ℕ) (j reach number : ℕ) (xs : List (ℕ × ℕ)) → Every
    (IsAccount sizes journal o j reach) xs → HasAccount xs number → IsQuietWithin journal reach number
quiet_here sizes journal o j reach number [] h has = absurd has
quiet_here sizes journal o j reach number (a ∷ xs) h has =
    ⊎_elim
    (λ (e : a.0 ≡ number). record {
      last = a.1;
      within = h.0.old;
      quiet = subst
          (λ (n : ℕ). IsQuiet journal n a.1) e h.0.quiet;
    })
    (λ (k : HasAccount xs number). quiet_here sizes journal o j reach number xs h.1 k)
    has

-- the accounts of a view are those of its seat
all_accounts : (sizes : Sizes) (s : Table) (h : Ruled sizes s) (id : ℕ) (v : View) → get_elem? s.views id ≡ some v
    → Every (IsAccount sizes h.journal h.owner id (reach v)) (accounts v)
all_accounts sizes s h id v me = every_append (IsAccount sizes h.journal h.owner id (reach v)) (own_account v) v.others
    (own v.numbered refl) (h.seats id v me).others
  where
    own : (b : Bool) → v.numbered ≡ b → Every (IsAccount sizes h.journal h.owner id (reach v))
        (cond b ((v.number, v.last) ∷ []) [])
    own true has = (
      account_far sizes h.journal h.owner h.owner id id (length v.front) (reach v) (v.number, v.last)
          (λ x. x) (omega arith) ((h.seats id v me).numbered has),
      tt,
    )
    own false has = tt

-- where a token may draw and answers for each number that was drawn, its front is the whole journal
pub front_whole : (sizes : Sizes) (s : Table) (h : Ruled sizes s) (id : ℕ) (v : View) → get_elem? s.views id ≡ some v
    → v.met ≡ [] → AnswersForAll v → h.journal ≡ v.front
front_whole sizes s h id v me bare all = by_rest (h.seats id v me).front.rest (h.seats id v me).front.whole
  where
    by_rest : (rest : List Event) → v.front ++ rest ≡ h.journal → h.journal ≡ v.front
    by_rest [] is = sym is ∙ append-nil v.front
    by_rest (e ∷ es) is =
        let at : slice_get h.journal (length v.front) ≡ Some e = subst
        (λ (j : List Event). slice_get j (length v.front) ≡ Some e) is (get_here v.front e es) in
        let by = called sizes h.journal h.kept (length v.front) e at in
        let q = quiet_here sizes h.journal h.owner id (reach v) e.caller (accounts v) (all_accounts sizes s h id v me)
        (all.each e.caller (omega (arith, by, ((h.seats id v me).draws all.draws).drawn))) in
        absurd (q.quiet.none (length v.front) e (omega (arith, q.within, ap length bare)) at refl)

-- a word of the table is that of the journal
found_at : (sizes : Sizes) (s : Table) (h : Ruled sizes s) (place x : ℕ) → get_elem? s.words place ≡ some x
    → x ≡ word_at sizes h.journal place
unfolding word_at
found_at sizes s h place x at = sym (get_or_elem s.words place x at) ∙ ap (λ (ws : List ℕ). get_or ws place 0) h.words
  where
    get_or_elem : (xs : List ℕ) (i x : ℕ) → get_elem? xs i ≡ some x → get_or xs i 0 ≡ x
    get_or_elem [] i x e = absurd (some-ne-none x (sym e))
    get_or_elem (y ∷ ys) zero x e = some-injective y x e
    get_or_elem (y ∷ ys) (suc i) x e = get_or_elem ys i x e

-- where a token answers for each number below that of callers, whoever may draw, its front is the whole journal
pub front_of_callers : (sizes : Sizes) (s : Table) (h : Ruled sizes s) (id : ℕ) (v : View)
    → get_elem? s.views id ≡ some v → v.met ≡ [] → v.sizes ≡ sizes → AnswersForCallers v → h.journal ≡ v.front
front_of_callers sizes s h id v me bare same all = by_rest (h.seats id v me).front.rest (h.seats id v me).front.whole
  where
    by_rest : (rest : List Event) → v.front ++ rest ≡ h.journal → h.journal ≡ v.front
    by_rest [] is = sym is ∙ append-nil v.front
    by_rest (e ∷ es) is =
        let at : slice_get h.journal (length v.front) ≡ Some e = subst
        (λ (j : List Event). slice_get j (length v.front) ≡ Some e) is (get_here v.front e es) in
        let by = called sizes h.journal h.kept (length v.front) e at in
        let room = (numbers sizes h.journal h.kept).room in
        let count : v.sizes.callers ≡ sizes.callers = ap (λ (z : Sizes). z.callers) same in
        let q = quiet_here sizes h.journal h.owner id (reach v) e.caller (accounts v) (all_accounts sizes s h id v me)
        (all.each e.caller (omega (arith, by, room, count))) in
        absurd (q.quiet.none (length v.front) e (omega (arith, q.within, ap length bare)) at refl)

-- the words of a table whose last token answers for each number below that of callers
pub word_of_callers : (sizes : Sizes) (s : Table) (h : Ruled sizes s) (id place x : ℕ) (v : View)
    → get_elem? s.views id ≡ some v → v.met ≡ [] → v.sizes ≡ sizes → AnswersForCallers v
    → get_elem? s.words place ≡ some x → x ≡ word_at sizes v.front place
word_of_callers sizes s h id place x v me bare same all at = found_at sizes s h place x at ∙ ap
    (λ (j : List Event). word_at sizes j place) (front_of_callers sizes s h id v me bare same all)

-- no event of an account's number stands in a sound view's front from the account's length on
pub accounts_quiet : (v : View) → IsSound v → Every (λ (a : ℕ × ℕ). IsQuiet v.front a.0 a.1) (accounts v)
accounts_quiet v s = every_append (λ (a : ℕ × ℕ). IsQuiet v.front a.0 a.1) (own_account v) v.others
    (own v.numbered refl) s.others
  where
    own : (b : Bool) → v.numbered ≡ b → Every (λ (a : ℕ × ℕ). IsQuiet v.front a.0 a.1)
        (cond b ((v.number, v.last) ∷ []) [])
    own true has = (s.quiet has, tt)
    own false has = tt

-- the words of a closed table
pub closed_word : (sizes : Sizes) (s : Table) (h : Ruled sizes s) (id place x : ℕ) (v : View)
    → get_elem? s.views id ≡ some v → v.met ≡ [] → AnswersForAll v → get_elem? s.words place ≡ some x
    → x ≡ word_at sizes v.front place
closed_word sizes s h id place x v me bare all at = found_at sizes s h place x at ∙ ap
    (λ (j : List Event). word_at sizes j place) (front_whole sizes s h id v me bare all)
