-- The place of an entry that is told of the first mark of a life: right after that mark. Behind that of a vertex its
-- key
-- is gone.
use Rattle.std.proofs.Common.{◌≡◌, ℕ, zero, suc, ◌+◌, ◌≤◌, ◌&&◌, ◌||◌, Bool, true, false, cond, List, [], ◌∷◌}
use Rattle.std.proofs.Common.{length, take, Some, refl, ap, ap₂, ◌∙◌, subst, arith}
use Rattle.std.specs.Prelude.{slice_get}
use Rattle.std.specs.List.{list_any}
use Rattle.graph_kinds.specs.Graph.{has}
use Rattle.packed_link.specs.Layout.{Sizes, IsLayout}
use Rattle.packed_link.specs.declared.link.Life.{Life}
use Rattle.core_journal.specs.declared.event.Event.{Event}
use Rattle.core_journal.specs.Event.{cut_life, cuts_edge, marks_vertex, same_life}
use Rattle.core_journal.specs.Life.{edge_marked, key_of, vertex_marked}
use Rattle.core_journal.specs.Marks.{IsCutOf}
use Rattle.core_journal.specs.Right.{graph_at}
use Rattle.core_journal.proofs.FirstMarkOfLife.{first_mark_of}
use Rattle.core_journal.proofs.KeptLives.{key_more}
use Rattle.core_journal.proofs.Lists.{get_short}
use Rattle.core_journal.proofs.LivesOf.{present_is}
use Rattle.core_journal.proofs.Snoc.{same_self}
use Rattle.core_kept.specs.Kept.{IsKept}
use Rattle.core_lists.proofs.MarksTakeAway.{mark_gone}
use Rattle.core_stretches.specs.Moments.{Has, HoldsBetween}
use Rattle.graph_table.specs.Table.{before_edge_mark, before_mark}

pub first_false : (a b : Bool) → (a || b) ≡ false → a ≡ false
first_false false b h = refl
first_false true b h = absurd (cc)

pub second_false : (a b : Bool) → (a || b) ≡ false → b ≡ false
second_false false b h = h
second_false true b h = absurd (cc)

-- before the first mark there are as many events as its number says
pub before_is : (x : Life) (journal : List Event) (n : ℕ) (e : Event) → slice_get journal n ≡ Some e
    → marks_vertex e.kind ≡ true → e.life ≡ x → vertex_marked (take n journal) x ≡ false → before_mark x journal ≡ n
before_is x [] n e at marks life none = absurd (cc)
before_is x (d ∷ ds) zero e at marks life none =
    let same : d ≡ e = cc in
    let one : marks_vertex d.kind ≡ true = ap (λ (y : Event). marks_vertex y.kind) same ∙ marks in
    let two : same_life x d.life ≡ true = ap (same_life x) (ap (λ (y : Event). y.life) same ∙ life) ∙ same_self x in
    ap₂ (λ (a b : Bool). cond {A = ℕ} (a && b) 0 (1 + before_mark x ds)) one two
before_is x (d ∷ ds) (suc n) e at marks life none =
    let test : Event → Bool = λ (y : Event). marks_vertex y.kind && same_life x y.life in
    let not_here = first_false (test d) (list_any test (take n ds)) none in
    let more = before_is x ds n e at marks life (second_false (test d) (list_any test (take n ds)) none) in
    ap (λ (b : Bool). cond {A = ℕ} b 0 (1 + before_mark x ds)) not_here ∙ omega (arith, more)

-- and before that of an edge
pub edge_before_is : (x : Life) (journal : List Event) (n : ℕ) (e : Event) → slice_get journal n ≡ Some e
    → cuts_edge e.kind ≡ true → cut_life e ≡ x → edge_marked (take n journal) x ≡ false
    → before_edge_mark x journal ≡ n
edge_before_is x [] n e at cuts life none = absurd (cc)
edge_before_is x (d ∷ ds) zero e at cuts life none =
    let same : d ≡ e = cc in
    let one : cuts_edge d.kind ≡ true = ap (λ (y : Event). cuts_edge y.kind) same ∙ cuts in
    let two : same_life x (cut_life d) ≡ true = ap (same_life x) (ap cut_life same ∙ life) ∙ same_self x in
    ap₂ (λ (a b : Bool). cond {A = ℕ} (a && b) 0 (1 + before_edge_mark x ds)) one two
edge_before_is x (d ∷ ds) (suc n) e at cuts life none =
    let test : Event → Bool = λ (y : Event). cuts_edge y.kind && same_life x (cut_life y) in
    let not_here = first_false (test d) (list_any test (take n ds)) none in
    let more = edge_before_is x ds n e at cuts life (second_false (test d) (list_any test (take n ds)) none) in
    ap (λ (b : Bool). cond {A = ℕ} b 0 (1 + before_edge_mark x ds)) not_here ∙ omega (arith, more)

-- a test that an element passes
pub any_here : (test : Event → Bool) (journal : List Event) (n : ℕ) (e : Event) → slice_get journal n ≡ Some e
    → test e ≡ true → list_any test journal ≡ true
any_here test [] n e at h = absurd (cc)
any_here test (d ∷ ds) zero e at h =
    let same : d ≡ e = cc in
    ap (λ (b : Bool). b || list_any test ds) (ap test same ∙ h)
any_here test (d ∷ ds) (suc n) e at h = or_right (test d) (list_any test ds) (any_here test ds n e at h)
  where
    or_right : (a b : Bool) → b ≡ true → (a || b) ≡ true
    or_right true b is = refl
    or_right false b is = is

-- a life that an event of a journal marks is marked in it
pub cut_marked : (journal : List Event) (x : Life) (n : ℕ) → IsCutOf journal x n → edge_marked journal x ≡ true
cut_marked journal x n c =
    let test : Event → Bool = λ (y : Event). cuts_edge y.kind && same_life x (cut_life y) in
    let same : same_life x (cut_life c.event) ≡ true = ap (same_life x) c.life ∙ same_self x in
    any_here test journal n c.event c.at (ap₂ (λ (a b : Bool). a && b) c.cuts same)

-- the place right after the mark of a vertex that was present at a moment: there its key is gone
pub record IsAfterMark (key place since : ℕ) (front : List Event) : Type 0 where
  pub low : since ≤ place
  pub high : place ≤ length front
  pub gone : has (graph_at front place) key ≡ false

pub after_mark : (sizes : Sizes) (key : ℕ) (x : Life) (old at front : List Event) → IsLayout sizes
    → IsKept sizes front → HoldsBetween old front (Has key x) at → length old ≤ length at
    → vertex_marked front x ≡ true → IsAfterMark key (before_mark x front + 1) (length old) front
after_mark sizes key x old at front z kept h since marked =
    let here = present_is at x key h.holds.there in
    let first = first_mark_of at front h.until x here.0 marked in
    let n = first.0 in
    let far = first.1 in
    let mark = first.2 in
    let place = before_is x front n mark.event mark.at mark.marks mark.life mark.unmarked in
    let short = get_short front n mark.event mark.at in
    let key_is : key_of front x ≡ Some key = subst (λ (j : List Event). key_of j x ≡ Some key) h.until.whole
    (key_more at h.until.rest x key here.1) in
    let gone = (mark_gone sizes z front kept x n key mark key_is).after in
    record {
      low = omega (arith, place, far, since);
      high = omega (arith, place, short);
      gone = ap (λ (k : ℕ). has (graph_at front (k + 1)) key) place ∙ gone;
    }
