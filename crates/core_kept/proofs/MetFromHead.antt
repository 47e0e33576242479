-- What one meets from the head of a chain after each step: the list of the state after the event.
use Rattle.std.proofs.Common.{◌≡◌, ◌≢◌, ℕ, suc, Bool, true, false, cond, not, ◌||◌, ◌==◌, List, [], ◌∷◌, refl, sym, ap}
use Rattle.std.proofs.Common.{◌∙◌, subst, arith, eq-eqb, eqb-true, ne_eqb, ◌⊎◌, ⊎_elim, inl, inr}
use Rattle.std.specs.Prelude.{Contains}
use mathlib.Core.Logic.{dite}
use native.Mathlib.Decide.{ℕ_discrete}
use Rattle.graph_kinds.specs.Levels.{stands_in}
use Rattle.graph_kinds.specs.History.{Every}
use Rattle.packed_link.specs.Link.{nowhere}
use Rattle.packed_link.specs.Layout.{Sizes, link_at}
use Rattle.core_chain.specs.Chain.{Chain, ChainWord, Head, Next, IsOn, IsChain, Precedes}
use Rattle.core_chain.specs.Met.{MeetsFrom, RisesAlong, IsMet}
use Rattle.core_chain.specs.Steps.{Inserts, Replaces, Unlinks, SetsMark, Untouched, Joins, Departs}
use Rattle.core_chain.specs.Table.{Places}
use Rattle.core_chain.proofs.Orders.{if_same, one_leads, before_same, before_then}
use Rattle.core_chain.proofs.Inserts.{PutsNode, PutsNode-inserted, PutsNode-replaced}
use Rattle.core_chain.proofs.Marks.{next-marked}
use Rattle.core_chain.proofs.Meets.{met_behind}
use Rattle.core_journal.specs.State.{put_behind, linked_in, unlinked_from}

-- what is found is an element
pub contains_stands : (y : ℕ) (xs : List ℕ) → stands_in xs y ≡ true → Contains xs y
contains_stands y [] h = absurd (cc)
contains_stands y (x ∷ xs) h = by (x == y) refl (contains_stands y xs) h
  where
    by : (b : Bool) → (x == y) ≡ b → (stands_in xs y ≡ true → Contains xs y) → (b || stands_in xs y) ≡ true → Contains
        (x ∷ xs) y
    by true e more h = (0, omega arith, eqb-true x y e)
    by false e more h = let c = more h in (suc c.0, omega (arith, c.1), c.2)

-- what holds of all elements of a list holds of each
pub each_such : (P : ℕ → Type 0) (xs : List ℕ) → ((x : ℕ) → Contains xs x → P x) → Every P xs
each_such P [] all = tt
each_such P (x ∷ xs) all = (
  all x (0, omega arith, refl),
  each_such P xs
      (λ y c. all y (suc c.0, omega (arith, c.1), c.2)),
)

-- a node put behind none, and none taken away
put_none : (test : ℕ → Bool) (y : ℕ) (xs : List ℕ) → Every (λ x. test x ≡ false) xs → put_behind test y xs ≡ xs
put_none test y [] h = refl
put_none test y (x ∷ xs) h = ap (λ (b : Bool). cond b (x ∷ y ∷ xs) (x ∷ put_behind test y xs)) h.0 ∙ ap
    (λ (l : List ℕ). x ∷ l) (put_none test y xs h.1)

pub unlinked_else : (y : ℕ) (xs : List ℕ) → Every (λ x. x ≢ y) xs → unlinked_from y xs ≡ xs
unlinked_else y [] h = refl
unlinked_else y (x ∷ xs) h = ap (λ (b : Bool). cond (not b) (x ∷ unlinked_from y xs) (unlinked_from y xs))
    (ne_eqb x y h.0) ∙ ap (λ (l : List ℕ). x ∷ l) (unlinked_else y xs h.1)

-- a chain stays as it is where a node is linked in at a place that is neither its head nor the link of a node on it
pub linked_else : (sizes : Sizes) (head place y : ℕ) (xs : List ℕ) → place ≢ head → Every
    (λ x. place ≢ link_at sizes x) xs → linked_in sizes head place y xs ≡ xs
linked_else sizes head place y xs apart h =
    ap (λ (b : Bool). cond b (y ∷ xs) (put_behind (λ x. place == link_at sizes x) y xs)) (ne_eqb place head apart)
    ∙ put_none (λ x. place == link_at sizes x) y xs (each xs h)
  where
    each : (xs : List ℕ) → Every (λ x. place ≢ link_at sizes x) xs → Every (λ x. (place == link_at sizes x) ≡ false) xs
    each [] h = tt
    each (x ∷ xs) h = (ne_eqb place (link_at sizes x) h.0, each xs h.1)

-- a word from which the links lead on as before meets what it met
pub meets_same : (c d : Chain) (p : ChainWord) (xs : List ℕ) → IsChain c → IsOn c p →
    ((q : ChainWord) → IsOn c q → d.next q ≡ c.next q) → MeetsFrom c p xs → MeetsFrom d p xs
meets_same c d p [] chain on same met = same p on ∙ met
meets_same c d p (x ∷ xs) chain on same met =
    let some : c.next p ≢ nowhere = λ e. met.1 (sym met.0 ∙ e) in
    let there : IsOn c (Next x) = subst (λ (y : ℕ). IsOn c (Next y)) met.0 (chain.leads p on some).0 in
    (same p on ∙ met.0, met.1, meets_same c d (Next x) xs chain there same met.2)

-- after a mark, and where nothing changes
pub meets_marked : (c d : Chain) (at : ChainWord) (xs : List ℕ) → IsChain c → SetsMark c d at → MeetsFrom c Head xs
    → MeetsFrom d Head xs
meets_marked c d at xs chain step met = meets_same c d Head xs chain tt (λ q on. next-marked c d at step q) met

pub meets_untouched : (c d : Chain) (xs : List ℕ) → IsChain c → Untouched c d → MeetsFrom c Head xs
    → MeetsFrom d Head xs
meets_untouched c d xs chain same met = meets_same c d Head xs chain tt same.next met

-- words that differ from one lead on as before, from a word that leads where another led
moved : (c d : Chain) (at p q : ChainWord) (xs : List ℕ) → ((r : ChainWord) → r ≢ at → d.next r ≡ c.next r) → Every
    (λ x. Next x ≢ at) xs → d.next q ≡ c.next p → MeetsFrom c p xs → MeetsFrom d q xs
moved c d at p q [] others apart same met = same ∙ met
moved c d at p q (x ∷ xs) others apart same met = (
  same ∙ met.0,
  met.1,
  moved c d at (Next x) (Next x) xs others apart.1
      (others (Next x) apart.0) met.2,
)

-- a word doesn't stand behind another
abbrev pub IsUpTo : Chain → ChainWord → ChainWord → Type 0
IsUpTo c q p = (q ≡ p) ⊎ Precedes c q p

-- so it stands before what stands behind that
before_next : (c : Chain) (q p : ChainWord) (x : ℕ) → IsUpTo c q p → Precedes c p (Next x) → Precedes c q (Next x)
before_next c q p x upto low = ⊎_elim (λ same. subst (λ (r : ChainWord). Precedes c r (Next x)) (sym same) low)
    (λ before. before_then c q p (Next x) before low) upto

-- what rises behind a word stands at no such word
apart_from : (c : Chain) (at p : ChainWord) (xs : List ℕ) → IsUpTo c at p → RisesAlong c p xs → Every
    (λ x. Next x ≢ at) xs
apart_from c at p [] upto rising = tt
apart_from c at p (x ∷ xs) upto rising =
    let low = before_next c at p x upto rising.0 in
    ((λ e. before_same c at (Next x) low (sym e)), apart_from c at (Next x) xs (inr low) rising.1)

-- what rises behind a node is no such node
risen : (c : Chain) (p : ChainWord) (n : ℕ) (xs : List ℕ) → IsUpTo c (Next n) p → RisesAlong c p xs → Every
    (λ x. x ≢ n) xs
risen c p n [] upto rising = tt
risen c p n (x ∷ xs) upto rising =
    let low = before_next c (Next n) p x upto rising.0 in
    ((λ e. before_same c (Next n) (Next x) low (ap Next (sym e))), risen c (Next x) n xs (inr low) rising.1)

-- the words of a chain among those of the layout: the links of nodes, and a head that is none of these
pub record AreLinks (sizes : Sizes) (places : Places) : Type 0 where
  pub links : (x : ℕ) → places.word_at (Next x) ≡ link_at sizes x
  pub apart : (x : ℕ) → places.word_at Head ≢ link_at sizes x

-- a node that is inserted behind the link of a node stands behind that node
put_in : (sizes : Sizes) (c d : Chain) (x n : ℕ) (p : ChainWord) (xs : List ℕ) → PutsNode c d (Next x) n → p ≢ Next x
    → MeetsFrom c p xs → RisesAlong c p xs → MeetsFrom d p (put_behind (λ y. link_at sizes x == link_at sizes y) n xs)
put_in sizes c d x n p [] step ne met rising = step.words.next p ne ∙ met
put_in sizes c d x n p (y ∷ ys) step ne met rising = dite (ℕ_discrete y x)
    (λ same.
    let here : (link_at sizes x == link_at sizes y) ≡ true = eq-eqb (link_at sizes x) (link_at sizes y)
    (omega (arith, same)) in
    let not_new : Next n ≢ Next x = λ e. let z : n ≡ x = cc in step.absent
    (subst (λ (q : ChainWord). IsOn c q) (ap Next (sym z)) step.present) in
    let to : d.next (Next n) ≡ c.next (Next y) = step.words.next (Next n) not_new ∙
    (step.filled ∙ ap (λ (z : ℕ). c.next (Next z)) (sym same)) in
    let rest : MeetsFrom d (Next n) ys = moved c d (Next x) (Next y) (Next n) ys step.words.next
    (apart_from c (Next x) (Next y) ys (inl (ap Next (sym same))) rising.1) to met.2 in
    let led : d.next (Next y) ≡ n = ap (λ (z : ℕ). d.next (Next z)) same ∙ step.leads in
    subst (λ (b : Bool). MeetsFrom d p (cond b (y ∷ n ∷ ys) (y ∷ put_behind
    (λ z. link_at sizes x == link_at sizes z) n ys))) (sym here)
    (step.words.next p ne ∙ met.0, met.1, (led, step.named, rest)))
    (λ other.
    let here : (link_at sizes x == link_at sizes y) ≡ false = ne_eqb (link_at sizes x) (link_at sizes y)
    (λ h. other (omega (arith, h))) in
    subst (λ (b : Bool). MeetsFrom d p (cond b (y ∷ n ∷ ys) (y ∷ put_behind
    (λ z. link_at sizes x == link_at sizes z) n ys))) (sym here) (
      step.words.next p ne ∙ met.0,
      met.1,
      put_in sizes c d x n (Next y) ys step
          (λ e. let z : y ≡ x = cc in other z) met.2 rising.1,
    ))

module _ (sizes : Sizes) (places : Places) (are : AreLinks sizes places) where
  -- what is linked in at the head stands first, and at the link of a node behind it
  at_head : (y : ℕ) (xs : List ℕ) → linked_in sizes (places.word_at Head) (places.word_at Head) y xs ≡ y ∷ xs
  at_head y xs = ap (λ (b : Bool). cond b (y ∷ xs) (put_behind (λ x. places.word_at Head == link_at sizes x) y xs))
      (eq-eqb (places.word_at Head) (places.word_at Head) refl)

  at_node : (x y : ℕ) (xs : List ℕ) → linked_in sizes (places.word_at Head) (places.word_at (Next x)) y xs ≡ put_behind
      (λ z. link_at sizes x == link_at sizes z) y xs
  at_node x y xs =
      ap (λ (b : Bool). cond b (y ∷ xs) (put_behind (λ z. places.word_at (Next x) == link_at sizes z) y xs))
      (ne_eqb (places.word_at (Next x)) (places.word_at Head) (λ e. are.apart x (sym e ∙ are.links x)))
      ∙ ap (λ (p : ℕ). put_behind (λ z. p == link_at sizes z) y xs) (are.links x)

  -- after a node is inserted one meets the list into which it's linked
  pub meets_inserted : (c d : Chain) (at : ChainWord) (n : ℕ) (xs : List ℕ) → IsChain c → Inserts c d at n
      → MeetsFrom c Head xs → MeetsFrom d Head (linked_in sizes (places.word_at Head) (places.word_at at) n xs)
  meets_inserted c d Head n xs chain step met =
      let to : d.next (Next n) ≡ c.next Head = step.words.next (Next n) (λ e. absurd (cc)) ∙ step.can.filled in
      subst (λ (l : List ℕ). MeetsFrom d Head l) (sym (at_head n xs)) (
        step.leads,
        step.can.named,
        moved c d Head Head (Next n) xs step.words.next
            (apart_from c Head Head xs (inl refl) (met_behind c Head xs chain tt met).0) to met,
      )
  meets_inserted c d (Next x) n xs chain step met =
      subst (λ (l : List ℕ). MeetsFrom d Head l) (sym (at_node x n xs))
      (put_in sizes c d x n Head xs (PutsNode-inserted c d (Next x) n chain step) (λ e. absurd (cc)) met
      (met_behind c Head xs chain tt met).0)

  -- so after a node is replaced
  pub meets_replaced : (c d : Chain) (x n : ℕ) (xs : List ℕ) → IsChain c → Replaces c d x n → MeetsFrom c Head xs
      → MeetsFrom d Head (linked_in sizes (places.word_at Head) (places.word_at (Next x)) n xs)
  meets_replaced c d x n xs chain step met =
      subst (λ (l : List ℕ). MeetsFrom d Head l) (sym (at_node x n xs))
      (put_in sizes c d x n Head xs (PutsNode-replaced c d x n chain step) (λ e. absurd (cc)) met
      (met_behind c Head xs chain tt met).0)

-- a node that is taken out is no more met
take_out : (c d : Chain) (at : ChainWord) (n : ℕ) (p : ChainWord) (xs : List ℕ) → IsChain c → Unlinks c d at n
    → IsOn c p → p ≢ Next n → MeetsFrom c p xs → RisesAlong c p xs → MeetsFrom d p (unlinked_from n xs)
take_out c d at n p [] chain step on ne met rising = if_same p at
    (λ same. absurd (step.can.named (sym step.can.led ∙ (ap c.next (sym same) ∙ met))))
    (λ other. step.words.next p other ∙ met)
take_out c d at n p (y ∷ ys) chain step on ne met rising =
    let some : c.next p ≢ nowhere = λ e. met.1 (sym met.0 ∙ e) in
    let there : IsOn c (Next y) = subst (λ (z : ℕ). IsOn c (Next z)) met.0 (chain.leads p on some).0 in
    if_same p at
    (λ same.
    let is : y ≡ n = sym met.0 ∙ (ap c.next same ∙ step.can.led) in
    let to : d.next p ≡ c.next (Next y) = ap d.next same ∙ (step.leads ∙ ap (λ (z : ℕ). c.next (Next z)) (sym is)) in
    let rest : MeetsFrom d p ys = moved c d at (Next y) p ys step.words.next
    (apart_from c at (Next y) ys (inr (subst (λ (r : ChainWord). Precedes c r (Next y)) same rising.0)) rising.1) to
    met.2 in
    subst (λ (b : Bool). MeetsFrom d p (cond (not b) (y ∷ unlinked_from n ys) (unlinked_from n ys)))
    (sym (eq-eqb y n is))
    (subst (λ (l : List ℕ). MeetsFrom d p l) (sym (unlinked_else n ys
    (risen c (Next y) n ys (inl (ap Next (sym is))) rising.1))) rest))
    (λ other.
    let not_it : y ≢ n = λ is. other (one_leads c p at chain on step.can.present some (met.0 ∙ (is ∙ sym step.can.led)))
    in
    subst (λ (b : Bool). MeetsFrom d p (cond (not b) (y ∷ unlinked_from n ys) (unlinked_from n ys)))
    (sym (ne_eqb y n not_it)) (
      step.words.next p other ∙ met.0,
      met.1,
      take_out c d at n (Next y) ys chain step there
          (λ e. let is : y ≡ n = cc in not_it is) met.2 rising.1,
    ))

-- after a node is unlinked one meets the list without it
pub meets_unlinked : (c d : Chain) (at : ChainWord) (n : ℕ) (xs : List ℕ) → IsChain c → Unlinks c d at n
    → MeetsFrom c Head xs → MeetsFrom d Head (unlinked_from n xs)
meets_unlinked c d at n xs chain step met = take_out c d at n Head xs chain step tt (λ e. absurd (cc)) met
    (met_behind c Head xs chain tt met).0

-- a node joins the list into which it's linked
put_joins : (test : ℕ → Bool) (n x : ℕ) (xs : List ℕ) → x ≢ n → stands_in (put_behind test n xs) x ≡ stands_in xs x
put_joins test n x [] ne = refl
put_joins test n x (y ∷ ys) ne = by (test y) (put_joins test n x ys ne)
  where
    by : (b : Bool) → stands_in (put_behind test n ys) x ≡ stands_in ys x → stands_in
        (cond b (y ∷ n ∷ ys) (y ∷ put_behind test n ys))
        x ≡ stands_in (y ∷ ys) x
    by true h = ap (λ (b : Bool). (y == x) || (b || stands_in ys x)) (ne_eqb n x (λ e. ne (sym e)))
    by false h = ap (λ (b : Bool). (y == x) || b) h

put_stands : (test : ℕ → Bool) (n b : ℕ) (xs : List ℕ) → test b ≡ true → stands_in xs b ≡ true → stands_in
    (put_behind test n xs)
    n ≡ true
put_stands test n b [] hits h = absurd (cc)
put_stands test n b (y ∷ ys) hits h = by (test y) (y == b) refl refl (put_stands test n b ys hits) h
  where
    or_true : (a : Bool) → (a || true) ≡ true
    or_true true = refl
    or_true false = refl

    by : (t s : Bool) → test y ≡ t → (y == b) ≡ s → (stands_in ys b ≡ true → stands_in (put_behind test n ys) n ≡ true)
        →
        (s || stands_in ys b) ≡ true → stands_in (cond t (y ∷ n ∷ ys) (y ∷ put_behind test n ys)) n ≡ true
    by true s i j more h = ap (λ (a : Bool). (y == n) || (a || stands_in ys n)) (eq-eqb n n refl) ∙ or_true (y == n)
    by false true i j more h = absurd (let e : test y ≡ true = ap test (eqb-true y b j) ∙ hits in cc)
    by false false i j more h = ap (λ (a : Bool). (y == n) || a) (more h) ∙ or_true (y == n)

-- where another node is linked in, a node stands on the list as before
pub linked_stands : (sizes : Sizes) (head place n x : ℕ) (xs : List ℕ) → x ≢ n → stands_in
    (linked_in sizes head place n xs)
    x ≡ stands_in xs x
linked_stands sizes head place n x xs ne = by (place == head)
  where
    by : (b : Bool) → stands_in (cond b (n ∷ xs) (put_behind (λ z. place == link_at sizes z) n xs)) x ≡ stands_in xs x
    by true = ap (λ (b : Bool). b || stands_in xs x) (ne_eqb n x (λ e. ne (sym e)))
    by false = put_joins (λ z. place == link_at sizes z) n x xs ne

module _ (sizes : Sizes) (places : Places) (are : AreLinks sizes places) where
  pub joins_linked : (at : ChainWord) (n : ℕ) (xs : List ℕ) → ((x : ℕ) → at ≡ Next x → stands_in xs x ≡ true) → Joins
      (λ x. stands_in xs x) (λ x. stands_in (linked_in sizes (places.word_at Head) (places.word_at at) n xs) x) n
  joins_linked Head n xs behind = record {
    joins = ap (λ (l : List ℕ). stands_in l n) (at_head sizes places are n xs) ∙ ap (λ (b : Bool). b || stands_in xs n)
        (eq-eqb n n refl);
    others = λ x ne. ap (λ (l : List ℕ). stands_in l x) (at_head sizes places are n xs) ∙ ap
        (λ (b : Bool). b || stands_in xs x) (ne_eqb n x (λ e. ne (sym e)));
  }
  joins_linked (Next b) n xs behind = record {
    joins = ap (λ (l : List ℕ). stands_in l n) (at_node sizes places are b n xs) ∙ put_stands
        (λ z. link_at sizes b == link_at sizes z) n b xs (eq-eqb (link_at sizes b) (link_at sizes b) refl)
        (behind b refl);
    others = λ x ne. ap (λ (l : List ℕ). stands_in l x) (at_node sizes places are b n xs) ∙ put_joins
        (λ z. link_at sizes b == link_at sizes z) n x xs ne;
  }

-- a node leaves the list without it
pub leaves_unlinked : (n : ℕ) (xs : List ℕ) → Departs (λ x. stands_in xs x) (λ x. stands_in (unlinked_from n xs) x) n
leaves_unlinked n xs = record { departs = λ h. gone xs h; others = λ x ne. stays x ne xs }
  where
    gone : (xs : List ℕ) → stands_in (unlinked_from n xs) n ≡ true → ⊥
    gone [] h = absurd (cc)
    gone (y ∷ ys) h = by (y == n) refl (gone ys) h
      where
        by : (b : Bool) → (y == n) ≡ b → (stands_in (unlinked_from n ys) n ≡ true → ⊥) → stands_in
            (cond (not b) (y ∷ unlinked_from n ys) (unlinked_from n ys))
            n ≡ true → ⊥
        by true e more h = more h
        by false e more h = more (sym (ap (λ (b : Bool). b || stands_in (unlinked_from n ys) n) e) ∙ h)

    stays : (x : ℕ) → x ≢ n → (xs : List ℕ) → stands_in (unlinked_from n xs) x ≡ stands_in xs x
    stays x ne [] = refl
    stays x ne (y ∷ ys) = by (y == n) refl (stays x ne ys)
      where
        by : (b : Bool) → (y == n) ≡ b → stands_in (unlinked_from n ys) x ≡ stands_in ys x → stands_in
            (cond (not b) (y ∷ unlinked_from n ys) (unlinked_from n ys))
            x ≡ stands_in (y ∷ ys) x
        by true e h = h ∙ sym (ap (λ (b : Bool). b || stands_in ys x)
            (ne_eqb y x (λ same. ne (sym same ∙ eqb-true y n e))))
        by false e h = ap (λ (b : Bool). (y == x) || b) h

-- what stands on the list without a node is another, and stood on it before
pub unlinked_stands : (n x : ℕ) (xs : List ℕ) → stands_in (unlinked_from n xs) x ≡ true → (x ≢ n) ×
    (stands_in xs x ≡ true)
unlinked_stands n x xs h =
    let l = leaves_unlinked n xs in
    let ne : x ≢ n = λ e. l.departs (subst (λ (y : ℕ). stands_in (unlinked_from n xs) y ≡ true) e h) in
    (ne, sym (l.others x ne) ∙ h)

-- a node off the chain is none of those that are met
pub each_absent : (c : Chain) (n : ℕ) (xs : List ℕ) → IsMet c xs → (IsOn c (Next n) → ⊥) → Every (λ x. x ≢ n) xs
each_absent c n xs met none = each_such (λ x. x ≢ n) xs (λ x h same. none
    ((met.exactly n).1 (subst (Contains xs) same h)))
