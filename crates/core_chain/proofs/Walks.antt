-- What a walk may conclude.
use Rattle.std.proofs.Common.{◌≡◌, ◌≢◌, ◌↔◌, ℕ, ◌<◌, List, refl, sym, subst, arith, ⊎_elim, inl, true}
use Rattle.std.specs.Prelude.{Contains}
use Rattle.std.proofs.lemmas.Bool.{and_parts, and_from}
use Rattle.std.proofs.lemmas.Bool.Decides.{nat_tests}
use Rattle.packed_link.specs.Link.{nowhere}
use Rattle.core_chain.specs.Chain.{Chain, ChainWord, Head, Next, IsOn, IsChain, Precedes, rank_of, since_of}
use Rattle.core_chain.specs.Met.{MeetsFrom}
use Rattle.core_chain.specs.Walk.{StandsBelow, Passes, stands_behind, rest_behind}
use Rattle.core_chain.proofs.Orders.{IsBelow-precedes, Precedes-below, LeadsOnChain, NotPast, RisesBehind, IsChain-by}
use Rattle.core_chain.proofs.Orders.{by_order, before_then, rises_behind}
use Rattle.core_chain.proofs.Meets.{met_behind, leader, IsMet-from_chain}

-- two unmarked nodes of one key are one
pub one_of_key : (c : Chain) (x y : ℕ) → IsChain c → IsOn c (Next x) → IsOn c (Next y) → c.mark (Next x) ≡ 0
    → c.mark (Next y) ≡ 0 → c.key x ≡ c.key y → x ≡ y
one_of_key c x y chain on_x on_y open_x open_y same =
    by_order c (Next x) (Next y) chain on_x on_y (λ e. cc)
    (λ low. let f = rises_behind c (Next x) (Next y) chain on_x on_y open_x low in absurd (omega arith))
    (λ high. let f = rises_behind c (Next y) (Next x) chain on_y on_x open_y high in absurd (omega arith))

-- where a word leads past a key, no node of the key is on the chain
pub none_of_key : (c : Chain) (p : ChainWord) (key x : ℕ) → IsChain c → Passes c p key → IsOn c (Next x) → c.key x ≢ key
none_of_key c p key x chain passes on same =
    let before : Precedes c p (Next x) = IsBelow-precedes c p x (rw same passes.above) in
    let low = passes.below (chain.last p (Next x) passes.present on before) in
    chain.gap p (Next x) passes.present on before (inl (omega arith))

-- what is met from a word of a chain is what stands behind it
pub all_behind : (c : Chain) (p : ChainWord) (xs : List ℕ) (x : ℕ) → IsChain c → IsOn c p → MeetsFrom c p xs
    → Contains xs x ↔ (IsOn c (Next x) × Precedes c p (Next x))
all_behind c p xs x chain on met =
    let both = (met_behind c p xs chain on met).1 x in (λ at. both.1 at, λ h. both.0 h)

-- behind an unmarked word, these are the nodes of greater keys
pub all_greater : (c : Chain) (p : ChainWord) (xs : List ℕ) (x : ℕ) → IsChain c → IsOn c p → c.mark p ≡ 0
    → MeetsFrom c p xs
    → Contains xs x ↔ (IsOn c (Next x) × StandsBelow c p (c.key x))
all_greater c p xs x chain on unmarked met =
    let both = (met_behind c p xs chain on met).1 x in (
      λ at. let h = both.1 at in (h.0, Precedes-below c p x (rises_behind c p (Next x) chain on h.0 unmarked h.1)),
      λ h. both.0 (h.0, IsBelow-precedes c p x h.1),
    )

-- some word of a chain of finitely many nodes leads to each node on it
pub leader_of : (c : Chain) (size x : ℕ) → IsChain c → ((y : ℕ) → IsOn c (Next y) → y < size) → IsOn c (Next x)
    → (p : ChainWord) × IsOn c p × (c.next p ≡ x)
leader_of c size x chain within on =
    let found = IsMet-from_chain c size chain within in
    let exactly = found.1.exactly in
    let led = leader c Head found.0 x found.1.met ((exactly x).0 on) in (
      led.0,
      ⊎_elim (λ (e : led.0 ≡ Head). subst (IsOn c) (sym e) tt)
          (λ (h : (y : ℕ) × Contains found.0 y × (led.0 ≡ Next y)).
          subst (IsOn c) (sym h.2) ((exactly h.0).1 h.1)) led.1.0,
      led.1.1,
    )

module _ (c : Chain) (p : ChainWord) (chain : IsChain c) (on_p : IsOn c p) where
  -- whether a word stands behind another
  behind_true : (q : ChainWord) → stands_behind c p q ≡ true → Precedes c p q
  behind_true q test = grind (arith, nat_tests)

  behind_test : (q : ChainWord) → Precedes c p q → stands_behind c p q ≡ true
  behind_test q after = grind (arith, nat_tests)

  -- a node of the rest is on the chain, behind the word
  whole : (x : ℕ) → IsOn (rest_behind c p) (Next x) → LeadsOnChain c p x
  whole x on =
      let both = and_parts (c.on x) (stands_behind c p (Next x)) on in
      (both.0, behind_true (Next x) both.1)

  -- and the other way round
  part : (x : ℕ) → IsOn c (Next x) → Precedes c p (Next x) → IsOn (rest_behind c p) (Next x)
  part x on after = and_from (c.on x) (stands_behind c p (Next x)) on (behind_test (Next x) after)

  leads : (q : ChainWord) → IsOn (rest_behind c p) q → (rest_behind c p).next q ≢ nowhere
      → LeadsOnChain (rest_behind c p) q ((rest_behind c p).next q)
  leads Head on some = let to = chain.leads p on_p some in (part (c.next p) to.0 to.1, inl (omega arith))
  leads (Next x) on some =
      let at = whole x on in
      let to = chain.leads (Next x) at.0 some in
      (part (c.next (Next x)) to.0 (before_then c p (Next x) (Next (c.next (Next x))) at.1 to.1), to.1)

  upto : (q r : ChainWord) → IsOn (rest_behind c p) q → IsOn (rest_behind c p) r → Precedes (rest_behind c p) q r
      → NotPast (rest_behind c p) r ((rest_behind c p).next q)
  upto q Head on_q on_r before = absurd (omega arith)
  upto Head (Next y) on_q on_r before =
      let at = whole y on_r in
      (chain.last p (Next y) on_p at.0 at.1, chain.gap p (Next y) on_p at.0 at.1)
  upto (Next x) (Next y) on_q on_r before =
      let from = whole x on_q in
      let at = whole y on_r in
      (chain.last (Next x) (Next y) from.0 at.0 before, chain.gap (Next x) (Next y) from.0 at.0 before)

  alone : (q r : ChainWord) → IsOn (rest_behind c p) q → IsOn (rest_behind c p) r
      → rank_of (rest_behind c p) q ≡ rank_of (rest_behind c p) r
      → since_of (rest_behind c p) q ≡ since_of (rest_behind c p) r → q ≡ r
  alone Head Head on_q on_r same same' = refl
  alone Head (Next y) on_q on_r same same' = absurd (omega arith)
  alone (Next x) Head on_q on_r same same' = absurd (omega arith)
  alone (Next x) (Next y) on_q on_r same same' = chain.alone (Next x) (Next y) (whole x on_q).0
      (whole y on_r).0 same same'

  rises : (q : ChainWord) → IsOn (rest_behind c p) q → (rest_behind c p).next q ≢ nowhere
      → RisesBehind (rest_behind c p) q ((rest_behind c p).next q)
  rises Head on some = λ u. omega arith
  rises (Next x) on some = λ u. chain.rises (Next x) (whole x on).0 u some

  -- the rest behind a word is a chain
  pub IsChain-rest : IsChain (rest_behind c p)
  IsChain-rest = IsChain-by (rest_behind c p) (λ x on. chain.named x (whole x on).0) leads upto alone rises
