-- A mark keeps the chain, and so does what changes nothing on it.
use Rattle.std.proofs.Common.{◌≡◌, ◌≢◌, ℕ, ◌+◌, refl, sym, ap, ◌∙◌, subst, arith}
use Rattle.packed_link.specs.Link.{nowhere}
use Rattle.core_chain.specs.Chain.{Chain, ChainWord, Head, Next, IsOn, IsChain, Precedes, rank_of, since_of}
use Rattle.core_chain.specs.Steps.{SetsMark, Untouched, IsFrozenTo, Keeps}
use Rattle.core_chain.proofs.Orders.{if_same, LeadsOnChain, NotPast, RisesBehind, IsChain-by, before_still}

-- what is on the one chain is on the other
pub IsOn-back : (c d : Chain) → ((x : ℕ) → d.on x ≡ c.on x) → (q : ChainWord) → IsOn d q → IsOn c q
IsOn-back c d stays Head on = tt
IsOn-back c d stays (Next x) on = sym (stays x) ∙ on

-- the same nodes with the same keys, linked by the same steps, and words that lead where they led and lose no mark
module _ (c d : Chain) (chain : IsChain c) (stays : (x : ℕ) → d.on x ≡ c.on x)
    (keys : (x : ℕ) → IsOn c (Next x) → d.key x ≡ c.key x)
    (sinces : (x : ℕ) → IsOn c (Next x) → d.since x ≡ c.since x)
    (links : (p : ChainWord) → IsOn c p → d.next p ≡ c.next p) where
  back : (q : ChainWord) → IsOn d q → IsOn c q
  back q on = IsOn-back c d stays q on

  forth : (q : ChainWord) → IsOn c q → IsOn d q
  forth q on = IsOn-back d c (λ x. sym (stays x)) q on

  rank : (q : ChainWord) → IsOn c q → rank_of d q ≡ rank_of c q
  rank Head on = refl
  rank (Next x) on = ap (λ (k : ℕ). k + 1) (keys x on)

  since : (q : ChainWord) → IsOn c q → since_of d q ≡ since_of c q
  since Head on = refl
  since (Next x) on = sinces x on

  later : (q r : ChainWord) → IsOn c q → IsOn c r → Precedes c q r → Precedes d q r
  later q r on_q on_r before = before_still c d q r (rank q on_q) (rank r on_r) (since q on_q) (since r on_r) before

  still : (q r : ChainWord) → IsOn c q → IsOn c r → Precedes d q r → Precedes c q r
  still q r on_q on_r before =
      before_still d c q r (sym (rank q on_q)) (sym (rank r on_r)) (sym (since q on_q)) (sym (since r on_r)) before

  leads : (q : ChainWord) → IsOn d q → d.next q ≢ nowhere → LeadsOnChain d q (d.next q)
  leads q on some =
      let to : c.next q ≡ d.next q = sym (links q (back q on)) in
      let next = chain.leads q (back q on) (λ e. some (sym to ∙ e)) in
      subst (LeadsOnChain d q) to (forth (Next (c.next q)) next.0, later q (Next (c.next q)) (back q on) next.0 next.1)

  upto : (q r : ChainWord) → IsOn d q → IsOn d r → Precedes d q r → NotPast d r (d.next q)
  upto q r on_q on_r before =
      let low = still q r (back q on_q) (back r on_r) before in
      let some = chain.last q r (back q on_q) (back r on_r) low in
      let next = (chain.leads q (back q on_q) some).0 in
      subst (NotPast d r) (sym (links q (back q on_q))) (
        some,
        λ f. chain.gap q r (back q on_q) (back r on_r) low (still r (Next (c.next q)) (back r on_r) next f),
      )

  alone : (q r : ChainWord)
      → IsOn d q → IsOn d r → rank_of d q ≡ rank_of d r → since_of d q ≡ since_of d r → q ≡ r
  alone q r on_q on_r same same' =
      let on = back q on_q in
      let on' = back r on_r in
      chain.alone q r on on' (sym (rank q on) ∙ (same ∙ rank r on')) (sym (since q on) ∙ (same' ∙ since r on'))

  -- an unmarked word was unmarked
  abbrev pub KeepsMarks : Type 0
  KeepsMarks = (p : ChainWord) → IsOn c p → d.mark p ≡ 0 → c.mark p ≡ 0

  rises : KeepsMarks → (q : ChainWord) → IsOn d q → d.next q ≢ nowhere → RisesBehind d q (d.next q)
  rises unmarked q on some =
      let on' = back q on in
      let to : c.next q ≡ d.next q = sym (links q on') in
      let some' : c.next q ≢ nowhere = λ e. some (sym to ∙ e) in
      let next = (chain.leads q on' some').0 in
      let a = rank q on' in
      let b = rank (Next (c.next q)) next in
      subst (RisesBehind d q) to (λ u. let f = chain.rises q on' (unmarked q on' u) some' in omega arith)

  -- a chain that has these is a chain
  pub IsChain-same : KeepsMarks → IsChain d
  IsChain-same unmarked = IsChain-by d (λ y on. chain.named y (back (Next y) on)) leads upto alone (rises unmarked)

  -- what was frozen is frozen, where marks stay
  pub IsFrozenTo-same : ((p : ChainWord) → IsOn c p → c.mark p ≡ 1 → d.mark p ≡ 1)
      → (q : ChainWord) → IsFrozenTo c q → IsFrozenTo d q
  IsFrozenTo-same marks q old = record {
    present = forth q old.present;
    marks = λ r on not_behind.
        let on' = back r on in
        marks r on' (old.marks r on' (λ h. not_behind (later q r old.present on' h)));
  }

-- a chain on which nothing changes is a chain
pub IsChain-untouched : (c d : Chain) → IsChain c → Untouched c d → IsChain d
IsChain-untouched c d chain same = IsChain-same c d chain same.nodes same.key same.since same.next
    (λ q on u. sym (same.mark q on) ∙ u)

-- what is frozen on it stays frozen
pub IsFrozenTo-untouched : (c d : Chain) (p : ChainWord) → IsChain c → Untouched c d → IsFrozenTo c p → IsFrozenTo d p
IsFrozenTo-untouched c d p chain same frozen =
    IsFrozenTo-same c d chain same.nodes same.key same.since same.next (λ q on marked. same.mark q on ∙ marked) p frozen

-- a mark changes where no word leads
pub next-marked : (c d : Chain) (p : ChainWord) → SetsMark c d p → (q : ChainWord) → d.next q ≡ c.next q
next-marked c d p step q =
    if_same q p (λ at. ap d.next at ∙ (step.leads ∙ ap c.next (sym at))) (λ ne. step.words.next q ne)

module _ (c d : Chain) (p : ChainWord) (chain : IsChain c) (step : SetsMark c d p) where
  marks : (q : ChainWord) → c.mark q ≡ 1 → d.mark q ≡ 1
  marks q old = if_same q p (λ at. ap d.mark at ∙ step.marked) (λ ne. step.words.mark q ne ∙ old)

  unmarked : (q : ChainWord) → d.mark q ≡ 0 → c.mark q ≡ 0
  unmarked q u =
      if_same q p (λ at. let a : d.mark q ≡ d.mark p = ap d.mark at in let m = step.marked in absurd (omega arith))
      (λ ne. sym (step.words.mark q ne) ∙ u)

  -- what was on the chain is on it
  pub IsOn-marked : (q : ChainWord) → IsOn c q → IsOn d q
  IsOn-marked q on = IsOn-back d c (λ x. sym (step.nodes x)) q on

  -- the chain with the mark is a chain
  pub IsChain-marked : IsChain d
  IsChain-marked =
      IsChain-same c d chain step.nodes (λ x on. step.words.key x) step.words.since (λ q on. next-marked c d p step q)
      (λ q on u. unmarked q u)

  -- marking takes nothing back
  pub Keeps-marked : Keeps c d
  Keeps-marked = record {
    marks = marks;
    links = λ q marked. next-marked c d p step q;
    frozen = IsFrozenTo-same c d chain step.nodes (λ x on. step.words.key x) step.words.since
        (λ q on. next-marked c d p step q)
        (λ q on old. marks q old);
  }
