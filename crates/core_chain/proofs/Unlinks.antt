-- A marked node that is unlinked from an unmarked predecessor keeps the chain.
use Rattle.std.proofs.Common.{◌≡◌, ◌≢◌, ℕ, sym, ap, ◌∙◌, subst, arith, IsTrue}
use Rattle.packed_link.specs.Link.{nowhere}
use Rattle.core_chain.specs.Chain.{Chain, ChainWord, Head, Next, IsOn, IsChain, Precedes, rank_of, since_of}
use Rattle.core_chain.specs.Steps.{Unlinks, IsFrozenTo, Keeps}
use Rattle.core_chain.proofs.Orders.{if_same, by_order, LeadsOnChain, NotPast, RisesBehind, IsChain-by}
use Rattle.core_chain.proofs.Orders.{rank_of-changed, since_of-changed, before_still, before_same, before_both}
use Rattle.core_chain.proofs.Orders.{before_then}
use Rattle.core_chain.proofs.Orders.{one_leads, rises_behind}

module _ (c d : Chain) (p : ChainWord) (x : ℕ) (chain : IsChain c) (step : Unlinks c d p x) where
  rank : (q : ChainWord) → rank_of d q ≡ rank_of c q
  rank q = rank_of-changed c d p step.words q

  since : (q : ChainWord) → IsOn c q → since_of d q ≡ since_of c q
  since q on = since_of-changed c d p step.words q on

  -- words of the old chain stand in the order in which they stood
  forth : (q r : ChainWord) → IsOn c q → IsOn c r → Precedes c q r → Precedes d q r
  forth q r on_q on_r before = before_still c d q r (rank q) (rank r) (since q on_q) (since r on_r) before

  still : (q r : ChainWord) → IsOn c q → IsOn c r → Precedes d q r → Precedes c q r
  still q r on_q on_r before =
      before_still d c q r (sym (rank q)) (sym (rank r)) (sym (since q on_q)) (sym (since r on_r)) before

  back : (q : ChainWord) → IsOn d q → IsOn c q
  back Head on = tt
  back (Next y) on =
      sym (step.nodes.others y (λ e. step.nodes.departs (subst (λ (z : ℕ). IsTrue (d.on z)) e on))) ∙ on

  gone : (q : ChainWord) → IsOn d q → q ≢ Next x
  gone q on e = step.nodes.departs (subst (IsOn d) e on)

  -- what was on the chain is on it, but for the unlinked node
  pub IsOn-unlinked : (q : ChainWord) → IsOn c q → q ≢ Next x → IsOn d q
  IsOn-unlinked Head on ne = tt
  IsOn-unlinked (Next y) on ne = step.nodes.others y (λ e. ne (ap Next e)) ∙ on

  some : c.next p ≢ nowhere
  some none = step.can.named (sym step.can.led ∙ none)

  -- the node was on the chain, behind its predecessor
  present : LeadsOnChain c p x
  present = subst (LeadsOnChain c p) step.can.led (chain.leads p step.can.present some)

  -- what stands behind the predecessor stands behind the unlinked node
  behind : (r : ChainWord) → IsOn d r → Precedes c p r → Precedes c (Next x) r
  behind r on after =
      by_order c (Next x) r chain present.0 (back r on) (λ e. absurd (gone r on (sym e))) (λ low. low)
      (λ high. absurd (chain.gap p r step.can.present (back r on) after
      (subst (λ (y : ℕ). Precedes c r (Next y)) (sym step.can.led) high)))

  -- the node's successor is on the chain
  successor : c.next (Next x) ≢ nowhere → LeadsOnChain c (Next x) (c.next (Next x)) × IsOn d (Next (c.next (Next x)))
  successor some_x =
      let next = chain.leads (Next x) present.0 some_x in
      let ne : Next (c.next (Next x)) ≢ Next x = λ same.
      before_same c (Next x) (Next (c.next (Next x))) next.1 (sym same) in
      (next, IsOn-unlinked (Next (c.next (Next x))) next.0 ne)

  -- where the word leads that was written
  to_p : (q : ChainWord) → q ≡ p → c.next (Next x) ≡ d.next q
  to_p q at = sym step.leads ∙ ap d.next (sym at)

  leads : (q : ChainWord) → IsOn d q → d.next q ≢ nowhere → LeadsOnChain d q (d.next q)
  leads q on leads_on =
      if_same q p (λ at.
      let next = successor (λ e. leads_on (sym (to_p q at) ∙ e)) in
      let y : ℕ = c.next (Next x) in
      subst (LeadsOnChain d q) (to_p q at) (
        next.1,
        subst (λ (r : ChainWord). Precedes d r (Next y)) (sym at)
            (forth p (Next y) step.can.present next.0.0 (before_then c p (Next x) (Next y) present.1 next.0.1)),
      )) (λ not_p.
      let to : c.next q ≡ d.next q = sym (step.words.next q not_p) in
      let some_q : c.next q ≢ nowhere = λ e. leads_on (sym to ∙ e) in
      let next = chain.leads q (back q on) some_q in
      let ne : Next (c.next q) ≢ Next x = λ same.
      let same' : c.next q ≡ x = (cc) in
      not_p (one_leads c q p chain (back q on) step.can.present some_q (same' ∙ sym step.can.led)) in
      subst (LeadsOnChain d q) to
      (IsOn-unlinked (Next (c.next q)) next.0 ne, forth q (Next (c.next q)) (back q on) next.0 next.1))

  upto : (q r : ChainWord) → IsOn d q → IsOn d r → Precedes d q r → NotPast d r (d.next q)
  upto q r on_q on_r before =
      let on_r' = back r on_r in
      if_same q p (λ at.
      let before_p : Precedes d p r = subst (λ (s : ChainWord). Precedes d s r) at before in
      let low = behind r on_r (still p r step.can.present on_r' before_p) in
      let some = chain.last (Next x) r present.0 on_r' low in
      let next = (chain.leads (Next x) present.0 some).0 in
      subst (NotPast d r) (to_p q at) (
        some,
        λ f. chain.gap (Next x) r present.0 on_r' low (still r (Next (c.next (Next x))) on_r' next f),
      )) (λ not_p.
      let on_q' = back q on_q in
      let low = still q r on_q' on_r' before in
      let some = chain.last q r on_q' on_r' low in
      let next = (chain.leads q on_q' some).0 in
      subst (NotPast d r) (sym (step.words.next q not_p))
      (some, λ f. chain.gap q r on_q' on_r' low (still r (Next (c.next q)) on_r' next f)))

  alone : (q r : ChainWord)
      → IsOn d q → IsOn d r → rank_of d q ≡ rank_of d r → since_of d q ≡ since_of d r → q ≡ r
  alone q r on_q on_r same same' =
      let on = back q on_q in
      let on' = back r on_r in
      chain.alone q r on on' (sym (rank q) ∙ (same ∙ rank r)) (sym (since q on) ∙ (same' ∙ since r on'))

  rises : (q : ChainWord) → IsOn d q → d.next q ≢ nowhere → RisesBehind d q (d.next q)
  rises q on leads_on =
      if_same q p (λ at.
      let next = successor (λ e. leads_on (sym (to_p q at) ∙ e)) in
      let y : ℕ = c.next (Next x) in
      let low = rises_behind c p (Next x) chain step.can.present present.0 step.can.unmarked present.1 in
      let high = next.0.1 in
      let a = rank q in
      let b = rank (Next y) in
      let e : rank_of c q ≡ rank_of c p = ap (rank_of c) at in
      subst (RisesBehind d q) (to_p q at) (λ u. grind arith)) (λ not_p.
      let to : c.next q ≡ d.next q = sym (step.words.next q not_p) in
      subst (RisesBehind d q) to (λ u.
      let a = rank q in
      let b = rank (Next (c.next q)) in
      let f = chain.rises q (back q on) (sym (step.words.mark q not_p) ∙ u) (λ e. leads_on (sym to ∙ e)) in
      omega arith))

  -- the chain without the node is a chain
  pub IsChain-unlinked : IsChain d
  IsChain-unlinked = IsChain-by d (λ y on. chain.named y (back (Next y) on)) leads upto alone rises

  -- what is frozen stays frozen
  frozen : (q : ChainWord) → IsFrozenTo c q → IsFrozenTo d q
  frozen q old =
      -- the word that was changed is unmarked, so it stands behind the frozen part
      let unfrozen : (Precedes c q p → ⊥) → ⊥ = λ h.
      let m = old.marks p step.can.present h in let u = step.can.unmarked in omega arith in
      let not_x : q ≢ Next x = λ e.
      unfrozen (λ h. before_both c q p h (subst (λ (r : ChainWord). Precedes c p r) (sym e) present.1)) in
      record {
        present = IsOn-unlinked q old.present not_x;
        marks = λ r on not_behind.
            let on' = back r on in
            let not_behind' : Precedes c q r → ⊥ = λ h. not_behind (forth q r old.present on' h) in
            let not_p : r ≢ p = λ e. unfrozen (λ h. not_behind' (subst (Precedes c q) (sym e) h)) in
            step.words.mark r not_p ∙ old.marks r on' not_behind';
      }

  -- the word that was changed was unmarked
  not_marked : (q : ChainWord) → c.mark q ≡ 1 → q ≢ p
  not_marked q marked e = let a : c.mark q ≡ c.mark p = ap c.mark e in let b = step.can.unmarked in omega arith

  -- unlinking takes nothing back
  pub Keeps-unlinked : Keeps c d
  Keeps-unlinked = record {
    marks = λ q marked. step.words.mark q (not_marked q marked) ∙ marked;
    links = λ q marked. step.words.next q (not_marked q marked);
    frozen = frozen;
  }

  -- the unlinked node still leads to the chain, or to none
  pub onward-unlinked : d.next (Next x) ≢ nowhere → IsOn d (Next (d.next (Next x)))
  onward-unlinked some_d =
      let P : ℕ → Type 0 = λ y. IsOn d (Next y) in
      let to : d.next (Next x) ≡ c.next (Next x) = step.words.next (Next x) (not_marked (Next x) step.can.marked) in
      subst P (sym to) (successor (λ none. some_d (to ∙ none))).1
