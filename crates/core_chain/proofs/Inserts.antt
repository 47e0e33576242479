-- A node that is put behind a word, between its neighbours, keeps the chain: it is inserted, or replaces the node of
-- its
-- key.
use Rattle.std.proofs.Common.{◌≡◌, ◌≢◌, ℕ, ◌<◌, sym, ap, ◌∙◌, subst, arith, IsTrue, inl, inr}
use Rattle.packed_link.specs.Link.{nowhere}
use Rattle.core_chain.specs.Chain.{Chain, ChainWord, Head, Next, IsOn, IsChain, Precedes, rank_of, since_of}
use Rattle.core_chain.specs.Steps.{ChangesOnly, Inserts, Replaces, Joins, IsFrozenTo, Keeps}
use Rattle.core_chain.proofs.Orders.{if_same, if_equal, by_order, LeadsOnChain, NotPast, RisesBehind, IsChain-by}
use Rattle.core_chain.proofs.Orders.{rank_of-changed, since_of-changed, before_still, before_same, before_then}
use Rattle.core_chain.proofs.Orders.{IsBelow-rank}

-- a node is put behind an unmarked word: it stands behind the word, and its key is less than that of the successor
pub record PutsNode (c d : Chain) (p : ChainWord) (n : ℕ) : Type 0 where
  pub present : IsOn c p
  pub unmarked : c.mark p ≡ 0
  pub named : n ≢ nowhere
  pub absent : IsOn c (Next n) → ⊥
  pub filled : c.next (Next n) ≡ c.next p
  pub above : Precedes d p (Next n)
  pub rises : d.mark p ≡ 0 → rank_of d p < rank_of d (Next n)
  pub below : c.next p ≢ nowhere → rank_of d (Next n) < rank_of d (Next (c.next p))
  pub leads : d.next p ≡ n
  pub words : ChangesOnly c d p
  pub nodes : Joins c.on d.on n

module _ (c d : Chain) (p : ChainWord) (n : ℕ) (chain : IsChain c) (step : PutsNode c d p n) where
  rank : (q : ChainWord) → rank_of d q ≡ rank_of c q
  rank q = rank_of-changed c d p step.words q

  since : (q : ChainWord) → IsOn c q → since_of d q ≡ since_of c q
  since q on = since_of-changed c d p step.words q on

  apart : Next n ≢ p
  apart e = step.absent (subst (IsOn c) (sym e) step.present)

  -- words of the old chain stand in the order in which they stood
  forth : (q r : ChainWord) → IsOn c q → IsOn c r → Precedes c q r → Precedes d q r
  forth q r on_q on_r before = before_still c d q r (rank q) (rank r) (since q on_q) (since r on_r) before

  still : (q r : ChainWord) → IsOn c q → IsOn c r → Precedes d q r → Precedes c q r
  still q r on_q on_r before =
      before_still d c q r (sym (rank q)) (sym (rank r)) (sym (since q on_q)) (sym (since r on_r)) before

  back : (q : ChainWord) → IsOn d q → q ≢ Next n → IsOn c q
  back Head on ne = tt
  back (Next x) on ne = sym (step.nodes.others x (λ e. ne (ap Next e))) ∙ on

  -- what was on the chain is on it
  pub IsOn-put : (q : ChainWord) → IsOn c q → IsOn d q
  IsOn-put Head on = tt
  IsOn-put (Next x) on =
      if_equal x n (λ e. absurd (step.absent (subst (λ (y : ℕ). IsTrue (c.on y)) e on)))
      (λ ne. step.nodes.others x ne ∙ on)

  -- what stood behind the word stands behind the node, with a greater key
  behind : (r : ChainWord) → IsOn c r → Precedes c p r → (c.next p ≢ nowhere) × (rank_of d (Next n) < rank_of d r)
  behind r on after =
      let some : c.next p ≢ nowhere = chain.last p r step.present on after in
      let low = step.below some in
      let next = (chain.leads p step.present some).0 in
      let a = rank (Next (c.next p)) in
      let b = rank r in (
        some,
        by_order c (Next (c.next p)) r chain next on
            (λ e. let f : rank_of d (Next (c.next p)) ≡ rank_of d r = ap (rank_of d) e in omega arith)
            (λ low'. omega arith) (λ high. absurd (chain.gap p r step.present on after high)),
      )

  -- what stands before the node stands at the word or before it
  ahead : (q : ChainWord) → IsOn c q → Precedes d q (Next n) → q ≢ p → Precedes c q p
  ahead q on before ne =
      by_order c q p chain on step.present (λ e. absurd (ne e)) (λ low. low)
      (λ high. let f = (behind q on high).1 in absurd (omega arith))

  -- no other word of the old chain stands at the node's place of the order
  lone : (q : ChainWord) → IsOn c q → rank_of d q ≡ rank_of d (Next n) → since_of d q ≡ since_of d (Next n) → ⊥
  lone q on same same' =
      let low = step.above in
      by_order c q p chain on step.present
      (λ e. before_same d p q (grind arith) (sym e))
      (λ before. let f = forth q p on step.present before in omega arith)
      (λ high. let f = (behind q on high).1 in omega arith)

  -- where the two words lead that were written last
  to_p : (q : ChainWord) → q ≡ p → n ≡ d.next q
  to_p q at = sym step.leads ∙ ap d.next (sym at)

  to_n : (q : ChainWord) → q ≡ Next n → c.next p ≡ d.next q
  to_n q at = sym (step.words.next (Next n) apart ∙ step.filled) ∙ ap d.next (sym at)

  leads : (q : ChainWord) → IsOn d q → d.next q ≢ nowhere → LeadsOnChain d q (d.next q)
  leads q on some =
      if_same q p (λ at.
      subst (LeadsOnChain d q) (to_p q at)
      (step.nodes.joins, subst (λ (r : ChainWord). Precedes d r (Next n)) (sym at) step.above)) (λ not_p.
      if_same q (Next n) (λ at.
      let some_p : c.next p ≢ nowhere = λ e. some (sym (to_n q at) ∙ e) in
      let next = chain.leads p step.present some_p in
      subst (LeadsOnChain d q) (to_n q at) (
        IsOn-put (Next (c.next p)) next.0,
        subst (λ (r : ChainWord). Precedes d r (Next (c.next p))) (sym at) (inl (step.below some_p)),
      )) (λ not_n.
      let to : c.next q ≡ d.next q = sym (step.words.next q not_p) in
      let next = chain.leads q (back q on not_n) (λ e. some (sym to ∙ e)) in
      subst (LeadsOnChain d q) to
      (IsOn-put (Next (c.next q)) next.0, forth q (Next (c.next q)) (back q on not_n) next.0 next.1)))

  upto : (q r : ChainWord) → IsOn d q → IsOn d r → Precedes d q r → NotPast d r (d.next q)
  upto q r on_q on_r before =
      if_same q p (λ at.
      let before_p : Precedes d p r = subst (λ (s : ChainWord). Precedes d s r) at before in
      subst (NotPast d r) (to_p q at) (
        step.named,
        if_same r (Next n) (λ e. λ f. before_same d r (Next n) f e)
            (λ ne.
            let on = back r on_r ne in
            let high = (behind r on (still p r step.present on before_p)).1 in
            λ f. omega arith),
      )) (λ not_p.
      if_same q (Next n) (λ at.
      let before_n : Precedes d (Next n) r = subst (λ (s : ChainWord). Precedes d s r) at before in
      let not_n : r ≢ Next n = λ e. before_same d (Next n) r before_n (sym e) in
      let on = back r on_r not_n in
      let after = still p r step.present on (before_then d p (Next n) r step.above before_n) in
      let some = (behind r on after).0 in
      subst (NotPast d r) (to_n q at) (
        some,
        λ f.
            chain.gap p r step.present on after
            (still r (Next (c.next p)) on (chain.leads p step.present some).0 f),
      )) (λ not_n.
      let on = back q on_q not_n in
      subst (NotPast d r) (sym (step.words.next q not_p)) (if_same r (Next n) (λ at.
      let before_n : Precedes d q (Next n) = subst (Precedes d q) at before in
      let low = ahead q on before_n not_p in
      let some = chain.last q p on step.present low in
      let next = (chain.leads q on some).0 in (
        some,
        λ f.
            let over = subst (λ (s : ChainWord). Precedes d s (Next (c.next q))) at f in
            chain.gap q p on step.present low
            (still p (Next (c.next q)) step.present next (before_then d p (Next n) (Next (c.next q)) step.above over)),
      ))
      (λ ne.
      let on' = back r on_r ne in
      let low = still q r on on' before in
      let some = chain.last q r on on' low in
      (some, λ f. chain.gap q r on on' low (still r (Next (c.next q)) on' (chain.leads q on some).0 f))))))

  alone : (q r : ChainWord)
      → IsOn d q → IsOn d r → rank_of d q ≡ rank_of d r → since_of d q ≡ since_of d r → q ≡ r
  alone q r on_q on_r same same' =
      if_same q (Next n) (λ at.
      if_same r (Next n) (λ e. at ∙ sym e)
      (λ ne. absurd (lone r (back r on_r ne) (sym same ∙ ap (rank_of d) at) (sym same' ∙ ap (since_of d) at))))
      (λ not_n.
      if_same r (Next n)
      (λ e. absurd (lone q (back q on_q not_n) (same ∙ ap (rank_of d) e) (same' ∙ ap (since_of d) e)))
      (λ ne.
      let on = back q on_q not_n in
      let on' = back r on_r ne in
      chain.alone q r on on' (sym (rank q) ∙ (same ∙ rank r)) (sym (since q on) ∙ (same' ∙ since r on'))))

  rises : (q : ChainWord) → IsOn d q → d.next q ≢ nowhere → RisesBehind d q (d.next q)
  rises q on some =
      if_same q p (λ at.
      subst (RisesBehind d q) (to_p q at)
      (subst (λ (r : ChainWord). RisesBehind d r n) (sym at) step.rises)) (λ not_p.
      if_same q (Next n) (λ at.
      let some_p : c.next p ≢ nowhere = λ e. some (sym (to_n q at) ∙ e) in
      subst (RisesBehind d q) (to_n q at)
      (subst (λ (r : ChainWord). RisesBehind d r (c.next p)) (sym at) (λ u. step.below some_p))) (λ not_n.
      let to : c.next q ≡ d.next q = sym (step.words.next q not_p) in
      subst (RisesBehind d q) to (λ u.
      let a = rank q in
      let b = rank (Next (c.next q)) in
      let f = chain.rises q (back q on not_n) (sym (step.words.mark q not_p) ∙ u) (λ e. some (sym to ∙ e)) in
      omega arith)))

  named : (x : ℕ) → IsOn d (Next x) → x ≢ nowhere
  named x on =
      if_equal x n (λ e. λ none. step.named (sym e ∙ none))
      (λ ne. chain.named x (sym (step.nodes.others x ne) ∙ on))

  -- the chain with the node is a chain
  pub IsChain-put : IsChain d
  IsChain-put = IsChain-by d named leads upto alone rises

  -- what is frozen stays frozen
  frozen : (q : ChainWord) → IsFrozenTo c q → IsFrozenTo d q
  frozen q old =
      -- the word that was changed is unmarked, so it stands behind the frozen part
      let unfrozen : (Precedes c q p → ⊥) → ⊥ = λ h.
      let m = old.marks p step.present h in let u = step.unmarked in omega arith in
      record {
        present = IsOn-put q old.present;
        marks = λ r on not_behind.
            if_same r (Next n) (λ e.
            absurd (unfrozen (λ h.
            not_behind (subst (Precedes d q) (sym e)
            (before_then d q p (Next n) (forth q p old.present step.present h) step.above))))) (λ ne.
            let on' = back r on ne in
            let not_behind' : Precedes c q r → ⊥ = λ h. not_behind (forth q r old.present on' h) in
            let not_p : r ≢ p = λ e. unfrozen (λ h. not_behind' (subst (Precedes c q) (sym e) h)) in
            step.words.mark r not_p ∙ old.marks r on' not_behind');
      }

  -- the word that was changed was unmarked
  not_marked : (q : ChainWord) → c.mark q ≡ 1 → q ≢ p
  not_marked q marked e = let a : c.mark q ≡ c.mark p = ap c.mark e in let b = step.unmarked in omega arith

  -- putting a node takes nothing back
  pub Keeps-put : Keeps c d
  Keeps-put = record {
    marks = λ q marked. step.words.mark q (not_marked q marked) ∙ marked;
    links = λ q marked. step.words.next q (not_marked q marked);
    frozen = frozen;
  }

module _ (c d : Chain) (p : ChainWord) (n : ℕ) (chain : IsChain c) (step : Inserts c d p n) where
  -- the node's key is greater than the word's
  higher : rank_of d p < rank_of d (Next n)
  higher =
      let a = rank_of-changed c d p step.words p in
      let b = rank_of-changed c d p step.words (Next n) in
      let f = IsBelow-rank c p n step.can.passes.above in
      omega arith

  -- a node that is inserted is put behind the word
  pub PutsNode-inserted : PutsNode c d p n
  PutsNode-inserted = record {
    present = step.can.passes.present;
    unmarked = step.can.unmarked;
    named = step.can.named;
    absent = step.can.absent;
    filled = step.can.filled;
    above = inl higher;
    rises = λ u. higher;
    below = λ some.
        let a = rank_of-changed c d p step.words (Next n) in
        let b = rank_of-changed c d p step.words (Next (c.next p)) in
        let f = step.can.passes.below some in
        omega arith;
    leads = step.leads;
    words = step.words;
    nodes = step.nodes;
  }

  -- what was on the chain is on it
  pub IsOn-inserted : (q : ChainWord) → IsOn c q → IsOn d q
  IsOn-inserted = IsOn-put c d p n chain PutsNode-inserted

  -- the chain with the node is a chain
  pub IsChain-inserted : IsChain d
  IsChain-inserted = IsChain-put c d p n chain PutsNode-inserted

  -- inserting takes nothing back
  pub Keeps-inserted : Keeps c d
  Keeps-inserted = Keeps-put c d p n chain PutsNode-inserted

module _ (c d : Chain) (x n : ℕ) (chain : IsChain c) (step : Replaces c d x n) where
  -- a node that replaces another is put behind it
  pub PutsNode-replaced : PutsNode c d (Next x) n
  PutsNode-replaced =
      let change = step.words in
      let same : rank_of d (Next x) ≡ rank_of d (Next n) =
      let a = change.key x in let b = change.key n in let e = step.can.key in omega arith in
      record {
        present = step.can.present;
        unmarked = step.can.unmarked;
        named = step.can.named;
        absent = step.can.absent;
        filled = step.can.filled;
        above = inr (same, let a = change.since x step.can.present in let f = step.later in omega arith);
        rises = λ u. let m = step.marked in absurd (omega arith);
        below = λ some.
            let f = chain.rises (Next x) step.can.present step.can.unmarked some in
            let a = change.key (c.next (Next x)) in
            let b = change.key n in
            let e = step.can.key in
            omega arith;
        leads = step.leads;
        words = step.words;
        nodes = step.nodes;
      }

  -- what was on the chain is on it
  pub IsOn-replaced : (q : ChainWord) → IsOn c q → IsOn d q
  IsOn-replaced = IsOn-put c d (Next x) n chain PutsNode-replaced

  -- the chain with both nodes is a chain
  pub IsChain-replaced : IsChain d
  IsChain-replaced = IsChain-put c d (Next x) n chain PutsNode-replaced

  -- replacing takes nothing back
  pub Keeps-replaced : Keeps c d
  Keeps-replaced = Keeps-put c d (Next x) n chain PutsNode-replaced
