-- Freezing goes from the head on, one word after another, and at the end nothing on the chain can change.
use Rattle.std.proofs.Common.{◌≡◌, ◌≢◌, ℕ, sym, ap, ◌∙◌, subst, arith, inl}
use Rattle.packed_link.specs.Link.{nowhere}
use Rattle.core_chain.specs.Chain.{Chain, ChainWord, Head, Next, IsOn, IsChain, Precedes}
use Rattle.core_chain.specs.Steps.{SetsMark, Freezes, Untouched, IsFrozenTo}
use Rattle.core_chain.specs.Steps.{Step, insert, mark, replace, unlink, freeze_head, freeze}
use Rattle.core_chain.proofs.Orders.{if_same, by_order, LeadsOnChain, rank_of-changed, since_of-changed, before_still}
use Rattle.core_chain.proofs.Marks.{IsOn-back, Keeps-marked, next-marked}

-- only the head doesn't stand behind the head
frozen_head : (d : Chain) → d.mark Head ≡ 1 → (q : ChainWord) → (Precedes d Head q → ⊥) → d.mark q ≡ 1
frozen_head d marked Head h = marked
frozen_head d marked (Next x) h = absurd (h (inl (omega arith)))

-- the frozen head is a frozen part
pub IsFrozenTo-head : (c d : Chain) → SetsMark c d Head → IsFrozenTo d Head
IsFrozenTo-head c d step = record { present = tt; marks = λ q on not_behind. frozen_head d step.marked q not_behind }

-- the node to which a frozen part leads is on the chain
led_on : (c : Chain) (p : ChainWord) (x : ℕ) → IsChain c → IsFrozenTo c p → x ≢ nowhere → c.next p ≡ x
    → LeadsOnChain c p x
led_on c p x chain frozen named led =
    subst (LeadsOnChain c p) led (chain.leads p frozen.present (λ none. named (sym led ∙ none)))

module _ (c d : Chain) (p : ChainWord) (x : ℕ) (chain : IsChain c) (step : Freezes c d p x) where
  there : LeadsOnChain c p x
  there = led_on c p x chain step.frozen step.named step.led

  -- what stands no further than the node is the node, or was frozen before
  marks : (q : ChainWord) → IsOn c q → (Precedes c (Next x) q → ⊥) → d.mark q ≡ 1
  marks q on not_behind =
      by_order c q (Next x) chain on there.0 (λ e. ap d.mark e ∙ step.sets.marked)
      (λ low. (Keeps-marked c d (Next x) chain step.sets).marks q
      (step.frozen.marks q on (λ f. chain.gap p q step.frozen.present on f
      (subst (λ (y : ℕ). Precedes c q (Next y)) (sym step.led) low))))
      (λ high. absurd (not_behind high))

  -- the frozen part reaches to the node
  pub IsFrozenTo-node : IsFrozenTo d (Next x)
  IsFrozenTo-node = record {
    present = step.sets.nodes x ∙ there.0;
    marks = λ q on not_behind.
        let words = step.sets.words in
        let on' = IsOn-back c d step.sets.nodes q on in
        marks q on' (λ h.
        not_behind (before_still c d (Next x) q (rank_of-changed c d (Next x) words (Next x))
        (rank_of-changed c d (Next x) words q) (since_of-changed c d (Next x) words (Next x) there.0)
        (since_of-changed c d (Next x) words q on') h));
  }

-- where the frozen part ends the chain, each word is marked
pub mark-at_end : (c : Chain) (p : ChainWord)
    → IsChain c → IsFrozenTo c p → c.next p ≡ nowhere → (q : ChainWord) → IsOn c q → c.mark q ≡ 1
mark-at_end c p chain frozen none q on = frozen.marks q on (λ after. chain.last p q frozen.present on after none)

-- marking a marked word changes nothing
marked_before : (c d : Chain) (p : ChainWord) → SetsMark c d p → c.mark p ≡ 1 → Untouched c d
marked_before c d p step old = record {
  nodes = step.nodes;
  key = λ x on. step.words.key x;
  since = step.words.since;
  next = λ q on. next-marked c d p step q;
  mark = λ q on.
      if_same q p (λ at. ap d.mark at ∙ (step.marked ∙ (sym old ∙ ap c.mark (sym at)))) (λ ne. step.words.mark q ne);
}

-- no step changes a chain that is frozen to its end
pub Untouched-frozen : (c d : Chain) (p : ChainWord)
    → IsChain c → IsFrozenTo c p → c.next p ≡ nowhere → Step c d → Untouched c d
Untouched-frozen c d p chain frozen none (insert at node step) =
    let a = mark-at_end c p chain frozen none at step.can.passes.present in
    let b = step.can.unmarked in absurd (omega arith)
Untouched-frozen c d p chain frozen none (mark node step) =
    marked_before c d (Next node) step.sets (mark-at_end c p chain frozen none (Next node) step.present)
Untouched-frozen c d p chain frozen none (replace node fresh step) =
    let a = mark-at_end c p chain frozen none (Next node) step.can.present in
    let b = step.can.unmarked in absurd (omega arith)
Untouched-frozen c d p chain frozen none (unlink at node step) =
    let a = mark-at_end c p chain frozen none at step.can.present in
    let b = step.can.unmarked in absurd (omega arith)
Untouched-frozen c d p chain frozen none (freeze_head step) =
    marked_before c d Head step (mark-at_end c p chain frozen none Head tt)
Untouched-frozen c d p chain frozen none (freeze end node step) =
    let on = (led_on c end node chain step.frozen step.named step.led).0 in
    marked_before c d (Next node) step.sets (mark-at_end c p chain frozen none (Next node) on)
