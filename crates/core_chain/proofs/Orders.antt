-- What the order of a chain's words gives by itself.
use Rattle.std.proofs.Common.{◌≡◌, ◌≢◌, ◌⊎◌, ℕ, ◌+◌, ◌<◌, refl, sym, ap, ◌∙◌, subst, arith, ⊎_elim, inl, inr}
use Rattle.std.proofs.lemmas.Bool.{cases_eq, cases_order}
use Rattle.packed_link.specs.Link.{nowhere}
use Rattle.core_chain.specs.Walk.{StandsBelow}
use Rattle.core_chain.specs.Steps.{ChangesOnly}
use Rattle.core_chain.specs.Chain.{Chain, ChainWord, Head, Next, IsOn, IsChain, Precedes, rank_of, since_of}

-- two words are one, or they aren't
cases_same : (p q : ChainWord) → (p ≡ q) ⊎ (p ≢ q)
cases_same Head Head = inl refl
cases_same Head (Next y) = inr (λ e. cc)
cases_same (Next x) Head = inr (λ e. cc)
cases_same (Next x) (Next y) =
    ⊎_elim (λ (e : x ≡ y). inl (ap Next e)) (λ (ne : x ≢ y). inr (λ e. ne (cc))) (cases_eq x y)

-- what holds where two words are one, and where they aren't
pub if_same : {P : Type 0} (p q : ChainWord) → (p ≡ q → P) → (p ≢ q → P) → P
if_same p q same apart = ⊎_elim same apart (cases_same p q)

-- what holds where two numbers are equal, and where they aren't
pub if_equal : {P : Type 0} (x y : ℕ) → (x ≡ y → P) → (x ≢ y → P) → P
if_equal x y same apart = ⊎_elim same apart (cases_eq x y)

-- what holds where two words stand at one place of the order, and where one stands before the other
pub by_rank : {P : Type 0} (c : Chain) (p q : ChainWord)
    → (rank_of c p ≡ rank_of c q → since_of c p ≡ since_of c q → P) → (Precedes c p q → P) → (Precedes c q p → P) → P
by_rank c p q same before behind =
    ⊎_elim (λ e.
    ⊎_elim (same e) (⊎_elim (λ f. before (inr (e, f))) (λ f. behind (inr (sym e, f))))
    (cases_order (since_of c p) (since_of c q)))
    (⊎_elim (λ f. before (inl f)) (λ f. behind (inl f))) (cases_order (rank_of c p) (rank_of c q))

-- what holds where two words of a chain are one, and where one stands before the other
pub by_order : {P : Type 0} (c : Chain) (p q : ChainWord)
    → IsChain c → IsOn c p → IsOn c q → (p ≡ q → P) → (Precedes c p q → P) → (Precedes c q p → P) → P
by_order c p q chain on_p on_q same before behind =
    by_rank c p q (λ e f. same (chain.alone p q on_p on_q e f)) before behind

-- a word doesn't stand before itself, nor before one that stands before it; and the order goes on
pub before_same : (c : Chain) (p q : ChainWord) → Precedes c p q → p ≡ q → ⊥
before_same c p q before same =
    let a : rank_of c p ≡ rank_of c q = ap (rank_of c) same in
    let b : since_of c p ≡ since_of c q = ap (since_of c) same in omega arith

pub before_both : (c : Chain) (p q : ChainWord) → Precedes c p q → Precedes c q p → ⊥
before_both c p q before behind = omega arith

pub before_then : (c : Chain) (p q r : ChainWord) → Precedes c p q → Precedes c q r → Precedes c p r
before_then c p q r before then = grind arith

-- a word that leads to a node leads to one on the chain, behind itself
abbrev pub LeadsOnChain : Chain → ChainWord → ℕ → Type 0
LeadsOnChain c p x = IsOn c (Next x) × Precedes c p (Next x)

-- a word that leads to a node leads no further than another word
abbrev pub NotPast : Chain → ChainWord → ℕ → Type 0
NotPast c q x = (x ≢ nowhere) × (Precedes c q (Next x) → ⊥)

-- an unmarked word leads to a greater key
abbrev pub RisesBehind : Chain → ChainWord → ℕ → Type 0
RisesBehind c p x = c.mark p ≡ 0 → rank_of c p < rank_of c (Next x)

-- a chain, by what its words lead to
pub IsChain-by : (c : Chain) → ((x : ℕ) → IsOn c (Next x) → x ≢ nowhere)
    → ((p : ChainWord) → IsOn c p → c.next p ≢ nowhere → LeadsOnChain c p (c.next p))
    → ((p q : ChainWord) → IsOn c p → IsOn c q → Precedes c p q → NotPast c q (c.next p))
    → ((p q : ChainWord) → IsOn c p → IsOn c q → rank_of c p ≡ rank_of c q → since_of c p ≡ since_of c q → p ≡ q)
    → ((p : ChainWord) → IsOn c p → c.next p ≢ nowhere → RisesBehind c p (c.next p)) → IsChain c
IsChain-by c named leads upto alone rises = record {
  named = named;
  leads = leads;
  last = λ p q on_p on_q before. (upto p q on_p on_q before).0;
  gap = λ p q on_p on_q before. (upto p q on_p on_q before).1;
  alone = alone;
  rises = λ p on unmarked some. rises p on some unmarked;
}

-- keys that stay leave each word at its place of the order of keys
pub rank_of-changed : (c d : Chain) (at : ChainWord) → ChangesOnly c d at → (q : ChainWord) → rank_of d q ≡ rank_of c q
rank_of-changed c d at change Head = refl
rank_of-changed c d at change (Next x) = ap (λ (k : ℕ). k + 1) (change.key x)

-- a word of the chain stays linked by the same step
pub since_of-changed : (c d : Chain) (at : ChainWord)
    → ChangesOnly c d at → (q : ChainWord) → IsOn c q → since_of d q ≡ since_of c q
since_of-changed c d at change Head on = refl
since_of-changed c d at change (Next x) on = change.since x on

-- two words that have their keys and their steps still stand in the same order
pub before_still : (c d : Chain) (p q : ChainWord) → rank_of d p ≡ rank_of c p → rank_of d q ≡ rank_of c q
    → since_of d p ≡ since_of c p → since_of d q ≡ since_of c q → Precedes c p q → Precedes d p q
before_still c d p q a b e f before = grind arith

-- a word that stands before a node's key has a lesser one, and stands before the node
pub IsBelow-rank : (c : Chain) (p : ChainWord) (x : ℕ) → StandsBelow c p (c.key x) → rank_of c p < rank_of c (Next x)
IsBelow-rank c Head x below = omega arith
IsBelow-rank c (Next y) x below = omega arith

pub IsBelow-precedes : (c : Chain) (p : ChainWord) (x : ℕ) → StandsBelow c p (c.key x) → Precedes c p (Next x)
IsBelow-precedes c p x below = inl (IsBelow-rank c p x below)

-- and the other way round, where the key is greater
pub Precedes-below : (c : Chain) (p : ChainWord) (x : ℕ) → rank_of c p < rank_of c (Next x) → StandsBelow c p (c.key x)
Precedes-below c Head x before = tt
Precedes-below c (Next y) x before = omega arith

-- at most one word leads to a node
pub one_leads : (c : Chain) (p q : ChainWord)
    → IsChain c → IsOn c p → IsOn c q → c.next p ≢ nowhere → c.next p ≡ c.next q → p ≡ q
one_leads c p q chain on_p on_q some same =
    let to_p = (chain.leads p on_p some).1 in
    let to_q = (chain.leads q on_q (λ none. some (same ∙ none))).1 in
    by_order c p q chain on_p on_q (λ e. e)
    (λ low. absurd (chain.gap p q on_p on_q low (subst (λ (y : ℕ). Precedes c q (Next y)) (sym same) to_q)))
    (λ high. absurd (chain.gap q p on_q on_p high (subst (λ (y : ℕ). Precedes c p (Next y)) same to_p)))

-- behind an unmarked word every key is greater
pub rises_behind : (c : Chain) (p q : ChainWord)
    → IsChain c → IsOn c p → IsOn c q → c.mark p ≡ 0 → Precedes c p q → rank_of c p < rank_of c q
rises_behind c p q chain on_p on_q unmarked before =
    let some = chain.last p q on_p on_q before in
    let next = chain.leads p on_p some in
    let high = chain.rises p on_p unmarked some in
    by_order c (Next (c.next p)) q chain next.0 on_q
    (λ e. let a : rank_of c (Next (c.next p)) ≡ rank_of c q = ap (rank_of c) e in omega arith) (λ low. omega arith)
    (λ high. absurd (chain.gap p q on_p on_q before high))
