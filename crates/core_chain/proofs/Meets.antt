-- A chain is what one meets from its head.
use Rattle.std.proofs.Common.{◌≡◌, ◌≢◌, ◌⊎◌, ◌↔◌, ℕ, zero, suc, ◌+◌, ◌*◌, ◌<◌, ◌≤◌, List, [], ◌∷◌, get_or}
use Rattle.std.proofs.Common.{refl, sym, ap, ◌∙◌, subst, arith, ⊎_elim, inl, inr}
use Rattle.std.specs.Prelude.{AllPairs, Contains}
use Rattle.std.proofs.lemmas.List.Elements.{Contains-get_or}
use Rattle.packed_link.specs.Link.{nowhere}
use Rattle.core_chain.specs.Chain.{Chain, ChainWord, Head, Next, IsOn, IsChain, Precedes, rank_of, since_of}
use Rattle.core_chain.specs.Met.{MeetsFrom, RisesAlong, RisesUnmarked, IsMet}
use Rattle.core_chain.proofs.Orders.{if_equal, by_order, LeadsOnChain, NotPast, RisesBehind, IsChain-by}
use Rattle.core_chain.proofs.Orders.{before_same, before_both, before_then}

-- nothing is in no list
Contains-none : (x : ℕ) → Contains [] x → ⊥
Contains-none x at = let low = at.1 in omega arith

-- the first element
Contains-here : (x y : ℕ) (xs : List ℕ) → y ≡ x → Contains (y ∷ xs) x
Contains-here x y xs same = (0, omega arith, same)

-- a later element
Contains-later : (x y : ℕ) (xs : List ℕ) → Contains xs x → Contains (y ∷ xs) x
Contains-later x y xs at = (suc at.0, omega (arith, at.1), at.2)

-- an element is the first or a later one
Contains-cases : (x y : ℕ) (xs : List ℕ) → Contains (y ∷ xs) x → (y ≡ x) ⊎ Contains xs x
Contains-cases x y xs (zero, low, at) = inl at
Contains-cases x y xs (suc k, low, at) = inr (k, omega arith, at)

-- what holds of an element, where it is the first and where it is a later one
by_place : {P : Type 0} (x y : ℕ) (xs : List ℕ) → Contains (y ∷ xs) x → (y ≡ x → P) → (Contains xs x → P) → P
by_place x y xs at first later = ⊎_elim first later (Contains-cases x y xs at)

-- each of the nodes stands behind the word
Rises-behind : (c : Chain) (p : ChainWord) (xs : List ℕ) (x : ℕ) → RisesAlong c p xs → Contains xs x → Precedes c p
    (Next x)
Rises-behind c p [] x rising at = absurd (Contains-none x at)
Rises-behind c p (y ∷ ys) x rising at =
    by_place x y ys at (λ e. subst (λ (z : ℕ). Precedes c p (Next z)) e rising.0)
    (λ later. before_then c p (Next y) (Next x) rising.0 (Rises-behind c (Next y) ys x rising.1 later))

-- the first of the rising nodes stands before the others
first_least : (c : Chain) (p : ChainWord) (y : ℕ) (ys : List ℕ) (x : ℕ)
    → RisesAlong c p (y ∷ ys) → Contains ys x → Precedes c (Next y) (Next x)
first_least c p y ys x rising later = Rises-behind c (Next y) ys x rising.1 later

-- rising nodes are met once each
Rises-once : (c : Chain) (p : ChainWord) (xs : List ℕ) → RisesAlong c p xs → AllPairs ◌≢◌ xs
Rises-once c p [] rising i j d low high = absurd (omega arith)
Rises-once c p (y ∷ ys) rising i zero d low high = absurd (omega arith)
Rises-once c p (y ∷ ys) rising zero (suc j) d low high = λ e.
    before_same c (Next y) (Next (get_or ys j d))
    (first_least c p y ys (get_or ys j d) rising (Contains-get_or ys j d (omega arith))) (ap Next e)
Rises-once c p (y ∷ ys) rising (suc i) (suc j) d low high =
    Rises-once c (Next y) ys rising.1 i j d (omega arith) (omega arith)

-- the nodes are those on the chain that stand behind the word
abbrev pub AreBehind : Chain → ChainWord → List ℕ → Type 0
AreBehind c p xs = (x : ℕ) → LeadsOnChain c p x ↔ Contains xs x

-- what is met from a word of a chain rises, is on it, and is all that stands behind the word
pub met_behind : (c : Chain) (p : ChainWord) (xs : List ℕ)
    → IsChain c → IsOn c p → MeetsFrom c p xs → RisesAlong c p xs × AreBehind c p xs
met_behind c p [] chain on none =
    (tt, λ x. (λ h. absurd (chain.last p (Next x) on h.0 h.1 none), λ at. absurd (Contains-none x at)))
met_behind c p (y ∷ ys) chain on met =
    let some : c.next p ≢ nowhere = λ e. met.1 (sym met.0 ∙ e) in
    let first : LeadsOnChain c p y = subst (LeadsOnChain c p) met.0 (chain.leads p on some) in
    let rest = met_behind c (Next y) ys chain first.0 met.2 in (
      (first.1, rest.0),
      λ x. (
        λ h.
            by_order c (Next y) (Next x) chain first.0 h.0 (λ e. Contains-here x y ys (cc))
            (λ low. Contains-later x y ys ((rest.1 x).0 (h.0, low)))
            (λ high. absurd (chain.gap p (Next x) on h.0 h.1
            (subst (λ (z : ℕ). Precedes c (Next x) (Next z)) (sym met.0) high))),
        λ at. by_place x y ys at (λ e. subst (LeadsOnChain c p) e first)
            (λ later. let g = (rest.1 x).1 later in (g.0, before_then c p (Next y) (Next x) first.1 g.1)),
      ),
    )

-- where a word that is met is unmarked, the next key is greater
met_rises : (c : Chain) (p : ChainWord) (xs : List ℕ) → IsChain c → IsOn c p → MeetsFrom c p xs → RisesUnmarked c p xs
met_rises c p [] chain on none = tt
met_rises c p (y ∷ ys) chain on met =
    let some : c.next p ≢ nowhere = λ e. met.1 (sym met.0 ∙ e) in
    let next : IsOn c (Next y) = subst (λ (z : ℕ). IsOn c (Next z)) met.0 (chain.leads p on some).0 in
    let led : c.key (c.next p) ≡ c.key y = ap c.key met.0 in
    (λ u. let f = chain.rises p on u some in omega arith, met_rises c (Next y) ys chain next met.2)

-- the nodes that one meets from the head of a chain are those on it
pub IsMet-from_Meets : (c : Chain) (xs : List ℕ) → IsChain c → MeetsFrom c Head xs → IsMet c xs
IsMet-from_Meets c xs chain met =
    let all = met_behind c Head xs chain tt met in
    record {
      met = met;
      rising = all.0;
      unmarked = met_rises c Head xs chain tt met;
      once = Rises-once c Head xs all.0;
      exactly = λ x. (λ on. (all.1 x).0 (on, inl (omega arith)), λ at. ((all.1 x).1 at).0);
    }

-- one meets one list only
pub Meets-unique : (c : Chain) (p : ChainWord) (xs ys : List ℕ) → MeetsFrom c p xs → MeetsFrom c p ys → xs ≡ ys
Meets-unique c p [] [] one other = refl
Meets-unique c p [] (y ∷ ys) none other = absurd (other.1 (sym other.0 ∙ none))
Meets-unique c p (x ∷ xs) [] one none = absurd (one.1 (sym one.0 ∙ none))
Meets-unique c p (x ∷ xs) (y ∷ ys) one other =
    let same : x ≡ y = sym one.0 ∙ other.0 in
    let rest : MeetsFrom c (Next x) ys = subst (λ (z : ℕ). MeetsFrom c (Next z) ys) (sym same) other.2 in
    let tail = Meets-unique c (Next x) xs ys one.2 rest in
    cc

-- a bound on the values at the places below a number: their sum
most : (ℕ → ℕ) → ℕ → ℕ
most f zero = 0
most f (suc n) = f n + most f n

most-bound : (f : ℕ → ℕ) (n x : ℕ) → x < n → f x ≤ most f n
unfolding most
most-bound f zero x low = absurd (omega arith)
most-bound f (suc n) x low =
    if_equal x n (λ e. let a : f x ≡ f n = ap f e in omega arith)
    (λ ne. let a = most-bound f n x (omega arith) in omega arith)

-- the keys and the steps on a chain have bounds
abbrev HasBounds : Chain → ℕ → ℕ → Type 0
HasBounds c bound last = (x : ℕ) → IsOn c (Next x) → (c.key x ≤ bound) × (c.since x ≤ last)

-- where a word of the chain stands, as one number
abbrev score : Chain → ℕ → ChainWord → ℕ
score c last p = rank_of c p * (last + 1) + since_of c p

since_within : (c : Chain) (bound last : ℕ) (p : ChainWord) → HasBounds c bound last → IsOn c p → since_of c p ≤ last
since_within c bound last Head within on = omega arith
since_within c bound last (Next x) within on = (within x on).1

rank_within : (c : Chain) (bound last : ℕ) (p : ChainWord) → HasBounds c bound last → IsOn c p → rank_of c p ≤ bound + 1
rank_within c bound last Head within on = omega arith
rank_within c bound last (Next x) within on = omega (arith, (within x on).0)

times : (a b n : ℕ) → a ≤ b → a * n ≤ b * n
times a b n low = grind arith

rises_by : (a s b t last : ℕ) → (a < b) ⊎ ((a ≡ b) × (s < t)) → s ≤ last → a * (last + 1) + s < b * (last + 1) + t
rises_by a s b t last before within =
    ⊎_elim (λ low. let f = times (a + 1) b (last + 1) (omega arith) in omega arith)
    (λ same. let f : a * (last + 1) ≡ b * (last + 1) = ap (λ (k : ℕ). k * (last + 1)) same.0 in
    let g = same.1 in omega arith) before

-- a later word has a greater number
score-rises : (c : Chain) (last : ℕ) (p q : ChainWord)
    → Precedes c p q → since_of c p ≤ last → score c last p < score c last q
score-rises c last p q before within = rises_by (rank_of c p) (since_of c p) (rank_of c q)
    (since_of c q) last before within

score-bound : (c : Chain) (bound last : ℕ) (p : ChainWord)
    → HasBounds c bound last → IsOn c p → score c last p ≤ (bound + 1) * (last + 1) + last
score-bound c bound last p within on =
    let a = times (rank_of c p) (bound + 1) (last + 1) (rank_within c bound last p within on) in
    omega (arith, a, since_within c bound last p within on)

-- from a word of a chain with such bounds one meets some list
met_within : (c : Chain) (bound last steps : ℕ) (p : ChainWord) → IsChain c → HasBounds c bound last → IsOn c p
    → (bound + 1) * (last + 1) + last + 1 ≤ steps + score c last p → (xs : List ℕ) × MeetsFrom c p xs
met_within c bound last zero p chain within on enough =
    absurd (omega (arith, score-bound c bound last p within on))
met_within c bound last (suc steps) p chain within on enough =
    if_equal (c.next p) nowhere (λ none. ([], none)) (λ some.
    let to = chain.leads p on some in
    let after = score-rises c last p (Next (c.next p)) to.1 (since_within c bound last p within on) in
    let rest = met_within c bound last steps (Next (c.next p)) chain within to.0 (omega arith) in
    (c.next p ∷ rest.0, (refl, some, rest.1)))

-- a chain of finitely many nodes is met
pub IsMet-from_chain : (c : Chain) (size : ℕ)
    → IsChain c → ((x : ℕ) → IsOn c (Next x) → x < size) → (xs : List ℕ) × IsMet c xs
IsMet-from_chain c size chain below =
    let bound : ℕ = most c.key size in
    let last : ℕ = most c.since size in
    let within : HasBounds c bound last = λ x on.
    (most-bound c.key size x (below x on), most-bound c.since size x (below x on)) in
    let found = met_within c bound last ((bound + 1) * (last + 1) + last + 1) Head chain within tt (omega arith) in
    (found.0, IsMet-from_Meets c found.0 chain found.1)

-- a node that is met names a node
Meets-named : (c : Chain) (p : ChainWord) (xs : List ℕ) (x : ℕ) → MeetsFrom c p xs → Contains xs x → x ≢ nowhere
Meets-named c p [] x met at = absurd (Contains-none x at)
Meets-named c p (y ∷ ys) x met at =
    by_place x y ys at (λ e. λ none. met.1 (e ∙ none)) (λ later. Meets-named c (Next y) ys x met.2 later)

-- a word leads to one of the nodes, behind itself
abbrev LedAmong : Chain → ChainWord → List ℕ → ℕ → Type 0
LedAmong c p xs x = Contains xs x × Precedes c p (Next x)

-- the first of them
first_led : (c : Chain) (p : ChainWord) (xs : List ℕ)
    → MeetsFrom c p xs → RisesAlong c p xs → c.next p ≢ nowhere → LedAmong c p xs (c.next p)
first_led c p [] met rising some = absurd (some met)
first_led c p (y ∷ ys) met rising some = subst (LedAmong c p (y ∷ ys)) (sym met.0) (Contains-here y y ys refl, rising.0)

led : (c : Chain) (p : ChainWord) (xs : List ℕ) (x : ℕ)
    → MeetsFrom c p xs → RisesAlong c p xs → Contains xs x → c.next (Next x) ≢ nowhere → LedAmong c (Next x) xs
    (c.next (Next x))
led c p [] x met rising at some = absurd (Contains-none x at)
led c p (y ∷ ys) x met rising at some =
    by_place x y ys at (λ e.
    let P : ℕ → Type 0 = λ z. c.next (Next z) ≢ nowhere → LedAmong c (Next z) (y ∷ ys) (c.next (Next z)) in
    let here : P y = λ some_y.
    let h = first_led c (Next y) ys met.2 rising.1 some_y in (Contains-later (c.next (Next y)) y ys h.0, h.1) in
    subst P e here some) (λ later.
    let h = led c (Next y) ys x met.2 rising.1 later some in (Contains-later (c.next (Next x)) y ys h.0, h.1))

-- a word leads no further than to any of the nodes behind it
first_gap : (c : Chain) (p : ChainWord) (xs : List ℕ) (x : ℕ)
    → MeetsFrom c p xs → RisesAlong c p xs → Contains xs x → NotPast c (Next x) (c.next p)
first_gap c p [] x met rising at = absurd (Contains-none x at)
first_gap c p (y ∷ ys) x met rising at = subst (NotPast c (Next x)) (sym met.0) (
  met.1,
  by_place x y ys at (λ e. λ f. before_same c (Next x) (Next y) f (ap Next (sym e)))
      (λ later. λ f. before_both c (Next y) (Next x) (first_least c p y ys x rising later) f),
)

met_gap : (c : Chain) (p : ChainWord) (xs : List ℕ) (x y : ℕ) → MeetsFrom c p xs → RisesAlong c p xs
    → Contains xs x → Contains xs y → Precedes c (Next x) (Next y) → NotPast c (Next y) (c.next (Next x))
met_gap c p [] x y met rising at to before = absurd (Contains-none x at)
met_gap c p (z ∷ zs) x y met rising at to before =
    by_place x z zs at (λ e.
    let P : ℕ → Type 0 = λ w. NotPast c (Next y) (c.next (Next w)) in
    let later = by_place y z zs to (λ e'. absurd (before_same c (Next x) (Next y) before (ap Next (sym e ∙ e'))))
    (λ h. h) in
    subst P e (first_gap c (Next z) zs y met.2 rising.1 later)) (λ at'.
    let a = first_least c p z zs x rising at' in
    let later =
    by_place y z zs to
    (λ e'. absurd (before_both c (Next z) (Next x) a (subst (λ (w : ℕ). Precedes c (Next x) (Next w)) (sym e') before)))
    (λ h. h) in
    met_gap c (Next z) zs x y met.2 rising.1 at' later before)

-- two of the rising nodes at one place of the order are one
met_alone : (c : Chain) (p : ChainWord) (xs : List ℕ) (x y : ℕ)
    → RisesAlong c p xs → Contains xs x → Contains xs y → c.key x ≡ c.key y → c.since x ≡ c.since y → x ≡ y
met_alone c p [] x y rising at to same same' = absurd (Contains-none x at)
met_alone c p (z ∷ zs) x y rising at to same same' =
    by_place x z zs at (λ e.
    let a : c.key z ≡ c.key x = ap c.key e in
    let a' : c.since z ≡ c.since x = ap c.since e in
    by_place y z zs to (λ e'. sym e ∙ e')
    (λ later. let b = first_least c p z zs y rising later in absurd (omega arith))) (λ at'.
    let a = first_least c p z zs x rising at' in
    by_place y z zs to
    (λ e'.
    let b : c.key z ≡ c.key y = ap c.key e' in
    let b' : c.since z ≡ c.since y = ap c.since e' in absurd (omega arith))
    (λ later. met_alone c (Next z) zs x y rising.1 at' later same same'))

-- the key behind an unmarked word that is met
first_rises : (c : Chain) (p : ChainWord) (xs : List ℕ)
    → MeetsFrom c p xs → RisesUnmarked c p xs → c.next p ≢ nowhere → RisesBehind c p (c.next p)
first_rises c p [] met rising some = absurd (some met)
first_rises c p (y ∷ ys) met rising some = subst (RisesBehind c p) (sym met.0) rising.0

rises_among : (c : Chain) (p : ChainWord) (xs : List ℕ) (x : ℕ) → MeetsFrom c p xs → RisesUnmarked c p xs
    → Contains xs x → c.next (Next x) ≢ nowhere → RisesBehind c (Next x) (c.next (Next x))
rises_among c p [] x met rising at some = absurd (Contains-none x at)
rises_among c p (y ∷ ys) x met rising at some =
    by_place x y ys at (λ e.
    let P : ℕ → Type 0 = λ z. c.next (Next z) ≢ nowhere → RisesBehind c (Next z) (c.next (Next z)) in
    subst P e (first_rises c (Next y) ys met.2 rising.1) some)
    (λ later. rises_among c (Next y) ys x met.2 rising.1 later some)

module _ (c : Chain) (xs : List ℕ) (met : IsMet c xs) where
  met_leads : (p : ChainWord) → IsOn c p → c.next p ≢ nowhere → LeadsOnChain c p (c.next p)
  met_leads Head on some =
      let h = first_led c Head xs met.met met.rising some in ((met.exactly (c.next Head)).1 h.0, h.1)
  met_leads (Next x) on some =
      let h = led c Head xs x met.met met.rising ((met.exactly x).0 on) some in
      ((met.exactly (c.next (Next x))).1 h.0, h.1)

  met_upto : (p q : ChainWord) → IsOn c p → IsOn c q → Precedes c p q → NotPast c q (c.next p)
  met_upto p Head on_p on_q before = absurd (omega arith)
  met_upto Head (Next y) on_p on_q before = first_gap c Head xs y met.met met.rising ((met.exactly y).0 on_q)
  met_upto (Next x) (Next y) on_p on_q before =
      met_gap c Head xs x y met.met met.rising ((met.exactly x).0 on_p) ((met.exactly y).0 on_q) before

  met_apart : (p q : ChainWord)
      → IsOn c p → IsOn c q → rank_of c p ≡ rank_of c q → since_of c p ≡ since_of c q → p ≡ q
  met_apart Head Head on_p on_q same same' = refl
  met_apart Head (Next y) on_p on_q same same' = absurd (omega arith)
  met_apart (Next x) Head on_p on_q same same' = absurd (omega arith)
  met_apart (Next x) (Next y) on_p on_q same same' =
      ap Next
      (met_alone c Head xs x y met.rising ((met.exactly x).0 on_p) ((met.exactly y).0 on_q) (omega arith) same')

  met_higher : (p : ChainWord) → IsOn c p → c.next p ≢ nowhere → RisesBehind c p (c.next p)
  met_higher Head on some = first_rises c Head xs met.met met.unmarked some
  met_higher (Next x) on some = rises_among c Head xs x met.met met.unmarked ((met.exactly x).0 on) some

  -- what is met from the head, in rising order, is a chain
  pub IsChain-from_IsMet : IsChain c
  IsChain-from_IsMet =
      IsChain-by c (λ x on. Meets-named c Head xs x met.met ((met.exactly x).0 on)) met_leads met_upto met_apart
      met_higher

-- the word from which one meets a list, or a node of it, leads to each node of it
abbrev IsLeader : Chain → ChainWord → List ℕ → ℕ → ChainWord → Type 0
IsLeader c p xs x q = ((q ≡ p) ⊎ ((y : ℕ) × Contains xs y × (q ≡ Next y))) × (c.next q ≡ x)

pub leader : (c : Chain) (p : ChainWord) (xs : List ℕ) (x : ℕ)
    → MeetsFrom c p xs → Contains xs x → (q : ChainWord) × IsLeader c p xs x q
leader c p [] x met at = absurd (Contains-none x at)
leader c p (y ∷ ys) x met at =
    by_place x y ys at (λ e. (p, (inl refl, met.0 ∙ e))) (λ later.
    let h = leader c (Next y) ys x met.2 later in (
      h.0,
      (
        inr (⊎_elim (λ (e : h.0 ≡ Next y). (y, Contains-here y y ys refl, e))
            (λ (f : (z : ℕ) × Contains ys z × (h.0 ≡ Next z)). (f.0, Contains-later f.0 y ys f.1, f.2)) h.1.0),
        h.1.1,
      ),
    ))
