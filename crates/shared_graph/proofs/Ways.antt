-- A walk along a chain, word after word, that reads something at each node: how far it is.
use Rattle.std.proofs.Common.{◌≡◌, ℕ, ◌+◌, ◌<◌, ◌≤◌, List, [], ◌∷◌, ◌++◌, length, refl, sym, ap, ◌∙◌, subst, arith}
use Rattle.std.proofs.Common.{append_assoc, length-append, inl, suc, zero}
use Rattle.std.specs.Prelude.{flat_map}
use Rattle.std.specs.List.{range_with_len}
use Rattle.std.proofs.lemmas.List.{append-nil, flat_map_more}
use Rattle.packed_link.specs.Link.{index_of, nowhere}
use Rattle.core_chain.specs.Chain.{Chain, ChainWord, Head, Next}
use Rattle.core_chain.specs.Met.{MeetsFrom}
use Rattle.shared_graph.proofs.Elements.{IsIn, in_right}

module _ {A : Type 0} (chain : Chain) (nodes : List ℕ) (read : ℕ → List A) where
  -- of the nodes of the chain some were visited, and the word leads on to the others; of the visits that were allowed
  -- at first so many are left, and what was read stands behind what was there
  pub record IsOnWay (before now : List A) (word left rest : ℕ) : Type 0 where
    pub at : ChainWord
    pub leads : index_of word ≡ chain.next at
    pub done : List ℕ
    pub others : List ℕ
    pub whole : done ++ others ≡ nodes
    pub meets : MeetsFrom chain at others
    pub spent : rest + length done ≡ left
    pub items : now ≡ before ++ flat_map read done

  pub way_starts : (before : List A) (word left : ℕ) → MeetsFrom chain Head nodes → index_of word ≡ chain.next Head
      → IsOnWay before before word left left
  way_starts before word left meets leads = record {
    at = Head;
    leads = leads;
    done = [];
    others = nodes;
    whole = refl;
    meets = meets;
    spent = omega arith;
    items = sym (append-nil before);
  }

  -- the word leads to a node, which is visited
  pub way_goes : (before now now' : List A) (word word' left rest rest' index limit : ℕ) → limit ≤ nowhere
      → index < limit → index ≡ index_of word → index_of word' ≡ chain.next (Next index) → now' ≡ now ++ read index
      → rest ≡ rest' + 1 → IsOnWay before now word left rest → IsOnWay before now' word' left rest'
  way_goes before now now' word word' left rest rest' index limit top low is leads items one w =
      by w.others refl w.meets
    where
      by : (os : List ℕ) → w.others ≡ os → MeetsFrom chain w.at os → IsOnWay before now' word' left rest'
      by [] e m = absurd (omega (arith, top, low, is, w.leads, m))
      by (x ∷ os) e m =
          let same : x ≡ index = sym m.0 ∙ (sym w.leads ∙ sym is) in
          record {
            at = Next index;
            leads = leads;
            done = w.done ++ index ∷ [];
            others = os;
            whole = append_assoc w.done (index ∷ []) os ∙ (ap (λ y. w.done ++ y ∷ os) (sym same) ∙ (ap
                (λ ys. w.done ++ ys) (sym e) ∙ w.whole));
            meets = subst (λ y. MeetsFrom chain (Next y) os) same m.2;
            spent = omega (arith, one, w.spent, length-append w.done (index ∷ []));
            items = items ∙ (ap (λ ys. ys ++ read index) w.items ∙ flat_map_more read before w.done index);
          }

  -- all nodes were visited
  pub record IsAllRead (before now : List A) (left rest : ℕ) : Type 0 where
    pub spent : rest + length nodes ≡ left
    pub items : now ≡ before ++ flat_map read nodes

  all_read : (before now : List A) (word left rest : ℕ) (w : IsOnWay before now word left rest) → w.others ≡ []
      → IsAllRead before now left rest
  all_read before now word left rest w e =
      let all : w.done ≡ nodes = sym (append-nil w.done) ∙ (ap (λ ys. w.done ++ ys) (sym e) ∙ w.whole) in
      record {
        spent = ap (λ ys. rest + length ys) (sym all) ∙ w.spent;
        items = w.items ∙ ap (λ ys. before ++ flat_map read ys) all;
      }

  -- the word leads to no node
  pub way_ends : (before now : List A) (word left rest index limit : ℕ) → ((y : ℕ) → IsIn nodes y → y < limit)
      → limit ≤ index → index ≡ index_of word → IsOnWay before now word left rest → IsAllRead before now left rest
  way_ends before now word left rest index limit low high is w = all_read before now word left rest w
      (by w.others refl w.meets)
    where
      by : (os : List ℕ) → w.others ≡ os → MeetsFrom chain w.at os → w.others ≡ []
      by [] e m = e
      by (x ∷ os) e m =
          let there : IsIn nodes x = subst (λ ys. IsIn ys x) (ap (λ ys. w.done ++ ys) (sym e) ∙ w.whole)
          (in_right w.done (x ∷ os) x (inl refl)) in
          absurd (omega (arith, low x there, high, is, w.leads, m.0))

  -- no visit is left
  pub way_is_over : (before now : List A) (word left rest : ℕ) → length nodes ≤ left → rest ≡ 0
      → IsOnWay before now word left rest → IsAllRead before now left rest
  way_is_over before now word left rest room none w = all_read before now word left rest w (by w.others refl)
    where
      by : (os : List ℕ) → w.others ≡ os → w.others ≡ []
      by [] e = e
      by (x ∷ os) e = absurd (omega (
        arith,
        room,
        none,
        w.spent,
        ap length w.whole,
        length-append w.done w.others,
        ap length e,
      ))

-- one walk after another: so many visits are left, and what was read is that of all walks
module _ {P A : Type 0} (nodes : P → List ℕ) (read : P → List A) where
  abbrev pub HasRead : (ps : List P) (before now : List A) (left rest : ℕ) → Type 0
  HasRead ps before now left rest =
      length (flat_map nodes ps) ≤ left
      → (rest + length (flat_map nodes ps) ≡ left) × (now ≡ before ++ flat_map read ps)

  pub none_read : (before : List A) (left : ℕ) → HasRead [] before before left left
  none_read before left room = (omega arith, sym (append-nil before))

  pub one_more_read : (ps : List P) (p : P) (before now now' : List A) (left rest rest' : ℕ)
      → HasRead ps before now left rest
      → (length (nodes p) ≤ rest → (rest' + length (nodes p) ≡ rest) × (now' ≡ now ++ read p))
      → HasRead (ps ++ p ∷ []) before now' left rest'
  one_more_read ps p before now now' left rest rest' old new room =
      let long : length (flat_map nodes (ps ++ p ∷ [])) ≡ length (flat_map nodes ps) + length (nodes p) =
      ap length (sym (flat_map_more nodes [] ps p)) ∙ length-append (flat_map nodes ps) (nodes p) in
      let o = old (omega (arith, room, long)) in
      let n = new (omega (arith, room, long, o.0)) in
      (omega (arith, long, o.0, n.0), n.1 ∙ (ap (λ ys. ys ++ read p) o.1 ∙ flat_map_more read before ps p))

-- a list of lists of lists
pub flat_flat : {X Y A : Type 0} (f : X → List Y) (g : Y → List A) (xs : List X) → flat_map g (flat_map f xs) ≡ flat_map
    (λ x. flat_map g (f x)) xs
flat_flat {X} {Y} {A} f g [] = refl
flat_flat {X} {Y} {A} f g (x ∷ xs) = apart (f x) (flat_map f xs) ∙ ap (λ ys. flat_map g (f x) ++ ys) (flat_flat f g xs)
  where
    apart : (us bs : List Y) → flat_map g (us ++ bs) ≡ flat_map g us ++ flat_map g bs
    apart [] bs = refl
    apart (a ∷ us) bs = ap (λ ys. g a ++ ys) (apart us bs) ∙ sym (append_assoc (g a) (flat_map g us) (flat_map g bs))

pub range_more : (a n : ℕ) → range_with_len a (n + 1) ≡ range_with_len a n ++ (a + n) ∷ []
range_more a zero = ap (λ i. i ∷ []) (omega arith)
range_more a (suc n) =
    let next : range_with_len (a + 1) (n + 1) ≡ range_with_len (a + 1) n ++ (a + 1 + n) ∷ [] = range_more (a + 1) n in
    let is : suc n + 1 ≡ suc (n + 1) = omega arith in
    ap (range_with_len a) is ∙ (ap (λ ys. a ∷ ys) next ∙ ap (λ i. (a ∷ range_with_len (a + 1) n) ++ i ∷ [])
    (omega arith))
