-- Walks of a sorted chain, whichever it is. A walk loads an unmarked word, and then the key and the link of the node to
-- which it leads: that node was met, its key isn't below one above the key of the node whose link the word is, and
-- where
-- a word leads past a key, the key was absent when the word was loaded. A chain says what is met on it, where the words
-- of a walk stand and where they lead (`WordLaws`), and how a walk for a key goes on (`WalkLaws`).
use Rattle.std.proofs.Common.{◌≡◌, ◌≢◌, ◌⊎◌, ℕ, ◌+◌, ◌-◌, ◌%◌, ◌==◌, ◌<◌, ◌≤◌, Bool, true, false, cond, List, [], refl}
use Rattle.std.proofs.Common.{sym, ap, ap₂, ◌∙◌, subst, arith, ⊎_elim}
use Rattle.packed_link.specs.Link.{index_of, mark_of, nowhere}
use Rattle.packed_link.specs.Layout.{Sizes, IsLayout, bucket_at, key_at, link_at}
use Rattle.core_journal.specs.declared.event.Event.{Event}
use Rattle.core_journal.specs.Machine.{word_at}
use Rattle.core_journal.specs.Prefix.{IsPrefix}
use Rattle.core_kept.specs.Facts.{HasMet}
use Rattle.core_kept.specs.Kept.{IsKept}
use Rattle.core_kept.proofs.Induction.{kept_front}
use Rattle.core_lists.specs.Changed.{IsChangedByAnother, HasNoneAt}
use Rattle.core_lists.proofs.ChangedByAnother.{bucket_changed, node_changed}
use Rattle.core_rule.specs.Fronts.{key_in}
use Rattle.core_rule.specs.Plays.{IsSound, Looked}
use Rattle.core_rule.specs.Stretches.{Own, Elsewhere, HasPass}
use Rattle.core_rule.specs.Views.{GoesOn}
use Rattle.core_rule.specs.declared.view.View.{View}
use Rattle.core_rule.proofs.OwnStretch.{own_self, own_chain, goes_self, goes_opened}
use Rattle.core_rule.proofs.ViewShows.{goes_further, key_still}
use Rattle.core_stretches.specs.Makes.{Makes}
use Rattle.core_stretches.specs.LoadedWords.{IsLoadedWord, IsLoadedNode}
use Rattle.core_stretches.proofs.MakesAddUp.{makes_look, makes_chain}
use Rattle.core_stretches.proofs.MakesTell.{makes_goes, makes_own}

-- a word whose changes are counted while a pass is open: that of a bucket, or one of a node that was met
abbrev pub IsCountedWord : View → ℕ → Type 0
IsCountedWord v place =
    ((j : ℕ) × (j < v.sizes.buckets) × (place ≡ bucket_at v.sizes j))
    ⊎ ((x : ℕ) × (field : ℕ) × (field < 4) × HasMet v.sizes v.front v.number x × (place ≡ key_at v.sizes x + field))

-- one above the key of the node whose link stands at the place, and 0 where none does
abbrev pub low_at : Sizes → List Event → ℕ → ℕ
low_at sizes front place = cond ((place - key_at sizes 0) % 4 == 1) (word_at sizes front (place - 1) + 1) 0

pub low_link : (sizes : Sizes) (front : List Event) (x : ℕ) → low_at sizes front (link_at sizes x) ≡ word_at sizes front
    (key_at sizes x) + 1
low_link sizes front x =
    let field : (link_at sizes x - key_at sizes 0) % 4 ≡ 1 = omega arith in
    let key : link_at sizes x - 1 ≡ key_at sizes x = omega arith in
    ap₂ (λ (n p : ℕ). cond (n == 1) (word_at sizes front p + 1) 0) field key

pub low_else : (sizes : Sizes) (front : List Event) (place n : ℕ) → (place - key_at sizes 0) % 4 ≡ n → (n == 1) ≡ false
    → low_at sizes front place ≡ 0
low_else sizes front place n is other = ap (λ (m : ℕ). cond (m == 1) (word_at sizes front (place - 1) + 1) 0) is ∙ ap
    (λ (b : Bool). cond b (word_at sizes front (place - 1) + 1) 0) other

-- what is met on a chain, and where its words stand and lead
pub record WordLaws (Met Stands : View → ℕ → Type 0) : Type 0 where
  pub there : (v : View) (x : ℕ) → Met v x → x < v.sizes.nodes
  pub has : (v : View) (x : ℕ) → Met v x → HasMet v.sizes v.front v.number x
  pub still : (v w : View) → IsLayout v.sizes → GoesOn v w → (x : ℕ) → Met v x → Met w x
  pub stands : (v w : View) → IsLayout v.sizes → GoesOn v w → (place : ℕ) → Stands v place → Stands w place
  pub counted : (v : View) → IsLayout v.sizes → (place : ℕ) → Stands v place → IsCountedWord v place
  pub leads : (v : View) → IsLayout v.sizes → IsKept v.sizes v.front → HasPass v → (place : ℕ) → Stands v place
      → index_of (word_at v.sizes v.front place) ≢ nowhere → Met v (index_of (word_at v.sizes v.front place))

-- how a walk for a key goes along it
pub record WalkLaws (key : ℕ) (Met Stands : View → ℕ → Type 0) (Absent : List Event → Type 0) : Type 0 where
  pub words : WordLaws Met Stands
  pub low : (v : View) → IsLayout v.sizes → (place : ℕ) → Stands v place → low_at v.sizes v.front place ≤ key
  pub rises : (v : View) → IsLayout v.sizes → IsKept v.sizes v.front → (place : ℕ) → Stands v place → mark_of
      (word_at v.sizes v.front place) ≡ 0 → index_of (word_at v.sizes v.front place) ≢ nowhere
      → low_at v.sizes v.front place ≤ key_in v (index_of (word_at v.sizes v.front place))
  pub behind : (v : View) (x : ℕ) → Met v x → key_in v x < key → Stands v (link_at v.sizes x)
  pub absent : (v : View) → IsLayout v.sizes → IsKept v.sizes v.front → HasPass v → (place : ℕ) → Stands v place
      → mark_of (word_at v.sizes v.front place) ≡ 0 → (index_of (word_at v.sizes v.front place) ≢ nowhere
      → key < key_in v (index_of (word_at v.sizes v.front place))) → Absent v.front

pub goes_sizes : (v w : View) → GoesOn v w → w.sizes ≡ v.sizes
goes_sizes v w g = ap (λ (x : View). x.sizes) g.view

pub goes_number : (v w : View) → GoesOn v w → w.number ≡ v.number
goes_number v w g = ap (λ (x : View). x.number) g.view

pub layout_before : (v w : View) → GoesOn v w → IsLayout w.sizes → IsLayout v.sizes
layout_before v w g z = subst IsLayout (goes_sizes v w g) z

pub kept_before : (v w : View) → GoesOn v w → IsKept v.sizes v.front
kept_before v w g = kept_front v.sizes v.front w.front g.grows g.kept

-- two loads of a node that was met: of its key, and then of its link
pub loads_make : (v m w : View) (first found second link : ℕ) → v.numbered ≡ true → IsSound v → Looked v first found m
    → Looked m second link w → Makes v [] w
loads_make v m w first found second link has s a b = makes_chain v m w [] [] (makes_look v m first found has s a)
    (makes_look m w second link (ap (λ (x : View). x.numbered) a.view ∙ has) a.sound b)

module _ (Stands : View → ℕ → Type 0) (place seen : ℕ) (moment : List Event) where
  -- a loaded word goes on with its token
  pub word_goes : (v w : View) → GoesOn v w → Own (Elsewhere place) v w → IsLoadedWord Stands place seen moment v
      → IsLoadedWord Stands place seen moment w
  word_goes v w g o h = record {
    then = h.then;
    at = h.at;
    goes = goes_further h.then v w h.goes g;
    own = own_chain (Elsewhere place) h.then v w (goes_number h.then v h.goes) g.grows h.own o;
    pass = h.pass;
    stands = h.stands;
    word = h.word;
    unmarked = h.unmarked;
  }

  -- also over loads
  pub word_looks : (v w : View) → Makes v [] w → IsLoadedWord Stands place seen moment v
      → IsLoadedWord Stands place seen moment w
  word_looks v w h = word_goes v w (makes_goes v w [] tt h) (makes_own (λ (e : Event). e.place ≢ place) v w [] tt h)

  -- the moment of its load is behind the front, and the pass is open still
  pub word_until : (v : View) → IsLoadedWord Stands place seen moment v → IsPrefix moment v.front
  word_until v h = subst (λ (f : List Event). IsPrefix f v.front) h.at h.goes.grows

  pub word_opened : (v : View) → IsLoadedWord Stands place seen moment v → HasPass v
  word_opened v h = goes_opened h.then v h.goes h.pass

-- an unmarked word that stands at the front
pub word_here : (Stands : View → ℕ → Type 0) (place seen : ℕ) (v : View) → IsKept v.sizes v.front → HasPass v
    → Stands v place → word_at v.sizes v.front place ≡ seen → mark_of seen ≡ 0
    → IsLoadedWord Stands place seen v.front v
word_here Stands place seen v kept opened stands is live = record {
  then = v;
  at = refl;
  goes = goes_self v kept;
  own = own_self
      (Elsewhere place) v;
  pass = opened;
  stands = stands;
  word = is;
  unmarked = live;
}

module _ (Met Stands : View → ℕ → Type 0) (laws : WordLaws Met Stands) where
  -- a node that was met, after loads of its key and its link
  pub node_loaded : (v m w : View) (first x found second link : ℕ) → IsLayout v.sizes → v.numbered ≡ true → IsSound v
      → Met v x → first ≡ key_at v.sizes x → second ≡ link_at v.sizes x → Looked v first found m
      → Looked m second link w → IsLoadedNode Met x found link w
  node_loaded v m w first x found second link z has s met first_is second_is a b =
      let p = makes_goes v m [] tt (makes_look v m first found has s a) in
      let q = makes_goes m w [] tt (makes_look m w second link (ap (λ (u : View). u.numbered) a.view ∙ has) a.sound b)
      in
      let z' = subst IsLayout (sym (goes_sizes v m p)) z in
      let met' = laws.still v m z p x met in
      record {
        met = laws.still m w z' q x met';
        key_is = key_still m w z' q x (laws.there m x met') (laws.has m x met') ∙
            (ap₂ (λ (y : Sizes) (i : ℕ). word_at y m.front i) (goes_sizes v m p)
            (ap (λ (y : Sizes). key_at y x) (goes_sizes v m p) ∙ sym first_is) ∙ sym a.word);
        link_is = ap₂ (λ (y : Sizes) (i : ℕ). word_at y w.front i) (goes_sizes m w q)
            (ap (λ (y : Sizes). link_at y x) (goes_sizes m w q ∙ goes_sizes v m p) ∙ sym second_is) ∙ sym b.word;
      }

  module _ (place seen : ℕ) (moment : List Event) (v : View) (z : IsLayout v.sizes)
      (h : IsLoadedWord Stands place seen moment v) where
    -- the node to which it leads was met
    met_then : index_of seen ≢ nowhere → Met h.then (index_of seen)
    met_then some = subst (λ (i : ℕ). Met h.then (index_of i)) h.word
        (laws.leads h.then (layout_before h.then v h.goes z) (kept_before h.then v h.goes) h.pass place h.stands
        (λ none. some (ap index_of (sym h.word) ∙ none)))

    pub word_leads : index_of seen ≢ nowhere → Met v (index_of seen)
    word_leads some = laws.still h.then v (layout_before h.then v h.goes z) h.goes (index_of seen) (met_then some)

    -- and has had this key since
    pub key_then : index_of seen ≢ nowhere → key_in v (index_of seen) ≡ key_in h.then (index_of seen)
    key_then some = let m = met_then some in key_still h.then v (layout_before h.then v h.goes z) h.goes (index_of seen)
        (laws.there h.then (index_of seen) m) (laws.has h.then (index_of seen) m)

    -- where another word stands there now, another caller changed it
    pub word_changed : word_at v.sizes v.front place ≢ seen → IsChangedByAnother moment v.front v.number place
    word_changed other =
        let then = h.then in
        let sizes = goes_sizes then v h.goes in
        let number = goes_number then v h.goes in
        let z' = layout_before then v h.goes z in
        let kept : IsKept then.sizes v.front = h.goes.kept in
        let changes : word_at then.sizes v.front place ≢ word_at then.sizes then.front place = λ same. other
        (ap (λ (y : Sizes). word_at y v.front place) sizes ∙ (same ∙ h.word)) in
        let none : HasNoneAt then.front v.front then.number place = record
        { none = λ p e since at by. h.own.each p e since at by } in
        let by_then : IsChangedByAnother then.front v.front then.number place = ⊎_elim
        (λ (b : (j : ℕ) × (j < then.sizes.buckets) × (place ≡ bucket_at then.sizes j)).
        subst (IsChangedByAnother then.front v.front then.number) (sym b.2)
        (bucket_changed then.sizes then.front v.front h.goes.grows kept then.number b.0 b.1
        (subst (HasNoneAt then.front v.front then.number) b.2 none)
        (subst (λ (i : ℕ). word_at then.sizes v.front i ≢ word_at then.sizes then.front i) b.2 changes)))
        (λ (b : (x : ℕ) × (field : ℕ) × (field < 4) × HasMet then.sizes then.front then.number x ×
        (place ≡ key_at then.sizes x + field)).
        subst (IsChangedByAnother then.front v.front then.number) (sym b.4)
        (node_changed then.sizes then.front v.front h.goes.grows kept then.number z' h.pass h.goes.pass b.0 b.1 b.2
        b.3
        (subst (HasNoneAt then.front v.front then.number) b.4 none)
        (subst (λ (i : ℕ). word_at then.sizes v.front i ≢ word_at then.sizes then.front i) b.4 changes)))
        (laws.counted then z' place h.stands) in
        subst (λ (n : ℕ). IsChangedByAnother moment v.front n place) (sym number)
        (subst (λ (f : List Event). IsChangedByAnother f v.front then.number place) h.at by_then)

    -- it stands at the same place later, where the token itself wrote another unmarked word
    pub word_written : (w : View) (new : ℕ) → GoesOn v w → word_at w.sizes w.front place ≡ new → mark_of new ≡ 0
        → IsLoadedWord Stands place new w.front w
    word_written w new g is live =
        let on = goes_further h.then v w h.goes g in
        word_here Stands place new w (subst (λ (y : Sizes). IsKept y w.front) (sym (goes_sizes v w g)) g.kept)
        (goes_opened h.then w on h.pass) (laws.stands h.then w (layout_before h.then v h.goes z) on place h.stands)
        is live

module _ (key : ℕ) (Met Stands : View → ℕ → Type 0) (Absent : List Event → Type 0)
    (laws : WalkLaws key Met Stands Absent) where
  module _ (place seen : ℕ) (moment : List Event) (v : View) (z : IsLayout v.sizes)
      (h : IsLoadedWord Stands place seen moment v) where
    -- the walk has passed keys up to this number, and no more than those below its own
    pub low_fits : low_at v.sizes moment place ≤ key
    low_fits = subst (λ (f : List Event). low_at v.sizes f place ≤ key) h.at
        (subst (λ (y : Sizes). low_at y h.then.front place ≤ key) (sym (goes_sizes h.then v h.goes))
        (laws.low h.then (layout_before h.then v h.goes z) place h.stands))

    -- the next key isn't below that number
    pub word_rises : index_of seen ≢ nowhere → low_at v.sizes moment place ≤ key_in v (index_of seen)
    word_rises some =
        let then = h.then in
        let at_then : low_at then.sizes then.front place ≤ key_in then (index_of seen) = subst
        (λ (i : ℕ). low_at then.sizes then.front place ≤ key_in then (index_of i)) h.word
        (laws.rises then (layout_before then v h.goes z) (kept_before then v h.goes) place h.stands
        (ap mark_of h.word ∙ h.unmarked) (λ none. some (ap index_of (sym h.word) ∙ none))) in
        let same = key_then Met Stands laws.words place seen moment v z h some in
        subst (λ (k : ℕ). low_at v.sizes moment place ≤ k) (sym same)
        (subst (λ (f : List Event). low_at v.sizes f place ≤ key_in then (index_of seen)) h.at
        (subst (λ (y : Sizes). low_at y then.front place ≤ key_in then (index_of seen))
        (sym (goes_sizes then v h.goes)) at_then))

    -- where the word leads to none or to a greater key, the key was absent when the word was loaded
    pub word_passes : (index_of seen ≢ nowhere → key < key_in v (index_of seen)) → Absent moment
    word_passes above =
        let then = h.then in
        subst Absent h.at (laws.absent then (layout_before then v h.goes z)
        (kept_before then v h.goes) h.pass place h.stands (ap mark_of h.word ∙ h.unmarked)
        (λ some. let some' : index_of seen ≢ nowhere = λ none. some (ap index_of h.word ∙ none) in
        subst (λ (i : ℕ). key < key_in then (index_of i)) (sym h.word)
        (subst (λ (k : ℕ). key < k) (key_then Met Stands laws.words place seen moment v z h some') (above some'))))

  -- the unmarked link of a node of a smaller key is the next word of the walk
  pub node_passed : (v : View) (x found link : ℕ) → IsKept v.sizes v.front → HasPass v → IsLoadedNode Met x found link v
      → found < key → mark_of link ≡ 0 → IsLoadedWord Stands (link_at v.sizes x) link v.front v
  node_passed v x found link kept opened n below live = word_here Stands (link_at v.sizes x) link v kept opened
      (laws.behind v x n.met (subst (λ (k : ℕ). k < key) (sym n.key_is) below)) n.link_is live

  -- and the number that it has passed up to is one above that key
  pub low_passed : (v : View) (x found link : ℕ) → IsLoadedNode Met x found link v → low_at v.sizes v.front
      (link_at v.sizes x) ≡ found + 1
  low_passed v x found link n = low_link v.sizes v.front x ∙ ap (λ (k : ℕ). k + 1) n.key_is
