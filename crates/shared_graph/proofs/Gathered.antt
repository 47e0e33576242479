-- Callers that look on, and what is known of the journal when the first of them has met all others.
use Rattle.std.proofs.Common.{◌≡◌, ℕ, zero, suc, ◌+◌, ◌<◌, ◌≤◌, List, ◌∷◌, [], ◌++◌, take, length, get_or, set, map}
use Rattle.std.proofs.Common.{get_or-set_same, inl, inr, refl, sym, ap, ap₂, ◌∙◌, subst, arith, ⊎_elim}
use Rattle.std.proofs.lemmas.Bool.{cases_lt}
use Rattle.std.proofs.Math.Seq.{take-append_seam}
use Rattle.graph_kinds.specs.Graph.{Graph}
use Rattle.graph_kinds.specs.History.{Every}
use Rattle.core_journal.specs.GraphOf.{graph_of}
use Rattle.core_journal.specs.declared.book.Book.{Book}
use Rattle.core_journal.specs.declared.event.Event.{Event}
use Rattle.core_journal.specs.Prefix.{IsPrefix}
use Rattle.core_journal.specs.Right.{CallersApart}
use Rattle.core_journal.proofs.Lists.{prefix_length, prefix_refl, prefix_trans}
use Rattle.core_rule.specs.Rule.{accounts}
use Rattle.core_rule.specs.declared.view.View.{View}
use Rattle.graph_table.specs.Tokens.{TableValue, TokenValue}
use Rattle.shared_graph.specs.Callers.{CallerValue, HasCaller, HoldsEach, IsBetweenCalls, IsCallerOf, LooksOn}
use Rattle.shared_graph.specs.Callers.{book_in, front_of}
use Rattle.shared_graph.specs.Gathering.{AreBetweenCalls, AreCallersOf, FirstHasMet, LookOnEach}
use Rattle.shared_graph.specs.Joining.{AreClosedBy, HasThisAccount, IsJoined}
use Rattle.shared_graph.specs.Closing.{IsClosedAs, IsReadBetween}
use Rattle.shared_graph.proofs.Closed.{ended, no_longer, whole_front}

pub looks_self : (c : CallerValue) → LooksOn c c
looks_self c = record {
  grows = prefix_refl (front_of c);
  number = refl;
  last = refl;
  book = refl;
  limbo = refl;
  spare = refl;
  uses = refl;
  keys = refl;
  ends = refl;
}

pub looks_chain : (a b c : CallerValue) → LooksOn a b → LooksOn b c → LooksOn a c
looks_chain a b c p q = record {
  grows = prefix_trans (front_of a) (front_of b) (front_of c) p.grows q.grows;
  number = q.number ∙ p.number;
  last = q.last ∙ p.last;
  book = q.book ∙ p.book;
  limbo = q.limbo ∙ p.limbo;
  spare = q.spare ∙ p.spare;
  uses = q.uses ∙ p.uses;
  keys = q.keys ∙ p.keys;
  ends = q.ends ∙ p.ends;
}

pub each_self : (cs : List CallerValue) → LookOnEach cs cs
each_self cs = record { count = refl; each = λ i d low. looks_self (get_or cs i d) }

pub each_chain : (xs ys zs : List CallerValue) → LookOnEach xs ys → LookOnEach ys zs → LookOnEach xs zs
each_chain xs ys zs p q = record {
  count = q.count ∙ p.count;
  each = λ i d low. looks_chain (get_or xs i d) (get_or ys i d) (get_or zs i d) (p.each i d low)
      (q.each i d (let n = p.count in omega (arith, low, n)));
}

-- a caller that is yet to look on was before as it is
pub between_more : (xs ys : List CallerValue) (n : ℕ)
    → ((i : ℕ) (d : CallerValue) → i < n → IsBetweenCalls (get_or xs i d).hand)
    → ((d : CallerValue) → get_or ys n d ≡ get_or xs n d)
    → ((d : CallerValue) → IsBetweenCalls (get_or ys n d).hand)
    → (i : ℕ) (d : CallerValue) → i < n + 1 → IsBetweenCalls (get_or xs i d).hand
between_more xs ys n old same new i d low = ⊎_elim
    (λ (l : i < n). old i d l)
    (λ (high : n ≤ i).
    let is : n ≡ i = omega (arith, low, high) in
    subst (λ (j : ℕ). IsBetweenCalls (get_or xs j d).hand) is
    (subst (λ (c : CallerValue). IsBetweenCalls c.hand) (same d) (new d)))
    (cases_lt i n)

-- one more caller was met
pub met_more : (xs ys zs : List CallerValue) (n : ℕ) → 0 < length xs → LookOnEach xs ys → LookOnEach ys zs
    → n < length xs → ((i : ℕ) → i < n → FirstHasMet xs ys i) → FirstHasMet ys zs n
    → (i : ℕ) → i < n + 1 → FirstHasMet xs zs i
met_more xs ys zs n some first second room old new i low d e = ⊎_elim
    (λ (l : i < n). prefix_trans (front_of (get_or xs i d)) (front_of (get_or ys 0 e)) (front_of (get_or zs 0 e))
    (old i l d e) (second.each 0 e (let count = first.count in omega (arith, some, count))).grows)
    (λ (high : n ≤ i).
    let is : n ≡ i = omega (arith, low, high) in
    subst (λ (j : ℕ). IsPrefix (front_of (get_or xs j d)) (front_of (get_or zs 0 e))) is
    (prefix_trans (front_of (get_or xs n d)) (front_of (get_or ys n d)) (front_of (get_or zs 0 e))
    (first.each n d room).grows (new d e)))
    (cases_lt i n)

-- a list without its first
rest_looks : (a b : CallerValue) (xs ys : List CallerValue) → LookOnEach (a ∷ xs) (b ∷ ys) → LookOnEach xs ys
rest_looks a b xs ys l = record {
  count = let n = l.count in omega (arith, n);
  each = λ i d low. l.each (suc i) d (omega (arith, low));
}

-- callers that look on keep their books
books_stay : (xs ys : List CallerValue) → LookOnEach xs ys → map book_in ys ≡ map book_in xs
books_stay [] [] l = refl
books_stay [] (b ∷ ys) l = absurd (let n = l.count in omega (arith, n))
books_stay (a ∷ xs) [] l = absurd (let n = l.count in omega (arith, n))
books_stay (a ∷ xs) (b ∷ ys) l =
    let first = l.each 0 a (omega arith) in
    let one : book_in b ≡ book_in a = λ i. record { caller = first.number i; entries = first.book i } in
    ap₂ (λ (x : Book) (ys : List Book). x ∷ ys) one (books_stay xs ys (rest_looks a b xs ys l))

has_still : (number : ℕ) (xs ys : List CallerValue) → LookOnEach xs ys → HasCaller xs number → HasCaller ys number
has_still number [] ys l h = absurd h
has_still number (a ∷ xs) [] l h = absurd (let n = l.count in omega (arith, n))
has_still number (a ∷ xs) (b ∷ ys) l h = ⊎_elim
    (λ (e : a.hand.token.view.number ≡ number). inl ((l.each 0 a (omega arith)).number ∙ e))
    (λ (k : HasCaller xs number). inr (has_still number xs ys (rest_looks a b xs ys l) k)) h

pub every_home : (g : TableValue) (cs : List CallerValue) → AreCallersOf g cs → Every (IsCallerOf g) cs
every_home g [] h = tt
every_home g (c ∷ cs) h = (h 0 c (omega arith), every_home g cs (λ i d low. h (suc i) d (omega (arith, low))))

pub home_each : (g : TableValue) (cs : List CallerValue) → Every (IsCallerOf g) cs → AreCallersOf g cs
home_each g [] h i d low = absurd (omega (arith, low))
home_each g (c ∷ cs) h zero d low = h.0
home_each g (c ∷ cs) h (suc i) d low = home_each g cs h.1 i d (omega (arith, low))

-- all callers of a graph are all of them still
pub holds_still : (g : TableValue) (xs ys : List CallerValue) → LookOnEach xs ys → AreCallersOf g ys
    → HoldsEach g xs → HoldsEach g ys
holds_still g xs ys l home h = record {
  home = every_home g ys home;
  each = λ number low. has_still number xs ys l (h.each number low);
  apart = subst CallersApart (sym (books_stay xs ys l)) h.apart;
}

-- what was joined when it had looked on was joined as it was before
joined_before : (v : View) (a b : CallerValue) → LooksOn a b → IsBetweenCalls a.hand → IsJoined v b → IsJoined v a
joined_before v a b l between j = record {
  between = between;
  seen = prefix_trans (front_of a) (front_of b) v.front l.grows j.seen;
  account = subst (λ (x : ℕ × ℕ). HasThisAccount (accounts v) x) (λ i. (l.number i, l.last i)) j.account;
}

all_joined_before : (v : View) (xs ys : List CallerValue) → LookOnEach xs ys → AreBetweenCalls xs
    → Every (IsJoined v) ys → Every (IsJoined v) xs
all_joined_before v [] ys l between all = tt
all_joined_before v (a ∷ xs) [] l between all = absurd (let n = l.count in omega (arith, n))
all_joined_before v (a ∷ xs) (b ∷ ys) l between all = (
  joined_before v a b (l.each 0 a (omega arith)) (between 0 a (omega arith)) all.0,
  all_joined_before v xs ys (rest_looks a b xs ys l) (λ i d low. between (suc i) d (omega (arith, low))) all.1,
)

pub closed_before : (g : TableValue) (xs ys : List CallerValue) (t : TokenValue) → LookOnEach xs ys
    → AreBetweenCalls xs → AreClosedBy g ys t → AreClosedBy g xs t
closed_before g xs ys t l between z = record {
  of = z.of;
  whole = z.whole;
  joined = all_joined_before t.view xs ys l between z.joined;
}

-- the last event of each caller stands in a front that has all their fronts before it
lasts_within : (front : List Event) (xs : List CallerValue) → AreBetweenCalls xs
    → ((i : ℕ) (d : CallerValue) → i < length xs → IsPrefix (front_of (get_or xs i d)) front)
    → Every (λ (c : CallerValue). c.hand.token.view.last ≤ length front) xs
lasts_within front [] between met = tt
lasts_within front (a ∷ xs) between met =
    let b = between 0 a (omega arith) in
    let old = b.hand.of.sound.old b.hand.numbered in
    let n = prefix_length (front_of a) front (met 0 a (omega arith)) in (
      omega (arith, old, n),
      lasts_within front xs (λ i d low. between (suc i) d (omega (arith, low)))
          (λ i d low. met (suc i) d (omega (arith, low))),
    )

-- when all callers' fronts stand before a front, and it begins the journal of their end, it's the whole of it
pub gathered_whole : (g : TableValue) (xs : List CallerValue) (t : TokenValue) (front : List Event) → HoldsEach g xs
    → AreBetweenCalls xs → AreClosedBy g xs t
    → ((i : ℕ) (d : CallerValue) → i < length xs → IsPrefix (front_of (get_or xs i d)) front)
    → IsPrefix front t.view.front → front ≡ t.view.front
gathered_whole g xs t front h between z met begins =
    whole_front front t.view.front begins (no_longer g xs t h z (length front) (lasts_within front xs between met))

-- the first caller, which had met all others, read a graph
pub read_between : (xs ys : List CallerValue) (a b : CallerValue) (g : Graph) → 0 < length xs → LookOnEach xs ys
    → ((i : ℕ) → i < length xs → FirstHasMet xs ys i) → ((d : CallerValue) → get_or ys 0 d ≡ b) → LooksOn b a
    → (front_of a ≡ front_of b → g ≡ graph_of (front_of b)) → IsReadBetween xs (set ys 0 a) g
read_between xs ys a b g some looks met at later graph =
    let room : 0 < length ys = let n = looks.count in omega (arith, some, n) in
    let first : (d : CallerValue) → get_or (set ys 0 a) 0 d ≡ a = λ d. get_or-set_same ys 0 a d room in
    record {
      front = front_of b;
      met = λ i d low. subst (λ (c : CallerValue). IsPrefix (front_of (get_or xs i d)) (front_of c)) (at d)
          (met i low d d);
      begins = λ d. subst (λ (c : CallerValue). IsPrefix (front_of b) (front_of c)) (sym (first d)) later.grows;
      graph = λ d same. graph (ap front_of (sym (first d)) ∙ same);
    }

-- the front of a caller that was joined begins the front of the token
joined_seen : (v : View) (zs : List CallerValue) → Every (IsJoined v) zs → (i : ℕ) (d : CallerValue) → i < length zs
    → IsPrefix (front_of (get_or zs i d)) v.front
joined_seen v [] all i d low = absurd (omega (arith, low))
joined_seen v (z ∷ zs) all zero d low = all.0.seen
joined_seen v (z ∷ zs) all (suc i) d low = joined_seen v zs all.1 i d (omega (arith, low))

-- between one list and a second that begin each other there's no third
between_same : (xs ys zs : List Event) → IsPrefix xs ys → IsPrefix ys zs → xs ≡ zs → ys ≡ xs
between_same xs ys zs p q is =
    let n = prefix_length xs ys p in
    let m = ap length is in
    whole_front ys zs q (omega (arith, n, m)) ∙ sym is

-- the callers that were handed in have ended, and what was read is the graph of the whole journal
pub closed_as : (g : TableValue) (xs zs : List CallerValue) (t : TokenValue) (x : Graph) → 0 < length xs
    → HoldsEach g xs → AreBetweenCalls xs → LookOnEach xs zs → IsReadBetween xs zs x → AreClosedBy g zs t
    → IsClosedAs g xs x
closed_as g xs zs t x some h between looks r z =
    let old = closed_before g xs zs t looks between z in
    let d : CallerValue = item xs some in
    let first = joined_seen t.view zs z.joined 0 d (let n = looks.count in omega (arith, some, n)) in
    let begins = prefix_trans r.front (front_of (get_or zs 0 d)) t.view.front (r.begins d) first in
    let is : r.front ≡ t.view.front = gathered_whole g xs t r.front h between old r.met begins in
    let still : front_of (get_or zs 0 d) ≡ r.front = between_same r.front (front_of (get_or zs 0 d)) t.view.front
    (r.begins d) first is in
    record { journal = t.view.front; ended = ended g xs t h old; graph = r.graph d still ∙ ap graph_of is }
  where
    item : (ys : List CallerValue) → 0 < length ys → CallerValue
    item [] low = absurd (omega (arith, low))
    item (y ∷ ys) low = y

-- all callers of a graph are some
pub some_callers : (g : TableValue) (xs : List CallerValue) → 0 < g.sizes.callers → HoldsEach g xs → 0 < length xs
some_callers g [] some h = absurd (h.each 0 some)
some_callers g (x ∷ xs) some h = omega arith

-- what a `Vec` holds after its whole slice was lent
pub lent_back : (n : ℕ) (zs ys : List CallerValue) → length zs ≡ n → take n (zs ++ ys) ≡ zs
lent_back n zs ys e = rw (← e) (take-append_seam zs ys)
