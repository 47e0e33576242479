-- What is known when the tokens of all callers were joined and their table was closed.
use Rattle.std.proofs.Common.{◌≡◌, ◌⊎◌, ℕ, ◌<◌, ◌≤◌, Bool, true, false, cond, List, [], ◌∷◌, ◌++◌}
use Rattle.std.proofs.Common.{Some, length, length-append, map, inl, inr, refl, sym, ap, ◌∙◌, subst, arith}
use Rattle.std.proofs.Common.{append_assoc, append-nil, ⊎_elim}
use Rattle.std.specs.Prelude.{slice_get}
use Rattle.std.proofs.lemmas.Bool.{cases_lt}
use Rattle.graph_kinds.specs.History.{Every}
use Rattle.packed_link.specs.Layout.{Sizes, IsLayout}
use Rattle.core_journal.specs.declared.event.Event.{Event}
use Rattle.core_journal.specs.History.{HasBook}
use Rattle.core_journal.specs.Prefix.{IsPrefix}
use Rattle.core_journal.specs.Right.{IsBookOf}
use Rattle.core_journal.proofs.Laws.{history_legal}
use Rattle.core_journal.proofs.Lists.{prefix_length, prefix_trans, prefix_refl, every_append, get_here}
use Rattle.core_journal.proofs.Onward.{book_more}
use Rattle.core_kept.specs.Kept.{IsKept, IsQuiet}
use Rattle.core_kept.proofs.Callers.{called}
use Rattle.core_kept.proofs.FirstWords.{numbers}
use Rattle.core_lists.proofs.EffectOfKinds.{regular}
use Rattle.core_rule.specs.Plays.{Met, both_fronts}
use Rattle.core_rule.specs.Rule.{AnswersForCallers, HasAccount, accounts, own_account}
use Rattle.core_rule.specs.declared.view.View.{View}
use Rattle.graph_table.specs.Tokens.{TableValue, TokenValue, IsOf}
use Rattle.shared_graph.specs.Callers.{CallerValue, HasAllOf, HasCaller, HoldsEach, IsBetweenCalls, IsCallerOf, IsEnded}
use Rattle.shared_graph.specs.Callers.{IsFrontOfOne, book_in, front_of}
use Rattle.shared_graph.specs.Joining.{AreClosedBy, HasThisAccount, IsJoined}

-- the account of a caller
abbrev account_of : CallerValue → ℕ × ℕ
account_of c = (c.hand.token.view.number, c.hand.token.view.last)

in_left : (a : ℕ × ℕ) (xs ys : List (ℕ × ℕ)) → HasThisAccount xs a → HasThisAccount (xs ++ ys) a
in_left a [] ys h = absurd h
in_left a (x ∷ xs) ys h = ⊎_elim (λ (e : x ≡ a). inl e) (λ (k : HasThisAccount xs a). inr (in_left a xs ys k)) h

in_right : (a : ℕ × ℕ) (xs ys : List (ℕ × ℕ)) → HasThisAccount ys a → HasThisAccount (xs ++ ys) a
in_right a [] ys h = h
in_right a (x ∷ xs) ys h = inr (in_right a xs ys h)

-- what holds of each account of a list holds of one that stands in it
one_of : (P : ℕ × ℕ → Type 0) (a : ℕ × ℕ) (xs : List (ℕ × ℕ)) → Every P xs → HasThisAccount xs a → P a
one_of P a [] all h = absurd h
one_of P a (x ∷ xs) all h = ⊎_elim (λ (e : x ≡ a). subst P e all.0)
    (λ (k : HasThisAccount xs a). one_of P a xs all.1 k) h

has_account : (a : ℕ × ℕ) (number : ℕ) (xs : List (ℕ × ℕ)) → a.0 ≡ number → HasThisAccount xs a
    → HasAccount xs number
has_account a number [] is h = absurd h
has_account a number (x ∷ xs) is h = ⊎_elim (λ (e : x ≡ a). inl (ap (λ (y : ℕ × ℕ). y.0) e ∙ is))
    (λ (k : HasThisAccount xs a). inr (has_account a number xs is k)) h

-- after a join the accounts are those of both tokens
joined_accounts : (v w u : View) → Met (both_fronts v w) u → accounts u ≡ accounts v ++ accounts w
joined_accounts v w u m = ap accounts m.view ∙ sym (append_assoc (own_account v) v.others (accounts w))

own_in : (v : View) → v.numbered ≡ true → HasThisAccount (accounts v) (v.number, v.last)
own_in v has = by v.numbered has
  where
    by : (b : Bool) → b ≡ true → HasThisAccount (cond b ((v.number, v.last) ∷ []) [] ++ v.others) (v.number, v.last)
    by true e = inl refl
    by false e = absurd (cc)

pub joined_self : (c : CallerValue) → IsBetweenCalls c.hand → IsJoined c.hand.token.view c
joined_self c b = record {
  between = b;
  seen = prefix_refl (front_of c);
  account = own_in c.hand.token.view b.hand.numbered;
}

-- what was joined is joined still after another join
pub joined_on : (v w u : View) → Met (both_fronts v w) u → (c : CallerValue) → IsJoined v c → IsJoined u c
joined_on v w u m c j = record {
  between = j.between;
  seen = prefix_trans (front_of c) v.front u.front j.seen m.grows;
  account = subst (λ (xs : List (ℕ × ℕ)). HasThisAccount xs (account_of c)) (sym (joined_accounts v w u m))
      (in_left (account_of c) (accounts v) (accounts w) j.account);
}

all_joined_on : (v w u : View) → Met (both_fronts v w) u → (cs : List CallerValue) → Every (IsJoined v) cs
    → Every (IsJoined u) cs
all_joined_on v w u m [] all = tt
all_joined_on v w u m (c ∷ cs) all = (joined_on v w u m c all.0, all_joined_on v w u m cs all.1)

-- and so is the one that was joined last
joined_last : (v u : View) (k : CallerValue) → IsBetweenCalls k.hand → Met (both_fronts v k.hand.token.view) u
    → IsJoined u k
joined_last v u k b m = record {
  between = b;
  seen = m.met;
  account = subst (λ (xs : List (ℕ × ℕ)). HasThisAccount xs (account_of k))
      (sym (joined_accounts v k.hand.token.view u m))
      (in_right (account_of k) (accounts v) (accounts k.hand.token.view) (own_in k.hand.token.view b.hand.numbered));
}

pub joined_more : (v u : View) (k : CallerValue) (cs : List CallerValue) → Every (IsJoined v) cs
    → IsBetweenCalls k.hand → Met (both_fronts v k.hand.token.view) u → Every (IsJoined u) (cs ++ k ∷ [])
joined_more v u k cs all b m = every_append (IsJoined u) cs (k ∷ [])
    (all_joined_on v k.hand.token.view u m cs all) (joined_last v u k b m, tt)

answers_each : (v : View) (number : ℕ) (cs : List CallerValue) → Every (IsJoined v) cs → HasCaller cs number
    → HasAccount (accounts v) number
answers_each v number [] all h = absurd h
answers_each v number (c ∷ cs) all h = ⊎_elim
    (λ (e : c.hand.token.view.number ≡ number). has_account (account_of c) number (accounts v) e all.0.account)
    (λ (l : HasCaller cs number). answers_each v number cs all.1 l) h

-- the token accounts for each caller
pub answers_all : (g : TableValue) (v : View) (cs : List CallerValue) → v.sizes ≡ g.sizes → Every (IsJoined v) cs
    → HoldsEach g cs → AnswersForCallers v
answers_all g v cs sizes all h = record {
  each = λ n low. answers_each v n cs all
      (h.each n (let e = ap (λ (z : Sizes). z.callers) sizes in omega (arith, low, e)));
}

-- what holds of all of a list holds of its last one
pub every_last : (P : CallerValue → Type 0) (cs : List CallerValue) (k : CallerValue) → Every P (cs ++ k ∷ []) → P k
every_last P [] k all = all.0
every_last P (c ∷ cs) k all = every_last P cs k all.1

-- the token of a caller between two calls is one of its table
pub token_of : (g : TableValue) (c : CallerValue) (t : TokenValue) → IsCallerOf g c → IsBetweenCalls c.hand
    → t ≡ c.hand.token → IsOf g t
token_of g c t home b is = subst (λ (x : TokenValue). IsOf g x) (sym is)
    (subst (λ (x : TableValue). IsOf x c.hand.token) home b.hand.of)

-- a front that is no shorter than the journal is the journal
pub whole_front : (front journal : List Event) → IsPrefix front journal → length journal ≤ length front
    → front ≡ journal
whole_front front journal p le = by p.rest p.whole
  where
    by : (rest : List Event) → front ++ rest ≡ journal → front ≡ journal
    by [] is = sym (append-nil front) ∙ is
    by (e ∷ es) is = let n = ap length is in absurd (omega (arith, n, length-append front (e ∷ es), le))

-- a journal has a last event
record HasEnd (journal : List Event) : Type 0 where
  past : List Event
  event : Event
  is : journal ≡ past ++ event ∷ []

-- a journal is empty, or it has a last event
ends : (journal : List Event) → (journal ≡ []) ⊎ HasEnd journal
ends [] = inl refl
ends (e ∷ es) = inr (⊎_elim
    (λ (none : es ≡ []). record { past = []; event = e; is = ap (λ (l : List Event). e ∷ l) none })
    (λ (h : HasEnd es). record { past = e ∷ h.past; event = h.event; is = ap (λ (l : List Event). e ∷ l) h.is })
    (ends es))

-- the callers of a closed table
module _ (g : TableValue) (cs : List CallerValue) (t : TokenValue) (h : HoldsEach g cs) (z : AreClosedBy g cs t) where
  abbrev v : View
  v = t.view

  layout : IsLayout g.sizes
  layout = subst IsLayout z.of.sizes z.of.layout

  kept : IsKept g.sizes v.front
  kept = subst (λ (s : Sizes). IsKept s v.front) z.of.sizes z.of.sound.kept

  quiet_of : (c : CallerValue) → IsJoined v c → IsQuiet v.front c.hand.token.view.number c.hand.token.view.last
  quiet_of c j = one_of (λ (a : ℕ × ℕ). IsQuiet v.front a.0 a.1) (account_of c) (accounts v) z.whole.quiet j.account

  -- each event of the journal is one of a caller
  has_caller : (k : ℕ) (e : Event) → slice_get v.front k ≡ Some e → HasCaller cs e.caller
  has_caller k e at = h.each e.caller
      (let by = called g.sizes v.front kept k e at in
      let room = (numbers g.sizes v.front kept).room in
      omega (arith, by, room))

  -- the book of a caller is true of the whole journal
  book_whole : (c : CallerValue) → IsCallerOf g c → IsJoined v c → IsBookOf g.sizes v.front (book_in c)
  book_whole c home j =
      let w = c.hand.token.view in
      let quiet = quiet_of c j in
      let old = j.between.hand.of.sound.old j.between.hand.numbered in
      let book = book_more w.sizes w.front j.seen.rest (book_in c) j.between.order.book
      (λ p e far at by. absurd (quiet.none p e (omega (arith, far, old))
      (subst (λ (l : List Event). slice_get l p ≡ Some e) j.seen.whole at) by)) in
      subst (λ (x : TableValue). IsBookOf x.sizes v.front (book_in c)) home
      (subst (λ (l : List Event). IsBookOf w.sizes l (book_in c)) j.seen.whole book)

  books_whole : (ds : List CallerValue) → Every (IsCallerOf g) ds → Every (IsJoined v) ds
      → Every (IsBookOf g.sizes v.front) (map book_in ds)
  books_whole [] home all = tt
  books_whole (d ∷ ds) home all = (book_whole d home.0 all.0, books_whole ds home.1 all.1)

  fronts_seen : (ds : List CallerValue) → Every (IsJoined v) ds
      → Every (λ (c : CallerValue). IsPrefix (front_of c) v.front) ds
  fronts_seen [] all = tt
  fronts_seen (d ∷ ds) all = (all.0.seen, fronts_seen ds all.1)

  has_all : (ds : List CallerValue) → Every (IsJoined v) ds → Every (HasAllOf v.front) ds
  has_all [] all = tt
  has_all (d ∷ ds) all =
      let old = all.0.between.hand.of.sound.old all.0.between.hand.numbered in
      let n = prefix_length (front_of d) v.front all.0.seen in (
        record { last = omega (arith, old, n); quiet = quiet_of d all.0 },
        has_all ds all.1,
      )

  has_book : (number : ℕ) (ds : List CallerValue) → HasCaller ds number → HasBook number (map book_in ds)
  has_book number [] l = absurd l
  has_book number (d ∷ ds) l = ⊎_elim (λ (e : d.hand.token.view.number ≡ number). inl e)
      (λ (k : HasCaller ds number). inr (has_book number ds k)) l

  -- the journal ends at the last event of the caller of its last event
  ends_at_last : (d : HasEnd v.front) (c : CallerValue) → IsJoined v c → c.hand.token.view.number ≡ d.event.caller
      → length v.front ≤ c.hand.token.view.last
  ends_at_last d c j is =
      let at : slice_get v.front (length d.past) ≡ Some d.event = subst
      (λ (l : List Event). slice_get l (length d.past) ≡ Some d.event) (sym d.is) (get_here d.past d.event []) in
      let quiet = quiet_of c j in
      let n = ap length d.is in
      let m = length-append d.past (d.event ∷ []) in
      ⊎_elim (λ (far : length d.past < c.hand.token.view.last). omega (arith, far, n, m))
      (λ (low : c.hand.token.view.last ≤ length d.past).
      absurd (quiet.none (length d.past) d.event low at (sym is)))
      (cases_lt (length d.past) c.hand.token.view.last)

  -- a bound that the last event of each caller keeps is one of the whole journal
  one_long : (bound number : ℕ) (ds : List CallerValue)
      → ((c : CallerValue) → IsJoined v c → c.hand.token.view.number ≡ number → length v.front
      ≤ c.hand.token.view.last)
      → Every (IsJoined v) ds → Every (λ (c : CallerValue). c.hand.token.view.last ≤ bound) ds
      → HasCaller ds number → length v.front ≤ bound
  one_long bound number [] long all within l = absurd l
  one_long bound number (d ∷ ds) long all within l = ⊎_elim
      (λ (e : d.hand.token.view.number ≡ number).
      let far = long d all.0 e in let low = within.0 in omega (arith, far, low))
      (λ (k : HasCaller ds number). one_long bound number ds long all.1 within.1 k) l

  last_at : (d : HasEnd v.front) → slice_get v.front (length d.past) ≡ Some d.event
  last_at d = subst (λ (l : List Event). slice_get l (length d.past) ≡ Some d.event) (sym d.is)
      (get_here d.past d.event [])

  pub no_longer : (bound : ℕ) → Every (λ (c : CallerValue). c.hand.token.view.last ≤ bound) cs
      → length v.front ≤ bound
  no_longer bound within = ⊎_elim
      (λ (none : v.front ≡ []). let n = ap length none in omega (arith, n))
      (λ (d : HasEnd v.front). one_long bound d.event.caller cs (ends_at_last d) z.joined within
      (has_caller (length d.past) d.event (last_at d)))
      (ends v.front)

  -- the front of a caller whose last event is the journal's last is the journal
  one_is : (number : ℕ) (ds : List CallerValue)
      → ((c : CallerValue) → IsJoined v c → c.hand.token.view.number ≡ number → length v.front
      ≤ length (front_of c))
      → Every (IsJoined v) ds → HasCaller ds number → IsFrontOfOne ds v.front
  one_is number [] long all l = absurd l
  one_is number (d ∷ ds) long all l = ⊎_elim
      (λ (e : d.hand.token.view.number ≡ number).
      inl (whole_front (front_of d) v.front all.0.seen (long d all.0 e)))
      (λ (k : HasCaller ds number). inr (one_is number ds long all.1 k)) l

  longest : IsFrontOfOne cs v.front
  longest = ⊎_elim
      (λ (none : v.front ≡ []).
      let n = ap length none in
      one_is 0 cs (λ c j is. omega (arith, n)) z.joined
      (h.each 0 (let some = layout.some_callers in omega (arith, some))))
      (λ (d : HasEnd v.front). one_is d.event.caller cs
      (λ c j is.
      let far = ends_at_last d c j is in
      let old = j.between.hand.of.sound.old j.between.hand.numbered in
      omega (arith, far, old))
      z.joined (has_caller (length d.past) d.event (last_at d)))
      (ends v.front)

  pub ended : IsEnded g cs v.front
  ended =
      let books = books_whole cs h.home z.joined in
      record {
        longest = longest;
        seen = fronts_seen cs z.joined;
        whole = has_all cs z.joined;
        regular = regular g.sizes layout v.front kept;
        books = books;
        closed = record { has = λ p e at turns. has_book e.caller cs (has_caller p e at) };
        legal = history_legal g.sizes v.front (map book_in cs) (regular g.sizes layout v.front kept) h.apart books;
      }
