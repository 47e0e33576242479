-- How what is known of a port grows with each call that it answers.
use Rattle.std.proofs.Common.{◌≡◌, ◌≢◌, ℕ, ◌+◌, ◌<◌, ◌≤◌, false, List, [], ◌∷◌, ◌++◌, length, map, take, drop, get_or}
use Rattle.std.proofs.Common.{All, refl, sym, ap, ◌∙◌, subst, inl, inr, arith, append_assoc, append-nil}
use Rattle.std.proofs.Common.{length-append, eq-zero-or-pos, take_all, take-append-drop, take-suc, add-one}
use Rattle.std.proofs.Common.{drop_of_length-le, rules}
use Rattle.std.proofs.lemmas.List.{map-append, take-append-le, drop-append-le}
use Rattle.std.proofs.lemmas.List.Elements.{All-append, All-nil, All-cons, filter-append}
use Rattle.std.specs.List.{zip}
use Rattle.std.specs.Prelude.{Bool, filter, not}
use Rattle.std.proofs.Common.{Result, Ok, Err, OnOk, IfOk}
use Rattle.std.specs.Result.{is_err}
use Rattle.graph_kinds.specs.declared.call.Call.{Call}
use Rattle.graph_kinds.specs.declared.outcome.Outcome.{Outcome}
use Rattle.graph_kinds.specs.declared.outcome.Outcome.TheVariants.{Worn}
use Rattle.graph_kinds.specs.declared.entry.Entry.{Entry}
use Rattle.graph_kinds.specs.declared.answer.Answer.{Answer}
use Rattle.graph_kinds.specs.Answer.{plain}
use Rattle.caller_run.specs.Asked.{HasAnsweredAll, HasAnsweredSome, is_worn, unworn, asked_in}
use Rattle.caller_run.specs.Lanes.{HasAnsweredOne}

-- two lists of one length, each with one more
pub zip-snoc : {A B : Type 0} (xs : List A) (ys : List B) (x : A) (y : B) → length ys ≡ length xs
    → zip (xs ++ x ∷ []) (ys ++ y ∷ []) ≡ zip xs ys ++ (x, y) ∷ []
zip-snoc [] [] x y e = refl
zip-snoc [] (b ∷ ys) x y e = absurd (omega arith)
zip-snoc (a ∷ xs) [] x y e = absurd (omega arith)
zip-snoc (a ∷ xs) (b ∷ ys) x y e = ap (λ l. (a, b) ∷ l) (zip-snoc xs ys x y (omega arith))

-- an answer is another than Worn, or is Worn without keys
abbrev IsAnswered : Answer → Type 0
IsAnswered r = r.outcome ≢ Worn

abbrev IsWorn : Answer → Type 0
IsWorn r = r ≡ plain Worn

-- whether a call is answered otherwise than Worn
abbrev is_other : Call × Answer → Bool
is_other p = not (is_worn p.1.outcome)

-- an outcome that isn't Worn
not_worn : (o : Outcome) → o ≢ Worn → is_worn o ≡ false
not_worn o n = grind arith

-- one more call that is answered Worn
unworn-worn : (calls : List Call) (replies : List Answer) (c : Call) → length replies ≡ length calls
    → unworn (calls ++ c ∷ []) (replies ++ plain Worn ∷ []) ≡ unworn calls replies
unworn-worn calls replies c e =
    ap (filter is_other) (zip-snoc calls replies c (plain Worn) e)
    ∙ filter-append is_other (zip calls replies) ((c, plain Worn) ∷ [])
    ∙ append-nil (unworn calls replies)

-- one more call that is answered otherwise
unworn-more : (calls : List Call) (replies : List Answer) (c : Call) (a : Answer) → length replies ≡ length calls
    → a.outcome ≢ Worn → unworn (calls ++ c ∷ []) (replies ++ a ∷ []) ≡ unworn calls replies ++ (c, a) ∷ []
unworn-more calls replies c a e n =
    let one : filter is_other ((c, a) ∷ []) ≡ (c, a) ∷ [] =
    rw (not_worn a.outcome n) refl in
    ap (filter is_other) (zip-snoc calls replies c a e)
    ∙ filter-append is_other (zip calls replies) ((c, a) ∷ [])
    ∙ ap (λ l. unworn calls replies ++ l) one

-- what holds of one element holds of each of a list of it alone
of_one : {X : Type 0} (P : X → Type 0) (x : X) → P x → All P (x ∷ [])
of_one P x p = All-cons P x [] p (All-nil P)

module _ {X : Type 0} (book : X → List Entry) (left front : X → ℕ) where
  -- a port has answered all these calls, and where a use is left it has entered each
  pub record Driven (old now : X) (tries : ℕ) (calls : List Call) (replies : List Answer) : Type 0 where
    pub all : HasAnsweredAll book left front old now tries calls replies
    pub at_most : length all.some.gained ≤ length calls
    pub full : 0 < left now → length all.some.gained ≡ length calls

  -- it has answered none
  pub driven-none : (p : X) (tries : ℕ) → Driven p p tries [] []
  driven-none p tries = record {
    all = record {
      some = record {
        gained = [];
        grown = sym (append-nil (book p));
        asked = refl;
        given = All-nil (λ (e : Entry). e.tries ≡ tries);
        within = All-nil (λ (e : Entry). (front p ≤ e.start) × (e.end ≤ front p));
        used = omega arith;
        later = omega arith;
      };
      one_each = refl;
      entered = refl;
      in_time = search rules;
      worn = search rules;
    };
    at_most = omega arith;
    full = λ h. refl;
  }

  -- one more call, which is answered Worn
  driven-worn : (p q r : X) (tries : ℕ) (calls : List Call) (replies : List Answer) (c : Call) (a : Answer)
      → Driven p q tries calls replies → HasAnsweredOne book left front q r c tries a → left q ≡ 0
      → Driven p r tries (calls ++ c ∷ []) (replies ++ a ∷ [])
  driven-worn p q r tries calls replies c a d one z =
      let s = d.all.some in
      let stays = one.worn z in
      let later = one.later in
      let same : a ≡ plain Worn = stays.0 in
      let each = d.all.one_each in
      let enough : left p ≤ length replies = (let u = s.used in let m = d.at_most in omega arith) in
      record {
        all = record {
          some = record {
            gained = s.gained;
            grown = stays.1 ∙ s.grown;
            asked = s.asked ∙ sym (take-append-le (length s.gained) calls (c ∷ []) d.at_most);
            given = s.given;
            within = λ k e lt. (omega (arith, s.within k e lt), omega (arith, later, s.within k e lt));
            used = (let u = s.used in let v = stays.2 in omega arith);
            later = (let l = s.later in omega arith);
          };
          one_each = omega (arith, length-append replies (a ∷ []), length-append calls (c ∷ []));
          entered = d.all.entered ∙ sym (unworn-worn calls replies c each)
              ∙ ap (λ (x : Answer). unworn (calls ++ c ∷ []) (replies ++ x ∷ [])) (sym same);
          in_time = subst (All IsAnswered) (sym (take-append-le (left p) replies (a ∷ []) enough)) d.all.in_time;
          worn = subst (All IsWorn) (sym (drop-append-le (left p) replies (a ∷ []) enough))
              (All-append IsWorn (drop (left p) replies) (a ∷ []) d.all.worn (of_one IsWorn a same));
        };
        at_most = (let m = d.at_most in omega (arith, length-append calls (c ∷ [])));
        full = λ h. absurd (let v = stays.2 in omega arith);
      }

  -- one more call, which is entered
  driven-more : (p q r : X) (tries : ℕ) (calls : List Call) (replies : List Answer) (c : Call) (a : Answer)
      → Driven p q tries calls replies → HasAnsweredOne book left front q r c tries a → 0 < left q
      → Driven p r tries (calls ++ c ∷ []) (replies ++ a ∷ [])
  driven-more p q r tries calls replies c a d one some =
      let s = d.all.some in
      let each = d.all.one_each in
      let falls = one.in_time some in
      let later = one.later in
      let g = one.entered some in
      let full = d.full some in
      let few : length replies < left p = (let u = s.used in omega arith) in
      let longer : length (replies ++ a ∷ []) ≡ length (calls ++ c ∷ []) =
      omega (arith, length-append replies (a ∷ []), length-append calls (c ∷ [])) in
      let more : length (s.gained ++ g.entry ∷ []) ≡ length (calls ++ c ∷ []) =
      omega (arith, length-append s.gained (g.entry ∷ []), length-append calls (c ∷ [])) in
      let within : length (replies ++ a ∷ []) ≤ left p = omega (arith, length-append replies (a ∷ [])) in
      record {
        all = record {
          some = record {
            gained = s.gained ++ g.entry ∷ [];
            grown = g.added ∙ ap (λ b. b ++ g.entry ∷ []) s.grown ∙ append_assoc (book p) s.gained (g.entry ∷ []);
            asked =
                let before : map (λ (e : Entry). e.call) s.gained ≡ calls =
                s.asked ∙ take_all (length s.gained) calls (omega arith) in
                map-append (λ (e : Entry). e.call) s.gained (g.entry ∷ [])
                ∙ ap (λ l. l ++ g.entry.call ∷ []) before ∙ ap (λ x. calls ++ x ∷ []) g.asked
                ∙ sym (take_all (length (s.gained ++ g.entry ∷ [])) (calls ++ c ∷ []) (omega arith));
            given = All-append (λ (e : Entry). e.tries ≡ tries) s.gained (g.entry ∷ []) s.given
                (of_one (λ (e : Entry). e.tries ≡ tries) g.entry g.given);
            within = All-append (λ (e : Entry). (front p ≤ e.start) × (e.end ≤ front r)) s.gained (g.entry ∷ [])
                (λ k e lt. (omega (arith, s.within k e lt), omega (arith, later, s.within k e lt)))
                (of_one (λ (e : Entry). (front p ≤ e.start) × (e.end ≤ front r)) g.entry
                (let l = s.later in let b = g.started in omega arith, let l = g.ended in omega arith));
            used = (let u = s.used in let v = falls.1 in omega (arith, length-append s.gained (g.entry ∷ [])));
            later = (let l = s.later in omega arith);
          };
          one_each = longer;
          entered =
              let last : asked_in g.entry ≡ (c, a) = (let e = g.asked in let f = g.answered in cc) in
              map-append asked_in s.gained (g.entry ∷ [])
              ∙ ap (λ l. l ++ asked_in g.entry ∷ []) d.all.entered ∙ ap (λ x. unworn calls replies ++ x ∷ []) last
              ∙ sym (unworn-more calls replies c a each falls.0);
          in_time = subst (All IsAnswered) (sym (take_all (left p) (replies ++ a ∷ []) (omega arith)))
              (All-append IsAnswered replies (a ∷ [])
              (subst (All IsAnswered) (take_all (left p) replies (omega arith)) d.all.in_time)
              (of_one IsAnswered a falls.0));
          worn = subst (All IsWorn) (sym (drop_of_length-le (replies ++ a ∷ []) {i = left p} within))
              (All-nil IsWorn);
        };
        at_most = omega arith;
        full = λ h. more;
      }

  -- one more call
  pub driven-step : (p q r : X) (tries : ℕ) (calls : List Call) (replies : List Answer) (c : Call) (a : Answer)
      → Driven p q tries calls replies → HasAnsweredOne book left front q r c tries a
      → Driven p r tries (calls ++ c ∷ []) (replies ++ a ∷ [])
  driven-step p q r tries calls replies c a d one =
      elim (eq-zero-or-pos (left q)) [
        | inl z ↦ driven-worn p q r tries calls replies c a d one z
        | inr some ↦ driven-more p q r tries calls replies c a d one some
      ]

  -- some of the calls, where more were to come
  pub some-of-more : (p q : X) (tries : ℕ) (calls more : List Call)
      (s : HasAnsweredSome book left front p q tries calls)
      → length s.gained ≤ length calls → HasAnsweredSome book left front p q tries (calls ++ more)
  some-of-more p q tries calls more s few = record {
    gained = s.gained;
    grown = s.grown;
    asked = s.asked ∙ sym (take-append-le (length s.gained) calls more few);
    given = s.given;
    within = s.within;
    used = s.used;
    later = s.later;
  }

  -- the calls before one of them, and this one
  pub driven-next : (p q r : X) (tries k : ℕ) (calls : List Call) (e : Call) (replies : List Answer) (a : Answer)
      → Driven p q tries (take k calls) replies → k < length calls
      → HasAnsweredOne book left front q r (get_or calls k e) tries a
      → Driven p r tries (take (k + 1) calls) (replies ++ a ∷ [])
  driven-next p q r tries k calls e replies a d lt one =
      subst (λ (cs : List Call). Driven p r tries cs (replies ++ a ∷ [])) (sym (rw add-one (take-suc calls k e lt)))
      (driven-step p q r tries (take k calls) replies (get_or calls k e) a d one)

  -- the first of the calls are some of all
  pub driven-some : (p q : X) (tries k : ℕ) (calls : List Call) (replies : List Answer)
      → Driven p q tries (take k calls) replies → HasAnsweredSome book left front p q tries calls
  driven-some p q tries k calls replies d =
      subst (λ (cs : List Call). HasAnsweredSome book left front p q tries cs) (take-append-drop k calls)
      (some-of-more p q tries (take k calls) (drop k calls) d.all.some d.at_most)

-- what holds where a result is Ok
pub on_ok : {T E : Type 0} (r : Result T E) (P : Type 0) → is_err r ≡ false → OnOk r P → P
on_ok (Ok x) P e h = h
on_ok (Err x) P e h = cc

-- what follows where a result is Ok
pub if_ok_by : {T E : Type 0} (P Q : T → Type 0) (r : Result T E) → ((v : T) → P v → Q v) → IfOk r P → IfOk r Q
if_ok_by P Q (Ok x) f h = f x h
if_ok_by P Q (Err x) f h = h

-- a port that was asked nothing
pub some-none : {X : Type 0} (book : X → List Entry) (left front : X → ℕ) (p : X) (tries : ℕ) (calls : List Call)
    → HasAnsweredSome book left front p p tries calls
some-none book left front p tries calls =
    driven-some book left front p p tries 0 calls [] (driven-none book left front p tries)
