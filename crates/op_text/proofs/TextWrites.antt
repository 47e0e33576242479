-- How the parts of a text that are given to a sink add up.
use Rattle.std.proofs.Common.{◌≡◌, ℕ, ◌+◌, ◌-◌, List, [], ◌++◌, length, take, drop, sym, subst, arith, length-append}
use Rattle.std.proofs.Common.{length-drop, take_all, take-add}
use Rattle.std.specs.Prelude.{Option, Result, Ok, Err, IsErr}
use Rattle.std.proofs.lemmas.List.{take-append-le}
use Rattle.std.proofs.Math.Seq.{take-append-add}
use Rattle.graph_kinds.specs.Stream.{Puts, PutsSome}
use Rattle.graph_kinds.proofs.Bytes.{puts-none, puts-more, rose-since}
use Rattle.op_text.specs.Gives.{Gives}

-- the first part whole, and some of the second
pub puts_some-more : (a b c : Option (List ℕ)) (xs ys : List ℕ) → Puts a b xs → PutsSome b c ys → PutsSome a c
    (xs ++ ys)
puts_some-more a b c xs ys p (n, le, q) = (
  length xs + n,
  omega (arith, length-append xs ys),
  rw (take-append-add xs ys n)
      (puts-more a b c xs (take n ys) p q),
)

-- some of the first part
pub puts_some-front : (a b : Option (List ℕ)) (xs ys : List ℕ) → PutsSome a b xs → PutsSome a b (xs ++ ys)
puts_some-front a b xs ys (n, le, p) =
    let front : take n (xs ++ ys) ≡ take n xs = take-append-le n xs ys le in
    (n, omega (arith, length-append xs ys), rw front p)

module _ {K : Type 0} {E : Type 0} {taken : K → Option (List ℕ)} {faults : K → ℕ} where
  -- nothing yet
  pub gives-none : (old : K) → Gives {E = E} taken faults old old [] (Ok tt)
  gives-none old = record { ok = puts-none (taken old); prefix = tt; rose = tt; later = omega arith }

  -- the second part after the first
  pub gives-then : {old mid new : K} {xs ys : List ℕ} {r : Result (Unit {0}) E} → Gives {E = E} taken faults old mid xs
      (Ok tt) → Gives taken faults mid new ys r → Gives taken faults old new (xs ++ ys) r
  gives-then {old = a} {mid = b} {new = c} {xs = xs} {ys = ys} {r = Ok u} p q =
      record {
        ok = puts-more (taken a) (taken b) (taken c) xs ys p.ok q.ok;
        prefix = tt;
        rose = tt;
        later = omega
            (arith, p.later, q.later);
      }
  gives-then {old = a} {mid = b} {new = c} {xs = xs} {ys = ys} {r = Err e} p q = record {
    ok = tt;
    prefix = puts_some-more (taken a) (taken b) (taken c) xs ys p.ok q.prefix;
    rose = rose-since (faults a) (faults b) (faults c) p.later q.rose;
    later = omega (arith, p.later, q.later);
  }

  -- the first part failed, so the rest wasn't tried
  pub gives-stop : {old new : K} {xs : List ℕ} {e : E} {r : Result (Unit {0}) E} (ys : List ℕ) → IsErr r
      → Gives taken faults old new xs (Err e) → Gives taken faults old new (xs ++ ys) r
  gives-stop {r = Ok u} ys h p = cc
  gives-stop {old = a} {new = b} {xs = xs} {r = Err d} ys h p =
      record { ok = tt; prefix = puts_some-front (taken a) (taken b) xs ys p.prefix; rose = p.rose; later = p.later }

  -- the same text, said otherwise
  pub gives-as : {old new : K} {xs ys : List ℕ} {r : Result (Unit {0}) E} → xs ≡ ys → Gives taken faults old new xs r
      → Gives taken faults old new ys r
  gives-as {old = a} {new = b} {r = r} e p = subst (λ (zs : List ℕ). Gives {E = E} taken faults a b zs r) e p

-- n more bytes of a text
pub take-more : (done n : ℕ) (text : List ℕ) → take done text ++ take n
    (take (length text - done) (drop done text)) ≡ take (done + n) text
take-more done n text =
    let whole : take (length text - done) (drop done text) ≡ drop done text = take_all (length text - done)
    (drop done text) (omega (arith, length-drop done text)) in
    rw whole (sym (take-add done n text))
