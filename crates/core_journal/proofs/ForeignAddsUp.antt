-- Foreign events add up, and none is lost where the journal grows.
use Rattle.std.proofs.Common.{◌≡◌, ◌≢◌, ℕ, zero, suc, ◌+◌, ◌<◌, ◌≤◌, Bool, true, false, not, ◌&&◌, ◌==◌, cond, List, []}
use Rattle.std.proofs.Common.{◌∷◌, ◌++◌, length, take, drop, filter, Some, refl, sym, ap, ap₂, ◌∙◌, subst, arith}
use Rattle.std.proofs.Common.{length-append, ne_eqb, eq-eqb}
use Rattle.std.specs.Prelude.{slice_get}
use Rattle.std.proofs.lemmas.List.Elements.{filter-append}
use Rattle.graph_kinds.proofs.Calls.{and_left, and_right}
use Rattle.core_journal.specs.declared.event.Event.{Event}
use Rattle.core_journal.specs.Event.{counted}
use Rattle.core_journal.specs.Foreign.{foreign, IsForeign, foreign_to}
use Rattle.core_journal.specs.Prefix.{IsPrefix}
use Rattle.core_journal.proofs.Lists.{take_front}

-- a stretch is one up to a number in it and one from there on
seam : (a b d : ℕ) (xs : List Event) → a ≤ b → b ≤ d → drop a (take d xs) ≡ drop a (take b xs) ++ drop b (take d xs)
seam zero zero d xs low high = refl
seam zero (suc b) zero xs low high = absurd (omega arith)
seam zero (suc b) (suc d) [] low high = refl
seam zero (suc b) (suc d) (x ∷ xs) low high = ap (λ (l : List Event). x ∷ l)
    (seam zero b d xs (omega arith) (omega arith))
seam (suc a) zero d xs low high = absurd (omega arith)
seam (suc a) (suc b) zero xs low high = absurd (omega arith)
seam (suc a) (suc b) (suc d) [] low high = refl
seam (suc a) (suc b) (suc d) (x ∷ xs) low high = seam a b d xs (omega arith) (omega arith)

count_append : (caller : ℕ) (xs ys : List Event) → length (filter (foreign_to caller) (xs ++ ys)) ≡ length
    (filter (foreign_to caller) xs) + length (filter (foreign_to caller) ys)
count_append caller xs ys = ap length (filter-append (foreign_to caller) xs ys) ∙ length-append
    (filter (foreign_to caller) xs) (filter (foreign_to caller) ys)

pub adds_up : (journal : List Event) (caller a b d : ℕ) → a ≤ b → b ≤ d
    → foreign journal caller a d ≡ foreign journal caller a b + foreign journal caller b d
adds_up journal caller a b d low high = ap (λ (l : List Event). length (filter (foreign_to caller) l))
    (seam a b d journal low high) ∙ count_append caller (drop a (take b journal)) (drop b (take d journal))

-- up to the length of a front, a longer journal has the same
pub longer_same : (front journal : List Event) → IsPrefix front journal → (caller start end : ℕ) → end ≤ length front
    → foreign journal caller start end ≡ foreign front caller start end
longer_same front journal p caller start end low =
    ap (λ (l : List Event). length (filter (foreign_to caller) (drop start l)))
    (ap (take end) (sym p.whole) ∙ take_front front p.rest end low)

get_taken : (n : ℕ) (xs : List Event) (p : ℕ) (e : Event) → p < n → slice_get xs p ≡ Some e → slice_get
    (take n xs) p ≡ Some e
get_taken zero xs p e low at = absurd (omega arith)
get_taken (suc n) [] p e low at = at
get_taken (suc n) (x ∷ xs) zero e low at = at
get_taken (suc n) (x ∷ xs) (suc p) e low at = get_taken n xs p e (omega arith) at

get_dropped : (n : ℕ) (xs : List Event) (p : ℕ) (e : Event) → n ≤ p → slice_get xs p ≡ Some e → (k : ℕ) ×
    (slice_get (drop n xs) k ≡ Some e)
get_dropped zero xs p e far at = (p, at)
get_dropped (suc n) [] p e far at = absurd (cc)
get_dropped (suc n) (x ∷ xs) zero e far at = absurd (omega arith)
get_dropped (suc n) (x ∷ xs) (suc p) e far at = get_dropped n xs p e (omega arith) at

module _ (caller : ℕ) where
  some_here : (xs : List Event) (k : ℕ) (e : Event) → slice_get xs k ≡ Some e → foreign_to caller e ≡ true → 1 ≤ length
      (filter (foreign_to caller) xs)
  some_here [] k e at h = absurd (cc)
  some_here (x ∷ xs) zero e at h =
      let same : x ≡ e = cc in
      subst (λ (b : Bool). 1 ≤ length (cond b (x ∷ filter (foreign_to caller) xs) (filter (foreign_to caller) xs)))
      (sym (ap (foreign_to caller) same ∙ h)) (omega arith)
  some_here (x ∷ xs) (suc k) e at h = more (foreign_to caller x) (some_here xs k e at h)
    where
      more : (b : Bool) → 1 ≤ length (filter (foreign_to caller) xs) → 1 ≤ length
          (cond b (x ∷ filter (foreign_to caller) xs) (filter (foreign_to caller) xs))
      more true h = omega arith
      more false h = h

  -- where some are counted, one stands among them
  record IsAmong (xs : List Event) : Type 0 where
    pub k : ℕ
    pub event : Event
    pub at : slice_get xs k ≡ Some event
    pub passes : foreign_to caller event ≡ true

  found : (xs : List Event) → 1 ≤ length (filter (foreign_to caller) xs) → IsAmong xs
  found [] h = absurd (omega arith)
  found (x ∷ xs) h = by (found xs) (foreign_to caller x) refl h
    where
      by : (1 ≤ length (filter (foreign_to caller) xs) → IsAmong xs) → (b : Bool) → foreign_to caller x ≡ b → 1 ≤ length
          (cond b (x ∷ filter (foreign_to caller) xs) (filter (foreign_to caller) xs)) → IsAmong (x ∷ xs)
      by more true e h = record { k = 0; event = x; at = refl; passes = e }
      by more false e h = let r = more h in record { k = suc r.k; event = r.event; at = r.at; passes = r.passes }

from_dropped : (n : ℕ) (xs : List Event) (k : ℕ) (e : Event) → slice_get (drop n xs) k ≡ Some e → slice_get xs
    (n + k) ≡ Some e
from_dropped zero xs k e at = let same : zero + k ≡ k = omega arith in subst (λ (i : ℕ). slice_get xs i ≡ Some e)
    (sym same) at
from_dropped (suc n) [] k e at = absurd (cc)
from_dropped (suc n) (x ∷ xs) k e at = let same : suc n + k ≡ suc (n + k) = omega arith in subst
    (λ (i : ℕ). slice_get (x ∷ xs) i ≡ Some e) (sym same) (from_dropped n xs k e at)

-- an element of the first ones
record IsAmongFirst (n : ℕ) (xs : List Event) (p : ℕ) (e : Event) : Type 0 where
  pub low : p < n
  pub at : slice_get xs p ≡ Some e

from_taken : (n : ℕ) (xs : List Event) (p : ℕ) (e : Event) → slice_get (take n xs) p ≡ Some e → IsAmongFirst n xs p e
from_taken zero xs p e at = absurd (cc)
from_taken (suc n) [] p e at = absurd (cc)
from_taken (suc n) (x ∷ xs) zero e at = record { low = omega arith; at = at }
from_taken (suc n) (x ∷ xs) (suc p) e at = let r = from_taken n xs p e at in record
    { low = omega (arith, r.low); at = r.at }

is_foreign : (caller : ℕ) (e : Event) → counted e.kind ≡ true → e.caller ≢ caller → foreign_to caller e ≡ true
is_foreign caller e counts other = ap₂ (λ (a b : Bool). a && not b) counts (ne_eqb e.caller caller other)

-- a counted event of another caller is one of them
pub one_foreign : (journal : List Event) (caller start end p : ℕ) (e : Event) → start ≤ p → p < end
    → slice_get journal p ≡ Some e → counted e.kind ≡ true → e.caller ≢ caller → 1 ≤ foreign journal caller start end
one_foreign journal caller start end p e since until at counts other =
    let h = get_dropped start (take end journal) p e since (get_taken end journal p e until at) in
    some_here caller (drop start (take end journal)) h.0 e h.1 (is_foreign caller e counts other)

-- where there is one, it's a counted event of another caller
pub foreign_found : (journal : List Event) (caller start end : ℕ) → 1 ≤ foreign journal caller start end
    → IsForeign journal caller start end
foreign_found journal caller start end h =
    let r = found caller (drop start (take end journal)) h in
    let t = from_taken end journal (start + r.k) r.event (from_dropped start (take end journal) r.k r.event r.at) in
    record {
      number = start + r.k;
      event = r.event;
      since = omega arith;
      until = t.low;
      at = t.at;
      counts = and_left (counted r.event.kind) (not (r.event.caller == caller)) r.passes;
      other = apart r.event.caller (and_right (counted r.event.kind) (not (r.event.caller == caller)) r.passes);
    }
  where
    apart : (c : ℕ) → not (c == caller) ≡ true → c ≢ caller
    apart c h is = let eq : (c == caller) ≡ true = eq-eqb c caller is in let bad : not
        (c == caller) ≡ false = ap not eq in absurd (cc)
