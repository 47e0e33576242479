-- What is handed on and what is held.
use Rattle.std.proofs.Common.{◌≡◌, ℕ, ◌+◌, ◌-◌, ◌≤◌, List, ◌++◌, length, length-append, [], take, drop, refl, sym, ap}
use Rattle.std.proofs.Common.{◌∙◌, subst, arith, append_assoc, append-nil, take-append-drop, take_all, drop-drop}
use Rattle.std.proofs.Common.{length-drop}
use Rattle.std.specs.Prelude.{Option, Some, None}
use Rattle.std.proofs.lemmas.List.{take-append-le}
use Rattle.graph_kinds.specs.Stream.{Puts, PutsSome}
use Rattle.op_text.specs.Pieces.{IsFirstPart, behind}

-- handing on the first of the bytes that are held leaves what was given
pub behind-handed : (a b : Option (List ℕ)) (n from : ℕ) (bytes : List ℕ) → Puts a b
    (take n (take (length bytes - from) (drop from bytes))) → behind b (drop (from + n) bytes) ≡ behind a
    (drop from bytes)
behind-handed None b n from bytes p = ap (λ (x : Option (List ℕ)). behind x (drop (from + n) bytes)) p
behind-handed (Some l) b n from bytes p =
    let whole : take (length bytes - from) (drop from bytes) ≡ drop from bytes = take_all (length bytes - from)
    (drop from bytes) (omega (arith, length-drop from bytes)) in
    let is : b ≡ Some (l ++ take n (drop from bytes)) = p ∙ ap (λ (t : List ℕ). Some (l ++ take n t)) whole in
    ap (λ (x : Option (List ℕ)). behind x (drop (from + n) bytes)) is
    ∙ ap (λ (t : List ℕ). Some t)
    (append_assoc l (take n (drop from bytes)) (drop (from + n) bytes)
    ∙ ap (λ (t : List ℕ). l ++ (take n (drop from bytes) ++ t)) (sym (drop-drop n from bytes))
    ∙ ap (λ (t : List ℕ). l ++ t) (take-append-drop n (drop from bytes)))

-- nothing held
pub behind-none : (a : Option (List ℕ)) → behind a [] ≡ a
behind-none None = refl
behind-none (Some l) = ap (λ (t : List ℕ). Some t) (append-nil l)

-- what was put, where the two ends are said otherwise
pub puts-between : (a b c d : Option (List ℕ)) (text : List ℕ) → a ≡ c → b ≡ d → Puts a b text → Puts c d text
puts-between a b c d text left right p = subst (λ (x : Option (List ℕ)). Puts x d text) left
    (subst (λ (x : Option (List ℕ)). Puts a x text) right p)

-- what the sink behind has taken is a first part of what was given
pub first-part : (taken old : Option (List ℕ)) (held bytes : List ℕ) → PutsSome old (behind taken held) bytes
    → IsFirstPart old taken bytes
first-part None None held bytes p = refl
first-part (Some t) None held bytes p = absurd (let e : Some (t ++ held) ≡ None = p.2 in cc)
first-part None (Some old) held bytes p = absurd (let e : None ≡ Some (old ++ take p.0 bytes) = p.2 in cc)
first-part (Some t) (Some old) held bytes (n, le, put) =
    let whole : t ++ held ≡ old ++ take n bytes = cc in
    let at_front : take (length t) (t ++ held) ≡ t = take-append-le (length t) t held (omega arith) ∙ take_all
    (length t) t (omega arith) in
    let fits : length t ≤ length (old ++ take n bytes) = omega (arith, ap length whole, length-append t held) in
    let split : (old ++ take n bytes) ++ drop n bytes ≡ old ++ bytes = append_assoc old (take n bytes) (drop n bytes)
    ∙ ap (λ (l : List ℕ). old ++ l) (take-append-drop n bytes) in (
      length t,
      ap (λ (l : List ℕ). Some l) (sym (sym (ap (take (length t)) split) ∙
          (take-append-le (length t) (old ++ take n bytes) (drop n bytes) fits ∙
          (ap (take (length t)) (sym whole) ∙ at_front)))),
    )
