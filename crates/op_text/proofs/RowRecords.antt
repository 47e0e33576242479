-- The records that a reader has left, by how many bytes it has left.
use Rattle.std.proofs.Common.{◌≡◌, ℕ, zero, suc, ◌+◌, ◌-◌, ◌<◌, ◌≤◌, ◌∙◌, sym, ap, refl, subst, Bool, true, false, cond}
use Rattle.std.proofs.Common.{List, [], ◌∷◌, length, Option, Some, None, arith, add-one}
use Rattle.std.proofs.lemmas.Bool.{cond_both}
use Rattle.csv.specs.Machine.{Read, after_end, ends_at_end, in_field, is_end, next_record, start_field, start_record}
use Rattle.csv.specs.Machine.{step}
use Rattle.csv.specs.Reading.{Reached, ReadRecord, records_from, records_next, source_of}
use Rattle.csv.specs.declared.parser.Action.{Action}
use Rattle.csv.specs.declared.parser.Action.TheVariants as act
use Rattle.csv.specs.declared.parser.Config.{Config}
use Rattle.csv.specs.declared.parser.State.{State}
use Rattle.csv.specs.declared.parser.State.TheVariants as st
use Rattle.csv.specs.declared.parser.Terminator.{Terminator}
use Rattle.csv.specs.declared.parser.Terminator.TheVariants as term
use Rattle.csv.specs.declared.reader.Reader.{Reader}
use Rattle.csv.proofs.ReadFacts.{rows-more, rows-end}

-- where a byte ends a record, the end of the text ends no further one
IsFresh : State × Action → Type 0
IsFresh p = is_end p.1 ≡ true → ends_at_end p.0 ≡ false

fresh_if : (b : Bool) (x y : State × Action) → IsFresh x → IsFresh y → IsFresh (cond b x y)
fresh_if b x y h g = cond_both b x y IsFresh (λ _. h) (λ _. g)

fresh_after_end : (t : Terminator) (c : ℕ) → ends_at_end (after_end t c) ≡ false
fresh_after_end term.CRLF c = cond_both _ st.AfterCr st.StartRecord (λ s. ends_at_end s ≡ false) (λ _. refl) (λ _. refl)
fresh_after_end (term.Any t) c = refl

-- an action that ends no record
fresh_other : (s : State) (a : Action) → is_end a ≡ false → IsFresh (s, a)
unfolding IsFresh
fresh_other s a other e = cc

fresh_end : (t : Terminator) (c : ℕ) → IsFresh (after_end t c, act.EndRecord)
unfolding IsFresh
fresh_end t c e = fresh_after_end t c

fresh_in_field : (cfg : Config) (c : ℕ) → IsFresh (in_field cfg c)
fresh_in_field cfg c =
    fresh_if _ _ _ (fresh_other st.StartField act.EndField refl)
    (fresh_if _ _ _ (fresh_end cfg.terminator c) (fresh_other st.InField act.Copy refl))

fresh_start_field : (cfg : Config) (c : ℕ) → IsFresh (start_field cfg c)
fresh_start_field cfg c = fresh_if _ _ _ (fresh_other st.InQuoted act.Skip refl) (fresh_in_field cfg c)

fresh_start_record : (cfg : Config) (c : ℕ) → IsFresh (start_record cfg c)
fresh_start_record cfg c =
    fresh_if _ _ _ (fresh_other st.StartRecord act.Skip refl)
    (fresh_if _ _ _ (fresh_other st.InComment act.Skip refl) (fresh_start_field cfg c))

fresh_step : (cfg : Config) (s : State) (c : ℕ) → IsFresh (step cfg s c)
fresh_step cfg st.StartRecord c = fresh_start_record cfg c
fresh_step cfg st.StartField c = fresh_start_field cfg c
fresh_step cfg st.InField c = fresh_in_field cfg c
fresh_step cfg st.InQuoted c =
    fresh_if _ _ _ (fresh_other st.AfterQuote act.Skip refl)
    (fresh_if _ _ _ (fresh_other st.InEscape act.Skip refl) (fresh_other st.InQuoted act.Copy refl))
fresh_step cfg st.InEscape c = fresh_other st.InQuoted act.Copy refl
fresh_step cfg st.AfterQuote c = fresh_if _ _ _ (fresh_other st.InQuoted act.Copy refl) (fresh_in_field cfg c)
fresh_step cfg st.InComment c = fresh_if _ _ _ (fresh_other st.StartRecord act.Skip refl)
    (fresh_other st.InComment act.Skip refl)
fresh_step cfg st.AfterCr c = fresh_if _ _ _ (fresh_other st.StartRecord act.Skip refl) (fresh_start_record cfg c)

-- a choice that gave a record
chosen : (b : Bool) (x y : Option Read) (p : Read) (P : Type 0) → cond b x y ≡ Some p → (b ≡ true → x ≡ Some p → P) →
    (b ≡ false → y ≡ Some p → P) → P
chosen true x y p P e h g = h refl e
chosen false x y p P e h g = g refl e

-- a record that was read leaves a fresh state and fewer bytes
abbrev LeavesFewer : Read → ℕ → Type 0
LeavesFewer p n = (ends_at_end p.1 ≡ false) × (length p.2 ≤ n)

leaves_same : (q p : Read) (n : ℕ) → Some q ≡ Some p → LeavesFewer q n → LeavesFewer p n
leaves_same q p n e h = let same : q ≡ p = cc in subst (λ (x : Read). LeavesFewer x n) same h

leaves_next : (cfg : Config) (xs : List ℕ) (s : State) (fields : List (List ℕ)) (field : List ℕ) (p : Read)
    → next_record cfg s fields field xs ≡ Some p → LeavesFewer p (length xs - 1)
unfolding next_record IsFresh
leaves_next cfg [] s fields field p e = chosen (ends_at_end s) _ _ p _ e
    (λ t same. leaves_same _ p _ same (refl, omega arith)) (λ f none. cc none)
leaves_next cfg (c ∷ rest) s fields field p e =
    chosen (is_end (step cfg s c).1) _ _ p _ e
    (λ t same. leaves_same _ p _ same (fresh_step cfg s c t, omega arith))
    (λ f more. let h = leaves_next cfg rest _ _ _ p more in (h.0, omega arith))

-- a fresh state finds no record in no bytes
some_bytes : (cfg : Config) (s : State) (xs : List ℕ) (p : Read) → ends_at_end s ≡ false
    → next_record cfg s [] [] xs ≡ Some p → 0 < length xs
unfolding next_record
some_bytes cfg s [] p fresh e = chosen (ends_at_end s) _ _ p _ e (λ t same. cc) (λ f none. cc none)
some_bytes cfg s (c ∷ rest) p fresh e = omega arith

next_same : (o : Option Read) (f g : State → List ℕ → List (List (List ℕ))) →
    ((p : Read) → o ≡ Some p → f p.1 p.2 ≡ g p.1 p.2) → records_next f o ≡ records_next g o
next_same None f g h = refl
next_same (Some p) f g h = ap (λ (more : List (List (List ℕ))). p.0 ∷ more) (h p refl)

-- more turns than bytes give all records
records_turns : (cfg : Config) (n m : ℕ) (s : State) (xs : List ℕ) → ends_at_end s ≡ false → length xs < n
    → length xs < m → records_from cfg n s xs ≡ records_from cfg m s xs
unfolding records_from
records_turns cfg zero m s xs fresh low high = absurd (omega arith)
records_turns cfg (suc n) zero s xs fresh low high = absurd (omega arith)
records_turns cfg (suc n) (suc m) s xs fresh low high =
    next_same _ (records_from cfg n) (records_from cfg m)
    (λ p e.
    let left = leaves_next cfg xs s [] [] p e in
    let some = some_bytes cfg s xs p fresh e in
    records_turns cfg n m p.1 p.2 left.0 (omega arith) (omega arith))

-- the records from a state on
abbrev pub records_left : Config → State → List ℕ → List (List (List ℕ))
records_left cfg s xs = records_from cfg (length xs + 1) s xs

pub records_left_none : (cfg : Config) (s : State) (xs : List ℕ) → next_record cfg s [] [] xs ≡ None
    → records_left cfg s xs ≡ []
unfolding records_from
records_left_none cfg s xs e = rw (add-one (length xs), e) refl

pub records_left_some : (cfg : Config) (s : State) (xs : List ℕ) (p : Read) → ends_at_end s ≡ false
    → next_record cfg s [] [] xs ≡ Some p → records_left cfg s xs ≡ p.0 ∷ records_left cfg p.1 p.2
unfolding records_from
records_left_some cfg s xs p fresh e =
    let left = leaves_next cfg xs s [] [] p e in
    let some = some_bytes cfg s xs p fresh e in
    rw (add-one (length xs), e) (ap (λ (more : List (List (List ℕ))). p.0 ∷ more)
    (records_turns cfg (length xs) (length p.2 + 1) p.1 p.2 left.0 (omega arith) (omega arith)))

same_left : (cfg : Config) (p : Read) (fields : List (List ℕ)) (s : State) (ys : List ℕ) → fields ≡ p.0 → p.1 ≡ s
    → p.2 ≡ ys → p.0 ∷ records_left cfg p.1 p.2 ≡ fields ∷ records_left cfg s ys
same_left cfg p fields s ys a b c = rw (a, ← b, ← c) refl

-- a read that found a record, by what is left before and after it
pub record_read : {R : Type 0} (rem : R → Option (List ℕ)) (a b : Reader R) (fields : List (List ℕ)) (cfg : Config)
    (xs : List ℕ)
    → a.config ≡ cfg → source_of rem a ≡ Some xs → ends_at_end a.state ≡ false → ReadRecord rem a b true fields
    → (ys : List ℕ) × (source_of rem b ≡ Some ys) × (ends_at_end b.state ≡ false) ×
    (records_left cfg a.state xs ≡ fields ∷ records_left cfg b.state ys)
unfolding Reached
record_read rem a b fields cfg xs config source fresh read =
    let (ys, at_ys, reached) = rows-more rem a b fields cfg a.state xs xs [] config source (refl, refl) read in
    let (p, next, same, (state, rest)) = reached in
    let left = leaves_next cfg xs a.state [] [] p next in (
      ys,
      at_ys,
      ap ends_at_end (sym state) ∙ left.0,
      records_left_some cfg a.state xs p fresh next
          ∙ same_left cfg p fields b.state ys same state rest,
    )

-- a read that found none
pub none_read : {R : Type 0} (rem : R → Option (List ℕ)) (a b : Reader R) (fields : List (List ℕ)) (cfg : Config)
    (xs : List ℕ)
    → a.config ≡ cfg → source_of rem a ≡ Some xs → ReadRecord rem a b false fields → records_left cfg a.state xs ≡ []
none_read rem a b fields cfg xs config source read = records_left_none cfg a.state xs
    (rows-end rem a b fields cfg xs config source read)
