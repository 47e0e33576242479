-- Texts that are made item by item.
use Rattle.std.proofs.Common.{◌≡◌, ℕ, ◌+◌, ◌<◌, List, [], ◌∷◌, ◌++◌, length, get_or, take, drop, sym, ap, ◌∙◌, add-one}
use Rattle.std.proofs.Common.{append-nil, append_assoc, take-append-drop}
use Rattle.std.specs.Prelude.{flat_map}
use Rattle.std.proofs.Math.Seq.{take-suc}
use Rattle.std.proofs.lemmas.Grind.{flat_map-append}

module _ {A : Type 0} (f : A → List ℕ) where
  -- one item more
  pub flat_map-more : (xs : List A) (i : ℕ) (d : A) → i < length xs → flat_map f (take i xs) ++ f
      (get_or xs i d) ≡ flat_map f (take (i + 1) xs)
  flat_map-more xs i d inside =
      let one : flat_map f (get_or xs i d ∷ []) ≡ f (get_or xs i d) = append-nil (f (get_or xs i d)) in
      sym (ap (flat_map f) (ap (λ (n : ℕ). take n xs) (add-one i) ∙ take-suc xs i d inside)
      ∙ flat_map-append f (take i xs) (get_or xs i d ∷ [])
      ∙ ap (λ (t : List ℕ). flat_map f (take i xs) ++ t) one)

  -- the items before one, that one, and those behind it
  pub flat_map-split : (xs : List A) (i : ℕ) (d : A) → i < length xs → flat_map f (take i xs) ++
      (f (get_or xs i d) ++ flat_map f (drop (i + 1) xs)) ≡ flat_map f xs
  flat_map-split xs i d inside =
      sym (append_assoc (flat_map f (take i xs)) (f (get_or xs i d)) (flat_map f (drop (i + 1) xs)))
      ∙ ap (λ (t : List ℕ). t ++ flat_map f (drop (i + 1) xs)) (flat_map-more xs i d inside)
      ∙ sym (flat_map-append f (take (i + 1) xs) (drop (i + 1) xs))
      ∙ ap (flat_map f) (take-append-drop (i + 1) xs)
