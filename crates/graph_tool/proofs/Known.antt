-- How the bytes that the library tells of a reader or a writer add up over several tries.
use Rattle.std.proofs.Common.{ℕ, List, [], ◌++◌, refl, ap, ◌∙◌, append-nil}
use Rattle.std.specs.Prelude.{Option, Some, None}
use Rattle.std.specs.Io.KnownBytes.{Appends, Consumes, Keeps}

pub keeps-none : (a : Option (List ℕ)) → Keeps a a
keeps-none None = tt
keeps-none (Some xs) = refl

pub keeps-more : (a b c : Option (List ℕ)) → Keeps a b → Keeps b c → Keeps a c
keeps-more None b c p q = tt
keeps-more (Some xs) None c p q = absurd p
keeps-more (Some xs) (Some ys) None p q = absurd q
keeps-more (Some xs) (Some ys) (Some zs) p q = q ∙ p

pub keeps-consumes : (a b c : Option (List ℕ)) (bytes : List ℕ) → Keeps a b → Consumes b c bytes → Consumes a c bytes
keeps-consumes None b c bytes p q = tt
keeps-consumes (Some xs) None c bytes p q = absurd p
keeps-consumes (Some xs) (Some ys) None bytes p q = absurd q
keeps-consumes (Some xs) (Some ys) (Some zs) bytes p q = cc

pub keeps-appends : (a b c : Option (List ℕ)) (bytes : List ℕ) → Keeps a b → Appends b c bytes → Appends a c bytes
keeps-appends None b c bytes p q = tt
keeps-appends (Some xs) None c bytes p q = absurd p
keeps-appends (Some xs) (Some ys) None bytes p q = absurd q
keeps-appends (Some xs) (Some ys) (Some zs) bytes p q = q ∙ ap (λ (l : List ℕ). l ++ bytes) p

-- nothing was appended
pub appends-none : (a b : Option (List ℕ)) → Appends a b [] → Keeps a b
appends-none None b p = tt
appends-none (Some xs) None p = absurd p
appends-none (Some xs) (Some ys) p = p ∙ append-nil xs
