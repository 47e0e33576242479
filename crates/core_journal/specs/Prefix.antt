-- What a caller has seen of the journal is a prefix of it, called its front.
use Rattle.std.specs.Prelude.{◌≡◌, List, ◌++◌}

-- the short list begins the long one
pub record IsPrefix {A : Type 0} (short long : List A) : Type 0 where
  pub rest : List A
  pub whole : short ++ rest ≡ long
