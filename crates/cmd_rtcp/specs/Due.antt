-- What is to be written for datagrams.
use Rattle.std.specs.Prelude.{ℕ, List}

-- for those that came so far, and for all of them
pub record Due : Type 0 where
  pub so_far : List (List ℕ) → List ℕ
  pub in_all : List (List ℕ) → List ℕ
