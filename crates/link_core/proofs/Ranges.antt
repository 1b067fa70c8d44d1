-- A loop over numbers that asks whether all of them pass.
use Rattle.std.proofs.Common.{◌≡◌, ℕ, ◌+◌, ◌-◌, ◌<◌, Bool, true, arith}
use Rattle.std.specs.List.{list_all, range_with_len}
use Rattle.link_model.proofs.Ranges.{range_step}

module _ (test : ℕ → Bool) (i n : ℕ) (all : Bool) where
  pub one_passes : i < n → list_all test (range_with_len i (n - i)) ≡ all → test i ≡ true → list_all test (range_with_len (i + 1) (n - (i + 1))) ≡ all
  one_passes less is passes = grind (arith, range_step)
