-- The coefficients of a slice, all in one list.
use Rattle.std.specs.Prelude.{ℕ, ◌+◌, List, take, drop, ℤ}
use Rattle.vc_types.specs.Slices.{Coefficients}
use Rattle.vc_slice.specs.declared.coeffs.CoefficientBlock.{CoefficientBlock}
use Rattle.vc_slice.specs.declared.coeffs.CoefficientBlock.TheVariants as block

-- the numbers of a block, whatever their width
abbrev pub in_block : CoefficientBlock → List ℤ
in_block (block.Narrow numbers) = numbers.items
in_block (block.Wide numbers) = numbers.items

-- the first of so many numbers are those of Y, behind them those of C1, then those of C2
abbrev pub three_parts : ℕ → ℕ → ℕ → List ℤ → Coefficients
three_parts y c1 c2 numbers = record {
  y = take y numbers;
  c1 = take c1 (drop y numbers);
  c2 = take c2 (drop (y + c1) numbers);
}
