-- The coefficients of a component, in 32 or in 64 bits.
use Rattle.std.specs.Prelude.{List, ℤ}
use Rattle.vc_slice.specs.declared.coeffs.CoefficientList.{CoefficientList}
use Rattle.vc_slice.specs.declared.coeffs.CoefficientList.TheVariants.{Narrow, Wide}

-- the numbers of a list, whatever their width
abbrev pub listed : CoefficientList → List ℤ
listed (Narrow numbers) = numbers.now
listed (Wide numbers) = numbers.now
