-- A band's value in a column and a row, in the list that keeps it.
use Rattle.std.proofs.Common.{◌≡◌, ℕ, ◌+◌, ◌*◌, ◌<◌, List, ℤ, ap, arith}
use Rattle.std.proofs.lemmas.Nat.{mul-add-lt}
use Rattle.vc_types.specs.Lifting.{line_of}
use Rattle.vc_types.specs.Rasters.{Lattice}
use Rattle.vc_lowdelay.specs.Bands.{value_in}

module _ (w h : ℕ) (items : List ℤ) (band : Lattice) (view : ◌≡◌ {A = Lattice} (record { width = w; height = h; cells = items }) band) where
  pub wide : w ≡ band.width
  wide = ap (λ (b : Lattice). b.width) view

  pub high : h ≡ band.height
  high = ap (λ (b : Lattice). b.height) view

  module _ (x y : ℕ) where
    pub value_is : line_of items (y * w + x) ≡ value_in band x y
    value_is = ap (λ (b : Lattice). line_of b.cells (y * b.width + x)) view

    pub place_within : x < band.width → y < band.height → y * w + x < w * h
    place_within across down = mul-add-lt y w x h (omega (arith, high, down)) (omega (arith, wide, across))
