-- What the forward transform of a plane gives.
use Rattle.std.proofs.Common.{◌≡◌, ℕ, ℤ, ◌*◌, ◌<◌, ◌^◌, List, length, sym, ap, subst, ◌∙◌, unsigned_abs}
use Rattle.std.specs.Prelude.{All, IsTrue}
use Rattle.std.specs.Global.{Vec}
use Rattle.link_model.specs.SendingPictures.{plane_in, sent_cells}
use Rattle.picture_encode.specs.Grids.{AreNarrowCells, cells_of, HasCoefficients}
use Rattle.picture_encode.specs.declared.grids.ComponentGrid.TheVariants.{Narrow, Wide}
use Rattle.vc_wave.specs.Layout.{nested_in}
use Rattle.vc_wave.proofs.TransformLaws.{no_levels}
use Rattle.vc_types.specs.declared.video.Component.{Component}
use Rattle.vc_types.specs.Planes.{Planes}
use Rattle.vc_types.specs.Rasters.{Lattice, Raster, cell_at, sample_at}
use Rattle.vc_types.specs.Subbands.{padded_width, padded_height}
use Rattle.vc_types.specs.TransformParameters.{Parameters, is_symmetric}
use Rattle.vc_types.specs.Transforms.{forward_transform}

module _ (p : Parameters) (c : Component) (planes : Planes) (plane : Raster) (own : plane ≡ plane_in planes c) where
  pub wide_has : (g : Lattice) → g.width ≡ padded_width p c → g.height ≡ padded_height p c
      → ((x y : ℕ) → x < g.width → y < g.height → cell_at g x y ≡ forward_transform p c (sample_at plane) x y)
      → All (λ z. unsigned_abs z < 2 ^ 60) g.cells → HasCoefficients p c planes (Wide g)
  unfolding sent_cells cells_of
  wide_has g width height value small = record {
    grid = record { width = width; height = height; small = small };
    cells = λ x y across down.
        value x y (subst (λ n. x < n) (sym width) across) (subst (λ n. y < n) (sym height) down)
        ∙ ap (λ (t : Raster). forward_transform p c (sample_at t) x y) own;
  }

  pub narrow_has : (cells : Vec ℤ) → AreNarrowCells p c plane cells.items → HasCoefficients p c planes (Narrow cells)
  unfolding sent_cells cells_of
  narrow_has cells has = record {
    grid = has.grid;
    cells = λ x y across down. has.value x y across down ∙ ap (λ (t : Raster). forward_transform p c (sample_at t) x y) own;
  }

-- what stands in cells that were written over others is the transform, in 32 bits
pub are_narrow : (p : Parameters) (c : Component) (plane : Raster) (width height : ℕ) (cells all : List ℤ) → IsTrue (is_symmetric p) → width ≡ padded_width p c → height ≡ padded_height p c
    → length cells ≡ height * width → all ≡ cells → All (λ z. unsigned_abs z < 2 ^ 60) all
    → ((x y : ℕ) → x < padded_width p c → y < padded_height p c → nested_in p c (padded_width p c) cells x y ≡ forward_transform p c (sample_at plane) x y)
    → AreNarrowCells p c plane all
are_narrow p c plane width height cells all symmetric across down whole same small value = record {
  grid = record {
    none_across = no_levels p symmetric;
    size = ap length same ∙ whole ∙ ap (λ n. n * width) down ∙ ap (λ n. padded_height p c * n) across;
    small = small;
  };
  value = λ x y a b. ap (λ (zs : List ℤ). nested_in p c (padded_width p c) zs x y) same ∙ value x y a b;
}
