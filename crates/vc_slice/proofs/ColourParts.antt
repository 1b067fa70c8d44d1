-- A slice has the same rectangles, and as many coefficients, in both colour components.
use Rattle.std.proofs.Common.{◌≡◌, ℕ, List, refl, subst}
use Rattle.vc_types.specs.declared.rect.Rect.{Rect}
use Rattle.vc_types.specs.declared.video.Component.{Component}
use Rattle.vc_types.specs.declared.video.Component.TheVariants.{C1, C2}
use Rattle.vc_types.specs.Subbands.{slice_coefficient_count, slice_rectangle}
use Rattle.vc_types.specs.TransformParameters.{Parameters}
use Rattle.vc_geometry.specs.Rectangles.{AreSliceRectangles}
use Rattle.vc_geometry.specs.Runs.{AreRunRectangles, run_rectangle, run_coefficient_count}

pub colours_alike : (p : Parameters) (slice : ℕ) (rects : List Rect) → AreSliceRectangles p C1 slice rects → AreSliceRectangles p C2 slice rects
unfolding slice_rectangle
colours_alike p slice rects are = record { parts = are.parts; right = are.right; bottom = are.bottom; small = are.small }

pub of_colours : (p : Parameters) (c : Component) (slice : ℕ) (rects : List Rect) → AreSliceRectangles p c slice rects → c ≡ C1 → AreSliceRectangles p C2 slice rects
of_colours p c slice rects are is = colours_alike p slice rects (subst (λ (k : Component). AreSliceRectangles p k slice rects) is are)

-- and as many coefficients
pub colour_counts : (p : Parameters) (slice : ℕ) → slice_coefficient_count p C2 slice ≡ slice_coefficient_count p C1 slice
unfolding slice_rectangle slice_coefficient_count
colour_counts p slice = refl

-- a run likewise
run_colours_alike : (p : Parameters) (first count : ℕ) (rects : List Rect) → AreRunRectangles p C1 first count rects → AreRunRectangles p C2 first count rects
unfolding run_rectangle
run_colours_alike p first count rects are = record { parts = are.parts; right = are.right; bottom = are.bottom; small = are.small }

pub of_run_colours : (p : Parameters) (c : Component) (first count : ℕ) (rects : List Rect) → AreRunRectangles p c first count rects → c ≡ C1 → AreRunRectangles p C2 first count rects
of_run_colours p c first count rects are is = run_colours_alike p first count rects (subst (λ (k : Component). AreRunRectangles p k first count rects) is are)

pub run_colour_counts : (p : Parameters) (first count : ℕ) → run_coefficient_count p C2 first count ≡ run_coefficient_count p C1 first count
unfolding run_rectangle run_coefficient_count
run_colour_counts p first count = refl
