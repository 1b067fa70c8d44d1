use Rattle.std.proofs.Common.{arith, ap}
use Rattle.vc_types.specs.declared.rect.Rect.{Rect}
use Rattle.vc_types.specs.Subbands.{slice_rectangle}
use Rattle.vc_geometry.proofs.RectanglesInTurn.{part_at, spanned}
use Rattle.vc_geometry.proofs.slices.slice_rect.Goals as goal

pub returns-clause-value : goal.returns-clause-value
unfolding slice_rectangle
returns-clause-value c = grind (arith, spanned, part_at)

pub returns-clause-right : goal.returns-clause-right
returns-clause-right c = omega (arith, ap (λ (r : Rect). r.x) c.part.ensures.value, ap (λ (r : Rect). r.width) c.part.ensures.value)

pub returns-clause-bottom : goal.returns-clause-bottom
returns-clause-bottom c = omega (arith, ap (λ (r : Rect). r.y) c.part.ensures.value, ap (λ (r : Rect). r.height) c.part.ensures.value)

pub returns-clause-range : goal.returns-clause-range
returns-clause-range c = (
  omega (arith, ap (λ (r : Rect). r.x) c.part.ensures.value, ap (λ (r : Rect). r.width) c.part.ensures.value),
  omega (arith, ap (λ (r : Rect). r.y) c.part.ensures.value, ap (λ (r : Rect). r.height) c.part.ensures.value),
)
