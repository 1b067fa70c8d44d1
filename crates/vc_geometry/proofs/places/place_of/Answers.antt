use Rattle.std.proofs.Common.{◌+◌, ◌-◌, ◌<◌, ◌≤◌, arith, ◌∙◌, sym, ap, subst}
use Rattle.std.proofs.lemmas.Nat.{mul-le}
use Rattle.vc_types.specs.declared.rect.Rect.{Rect}
use Rattle.vc_types.specs.Subbands.{area, place_in}
use Rattle.vc_types.specs.TransformParameters.{parameters_of}
use Rattle.vc_types.proofs.SliceRectangles.{IsLeft, IsLeft-first, IsLeft-here, IsLeft-past}
use Rattle.vc_geometry.proofs.places.place_of.Goals as goal

pub loop-b-init : goal.loop-b-init
loop-b-init c = IsLeft-first (parameters_of c.args.plan.now) c.args.c c.args.slice c.args.i c.requires.number

pub overflow_mul-area : goal.overflow_mul-area
overflow_mul-area c = omega (
  arith,
  mul-le c.slice_rect-rect.result.width c.slice_rect-rect.result.height 8192 8192
      (omega arith) (omega arith),
)

pub returns-then-left-area-clause-value : goal.returns-then-left-area-clause-value
returns-then-left-area-clause-value c =
    let rect = c.slice_rect-rect.ensures.value in
    ap (λ r. place_in r c.loop-b.left) rect
    ∙ IsLeft-here (parameters_of c.args.plan.now) c.args.c c.args.slice c.args.i c.loop-b.b c.loop-b.left c.loop-b.invariant (omega arith) (subst (λ (r : Rect). c.loop-b.left < area r) rect (omega arith))

pub loop-b-preserved : goal.loop-b-preserved
loop-b-preserved c =
    let rect = c.slice_rect-rect.ensures.value in
    subst (λ (r : Rect). IsLeft (parameters_of c.args.plan.now) c.args.c c.args.slice c.args.i (c.loop-b.b + 1) (c.loop-b.left - area r)) (sym rect)
    (IsLeft-past (parameters_of c.args.plan.now) c.args.c c.args.slice c.args.i c.loop-b.b c.loop-b.left c.loop-b.invariant (omega arith) (subst (λ (r : Rect). area r ≤ c.loop-b.left) rect (omega arith)))
