use Rattle.std.proofs.Common.{rules, ◌≡◌, ◌*◌, ◌^◌, ◌≤◌, ℕ, List, ℤ, ◌++◌, drop, length, length-take, arith}
use Rattle.std.proofs.Math.Nat.{div-mul-le_self, mul-le-mul_right}
use Rattle.vc_types.specs.Subbands.{padded_width, padded_height}
use Rattle.vc_types.specs.TransformParameters.{parameters_of}
use Rattle.vc_types.specs.Transforms.{lowest_height}
use Rattle.vc_types.specs.Transforms.{levels_across}
use Rattle.vc_wave.specs.Parts.{with_low}
use Rattle.vc_wave.specs.Planes.{plane_of}
use Rattle.vc_wave.proofs.LowCells.{corner_made, front_put}
use Rattle.vc_wave.proofs.TransformLocality.{less}
use Rattle.vc_wave.proofs.TurnedLevels.{sides_small}
use Rattle.vc_wave.proofs.lower.lowest_rows.Goals as goal

pub side_at-width-requires-clause-fits : goal.side_at-width-requires-clause-fits
side_at-width-requires-clause-fits c = search (rules, sides_small)

pub corner_across-requires-clause-narrow : goal.corner_across-requires-clause-narrow
corner_across-requires-clause-narrow c = search (rules, sides_small)

pub corner_across-requires-clause-across : goal.corner_across-requires-clause-across
corner_across-requires-clause-across c =
    let low = c.lowest-w.ensures in
    let small = sides_small (parameters_of c.args.plan.now) c.args.c c.lowest-w.result.0 c.lowest-w.result.1
    low.width low.height low.small.0 low.small.1 in
    omega (arith, small.3, c.side_at-width.ensures, c.padded-stride.ensures.width)

pub corner_across-requires-clause-down : goal.corner_across-requires-clause-down
corner_across-requires-clause-down c =
    let p = parameters_of c.args.plan.now in
    let height = padded_height p c.args.c in
    let inside = less (lowest_height p c.args.c) p.depth height (div-mul-le_self height (2 ^ p.depth)) in
    let all = mul-le-mul_right (padded_width p c.args.c) inside in
    rw (c.lowest-w.ensures.height, c.padded-stride.ensures.width) (omega (arith, all, c.requires.nested))

pub corner_across-requires-clause-line : goal.corner_across-requires-clause-line
corner_across-requires-clause-line c = rw (c.side_at-width.ensures, c.lowest-w.ensures.width) c.requires.line

-- by the names of the contract
named : (width w h stride lowest highest pitch e wavelet : ℕ) (cells rest nested : List ℤ) → width ≡ w * 2 ^ e
    → w ≡ lowest → h ≡ highest → stride ≡ pitch
    → with_low width h stride (cells ++ rest) nested ≡ levels_across wavelet e w h (plane_of stride nested)
    → with_low (lowest * 2 ^ e) highest pitch (cells ++ rest) nested
    ≡ levels_across wavelet e lowest highest (plane_of pitch nested)
named width w h stride lowest highest pitch e wavelet cells rest nested is across down apart made =
    rw (is, across, down, apart) at made

pub returns : goal.returns
returns c = λ whole.
    let low = c.lowest-w in
    let cells = c.corner_across.new.cells in
    let count = low.result.1 * c.side_at-width.result in
    let rest = drop count c.args.low.now in
    let room : count ≤ length c.args.low.now =
    rw (c.side_at-width.ensures, low.ensures.width, low.ensures.height) c.requires.low in
    let made = corner_made low.result.1 c.padded-stride.result.0 c.side_at-width.result (cells ++ rest) cells c.args.nested.now
    (λ i h. front_put cells rest i (omega (arith, h, c.corner_across.auto.cells, length-take count c.args.low.now, room)))
    c.args.plan.now.wavelet_ho c.args.plan.now.depth_ho low.result.0 c.side_at-width.ensures
    (c.corner_across.ensures whole) in
    named c.side_at-width.result low.result.0 low.result.1 c.padded-stride.result.0 _ _ _
    c.args.plan.now.depth_ho c.args.plan.now.wavelet_ho cells rest c.args.nested.now c.side_at-width.ensures
    low.ensures.width low.ensures.height c.padded-stride.ensures.width made
