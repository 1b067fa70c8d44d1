use Rattle.std.proofs.Common.{ℕ, ◌-◌, ◌*◌, ◌^◌, ◌≤◌, length, arith}
use Rattle.std.proofs.Math.Nat.{mul-le-mul, mul-le-mul_left, mul-le-mul_right}
use Rattle.std.proofs.Math.Pow.{pow_pos}
use Rattle.vc_types.specs.declared.video.Component.{Component}
use Rattle.vc_types.specs.Subbands.{padded_width, padded_height}
use Rattle.vc_types.specs.TransformParameters.{Parameters, parameters_of}
use Rattle.vc_types.specs.Transforms.{lowest_width, lowest_height}
use Rattle.vc_wave.specs.Parts.{pairs_held}
use Rattle.vc_wave.specs.Planes.{HasRoom}
use Rattle.vc_wave.specs.Sides.{highest_width}
use Rattle.vc_wave.proofs.TurnedLevels.{all_rooms}
use Rattle.vc_wave.proofs.lower.merge_below.Goals as goal

pub lowest_rows-requires-clause-low : goal.lowest_rows-requires-clause-low
lowest_rows-requires-clause-low c =
    let p = parameters_of c.args.plan.now in
    let w = lowest_width p c.args.c * 2 ^ p.depth_ho in
    let h = lowest_height p c.args.c in
    let once : h * 1 ≤ h * 2 ^ (p.depth - 1) = mul-le-mul_left h (pow_pos (p.depth - 1)) in
    let also : w * 1 ≤ w * 2 ^ (p.depth - 1) = mul-le-mul_left w (pow_pos (p.depth - 1)) in
    let all = mul-le-mul once also in
    omega (arith, all, c.requires.first)

pub lowest_rows-requires-clause-line : goal.lowest_rows-requires-clause-line
lowest_rows-requires-clause-line c =
    let p = parameters_of c.args.plan.now in
    let w = lowest_width p c.args.c * 2 ^ p.depth_ho in
    let also : w * 1 ≤ w * 2 ^ (p.depth - 1) = mul-le-mul_left w (pow_pos (p.depth - 1)) in
    let all : 1 * (2 * highest_width p c.args.c) ≤ 2 * pairs_held p.wavelet * (2 * highest_width p c.args.c) =
    mul-le-mul_right (2 * highest_width p c.args.c) (omega arith) in
    omega (arith, all, also, c.requires.room)

rooms : (p : Parameters) (c : Component) (cells : ℕ) → padded_height p c * padded_width p c ≤ cells
    → HasRoom (lowest_width p c * 2 ^ p.depth_ho * 2 ^ p.depth) (lowest_height p c * 2 ^ p.depth)
    (padded_width p c) cells 0 (padded_width p c)
rooms p c cells fits = all_rooms p c (padded_width p c) cells (padded_width p c) (omega arith) fits (omega arith)

pub merge_levels-requires-clause-across : goal.merge_levels-requires-clause-across
merge_levels-requires-clause-across c =
    let l = c.levels_of-levels.ensures in
    rw (l.w, l.levels, l.pitch, c.padded-stride.ensures.width) (rooms (parameters_of c.args.plan.now) c.args.c (length c.args.nested.now) c.requires.nested).across

pub merge_levels-requires-clause-down : goal.merge_levels-requires-clause-down
merge_levels-requires-clause-down c =
    let l = c.levels_of-levels.ensures in
    rw (l.h, l.levels, l.pitch, c.padded-stride.ensures.width) (rooms (parameters_of c.args.plan.now) c.args.c (length c.args.nested.now) c.requires.nested).down

pub merge_levels-requires-clause-first : goal.merge_levels-requires-clause-first
merge_levels-requires-clause-first c =
    let l = c.levels_of-levels.ensures in
    rw (l.h, l.w, c.lowest_rows.auto.low) c.requires.first

pub merge_levels-requires-clause-second : goal.merge_levels-requires-clause-second
merge_levels-requires-clause-second c =
    let l = c.levels_of-levels.ensures in
    rw (l.h, l.w) c.requires.second

pub merge_levels-requires-clause-room : goal.merge_levels-requires-clause-room
merge_levels-requires-clause-room c =
    let p = parameters_of c.args.plan.now in
    let l = c.levels_of-levels.ensures in
    let all : 2 * pairs_held p.wavelet * highest_width p c.args.c
    ≤ 2 * pairs_held p.wavelet * (2 * highest_width p c.args.c) =
    mul-le-mul_left (2 * pairs_held p.wavelet) (omega arith) in
    rw (l.w, l.down, c.lowest_rows.auto.line) (omega (arith, all, c.requires.room))

pub returns : goal.returns
returns c = λ whole.
    let l = c.levels_of-levels.ensures in
    let lowest = c.lowest_rows.ensures c.if-not-lowest_rows.false in
    rw (l.w, l.h, l.pitch, l.down, l.across, c.padded-stride.ensures.width, lowest) at (c.merge_levels.ensures whole)
