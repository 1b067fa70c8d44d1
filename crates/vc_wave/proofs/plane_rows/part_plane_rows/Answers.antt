use Rattle.std.proofs.Common.{ℕ, ◌+◌, ◌*◌, ◌≤◌, arith}
use Rattle.std.proofs.Math.Nat.{mul-le-mul_right}
use Rattle.vc_types.specs.Wavelets.{is_shifted}
use Rattle.vc_wave.specs.declared.pass.Direction.TheVariants.{Analysis}
use Rattle.vc_wave.specs.Remade.{remade}
use Rattle.vc_wave.specs.Samples.{padded_sample}
use Rattle.vc_wave.proofs.Copies.{gathered_more}
use Rattle.vc_wave.proofs.plane_rows.part_plane_rows.Goals as goal

pub part_plane_row-requires : goal.part_plane_row-requires
part_plane_row-requires c =
    let w = c.args.source.now.level.w in
    let past : (c.loop-y.y + 1) * (2 * w) ≤ c.args.rows * (2 * w) =
    mul-le-mul_right (2 * w) (omega (arith, c.loop-y-test.true)) in
    omega (arith, past, c.requires.window, c.loop-y.auto.window)

pub loop-y-preserved : goal.loop-y-preserved
loop-y-preserved c =
    let s = c.args.source.now in
    let l = s.level in
    gathered_more (2 * l.w) c.loop-y.y c.loop-y.window c.part_plane_row.new.window
    (λ (x k : ℕ). remade Analysis l.wavelets.down (is_shifted l.wavelets.down) l.w
    (λ j. padded_sample s.plane.now s.depth j (c.args.first + k)) x)
    c.part_plane_row.ensures.on c.part_plane_row.ensures.off c.loop-y.invariant

pub returns : goal.returns
returns c = λ x y a lt. c.loop-y.invariant x y a (omega (arith, lt))
