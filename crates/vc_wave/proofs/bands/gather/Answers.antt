use Rattle.std.proofs.Common.{◌+◌, ◌*◌, ◌≤◌, arith, ◌∙◌}
use Rattle.std.proofs.Math.Nat.{mul-le-mul_right}
use Rattle.vc_wave.specs.Parts.{subbands_of}
use Rattle.vc_wave.proofs.BandRows.{pair_more, pair_small}
use Rattle.vc_wave.proofs.LowCells.{all_within}
use Rattle.vc_wave.proofs.PlaneSteps.{plane_in}
use Rattle.vc_wave.proofs.bands.gather.Goals as goal

pub gather_pair-seen-requires-clause-room : goal.gather_pair-seen-requires-clause-room
gather_pair-seen-requires-clause-room c =
    let w = c.args.subbands.now.level.w in
    let past : 2 * (c.loop-n.n + 1) * (2 * w) ≤ 2 * c.args.pairs * (2 * w) =
    mul-le-mul_right (2 * w) (omega (arith, c.loop-n-test.true)) in
    omega (arith, past, c.requires.window, c.loop-n.auto.window)

pub loop-n-preserved : goal.loop-n-preserved
loop-n-preserved c =
    let s = c.args.subbands.now in
    let pair = c.gather_pair-seen.ensures in
    record {
      made = pair_more s.level.w s.level.h c.loop-n.n c.args.first (subbands_of s) c.loop-n.window
          c.gather_pair-seen.new.window pair.low pair.high pair.off c.loop-n.invariant.made;
      small = pair_small s.level.w s.level.h c.loop-n.n c.args.first c.max-most.result (subbands_of s)
          (λ x a. omega (arith, pair.low_small x a, c.max-most.ensures))
          (λ x a. omega (arith, pair.high_small x a, c.max-most.ensures))
          (λ x k a lt. omega (arith, c.loop-n.invariant.small x k a lt, c.max-most.ensures));
    }

pub returns-clause-made : goal.returns-clause-made
returns-clause-made c = λ x k a lt. plane_in (2 * c.args.subbands.now.level.w) c.loop-n.window x k a
    ∙ c.loop-n.invariant.made x k a (omega (arith, lt))

pub returns-clause-within : goal.returns-clause-within
returns-clause-within c =
    let l = c.args.subbands.now.level in
    all_within (2 * l.w) (2 * c.args.pairs) c.loop-n.most c.loop-n.window (omega (arith, l.some_columns))
    (omega (arith, c.requires.window, c.loop-n.auto.window))
    (λ x k a lt. rw (returns-clause-made c x k a lt) (c.loop-n.invariant.small x k a (omega (arith, lt))))
