use Rattle.std.proofs.Common.{length, arith, true, inl, inr}
use Rattle.std.proofs.lemmas.Bool.{cases_eq}
use Rattle.vc_wave.specs.Lines.{line_at}
use Rattle.vc_wave.specs.Remade.{half_place}
use Rattle.vc_wave.proofs.Copies.{placed_inside, gathered_more}
use Rattle.vc_wave.proofs.long.gather.Goals as goal

pub overflow_add-start : goal.overflow_add-start
overflow_add-start c =
    let place = c.sample_place.ensures in
    let within = rw (← place) at
    (placed_inside c.args.lines.now
    (length c.args.cells.now) c.requires.inside true c.loop-k.k c.loop-k-test.true) in
    omega (arith, within)

pub copy_in-requires-clause-start : goal.copy_in-requires-clause-start
copy_in-requires-clause-start c =
    rw c.sample_place.ensures
    (placed_inside c.args.lines.now
    (length c.args.cells.now) c.requires.inside true c.loop-k.k c.loop-k-test.true)

pub loop-k-preserved : goal.loop-k-preserved
loop-k-preserved c =
    let lines = c.args.lines.now in
    let small = rw c.sample_place.ensures at c.copy_in.ensures.small in
    record {
      value = gathered_more lines.width c.loop-k.k c.loop-k.block c.copy_in.new.block
          (λ x j. line_at c.args.cells.now lines x (half_place lines.half j))
          (rw c.sample_place.ensures at c.copy_in.ensures.on) c.copy_in.ensures.off c.loop-k.invariant.value;
      small = λ x j h lt. elim (cases_eq j c.loop-k.k) [
        | inl e ↦ rw e (small x h)
        | inr ne ↦ c.loop-k.invariant.small x j h (omega arith)
      ];
    }
