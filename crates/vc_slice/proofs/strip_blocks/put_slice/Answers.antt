use Rattle.std.proofs.Common.{arith}
use Rattle.std.proofs.lemmas.Bool.{le-ltb}
use Rattle.vc_types.specs.TransformParameters.{parameters_of}
use Rattle.vc_slice.specs.Coded.{coded_of}
use Rattle.vc_slice.proofs.StripBlocks.{one-decoded}
use Rattle.vc_slice.proofs.strip_blocks.put_slice.Goals as goal

pub returns-clause-value : goal.returns-clause-value
returns-clause-value c =
    let run = c.args.run.now in
    let n = c.args.parts.now.slice in
    one-decoded (parameters_of run.plan) run.first run.count n (coded_of c.parts_of-coded.result) c.args.y.now c.args.c1.now c.args.c2.now c.strip_blocks.new.y c.strip_blocks.new.c1 c.strip_blocks.new.c2 c.args.bytes.now
    c.strip_blocks.result (le-ltb 127 c.parts_of-coded.result.index (omega arith)) (rw c.requires.own.plan at (c.parts_of-coded.ensures.decoded n)) (rw c.requires.own.plan at c.strip_blocks.ensures.filled) (rw c.requires.own.plan at c.strip_blocks.ensures.sound)
