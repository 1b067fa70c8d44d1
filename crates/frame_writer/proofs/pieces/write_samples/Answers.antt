use Rattle.std.proofs.Common.{arith, length}
use Rattle.frame_writer.proofs.PartsOut.{taken, piece_more, piece_some}
use Rattle.frame_writer.proofs.pieces.write_samples.Goals as goal

pub pieces-preserved : goal.pieces-preserved
pieces-preserved g c =
    let piece = c.split_at-in-pieces.result.0.now in
    let is = taken c.args.samples.now c.split_at.result.1.now piece c.pieces.at _ c.split_at.ensures.back c.split_at-in-pieces.ensures.front in
    record {
      within = omega (arith, c.split_at.ensures.back_len, c.split_at-in-pieces.ensures.back_len);
      grew = piece_more c.args.two c.args.samples.now piece c.pieces.at (length piece) _ _ _ is c.pieces.invariant.grew c.in-Ok.ensures.ok;
      later = omega (arith, c.pieces.invariant.later, c.in-Ok.ensures.cause.later);
    }

pub returns-in-Err-clause-err : goal.returns-in-Err-clause-err
returns-in-Err-clause-err g c =
    let piece = c.split_at-in-pieces.result.0.now in
    let is = taken c.args.samples.now c.split_at.result.1.now piece c.pieces.at _ c.split_at.ensures.back c.split_at-in-pieces.ensures.front in
    piece_some c.args.two c.args.samples.now piece c.pieces.at (length piece) _ _ _ is c.pieces.invariant.grew c.in-Err.ensures.err
