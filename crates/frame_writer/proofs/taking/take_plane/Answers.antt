use Rattle.std.proofs.Common.{length, arith, ◌∙◌}
use Rattle.std.proofs.lemmas.List.{length-append}
use Rattle.frame_writer.specs.Taking.{GaveSamples}
use Rattle.frame_writer.proofs.Taken.{took_none, took_next, took_last, took_fewer}
use Rattle.frame_writer.proofs.taking.take_plane.Goals as goal

pub pieces-init : goal.pieces-init
pieces-init g c = record {
  within = omega arith;
  took = took_none c.args.two _;
  later = omega arith;
}

pub returns-in-End-clause-bytes : goal.returns-in-End-clause-bytes
returns-in-End-clause-bytes g c =
    rw c.byte_count-in-End.ensures
    (took_last c.args.two _ _ _ _ _ _ _ c.pieces.invariant.took (c.fill.auto.buf ∙ c.split_at_mut-piece.ensures.front_len ∙ c.byte_count.ensures) (length c.args.samples.now) c.in-End.len (omega (arith, c.pieces.auto.samples, c.split_at_mut-rest.ensures.back_len, c.split_at_mut-next.ensures.back_len)) c.in-End.ensures.bytes)

pub returns-in-Failed-clause-bytes : goal.returns-in-Failed-clause-bytes
returns-in-Failed-clause-bytes g c =
    took_fewer c.args.two _ _ _ _ _ _ _ c.pieces.invariant.took (c.fill.auto.buf ∙ c.split_at_mut-piece.ensures.front_len ∙ c.byte_count.ensures) (length c.args.samples.now) _ (omega (arith, c.pieces.auto.samples, c.split_at_mut-rest.ensures.back_len, c.split_at_mut-next.ensures.back_len)) c.in-Failed.ensures.bytes

pub pieces-preserved : goal.pieces-preserved
pieces-preserved g c =
    let samples = c.split_at_mut-rest.result.0.now in
    let took : GaveSamples c.args.two c.pieces.at (g.S.Source.left c.args.source.now) (g.S.Source.left c.pieces.source) samples = rw c.split_at_mut-rest.ensures.front c.pieces.invariant.took in
    let front = c.split_at_mut-rest.ensures.front_len in
    record {
      within = simp length-append (omega (arith, front));
      took = took_next c.args.two _ _ _ _ _ _ _ took (c.fill.auto.buf ∙ c.split_at_mut-piece.ensures.front_len ∙ c.byte_count.ensures) _ _ front c.take_samples.auto.samples c.take_samples.ensures c.in-Whole.ensures.bytes;
      later = omega (arith, c.pieces.invariant.later, c.in-Whole.ensures.cause.later);
    }
