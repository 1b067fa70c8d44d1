use Rattle.std.proofs.Common.{length}
use Rattle.vc_types.specs.Fields.{joined}
use Rattle.vc_types.specs.Planes.{Planes}
use Rattle.vc_types.specs.SenderSettings.{sending_view}
use Rattle.vc_types.specs.Subbands.{share_start, slice_count}
use Rattle.vc_types.specs.TransformParameters.{parameters_of}
use Rattle.picture_encode.specs.Answering.{Answers}
use Rattle.picture_encode.specs.Encoded.{AreSlices}
use Rattle.picture_encode.specs.Grids.{HaveCoefficients}
use Rattle.picture_encode.proofs.parts.encode_parts.Given as goal

abbrev pub invariant-loop-answer : goal.invariant-loop-answer
invariant-loop-answer g l =
    (planes : Planes) → HaveCoefficients (parameters_of l.fn.plan) planes l.fn.grids
    → AreSlices (Answers g.F.Fn (sending_view l.fn.s) l.fn.chooser) l.fn.chooser.wants_lens (sending_view l.fn.s) planes 0 (share_start (slice_count (parameters_of l.fn.plan)) l.fn.parts (length l.yielded)) (joined l.runs.items)
