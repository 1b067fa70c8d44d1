use Rattle.vc_types.specs.Planes.{Planes}
use Rattle.vc_types.specs.SenderSettings.{sending_view}
use Rattle.vc_types.specs.TransformParameters.{parameters_of}
use Rattle.picture_encode.specs.Answering.{Answers}
use Rattle.picture_encode.specs.Encoded.{AreSlices}
use Rattle.picture_encode.specs.Grids.{HaveCoefficients}
use Rattle.picture_encode.proofs.parts.encode_slices.Given as goal

abbrev pub invariant-loop-slice : goal.invariant-loop-slice
invariant-loop-slice g l =
    (planes : Planes) → HaveCoefficients (parameters_of l.plan) planes l.grids
    → AreSlices (Answers g.F.Fn (sending_view l.s) l.chooser) l.chooser.wants_lens (sending_view l.s) planes l.fn.part.from l.slice l.slices
