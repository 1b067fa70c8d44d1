use Rattle.vc_types.specs.SenderSettings.{sending_view}
use Rattle.picture_encode.proofs.PlanFacts.{some_levels, few_levels, slice_bytes, padded_luma}
use Rattle.picture_encode.proofs.plan.plan_with.Goals as goal

pub invariant_of-result : goal.invariant_of-result
invariant_of-result c =
    let s = c.args.s.now in
    record {
      shape_is_coded = c.requires.fits;
      wavelet_is_known = s.wavelet_is_known;
      wavelet_ho_is_known = s.wavelet_is_known;
      some_levels = some_levels s.depth s.levels;
      few_levels = few_levels s.depth s.levels;
      slices = s.slices;
      slice_bytes = slice_bytes s.prefix s.scaler s.prefix_fits s.scaler_fits;
      padded_luma = padded_luma (sending_view s) c.args.shape c.requires.shape s.padded_luma;
      matrix_values = c.matrix.ensures.fits;
      unused_entries = c.matrix.ensures.unused;
    }
