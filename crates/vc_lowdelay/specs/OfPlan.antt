-- The words of definitions for a low-delay plan: what they say of its parameters.
use Rattle.std.specs.Prelude.{ℕ}
use Rattle.vc_types.specs.TransformParameters.{Transform, parameters_of}
use Rattle.vc_types.specs.Subbands as subbands
use Rattle.vc_lowdelay.specs.declared.plan.LowPlan.{LowPlan}
use Rattle.vc_lowdelay.specs.LowDelay as low

abbrev pub low_parameters_of : LowPlan → low.LowParameters
low_parameters_of p = record {
  parameters = parameters_of p.plan;
  numerator = p.numerator;
  denominator = p.denominator;
}

abbrev pub slice_count : LowPlan → ℕ
slice_count p = subbands.slice_count (parameters_of p.plan)

-- where a slice begins among the bytes of all slices
abbrev pub slice_start : LowPlan → ℕ → ℕ
slice_start p = low.low_slice_start p.numerator p.denominator

abbrev pub slice_size : LowPlan → ℕ → ℕ
slice_size p = low.low_slice_bytes p.numerator p.denominator

-- how many bytes all slices have
abbrev pub picture_size : LowPlan → ℕ
picture_size p = slice_start p (slice_count p)

-- a wavelet and a depth, across as down
abbrev pub transform_of : ℕ → ℕ → Transform
transform_of wavelet depth =
    record { wavelet = wavelet; depth = depth; across = (wavelet, 0) }
