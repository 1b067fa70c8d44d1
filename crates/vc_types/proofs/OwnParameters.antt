-- Transform parameters depend on nothing but their own bits, and on nothing but their own bytes.
use Rattle.std.proofs.Common.{ℕ, zero, suc, ◌+◌, ◌-◌, ◌^◌, Bool, true, false, List, [], ◌∷◌, Option, Some, None}
use Rattle.std.specs.Prelude.{if◌then◌else◌, nat_le, ◌==◌, ◌&&◌}
use Rattle.vc_types.specs.declared.refusal.ParamsRefusal.TheVariants as refusals
use Rattle.vc_types.specs.Fields.{give, refuse, tested, flag, behind_flag}
use Rattle.vc_types.specs.Limits.{slices_fit, padded_luma_fits}
use Rattle.vc_types.specs.Quantisation.{filled_matrix, subband_count}
use Rattle.vc_types.specs.SequenceHeader.{Sequence, picture_shape}
use Rattle.vc_types.specs.TransformParameters.{ParamsField, Transform, number, wavelet_index, wavelet_depth, extended_parameters, slice_counts, prefix_bytes, size_scaler, matrix_value, matrix_values, matrix_by_default, default_of, quantisation_matrix, wavelet_transform, with_matrix, transform_parameters}
use Rattle.vc_types.proofs.OwnBits.{ReadsOwn, give_own, refuse_own, then_own, tested_own, next_own, number_own, behind_flag_own}

one_number : ReadsOwn number
unfolding number
one_number = number_own refusals.Short refusals.TooLarge (2 ^ 32 - 1)

wavelet_own : ReadsOwn wavelet_index
unfolding wavelet_index
wavelet_own = tested_own (λ n. nat_le n 6) refusals.Wavelet number one_number

depth_own : ReadsOwn wavelet_depth
unfolding wavelet_depth
depth_own = tested_own (λ n. nat_le 1 n && nat_le n 5) refusals.Depth number one_number

choice_own : {X : Type 0} (b : Bool) (field other : ParamsField X) → ReadsOwn field → ReadsOwn other → ReadsOwn (if b then field else other)
choice_own true field other p q = p
choice_own false field other p q = q

extended_own : (major wavelet depth : ℕ) → ReadsOwn (extended_parameters major wavelet depth)
unfolding extended_parameters
extended_own major wavelet depth = choice_own (major == 3) _ (give (wavelet, 0))
    (then_own (behind_flag refusals.Short wavelet wavelet_index) _ (behind_flag_own refusals.Short wavelet wavelet_index wavelet_own)
    (λ across. then_own (behind_flag refusals.Short 0 (tested (λ n. nat_le (depth + n) 5) refusals.Depth number)) (λ levels. give (across, levels)) (behind_flag_own refusals.Short 0 (tested (λ n. nat_le (depth + n) 5) refusals.Depth number) (tested_own (λ n. nat_le (depth + n) 5) refusals.Depth number one_number))
    (λ levels. give_own (across, levels))))
    (give_own (wavelet, 0))

counts_own : ReadsOwn slice_counts
unfolding slice_counts
counts_own = tested_own (λ n. slices_fit n.0 n.1) refusals.Slices _ (then_own number _ one_number (λ across. then_own number (λ down. give (across, down)) one_number (λ down. give_own (across, down))))

prefix_own : ReadsOwn prefix_bytes
unfolding prefix_bytes
prefix_own = tested_own (λ n. nat_le n 65535) refusals.SliceBytes number one_number

scaler_own : ReadsOwn size_scaler
unfolding size_scaler
scaler_own = tested_own (λ n. nat_le 1 n && nat_le n 65535) refusals.SliceBytes number one_number

value_own : ReadsOwn matrix_value
unfolding matrix_value
value_own = tested_own (λ n. nat_le n 127) refusals.Matrix number one_number

values_own : (n : ℕ) → ReadsOwn (matrix_values n)
unfolding matrix_values
values_own zero = give_own []
values_own (suc n) = then_own matrix_value _ value_own (λ value. then_own (matrix_values n) (λ values. give (value ∷ values)) (values_own n) (λ values. give_own (value ∷ values)))

default_own : (matrix : Option (List ℕ)) → ReadsOwn (matrix_by_default matrix)
default_own None = refuse_own refusals.NoDefault
default_own (Some matrix) = give_own matrix

matrix_own : (wavelet depth : ℕ) (across : ℕ × ℕ) → ReadsOwn (quantisation_matrix wavelet depth across)
unfolding quantisation_matrix
matrix_own wavelet depth across =
    let count = subband_count across.1 depth in
    let default = default_of wavelet depth across in
    then_own (flag refusals.Short) _ (next_own refusals.Short)
    (λ custom. choice_own custom _ (matrix_by_default default) (then_own (matrix_values count) (λ values. give (filled_matrix values)) (values_own count) (λ values. give_own (filled_matrix values))) (default_own default))

pub transform_own : (major : ℕ) → ReadsOwn (wavelet_transform major)
unfolding wavelet_transform
transform_own major =
    then_own wavelet_index _ wavelet_own (λ wavelet.
    then_own wavelet_depth _ depth_own (λ depth.
    then_own (extended_parameters major wavelet depth) _ (extended_own major wavelet depth) (λ across.
    give_own _)))

pub with_matrix_own : (sequence : Sequence) (t : Transform) (slices slice_bytes : ℕ × ℕ)
    → ReadsOwn (with_matrix sequence t slices slice_bytes)
unfolding with_matrix
with_matrix_own sequence t slices slice_bytes =
    let matrix_field = quantisation_matrix t.wavelet t.depth t.across in
    then_own matrix_field _ (matrix_own t.wavelet t.depth t.across) (λ matrix.
    choice_own (padded_luma_fits (picture_shape sequence) t.across.1 t.depth) _
    (refuse refusals.TooLarge) (give_own _) (refuse_own refusals.TooLarge))

pub parameters_own : (sequence : Sequence) → ReadsOwn (transform_parameters sequence)
unfolding transform_parameters
parameters_own sequence =
    then_own (wavelet_transform sequence.major) _ (transform_own sequence.major) (λ transform.
    then_own slice_counts _ counts_own (λ slices.
    then_own prefix_bytes _ prefix_own (λ prefix.
    then_own size_scaler _ scaler_own (λ scaler.
    with_matrix_own sequence transform slices (prefix, scaler)))))
