-- Parameters of a plan are spelled in the encoder's way, and read again.
use Rattle.std.proofs.Common.{◌≡◌, ℕ, ◌+◌, ◌-◌, ◌≤◌, ◌%◌, Bool, true, false, cond, eqb, List, [], ◌++◌, length, take, replicate, Option, Some, None, Ok, refl, sym, ap, subst, ◌∙◌, length-append, arith}
use Rattle.std.specs.Prelude.{IsTrue, IsSome, MatchOption, unwrap_or}
use Rattle.std.specs.Str.{bytes_eq}
use Rattle.std.proofs.lemmas.Bool.{and_parts, eqb-true, eq-eqb, true≢false}
use Rattle.std.proofs.lemmas.List.{length-take-le}
use Rattle.std.proofs.lemmas.Slice.Eq.{bytes_eq-Decides}
use Rattle.vc_types.specs.Bits.{bits_of}
use Rattle.vc_types.specs.Fields.{filled_up, flagged_value}
use Rattle.vc_types.specs.Limits.{slices_fit, slice_bytes_fit, padded_luma_fits, matrix_fits}
use Rattle.vc_types.specs.ParameterSpelling.{parameter_bits, across_of, spelled_parameters, MayCode, IsMatrix, AreParameters, is_default, coded_unless, default_for, encoder_parameters}
use Rattle.vc_types.specs.Quantisation.{filled_matrix, subband_count, used_entries}
use Rattle.vc_types.specs.SequenceHeader.{Sequence, picture_shape}
use Rattle.vc_types.specs.TransformParameters.{Parameters, is_symmetric, default_of, coded_parameters}
use Rattle.vc_types.specs.declared.shape.Shape.{Shape}
use Rattle.vc_types.proofs.CodedBytes.{read_again}
use Rattle.vc_types.proofs.Matrices.{matrix_fits-take}
use Rattle.vc_types.proofs.ParameterCodecs.{parameters_are}
use Rattle.vc_types.proofs.WrittenHeaders.{filled_less}

-- what a plan keeps
pub record IsPlan (p : Parameters) : Type 0 where
  pub wavelet : p.wavelet ≤ 6
  pub wavelet_ho : p.wavelet_ho ≤ 6
  pub some_levels : 1 ≤ p.depth
  pub few_levels : p.depth + p.depth_ho ≤ 5
  pub slices : IsTrue (slices_fit p.slices_x p.slices_y)
  pub slice_bytes : IsTrue (slice_bytes_fit p.prefix p.scaler)
  pub padded_luma : IsTrue (padded_luma_fits p.shape p.depth_ho p.depth)
  pub values : IsTrue (matrix_fits p.matrix)
  pub ends : filled_matrix (used_entries p.depth_ho p.depth p.matrix) ≡ p.matrix

-- ---- the parts across

coded_value : (n default : ℕ) → unwrap_or (coded_unless n default) default ≡ n
coded_value n default = chosen (eqb n default) refl
  where
    chosen : (b : Bool) → eqb n default ≡ b → unwrap_or (cond b None (Some n)) default ≡ n
    chosen true e = sym (eqb-true n default e)
    chosen false e = refl

across_value : (p : Parameters) → across_of (encoder_parameters p) ≡ (p.wavelet_ho, p.depth_ho)
across_value p =
    ap (λ (n : ℕ). (n, unwrap_or (coded_unless p.depth_ho 0) 0)) (coded_value p.wavelet_ho p.wavelet)
    ∙ ap (λ (n : ℕ). (p.wavelet_ho, n)) (coded_value p.depth_ho 0)

-- a part that is coded is one of a transform that isn't symmetric
may_code : (p : Parameters) (major : ℕ) → (is_symmetric p ≡ false → major ≡ 3) → MayCode (eqb major 3) (coded_unless p.wavelet_ho p.wavelet, coded_unless p.depth_ho 0)
may_code p major version = chosen (eqb major 3) refl (is_symmetric p) refl
  where
    chosen : (b : Bool) → eqb major 3 ≡ b → (s : Bool) → is_symmetric p ≡ s → MayCode b (coded_unless p.wavelet_ho p.wavelet, coded_unless p.depth_ho 0)
    chosen true three s is = tt
    chosen false two true is =
        let same = and_parts (eqb p.wavelet_ho p.wavelet) (eqb p.depth_ho 0) is in
        (ap (λ (b : Bool). cond b None (Some p.wavelet_ho)) same.0, ap (λ (b : Bool). cond b None (Some p.depth_ho)) same.1)
    chosen false two false is = absurd (true≢false (sym (eq-eqb major 3 (version is)) ∙ two))

-- ---- the matrix as it is spelled, and what that stands for

abbrev SpellsMatrix : ℕ → Option (List ℕ) → List ℕ → Option (List ℕ) → Type 0
SpellsMatrix count default matrix spelled = MatchOption spelled (IsSome default) (IsMatrix count) × (flagged_value (unwrap_or default []) filled_matrix spelled ≡ matrix)

module _ (count : ℕ) (matrix : List ℕ) (few : count ≤ 16) (values : IsTrue (matrix_fits matrix)) (ends : filled_matrix (take count matrix) ≡ matrix) where
  long_enough : count ≤ length matrix
  long_enough =
      let long : length (filled_matrix (take count matrix)) ≡ 16 = length-take-le 16 (take count matrix ++ replicate 16 0) (omega (arith, length-append (take count matrix) (replicate 16 0))) in
      let same : length matrix ≡ 16 = sym (ap length ends) ∙ long in
      omega arith

  custom_spelled : (default : Option (List ℕ)) → SpellsMatrix count default matrix (Some (take count matrix))
  custom_spelled default = (record { many = length-take-le count matrix long_enough; small = matrix_fits-take count matrix values }, ends)

  matrix_spelled : (default : Option (List ℕ)) → SpellsMatrix count default matrix (cond (is_default default matrix) None (Some (take count matrix)))
  matrix_spelled None = custom_spelled None
  matrix_spelled (Some default) = chosen (bytes_eq default matrix) refl
    where
      chosen : (b : Bool) → bytes_eq default matrix ≡ b → SpellsMatrix count (Some default) matrix (cond b None (Some (take count matrix)))
      chosen true same = (refl, (bytes_eq-Decides default matrix).0 same)
      chosen false other = custom_spelled (Some default)

-- ---- the whole parameters

abbrev parameters_with : Parameters → Shape → ℕ × ℕ → List ℕ → Parameters
parameters_with p shape across matrix = record p { shape = shape; wavelet_ho = across.0; depth_ho = across.1; matrix = matrix }

-- What is written of a plan is read again, whatever follows.
pub parameters_again : (sequence : Sequence) (p : Parameters) (bytes behind : List ℕ) → IsPlan p → (is_symmetric p ≡ false → sequence.major ≡ 3) → picture_shape sequence ≡ p.shape → bits_of bytes ≡ filled_up (parameter_bits sequence.major (encoder_parameters p)) → coded_parameters sequence (bytes ++ behind) ≡ Ok (p, length bytes)
parameters_again sequence p bytes behind plan version shape written =
    let few = plan.few_levels in
    let bits : List Bool = parameter_bits sequence.major (encoder_parameters p) in
    let coded : Option (List ℕ) = (encoder_parameters p).matrix in
    let across = across_value p in
    let matrix = matrix_spelled (subband_count p.depth_ho p.depth) p.matrix (omega (arith, few)) plan.values plan.ends (default_for p) in
    let accepted : AreParameters sequence (encoder_parameters p) = record {
      wavelet = plan.wavelet;
      wavelet_ho = subst (λ (x : ℕ × ℕ). x.0 ≤ 6) (sym across) plan.wavelet_ho;
      some_levels = plan.some_levels;
      few_levels = subst (λ (x : ℕ × ℕ). p.depth + x.1 ≤ 5) (sym across) few;
      extension = may_code p sequence.major version;
      slices = plan.slices;
      slice_bytes = plan.slice_bytes;
      matrix = subst (λ (x : ℕ × ℕ). MatchOption coded (IsSome (default_of p.wavelet p.depth x)) (IsMatrix (subband_count x.1 p.depth))) (sym across) matrix.0;
      padded_luma = subst (λ (x : ℕ × ℕ). IsTrue (padded_luma_fits (picture_shape sequence) x.1 p.depth)) (sym across) (subst (λ (s : Shape). IsTrue (padded_luma_fits s p.depth_ho p.depth)) (sym shape) plan.padded_luma);
    } in
    let value : spelled_parameters sequence (encoder_parameters p) ≡ p =
    ap (λ (x : ℕ × ℕ). parameters_with p (picture_shape sequence) x (flagged_value (unwrap_or (default_of p.wavelet p.depth x) []) filled_matrix coded)) across
    ∙ ap (λ (m : List ℕ). parameters_with p (picture_shape sequence) (p.wavelet_ho, p.depth_ho) m) matrix.1
    ∙ ap (λ (s : Shape). parameters_with p s (p.wavelet_ho, p.depth_ho) p.matrix) shape in
    read_again bytes behind (encoder_parameters p) (replicate ((8 - length bits % 8) % 8) false) (parameters_are sequence) accepted written (filled_less bits) ∙ ap (λ (q : Parameters). Ok (q, length bytes)) value
