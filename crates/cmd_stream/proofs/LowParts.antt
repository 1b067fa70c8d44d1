-- A low-delay picture's own bytes: its transform parameters, and the slices behind them.
use Rattle.std.proofs.Common.{◌≡◌, ℕ, ◌≤◌, Bool, true, false, List, length, drop, Result, Ok, Err, Option, Some, None, refl, sym, ap, subst, ◌∙◌, arith}
use Rattle.std.specs.Prelude.{if◌then◌else◌, IfOk, IfSome}
use Rattle.std.specs.Option.{option_map}
use Rattle.vc_types.specs.Bits.{bits_of}
use Rattle.vc_types.specs.Fields.{◌>>=◌, give}
use Rattle.vc_types.specs.Planes.{Planes, planes_in}
use Rattle.vc_types.specs.Rasters.{Raster}
use Rattle.vc_types.specs.SequenceHeader.{Sequence, bytes_used, picture_shape, with_bytes_used}
use Rattle.vc_types.specs.Slices.{Coefficients}
use Rattle.vc_types.specs.TransformParameters.{Parameters, ParamsField, Transform, parameters_of, slice_counts, with_matrix}
use Rattle.vc_types.specs.declared.refusal.ParamsRefusal.{ParamsRefusal}
use Rattle.vc_types.specs.declared.shape.Shape.{Shape}
use Rattle.vc_types.proofs.FieldCodecs.{and_then_ok, ok_is}
use Rattle.vc_types.proofs.ParameterCodecs.{with_matrix_is}
use Rattle.vc_ports.proofs.Given.{some_is}
use Rattle.frame_writer.specs.Shapes.{HaveShape}
use Rattle.picture_build.proofs.BuiltShapes.{own_shape}
use Rattle.vc_lowdelay.specs.Grown.{grown_slices}
use Rattle.vc_lowdelay.specs.LowDelay.{LowParameters, coded_low_parameters, decoded_low_planes, if_decoded, low_bytes, low_planes, low_planes_of, low_slices, low_transform_parameters, symmetric_transform, with_low_parameters}
use Rattle.vc_lowdelay.specs.OfPlan.{low_parameters_of}
use Rattle.vc_lowdelay.specs.declared.plan.LowPlan.{LowPlan}
use Rattle.vc_lowdelay.specs.declared.refusal.LowRefusal.{LowRefusal}
use Rattle.vc_lowdelay.specs.declared.refusal.LowRefusal.TheVariants.{Short, CoefficientRange}
use Rattle.vc_lowdelay.proofs.GrownPictures.{grown_planes}
use Rattle.vc_lowdelay.proofs.LowAnswers.{length-low_slices, low_counts}
use Rattle.vc_lowdelay.proofs.SliceStarts.{across, down}

-- ---- the parameters have the shape of the sequence's pictures

module _ (s : Sequence) where
  abbrev Read : Type 0
  Read = LowParameters × List Bool

  abbrev with_fraction : Transform → ℕ × ℕ → ℕ × ℕ → ParamsField LowParameters
  with_fraction t slices fraction =
      with_matrix s t slices (0, 1) >>= λ parameters. give (record { parameters = parameters; numerator = fraction.0; denominator = fraction.1 })

  abbrev with_slices : Transform → ℕ × ℕ → ParamsField LowParameters
  with_slices t slices = low_bytes >>= with_fraction t slices

  abbrev with_transform : Transform → ParamsField LowParameters
  with_transform t = slice_counts >>= with_slices t

  matrix_shape : (t : Transform) (slices sizes : ℕ × ℕ) (bits : List Bool) (p : Parameters) (left : List Bool) → with_matrix s t slices sizes bits ≡ Ok (p, left) → p.shape ≡ picture_shape s
  matrix_shape t slices sizes bits p left e =
      let taken = (with_matrix_is s t slices sizes).takes bits p left e in
      ap (λ (q : Parameters). q.shape) (sym taken.2)

  read_shape : (bits : List Bool) (x : Read) → low_transform_parameters s bits ≡ Ok x → x.0.parameters.shape ≡ picture_shape s
  unfolding low_transform_parameters
  read_shape bits x e =
      let a = and_then_ok (symmetric_transform s.major bits) (λ read. with_transform read.0 read.1) x e in
      let b = and_then_ok (slice_counts a.0.1) (λ read. with_slices a.0.0 read.0 read.1) x a.2 in
      let c = and_then_ok (low_bytes b.0.1) (λ read. with_fraction a.0.0 b.0.0 read.0 read.1) x b.2 in
      let whole : Parameters × List Bool → Read =
      λ (read : Parameters × List Bool). (record { parameters = read.0; numerator = c.0.0.0; denominator = c.0.0.1 }, read.1) in
      let d = and_then_ok (with_matrix s a.0.0 b.0.0 (0, 1) c.0.1) (λ read. Ok (whole read)) x c.2 in
      ap (λ (y : Read). y.0.parameters.shape) (sym (ok_is {E = ParamsRefusal} (whole d.0) x d.2))
      ∙ matrix_shape a.0.0 b.0.0 (0, 1) c.0.1 d.0.0 d.0.1 d.1

-- ---- the parameters that were read, and what they make of the bytes

module _ (s : Sequence) (bytes : List ℕ) where
  abbrev bits_read : Result (LowParameters × List Bool) ParamsRefusal
  bits_read = low_transform_parameters s (bits_of bytes)

  pub record Reads (p : LowParameters) (used : ℕ) : Type 0 where
    pub within : used ≤ length bytes
    pub shape : p.parameters.shape ≡ picture_shape s
    pub planes : decoded_low_planes s bytes ≡ if_decoded (low_planes p (drop used bytes))

  reads : (p : LowParameters) (used : ℕ) (read : Result (LowParameters × List Bool) ParamsRefusal) → bits_read ≡ read → with_bytes_used bytes read ≡ Ok (p, used) → Reads p used
  unfolding decoded_low_planes
  reads p used (Err refusal) is e = absurd cc
  reads p used (Ok read) is e =
      let same : (read.0, bytes_used bytes read.1) ≡ (p, used) = ok_is {E = ParamsRefusal} (read.0, bytes_used bytes read.1) (p, used) e in
      let own = ap (λ (x : LowParameters × ℕ). x.0) same in
      let taken = ap (λ (x : LowParameters × ℕ). x.1) same in
      record {
        within = omega (arith, taken);
        shape = ap (λ (q : LowParameters). q.parameters.shape) (sym own) ∙ read_shape s (bits_of bytes) read is;
        planes = ap (with_low_parameters bytes) is ∙ ap (λ (x : LowParameters × ℕ). if_decoded (low_planes x.0 (drop x.1 bytes))) same;
      }

  refused : (refusal : ParamsRefusal) (read : Result (LowParameters × List Bool) ParamsRefusal) → bits_read ≡ read → with_bytes_used bytes read ≡ Err refusal → decoded_low_planes s bytes ≡ None
  unfolding decoded_low_planes
  refused refusal (Ok read) is e = absurd cc
  refused refusal (Err why) is e = ap (with_low_parameters bytes) is

  pub low-reads : (p : LowParameters) (used : ℕ) → coded_low_parameters s bytes ≡ Ok (p, used) → Reads p used
  low-reads p used e = reads p used bits_read refl e

  pub low-within : (p : LowParameters) (used : ℕ) → coded_low_parameters s bytes ≡ Ok (p, used) → used ≤ length bytes
  low-within p used e = (low-reads p used e).within

  -- no parameters
  pub low-refused : (refusal : ParamsRefusal) → coded_low_parameters s bytes ≡ Err refusal → None ≡ decoded_low_planes s bytes
  low-refused refusal e = sym (refused refusal bits_read refl e)

  -- the planes of the slices behind the parameters
  pub low-built : {E : Type 0} (p : LowParameters) (used : ℕ) (slices : List ℕ) (result : Result (Option (List Raster)) E) → coded_low_parameters s bytes ≡ Ok (p, used) → slices ≡ drop used bytes
      → IfOk result (λ planes. option_map planes_in planes ≡ if_decoded (low_planes p slices)) → IfOk result (λ planes. option_map planes_in planes ≡ decoded_low_planes s bytes)
  low-built p used slices (Ok planes) e behind is = is ∙ ap (λ (rest : List ℕ). if_decoded (low_planes p rest)) behind ∙ sym (low-reads p used e).planes
  low-built p used slices (Err why) e behind is = is

-- ---- the planes have its shape

by_tests : (short large : Bool) (own planes : Planes) → ◌≡◌ {A = Result Planes LowRefusal} (if short then Err Short else if large then Err CoefficientRange else Ok own) (Ok planes) → own ≡ planes
by_tests true large own planes e = absurd cc
by_tests false true own planes e = absurd cc
by_tests false false own planes e = ok_is {E = LowRefusal} own planes e

planes_are : (p : LowParameters) (bytes : List ℕ) (planes : Planes) → low_planes p bytes ≡ Ok planes → low_planes_of p.parameters (low_slices p bytes) ≡ planes
unfolding low_planes
planes_are p bytes planes e = by_tests _ _ _ planes e

module _ (p : LowPlan) (bytes : List ℕ) where
  abbrev own : Parameters
  own = parameters_of p.plan

  abbrev slices_own : List Coefficients
  slices_own = low_slices (low_parameters_of p) bytes

  planes_shaped : (shape : Shape) (planes : Planes) → own.shape ≡ shape → low_planes (low_parameters_of p) bytes ≡ Ok planes → HaveShape shape planes
  planes_shaped shape planes same e =
      let grown = grown_planes own (across p) (down p) slices_own (length-low_slices (low_parameters_of p) bytes) (low_counts (low_parameters_of p) bytes) in
      subst (λ (s : Shape). HaveShape s planes) same
      (subst (HaveShape own.shape) (grown ∙ planes_are (low_parameters_of p) bytes planes e) (own_shape own (grown_slices own slices_own) p.plan.shape_is_coded))

  by_found : (shape : Shape) (planes : Planes) (found : Result Planes LowRefusal) → own.shape ≡ shape → low_planes (low_parameters_of p) bytes ≡ found → Some planes ≡ if_decoded found → HaveShape shape planes
  by_found shape planes (Ok own_planes) same is e = planes_shaped shape planes same (is ∙ ap (λ (q : Planes). Ok q) (sym (some_is planes own_planes e)))
  by_found shape planes (Err refusal) same is e = absurd cc

  pub low-shaped : {E : Type 0} (result : Result (Option (List Raster)) E) (shape : Shape) → own.shape ≡ shape
      → IfOk result (λ planes. option_map planes_in planes ≡ if_decoded (low_planes (low_parameters_of p) bytes)) → IfOk result (λ planes. IfSome planes (λ q. HaveShape shape (planes_in q)))
  low-shaped (Ok None) shape same is = tt
  low-shaped (Ok (Some planes)) shape same is = by_found shape (planes_in planes) (low_planes (low_parameters_of p) bytes) same refl is
  low-shaped (Err why) shape same is = is
