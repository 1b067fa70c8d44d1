-- A picture's own bytes: its transform parameters, and the slices behind them.
use Rattle.std.proofs.Common.{◌≡◌, ℕ, ◌≤◌, List, length, drop, Ok, Err, Some, None, refl, sym, ap, ◌∙◌, subst, arith}
use Rattle.std.specs.Prelude.{Result, Bool, Option, IfOk, IfSome, IsTrue}
use Rattle.std.specs.Option.{option_map}
use Rattle.std.proofs.lemmas.Grind.{common_steps}
use Rattle.vc_types.specs.declared.refusal.ParamsRefusal.{ParamsRefusal}
use Rattle.vc_types.specs.Bits.{bits_of}
use Rattle.vc_types.specs.Pictures.{decoded_picture, slices_from, with_parameters, with_slices}
use Rattle.vc_types.specs.Planes.{planes_in, planes_of, decoded_planes}
use Rattle.vc_types.specs.Rasters.{Raster}
use Rattle.vc_types.specs.Limits.{shape_fits}
use Rattle.vc_types.specs.declared.shape.Shape.{Shape}
use Rattle.vc_types.specs.SequenceHeader.{Sequence, with_bytes_used}
use Rattle.vc_types.specs.Slices.{Coefficients}
use Rattle.vc_types.specs.Subbands.{slice_count}
use Rattle.vc_types.specs.TransformParameters.{Parameters, transform_parameters, coded_parameters}
use Rattle.frame_writer.specs.Shapes.{HaveShape}
use Rattle.cmd_stream.specs.Slices.{IsBuilt}
use Rattle.picture_build.proofs.BuiltShapes.{built-shape}

ok_is : {A E : Type 0} (a b : A) → ◌≡◌ {A = Result A E} (Ok a) (Ok b) → a ≡ b
ok_is a b same = cc

module _ (s : Sequence) (bytes : List ℕ) where
  -- parameters that were read, and what they make of the bytes
  record Reads (p : Parameters) (used : ℕ) : Type 0 where
    within : used ≤ length bytes
    picture : decoded_picture s bytes ≡ with_slices p (slices_from p 0 (slice_count p) (drop used bytes))

  reads : (p : Parameters) (used : ℕ) (read : Result (Parameters × List Bool) ParamsRefusal) → transform_parameters s (bits_of bytes) ≡ read → with_bytes_used bytes read ≡ Ok (p, used) → Reads p used
  unfolding decoded_picture
  reads p used (Err refusal) is e = absurd cc
  reads p used (Ok read) is e = grind (arith, common_steps, ok_is)

  refused : (refusal : ParamsRefusal) (read : Result (Parameters × List Bool) ParamsRefusal) → transform_parameters s (bits_of bytes) ≡ read → with_bytes_used bytes read ≡ Err refusal → decoded_picture s bytes ≡ None
  unfolding decoded_picture
  refused refusal (Ok read) is e = absurd cc
  refused refusal (Err why) is e = ap (with_parameters bytes) is

  pub used-within : (p : Parameters) (used : ℕ) → coded_parameters s bytes ≡ Ok (p, used) → used ≤ length bytes
  used-within p used e = (reads p used (transform_parameters s (bits_of bytes)) refl e).within

  pub planes-refused : (refusal : ParamsRefusal) → coded_parameters s bytes ≡ Err refusal → decoded_planes s bytes ≡ None
  unfolding decoded_planes
  planes-refused refusal e = rw (refused refusal (transform_parameters s (bits_of bytes)) refl e) refl

  pub planes-unsound : (p : Parameters) (used : ℕ) → coded_parameters s bytes ≡ Ok (p, used) → slices_from p 0 (slice_count p) (drop used bytes) ≡ Err tt → decoded_planes s bytes ≡ None
  unfolding decoded_planes
  planes-unsound p used e none = rw ((reads p used (transform_parameters s (bits_of bytes)) refl e).picture, none) refl

  pub planes-sound : (p : Parameters) (used : ℕ) (slices : List Coefficients) (rest : List ℕ) → coded_parameters s bytes ≡ Ok (p, used) → slices_from p 0 (slice_count p) (drop used bytes) ≡ Ok (slices, rest)
      → decoded_planes s bytes ≡ Some (planes_of p slices)
  unfolding decoded_planes
  planes-sound p used slices rest e all = rw ((reads p used (transform_parameters s (bits_of bytes)) refl e).picture, all) refl

  -- the planes that were built behind the parameters
  pub planes-built : {E : Type 0} (p : Parameters) (used : ℕ) (slices : List ℕ) (result : Result (Option (List Raster)) E) → coded_parameters s bytes ≡ Ok (p, used) → slices ≡ drop used bytes
      → IfOk result (IsBuilt p slices) → IfOk result (λ planes. option_map planes_in planes ≡ decoded_planes s bytes)
  planes-built p used slices (Ok None) e behind is = sym (planes-unsound p used e (subst (λ (rest : List ℕ). slices_from p 0 (slice_count p) rest ≡ Err tt) behind is))
  planes-built p used slices (Ok (Some planes)) e behind is =
      ap Some is.2 ∙ sym (planes-sound p used is.0.0 is.0.1 e (subst (λ (rest : List ℕ). slices_from p 0 (slice_count p) rest ≡ Ok is.0) behind is.1))
  planes-built p used slices (Err e) read behind is = is

  pub planes-shaped : {E : Type 0} (p : Parameters) (slices : List ℕ) (result : Result (Option (List Raster)) E) (shape : Shape) → IsTrue (shape_fits p.shape) → p.shape ≡ shape
      → IfOk result (IsBuilt p slices) → IfOk result (λ planes. IfSome planes (λ q. HaveShape shape (planes_in q)))
  planes-shaped p slices (Ok None) shape fits own is = tt
  planes-shaped p slices (Ok (Some planes)) shape fits own is = subst (HaveShape shape) (sym is.2) (built-shape p is.0.0 fits shape own)
  planes-shaped p slices (Err e) shape fits own is = is
