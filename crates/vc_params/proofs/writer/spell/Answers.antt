use Rattle.std.proofs.Common.{◌≡◌, Bool, List, [], ◌∷◌, ◌++◌, ap, ◌∙◌}
use Rattle.vc_types.specs.Codes.{uint_bits}
use Rattle.vc_types.specs.Fields.{joined, pair_bits, filled_up, flagged_bits}
use Rattle.vc_types.specs.ParameterSpelling.{parameter_bits, extension_bits, numbers_bits, coded_unless, encoder_parameters}
use Rattle.vc_types.specs.TransformParameters.{parameters_of}
use Rattle.vc_params.proofs.ParameterParts.{whole_parameters}
use Rattle.vc_params.proofs.writer.spell.Goals as goal

pub returns : goal.returns
returns c =
    let p = c.args.plan.now in
    let extension : List Bool = extension_bits c.args.major (coded_unless p.wavelet_ho p.wavelet, coded_unless p.depth_ho 0) in
    let slices : List Bool = joined (pair_bits (p.slices_x, p.slices_y) ∷ uint_bits p.prefix ∷ uint_bits p.scaler ∷ []) in
    let matrix : List Bool = flagged_bits numbers_bits (encoder_parameters (parameters_of p)).matrix in
    let wavelet : c.write_uint.new.w ≡ uint_bits p.wavelet = c.in_ok-write_uint.ensures.ok ∙ ap (λ (l : List Bool). l ++ uint_bits p.wavelet) c.new-w.ensures in
    let depth : c.write_uint-2.new.w ≡ uint_bits p.wavelet ++ uint_bits p.depth = c.in_ok-write_uint-2.ensures.ok ∙ ap (λ (l : List Bool). l ++ uint_bits p.depth) wavelet in
    let extended : c.write_extension.new.w ≡ (uint_bits p.wavelet ++ uint_bits p.depth) ++ extension = c.in_ok-write_extension.ensures ∙ ap (λ (l : List Bool). l ++ extension) depth in
    let cut : c.write_slices.new.w ≡ ((uint_bits p.wavelet ++ uint_bits p.depth) ++ extension) ++ slices = c.in_ok-write_slices.ensures ∙ ap (λ (l : List Bool). l ++ slices) extended in
    let whole : c.write_matrix.new.w ≡ parameter_bits c.args.major (encoder_parameters (parameters_of p)) =
    c.in_ok-write_matrix.ensures ∙ ap (λ (l : List Bool). l ++ matrix) cut
    ∙ whole_parameters (uint_bits p.wavelet) (uint_bits p.depth) extension (uint_bits p.slices_x) (uint_bits p.slices_y) (uint_bits p.prefix) (uint_bits p.scaler) matrix in
    c.finish.ensures ∙ ap filled_up whole
