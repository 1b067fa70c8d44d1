use Rattle.std.proofs.Common.{ℕ, ◌∙◌, sym, ap}
use Rattle.std.proofs.lemmas.Result.{IfOk-weaker}
use Rattle.vc_types.specs.Fields.{filled_up}
use Rattle.vc_types.specs.ParameterSpelling.{parameter_bits, encoder_parameters}
use Rattle.vc_types.specs.TransformParameters.{parameters_of}
use Rattle.vc_types.proofs.WrittenParameters.{IsPlan, parameters_again}
use Rattle.vc_params.proofs.writer.write_params.Goals as goal

pub returns-clause-read_again : goal.returns-clause-read_again
returns-clause-read_again c =
    let p = c.args.plan.now in
    let plan : IsPlan (parameters_of p) = record {
      wavelet = p.wavelet_is_known;
      wavelet_ho = p.wavelet_ho_is_known;
      some_levels = p.some_levels;
      few_levels = p.few_levels;
      slices = p.slices;
      slice_bytes = p.slice_bytes;
      padded_luma = p.padded_luma;
      values = p.matrix_values;
      ends = p.unused_entries;
    } in
    IfOk-weaker c.spell.result _ _
    (λ v written sequence behind major shape. parameters_again sequence (parameters_of p) v.items behind plan (λ asymmetric. major ∙ c.requires.version asymmetric) shape (written ∙ ap (λ (n : ℕ). filled_up (parameter_bits n (encoder_parameters (parameters_of p)))) (sym major)))
    c.spell.ensures
