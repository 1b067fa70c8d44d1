use Rattle.std.proofs.Common.{ℕ, ap, sym, ◌∙◌}
use Rattle.std.specs.Option.{option_and_then}
use Rattle.vc_lift.specs.Ranges.{narrow_analysis_bound}
use Rattle.vc_wave.specs.ForwardBounds.{parted_rows_bound}
use Rattle.vc_wave.proofs.forward_bounds.parted_rows_bound.Goals as goal

pub returns-in_err-twice-clause-value : goal.returns-in_err-twice-clause-value
unfolding parted_rows_bound
returns-in_err-twice-clause-value c =
    c.from_residual.ensures
    ∙ sym (ap (option_and_then (λ (twice : ℕ). narrow_analysis_bound c.args.wavelet twice))
    (sym c.doubled_bound.ensures.value ∙ c.in_err-twice.was))

pub returns-clause-value : goal.returns-clause-value
unfolding parted_rows_bound
returns-clause-value c =
    c.narrow_analysis_bound.ensures.value
    ∙ sym (ap (option_and_then (λ (twice : ℕ). narrow_analysis_bound c.args.wavelet twice))
    (sym c.doubled_bound.ensures.value ∙ c.in_ok-twice.was))
