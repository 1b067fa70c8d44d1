use Rattle.std.proofs.Common.{ℕ, ap, sym, ◌∙◌}
use Rattle.std.specs.Option.{option_and_then}
use Rattle.vc_lift.specs.Ranges.{narrow_analysis_bound}
use Rattle.vc_wave.specs.ForwardBounds.{parted_level_bound}
use Rattle.vc_wave.proofs.forward_bounds.parted_level_bound.Goals as goal

pub returns-in_err-made-clause-value : goal.returns-in_err-made-clause-value
unfolding parted_level_bound
returns-in_err-made-clause-value c =
    c.from_residual.ensures
    ∙ sym (ap (option_and_then (λ (made : ℕ). narrow_analysis_bound c.args.wavelet made))
    (sym c.parted_rows_bound.ensures.value ∙ c.in_err-made.was))

pub returns-clause-value : goal.returns-clause-value
unfolding parted_level_bound
returns-clause-value c =
    c.narrow_analysis_bound.ensures.value
    ∙ sym (ap (option_and_then (λ (made : ℕ). narrow_analysis_bound c.args.wavelet made))
    (sym c.parted_rows_bound.ensures.value ∙ c.in_ok-made.was))
