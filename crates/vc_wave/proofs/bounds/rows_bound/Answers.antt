use Rattle.std.proofs.Common.{ℕ, ap, sym, ◌∙◌}
use Rattle.std.specs.Option.{option_and_then}
use Rattle.vc_wave.specs.NarrowBounds.{shifted_bound, rows_bound}
use Rattle.vc_wave.proofs.bounds.rows_bound.Goals as goal

pub returns-in_err-made-clause-value : goal.returns-in_err-made-clause-value
unfolding rows_bound
returns-in_err-made-clause-value c =
    c.from_residual.ensures
    ∙ sym (ap (option_and_then (λ (made : ℕ). shifted_bound c.args.wavelet c.args.most made))
    (sym c.narrow_bound.ensures.value ∙ c.in_err-made.was))

pub returns-clause-value : goal.returns-clause-value
unfolding rows_bound
returns-clause-value c =
    c.shifted_bound.ensures.value
    ∙ sym (ap (option_and_then (λ (made : ℕ). shifted_bound c.args.wavelet c.args.most made))
    (sym c.narrow_bound.ensures.value ∙ c.in_ok-made.was))
