use Rattle.std.proofs.Common.{◌-◌, ◌<◌, ◌≤◌}
use Rattle.vc_types.specs.Encoding.{encoded_length}
use Rattle.vc_types.specs.TransformParameters.{parameters_of}
use Rattle.picture_encode.proofs.LeastFitting.{IsBracket}
use Rattle.picture_encode.proofs.fitting.least_index.Given as goal

abbrev pub invariant-tries : goal.invariant-tries
invariant-tries l = record {
  bracket : IsBracket (λ q. encoded_length (parameters_of l.parts.plan) l.parts.slice q l.coeffs) l.bytes l.bracket.first l.bracket.last;
  step : 1 ≤ l.bracket.step;
  inside : l.bracket.first < l.bracket.last → (l.bracket.first ≤ l.index) × (l.index < l.bracket.last);
}

abbrev pub decreases-tries : goal.decreases-tries
decreases-tries l = l.bracket.last - l.bracket.first
