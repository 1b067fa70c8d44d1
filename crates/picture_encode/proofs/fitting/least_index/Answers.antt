use Rattle.std.proofs.Common.{ℕ, ◌≤◌, arith}
use Rattle.vc_types.specs.Encoding.{encoded_length}
use Rattle.vc_types.specs.TransformParameters.{parameters_of}
use Rattle.picture_encode.proofs.LeastFitting.{IsBracket, all_indices, lower, upper, one_left}
use Rattle.picture_encode.proofs.LengthsFall.{length_falls}
use Rattle.picture_encode.proofs.fitting.least_index.Goals as goal
use Rattle.picture_encode.proofs.fitting.least_index.Goals.{then-len_of_parts-bytes, else-len_of_parts-bytes}

pub tries-init : goal.tries-init
tries-init c = record { bracket = all_indices _ _; step = omega arith; inside = λ lt. (omega arith, omega arith) }

pub tries-preserved : goal.tries-preserved
tries-preserved c =
    let p = parameters_of c.args.parts.now.plan in
    let slice = c.args.parts.now.slice in
    let f : ℕ → ℕ = λ q. encoded_length p slice q c.args.coeffs.now in
    let falls : (q r : ℕ) → q ≤ r → r ≤ 127 → f r ≤ f q = λ q r. length_falls p slice q r c.args.coeffs.now c.requires.coefficients in
    let old = c.tries.bracket in
    let new = c.if-len_of_parts-bytes.bracket in
    let inside = c.tries.invariant.inside c.tries-test.true in
    let bracket : IsBracket f c.args.bytes new.first new.last =
    elim c.if-len_of_parts-bytes.branch [
      | then-len_of_parts-bytes w ↦ rw w.bracket-is (lower f c.args.bytes old.first old.last c.tries.index c.tries.invariant.bracket inside.0 inside.1 (omega (arith, w.if-len_of_parts-bytes, c.len_of_parts.ensures)))
      | else-len_of_parts-bytes w ↦ rw w.bracket-is (upper f c.args.bytes old.first old.last c.tries.index falls c.tries.invariant.bracket inside.0 inside.1 (omega (arith, w.if-len_of_parts-bytes, c.len_of_parts.ensures)))
    ] in
    let step : 1 ≤ new.step =
    elim c.if-len_of_parts-bytes.branch [
      | then-len_of_parts-bytes w ↦ rw w.bracket-is c.tries.invariant.step
      | else-len_of_parts-bytes w ↦ rw w.bracket-is c.tries.invariant.step
    ] in
    record { bracket = bracket; step = omega (arith, step); inside = λ lt. c.next-index.ensures lt bracket.few step }

pub returns-clause-value : goal.returns-clause-value
returns-clause-value c = one_left _ c.args.bytes c.tries.bracket.first c.tries.bracket.last c.tries.invariant.bracket (omega (arith, c.tries-test.false))
