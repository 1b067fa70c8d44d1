use Rattle.std.proofs.Common.{rules, ◌≡◌, ◌++◌, ◌∷◌, [], ◌-◌, ◌+◌, false, true, arith}
use Rattle.vc_types.specs.Bounded.{bounded_sint}
use Rattle.vc_types.specs.Quantisation.{dequantised}
use Rattle.vc_types.specs.Slices.{is_large}
use Rattle.vc_slice.proofs.BlockCoefficients.{read_more, large_met, sound_more}
use Rattle.vc_slice.proofs.subband.read_subband.Goals as goal

pub returns-in_default-clause-large : goal.returns-in_default-clause-large
returns-in_default-clause-large c = λ _ indices.
    let large : is_large (dequantised (bounded_sint c.loop-i.block).0 c.args.quantiser.now.index) ≡ true = search rules in
    large_met c.loop-i.coeffs.items _ (c.args.count - c.loop-i._i) (c.args.count - (c.loop-i._i + 1)) c.args.quantiser.now.index indices c.loop-i.block (omega arith) large (c.loop-i.invariant.read indices)

pub loop-i-preserved : goal.loop-i-preserved
loop-i-preserved c =
    let is : c.in-Some.coefficient ≡ dequantised (bounded_sint c.loop-i.block).0 c.args.quantiser.now.index = search rules in
    let small : is_large (dequantised (bounded_sint c.loop-i.block).0 c.args.quantiser.now.index) ≡ false = search rules in
    let behind : c.read_coefficient.new.block ≡ (bounded_sint c.loop-i.block).1 = search rules in
    let pushed : c.push.new.self.items ≡ c.loop-i.coeffs.items ++ c.in-Some.coefficient ∷ [] = search rules in
    record {
      read = λ indices. rw pushed (read_more c.loop-i.coeffs.items _ (c.args.count - c.loop-i._i) (c.args.count - (c.loop-i._i + 1)) c.args.quantiser.now.index indices c.loop-i.block c.read_coefficient.new.block c.in-Some.coefficient (omega arith) is behind (c.loop-i.invariant.read indices));
      sound = rw pushed (sound_more c.loop-i.coeffs.items c.in-Some.coefficient _ c.loop-i.invariant.sound is small);
    }
