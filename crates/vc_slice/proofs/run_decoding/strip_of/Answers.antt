use Rattle.vc_types.specs.TransformParameters.{parameters_of}
use Rattle.vc_slice.proofs.RunDecodings.{strip-whole}
use Rattle.vc_slice.proofs.run_decoding.strip_of.Goals as goal

pub returns-in-Ok-clause-strip : goal.returns-in-Ok-clause-strip
returns-in-Ok-clause-strip c =
    strip-whole (parameters_of c.args.run.now.plan) c.args.run.now.first c.args.run.now.count c.coefficients-y.result c.coefficients-c.result c.coefficients-y.ensures.value c.coefficients-c.ensures.value c.new.result c.new.ensures.lengths.0 c.new.ensures.lengths.1 c.new.ensures.lengths.2
