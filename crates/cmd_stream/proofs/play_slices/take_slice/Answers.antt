use Rattle.std.proofs.Common.{rules, true, false}
use Rattle.vc_types.specs.TransformParameters.{parameters_of}
use Rattle.vc_types.proofs.WholeSlices.{begins, whole_slice}
use Rattle.cmd_stream.proofs.SliceRuns.{gave-short, took}
use Rattle.cmd_stream.proofs.play_slices.take_slice.Goals as goal

pub returns-in_default : goal.returns-in_default
returns-in_default c = record { value = gave-short (parameters_of c.args.head.now.plan) c.args.index c.args.rest.now c.args.rest.now (c.in_default.ensures.short_exactly.0 (search rules)) }

pub split_at-requires : goal.split_at-requires
split_at-requires c = (begins c.args.head.now.plan.prefix c.args.head.now.plan.scaler c.args.rest.now c.in-Ok.len c.in-Ok.ensures.value).within

pub put_slice-requires-clause-whole : goal.put_slice-requires-clause-whole
put_slice-requires-clause-whole c =
    rw c.split_at.ensures.front (whole_slice c.args.head.now.plan.prefix c.args.head.now.plan.scaler c.args.rest.now c.in-Ok.len c.in-Ok.ensures.value)

pub returns-then-branch : goal.returns-then-branch
returns-then-branch c = record {
  value = took (parameters_of c.args.head.now.plan) c.args.index c.in-Ok.len c.args.rest.now c.split_at.result.0.now c.split_at.result.1.now c.args.builder.now c.put_slice.new.builder true
      c.in-Ok.ensures.value c.split_at.ensures.front c.split_at.ensures.back (rw c.if-branch.true at c.in_ok-put_slice.ensures.value);
}

pub returns-else-branch : goal.returns-else-branch
returns-else-branch c = record {
  value = took (parameters_of c.args.head.now.plan) c.args.index c.in-Ok.len c.args.rest.now c.split_at.result.0.now c.split_at.result.1.now c.args.builder.now c.put_slice.new.builder false
      c.in-Ok.ensures.value c.split_at.ensures.front c.split_at.ensures.back (rw c.if-branch.false at c.in_ok-put_slice.ensures.value);
}
