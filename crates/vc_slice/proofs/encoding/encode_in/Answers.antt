use Rattle.std.proofs.Common.{arith, ◌∙◌, sym}
use Rattle.vc_types.specs.TransformParameters.{parameters_of}
use Rattle.vc_slice.proofs.EncodedSlices.{some_scaler}
use Rattle.vc_slice.proofs.PaddedBlocks.{length_up_slice, slice_up, too_long_up}
use Rattle.vc_slice.proofs.encoding.encode_in.Goals as goal

pub returns-then-are_too_long-clause-too_long : goal.returns-then-are_too_long-clause-too_long
returns-then-are_too_long-clause-too_long c =
    let b = c.fill.new.self.blocks in (
      sym (too_long_up (parameters_of c.args.parts.now.plan) c.args.parts.now.slice c.args.q c.args.coeffs.now b.y.items b.c1.items b.c2.items c.in-Ok.ensures.y c.in-Ok.ensures.c1 c.in-Ok.ensures.c2) ∙ sym c.are_too_long.ensures ∙ c.if-are_too_long.true,
      c.len_of_parts.ensures,
    )

pub returns-in-Ok-joined-clause-value : goal.returns-in-Ok-joined-clause-value
returns-in-Ok-joined-clause-value c = grind (arith, slice_up, some_scaler)

pub returns-in-Ok-joined-clause-len : goal.returns-in-Ok-joined-clause-len
returns-in-Ok-joined-clause-len c =
    let b = c.fill.new.self.blocks in
    let some = some_scaler c.args.parts.now.plan.prefix c.args.parts.now.plan.scaler c.args.parts.now.plan.slice_bytes in
    length_up_slice (parameters_of c.args.parts.now.plan) c.args.parts.now.slice c.args.q c.args.coeffs.now b.y.items b.c1.items b.c2.items c.in-Ok.ensures.y c.in-Ok.ensures.c1 c.in-Ok.ensures.c2 some c.in-Ok-joined.bytes.items
    (slice_up (parameters_of c.args.parts.now.plan) c.args.parts.now.slice c.args.q c.args.coeffs.now b.y.items b.c1.items b.c2.items c.in-Ok.ensures.y c.in-Ok.ensures.c1 c.in-Ok.ensures.c2 some c.in-Ok-joined.bytes.items c.in-Ok-joined.ensures)

pub returns-in-Ok-joined-clause-fits : goal.returns-in-Ok-joined-clause-fits
returns-in-Ok-joined-clause-fits c =
    let b = c.fill.new.self.blocks in
    sym (too_long_up (parameters_of c.args.parts.now.plan) c.args.parts.now.slice c.args.q c.args.coeffs.now b.y.items b.c1.items b.c2.items c.in-Ok.ensures.y c.in-Ok.ensures.c1 c.in-Ok.ensures.c2) ∙ sym c.are_too_long.ensures ∙ c.if-are_too_long.false
