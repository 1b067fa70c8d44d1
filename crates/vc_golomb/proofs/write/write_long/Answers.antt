use Rattle.std.proofs.Common.{arith, ◌∙◌, rules, w64}
use mir.Val.{SFits}
use Rattle.std.proofs.lemmas.Int.{to_z-of_z}
use Rattle.std.proofs.lemmas.Result.{on_ok_weaker, on_err_weaker}
use Rattle.vc_types.proofs.Failures.{on_err}
use Rattle.vc_golomb.proofs.WrittenCodes.{no_sign, signed, front_unsigned, front_whole}
use Rattle.vc_golomb.proofs.write.write_long.Goals as goal

pub returns-in_err-write_uint-clause-front : goal.returns-in_err-write_uint-clause-front
returns-in_err-write_uint-clause-front c =
    let fits : SFits w64 c.args.v = search rules in
    let same = rw (to_z-of_z w64 c.args.v fits) at c.unsigned_abs-magnitude.ensures.value in
    on_err c.from_residual.result _ (front_unsigned c.args.v c.unsigned_abs-magnitude.result c.args.w.now _ same c.in_err-write_uint.ensures.front)

pub returns-then-magnitude-eq0-clause-ok : goal.returns-then-magnitude-eq0-clause-ok
returns-then-magnitude-eq0-clause-ok c = grind (arith, to_z-of_z, no_sign)

pub returns-else-magnitude-eq0-clause-ok : goal.returns-else-magnitude-eq0-clause-ok
returns-else-magnitude-eq0-clause-ok c = grind (arith, to_z-of_z, on_ok_weaker, signed)

pub returns-else-magnitude-eq0-clause-front : goal.returns-else-magnitude-eq0-clause-front
returns-else-magnitude-eq0-clause-front c =
    let fits : SFits w64 c.args.v = search rules in
    let same = rw (to_z-of_z w64 c.args.v fits) at c.unsigned_abs-magnitude.ensures.value in
    on_err_weaker c.bit.result (λ same_bits. front_whole c.args.v c.unsigned_abs-magnitude.result c.args.w.now _ same (same_bits ∙ c.in_ok-write_uint.ensures.ok)) c.bit.ensures.err
