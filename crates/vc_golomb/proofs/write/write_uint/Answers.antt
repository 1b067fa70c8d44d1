use Rattle.std.proofs.Common.{◌≡◌, ◌+◌, ◌-◌, ◌/◌, ◌^◌, ◌<◌, ◌++◌, ap, ◌∙◌, arith, Bool, false, List, [], ◌∷◌}
use Rattle.std.proofs.lemmas.Result.{on_ok_weaker, on_err_weaker}
use Rattle.vc_types.specs.Codes.{spread_digits}
use Rattle.vc_types.proofs.Failures.{on_err}
use Rattle.vc_golomb.proofs.WrittenCodes.{first, some_above, none_yet, front_at, front_within, pair_more, whole_code}
use Rattle.vc_golomb.proofs.write.write_uint.Goals as goal

pub digits-init : goal.digits-init
digits-init c = grind (arith, first, none_yet)

pub returns-in_err-bit-clause-front : goal.returns-in_err-bit-clause-front
returns-in_err-bit-clause-front c = on_err c.from_residual.result _ (front_at c.args.v c.digits.place c.args.w.now c.bit.new.self c.digits.invariant.some (c.in_err-bit.ensures.err ∙ c.digits.invariant.wrote))

pub digits-preserved : goal.digits-preserved
digits-preserved c = grind (arith, some_above, pair_more)

pub returns-in_err-bit-2-clause-front : goal.returns-in_err-bit-2-clause-front
returns-in_err-bit-2-clause-front c =
    let back : c.digits.place - 1 + 1 ≡ c.digits.place = omega arith in
    let some : 0 < (c.args.v + 1) / 2 ^ (c.digits.place - 1 + 1) = rw back c.digits.invariant.some in
    let wrote : c.digits.w ≡ c.args.w.now ++ spread_digits ((c.args.v + 1) / 2 ^ (c.digits.place - 1 + 1)) = rw back c.digits.invariant.wrote in
    on_err c.from_residual-in_err-bit-2.result _ (front_within c.args.v (c.digits.place - 1) c.args.w.now c.bit-in-digits.new.self some (c.in_err-bit-2.ensures.err ∙ c.in_ok-bit.ensures.ok ∙ ap (λ (bits : List Bool). bits ++ false ∷ []) wrote))

pub returns-clause-ok : goal.returns-clause-ok
returns-clause-ok c = on_ok_weaker c.bit-2.result (whole_code c.args.v c.digits.place c.args.w.now _ _ (omega arith) c.digits.invariant.wrote) c.bit-2.ensures.ok

pub returns-clause-front : goal.returns-clause-front
returns-clause-front c = on_err_weaker c.bit-2.result (λ same. front_at c.args.v c.digits.place c.args.w.now _ c.digits.invariant.some (same ∙ c.digits.invariant.wrote)) c.bit-2.ensures.err
