use Rattle.std.proofs.Common.{rules, ◌+◌, ◌^◌, ◌<◌, arith, sym, subst, ◌∙◌, inl, inr, unsigned_abs, ℤ, FitsSigned}
use Rattle.std.specs.Int.{w64}
use Rattle.std.proofs.lemmas.Bool.{cases_eq}
use Rattle.std.proofs.lemmas.Int.{to_z-of_z}
use Rattle.picture_build.proofs.wide.put_dequantised_row.Goals as goal

pub put-requires-clause-coefficient : goal.put-requires-clause-coefficient
put-requires-clause-coefficient c =
    let z = c.coefficient.result in
    let fits : FitsSigned w64 z = search rules in
    subst (λ (z : ℤ). unsigned_abs z < 2 ^ 60) (sym (to_z-of_z w64 z fits)) c.coefficient.ensures.range

pub loop-x-preserved : goal.loop-x-preserved
loop-x-preserved c =
    let z = c.coefficient.result in
    let fits : FitsSigned w64 z = search rules in
    record {
      on = λ i h. elim (cases_eq i c.loop-x.x) [
        | inl e ↦ rw e (c.put.ensures.on ∙ to_z-of_z w64 z fits ∙ c.coefficient.ensures.value)
        | inr ne ↦ c.put.ensures.off (c.args.at + i) (λ e. ne (omega arith)) ∙ c.loop-x.invariant.on i (omega arith)
      ];
      off = λ k apart. c.put.ensures.off k (λ e. absurd (omega arith)) ∙ c.loop-x.invariant.off k apart;
      length = c.put.ensures.length ∙ c.loop-x.invariant.length;
    }
