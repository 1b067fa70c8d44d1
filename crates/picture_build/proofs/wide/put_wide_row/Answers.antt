use Rattle.std.proofs.Common.{◌+◌, ◌^◌, ◌<◌, arith, sym, subst, ◌∙◌, inl, inr, unsigned_abs, ℤ}
use Rattle.std.specs.Int.{w64}
use Rattle.std.proofs.lemmas.Bool.{cases_eq}
use Rattle.std.proofs.lemmas.Int.{to_z-of_z, fits_signed_from_abs}
use Rattle.vc_types.specs.Lifting.{line_of}
use Rattle.picture_build.proofs.wide.put_wide_row.Goals as goal

pub put-requires-clause-coefficient : goal.put-requires-clause-coefficient
put-requires-clause-coefficient c =
    let z = line_of c.args.coeffs.now (c.args.from + c.loop-x.x) in
    let small = c.requires.small (c.args.from + c.loop-x.x) (omega arith) in
    subst (λ (y : ℤ). unsigned_abs y < 2 ^ 60) (sym (to_z-of_z w64 z (fits_signed_from_abs w64 z (omega (arith, small))))) small

pub loop-x-preserved : goal.loop-x-preserved
loop-x-preserved c =
    let x = c.loop-x.x in
    let z = line_of c.args.coeffs.now (c.args.from + x) in
    let small = c.requires.small (c.args.from + x) (omega arith) in
    let read = to_z-of_z w64 z (fits_signed_from_abs w64 z (omega (arith, small))) in
    record {
      on = λ i h. elim (cases_eq i x) [
        | inl e ↦ rw e (c.put.ensures.on ∙ read)
        | inr ne ↦ c.put.ensures.off (c.args.at + i) (λ e. ne (omega arith)) ∙ c.loop-x.invariant.on i (omega arith)
      ];
      off = λ k apart. c.put.ensures.off k (λ e. absurd (omega arith)) ∙ c.loop-x.invariant.off k apart;
      length = c.put.ensures.length ∙ c.loop-x.invariant.length;
    }
