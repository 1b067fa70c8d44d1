use Rattle.std.proofs.Common.{rules, ◌≡◌, ◌+◌, arith, ap, ◌∙◌, inl, inr, pos, slice_index_or, to_z, of_z, FitsSigned}
use Rattle.std.specs.Int.{w64, w128}
use Rattle.std.proofs.lemmas.Bool.{cases_eq}
use Rattle.std.proofs.lemmas.Int.{ints, to_z-of_z}
use Rattle.std.proofs.lemmas.List.{get_or-set_same, get_or-set_other}
use Rattle.vc_wave.proofs.Copies.{not_between}
use Rattle.vc_wave.proofs.long.copy_in.Goals as goal

pub loop-x-preserved : goal.loop-x-preserved
loop-x-preserved c =
    let x = c.loop-x.x in
    let block = c.loop-x.block in
    let z = slice_index_or c.args.cells.now (c.args.start + x) (pos 0) in
    let fits : FitsSigned w64 z = search rules in
    let own : c.from.result ≡ z = c.from.ensures ∙ to_z-of_z w64 z fits in
    let v = to_z w128 (of_z w128 c.from.result) in
    let is : v ≡ z = ap (λ y. to_z w128 (of_z w128 y)) own ∙ to_z-of_z w128 z (omega (arith, ints, fits)) in
    record {
      on = λ i h. elim (cases_eq i x) [
        | inl e ↦ rw e (get_or-set_same block (c.args.at + x) v (pos 0) (omega arith) ∙ is)
        | inr ne ↦ get_or-set_other block (c.args.at + x) (c.args.at + i) v (pos 0) (λ e. ne (omega arith))
            ∙ c.loop-x.invariant.on i (omega arith)
      ];
      small = λ i h. elim (cases_eq i x) [
        | inl e ↦ rw e (omega (arith, ints, fits))
        | inr ne ↦ c.loop-x.invariant.small i (omega arith)
      ];
      off = λ i apart. get_or-set_other block (c.args.at + x) i v (pos 0)
          (not_between c.args.at c.args.width x i c.loop-x-test.true apart) ∙ c.loop-x.invariant.off i apart;
    }
