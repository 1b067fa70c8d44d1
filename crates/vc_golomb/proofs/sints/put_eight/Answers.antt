use Rattle.std.proofs.Common.{rules, ◌≡◌, ◌+◌, ◌≤◌, arith, inl, inr, pos, to_z, of_z, unsigned_abs, ◌∙◌}
use Rattle.std.specs.Int.{w32}
use Rattle.std.proofs.lemmas.Bool.{cases_eq}
use Rattle.std.proofs.lemmas.List.{get_or-set_same, get_or-set_other}
use Rattle.vc_types.specs.Lifting.{line_of}
use Rattle.vc_golomb.proofs.sints.put_eight.Goals as goal

pub loop-j-preserved : goal.loop-j-preserved
loop-j-preserved c =
    let j = c.loop-j.j in
    let v = to_z w32 (of_z w32 c.from.result) in
    let is : v ≡ line_of c.args.values.now j = search rules in
    let few : unsigned_abs v ≤ 128 = search rules in
    let here = get_or-set_same c.loop-j.out (c.args.at + j) v (pos 0) (omega arith) in
    record {
      on = λ i h. elim (cases_eq i j) [
        | inl e ↦ rw e (here ∙ is)
        | inr ne ↦ get_or-set_other c.loop-j.out (c.args.at + j) (c.args.at + i) v (pos 0) (omega arith)
            ∙ c.loop-j.invariant.on i (omega arith)
      ];
      small = λ i h. elim (cases_eq i j) [
        | inl e ↦ rw (e, here) few
        | inr ne ↦ rw (get_or-set_other c.loop-j.out (c.args.at + j) (c.args.at + i) v (pos 0) (omega arith))
            (c.loop-j.invariant.small i (omega arith))
      ];
      off = λ i h. get_or-set_other c.loop-j.out (c.args.at + j) i v (pos 0) (omega arith)
          ∙ c.loop-j.invariant.off i h;
    }
