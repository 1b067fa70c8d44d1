use Rattle.std.proofs.Common.{◌≡◌, ◌+◌, ◌-◌, ◌*◌, take, ◌<◌, ◌≤◌, ℕ, get_or, drop, sym, ap, subst, ◌∙◌, arith}
use Rattle.vc_types.specs.Lifting.{line_of}
use Rattle.vc_golomb.specs.Numbers.{number_at}
use Rattle.vc_golomb.specs.declared.rows.TheConstants.{VALUES, COUNT, BITS}
use Rattle.vc_golomb.proofs.ByteRows.{eight_at, row, row_values, row_rest}
use Rattle.vc_golomb.proofs.rows.row_of.Goals as goal

pub returns-clause-few : goal.returns-clause-few
returns-clause-few c = subst (λ (n : ℕ). n ≤ 8) (sym c.from.ensures) (row c.args.twelve (omega (arith, c.requires))).few

pub returns-clause-values : goal.returns-clause-values
returns-clause-values c = λ bits begin j lt.
    let eight : 8 * c.args.twelve + 8 - 8 * c.args.twelve ≡ 8 = omega arith in
    ap (λ (n : ℕ). line_of (take n (drop (8 * c.args.twelve) VALUES)) j) eight ∙
    row_values c.args.twelve (eight_at c.args.twelve) (get_or COUNT c.args.twelve 0) (get_or BITS c.args.twelve 0) bits (row c.args.twelve (omega (arith, c.requires))) begin j (subst (λ (n : ℕ). j < n) c.from.ensures lt)

pub returns-clause-rest : goal.returns-clause-rest
returns-clause-rest c = λ bits begin k.
    ap (λ (n : ℕ). number_at bits (n + k)) c.from.ensures
    ∙ row_rest c.args.twelve (eight_at c.args.twelve) (get_or COUNT c.args.twelve 0) (get_or BITS c.args.twelve 0) bits (row c.args.twelve (omega (arith, c.requires))) begin k
    ∙ ap (λ (n : ℕ). number_at (drop n bits) k) (sym c.from-2.ensures)
