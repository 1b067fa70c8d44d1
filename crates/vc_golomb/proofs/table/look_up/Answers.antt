use Rattle.std.proofs.Common.{ℕ, ◌≤◌, get_or, sym, subst, arith}
use Rattle.vc_golomb.specs.Table.{IsLook}
use Rattle.vc_golomb.specs.declared.table.TheConstants.{DIGITS}
use Rattle.vc_golomb.proofs.ByteTable.{looks, looks_small}
use Rattle.vc_golomb.proofs.table.look_up.Goals as goal

pub returns-clause-bits : goal.returns-clause-bits
returns-clause-bits c = subst (λ (taken : ℕ). IsLook c.args.byte taken (get_or DIGITS c.args.byte 0)) (sym c.from.ensures) (looks c.args.byte (omega arith))

pub returns-clause-taken : goal.returns-clause-taken
returns-clause-taken c = subst (λ (taken : ℕ). taken ≤ 8) (sym c.from.ensures) (looks_small c.args.byte (omega arith)).0

pub returns-clause-digits : goal.returns-clause-digits
returns-clause-digits c = (looks_small c.args.byte (omega arith)).1
