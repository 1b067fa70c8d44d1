use Rattle.std.proofs.Common.{◌+◌, pos, to_z, of_z, ap, sym, ◌∙◌, arith}
use Rattle.std.specs.Int.{w32, w64}
use Rattle.std.proofs.lemmas.List.{get_or-set_same}
use Rattle.vc_golomb.specs.Numbers.{number_at}
use Rattle.vc_golomb.proofs.ByteRows.{number_first, number_next, narrow_read}
use Rattle.vc_golomb.proofs.sints.read_long.Goals as goal

pub returns-clause-on : goal.returns-clause-on
returns-clause-on c =
    let v = to_z w32 (of_z w32 (to_z w64 (of_z w64 c.in_ok-number.number))) in
    get_or-set_same c.args.out.now c.args.at v (pos 0) (omega arith) ∙ narrow_read c.in_ok-number.number (omega (arith, c.in_ok-number.ensures.small))
    ∙ c.in_ok-number.ensures.value ∙ number_first c.copy-apart.result ∙ ap (λ b. number_at b 0) c.copy-apart.ensures

pub returns-clause-rest : goal.returns-clause-rest
returns-clause-rest c = λ k. ap (λ b. number_at b (1 + k)) (sym c.copy-apart.ensures) ∙ number_next c.copy-apart.result c.read_apart.new.block k c.in_ok-number.ensures.rest
