use Rattle.std.proofs.Common.{sym, subst}
use Rattle.vc_types.specs.declared.video.Component.{Component}
use Rattle.vc_lowdelay.specs.Components.{IsBehind}
use Rattle.vc_lowdelay.proofs.Following.{behind_luma, behind_first, behind_second}
use Rattle.vc_lowdelay.proofs.coefficient.next_of.Goals as goal

pub returns-in-Y-clause-rest : goal.returns-in-Y-clause-rest
returns-in-Y-clause-rest c =
    subst (λ (d : Component). IsBehind d 1 c.args.block.now c.next_value.new.block) (sym c.in-Y.is)
    (behind_luma c.args.block.now c.next_value.new.block c.next_value.ensures.rest)

pub returns-in-C1-clause-rest : goal.returns-in-C1-clause-rest
returns-in-C1-clause-rest c =
    subst (λ (d : Component). IsBehind d 1 c.args.block.now c.skip_number.new.block) (sym c.in-C1.is)
    (behind_first c.args.block.now c.next_value-value.new.block c.skip_number.new.block c.next_value-value.ensures.rest c.skip_number.ensures)

pub returns-in-C2-clause-rest : goal.returns-in-C2-clause-rest
returns-in-C2-clause-rest c =
    subst (λ (d : Component). IsBehind d 1 c.args.block.now c.next_value-in-C2.new.block) (sym c.in-C2.is)
    (behind_second c.args.block.now c.skip_number-in-C2.new.block c.next_value-in-C2.new.block c.skip_number-in-C2.ensures c.next_value-in-C2.ensures.rest)
