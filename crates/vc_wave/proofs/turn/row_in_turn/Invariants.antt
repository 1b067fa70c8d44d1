use Rattle.std.proofs.Common.{◌≡◌, ◌-◌, ◌*◌, ◌^◌}
use Rattle.vc_wave.specs.Layout.{row_in_turn}
use Rattle.vc_wave.proofs.turn.row_in_turn.Given as goal

abbrev pub invariant-loop-level : goal.invariant-loop-level
invariant-loop-level l =
    row_in_turn (l.nesting.levels - l.level) (l.nesting.w * 2 ^ l.level) (l.nesting.h * 2 ^ l.level) l.x l.row
    ≡ row_in_turn l.nesting.levels l.nesting.w l.nesting.h l.x l.y
