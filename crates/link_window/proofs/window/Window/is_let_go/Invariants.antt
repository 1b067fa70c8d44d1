use Rattle.std.proofs.Common.{◌≡◌, ◌+◌, ◌-◌}
use Rattle.std.specs.List.{list_all, range_with_len}
use Rattle.link_model.specs.Windows.{complete_in}
use Rattle.link_window.proofs.window.Window.is_let_go.Given as goal

-- those that were seen are complete
abbrev pub invariant-loop-n : goal.invariant-loop-n
invariant-loop-n l =
    list_all (complete_in l.self) (range_with_len l.n (l.number + 1 - l.n)) ≡ list_all (complete_in l.self) (range_with_len l.first (l.number + 1 - l.first))
