use Rattle.std.proofs.Common.{◌≡◌, drop}
use Rattle.link_model.specs.Windows.{first_unreleased}
use Rattle.link_window.proofs.window.Window.first_unreleased.Given as goal

-- those that were seen are released
abbrev pub invariant-loop-picture : goal.invariant-loop-picture
invariant-loop-picture l =
    first_unreleased l.self.last_released (drop l.picture-index l.self.books) ≡ first_unreleased l.fn.self.last_released l.fn.self.books
