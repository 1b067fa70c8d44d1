use Rattle.std.proofs.Common.{◌+◌, ◌*◌}
use Rattle.vc_lowdelay.specs.Bands.{value_in}
use Rattle.vc_lowdelay.proofs.GrownRows.{GrownTo}
use Rattle.vc_lowdelay.proofs.bands.LowestBand.grow.Given as goal

abbrev pub invariant-loop-y : goal.invariant-loop-y
invariant-loop-y l = GrownTo (value_in l.fn.self) l.fn.self.width l.fn.self.height (l.y * l.fn.self.width) l.self

abbrev pub invariant-loop-x : goal.invariant-loop-x
invariant-loop-x l = GrownTo (value_in l.fn.self) l.fn.self.width l.fn.self.height (l.y * l.fn.self.width + l.x) l.self
