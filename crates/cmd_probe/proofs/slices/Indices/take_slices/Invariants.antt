use Rattle.std.proofs.Common.{◌≡◌, ◌-◌}
use Rattle.cmd_probe.specs.Indices.{behind_slices}
use Rattle.cmd_probe.proofs.slices.Indices.take_slices.Given as goal

abbrev pub invariant-loop-slice : goal.invariant-loop-slice
invariant-loop-slice l =
    behind_slices l.prefix l.scaler (l.count - l._slice) (l.rest, l.self)
    ≡ behind_slices l.prefix l.scaler l.count (l.bytes, l.fn.self)
