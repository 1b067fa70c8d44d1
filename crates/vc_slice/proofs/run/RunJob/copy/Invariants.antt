use Rattle.std.proofs.Common.{◌≡◌, take}
use Rattle.vc_slice.proofs.run.RunJob.copy.Given as goal

abbrev pub invariant-loop-bytes : goal.invariant-loop-bytes
invariant-loop-bytes l = l.slices.items ≡ take l.bytes-index l.bytes-items
