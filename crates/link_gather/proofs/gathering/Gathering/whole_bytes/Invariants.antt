use Rattle.std.proofs.Common.{◌≡◌, ◌++◌, drop}
use Rattle.link_model.specs.Books.{gathered_bytes}
use Rattle.link_gather.proofs.FillingLaws.{slots_bytes}
use Rattle.link_gather.proofs.gathering.Gathering.whole_bytes.Given as goal

-- what was written, and behind it the slots that are left
abbrev pub invariant-loop-i : goal.invariant-loop-i
invariant-loop-i l = l.bytes.items ++ slots_bytes (drop l.i l.self.slots) ≡ gathered_bytes l.self
