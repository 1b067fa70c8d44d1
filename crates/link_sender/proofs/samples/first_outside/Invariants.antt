use Rattle.std.proofs.Common.{◌≡◌, drop}
use Rattle.link_model.specs.SendingFaults.{first_outside}
use Rattle.link_sender.proofs.samples.first_outside.Given as goal

abbrev pub invariant-loop-place : goal.invariant-loop-place
invariant-loop-place l = first_outside l.limit l.place (drop l.place l.samples) ≡ first_outside l.limit 0 l.samples
