use Rattle.std.proofs.Common.{◌≡◌, None, replicate}
use Rattle.link_gather.proofs.slots.Slots.new.Given as goal

abbrev pub invariant-loop : goal.invariant-loop
invariant-loop l = l.items.items ≡ replicate l.counter None
