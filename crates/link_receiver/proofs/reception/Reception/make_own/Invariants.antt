use Rattle.std.proofs.Common.{◌≡◌, take}
use Rattle.receiver_model.specs.Exchanging.{takes_dones}
use Rattle.link_slices.specs.Jobs.{made_run}
use Rattle.link_receiver.proofs.reception.Reception.make_own.Given as goal

abbrev pub invariant-loop-k : goal.invariant-loop-k
invariant-loop-k g l = record {
  value : l.self ≡ takes_dones l.fn.self (take l.k (made_run l.job));
  out : l.self.out ≡ l.fn.self.out;
}
