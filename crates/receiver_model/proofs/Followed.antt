-- What is shown of a datagram and of the end of the input.
use Rattle.std.proofs.Common.{◌≡◌, ℕ, List, ◌++◌, Option, Some, None, refl}
use Rattle.machine_model.specs.Feeders.{Feeder, releasable}
use Rattle.machine_model.specs.Feeding.{hears_datagram, hears_end}
use Rattle.machine_model.specs.Machine.{Enter, Finish}
use Rattle.machine_model.specs.Next.{taken_back, next_feeder}
use Rattle.link_model.specs.Session.{Session}
use Rattle.receiver_model.specs.Entering.{opens_session, before_releases, takes_datagram}
use Rattle.receiver_model.specs.Entering.{datagram_bytes, takes_end, end_bytes}
use Rattle.receiver_model.specs.Exchanging.{Exchange, all_exchanged, dones_in}
use Rattle.receiver_model.specs.Judging.{ends_input}
use Rattle.receiver_model.specs.Receptions.{Reception}
use Rattle.receiver_model.specs.Standing.{StandsFor, out_without}

-- the receiver stands for what was heard then, it wrote what the feeder wrote, and the slices of
-- released pictures aren't out any more
pub record FollowsDatagram (r : Reception) (size : ℕ) (f : Feeder) (xs : List Exchange)
    (d : List ℕ) : Type 0 where
  pub stands : StandsFor (takes_datagram r d xs) size (next_feeder size f (Enter d) (dones_in xs))
  pub writes : (next_feeder size f (Enter d) (dones_in xs)).written
      ≡ f.written ++ datagram_bytes r d xs
  pub out : (takes_datagram r d xs).out
      ≡ out_without (releasable size (taken_back size (hears_datagram f d) (dones_in xs)))
      (before_releases r d xs).out

pub record FollowsEnd (r : Reception) (size : ℕ) (f : Feeder) (xs : List Exchange) : Type 0 where
  pub stands : StandsFor (takes_end r xs) size (next_feeder size f Finish (dones_in xs))
  pub writes : (next_feeder size f Finish (dones_in xs)).written ≡ f.written ++ end_bytes r xs
  pub out : (takes_end r xs).out
      ≡ out_without (releasable size (taken_back size (hears_end f) (dones_in xs)))
      (all_exchanged (ends_input r) xs).out

pub opened_same : (o : Option Session) (now : Reception) → (opens_session o now).out ≡ now.out
opened_same None now = refl
opened_same (Some s) now = refl
