use Rattle.std.proofs.Common.{refl, ap}
use Rattle.machine_model.specs.Feeders.{new_feeder}
use Rattle.receiver_model.proofs.NewReception.{new_stands}
use Rattle.link_pictures.proofs.Following.{new_streams}
use Rattle.link_pictures.specs.Writing.{nothing_written}
use Rattle.link_pictures.specs.declared.written.Written.TheVariants.{Units}
use Rattle.link_receiver.proofs.receiver.Receiver.units.Goals as goal

pub returns-clause-heard : goal.returns-clause-heard
returns-clause-heard g c = record {
  sound = refl;
  least = c.requires.least;
  fits = c.requires.most;
  feeder = new_feeder;
  stands = rw c.new.ensures (new_stands c.args.size);
  heard = refl;
  goes_on = refl;
  out = rw c.new.ensures tt;
  writes = (nothing_written, ap Units c.new-2.ensures, rw c.new.ensures (new_streams c.args.size));
}
