use Rattle.std.proofs.Common.{refl, ap, sym, ◌∙◌}
use Rattle.fill_model.proofs.Frames.{last-none}
use Rattle.link_pictures.specs.declared.written.Written.TheVariants.{Filled}
use Rattle.machine_model.specs.Feeders.{new_feeder}
use Rattle.receiver_model.proofs.NewReception.{new_stands}
use Rattle.link_receiver.proofs.receiver.Receiver.filled.Goals as goal
use Rattle.std.specs.Prelude.{None}

pub returns-clause-heard : goal.returns-clause-heard
returns-clause-heard g c = record {
  sound = refl;
  least = c.requires.least;
  fits = c.requires.most;
  feeder = new_feeder;
  stands = rw c.new.ensures (new_stands c.args.size);
  heard = refl;
  goes_on = refl;
  out = rw c.new.ensures tt;
  writes = ap Filled (c.new-2.ensures ∙ sym (last-none None));
}
