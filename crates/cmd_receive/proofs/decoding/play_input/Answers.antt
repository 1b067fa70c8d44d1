use Rattle.cmd_receive.proofs.PlayedInputs.{plays_well}
use Rattle.link_hearing.proofs.HeardInputs.{input_apart}
use Rattle.cmd_receive.proofs.decoding.play_input.Goals as goal

pub returns : goal.returns
returns g c =
    let heard = input_apart _ c.args.settings.now.form c.args.settings.now.packets _ _ _ _ _ c.hear_input.ensures in
    record {
      borrows_output = heard.0.0;
      borrows_places = heard.0.1;
      well = plays_well c.args.settings.now.form c.args.settings.now.packets _ _ _ _ heard.1 (rw c.requires.new.out tt);
      heard = heard.1;
    }
