use Rattle.link_hearing.proofs.HeardInputs.{input_apart}
use Rattle.link_hearing.specs.declared.form.InputForm.TheVariants.{Capture}
use Rattle.cmd_record.proofs.replaying.replay_through.Goals as goal

pub returns : goal.returns
returns g c =
    let did = c.hear_input-heard in
    let heard = input_apart _ Capture c.args.packets _ _ _ _ did.result did.ensures in
    record {
      borrows = heard.0;
      plays = record { told = did.result; heard = heard.1; answer_is = c.answer.ensures };
    }
