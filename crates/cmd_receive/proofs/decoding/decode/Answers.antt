use Rattle.cmd_receive.proofs.decoding.decode.Goals as goal

pub returns : goal.returns
returns g c = c.take_input.ensures _ _ c.frame_receiver-receiver.ensures.heard
