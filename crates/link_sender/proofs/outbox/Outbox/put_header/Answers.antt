use Rattle.std.proofs.Common.{arith}
use Rattle.std.proofs.lemmas.Grind.{common_steps}
use Rattle.link_sender.proofs.Numbered.{both_ok}
use Rattle.link_sender.proofs.Putting.{puts_one}
use Rattle.link_sender.proofs.PayloadLengths.{header_length}
use Rattle.link_sender.proofs.outbox.Outbox.put_header.Goals as goal

pub put-requires-clause-fits : goal.put-requires-clause-fits
put-requires-clause-fits c = grind (arith, common_steps, header_length)

pub returns : goal.returns
returns c = grind (arith, common_steps, both_ok, puts_one)
