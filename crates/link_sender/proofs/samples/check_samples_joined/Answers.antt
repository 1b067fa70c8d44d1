use Rattle.std.proofs.Common.{arith}
use Rattle.std.proofs.lemmas.List.{get_or_default}
use Rattle.std.proofs.lemmas.Grind.{common_steps}
use Rattle.link_sender.proofs.SampleFaults.{samples_sound, samples_refused}
use Rattle.link_sender.proofs.samples.check_samples_joined.Goals as goal

pub returns-clause-sound : goal.returns-clause-sound
returns-clause-sound g c = grind (arith, common_steps, get_or_default, samples_sound)

pub returns-clause-refused : goal.returns-clause-refused
returns-clause-refused g c = grind (arith, common_steps, get_or_default, samples_refused)
