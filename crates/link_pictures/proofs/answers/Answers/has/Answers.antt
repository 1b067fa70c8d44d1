use Rattle.std.proofs.Common.{arith}
use Rattle.link_pictures.proofs.PictureLists.{stands, found_there, not_there}
use Rattle.link_pictures.proofs.answers.Answers.has.Goals as goal

pub returns-in-Some : goal.returns-in-Some
returns-in-Some g c = grind (arith, found_there, stands)

pub returns-in-None : goal.returns-in-None
returns-in-None g c = grind (arith, not_there)
