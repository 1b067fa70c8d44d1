use Rattle.std.proofs.Common.{arith}
use Rattle.std.proofs.lemmas.Grind.{common_steps}
use Rattle.link_pictures.proofs.CompletedSlices.{none_is, was_there, comes_sound, comes_unsound, comes_decoded, comes_put}
use Rattle.link_pictures.proofs.completing.Source.complete_slice.Goals as goal

pub returns-then-has : goal.returns-then-has
returns-then-has c = grind (arith, comes_sound, was_there)

pub returns-then-is_some : goal.returns-then-is_some
returns-then-is_some c = grind (arith, comes_unsound, none_is)

pub returns : goal.returns
returns c = grind (arith, common_steps, comes_decoded, comes_put, none_is)
