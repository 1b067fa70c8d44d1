use Rattle.std.proofs.Common.{◌≡◌, take}
use Rattle.receiver_model.specs.Receptions.{takes_new}
use Rattle.link_slices.specs.Jobs.{made_run}
use Rattle.link_pictures.proofs.picture.PictureSlices.make_run.Given as goal

abbrev pub invariant-loop-k : goal.invariant-loop-k
invariant-loop-k l = l.self ≡ takes_new l.fn.self (take l.k (made_run l.job))
