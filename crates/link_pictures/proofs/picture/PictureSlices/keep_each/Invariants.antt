use Rattle.std.proofs.Common.{◌≡◌, length, take}
use Rattle.receiver_model.specs.Receptions.{takes_new}
use Rattle.link_slices.specs.Jobs.{made_run}
use Rattle.link_pictures.proofs.picture.PictureSlices.keep_each.Given as goal

abbrev pub invariant-loop-answer : goal.invariant-loop-answer
invariant-loop-answer l = record {
  count : l.k ≡ length l.yielded;
  value : l.self ≡ takes_new l.fn.self (take l.k (made_run l.job));
}
