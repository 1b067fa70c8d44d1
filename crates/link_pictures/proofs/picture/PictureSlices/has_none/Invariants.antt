use Rattle.std.proofs.Common.{◌≡◌, ◌+◌, ◌<◌, ℕ, None}
use Rattle.receiver_model.specs.Receptions.{answer_at}
use Rattle.link_pictures.proofs.picture.PictureSlices.has_none.Given as goal

abbrev pub invariant-loop-k : goal.invariant-loop-k
invariant-loop-k l = (k : ℕ) → k < l.k → answer_at l.self.slices (l.job.first + k) ≡ None
