use Rattle.std.proofs.Common.{◌≡◌, ℕ, ◌+◌, ◌-◌, ◌*◌, ◌/◌, ap, arith}
use Rattle.link_model.specs.SendingPictures.{budget_share}
use Rattle.picture_encode.proofs.fitting.budget_share.Goals as goal

one_more : (slice bytes slices : ℕ) → (slice * bytes + bytes) / slices - slice * bytes / slices ≡ budget_share bytes slices slice
unfolding budget_share
one_more slice bytes slices =
    let more : slice * bytes + bytes ≡ (slice + 1) * bytes = omega arith in
    ap (λ (behind : ℕ). behind / slices - slice * bytes / slices) more

pub returns : goal.returns
returns c = rw (c.from.ensures, c.from-2.ensures, c.from-3.ensures, c.from-4.ensures, c.from-5.ensures) (one_more c.args.slice c.args.bytes c.args.slices)
