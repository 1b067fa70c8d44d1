use Rattle.std.proofs.Common.{inl, inr}
use Rattle.vc_slice.proofs.bands.SliceParts.rects.Goals as goal

pub returns-in-Y : goal.returns-in-Y
returns-in-Y c = rw c.in-Y.is c.args.self.now.of_luma

pub returns-in-C1 : goal.returns-in-C1
returns-in-C1 c = elim c.in-C1.is [
  | inl first ↦ (rw first c.args.self.now.of_colour)
  | inr second ↦ (rw second c.args.self.now.of_other)
]
