use Rattle.std.proofs.Common.{◌+◌, ◌*◌}
use Rattle.picture_encode.proofs.side_by_side.+calls.Given as goal

abbrev pub decreases-before : goal.decreases-before
decreases-before g l = 2 * l.last + 1

abbrev pub decreases-map_side_by_side : goal.decreases-map_side_by_side
decreases-map_side_by_side g l = 2 * l.n
