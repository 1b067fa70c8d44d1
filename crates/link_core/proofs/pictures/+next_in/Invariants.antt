use Rattle.std.proofs.Common.{length}
use Rattle.link_core.proofs.pictures.+next_in.Given as goal

abbrev pub decreases-next_in : goal.decreases-next_in
decreases-next_in l = length l.sessions.items
