-- The law is told as it is proved.
use Rattle.link_laws.proofs.MoreHeard.{ends_leave_pictures}
use Rattle.link_laws.proofs.hearing.ends_leave_pictures.Goals as goal

pub returns : goal.returns
returns c = ends_leave_pictures
