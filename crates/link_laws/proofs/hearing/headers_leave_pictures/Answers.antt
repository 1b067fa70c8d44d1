-- The law is told as it is proved.
use Rattle.link_laws.proofs.MoreHeard.{headers_leave_pictures}
use Rattle.link_laws.proofs.hearing.headers_leave_pictures.Goals as goal

pub returns : goal.returns
returns c = headers_leave_pictures
