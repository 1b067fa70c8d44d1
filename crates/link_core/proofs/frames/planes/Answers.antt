use Rattle.std.proofs.Common.{sym}
use Rattle.link_core.proofs.frames.planes.Goals as goal

pub book_planes-requires : goal.book_planes-requires
book_planes-requires c = record { answered = (c.args.session.now.session.sequence, c.requires.answered c.args.number c.in-Some.book.now (sym c.in-Some.ensures)) }

pub returns-in-Some-clause-shape : goal.returns-in-Some-clause-shape
returns-in-Some-clause-shape c = c.book_planes.ensures.shape c.args.session.now.session.sequence (c.requires.answered c.args.number c.in-Some.book.now (sym c.in-Some.ensures))
