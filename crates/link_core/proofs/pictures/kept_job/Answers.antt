use Rattle.std.proofs.Common.{sym, Some, None}
use Rattle.std.specs.Option.{option_map}
use Rattle.machine_model.specs.Feeders as feeders
use Rattle.link_slices.specs.Jobs.{job_of}
use Rattle.link_core.specs.Pictures.{job_in_book}
use Rattle.link_core.proofs.KeptBooks.{found_is_book, job_found, if_ok_is}
use Rattle.link_core.proofs.pictures.kept_job.Goals as goal

pub job_in_book-requires : goal.job_in_book-requires
job_in_book-requires c = record { book = found_is_book c.args.sessions.now c.args.number c.in-Some.book.now c.requires.heard (sym c.in-Some.ensures) }

pub returns-in-Some : goal.returns-in-Some
returns-in-Some c = λ size hs same.
    if_ok_is (option_map job_of) c.job_in_book.result (job_in_book c.in-Some.book.now c.args.number c.args.index) (feeders.kept_job size hs c.args.number c.args.index)
    c.job_in_book.ensures (job_found size hs c.args.number c.args.index c.args.sessions.now (Some c.in-Some.book.now) c.in-Some.ensures same)

pub returns-in-None : goal.returns-in-None
returns-in-None c = λ size hs same. job_found size hs c.args.number c.args.index c.args.sessions.now None c.in-None.ensures same
