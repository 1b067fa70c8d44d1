use Rattle.std.proofs.Common.{ap, ◌∙◌}
use Rattle.link_model.specs.Books.{Book, book_takes, book_outcome}
use Rattle.link_model.specs.Session.{SlicesPart}
use Rattle.link_model.proofs.Bookkeeping.{takes-more, book_outcome_is}
use Rattle.link_gather.specs.Views.{slice_part_of}
use Rattle.link_gather.proofs.book.PictureBook.take_slices.Goals as goal

pub returns-clause-judged : goal.returns-clause-judged
returns-clause-judged c = λ s parts is. c.in_ok-taken.ensures.outcome
    ∙ ap (λ (b : Book). book_outcome b (SlicesPart (slice_part_of c.args.part))) is
    ∙ book_outcome_is s parts (SlicesPart (slice_part_of c.args.part))

pub returns-clause-stands : goal.returns-clause-stands
returns-clause-stands c = λ s parts is. c.in_ok-taken.ensures.value
    ∙ ap (λ (b : Book). book_takes b (SlicesPart (slice_part_of c.args.part))) is
    ∙ takes-more s parts (SlicesPart (slice_part_of c.args.part))
