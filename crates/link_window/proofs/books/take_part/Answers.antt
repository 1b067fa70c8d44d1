use Rattle.std.proofs.Common.{List, set, ap, ◌∙◌, arith}
use Rattle.std.proofs.lemmas.Result.{on_ok_weaker}
use Rattle.link_model.specs.Books.{book_takes}
use Rattle.link_model.specs.Windows.{NumberedBook, with_number}
use Rattle.link_window.proofs.BookPlaces.{brings_by, own_book, place_inside, read_own, takes_at_place}
use Rattle.link_window.specs.Places.{number_place, with_book}
use Rattle.link_window.specs.Views.{sent_part}
use Rattle.vc_types.specs.SequenceHeader.{sequence_of}
use Rattle.link_window.proofs.books.take_part.Goals as goal

pub index_mut-requires : goal.index_mut-requires
index_mut-requires c = grind (arith, place_inside)

pub returns-clause-outcome : goal.returns-clause-outcome
returns-clause-outcome c = grind (arith, own_book, read_own)

pub returns-clause-slices : goal.returns-clause-slices
returns-clause-slices c =
    let n = c.args.number in
    let s = sequence_of c.args.h in
    let old = c.args.pictures.now.items in
    let b = c.index_mut.result.now in
    let own = read_own n s old c.opened.new.pictures.items c.in_ok-place.place b
    c.in_ok-place.ensures.value c.in_ok-place.ensures.place c.index_mut.ensures.value in
    brings_by c.take.result b.book c.take.new.self.book (own_book n s old) (sent_part c.args.part)
    (on_ok_weaker c.take.result (λ after. ap (λ (b : NumberedBook). b.book) after) c.take.ensures.value)
    c.take.ensures.slices (ap (λ (b : NumberedBook). b.book) own)

pub returns-clause-value : goal.returns-clause-value
returns-clause-value c =
    let old = c.args.pictures.now.items in
    let n = c.args.number in
    let s = sequence_of c.args.h in
    let part = sent_part c.args.part in
    let own = read_own n s old c.opened.new.pictures.items c.in_ok-place.place c.index_mut.result.now
    c.in_ok-place.ensures.value c.in_ok-place.ensures.place c.index_mut.ensures.value in
    on_ok_weaker c.take.result (λ after.
    ap (λ (l : List NumberedBook). set l c.in_ok-place.place c.take.new.self) c.in_ok-place.ensures.value
    ∙ ap (λ k. set (with_book s old n) k c.take.new.self) c.in_ok-place.ensures.place
    ∙ ap (set (with_book s old n) (number_place old n))
    (after ∙ ap (λ (b : NumberedBook). with_number b.number (book_takes b.book part)) own)
    ∙ takes_at_place n s part old) c.take.ensures.value
