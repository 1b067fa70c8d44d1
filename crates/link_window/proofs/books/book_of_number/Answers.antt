use Rattle.std.proofs.Common.{length, Some, None, ap, sym, ◌∙◌, arith}
use Rattle.std.specs.Prelude.{◌==◌}
use Rattle.std.proofs.lemmas.Bool.{ltb-true, ltb-false, cond-true, cond-false, eq-eqb, ne_eqb}
use Rattle.link_window.proofs.BookPlaces.{no_place, found_is}
use Rattle.link_window.proofs.books.book_of_number.Goals as goal

pub returns-in_err-picture : goal.returns-in_err-picture
returns-in_err-picture c = grind (arith, ltb-false, no_place)

pub returns-then-number : goal.returns-then-number
returns-then-number c =
    let b = c.in_ok-picture.picture.now in
    let within = ltb-true c.place_of.result (length c.args.pictures.now) (sym c.in_ok-picture.ensures.lookup.0) in
    ap Some c.book.ensures
    ∙ sym (found_is c.args.number c.args.pictures.now c.place_of.result b c.place_of.ensures.value within c.in_ok-picture.ensures.lookup.1
    ∙ cond-true (b.number == c.args.number) (Some b.book) None (eq-eqb b.number c.args.number (sym c.number.ensures ∙ c.if-number.true)))

pub returns-else-number : goal.returns-else-number
returns-else-number c =
    let b = c.in_ok-picture.picture.now in
    let within = ltb-true c.place_of.result (length c.args.pictures.now) (sym c.in_ok-picture.ensures.lookup.0) in
    sym (found_is c.args.number c.args.pictures.now c.place_of.result b c.place_of.ensures.value within c.in_ok-picture.ensures.lookup.1
    ∙ cond-false (b.number == c.args.number) (Some b.book) None (ne_eqb b.number c.args.number (λ same. c.if-number.false (c.number.ensures ∙ same))))
