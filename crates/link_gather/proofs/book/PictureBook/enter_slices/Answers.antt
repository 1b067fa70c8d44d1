use Rattle.std.proofs.Common.{◌≡◌, [], Option, Some, rules, arith, ap, sym, ◌∙◌, map}
use Rattle.std.specs.Prelude.{is_some}
use Rattle.std.specs.Option.{option_map_or}
use Rattle.std.proofs.lemmas.Grind.{common_steps}
use Rattle.std.proofs.lemmas.Result.{IfOk-weaker}
use Rattle.link_model.specs.Books.{Book, Gathered, book_outcome, book_slice, slot_at, book_plan}
use Rattle.link_model.specs.Books.{gathered_outcome, known_by_book}
use Rattle.link_model.specs.Judgement.{slices_outcome}
use Rattle.link_model.specs.Session.{SlicePart, SlicesPart}
use Rattle.link_gather.specs.NewSlices.{new_in, new_slices}
use Rattle.link_gather.specs.Views.{new_slice_of, slice_part_of}
use Rattle.link_gather.specs.declared.part.Taken.{Taken}
use Rattle.link_gather.proofs.NewLaws.{more_brings}
use Rattle.link_gather.proofs.book.PictureBook.enter_slices.Goals as goal

-- slices of a picture with parameters
gathered_is : (book : Book) (g : Gathered) (slices : SlicePart) → book.gathered ≡ Some g
    → book_outcome book (SlicesPart slices) ≡ gathered_outcome g slices
unfolding book_outcome
gathered_is book g slices is =
    ap (λ (o : Option Gathered). let b : Book = record book { gathered = o } in
    slices_outcome (known_by_book b) (book_plan b) slices) is

pub returns-in-Some-clause-outcome : goal.returns-in-Some-clause-outcome
returns-in-Some-clause-outcome c =
    let is : c.args.self.now.gathered ≡ Some c.in-Some.gathering = first_of (
      search rules,
      cc (ap (λ (b : Book). b.gathered) c.self.view_is, c.in-Some.is),
      grind (arith, common_steps),
    ) in
    IfOk-weaker c.take.result
    (λ taken. taken.outcome ≡ gathered_outcome c.in-Some.gathering (slice_part_of c.args.part))
    (λ taken. taken.outcome ≡ book_outcome c.args.self.now (SlicesPart (slice_part_of c.args.part)))
    (λ taken e. e ∙ sym (gathered_is c.args.self.now c.in-Some.gathering (slice_part_of c.args.part) is))
    c.take.ensures.outcome

pub returns-in-Some-clause-slices : goal.returns-in-Some-clause-slices
returns-in-Some-clause-slices c =
    let is : c.args.self.now.gathered ≡ Some c.in-Some.gathering = first_of (
      search rules,
      cc (ap (λ (b : Book). b.gathered) c.self.view_is, c.in-Some.is),
      grind (arith, common_steps),
    ) in
    let now : c.match-part.self.gathered ≡ Some c.take.new.self =
    first_of (search rules, grind (arith, common_steps)) in
    IfOk-weaker c.take.result (λ (taken : Taken). map new_slice_of taken.slices.items
    ≡ new_in (λ i. is_some (slot_at c.in-Some.gathering.slots i)) c.take.new.self)
    (λ (taken : Taken). map new_slice_of taken.slices.items ≡ new_slices c.args.self.now c.match-part.self)
    (λ taken e. e ∙ more_brings c.args.self.now c.take.new.self c.in-Some.gathering is
    ∙ ap (λ (o : Option Gathered).
    option_map_or (new_in (λ i. is_some (book_slice c.args.self.now i))) o []) (sym now))
    c.take.ensures.slices
