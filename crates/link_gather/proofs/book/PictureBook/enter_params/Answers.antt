use Rattle.std.proofs.Common.{◌≡◌, None, ap, ◌∙◌, map, rules, arith}
use Rattle.std.proofs.lemmas.Grind.{common_steps}
use Rattle.link_model.specs.Books.{Book}
use Rattle.link_gather.specs.Views.{new_slice_of}
use Rattle.link_gather.proofs.NewLaws.{first_brings, same_brings}
use Rattle.link_gather.proofs.book.PictureBook.enter_params.Goals as goal

pub returns-in_default-clause-slices : goal.returns-in_default-clause-slices
returns-in_default-clause-slices c =
    ap (map new_slice_of) c.nothing.ensures.slices ∙ same_brings c.args.self.now

pub returns-in-Some-clause-slices : goal.returns-in-Some-clause-slices
returns-in-Some-clause-slices c =
    ap (map new_slice_of) c.nothing-in-Some.ensures.slices ∙ same_brings c.args.self.now

pub returns-clause-slices : goal.returns-clause-slices
returns-clause-slices c =
    let none : c.args.self.now.gathered ≡ None = first_of (
      search rules,
      cc (ap (λ (b : Book). b.gathered) c.self.view_is, c.in_default-gathering.is),
      grind (arith, common_steps),
    ) in
    c.in_ok-slices.ensures ∙ first_brings c.args.self.now c.in_ok-gathering.gathering none
