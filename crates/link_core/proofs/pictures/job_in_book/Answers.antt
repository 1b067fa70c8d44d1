use Rattle.std.proofs.Common.{rules, ◌≡◌, Some}
use Rattle.std.specs.Option.{option_map}
use Rattle.link_model.specs.Books.{book_plan, book_slice}
use Rattle.link_model.specs.Kept.{KeptParameters}
use Rattle.vc_types.specs.TransformParameters.{parameters_of}
use Rattle.link_core.proofs.KeptBooks.{given_slice}
use Rattle.link_core.proofs.pictures.job_in_book.Goals as goal

pub invariant_of-result : goal.invariant_of-result
invariant_of-result c =
    let planned : Some (parameters_of c.in-Some-Some.plan) ≡ option_map (λ (plan : KeptParameters). plan.parameters) (book_plan c.args.book.now) = search rules in
    let slice : Some c.in-Ok.bytes ≡ book_slice c.args.book.now c.args.index = search rules in
    let given = given_slice c.args.book.now (parameters_of c.in-Some-Some.plan) c.args.number c.args.index c.in-Ok.bytes planned slice c.requires.book in
    record { whole = given.0; in_plan = given.1 }
