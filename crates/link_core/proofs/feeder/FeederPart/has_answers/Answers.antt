use Rattle.std.proofs.Common.{◌≡◌, ◌∙◌, List, Some, None, ap}
use Rattle.machine_model.specs.Feeders.{Feeder, SliceAnswer}
use Rattle.link_model.specs.Session.{sessions_of}
use Rattle.link_core.specs.Pictures.{book_ready}
use Rattle.link_core.proofs.PictureStates.{ready_found}
use Rattle.link_core.proofs.feeder.FeederPart.has_answers.Goals as goal

pub returns-in-Some : goal.returns-in-Some
returns-in-Some c =
    let decoded : c.deref-in-Some.result.now ≡ c.args.self.now.decoded = c.deref-in-Some.ensures.value ∙ ap (λ (f : Feeder). f.decoded) c.self.view_is in
    c.is_ready.ensures
    ∙ ap (λ (l : List SliceAnswer). book_ready l c.args.number c.in-Some.book.now) decoded
    ∙ ready_found c.args.self.now.decoded c.args.number c.args.window (sessions_of c.args.self.now.heard) c.deref.result.now (Some c.in-Some.book.now) c.in-Some.ensures (c.deref.ensures.value ∙ c.in_ok-sessions.ensures)

pub returns : goal.returns
returns c = ready_found c.args.self.now.decoded c.args.number c.args.window (sessions_of c.args.self.now.heard) c.deref.result.now None c.in-None.ensures (c.deref.ensures.value ∙ c.in_ok-sessions.ensures)
