use Rattle.std.proofs.Common.{◌≡◌, Option, Some, None, Bor, IfSome, refl, ap, sym, subst, ◌∙◌}
use Rattle.std.specs.Option.{option_copied}
use Rattle.link_model.specs.Books.{Book}
use Rattle.receiver_model.specs.Receptions.{StandingSession}
use Rattle.receiver_model.specs.WholeBooks.{IsWholeBook}
use Rattle.link_window.proofs.SessionWindows.{window_book_whole}
use Rattle.vc_types.specs.SequenceHeader.{Sequence}
use Rattle.link_window.proofs.standing.Standing.book.Goals as goal

if_some : (o : Option (Bor Book)) (s : Sequence)
    → ((b : Book) → option_copied o ≡ Some b → IsWholeBook s b) → IfSome o (λ book. IsWholeBook s book.now)
if_some None s whole = tt
if_some (Some b) s whole = whole b.now refl

pub returns-clause-whole : goal.returns-clause-whole
returns-clause-whole c =
    let sound = c.self.invariant in
    let w = c.self.inside.window in
    if_some c.book.result c.args.self.now.session.sequence
    (λ b is. subst (λ (s : Sequence). IsWholeBook s b)
    (sound.sequence ∙ ap (λ (st : StandingSession). st.session.sequence) c.self.view_is)
    (window_book_whole w sound.past sound.stands c.args.number b (sym c.book.ensures.value ∙ is)))
