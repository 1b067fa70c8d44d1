use Rattle.std.proofs.Common.{◌≡◌, ◌∙◌, rules}
use Rattle.std.specs.Option.{option_copied}
use Rattle.link_model.specs.Windows.{book_at}
use Rattle.link_model.proofs.WindowStands.{book_is}
use Rattle.link_window.proofs.window.Window.book.Goals as goal

pub returns-clause-opened : goal.returns-clause-opened
returns-clause-opened c = λ p stands.
    let value : option_copied c.book_of_number.result ≡ book_at c.args.self.now.books c.args.number = search rules in
    value ∙ book_is c.args.self.now p stands c.args.number
