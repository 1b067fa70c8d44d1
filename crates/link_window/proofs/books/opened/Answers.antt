use Rattle.std.proofs.Common.{arith}
use Rattle.link_window.proofs.BookPlaces.{empty_book, opens_none, opens_some, copied_none, copied_some}
use Rattle.link_window.proofs.books.opened.Goals as goal

pub returns-in_ok-insert-clause-value : goal.returns-in_ok-insert-clause-value
returns-in_ok-insert-clause-value c = grind (arith, copied_none, empty_book, opens_none)

pub returns-else-is_none-clause-value : goal.returns-else-is_none-clause-value
returns-else-is_none-clause-value c = grind (arith, copied_some, opens_some)
