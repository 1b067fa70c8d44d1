use Rattle.link_model.proofs.WindowStands.{next_is, releasable_next, releasable_opened, book_of_next, next_is_greater}
use Rattle.link_model.proofs.window_laws.windows_release_in_order.Goals as goal

pub returns-clause-next : goal.returns-clause-next
returns-clause-next c = next_is

pub returns-clause-rest : goal.returns-clause-rest
returns-clause-rest c = releasable_next

pub returns-clause-opened : goal.returns-clause-opened
returns-clause-opened c = releasable_opened

pub returns-clause-book : goal.returns-clause-book
returns-clause-book c = book_of_next

pub returns-clause-rising : goal.returns-clause-rising
returns-clause-rising c = λ w p stands n m next. next_is_greater w p stands n next m
