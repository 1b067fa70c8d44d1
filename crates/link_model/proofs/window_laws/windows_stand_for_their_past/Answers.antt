use Rattle.link_model.proofs.WindowStands.{new_stands, enters_stands, window_outcome_is, releases_stands, finishes_stands, book_is}
use Rattle.link_model.proofs.window_laws.windows_stand_for_their_past.Goals as goal

pub returns-clause-none : goal.returns-clause-none
returns-clause-none c = new_stands

pub returns-clause-more : goal.returns-clause-more
returns-clause-more c = enters_stands

pub returns-clause-outcome : goal.returns-clause-outcome
returns-clause-outcome c = window_outcome_is

pub returns-clause-released : goal.returns-clause-released
returns-clause-released c = releases_stands

pub returns-clause-finished : goal.returns-clause-finished
returns-clause-finished c = finishes_stands

pub returns-clause-book : goal.returns-clause-book
returns-clause-book c = book_is
