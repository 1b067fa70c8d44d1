use Rattle.link_model.proofs.WindowBounds.{few_books, all_books_few}
use Rattle.link_model.proofs.WindowStands.{late_leaves, enters_runs}
use Rattle.link_model.proofs.window_laws.windows_stay_small.Goals as goal

pub returns-clause-few : goal.returns-clause-few
returns-clause-few c = few_books

pub returns-clause-late : goal.returns-clause-late
returns-clause-late c = late_leaves

pub returns-clause-all : goal.returns-clause-all
returns-clause-all c = all_books_few

pub returns-clause-running : goal.returns-clause-running
returns-clause-running c = enters_runs
