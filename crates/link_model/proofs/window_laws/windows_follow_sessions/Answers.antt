use Rattle.link_model.proofs.WindowNumbers.{top_of_session, session_enters, session_stays, entered_number, entered_book}
use Rattle.link_model.proofs.window_laws.windows_follow_sessions.Goals as goal

pub returns-clause-greatest : goal.returns-clause-greatest
returns-clause-greatest c = top_of_session

pub returns-clause-more : goal.returns-clause-more
returns-clause-more c = session_enters

pub returns-clause-same : goal.returns-clause-same
returns-clause-same c = session_stays

pub returns-clause-number : goal.returns-clause-number
returns-clause-number c = entered_number

pub returns-clause-book : goal.returns-clause-book
returns-clause-book c = entered_book
