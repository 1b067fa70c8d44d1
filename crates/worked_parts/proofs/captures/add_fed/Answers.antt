use Rattle.worked_parts.proofs.captures.add_fed.Goals as goal

pub returns-in_ok-add_answer-in-Ok : goal.returns-in_ok-add_answer-in-Ok
returns-in_ok-add_answer-in-Ok g c = λ more ready goes_on. c.in-Ok.ensures.ready more ready
