use Rattle.std.proofs.Common.{sym, ◌∙◌}
use Rattle.claim_board.specs.declared.view.Deed.TheVariants.{WasRead}
use Rattle.claim_board.proofs.Tight.{is_true, lay_there, leads, one_more}
use Rattle.claim_board.proofs.laws.each_step_is_the_last.Goals as goal

pub returns-clause-last : goal.returns-clause-last
returns-clause-last c = λ s t old new seat v deed step. one_more s t old new seat v deed step

pub returns-clause-may : goal.returns-clause-may
returns-clause-may c = λ s t old new seat v deed step. is_true s t old new seat v deed step

pub returns-clause-leads : goal.returns-clause-leads
returns-clause-leads c = λ s t old new seat v deed place step h. leads s t old new seat v deed step place h

pub returns-clause-read : goal.returns-clause-read
returns-clause-read c = λ s t old new seat v place word step h. is_true s t old new seat v (WasRead place word) step ∙ sym (old.each place h).shows

pub returns-clause-taken : goal.returns-clause-taken
returns-clause-taken c = λ s t old new seat v place serial done step h. let l = lay_there s t old new seat v place serial done step h in (l.0, l.2, l.1)
