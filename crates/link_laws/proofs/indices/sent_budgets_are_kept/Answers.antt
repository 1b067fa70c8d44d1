-- The law is told as it is proved.
use Rattle.link_laws.proofs.SentBudgets.{sent_budgets_are_kept}
use Rattle.link_laws.proofs.indices.sent_budgets_are_kept.Goals as goal

pub returns : goal.returns
returns c = sent_budgets_are_kept
