use Rattle.std.proofs.Common.{sym, ap, ◌∙◌}
use Rattle.std.specs.Prelude.{is_some}
use Rattle.std.specs.List.{count_by}
use Rattle.link_gather.proofs.FillingLaws.{none_kept}
use Rattle.link_gather.proofs.slots.Slots.new.Goals as goal

pub invariant_of-result : goal.invariant_of-result
invariant_of-result c = sym (ap (count_by is_some) c.loop.invariant ∙ none_kept _ c.loop.counter)
