use Rattle.std.proofs.Common.{◌≡◌, ◌-◌}
use Rattle.std.specs.Prelude.{is_some}
use Rattle.std.specs.List.{list_all, range_with_len}
use Rattle.machine_model.specs.Feeders.{answer_in}
use Rattle.link_core.proofs.answers.has_answers.Given as goal

-- those that were seen have answers
abbrev pub invariant-loop-index : goal.invariant-loop-index
invariant-loop-index l =
    list_all (λ i. is_some (answer_in l.answers l.number i)) (range_with_len l.index (l.count - l.index))
    ≡ list_all (λ i. is_some (answer_in l.fn.answers l.fn.number i)) (range_with_len 0 l.fn.count)
