use Rattle.std.proofs.Common.{◌≡◌, drop}
use Rattle.machine_model.specs.Feeders.{answer_in}
use Rattle.link_core.proofs.answers.answer_in.Given as goal

-- those that were seen are answers to other slices
abbrev pub invariant-loop-kept : goal.invariant-loop-kept
invariant-loop-kept l = answer_in (drop l.kept-index l.answers) l.number l.index ≡ answer_in l.fn.answers l.fn.number l.fn.index
