use Rattle.machine_model.specs.Feeding.{sound_answers}
use Rattle.std.specs.List.{range_with_len}
use Rattle.link_core.proofs.SoundAnswers.{Left}
use Rattle.link_core.proofs.frames.sound_answers.Given as goal

-- those that were seen are sound
abbrev pub invariant-loop-index : goal.invariant-loop-index
invariant-loop-index l = Left l.answers l.number l.slices.items l.index l.count (sound_answers l.fn.answers l.fn.number (range_with_len 0 l.fn.count))
