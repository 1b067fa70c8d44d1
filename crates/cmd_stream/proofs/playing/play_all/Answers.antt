use Rattle.std.proofs.Common.{◌∙◌, ap, subst, arith, inr, refl, List, ℕ, []}
use Rattle.vc_ports.specs.Reading.{GaveAll, Gave}
use Rattle.vc_units.proofs.Infos.{data_unit-stub}
use Rattle.cmd_stream.specs.PlayLooping.{summary_of}
use Rattle.cmd_stream.proofs.UnitsRead.{at_edge}
use Rattle.cmd_stream.proofs.Players.{summary_is}
use Rattle.vc_ports.proofs.Fronts.{none_of_one}
use Rattle.cmd_stream.proofs.PlayStopping.{input_failed, past_limit, plays_whole, plays_part}
use Rattle.cmd_stream.proofs.playing.play_all.Goals as goal

-- the units ended
pub returns-in-Ended-clause-plays : goal.returns-in-Ended-clause-plays
returns-in-Ended-clause-plays g c =
    let played = rw c.in-Ended.is at c.in_ok-play_units.ensures.ended in
    plays_whole c.args.packets _ _ played.so_far _ played.units (ap summary_of played.keeps ∙ summary_is played.so_far.stream)

-- one byte more
pub returns-in-Whole-clause-plays : goal.returns-in-Whole-clause-plays
returns-in-Whole-clause-plays g c =
    let played = rw c.in-AtLimit.is at c.in_ok-play_units.ensures.ended in
    plays_part c.args.packets _ _ _ (past_limit c.args.packets c.args.packets _ _ (g.S.Source.left c.play_units.new.input) _ played.so_far played.units refl refl c.fill.new.buf c.fill.auto.buf c.in-Whole.ensures.bytes) (λ e. cc) (λ e. cc)

-- the end
pub returns-in-End-clause-plays : goal.returns-in-End-clause-plays
returns-in-End-clause-plays g c =
    let played = rw c.in-AtLimit.is at c.in_ok-play_units.ensures.ended in
    let fills = c.in-End.ensures.bytes in
    let gave = subst (λ (bytes : List ℕ). GaveAll (g.S.Source.left c.play_units.new.input) (g.S.Source.left c.fill.new.source) bytes) (none_of_one c.fill.new.buf c.in-End.field-0 c.fill.auto.buf fills.0) fills.1 in
    plays_whole c.args.packets _ _ played.so_far _ (at_edge c.args.packets c.args.packets _ _ _ _ played.so_far played.units _ gave) (ap summary_of played.keeps ∙ summary_is played.so_far.stream)

-- a failed read
pub returns-in-Failed-clause-plays : goal.returns-in-Failed-clause-plays
returns-in-Failed-clause-plays g c =
    let played = rw c.in-AtLimit.is at c.in_ok-play_units.ensures.ended in
    let fills = c.in-Failed.ensures.bytes in
    let gave = subst (λ (bytes : List ℕ). Gave (g.S.Source.left c.play_units.new.input) (g.S.Source.left c.fill.new.source) bytes) (none_of_one c.fill.new.buf c.in-Failed.field-0 c.fill.auto.buf fills.0) fills.1 in
    plays_part c.args.packets _ _ _ (input_failed c.args.packets c.args.packets _ _ (g.S.Source.left c.play_units.new.input) _ played.so_far played.units refl [] gave (data_unit-stub [] (omega arith)) (inr refl))
    (λ e. omega (arith, c.in_ok-play_units.ensures.input_cause.later, c.in-Failed.ensures.cause.rose tt)) (λ e. cc)
