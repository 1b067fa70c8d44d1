use Rattle.std.proofs.Common.{subst, arith, inr, refl, List, ℕ, []}
use Rattle.vc_ports.specs.Reading.{GaveAll, Gave}
use Rattle.vc_units.proofs.Infos.{data_unit-stub}
use Rattle.cmd_stream.proofs.UnitsPacked.{at_edge}
use Rattle.vc_ports.proofs.Fronts.{none_of_one}
use Rattle.cmd_stream.proofs.PackStopping.{input_failed, past_limit, packs_whole, packs_part}
use Rattle.vc_types.specs.SenderSettings.{packing_view}
use Rattle.cmd_stream.proofs.packing.pack.Goals as goal

-- the units ended
pub returns-in-Ended : goal.returns-in-Ended
returns-in-Ended g c =
    let s = packing_view c.args.settings.now in
    let packed = rw (c.new-packer.ensures.settings, c.in-Ended.is) at c.in_ok-pack_units.ensures.ended in
    packs_whole s c.args.packets _ _ _ packed.so_far packed.units c.finish.result (c.finish.ensures.value s packed.so_far.stream packed.keeps) (λ e. omega (arith, c.in_ok-pack_units.ensures.output_cause.later, c.finish.ensures.cause.rose e))

-- one byte more
pub returns-in-Whole : goal.returns-in-Whole
returns-in-Whole g c =
    let s = packing_view c.args.settings.now in
    let packed = rw (c.new-packer.ensures.settings, c.in-AtLimit.is) at c.in_ok-pack_units.ensures.ended in
    packs_part s c.args.packets _ _ _ (past_limit s c.args.packets c.args.packets _ _ (g.S.Source.left c.pack_units.new.input) _ packed.so_far packed.units refl refl c.fill.new.buf c.fill.auto.buf c.in-Whole.ensures.bytes) (λ e. cc) (λ e. cc)

-- the end
pub returns-in-End : goal.returns-in-End
returns-in-End g c =
    let s = packing_view c.args.settings.now in
    let packed = rw (c.new-packer.ensures.settings, c.in-AtLimit.is) at c.in_ok-pack_units.ensures.ended in
    let fills = c.in-End.ensures.bytes in
    let gave = subst (λ (bytes : List ℕ). GaveAll (g.S.Source.left c.pack_units.new.input) (g.S.Source.left c.fill.new.source) bytes) (none_of_one c.fill.new.buf c.in-End.field-0 c.fill.auto.buf fills.0) fills.1 in
    packs_whole s c.args.packets _ _ _ packed.so_far (at_edge s c.args.packets c.args.packets _ _ _ _ packed.so_far packed.units _ gave) c.finish-in-End.result (c.finish-in-End.ensures.value s packed.so_far.stream packed.keeps) (λ e. omega (arith, c.in_ok-pack_units.ensures.output_cause.later, c.finish-in-End.ensures.cause.rose e))

-- a failed read
pub returns : goal.returns
returns g c =
    let s = packing_view c.args.settings.now in
    let packed = rw (c.new-packer.ensures.settings, c.in-AtLimit.is) at c.in_ok-pack_units.ensures.ended in
    let fills = c.in-Failed.ensures.bytes in
    let gave = subst (λ (bytes : List ℕ). Gave (g.S.Source.left c.pack_units.new.input) (g.S.Source.left c.fill.new.source) bytes) (none_of_one c.fill.new.buf c.in-Failed.field-0 c.fill.auto.buf fills.0) fills.1 in
    packs_part s c.args.packets _ _ _ (input_failed s c.args.packets c.args.packets _ _ (g.S.Source.left c.pack_units.new.input) _ packed.so_far packed.units refl [] gave (data_unit-stub [] (omega arith)) (inr refl))
    (λ e. omega (arith, c.in_ok-pack_units.ensures.input_cause.later, c.in-Failed.ensures.cause.rose tt)) (λ e. cc)
