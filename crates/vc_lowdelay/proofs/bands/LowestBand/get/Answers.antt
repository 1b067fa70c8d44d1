use Rattle.std.proofs.Common.{◌+◌, ◌*◌, pos, rules, FitsSigned, arith, ◌∙◌}
use Rattle.std.specs.Int.{w64}
use Rattle.std.proofs.lemmas.Int.{to_z-of_z}
use Rattle.std.proofs.lemmas.List.{get_or_default}
use Rattle.vc_lowdelay.proofs.BandCells.{place_within, value_is}
use Rattle.vc_lowdelay.proofs.bands.LowestBand.get.Goals as goal

pub index-requires : goal.index-requires
index-requires c =
    let s = c.self.inside in
    let within = place_within s.width s.height s.values.items c.args.self.now c.self.view_is c.args.x c.args.y c.requires.across c.requires.down in
    omega (arith, within, c.self.invariant)

pub returns : goal.returns
returns c =
    let s = c.self.inside in
    let within = place_within s.width s.height s.values.items c.args.self.now c.self.view_is c.args.x c.args.y c.requires.across c.requires.down in
    let v = c.index.result.now in
    let fits : FitsSigned w64 v = search rules in
    to_z-of_z w64 v fits ∙ c.index.ensures ∙ get_or_default s.values.items (c.args.y * s.width + c.args.x) v (pos 0) (omega (arith, within, c.self.invariant))
    ∙ value_is s.width s.height s.values.items c.args.self.now c.self.view_is c.args.x c.args.y
