use Rattle.std.proofs.Common.{ap, ◌∙◌}
use Rattle.vc_types.specs.TransformParameters.{Parameters}
use Rattle.picture_build.specs.Kept.{no_slices}
use Rattle.picture_build.proofs.WaitingRuns.{waiting-begun, seen-begun, seen-parameters}
use Rattle.picture_build.proofs.builder.PictureBuilder.restart.Goals as goal

pub invariant_of-self : goal.invariant_of-self
invariant_of-self c =
    let s = c.self.inside in
    waiting-begun s.placed.parameters c.restart.new.self c.clear.new.self _ s.came.len c.restart.ensures.value c.clear.ensures (c.fill.ensures.items (λ y e. e)) (s.came.ok.0 ∙ c.self.invariant.entries)

pub returns : goal.returns
returns c =
    let s = c.self.inside in
    record {
      value = seen-begun s.placed.parameters c.restart.new.self c.clear.new.self _ s.came.len c.restart.ensures.value c.clear.ensures (c.fill.ensures.items (λ y e. e)) (s.came.ok.0 ∙ c.self.invariant.entries)
          ∙ ap (λ (p : Parameters). no_slices p) (seen-parameters s.placed s.runs s.came.items c.self.invariant c.args.self.now c.self.view_is);
    }
