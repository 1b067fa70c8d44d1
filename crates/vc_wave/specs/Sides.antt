-- The columns and rows of the subbands of a component's highest level.
use Rattle.std.specs.Prelude.{ℕ, ◌-◌, ◌*◌, ◌^◌}
use Rattle.vc_types.specs.declared.video.Component.{Component}
use Rattle.vc_types.specs.TransformParameters.{Parameters}
use Rattle.vc_types.specs.Transforms.{lowest_width, lowest_height}

abbrev pub highest_width : Parameters → Component → ℕ
highest_width p c = lowest_width p c * 2 ^ p.depth_ho * 2 ^ (p.depth - 1)

abbrev pub highest_height : Parameters → Component → ℕ
highest_height p c = lowest_height p c * 2 ^ (p.depth - 1)
