use Rattle.std.proofs.Common.{length}
use Rattle.vc_types.specs.TransformParameters.{parameters_of}
use Rattle.picture_build.proofs.SeenSlices.{all_in, planes_seen}
use Rattle.picture_build.proofs.placed.PlacedSlices.planes.Goals as goal

pub planes_in_turn-planes-requires : goal.planes_in_turn-planes-requires
planes_in_turn-planes-requires c = all_in (parameters_of c.self.inside.plan) c.self.inside.came.items c.self.inside.y c.self.inside.c1 c.self.inside.c2 (length c.self.inside.numbers.items) c.self.invariant c.args.self.now c.self.view_is c.requires.whole

pub returns-clause-value : goal.returns-clause-value
returns-clause-value c = planes_seen (parameters_of c.self.inside.plan) c.self.inside.came.items c.self.inside.y c.self.inside.c1 c.self.inside.c2 (length c.self.inside.numbers.items) c.self.invariant c.args.self.now c.self.view_is c.requires.whole c.planes_in_turn-planes.result c.planes_in_turn-planes.ensures
