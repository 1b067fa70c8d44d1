use Rattle.std.proofs.Common.{◌≡◌, Err, rules, ap}
use Rattle.vc_types.specs.Planes.{planes_in}
use Rattle.vc_types.specs.SenderSettings.{sending_view}
use Rattle.vc_types.specs.Subbands.{slice_count}
use Rattle.vc_types.specs.TransformParameters.{Parameters, parameters_of}
use Rattle.picture_encode.specs.Answering.{Answers}
use Rattle.picture_encode.specs.declared.refusal.SliceRefusal.TheVariants.{NoMemory}
use Rattle.picture_encode.proofs.FirstSlices.{no_memory, picture_encoded, picture_not_encoded}
use Rattle.picture_encode.proofs.picture.encode_picture.Goals as goal

pub returns-in_err-grids-clause-refused : goal.returns-in_err-grids-clause-refused
returns-in_err-grids-clause-refused g c =
    let same : c.from_residual.result ≡ Err NoMemory = search rules in
    rw same (no_memory (Answers g.F.Fn (sending_view c.args.s.now) c.args.chooser.now) c.args.chooser.now.wants_lens (sending_view c.args.s.now) (planes_in c.args.planes.now))

pub encode_in_turn-requires-clause-grids : goal.encode_in_turn-requires-clause-grids
encode_in_turn-requires-clause-grids g c = (let has = c.in_ok-grids.ensures in record { y = has.y.grid; c1 = has.c1.grid; c2 = has.c2.grid })

pub returns-clause-encoded : goal.returns-clause-encoded
returns-clause-encoded g c =
    picture_encoded (Answers g.F.Fn (sending_view c.args.s.now) c.args.chooser.now) c.args.chooser.now.wants_lens (sending_view c.args.s.now) (planes_in c.args.planes.now) (slice_count (parameters_of c.args.plan.now)) c.encode_in_turn.result
    (c.encode_in_turn.ensures (planes_in c.args.planes.now) c.in_ok-grids.ensures)

pub returns-clause-refused : goal.returns-clause-refused
returns-clause-refused g c =
    picture_not_encoded (Answers g.F.Fn (sending_view c.args.s.now) c.args.chooser.now) c.args.chooser.now.wants_lens (sending_view c.args.s.now) (planes_in c.args.planes.now) (slice_count (parameters_of c.args.plan.now)) c.encode_in_turn.result
    (ap (λ (p : Parameters). slice_count p) c.requires.plan) (c.encode_in_turn.ensures (planes_in c.args.planes.now) c.in_ok-grids.ensures)
