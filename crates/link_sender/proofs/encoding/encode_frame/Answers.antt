use Rattle.std.proofs.Common.{◌≡◌, Err, false, true, rules, arith}
use Rattle.std.proofs.lemmas.Grind.{common_steps}
use Rattle.picture_encode.specs.Answering.{Answers}
use Rattle.picture_encode.specs.declared.refusal.SliceRefusal.TheVariants.{NoMemory}
use Rattle.vc_types.specs.Fields.{joined}
use Rattle.vc_types.specs.Planes.{planes_in}
use Rattle.vc_types.specs.SenderSettings.{sending_view}
use Rattle.vc_types.specs.TransformParameters.{parameters_of}
use Rattle.link_sender.proofs.Frames.{first_can, first_field_refused, fields_encoded, none, second_can, second_field_refused, whole_can, whole_encoded, whole_refused}
use Rattle.link_sender.proofs.FramePictures.{even_heights}
use Rattle.link_sender.proofs.encoding.encode_frame.Goals as goal

pub encode_picture-requires-clause-planes : goal.encode_picture-requires-clause-planes
encode_picture-requires-clause-planes g c =
    let single : c.args.s.now.fields ≡ false = search rules in
    whole_can (Answers g.F.Fn (sending_view c.args.s.now) c.args.chooser.now) c.args.chooser.now.wants_lens (sending_view c.args.s.now) (planes_in c.args.frame.now) c.requires.sizes c.requires.samples (parameters_of c.args.plan.now) c.requires.plan single

pub returns-in_err-first : goal.returns-in_err-first
returns-in_err-first g c = grind (arith, common_steps, whole_refused)

pub returns-then-not-s : goal.returns-then-not-s
returns-then-not-s g c =
    let single : c.args.s.now.fields ≡ false = search rules in
    whole_encoded (Answers g.F.Fn (sending_view c.args.s.now) c.args.chooser.now) c.args.chooser.now.wants_lens (sending_view c.args.s.now) (planes_in c.args.frame.now) c.requires.sizes c.requires.samples (parameters_of c.args.plan.now) c.requires.plan single (joined c.in_ok-first.first.items) c.in_ok-first.ensures.encoded

pub split-requires : goal.split-requires
split-requires g c =
    let double : c.args.s.now.fields ≡ true = search rules in
    even_heights c.args.s.now (planes_in c.args.frame.now) c.requires.sizes double

pub returns-in_err-earlier : goal.returns-in_err-earlier
returns-in_err-earlier g c =
    let same : c.from_residual-in_err-earlier.result ≡ Err NoMemory = search rules in
    rw same (none (Answers g.F.Fn (sending_view c.args.s.now) c.args.chooser.now) c.args.chooser.now.wants_lens (sending_view c.args.s.now) (planes_in c.args.frame.now) c.requires.sizes c.requires.samples (parameters_of c.args.plan.now) c.requires.plan)

pub encode_picture-requires-2-clause-planes : goal.encode_picture-requires-2-clause-planes
encode_picture-requires-2-clause-planes g c =
    let double : c.args.s.now.fields ≡ true = search rules in
    first_can (Answers g.F.Fn (sending_view c.args.s.now) c.args.chooser.now) c.args.chooser.now.wants_lens (sending_view c.args.s.now) (planes_in c.args.frame.now) c.requires.sizes c.requires.samples (parameters_of c.args.plan.now) c.requires.plan (planes_in c.in_ok-earlier.earlier) (planes_in c.in_ok-earlier.later) double c.in_ok-earlier.ensures.value

pub returns-in_err-first-2 : goal.returns-in_err-first-2
returns-in_err-first-2 g c =
    let double : c.args.s.now.fields ≡ true = search rules in
    let e = c.in_err-first-2.field-0.0 in
    let same : c.from_residual-in_err-first-2.result ≡ Err e = search rules in
    rw same (first_field_refused (Answers g.F.Fn (sending_view c.args.s.now) c.args.chooser.now) c.args.chooser.now.wants_lens (sending_view c.args.s.now) (planes_in c.args.frame.now) c.requires.sizes c.requires.samples (parameters_of c.args.plan.now) c.requires.plan (planes_in c.in_ok-earlier.earlier) (planes_in c.in_ok-earlier.later) double c.in_ok-earlier.ensures.value e c.in_err-first-2.ensures.refused)

pub encode_picture-requires-3-clause-planes : goal.encode_picture-requires-3-clause-planes
encode_picture-requires-3-clause-planes g c =
    let double : c.args.s.now.fields ≡ true = search rules in
    second_can (Answers g.F.Fn (sending_view c.args.s.now) c.args.chooser.now) c.args.chooser.now.wants_lens (sending_view c.args.s.now) (planes_in c.args.frame.now) c.requires.sizes c.requires.samples (parameters_of c.args.plan.now) c.requires.plan (planes_in c.in_ok-earlier.earlier) (planes_in c.in_ok-earlier.later) double c.in_ok-earlier.ensures.value

pub returns-in_err-second : goal.returns-in_err-second
returns-in_err-second g c =
    let double : c.args.s.now.fields ≡ true = search rules in
    let e = c.in_err-second.field-0.0 in
    let same : c.from_residual-in_err-second.result ≡ Err e = search rules in
    rw same (second_field_refused (Answers g.F.Fn (sending_view c.args.s.now) c.args.chooser.now) c.args.chooser.now.wants_lens (sending_view c.args.s.now) (planes_in c.args.frame.now) c.requires.sizes c.requires.samples (parameters_of c.args.plan.now) c.requires.plan (planes_in c.in_ok-earlier.earlier) (planes_in c.in_ok-earlier.later) double c.in_ok-earlier.ensures.value (joined c.in_ok-first-2.first.items) e c.in_ok-first-2.ensures.encoded c.in_err-second.ensures.refused)

pub returns : goal.returns
returns g c =
    let double : c.args.s.now.fields ≡ true = search rules in
    fields_encoded (Answers g.F.Fn (sending_view c.args.s.now) c.args.chooser.now) c.args.chooser.now.wants_lens (sending_view c.args.s.now) (planes_in c.args.frame.now) c.requires.sizes c.requires.samples (parameters_of c.args.plan.now) c.requires.plan (planes_in c.in_ok-earlier.earlier) (planes_in c.in_ok-earlier.later) double c.in_ok-earlier.ensures.value (joined c.in_ok-first-2.first.items) (joined c.in_ok-second.second.items) c.in_ok-first-2.ensures.encoded c.in_ok-second.ensures.encoded
