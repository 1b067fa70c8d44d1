use Rattle.std.proofs.Common.{◌≡◌, ℕ, [], ◌∷◌, ap, length, map, subst, ◌∙◌, arith}
use Rattle.link_model.specs.Sending.{HeaderContent, ParametersContent, SlicesContent, outgoing, runs_of_slices}
use Rattle.stream_model.specs.Packing.{slices_room}
use Rattle.link_model.specs.SendingPictures.{slice_room}
use Rattle.picture_encode.specs.Encoded.{bytes_of_slices}
use Rattle.vc_types.specs.Bits.{bits_of}
use Rattle.vc_types.specs.Fields.{filled_up, joined}
use Rattle.vc_types.specs.HeaderSpelling.{encoder_header_with, header_bits}
use Rattle.vc_types.specs.declared.presentation.CodedPresentation.{CodedPresentation}
use Rattle.vc_types.specs.SenderSettings.{packing_view, sending_view}
use Rattle.vc_types.specs.SequenceHeader.{sequence_of}
use Rattle.vc_types.specs.TransformParameters.{parameters_of}
use Rattle.link_sender.specs.Packing.{Appends, picture_at}
use Rattle.link_sender.proofs.Heads.{header_bytes, is_encoder_header, parameter_bytes, short_header, short_parameters}
use Rattle.link_sender.proofs.Numbered.{then_ok}
use Rattle.link_sender.proofs.PutPictures.{all_fit, sent_slice_count}
use Rattle.link_sender.proofs.Putting.{puts_more}
use Rattle.link_sender.proofs.SentAsPacked.{appends_packed}
use Rattle.link_sender.proofs.sender.Sender.put_picture.Goals as goal

pub write_header_with-requires-clause-form : goal.write_header_with-requires-clause-form
write_header_with-requires-clause-form g c = is_encoder_header c.args.self.now.settings (sequence_of c.args.self.now.header) c.args.self.now.header_is

pub picture-picture-requires-clause-header : goal.picture-picture-requires-clause-header
picture-picture-requires-clause-header g c =
    header_bytes (sending_view c.args.self.now.settings) (sequence_of c.args.self.now.header) c.deref.result.now c.args.self.now.header_is
    (ap bits_of c.deref.ensures.value ∙ c.in_ok-header.ensures.value
    ∙ ap (λ (shown : CodedPresentation). filled_up (header_bits (encoder_header_with shown (sequence_of c.args.self.now.header)))) c.presentation_of-shown.ensures.value)

pub picture-picture-requires-clause-params : goal.picture-picture-requires-clause-params
picture-picture-requires-clause-params g c =
    parameter_bytes (sending_view c.args.self.now.settings) (parameters_of c.args.self.now.plan) c.deref-2.result.now c.args.self.now.plan_is
    (ap bits_of c.deref-2.ensures.value ∙ c.in_ok-params.ensures.value)

pub put_heads-requires-clause-header : goal.put_heads-requires-clause-header
put_heads-requires-clause-header g c = omega (arith, ap length c.picture-picture.ensures.header_is, short_header c.args.self.now.settings)

pub put_heads-requires-clause-parameters : goal.put_heads-requires-clause-parameters
put_heads-requires-clause-parameters g c =
    omega (arith, ap length c.picture-picture.ensures.coded_are, short_parameters (sending_view c.args.self.now.settings) c.args.self.now.plan c.args.self.now.plan_is)

pub put_encoded-requires-clause-count : goal.put_encoded-requires-clause-count
put_encoded-requires-clause-count g c = c.requires.whole.count ∙ sent_slice_count (sending_view c.args.self.now.settings) (parameters_of c.picture-picture.result.plan.now) c.picture-picture.ensures.parameters_are

pub put_encoded-requires-clause-fit : goal.put_encoded-requires-clause-fit
put_encoded-requires-clause-fit g c = all_fit (sending_view c.args.self.now.settings) c.picture-picture.result (bytes_of_slices (joined c.args.slices.now)) c.picture-picture.ensures.settings_are c.requires.whole.sized

pub returns : goal.returns
returns g c =
    let s = sending_view c.args.self.now.settings in
    let picture = picture_at s c.args.place.now in
    let p = c.picture-picture.result in
    let runs = λ (room : ℕ). map SlicesContent (runs_of_slices room (bytes_of_slices (joined c.args.slices.now))) in
    let is = c.picture-picture.ensures in
    let room : slices_room (packing_view p.settings) ≡ slice_room s = ap slices_room is.settings_are in
    then_ok c.put_encoded.result c.put_encoded.ensures
    (λ put. subst (λ (n : ℕ). Appends s (map (outgoing picture) (HeaderContent ∷ ParametersContent ∷ runs n)) c.args.outbox.now c.put_encoded.new.self) room
    (appends_packed s picture c.args.self.now.settings.first_picture p (HeaderContent ∷ ParametersContent ∷ runs (slices_room (packing_view p.settings))) c.args.outbox.now c.put_encoded.new.self is
    (puts_more p (HeaderContent ∷ ParametersContent ∷ []) (runs (slices_room (packing_view p.settings))) c.args.outbox.now c.put_heads.new.self c.put_encoded.new.self c.in_ok-put_heads.ensures put)))
