use Rattle.std.proofs.Common.{[], ◌∷◌, arith, map}
use Rattle.link_model.specs.Sending.{HeaderContent, ParametersContent, SlicesContent, runs_of_slices}
use Rattle.stream_model.specs.Packing.{slices_in, slices_room}
use Rattle.vc_types.specs.SenderSettings.{packing_view}
use Rattle.vc_types.specs.TransformParameters.{parameters_of}
use Rattle.link_sender.specs.Views.{packed_picture_of}
use Rattle.link_sender.specs.declared.outbox.Outbox.{Outbox}
use Rattle.link_sender.specs.declared.picture.Picture.{Picture}
use Rattle.link_sender.proofs.SentAsPacked.{is_packed}
use Rattle.link_sender.proofs.PayloadLengths.{most_room, some_room}
use Rattle.link_sender.proofs.Putting.{puts_more}
use Rattle.link_sender.proofs.Rooms.{parts_fit}
use Rattle.link_sender.proofs.packer.Packer.send_picture.Goals as goal

pub put_heads-requires-clause-header : goal.put_heads-requires-clause-header
put_heads-requires-clause-header c =
    let s = c.args.self.now.settings in
    let fit = parts_fit (packing_view s) (packed_picture_of c.args.number (parameters_of c.args.plan.now) c.args.header.now c.args.params.now c.args.slices.now) c.in_ok-check_parts.ensures.fits in
    omega (arith, fit.header, some_room s.size s.size_fits, most_room s.size s.size_fits)

pub put_heads-requires-clause-parameters : goal.put_heads-requires-clause-parameters
put_heads-requires-clause-parameters c =
    let s = c.args.self.now.settings in
    let fit = parts_fit (packing_view s) (packed_picture_of c.args.number (parameters_of c.args.plan.now) c.args.header.now c.args.params.now c.args.slices.now) c.in_ok-check_parts.ensures.fits in
    omega (arith, fit.coded, some_room s.size s.size_fits, most_room s.size s.size_fits)

pub put_slices-requires-clause-fits : goal.put_slices-requires-clause-fits
put_slices-requires-clause-fits c =
    (parts_fit (packing_view c.args.self.now.settings) (packed_picture_of c.args.number (parameters_of c.args.plan.now) c.args.header.now c.args.params.now c.args.slices.now) c.in_ok-check_parts.ensures.fits).slices

pub returns-clause-value : goal.returns-clause-value
returns-clause-value c =
    let packer = c.args.self.now in
    let s = packing_view packer.settings in
    let p : Picture = record {
      settings = packer.settings;
      timestamp = c.timestamp.result;
      number = c.args.number;
      plan = c.args.plan;
      header = c.args.header;
      params = c.args.params;
    } in
    let runs = map SlicesContent (runs_of_slices (slices_room s) (slices_in (parameters_of c.args.plan.now) c.args.slices.now)) in
    let start : Outbox = record { alloc = packer.alloc; datagrams = c.new.result; sequence = packer.sequence } in
    let all = puts_more p (HeaderContent ∷ ParametersContent ∷ []) runs start c.put_heads.new.self c.put_slices.new.self c.in_ok-put_heads.ensures c.in_ok-put_slices.ensures in
    is_packed p c.args.slices.now start c.put_slices.new.self packer.pictures packer.timestamp c.in_ok-check_parts.ensures.fits all c.new.ensures.items c.timestamp.ensures
