use Rattle.std.proofs.Common.{rules, ◌≡◌, ◌≤◌, length, Err, refl, sym, subst, arith}
use Rattle.byteorder.specs.Endian.{big_number}
use Rattle.cmd_stream.specs.declared.opened.Opened.{Opened}
use Rattle.cmd_stream.specs.PackSteps.{PacksBody, of_refusal}
use Rattle.cmd_stream.proofs.PackBringing.{lacks_parameters, lacks_slices, packs_picture_of, refuses_picture_of, short_body}
use Rattle.cmd_stream.proofs.PictureParts.{used-within}
use Rattle.vc_types.specs.SequenceHeader.{sequence_of}
use Rattle.vc_types.specs.TransformParameters.{parameters_of}
use Rattle.cmd_stream.proofs.opened.Opened.pack_picture.Goals as goal

pub returns-then-body-lt-NUMBER_BYTES-clause-value : goal.returns-then-body-lt-NUMBER_BYTES-clause-value
returns-then-body-lt-NUMBER_BYTES-clause-value c = λ s t was. short_body t c.args.body.now c.if-body-lt-NUMBER_BYTES.true

pub returns-in_default-clause-value : goal.returns-in_default-clause-value
returns-in_default-clause-value c = λ s t was.
    let long : 4 ≤ length c.args.body.now = omega (arith, c.if-body-lt-NUMBER_BYTES.false) in
    lacks_parameters s t c.args.body.now c.args.self.now was long c.split_at.result.1.now c.split_at.ensures.back c.in_default.field-0 c.in_default.ensures.exact

pub split_at-requires-2 : goal.split_at-requires-2
split_at-requires-2 c = used-within (sequence_of c.args.self.now.header) c.split_at.result.1.now (parameters_of c.in-Ok.plan) c.in-Ok.used c.in-Ok.ensures.exact

pub returns-in_default-slices_len-clause-value : goal.returns-in_default-slices_len-clause-value
returns-in_default-slices_len-clause-value c = λ s t was.
    let long : 4 ≤ length c.args.body.now = omega (arith, c.if-body-lt-NUMBER_BYTES.false) in
    lacks_slices s t c.args.body.now c.args.self.now was long c.split_at.result.1.now c.split_at.ensures.back (parameters_of c.in-Ok.plan) c.in-Ok.used c.in-Ok.ensures.exact
    c.split_at-2.result.0.now c.split_at-2.result.1.now c.split_at-2.ensures.front c.split_at-2.ensures.back c.in_default-slices_len.ensures

pub returns-in_err-datagrams-clause-value : goal.returns-in_err-datagrams-clause-value
returns-in_err-datagrams-clause-value c = λ s t was.
    let long : 4 ≤ length c.args.body.now = omega (arith, c.if-body-lt-NUMBER_BYTES.false) in
    let number : c.read_u32-number.result ≡ big_number 4 c.args.body.now = search rules in
    let e = c.in_err-datagrams.field-0.0 in
    let told : c.from_residual.result ≡ Err (of_refusal e) = search rules in
    let new : Opened = record { header = c.args.self.now.header; coded = c.args.self.now.coded; packer = c.send_picture.new.self; pictures = c.args.self.now.pictures } in
    subst (PacksBody s t c.args.body.now new) (sym told)
    (refuses_picture_of s t c.args.body.now c.args.self.now was long c.split_at.result.1.now c.split_at.ensures.back (parameters_of c.in-Ok.plan) c.in-Ok.used c.in-Ok.ensures.exact
    c.split_at-2.result.0.now c.split_at-2.result.1.now c.split_at-2.ensures.front c.split_at-2.ensures.back c.in-Some.len c.in-Some.ensures c.read_u32-number.result number
    c.deref.result.now c.split_at-3.result.0.now c.deref.ensures.value c.split_at-3.ensures.front new e c.in_err-datagrams.ensures.value.0)

pub returns-clause-value : goal.returns-clause-value
returns-clause-value c = λ s t was.
    let long : 4 ≤ length c.args.body.now = omega (arith, c.if-body-lt-NUMBER_BYTES.false) in
    let number : c.read_u32-number.result ≡ big_number 4 c.args.body.now = search rules in
    packs_picture_of s t c.args.body.now c.args.self.now was long c.split_at.result.1.now c.split_at.ensures.back (parameters_of c.in-Ok.plan) c.in-Ok.used c.in-Ok.ensures.exact
    c.split_at-2.result.0.now c.split_at-2.result.1.now c.split_at-2.ensures.front c.split_at-2.ensures.back c.in-Some.len c.in-Some.ensures c.read_u32-number.result number
    c.deref.result.now c.split_at-3.result.0.now c.deref.ensures.value c.split_at-3.ensures.front _ c.in_ok-datagrams.datagrams c.in_ok-datagrams.ensures.value c.requires.few refl refl c.send_picture.ensures.settings refl
