use Rattle.std.proofs.Common.{◌≡◌, ◌≤◌, ◌<◌, ◌-◌, ℕ, List, length, rules, refl, subst, sym, ◌∙◌}
use Rattle.link_model.specs.SendingPictures.{packed_bits}
use Rattle.picture_encode.specs.Encoded.{RefusesAt}
use Rattle.picture_encode.specs.declared.refusal.SliceRefusal.{SliceRefusal}
use Rattle.vc_types.specs.Bits.{bits_of}
use Rattle.vc_types.specs.SenderSettings.{sending_view}
use Rattle.vc_types.specs.TransformParameters.{parameters_of}
use Rattle.picture_encode.proofs.Judged.{encoded_at, too_large_at, refused_by}
use Rattle.picture_encode.proofs.PlanFacts.{some_room}
use Rattle.picture_encode.proofs.slices.encode_at.Goals as goal

pub returns-in-Ok-clause-encoded : goal.returns-in-Ok-clause-encoded
returns-in-Ok-clause-encoded c =
    let s = c.args.sent.now.s.now in
    let e = c.in-Ok.ensures in
    let packed : packed_bits (bits_of c.in-Ok.bytes.items) ≡ c.in-Ok.bytes.items = subst (λ (b : List ℕ). packed_bits (bits_of b) ≡ b) c.deref.ensures.value c.bits_are_packed.ensures in
    let room : length c.in-Ok.bytes.items ≤ s.size - 32 = search rules in
    λ planes same. encoded_at (sending_view s) planes c.args.sent.now.parts.slice c.args.index (parameters_of c.args.sent.now.parts.plan) c.args.coeffs.now c.args.sent.now.sent same c.in-Ok.bytes.items (some_room s.size s.size_fits) packed e.value e.len e.fits room

pub returns-in-Ok-2-clause-refused : goal.returns-in-Ok-2-clause-refused
returns-in-Ok-2-clause-refused c =
    let s = c.args.sent.now.s.now in
    let len : c.len-in-Ok-2.result ≡ length c.in-Ok-2.bytes.items = search rules in
    let over : s.size - 32 < c.len-in-Ok-2.result = search rules in
    λ planes same. (refl, too_large_at (sending_view s) planes c.args.sent.now.parts.slice c.args.index (parameters_of c.args.sent.now.parts.plan) c.args.coeffs.now c.args.sent.now.sent same c.len-in-Ok-2.result (len ∙ c.in-Ok-2.ensures.len) over)

pub returns-in-Err-clause-refused : goal.returns-in-Err-clause-refused
returns-in-Err-clause-refused c =
    let s = c.args.sent.now.s.now in
    let p = parameters_of c.args.sent.now.parts.plan in
    λ planes same.
    subst (λ (e : SliceRefusal). RefusesAt (sending_view s) planes c.args.sent.now.parts.slice c.args.index e) (sym c.refusal_of.ensures)
    (refused_by (sending_view s) planes c.args.sent.now.parts.slice c.args.index p c.args.coeffs.now c.args.sent.now.sent same c.in-Err.e c.in-Err.ensures.too_long)
