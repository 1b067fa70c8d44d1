use Rattle.std.proofs.Common.{◌≡◌, ◌≤◌, ℕ, Err, rules, subst, arith}
use Rattle.vc_types.specs.SenderSettings.{sending_view}
use Rattle.picture_encode.specs.Answering.{Answers}
use Rattle.picture_encode.specs.IndexedSlices.{indexed_slice}
use Rattle.picture_encode.specs.Encoded.{AreSlices}
use Rattle.picture_encode.specs.declared.refusal.SliceRefusal.TheVariants.{NoMemory}
use Rattle.picture_encode.proofs.SlicesInTurn.{none_encoded, one_more, refused_here}
use Rattle.picture_encode.proofs.parts.encode_slices.Goals as goal

pub returns-in_err-slices : goal.returns-in_err-slices
returns-in_err-slices g c =
    let same : c.from_residual.result ≡ Err NoMemory = search rules in
    rw same (λ planes has. tt)

pub loop-slice-init : goal.loop-slice-init
loop-slice-init g c = λ planes has.
    none_encoded (Answers g.F.Fn (sending_view c.args.s.now) c.args.chooser.now) c.args.chooser.now.wants_lens (sending_view c.args.s.now) planes c.args.part.from c.args.part.from c.in_ok-slices.slices (omega arith) c.in_ok-slices.ensures

pub returns-in_err-encoded : goal.returns-in_err-encoded
returns-in_err-encoded g c =
    let e = c.in_err-encoded.field-0.0 in
    let same : c.from_residual-in_err-encoded.result ≡ Err e = search rules in
    rw same (λ planes has.
    refused_here (Answers g.F.Fn (sending_view c.args.s.now) c.args.chooser.now) c.args.chooser.now.wants_lens (sending_view c.args.s.now) planes c.args.part.from c.args.part.to c.loop-slice.slice c.loop-slice.slices e c.loop-slice.auto.slice c.loop-slice-test.true (c.loop-slice.invariant planes has)
    (rw c.new-parts.ensures.slice at (c.in_err-encoded.ensures.refused planes (rw c.new-parts.ensures.plan has))))

pub returns-in_err-push : goal.returns-in_err-push
returns-in_err-push g c =
    let same : c.from_residual-in_err-push.result ≡ Err NoMemory = search rules in
    rw same (λ planes has. tt)

pub loop-slice-preserved : goal.loop-slice-preserved
loop-slice-preserved g c = λ planes has.
    one_more (Answers g.F.Fn (sending_view c.args.s.now) c.args.chooser.now) c.args.chooser.now.wants_lens (sending_view c.args.s.now) planes c.args.part.from c.loop-slice.slice c.loop-slice.slices c.push.new.self (indexed_slice c.in_ok-encoded.encoded) c.loop-slice.auto.slice (c.loop-slice.invariant planes has) c.in_ok-push.ensures.ok
    (rw c.new-parts.ensures.slice at (c.in_ok-encoded.ensures.encoded planes (rw c.new-parts.ensures.plan has)))

pub returns : goal.returns
returns g c =
    let upto : c.loop-slice.slice ≤ c.args.part.to = c.loop-slice.auto.slice-end c.args.part.ordered in
    let last : c.loop-slice.slice ≡ c.args.part.to = omega (arith, upto, c.loop-slice-test.false) in
    λ planes has.
    subst (λ (n : ℕ). AreSlices (Answers g.F.Fn (sending_view c.args.s.now) c.args.chooser.now) c.args.chooser.now.wants_lens (sending_view c.args.s.now) planes c.args.part.from n c.loop-slice.slices) last (c.loop-slice.invariant planes has)
