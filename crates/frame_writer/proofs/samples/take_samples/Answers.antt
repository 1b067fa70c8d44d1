use Rattle.std.proofs.Common.{◌≡◌, arith, ◌∙◌, sym, ap, length}
use Rattle.frame_writer.specs.FrameBytes.{samples_of_bytes}
use Rattle.frame_writer.proofs.SampleRuns.{wide_read, narrow_samples}
use Rattle.frame_writer.proofs.samples.take_samples.Goals as goal

pub returns-then-two : goal.returns-then-two
returns-then-two c =
    let room = rw c.if-two.true at c.requires in
    wide_read c.read_u16_into.new.dst c.args.bytes.now (omega (arith, room, c.read_u16_into.auto.dst)) c.read_u16_into.ensures
    ∙ ap (λ two. samples_of_bytes two c.args.bytes.now) (sym c.if-two.true)

pub returns-after-loop-i : goal.returns-after-loop-i
returns-after-loop-i c =
    let room = rw c.if-two.false at c.requires in
    let long : length c.args.bytes.now ≡ length c.loop-i.samples = omega (arith, room, c.loop-i.auto.samples) in
    narrow_samples c.loop-i.samples c.args.bytes.now long (λ k below. c.loop-i.invariant k (omega (arith, long)))
    ∙ ap (λ two. samples_of_bytes two c.args.bytes.now) (sym c.if-two.false)
