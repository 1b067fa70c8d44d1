use Rattle.std.proofs.Common.{◌≡◌, arith, ◌∙◌, sym, ap, length}
use Rattle.vc_types.specs.RawFrames.{samples_bytes}
use Rattle.frame_writer.proofs.SampleBytes.{samples_bytes-wide, narrow_put}
use Rattle.frame_writer.proofs.bytes.put_samples.Goals as goal

pub returns-then-two : goal.returns-then-two
returns-then-two c = c.write_u16_into.ensures ∙ samples_bytes-wide c.args.samples.now ∙ ap (λ two. samples_bytes two c.args.samples.now) (sym c.if-two.true)

pub returns-after-loop-i : goal.returns-after-loop-i
returns-after-loop-i c =
    let room = rw c.if-two.false at c.requires.room in
    let long : length c.loop-i.buffer ≡ length c.args.samples.now = c.loop-i.auto.buffer ∙ room in
    narrow_put c.args.samples.now c.loop-i.buffer long (λ k below. c.loop-i.invariant k (omega arith))
    ∙ ap (λ two. samples_bytes two c.args.samples.now) (sym c.if-two.false)
