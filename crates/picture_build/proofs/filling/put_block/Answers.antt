use Rattle.std.proofs.Common.{ℕ, ◌∙◌}
use Rattle.std.specs.Prelude.{Ok}
use Rattle.std.proofs.lemmas.Result.{on_ok_weaker}
use Rattle.vc_slice.proofs.DequantisedBlocks as narrow
use Rattle.picture_build.specs.PartsKept.{place_kept}
use Rattle.picture_build.proofs.WideNumbers as wide
use Rattle.picture_build.proofs.filling.put_block.Goals as goal

pub returns-in-Ok-clause-filled : goal.returns-in-Ok-clause-filled
returns-in-Ok-clause-filled c =
    narrow.filled (place_kept c.args.bands.now.parts.now c.args.c) c.args.bands.now c.args.c c.args.block.now c.read_numbers.new.out c.args.cells.now c.put_numbers.new.self c.in_ok-greatest.ensures.numbers
    {E = ℕ} (Ok _) (rw c.in-Ok.is at c.put_numbers.ensures.all)

pub returns-in-Ok-clause-sound : goal.returns-in-Ok-clause-sound
returns-in-Ok-clause-sound c =
    narrow.sound (place_kept c.args.bands.now.parts.now c.args.c) c.args.bands.now c.args.c c.args.block.now c.read_numbers.new.out c.args.cells.now c.put_numbers.new.self c.in_ok-greatest.ensures.numbers
    {E = ℕ} (Ok _) (rw c.in-Ok.is at c.put_numbers.ensures.all)

pub returns-in-Err-clause-only : goal.returns-in-Err-clause-only
returns-in-Err-clause-only c =
    let first = c.put_numbers.ensures.only in
    let second = c.put_wide_numbers.ensures.only in
    record {
      length = second.length ∙ first.length;
      others = λ k none. second.others k none ∙ first.others k none;
    }

pub returns-in-Err-clause-filled : goal.returns-in-Err-clause-filled
returns-in-Err-clause-filled c =
    let first = c.put_numbers.ensures.only in
    on_ok_weaker c.put_wide_numbers.result
    (λ fills. record {
      only = record {
        length = fills.only.length ∙ first.length;
        others = λ k none. fills.only.others k none ∙ first.others k none;
      };
      own = fills.own;
    })
    (wide.filled c.args.bands.now c.args.c c.args.block.now c.read_numbers.new.out c.put_numbers.new.self c.put_wide_numbers.new.cells c.in_ok-greatest.ensures.numbers
    c.put_wide_numbers.result c.put_wide_numbers.ensures.all)

pub returns-in-Err-clause-sound : goal.returns-in-Err-clause-sound
returns-in-Err-clause-sound c =
    wide.sound c.args.bands.now c.args.c c.args.block.now c.read_numbers.new.out c.put_numbers.new.self c.put_wide_numbers.new.cells c.in_ok-greatest.ensures.numbers
    c.put_wide_numbers.result c.put_wide_numbers.ensures.all
