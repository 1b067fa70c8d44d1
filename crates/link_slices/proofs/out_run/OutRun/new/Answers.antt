use Rattle.std.proofs.Common.{◌≡◌, ℕ, length, arith, ap, sym, ◌∙◌}
use Rattle.std.specs.List.{range_with_len}
use Rattle.link_slices.proofs.OutRuns.{out_with, run_out}
use Rattle.link_slices.proofs.out_run.OutRun.new.Goals as goal

pub returns : goal.returns
returns c =
    let run = c.args.job.now in
    let count : c.len.result ≡ length run.slices.items = omega (arith, c.len.ensures, run.slices.ok.0) in
    ap (λ (n : ℕ). out_with run.number (range_with_len run.first n) 0) count ∙ sym (run_out run 0)
