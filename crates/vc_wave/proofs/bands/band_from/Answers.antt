use Rattle.std.proofs.Common.{◌-◌, arith}
use Rattle.vc_wave.proofs.BandRows.{holds_pairs}
use Rattle.vc_wave.proofs.bands.band_from.Goals as goal

pub returns-clause-holds : goal.returns-clause-holds
returns-clause-holds c =
    let reach = c.reach_of-reach in
    holds_pairs c.args.wavelet c.args.h c.args.from 16 reach.result.back reach.result.ahead c.min-to.result
    c.saturating_sub-first.result (c.min-end.result - c.saturating_sub-first.result) (omega arith) c.requires.from
    reach.ensures.back reach.ensures.ahead c.min-to.ensures c.saturating_sub-first.ensures (omega arith)
