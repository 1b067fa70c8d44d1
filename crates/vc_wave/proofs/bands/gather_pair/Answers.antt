use Rattle.std.proofs.Common.{arith}
use Rattle.vc_wave.proofs.BandRows.{pair_low, pair_high, pair_off, low_small, high_small}
use Rattle.vc_wave.proofs.bands.gather_pair.Goals as goal

pub returns-clause-low : goal.returns-clause-low
returns-clause-low c =
    let s = c.args.subbands.now in
    pair_low s.level.w s.level.h s.level.pitch c.args.pair c.args.at s.low.now s.nested.now c.args.window.now
    c.put_bounded-first.new.cells c.put_bounded-second.new.cells c.put_bounded-third.new.cells c.requires.pair s.across
    c.put_bounded-first.ensures.on c.put_bounded-first.ensures.off c.put_bounded-second.ensures.on c.put_bounded-second.ensures.off
    c.put_bounded-third.ensures.on c.put_bounded-third.ensures.off

pub returns-clause-high : goal.returns-clause-high
returns-clause-high c =
    let s = c.args.subbands.now in
    pair_high s.level.w s.level.h s.level.pitch c.args.pair c.args.at s.low.now s.nested.now c.args.window.now
    c.put_bounded-first.new.cells c.put_bounded-second.new.cells c.put_bounded-third.new.cells c.requires.pair s.across
    c.put_bounded-first.ensures.on c.put_bounded-first.ensures.off c.put_bounded-second.ensures.on c.put_bounded-second.ensures.off
    c.put_bounded-third.ensures.on c.put_bounded-third.ensures.off

pub returns-clause-off : goal.returns-clause-off
returns-clause-off c =
    let s = c.args.subbands.now in
    pair_off s.level.w s.level.h s.level.pitch c.args.pair c.args.at s.low.now s.nested.now c.args.window.now
    c.put_bounded-first.new.cells c.put_bounded-second.new.cells c.put_bounded-third.new.cells c.requires.pair s.across
    c.put_bounded-first.ensures.on c.put_bounded-first.ensures.off c.put_bounded-second.ensures.on c.put_bounded-second.ensures.off
    c.put_bounded-third.ensures.on c.put_bounded-third.ensures.off

pub returns-clause-low_small : goal.returns-clause-low_small
returns-clause-low_small c =
    let s = c.args.subbands.now in
    low_small s.level.w s.level.h s.level.pitch c.args.pair c.max-2.result s.low.now s.nested.now c.requires.pair
    s.across
    (λ x h. omega (arith, c.put_bounded-first.ensures.small x h, c.max.ensures, c.max-2.ensures))
    (λ x h. omega (arith, c.put_bounded-second.ensures.small x h, c.max.ensures, c.max-2.ensures))

pub returns-clause-high_small : goal.returns-clause-high_small
returns-clause-high_small c =
    let s = c.args.subbands.now in
    high_small s.level.w s.level.h s.level.pitch c.args.pair c.max-2.result s.low.now s.nested.now c.requires.pair
    s.across (λ x h. omega (arith, c.put_bounded-third.ensures.small x h, c.max-2.ensures))
