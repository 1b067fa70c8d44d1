use Rattle.std.proofs.Common.{ℕ, ◌<◌, ◌≡◌, ◌+◌, ◌*◌, ◌^◌, ◌≤◌, length, arith, refl}
use Rattle.std.proofs.Math.Nat.{mul-le-mul, mul-le-mul_left, mul-le-mul_right}
use Rattle.vc_wave.specs.Parts.{with_low, held, pairs_held}
use Rattle.vc_wave.proofs.Levels.{level_fits}
use Rattle.vc_wave.proofs.LowCells.{first_below, next_below, held_even}
use Rattle.vc_wave.proofs.lower.merge_levels.Goals as goal

pub loop-n-init : goal.loop-n-init
loop-n-init c =
    let l = c.args.levels in
    let first = held_even 0 c.args.first.now c.args.second.now refl in
    let cells = with_low l.nesting.w l.nesting.h l.pitch c.args.first.now c.args.nested.now in
    rw first (first_below l.wavelets.down l.wavelets.across l.nesting.w l.nesting.h l.pitch cells
    c.args.nested.now c.args.first.now refl)

pub level-level-requires : goal.level-level-requires
level-level-requires c = omega (arith, c.loop-n-test.true, c.requires.count)

pub merge_turn-requires-clause-across : goal.merge_turn-requires-clause-across
merge_turn-requires-clause-across c =
    let l = c.args.levels in
    let fits = level_fits l.nesting.w c.loop-n.n l.nesting.levels
    (omega (arith, c.loop-n-test.true, c.requires.count)) in
    omega (arith, fits, c.level-level.ensures.w, c.level-level.ensures.pitch, c.requires.across)

pub merge_turn-requires-clause-down : goal.merge_turn-requires-clause-down
merge_turn-requires-clause-down c =
    let l = c.args.levels in
    let fits = level_fits l.nesting.h c.loop-n.n l.nesting.levels
    (omega (arith, c.loop-n-test.true, c.requires.count)) in
    let all = mul-le-mul_right l.pitch fits in
    rw (c.level-level.ensures.h, c.level-level.ensures.pitch) (omega (arith, all, c.requires.down))

-- a list has room for a level
room : (w h n count len : ℕ) → n < count → h * 2 ^ count * (w * 2 ^ count) ≤ len
    → 2 * (h * 2 ^ n) * (2 * (w * 2 ^ n)) ≤ len
room w h n count len lt fits =
    let all = mul-le-mul (level_fits h n count lt) (level_fits w n count lt) in
    omega (arith, all, fits)

pub merge_turn-requires-clause-first : goal.merge_turn-requires-clause-first
merge_turn-requires-clause-first c =
    let l = c.args.levels in
    rw (c.level-level.ensures.h, c.level-level.ensures.w, c.loop-n.auto.first)
    (room l.nesting.w l.nesting.h c.loop-n.n c.args.count (length c.args.first.now) c.loop-n-test.true
    c.requires.first)

pub merge_turn-requires-clause-second : goal.merge_turn-requires-clause-second
merge_turn-requires-clause-second c =
    let l = c.args.levels in
    rw (c.level-level.ensures.h, c.level-level.ensures.w, c.loop-n.auto.second)
    (room l.nesting.w l.nesting.h c.loop-n.n c.args.count (length c.args.second.now) c.loop-n-test.true
    c.requires.second)

pub merge_turn-requires-clause-room : goal.merge_turn-requires-clause-room
merge_turn-requires-clause-room c =
    let l = c.args.levels in
    let all = mul-le-mul_left (2 * pairs_held l.wavelets.down)
    (level_fits l.nesting.w c.loop-n.n c.args.count c.loop-n-test.true) in
    rw (c.level-level.ensures.wavelets, c.level-level.ensures.w, c.loop-n.auto.room)
    (omega (arith, all, c.requires.room))

pub loop-n-preserved : goal.loop-n-preserved
loop-n-preserved c =
    let l = c.args.levels in
    let level = c.level-level.ensures in
    let n = c.loop-n.n in
    let cells = with_low l.nesting.w l.nesting.h l.pitch c.args.first.now c.args.nested.now in
    let before = held n c.loop-n.first c.loop-n.second in
    let after = held (n + 1) c.merge_turn.new.first c.merge_turn.new.second in
    let made = rw (level.wavelets, level.pitch) at (c.merge_turn.ensures c.if-not-merge_turn.false) in
    next_below l.wavelets.down l.wavelets.across l.nesting.w l.nesting.h l.pitch cells c.args.nested.now n
    before after c.level-level.result.w c.level-level.result.h level.w level.h c.loop-n.invariant made

pub returns : goal.returns
returns c = λ whole. (let end : c.loop-n.n ≡ c.args.count = omega arith in rw end at c.loop-n.invariant)
