use Rattle.std.proofs.Common.{rules, ◌≡◌, ℕ, ◌+◌, ◌-◌, ◌*◌, ◌/◌, ◌<◌, ◌≤◌, true, length, slice_index_or, arith, ap}
use Rattle.vc_types.specs.Planes.{output_sample}
use Rattle.vc_types.specs.Transforms.{inverse_level}
use Rattle.vc_wave.specs.Parts.{subbands_of, pairs_held}
use Rattle.vc_wave.proofs.OutputRows.{halves_joined, lower_rows}
use Rattle.vc_wave.proofs.output.put_halves.Goals as goal

pub join_mut-first-requires-after_bounds : goal.join_mut-first-requires-after_bounds
join_mut-first-requires-after_bounds g c κs within =
    let level = c.args.subbands.now.level in
    let format = c.args.format in
    let r = c.requires in
    let held = ap (λ n. 2 * n * (2 * level.w)) c.pairs_held.ensures.value in
    let front : 2 * pairs_held level.wavelets.down * (2 * level.w) ≤ length c.split_at_mut-front.result.0.now =
    omega (arith, held, c.split_at_mut-front.ensures.front_len) in
    let back : 2 * pairs_held level.wavelets.down * (2 * level.w) ≤ length c.split_at_mut-front.result.1.now =
    omega (arith, held, c.split_at_mut-front.ensures.back_len, r.room) in
    let lower = lower_rows format.rows (format.rows / 4) format.columns (length c.split_at_mut-top.result.1.now)
    (omega (arith, c.split_at_mut-top.ensures.back_len, r.samples)) (omega arith) in (
      λ _ _ _ _ _ _ _ _ _. (
        front,
        (r.depth, (r.width, (omega (arith, r.height), c.split_at_mut-top.ensures.front_len))),
      ),
      λ _ _ _ _ _ _ _ _ _ _. (back, (r.depth, (r.width, (omega (arith, r.height), lower)))),
    )

pub returns-then-first : goal.returns-then-first
returns-then-first g c =
    let level = c.args.subbands.now.level in
    let format = c.args.format in
    let columns = format.columns in
    let pairs = format.rows / 4 in
    let value = λ (x y : ℕ). output_sample format.depth (inverse_level level.wavelets.down level.wavelets.across
    level.w level.h (subbands_of c.args.subbands.now) x y) in
    let h = c.join_mut-first.ensures in
    let upper : c.join_mut-first.result.0 ≡ true → (x y : ℕ) → x < columns → y < 2 * pairs
    → slice_index_or c.top-1.given.0 (y * columns + x) 0 ≡ value x (2 * 0 + y) = search rules in
    let lower : c.join_mut-first.result.1 ≡ true → (x y : ℕ) → x < columns → y < format.rows - 2 * pairs
    → slice_index_or c.bottom-1.given.0 (y * columns + x) 0 ≡ value x (2 * pairs + y) = search rules in
    let long : length c.top-1.given.0 ≡ 2 * pairs * columns = search rules in
    λ second. halves_joined 0 columns pairs format.rows c.top-1.given.0 c.bottom-1.given.0 value long
    (upper c.if-first.true) (lower second)
