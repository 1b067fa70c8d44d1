use Rattle.std.proofs.Common.{rules, ◌≡◌, ℕ, ◌+◌, ◌-◌, ◌*◌, ◌/◌, ◌<◌, ◌≤◌, length, pos, slice_index_or, arith, ap, ◌∙◌}
use Rattle.vc_wave.specs.Parts.{pairs_held}
use Rattle.vc_wave.specs.Remade.{parted_in_turn}
use Rattle.vc_wave.specs.Samples.{padded_sample}
use Rattle.vc_wave.proofs.OutputRows.{halves_joined, lower_rows}
use Rattle.vc_wave.proofs.parting.part_halves.Goals as goal

pub join_mut-requires-after_bounds : goal.join_mut-requires-after_bounds
join_mut-requires-after_bounds g c κs within =
    let l = c.args.source.now.level in
    let r = c.requires in
    let held = c.parting_room.ensures in
    let front : 2 * pairs_held l.wavelets.down * (2 * l.w) ≤ length c.split_at_mut-front.result.0.now =
    omega (arith, held, c.split_at_mut-front.ensures.front_len) in
    let back : 2 * pairs_held l.wavelets.down * (2 * l.w) ≤ length c.split_at_mut-front.result.1.now =
    omega (arith, held, c.split_at_mut-front.ensures.back_len, r.room) in
    let up : l.h / 2 ≡ l.h / 2 - 0 = omega arith in
    let down : 2 * l.h - 2 * (l.h / 2) ≡ 2 * (l.h - l.h / 2) = omega arith in
    let upper = c.split_at_mut-top.ensures.front_len ∙ ap (λ n. 2 * n * (2 * l.w)) up in
    let lower = lower_rows (2 * l.h) (l.h / 2) (2 * l.w) (length c.split_at_mut-top.result.1.now)
    (omega (arith, c.split_at_mut-top.ensures.back_len, r.out)) (omega arith) ∙ ap (λ n. n * (2 * l.w)) down in (
      λ _ _ _ _ _ _ _ _ _. ((omega arith, omega arith), (front, upper)),
      λ _ _ _ _ _ _ _ _ _. ((omega arith, omega arith), (back, lower)),
    )

pub returns : goal.returns
returns g c =
    let s = c.args.source.now in
    let l = s.level in
    let columns = 2 * l.w in
    let pairs = l.h / 2 in
    let value = λ (x y : ℕ). parted_in_turn l.wavelets.down l.w l.h (padded_sample s.plane.now s.depth) x y in
    let h = c.join_mut.ensures in
    let upper : (x y : ℕ) → x < columns → y < 2 * (pairs - 0)
    → slice_index_or c.top-1.given.0 (y * columns + x) (pos 0) ≡ value x (2 * 0 + y) = search rules in
    let lower : (x y : ℕ) → x < columns → y < 2 * (l.h - pairs)
    → slice_index_or c.bottom-1.given.0 (y * columns + x) (pos 0) ≡ value x (2 * pairs + y) = search rules in
    let long : length c.top-1.given.0 ≡ 2 * pairs * columns = search rules in
    halves_joined (pos 0) columns pairs (2 * l.h) c.top-1.given.0 c.bottom-1.given.0 value long
    (λ x y a b. upper x y a (omega (arith, b))) (λ x y a b. lower x y a (omega (arith, b)))
