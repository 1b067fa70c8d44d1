-- Where slices begin: each has a byte at least, and not many more than on an average.
use Rattle.std.proofs.Common.{◌≡◌, ℕ, ◌+◌, ◌-◌, ◌*◌, ◌/◌, ◌^◌, ◌<◌, ◌≤◌, true, List, length, take, drop, add-mul, arith}
use Rattle.std.proofs.lemmas.Bool.Decides.{nat_tests}
use Rattle.std.proofs.lemmas.List.{length-drop, length-take-le}
use Rattle.std.proofs.lemmas.Nat.{div-add-mod', mod_below, le-div, div_below, mul-le}
use Rattle.vc_types.specs.Limits.{slices_fit}
use Rattle.vc_types.proofs.SliceCounts.{some_across, some_down}
use Rattle.vc_lowdelay.specs.declared.plan.LowPlan.{LowPlan}
use Rattle.vc_lowdelay.specs.LowDelay.{low_slice_start}
use Rattle.vc_lowdelay.specs.OfPlan.{picture_size, slice_count, slice_size, slice_start}

-- ---- the slices of a plan

pub across : (p : LowPlan) → 0 < p.plan.slices_x
across p = some_across p.plan.slices_x p.plan.slices_y p.plan.slices

pub down : (p : LowPlan) → 0 < p.plan.slices_y
down p = some_down p.plan.slices_x p.plan.slices_y p.plan.slices

few_slices : (across down : ℕ) → slices_fit across down ≡ true → across * down ≤ 131072
few_slices across down h = grind (arith, nat_tests)

pub few_in_plan : (p : LowPlan) → slice_count p ≤ 131072
few_in_plan p = few_slices p.plan.slices_x p.plan.slices_y p.plan.slices

some_in_plan : (p : LowPlan) → 0 < p.denominator
some_in_plan p = omega (arith, p.some_denominator)

-- ---- where they begin

-- a quotient, back as a product
split : (a d : ℕ) → 0 < d → (a / d * d ≤ a) × (a < a / d * d + d)
split a d some =
    let whole = div-add-mod' a d in
    let rest = mod_below a d some in
    (omega (arith, whole), omega (arith, whole, rest))

module _ (n d : ℕ) (some : 0 < d) where
  pub starts_rise : (i k : ℕ) → i ≤ k → low_slice_start n d i ≤ low_slice_start n d k
  starts_rise i k h =
      let own = split (i * n) d some in
      let more : i * n ≤ k * n = mul-le i n k n h (omega arith) in
      le-div (i * n / d) (k * n) d some (omega (arith, own.0, more))

  module _ (i : ℕ) where
    next : (i + 1) * n ≡ i * n + n
    next = omega (arith, add-mul i 1 n)

    pub one_more : d ≤ n → low_slice_start n d i + 1 ≤ low_slice_start n d (i + 1)
    one_more bytes =
        let own = split (i * n) d some in
        let product = add-mul (i * n / d) 1 d in
        le-div (i * n / d + 1) ((i + 1) * n) d some (omega (arith, own.0, product, next))

    pub few_more : low_slice_start n d (i + 1) < low_slice_start n d i + n / d + 2
    few_more =
        let own = split (i * n) d some in
        let each = split n d some in
        let product = add-mul (i * n / d + n / d) 2 d in
        let first = add-mul (i * n / d) (n / d) d in
        div_below ((i + 1) * n) d (i * n / d + n / d + 2) some (omega (arith, own.1, each.1, product, first, next))

pub few_bytes : (slice n : ℕ) → slice ≤ 131072 → n < 2 ^ 32 → slice * n < 2 ^ 64
few_bytes slice n h small = let most = mul-le slice n 131072 (2 ^ 32) h (omega arith) in omega (arith, most)

-- ---- a slice of a plan, in its bytes

module _ (p : LowPlan) (slice : ℕ) (bytes : List ℕ) (numbered : slice < slice_count p) (whole : picture_size p ≤ length bytes) where
  pub in_order : slice_start p slice + 1 ≤ slice_start p (slice + 1)
  in_order = one_more p.numerator p.denominator (some_in_plan p) slice p.some_bytes

  pub inside : slice_start p (slice + 1) ≤ length bytes
  inside = let up = starts_rise p.numerator p.denominator (some_in_plan p) (slice + 1) (slice_count p) (omega (arith, numbered)) in omega (arith, up, whole)

  length-slice : length (take (slice_size p slice) (drop (slice_start p slice) bytes)) ≡ slice_size p slice
  length-slice =
      let behind = length-drop (slice_start p slice) bytes in
      length-take-le (slice_size p slice) (drop (slice_start p slice) bytes) (omega (arith, behind, in_order, inside))

  pub some_in_slice : 1 ≤ length (take (slice_size p slice) (drop (slice_start p slice) bytes))
  some_in_slice = omega (arith, length-slice, in_order)

  pub few_in_slice : length (take (slice_size p slice) (drop (slice_start p slice) bytes)) ≤ 2 ^ 16
  few_in_slice = let few = few_more p.numerator p.denominator (some_in_plan p) slice in omega (arith, length-slice, few, p.few_bytes)

pub part_is : (bytes : List ℕ) (a b from to : ℕ) → a ≡ from → b ≡ to → take (b - a) (drop a bytes) ≡ take (to - from) (drop from bytes)
part_is bytes a b from to e f = cc
