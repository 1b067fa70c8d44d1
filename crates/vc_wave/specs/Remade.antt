-- What either direction makes of a line.
use Rattle.std.specs.Prelude.{ℕ, ◌+◌, ◌*◌, ◌/◌, ◌%◌, Bool, true, false, ◌&&◌, nat_lt, if◌then◌else◌, ℤ}
use Rattle.vc_types.specs.Lifting.{Line}
use Rattle.vc_types.specs.Transforms.{Cells, source_of, halved, doubled, on_columns, on_rows}
use Rattle.vc_types.specs.Wavelets.{is_shifted, synthesised, analysed}
use Rattle.vc_wave.specs.declared.pass.Direction.{Direction}
use Rattle.vc_wave.specs.declared.pass.Direction.TheVariants.{Synthesis, Analysis}

-- the first n samples are taken from other places
unfoldable pub rearranged : ℕ → (ℕ → ℕ) → Line → Line
rearranged n source l k = if nat_lt k n then l (source k) else l k

-- where sample k of a line stands while its even and odd samples stand in two halves
abbrev pub half_place : ℕ → ℕ → ℕ
half_place half k = k / 2 + k % 2 * half

-- two halves become the even and the odd samples, and back
abbrev pub halves_together : ℕ → Line → Line
halves_together half = rearranged (2 * half) (half_place half)

abbrev pub halves_apart : ℕ → Line → Line
halves_apart half = rearranged (2 * half) (source_of half)

-- where a line has sample k: at k or, while its halves stand apart, in the half of its parity
abbrev pub sample_place : Bool → ℕ → ℕ → ℕ
sample_place true half k = half_place half k
sample_place false half k = k

-- a function of samples on the first n of them, if that is wanted
unfoldable pub on_samples : (ℤ → ℤ) → Bool → ℕ → Line → Line
on_samples f wanted n l k = if wanted && nat_lt k n then f (l k) else l k

-- a sample, shifted down if that is wanted
abbrev pub shifted_down : Bool → ℤ → ℤ
shifted_down shifted z = if shifted then halved z else z

-- two halves put together, and a line taken apart into two halves
abbrev pub merged : ℕ → ℕ → Line → Line
merged wavelet half l = synthesised wavelet (2 * half) (halves_together half l)

abbrev pub parted : ℕ → ℕ → Line → Line
parted wavelet half l = halves_apart half (analysed wavelet (2 * half) l)

-- two halves are put together, and the samples are halved if that is wanted; or samples are
-- doubled, and taken apart into two halves
abbrev pub remade : Direction → ℕ → Bool → ℕ → Line → Line
remade Synthesis wavelet shifted half l =
    on_samples halved shifted (2 * half) (merged wavelet half l)
remade Analysis wavelet shifted half l =
    parted wavelet half (on_samples doubled shifted (2 * half) l)

-- a level of the forward transform that leaves its rows, the low and the high ones, in turn
unfoldable pub parted_in_turn : ℕ → ℕ → ℕ → Cells → Cells
parted_in_turn wavelet w h cells =
    on_columns (analysed wavelet (2 * h)) (2 * w)
    (on_rows (remade Analysis wavelet (is_shifted wavelet) w) (2 * h) cells)
