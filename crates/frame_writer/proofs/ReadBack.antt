-- The bytes of a frame that was read are the bytes that it was read from.
use Rattle.std.proofs.Common.{◌≡◌, ℕ, ◌+◌, ◌-◌, ◌*◌, ◌/◌, ◌%◌, ◌<◌, Bool, true, false, List, [], ◌∷◌, ◌++◌, length, take, drop, All, arith, refl, ap, ◌∙◌, take-append-drop}
use Rattle.std.proofs.lemmas.List.{length-take-le, length-drop}
use Rattle.std.proofs.lemmas.List.Elements.{All-drop, All-take, All-head, All-tail}
use Rattle.std.proofs.lemmas.List.Concat.{flat_map-cons, flat_map-append}
use Rattle.frame_writer.proofs.SampleBytes.{samples_bytes-narrow}
use Rattle.frame_writer.specs.FrameBytes.{length_in as len, samples_of_bytes, sample_count, frame_length, frame_of_bytes}
use Rattle.vc_types.specs.declared.shape.Shape.{Shape}
use Rattle.vc_types.specs.declared.video.Component.TheVariants.{Y, C1}
use Rattle.vc_types.specs.RawFrames.{is_wide, sample_bytes, samples_bytes, frame_bytes}

abbrev AreBytes : List ℕ → Type 0
AreBytes bytes = All (λ byte. byte < 256) bytes

two_back : (low high : ℕ) → low < 256 → high < 256 → sample_bytes true (low + 256 * high) ≡ low ∷ high ∷ []
unfolding sample_bytes
two_back low high l h =
    let first : (low + 256 * high) % 256 ≡ low = omega (arith, l) in
    let second : (low + 256 * high) / 256 % 256 ≡ high = omega (arith, l, h) in
    rw (first, second) refl

wide_back : (samples : ℕ) (bytes : List ℕ) → length bytes ≡ 2 * samples → AreBytes bytes → samples_bytes true (samples_of_bytes true bytes) ≡ bytes
unfolding samples_of_bytes
wide_back samples [] long fit = refl
wide_back samples (low ∷ []) long fit = absurd (omega (arith, long))
wide_back samples (low ∷ high ∷ bytes) long fit =
    let l = All-head (λ byte. byte < 256) low (high ∷ bytes) fit in
    let behind = All-tail (λ byte. byte < 256) low (high ∷ bytes) fit in
    let h = All-head (λ byte. byte < 256) high bytes behind in
    flat_map-cons (sample_bytes true) (low + 256 * high) (samples_of_bytes true bytes)
    ∙ ap (λ (front : List ℕ). front ++ samples_bytes true (samples_of_bytes true bytes)) (two_back low high l h)
    ∙ ap (λ (rest : List ℕ). low ∷ high ∷ rest) (wide_back (samples - 1) bytes (omega (arith, long)) (All-tail (λ byte. byte < 256) high bytes behind))

-- the bytes of the samples of bytes
back : (two : Bool) (samples : ℕ) (bytes : List ℕ) → length bytes ≡ len two samples → AreBytes bytes → samples_bytes two (samples_of_bytes two bytes) ≡ bytes
unfolding samples_of_bytes
back true samples bytes long fit = wide_back samples bytes long fit
back false samples bytes long fit = samples_bytes-narrow bytes

-- how many bytes a frame's samples have
pub lens : (two : Bool) (luma colour : ℕ) → len two (luma + (colour + colour)) ≡ len two luma + (len two colour + len two colour)
lens true luma colour = omega arith
lens false luma colour = refl

-- three planes' bytes, one behind the other
three : (two : Bool) (y c1 c2 : List ℕ) → samples_bytes two (y ++ (c1 ++ c2)) ≡ samples_bytes two y ++ (samples_bytes two c1 ++ samples_bytes two c2)
three two y c1 c2 =
    flat_map-append (sample_bytes two) y (c1 ++ c2)
    ∙ ap (λ (l : List ℕ). samples_bytes two y ++ l) (flat_map-append (sample_bytes two) c1 c2)

pub frame_back : (shape : Shape) (bytes : List ℕ) → length bytes ≡ frame_length shape → AreBytes bytes → frame_bytes (frame_of_bytes shape bytes) (is_wide shape) ≡ bytes
unfolding frame_bytes frame_of_bytes
frame_back shape bytes long fit =
    three two (samples_of_bytes two y) (samples_of_bytes two c1) (samples_of_bytes two c2)
    ∙ ap (λ (l : List ℕ). l ++ (samples_bytes two (samples_of_bytes two c1) ++ samples_bytes two (samples_of_bytes two c2))) (back two luma y long_y (All-take (λ byte. byte < 256) (len two luma) bytes fit))
    ∙ ap (λ (l : List ℕ). y ++ (l ++ samples_bytes two (samples_of_bytes two c2))) (back two colour c1 long_c1 (All-take (λ byte. byte < 256) (len two colour) behind fit_behind))
    ∙ ap (λ (l : List ℕ). y ++ (c1 ++ l)) (back two colour c2 long_c2 (All-drop (λ byte. byte < 256) (len two colour) behind fit_behind))
    ∙ ap (λ (l : List ℕ). y ++ l) (take-append-drop (len two colour) behind)
    ∙ take-append-drop (len two luma) bytes
  where
    two : Bool
    two = is_wide shape

    luma : ℕ
    luma = sample_count shape Y

    colour : ℕ
    colour = sample_count shape C1

    y : List ℕ
    y = take (len two luma) bytes

    behind : List ℕ
    behind = drop (len two luma) bytes

    c1 : List ℕ
    c1 = take (len two colour) behind

    c2 : List ℕ
    c2 = drop (len two colour) behind

    fit_behind : AreBytes behind
    fit_behind = All-drop (λ byte. byte < 256) (len two luma) bytes fit

    sum : length bytes ≡ len two luma + (len two colour + len two colour)
    sum = long ∙ lens two luma colour

    long_y : length y ≡ len two luma
    long_y = length-take-le (len two luma) bytes (omega (arith, sum))

    long_behind : length behind ≡ len two colour + len two colour
    long_behind = length-drop (len two luma) bytes ∙ omega (arith, sum)

    long_c1 : length c1 ≡ len two colour
    long_c1 = length-take-le (len two colour) behind (omega (arith, long_behind))

    long_c2 : length c2 ≡ len two colour
    long_c2 = length-drop (len two colour) behind ∙ omega (arith, long_behind)
