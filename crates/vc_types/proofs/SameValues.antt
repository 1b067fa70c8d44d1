-- Sequence headers and transform parameters that are the same field by field are equal.
use Rattle.std.proofs.Common.{◌≡◌, ℕ, Bool, true, false, List, refl, ◌∙◌, arith}
use Rattle.std.specs.Prelude.{◌↔◌, ◌&&◌}
use Rattle.std.specs.Str.{bytes_eq}
use Rattle.std.proofs.lemmas.Bool.{and_parts, and_from}
use Rattle.std.proofs.lemmas.Bool.Decides.{nat_tests}
use Rattle.std.proofs.lemmas.Slice.Eq.{bytes_eq-Decides}
use Rattle.vc_types.specs.declared.shape.Shape.{Shape}
use Rattle.vc_types.specs.declared.video.Sampling.{Sampling}
use Rattle.vc_types.specs.declared.video.Sampling.TheVariants.{S444, S422, S420}
use Rattle.vc_types.specs.declared.video.SignalRange.{SignalRange}
use Rattle.vc_types.specs.Bits.{digit_of}
use Rattle.vc_types.specs.HeaderSpelling.{sampling_index}
use Rattle.vc_types.specs.SameValues.{same_range, same_sequence, same_luma, same_colour, same_transform, same_slicing, same_parameters}
use Rattle.vc_types.specs.SequenceHeader.{Sequence}
use Rattle.vc_types.specs.TransformParameters.{Parameters}
use Rattle.vc_types.specs.Video.{signal_range}

-- ---- sequence headers

sampling_is : (a b : Sampling) → sampling_index a ≡ sampling_index b → a ≡ b
sampling_is S444 S444 e = refl
sampling_is S444 S422 e = absurd (omega arith)
sampling_is S444 S420 e = absurd (omega arith)
sampling_is S422 S444 e = absurd (omega arith)
sampling_is S422 S422 e = refl
sampling_is S422 S420 e = absurd (omega arith)
sampling_is S420 S444 e = absurd (omega arith)
sampling_is S420 S422 e = absurd (omega arith)
sampling_is S420 S420 e = refl

flag_is : (a b : Bool) → digit_of a ≡ digit_of b → a ≡ b
flag_is true true e = refl
flag_is true false e = absurd (omega arith)
flag_is false true e = absurd (omega arith)
flag_is false false e = refl

range_parts : (o e c x p f d y : ℕ) → o ≡ p → e ≡ f → c ≡ d → x ≡ y → signal_range o e c x ≡ signal_range p f d y
range_parts o e c x p f d y g h i j = rw (g, h, i, j) refl

range_is : (a b : SignalRange) → same_range a b ≡ true → a ≡ b
range_is a b same = range_parts a.luma_offset a.luma_excursion a.colour_offset a.colour_excursion b.luma_offset b.luma_excursion b.colour_offset b.colour_excursion
    (grind (arith, nat_tests)) (grind (arith, nat_tests)) (grind (arith, nat_tests)) (grind (arith, nat_tests))

-- a sequence with some of its fields replaced
abbrev with_version : Sequence → ℕ → ℕ → ℕ → ℕ → Sequence
with_version s major minor level base = record s { major = major; minor = minor; level = level; base = base }

abbrev with_video : Sequence → ℕ → ℕ → Sampling → SignalRange → Sequence
with_video s width height sampling range = record s { width = width; height = height; sampling = sampling; range = range }

abbrev with_scan : Sequence → Bool → Bool → Bool → Sequence
with_scan s interlaced top_first fields = record s { interlaced = interlaced; top_first = top_first; fields = fields }

version_is : (s : Sequence) (m n l b m' n' l' b' : ℕ) → m ≡ m' → n ≡ n' → l ≡ l' → b ≡ b' → with_version s m n l b ≡ with_version s m' n' l' b'
version_is s m n l b m' n' l' b' e f g h = rw (e, f, g, h) refl

video_is : (s : Sequence) (w h w' h' : ℕ) (c c' : Sampling) (r r' : SignalRange) → w ≡ w' → h ≡ h' → c ≡ c' → r ≡ r' → with_video s w h c r ≡ with_video s w' h' c' r'
video_is s w h w' h' c c' r r' e f g i = rw (e, f, g, i) refl

scan_is : (s : Sequence) (i t f i' t' f' : Bool) → i ≡ i' → t ≡ t' → f ≡ f' → with_scan s i t f ≡ with_scan s i' t' f'
scan_is s i t f i' t' f' e g h = rw (e, g, h) refl

sequence_is : (a b : Sequence) → same_sequence a b ≡ true → a ≡ b
unfolding same_sequence
sequence_is a b same =
    let sampling = sampling_is a.sampling b.sampling (grind (arith, nat_tests)) in
    let interlaced = flag_is a.interlaced b.interlaced (grind (arith, nat_tests)) in
    let top_first = flag_is a.top_first b.top_first (grind (arith, nat_tests)) in
    let fields = flag_is a.fields b.fields (grind (arith, nat_tests)) in
    let range = range_is a.range b.range (and_parts _ (same_range a.range b.range) same).1 in
    version_is a a.major a.minor a.level a.base b.major b.minor b.level b.base (grind (arith, nat_tests)) (grind (arith, nat_tests)) (grind (arith, nat_tests)) (grind (arith, nat_tests))
    ∙ video_is (with_version a b.major b.minor b.level b.base) a.width a.height b.width b.height a.sampling b.sampling a.range b.range (grind (arith, nat_tests)) (grind (arith, nat_tests)) sampling range
    ∙ scan_is (with_version (with_video a b.width b.height b.sampling b.range) b.major b.minor b.level b.base) a.interlaced a.top_first a.fields b.interlaced b.top_first b.fields interlaced top_first fields

is_sequence : (a : Sequence) → same_sequence a a ≡ true
unfolding same_sequence
is_sequence a = grind (arith, nat_tests)

pub sequences_exactly : (a b : Sequence) → (same_sequence a b ≡ true) ↔ (a ≡ b)
sequences_exactly a b = (sequence_is a b, λ e. rw e (is_sequence b))

-- ---- transform parameters

abbrev shape_by : ℕ → ℕ → ℕ → ℕ → ℕ → ℕ → Shape
shape_by w h d x y c = record { luma_width = w; luma_height = h; luma_depth = d; colour_width = x; colour_height = y; colour_depth = c }

shape_parts : (w h d x y c w' h' d' x' y' c' : ℕ) → w ≡ w' → h ≡ h' → d ≡ d' → x ≡ x' → y ≡ y' → c ≡ c' → shape_by w h d x y c ≡ shape_by w' h' d' x' y' c'
shape_parts w h d x y c w' h' d' x' y' c' e f g i j k = rw (e, f, g, i, j, k) refl

shape_is : (a b : Shape) → same_luma a b ≡ true → same_colour a b ≡ true → a ≡ b
shape_is a b luma colour = shape_parts a.luma_width a.luma_height a.luma_depth a.colour_width a.colour_height a.colour_depth b.luma_width b.luma_height b.luma_depth b.colour_width b.colour_height b.colour_depth
    (grind (arith, nat_tests)) (grind (arith, nat_tests)) (grind (arith, nat_tests)) (grind (arith, nat_tests)) (grind (arith, nat_tests)) (grind (arith, nat_tests))

-- parameters with some of their fields replaced
abbrev with_transform : Parameters → ℕ → ℕ → ℕ → ℕ → Parameters
with_transform p wavelet wavelet_ho depth depth_ho = record p { wavelet = wavelet; wavelet_ho = wavelet_ho; depth = depth; depth_ho = depth_ho }

abbrev with_slicing : Parameters → ℕ → ℕ → ℕ → ℕ → Parameters
with_slicing p slices_x slices_y prefix scaler = record p { slices_x = slices_x; slices_y = slices_y; prefix = prefix; scaler = scaler }

abbrev with_rest : Parameters → Shape → List ℕ → Parameters
with_rest p shape matrix = record p { shape = shape; matrix = matrix }

transform_is : (p : Parameters) (w x d e w' x' d' e' : ℕ) → w ≡ w' → x ≡ x' → d ≡ d' → e ≡ e' → with_transform p w x d e ≡ with_transform p w' x' d' e'
transform_is p w x d e w' x' d' e' f g h i = rw (f, g, h, i) refl

slicing_is : (p : Parameters) (w x d e w' x' d' e' : ℕ) → w ≡ w' → x ≡ x' → d ≡ d' → e ≡ e' → with_slicing p w x d e ≡ with_slicing p w' x' d' e'
slicing_is p w x d e w' x' d' e' f g h i = rw (f, g, h, i) refl

rest_is : (p : Parameters) (s s' : Shape) (m m' : List ℕ) → s ≡ s' → m ≡ m' → with_rest p s m ≡ with_rest p s' m'
rest_is p s s' m m' e f = rw (e, f) refl

by_parts : (a b : Parameters) → a.shape ≡ b.shape → same_transform a b ≡ true → same_slicing a b ≡ true → a.matrix ≡ b.matrix → a ≡ b
by_parts a b shape transform slicing matrix =
    transform_is a a.wavelet a.wavelet_ho a.depth a.depth_ho b.wavelet b.wavelet_ho b.depth b.depth_ho (grind (arith, nat_tests)) (grind (arith, nat_tests)) (grind (arith, nat_tests)) (grind (arith, nat_tests))
    ∙ slicing_is (with_transform a b.wavelet b.wavelet_ho b.depth b.depth_ho) a.slices_x a.slices_y a.prefix a.scaler b.slices_x b.slices_y b.prefix b.scaler (grind (arith, nat_tests)) (grind (arith, nat_tests)) (grind (arith, nat_tests)) (grind (arith, nat_tests))
    ∙ rest_is (with_slicing (with_transform a b.wavelet b.wavelet_ho b.depth b.depth_ho) b.slices_x b.slices_y b.prefix b.scaler) a.shape b.shape a.matrix b.matrix shape matrix

parameters_are : (a b : Parameters) → same_parameters a b ≡ true → a ≡ b
unfolding same_parameters
parameters_are a b same =
    let matrix = and_parts (same_luma a.shape b.shape && same_colour a.shape b.shape && same_transform a b && same_slicing a b) (bytes_eq a.matrix b.matrix) same in
    let slicing = and_parts (same_luma a.shape b.shape && same_colour a.shape b.shape && same_transform a b) (same_slicing a b) matrix.0 in
    let transform = and_parts (same_luma a.shape b.shape && same_colour a.shape b.shape) (same_transform a b) slicing.0 in
    let shapes = and_parts (same_luma a.shape b.shape) (same_colour a.shape b.shape) transform.0 in
    by_parts a b (shape_is a.shape b.shape shapes.0 shapes.1) transform.1 slicing.1 ((bytes_eq-Decides a.matrix b.matrix).0 matrix.1)

are_parameters : (a : Parameters) → same_parameters a a ≡ true
unfolding same_parameters
are_parameters a =
    and_from (same_luma a.shape a.shape && same_colour a.shape a.shape && same_transform a a && same_slicing a a) (bytes_eq a.matrix a.matrix) (grind (arith, nat_tests)) ((bytes_eq-Decides a.matrix a.matrix).1 refl)

pub parameters_exactly : (a b : Parameters) → (same_parameters a b ≡ true) ↔ (a ≡ b)
parameters_exactly a b = (parameters_are a b, λ e. rw e (are_parameters b))
