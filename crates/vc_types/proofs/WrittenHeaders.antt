-- Headers of the encoder's form are spelled in the encoder's way, and read again.
use Rattle.std.proofs.Common.{◌≡◌, ℕ, zero, suc, ◌-◌, ◌%◌, ◌≤◌, ◌<◌, Bool, true, false, List, ◌++◌, length, replicate, Ok, refl, sym, ap, ◌∙◌, arith, lit≤}
use Rattle.std.specs.Prelude.{IsTrue, ◌&&◌}
use Rattle.std.proofs.lemmas.Bool.{and_parts}
use Rattle.std.proofs.lemmas.List.{length-replicate}
use Rattle.vc_types.specs.Bits.{bits_of}
use Rattle.vc_types.specs.Fields.{filled_up}
use Rattle.vc_types.specs.HeaderSpelling.{header_bits, spelled_header, IsHeader, IsEncoderHeader, IsPresentation, encoder_header, encoder_header_with, encoder_base, preset_of}
use Rattle.vc_types.specs.SequenceHeader.{Sequence, coded_header}
use Rattle.vc_types.specs.declared.presentation.CodedPresentation.{CodedPresentation}
use Rattle.vc_types.specs.Presentations.{nothing_coded}
use Rattle.vc_types.specs.Video.{format_of, range_of, dimensions_fit, side_fits, sampling_fits}
use Rattle.vc_types.specs.declared.video.SignalRange.{SignalRange}
use Rattle.vc_types.proofs.CodedBytes.{read_again}
use Rattle.vc_types.proofs.HeaderCodecs.{header_is}
use Rattle.vc_types.proofs.PictureShapes.{side_is}

preset_back : (index : ℕ) → 1 ≤ index → index ≤ 4 → preset_of (range_of index) ≡ index
unfolding range_of
preset_back zero low high = absurd (omega arith)
preset_back (suc zero) low high = refl
preset_back (suc (suc zero)) low high = refl
preset_back (suc (suc (suc zero))) low high = refl
preset_back (suc (suc (suc (suc zero)))) low high = refl
preset_back (suc (suc (suc (suc (suc n))))) low high = absurd (omega arith)

base_known : (top_first : Bool) → encoder_base top_first ≤ 16
base_known true = lit≤ tt
base_known false = lit≤ tt

top_first_again : (top_first : Bool) → (format_of (encoder_base top_first)).top_first ≡ top_first
unfolding format_of
top_first_again true = refl
top_first_again false = refl

-- the index of a preset range
preset_is : (s : Sequence) → (form : IsEncoderHeader s) → preset_of s.range ≡ form.range.0
preset_is s form = ap preset_of form.range.3 ∙ preset_back form.range.0 form.range.1 form.range.2

range_again : (s : Sequence) → IsEncoderHeader s → range_of (preset_of s.range) ≡ s.range
range_again s form = ap range_of (preset_is s form) ∙ sym form.range.3

abbrev sequence_with : Sequence → ℕ → ℕ → ℕ → ℕ → Bool → Bool → SignalRange → Sequence
sequence_with s major minor level base interlaced top_first range = record s { major = major; minor = minor; level = level; base = base; interlaced = interlaced; top_first = top_first; range = range }

-- the spelling stands for the header
pub stands_for_it : (s : Sequence) → IsEncoderHeader s → spelled_header (encoder_header s) ≡ s
stands_for_it s form =
    ap (λ (n : ℕ). sequence_with s n 0 0 (encoder_base s.top_first) s.fields (format_of (encoder_base s.top_first)).top_first (range_of (preset_of s.range))) (sym form.major)
    ∙ ap (λ (n : ℕ). sequence_with s s.major n 0 (encoder_base s.top_first) s.fields (format_of (encoder_base s.top_first)).top_first (range_of (preset_of s.range))) (sym form.minor)
    ∙ ap (λ (n : ℕ). sequence_with s s.major s.minor n (encoder_base s.top_first) s.fields (format_of (encoder_base s.top_first)).top_first (range_of (preset_of s.range))) (sym form.level)
    ∙ ap (λ (n : ℕ). sequence_with s s.major s.minor s.level n s.fields (format_of (encoder_base s.top_first)).top_first (range_of (preset_of s.range))) (sym form.base)
    ∙ ap (λ (b : Bool). sequence_with s s.major s.minor s.level s.base b (format_of (encoder_base s.top_first)).top_first (range_of (preset_of s.range))) (sym form.scan)
    ∙ ap (λ (b : Bool). sequence_with s s.major s.minor s.level s.base s.interlaced b (range_of (preset_of s.range))) (top_first_again s.top_first)
    ∙ ap (λ (r : SignalRange). sequence_with s s.major s.minor s.level s.base s.interlaced s.top_first r) (range_again s form)

-- and is accepted
pub is_accepted : (c : CodedPresentation) (s : Sequence) → IsPresentation c → IsEncoderHeader s → IsTrue (dimensions_fit s.width s.height s.sampling s.fields) → IsHeader (encoder_header_with c s)
is_accepted c s coded form dimensions =
    let whole = and_parts (side_fits s.width && side_fits s.height) (sampling_fits s.width s.height s.sampling s.fields) dimensions in
    let sides = and_parts (side_fits s.width) (side_fits s.height) whole.0 in
    let width = (side_is s.width sides.0).most in
    let height = (side_is s.height sides.1).most in
    record {
      major = refl;
      minor = lit≤ tt;
      level = lit≤ tt;
      base = base_known s.top_first;
      size = (omega (arith, width), omega (arith, height));
      frame_rate = coded.frame_rate;
      aspect_ratio = coded.aspect_ratio;
      clean_area = coded.clean_area;
      range = (omega (arith, form.range.1, preset_is s form), omega (arith, form.range.2, preset_is s form));
      colour = coded.colour;
      dimensions = dimensions;
    }

pub filled_less : (bits : List Bool) → length (replicate ((8 - length bits % 8) % 8) false) < 8
filled_less bits = omega (arith, length-replicate {A = Bool} ((8 - length bits % 8) % 8) false)

-- What is written of a header is read again, whatever follows.
pub header_with_again : (c : CodedPresentation) (s : Sequence) (bytes behind : List ℕ) → IsPresentation c → IsEncoderHeader s → IsTrue (dimensions_fit s.width s.height s.sampling s.fields) → bits_of bytes ≡ filled_up (header_bits (encoder_header_with c s)) → coded_header (bytes ++ behind) ≡ Ok (s, length bytes)
header_with_again c s bytes behind coded form dimensions written =
    let bits = header_bits (encoder_header_with c s) in
    let read = read_again bytes behind (encoder_header_with c s) (replicate ((8 - length bits % 8) % 8) false) header_is (is_accepted c s coded form dimensions) written (filled_less bits) in
    read ∙ ap (λ (t : Sequence). Ok (t, length bytes)) (stands_for_it s form)

pub nothing_accepted : IsPresentation nothing_coded
nothing_accepted = record { frame_rate = tt; aspect_ratio = tt; clean_area = tt; colour = tt }

pub header_again : (s : Sequence) (bytes behind : List ℕ) → IsEncoderHeader s → IsTrue (dimensions_fit s.width s.height s.sampling s.fields) → bits_of bytes ≡ filled_up (header_bits (encoder_header s)) → coded_header (bytes ++ behind) ≡ Ok (s, length bytes)
header_again s bytes behind = header_with_again nothing_coded s bytes behind nothing_accepted
