-- What this project's sender makes of a picture: the bytes of its sequence header and of its
-- transform parameters, its coefficients, and each slice at its quantisation index; and how the
-- index of a slice is chosen.
use Rattle.std.specs.Prelude.{◌≡◌, ℕ, ◌+◌, ◌-◌, ◌*◌, ◌/◌, Bool, true, false, nat_le, min, List, [], ◌∷◌}
use Rattle.std.specs.Prelude.{map, take}
use Rattle.std.specs.Prelude.{unwrap_or, ℤ}
use Rattle.std.specs.List.{range_with_len, enumerate_from, position_or_len}
use Rattle.std.specs.Option.{option_map_or}
use Rattle.vc_types.specs.declared.choice.IndexChoice.{IndexChoice}
use Rattle.vc_types.specs.declared.choice.IndexChoice.TheVariants.{Index, Fit, Budget}
use Rattle.vc_types.specs.declared.presentation.CodedPresentation.{CodedPresentation}
use Rattle.vc_types.specs.declared.presentation.Presentation.{Presentation}
use Rattle.vc_types.specs.declared.video.Component.{Component}
use Rattle.vc_types.specs.declared.video.Component.TheVariants.{Y, C1, C2}
use Rattle.vc_types.specs.Bits.{number_of}
use Rattle.vc_types.specs.Encoding.{encoded_slice, encoded_length}
use Rattle.vc_types.specs.Fields.{filled_up}
use Rattle.vc_types.specs.HeaderSpelling.{header_bits, encoder_base, encoder_header_with}
use Rattle.vc_types.specs.HeaderSpelling.{spelled_presentation}
use Rattle.vc_types.specs.ParameterSpelling.{parameter_bits, encoder_parameters}
use Rattle.vc_types.specs.Planes.{Planes}
use Rattle.vc_types.specs.Presentations.{nothing_coded, told_presentation}
use Rattle.vc_types.specs.Quantisation.{default_matrix}
use Rattle.vc_types.specs.Rasters.{Raster, sample_at}
use Rattle.vc_types.specs.SenderSettings.{Sending}
use Rattle.vc_types.specs.SequenceHeader.{Sequence, picture_shape}
use Rattle.vc_types.specs.Slices.{Coefficients}
use Rattle.vc_types.specs.Subbands.{Place, slice_count, slice_coefficient_count, coefficient_place}
use Rattle.vc_types.specs.TransformParameters.{Parameters}
use Rattle.vc_types.specs.Transforms.{Cells, forward_transform}
use Rattle.vc_types.specs.Video.{range_of, colour_width, colour_height}

-- ---- bits as bytes

-- eight by eight, the most significant first
unfoldable pub packed_bits : List Bool → List ℕ
packed_bits (a ∷ b ∷ c ∷ d ∷ e ∷ f ∷ g ∷ h ∷ bits) =
    number_of (a ∷ b ∷ c ∷ d ∷ e ∷ f ∷ g ∷ h ∷ []) ∷ packed_bits bits
packed_bits bits = []

-- ---- the sequence header and the transform parameters

-- version 3.0, level 0, base 14 with the top field first and else 0, interlaced exactly with
-- field coding
unfoldable pub sent_sequence : Sending → Sequence
sent_sequence s = record {
  major = 3;
  minor = 0;
  level = 0;
  base = encoder_base s.frames.top;
  width = s.frames.width;
  height = s.frames.height;
  sampling = s.frames.sampling;
  interlaced = s.frames.fields;
  top_first = s.frames.top;
  range = range_of s.frames.range;
  fields = s.frames.fields;
}

-- what the header codes of how the frames are shown: nothing where nothing is told of it
unfoldable pub sent_presentation : Sending → CodedPresentation
sent_presentation s =
    option_map_or (told_presentation s.frames.width s.frames.height) s.told nothing_coded

-- its bytes: size, sampling, scan and signal range are coded, and how the frames are shown
unfoldable pub sent_header : Sending → List ℕ
sent_header s = packed_bits (filled_up (header_bits
    (encoder_header_with (sent_presentation s) (sent_sequence s))))

-- what is read of it: how the base video format's frames are shown, where nothing is told
unfoldable pub shown_presentation : Sending → Presentation
shown_presentation s =
    spelled_presentation (encoder_header_with (sent_presentation s) (sent_sequence s))

-- the same transform across as down, and the default matrix
unfoldable pub sent_parameters : Sending → Parameters
sent_parameters s = record {
  shape = picture_shape (sent_sequence s);
  wavelet = s.wavelet;
  wavelet_ho = s.wavelet;
  depth = s.depth;
  depth_ho = 0;
  slices_x = s.across;
  slices_y = s.down;
  prefix = s.prefix;
  scaler = s.scaler;
  matrix = unwrap_or (default_matrix s.wavelet s.depth) [];
}

-- their bytes
unfoldable pub sent_parameter_bytes : Sending → List ℕ
sent_parameter_bytes s =
    packed_bits (filled_up (parameter_bits 3 (encoder_parameters (sent_parameters s))))

-- ---- the coefficients of a picture

abbrev pub plane_in : Planes → Component → Raster
plane_in planes Y = planes.y
plane_in planes C1 = planes.c1
plane_in planes C2 = planes.c2

-- the coefficients of a component, in the grid of nested subbands
unfoldable pub sent_cells : Parameters → Planes → Component → Cells
sent_cells p planes c = forward_transform p c (sample_at (plane_in planes c))

abbrev pub number_at_place : Cells → Place → ℤ
number_at_place cells place = cells place.0 place.1

-- those of a slice, in the slice's order
unfoldable pub numbers_in_slice : Parameters → Component → Cells → ℕ → List ℤ
numbers_in_slice p c cells slice =
    map (λ i. number_at_place cells (coefficient_place p c slice i))
    (range_with_len 0 (slice_coefficient_count p c slice))

unfoldable pub sent_coefficients : Parameters → Planes → ℕ → Coefficients
sent_coefficients p planes slice = record {
  y = numbers_in_slice p Y (sent_cells p planes Y) slice;
  c1 = numbers_in_slice p C1 (sent_cells p planes C1) slice;
  c2 = numbers_in_slice p C2 (sent_cells p planes C2) slice;
}

-- ---- the slices of a picture

-- how many bytes a slice has at an index
unfoldable pub sent_length : Parameters → Planes → ℕ → ℕ → ℕ
sent_length p planes slice index = encoded_length p slice index (sent_coefficients p planes slice)

-- these bytes
unfoldable pub sent_slice : Parameters → Planes → ℕ → ℕ → List ℕ
sent_slice p planes slice index =
    packed_bits (encoded_slice p slice index (sent_coefficients p planes slice))

-- the numbers of a picture's slices, each with the first indices of a list in turn
abbrev pub slices_with_indices : Parameters → List ℕ → List (ℕ × ℕ)
slices_with_indices p indices = enumerate_from 0 (take (slice_count p) indices)

-- the slices of a picture in raster order, each at its index
unfoldable pub sent_slices : Parameters → Planes → List ℕ → List (List ℕ)
sent_slices p planes indices =
    map (λ z. sent_slice p planes z.0 z.1) (slices_with_indices p indices)

-- ---- how the index of a slice is chosen

-- the bytes that slices have in one datagram, without the heads of the packet and of the payload
abbrev pub slice_room : Sending → ℕ
slice_room s = s.size - 32

-- what is told of a slice: its number, the room, and its length at each index from 0 to 127,
-- where lengths are wanted
pub record Need : Type 0 where
  pub slice : ℕ
  pub room : ℕ
  pub lengths : List ℕ

abbrev pub told_lengths : Bool → Parameters → Planes → ℕ → List ℕ
told_lengths true p planes slice = map (sent_length p planes slice) (range_with_len 0 128)
told_lengths false p planes slice = []

unfoldable pub need_of : Sending → Bool → Planes → ℕ → Need
need_of s wanted planes slice = record {
  slice = slice;
  room = slice_room s;
  lengths = told_lengths wanted (sent_parameters s) planes slice;
}

-- what is told of a picture's slices, one after another
unfoldable pub picture_needs : Sending → Bool → Planes → List Need
picture_needs s wanted planes =
    map (need_of s wanted planes) (range_with_len 0 (slice_count (sent_parameters s)))

-- the least index at which a slice has at most so many bytes, 127 where there is none
unfoldable pub least_fitting : ℕ → List ℕ → ℕ
least_fitting bytes lengths = min (position_or_len (λ len. nat_le len bytes) lengths) 127

-- a slice's share of a budget for a picture's slices, which are so many: up to each slice the shares come to
-- the same part of the budget as the slices do of the picture, rounded down
unfoldable pub budget_share : (bytes slices slice : ℕ) → ℕ
budget_share bytes slices slice = (slice + 1) * bytes / slices - slice * bytes / slices

-- one index for all of a picture's slices, which are so many, or for each the least that fits so many bytes,
-- or that fits its share of a budget
abbrev pub chosen_by : (slices : ℕ) → IndexChoice → Need → ℕ
chosen_by slices (Index index) need = index
chosen_by slices (Fit bytes) need = least_fitting bytes need.lengths
chosen_by slices (Budget bytes) need =
    least_fitting (budget_share bytes slices need.slice) need.lengths

abbrev pub chosen_index : Sending → Need → ℕ
chosen_index s need = chosen_by (slice_count (sent_parameters s)) s.choice need

abbrev pub wants_lengths : IndexChoice → Bool
wants_lengths (Index index) = false
wants_lengths (Fit bytes) = true
wants_lengths (Budget bytes) = true

-- the indices of a picture's slices, as the settings choose them
unfoldable pub chosen_indices : Sending → Planes → List ℕ
chosen_indices s planes =
    map (chosen_index s) (picture_needs s (wants_lengths s.choice) planes)

-- ---- the planes of a frame

pub record HasSides (across down : ℕ) (plane : Raster) : Type 0 where
  pub width : plane.width ≡ across
  pub height : plane.height ≡ down

-- they have the sizes of the settings
pub record IsFrame (s : Sending) (frame : Planes) : Type 0 where
  pub y : HasSides s.frames.width s.frames.height frame.y
  pub c1 : HasSides (colour_width s.frames.sampling s.frames.width)
      (colour_height s.frames.sampling s.frames.height) frame.c1
  pub c2 : HasSides (colour_width s.frames.sampling s.frames.width)
      (colour_height s.frames.sampling s.frames.height) frame.c2
