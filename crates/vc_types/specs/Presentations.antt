-- How frames are meant to be shown (ST 2042-1, frame rate, pixel aspect ratio, clean area, colour
-- specification): the standard's presets, what its base video formats say, and what a sender's header codes.
use Rattle.std.specs.Prelude.{ℕ, ◌+◌, ◌&&◌, ◌==◌, Bool, true, List, [], ◌∷◌, position}
use Rattle.std.specs.Prelude.{Some, None, slice_index_or}
use Rattle.std.specs.Option.{option_map, option_map_or}
use Rattle.vc_types.specs.declared.presentation.Choice.{Choice}
use Rattle.vc_types.specs.declared.presentation.Choice.TheVariants.{Preset, Custom}
use Rattle.vc_types.specs.declared.presentation.CleanArea.{CleanArea}
use Rattle.vc_types.specs.declared.presentation.CodedPresentation.{CodedPresentation}
use Rattle.vc_types.specs.declared.presentation.Colour.{Colour}
use Rattle.vc_types.specs.declared.presentation.Presentation.{Presentation}
use Rattle.vc_types.specs.declared.settings.Told.{Told}
use Rattle.vc_types.specs.Ratios.{lowest_terms}
use Rattle.vc_types.specs.Settings.{within}

-- ---- presets

-- 1 to 16: frames in seconds
abbrev pub frame_rates : List (ℕ × ℕ)
frame_rates =
    (24000, 1001) ∷ (24, 1) ∷ (25, 1) ∷ (30000, 1001) ∷ (30, 1) ∷ (50, 1) ∷ (60000, 1001) ∷ (60, 1)
    ∷ (15000, 1001) ∷ (25, 2) ∷ (48, 1) ∷ (48000, 1001) ∷ (96, 1) ∷ (100, 1) ∷ (120000, 1001)
    ∷ (120, 1) ∷ []

-- 1 to 6: the width of a pixel over its height
abbrev pub pixel_aspect_ratios : List (ℕ × ℕ)
pixel_aspect_ratios = (1, 1) ∷ (10, 11) ∷ (12, 11) ∷ (40, 33) ∷ (16, 11) ∷ (4, 3) ∷ []

abbrev pub area : (width height left top : ℕ) → CleanArea
area width height left top = record { width = width; height = height; left = left; top = top }

-- HDTV in all its parts
abbrev pub uncoded_colour : Colour
uncoded_colour = record { primaries = None; matrix = None; transfer = None }

-- ---- base video formats

abbrev pub base_presentation : (rate aspect : ℕ) → CleanArea → Choice Colour → Presentation
base_presentation rate aspect clean_area colour = record {
  frame_rate = Preset rate;
  aspect_ratio = Preset aspect;
  clean_area = clean_area;
  colour = colour;
}

-- 0 to 16: frame rate, pixel aspect ratio, clean area, colour specification, which is 1 for 525 lines, 2 for
-- 625 lines, 3 for HDTV, 4 for D-Cinema
abbrev pub base_presentations : List Presentation
base_presentations =
    base_presentation 1 1 (area 640 480 0 0) (Custom uncoded_colour) ∷
    base_presentation 9 2 (area 176 120 0 0) (Preset 1) ∷
    base_presentation 10 3 (area 176 144 0 0) (Preset 2) ∷
    base_presentation 9 2 (area 352 240 0 0) (Preset 1) ∷
    base_presentation 10 3 (area 352 288 0 0) (Preset 2) ∷
    base_presentation 9 2 (area 704 480 0 0) (Preset 1) ∷
    base_presentation 10 3 (area 704 576 0 0) (Preset 2) ∷
    base_presentation 4 2 (area 704 480 8 0) (Preset 1) ∷
    base_presentation 3 3 (area 704 576 8 0) (Preset 2) ∷
    base_presentation 7 1 (area 1280 720 0 0) (Preset 3) ∷
    base_presentation 6 1 (area 1280 720 0 0) (Preset 3) ∷
    base_presentation 4 1 (area 1920 1080 0 0) (Preset 3) ∷
    base_presentation 3 1 (area 1920 1080 0 0) (Preset 3) ∷
    base_presentation 7 1 (area 1920 1080 0 0) (Preset 3) ∷
    base_presentation 6 1 (area 1920 1080 0 0) (Preset 3) ∷
    base_presentation 2 1 (area 2048 1080 0 0) (Preset 4) ∷
    base_presentation 2 1 (area 4096 2160 0 0) (Preset 4) ∷
    []

unfoldable pub presentation_of : ℕ → Presentation
presentation_of base =
    slice_index_or base_presentations base
    (base_presentation 0 0 (area 0 0 0 0) (Custom uncoded_colour))

-- ---- what a header codes

abbrev pub nothing_coded : CodedPresentation
nothing_coded =
    record { frame_rate = None; aspect_ratio = None; clean_area = None; colour = None }

abbrev pub is_ratio : ℕ × ℕ → ℕ × ℕ → Bool
is_ratio r other = other.0 == r.0 && other.1 == r.1

-- the index of a ratio in a table, counted from 1, and the ratio itself where the table doesn't have it
unfoldable pub choice_in : List (ℕ × ℕ) → ℕ × ℕ → Choice (ℕ × ℕ)
choice_in table r =
    option_map_or (λ place. Preset (place + 1)) (position (is_ratio r) table) (Custom r)

-- what is coded of frames of a size where a sender tells this: the whole frame is the clean area
abbrev pub told_presentation : (width height : ℕ) → Told → CodedPresentation
told_presentation width height t = record {
  frame_rate = Some (choice_in frame_rates (lowest_terms t.rate));
  aspect_ratio = option_map (λ r. choice_in pixel_aspect_ratios (lowest_terms r)) t.aspect;
  clean_area = Some (area width height 0 0);
  colour = option_map Preset t.colour;
}

-- what a sender may tell: a ratio of numbers of 32 bits, one of numbers of 16 bits, and the number of a
-- colour specification
abbrev pub ratio_within : (high : ℕ) → ℕ × ℕ → Bool
ratio_within high r = within 1 high r.0 && within 1 high r.1

abbrev pub told_fits : Told → Bool
told_fits t =
    ratio_within 4294967295 t.rate && option_map_or (ratio_within 65535) t.aspect true
    && option_map_or (within 1 7) t.colour true
