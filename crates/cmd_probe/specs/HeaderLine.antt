-- The line of a sequence header (this project's own): the major version, the base video format and the size
-- of a frame; the sampling of the colour, the bits of luma, the preset of the signal range, whether pictures
-- are fields and whether the top field comes first; frame rate, pixel aspect ratio and colour specification.
use Rattle.std.specs.Prelude.{ℕ, Bool, true, false, List, ◌++◌, codes, Option, Some, None}
use Rattle.std.specs.Fmt.{decimal}
use Rattle.link_report.specs.Report.{newline}
use Rattle.vc_types.specs.Presentations.{frame_rates, pixel_aspect_ratios}
use Rattle.vc_types.specs.SequenceHeader.{Sequence, picture_shape}
use Rattle.vc_types.specs.declared.presentation.Presentation.{Presentation}
use Rattle.cmd_probe.specs.Presets.{colour_index, range_index, ratio_of, sampling_number}

abbrev pub flag_number : Bool → ℕ
flag_number true = 1
flag_number false = 0

unfoldable pub form_words : Sequence → List ℕ
form_words s =
    codes "header major " ++ (decimal s.major ++ (codes " base " ++ (decimal s.base
    ++ (codes " size " ++ (decimal s.width ++ (codes "x" ++ decimal s.height))))))

unfoldable pub sample_words : Sequence → List ℕ
sample_words s =
    (codes " sampling " ++ (decimal (sampling_number s.sampling)
    ++ (codes " bits " ++ (decimal (picture_shape s).luma_depth
    ++ (codes " range " ++ decimal (range_index s.range))))))
    ++ (codes " fields " ++ (decimal (flag_number s.fields)
    ++ (codes " top " ++ decimal (flag_number s.top_first))))

-- a numerator and a denominator, or that there is none
unfoldable pub ratio_words : Option (ℕ × ℕ) → List ℕ
ratio_words (Some ratio) = decimal ratio.0 ++ (codes ":" ++ decimal ratio.1)
ratio_words None = codes "-"

unfoldable pub presentation_words : Presentation → List ℕ
presentation_words p =
    codes " rate " ++ (ratio_words (ratio_of frame_rates p.frame_rate)
    ++ (codes " aspect " ++ (ratio_words (ratio_of pixel_aspect_ratios p.aspect_ratio)
    ++ (codes " colour " ++ (decimal (colour_index p.colour) ++ newline)))))

unfoldable pub header_line : Sequence → Presentation → List ℕ
header_line s p = form_words s ++ (sample_words s ++ presentation_words p)
