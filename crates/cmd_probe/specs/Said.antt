-- What the headers and the transform parameters of a source say, as lines of text.
use Rattle.std.specs.Prelude.{ℕ, Bool, ◌+◌, ◌==◌, not, nat_lt, if◌then◌else◌, List, [], ◌++◌, codes}
use Rattle.std.specs.Prelude.{Option, Some, None, Result, Ok, Err}
use Rattle.std.specs.Str.{bytes_eq}
use Rattle.link_report.specs.Report.{newline}
use Rattle.vc_types.specs.SequenceHeader.{Sequence, coded_whole_header_of, high_quality_profile}
use Rattle.vc_types.specs.TransformParameters.{Parameters, coded_parameters}
use Rattle.vc_types.specs.declared.presentation.Presentation.{Presentation}
use Rattle.vc_types.specs.declared.refusal.HeaderRefusal.{HeaderRefusal}
use Rattle.vc_types.specs.declared.refusal.ParamsRefusal.{ParamsRefusal}
use Rattle.cmd_probe.specs.HeaderLine.{header_line}
use Rattle.cmd_probe.specs.TransformLine.{transform_line}
use Rattle.cmd_probe.specs.declared.formats.Formats.{Formats}

abbrev pub nothing_said : Formats
nothing_said = record { heading = None; header = []; transform = []; text = []; lines = 0 }

-- ---- lines

-- the text with a line more, of which there are 16 at most, and `more` behind them
unfoldable pub with_line : Formats → List ℕ → Formats
with_line f line =
    if nat_lt f.lines 16 then record f { text = f.text ++ line; lines = f.lines + 1 }
    else (if f.lines == 16 then record f { text = f.text ++ codes "more\n"; lines = 17 }
    else f)

abbrev pub with_new_line : Formats → (is_new : Bool) → List ℕ → Formats
with_new_line f is_new line = if is_new then with_line f line else f

-- a line that isn't the last of its kind
abbrev pub with_change : Formats → (last line : List ℕ) → Formats
with_change f last line = with_new_line f (not (bytes_eq line last)) line

-- ---- a header

abbrev pub with_sequence : Formats → Sequence → (line : List ℕ) → Formats
with_sequence f sequence line =
    record (with_change f f.header line) { heading = Some sequence; header = line }

abbrev pub saying : Formats → Result ((Sequence × Presentation) × ℕ) HeaderRefusal → Formats
saying f (Ok read) = with_sequence f read.0.0 (header_line read.0.0 read.0.1)
saying f (Err refusal) = f

-- of high quality, at the front of the bytes
unfoldable pub with_header : Formats → List ℕ → Formats
with_header f bytes = saying f (coded_whole_header_of high_quality_profile bytes)

-- ---- transform parameters

abbrev pub accepted_parameters : Result (Parameters × ℕ) ParamsRefusal → Option Parameters
accepted_parameters (Ok read) = Some read.0
accepted_parameters (Err refusal) = None

-- those at the front of the bytes, by the last header
abbrev pub parameters_under : Option Sequence → List ℕ → Option Parameters
parameters_under None bytes = None
parameters_under (Some sequence) bytes = accepted_parameters (coded_parameters sequence bytes)

unfoldable pub with_transform : Formats → Parameters → Formats
with_transform f p =
    record (with_change f f.transform (transform_line p)) { transform = transform_line p }
