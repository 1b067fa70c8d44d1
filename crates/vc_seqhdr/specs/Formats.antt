-- Base video formats as the code keeps them.
use Rattle.vc_types.specs.Video.{BaseFormat, base_format}
use Rattle.vc_seqhdr.specs.declared.formats.Format.{Format}

abbrev pub format_view : Format → BaseFormat
format_view f = base_format f.width f.height f.sampling f.interlaced f.top_first f.range
