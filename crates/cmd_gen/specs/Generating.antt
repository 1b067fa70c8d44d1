-- What generating frames did, by how it ended.
use Rattle.std.specs.Prelude.{◌≡◌, ℕ, ◌*◌, List, Result, Ok, Err}
use Rattle.std.specs.List.{flat_map}
use Rattle.cmd_gen.specs.Defaults.{all_generated, shape_of_frames}
use Rattle.cmd_gen.specs.Generator.{frame_samples}
use Rattle.link_report.specs.declared.ending.Ending.{Ending}
use Rattle.link_report.specs.declared.ending.Ending.TheVariants.{NoMemory, OutputFailed}
use Rattle.link_report.specs.declared.summary.Summary.{Summary}
use Rattle.link_report.specs.declared.summary.Summary.TheVariants.{Generated}
use Rattle.vc_ports.specs.Changes.{OutputChange, HasRisen, Wrote, WrotePart}
use Rattle.vc_types.specs.declared.shape.Shape.{Shape}
use Rattle.vc_types.specs.Planes.{Planes}
use Rattle.vc_types.specs.RawFrames.{frame_bytes, is_wide}
use Rattle.vc_types.specs.SenderSettings.{Generating}

-- the raw bytes of frames, one behind the other
abbrev pub raw_bytes_of_frames : Shape → List Planes → List ℕ
raw_bytes_of_frames shape frames = flat_map (λ frame. frame_bytes frame (is_wide shape)) frames

-- those of all frames that are generated
abbrev pub generated_bytes : Generating → List ℕ
generated_bytes g = raw_bytes_of_frames (shape_of_frames g.frames) (all_generated g)

-- how many samples all frames have
abbrev pub sample_total : Generating → ℕ
sample_total g = g.count * frame_samples (shape_of_frames g.frames)

-- all frames were written, and these are their counts
pub record IsGenerated (g : Generating) (frames samples : ℕ) (output : OutputChange) : Type 0 where
  pub wrote : Wrote output (generated_bytes g)
  pub frames_are : frames ≡ g.count
  pub samples_are : samples ≡ sample_total g

abbrev pub GenerateEnded : Generating → Result Summary Ending → OutputChange → Type 0
GenerateEnded g (Ok (Generated frames samples)) output = IsGenerated g frames samples output
GenerateEnded g (Err NoMemory) output = WrotePart output (generated_bytes g)
GenerateEnded g (Err OutputFailed) output = WrotePart output (generated_bytes g)
GenerateEnded g answer output = ⊥

pub record Generates (g : Generating) (answer : Result Summary Ending) (output : OutputChange)
    : Type 0 where
  pub ended : GenerateEnded g answer output
  pub output_failed : answer ≡ Err OutputFailed → HasRisen output.faults
