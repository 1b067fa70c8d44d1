-- How many samples of generated frames are not what was written (this project's own).
use Rattle.std.specs.Prelude.{ℕ, suc, ◌+◌, ◌==◌, not, List, [], ◌∷◌, ◌++◌}
use Rattle.std.specs.List.{flat_map}
use Rattle.frame_writer.specs.FrameBytes.{samples_of_bytes}
use Rattle.cmd_gen.specs.Defaults.{all_generated, shape_of_frames}
use Rattle.vc_types.specs.Bits.{digit_of}
use Rattle.vc_types.specs.Planes.{Planes}
use Rattle.vc_types.specs.RawFrames.{is_wide}
use Rattle.vc_types.specs.SenderSettings.{Generating}

-- how many samples are not the other list's at their places; one that it has not is different too
unfoldable pub different_samples : List ℕ → List ℕ → ℕ
different_samples [] others = 0
different_samples (sample ∷ samples) [] = suc (different_samples samples [])
different_samples (sample ∷ samples) (other ∷ others) =
    digit_of (not (other == sample)) + different_samples samples others

-- the samples of frames in raw order
abbrev pub raw_samples : List Planes → List ℕ
raw_samples frames =
    flat_map (λ frame. frame.y.samples ++ (frame.c1.samples ++ frame.c2.samples)) frames

-- Those of the generated frames that differ in raw bytes. What is written is compared in the order
-- of frames; a frame that is not written counts with all its samples.
abbrev pub differences : Generating → List ℕ → ℕ
differences g bytes =
    different_samples (raw_samples (all_generated g))
    (samples_of_bytes (is_wide (shape_of_frames g.frames)) bytes)
