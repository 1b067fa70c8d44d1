-- What a loop over generated frames knows.
use Rattle.std.specs.Prelude.{◌≡◌, ℕ, List, Option, Result, Ok, Err}
use Rattle.cmd_gen.specs.Generator.{frame_samples, generated_frame, state_behind}
use Rattle.link_report.specs.declared.ending.Ending.{Ending}
use Rattle.link_report.specs.declared.ending.Ending.TheVariants.{NoMemory, OutputFailed}
use Rattle.vc_ports.specs.Writing.{Grew, GrewBySome}
use Rattle.vc_types.specs.declared.shape.Shape.{Shape}
use Rattle.vc_types.specs.RawFrames.{frame_bytes, is_wide}

-- the bytes of the frame behind a state
abbrev pub next_bytes : Shape → ℕ → List ℕ
next_bytes shape state = frame_bytes (generated_frame shape state) (is_wide shape)

-- the frame behind a state was written, and this is the state behind it; or a part of it was
abbrev pub PutsFrame : Shape → ℕ → Option (List ℕ) → Option (List ℕ) → Result ℕ Ending → Type 0
PutsFrame shape state before after (Ok behind) =
    Grew before after (next_bytes shape state)
    × (behind ≡ state_behind state (frame_samples shape))
PutsFrame shape state before after (Err NoMemory) =
    GrewBySome before after (next_bytes shape state)
PutsFrame shape state before after (Err OutputFailed) =
    GrewBySome before after (next_bytes shape state)
PutsFrame shape state before after (Err ending) = ⊥
