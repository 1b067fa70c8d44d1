-- What a comparison counts in all.
use Rattle.std.specs.Prelude.{ℕ, ◌+◌, Bool, true, List, [], ◌∷◌, ◌++◌, Option, Some}
use Rattle.cmd_gen.specs.declared.comparison.Comparison.{Comparison}
use Rattle.cmd_gen.specs.Differences.{different_samples}
use Rattle.frame_writer.specs.FrameBytes.{samples_of_bytes}
use Rattle.cmd_gen.specs.Generator.{generated_samples}

-- the bytes of a sample that is not whole yet
abbrev pub held_back : Bool → Option ℕ → List ℕ
held_back true (Some low) = low ∷ []
held_back wide low = []

-- where these samples come and no more
abbrev pub counted_with_samples : Comparison → List ℕ → ℕ
counted_with_samples c samples =
    c.different + different_samples (generated_samples c.depth c.state c.left) samples

-- where these bytes come and no more
abbrev pub counted_with : Comparison → List ℕ → ℕ
counted_with c bytes =
    counted_with_samples c (samples_of_bytes c.wide (held_back c.wide c.low ++ bytes))
