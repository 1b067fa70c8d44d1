-- What a refusal of the encoder says.
use Rattle.std.specs.Prelude.{◌≡◌, ⊤, ℕ, true}
use Rattle.vc_types.specs.Encoding.{encoded_length, is_too_long}
use Rattle.vc_types.specs.Slices.{Coefficients}
use Rattle.vc_types.specs.TransformParameters.{Parameters}
use Rattle.vc_slice.specs.declared.encoding.EncodeRefusal.{EncodeRefusal}
use Rattle.vc_slice.specs.declared.encoding.EncodeRefusal.TheVariants.{TooLong, NoMemory}

-- want of memory says nothing
abbrev pub IsRefusal : Parameters → ℕ → ℕ → Coefficients → EncodeRefusal → Type 0
IsRefusal p slice index s (TooLong bytes) =
    (is_too_long p slice index s ≡ true) × (bytes ≡ encoded_length p slice index s)
IsRefusal p slice index s NoMemory = ⊤
