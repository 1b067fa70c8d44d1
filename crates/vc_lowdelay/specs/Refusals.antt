-- What a refusal of a low-delay picture says.
use Rattle.std.specs.Prelude.{◌≡◌, ⊤, List, ℕ, Err}
use Rattle.vc_lowdelay.specs.LowDelay.{LowParameters, low_planes}
use Rattle.vc_lowdelay.specs.declared.refusal.LowRefusal.{LowRefusal}
use Rattle.vc_lowdelay.specs.declared.refusal.LowRefusal.TheVariants.{Short, CoefficientRange, NoMemory}

-- want of memory says nothing
abbrev pub IsRefusalOf : LowParameters → List ℕ → LowRefusal → Type 0
IsRefusalOf p bytes Short = low_planes p bytes ≡ Err Short
IsRefusalOf p bytes CoefficientRange = low_planes p bytes ≡ Err CoefficientRange
IsRefusalOf p bytes NoMemory = ⊤

-- What is known of the refusal of a part of a picture whose bytes are all there: of a large value
-- this fact, and of want of memory nothing.
abbrev pub IsRefusalFor : Type 0 → LowRefusal → Type 0
IsRefusalFor fact Short = ⊥
IsRefusalFor fact CoefficientRange = fact
IsRefusalFor fact NoMemory = ⊤
