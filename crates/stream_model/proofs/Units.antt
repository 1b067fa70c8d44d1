-- Units one after another: those of two lists, and a header before them.
use Rattle.std.proofs.Common.{arith, ◌≡◌, ℕ, List, [], ◌∷◌, ◌++◌, refl}
use Rattle.std.proofs.lemmas.List.{append_assoc}
use Rattle.vc_types.specs.DataUnits.{DataUnit, unit_length}
use Rattle.stream_model.specs.Streams.{units_behind, last_length, behind_header}
use Rattle.stream_model.specs.Streams.{with_end, end_unit}

pub units_behind-append : (previous : ℕ) (units more : List DataUnit)
    → units_behind previous (units ++ more)
    ≡ units_behind previous units ++ units_behind (last_length previous units) more
unfolding units_behind last_length
units_behind-append previous [] more = refl
units_behind-append previous (u ∷ units) more =
    grind (arith, append_assoc, units_behind-append (unit_length u) units more)

pub last_length-append : (previous : ℕ) (units more : List DataUnit)
    → last_length previous (units ++ more) ≡ last_length (last_length previous units) more
unfolding last_length
last_length-append previous [] more = refl
last_length-append previous (u ∷ units) more = last_length-append (unit_length u) units more

-- pictures that follow others, or that are the first
abbrev pub following : List ℕ → List DataUnit → List DataUnit → List DataUnit
following header [] more = behind_header header more
following header (u ∷ units) more = more

pub behind_header-append : (header : List ℕ) (pictures more : List DataUnit)
    → behind_header header (pictures ++ more)
    ≡ behind_header header pictures ++ following header pictures more
behind_header-append header [] more = refl
behind_header-append header (u ∷ pictures) more = refl

-- what is after a stream's units
abbrev pub ending : List DataUnit → List DataUnit
ending [] = []
ending (u ∷ units) = end_unit ∷ []

pub with_end-is : (units : List DataUnit) → with_end units ≡ units ++ ending units
with_end-is [] = refl
with_end-is (u ∷ units) = refl
