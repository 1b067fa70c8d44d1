-- What a write that memory ends leaves.
use Rattle.std.specs.Prelude.{◌≡◌, Bool, List, ◌++◌}

-- the front of a code was added at the end
abbrev pub WroteFront : List Bool → List Bool → List Bool → Type 0
WroteFront code old new =
    (front : List Bool) × (rest : List Bool) × (code ≡ front ++ rest) × (new ≡ old ++ front)
