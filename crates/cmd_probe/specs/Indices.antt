-- The quantisation indices of slices.
use Rattle.std.specs.Prelude.{ℕ, zero, suc, min, max, List, Result, Ok, Err}
use Rattle.vc_types.specs.Slices.{CodedSlice, coded_slice}
use Rattle.cmd_probe.specs.declared.slices.Indices.{Indices}

abbrev pub no_indices : Indices
no_indices = record { least = 255; most = 0 }

abbrev pub with_index : Indices → ℕ → Indices
with_index s index = record { least = min s.least index; most = max s.most index }

-- ---- slices one after another

-- the bytes that are left, and the indices
abbrev pub behind : List ℕ × Indices → Result (CodedSlice × List ℕ) (Unit {0}) → List ℕ × Indices
behind left (Ok read) = (read.1, with_index left.1 read.0.index)
behind left (Err short) = left

-- behind the slice that begins the bytes, if one does
abbrev pub behind_slice : (prefix scaler : ℕ) → List ℕ × Indices → List ℕ × Indices
behind_slice prefix scaler left = behind left (coded_slice prefix scaler left.0)

-- behind so many
abbrev pub behind_slices : (prefix scaler count : ℕ) → List ℕ × Indices → List ℕ × Indices
behind_slices prefix scaler zero left = left
behind_slices prefix scaler (suc count) left =
    behind_slices prefix scaler count (behind_slice prefix scaler left)

-- those of so many slices, as far as the bytes hold them
abbrev pub indices_with : (prefix scaler count : ℕ) → (bytes : List ℕ) → Indices → Indices
indices_with prefix scaler count bytes s = (behind_slices prefix scaler count (bytes, s)).1
