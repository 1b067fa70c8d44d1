-- Slices that are encoded: each by itself, and one behind another in the bytes of a run.
use Rattle.std.specs.Prelude.{◌≡◌, ◌-◌, ◌≤◌, ℕ, zero, suc, List, [], ◌∷◌, drop, take}
use Rattle.picture_encode.specs.declared.run.SliceEnd.{SliceEnd}
use Rattle.picture_encode.specs.declared.slices.EncodedSlice.{EncodedSlice}

-- the quantisation index of a slice, and its bytes
pub record IndexedSlice : Type 0 where
  pub index : ℕ
  pub bytes : List ℕ

abbrev pub indexed_slice : EncodedSlice → IndexedSlice
indexed_slice e = record { index = e.index; bytes = e.bytes.items }

-- ---- a run

-- the slices that end in these places of a run's bytes, of which the first begins in a place
abbrev pub run_slices_from : ℕ → List SliceEnd → List ℕ → List IndexedSlice
run_slices_from start [] bytes = []
run_slices_from start (e ∷ ends) bytes =
    record { index = e.index; bytes = take (e.end - start) (drop start bytes) }
    ∷ run_slices_from e.end ends bytes

-- the places follow one another, up to the last, where so many bytes end
abbrev pub AreEnds : ℕ → List SliceEnd → ℕ → Type 0
AreEnds start [] len = start ≡ len
AreEnds start (e ∷ ends) len = (start ≤ e.end) × AreEnds e.end ends len

-- where the slice with a number begins, the first being in a place
abbrev pub start_in_run : ℕ → List SliceEnd → ℕ → ℕ
start_in_run start ends zero = start
start_in_run start [] (suc i) = start
start_in_run start (e ∷ ends) (suc i) = start_in_run e.end ends i
