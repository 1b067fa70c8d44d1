-- Slices in the bytes of a run.
use Rattle.std.proofs.Common.{◌≡◌, ℕ, zero, suc, ◌+◌, ◌-◌, ◌<◌, ◌≤◌, List, [], ◌∷◌, ◌++◌, drop, take, length, get_or, refl, sym, ap, ◌∙◌, append_assoc, arith}
use Rattle.std.proofs.lemmas.List.{append-nil, drop-append-le, length-drop, take-append-le}
use Rattle.std.proofs.Math.Seq.{drop-append_seam, take-length}
use Rattle.picture_encode.specs.IndexedSlices.{AreEnds, start_in_run, run_slices_from}
use Rattle.picture_encode.specs.declared.run.SliceEnd.{SliceEnd}
use Rattle.picture_encode.specs.Encoded.{bytes_of_slices}
use Rattle.vc_types.specs.Fields.{joined}

-- ---- one more slice

pub ends_more : (start : ℕ) (ends : List SliceEnd) (len more : ℕ) (e : SliceEnd) → AreEnds start ends len → e.end ≡ len + more → AreEnds start (ends ++ e ∷ []) (len + more)
ends_more start [] len more e are is = (omega (arith, are, is), is)
ends_more start (f ∷ ends) len more e are is = (are.0, ends_more f.end ends len more e are.1 is)

start_upto : (start : ℕ) (ends : List SliceEnd) (len : ℕ) → AreEnds start ends len → start ≤ len
start_upto start [] len are = omega (arith, are)
start_upto start (f ∷ ends) len are = let behind = start_upto f.end ends len are.1 in omega (arith, are.0, behind)

pub slices_more : (start : ℕ) (ends : List SliceEnd) (bytes more : List ℕ) (e : SliceEnd) → AreEnds start ends (length bytes) → e.end ≡ length bytes + length more
    → run_slices_from start (ends ++ e ∷ []) (bytes ++ more) ≡ run_slices_from start ends bytes ++ record { index = e.index; bytes = more } ∷ []
slices_more start [] bytes more e are is =
    let len : e.end - start ≡ length more = omega (arith, are, is) in
    let behind : drop start (bytes ++ more) ≡ more = ap (λ k. drop k (bytes ++ more)) are ∙ drop-append_seam bytes more in
    let own : take (e.end - start) (drop start (bytes ++ more)) ≡ more = (λ i. take (len i) (behind i)) ∙ take-length more in
    λ i. record { index = e.index; bytes = own i } ∷ []
slices_more start (f ∷ ends) bytes more e are is =
    let within : f.end ≤ length bytes = start_upto f.end ends (length bytes) are.1 in
    let left = length-drop start bytes in
    let own : take (f.end - start) (drop start (bytes ++ more)) ≡ take (f.end - start) (drop start bytes) =
    ap (take (f.end - start)) (drop-append-le start bytes more (omega (arith, are.0, within)))
    ∙ take-append-le (f.end - start) (drop start bytes) more (omega (arith, left, within)) in
    let rest = slices_more f.end ends bytes more e are.1 is in
    λ i. record { index = f.index; bytes = own i } ∷ rest i

-- ---- a slice by its number

pub how_many : (start : ℕ) (ends : List SliceEnd) (bytes : List ℕ) → length (run_slices_from start ends bytes) ≡ length ends
how_many start [] bytes = refl
how_many start (e ∷ ends) bytes = ap suc (how_many e.end ends bytes)

pub starts_behind : (start : ℕ) (ends : List SliceEnd) (i : ℕ) (e : SliceEnd) → i < length ends → start_in_run start ends (suc i) ≡ (get_or ends i e).end
starts_behind start [] i e below = absurd (omega (arith, below))
starts_behind start (f ∷ ends) zero e below = refl
starts_behind start (f ∷ ends) (suc i) e below = starts_behind f.end ends i e (omega (arith, below))

pub slice_is : (start : ℕ) (ends : List SliceEnd) (bytes : List ℕ) (i : ℕ) (e : SliceEnd) → i < length ends
    → get_or (bytes_of_slices (run_slices_from start ends bytes)) i [] ≡ take ((get_or ends i e).end - start_in_run start ends i) (drop (start_in_run start ends i) bytes)
slice_is start [] bytes i e below = absurd (omega (arith, below))
slice_is start (f ∷ ends) bytes zero e below = refl
slice_is start (f ∷ ends) bytes (suc i) e below = slice_is f.end ends bytes i e (omega (arith, below))

pub slice_within : (start : ℕ) (ends : List SliceEnd) (len i : ℕ) (e : SliceEnd) → AreEnds start ends len → i < length ends
    → (start_in_run start ends i ≤ (get_or ends i e).end) × ((get_or ends i e).end ≤ len)
slice_within start [] len i e are below = absurd (omega (arith, below))
slice_within start (f ∷ ends) len zero e are below = (are.0, start_upto f.end ends len are.1)
slice_within start (f ∷ ends) len (suc i) e are below = slice_within f.end ends len i e are.1 (omega (arith, below))

-- ---- runs one behind another

pub joined_more : {T : Type 0} (parts : List (List T)) (part : List T) → joined (parts ++ part ∷ []) ≡ joined parts ++ part
joined_more [] part = append-nil part
joined_more (first ∷ parts) part = ap (λ l. first ++ l) (joined_more parts part) ∙ sym (append_assoc first (joined parts) part)
