-- The seven wavelets (ST 2042-1, wavelet filters): lines synthesised and analysed.
use Rattle.std.specs.Prelude.{ℕ, ◌≡◌, ◌-◌, ◌*◌, ◌%◌, ◌^◌, ◌<◌, ◌≤◌, Bool, true, false, not, List, [], ◌∷◌, ℤ}
use Rattle.std.specs.Prelude.{pos, negsuc, fold, map, reverse, slice_index_or, unsigned_abs}
use Rattle.vc_types.specs.Lifting.{Line, LiftingStep, Parity, even, odd, lifted}

-- a step that adds its change, and one that takes it away: taps, S, D
abbrev pub plus : Parity → List ℤ → ℕ → ℤ → LiftingStep
plus parity taps shift first =
    record { parity = parity; adds = true; taps = taps; shift = shift; first = first }

abbrev pub minus : Parity → List ℤ → ℕ → ℤ → LiftingStep
minus parity taps shift first =
    record { parity = parity; adds = false; taps = taps; shift = shift; first = first }

-- n below zero
abbrev pub less : ℕ → ℤ
less n = negsuc (n - 1)

-- the steps of synthesis
abbrev pub deslauriers_dubuc_9_7 : List LiftingStep
deslauriers_dubuc_9_7 =
    minus even (pos 1 ∷ pos 1 ∷ []) 2 (pos 0) ∷
    plus odd (less 1 ∷ pos 9 ∷ pos 9 ∷ less 1 ∷ []) 4 (less 1) ∷
    []

abbrev pub legall_5_3 : List LiftingStep
legall_5_3 =
    minus even (pos 1 ∷ pos 1 ∷ []) 2 (pos 0) ∷
    plus odd (pos 1 ∷ pos 1 ∷ []) 1 (pos 0) ∷
    []

abbrev pub deslauriers_dubuc_13_7 : List LiftingStep
deslauriers_dubuc_13_7 =
    minus even (less 1 ∷ pos 9 ∷ pos 9 ∷ less 1 ∷ []) 5 (less 1) ∷
    plus odd (less 1 ∷ pos 9 ∷ pos 9 ∷ less 1 ∷ []) 4 (less 1) ∷
    []

abbrev pub haar : List LiftingStep
haar =
    minus even (pos 1 ∷ []) 1 (pos 1) ∷
    plus odd (pos 1 ∷ []) 0 (pos 0) ∷
    []

abbrev pub fidelity : List LiftingStep
fidelity =
    plus odd
    (less 2 ∷ pos 10 ∷ less 25 ∷ pos 81 ∷ pos 81 ∷ less 25 ∷ pos 10 ∷ less 2 ∷ []) 8 (less 3) ∷
    minus even
    (less 8 ∷ pos 21 ∷ less 46 ∷ pos 161 ∷ pos 161 ∷ less 46 ∷ pos 21 ∷ less 8 ∷ []) 8 (less 3) ∷
    []

abbrev pub daubechies_9_7 : List LiftingStep
daubechies_9_7 =
    minus even (pos 1817 ∷ pos 1817 ∷ []) 12 (pos 0) ∷
    minus odd (pos 113 ∷ pos 113 ∷ []) 7 (pos 0) ∷
    plus even (pos 217 ∷ pos 217 ∷ []) 12 (pos 0) ∷
    plus odd (pos 6497 ∷ pos 6497 ∷ []) 12 (pos 0) ∷
    []

-- by index: 3 and 4 are both Haar, without and with a shift after each level
unfoldable pub synthesis_steps : ℕ → List LiftingStep
synthesis_steps wavelet =
    slice_index_or
    (deslauriers_dubuc_9_7 ∷ legall_5_3 ∷ deslauriers_dubuc_13_7 ∷ haar ∷ haar ∷ fidelity ∷
    daubechies_9_7 ∷ [])
    wavelet []

-- the wavelets 3 and 5 have no shift after a level
abbrev pub is_shifted : ℕ → Bool
is_shifted wavelet =
    slice_index_or (true ∷ true ∷ true ∷ false ∷ true ∷ false ∷ true ∷ []) wavelet false

-- a line after steps, the first one first
unfoldable pub lifted_by : List LiftingStep → ℕ → Line → Line
lifted_by steps length x = fold (λ line s. lifted s length line) x steps

-- analysis makes the steps in the opposite order with the opposite signs
abbrev pub opposite : LiftingStep → LiftingStep
opposite s = record s { adds = not s.adds }

abbrev pub analysis_steps : ℕ → List LiftingStep
analysis_steps wavelet = map opposite (reverse (synthesis_steps wavelet))

unfoldable pub synthesised : ℕ → ℕ → Line → Line
synthesised wavelet length x = lifted_by (synthesis_steps wavelet) length x

unfoldable pub analysed : ℕ → ℕ → Line → Line
analysed wavelet length x = lifted_by (analysis_steps wavelet) length x

-- ---- what is promised of them

-- What is made of lines of each length raises a bound on their magnitudes at most so many times.
abbrev pub GrowsAtMost : ℕ → (ℕ → Line → Line) → Type 0
GrowsAtMost times make =
    (size m : ℕ) (x : Line) → size % 2 ≡ 0 → 2 ^ 16 ≤ m →
    ((k : ℕ) → k < size → unsigned_abs (x k) < m) →
    (k : ℕ) → k < size → unsigned_abs (make size x k) < times * m

-- what is made of a line depends on its own samples alone
abbrev pub IsLocal : (ℕ → Line → Line) → Type 0
IsLocal make =
    (size : ℕ) (x y : Line) → size % 2 ≡ 0 → ((k : ℕ) → k < size → x k ≡ y k) →
    (k : ℕ) → k < size → make size x k ≡ make size y k
