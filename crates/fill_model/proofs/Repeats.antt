-- A frame that is written behind another, and bytes that are written several times.
use Rattle.std.proofs.Common.{◌≡◌, ℕ, zero, suc, ◌<◌, ◌≤◌, true, false, refl, ap, sym, ◌∙◌, arith}
use Rattle.std.proofs.Common.{List, [], ◌++◌, Option, Some, None, inl, inr, subst, append-nil}
use Rattle.std.specs.Prelude.{◌⊎◌, is_some}
use Rattle.std.proofs.lemmas.Bool.{false≢true, cases_lt}
use Rattle.std.proofs.lemmas.List.{append_assoc}
use Rattle.link_model.specs.Output.{raw_bytes}
use Rattle.vc_types.specs.Planes.{Planes}
use Rattle.vc_types.specs.SequenceHeader.{Sequence}
use Rattle.fill_model.specs.Filled.{WrittenFrame, again, repeated, filled_behind, last_frame}
use Rattle.fill_model.specs.FilledSessions.{frame_number, written_frame}

pub repeated_none : (bytes : List ℕ) → repeated 0 bytes ≡ []
unfolding repeated
repeated_none bytes = refl

pub repeated_on : (times : ℕ) (bytes : List ℕ)
    → repeated (suc times) bytes ≡ repeated times bytes ++ bytes
unfolding repeated
repeated_on times bytes = refl

-- fewer times, and then the rest
pub repeated_part : (bytes : List ℕ) (few times : ℕ) → few < times → (rest : List ℕ)
    × (repeated times bytes ≡ repeated few bytes ++ (bytes ++ rest))
repeated_part bytes few zero less = absurd (omega (arith, less))
repeated_part bytes few (suc times) less =
    by_last (cases_lt few times) (λ sooner. repeated_part bytes few times sooner)
  where
    by_last : (few < times) ⊎ (times ≤ few) → (few < times → (rest : List ℕ)
        × (repeated times bytes ≡ repeated few bytes ++ (bytes ++ rest))) → (rest : List ℕ)
        × (repeated (suc times) bytes ≡ repeated few bytes ++ (bytes ++ rest))
    by_last (inl sooner) earlier =
        let before = earlier sooner in (
          before.0 ++ bytes,
          repeated_on times bytes
              ∙ ap (λ (l : List ℕ). l ++ bytes) before.1
              ∙ append_assoc (repeated few bytes) (bytes ++ before.0) bytes
              ∙ ap (λ (l : List ℕ). repeated few bytes ++ l) (append_assoc bytes before.0 bytes),
        )
    by_last (inr here) earlier =
        let same : few ≡ times = omega (arith, less, here) in (
          [],
          repeated_on times bytes
              ∙ ap (λ (k : ℕ). repeated k bytes ++ bytes) (sym same)
              ∙ ap (λ (l : List ℕ). repeated few bytes ++ l) (sym (append-nil bytes)),
        )

-- ---- a frame

abbrev pub frame_with : Sequence → ℕ → List ℕ → WrittenFrame
frame_with s n bytes = record { number = frame_number s n; bytes = bytes }

module _ (before : Option WrittenFrame) (s : Sequence) (n : ℕ) where
  pub filled_one : (frame : Option Planes) (bytes : List ℕ) → is_some frame ≡ true
      → bytes ≡ raw_bytes s frame → filled_behind before (written_frame s n frame)
      ≡ again before (frame_with s n bytes) ++ bytes
  unfolding filled_behind
  filled_one None bytes there is = absurd (false≢true there)
  filled_one (Some planes) bytes there is =
      append-nil (again before (frame_with s n (raw_bytes s (Some planes))) ++ raw_bytes s (Some planes))
      ∙ ap (λ (l : List ℕ). again before (frame_with s n l) ++ l) (sym is)

  pub last_one : (frame : Option Planes) (bytes : List ℕ) → is_some frame ≡ true
      → bytes ≡ raw_bytes s frame → last_frame before (written_frame s n frame)
      ≡ Some (frame_with s n bytes)
  unfolding last_frame
  last_one None bytes there is = absurd (false≢true there)
  last_one (Some planes) bytes there is = ap (λ (l : List ℕ). Some (frame_with s n l)) (sym is)

  pub filled_nothing : (frame : Option Planes) → is_some frame ≡ false
      → filled_behind before (written_frame s n frame) ≡ []
  unfolding filled_behind
  filled_nothing None there = refl
  filled_nothing (Some planes) there = absurd (false≢true (sym there))

  pub last_nothing : (frame : Option Planes) → is_some frame ≡ false
      → last_frame before (written_frame s n frame) ≡ before
  unfolding last_frame
  last_nothing None there = refl
  last_nothing (Some planes) there = absurd (false≢true (sym there))
