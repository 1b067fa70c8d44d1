-- Where no generated frame is refused, checking comes to its end, unless memory runs out.
use Rattle.std.proofs.Common.{◌≡◌, ◌⊎◌, ℕ, List, [], ◌∷◌, ◌++◌, All, Option, None, Ok, Err, inl, inr, refl, sym, subst, ◌∙◌}
use Rattle.std.specs.Prelude.{Result}
use Rattle.std.specs.Result.{IsOk}
use Rattle.std.proofs.lemmas.List.Elements.{All-head, All-tail}
use Rattle.cmd_gen.specs.Checking.{CheckEnded, Checks, HasLargeSlice, IsCheckable}
use Rattle.cmd_send.specs.FramesSent.{frame_fault}
use Rattle.cmd_gen.specs.Defaults.{sent_by_default}
use Rattle.link_report.specs.declared.ending.Ending.{Ending}
use Rattle.link_report.specs.declared.ending.Ending.TheVariants as endings
use Rattle.link_report.specs.declared.summary.Summary.{Summary}
use Rattle.vc_ports.specs.Changes.{Change}
use Rattle.vc_slice.specs.Asked.{Told}
use Rattle.vc_types.specs.Planes.{Planes}
use Rattle.vc_types.specs.SenderSettings.{Generating}

-- what holds of all holds of one in the middle
in_middle : (P : Planes → Type 0) (others more : List Planes) (frame : Planes) → All P (others ++ frame ∷ more) → P frame
in_middle P [] more frame all = All-head P frame more all
in_middle P (first ∷ others) more frame all = in_middle P others more frame (All-tail P first (others ++ frame ∷ more) all)

no_large_slice : (g : Generating) (slice bytes : ℕ) → IsCheckable g → HasLargeSlice g slice bytes → ⊥
no_large_slice g slice bytes checkable large =
    let P = λ (frame : Planes). frame_fault (sent_by_default g.frames) frame ≡ None in
    cc (sym (in_middle P large.others large.more large.frame (subst (All P) large.frames_are checkable)) ∙ large.refused)

module _ (g : Generating) (window workers : ℕ) (hands : Change (Option Told)) (checkable : IsCheckable g) where
  abbrev Came : Result Summary Ending → Type 0
  Came answer = IsOk answer ⊎ (answer ≡ Err endings.NoMemory)

  by_ending : (ending : Ending) → CheckEnded g window (Err ending) → Came (Err ending)
  by_ending endings.NoMemory ended = inr refl
  by_ending (endings.SliceTooLarge slice bytes) ended = absurd (no_large_slice g slice bytes checkable ended)
  by_ending ending ended = absurd ended

  pub check_completes : (answer : Result Summary Ending) → Checks g window workers answer hands → IsOk answer ⊎ (answer ≡ Err endings.NoMemory)
  check_completes (Ok summary) c = inl refl
  check_completes (Err ending) c = by_ending ending c.ended
