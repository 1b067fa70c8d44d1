-- What a chooser answers.
use Rattle.std.specs.Prelude.{◌≡◌, ℕ}
use Rattle.std.specs.Borrow.{Bor}
use Rattle.std.specs.Fn.{Shared}
use Rattle.link_model.specs.SendingPictures.{Need, chosen_index}
use Rattle.picture_encode.specs.declared.chooser.Chooser.{Chooser}
use Rattle.picture_encode.specs.Choosing.{AnswersBy}
use Rattle.vc_types.specs.SenderSettings.{Sending}
use Rattle.vc_types.specs.declared.need.SliceNeed.{SliceNeed}

-- what is answered on a need
abbrev pub Answers :
    {F : Type 0} → Shared F (Bor SliceNeed × Unit {0}) ℕ → Sending → Chooser F → Need → ℕ → Type 0
Answers calls s chooser = AnswersBy calls s chooser.choose chooser.by

-- it answers as the settings of a sender choose
abbrev pub ChoosesAs : {F : Type 0} → Shared F (Bor SliceNeed × Unit {0}) ℕ → Chooser F → Sending
    → Type 0
ChoosesAs calls chooser s =
    (need : Need) (index : ℕ) → Answers calls s chooser need index → index ≡ chosen_index s need
