-- What is known of a function that chooses quantisation indices.
use Rattle.std.specs.Prelude.{◌≡◌, ℕ, ◌≤◌, Option, None, Some}
use Rattle.std.specs.Borrow.{Bor}
use Rattle.std.specs.Fn.{Shared, FnReturnsAt}
use Rattle.link_model.specs.SendingPictures.{Need, chosen_by, sent_parameters}
use Rattle.vc_types.specs.Subbands.{slice_count}
use Rattle.vc_types.specs.declared.choice.IndexChoice.{IndexChoice}
use Rattle.vc_types.specs.SenderSettings.{Sending}
use Rattle.vc_types.specs.declared.need.SliceNeed.{SliceNeed}

abbrev pub need_view : SliceNeed → Need
need_view n = record { slice = n.index; room = n.room; lengths = n.lens.items }

-- each index that it answers is at most 127
abbrev pub AnswersAtMost127 : {F : Type 0} → Shared F (Bor SliceNeed × Unit {0}) ℕ → F → Type 0
AnswersAtMost127 calls f =
    (told : SliceNeed) (index : ℕ) → FnReturnsAt calls f told index → index ≤ 127

-- it answers this index where it is told this of a slice
abbrev pub AnswersNeed :
    {F : Type 0} → Shared F (Bor SliceNeed × Unit {0}) ℕ → F → Need → ℕ → Type 0
AnswersNeed calls f need index =
    (told : SliceNeed) × (need_view told ≡ need) × FnReturnsAt calls f told index

-- what is answered on a need: by the function where there is no choice, and else as that says
abbrev pub AnswersBy : {F : Type 0} → Shared F (Bor SliceNeed × Unit {0}) ℕ → Sending → F
    → Option IndexChoice → Need → ℕ → Type 0
AnswersBy calls s f None need index = AnswersNeed calls f need index
AnswersBy calls s f (Some choice) need index =
    index ≡ chosen_by (slice_count (sent_parameters s)) choice need
