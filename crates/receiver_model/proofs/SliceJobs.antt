-- The jobs of slices, by the book of a picture and by what the feeder heard, and answers of other
-- pictures.
use Rattle.std.proofs.Common.{◌≡◌, ℕ, ◌<◌, refl, ap, List, [], ◌∷◌, Option, Some, None, arith}
use Rattle.std.specs.Option.{option_and_then, option_map}
use Rattle.link_model.specs.Books.{book_of}
use Rattle.link_model.specs.Complete.{slice_numbers}
use Rattle.machine_model.specs.Feeders.{job_by, kept_job, picture_keeps, answer_in, SliceAnswer}
use Rattle.machine_model.specs.Feeding.{planes_by, sound_answers}
use Rattle.link_model.specs.Kept.{Own, own}
use Rattle.machine_model.specs.Places.{Job}
use Rattle.link_model.specs.Session.{Part, HeardSession}
use Rattle.link_model.proofs.Slots.{slot_inside, slot_outside, own_slice_inside}
use Rattle.vc_types.specs.Planes.{planes_of}
use Rattle.vc_types.specs.SequenceHeader.{Sequence}
use Rattle.vc_types.specs.Subbands.{slice_count}
use Rattle.receiver_model.specs.Exchanging.{book_job}

-- ---- answers of another picture

pub other_answer : (a : SliceAnswer) (decoded : List SliceAnswer) (m : ℕ) → (a.number ≡ m → ⊥)
    → (k : ℕ) → answer_in (a ∷ decoded) m k ≡ answer_in decoded m k
other_answer a decoded m other k = grind arith

module _ (decoded later : List SliceAnswer) (m : ℕ)
    (same : (k : ℕ) → answer_in later m k ≡ answer_in decoded m k) where
  same_sound : (is : List ℕ) → sound_answers later m is ≡ sound_answers decoded m is
  same_sound [] = refl
  same_sound (k ∷ is) = grind (arith, same_sound is)

  pub same_planes_by : (o : Option Own)
      → option_and_then (planes_by later m) o ≡ option_and_then (planes_by decoded m) o
  same_planes_by None = refl
  same_planes_by (Some kept) =
      ap (option_map (planes_of kept.plan.parameters)) (same_sound (slice_numbers kept))

-- ---- jobs

-- the job of a slice by its picture's book
pub book_job_is : (s : Sequence) (parts : List Part) (n i : ℕ)
    → book_job (book_of s parts) n i ≡ option_and_then (λ kept. job_by kept n i) (own s parts)
unfolding book_of
book_job_is s parts n i = grind (arith, own_slice_inside, slot_inside, slot_outside)

-- a job that is kept is of that slice, and in the plan
pub kept_job_is : (size : ℕ) (hs : List HeardSession) (n i : ℕ) (job : Job)
    → kept_job size hs n i ≡ Some job
    → (kept : Own) × (picture_keeps size hs n ≡ Some kept) × (job.plan ≡ kept.plan.parameters)
    × (i < slice_count kept.plan.parameters)
unfolding kept_job
kept_job_is size hs n i job is = grind (arith, own_slice_inside)
