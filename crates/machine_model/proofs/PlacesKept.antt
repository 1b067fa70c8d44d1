-- What holds of places and stays so: no slice stands in two of them, and each answer is its job's
-- own.
use Rattle.std.proofs.Common.{◌≡◌, ℕ, zero, suc, ◌+◌, Bool, true, false, List, [], ◌∷◌, ◌⊎◌}
use Rattle.std.proofs.Common.{refl, ap, sym, subst, inl, inr, cond, arith}
use Rattle.std.specs.Prelude.{◌==◌, slice_set, None}
use Rattle.std.proofs.lemmas.Bool.{false≢true}
use Rattle.machine_model.specs.Places.{Job, Content, Nothing, Offered, JobPlace, job_in, place_at}
use Rattle.machine_model.specs.Places.{has_slice, stands_in, with_content, puts_job, claimed_by}
use Rattle.machine_model.specs.Places.{claims_job, decoded_there, completes_job, frees_place, AreApart}
use Rattle.machine_model.specs.Places.{HasOwnAnswer, HaveOwnAnswers, unused_place, unused_places}

-- ---- one place is set

-- a place of a list in which one was set: it is that one, or it is as it was
pub at_set : (places : List JobPlace) (i j : ℕ) (x : JobPlace)
    → ((i ≡ j) × (place_at (slice_set places i x) j ≡ x))
    ⊎ (place_at (slice_set places i x) j ≡ place_at places j)
at_set [] i j x = inr refl
at_set (y ∷ places) zero zero x = inl (refl, refl)
at_set (y ∷ places) zero (suc j) x = inr refl
at_set (y ∷ places) (suc i) zero x = inr refl
at_set (y ∷ places) (suc i) (suc j) x = elim (at_set places i j x) [
  | inl here ↦ inl (ap suc here.0, here.1)
  | inr other ↦ inr other
]

module _ (places : List JobPlace) (i : ℕ) (x : JobPlace) where
  pub own_set : HaveOwnAnswers places → HasOwnAnswer x.content → HaveOwnAnswers (slice_set places i x)
  own_set own here j = grind (arith, at_set, here)

  pub apart_set : AreApart places
      → ((number index q : ℕ) → has_slice number index x ≡ true → has_slice number index (place_at places q) ≡ true → q ≡ i)
      → AreApart (slice_set places i x)
  apart_set apart alone number index p q = grind (arith, at_set)

-- ---- contents

module _ (places : List JobPlace) (i : ℕ) where
  here : JobPlace
  here = place_at places i

  -- the same job stands there, or none
  pub apart_with : (content : Content) → (job_in content ≡ job_in (place_at places i).content) ⊎ (job_in content ≡ None)
      → AreApart places → AreApart (with_content places i content)
  apart_with content jobs apart = grind (arith, apart_set)

claimed_job : (worker : ℕ) (content : Content) → job_in (claimed_by worker content) ≡ job_in content
claimed_job worker o = grind arith

decoded_job : (content : Content) → job_in (decoded_there content) ≡ job_in content
decoded_job o = grind arith

claimed_own : (worker : ℕ) (content : Content) → HasOwnAnswer content → HasOwnAnswer (claimed_by worker content)
claimed_own worker o own = grind arith

decoded_own : (content : Content) → HasOwnAnswer content → HasOwnAnswer (decoded_there content)
decoded_own o own = grind arith

-- ---- the steps

-- no place has the slice
pub nowhere : (places : List JobPlace) (number index q : ℕ) → stands_in places number index ≡ false → has_slice number index (place_at places q) ≡ false
nowhere [] number index q none = refl
nowhere (p ∷ places) number index q none = grind (arith, nowhere places number index)

module _ (places : List JobPlace) where
  pub puts_apart : (place : ℕ) (job : Job) → stands_in places job.number job.index ≡ false → AreApart places → AreApart (puts_job places place job)
  puts_apart place job none apart = grind (arith, apart_set, nowhere)

  pub puts_own : (place : ℕ) (job : Job) → HaveOwnAnswers places → HaveOwnAnswers (puts_job places place job)
  puts_own place job own = own_set places place (record { serial = (place_at places place).serial + 1; content = Offered job }) own tt

  pub claims_apart : (worker place : ℕ) → AreApart places → AreApart (claims_job places worker place)
  claims_apart worker place = apart_with places place (claimed_by worker (place_at places place).content) (inl (claimed_job worker (place_at places place).content))

  pub claims_own : (worker place : ℕ) → HaveOwnAnswers places → HaveOwnAnswers (claims_job places worker place)
  claims_own worker place own = own_set places place (record (place_at places place) { content = claimed_by worker (place_at places place).content }) own (claimed_own worker (place_at places place).content (own place))

  pub completes_apart : (place serial : ℕ) → AreApart places → AreApart (completes_job places place serial)
  completes_apart place serial apart = by_serial ((place_at places place).serial == serial)
    where
      by_serial : (b : Bool) → AreApart (cond b (with_content places place (decoded_there (place_at places place).content)) places)
      by_serial true = apart_with places place (decoded_there (place_at places place).content) (inl (decoded_job (place_at places place).content)) apart
      by_serial false = apart

  pub completes_own : (place serial : ℕ) → HaveOwnAnswers places → HaveOwnAnswers (completes_job places place serial)
  completes_own place serial own = grind (arith, decoded_own, own_set)

  pub frees_apart : (place : ℕ) → AreApart places → AreApart (frees_place places place)
  frees_apart place = apart_with places place Nothing (inr refl)

  pub frees_own : (place : ℕ) → HaveOwnAnswers places → HaveOwnAnswers (frees_place places place)
  frees_own place own = own_set places place (record (place_at places place) { content = Nothing }) own tt

-- ---- places that nothing was put into

pub unused_at : (n p : ℕ) → place_at (unused_places n) p ≡ unused_place
unused_at zero p = refl
unused_at (suc n) zero = refl
unused_at (suc n) (suc p) = unused_at n p

pub unused_apart : (n : ℕ) → AreApart (unused_places n)
unused_apart n number index p q f g = absurd (false≢true (subst (λ (x : JobPlace). has_slice number index x ≡ true) (unused_at n p) f))

pub unused_own : (n : ℕ) → HaveOwnAnswers (unused_places n)
unused_own n p = subst (λ (x : JobPlace). HasOwnAnswer x.content) (sym (unused_at n p)) tt
