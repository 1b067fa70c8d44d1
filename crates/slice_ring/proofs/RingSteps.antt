-- A ring stays one by each of its steps.
use Rattle.std.proofs.Common.{◌≡◌, ℕ, ◌+◌, ◌<◌, ◌^◌, Bool, true, false, cond, List, length}
use Rattle.std.proofs.Common.{Some, None, Result, Ok, Err, refl, ap, sym, subst, ◌∙◌, arith, inl, inr}
use Rattle.std.proofs.Common.{get_or, length-set}
use Rattle.std.specs.Prelude.{◌&&◌, ◌==◌, not, nat_lt, OnOk, OnErr, position, slice_set}
use Rattle.std.proofs.lemmas.Bool.{and_from, cases_lt, false≢true, lt-ltb}
use Rattle.std.proofs.lemmas.List.{get_or_past, get_or_read, set-get_or}
use Rattle.std.proofs.lemmas.List.Quantifiers.{position-Some}
use Rattle.machine_model.proofs.PlacesKept.{puts_apart, puts_own, claims_apart}
use Rattle.machine_model.proofs.PlacesKept.{claims_own, completes_apart, completes_own, frees_apart}
use Rattle.machine_model.proofs.PlacesKept.{frees_own}
use Rattle.machine_model.proofs.Positions.{position_none}
use Rattle.machine_model.proofs.SameJobs.{same_job}
use Rattle.machine_model.specs.Feeding.{is_same_job}
use Rattle.machine_model.specs.Places.{Job, Content, Nothing, Offered, Claimed, Decoded, JobPlace}
use Rattle.machine_model.specs.Places.{place_at, is_free, is_in, has_slice, may_put, stands_in}
use Rattle.machine_model.specs.Places.{puts_job, claims_job, claimed_by, completes_job, decoded_there}
use Rattle.machine_model.specs.Places.{frees_place, own_answer, unused_place}
use Rattle.machine_model.specs.Places.{with_content, AreApart, HaveOwnAnswers}
use Rattle.machine_model.specs.declared.place_state.PlaceState.TheVariants.{Waiting}
use Rattle.slice_ring.specs.Calls.{Completed, completing, completing_by, completing_job, IfStale}
use Rattle.slice_ring.specs.Calls.{stale}
use Rattle.slice_ring.specs.declared.answers.CompleteRefusal.{CompleteRefusal}
use Rattle.slice_ring.specs.declared.answers.CompleteRefusal.TheVariants.{Other}
use Rattle.link_slices.specs.Jobs.{job_of, answered}
use Rattle.slice_ring.specs.Rings.{IsRing}
use Rattle.vc_slice.specs.declared.done.SliceDone.{SliceDone}
use Rattle.vc_types.specs.Slices.{Coefficients}
use Rattle.vc_types.specs.declared.refusal.Unsound.{Unsound}

-- ---- put

module _ (places : List JobPlace) (place : ℕ) (free : position is_free places ≡ Some place) where
  pub free_inside : place < length places
  free_inside = (position-Some is_free places place unused_place free).0

  pub put_free : is_free (place_at places place) ≡ true
  put_free = (position-Some is_free places place unused_place free).1

module _ (places : List JobPlace) (job : Job) (nowhere : position (has_slice job.number job.index) places ≡ None) where
  nothing_stands : stands_in places job.number job.index ≡ false
  nothing_stands = position_none (has_slice job.number job.index) places nowhere

  pub put_legal : (place : ℕ) → position is_free places ≡ Some place → may_put places place && not (stands_in places job.number job.index) ≡ true
  put_legal place free = and_from (may_put places place) (not (stands_in places job.number job.index))
      (and_from (nat_lt place (length places)) (is_free (place_at places place)) (lt-ltb place (length places) (free_inside places place free)) (put_free places place free))
      (ap not nothing_stands)

module _ (places : List JobPlace) (place : ℕ) where
  pub waiting_inside : position (is_in Waiting) places ≡ Some place → place < length places
  waiting_inside found = (position-Some (is_in Waiting) places place unused_place found).0

  pub waiting_there : position (is_in Waiting) places ≡ Some place → is_in Waiting (place_at places place) ≡ true
  waiting_there found = (position-Some (is_in Waiting) places place unused_place found).1

  -- a place that is set as it was
  pub same_places : (new : JobPlace) → new ≡ place_at places place → slice_set places place new ≡ places
  same_places new same = ap (slice_set places place) same ∙ set-get_or places place unused_place

  -- a place that waits is there
  pub waiting_within : is_in Waiting (place_at places place) ≡ true → place < length places
  waiting_within waits = elim (cases_lt place (length places)) [
    | inl within ↦ within
    | inr past ↦ absurd (false≢true (sym (ap (is_in Waiting) (get_or_past places place unused_place past)) ∙ waits))
  ]

  -- what an index reads there, where it waits
  pub reads_waiting : (read : JobPlace) → is_in Waiting (place_at places place) ≡ true → read ≡ get_or places place read → read ≡ place_at places place
  reads_waiting read waits same = get_or_read _ _ _ (waiting_within waits) same unused_place

  -- a place that a worker claimed, or that is as it was
  pub claimed_there : {X E : Type 0} (r : Result X E) (worker : ℕ) (old new : JobPlace) → old ≡ place_at places place
      → OnOk r (new ≡ record old { content = claimed_by worker old.content }) → OnOk r (slice_set places place new ≡ claims_job places worker place)
  claimed_there (Ok x) worker old new read done = ap (slice_set places place) (done ∙ ap (λ (p : JobPlace). (let q : JobPlace = record p { content = claimed_by worker p.content } in q)) read)
  claimed_there (Err e) worker old new read done = tt

  pub kept_there : {X E : Type 0} (r : Result X E) (old new : JobPlace) → old ≡ place_at places place → OnErr r (new ≡ old) → OnErr r (slice_set places place new ≡ places)
  kept_there (Ok x) old new read kept = tt
  kept_there (Err e) old new read kept = same_places new (kept ∙ read)

pub place_is : (p : JobPlace) (serial : ℕ) (content : Content) → serial ≡ p.serial → p.content ≡ content → p ≡ record { serial = serial; content = content }
place_is p serial content number there = λ i. record { serial = (sym number) i; content = there i }

module _ (places : List JobPlace) (ring : IsRing places) where
  ring_with : (p : ℕ) (x : JobPlace) → AreApart (slice_set places p x) → HaveOwnAnswers (slice_set places p x) → IsRing (slice_set places p x)
  ring_with p x apart own = record { few = omega (arith, length-set places p x, ring.few); apart = apart; own = own }

  pub put_ring : (job : Job) (place : ℕ) → position (has_slice job.number job.index) places ≡ None → IsRing (puts_job places place job)
  put_ring job place nowhere = ring_with place (record { serial = (place_at places place).serial + 1; content = Offered job })
      (puts_apart places place job (nothing_stands places job nowhere) ring.apart) (puts_own places place job ring.own)

  pub put_ring_at : (job : Job) (place : ℕ) → stands_in places job.number job.index ≡ false → IsRing (puts_job places place job)
  put_ring_at job place nowhere = ring_with place (record { serial = (place_at places place).serial + 1; content = Offered job })
      (puts_apart places place job nowhere ring.apart) (puts_own places place job ring.own)

  -- ---- claim

  pub claim_ring : (worker place : ℕ) → IsRing (claims_job places worker place)
  claim_ring worker place = ring_with place (record (place_at places place) { content = claimed_by worker (place_at places place).content })
      (claims_apart places worker place ring.apart) (claims_own places worker place ring.own)

  pub claimed_ring : {X E : Type 0} (r : Result X E) (worker place : ℕ) (old new : JobPlace) → old ≡ place_at places place
      → OnOk r (new ≡ record old { content = claimed_by worker old.content }) → OnErr r (new ≡ old) → IsRing (slice_set places place new)
  claimed_ring (Ok x) worker place old new read done kept =
      subst (λ (p : JobPlace). IsRing (slice_set places place p)) (sym (done ∙ ap (λ (p : JobPlace). (let q : JobPlace = record p { content = claimed_by worker p.content } in q)) read)) (claim_ring worker place)
  claimed_ring (Err e) worker place old new read done kept = subst IsRing (sym (same_places places place new (kept ∙ read))) ring

  -- ---- take, withdraw, leave

  pub free_ring : (place : ℕ) → IsRing (frees_place places place)
  free_ring place = ring_with place (record (place_at places place) { content = Nothing }) (frees_apart places place ring.apart) (frees_own places place ring.own)

  -- a place that is left as it was
  pub same_ring : (place : ℕ) (new : JobPlace) → new ≡ place_at places place → IsRing (slice_set places place new)
  same_ring place new same = subst IsRing (sym (same_places places place new same)) ring

  pub freed_ring : {X E : Type 0} (r : Result X E) (place : ℕ) (old new : JobPlace) → old ≡ place_at places place
      → OnOk r (new ≡ record old { content = Nothing }) → OnErr r (new ≡ old) → IsRing (slice_set places place new)
  freed_ring (Ok x) place old new read done kept =
      subst (λ (p : JobPlace). IsRing (slice_set places place p)) (sym (done ∙ ap (λ (p : JobPlace). (let q : JobPlace = record p { content = Nothing } in q)) read)) (free_ring place)
  freed_ring (Err e) place old new read done kept = same_ring place new (kept ∙ read)

  -- ---- complete

  pub complete_ring : (place serial : ℕ) → IsRing (completes_job places place serial)
  complete_ring place serial = record {
    few = by_serial ((place_at places place).serial == serial);
    apart = completes_apart places place serial ring.apart;
    own = completes_own places place serial ring.own;
  }
    where
      by_serial : (b : Bool) → length (cond b (with_content places place (decoded_there (place_at places place).content)) places) < 2 ^ 32
      by_serial true = omega (arith, length-set places place (record (place_at places place) { content = decoded_there (place_at places place).content }), ring.few)
      by_serial false = ring.few

abbrev okay : Completed
okay = Ok tt

err_ok : {e : CompleteRefusal} → Err e ≡ okay → ⊥
err_ok h = cc

-- the job of what was decoded is the one that stands there
module _ (p : JobPlace) (given : ℕ) (done : SliceDone) where
  own_decoding : (job : Job) → job_of done.job ≡ job → Decoded (answered done) ≡ Decoded (own_answer job)
  own_decoding job same = ap (λ (answer : Result Coefficients Unsound). Decoded (record { job = job_of done.job; answer = answer })) done.decoded ∙ ap (λ (j : Job). Decoded (own_answer j)) same

  abbrev IsDone : Content → Type 0
  IsDone content = (p.serial == given ≡ true) × (Decoded (answered done) ≡ decoded_there content)

  pub completed : (content : Content) → completing_by p given done content ≡ Ok tt → IsDone content
  completed Nothing e = absurd (err_ok e)
  completed (Offered job) e = absurd (err_ok e)
  completed (Decoded d) e = absurd (err_ok e)
  completed (Claimed worker job) e = by_serial (p.serial == given) refl e
    where
      by_job : (b : Bool) → is_same_job (job_of done.job) job ≡ b → p.serial == given ≡ true → cond b (Ok tt) (Err (Other done)) ≡ okay → IsDone (Claimed worker job)
      by_job true is serial e = (serial, own_decoding job (same_job (job_of done.job) job is))
      by_job false is serial e = absurd (err_ok e)

      by_serial : (b : Bool) → p.serial == given ≡ b → cond b (completing_job done job) (stale p given done) ≡ okay → IsDone (Claimed worker job)
      by_serial true is e = by_job (is_same_job (job_of done.job) job) refl is e
      by_serial false is e = absurd (err_ok e)

-- ---- a completion

module _ (places : List JobPlace) (place given : ℕ) (done : SliceDone) where
  abbrev there : JobPlace
  there = place_at places place

  unchanged_there : decoded_there there.content ≡ there.content → completes_job places place given ≡ places
  unchanged_there same = by_serial (there.serial == given)
    where
      by_serial : (b : Bool) → cond b (with_content places place (decoded_there there.content)) places ≡ places
      by_serial true = same_places places place (record there { content = decoded_there there.content }) (ap (λ (content : Content). (let p : JobPlace = record there { content = content } in p)) same)
      by_serial false = refl

  -- a stale one changes nothing
  pub stale_same : IfStale (completing there given done) (completes_job places place given ≡ places)
  stale_same = by_content there.content refl
    where
      other : (content : Content) → there.content ≡ content → decoded_there content ≡ content → completes_job places place given ≡ places
      other content is same = unchanged_there (ap decoded_there is ∙ same ∙ sym is)

      by_job : (b : Bool) → IfStale (cond b (Ok tt) (Err (Other done))) (completes_job places place given ≡ places)
      by_job true = tt
      by_job false = tt

      by_serial : (b : Bool) (job : Job) → there.serial == given ≡ b → IfStale (cond b (completing_job done job) (stale there given done)) (completes_job places place given ≡ places)
      by_serial true job is = by_job (is_same_job (job_of done.job) job)
      by_serial false job is = ap (λ (b : Bool). cond b (with_content places place (decoded_there there.content)) places) is

      by_content : (content : Content) → there.content ≡ content → IfStale (completing_by there given done content) (completes_job places place given ≡ places)
      by_content Nothing is = other Nothing is refl
      by_content (Offered job) is = other (Offered job) is refl
      by_content (Decoded d) is = other (Decoded d) is refl
      by_content (Claimed worker job) is = by_serial (there.serial == given) job refl

  module _ (r : Completed) (old new : JobPlace) (read : old ≡ there) (answer : r ≡ completing old given done)
      (ok : OnOk r (new ≡ record old { content = Decoded (answered done) })) (err : OnErr r (new ≡ old)) where
    answer_there : r ≡ completing there given done
    answer_there = answer ∙ ap (λ (p : JobPlace). completing p given done) read

    pub complete_stale : IfStale r (completes_job places place given ≡ places)
    complete_stale = subst (λ (r : Completed). IfStale r (completes_job places place given ≡ places)) (sym answer_there) stale_same

    pub complete_done : OnOk r (slice_set places place new ≡ completes_job places place given)
    complete_done = by_answer r answer_there ok
      where
        by_answer : (r : Completed) → r ≡ completing there given done → OnOk r (new ≡ record old { content = Decoded (answered done) }) → OnOk r (slice_set places place new ≡ completes_job places place given)
        by_answer (Err e) is ok = tt
        by_answer (Ok x) is ok =
            let both = completed there given done there.content (sym is) in
            ap (slice_set places place) (ok ∙ ap (λ (p : JobPlace). (let q : JobPlace = record p { content = Decoded (answered done) } in q)) read ∙ ap (λ (content : Content). (let q : JobPlace = record there { content = content } in q)) both.1)
            ∙ sym (ap (λ (b : Bool). cond b (with_content places place (decoded_there there.content)) places) both.0)

    pub complete_same : OnErr r (slice_set places place new ≡ places)
    complete_same = by_answer r err
      where
        by_answer : (r : Completed) → OnErr r (new ≡ old) → OnErr r (slice_set places place new ≡ places)
        by_answer (Ok x) err = tt
        by_answer (Err e) err = same_places places place new (err ∙ read)

    pub completed_ring : IsRing places → IsRing (slice_set places place new)
    completed_ring ring = by_answer r complete_done complete_same
      where
        by_answer : (r : Completed) → OnOk r (slice_set places place new ≡ completes_job places place given) → OnErr r (slice_set places place new ≡ places) → IsRing (slice_set places place new)
        by_answer (Ok x) done same = subst IsRing (sym done) (complete_ring places ring place given)
        by_answer (Err e) done same = subst IsRing (sym same) ring

-- ---- a new ring
