-- The answers to a run's slices, kept in the list of all pictures.
use Rattle.std.proofs.Common.{◌≡◌, ℕ, ◌+◌, ◌<◌, ◌≤◌, Bool, true, false, List, [], ◌∷◌, ◌++◌, length, Option, Some, None, refl, sym, ap, subst, ◌∙◌, arith, cond, get_or, set, length-set, get_or-set_same, get_or-set_other, eqb, eq-eqb}
use Rattle.std.specs.Prelude.{is_some, map, nat_lt, not, position, slice_set}
use Rattle.std.specs.Option.{option_and_then}
use Rattle.std.specs.List.{position_or_len}
use Rattle.std.proofs.lemmas.Bool.{lt-ltb}
use Rattle.std.proofs.lemmas.List.{length-append, set-get_or, set-set}
use Rattle.std.proofs.lemmas.List.Folds.{position_or_len_push}
use Rattle.std.proofs.lemmas.List.Sums.{prefix_len-le-length}
use Rattle.machine_model.specs.Places.{Answered, own_answer}
use Rattle.receiver_model.specs.Receptions.{Decoding, PictureAnswers, answer_at, answers_at, answers_with, kept_answer, keeps_answer, keeps_new, no_answers, takes_new}
use Rattle.receiver_model.proofs.KeptAnswers.{none_at}
use Rattle.link_pictures.specs.SeenAnswers.{is_of_number, with_picture}
use Rattle.link_slices.specs.Jobs.{answered_run, job_in_run, jobs_from, made_run}
use Rattle.link_slices.proofs.RunAnswers.{answers_are_own}
use Rattle.vc_slice.specs.declared.run.RunDone.{RunDone}
use Rattle.vc_slice.specs.declared.run.RunJob.{RunJob}
use Rattle.link_pictures.proofs.PictureLists.{StandsAt, found_there, keeps_first, keeps_there, not_there, stands}
use Rattle.vc_types.specs.SameValues.{same_parameters}
use Rattle.vc_types.specs.TransformParameters.{Parameters, parameters_of}

-- all of them are of this picture
abbrev pub AreOfPicture : ℕ → List Answered → Type 0
AreOfPicture n [] = Unit {0}
AreOfPicture n (done ∷ dones) = (done.job.number ≡ n) × AreOfPicture n dones

-- one answer, if its slice has none: of a picture, and of all pictures
abbrev takes_one : PictureAnswers → Answered → PictureAnswers
takes_one a done = cond (is_some (answer_at a.slices done.job.index)) a (answers_with a done)

abbrev keeps_one : List PictureAnswers → Answered → List PictureAnswers
keeps_one pictures done = cond (is_some (kept_answer pictures done.job.number done.job.index)) pictures (keeps_answer pictures done)

same_number : (a : PictureAnswers) (done : Answered) → (takes_one a done).number ≡ a.number
same_number a done = by_test (is_some (answer_at a.slices done.job.index)) (same_parameters a.parameters done.job.plan)
  where
    by_test : (had own : Bool) → (cond had a (cond own (record a { slices = slice_set a.slices done.job.index (Some done.answer) }) a)).number ≡ a.number
    by_test true own = refl
    by_test false true = refl
    by_test false false = refl

-- ---- a picture that stands in the list

module _ (n : ℕ) where
  stands_still : (pictures : List PictureAnswers) (place : ℕ) (d x : PictureAnswers) → StandsAt n pictures place d → x.number ≡ (get_or pictures place d).number → StandsAt n (set pictures place x) place d
  stands_still pictures place d x at same = record {
    within = (let long = length-set pictures place x in omega (arith, long, at.within));
    here = ap (λ (a : PictureAnswers). is_of_number n a) (get_or-set_same pictures place x d at.within) ∙ ap (λ (k : ℕ). eqb k n) same ∙ at.here;
    before = λ k h. ap (λ (a : PictureAnswers). is_of_number n a) (get_or-set_other pictures place k x d (λ e. omega (arith, h, e))) ∙ at.before k h;
  }

  one_kept : (done : Answered) → done.job.number ≡ n → (pictures : List PictureAnswers) (place : ℕ) (d : PictureAnswers) → StandsAt n pictures place d
      → set pictures place (takes_one (get_or pictures place d) done) ≡ keeps_one pictures done
  one_kept done own pictures place d at =
      by_test (is_some (answer_at (get_or pictures place d).slices done.job.index))
      ∙ ap (λ (o : Option Decoding). cond (is_some o) pictures (keeps_answer pictures done)) (sym there)
    where
      there : kept_answer pictures done.job.number done.job.index ≡ answer_at (get_or pictures place d).slices done.job.index
      there = ap (λ (k : ℕ). kept_answer pictures k done.job.index) own ∙ ap (option_and_then (λ (x : PictureAnswers). answer_at x.slices done.job.index)) (found_there n pictures place d at)

      by_test : (had : Bool) → set pictures place (cond had (get_or pictures place d) (answers_with (get_or pictures place d) done)) ≡ cond had pictures (keeps_answer pictures done)
      by_test true = set-get_or pictures place d
      by_test false = keeps_there n done own pictures place d at

  keeps_run : (dones : List Answered) (pictures : List PictureAnswers) (place : ℕ) (d : PictureAnswers) → StandsAt n pictures place d → AreOfPicture n dones
      → set pictures place (takes_new (get_or pictures place d) dones) ≡ keeps_new pictures dones
  keeps_run [] pictures place d at own = set-get_or pictures place d
  keeps_run (done ∷ dones) pictures place d at own =
      let x : PictureAnswers = takes_one (get_or pictures place d) done in
      let now : List PictureAnswers = set pictures place x in
      sym (set-set pictures place x (takes_new x dones))
      ∙ ap (λ (y : PictureAnswers). set now place (takes_new y dones)) (sym (get_or-set_same pictures place x d at.within))
      ∙ keeps_run dones now place d (stands_still pictures place d x at (same_number (get_or pictures place d) done)) own.1
      ∙ ap (λ (l : List PictureAnswers). keeps_new l dones) (one_kept done own.0 pictures place d at)

-- ---- a place for a picture

not_below : (n m : ℕ) → ◌≡◌ {A = Option ℕ} (cond (nat_lt n m) (Some n) None) None → m ≤ n
not_below n m none = grind arith

first_pushed : {X : Type 0} (f : X → Bool) (xs : List X) (y : X) → position f xs ≡ None → f y ≡ true → position f (xs ++ y ∷ []) ≡ Some (length xs)
first_pushed {X} f xs y none passes =
    let most = prefix_len-le-length (λ (x : X). not (f x)) xs in
    let all : position_or_len f xs ≡ length xs = omega (arith, most, not_below (position_or_len f xs) (length xs) none) in
    let at : position_or_len f (xs ++ y ∷ []) ≡ length xs =
    position_or_len_push f xs y
    ∙ ap (λ (b : Bool). cond b (length xs + cond (f y) 0 1) (position_or_len f xs)) (eq-eqb (position_or_len f xs) (length xs) all)
    ∙ ap (λ (b : Bool). length xs + cond b 0 1) passes ∙ omega arith in
    ap (λ (n : ℕ). cond (nat_lt n (length (xs ++ y ∷ []))) (Some n) None) at
    ∙ ap (λ (b : Bool). cond b (Some (length xs)) None) (lt-ltb (length xs) (length (xs ++ y ∷ [])) (omega (arith, length-append xs (y ∷ []))))

module _ (n : ℕ) (p : Parameters) (pictures : List PictureAnswers) where
  abbrev with_new : Option PictureAnswers → List PictureAnswers
  with_new found = cond (is_some found) pictures (pictures ++ no_answers n p ∷ [])

  pub picture-there : (place : ℕ) → position (is_of_number n) pictures ≡ Some place → pictures ≡ with_picture pictures n p
  picture-there place found =
      let d : PictureAnswers = no_answers n p in
      ap with_new (sym (found_there n pictures place d (stands n pictures place d found)))

  module _ (none : position (is_of_number n) pictures ≡ None) where
    pub picture-new : pictures ++ no_answers n p ∷ [] ≡ with_picture pictures n p
    picture-new = ap with_new (sym (not_there n pictures none))

    pub place-new : position (is_of_number n) (pictures ++ no_answers n p ∷ []) ≡ Some (length pictures)
    place-new = first_pushed (is_of_number n) pictures (no_answers n p) none (eq-eqb n n refl)

-- ---- an answer to a picture that is new

-- to a list with an empty picture of its number at the end
filled : (done : Answered) (pictures : List PictureAnswers) → answers_at pictures done.job.number ≡ None
    → (kept_answer (pictures ++ no_answers done.job.number done.job.plan ∷ []) done.job.number done.job.index ≡ None)
    × (keeps_answer (pictures ++ no_answers done.job.number done.job.plan ∷ []) done ≡ pictures ++ answers_with (no_answers done.job.number done.job.plan) done ∷ [])
filled done [] none = grind (arith, none_at, eq-eqb)
filled done (a ∷ rest) none = grind (arith, filled done rest)

begins : (pictures : List PictureAnswers) (done : Answered) (more : List Answered)
    → keeps_new (with_picture pictures done.job.number done.job.plan) (done ∷ more) ≡ keeps_new pictures (done ∷ more)
begins pictures done more = by_place (position (is_of_number done.job.number) pictures) refl
  where
    by_place : (o : Option ℕ) → position (is_of_number done.job.number) pictures ≡ o
        → keeps_new (with_picture pictures done.job.number done.job.plan) (done ∷ more) ≡ keeps_new pictures (done ∷ more)
    by_place (Some place) found = ap (λ (l : List PictureAnswers). keeps_new l (done ∷ more)) (sym (picture-there done.job.number done.job.plan pictures place found))
    by_place None none =
        let all : List PictureAnswers = pictures ++ no_answers done.job.number done.job.plan ∷ [] in
        let new = filled done pictures (not_there done.job.number pictures none) in
        ap (λ (l : List PictureAnswers). keeps_new l (done ∷ more)) (sym (picture-new done.job.number done.job.plan pictures none))
        ∙ ap (λ (o : Option Decoding). keeps_new (cond (is_some o) all (keeps_answer all done)) more) new.0
        ∙ ap (λ (l : List PictureAnswers). keeps_new l more) (new.1 ∙ keeps_first done.job.number pictures none done refl)
        ∙ sym (ap (λ (o : Option PictureAnswers). keeps_new (cond (is_some (option_and_then (λ (a : PictureAnswers). answer_at a.slices done.job.index) o)) pictures (keeps_answer pictures done)) more) (not_there done.job.number pictures none))

-- ---- the slices of a run

-- there is one, and all are of this picture, the first by these parameters
abbrev pub BeginPicture : ℕ → Parameters → List Answered → Type 0
BeginPicture n p [] = ⊥
BeginPicture n p (done ∷ dones) = (done.job.number ≡ n) × (done.job.plan ≡ p) × AreOfPicture n dones

pub one-begins : (run : RunJob) (k : ℕ) → BeginPicture run.number (parameters_of run.plan) (own_answer (job_in_run run k) ∷ [])
one-begins run k = (refl, refl, tt)

module _ (p : Parameters) (n : ℕ) where
  of_picture : (first : ℕ) (slices : List (List ℕ)) → AreOfPicture n (map own_answer (jobs_from p n first slices))
  of_picture first [] = tt
  of_picture first (bytes ∷ slices) = (refl, of_picture (first + 1) slices)

  slices_begin : (first : ℕ) (slices : List (List ℕ)) → 0 < length slices → BeginPicture n p (map own_answer (jobs_from p n first slices))
  slices_begin first [] some = absurd (omega (arith, some))
  slices_begin first (bytes ∷ slices) some = (refl, refl, of_picture (first + 1) slices)

run-begins : (run : RunJob) → BeginPicture run.number (parameters_of run.plan) (made_run run)
run-begins run = slices_begin (parameters_of run.plan) run.number run.first run.slices.items run.some

pub done-begins : (done : RunDone) → BeginPicture done.job.number (parameters_of done.job.plan) (answered_run done)
done-begins done = subst (BeginPicture done.job.number (parameters_of done.job.plan)) (answers_are_own done) (run-begins done.job)

module _ (answers pictures : List PictureAnswers) (n : ℕ) (p : Parameters) (is : pictures ≡ with_picture answers n p) (place : ℕ) (found : position (is_of_number n) pictures ≡ Some place) where
  -- kept in their own picture, which may be new
  pub kept-there : (dones : List Answered) → BeginPicture n p dones → (d : PictureAnswers) → set pictures place (takes_new (get_or pictures place d) dones) ≡ keeps_new answers dones
  kept-there [] none d = absurd none
  kept-there (done ∷ dones) begin d =
      let same : pictures ≡ with_picture answers done.job.number done.job.plan = is ∙ ap (λ (k : ℕ). with_picture answers k p) (sym begin.0) ∙ ap (with_picture answers done.job.number) (sym begin.1) in
      keeps_run n (done ∷ dones) pictures place d (stands n pictures place d found) (begin.0, begin.2)
      ∙ ap (λ (l : List PictureAnswers). keeps_new l (done ∷ dones)) same
      ∙ begins answers done dones
