-- The feeder's own way: each of its events is legal where it stands, and in the end nothing may be
-- released.
use Rattle.std.proofs.Common.{◌≡◌, ◌≢◌, ℕ, ◌<◌, ◌≤◌, Bool, true, false, cond, List, [], ◌∷◌, ◌++◌}
use Rattle.std.proofs.Common.{map, Option, Some, None, refl, ap, sym, subst, ◌∙◌, arith, eq-eqb}
use Rattle.std.proofs.Common.{ne_eqb}
use Rattle.std.specs.Prelude.{◌==◌, ◌&&◌, ◌||◌, not, is_some, slice_get, filter}
use Rattle.std.specs.List.{flat_map, list_all}
use Rattle.std.specs.Option.{option_map_or}
use Rattle.std.proofs.lemmas.Bool.{and_parts, and_from, false≢true, not-true}
use Rattle.std.proofs.lemmas.List.Sums.{fold-append}
use Rattle.link_model.specs.Complete.{has_all_slices, slice_numbers}
use Rattle.machine_model.specs.Feeders.{SliceAnswer, Feeder, EnteredSession, session_opening, keeps_of}
use Rattle.machine_model.specs.Feeders.{picture_keeps, kept_job, job_with, let_go_pictures, is_among}
use Rattle.machine_model.specs.Feeders.{not_released, next_to_release, answer_in, is_ready}
use Rattle.machine_model.specs.Feeding.{built_bytes, with_answer}
use Rattle.link_model.specs.Kept.{Own, own_slice}
use Rattle.machine_model.specs.Machine.{Event, Redo, Release, feeder_after, is_next, has_answers}
use Rattle.machine_model.specs.Machine.{is_legal_for_feeder}
use Rattle.machine_model.specs.Next.{unanswered, releasing, all_releasing, feeder_run, after_taking}
use Rattle.machine_model.specs.Next.{next_feeder, AreLegalForFeeder}
use Rattle.machine_model.specs.Places.{Job, Answered, own_answer, decoding}
use Rattle.link_model.specs.Session.{HeardSession, sessions_of}
use Rattle.vc_types.specs.Subbands.{slice_count}
use Rattle.machine_model.proofs.PicturesHeard.{let_go_rising}
use Rattle.machine_model.proofs.PicturesStay.{kept_slice, job_of_kept, each_and, some_after}
use Rattle.machine_model.proofs.RisingLists.{Each, IsRising, each_map, each_passes, each_filter}
use Rattle.machine_model.proofs.RisingLists.{filter_rising, range_rising}

-- ---- lists

each_if : (B : Type 0) (P : ℕ → Type 0) (xs : List ℕ) → (B → Each P xs) → Each (λ n. B → P n) xs
each_if B P [] all = tt
each_if B P (x ∷ xs) all = ((λ b. (all b).0), each_if B P xs (λ b. (all b).1))

all_each : (p : ℕ → Bool) (xs : List ℕ) → list_all p xs ≡ true → Each (λ n. p n ≡ true) xs
all_each p [] e = tt
all_each p (x ∷ xs) e = let both = and_parts (p x) (list_all p xs) e in (both.0, all_each p xs both.1)

each_all : (p : ℕ → Bool) (xs : List ℕ) → Each (λ n. p n ≡ true) xs → list_all p xs ≡ true
each_all p [] all = refl
each_all p (x ∷ xs) all = and_from (p x) (list_all p xs) all.0 (each_all p xs all.1)

-- what holds of those that pass and of those that don't holds of all
each_covered : (p : ℕ → Bool) (P : ℕ → Type 0) (xs : List ℕ) → Each P (filter p xs) → ((n : ℕ) → p n ≡ false → P n) → Each P xs
each_covered p P [] passed failed = tt
each_covered p P (x ∷ xs) passed failed = grind (arith, each_covered p P xs)

-- a number more is released
among_one_more : (xs : List ℕ) (n m : ℕ) → is_among (xs ++ n ∷ []) m ≡ is_among xs m || n == m
among_one_more [] n m = grind arith
among_one_more (x ∷ xs) n m = grind (arith, among_one_more xs n m)

not_released_more : (r : List ℕ) (n : ℕ) (xs : List ℕ) → not_released (r ++ n ∷ []) xs ≡ filter (λ m. not (n == m)) (not_released r xs)
not_released_more r n [] = refl
not_released_more r n (x ∷ xs) = grind (arith, among_one_more, not_released_more r n xs)

all_differ : (n : ℕ) (xs : List ℕ) → Each (λ m. n < m) xs → filter (λ m. not (n == m)) xs ≡ xs
all_differ n [] above = refl
all_differ n (x ∷ xs) above = grind (arith, all_differ n xs above.1)

first_goes : (n : ℕ) (more : List ℕ) → Each (λ m. n < m) more → filter (λ m. not (n == m)) (n ∷ more) ≡ more
first_goes n more above = ap (λ (b : Bool). cond (not b) (n ∷ filter (λ m. not (n == m)) more) (filter (λ m. not (n == m)) more)) (eq-eqb n n refl) ∙ all_differ n more above

-- ---- lists of events

module _ (window : ℕ) where
  legal_append : (xs ys : List Event) (f : Feeder) → AreLegalForFeeder window f xs → AreLegalForFeeder window (feeder_run window f xs) ys → AreLegalForFeeder window f (xs ++ ys)
  legal_append [] ys f a b = b
  legal_append (e ∷ xs) ys f a b = (a.0, legal_append xs ys (feeder_after window f e) a.1 b)

  run_append : (xs ys : List Event) (f : Feeder) → feeder_run window f (xs ++ ys) ≡ feeder_run window (feeder_run window f xs) ys
  run_append xs ys f = fold-append (feeder_after window) f xs ys

module _ (window : ℕ) (small : window ≤ 8) (heard : List (List ℕ)) (ended : Bool) where
  abbrev hs : List HeardSession
  hs = sessions_of heard

  abbrev gone : List ℕ
  gone = let_go_pictures window ended hs

  abbrev state : List SliceAnswer → List ℕ → List ℕ → Feeder
  state d r w = record { heard = heard; has_ended = ended; decoded = d; released = r; written = w }

  abbrev has : List SliceAnswer → ℕ → ℕ → Bool
  has d n i = is_some (answer_in d n i)

  -- ---- slices that are decoded once more

  abbrev answer_for : Job → SliceAnswer
  answer_for job = record { number = job.number; index = job.index; answer = decoding job }

  redo_is : (n i : ℕ) (job : Job) (d : List SliceAnswer) (r w : List ℕ) → kept_job window hs n i ≡ Some job → feeder_after window (state d r w) (Redo n i) ≡ state (answer_for job ∷ d) r w
  redo_is n i job d r w kept = ap (λ (o : Option Job). option_map_or (λ job. with_answer (state d r w) (own_answer job)) o (state d r w)) kept

  abbrev IsKept : ℕ → ℕ → Type 0
  IsKept n i = (job : Job) × (kept_job window hs n i ≡ Some job)

  pub record Redone (n : ℕ) (is : List ℕ) (d : List SliceAnswer) (r w : List ℕ) : Type 0 where
    pub legal : AreLegalForFeeder window (state d r w) (map (Redo n) is)
    pub later : List SliceAnswer
    pub after : feeder_run window (state d r w) (map (Redo n) is) ≡ state later r w
    pub got : Each (λ i. has later n i ≡ true) is
    pub stays : (m i : ℕ) → has d m i ≡ true → has later m i ≡ true
    pub others : (m i : ℕ) → m ≢ n → has later m i ≡ has d m i

  module _ (n i : ℕ) (job : Job) (d : List SliceAnswer) (number : job.number ≡ n) (index : job.index ≡ i) where
    here_now : has (answer_for job ∷ d) n i ≡ true
    here_now = ap (λ (b : Bool). is_some (cond b (Some (decoding job)) (answer_in d n i))) (and_from (job.number == n) (job.index == i) (eq-eqb job.number n number) (eq-eqb job.index i index))

    others_now : (m j : ℕ) → m ≢ n → has (answer_for job ∷ d) m j ≡ has d m j
    others_now m j ne = ap (λ (b : Bool). is_some (cond (b && job.index == j) (Some (decoding job)) (answer_in d m j))) (ne_eqb job.number m (λ same. ne (sym same ∙ number)))

    later_now : (j : ℕ) → i < j → has (answer_for job ∷ d) n j ≡ has d n j
    later_now j less = grind arith

    stays_now : (m j : ℕ) → has d m j ≡ true → has (answer_for job ∷ d) m j ≡ true
    stays_now m j e = grind arith

  redo_all : (n : ℕ) (is : List ℕ) (d : List SliceAnswer) (r w : List ℕ) → IsRising is → Each (λ i. IsKept n i × (has d n i ≡ false)) is → Redone n is d r w
  redo_all n [] d r w rising facts = record { legal = tt; later = d; after = refl; got = tt; stays = λ m i e. e; others = λ m i ne. refl }
  redo_all n (i ∷ is) d r w rising facts =
      let job = facts.0.0.0 in
      let kept = facts.0.0.1 in
      let slice = kept_slice window hs n i job kept in
      let number : job.number ≡ n = sym (ap (λ (j : Job). j.number) slice.is) in
      let index : job.index ≡ i = sym (ap (λ (j : Job). j.index) slice.is) in
      let rest = redo_all n is (answer_for job ∷ d) r w rising.1
      (each_map (λ j both. (both.0.0, later_now n i job d number index j both.1 ∙ both.0.1)) is (each_and (λ j. IsKept n j × (has d n j ≡ false)) (λ j. i < j) is facts.1 rising.0)) in
      record {
        legal = (
          and_from (is_some (kept_job window hs n i)) (not (has d n i)) (ap is_some kept) (ap not facts.0.1),
          subst (λ (f : Feeder). AreLegalForFeeder window f (map (Redo n) is)) (sym (redo_is n i job d r w kept)) rest.legal,
        );
        later = rest.later;
        after = ap (λ (f : Feeder). feeder_run window f (map (Redo n) is)) (redo_is n i job d r w kept) ∙ rest.after;
        got = (rest.stays n i (here_now n i job d number index), rest.got);
        stays = λ m j e. rest.stays m j (stays_now n i job d number index m j e);
        others = λ m j ne. rest.others m j ne ∙ others_now n i job d number index m j ne;
      }

  -- ---- one picture

  module _ (D : List SliceAnswer) (R W : List ℕ) where
    abbrev todo : ℕ → Option Own → List ℕ
    todo n o = unanswered (state D R W) n o

    todo_rising : (n : ℕ) (o : Option Own) → IsRising (todo n o)
    todo_rising n None = tt
    todo_rising n (Some kept) = filter_rising (λ i. has_all_slices kept && not (has D n i)) (slice_numbers kept) (range_rising 0 (slice_count kept.plan.parameters))

    todo_facts : (n : ℕ) (o : Option Own) → picture_keeps window hs n ≡ o → Each (λ i. IsKept n i × (has D n i ≡ false)) (todo n o)
    unfolding has_all_slices
    todo_facts n None is = tt
    todo_facts n (Some kept) is =
        let test : ℕ → Bool = λ i. has_all_slices kept && not (has D n i) in
        each_map (λ i both. (let passed = and_parts (has_all_slices kept) (not (has D n i)) both.0 in
        (is_kept_now i (own_slice kept i) refl (both.1 passed.0), not-true (has D n i) passed.1)))
        (filter test (slice_numbers kept))
        (each_and (λ i. test i ≡ true) (λ i. has_all_slices kept ≡ true → is_some (own_slice kept i) ≡ true) (filter test (slice_numbers kept))
        (each_passes test (slice_numbers kept))
        (each_filter (λ i. has_all_slices kept ≡ true → is_some (own_slice kept i) ≡ true) test (slice_numbers kept)
        (each_if (has_all_slices kept ≡ true) (λ i. is_some (own_slice kept i) ≡ true) (slice_numbers kept) (λ all. all_each (λ i. is_some (own_slice kept i)) (slice_numbers kept) all))))
      where
        is_kept_now : (i : ℕ) (o : Option (List ℕ)) → own_slice kept i ≡ o → is_some o ≡ true → IsKept n i
        is_kept_now i None slice e = absurd (false≢true e)
        is_kept_now i (Some bytes) slice e =
            let session = some_after (λ (e : EnteredSession). keeps_of e n) (session_opening window hs n) kept is in
            (job_with kept n i bytes, job_of_kept window hs n i session.0 kept bytes session.1 session.2 slice)

    ready_then : (n : ℕ) (d : List SliceAnswer) (o : Option Own) → Each (λ i. has d n i ≡ true) (todo n o) → ((i : ℕ) → has D n i ≡ true → has d n i ≡ true) → is_ready d n o ≡ true
    ready_then n d o got stays = grind (arith, each_all, each_covered)

    -- ---- all pictures

    abbrev Same : List SliceAnswer → ℕ → Type 0
    Same d n = (i : ℕ) → has d n i ≡ has D n i

    abbrev Goes : List SliceAnswer → List ℕ → List ℕ → List ℕ → Type 0
    Goes d r w ns = AreLegalForFeeder window (state d r w) (flat_map (releasing window (state D R W)) ns)
        × (next_to_release window (feeder_run window (state d r w) (flat_map (releasing window (state D R W)) ns)) ≡ None)

    goes : (ns : List ℕ) (d : List SliceAnswer) (r w : List ℕ) → not_released r gone ≡ ns → IsRising ns → Each (Same d) ns → Goes d r w ns
    goes [] d r w left rising same = (tt, ap (λ (l : List ℕ). slice_get l 0) left)
    goes (n ∷ ns) d r w left rising same =
        let keeps = picture_keeps window hs n in
        let is = todo n keeps in
        let redone = redo_all n is d r w (todo_rising n keeps) (each_map (λ i both. (both.0, same.0 i ∙ both.1)) is (todo_facts n keeps refl)) in
        let ready : is_ready redone.later n keeps ≡ true = ready_then n redone.later keeps redone.got (λ i e. redone.stays n i (same.0 i ∙ e)) in
        let more : List ℕ = w ++ option_map_or (built_bytes redone.later n) (session_opening window hs n) [] in
        let rest = goes ns redone.later (r ++ n ∷ []) more
        (not_released_more r n gone ∙ ap (filter (λ m. not (n == m))) left ∙ first_goes n ns rising.0)
        rising.1
        (each_map (λ m both. (λ i. redone.others m i (λ equal. (let less = both.1 in omega (arith, equal, less))) ∙ both.0 i)) ns (each_and (Same d) (λ m. n < m) ns same.1 rising.0)) in
        let behind = flat_map (releasing window (state D R W)) ns in
        let release : is_legal_for_feeder window (state redone.later r w) (Release n) ≡ true =
        and_from (is_next window (state redone.later r w) n) (has_answers window (state redone.later r w) n)
        (ap (λ (l : List ℕ). option_map_or (λ m. m == n) (slice_get l 0) false) left ∙ eq-eqb n n refl) ready in
        let front : feeder_run window (state d r w) (map (Redo n) is ++ Release n ∷ []) ≡ state redone.later (r ++ n ∷ []) more =
        run_append window (map (Redo n) is) (Release n ∷ []) (state d r w) ∙ ap (λ (f : Feeder). feeder_run window f (Release n ∷ [])) redone.after in (
          legal_append window (map (Redo n) is ++ Release n ∷ []) behind (state d r w)
              (legal_append window (map (Redo n) is) (Release n ∷ []) (state d r w) redone.legal
              (subst (λ (f : Feeder). AreLegalForFeeder window f (Release n ∷ [])) (sym redone.after) (release, tt)))
              (subst (λ (f : Feeder). AreLegalForFeeder window f behind) (sym front) rest.0),
          ap (next_to_release window) (run_append window (map (Redo n) is ++ Release n ∷ []) behind (state d r w) ∙ ap (λ (f : Feeder). feeder_run window f behind) front) ∙ rest.1,
        )

    all_goes : Goes D R W (not_released R gone)
    all_goes = goes (not_released R gone) D R W refl (filter_rising (λ n. not (is_among R n)) gone (let_go_rising window small ended hs)) (each_same (not_released R gone))
      where
        each_same : (xs : List ℕ) → Each (Same D) xs
        each_same [] = tt
        each_same (x ∷ xs) = ((λ i. refl), each_same xs)

module _ (window : ℕ) (f : Feeder) (e : Event) (dones : List Answered) (small : window ≤ 8) where
  abbrev taken : Feeder
  taken = after_taking window f e dones

  pub way_is_legal : AreLegalForFeeder window taken (all_releasing window taken)
  way_is_legal = (all_goes window small taken.heard taken.has_ended taken.decoded taken.released taken.written).0

  pub way_ends : next_to_release window (next_feeder window f e dones) ≡ None
  unfolding next_feeder
  way_ends = (all_goes window small taken.heard taken.has_ended taken.decoded taken.released taken.written).1

pub ruleset laws = (way_is_legal, way_ends)
