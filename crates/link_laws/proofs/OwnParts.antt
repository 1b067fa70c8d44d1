-- What a picture keeps where each part is one that was sent of it: the parameters and slices that were sent.
use Rattle.std.proofs.Common.{◌≡◌, ◌≤◌, ℕ, ◌/◌, ◌%◌, true, List, [], ◌∷◌, ◌++◌, length, Some, Ok, refl, sym, ap, ◌∙◌, arith, append_assoc, All, ◌==◌, append-nil, div-lt_iff_lt-mul, mul_comm, mod-lt, div-add-mod', ◌<◌, suc, ◌+◌, take, Option, None, subst, inl, inr, ◌⊎◌, slice_get, unwrap_or, is_some, filter_map, take_all}
use Rattle.std.proofs.lemmas.List.Elements.{All-head, All-tail, All-cons, All-nil, filter_map-append}
use Rattle.std.proofs.Math.Seq.{take-append_seam, drop-append_seam}
use Rattle.link_model.specs.Kept.{SliceRun, next_slice, next_slices, slice_run, cut_off, first_slice, has_form, has_place, KeptParameters, kept_parameters, parameters_in, ReadParameters, SplitParts, split_by, also_before, split_parts, Own, own_of, own, own_slice, runs_of, run_taken, slice_in, first_copy, part_slices, waiting_limit}
use Rattle.link_model.specs.Sending.{run_bytes, run_end, runs_of_slices}
use Rattle.link_model.specs.Session.{SlicePart, Part, ParamsPart, SlicesPart}
use Rattle.vc_types.specs.Fields.{joined}
use Rattle.vc_types.specs.Slices.{slice_length}
use Rattle.vc_types.specs.Subbands.{slice_count}
use Rattle.vc_types.specs.TransformParameters.{Parameters, coded_parameters}
use Rattle.std.specs.List.{flat_map, range_with_len, list_all, cons_option}
use Rattle.std.specs.Option.{option_map, option_map_or, option_or}
use Rattle.std.proofs.lemmas.Option.{none-some, slice_get_cases}
use Rattle.link_model.specs.Complete.{slice_numbers, has_all_slices, all_bytes, whole_picture}
use Rattle.link_model.proofs.Keeping.{first_copy-append}
use Rattle.link_model.proofs.Releasing.{all_from}
use Rattle.link_laws.proofs.Among.{IsAmong, among_first, among_later, among_all}
use Rattle.link_laws.proofs.SentRuns.{HasOwn, runs_have_own, copies_are_own, first_copy-runs_of_slices}
use Rattle.vc_types.specs.SequenceHeader.{Sequence}

-- ---- the slices of a run

-- the bytes are one whole slice, whatever follows
abbrev pub IsWhole : Parameters → List ℕ → Type 0
IsWhole p slice = (behind : List ℕ) → slice_length p.prefix p.scaler (slice ++ behind) ≡ Some (length slice)

next-first : (p : Parameters) (slice behind : List ℕ) → IsWhole p slice → next_slice p (slice ++ behind) ≡ Ok (slice, behind)
unfolding next_slice
next-first p slice behind whole = ap (cut_off (slice ++ behind)) (whole behind) ∙ (λ i. Ok (take-append_seam slice behind i, drop-append_seam slice behind i))

pub next_slices-joined : (p : Parameters) (slices : List (List ℕ)) (behind : List ℕ) → All (IsWhole p) slices → next_slices p (length slices) (joined slices ++ behind) ≡ Ok (slices, behind)
unfolding next_slices
next_slices-joined p [] behind whole = refl
next_slices-joined p (slice ∷ slices) behind whole =
    let first : next_slice p ((slice ++ joined slices) ++ behind) ≡ Ok (slice, joined slices ++ behind) = ap (next_slice p) (append_assoc slice (joined slices) behind) ∙ next-first p slice (joined slices ++ behind) (All-head (IsWhole p) slice slices whole) in
    let others = next_slices-joined p slices behind (All-tail (IsWhole p) slice slices whole) in
    rw (first, others) refl

-- a run as it stands in its fragment
abbrev pub sent_part : Parameters → SliceRun → SlicePart
sent_part p run = record { prefix = p.prefix; scaler = p.scaler; count = length run.slices; x = run.first % p.slices_x; y = run.first / p.slices_x; body = run_bytes run }

pub itself : (n : ℕ) → (n == n) ≡ true
itself n = grind arith

module _ (p : Parameters) (run : SliceRun) (across : 1 ≤ p.slices_x) (some : 1 ≤ length run.slices) (within : run_end run ≤ slice_count p) (whole : All (IsWhole p) run.slices) where
  form : has_form p (sent_part p run) ≡ true
  form = rw (itself p.prefix, itself p.scaler) refl

  first_is : first_slice p (sent_part p run) ≡ run.first
  first_is = div-add-mod' run.first p.slices_x

  place : has_place p (sent_part p run) ≡ true
  place = grind (arith, div-lt_iff_lt-mul, first_is, mod-lt, mul_comm)

  body : next_slices p (length run.slices) (run_bytes run) ≡ Ok (run.slices, [])
  body = ap (next_slices p (length run.slices)) (sym (append-nil (run_bytes run))) ∙ next_slices-joined p run.slices [] whole

  -- a run that was sent is the run that is taken
  pub slice_run-sent_part : slice_run p (sent_part p run) ≡ Ok run
  unfolding slice_run
  slice_run-sent_part = rw (form, place, body) (ap (λ (n : ℕ). Ok (record { first = n; slices = run.slices })) first_is)

-- ---- the parts of a picture

-- ---- of lists

-- the run that has a slice first
pub run_having : (runs : List SliceRun) (i : ℕ) (bytes : List ℕ) → first_copy runs i ≡ Some bytes → (run : SliceRun) × (IsAmong runs run) × (slice_in run i ≡ Some bytes)
unfolding first_copy
run_having [] i bytes is = absurd (none-some bytes is)
run_having (run ∷ runs) i bytes is = grind (arith, among_first, among_later, run_having runs i bytes)

copy_first : (run : SliceRun) (rest : List SliceRun) (i : ℕ) (bytes : List ℕ) → slice_in run i ≡ Some bytes → first_copy (run ∷ rest) i ≡ Some bytes
unfolding first_copy
copy_first run rest i bytes has = ap (λ (o : Option (List ℕ)). option_or o (first_copy rest i)) has

-- a run that has a slice gives a copy of it
pub copy_there : (front : List SliceRun) (run : SliceRun) (rest : List SliceRun) (i : ℕ) (bytes : List ℕ) → slice_in run i ≡ Some bytes → (copy : List ℕ) × (first_copy (front ++ run ∷ rest) i ≡ Some copy)
copy_there front run rest i bytes has = by_front (first_copy front i) refl
  where
    last : first_copy (run ∷ rest) i ≡ Some bytes
    last = copy_first run rest i bytes has

    by_front : (o : Option (List ℕ)) → first_copy front i ≡ o → (copy : List ℕ) × (first_copy (front ++ run ∷ rest) i ≡ Some copy)
    by_front (Some x) is = (x, first_copy-append front (run ∷ rest) i ∙ ap (λ (o : Option (List ℕ)). option_or o (first_copy (run ∷ rest) i)) is)
    by_front None is = (bytes, first_copy-append front (run ∷ rest) i ∙ ap (λ (o : Option (List ℕ)). option_or o (first_copy (run ∷ rest) i)) is ∙ last)

-- items by their numbers, one after another
abbrev Gives : (ℕ → Option (List ℕ)) → ℕ → List (List ℕ) → Type 0
Gives f a xs = (k : ℕ) (bytes : List ℕ) → slice_get xs k ≡ Some bytes → f (a + k) ≡ Some bytes

all_joined : (f : ℕ → Option (List ℕ)) (a : ℕ) (xs : List (List ℕ)) → Gives f a xs → flat_map (λ i. unwrap_or (f i) []) (range_with_len a (length xs)) ≡ joined xs
all_joined f a [] gives = refl
all_joined f a (x ∷ xs) gives =
    let here : f a ≡ Some x = ap f (omega arith) ∙ gives 0 x refl in
    let rest = all_joined f (a + 1) xs (λ k bytes is. ap f (omega arith) ∙ gives (suc k) bytes is) in
    (λ i. unwrap_or (here i) [] ++ rest i)

-- ---- parts

-- what is sent of a picture: its parameters, and runs of its slices
abbrev pub IsOwnPart : Parameters → List ℕ → List SliceRun → Part → Type 0
IsOwnPart p bytes runs part = (part ≡ ParamsPart bytes) ⊎ ((run : SliceRun) × (IsAmong runs run) × (part ≡ SlicesPart (sent_part p run)))

module _ (sequence : Sequence) (p : Parameters) (bytes : List ℕ) (read : (more : List ℕ) → coded_parameters sequence (bytes ++ more) ≡ Ok (p, length bytes)) (runs : List SliceRun) where
  abbrev plan : KeptParameters
  plan = record { parameters = p; bytes = bytes }

  abbrev IsOwn : Part → Type 0
  IsOwn part = IsOwnPart p bytes runs part

  params_kept : parameters_in sequence (ParamsPart bytes) ≡ Some plan
  unfolding parameters_in
  params_kept =
      ap (λ (r : ReadParameters). kept_parameters bytes r) (ap (coded_parameters sequence) (sym (append-nil bytes)) ∙ read [])
      ∙ ap (λ (l : List ℕ). (let kept : KeptParameters = record { parameters = p; bytes = l } in Some kept)) (take_all (length bytes) bytes (omega arith))

  split_later : (part : Part) (parts : List Part) → parameters_in sequence part ≡ None → split_parts sequence (part ∷ parts) ≡ option_map (also_before part) (split_parts sequence parts)
  unfolding split_parts
  split_later part parts is = ap (λ (o : Option KeptParameters). option_map_or (λ plan. Some (split_by parts plan)) o (option_map (also_before part) (split_parts sequence parts))) is

  -- parts are split at the first parameters
  pub record AreSplit (front parts : List Part) : Type 0 where
    pub split : SplitParts
    pub is : split_parts sequence parts ≡ Some split
    pub plan_is : split.plan ≡ plan
    pub all : split.before ++ split.behind ≡ filter_map part_slices parts
    pub few : length split.before ≤ length (filter_map part_slices front)

  at_first : (front : List Part) (part : Part) (parts : List Part) → part ≡ ParamsPart bytes → AreSplit front (part ∷ parts)
  unfolding split_parts
  at_first front part parts same = record {
    split = split_by parts plan;
    is = (ap (λ (o : Option KeptParameters). option_map_or (λ plan. Some (split_by parts plan)) o (option_map (also_before part) (split_parts sequence parts))) (ap (parameters_in sequence) same ∙ params_kept));
    plan_is = refl;
    all = sym (ap (λ (q : Part). filter_map part_slices (q ∷ parts)) same);
    few = omega arith;
  }

  is_split : (front rest : List Part) → All IsOwn (front ++ ParamsPart bytes ∷ rest) → AreSplit front (front ++ ParamsPart bytes ∷ rest)
  unfolding parameters_in
  is_split [] rest all = at_first [] (ParamsPart bytes) rest refl
  is_split (ParamsPart body ∷ front) rest all = grind (arith, All-head, at_first)
  is_split (SlicesPart slices ∷ front) rest all =
      let more = is_split front rest (All-tail IsOwn (SlicesPart slices) (front ++ ParamsPart bytes ∷ rest) all) in
      record {
        split = also_before (SlicesPart slices) more.split;
        is = split_later (SlicesPart slices) (front ++ ParamsPart bytes ∷ rest) (refl) ∙ ap (option_map (also_before (SlicesPart slices))) more.is;
        plan_is = more.plan_is;
        all = ap (λ (l : List SlicePart). slices ∷ l) more.all;
        few = omega (arith, more.few);
      }

  -- ---- runs

  abbrev runs_in : List Part → List SliceRun
  runs_in parts = runs_of p (filter_map part_slices parts)

  module _ (taken : (run : SliceRun) → IsAmong runs run → slice_run p (sent_part p run) ≡ Ok run) where
    run_first : (run : SliceRun) (parts : List Part) → IsAmong runs run → runs_in (SlicesPart (sent_part p run) ∷ parts) ≡ run ∷ runs_in parts
    run_first run parts is = ap (λ (o : Option SliceRun). cons_option o (runs_in parts)) (ap run_taken (taken run is))

    all_own : (whole : List (List ℕ)) → All (HasOwn whole) runs → (parts : List Part) → All IsOwn parts → All (HasOwn whole) (runs_in parts)
    all_own whole have [] all = All-nil (HasOwn whole)
    all_own whole have (part ∷ parts) all = by_own (All-head IsOwn part parts all) (all_own whole have parts (All-tail IsOwn part parts all))
      where
        by_own : IsOwn part → All (HasOwn whole) (runs_in parts) → All (HasOwn whole) (runs_in (part ∷ parts))
        by_own (inl same) rest = subst (λ (q : Part). All (HasOwn whole) (runs_in (q ∷ parts))) (sym same) rest
        by_own (inr own) rest = subst (λ (q : Part). All (HasOwn whole) (runs_in (q ∷ parts))) (sym own.2)
            (subst (λ (l : List SliceRun). All (HasOwn whole) l) (sym (run_first own.0 parts own.1))
            (All-cons (HasOwn whole) own.0 (runs_in parts) (among_all (HasOwn whole) own.0 runs have own.1) rest))

    run_among : (run : SliceRun) (parts : List Part) → IsAmong runs run → IsAmong parts (SlicesPart (sent_part p run)) → IsAmong (runs_in parts) run
    run_among run parts is there = (
      runs_in there.0,
      runs_in there.1,
      ap runs_in there.2
          ∙ ap (runs_of p) (filter_map-append part_slices there.0 (SlicesPart (sent_part p run) ∷ there.1))
          ∙ filter_map-append (λ s. run_taken (slice_run p s)) (filter_map part_slices there.0) (filter_map part_slices (SlicesPart (sent_part p run) ∷ there.1))
          ∙ ap (λ (l : List SliceRun). runs_in there.0 ++ l) (run_first run there.1 is),
    )

    -- ---- the whole picture

    module _ (room : ℕ) (slices : List (List ℕ)) (runs_are : runs ≡ runs_of_slices room slices) (count : length slices ≡ slice_count p) where
      module _ (front rest : List Part) (all : All IsOwn (front ++ ParamsPart bytes ∷ rest)) (few : length (filter_map part_slices front) ≤ waiting_limit) (each : (run : SliceRun) → IsAmong runs run → IsAmong (front ++ ParamsPart bytes ∷ rest) (SlicesPart (sent_part p run))) where
        abbrev parts : List Part
        parts = front ++ ParamsPart bytes ∷ rest

        kept : Own
        kept = record { plan = plan; runs = runs_in parts }

        keeps_all : (q : SplitParts) → q.plan ≡ plan → q.before ++ q.behind ≡ filter_map part_slices parts → length q.before ≤ waiting_limit → own_of q ≡ record { plan = plan; runs = runs_in parts }
        keeps_all q plan_is whole short =
            let waits : take waiting_limit q.before ≡ q.before = take_all waiting_limit q.before short in
            let same : runs_of q.plan.parameters (take waiting_limit q.before ++ q.behind) ≡ runs_in parts =
            ap (λ (l : List SlicePart). runs_of q.plan.parameters (l ++ q.behind)) waits
            ∙ ap (runs_of q.plan.parameters) whole
            ∙ ap (λ (k : KeptParameters). runs_of k.parameters (filter_map part_slices parts)) plan_is in
            (λ i. record { plan = plan_is i; runs = same i })

        slice_there : (i : ℕ) (own : List ℕ) → slice_get slices i ≡ Some own → first_copy (runs_in parts) i ≡ Some own
        slice_there i own is =
            let has : first_copy runs i ≡ Some own = ap (λ (l : List SliceRun). first_copy l i) runs_are ∙ first_copy-runs_of_slices room slices i ∙ is in
            let run = run_having runs i own has in
            let among = run_among run.0 parts run.1 (each run.0 run.1) in
            let copy = copy_there among.0 run.0 among.1 i own run.2 in
            let found : first_copy (runs_in parts) i ≡ Some copy.0 = ap (λ (l : List SliceRun). first_copy l i) among.2 ∙ copy.1 in
            found ∙ sym (copies_are_own slices (runs_in parts) i copy.0 (all_own slices (subst (λ (l : List SliceRun). All (HasOwn slices) l) (sym runs_are) (runs_have_own room slices)) parts all) found) ∙ is

        there : (i : ℕ) → 0 ≤ i → i < slice_count p → is_some (first_copy (runs_in parts) i) ≡ true
        there i from below = elim ((slice_get_cases slices i).1) [
          | inl found ↦ ap is_some (slice_there i found.0 found.2)
          | inr past ↦ absurd (omega (arith, past.0, below, count))
        ]

        -- the whole bytes are the parameters that were sent, and after them the slices
        pub whole_picture-own : whole_picture sequence parts ≡ Some (bytes ++ joined slices)
        unfolding whole_picture has_all_slices all_bytes own
        whole_picture-own =
            let own : Own = record { plan = plan; runs = runs_in parts } in
            let complete : list_all (λ i. is_some (own_slice own i)) (slice_numbers own) ≡ true = all_from (λ i. is_some (own_slice own i)) 0 (slice_count p) (λ k from below. there k from (omega (arith, below))) in
            let all_slices : flat_map (λ i. unwrap_or (own_slice own i) []) (slice_numbers own) ≡ joined slices =
            ap (λ n. flat_map (λ i. unwrap_or (own_slice own i) []) (range_with_len 0 n)) (sym count)
            ∙ all_joined (own_slice own) 0 slices (λ k got is. ap (own_slice own) (omega arith) ∙ slice_there k got is) in
            grind (arith, (let s = is_split front rest all in ap (option_map own_of) s.is ∙ ap Some (keeps_all s.split s.plan_is s.all (omega (arith, s.few, few)))))
