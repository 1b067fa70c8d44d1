-- What is kept of a complete picture is a picture of the sequence: parameters that are read from their own bytes, and as
-- many whole slices as it has.
use Rattle.std.proofs.Common.{◌≡◌, ℕ, zero, suc, ◌+◌, ◌<◌, ◌≤◌, Bool, true, refl, ap, subst, ◌∙◌, arith}
use Rattle.std.proofs.Common.{List, [], ◌∷◌, ◌++◌, length, map, take, Option, Some, None, Result, Ok, Err}
use Rattle.std.specs.Prelude.{All, unwrap_or}
use Rattle.std.specs.List.{flat_map, range_with_len}
use Rattle.std.specs.Option.{option_and_then, option_map, option_map_or}
use Rattle.std.proofs.lemmas.Bool.{cond-true}
use Rattle.std.proofs.lemmas.List.Elements.{All-cons, All-nil}
use Rattle.std.proofs.lemmas.List.{append-nil}
use Rattle.std.proofs.lemmas.List.FromFn.{length-map-range_with_len}
use Rattle.std.proofs.lemmas.Option.{none-some, same_Some}
use Rattle.link_model.specs.Complete.{slice_numbers, all_bytes, has_all_slices, whole_of, whole_picture}
use Rattle.link_model.specs.Kept.{KeptParameters, kept_parameters, parameters_in, SplitParts, also_before, split_by}
use Rattle.link_model.specs.Kept.{split_parts, Own, own, own_slice}
use Rattle.link_model.specs.Session.{Part, ParamsPart, SlicesPart}
use Rattle.vc_types.specs.Bits.{bits_of}
use Rattle.vc_types.specs.Fields.{joined}
use Rattle.vc_types.specs.PictureBytes.{IsWholeSlice}
use Rattle.vc_types.specs.SequenceHeader.{Sequence, bytes_used, with_bytes_used}
use Rattle.vc_types.specs.TransformParameters.{Parameters, coded_parameters, transform_parameters}
use Rattle.vc_types.specs.declared.refusal.ParamsRefusal.{ParamsRefusal}
use Rattle.vc_types.proofs.OwnBytes.{ReadAgain, read_again}
use Rattle.vc_types.proofs.OwnParameters.{parameters_own}
use Rattle.receiver_model.specs.WholePictures.{own_slices, IsOwnPicture}
use Rattle.receiver_model.proofs.AnsweredPictures.{one_whole}

-- ---- parameters

-- parameters are read from their bytes alone, all of which they take
abbrev IsCoded : Sequence → KeptParameters → Type 0
IsCoded s plan = coded_parameters s plan.bytes ≡ Ok (plan.parameters, length plan.bytes)

module _ (s : Sequence) where
  read_coded : (body : List ℕ) (read : Parameters × List Bool) → transform_parameters s (bits_of body) ≡ Ok read
      → IsCoded s (record { parameters = read.0; bytes = take (bytes_used body read.1) body })
  read_coded body read is =
      let bytes = take (bytes_used body read.1) body in
      let again : ReadAgain (transform_parameters s) bytes [] read.0 = read_again (transform_parameters s) (parameters_own s) body read.0 read.1 is [] in
      subst (λ (l : List ℕ). coded_parameters s l ≡ Ok (read.0, length bytes)) (append-nil bytes)
      (ap (with_bytes_used (bytes ++ [])) again.read ∙ ap (λ (n : ℕ). Ok (read.0, n)) again.used)

  planned_coded : (part : Part) (plan : KeptParameters) → parameters_in s part ≡ Some plan → IsCoded s plan
  unfolding parameters_in
  planned_coded (SlicesPart slices) plan e = absurd (none-some plan e)
  planned_coded (ParamsPart body) plan e = by_read (transform_parameters s (bits_of body)) refl e
    where
      by_read : (r : Result (Parameters × List Bool) ParamsRefusal) → transform_parameters s (bits_of body) ≡ r → kept_parameters body (with_bytes_used body r) ≡ Some plan → IsCoded s plan
      by_read (Err refusal) is e = absurd (none-some plan e)
      by_read (Ok read) is e = subst (IsCoded s) (same_Some (record { parameters = read.0; bytes = take (bytes_used body read.1) body }) plan e) (read_coded body read is)

  also_plan : (part : Part) (p : SplitParts) → (also_before part p).plan ≡ p.plan
  also_plan (ParamsPart body) p = refl
  also_plan (SlicesPart slices) p = refl

  parted_coded : (parts : List Part) (p : SplitParts) → split_parts s parts ≡ Some p → IsCoded s p.plan
  unfolding split_parts
  parted_coded [] p e = absurd (none-some p e)
  parted_coded (part ∷ parts) p e = by_plan (parameters_in s part) refl (split_parts s parts) e (parted_coded parts)
    where
      by_plan : (o : Option KeptParameters) → parameters_in s part ≡ o → (old : Option SplitParts)
          → option_map_or (λ plan. Some (split_by parts plan)) o (option_map (also_before part) old) ≡ Some p
          → ((q : SplitParts) → old ≡ Some q → IsCoded s q.plan) → IsCoded s p.plan
      by_plan (Some plan) is old e rest = subst (λ (p : SplitParts). IsCoded s p.plan) (same_Some (split_by parts plan) p e) (planned_coded part plan is)
      by_plan None is None e rest = absurd (none-some p e)
      by_plan None is (Some q) e rest = subst (λ (p : SplitParts). IsCoded s p.plan) (same_Some (also_before part q) p e) (rw (also_plan part q) (rest q refl))

-- ---- slices

module _ (p : Parameters) (bytes_of : ℕ → List ℕ) where
  all_whole : (a n : ℕ) → ((k : ℕ) → a ≤ k → k < a + n → IsWholeSlice p (bytes_of k))
      → All (IsWholeSlice p) (map bytes_of (range_with_len a n))
  all_whole a zero each = All-nil (IsWholeSlice p)
  all_whole a (suc n) each =
      All-cons (IsWholeSlice p) (bytes_of a) (map bytes_of (range_with_len (a + 1) n)) (each a (omega arith) (omega arith))
      (all_whole (a + 1) n (λ k from to. each k (omega (arith, from)) (omega (arith, to))))

joined_map : {X : Type 0} (f : X → List ℕ) (xs : List X) → flat_map f xs ≡ joined (map f xs)
joined_map f [] = refl
joined_map f (x ∷ xs) = ap (λ l. f x ++ l) (joined_map f xs)

-- ---- the picture

module _ (s : Sequence) (parts : List Part) (kept : Own) (is : own s parts ≡ Some kept) (complete : has_all_slices kept ≡ true) where
  coded : IsCoded s kept.plan
  unfolding own
  coded = grind (arith, parted_coded)

  whole_bytes : whole_picture s parts ≡ Some (kept.plan.bytes ++ joined (own_slices kept))
  unfolding whole_picture all_bytes
  whole_bytes =
      ap (option_and_then whole_of) is
      ∙ cond-true (has_all_slices kept) (Some (all_bytes kept)) None complete
      ∙ ap (λ (l : List ℕ). Some (kept.plan.bytes ++ l)) (joined_map (λ i. unwrap_or (own_slice kept i) []) (slice_numbers kept))

  pub own_picture : IsOwnPicture s parts kept
  own_picture = record {
    bytes = record {
      parameters = coded;
      count = length-map-range_with_len (λ i. unwrap_or (own_slice kept i) []) 0 _;
      whole = all_whole kept.plan.parameters (λ i. unwrap_or (own_slice kept i) []) 0 _ (λ k from to. one_whole s parts kept is complete k (omega (arith, to)));
    };
    whole = whole_bytes;
  }
