-- The whole bytes of a picture are decoded as its parameters and, after them, its own slices, each of which is one whole
-- slice.
use Rattle.std.proofs.Common.{◌≡◌, ℕ, zero, suc, Bool, List, [], ◌∷◌, ◌++◌, map, take, drop, Option, Some, None, Result, Ok, Err, refl, ap, sym, subst, ◌∙◌, arith, slice_get, unwrap_or, flat_map}
use Rattle.std.specs.Option.{option_map, option_map_or}
use Rattle.std.proofs.Math.Seq.{drop-append_seam}
use Rattle.std.proofs.lemmas.Option.{same_Some, none-some}
use Rattle.link_model.specs.Complete.{slice_numbers, all_bytes}
use Rattle.link_model.specs.Kept.{KeptParameters, kept_parameters, parameters_in, SplitParts, split_by, also_before, split_parts, Own, own_of, own, own_slice, runs_of, slice_run, first_copy, next_slice, next_slices, waiting_limit}
use Rattle.link_model.specs.Session.{Part, ParamsPart, SlicesPart, SlicePart}
use Rattle.vc_types.specs.Bits.{bits_of}
use Rattle.vc_types.specs.Fields.{joined}
use Rattle.vc_types.specs.PictureBytes.{IsWholeSlice}
use Rattle.vc_types.specs.Pictures.{decoded_picture, with_parameters, with_slices, slices_from}
use Rattle.vc_types.specs.SequenceHeader.{Sequence, bytes_used, with_bytes_used}
use Rattle.vc_types.specs.Slices.{slice_length}
use Rattle.vc_types.specs.Subbands.{slice_count}
use Rattle.vc_types.specs.TransformParameters.{Parameters, transform_parameters}
use Rattle.vc_types.specs.declared.refusal.ParamsRefusal.{ParamsRefusal}
use Rattle.link_model.proofs.Slots.{okay_is, taken_is}
use Rattle.vc_types.proofs.OwnBytes.{ReadAgain, read_again}
use Rattle.vc_types.proofs.OwnParameters.{parameters_own}

-- ---- parameters

-- these bytes are read as these parameters, whatever follows them
abbrev pub IsReadAgain : Sequence → KeptParameters → Type 0
IsReadAgain s plan = (more : List ℕ) → decoded_picture s (plan.bytes ++ more) ≡ with_slices plan.parameters (slices_from plan.parameters 0 (slice_count plan.parameters) more)

module _ (s : Sequence) where
  planned_again : (part : Part) (plan : KeptParameters) → parameters_in s part ≡ Some plan → IsReadAgain s plan
  unfolding parameters_in decoded_picture
  planned_again (SlicesPart slices) plan e = absurd (none-some plan e)
  planned_again (ParamsPart body) plan e = by_read (transform_parameters s (bits_of body)) refl e
    where
      by_read : (r : Result (Parameters × List Bool) ParamsRefusal) → transform_parameters s (bits_of body) ≡ r → kept_parameters body (with_bytes_used body r) ≡ Some plan → IsReadAgain s plan
      by_read (Err refusal) is e = absurd (none-some plan e)
      by_read (Ok read) is e = subst (IsReadAgain s) (same_Some (record { parameters = read.0; bytes = take (bytes_used body read.1) body }) plan e)
          (λ more. (let again : ReadAgain (transform_parameters s) (take (bytes_used body read.1) body) more read.0 = read_again (transform_parameters s) (parameters_own s) body read.0 read.1 is more in
          let bytes = take (bytes_used body read.1) body in
          ap (with_parameters (bytes ++ more)) again.read
          ∙ ap (λ n. with_slices read.0 (slices_from read.0 0 (slice_count read.0) (drop n (bytes ++ more)))) again.used
          ∙ ap (λ (l : List ℕ). with_slices read.0 (slices_from read.0 0 (slice_count read.0) l)) (drop-append_seam bytes more)))

  parted_again : (parts : List Part) (p : SplitParts) → split_parts s parts ≡ Some p → IsReadAgain s p.plan
  unfolding split_parts
  parted_again [] p e = absurd (none-some p e)
  parted_again (part ∷ parts) p e = by_plan (parameters_in s part) refl (split_parts s parts) e (parted_again parts)
    where
      also : (part : Part) (q : SplitParts) → IsReadAgain s q.plan → IsReadAgain s (also_before part q).plan
      also (ParamsPart body) q again = again
      also (SlicesPart slices) q again = again

      by_plan : (o : Option KeptParameters) → parameters_in s part ≡ o → (old : Option SplitParts) → option_map_or (λ plan. Some (split_by parts plan)) o (option_map (also_before part) old) ≡ Some p
          → ((q : SplitParts) → old ≡ Some q → IsReadAgain s q.plan) → IsReadAgain s p.plan
      by_plan (Some plan) is old e rest = subst (λ (p : SplitParts). IsReadAgain s p.plan) (same_Some (split_by parts plan) p e) (planned_again part plan is)
      by_plan None is None e rest = absurd (none-some p e)
      by_plan None is (Some q) e rest = subst (λ (p : SplitParts). IsReadAgain s p.plan) (same_Some (also_before part q) p e) (also part q (rest q refl))

-- ---- slices

-- a slice that begins bytes is a whole slice by itself
abbrev pub SlicesStandAlone : Parameters → Type 0
SlicesStandAlone p = (bytes : List ℕ) (len : ℕ) → slice_length p.prefix p.scaler bytes ≡ Some len → IsWholeSlice p (take len bytes)

module _ (p : Parameters) (alone : SlicesStandAlone p) where
  abbrev AreWhole : List (List ℕ) → Type 0
  AreWhole slices = (k : ℕ) (bytes : List ℕ) → slice_get slices k ≡ Some bytes → IsWholeSlice p bytes

  next_whole : (n : ℕ) (bytes : List ℕ) (x : List (List ℕ) × List ℕ) → next_slices p n bytes ≡ Ok x → AreWhole x.0
  unfolding next_slices next_slice
  next_whole zero bytes x e = subst (λ (x : List (List ℕ) × List ℕ). AreWhole x.0) (okay_is ([], bytes) x e) (λ k b none. absurd (none-some b none))
  next_whole (suc n) bytes x e = grind (arith, next_whole n)

  runs_whole : (parts : List SlicePart) (i : ℕ) (bytes : List ℕ) → first_copy (runs_of p parts) i ≡ Some bytes → IsWholeSlice p bytes
  unfolding first_copy slice_run
  runs_whole [] i bytes e = absurd (none-some bytes e)
  runs_whole (part ∷ parts) i bytes e = grind (arith, runs_whole parts i bytes, next_whole, taken_is)

-- ---- the whole picture

joined_is : {T X : Type 0} (f : X → List T) (xs : List X) → joined (map f xs) ≡ flat_map f xs
joined_is f [] = refl
joined_is f (x ∷ xs) = ap (λ l. f x ++ l) (joined_is f xs)

-- the slices of a picture in raster order
abbrev pub own_slices : Own → List (List ℕ)
own_slices kept = map (λ i. unwrap_or (own_slice kept i) []) (slice_numbers kept)

module _ (s : Sequence) (parts : List Part) (kept : Own) (is : own s parts ≡ Some kept) where
  from_parted : (Q : Own → Type 0) → ((p : SplitParts) → split_parts s parts ≡ Some p → Q (own_of p)) → Q kept
  unfolding own
  from_parted Q each = grind arith

  pub decoded_whole : decoded_picture s (all_bytes kept) ≡ with_slices kept.plan.parameters (slices_from kept.plan.parameters 0 (slice_count kept.plan.parameters) (joined (own_slices kept)))
  unfolding all_bytes
  decoded_whole =
      from_parted (λ kept. IsReadAgain s kept.plan) (λ p at. parted_again s parts p at) (flat_map (λ i. unwrap_or (own_slice kept i) []) (slice_numbers kept))
      ∙ ap (λ (l : List ℕ). with_slices kept.plan.parameters (slices_from kept.plan.parameters 0 (slice_count kept.plan.parameters) l)) (sym (joined_is (λ i. unwrap_or (own_slice kept i) []) (slice_numbers kept)))

  pub own_slice_whole : SlicesStandAlone kept.plan.parameters → (i : ℕ) (bytes : List ℕ) → own_slice kept i ≡ Some bytes → IsWholeSlice kept.plan.parameters bytes
  own_slice_whole = from_parted (λ kept. SlicesStandAlone kept.plan.parameters → (i : ℕ) (bytes : List ℕ) → own_slice kept i ≡ Some bytes → IsWholeSlice kept.plan.parameters bytes)
      (λ p at alone i bytes e. runs_whole p.plan.parameters alone (take waiting_limit p.before ++ p.behind) i bytes e)
