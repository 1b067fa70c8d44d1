-- What a picture keeps stays kept as parts come: its parameters, each slice, and its whole bytes.
use Rattle.std.proofs.Common.{◌≡◌, ℕ, Bool, true, List, [], ◌∷◌, ◌++◌, Option, Some, None, refl, ap, sym, ◌∙◌, cond, arith, is_some, unwrap_or, filter_map, append_assoc}
use Rattle.std.specs.List.{flat_map, list_all}
use Rattle.std.specs.Option.{option_map, option_or, option_and_then}
use Rattle.std.proofs.lemmas.Bool.{and_parts, and_from, false≢true}
use Rattle.std.proofs.lemmas.List.Elements.{filter_map-append}
use Rattle.std.proofs.lemmas.Option.{cond_some, same_Some, none-some}
use Rattle.link_model.specs.Complete.{slice_numbers, has_all_slices, all_bytes, whole_of, whole_picture}
use Rattle.link_model.specs.Kept.{SplitParts, split_parts, SliceRun, Own, runs_of, own_of, own, part_slices, first_copy, slice_in, own_slice}
use Rattle.link_model.specs.Session.{Part}
use Rattle.vc_types.specs.SequenceHeader.{Sequence}

-- ---- more parts

abbrev pub longer : List Part → SplitParts → SplitParts
longer more p = record { plan = p.plan; before = p.before; behind = p.behind ++ filter_map part_slices more }

module _ (s : Sequence) (more : List Part) where
  split_parts-append : (parts : List Part) (p : SplitParts) → split_parts s parts ≡ Some p → split_parts s (parts ++ more) ≡ Some (longer more p)
  unfolding split_parts
  split_parts-append [] p e = absurd (none-some p e)
  split_parts-append (part ∷ parts) p e = grind (arith, filter_map-append, split_parts-append parts)

-- what is kept with more runs
abbrev pub grown : List Part → Own → Own
grown more kept = record { plan = kept.plan; runs = kept.runs ++ runs_of kept.plan.parameters (filter_map part_slices more) }

own_of-longer : (more : List Part) (p : SplitParts) → own_of (longer more p) ≡ grown more (own_of p)
own_of-longer more p = grind (arith, append_assoc, filter_map-append)

pub own-append : (s : Sequence) (parts more : List Part) (kept : Own) → own s parts ≡ Some kept → own s (parts ++ more) ≡ Some (grown more kept)
unfolding own
own-append s parts more kept e = by_parted (split_parts s parts) refl e
  where
    by_parted : (old : Option SplitParts) → split_parts s parts ≡ old → option_map own_of old ≡ Some kept → option_map own_of (split_parts s (parts ++ more)) ≡ Some (grown more kept)
    by_parted None is e = absurd (none-some kept e)
    by_parted (Some p) is e = ap (option_map own_of) (split_parts-append s more parts p is) ∙ ap Some (own_of-longer more p) ∙ ap (λ k. Some (grown more k)) (same_Some (own_of p) kept e)

-- ---- slices

pub or_assoc : {A : Type 0} (a b c : Option A) → option_or (option_or a b) c ≡ option_or a (option_or b c)
or_assoc None b c = refl
or_assoc (Some x) b c = refl

pub first_copy-append : (runs more : List SliceRun) (i : ℕ) → first_copy (runs ++ more) i ≡ option_or (first_copy runs i) (first_copy more i)
unfolding first_copy
first_copy-append [] more i = refl
first_copy-append (run ∷ runs) more i = ap (option_or (slice_in run i)) (first_copy-append runs more i) ∙ sym (or_assoc (slice_in run i) (first_copy runs i) (first_copy more i))

pub slice_stays : (more : List Part) (kept : Own) (i : ℕ) (bytes : List ℕ) → own_slice kept i ≡ Some bytes → own_slice (grown more kept) i ≡ Some bytes
slice_stays more kept i bytes e = first_copy-append kept.runs (runs_of kept.plan.parameters (filter_map part_slices more)) i ∙ ap (λ (o : Option (List ℕ)). option_or o (first_copy (runs_of kept.plan.parameters (filter_map part_slices more)) i)) e

-- ---- whole pictures

module _ (f g : ℕ → Option (List ℕ)) (stays : (i : ℕ) (bytes : List ℕ) → f i ≡ Some bytes → g i ≡ Some bytes) where
  one_stays : (i : ℕ) (o : Option (List ℕ)) → f i ≡ o → is_some o ≡ true → (is_some (g i) ≡ true) × (unwrap_or o [] ≡ unwrap_or (g i) [])
  one_stays i None is e = absurd (false≢true e)
  one_stays i (Some bytes) is e = (ap is_some (stays i bytes is), sym (ap (λ (o : Option (List ℕ)). unwrap_or o []) (stays i bytes is)))

  all_stay : (is : List ℕ) → list_all (λ i. is_some (f i)) is ≡ true
      → (list_all (λ i. is_some (g i)) is ≡ true) × (flat_map (λ i. unwrap_or (f i) []) is ≡ flat_map (λ i. unwrap_or (g i) []) is)
  all_stay [] e = (refl, refl)
  all_stay (i ∷ is) e =
      let parts = and_parts (is_some (f i)) (list_all (λ i. is_some (f i)) is) e in
      let here = one_stays i (f i) refl parts.0 in
      let rest = all_stay is parts.1 in (
        and_from (is_some (g i)) (list_all (λ i. is_some (g i)) is) here.0 rest.0,
        ap (λ (b : List ℕ). b ++ flat_map (λ i. unwrap_or (f i) []) is) here.1 ∙ ap (λ (b : List ℕ). unwrap_or (g i) [] ++ b) rest.1,
      )

whole_stays : (more : List Part) (kept : Own) (bytes : List ℕ) → whole_of kept ≡ Some bytes → whole_of (grown more kept) ≡ Some bytes
unfolding has_all_slices all_bytes
whole_stays more kept bytes e =
    let parts = cond_some (has_all_slices kept) (all_bytes kept) bytes e in
    let all = all_stay (own_slice kept) (own_slice (grown more kept)) (slice_stays more kept) (slice_numbers kept) parts.0 in
    ap (λ (b : Bool). cond b (Some (all_bytes (grown more kept))) None) all.0
    ∙ ap Some (ap (λ (b : List ℕ). kept.plan.bytes ++ b) (sym all.1) ∙ parts.1)

-- a picture that is complete stays so, with the same bytes
pub whole_picture-append : (s : Sequence) (parts more : List Part) (bytes : List ℕ) → whole_picture s parts ≡ Some bytes → whole_picture s (parts ++ more) ≡ Some bytes
unfolding whole_picture
whole_picture-append s parts more bytes e = by_own (own s parts) refl e
  where
    by_own : (old : Option Own) → own s parts ≡ old → option_and_then whole_of old ≡ Some bytes → option_and_then whole_of (own s (parts ++ more)) ≡ Some bytes
    by_own None is e = absurd (none-some bytes e)
    by_own (Some kept) is e = ap (option_and_then whole_of) (own-append s parts more kept is) ∙ whole_stays more kept bytes e

-- what is kept later: the same parameters, and each slice that was kept
pub keeps : (s : Sequence) (parts more : List Part) (kept : Own) → own s parts ≡ Some kept
    → (later : Own) × (own s (parts ++ more) ≡ Some later) × (later.plan ≡ kept.plan) × ((i : ℕ) (bytes : List ℕ) → own_slice kept i ≡ Some bytes → own_slice later i ≡ Some bytes)
keeps s parts more kept e = (grown more kept, own-append s parts more kept e, refl, slice_stays more kept)

pub ruleset laws = (keeps, whole_picture-append)
