-- What units bring, a unit more.
use Rattle.std.proofs.Common.{◌≡◌, ◌≢◌, ℕ, Bool, true, false, cond, List, [], ◌∷◌, ◌++◌, take, Option, Some, None, Ok, Err, refl, sym, ap, ◌∙◌, append-nil}
use Rattle.std.specs.Prelude.{Result, ◌==◌}
use Rattle.std.proofs.lemmas.Bool.{ne_eqb}
use Rattle.stream_model.specs.Packed.{BadUnit, PackFault, PackStream, PackedSoFar, if_it_fits, if_it_is_whole, nothing_packed, packed_behind, packed_of, packs_header, packs_picture, packs_unit, picture_to_pack, settings_for, pictures_packed, stream_packed, units_packed, whole_packed, with_packed}
use Rattle.stream_model.specs.Packing.{LargePart, PackedPicture, first_large_part, packed_end, packed_stream}
use Rattle.stream_model.proofs.PackedMore.{none_packed, packed_more}
use Rattle.cmd_stream.specs.PackSteps.{BringsUnit, next_packed}
use Rattle.vc_types.specs.DataUnits.{DataUnit}
use Rattle.vc_types.specs.SameValues.{same_sequence}
use Rattle.vc_types.specs.SenderSettings.{Packing}
use Rattle.vc_types.specs.SequenceHeader.{Sequence, coded_header}
use Rattle.vc_types.specs.declared.refusal.HeaderRefusal.{HeaderRefusal}

module _ (s : Packing) where
  abbrev All : Type 0
  All = PackedSoFar × Option PackFault

  -- a unit behind others that are packed
  behind_others : (start : PackedSoFar) (units : List DataUnit) (u : DataUnit) (h : PackedSoFar) → packed_of s start units ≡ (h, None) → packed_of s start (units ++ u ∷ []) ≡ packed_of s h (u ∷ [])
  unfolding packed_of
  behind_others start [] u h e = ap (λ (x : All). packed_of s x.0 (u ∷ [])) e
  behind_others start (first ∷ units) u h e = go (packs_unit s start.stream first) refl (λ next k. behind_others (packed_behind start first next) units u h k)
    where
      none_is : (fault : PackFault) → ◌≡◌ {A = All} (start, Some fault) (h, None) → ⊥
      none_is fault k = (let other = ap (λ (x : All). x.1) k in cc)

      go : (found : Result (Option PackStream) PackFault) → packs_unit s start.stream first ≡ found
          → ((next : Option PackStream) → packed_of s (packed_behind start first next) units ≡ (h, None) → packed_of s (packed_behind start first next) (units ++ u ∷ []) ≡ packed_of s h (u ∷ []))
          → packed_of s start ((first ∷ units) ++ u ∷ []) ≡ packed_of s h (u ∷ [])
      go (Err fault) is rest = absurd (none_is fault (rw is at e))
      go (Ok next) is rest = rw is (rest next (rw is at e))

  -- it is packed
  pub so_far_taken : (units : List DataUnit) (u : DataUnit) (h : PackedSoFar) (next : Option PackStream) → units_packed s units ≡ (h, None) → packs_unit s h.stream u ≡ Ok next → units_packed s (units ++ u ∷ []) ≡ (packed_behind h u next, None)
  unfolding packed_of
  so_far_taken units u h next e t = behind_others nothing_packed units u h e ∙ rw t refl

  -- it isn't
  pub so_far_refused : (units : List DataUnit) (u : DataUnit) (h : PackedSoFar) (fault : PackFault) → units_packed s units ≡ (h, None) → packs_unit s h.stream u ≡ Err fault → units_packed s (units ++ u ∷ []) ≡ (h, Some fault)
  unfolding packed_of
  so_far_refused units u h fault e t = behind_others nothing_packed units u h e ∙ rw t refl

  -- ---- what is written only grows

  abbrev Grows : Option PackStream → Option PackStream → Type 0
  Grows old new = (more : List (List ℕ)) × (stream_packed s new ≡ stream_packed s old ++ more)

  abbrev Step : Type 0
  Step = Result (Option PackStream) PackFault

  ok_is : (a b : Option PackStream) → ◌≡◌ {A = Step} (Ok a) (Ok b) → a ≡ b
  ok_is a b e = cc

  same_grows : (stream new : Option PackStream) → stream_packed s new ≡ stream_packed s stream → Grows stream new
  same_grows stream new e = ([], e ∙ sym (append-nil (stream_packed s stream)))

  -- a header brings no datagram
  pub header_same : (stream : Option PackStream) (body : List ℕ) (read : Result (Sequence × ℕ) HeaderRefusal) (next : Option PackStream) → packs_header stream body read ≡ Ok next → stream_packed s next ≡ stream_packed s stream
  header_same stream body (Err refusal) next e = absurd cc
  header_same None body (Ok read) next e =
      ap (stream_packed s) (sym (ok_is _ next e))
      ∙ none_packed _
      ∙ sym (none_packed (settings_for s None))
  header_same (Some t) body (Ok read) next e = by (same_sequence t.sequence read.0) e
    where
      with : PackStream
      with = record t { header = take read.1 body }

      by : (same : Bool) → cond same (Ok (Some with)) (Err BadUnit) ≡ Ok next → stream_packed s next ≡ stream_packed s (Some t)
      by true e = ap (stream_packed s) (sym (ok_is (Some with) next e))
      by false e = absurd cc

  -- a picture brings its own
  pub picture_more : (t : PackStream) (p : PackedPicture) → stream_packed s (Some (with_packed t p)) ≡ stream_packed s (Some t) ++ next_packed s t p
  picture_more t p = packed_more (settings_for s (Some t)) t.pictures p

  fits_grows : (t : PackStream) (p : PackedPicture) (part : Option LargePart) (next : Option PackStream) → if_it_fits t p part ≡ Ok next → Grows (Some t) next
  fits_grows t p None next e = (next_packed s t p, ap (stream_packed s) (sym (ok_is (Some (with_packed t p)) next e)) ∙ picture_more t p)
  fits_grows t p (Some part) next e = absurd cc

  whole_grows : (t : PackStream) (p : Option PackedPicture) (next : Option PackStream) → if_it_is_whole s t p ≡ Ok next → Grows (Some t) next
  whole_grows t None next e = absurd cc
  whole_grows t (Some p) next e = fits_grows t p (first_large_part (settings_for s (Some t)) p) next e

  picture_grows : (stream : Option PackStream) (body : List ℕ) (next : Option PackStream) → packs_picture s stream body ≡ Ok next → Grows stream next
  picture_grows None body next e = absurd cc
  picture_grows (Some t) body next e = whole_grows t (picture_to_pack t body) next e

  -- a unit that is packed, and what is due for it
  pub packed_grows : (stream next : Option PackStream) (u : DataUnit) → packs_unit s stream u ≡ Ok next → BringsUnit s stream u
  unfolding packs_unit
  packed_grows stream next u e = (let grown = by (u.code == 0) (u.code == 0xE8) (u.code == 0xC8) e in record { next = next; due = grown.0; taken = e; grows = grown.1 })
    where
      by : (header picture low : Bool)
          → cond header (packs_header stream u.body (coded_header u.body))
          (cond picture (packs_picture s stream u.body) (cond low (Err BadUnit) (Ok stream)))
          ≡ Ok next → Grows stream next
      by true picture low e =
          same_grows stream next (header_same stream u.body (coded_header u.body) next e)
      by false true low e = picture_grows stream u.body next e
      by false false true e = absurd cc
      by false false false e = same_grows stream next (ap (stream_packed s) (sym (ok_is stream next e)))

  -- ---- what each kind of unit brings

  module _ (stream : Option PackStream) (u : DataUnit) where
    pub of_header : u.code ≡ 0 → packs_unit s stream u ≡ packs_header stream u.body (coded_header u.body)
    unfolding packs_unit
    of_header e = rw e refl

    pub of_picture : u.code ≡ 0xE8 → packs_unit s stream u ≡ packs_picture s stream u.body
    unfolding packs_unit
    of_picture e = rw e refl

    pub of_low : u.code ≡ 0xC8 → packs_unit s stream u ≡ Err BadUnit
    unfolding packs_unit
    of_low e = rw e refl

    pub of_other : u.code ≢ 0 → u.code ≢ 0xE8 → u.code ≢ 0xC8 → packs_unit s stream u ≡ Ok stream
    unfolding packs_unit
    of_other header picture low =
        rw (ne_eqb u.code 0 header, ne_eqb u.code 0xE8 picture, ne_eqb u.code 0xC8 low) refl

-- ---- the end

abbrev pub end_packed : Packing → Option PackStream → List ℕ
end_packed s stream = packed_end (settings_for s stream) (pictures_packed stream)

pub whole_is : (s : Packing) (stream : Option PackStream) → whole_packed s stream ≡ stream_packed s stream ++ end_packed s stream ∷ []
unfolding packed_stream
whole_is s stream = refl
