-- The pictures of frames, one after another: which of them are a frame's, and that none has a fault.
use Rattle.std.proofs.Common.{◌≡◌, ◌<◌, ℕ, zero, suc, ◌+◌, ◌*◌, Bool, true, false, cond, List, [], ◌∷◌, ◌++◌, length, drop, Some, None, refl, sym, ap, ◌∙◌, arith, slice_get, flat_map, drop-drop, length-append, suc-mul, zero-mul}
use Rattle.std.proofs.lemmas.Grind.{common_steps}
use Rattle.std.proofs.lemmas.List.Concat.{flat_map-cons}
use Rattle.std.proofs.lemmas.Option.{none-some}
use Rattle.link_laws.proofs.SentStream.{both_sound, faultless, count}
use Rattle.link_laws.proofs.SentRuns.{get_behind, get_in_front}
use Rattle.link_model.specs.Sending.{both_fields, pictures_of, pictures_per_frame}
use Rattle.link_model.specs.SendingFaults.{first_slice_fault, send_fault}
use Rattle.vc_types.specs.FieldPairs.{fields_of}
use Rattle.vc_types.specs.Planes.{Planes}
use Rattle.vc_types.specs.SenderSettings.{Sending}

-- ---- the pictures of frames

module _ (s : Sending) where
  -- with frame coding a frame is its picture
  pub one_picture : (frame : Planes) → s.frames.fields ≡ false → pictures_of s frame ≡ frame ∷ []
  unfolding pictures_of
  one_picture frame is = ap (λ (b : Bool). cond b (both_fields (fields_of s.frames.top frame)) (frame ∷ [])) is

  pub two_pictures : (frame : Planes) → s.frames.fields ≡ true → pictures_of s frame ≡ both_fields (fields_of s.frames.top frame)
  unfolding pictures_of
  two_pictures frame is = ap (λ (b : Bool). cond b (both_fields (fields_of s.frames.top frame)) (frame ∷ [])) is

  pub pictures_many : (frame : Planes) → length (pictures_of s frame) ≡ pictures_per_frame s
  unfolding pictures_of
  pictures_many frame = grind arith

  pub some_pictures : 0 < pictures_per_frame s
  some_pictures = grind arith

  pub first_picture_at : (frame : Planes) → (planes : Planes) × (slice_get (pictures_of s frame) 0 ≡ Some planes)
  unfolding pictures_of
  first_picture_at frame = by_coding s.frames.fields
    where
      by_coding : (b : Bool) → (planes : Planes) × (slice_get (cond b (both_fields (fields_of s.frames.top frame)) (frame ∷ [])) 0 ≡ Some planes)
      by_coding true = ((fields_of s.frames.top frame).0, refl)
      by_coding false = (frame, refl)

  abbrev pub all_pictures : List Planes → List Planes
  all_pictures frames = flat_map (pictures_of s) frames

  pub pictures_begin : (frame : Planes) (frames : List Planes) → (planes : Planes) × (more : List Planes) × (all_pictures (frame ∷ frames) ≡ planes ∷ more)
  unfolding pictures_of
  pictures_begin frame frames = by_coding s.frames.fields
    where
      by_coding : (b : Bool) → (planes : Planes) × (more : List Planes) × (cond b (both_fields (fields_of s.frames.top frame)) (frame ∷ []) ++ all_pictures frames ≡ planes ∷ more)
      by_coding true = ((fields_of s.frames.top frame).0, (fields_of s.frames.top frame).1 ∷ all_pictures frames, refl)
      by_coding false = (frame, all_pictures frames, refl)

  -- picture i of frame f
  pub picture_at : (frames : List Planes) (f i : ℕ) (frame : Planes) → slice_get frames f ≡ Some frame → i < pictures_per_frame s → slice_get (all_pictures frames) (f * pictures_per_frame s + i) ≡ slice_get (pictures_of s frame) i
  picture_at [] f i frame at below = absurd (none-some frame at)
  picture_at (own ∷ frames) zero i frame at below = grind (arith, flat_map-cons, get_in_front, pictures_many)
  picture_at (own ∷ frames) (suc f) i frame at below =
      grind (arith, flat_map-cons, get_behind, pictures_many, picture_at frames f i frame at below, suc-mul)

  pub length-all_pictures : (frames : List Planes) → length (all_pictures frames) ≡ length frames * pictures_per_frame s
  length-all_pictures [] = omega arith
  length-all_pictures (frame ∷ frames) =
      grind (
        arith,
        common_steps,
        flat_map-cons,
        length-append,
        pictures_many,
        suc-mul,
        length-all_pictures frames,
      )

  -- ---- none of which has a slice that is too large

  abbrev pub AreFaultless : List ℕ → List Planes → Type 0
  AreFaultless indices frames = (f : ℕ) (frame : Planes) → slice_get frames f ≡ Some frame → send_fault s (drop (f * (pictures_per_frame s * count s)) indices) frame ≡ None

  abbrev per_frame : ℕ
  per_frame = pictures_per_frame s * count s

  pub no_slice_fault : (indices : List ℕ) (frames : List Planes) → AreFaultless indices frames → first_slice_fault s indices (all_pictures frames) ≡ None
  unfolding first_slice_fault
  no_slice_fault indices [] none = refl
  no_slice_fault indices (frame ∷ frames) none =
      let first = faultless s indices frame (ap (λ (n : ℕ). send_fault s (drop n indices) frame) (sym (zero-mul per_frame)) ∙ none 0 frame refl) in
      let rest = no_slice_fault (drop per_frame indices) frames (λ f own at. ap (λ (l : List ℕ). send_fault s l own) (sym (grind (arith, drop-drop, suc-mul))) ∙ none (suc f) own at) in
      grind (arith, both_sound, flat_map-cons, pictures_many)
