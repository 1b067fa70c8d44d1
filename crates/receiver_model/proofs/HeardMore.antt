-- What stays as a datagram more is heard, and which pictures are the last session's.
use Rattle.std.proofs.Common.{cond, Bool, ◌≡◌, ℕ, ◌≤◌, true, false, refl, ap, sym}
use Rattle.std.proofs.Common.{List, [], ◌∷◌, Option, Some, None, ◌∙◌, arith}
use Rattle.std.specs.Prelude.{◌⊎◌}
use Rattle.std.specs.List.{range_with_len}
use Rattle.std.specs.Option.{option_and_then, option_map}
use Rattle.std.proofs.lemmas.Option.{none-some}
use Rattle.machine_model.specs.Feeders.{SliceAnswer, session_opening, entered_session, picture_keeps}
use Rattle.machine_model.specs.Feeders.{heard_pictures, is_among}
use Rattle.machine_model.specs.Feeding.{planes_by, sound_answers}
use Rattle.link_model.specs.Kept.{Own, KeptParameters}
use Rattle.link_model.specs.Numbers.{Numbered, is_opened}
use Rattle.link_model.specs.Output.{full_output, output_so_far, entered_behind}
use Rattle.link_model.specs.Session.{HeardSession, hears}
use Rattle.link_model.proofs.Apart.{sessions_apart}
use Rattle.vc_types.specs.Planes.{Planes, planes_of}
use Rattle.vc_types.specs.Subbands.{slice_count}
use Rattle.receiver_model.specs.Receptions.{PictureAnswers}
use Rattle.receiver_model.specs.Standing.{HasSlots}
use Rattle.machine_model.specs.Interleavings.{AreOwnAnswers}
use Rattle.receiver_model.specs.Standing.{answered_planes}
use Rattle.receiver_model.proofs.SessionPictures.{pictures_among, session_last, session_before}
use Rattle.receiver_model.proofs.SessionPictures.{session_none, job_stays, picture_keeps_on}

-- what is written of what was heard
abbrev pub written_of : ℕ → Bool → List (List ℕ) → List ℕ
written_of size over datagrams =
    cond over (full_output size datagrams) (output_so_far size datagrams)

-- ---- what stays as a datagram more is heard

module _ (size : ℕ) (small : size ≤ 8) (hs : List HeardSession) (d : List ℕ) where
  pub own_stays : (decoded : List SliceAnswer) → AreOwnAnswers size hs decoded
      → AreOwnAnswers size (hears hs d) decoded
  own_stays [] own = tt
  own_stays (a ∷ rest) own = grind (arith, job_stays, own_stays rest own.1)

  pub room_stays : (n : ℕ) (o : Option PictureAnswers) → HasSlots size hs n o
      → HasSlots size (hears hs d) n o
  room_stays n None room = tt
  room_stays n (Some a) room =
      let later = picture_keeps_on size small n room.0 hs d room.1 in (
        later.0,
        later.1,
        room.2 ∙ ap (λ (plan : KeptParameters). plan.parameters) (sym later.2.plan),
        room.3
            ∙ ap (λ (plan : KeptParameters). slice_count plan.parameters) (sym later.2.plan),
      )

  pub planes_stay : (decoded : List SliceAnswer) (n : ℕ) (planes : Planes)
      → answered_planes size hs decoded n ≡ Some planes
      → answered_planes size (hears hs d) decoded n ≡ Some planes
  planes_stay decoded n planes is = by_kept (picture_keeps size hs n) refl is
    where
      by_kept : (o : Option Own) → picture_keeps size hs n ≡ o
          → option_and_then (planes_by decoded n) o ≡ Some planes
          → answered_planes size (hears hs d) decoded n ≡ Some planes
      by_kept None at e = absurd (none-some planes e)
      by_kept (Some kept) at e =
          let later = picture_keeps_on size small n kept hs d at in
          ap (option_and_then (planes_by decoded n)) later.1
          ∙ ap (λ (plan : KeptParameters). option_map (planes_of plan.parameters)
          (sound_answers decoded n (range_with_len 0 (slice_count plan.parameters)))) later.2.plan
          ∙ e

-- ---- the pictures of the last session

module _ (size : ℕ) (h : HeardSession) (hs : List HeardSession) where
  abbrev pub es_of : List Numbered
  es_of = entered_behind size hs h

  pub of_last : (n : ℕ) → is_opened es_of n ≡ true
      → session_opening size (h ∷ hs) n ≡ Some (entered_session size hs h)
  of_last n opened = session_last size h hs n opened

  pub of_others : (n : ℕ) → is_opened es_of n ≡ false
      → (is_among (heard_pictures size hs) n ≡ true) ⊎ (session_opening size (h ∷ hs) n ≡ None)
  of_others n shut = grind (arith, pictures_among, session_before, session_none)

  pub not_before : size ≤ 8 → (n : ℕ) → is_opened es_of n ≡ true
      → is_among (heard_pictures size hs) n ≡ false
  not_before small n opened = grind (arith, pictures_among, sessions_apart)
