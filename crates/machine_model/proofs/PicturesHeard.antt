-- The pictures of sessions that were heard: their numbers rise, each is found in its own session,
-- and as datagrams come those that are let go stay as they are.
use Rattle.std.proofs.Common.{◌≡◌, ℕ, ◌+◌, ◌-◌, ◌<◌, ◌≤◌, Bool, true, false, cond, List, [], ◌∷◌}
use Rattle.std.proofs.Common.{◌++◌, Option, Some, refl, ap, sym, subst, ◌∙◌, arith}
use Rattle.std.specs.Prelude.{◌⊎◌, ◌||◌}
use Rattle.std.specs.List.{flat_map}
use Rattle.std.specs.Option.{option_map_or}
use Rattle.std.proofs.lemmas.Bool.{both_ways}
use Rattle.std.proofs.lemmas.List.{append_assoc, append-nil}
use Rattle.std.proofs.lemmas.List.Concat.{flat_map-append}
use Rattle.std.proofs.lemmas.Option.{none-some}
use Rattle.machine_model.specs.Feeders.{EnteredSession, entered_session, session_opening}
use Rattle.machine_model.specs.Feeders.{heard_pictures, let_go_pictures, is_among}
use Rattle.link_model.specs.Numbers.{Numbered, greatest, least, has_parts, is_opened}
use Rattle.link_model.specs.Numbers.{opened_numbers, span}
use Rattle.link_model.specs.Output.{greatest_of, entered_behind, is_opened_in, is_let_go}
use Rattle.link_model.specs.Output.{let_go_numbers, frame_bytes_at, all_frames, frames_so_far}
use Rattle.link_model.specs.Output.{all_output, last_so_far, IsPrefixOf}
use Rattle.link_model.specs.Session.{HeardSession}
use Rattle.link_model.proofs.Apart.{unopened_above, nothing_below, sessions_apart}
use Rattle.link_model.proofs.Leaving.{last_releases}
use Rattle.link_model.proofs.Numbering.{parts_of-outside}
use Rattle.machine_model.proofs.RisingLists.{Each, IsRising, each_map, each_append, each_front}
use Rattle.machine_model.proofs.RisingLists.{each_passes, filter_rising, range_rising, append_rising}
use Rattle.machine_model.proofs.RisingLists.{among_range, among_filter, same_on}
use Rattle.vc_types.specs.SequenceHeader.{Sequence}

-- ---- the pictures of one session

module _ (es : List Numbered) where
  pub each_opened : Each (λ n. is_opened es n ≡ true) (opened_numbers es)
  unfolding opened_numbers
  each_opened = each_passes (is_opened es) (span (least es) (greatest es))

  pub opened_rising : IsRising (opened_numbers es)
  unfolding opened_numbers
  opened_rising = filter_rising (is_opened es) (span (least es) (greatest es)) (range_rising (least es) (greatest es + 1 - least es))

  not_outside : (n : ℕ) → is_opened es n ≡ true → ((n < least es) ⊎ (greatest es < n)) → ⊥
  not_outside n opened outside = both_ways (is_opened es n) (ap has_parts (parts_of-outside n es outside)) opened

  pub among_opened : (n : ℕ) → is_opened es n ≡ true → is_among (opened_numbers es) n ≡ true
  unfolding opened_numbers
  among_opened n opened = grind (arith, among_filter, among_range, not_outside)

  module _ (window : ℕ) (s : Sequence) where
    pub each_let_go : Each (λ n. is_let_go window s es n ≡ true) (let_go_numbers window s es)
    unfolding let_go_numbers
    each_let_go = each_passes (is_let_go window s es) (opened_numbers es)

    pub let_go_prefix : IsPrefixOf (let_go_numbers window s es) (opened_numbers es)
    let_go_prefix = let left = last_releases window s es in (left.0, left.1)

    pub let_go_opened : Each (λ n. is_opened es n ≡ true) (let_go_numbers window s es)
    let_go_opened = each_front (λ n. is_opened es n ≡ true) (let_go_numbers window s es) let_go_prefix.0
        (subst (Each (λ n. is_opened es n ≡ true)) let_go_prefix.1 each_opened)

    pub among_let_go : (n : ℕ) → is_opened es n ≡ true → is_let_go window s es n ≡ true → is_among (let_go_numbers window s es) n ≡ true
    unfolding let_go_numbers
    among_let_go n opened gone = among_filter (is_let_go window s es) (opened_numbers es) n gone (among_opened n opened)

-- ---- the session of a picture

module _ (window : ℕ) where
  pub session_here : (hs : List HeardSession) (h : HeardSession) (n : ℕ) → is_opened (entered_behind window hs h) n ≡ true → session_opening window (h ∷ hs) n ≡ Some (entered_session window hs h)
  unfolding session_opening
  session_here hs h n opened = ap (λ (b : Bool). cond b (Some (entered_session window hs h)) (session_opening window hs n)) opened

  pub session_before : (hs : List HeardSession) (h : HeardSession) (n : ℕ) → is_opened (entered_behind window hs h) n ≡ false → session_opening window (h ∷ hs) n ≡ session_opening window hs n
  unfolding session_opening
  session_before hs h n unopened = ap (λ (b : Bool). cond b (Some (entered_session window hs h)) (session_opening window hs n)) unopened

  -- each picture of the sessions is opened in one of them
  opened_here : (hs : List HeardSession) (h : HeardSession) (n : ℕ) → is_opened (entered_behind window hs h) n ≡ true → is_opened_in window (h ∷ hs) n ≡ true
  opened_here hs h n opened = ap (λ (b : Bool). b || is_opened_in window hs n) opened

  opened_before : (hs : List HeardSession) (h : HeardSession) (n : ℕ) → is_opened_in window hs n ≡ true → is_opened_in window (h ∷ hs) n ≡ true
  opened_before hs h n was = grind arith

  pub pictures_opened : (hs : List HeardSession) → Each (λ n. is_opened_in window hs n ≡ true) (heard_pictures window hs)
  unfolding heard_pictures
  pictures_opened [] = tt
  pictures_opened (h ∷ hs) =
      grind (
        arith,
        each_append,
        each_map,
        each_opened,
        opened_before,
        opened_here,
        pictures_opened hs,
      )

  module _ (small : window ≤ 8) where
    below_greatest : (hs : List HeardSession) (n : ℕ) → is_opened_in window hs n ≡ true → n ≤ greatest_of window hs
    below_greatest hs n opened = grind (arith, unopened_above)

    above_greatest : (hs : List HeardSession) (h : HeardSession) (n : ℕ) → is_opened (entered_behind window hs h) n ≡ true → greatest_of window hs < n
    above_greatest hs h n opened = grind (arith, nothing_below)

    pub pictures_rising : (hs : List HeardSession) → IsRising (heard_pictures window hs)
    unfolding heard_pictures
    pictures_rising [] = tt
    pictures_rising (h ∷ hs) = append_rising (greatest_of window hs) (heard_pictures window hs) (opened_numbers (entered_behind window hs h))
        (pictures_rising hs) (opened_rising (entered_behind window hs h))
        (each_map (below_greatest hs) (heard_pictures window hs) (pictures_opened hs))
        (each_map (above_greatest hs h) (opened_numbers (entered_behind window hs h)) (each_opened (entered_behind window hs h)))

    pub session_earlier : (hs : List HeardSession) (h : HeardSession) (n : ℕ) → is_opened_in window hs n ≡ true → session_opening window (h ∷ hs) n ≡ session_opening window hs n
    session_earlier hs h n was = session_before hs h n (sessions_apart window hs h n small was)

  pub session_opened : (hs : List HeardSession) (n : ℕ) (e : EnteredSession) → session_opening window hs n ≡ Some e → is_opened_in window hs n ≡ true
  unfolding session_opening
  session_opened [] n e is = absurd (none-some e is)
  session_opened (h ∷ hs) n e is = grind (arith, session_opened hs n e)

-- ---- pictures that are let go

-- the bytes of the frame of which it is the last picture
abbrev pub picture_bytes : ℕ → List HeardSession → ℕ → List ℕ
picture_bytes window hs n = option_map_or (λ (e : EnteredSession). frame_bytes_at e.sequence e.entries n) (session_opening window hs n) []

-- what is written of sessions, before the input has ended or then
abbrev pub written_of : ℕ → Bool → List HeardSession → List ℕ
written_of window true hs = all_output window hs
written_of window false hs = last_so_far window hs

module _ (window : ℕ) where
  -- they begin all pictures
  pub let_go_begins : (ended : Bool) (hs : List HeardSession) → IsPrefixOf (let_go_pictures window ended hs) (heard_pictures window hs)
  unfolding let_go_pictures heard_pictures
  let_go_begins true hs = ([], sym (append-nil (heard_pictures window hs)))
  let_go_begins false [] = ([], refl)
  let_go_begins false (h ∷ hs) =
      let left = let_go_prefix (entered_behind window hs h) window h.session.sequence in
      (left.0, ap (λ (l : List ℕ). heard_pictures window hs ++ l) left.1 ∙ sym (append_assoc (heard_pictures window hs) (let_go_numbers window h.session.sequence (entered_behind window hs h)) left.0))

  pub let_go_in_sessions : (ended : Bool) (hs : List HeardSession) → Each (λ n. is_opened_in window hs n ≡ true) (let_go_pictures window ended hs)
  let_go_in_sessions ended hs = let all = let_go_begins ended hs in
      each_front (λ n. is_opened_in window hs n ≡ true) (let_go_pictures window ended hs) all.0 (subst (Each (λ n. is_opened_in window hs n ≡ true)) all.1 (pictures_opened window hs))

rising_front : (xs ys : List ℕ) → IsRising (xs ++ ys) → IsRising xs
rising_front [] ys rising = tt
rising_front (x ∷ xs) ys rising = (each_front (λ y. x < y) xs ys rising.0, rising_front xs ys rising.1)

module _ (window : ℕ) (small : window ≤ 8) where
  pub let_go_rising : (ended : Bool) (hs : List HeardSession) → IsRising (let_go_pictures window ended hs)
  let_go_rising ended hs = let all = let_go_begins window ended hs in
      rising_front (let_go_pictures window ended hs) all.0 (subst IsRising all.1 (pictures_rising window small hs))

  bytes_earlier : (hs : List HeardSession) (h : HeardSession) → (n : ℕ) → is_opened_in window hs n ≡ true → picture_bytes window (h ∷ hs) n ≡ picture_bytes window hs n
  bytes_earlier hs h n was = ap (λ (o : Option EnteredSession). option_map_or (λ (e : EnteredSession). frame_bytes_at e.sequence e.entries n) o []) (session_earlier window small hs h n was)

  bytes_here : (hs : List HeardSession) (h : HeardSession) → (n : ℕ) → is_opened (entered_behind window hs h) n ≡ true → picture_bytes window (h ∷ hs) n ≡ frame_bytes_at h.session.sequence (entered_behind window hs h) n
  bytes_here hs h n opened = ap (λ (o : Option EnteredSession). option_map_or (λ (e : EnteredSession). frame_bytes_at e.sequence e.entries n) o []) (session_here window hs h n opened)

  -- their bytes are what is written
  all_bytes_written : (hs : List HeardSession) → flat_map (picture_bytes window hs) (heard_pictures window hs) ≡ all_output window hs
  unfolding heard_pictures all_output all_frames
  all_bytes_written [] = refl
  all_bytes_written (h ∷ hs) =
      grind (
        arith,
        bytes_earlier,
        bytes_here,
        each_map,
        each_opened,
        flat_map-append,
        pictures_opened,
        same_on,
        all_bytes_written hs,
      )

  pub let_go_written : (ended : Bool) (hs : List HeardSession) → flat_map (picture_bytes window hs) (let_go_pictures window ended hs) ≡ written_of window ended hs
  unfolding let_go_pictures last_so_far frames_so_far
  let_go_written true hs = all_bytes_written hs
  let_go_written false [] = refl
  let_go_written false (h ∷ hs) =
      let numbers = let_go_numbers window h.session.sequence (entered_behind window hs h) in
      flat_map-append (picture_bytes window (h ∷ hs)) (heard_pictures window hs) numbers
      ∙ ap (λ (l : List ℕ). l ++ flat_map (picture_bytes window (h ∷ hs)) numbers)
      (same_on (picture_bytes window (h ∷ hs)) (picture_bytes window hs) (heard_pictures window hs) (each_map (bytes_earlier hs h) (heard_pictures window hs) (pictures_opened window hs)) ∙ all_bytes_written hs)
      ∙ ap (λ (l : List ℕ). all_output window hs ++ l)
      (same_on (picture_bytes window (h ∷ hs)) (frame_bytes_at h.session.sequence (entered_behind window hs h)) numbers (each_map (bytes_here hs h) numbers (let_go_opened (entered_behind window hs h) window h.session.sequence)))
