-- What every legal event of the machine keeps.
use Rattle.std.proofs.Common.{◌≡◌, ℕ, ◌-◌, ◌%◌, ◌≤◌, Bool, true, false, cond, List, [], ◌∷◌, ◌++◌}
use Rattle.std.proofs.Common.{Option, Some, None, refl, ap, sym, subst, ◌∙◌, arith, eq-eqb}
use Rattle.std.specs.Prelude.{◌||◌, not, is_some}
use Rattle.std.specs.List.{flat_map, list_all}
use Rattle.std.specs.Option.{option_map_or}
use Rattle.std.proofs.lemmas.Bool.{false≢true, both_ways}
use Rattle.std.proofs.lemmas.List.{append_assoc, append-nil}
use Rattle.std.proofs.lemmas.List.Concat.{flat_map-append}
use Rattle.std.proofs.lemmas.Option.{same_Some, none-some}
use Rattle.link_model.specs.Complete.{has_all_slices, slice_numbers}
use Rattle.machine_model.specs.Feeders.{SliceAnswer, EnteredSession, entered_session, session_opening}
use Rattle.machine_model.specs.Feeders.{picture_keeps, kept_job, heard_pictures, let_go_pictures}
use Rattle.machine_model.specs.Feeders.{is_among, not_released, answer_in, is_ready, has_every_answer}
use Rattle.machine_model.specs.Feeding.{built_bytes, built_planes}
use Rattle.machine_model.specs.Interleavings.{AreOwnAnswers, IsOwnAnswer}
use Rattle.link_model.specs.Kept.{Own}
use Rattle.link_model.specs.Numbers.{is_opened, opened_numbers}
use Rattle.link_model.specs.Output.{entered_behind, is_opened_in, is_let_go, let_go_numbers}
use Rattle.link_model.specs.Output.{planes_at, frame_bytes_at}
use Rattle.machine_model.specs.Places.{Job}
use Rattle.link_model.specs.Session.{HeardSession, hears}
use Rattle.link_model.proofs.Apart.{sessions_apart}
use Rattle.machine_model.proofs.BuiltFrames.{built_is, unopened_planes, built_frame}
use Rattle.machine_model.proofs.PicturesHeard.{picture_bytes, pictures_opened, session_here}
use Rattle.machine_model.proofs.PicturesHeard.{session_before, session_earlier, session_opened}
use Rattle.machine_model.proofs.PicturesHeard.{let_go_begins, let_go_in_sessions, let_go_rising}
use Rattle.machine_model.proofs.PicturesHeard.{among_opened, among_let_go, each_let_go}
use Rattle.machine_model.proofs.PicturesStay.{Stays, goes_on, stays, let_go_grows, job_goes_on}
use Rattle.machine_model.proofs.PicturesStay.{ready_stays, each_and}
use Rattle.link_model.proofs.Releasing.{let_go_before}
use Rattle.machine_model.proofs.RisingLists.{Each, IsRising, each_map, each_append, each_front}
use Rattle.machine_model.proofs.RisingLists.{among_each, among_front, among_back, among_before}
use Rattle.machine_model.proofs.RisingLists.{not_released_is, same_on}

-- ---- the session of a picture, and of its neighbour

module _ (window : ℕ) where
  pub opened_session : (hs : List HeardSession) (n : ℕ) → is_opened_in window hs n ≡ true → (e : EnteredSession) × (session_opening window hs n ≡ Some e)
  opened_session [] n e = absurd (false≢true e)
  opened_session (h ∷ hs) n e = by_here (is_opened (entered_behind window hs h) n) refl e (opened_session hs n)
    where
      by_here : (b : Bool) → is_opened (entered_behind window hs h) n ≡ b → b || is_opened_in window hs n ≡ true
          → (is_opened_in window hs n ≡ true → (e : EnteredSession) × (session_opening window hs n ≡ Some e)) → (e : EnteredSession) × (session_opening window (h ∷ hs) n ≡ Some e)
      by_here true is e rest = (entered_session window hs h, session_here window hs h n is)
      by_here false is e rest = let before = rest e in (before.0, session_before window hs h n is ∙ before.1)

  module _ (small : window ≤ 8) where
    abbrev Beside : List HeardSession → ℕ → EnteredSession → Type 0
    Beside hs k e = (session_opening window hs k ≡ Some e) × (is_among (heard_pictures window hs) k ≡ true)

    beside_in : (hs : List HeardSession) (n k : ℕ) (e : EnteredSession) → session_opening window hs n ≡ Some e → is_opened e.entries k ≡ true → Beside hs k e
    unfolding session_opening heard_pictures
    beside_in [] n k e found opened = absurd (none-some e found)
    beside_in (h ∷ hs) n k e found opened = by_here (is_opened (entered_behind window hs h) n) refl found (λ before. beside_in hs n k e before opened)
      where
        by_here : (b : Bool) → is_opened (entered_behind window hs h) n ≡ b → cond b (Some (entered_session window hs h)) (session_opening window hs n) ≡ Some e
            → (session_opening window hs n ≡ Some e → Beside hs k e) → Beside (h ∷ hs) k e
        by_here true is found rest = grind (arith, session_here, among_back, among_opened)
        by_here false is found rest = let before = rest found in (
          session_earlier window small hs h k (session_opened window hs k e before.0) ∙ before.0,
          among_front (heard_pictures window hs) (opened_numbers (entered_behind window hs h)) k before.1,
        )

    -- the picture before one that is let go, in its session, is let go too
    pub beside : (ended : Bool) (hs : List HeardSession) (n k : ℕ) (e : EnteredSession) → session_opening window hs n ≡ Some e → is_opened e.entries k ≡ true → k ≤ n
        → is_among (let_go_pictures window ended hs) n ≡ true → (session_opening window hs k ≡ Some e) × (is_among (let_go_pictures window ended hs) k ≡ true)
    unfolding let_go_pictures session_opening
    beside true hs n k e found opened less among = beside_in hs n k e found opened
    beside false [] n k e found opened less among = absurd (none-some e found)
    beside false (h ∷ hs) n k e found opened less among = by_here (is_opened (entered_behind window hs h) n) refl found
      where
        gone : is_opened (entered_behind window hs h) n ≡ true → is_let_go window h.session.sequence (entered_behind window hs h) n ≡ true
        gone = among_each (λ m. is_opened (entered_behind window hs h) m ≡ true → is_let_go window h.session.sequence (entered_behind window hs h) m ≡ true)
            (heard_pictures window hs ++ let_go_numbers window h.session.sequence (entered_behind window hs h)) n
            (each_append (λ m. is_opened (entered_behind window hs h) m ≡ true → is_let_go window h.session.sequence (entered_behind window hs h) m ≡ true)
            (heard_pictures window hs) (let_go_numbers window h.session.sequence (entered_behind window hs h))
            (each_map (λ m was here. absurd (both_ways (is_opened (entered_behind window hs h) m) (sessions_apart window hs h m small was) here)) (heard_pictures window hs) (pictures_opened window hs))
            (each_map (λ m g here. g) (let_go_numbers window h.session.sequence (entered_behind window hs h)) (each_let_go (entered_behind window hs h) window h.session.sequence)))
            among

        by_here : (b : Bool) → is_opened (entered_behind window hs h) n ≡ b → cond b (Some (entered_session window hs h)) (session_opening window hs n) ≡ Some e
            → (session_opening window (h ∷ hs) k ≡ Some e) × (is_among (heard_pictures window hs ++ let_go_numbers window h.session.sequence (entered_behind window hs h)) k ≡ true)
        by_here true is found = grind (arith, session_here, among_back, among_let_go, let_go_before, gone)
        by_here false is found = let before = beside_in hs n k e found opened in (
          session_earlier window small hs h k (session_opened window hs k e before.0) ∙ before.0,
          among_front (heard_pictures window hs) (let_go_numbers window h.session.sequence (entered_behind window hs h)) k before.1,
        )

-- ---- what is kept of a feeder

pub record Holds (window : ℕ) (hs : List HeardSession) (ended : Bool) (decoded : List SliceAnswer)
    (released written : List ℕ) : Type 0 where
  pub answers : AreOwnAnswers window hs decoded
  pub rest : List ℕ
  pub order : let_go_pictures window ended hs ≡ released ++ rest
  pub ready : Each (λ n. is_ready decoded n (picture_keeps window hs n) ≡ true) released
  pub bytes : written ≡ flat_map (picture_bytes window hs) released

pub new_holds : (window : ℕ) → Holds window [] false [] [] []
unfolding let_go_pictures
new_holds window = record { answers = tt; rest = []; order = refl; ready = tt; bytes = refl }

-- one answer more leaves the others
module _ (x : SliceAnswer) (decoded : List SliceAnswer) (n : ℕ) where
  still_answered : (is : List ℕ) → list_all (λ i. is_some (answer_in decoded n i)) is ≡ true → list_all (λ i. is_some (answer_in (x ∷ decoded) n i)) is ≡ true
  still_answered [] e = refl
  still_answered (i ∷ is) e = grind (arith, still_answered is)

  still_ready : (o : Option Own) → is_ready decoded n o ≡ true → is_ready (x ∷ decoded) n o ≡ true
  still_ready None e = refl
  still_ready (Some kept) e = by_all (has_all_slices kept) e
    where
      by_all : (b : Bool) → not b || has_every_answer decoded n kept ≡ true → not b || has_every_answer (x ∷ decoded) n kept ≡ true
      by_all true e = still_answered (slice_numbers kept) e
      by_all false e = refl

own_answers_stay : (window : ℕ) (old new : List HeardSession) (decoded : List SliceAnswer) → ((n i : ℕ) (job : Job) → kept_job window old n i ≡ Some job → kept_job window new n i ≡ Some job)
    → AreOwnAnswers window old decoded → AreOwnAnswers window new decoded
own_answers_stay window old new [] on own = tt
own_answers_stay window old new (a ∷ decoded) on own = ((own.0.0, on a.number a.index own.0.0 own.0.1, own.0.2), own_answers_stay window old new decoded on own.1)

module _ (window : ℕ) (small : window ≤ 8) (hs : List HeardSession) (decoded : List SliceAnswer) (released written : List ℕ) where
  -- ---- a datagram, and the end

  abbrev Facts : List HeardSession → ℕ → Type 0
  Facts new n = ((is_ready decoded n (picture_keeps window hs n) ≡ true) × Stays window hs new n) × (is_opened_in window hs n ≡ true)

  bytes_stay : (new : List HeardSession) (n : ℕ) → Facts new n → picture_bytes window new n ≡ picture_bytes window hs n
  bytes_stay new n f =
      let e = opened_session window hs n f.1 in
      let gone = f.0.1 e.0 e.1 in
      ap (λ (o : Option EnteredSession). option_map_or (λ (e : EnteredSession). frame_bytes_at e.sequence e.entries n) o []) gone.session
      ∙ gone.bytes
      ∙ sym (ap (λ (o : Option EnteredSession). option_map_or (λ (e : EnteredSession). frame_bytes_at e.sequence e.entries n) o []) e.1)

  still_ready_then : (new : List HeardSession) (n : ℕ) → Facts new n → is_ready decoded n (picture_keeps window new n) ≡ true
  still_ready_then new n f = let e = opened_session window hs n f.1 in ready_stays window decoded hs new n f.0.1 e.0 e.1 f.0.0

  pub hears_holds : (d : List ℕ) → Holds window hs false decoded released written → Holds window (hears hs d) false decoded released written
  hears_holds d holds =
      let new = hears hs d in
      let more = let_go_grows window hs d in
      let facts : Each (Facts new) released =
      each_and (λ n. (is_ready decoded n (picture_keeps window hs n) ≡ true) × Stays window hs new n) (λ n. is_opened_in window hs n ≡ true) released
      (each_and (λ n. is_ready decoded n (picture_keeps window hs n) ≡ true) (Stays window hs new) released holds.ready
      (each_front (Stays window hs new) released holds.rest (subst (Each (Stays window hs new)) holds.order (stays window small hs d))))
      (each_front (λ n. is_opened_in window hs n ≡ true) released holds.rest (subst (Each (λ n. is_opened_in window hs n ≡ true)) holds.order (let_go_in_sessions window false hs))) in
      record {
        answers = own_answers_stay window hs new decoded (λ n i job kept. job_goes_on window hs new n i job (goes_on window small hs d n) kept) holds.answers;
        rest = holds.rest ++ more.0;
        order = more.1 ∙ ap (λ (l : List ℕ). l ++ more.0) holds.order ∙ append_assoc released holds.rest more.0;
        ready = each_map (still_ready_then new) released facts;
        bytes = holds.bytes ∙ sym (same_on (picture_bytes window new) (picture_bytes window hs) released (each_map (bytes_stay new) released facts));
      }

  module _ (ended : Bool) (holds : Holds window hs ended decoded released written) where
    pub finish_holds : Holds window hs true decoded released written
    unfolding let_go_pictures
    finish_holds = let all = let_go_begins window ended hs in record {
      answers = holds.answers;
      rest = holds.rest ++ all.0;
      order = all.1 ∙ ap (λ (l : List ℕ). l ++ all.0) holds.order ∙ append_assoc released holds.rest all.0;
      ready = holds.ready;
      bytes = holds.bytes;
    }

    -- ---- an answer

    pub answer_holds : (x : SliceAnswer) → IsOwnAnswer window hs x → Holds window hs ended (x ∷ decoded) released written
    answer_holds x own = grind (arith, each_map, still_ready)

    -- ---- a release

    pub left : not_released released (let_go_pictures window ended hs) ≡ holds.rest
    left = ap (not_released released) holds.order ∙ not_released_is released holds.rest (subst IsRising holds.order (let_go_rising window small ended hs))

    module _ (n : ℕ) (more : List ℕ) (first : holds.rest ≡ n ∷ more) (here : is_ready decoded n (picture_keeps window hs n) ≡ true) where
      order_now : let_go_pictures window ended hs ≡ released ++ n ∷ more
      order_now = holds.order ∙ ap (λ (l : List ℕ). released ++ l) first

      among_now : is_among (let_go_pictures window ended hs) n ≡ true
      among_now = ap (λ (l : List ℕ). is_among l n) order_now ∙ among_back released (n ∷ more) n (ap (λ (b : Bool). b || is_among more n) (eq-eqb n n refl))

      opened_now : is_opened_in window hs n ≡ true
      opened_now = among_each (λ n. is_opened_in window hs n ≡ true) (let_go_pictures window ended hs) n (let_go_in_sessions window ended hs) among_now

      module _ (e : EnteredSession) (found : session_opening window hs n ≡ Some e) where
        before : n % 2 ≡ 1 → built_planes decoded e (n - 1) ≡ planes_at e.sequence e.entries (n - 1)
        before odd = by_opened (is_opened e.entries (n - 1)) refl
          where
            by_opened : (b : Bool) → is_opened e.entries (n - 1) ≡ b → built_planes decoded e (n - 1) ≡ planes_at e.sequence e.entries (n - 1)
            by_opened false unopened = unopened_planes decoded e (n - 1) unopened
            by_opened true opened =
                let near = beside window small ended hs n (n - 1) e found opened (omega arith) among_now in
                let among = among_before released more n (n - 1) (subst IsRising order_now (let_go_rising window small ended hs)) (omega (arith, odd)) (ap (λ (l : List ℕ). is_among l (n - 1)) (sym order_now) ∙ near.1) in
                built_is window hs decoded holds.answers (n - 1) e near.0 (among_each (λ k. is_ready decoded k (picture_keeps window hs k) ≡ true) released (n - 1) holds.ready among)

        frame_is : built_bytes decoded n e ≡ frame_bytes_at e.sequence e.entries n
        frame_is = built_frame decoded e n (built_is window hs decoded holds.answers n e found here) before

      bytes_now : option_map_or (built_bytes decoded n) (session_opening window hs n) [] ≡ picture_bytes window hs n
      bytes_now = grind (arith, frame_is, opened_now, opened_session)

      pub release_holds : Holds window hs ended decoded (released ++ n ∷ []) (written ++ option_map_or (built_bytes decoded n) (session_opening window hs n) [])
      release_holds = record {
        answers = holds.answers;
        rest = more;
        order = order_now ∙ sym (append_assoc released (n ∷ []) more);
        ready = each_append (λ n. is_ready decoded n (picture_keeps window hs n) ≡ true) released (n ∷ []) holds.ready (here, tt);
        bytes =
            ap (λ (l : List ℕ). l ++ option_map_or (built_bytes decoded n) (session_opening window hs n) []) holds.bytes
            ∙ ap (λ (l : List ℕ). flat_map (picture_bytes window hs) released ++ l) (bytes_now ∙ sym (append-nil (picture_bytes window hs n)))
            ∙ sym (flat_map-append (picture_bytes window hs) released (n ∷ []));
      }
