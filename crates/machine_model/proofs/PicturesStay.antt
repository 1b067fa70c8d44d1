-- As datagrams come, what a picture keeps stays kept, and a picture that is let go stays as it is.
use Rattle.std.proofs.Common.{◌≡◌, ℕ, ◌≤◌, Bool, true, false, List, [], ◌∷◌, ◌++◌, Option, Some}
use Rattle.std.proofs.Common.{None, refl, ap, sym, ◌∙◌, arith, inl, inr}
use Rattle.std.specs.Prelude.{◌⊎◌, ◌||◌, not, filter_map}
use Rattle.std.specs.Option.{option_map_or, option_and_then, option_map}
use Rattle.std.proofs.Math.Bool.{or-true}
use Rattle.std.proofs.lemmas.List.{append_assoc}
use Rattle.std.proofs.lemmas.Option.{same_Some, none-some}
use Rattle.link_model.specs.Complete.{has_all_slices, whole_picture}
use Rattle.machine_model.specs.Feeders.{EnteredSession, session_opening, keeps_of}
use Rattle.machine_model.specs.Feeders.{picture_keeps, SliceAnswer, has_every_answer, is_ready}
use Rattle.machine_model.specs.Feeders.{kept_job, job_with, heard_pictures, let_go_pictures}
use Rattle.link_model.specs.Kept.{Own, own, own_slice}
use Rattle.link_model.specs.Numbers.{Numbered, base_above, has_parts, is_opened, parts_of}
use Rattle.link_model.specs.Output.{greatest_of, entered_behind, is_opened_in, is_let_go}
use Rattle.link_model.specs.Output.{let_go_numbers, complete_at, frame_bytes_at, IsPrefixOf}
use Rattle.machine_model.specs.Places.{Job}
use Rattle.link_model.specs.Session.{Session, HeardSession, just_opened, opens_next, with_datagram}
use Rattle.link_model.specs.Session.{last_with, hears, begins, fragment_in}
use Rattle.link_model.proofs.Keeping.{grown, own-append, slice_stays}
use Rattle.link_model.proofs.Growing.{begins_behind}
use Rattle.link_model.proofs.Leaving.{has_more, let_go_numbers_grow}
use Rattle.link_model.proofs.Numbering.{Follows, follows_itself, entered_follows}
use Rattle.link_model.proofs.Releasing.{frame_same, let_go_at}
use Rattle.machine_model.proofs.PicturesHeard.{pictures_opened, session_here, session_before}
use Rattle.machine_model.proofs.PicturesHeard.{session_earlier, session_opened, let_go_begins}
use Rattle.machine_model.proofs.PicturesHeard.{let_go_in_sessions, each_let_go, let_go_opened}
use Rattle.machine_model.proofs.RisingLists.{Each, each_map, each_append}
use Rattle.vc_types.specs.SequenceHeader.{Sequence}

-- ---- lists

pub each_and : (P Q : ℕ → Type 0) (xs : List ℕ) → Each P xs → Each Q xs → Each (λ n. P n × Q n) xs
each_and P Q [] a b = tt
each_and P Q (x ∷ xs) a b = ((a.0, b.0), each_and P Q xs a.1 b.1)

begins_longer : (a b more : List ℕ) → IsPrefixOf a b → IsPrefixOf a (b ++ more)
begins_longer a b more begins = (begins.0 ++ more, ap (λ (l : List ℕ). l ++ more) begins.1 ∙ append_assoc a begins.0 more)

-- ---- one session, with later entries

abbrev pub with_entries : EnteredSession → List Numbered → EnteredSession
with_entries e es = record { sequence = e.sequence; entries = es }

-- the parts of a picture that is let go are all that it ever has, or it is complete
abbrev pub IsSettled : EnteredSession → List Numbered → ℕ → Type 0
IsSettled e es n = (parts_of n es ≡ parts_of n e.entries) ⊎ (complete_at e.sequence e.entries n ≡ true)

module _ (window : ℕ) where
  still_opened : (old new : List Numbered) (n : ℕ) → Follows window old new → is_opened old n ≡ true → is_opened new n ≡ true
  still_opened old new n later opened = ap has_parts (later.adds n).1 ∙ has_more (parts_of n old) (later.adds n).0 opened

  settled : (e : EnteredSession) (es : List Numbered) (n : ℕ) → Follows window e.entries es → is_let_go window e.sequence e.entries n ≡ true → IsSettled e es n
  settled e es n later gone = grind (arith, let_go_at)

  -- a picture's session goes on
  abbrev pub GoesOn : List HeardSession → List HeardSession → ℕ → Type 0
  GoesOn old new n = (e : EnteredSession) → session_opening window old n ≡ Some e
      → (es : List Numbered) × (session_opening window new n ≡ Some (with_entries e es)) × Follows window e.entries es

  -- and a picture that is let go stays as it is
  pub record Gone (new : List HeardSession) (n : ℕ) (e : EnteredSession) : Type 0 where
    pub entries : List Numbered
    pub follows : Follows window e.entries entries
    pub session : session_opening window new n ≡ Some (with_entries e entries)
    pub bytes : frame_bytes_at e.sequence entries n ≡ frame_bytes_at e.sequence e.entries n
    pub settled : IsSettled e entries n

  abbrev pub Stays : List HeardSession → List HeardSession → ℕ → Type 0
  Stays old new n = (e : EnteredSession) → session_opening window old n ≡ Some e → Gone new n e

  same_goes_on : (old new : List HeardSession) (n : ℕ) → session_opening window new n ≡ session_opening window old n → GoesOn old new n
  same_goes_on old new n same e is = (e.entries, same ∙ is, follows_itself window e.entries)

  same_stays : (old new : List HeardSession) (n : ℕ) → session_opening window new n ≡ session_opening window old n → Stays old new n
  same_stays old new n same e is = record { entries = e.entries; follows = follows_itself window e.entries; session = same ∙ is; bytes = refl; settled = inl refl }

  module _ (hs : List HeardSession) (h : HeardSession) (d : List ℕ) where
    abbrev before : List Numbered
    before = entered_behind window hs h

    abbrev behind : List Numbered
    behind = entered_behind window hs (with_datagram h d)

    follows : Follows window before behind
    follows = entered_follows (base_above (greatest_of window hs)) window h.fragments (filter_map (fragment_in h.session) (d ∷ []))

    -- a picture of this session
    here_goes_on : (n : ℕ) → is_opened before n ≡ true → GoesOn (h ∷ hs) (with_datagram h d ∷ hs) n
    here_goes_on n opened e is = grind (arith, follows, session_here, still_opened)

    here_stays : (n : ℕ) → (is_opened before n ≡ true) × (is_let_go window h.session.sequence before n ≡ true) → Stays (h ∷ hs) (with_datagram h d ∷ hs) n
    here_stays n both e is = grind (arith, follows, frame_same, session_here, settled, still_opened)

-- ---- a datagram more

module _ (window : ℕ) (small : window ≤ 8) where
  earlier_same : (hs : List HeardSession) (h g : HeardSession) (n : ℕ) → is_opened_in window hs n ≡ true → session_opening window (g ∷ hs) n ≡ session_opening window (h ∷ hs) n
  earlier_same hs h g n was = session_earlier window small hs g n was ∙ sym (session_earlier window small hs h n was)

  last_goes_on : (hs : List HeardSession) (d : List ℕ) (n : ℕ) → GoesOn window hs (last_with hs d) n
  last_goes_on [] d n e is = same_goes_on window [] [] n refl e is
  last_goes_on (h ∷ hs) d n e is =
      grind (arith, earlier_same, here_goes_on, same_goes_on, session_before, session_opened)

  pub goes_on : (hs : List HeardSession) (d : List ℕ) (n : ℕ) → GoesOn window hs (hears hs d) n
  unfolding hears
  goes_on hs d n e is = by_next (opens_next hs (begins d))
    where
      by_next : (o : Option Session) → (es : List Numbered) × (session_opening window (option_map_or (λ s. just_opened s ∷ hs) o (last_with hs d)) n ≡ Some (with_entries e es)) × Follows window e.entries es
      by_next None = last_goes_on hs d n e is
      by_next (Some s) = same_goes_on window hs (just_opened s ∷ hs) n (session_earlier window small hs (just_opened s) n (session_opened window hs n e is)) e is

  last_stays : (hs : List HeardSession) (d : List ℕ) → Each (Stays window hs (last_with hs d)) (let_go_pictures window false hs)
  unfolding let_go_pictures
  last_stays [] d = tt
  last_stays (h ∷ hs) d =
      let es = entered_behind window hs h in
      let numbers = let_go_numbers window h.session.sequence es in
      each_append (Stays window (h ∷ hs) (with_datagram h d ∷ hs)) (heard_pictures window hs) numbers
      (each_map (λ n was. same_stays window (h ∷ hs) (with_datagram h d ∷ hs) n (earlier_same hs h (with_datagram h d) n was)) (heard_pictures window hs) (pictures_opened window hs))
      (each_map (here_stays window hs h d) numbers (each_and (λ n. is_opened es n ≡ true) (λ n. is_let_go window h.session.sequence es n ≡ true) numbers (let_go_opened es window h.session.sequence) (each_let_go es window h.session.sequence)))

  pub stays : (hs : List HeardSession) (d : List ℕ) → Each (Stays window hs (hears hs d)) (let_go_pictures window false hs)
  unfolding hears
  stays hs d = by_next (opens_next hs (begins d))
    where
      by_next : (o : Option Session) → Each (Stays window hs (option_map_or (λ s. just_opened s ∷ hs) o (last_with hs d))) (let_go_pictures window false hs)
      by_next None = last_stays hs d
      by_next (Some s) = each_map (λ n was. same_stays window hs (just_opened s ∷ hs) n (session_earlier window small hs (just_opened s) n was)) (let_go_pictures window false hs) (let_go_in_sessions window false hs)

module _ (window : ℕ) where
  last_let_go : (hs : List HeardSession) (d : List ℕ) → IsPrefixOf (let_go_pictures window false hs) (let_go_pictures window false (last_with hs d))
  unfolding let_go_pictures
  last_let_go [] d = ([], refl)
  last_let_go (h ∷ hs) d = begins_behind (heard_pictures window hs) (let_go_numbers window h.session.sequence (entered_behind window hs h)) (let_go_numbers window h.session.sequence (entered_behind window hs (with_datagram h d)))
      (let_go_numbers_grow window h.session.sequence (entered_behind window hs h) (entered_behind window hs (with_datagram h d)) (entered_follows (base_above (greatest_of window hs)) window h.fragments (filter_map (fragment_in h.session) (d ∷ []))))

  -- what is let go later stands after what is let go now
  pub let_go_grows : (hs : List HeardSession) (d : List ℕ) → IsPrefixOf (let_go_pictures window false hs) (let_go_pictures window false (hears hs d))
  unfolding hears let_go_pictures
  let_go_grows hs d = by_next (opens_next hs (begins d))
    where
      by_next : (o : Option Session) → IsPrefixOf (let_go_pictures window false hs) (let_go_pictures window false (option_map_or (λ s. just_opened s ∷ hs) o (last_with hs d)))
      by_next None = last_let_go hs d
      by_next (Some s) = begins_longer (let_go_pictures window false hs) (heard_pictures window hs) (let_go_numbers window s.sequence (entered_behind window hs (just_opened s))) (let_go_begins window false hs)

-- ---- what is kept

pub some_after : {A B : Type 0} (f : A → Option B) (o : Option A) (b : B) → option_and_then f o ≡ Some b → (a : A) × (o ≡ Some a) × (f a ≡ Some b)
some_after f None b e = absurd (none-some b e)
some_after f (Some a) b e = (a, refl, e)

some_map : {A B : Type 0} (f : A → B) (o : Option A) (b : B) → option_map f o ≡ Some b → (a : A) × (o ≡ Some a) × (f a ≡ b)
some_map f None b e = absurd (none-some b e)
some_map f (Some a) b e = (a, refl, same_Some (f a) b e)

-- the session, what the picture keeps, and the bytes of a kept slice
pub record KeptSlice (window : ℕ) (hs : List HeardSession) (n i : ℕ) (job : Job) : Type 0 where
  pub session : EnteredSession
  pub found : session_opening window hs n ≡ Some session
  pub kept : Own
  pub keeps : keeps_of session n ≡ Some kept
  pub bytes : List ℕ
  pub slice : own_slice kept i ≡ Some bytes
  pub is : job_with kept n i bytes ≡ job

module _ (window : ℕ) where
  pub kept_slice : (hs : List HeardSession) (n i : ℕ) (job : Job) → kept_job window hs n i ≡ Some job → KeptSlice window hs n i job
  unfolding kept_job
  kept_slice hs n i job e = grind (arith, some_after, some_map)

  pub job_of_kept : (hs : List HeardSession) (n i : ℕ) (e : EnteredSession) (kept : Own) (bytes : List ℕ) → session_opening window hs n ≡ Some e → keeps_of e n ≡ Some kept → own_slice kept i ≡ Some bytes
      → kept_job window hs n i ≡ Some (job_with kept n i bytes)
  unfolding kept_job
  job_of_kept hs n i e kept bytes found keeps slice = grind arith

  -- a job that is kept stays kept
  pub job_goes_on : (old new : List HeardSession) (n i : ℕ) (job : Job) → GoesOn window old new n → kept_job window old n i ≡ Some job → kept_job window new n i ≡ Some job
  job_goes_on old new n i job on e =
      let k = kept_slice old n i job e in
      let later = on k.session k.found in
      let more = later.2.adds n in
      let longer : keeps_of (with_entries k.session later.0) n ≡ Some (grown more.0 k.kept) = ap (own k.session.sequence) more.1 ∙ own-append k.session.sequence (parts_of n k.session.entries) more.0 k.kept k.keeps in
      job_of_kept new n i (with_entries k.session later.0) (grown more.0 k.kept) k.bytes later.1 longer (slice_stays more.0 k.kept i k.bytes k.slice) ∙ ap Some k.is

-- ---- pictures that are ready stay so

complete_own : (s : Sequence) (es : List Numbered) (n : ℕ) → complete_at s es n ≡ true → (kept : Own) × (own s (parts_of n es) ≡ Some kept) × (has_all_slices kept ≡ true)
unfolding complete_at whole_picture
complete_own s es n e = grind arith

module _ (window : ℕ) (decoded : List SliceAnswer) where
  keeps_found : (hs : List HeardSession) (n : ℕ) (e : EnteredSession) → session_opening window hs n ≡ Some e → picture_keeps window hs n ≡ keeps_of e n
  keeps_found hs n e found = ap (option_and_then (λ (e : EnteredSession). keeps_of e n)) found

  pub ready_stays : (old new : List HeardSession) (n : ℕ) → Stays window old new n → (e : EnteredSession) → session_opening window old n ≡ Some e
      → is_ready decoded n (picture_keeps window old n) ≡ true → is_ready decoded n (picture_keeps window new n) ≡ true
  ready_stays old new n stays e found ready =
      let gone = stays e found in
      by_settled gone (keeps_found old n e found) (keeps_found new n (with_entries e gone.entries) gone.session) gone.settled
    where
      by_settled : (gone : Gone window new n e) → picture_keeps window old n ≡ keeps_of e n → picture_keeps window new n ≡ keeps_of (with_entries e gone.entries) n → IsSettled e gone.entries n → is_ready decoded n (picture_keeps window new n) ≡ true
      by_settled gone was is (inl same) = ap (is_ready decoded n) (is ∙ ap (own e.sequence) same ∙ sym was) ∙ ready
      by_settled gone was is (inr complete) =
          let k = complete_own e.sequence e.entries n complete in
          let all : has_every_answer decoded n k.0 ≡ true = ap (λ (b : Bool). not b || has_every_answer decoded n k.0) (sym k.2) ∙ ap (is_ready decoded n) (sym (was ∙ k.1)) ∙ ready in
          let more = gone.follows.adds n in
          let longer : keeps_of (with_entries e gone.entries) n ≡ Some (grown more.0 k.0) = ap (own e.sequence) more.1 ∙ own-append e.sequence (parts_of n e.entries) more.0 k.0 k.1 in
          ap (is_ready decoded n) (is ∙ longer) ∙ ap (λ (b : Bool). not (has_all_slices (grown more.0 k.0)) || b) all ∙ or-true (not (has_all_slices (grown more.0 k.0)))
