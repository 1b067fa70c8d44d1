-- All pictures that may be released, one after another: the receiver and the feeder go together.
use Rattle.std.proofs.Common.{◌≡◌, ℕ, zero, suc, ◌+◌, ◌≤◌, Bool, true, refl, ap, sym, arith}
use Rattle.std.proofs.Common.{List, [], ◌∷◌, ◌++◌, length, map, Option, Some, None, subst, ◌∙◌}
use Rattle.std.specs.Prelude.{◌||◌, ◌==◌, is_some, filter}
use Rattle.std.specs.List.{flat_map}
use Rattle.std.specs.Option.{option_and_then, option_map}
use Rattle.std.proofs.lemmas.Bool.{eq-eqb, or_right}
use Rattle.std.proofs.lemmas.List.{append_assoc, append-nil}
use Rattle.std.proofs.lemmas.List.Elements.{filter_agree}
use Rattle.std.proofs.lemmas.List.Sums.{fold-append}
use Rattle.machine_model.specs.Feeders.{Feeder, is_among, is_decoded, keeps_now, releasable}
use Rattle.link_model.specs.Kept.{Own}
use Rattle.machine_model.specs.Machine.{Event, Redo, Release, feeder_after}
use Rattle.machine_model.specs.Next.{feeder_run, unanswered, releasing, all_releasing}
use Rattle.link_model.specs.Output.{frame_bytes_at}
use Rattle.link_model.specs.Session.{HeardSession, sessions_of}
use Rattle.link_model.specs.Windows.{WindowPast, past_releases, window_of, releasable_numbers}
use Rattle.link_model.specs.Windows.{first_of, as_releasable, next_release}
use Rattle.link_model.specs.declared.tally.Tally.{Tally}
use Rattle.link_model.proofs.WindowStands.{next_is, releasable_next}
use Rattle.receiver_model.specs.Receptions.{StandingSession, Reception, RunOut}
use Rattle.receiver_model.specs.Releasing.{next_picture, released_bytes}
use Rattle.receiver_model.specs.Releasing.{releases_up_to, bytes_up_to, book_count, is_of_other}
use Rattle.receiver_model.specs.Standing.{out_without}
use Rattle.receiver_model.proofs.Redone.{redone_others}
use Rattle.receiver_model.proofs.ReleaseSteps.{step_on, step_bytes, stops, stops_writing}
use Rattle.receiver_model.proofs.ReleasedNumbers.{AreRising, among_rising, released_rise}
use Rattle.receiver_model.proofs.ReleasedNumbers.{books_enough, unreleased_are}
use Rattle.receiver_model.proofs.Releases.{receiver_then, receiver_then_is, feeder_then}
use Rattle.receiver_model.proofs.Releases.{feeder_then_is, works_then, standing_then, bytes_are}
use Rattle.receiver_model.proofs.Releases.{next_picture_is}
use Rattle.receiver_model.proofs.Working.{IsWorking}

-- ---- what is to be done for a picture

unanswered_same : (f g : Feeder) (m : ℕ) → ((i : ℕ) → is_decoded g m i ≡ is_decoded f m i)
    → (o : Option Own) → unanswered g m o ≡ unanswered f m o
unanswered_same f g m same None = refl
unanswered_same f g m same (Some kept) = grind (arith, filter_agree)

-- ---- slices that are out

pub none_go : (out : List RunOut) → out ≡ out_without [] out
none_go [] = refl
none_go (slice ∷ out) = ap (λ (l : List RunOut). slice ∷ l) (none_go out)

both_go : (n : ℕ) (ns : List ℕ) (out : List RunOut)
    → out_without ns (filter (is_of_other n) out) ≡ out_without (n ∷ ns) out
both_go n ns [] = refl
both_go n ns (slice ∷ out) = grind (arith, both_go n ns out)

-- ---- the run

abbrev tail_of : List ℕ → List ℕ
tail_of [] = []
tail_of (n ∷ ns) = ns

abbrev pub released_too : WindowPast → List ℕ → WindowPast
released_too p ns = record p { released = p.released ++ ns }

module _ (size : ℕ) (hs : List HeardSession) (t : Tally) where
  -- the receiver after at most so many releases, and the feeder after those of these pictures
  pub record Ran (k : ℕ) (r : Reception) (st : StandingSession) (f g : Feeder) (p : WindowPast)
      (ns : List ℕ) : Type 0 where
    pub standing : StandingSession
    pub works : IsWorking (releases_up_to k r) size g hs (released_too p ns) standing t
    pub session : standing.session ≡ st.session
    pub has_ended : standing.has_ended ≡ st.has_ended
    pub written : g.written ≡ f.written ++ bytes_up_to k r
    pub heard : g.heard ≡ f.heard
    pub over : g.has_ended ≡ f.has_ended
    pub out : (releases_up_to k r).out ≡ out_without ns r.out

  pub nothing_next : (r : Reception) (f : Feeder) (p : WindowPast) (st : StandingSession)
      → IsWorking r size f hs p st t → releasable_numbers p ≡ [] → next_picture r ≡ None
  nothing_next r f p st works none =
      ap (option_and_then (λ (st : StandingSession). next_release st.window)) works.stands
      ∙ next_is st.window p works.window
      ∙ ap (λ (l : List ℕ). option_map (as_releasable p) (first_of l)) none

  rises_behind : (n b : ℕ) (l ns : List ℕ) → AreRising b (l ++ n ∷ ns) → AreRising (n + 1) ns
  rises_behind n b [] ns rises = rises.1
  rises_behind n b (k ∷ l) ns rises = rises_behind n (k + 1) l ns rises.1

  pub run : (ns : List ℕ) (k : ℕ) (r : Reception) (f : Feeder) (p : WindowPast)
      (st : StandingSession) (works : IsWorking r size f hs p st t)
      → releasable_numbers p ≡ ns → length ns ≤ k → (first : Feeder)
      → ((m : ℕ) → is_among ns m ≡ true → releasing size first m ≡ releasing size f m)
      → Ran k r st f (feeder_run size f (flat_map (releasing size first) ns)) p ns
  run [] k r f p st works are enough first same = record {
    standing = st;
    works = subst (λ (v : Reception). IsWorking v size f hs (released_too p []) st t)
        (sym (stops k r (nothing_next r f p st works are)))
        (subst (λ (l : List ℕ). IsWorking r size f hs (record p { released = l }) st t)
        (sym (append-nil p.released)) works);
    session = refl;
    has_ended = refl;
    written = sym (append-nil f.written)
        ∙ ap (λ (l : List ℕ). f.written ++ l)
        (sym (stops_writing k r (nothing_next r f p st works are)));
    heard = refl;
    over = refl;
    out = ap (λ (v : Reception). v.out) (stops k r (nothing_next r f p st works are))
        ∙ none_go r.out;
  }
  run (n ∷ ns) zero r f p st works are enough first same = absurd (omega (arith, enough))
  run (n ∷ ns) (suc k) r f p st works are enough first same =
      let next = ap first_of are in
      let rest : releasable_numbers (past_releases p n) ≡ ns =
      ap tail_of (sym (releasable_next st.window p works.window n next) ∙ are) in
      let later = run ns k (receiver_then r size f hs p st t works n next)
      (feeder_then r size f hs p st t works n next) (past_releases p n)
      (standing_then r size f hs p st t works n next)
      (works_then r size f hs p st t works n next) rest (omega (arith, enough)) first
      (λ m there. same m (or_right (n == m) _ there) ∙ sym (still next m there)) in
      let all = flat_map (releasing size first) ns in
      let feeder : feeder_run size f (releasing size first n ++ all)
      ≡ feeder_run size (feeder_then r size f hs p st t works n next) all =
      fold-append (feeder_after size) f (releasing size first n) all
      ∙ ap (λ (es : List Event). feeder_run size (feeder_run size f es) all)
      (same n (ap (λ (b : Bool). b || is_among ns n) (eq-eqb n n refl)))
      ∙ ap (λ (g : Feeder). feeder_run size g all)
      (feeder_then_is r size f hs p st t works n next) in
      let receiver : releases_up_to (suc k) r
      ≡ releases_up_to k (receiver_then r size f hs p st t works n next) =
      step_on k r (as_releasable p n) (next_picture_is r size f hs p st t works n next)
      ∙ ap (releases_up_to k) (receiver_then_is r size f hs p st t works n next) in
      let past : released_too (past_releases p n) ns ≡ released_too p (n ∷ ns) =
      ap (λ (l : List ℕ). (let q : WindowPast = record p { released = l } in q))
      (append_assoc p.released (n ∷ []) ns) in
      record {
        standing = later.standing;
        works = subst (λ (v : Reception). IsWorking v size
            (feeder_run size f (releasing size first n ++ all)) hs
            (released_too p (n ∷ ns)) later.standing t) (sym receiver)
            (subst (λ (g : Feeder).
            IsWorking (releases_up_to k (receiver_then r size f hs p st t works n next)) size g hs
            (released_too p (n ∷ ns)) later.standing t) (sym feeder)
            (subst (λ (q : WindowPast).
            IsWorking (releases_up_to k (receiver_then r size f hs p st t works n next)) size
            (feeder_run size (feeder_then r size f hs p st t works n next) all) hs q
            later.standing t) past later.works));
        session = later.session;
        has_ended = later.has_ended;
        written =
            ap (λ (g : Feeder). g.written) feeder
            ∙ later.written
            ∙ append_assoc f.written (frame_bytes_at p.sequence p.entries n)
            (bytes_up_to k (receiver_then r size f hs p st t works n next))
            ∙ ap (λ (l : List ℕ). f.written ++ (l
            ++ bytes_up_to k (receiver_then r size f hs p st t works n next)))
            (sym (bytes_are r size f hs p st t works n next))
            ∙ ap (λ (v : Reception). f.written
            ++ (released_bytes r (as_releasable p n) ++ bytes_up_to k v))
            (sym (receiver_then_is r size f hs p st t works n next))
            ∙ ap (λ (l : List ℕ). f.written ++ l) (sym (step_bytes k r (as_releasable p n)
            (next_picture_is r size f hs p st t works n next)));
        heard = ap (λ (g : Feeder). g.heard) feeder ∙ later.heard;
        over = ap (λ (g : Feeder). g.has_ended) feeder ∙ later.over;
        out = ap (λ (v : Reception). v.out) receiver ∙ later.out ∙ both_go n ns r.out;
      }
    where
      -- what is done for this one leaves the others
      still : (next : first_of (releasable_numbers p) ≡ Some n) (m : ℕ) → is_among ns m ≡ true
          → releasing size (feeder_then r size f hs p st t works n next) m ≡ releasing size f m
      still next m there =
          let rises = rises_behind n 0 p.released ns
          (subst (λ (l : List ℕ). AreRising 0 (p.released ++ l)) are
          (released_rise p works.window.in_order)) in
          let later = among_rising m (n + 1) ns rises there in
          ap (λ (l : List ℕ). map (Redo m) l ++ Release m ∷ [])
          (unanswered_same f (feeder_then r size f hs p st t works n next) m
          (λ i. ap is_some (redone_others size (sessions_of f.heard) n
          (unanswered f n (keeps_now size f n)) f.decoded m (λ same. omega (arith, same, later)) i))
          (keeps_now size f m))

  -- ---- all that may be released

  module _ (r : Reception) (f : Feeder) (p : WindowPast) (st : StandingSession)
      (works : IsWorking r size f hs p st t) where
    pub releasable_are : releasable size f ≡ releasable_numbers p
    releasable_are = grind (arith, unreleased_are)

    books_are : book_count r ≡ length (window_of p).books
    books_are = grind arith

    pub all_run : Ran (book_count r) r st f (feeder_run size f (all_releasing size f)) p
        (releasable_numbers p)
    all_run = grind (arith, books_are, books_enough, releasable_are, run)
