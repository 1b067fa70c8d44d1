-- What each kind of data unit brings.
use Rattle.std.proofs.Common.{◌≡◌, ◌≢◌, ℕ, ◌+◌, Bool, true, false, List, [], Option, Some, None, Ok, Err, refl, sym, ap, ◌∙◌, subst, arith, append-nil, inl, inr}
use Rattle.std.specs.Prelude.{Result, ◌⊎◌, if◌then◌else◌, option_and_then, OnOk}
use Rattle.std.specs.Option.{option_map, option_or}
use Rattle.std.proofs.lemmas.Bool.{eq-eqb, ne_eqb}
use Rattle.vc_ports.proofs.Growing.{Grew-none}
use Rattle.vc_types.specs.SequenceHeader.{Sequence}
use Rattle.vc_types.specs.declared.presentation.Presentation.{Presentation}
use Rattle.vc_types.specs.DataUnits.{DataUnit}
use Rattle.vc_ports.proofs.Given.{some_is}
use Rattle.cmd_stream.specs.declared.play_fault.TakeFault.{TakeFault}
use Rattle.cmd_stream.specs.declared.play_fault.TakeFault.TheVariants as faults
use Rattle.cmd_stream.specs.PlaySteps.{PlayState, stream_state, shown}
use Rattle.cmd_stream.specs.declared.coding.Coding.{Coding}
use Rattle.cmd_stream.specs.declared.coding.Coding.TheVariants.{HighQuality, LowDelay}
use Rattle.cmd_stream.specs.Stream.{Stream, StreamPicture, begun_as, begun_by, begun_with, picture_code_of, repeats, said_in, with_header, with_picture, picture_in, shows, takes, played, paired_frames, raw_frames}
use Rattle.cmd_stream.specs.Taking.{agreed_state, Agrees, frame_due, ShowsPicture, BringsDue, Brought, HasAtMost, CountsAtMost}
use Rattle.cmd_stream.proofs.Showing.{begun, shown-kept, played-more}

abbrev kept_in : Option Stream → Option PlayState
kept_in stream = option_map stream_state stream

-- ---- headers

agreed-by : (stream : Stream) (same : Bool) → (if same then Some (stream_state stream) else None) ≡ kept_in (if same then Some stream else None)
agreed-by stream true = refl
agreed-by stream false = refl

agreed-kept : (stream : Option Stream) (body : List ℕ) → agreed_state (kept_in stream) body ≡ kept_in (with_header stream body)
agreed-kept None body = refl
agreed-kept (Some s) body = agreed-by s (repeats s.coding s.sequence body)

-- a stream that a first header begins has no pictures
record Begins (next : Stream) : Type 0 where
  coding : Coding
  said : Sequence × Presentation
  is : next ≡ begun_with coding said

begins_as : (coding : Coding) (found : Option (Sequence × Presentation)) (next : Stream) → option_map (begun_with coding) found ≡ Some next → Begins next
begins_as coding None next e = absurd cc
begins_as coding (Some said) next e = record { coding = coding; said = said; is = sym (some_is (begun_with coding said) next e) }

begins_by : (body : List ℕ) (next : Stream) → begun_by body ≡ Some next → Begins next
begins_by body next e = by_first (said_in HighQuality body) e
  where
    by_first : (found : Option (Sequence × Presentation)) → option_or (option_map (begun_with HighQuality) found) (begun_as LowDelay body) ≡ Some next → Begins next
    by_first None e = begins_as LowDelay (said_in LowDelay body) next e
    by_first (Some said) e = begins_as HighQuality (Some said) next e

none-by : (s : Sequence) (fields : Bool) → raw_frames s (if fields then paired_frames s.top_first [] else []) ≡ []
unfolding paired_frames
none-by s true = refl
none-by s false = refl

played-by : (stream next : Stream) (same : Bool) → (if same then Some stream else None) ≡ Some next → played (Some next) ≡ played (Some stream)
played-by stream next true e = ap played (sym e)
played-by stream next false e = absurd cc

-- a header adds nothing to what is written
pub played-header : (stream : Option Stream) (body : List ℕ) (next : Stream) → with_header stream body ≡ Some next → played (Some next) ≡ played stream
played-header None body next e =
    let begins = begins_by body next e in
    ap (λ (s : Stream). played (Some s)) begins.is ∙ none-by begins.said.0 begins.said.0.fields
played-header (Some s) body next e = played-by s next (repeats s.coding s.sequence body) e

-- ---- units

module _ (stream : Option Stream) (u : DataUnit) where
  takes-header : u.code ≡ 0 → takes stream u ≡ option_map (λ next. Some next) (with_header stream u.body)
  unfolding takes
  takes-header e = rw e refl

  takes-picture : (u.code ≡ 0xC8) ⊎ (u.code ≡ 0xE8) → takes stream u ≡ option_map (λ next. Some next) (option_and_then (shows u) stream)
  unfolding takes
  takes-picture (inl e) = rw e refl
  takes-picture (inr e) = rw e refl

  takes-other : u.code ≢ 0 → u.code ≢ 0xE8 → u.code ≢ 0xC8 → takes stream u ≡ Some stream
  unfolding takes
  takes-other header picture low =
      rw (ne_eqb u.code 0 header, ne_eqb u.code 0xE8 picture, ne_eqb u.code 0xC8 low) refl

  module _ (before : Option (List ℕ)) where
    header-by : (next : Option Stream) (k : PlayState) → with_header stream u.body ≡ next → kept_in next ≡ Some k → u.code ≡ 0 → Brought stream u (Some k) before before (Ok tt)
    header-by None k e same code = absurd cc
    header-by (Some next) k e same code = (
      record {
        next = Some next;
        due = [];
        taken = takes-header code ∙ ap (option_map (λ next. Some next)) e;
        grows = played-header stream u.body next e ∙ sym (append-nil (played stream));
      },
      sym same,
      Grew-none before,
    )

    pub brings-header : (kept : Option PlayState) (k : PlayState) → u.code ≡ 0 → kept ≡ kept_in stream → agreed_state kept u.body ≡ Some k → Brought stream u (Some k) before before (Ok tt)
    brings-header kept k code is e =
        header-by (with_header stream u.body) k refl (sym (agreed-kept stream u.body) ∙ ap (λ (was : Option PlayState). agreed_state was u.body) (sym is) ∙ e) code

    refused-by : (next : Option Stream) → with_header stream u.body ≡ next → kept_in next ≡ None → u.code ≡ 0 → takes stream u ≡ None
    refused-by None e same code = takes-header code ∙ ap (option_map (λ next. Some next)) e
    refused-by (Some next) e same code = absurd cc

    pub brings-no-header : (kept new : Option PlayState) → u.code ≡ 0 → kept ≡ kept_in stream → agreed_state kept u.body ≡ None → Brought stream u new before before (Err faults.Refused)
    brings-no-header kept new code is e =
        (refused-by (with_header stream u.body) refl (sym (agreed-kept stream u.body) ∙ ap (λ (was : Option PlayState). agreed_state was u.body) (sym is) ∙ e) code, refl)

    pub brings-other : u.code ≢ 0 → u.code ≢ 0xE8 → u.code ≢ 0xC8
        → Brought stream u (kept_in stream) before before (Ok tt)
    brings-other header picture low = (
      record {
        next = stream;
        due = [];
        taken = takes-other header picture low;
        grows = sym (append-nil (played stream));
      },
      refl,
      Grew-none before,
    )

-- a picture before any header
pub brings-no-stream : (stream : Option Stream) (u : DataUnit) (new : Option PlayState) (before : Option (List ℕ)) → (u.code ≡ 0xC8) ⊎ (u.code ≡ 0xE8) → None ≡ kept_in stream
    → Brought stream u new before before (Err faults.Refused)
brings-no-stream None u new before code none = (takes-picture None u code, refl)
brings-no-stream (Some s) u new before code none = absurd cc

-- what is made of a picture by whether it is coded as the others are
abbrev shown_if : Stream → DataUnit → Bool → Option (Option Stream)
shown_if s u same =
    option_map (λ next. Some next) (if same then option_map (with_picture s) (picture_in s.coding s.sequence u.body) else None)

-- a picture that is coded in another way than the stream's pictures
pub brings-other-coding : (stream : Option Stream) (u : DataUnit) (k : PlayState) (new : Option PlayState) (before : Option (List ℕ)) → (u.code ≡ 0xC8) ⊎ (u.code ≡ 0xE8) → Some k ≡ kept_in stream
    → u.code ≢ picture_code_of k.coding → Brought stream u new before before (Err faults.Refused)
brings-other-coding None u k new before code is other = absurd cc
brings-other-coding (Some s) u k new before code is other =
    let same : k ≡ stream_state s = some_is k (stream_state s) is in
    let apart : u.code ≢ picture_code_of s.coding = subst (λ (t : PlayState). u.code ≢ picture_code_of t.coding) same other in
    (takes-picture (Some s) u code ∙ ap (shown_if s u) (ne_eqb u.code (picture_code_of s.coding) apart), refl)

-- a picture behind a header
module _ (s : Stream) (u : DataUnit) (code : u.code ≡ picture_code_of s.coding) (new : PlayState) (before after : Option (List ℕ)) where
  is_picture : (u.code ≡ 0xC8) ⊎ (u.code ≡ 0xE8)
  is_picture = by_coding s.coding code
    where
      by_coding : (coding : Coding) → u.code ≡ picture_code_of coding → (u.code ≡ 0xC8) ⊎ (u.code ≡ 0xE8)
      by_coding HighQuality e = inr e
      by_coding LowDelay e = inl e

  shown-by : (found : Option StreamPicture) → picture_in s.coding s.sequence u.body ≡ found → takes (Some s) u ≡ option_map (λ next. Some next) (option_map (with_picture s) found)
  shown-by found e =
      takes-picture (Some s) u is_picture
      ∙ ap (shown_if s u) (eq-eqb u.code (picture_code_of s.coding) code)
      ∙ ap (λ (picture : Option StreamPicture). option_map (λ next. Some next) (option_map (with_picture s) picture)) e

  shows-some : (p : StreamPicture) → picture_in s.coding s.sequence u.body ≡ Some p → takes (Some s) u ≡ Some (Some (with_picture s p))
  shows-some p e = shown-by (Some p) e

  shows-none : picture_in s.coding s.sequence u.body ≡ None → takes (Some s) u ≡ None
  shows-none e = shown-by None e

  abbrev due_for : (p : StreamPicture) → picture_in s.coding s.sequence u.body ≡ Some p → BringsDue (Some s) u
  due_for p e = record { next = Some (with_picture s p); due = frame_due (stream_state s) p; taken = shows-some p e; grows = played-more s p }

  brings-shown : (result : Result (Unit {0}) TakeFault) → ShowsPicture u.body (stream_state s) new before after result → Brought (Some s) u (Some new) before after result
  brings-shown (Ok done) shown = (due_for shown.picture shown.read, ap (λ (k : PlayState). Some k) (shown.state ∙ shown-kept s shown.picture), shown.grew)
  brings-shown (Err faults.WriteFault) shown = (due_for shown.picture shown.read, shown.grew)
  brings-shown (Err faults.Refused) (e, same) = (shows-none e, same)
  brings-shown (Err faults.NoMemory) same = same

pub brings-picture : (stream : Option Stream) (u : DataUnit) (k new : PlayState) (before after : Option (List ℕ)) (result : Result (Unit {0}) TakeFault) → u.code ≡ picture_code_of k.coding → Some k ≡ kept_in stream
    → ShowsPicture u.body k new before after result → Brought stream u (Some new) before after result
brings-picture None u k new before after result code is shown = absurd cc
brings-picture (Some s) u k new before after result code is shown =
    let same : k ≡ stream_state s = some_is k (stream_state s) is in
    brings-shown s u (rw same at code) new before after result (rw same at shown)

-- a header
pub brings-agreed : (stream : Option Stream) (u : DataUnit) (old new : Option PlayState) (before : Option (List ℕ)) (result : Result (Unit {0}) TakeFault) → u.code ≡ 0 → old ≡ kept_in stream
    → Agrees u.body old new result → Brought stream u new before before result
brings-agreed stream u old new before (Ok done) code is (k, e, now) = rw now (brings-header stream u before old k code is e)
brings-agreed stream u old new before (Err faults.Refused) code is e = brings-no-header stream u before old new code is e
brings-agreed stream u old new before (Err faults.WriteFault) code is none = absurd none
brings-agreed stream u old new before (Err faults.NoMemory) code is none = absurd none

-- ---- how much is kept

kept_more : (n : ℕ) (k : PlayState) → HasAtMost n k → HasAtMost (n + 1) k
kept_more n k is = record { pictures = omega (arith, is.pictures); frames = is.frames; shape = is.shape }

none_yet : (n : ℕ) (coding : Coding) (said : Sequence × Presentation) → HasAtMost n (stream_state (begun_with coding said))
none_yet n coding said = subst (HasAtMost n) (begun coding said.0 said.1) (record { pictures = omega arith; frames = omega arith; shape = tt })

kept_begun : (n : ℕ) (body : List ℕ) (found : Option Stream) (k : PlayState) → begun_by body ≡ found → kept_in found ≡ Some k → HasAtMost n k
kept_begun n body None k is e = absurd cc
kept_begun n body (Some next) k is e =
    let begins = begins_by body next is in
    subst (HasAtMost n) (ap stream_state (sym begins.is) ∙ some_is (stream_state next) k e) (none_yet n begins.coding begins.said)

same_by : (same : Bool) (k next : PlayState) → (if same then Some k else None) ≡ Some next → k ≡ next
same_by true k next e = cc
same_by false k next e = absurd cc

kept_agreed : (n : ℕ) (kept : Option PlayState) (body : List ℕ) (k : PlayState) → agreed_state kept body ≡ Some k → CountsAtMost n kept → HasAtMost (n + 1) k
kept_agreed n None body k e h = kept_begun (n + 1) body (begun_by body) k refl e
kept_agreed n (Some was) body k e h = subst (HasAtMost (n + 1)) (same_by (repeats was.coding was.sequence body) was k e) (kept_more n was h)

pub agrees-few : (old new : Option PlayState) (body : List ℕ) (result : Result (Unit {0}) TakeFault) → Agrees body old new result → OnOk result ((n : ℕ) → CountsAtMost n old → CountsAtMost (n + 1) new)
agrees-few old new body (Ok done) (k, e, now) = λ n h. rw now (kept_agreed n old body k e h)
agrees-few old new body (Err fault) agrees = tt
