-- What is heard over a looped wire is what was sent, so frames at index 0 come back.
use Rattle.std.proofs.Common.{◌≡◌, ◌⊎◌, ◌<◌, ◌≤◌, ℕ, ◌*◌, ◌^◌, All, List, [], ◌++◌, length, Option, Some, Result, Ok, sym, ap, subst, ◌∙◌, arith, inl, inr, append-nil, length-append, IsTrue}
use Rattle.std.proofs.lemmas.Grind.{common_steps}
use Rattle.frame_writer.specs.WholeFrames.{HoldFrames}
use Rattle.cmd_send.specs.FramesSent.{frame_shape, stream_sent}
use Rattle.cmd_send.specs.Sends.{HasSentAll, SendsFrames}
use Rattle.link_laws.proofs.StreamsBack.{stream_back}
use Rattle.link_model.specs.Output.{full_output}
use Rattle.link_model.specs.Sending.{frames_indices, pictures_per_frame}
use Rattle.link_model.specs.declared.tally.Tally.{Tally}
use Rattle.link_report.specs.declared.ending.Ending.{Ending}
use Rattle.link_report.specs.declared.summary.Summary.{Summary}
use Rattle.link_report.specs.declared.summary.Summary.TheVariants as summaries
use Rattle.cmd_receive.specs.Looping.{CouldNotBegin, HasLooped, SentInTurn, SentSome}
use Rattle.link_laws.specs.RoundTrip.{IsRawVideo, LoopedFramesComeBack}
use Rattle.link_laws.proofs.ComingBack.{can_be_sent}
use Rattle.link_laws.proofs.RawBytes.{raw_is}
use Rattle.link_laws.proofs.ZeroIndices.{all_at_zero}
use Rattle.vc_ports.specs.Changes.{InputChange, OutputChange, WireChange, Wrote}
use Rattle.vc_ports.proofs.Given.{some_is}
use Rattle.vc_ports.specs.Reading.{Gave, IsAtEnd}
use Rattle.vc_ports.specs.Wires.{IsOver}
use Rattle.vc_types.specs.declared.choice.IndexChoice.TheVariants.{Index}
use Rattle.vc_types.specs.declared.settings.SendSettings.{SendSettings}
use Rattle.vc_types.specs.Planes.{Planes}
use Rattle.vc_types.specs.SenderSettings.{Sending, sending_view}
use Rattle.link_outside.specs.Passing.{led_by}

-- ---- lists that are told

no_elements : (A : Type 0) (list : List A) → length list ≡ 0 → list ≡ []
no_elements A list none = grind (arith, common_steps)

-- all that was left was given, where the input tells it
all_given : (before after : Option (List ℕ)) (bytes given : List ℕ) → before ≡ Some bytes → Gave before after given → IsAtEnd after → bytes ≡ given
all_given before after bytes given told gave ended = grind (arith, append-nil, some_is)

-- what came is what was sent
module _ (sent heard : List (List ℕ)) where
  all_behind : (rest : List (List ℕ)) → sent ≡ heard ++ rest → (length heard ≡ length sent) ⊎ (rest ≡ []) → rest ≡ []
  all_behind rest is h2 = grind (arith, length-append, no_elements)

  by_wire : (after : Option (List (List ℕ))) → Some sent ≡ led_by heard after → (length heard ≡ length sent) ⊎ IsOver after → heard ≡ sent
  by_wire after came turn = grind (arith, all_behind, append-nil, some_is)

pub heard_is_sent : (at : List ℕ) (wire : WireChange) (heard sent : List (List ℕ)) → IsTrue wire.told.before.looped → wire.told.before.coming ≡ Some [] → SentInTurn at wire heard sent → heard ≡ sent
heard_is_sent at wire heard sent looped none s = grind (arith, common_steps, by_wire)

-- ---- the law

module _ (settings : SendSettings) (most window : ℕ) (at bytes : List ℕ) (count datagrams sum : ℕ) (tally : Tally) (input : InputChange) (output : OutputChange) (wire : WireChange) where
  abbrev s : Sending
  s = sending_view settings

  abbrev answer : Result Summary Ending
  answer = Ok (summaries.Looped count datagrams sum tally)

  module _ (small : settings.ssrc < 2 ^ 32) (some : 1 ≤ window) (chooses : settings.choice ≡ Index 0) (looped : IsTrue wire.told.before.looped) (none : wire.told.before.coming ≡ Some [])
      (told : input.left.before ≡ Some bytes) (are_bytes : All (λ byte. byte < 256) bytes) (few : count * pictures_per_frame s < 2 ^ 31) (heard : List (List ℕ)) where
    frames_back : (given : List ℕ) (frames : List Planes) (rest : List ℕ) → Gave input.left.before input.left.after given → HoldFrames (frame_shape s) given frames rest
        → HasSentAll s most input (SentInTurn at wire heard) frames rest count datagrams sum → Wrote output (full_output window heard) → Wrote output bytes
    frames_back given frames rest gave holds e wrote =
        let all : bytes ≡ given = all_given input.left.before input.left.after bytes given told gave e.ended in
        let video : IsRawVideo s bytes frames = record {
          are_bytes = are_bytes;
          holds = subst (λ (l : List ℕ). HoldFrames (frame_shape s) bytes frames l) e.no_rest (subst (λ (l : List ℕ). HoldFrames (frame_shape s) l frames rest) (sym all) holds);
          sendable = e.sendable;
          few = subst (λ (n : ℕ). n * pictures_per_frame s < 2 ^ 31) e.frames_are few;
        } in
        let indices : List ℕ = frames_indices s frames in
        let is : heard ≡ stream_sent s frames = heard_is_sent at wire heard (stream_sent s frames) looped none e.sent in
        let back : full_output window heard ≡ bytes =
        ap (full_output window) is
        ∙ stream_back settings small window some indices frames (can_be_sent settings bytes frames chooses video) (all_at_zero s chooses frames)
        ∙ raw_is s bytes frames video.holds video.are_bytes in
        subst (Wrote output) back wrote

    sends_back : (sending : Result Summary Ending) → SendsFrames s most sending input (SentInTurn at wire heard) (SentSome at wire heard) → sending ≡ Ok (summaries.Sent count datagrams sum) → Wrote output (full_output window heard) → Wrote output bytes
    sends_back sending e is wrote =
        let sent = subst (λ (r : Result Summary Ending). SendsFrames s most r input (SentInTurn at wire heard) (SentSome at wire heard)) is e in
        frames_back sent.given sent.frames sent.rest sent.took sent.holds sent.ended wrote

    loops_back : HasLooped s most window at answer input output wire heard ⊎ CouldNotBegin at answer input output wire heard → Wrote output bytes
    loops_back (inl h) = sends_back h.sending h.sends h.wrote.0 h.wrote.1.wrote
    loops_back (inr n) = absurd n.unready

pub looped_frames_come_back : LoopedFramesComeBack
looped_frames_come_back settings most window workers at bytes count datagrams sum tally input output wire hands small some chooses looped none told are_bytes few l =
    loops_back settings most window at bytes count datagrams sum tally input output wire small some chooses looped none told are_bytes few l.heard l.did
