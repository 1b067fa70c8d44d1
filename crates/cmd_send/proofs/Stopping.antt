-- How sending goes on behind the frames that were sent, and each way in which it ends.
use Rattle.std.proofs.Common.{◌≡◌, ℕ, ◌<◌, ◌≤◌, List, [], ◌∷◌, ◌++◌, length, Option, Some, None, Ok, Err, refl, sym, subst, arith, inl, inr, append-nil, length-append}
use Rattle.std.specs.Prelude.{Result, ◌⊎◌}
use Rattle.std.proofs.lemmas.List.Elements.{All-nil, All-cons, All-append}
use Rattle.std.proofs.lemmas.Grind.{common_steps}
use Rattle.link_outside.specs.declared.outlet.OutletFault.{OutletFault}
use Rattle.link_outside.specs.declared.outlet.OutletFault.TheVariants as outlets
use Rattle.frame_writer.specs.FrameBytes.{frame_length}
use Rattle.frame_writer.specs.Reading.{GaveFrame, GaveCutFrame}
use Rattle.frame_writer.specs.WholeFrames.{HoldFrames}
use Rattle.frame_writer.proofs.Holding.{hold_none, hold_more, hold_rest}
use Rattle.cmd_send.specs.Counted.{sent_answer}
use Rattle.cmd_send.specs.FramesSent.{AreSendable, frame_fault, frame_shape, frames_sent, stream_sent}
use Rattle.cmd_send.specs.Looping.{HasSent, end_sent, StopsSending, next_sent, refused_ending}
use Rattle.cmd_send.specs.Sends.{CouldNotSendAll, SendEnded, EndsWithRefusedFrame}
use Rattle.cmd_send.specs.Steps.{IsFinished, put_ending}
use Rattle.cmd_send.specs.declared.totals.Totals.{Totals}
use Rattle.cmd_send.proofs.Laws.{OutletLaws, still_carried}
use Rattle.cmd_send.proofs.SentMore.{frames_sent-more}
use Rattle.link_model.specs.Sending.{sent_stream, frames_indices, sent_datagrams, pictures_outgoing, datagrams_from}
use Rattle.link_model.specs.SendingFaults.{SendFault}
use Rattle.link_model.specs.SendingFaults as faults
use Rattle.link_report.specs.declared.ending.Ending.{Ending}
use Rattle.link_report.specs.declared.ending.Ending.TheVariants.{InputFailed, NoMemory, RawCut, SampleTooLarge, SliceTooLarge, FrameLimit}
use Rattle.link_report.specs.declared.summary.Summary.{Summary}
use Rattle.vc_ports.specs.Changes.{InputChange}
use Rattle.vc_ports.specs.Reading.{Gave, GaveAll}
use Rattle.vc_ports.proofs.Given.{Gave-then}
use Rattle.vc_types.specs.Planes.{Planes}
use Rattle.vc_types.specs.SenderSettings.{Sending}

pub stream_is : (s : Sending) (frames : List Planes) → stream_sent s frames ≡ frames_sent s frames ++ end_sent s frames ∷ []
unfolding sent_stream
stream_is s frames = refl

-- nothing was sent yet
pub none_sent : (s : Sending) → frames_sent s [] ≡ []
unfolding sent_datagrams frames_indices pictures_outgoing datagrams_from
none_sent s = refl

-- one frame more that isn't refused
pub sendable_with : (s : Sending) (frames : List Planes) (frame : Planes) → AreSendable s frames → frame_fault s frame ≡ None → AreSendable s (frames ++ frame ∷ [])
sendable_with s frames frame sendable sound =
    All-append (λ f. frame_fault s f ≡ None) frames (frame ∷ []) sendable (All-cons (λ f. frame_fault s f ≡ None) frame [] sound (All-nil (λ f. frame_fault s f ≡ None)))

module _ {X : Type 0} {carried : X → X → List (List ℕ) → Type 0} {broke : X → X → List (List ℕ) → OutletFault → Type 0} (laws : OutletLaws carried broke) (s : Sending) where
  pub begun : (left : Option (List ℕ)) (x : X) → 0 < frame_length (frame_shape s) → HasSent s [] left left (carried x x)
  begun left x some = grind (arith, common_steps, hold_none, All-nil, none_sent)

  module _ (frames : List Planes) (before mid : Option (List ℕ)) (x y : X) (sent : HasSent s frames before mid (carried x y)) where
    -- ---- a frame more

    module _ (after : Option (List ℕ)) (frame : Planes) (gave : GaveFrame (frame_shape s) mid after frame) where
      abbrev longer : List Planes
      longer = frames ++ frame ∷ []

      all_given : Gave before after (sent.given ++ gave.bytes)
      all_given = Gave-then before mid after sent.given gave.bytes sent.gave gave.gave

      holds_more : HoldFrames (frame_shape s) (sent.given ++ gave.bytes) longer []
      holds_more = subst (λ (f : Planes). HoldFrames (frame_shape s) (sent.given ++ gave.bytes) (frames ++ f ∷ []) []) (sym gave.frame_is) (hold_more (frame_shape s) sent.given frames sent.holds gave.bytes gave.whole)

      pub with_frame : (z : X) → frame_fault s frame ≡ None → carried y z (next_sent s frames frame) → HasSent s longer before after (carried x z)
      with_frame z sound went =
          grind (arith, common_steps, all_given, holds_more, sendable_with, frames_sent-more)

  -- ---- the ends

  module _ (most : ℕ) (frames : List Planes) (input : InputChange) (mid : Option (List ℕ)) (x y z : X) (sent : HasSent s frames input.left.before mid (carried x y)) where
    abbrev Stops : Result Summary Ending → Type 0
    Stops answer = StopsSending s most answer input (carried x z) (broke x z)

    stopped : (answer : Result Summary Ending) (rest : List ℕ) → length rest < frame_length (frame_shape s) → Gave mid input.left.after rest → SendEnded s most answer input (carried x z) (broke x z) frames rest → Stops answer
    stopped answer rest short gave ended = record {
      given = sent.given ++ rest;
      frames = frames;
      rest = rest;
      took = Gave-then input.left.before mid input.left.after sent.given rest sent.gave gave;
      holds = hold_rest (frame_shape s) sent.given frames sent.holds rest short;
      ended = ended;
    }

    some_length : 0 < frame_length (frame_shape s)
    some_length = sent.holds.short

    module _ (nothing : carried y z []) where
      all_went : carried x z (frames_sent s frames)
      all_went = still_carried laws x y z (frames_sent s frames) sent.sent nothing

      -- a read failed
      pub could_not_read : (rest : List ℕ) → length rest < frame_length (frame_shape s) → Gave mid input.left.after rest → length frames ≤ most → (length frames < most) ⊎ (rest ≡ []) → Stops (Err InputFailed)
      could_not_read rest short gave few wanted = stopped (Err InputFailed) rest short gave (record { sendable = sent.sendable; few = few; wanted = wanted; sent = all_went })

      -- no memory, where nothing more was read
      pub without_memory : Gave mid input.left.after [] → length frames ≤ most → Stops (Err NoMemory)
      without_memory gave few = stopped (Err NoMemory) [] some_length gave (inl (record {
        few = few;
        others = frames;
        unsent = [];
        frames_are = sym (append-nil frames);
        last = omega arith;
        sendable = sent.sendable;
        no_rest = refl;
        sent = all_went;
      }))

      -- the end within a frame
      pub cut : GaveCutFrame (frame_shape s) mid input.left.after → length frames < most → Stops (Err (RawCut (length frames)))
      cut gave room = stopped (Err (RawCut (length frames))) gave.part gave.short gave.gave.gave (record {
        sendable = sent.sendable;
        few = room;
        some_rest = gave.some;
        ended = gave.gave.at_end;
        number_is = refl;
        sent = all_went;
      })

      -- one byte more than as many frames as were asked for
      pub past_limit : length frames ≡ most → (more : List ℕ) → length more ≡ 1 → 1 < frame_length (frame_shape s) → Gave mid input.left.after more → Stops (Err (FrameLimit most))
      past_limit enough more one long gave = stopped (Err (FrameLimit most)) more (omega (arith, one, long)) gave (record {
        limit_is = refl;
        count = enough;
        one_more = one;
        sendable = sent.sendable;
        sent = all_went;
      })

    -- ---- the end of the input at a frame's edge, and the end of the sequence

    -- a datagram didn't go out
    broken : (fault : OutletFault) (others : List Planes) → CouldNotSendAll s most (broke x z) others [] fault → SendEnded s most (Err (put_ending fault)) input (carried x z) (broke x z) others []
    broken outlets.NoMemory others could_not = inr could_not
    broken outlets.Output others could_not = could_not
    broken outlets.Wire others could_not = could_not

    module _ (gave : GaveAll mid input.left.after []) (few : length frames ≤ most) where
      -- all went out
      pub all_sent : (totals : Totals) → IsFinished s frames (carried y z) totals → Stops (sent_answer (Ok totals))
      all_sent totals finished = grind (arith, common_steps, stopped, some_length, stream_is)

      -- the end didn't
      pub end_unsent : (fault : OutletFault) → broke y z (end_sent s frames ∷ []) fault → Stops (Err (put_ending fault))
      end_unsent fault part = stopped (Err (put_ending fault)) [] some_length gave.gave (broken fault frames (record {
        sendable = sent.sendable;
        few = few;
        no_rest = refl;
        part_sent = subst (λ (l : List (List ℕ)). broke x z l fault) (sym (stream_is s frames)) (laws.breaks_then x y z (frames_sent s frames) (end_sent s frames ∷ []) fault sent.sent part);
      }))

    -- ---- a frame that isn't sent, or not whole

    module _ (frame : Planes) (gave : GaveFrame (frame_shape s) mid input.left.after frame) (room : length frames < most) where
      abbrev with_last : List Planes
      with_last = frames ++ frame ∷ []

      few_more : length with_last ≤ most
      few_more = omega (arith, length-append frames (frame ∷ []), room)

      stopped_after : (answer : Result Summary Ending) → SendEnded s most answer input (carried x z) (broke x z) with_last [] → Stops answer
      stopped_after answer ended = record {
        given = sent.given ++ gave.bytes;
        frames = with_last;
        rest = [];
        took = all_given frames input.left.before mid x y sent input.left.after frame gave;
        holds = holds_more frames input.left.before mid x y sent input.left.after frame gave;
        ended = ended;
      }

      ends_refused : (fault : SendFault) → frame_fault s frame ≡ Some fault → carried y z []
          → EndsWithRefusedFrame s most (carried x z) with_last [] fault
      ends_refused fault is nothing = record {
        others = frames;
        last = frame;
        frames_are = refl;
        few = few_more;
        sendable = sent.sendable;
        refused = is;
        no_rest = refl;
        sent = all_went nothing;
      }

      -- it is refused
      pub refused : (fault : SendFault) → frame_fault s frame ≡ Some fault → carried y z [] → Stops (Err (refused_ending fault))
      refused (faults.SampleRange plane place value) is nothing =
          stopped_after (Err (SampleTooLarge place plane value))
          (ends_refused (faults.SampleRange plane place value) is nothing)
      refused (faults.SliceTooLarge slice bytes) is nothing =
          stopped_after (Err (SliceTooLarge slice bytes))
          (ends_refused (faults.SliceTooLarge slice bytes) is nothing)

      -- there is no memory for it
      pub unsent : carried y z [] → Stops (Err NoMemory)
      unsent nothing = grind (arith, common_steps, stopped_after, few_more, all_went)

      -- a datagram of it didn't go out
      pub part_sent : (fault : OutletFault) → frame_fault s frame ≡ None → broke y z (next_sent s frames frame) fault → Stops (Err (put_ending fault))
      part_sent fault sound part =
          grind (arith, common_steps, stopped_after, broken, sendable_with, few_more, stream_is, frames_sent-more)
