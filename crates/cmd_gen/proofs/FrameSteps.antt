-- A frame that is sent and received behind others, or refused, and the end behind all.
use Rattle.std.proofs.Common.{◌≡◌, ℕ, suc, ◌+◌, ◌*◌, ◌-◌, ◌<◌, ◌^◌, List, [], ◌∷◌, ◌++◌, length, None, sym, ap, ◌∙◌, subst, arith}
use Rattle.std.specs.Prelude.{IsTrue}
use Rattle.std.proofs.lemmas.List.Elements.{All-nil, All-push}
use Rattle.cmd_gen.specs.Checking.{checked_stream}
use Rattle.cmd_gen.specs.Comparing.{IsCheckedUpTo}
use Rattle.cmd_gen.specs.declared.checker.Checker.{Checker}
use Rattle.cmd_gen.specs.Looping.{HasChecked, HasSentFrames, IsFrameRefused, IsOneRefused}
use Rattle.cmd_gen.proofs.GeneratedFrames.{no_sample_fault}
use Rattle.cmd_send.specs.FramesSent.{AreSendable, frame_fault, frames_sent}
use Rattle.cmd_send.specs.Looping.{end_sent, next_sent}
use Rattle.cmd_send.specs.Steps.{refusal_ending}
use Rattle.cmd_send.proofs.ChosenIndices.{refused_as_chosen}
use Rattle.cmd_send.proofs.Numbering.{numbers_none}
use Rattle.cmd_send.proofs.SentMore.{frames_sent-more}
use Rattle.cmd_send.proofs.Stopping.{none_sent, stream_is}
use Rattle.cmd_send.proofs.TakingFrames.{datagrams_are, numbers_are, sound}
use Rattle.cmd_gen.proofs.Frames.{frames_then, one_frame_more}
use Rattle.cmd_gen.specs.Defaults.{all_generated, sent_by_default, shape_of_frames}
use Rattle.cmd_gen.specs.Generator.{frame_samples, generated_frame, generated_frames, state_behind}
use Rattle.link_model.specs.SendingPictures.{Need, chosen_index, wants_lengths}
use Rattle.link_report.specs.declared.ending.Ending.{Ending}
use Rattle.link_report.specs.declared.ending.Ending.TheVariants as endings
use Rattle.link_sender.specs.declared.datagram.Datagram.{Datagram}
use Rattle.link_sender.specs.declared.refusal.SendRefusal.{SendRefusal}
use Rattle.link_sender.specs.declared.refusal.SendRefusal.TheVariants as sending
use Rattle.link_sender.specs.declared.sender.Sender.{Sender}
use Rattle.link_sender.specs.Packing.{bytes_of_all}
use Rattle.link_sender.specs.Sent.{IsRefused, IsSent, Numbers}
use Rattle.link_sender.specs.State.{numbers_of}
use Rattle.vc_types.specs.declared.settings.SendSettings.{SendSettings}
use Rattle.vc_types.specs.Planes.{Planes}
use Rattle.vc_types.specs.SenderSettings.{Generating, Sending, sending_view}
use Rattle.vc_types.specs.Settings.{within}

-- ---- one frame

module _ {F H : Type 0} (g : Generating) (window : ℕ) (sent : List Planes) (frame : Planes) (old : Sender F) (checker : Checker H) (behind : HasChecked g window sent old checker)
    (answers : Need → ℕ → Type 0) (as_chosen : (need : Need) (index : ℕ) → answers need index → index ≡ chosen_index (sent_by_default g.frames) need) where
  abbrev s : Sending
  s = sent_by_default g.frames

  module _ (new : Sender F) (datagrams : List Datagram) (small : length sent + 1 < 2 ^ 32) (same : new.settings ≡ old.settings)
      (is : IsSent answers (wants_lengths s.choice) s frame (numbers_of old) (numbers_of new) datagrams) where
    pub sent_behind : bytes_of_all datagrams ≡ next_sent s sent frame
    sent_behind = datagrams_are s answers as_chosen sent frame (numbers_of old) (numbers_of new) datagrams small behind.sent.numbers_are is

    pub frame_checked : (next : Checker H) → IsCheckedUpTo g window (frames_sent s sent ++ bytes_of_all datagrams) next → HasChecked g window (sent ++ frame ∷ []) new next
    frame_checked next checked = record {
      sent = record {
        settings_are = ap sending_view same ∙ behind.sent.settings_are;
        numbers_are = numbers_are s answers as_chosen sent frame (numbers_of old) (numbers_of new) datagrams small behind.sent.numbers_are is;
        sendable = All-push (λ planes. frame_fault s planes ≡ None) sent frame behind.sent.sendable (sound s answers as_chosen sent frame (numbers_of old) (numbers_of new) datagrams small behind.sent.numbers_are is);
      };
      checked = subst (λ (l : List (List ℕ)). IsCheckedUpTo g window l next) (ap (λ (l : List (List ℕ)). frames_sent s sent ++ l) sent_behind ∙ sym (frames_sent-more s sent frame)) checked;
    }

  pub frame_refused : (refusal : SendRefusal) → IsRefused answers (wants_lengths s.choice) s frame refusal → IsFrameRefused g frame (refusal_ending refusal)
  frame_refused (sending.SampleRange plane place value) refused = refused_as_chosen s answers as_chosen frame refused.asked refused.rest refused.indices _ refused.needs refused.answers refused.fault
  frame_refused (sending.SliceTooLarge slice bytes) refused = refused_as_chosen s answers as_chosen frame refused.asked refused.rest refused.indices _ refused.needs refused.answers refused.fault
  frame_refused sending.NoMemory refused = tt

-- ---- one of all generated frames

module _ (g : Generating) (known : IsTrue (within 1 4 g.frames.range)) (k state : ℕ) (room : k < g.count) (at : state ≡ state_behind g.seed (k * frame_samples (shape_of_frames g.frames))) (frame : Planes) (frame_is : frame ≡ generated_frame (shape_of_frames g.frames) state) where
  abbrev before : List Planes
  before = generated_frames (shape_of_frames g.frames) g.seed k

  frames_split : (more : List Planes) × (all_generated g ≡ before ++ frame ∷ more)
  unfolding generated_frames
  frames_split =
      let shape = shape_of_frames g.frames in
      let whole : k + suc (g.count - k - 1) ≡ g.count = omega (arith, room) in
      let z = state_behind g.seed (k * frame_samples shape) in (
        generated_frames shape (state_behind z (frame_samples shape)) (g.count - k - 1),
        sym (ap (generated_frames shape g.seed) whole)
            ∙ frames_then shape g.seed k (suc (g.count - k - 1))
            ∙ ap (λ (f : Planes). before ++ f ∷ generated_frames shape (state_behind z (frame_samples shape)) (g.count - k - 1)) (sym (frame_is ∙ ap (generated_frame shape) at)),
      )

  pub one_refused : (ending : Ending) → AreSendable (sent_by_default g.frames) before → IsFrameRefused g frame ending → IsOneRefused g ending
  one_refused endings.NoMemory sendable refused = tt
  one_refused (endings.SliceTooLarge slice bytes) sendable refused = record {
    others = before;
    frame = frame;
    more = frames_split.0;
    frames_are = frames_split.1;
    sendable = sendable;
    refused = refused;
  }
  one_refused (endings.SampleTooLarge place plane value) sendable refused =
      absurd (no_sample_fault g.frames state plane place value known (sym (ap (frame_fault (sent_by_default g.frames)) frame_is) ∙ refused))
  one_refused ending sendable refused = absurd refused

-- ---- the end

pub stream_checked : {H : Type 0} (g : Generating) (window : ℕ) (end : List ℕ) (checker : Checker H) → end ≡ end_sent (sent_by_default g.frames) (all_generated g)
    → IsCheckedUpTo g window (frames_sent (sent_by_default g.frames) (all_generated g) ++ end ∷ []) checker → IsCheckedUpTo g window (checked_stream g) checker
stream_checked g window end checker is checked =
    subst (λ (l : List (List ℕ)). IsCheckedUpTo g window l checker)
    (ap (λ (e : List ℕ). frames_sent (sent_by_default g.frames) (all_generated g) ++ e ∷ []) is ∙ sym (stream_is (sent_by_default g.frames) (all_generated g)))
    checked

-- ---- before the first frame

pub nothing_sent : {F : Type 0} (g : Generating) (sender : Sender F) (settings : SendSettings) → sender.settings ≡ settings → sending_view settings ≡ sent_by_default g.frames → numbers_of sender ≡ record { frame = 0; number = settings.seq; timestamp = 0 } → HasSentFrames g [] sender
nothing_sent g sender settings same view numbers = record {
  settings_are = ap sending_view same ∙ view;
  numbers_are = numbers ∙ ap (λ (s : Sending). first_numbers s.seq) view ∙ numbers_none (sent_by_default g.frames) (omega arith);
  sendable = All-nil (λ planes. frame_fault (sent_by_default g.frames) planes ≡ None);
}
  where
    first_numbers : ℕ → Numbers
    first_numbers seq = record { frame = 0; number = seq; timestamp = 0 }

pub none_checked : {F H : Type 0} (g : Generating) (window : ℕ) (sender : Sender F) (checker : Checker H) → HasSentFrames g [] sender → IsCheckedUpTo g window [] checker → HasChecked g window (generated_frames (shape_of_frames g.frames) g.seed 0) sender checker
unfolding generated_frames
none_checked g window sender checker sent checked = record {
  sent = sent;
  checked = subst (λ (l : List (List ℕ)). IsCheckedUpTo g window l checker) (sym (none_sent (sent_by_default g.frames))) checked;
}

-- one generated frame more
pub one_more_checked : {F H : Type 0} (g : Generating) (window k state : ℕ) (frame : Planes) (sender : Sender F) (checker : Checker H) → state ≡ state_behind g.seed (k * frame_samples (shape_of_frames g.frames)) → frame ≡ generated_frame (shape_of_frames g.frames) state
    → HasChecked g window (generated_frames (shape_of_frames g.frames) g.seed k ++ frame ∷ []) sender checker → HasChecked g window (generated_frames (shape_of_frames g.frames) g.seed (k + 1)) sender checker
one_more_checked g window k state frame sender checker at is checked =
    let shape = shape_of_frames g.frames in
    subst (λ (l : List Planes). HasChecked g window l sender checker)
    (ap (λ (f : Planes). generated_frames shape g.seed k ++ f ∷ []) (is ∙ ap (generated_frame shape) at) ∙ sym (one_frame_more shape g.seed k))
    checked
