-- What a sender answers on a frame, and at the end, as what is due behind the frames before.
use Rattle.std.proofs.Common.{◌≡◌, ℕ, ◌+◌, ◌-◌, ◌*◌, ◌%◌, ◌^◌, ◌<◌, false, List, [], ◌∷◌, ◌++◌, length, get_or, None, Err, refl, ap, sym, ◌∙◌, inl, inr, arith}
use Rattle.std.proofs.lemmas.List.Sums.{sum_by-append}
use Rattle.std.proofs.lemmas.List.{length-map}
use Rattle.std.proofs.lemmas.Grind.{common_steps}
use Rattle.link_outside.specs.declared.outlet.OutletFault.{OutletFault}
use Rattle.link_outside.specs.declared.outlet.OutletFault.TheVariants as outlets
use Rattle.cmd_send.specs.FramesSent.{frame_fault, frame_indices, frames_sent}
use Rattle.cmd_send.specs.Looping.{end_sent, next_sent}
use Rattle.cmd_send.specs.Counted.{totals_of, totals_with}
use Rattle.cmd_send.specs.Steps.{FailsAt, Finishes, IsFinished, numbers_after, put_ending, refusal_ending}
use Rattle.cmd_send.specs.declared.totals.Totals.{Totals}
use Rattle.cmd_send.proofs.ChosenIndices.{whole_indices, refused_as_chosen}
use Rattle.cmd_send.proofs.Numbering.{numbers_more}
use Rattle.cmd_send.proofs.SentMore.{length-frames_sent}
use Rattle.cmd_send.proofs.Stopping.{stream_is}
use Rattle.link_model.specs.Packets.{End, rtp_header}
use Rattle.link_model.specs.Sending.{EndContent, datagrams_from, end_datagram, frame_datagrams, frames_indices, frames_outgoing, high_half, last_datagram, outgoing, pictures_per_frame, sent_datagram, sent_packet, sent_value, timestamp_of}
use Rattle.link_model.specs.SendingFaults.{send_fault}
use Rattle.link_model.specs.SendingPictures.{Need, chosen_index, wants_lengths}
use Rattle.link_sender.proofs.Numbered.{wrapped}
use Rattle.link_sender.specs.declared.datagram.Datagram.{Datagram}
use Rattle.link_sender.specs.declared.refusal.SendRefusal.{SendRefusal}
use Rattle.link_sender.specs.declared.refusal.SendRefusal.TheVariants as sending
use Rattle.link_sender.specs.Packing.{bytes_of_all, datagram_with}
use Rattle.link_sender.specs.Sent.{IsSent, IsRefused, Numbers}
use Rattle.vc_types.specs.Planes.{Planes}
use Rattle.vc_types.specs.SenderSettings.{Sending}

module _ (s : Sending) (answers : Need → ℕ → Type 0) (as_chosen : (need : Need) (index : ℕ) → answers need index → index ≡ chosen_index s need) (frames : List Planes) (frame : Planes) where
  -- ---- a frame that is sent

  module _ (old new : Numbers) (datagrams : List Datagram) (small : length frames + 1 < 2 ^ 32) (is : old ≡ numbers_after s frames) (sent : IsSent answers (wants_lengths s.choice) s frame old new datagrams) where
    indices_are : sent.indices ≡ frame_indices s frame
    indices_are = whole_indices s answers as_chosen frame sent.indices sent.answers

    pub sound : frame_fault s frame ≡ None
    sound = ap (λ (l : List ℕ). send_fault s l frame) (sym indices_are) ∙ sent.sound

    same_numbers : frame_datagrams s (numbers_after s frames).frame (numbers_after s frames).number (frame_indices s frame) frame ≡ next_sent s frames frame
    unfolding frame_datagrams
    same_numbers = grind (arith, common_steps, wrapped)

    pub datagrams_are : bytes_of_all datagrams ≡ next_sent s frames frame
    datagrams_are = grind (arith, common_steps, indices_are, same_numbers)

    pub numbers_are : new ≡ numbers_after s (frames ++ frame ∷ [])
    numbers_are =
        let counted : length datagrams ≡ length (next_sent s frames frame) = sym (length-map datagrams (λ (d : Datagram). d.bytes.items)) ∙ ap length datagrams_are in
        numbers_more s frames frame small old new (length datagrams) is counted sent.numbers_are

  -- ---- a frame that is refused

  pub fails_by : (went : List (List ℕ) → Type 0) (broke : List (List ℕ) → OutletFault → Type 0) (refusal : SendRefusal) → IsRefused answers (wants_lengths s.choice) s frame refusal → went [] → FailsAt s frames frame went broke (refusal_ending refusal)
  fails_by went broke (sending.SampleRange plane place value) refused nothing = (refused_as_chosen s answers as_chosen frame refused.asked refused.rest refused.indices _ refused.needs refused.answers refused.fault, nothing)
  fails_by went broke (sending.SliceTooLarge slice bytes) refused nothing = (refused_as_chosen s answers as_chosen frame refused.asked refused.rest refused.indices _ refused.needs refused.answers refused.fault, nothing)
  fails_by went broke sending.NoMemory refused nothing = inl nothing

-- a datagram of a frame didn't go out
pub fails_in_part : (s : Sending) (frames : List Planes) (frame : Planes) (went : List (List ℕ) → Type 0) (broke : List (List ℕ) → OutletFault → Type 0) (fault : OutletFault) → frame_fault s frame ≡ None → broke (next_sent s frames frame) fault
    → FailsAt s frames frame went broke (put_ending fault)
fails_in_part s frames frame went broke outlets.NoMemory sound part = inr (sound, part)
fails_in_part s frames frame went broke outlets.Output sound part = (sound, part)
fails_in_part s frames frame went broke outlets.Wire sound part = (sound, part)

-- ---- the end

alone : (x y : List ℕ) → x ∷ [] ≡ y ∷ [] → x ≡ y
alone x y same = ap (λ (l : List (List ℕ)). get_or l 0 []) same

end_with : (s : Sending) (n picture : ℕ) → datagrams_from s n (outgoing picture EndContent ∷ []) ≡ datagram_with s n (timestamp_of s picture) false (End (high_half n)) ∷ []
unfolding datagrams_from sent_datagram sent_packet sent_value rtp_header
end_with s n picture = refl

end_from : (s : Sending) (n picture : ℕ) → datagrams_from s n (outgoing picture EndContent ∷ []) ≡ sent_datagram s n (outgoing picture EndContent) ∷ []
unfolding datagrams_from
end_from s n picture = refl

end_of : (s : Sending) (frames : List Planes) → end_sent s frames ≡ sent_datagram s (s.seq + length (frames_outgoing s (frames_indices s frames) frames)) (outgoing (length frames * pictures_per_frame s - 1) EndContent)
unfolding last_datagram end_datagram
end_of s frames = refl

pub end_is : (s : Sending) (frames : List Planes) (old : Numbers) → old ≡ numbers_after s frames → datagram_with s old.number old.timestamp false (End (high_half old.number)) ≡ end_sent s frames
end_is s frames old is =
    ap (λ (n : Numbers). datagram_with s n.number n.timestamp false (End (high_half n.number))) is
    ∙ alone _ _ (sym (end_with s (number % 2 ^ 32) picture) ∙ wrapped s (number % 2 ^ 32) number (outgoing picture EndContent ∷ []) wraps ∙ end_from s number picture)
    ∙ ap (λ (n : ℕ). sent_datagram s (s.seq + n) (outgoing picture EndContent)) (length-frames_sent s frames)
    ∙ sym (end_of s frames)
  where
    number : ℕ
    number = s.seq + length (frames_sent s frames)

    picture : ℕ
    picture = length frames * pictures_per_frame s - 1

    wraps : number % 2 ^ 32 % 2 ^ 32 ≡ number % 2 ^ 32
    wraps = omega arith

-- the end went out, and the totals are those of all
pub finished_with : (s : Sending) (frames : List Planes) (went : List (List ℕ) → Type 0) (old new : Totals) (end : List ℕ) → old ≡ totals_of s frames → new ≡ totals_with old (end ∷ []) → end ≡ end_sent s frames → went (end ∷ []) → IsFinished s frames went new
finished_with s frames went old new end is step same sent =
    grind (arith, common_steps, datagrams_are, sum_by-append, stream_is)

-- or it didn't
pub finished_in_part : (s : Sending) (frames : List Planes) (went : List (List ℕ) → Type 0) (broke : List (List ℕ) → OutletFault → Type 0) (fault : OutletFault) (end : List ℕ) → end ≡ end_sent s frames → broke (end ∷ []) fault → Finishes s frames went broke (Err (put_ending fault))
finished_in_part s frames went broke fault end same part = grind (arith, common_steps)
