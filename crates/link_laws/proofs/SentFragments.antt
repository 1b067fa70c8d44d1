-- What a datagram that was sent is to a receiver: the beginning of the sender's session, or a fragment of it.
use Rattle.std.proofs.Common.{◌≡◌, ℕ, List, [], Some, None, refl, sym, ap, ◌∙◌, append-nil}
use Rattle.link_model.specs.Kept.{SliceRun}
use Rattle.link_model.specs.Sending.{DatagramContent, HeaderContent, ParametersContent, SlicesContent, EndContent, sent_value, sent_datagram, number_bits, AreSettings, FitsDatagram}
use Rattle.link_model.specs.SendingPictures.{sent_sequence, sent_header, shown_presentation, sent_parameters, sent_parameter_bytes}
use Rattle.link_model.specs.Session.{Session, session_with, session_from, begins, ParamsPart, SlicesPart, fragment_from, fragment_in}
use Rattle.link_model.proofs.SentDatagrams.{received-sent_datagram}
use Rattle.link_model.proofs.SentHeads.{coded_whole-sent}
use Rattle.link_laws.proofs.OwnParts.{itself, sent_part}
use Rattle.vc_types.specs.declared.settings.SendSettings.{SendSettings}
use Rattle.vc_types.specs.SenderSettings.{Sending, sending_view}
use Rattle.vc_types.specs.SequenceHeader.{coded_whole_header_of, high_quality_profile}

module _ (settings : SendSettings) (are : AreSettings (sending_view settings)) (number picture : ℕ) where
  abbrev s : Sending
  s = sending_view settings

  abbrev own : Session
  own = record { ssrc = settings.ssrc; sequence = sent_sequence s; presentation = shown_presentation s }

  abbrev sent : DatagramContent → List ℕ
  sent content = sent_datagram s number (record { picture = picture; content = content })

  pub header_begins : begins (sent HeaderContent) ≡ Some own
  unfolding begins sent_value
  header_begins =
      ap session_from (received-sent_datagram s number picture HeaderContent are tt)
      ∙ ap (λ (l : List ℕ). session_with settings.ssrc (coded_whole_header_of high_quality_profile l)) (sym (append-nil (sent_header s)))
      ∙ ap (session_with settings.ssrc) (coded_whole-sent settings [])

  pub parameters_heard : FitsDatagram s ParametersContent → fragment_in own (sent ParametersContent) ≡ Some (record { number = number_bits s picture; part = ParamsPart (sent_parameter_bytes s) })
  unfolding fragment_in sent_value
  parameters_heard fits = ap (fragment_from own) (received-sent_datagram s number picture ParametersContent are fits) ∙ rw (itself settings.ssrc) refl

  pub slices_heard : (run : SliceRun) → FitsDatagram s (SlicesContent run) → fragment_in own (sent (SlicesContent run)) ≡ Some (record { number = number_bits s picture; part = SlicesPart (sent_part (sent_parameters s) run) })
  unfolding fragment_in sent_value sent_parameters
  slices_heard run fits = ap (fragment_from own) (received-sent_datagram s number picture (SlicesContent run) are fits) ∙ rw (itself settings.ssrc) refl

  -- nothing but a header begins a session
  pub parameters_begin_none : FitsDatagram s ParametersContent → begins (sent ParametersContent) ≡ None
  unfolding begins sent_value
  parameters_begin_none fits = ap session_from (received-sent_datagram s number picture ParametersContent are fits)

  pub slices_begin_none : (run : SliceRun) → FitsDatagram s (SlicesContent run) → begins (sent (SlicesContent run)) ≡ None
  unfolding begins sent_value
  slices_begin_none run fits = ap session_from (received-sent_datagram s number picture (SlicesContent run) are fits)

  pub end_begins_none : begins (sent EndContent) ≡ None
  unfolding begins sent_value
  end_begins_none = ap session_from (received-sent_datagram s number picture EndContent are tt)

  -- a header and an end are no fragments
  pub header_unheard : fragment_in own (sent HeaderContent) ≡ None
  unfolding fragment_in sent_value
  header_unheard = ap (fragment_from own) (received-sent_datagram s number picture HeaderContent are tt) ∙ rw (itself settings.ssrc) refl

  pub end_unheard : fragment_in own (sent EndContent) ≡ None
  unfolding fragment_in sent_value
  end_unheard = ap (fragment_from own) (received-sent_datagram s number picture EndContent are tt) ∙ rw (itself settings.ssrc) refl
