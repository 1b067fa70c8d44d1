use Rattle.std.proofs.Common.{◌≡◌, List, ℕ, Some, None, ap, sym, ◌∙◌}
use Rattle.link_model.specs.Judgement.{judged_value}
use Rattle.link_model.specs.Session.{Received, session_by, fragment_by, is_end, params_fragment}
use Rattle.link_model.specs.Session.{slices_fragment}
use Rattle.link_model.specs.Windows.{window_outcome}
use Rattle.receiver_model.specs.Judging.{opens_from, known_by_window}
use Rattle.link_window.specs.Views.{sent_fragment}
use Rattle.link_window.specs.declared.fragment.Fragment.{Fragment}
use Rattle.link_window.specs.declared.fragment.Part.TheVariants as parts
use Rattle.link_model.specs.declared.outcome.Outcome.TheVariants as outcomes
use Rattle.vc2_payload.specs.Views.{payload_value, head_of}
use Rattle.vc2_payload.specs.declared.payload.Payload.{Payload}
use Rattle.link_window.proofs.DatagramSteps.{foreign, nothing_more, has_end, brings}
use Rattle.link_window.proofs.hearing.hear_within.Goals as goal

pub returns-then-packet-ssrc : goal.returns-then-packet-ssrc
returns-then-packet-ssrc c =
    let packet = c.args.packet.now in
    let st = c.args.standing.now in
    let r : Received = record { ssrc = packet.ssrc; value = payload_value packet.payload } in
    let none : opens_from st (session_by r.ssrc r.value) ≡ None = sym (ap (opens_from st) c.requires.opening) ∙ c.requires.goes_on in
    foreign c.args.datagram.now r c.requires.read st none (λ same. c.if-packet-ssrc.true (same ∙ sym c.ssrc.ensures))

pub returns-in-Header : goal.returns-in-Header
returns-in-Header c =
    let packet = c.args.packet.now in
    let st = c.args.standing.now in
    let r : Received = record { ssrc = packet.ssrc; value = payload_value packet.payload } in
    let none : opens_from st (session_by r.ssrc r.value) ≡ None = sym (ap (opens_from st) c.requires.opening) ∙ c.requires.goes_on in
    let is = c.in-Header.is in
    nothing_more c.args.datagram.now r c.requires.read st none (c.if-packet-ssrc.false ∙ c.ssrc.ensures) c.header_outcome.result
    (ap (λ (p : Payload). fragment_by (payload_value p)) is) (ap (λ (p : Payload). is_end (payload_value p)) is)
    (ap (λ (p : Payload). judged_value (known_by_window st) (payload_value p)) is
    ∙ sym (c.header_outcome.ensures packet.ssrc c.in-Header.body.now (c.requires.opening ∙ ap (λ (p : Payload). session_by packet.ssrc (payload_value p)) is)))

pub returns-in-End : goal.returns-in-End
returns-in-End c =
    let packet = c.args.packet.now in
    let st = c.args.standing.now in
    let r : Received = record { ssrc = packet.ssrc; value = payload_value packet.payload } in
    let none : opens_from st (session_by r.ssrc r.value) ≡ None = sym (ap (opens_from st) c.requires.opening) ∙ c.requires.goes_on in
    let is = c.in-End.is in
    has_end c.args.datagram.now r c.requires.read st none (c.if-packet-ssrc.false ∙ c.ssrc.ensures)
    (ap (λ (p : Payload). fragment_by (payload_value p)) is) (ap (λ (p : Payload). is_end (payload_value p)) is)
    (ap (λ (p : Payload). judged_value (known_by_window st) (payload_value p)) is)

pub returns-in-Skip : goal.returns-in-Skip
returns-in-Skip c =
    let packet = c.args.packet.now in
    let st = c.args.standing.now in
    let r : Received = record { ssrc = packet.ssrc; value = payload_value packet.payload } in
    let none : opens_from st (session_by r.ssrc r.value) ≡ None = sym (ap (opens_from st) c.requires.opening) ∙ c.requires.goes_on in
    let is = c.in-Skip.is in
    nothing_more c.args.datagram.now r c.requires.read st none (c.if-packet-ssrc.false ∙ c.ssrc.ensures) outcomes.Skipped
    (ap (λ (p : Payload). fragment_by (payload_value p)) is) (ap (λ (p : Payload). is_end (payload_value p)) is)
    (ap (λ (p : Payload). judged_value (known_by_window st) (payload_value p)) is)

pub returns-in_ok-body-in-Params : goal.returns-in_ok-body-in-Params
returns-in_ok-body-in-Params c =
    let packet = c.args.packet.now in
    let st = c.args.standing.now in
    let r : Received = record { ssrc = packet.ssrc; value = payload_value packet.payload } in
    let none : opens_from st (session_by r.ssrc r.value) ≡ None = sym (ap (opens_from st) c.requires.opening) ∙ c.requires.goes_on in
    let is = c.in-Params.is in
    let f : Fragment = record { number = c.in-Params.head.number; part = parts.Params c.in_ok-body-in-Params.body } in
    let same : params_fragment (head_of c.in-Params.head) c.in-Params.body.now ≡ sent_fragment f =
    ap (λ (l : List ℕ). params_fragment (head_of c.in-Params.head) l) (sym c.in_ok-body-in-Params.ensures) in
    brings c.args.datagram.now r c.requires.read st none (c.if-packet-ssrc.false ∙ c.ssrc.ensures) f
    (ap (λ (p : Payload). fragment_by (payload_value p)) is ∙ ap Some same) (ap (λ (p : Payload). is_end (payload_value p)) is)
    (ap (λ (p : Payload). judged_value (known_by_window st) (payload_value p)) is ∙ ap (window_outcome st.window) same)

pub returns-in_ok-body-in-Slices : goal.returns-in_ok-body-in-Slices
returns-in_ok-body-in-Slices c =
    let packet = c.args.packet.now in
    let st = c.args.standing.now in
    let r : Received = record { ssrc = packet.ssrc; value = payload_value packet.payload } in
    let none : opens_from st (session_by r.ssrc r.value) ≡ None = sym (ap (opens_from st) c.requires.opening) ∙ c.requires.goes_on in
    let s = c.in-Slices in
    let is = s.is in
    let f : Fragment = record {
      number = s.head.number;
      part = parts.Slices (record {
        prefix = s.head.prefix;
        scaler = s.head.scaler;
        count = s.count;
        x = s.x;
        y = s.y;
        body = c.in_ok-body-in-Slices.body;
      });
    } in
    let same : slices_fragment (head_of s.head) s.count s.x s.y s.body.now ≡ sent_fragment f =
    ap (λ (l : List ℕ). slices_fragment (head_of s.head) s.count s.x s.y l) (sym c.in_ok-body-in-Slices.ensures) in
    brings c.args.datagram.now r c.requires.read st none (c.if-packet-ssrc.false ∙ c.ssrc.ensures) f
    (ap (λ (p : Payload). fragment_by (payload_value p)) is ∙ ap Some same) (ap (λ (p : Payload). is_end (payload_value p)) is)
    (ap (λ (p : Payload). judged_value (known_by_window st) (payload_value p)) is ∙ ap (window_outcome st.window) same)
