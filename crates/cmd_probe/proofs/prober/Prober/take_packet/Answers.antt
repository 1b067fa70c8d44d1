use Rattle.std.proofs.Common.{◌≡◌, Some, ap, sym, ◌∙◌}
use Rattle.std.proofs.lemmas.Result.{on_ok_weaker}
use Rattle.std.specs.Prelude.{position}
use Rattle.rtp_head.specs.Views.{packet_of}
use Rattle.cmd_probe.proofs.Changes.{known}
use Rattle.cmd_probe.specs.Probers.{probed_by}
use Rattle.cmd_probe.specs.Sources.{is_source}
use Rattle.cmd_probe.proofs.prober.Prober.take_packet.Goals as goal

pub returns-in-Some : goal.returns-in-Some
returns-in-Some c =
    let x = probed_by c.args.self.now in
    let p = packet_of c.args.packet.now in
    let found : position (is_source p.ssrc) x.sources ≡ Some c.in-Some.place =
    ap (position (is_source p.ssrc)) (sym c.deref.ensures.value) ∙ sym c.place_of.ensures.value ∙ c.in-Some.is in
    on_ok_weaker c.take.result
    (λ taken. known x p c.args.datagram.now c.in-Some.place c.index_mut.result.now _ found c.index_mut.ensures.value taken)
    c.take.ensures
