use Rattle.std.proofs.Common.{ap, refl, ◌∙◌}
use Rattle.stream_model.specs.Packing.{end_around}
use Rattle.vc_types.specs.SenderSettings.{sending_view}
use Rattle.link_sender.proofs.SentAsPacked.{end_as_packed}
use Rattle.link_sender.proofs.sender.Sender.finish.Goals as goal

pub returns-clause-value : goal.returns-clause-value
returns-clause-value g c =
    let sender = c.args.self.now in record {
      datagram_is =
          c.in_ok-last.ensures
          ∙ ap (λ s. end_around s sender.number sender.timestamp) c.packing-s.ensures
          ∙ end_as_packed (sending_view sender.settings) sender.number sender.timestamp;
      numbers_are = refl;
    }
