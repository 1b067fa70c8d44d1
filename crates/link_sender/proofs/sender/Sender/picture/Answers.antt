use Rattle.std.proofs.Common.{sym, ◌∙◌, arith}
use Rattle.picture_encode.proofs.PackedBits.{packed_back}
use Rattle.link_sender.proofs.sender.Sender.picture.Goals as goal

pub returns : goal.returns
returns g c = record {
  settings_are = c.packing.ensures;
  timestamp_is = c.timestamp.ensures;
  number_is = c.picture_number.ensures;
  parameters_are = c.args.self.now.plan_is;
  header_is = sym (packed_back c.args.header.now (λ i h. omega (arith, c.type_inv.header i))) ∙ c.requires.header;
  coded_are = sym (packed_back c.args.params.now (λ i h. omega (arith, c.type_inv.params i))) ∙ c.requires.params;
}
