use Rattle.std.proofs.Common.{◌≡◌, ◌+◌, ◌<◌, ◌++◌, ℕ, List, [], Option, length, drop, ap, sym, ◌∙◌, arith, rules}
use Rattle.std.specs.Prelude.{unwrap_or}
use Rattle.std.specs.Option.{option_copied}
use Rattle.std.proofs.lemmas.List.{append_assoc}
use Rattle.link_model.specs.Books.{Gathered, slot_at}
use Rattle.link_gather.proofs.FillingLaws.{slots_bytes, bytes_from}
use Rattle.link_gather.proofs.gathering.Gathering.whole_bytes.Goals as goal

pub loop-i-preserved : goal.loop-i-preserved
loop-i-preserved c =
    grind (
      arith,
      slots_bytes,
      append_assoc,
      bytes_from,
      c.self.view_is,
      c.get.ensures,
      c.in_ok-append.ensures,
      c.loop-i.invariant,
    )
