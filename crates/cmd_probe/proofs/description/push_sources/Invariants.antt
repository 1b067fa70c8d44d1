use Rattle.std.proofs.Common.{◌≡◌, ◌++◌, take}
use Rattle.std.specs.List.{flat_map}
use Rattle.std.specs.String.{string_bytes}
use Rattle.cmd_probe.specs.Description.{source_text}
use Rattle.cmd_probe.proofs.description.push_sources.Given as goal

abbrev pub invariant-loop-source : goal.invariant-loop-source
invariant-loop-source l =
    string_bytes l.text ≡ string_bytes l.fn.text ++ flat_map source_text (take l.source-index l.sources)
