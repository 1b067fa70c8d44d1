-- How checking ends, and what it asked of the workers.
use Rattle.std.proofs.Common.{◌≡◌, ℕ, Option, Ok, Err, inl}
use Rattle.cmd_gen.specs.Checking.{Checks, IsCheckable, checked_stream}
use Rattle.cmd_gen.specs.Looping.{IsOneRefused}
use Rattle.link_receiver.proofs.Hired.{started}
use Rattle.cmd_gen.specs.Differences.{differences}
use Rattle.cmd_gen.specs.Generating.{sample_total}
use Rattle.link_model.specs.Output.{full_output}
use Rattle.link_receiver.specs.HeardLists.{AskedPlaces}
use Rattle.link_report.specs.declared.ending.Ending.{Ending}
use Rattle.link_report.specs.declared.ending.Ending.TheVariants as endings
use Rattle.link_report.specs.declared.summary.Summary.TheVariants.{Compared}
use Rattle.vc_ports.specs.Changes.{Change}
use Rattle.vc_slice.specs.Asked.{Grows, Told, starting}
use Rattle.vc_types.specs.SenderSettings.{Generating}

module _ (g : Generating) (window workers : ℕ) (before mid after : Option Told) (grew : Grows before mid (starting workers (Ok tt))) (asked : AskedPlaces mid after) where
  abbrev hands : Change (Option Told)
  hands = record { before = before; after = after }

  pub compared : (frames samples different : ℕ) → IsCheckable g → frames ≡ g.count → samples ≡ sample_total g → different ≡ differences g (full_output window (checked_stream g)) → Checks g window workers (Ok (Compared frames samples different)) hands
  compared frames samples different checkable frames_are samples_are different_are = record {
    ended = record { checkable = checkable; frames_are = frames_are; samples_are = samples_are; different_are = different_are };
    workers_started = started workers before mid after grew asked;
  }

  pub stopped : (ending : Ending) → IsOneRefused g ending → Checks g window workers (Err ending) hands
  stopped endings.NoMemory refused = record { ended = tt; workers_started = inl (started workers before mid after grew asked) }
  stopped (endings.SliceTooLarge slice bytes) refused = record { ended = refused; workers_started = started workers before mid after grew asked }
  stopped ending refused = absurd refused
