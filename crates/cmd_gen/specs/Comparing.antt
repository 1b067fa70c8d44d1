-- What a checker has compared.
use Rattle.std.specs.Prelude.{◌≡◌, ℕ, List, ◌++◌}
use Rattle.cmd_gen.specs.declared.checker.Checker.{Checker}
use Rattle.cmd_gen.specs.Counting.{counted_with}
use Rattle.cmd_gen.specs.Differences.{differences}
use Rattle.link_model.specs.Output.{output_so_far}
use Rattle.link_receiver.specs.HeardLists.{AsFrames, HasHeard}
use Rattle.vc_types.specs.SenderSettings.{Generating}

-- its receiver heard these datagrams, and the frames that they let go were compared
pub record IsCheckedUpTo {H : Type 0}
    (g : Generating) (window : ℕ) (heard : List (List ℕ)) (c : Checker H) : Type 0 where
  pub has_heard : HasHeard AsFrames c.receiver window heard
  pub counted : (bytes : List ℕ) → counted_with c.comparison bytes
      ≡ differences g (output_so_far window heard ++ bytes)
