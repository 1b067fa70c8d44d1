-- What the releases of a call do to a receiver, to places, to a sink and to what is kept of
-- what was written.
use Rattle.std.specs.Prelude.{◌≡◌, ℕ, List, Option}
use Rattle.receiver_model.specs.Receptions.{Reception}
use Rattle.receiver_model.specs.Releasing.{releases_all}
use Rattle.link_receiver.specs.Freeing.{all_freed_places}
use Rattle.link_slices.specs.Calls.{freeing}
use Rattle.link_pictures.specs.Outputs.{all_released_output, written_behind_all}
use Rattle.link_pictures.specs.declared.written.Written.{Written}
use Rattle.vc_ports.specs.Writing.{Grew}
use Rattle.vc_slice.specs.Asked.{Told, Grows}

-- each picture that may be released was
pub record AreReleased (told_before told_behind : Option Told)
    (held_before held_behind : Option (List ℕ)) (written_before written_behind : Written)
    (old new : Reception) : Type 0 where
  pub value : new ≡ releases_all old
  pub kept : written_behind ≡ written_behind_all written_before old
  pub told : Grows told_before told_behind (freeing (all_freed_places old))
  pub written : Grew held_before held_behind (all_released_output written_before old)
