use Rattle.vc_types.proofs.SlicesApart.{all_sound, one_unsound}
use Rattle.vc_slice.proofs.laws.slices_decode_apart.Goals as goal

pub returns-clause-sound : goal.returns-clause-sound
returns-clause-sound c = all_sound

pub returns-clause-unsound : goal.returns-clause-unsound
returns-clause-unsound c = one_unsound
