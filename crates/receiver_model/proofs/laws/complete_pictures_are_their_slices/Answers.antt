use Rattle.receiver_model.proofs.WholePictures.{own_picture}
use Rattle.receiver_model.proofs.laws.complete_pictures_are_their_slices.Goals as goal

pub returns : goal.returns
returns c = own_picture
