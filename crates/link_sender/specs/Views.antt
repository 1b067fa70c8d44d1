-- What code keeps of a picture, as plain data.
use Rattle.std.specs.Prelude.{ℕ, List, []}
use Rattle.stream_model.specs.Packing.{PackedPicture, slices_in}
use Rattle.link_sender.specs.declared.picture.Picture.{Picture}
use Rattle.vc_types.specs.TransformParameters.{Parameters, parameters_of}

-- a picture by its number, its parameters and its bytes
abbrev pub packed_picture_of : ℕ → Parameters → List ℕ → List ℕ → List ℕ → PackedPicture
packed_picture_of number p header coded slices = record {
  number = number;
  header = header;
  coded = coded;
  parameters = p;
  slices = slices_in p slices;
}

-- what stands before a picture's slices
abbrev pub heads_of : Picture → PackedPicture
heads_of p = record {
  number = p.number;
  header = p.header.now;
  coded = p.params.now;
  parameters = parameters_of p.plan.now;
  slices = [];
}

abbrev pub packed_view : Picture → List ℕ → PackedPicture
packed_view p slices =
    packed_picture_of p.number (parameters_of p.plan.now) p.header.now p.params.now slices
