-- What code keeps of a part of slices, and of a new slice.
use Rattle.link_model.specs.Session as model
use Rattle.link_gather.specs.NewSlices.{PictureSlice, picture_slice}
use Rattle.link_gather.specs.declared.part.NewSlice.{NewSlice}
use Rattle.link_gather.specs.declared.part.SlicePart.{SlicePart}
use Rattle.vc_types.specs.TransformParameters.{parameters_of}

abbrev pub slice_part_of : SlicePart → model.SlicePart
slice_part_of p = record {
  prefix = p.prefix;
  scaler = p.scaler;
  count = p.count;
  x = p.x;
  y = p.y;
  body = p.body;
}

abbrev pub new_slice_of : NewSlice → PictureSlice
new_slice_of s = picture_slice (parameters_of s.plan) s.index s.bytes
