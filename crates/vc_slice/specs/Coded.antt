-- What code keeps of a slice's bytes.
use Rattle.vc_types.specs.Slices as slices
use Rattle.vc_slice.specs.declared.coded.CodedSlice.{CodedSlice}

abbrev pub coded_of : CodedSlice → slices.CodedSlice
coded_of s = record { index = s.index; y = s.y.now; c1 = s.c1.now; c2 = s.c2.now }
