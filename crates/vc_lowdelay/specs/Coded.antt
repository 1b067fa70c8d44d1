-- What code keeps of a slice's bytes.
use Rattle.vc_lowdelay.specs.LowDelay as low
use Rattle.vc_lowdelay.specs.declared.slice.LowSlice.{LowSlice}

abbrev pub slice_of : LowSlice → low.LowSlice
slice_of s = record { index = s.index; luma = s.luma; colour = s.colour }
