-- What code keeps of a fragment, and of a picture that may be released.
use Rattle.link_gather.specs.Views.{slice_part_of}
use Rattle.link_model.specs.Session as model
use Rattle.link_model.specs.Session.{ParamsPart, SlicesPart}
use Rattle.link_model.specs.Windows.{Releasable}
use Rattle.link_window.specs.declared.fragment.Fragment.{Fragment}
use Rattle.link_window.specs.declared.fragment.Part.{Part}
use Rattle.link_window.specs.declared.fragment.Part.TheVariants.{Params, Slices}
use Rattle.link_window.specs.declared.window.Released.{Released}

abbrev pub sent_part : Part → model.Part
sent_part (Params body) = ParamsPart body
sent_part (Slices slices) = SlicesPart (slice_part_of slices)

abbrev pub sent_fragment : Fragment → model.Fragment
sent_fragment f = record { number = f.number; part = sent_part f.part }

abbrev pub releasable_of : Released → Releasable
releasable_of r = record { number = r.number; complete = r.complete }
