-- The fault of a call, by the fault of its step.
use Rattle.frame_writer.specs.declared.fault.FrameFault.{FrameFault}
use Rattle.frame_writer.specs.declared.fault.FrameFault.TheVariants as frame
use Rattle.link_receiver.specs.declared.fault.EnterFault.{EnterFault}
use Rattle.link_receiver.specs.declared.fault.EnterFault.TheVariants as enter
use Rattle.link_receiver.specs.declared.fault.StepFault.{StepFault}
use Rattle.link_receiver.specs.declared.fault.StepFault.TheVariants as step
use Rattle.link_pictures.specs.declared.fault.StreamFault.{StreamFault}
use Rattle.link_pictures.specs.declared.fault.StreamFault.TheVariants as stream

abbrev pub step_fault : FrameFault → StepFault
step_fault frame.WriteFault = step.WriteFault
step_fault frame.NoMemory = step.NoMemory

abbrev pub units_fault : StreamFault → StepFault
units_fault stream.WriteFault = step.WriteFault
units_fault stream.NoMemory = step.NoMemory

abbrev pub enter_fault : StepFault → EnterFault
enter_fault step.WriteFault = enter.WriteFault
enter_fault step.NoMemory = enter.NoMemory
