-- How a `resize` ends whose image is not resized.
use Rattle.disk_model.specs.Disk.{Image}
use Rattle.image_refusal.specs.declared.call_fault.CallFault.{CallFault}
use Rattle.image_refusal.specs.declared.call_fault.CallFault.TheVariants.{Memory, Disk, Refused}
use Rattle.image_refusal.specs.declared.resize_fault.ResizeFault.{ResizeFault}
use Rattle.image_refusal.specs.declared.resize_fault.ResizeFault.TheVariants.{Head, Growth, Journal}
use Rattle.command_ending.specs.declared.ended.Ended.{Ended}
use Rattle.command_ending.specs.declared.ended.Ended.TheVariants as Endings
use Rattle.command_ending.specs.declared.image_fault.ImageFault.TheVariants as Faults
use Rattle.run_model.specs.declared.outer.Outer.TheVariants as outers
use Rattle.command_ending.specs.declared.refusal.Refusal.TheVariants as refusals
use Rattle.command_task.specs.Refusing.{head_fault}

-- What ends the resize of an image that is not resized.
abbrev pub ended_by_resize : CallFault ResizeFault → Ended
ended_by_resize Memory = Endings.Memory
ended_by_resize Disk = Endings.Failed outers.Disk
ended_by_resize (Refused (Head fault)) = Endings.Refused (refusals.Image (head_fault fault))
ended_by_resize (Refused (Growth fault)) = Endings.Refused (refusals.Image (Faults.Geom fault))
ended_by_resize (Refused (Journal fault)) = Endings.Refused (refusals.Image (Faults.Journal fault))
