-- How a command ends whose image is not opened.
use Rattle.image_refusal.specs.declared.call_fault.CallFault.{CallFault}
use Rattle.image_refusal.specs.declared.call_fault.CallFault.TheVariants.{Memory, Disk, Refused}
use Rattle.image_refusal.specs.declared.open_fault.HeadFault.{HeadFault}
use Rattle.image_refusal.specs.declared.open_fault.HeadFault.TheVariants.{Super, Geom}
use Rattle.image_refusal.specs.declared.open_fault.OpenFault.{OpenFault}
use Rattle.image_refusal.specs.declared.open_fault.OpenFault.TheVariants as Causes
use Rattle.image_refusal.specs.declared.open_fault.OpenFault.TheVariants.{Head, Journal}
use Rattle.command_ending.specs.declared.ended.Ended.{Ended}
use Rattle.command_ending.specs.declared.ended.Ended.TheVariants as Endings
use Rattle.command_ending.specs.declared.image_fault.ImageFault.{ImageFault}
use Rattle.command_ending.specs.declared.image_fault.ImageFault.TheVariants as Faults
use Rattle.run_model.specs.declared.outer.Outer.TheVariants as outers
use Rattle.command_ending.specs.declared.refusal.Refusal.TheVariants as refusals

-- Why an image is refused whose first sector is.
abbrev pub head_fault : HeadFault → ImageFault
head_fault (Super fault) = Faults.Super fault
head_fault (Geom fault) = Faults.Geom fault

-- What ends a command whose image is not opened.
abbrev pub ended_by_opening : CallFault OpenFault → Ended
ended_by_opening Memory = Endings.Memory
ended_by_opening Disk = Endings.Failed outers.Disk
ended_by_opening (Refused (Head fault)) = Endings.Refused (refusals.Image (head_fault fault))
ended_by_opening (Refused (Causes.Consent flags)) = Endings.Refused (refusals.Image (Faults.Consent flags))
ended_by_opening (Refused (Journal fault)) = Endings.Refused (refusals.Image (Faults.Journal fault))
