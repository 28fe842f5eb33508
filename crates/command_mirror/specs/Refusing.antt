-- How a command of two images ends whose second image is not opened, or whose legs are no mirror.
use Rattle.device_model.specs.Refusals.{ImageFault, BySuperblock, ByGeometry, ByConsent, ByJournal}
use Rattle.image_refusal.specs.declared.call_fault.CallFault.{CallFault}
use Rattle.image_refusal.specs.declared.call_fault.CallFault.TheVariants.{Memory, Disk, Refused}
use Rattle.image_refusal.specs.declared.open_fault.HeadFault.{HeadFault}
use Rattle.image_refusal.specs.declared.open_fault.HeadFault.TheVariants.{Super, Geom}
use Rattle.image_refusal.specs.declared.open_fault.OpenFault.{OpenFault}
use Rattle.image_refusal.specs.declared.open_fault.OpenFault.TheVariants as Causes
use Rattle.image_refusal.specs.declared.open_fault.OpenFault.TheVariants.{Head, Journal}
use Rattle.judging_model.specs.Faults as faults
use Rattle.mirror_calls.specs.declared.mirror.Unequal.{Unequal}
use Rattle.run_model.specs.declared.outer.Outer.TheVariants as outers
use Rattle.command_ending.specs.declared.ended.Ended.{Ended}
use Rattle.command_ending.specs.declared.ended.Ended.TheVariants as Endings
use Rattle.command_ending.specs.declared.image_fault.ImageFault.TheVariants as Faults
use Rattle.command_ending.specs.declared.refusal.Refusal.TheVariants as refusals
use Rattle.command_task.specs.Refusing.{head_fault}

-- What ends a command whose second image is not opened.
abbrev pub ended_by_second : CallFault OpenFault → Ended
ended_by_second Memory = Endings.Memory
ended_by_second Disk = Endings.Failed outers.Disk
ended_by_second (Refused (Head fault)) = Endings.Refused (refusals.Second (head_fault fault))
ended_by_second (Refused (Causes.Consent flags)) = Endings.Refused (refusals.Second (Faults.Consent flags))
ended_by_second (Refused (Journal fault)) = Endings.Refused (refusals.Second (Faults.Journal fault))

-- Its last line tells the blocks of both legs where these differ.
abbrev pub ended_by_legs : Unequal → Ended
ended_by_legs unequal =
    Endings.Refused (refusals.Legs unequal.a_blocks unequal.a_size unequal.b_blocks unequal.b_size)

-- Why an image is refused whose first sector is,
abbrev pub fault_by_head : HeadFault → ImageFault
fault_by_head (Super fault) = BySuperblock fault
fault_by_head (Geom fault) = ByGeometry fault

-- or for want of consent, or by its journal.
abbrev pub image_fault_by : faults.ImageFault → ImageFault
image_fault_by (faults.ByHead fault) = fault_by_head fault
image_fault_by (faults.ByConsent flags) = ByConsent flags
image_fault_by (faults.ByJournal fault) = ByJournal fault
