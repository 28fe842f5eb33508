-- How a `dump` ends whose image is not shown.
use Rattle.disk_model.specs.Disk.{Image}
use Rattle.image_refusal.specs.declared.call_fault.CallFault.{CallFault}
use Rattle.image_refusal.specs.declared.call_fault.CallFault.TheVariants.{Memory, Disk, Refused}
use Rattle.image_refusal.specs.declared.dump_fault.DumpFault.{DumpFault}
use Rattle.image_refusal.specs.declared.dump_fault.DumpFault.TheVariants.{Head, Scan}
use Rattle.image_refusal.specs.declared.journal_fault.JournalFault.TheVariants as JournalFaults
use Rattle.command_ending.specs.declared.ended.Ended.{Ended}
use Rattle.command_ending.specs.declared.ended.Ended.TheVariants as Endings
use Rattle.command_ending.specs.declared.image_fault.ImageFault.TheVariants as Faults
use Rattle.run_model.specs.declared.outer.Outer.TheVariants as outers
use Rattle.command_ending.specs.declared.refusal.Refusal.TheVariants as refusals
use Rattle.command_task.specs.Refusing.{head_fault}

-- What ends a dump whose image is not shown.
abbrev pub ended_by_dump : CallFault DumpFault → Ended
ended_by_dump Memory = Endings.Memory
ended_by_dump Disk = Endings.Failed outers.Disk
ended_by_dump (Refused (Head fault)) = Endings.Refused (refusals.Image (head_fault fault))
ended_by_dump (Refused (Scan fault)) = Endings.Refused (refusals.Image (Faults.Journal (JournalFaults.Scan fault)))
