-- How a `format` ends whose image is not made.
use Rattle.image_model.specs.declared.geom_fault.GeomFault.{GeomFault}
use Rattle.image_refusal.specs.declared.call_fault.CallFault.{CallFault}
use Rattle.image_refusal.specs.declared.call_fault.CallFault.TheVariants.{Memory, Disk, Refused}
use Rattle.command_ending.specs.declared.ended.Ended.{Ended}
use Rattle.command_ending.specs.declared.ended.Ended.TheVariants as Endings
use Rattle.command_ending.specs.declared.image_fault.ImageFault.TheVariants as Faults
use Rattle.run_model.specs.declared.outer.Outer.TheVariants as outers
use Rattle.command_ending.specs.declared.refusal.Refusal.TheVariants as refusals

-- What ends the making of an image that is not made.
abbrev pub ended_by_format : CallFault GeomFault → Ended
ended_by_format Memory = Endings.Memory
ended_by_format Disk = Endings.Failed outers.Disk
ended_by_format (Refused fault) = Endings.Refused (refusals.Image (Faults.Geom fault))
