-- What `dump` prints, or why an image is refused by it.
use Rattle.std.specs.Prelude.{ℕ, false, [], ◌∷◌, Result, Ok, Err}
use Rattle.disk_model.specs.Disk.{Image}
use Rattle.device_model.specs.Refusals.{ByJournal}
use Rattle.run_model.specs.Ending as runs
use Rattle.run_model.specs.Ending.{Ending}
use Rattle.image_model.specs.Openable.{Scan as JournalScan}
use Rattle.image_refusal.specs.declared.dump_fault.DumpFault.{DumpFault}
use Rattle.image_refusal.specs.declared.dump_fault.DumpFault.TheVariants.{Head, Scan}
use Rattle.dump_model.specs.declared.shown.Dump.{Dump}
use Rattle.dump_model.specs.Dump.{dump_of}
use Rattle.dump_model.specs.Lines.{dump_lines, joined_lines}
use Rattle.run_model.specs.CommandRun.{Outset, RefusedBy, Prints}
use Rattle.command_model.specs.Refusing.{ending_by_head}

-- The ending of one whose image is refused.
abbrev pub ending_by_dump : DumpFault → Ending
ending_by_dump (Head fault) = ending_by_head fault
ending_by_dump (Scan fault) = runs.Refused (runs.ByImage (ByJournal (JournalScan fault)))

-- By what the image shows: its lines are printed, or it is refused.
abbrev pub outset_by_dump : Result Dump DumpFault → Outset
outset_by_dump (Ok dump) = Prints (joined_lines (dump_lines dump) ∷ []) false
outset_by_dump (Err fault) = RefusedBy (ending_by_dump fault)

-- What a dump starts on, on a disk of so many sectors with this image.
abbrev pub dump_outset : (sectors : ℕ) → Image → Outset
dump_outset sectors image = outset_by_dump (dump_of sectors image)
