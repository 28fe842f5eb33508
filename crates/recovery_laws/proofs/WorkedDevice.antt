-- A device in recovery mode over a disk whose journal has no walk, with a read and a flush: no law speaks of nothing.
use Rattle.std.proofs.Common.{◌≡◌, ℕ, ◌+◌, false, [], ◌∷◌, None, Some, List, replicate, refl, subst, arith}
use Rattle.disk_model.specs.Disk.{Content, HasNothingPending, EachImage, Reads, last_image, sector_in}
use Rattle.disk_model.specs.Moments.{EachSince}
use Rattle.disk_model.proofs.DiskLemmas.{only_candidate}
use Rattle.image_model.specs.Cells.{placed_cells_of}
use Rattle.image_model.specs.Geometry.{bitmap_sectors_for, data_at, entries_per_sector, entry_size, geometry_of, regions_for, section_entries, section_sectors, sector_at, tag_run_of}
use Rattle.image_model.specs.Superblock.{fields_in, superblock_of}
use Rattle.image_model.specs.declared.super_fields.SuperFault.TheVariants.{Magic}
use Rattle.device_model.specs.Refusals.{BySuperblock}
use Rattle.device_model.specs.Mode.{DeviceFormat, Recovery}
use Rattle.device_model.specs.History.{opened}
use Rattle.device_model.specs.Progress.{DeviceState, Submit, Serve, Close, IsClosed, Did, Done, ReadOnly, after_event, event_result, only_answers}
use Rattle.device_model.specs.Request.{Request, Asked, newly_asked}
use Rattle.device_model.specs.Submission.{Submission as Asking}
use Rattle.journal_laws.specs.EventLaws.{IsServed}
use Rattle.place_model.specs.Kind.{kind_in}
use Rattle.place_model.specs.Opened.{device_format, opened_on}
use Rattle.place_model.proofs.WorkedDisk.{journal_format, zeros_journal, IsReadAs-zeros}
use Rattle.recovery_laws.specs.Device.{IsRecoveryDevice}
use Rattle.place_model.specs.Refusals.{read_fault_of}
use Rattle.recovery_laws.proofs.EventLemmas.{close_law, opening_law, event_law, read_law, flush_law, placed_law, write_law}
use Rattle.recovery_laws.proofs.MomentLemmas.{kept_law, left_law}

abbrev format : DeviceFormat
format = device_format Recovery journal_format

abbrev fresh : DeviceState
fresh = opened_on Recovery journal_format zeros_journal

-- The device, and the same once a read of two blocks and a flush are submitted.
IsRecoveryDevice-fresh : IsRecoveryDevice format fresh journal_format zeros_journal
IsRecoveryDevice-fresh = opening_law journal_format zeros_journal

abbrev reading : DeviceState
reading = after_event format fresh (Submit (Asking.Read 0 2 (replicate 1024 0)))

abbrev asking : DeviceState
asking = after_event format reading (Submit Asking.Flush)

IsRecoveryDevice-asking : IsRecoveryDevice format asking journal_format zeros_journal
IsRecoveryDevice-asking =
    event_law format reading (Submit Asking.Flush) journal_format zeros_journal
    (event_law format fresh (Submit (Asking.Read 0 2 (replicate 1024 0))) journal_format zeros_journal IsRecoveryDevice-fresh)

-- The read is served: its first block gives what stands there, and it goes on.
abbrev asked : Asked
asked = newly_asked (Request.Read 0 2) (replicate 1024 0)

IsServed-read : IsServed asking 0 asked
IsServed-read = record { works = refl; there = refl; unfinished = refl; unheld = refl }

answer-read : (event_result format asking (Serve 1)).answer ≡ Did
answer-read = read_law format asking journal_format zeros_journal 0 asked 0 2 IsRecoveryDevice-asking IsServed-read refl

-- The flush is done at once, and a write is read only.
answer-flush : (event_result format asking (Serve 2)).answer ≡ Done
answer-flush = flush_law format asking journal_format zeros_journal 1 (newly_asked Request.Flush []) IsRecoveryDevice-asking refl refl refl

answer-write : event_result format asking (Submit (Asking.Write 7 3 [] false)) ≡ only_answers asking.progress ReadOnly
answer-write = write_law format asking journal_format zeros_journal 7 3 [] false IsRecoveryDevice-asking refl

-- The disk with nothing pending: each image can be opened so, and may be left of the device.
abbrev content : Content
content sector = zeros_journal sector ∷ []

settled : HasNothingPending content
settled = record { only = λ sector x has. only_candidate (zeros_journal sector) x has }

MayBeLeft-content : EachImage ((kind_in Recovery None 112).MayBeLeft zeros_journal (opened (λ b. record { bytes = []; tag = [] }))) content
MayBeLeft-content = (left_law journal_format content (opened (λ b. record { bytes = []; tag = [] })) IsReadAs-zeros settled).1

-- A call that adds no moment leaves all as it was.
moments-kept : EachSince (λ start c. c ≡ start) (content ∷ []) (content ∷ [])
moments-kept = (kept_law (content ∷ []) (content ∷ []) refl).0

-- It is read, whatever the journal says, and one without a magic is refused.
read_fault_of-zeros : read_fault_of 112 zeros_journal ≡ None
unfolding superblock_of fields_in geometry_of sector_at tag_run_of bitmap_sectors_for regions_for entry_size entries_per_sector section_entries section_sectors
read_fault_of-zeros = refl

read_fault_of-none : read_fault_of 256 (λ (n : ℕ). replicate 512 0) ≡ Some (BySuperblock Magic)
unfolding superblock_of
read_fault_of-none = refl

-- What is read of the disk in the place of block 0 is its bytes.
abbrev zeros : List ℕ
zeros = replicate 512 0

Reads-zero : Reads (data_at journal_format.geometry 0) zeros content
unfolding data_at sector_at tag_run_of entry_size entries_per_sector section_entries section_sectors
Reads-zero k low = let first : 0 ≡ k = omega arith in subst (λ (n : ℕ). sector_in zeros n ≡ last_image content (data_at journal_format.geometry 0 + n)) first refl

placed-zero : zeros ≡ (placed_cells_of journal_format.geometry zeros_journal 0).bytes
placed-zero = placed_law journal_format content 0 zeros refl Reads-zero

-- A close answers well.
closed : (event_result format asking Close).answer ≡ IsClosed
closed = (close_law format asking journal_format zeros_journal IsRecoveryDevice-asking refl).0
