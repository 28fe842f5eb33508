-- A device in direct mode on a fresh disk of eight blocks, which writes block 5: no law speaks of nothing.
use Rattle.std.proofs.Common.{◌≡◌, ℕ, true, false, refl, List, [], ◌∷◌, replicate}
use Rattle.disk_model.specs.Disk.{EachImage}
use Rattle.disk_model.proofs.DiskLemmas.{OnlyAdds-none, newest_only-last}
use Rattle.image_model.specs.Cells.{placed_cells_of}
use Rattle.device_model.specs.History.{BlockWrite, Begun, Written, Flushed, opened}
use Rattle.device_model.specs.Mode.{Direct, DeviceFormat}
use Rattle.device_model.specs.Progress.{DeviceState, Submit, Serve, FailedServe, Ticket, Done, after_event, event_result}
use Rattle.device_model.specs.Request.{Request, Asked, newly_asked}
use Rattle.device_model.specs.Submission.{Submission}
use Rattle.place_model.specs.Journal.{HasNothingToReplay}
use Rattle.place_model.specs.Kind.{CanOpenIn, CanOpenPlaced}
use Rattle.place_model.specs.Left.{IsLeftInDirect, IsLeftPlaced}
use Rattle.place_model.specs.Opened.{awaiting_on, device_format, opened_on, opened_placed}
use Rattle.place_model.proofs.WorkedDisk.{journal_format, fresh_journal, zeros_journal, replayed_entries-fresh, OpensAs-journal, IsReadAs-zeros, HasWholeSectors-journal, HasWholeSectors-zeros}
use Rattle.journal_laws.specs.EventLaws.{IsServed}
use Rattle.direct_model.specs.DirectDisk.{DirectDisk}
use Rattle.direct_model.specs.Steps.{with_write, after_flush}
use Rattle.direct_model.proofs.WorkedDisk.{fresh, content, zeros, zeros_content, StandsFor-fresh, StandsFor-zeros}
use Rattle.direct_laws.specs.Device.{IsDirectDevice, after_changes}
use Rattle.direct_laws.specs.ReadLaws.{awaits_tag, KeepsCells}
use Rattle.direct_laws.specs.Within.{IsLeftWithin}
use Rattle.direct_laws.proofs.DeviceLemmas.{opening_law, placed_opening_law}
use Rattle.direct_laws.proofs.EventLemmas.{quiet_events_law, serve_write_law, failed_write_law}
use Rattle.direct_laws.proofs.PlacedLemmas.{standing_placed_law, reopens_placed_law}
use Rattle.direct_laws.proofs.PromiseLemmas.{standing_left_law, reopens_law, writing_left_law}
use Rattle.direct_laws.proofs.ReadLemmas.{keeps_opened, keeps_placed}

-- ---- values of the definitions

abbrev write : BlockWrite
write = record { ticket = 1; block = 5; bytes = replicate 512 0xaa }

-- A write is among the writes from the first change on, and flushed by the last one alone.
after_changes-begun : (after_changes (Begun write ∷ []) fresh).writes ≡ write ∷ []
after_changes-begun = refl

after_changes-written : after_changes (Begun write ∷ Written write ∷ []) fresh ≡ with_write fresh write
after_changes-written = refl

after_changes-flushed : (after_changes (Begun write ∷ Written write ∷ Flushed ∷ []) fresh).flushed ≡ 1
after_changes-flushed = refl

-- The same disk, with its blocks from 3 on to be recalculated.
abbrev recalculating : DirectDisk
recalculating = record fresh { format = record fresh.format { superblock = record fresh.format.superblock { flags = 2; recalc_sector = 3 } } }

awaits_tag-before : awaits_tag recalculating (λ region. true) 2 ≡ false
awaits_tag-before = refl

awaits_tag-behind : awaits_tag recalculating (λ region. true) 3 ≡ true
awaits_tag-behind = refl

-- Where the region does not await any more the tag is there, whatever the position says.
awaits_tag-region : awaits_tag recalculating (λ region. false) 3 ≡ false
awaits_tag-region = refl

-- ---- a device

abbrev pub format : DeviceFormat
format = device_format Direct journal_format

abbrev at_start : DeviceState
at_start = opened_on Direct journal_format fresh_journal

pub IsDirectDevice-fresh : IsDirectDevice format at_start fresh
IsDirectDevice-fresh = opening_law journal_format fresh_journal refl

-- Reads of it give its cells, with the tags in place, and its journal has nothing to replay.
abbrev tags : ℕ → List ℕ
tags b = (placed_cells_of journal_format.geometry fresh_journal b).tag

pub KeepsCells-fresh : KeepsCells fresh (awaiting_on Direct journal_format fresh_journal) tags content × HasNothingToReplay fresh.geometry fresh.journal
KeepsCells-fresh = keeps_opened journal_format content tags (λ sector. newest_only-last content sector) OpensAs-journal refl replayed_entries-fresh HasWholeSectors-journal (λ b low. refl)

-- Each image of it may be left, and opened again.
pub IsLeftInDirect-fresh : EachImage (IsLeftInDirect journal_format (opened fresh.base)) content
IsLeftInDirect-fresh = standing_left_law format at_start fresh content IsDirectDevice-fresh StandsFor-fresh KeepsCells-fresh.1

pub CanOpenIn-fresh : EachImage (CanOpenIn Direct journal_format.key journal_format.sectors) content
CanOpenIn-fresh = reopens_law fresh content StandsFor-fresh KeepsCells-fresh.1

-- ---- a device on the disk whose journal is zeros

pub IsDirectDevice-zeros : IsDirectDevice format (opened_placed journal_format zeros_journal) zeros
IsDirectDevice-zeros = placed_opening_law journal_format zeros_journal refl

pub KeepsCells-zeros : KeepsCells zeros (awaiting_on Direct journal_format zeros_journal) (λ b. (placed_cells_of journal_format.geometry zeros_journal b).tag) zeros_content
KeepsCells-zeros =
    keeps_placed journal_format zeros_content (λ b. (placed_cells_of journal_format.geometry zeros_journal b).tag) (λ sector. newest_only-last zeros_content sector) IsReadAs-zeros refl HasWholeSectors-zeros
    (λ b low. refl)

-- Each image of it may be left with its placed cells, and opened again by superblock and geometry.
pub IsLeftPlaced-zeros : EachImage (IsLeftPlaced journal_format (opened zeros.base)) zeros_content
IsLeftPlaced-zeros = standing_placed_law format (opened_placed journal_format zeros_journal) zeros zeros_content IsDirectDevice-zeros StandsFor-zeros

pub CanOpenPlaced-zeros : EachImage (CanOpenPlaced journal_format.key journal_format.sectors) zeros_content
CanOpenPlaced-zeros = reopens_placed_law zeros zeros_content StandsFor-zeros

-- ---- a write of block 5, to be flushed

abbrev submission : Submission
submission = Submission.Write 5 1 (replicate 512 0xaa) true

submission-ticket : (event_result format at_start (Submit submission)).answer ≡ Ticket 1
submission-ticket = refl

abbrev submitted : DeviceState
submitted = after_event format at_start (Submit submission)

pub IsDirectDevice-submitted : IsDirectDevice format submitted fresh
IsDirectDevice-submitted = quiet_events_law format at_start (Submit submission) fresh IsDirectDevice-fresh tt

abbrev blocks : List (List ℕ)
blocks = replicate 512 0xaa ∷ []

abbrev asked : Asked
asked = newly_asked (Request.Write 5 blocks true) (replicate 512 0xaa)

IsServed-write : IsServed submitted 0 asked
IsServed-write = record { works = refl; there = refl; unfinished = refl; unheld = refl }

-- It is done with its one block, which is flushed then.
served-done : (event_result format submitted (Serve 1)).answer ≡ Done
served-done = refl

pub IsDirectDevice-served : IsDirectDevice format (after_event format submitted (Serve 1)) (after_flush (with_write fresh write))
IsDirectDevice-served = (serve_write_law format submitted fresh 0 asked 5 blocks true IsDirectDevice-submitted IsServed-write refl).1

-- Where a disk fails it is under way.
pub IsDirectDevice-failed : IsDirectDevice format (after_event format submitted (FailedServe 1)) (with_write fresh write)
IsDirectDevice-failed = (failed_write_law format submitted fresh 0 asked 5 blocks true IsDirectDevice-submitted IsServed-write refl).1

-- Within the call each image may be left, also before any sector is written.
pub IsLeftWithin-write : IsLeftWithin format submitted (Serve 1) journal_format content
IsLeftWithin-write =
    (writing_left_law format submitted fresh 0 asked 5 blocks true (awaiting_on Direct journal_format fresh_journal) tags content content IsDirectDevice-submitted IsServed-write refl KeepsCells-fresh.0
    (OnlyAdds-none _ content) KeepsCells-fresh.1).0
