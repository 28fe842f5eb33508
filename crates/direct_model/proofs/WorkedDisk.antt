-- A fresh disk of eight blocks is one in direct mode, and so it is while a block is written: no law speaks of nothing.
use Rattle.std.proofs.Common.{ℕ, refl, arith, List, [], ◌∷◌, replicate}
use Rattle.disk_model.specs.Disk.{Content}
use Rattle.disk_model.proofs.DiskLemmas.{OnlyAdds-none, only_candidate}
use Rattle.place_model.specs.History.{BlockWrite}
use Rattle.place_model.specs.Blocks.{IsBlockWrite}
use Rattle.place_model.proofs.WorkedDisk.{journal_format, fresh_journal, zeros_journal, replayed_entries-fresh, OpensAs-journal, IsReadAs-zeros, HasWholeSectors-journal, HasWholeSectors-zeros}
use Rattle.direct_model.specs.DirectDisk.{DirectDisk, StandsFor, cell_now}
use Rattle.direct_model.specs.Opening.{placed_disk, opened_disk}
use Rattle.direct_model.specs.Steps.{with_write, IsOfWrite}
use Rattle.direct_model.proofs.DirectLemmas.{writing_law}
use Rattle.direct_model.proofs.OpeningLemmas.{placed_opened_law, opened_law}

abbrev pub content : Content
content sector = fresh_journal sector ∷ []

abbrev pub fresh : DirectDisk
fresh = opened_disk journal_format fresh_journal

pub StandsFor-fresh : StandsFor fresh content
StandsFor-fresh =
    (opened_law journal_format content OpensAs-journal refl replayed_entries-fresh
    (record { only = λ sector x has. only_candidate (fresh_journal sector) x has }) HasWholeSectors-journal).0

-- So is one whose journal is zeros, which has no walk.
abbrev pub zeros_content : Content
zeros_content sector = zeros_journal sector ∷ []

abbrev pub zeros : DirectDisk
zeros = placed_disk journal_format zeros_journal

pub StandsFor-zeros : StandsFor zeros zeros_content
StandsFor-zeros =
    placed_opened_law journal_format zeros_content IsReadAs-zeros refl
    (record { only = λ sector x has. only_candidate (zeros_journal sector) x has }) HasWholeSectors-zeros

-- ---- a write of block 5

abbrev write : BlockWrite
write = record { ticket = 1; block = 5; bytes = replicate 512 0xaa }

IsBlockWrite-write : IsBlockWrite journal_format.geometry write
IsBlockWrite-write = record { block = omega arith; bytes = refl }

abbrev tags : ℕ → List ℕ
tags b = (cell_now fresh b).tag

-- Nothing of it needs to be on the disk yet.
pub StandsFor-written : StandsFor (with_write fresh write) content
StandsFor-written = writing_law fresh write tags content content StandsFor-fresh IsBlockWrite-write (record { each = λ b low rests kept. refl })
    (OnlyAdds-none (IsOfWrite fresh write tags) content)
