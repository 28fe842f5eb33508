-- A fresh disk of eight blocks, left by openings: it keeps its blocks and its cells. So no law of that speaks of nothing.
use Rattle.std.proofs.Common.{◌≡◌, ◌⊎◌, inl, ℕ, ◌<◌, refl}
use Rattle.disk_model.specs.Disk.{EachImage, IsImage}
use Rattle.image_model.specs.Openable.{IsOpenable}
use Rattle.place_model.specs.Format.{HasCells, OpensAs, cells_on, format_on}
use Rattle.place_model.specs.Opened.{blocks_of}
use Rattle.place_model.proofs.WorkedDisk.{journal_format, fresh_journal, OpensAs-journal}
use Rattle.change_model.specs.Again.{KeepsBlocks, MayBeLeftOf}
use Rattle.change_model.specs.Opened.{KeepsEntry}
use Rattle.change_model.proofs.AgainLemmas.{own_format_law, again_law, any_times_law, any_opening_left_law, reopens_law}
use Rattle.change_model.proofs.OpenedLemmas.{entry_left_law, same_format_left_law}
use Rattle.change_model.proofs.WorkedDisk.{content}

HasCells-fresh : HasCells journal_format (cells_on journal_format fresh_journal) fresh_journal
HasCells-fresh = record { opens = OpensAs-journal; each = λ b low. refl }

-- An opening that writes nothing keeps them,
KeepsEntry-fresh : KeepsEntry journal_format fresh_journal fresh_journal
KeepsEntry-fresh = same_format_left_law journal_format fresh_journal fresh_journal HasCells-fresh

KeepsBlocks-fresh : KeepsBlocks journal_format.key journal_format.sectors (blocks_of journal_format) (cells_on journal_format fresh_journal) fresh_journal
KeepsBlocks-fresh = own_format_law journal_format (cells_on journal_format fresh_journal) fresh_journal HasCells-fresh

-- so its image may be left,
pub MayBeLeftOf-fresh : MayBeLeftOf journal_format.key journal_format.sectors fresh_journal fresh_journal
MayBeLeftOf-fresh = entry_left_law journal_format fresh_journal fresh_journal OpensAs-journal KeepsEntry-fresh

-- and keeps them again, and once more.
pub KeepsBlocks-again : KeepsBlocks journal_format.key journal_format.sectors (blocks_of journal_format) (cells_on journal_format fresh_journal) fresh_journal
KeepsBlocks-again = again_law journal_format.key journal_format.sectors (blocks_of journal_format) (cells_on journal_format fresh_journal) fresh_journal fresh_journal KeepsBlocks-fresh MayBeLeftOf-fresh

pub KeepsBlocks-twice : KeepsBlocks journal_format.key journal_format.sectors (blocks_of journal_format) (cells_on journal_format fresh_journal) fresh_journal
KeepsBlocks-twice = any_times_law journal_format.key journal_format.sectors (blocks_of journal_format) (cells_on journal_format fresh_journal) 2 fresh_journal fresh_journal KeepsBlocks-again
    (fresh_journal, MayBeLeftOf-fresh, (fresh_journal, MayBeLeftOf-fresh, refl))

-- It can be opened then, with its cells.
pub reopens-fresh : IsOpenable journal_format.key journal_format.sectors fresh_journal
    × OpensAs (format_on journal_format.key journal_format.sectors fresh_journal) fresh_journal
    × ((b : ℕ) → b < journal_format.geometry.blocks
    → cells_on (format_on journal_format.key journal_format.sectors fresh_journal) fresh_journal b ≡ cells_on journal_format fresh_journal b)
reopens-fresh = reopens_law journal_format.key journal_format.sectors (blocks_of journal_format) (cells_on journal_format fresh_journal) fresh_journal KeepsBlocks-twice

-- At its start an opening leaves what was there.
pub left-fresh : EachImage (λ image. IsImage content image ⊎ KeepsBlocks journal_format.key journal_format.sectors (blocks_of journal_format) (cells_on journal_format fresh_journal) image) content
left-fresh = any_opening_left_law journal_format.key journal_format.sectors (blocks_of journal_format) (cells_on journal_format fresh_journal) content content (inl refl)
