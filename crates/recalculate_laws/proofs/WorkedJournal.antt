-- A fresh disk of eight blocks with a journal: what awaits stays so while an entry of block 5 is committed and placed, and its
-- recovered journal changes to a bitmap. So no law of these speaks of nothing.
use Rattle.std.proofs.Common.{◌≡◌, ℕ, Bool, false, refl, sym, ◌∙◌, ap, subst, arith, List, [], ◌∷◌, ◌++◌, ◌*◌, replicate, slice_get}
use Rattle.std.proofs.lemmas.Bool.{true≢false}
use Rattle.std.proofs.lemmas.Option.{same_Some}
use Rattle.sha2.specs.Sha256.{sha256, first_words, schedule, rounds, compress, hash_after, digest_bytes}
use Rattle.disk_model.specs.Disk.{Content, newest_only, with_run}
use Rattle.disk_model.proofs.DiskLemmas.{OnlyAdds-none, newest_only-last}
use Rattle.image_model.specs.Geometry.{data_at, section_at, section_entries, section_sectors, entry_size, entries_per_sector}
use Rattle.image_model.specs.Section.{Entry, entry_at, is_used}
use Rattle.image_model.specs.Tag.{tag_message, tag_of}
use Rattle.place_model.specs.Format.{tagger_of}
use Rattle.place_model.specs.Journal.{entries_in}
use Rattle.place_model.specs.Tags.{with_block_tag}
use Rattle.place_model.proofs.WorkedDisk.{journal_format, fresh_journal, replayed_entries-fresh}
use Rattle.journal_model.specs.JournaledDisk.{JournaledDisk, Rests}
use Rattle.journal_model.specs.Steps.{IsBatch, IsNextEntry, KeepsCells, batch_entries, after_commit, after_place, after_settle}
use Rattle.journal_model.proofs.WorkedDisk.{fresh, Rests-fresh, IsBatch-one, StandsFor-fresh}
use Rattle.bitmap_laws.proofs.CallLemmas.{run_image}
use Rattle.change_model.specs.Opened.{IsEmptiedOf}
use Rattle.change_model.proofs.WorkedDisk.{content, tags, IsEmptiedOf-fresh, IsEmptyJournal-fresh}
use Rattle.change_model.proofs.WorkedErasure.{KeepsCells-fresh, IsRecovered-fresh}
use Rattle.recalculate_laws.specs.JournalDisk.{with_fields}
use Rattle.recalculate_laws.specs.Placing.{GivesPlaced}
use Rattle.recalculate_laws.specs.Recalculating.{KeepsAwaiting}
use Rattle.recalculate_laws.specs.Taking.{KeepsAwaitingNow}
use Rattle.recalculate_laws.proofs.ChangingLemmas.{recovered_changes}
use Rattle.recalculate_laws.proofs.JournalDiskLemmas.{moved_rests}
use Rattle.recalculate_laws.proofs.PlacingLemmas.{places_none_law, places_one_law, places_then_law, placing_law, same_cells_law}
use Rattle.recalculate_laws.proofs.RecalculatingLemmas.{awaiting_committed, awaiting_placed, awaiting_back, awaiting_settled, awaiting_synced}

-- Nothing is to be recalculated, so no region awaits.
abbrev pub none : ℕ → Bool
none region = false

pub KeepsAwaiting-fresh : KeepsAwaiting fresh none tags content
KeepsAwaiting-fresh = record { keeps = KeepsCells-fresh; made = λ b low waits rests. absurd (true≢false (sym waits)) }

-- Under fields with another position its journal rests as before.
pub Rests-moved : Rests (with_fields fresh (record fresh.superblock { recalc_sector = 8 }))
Rests-moved = moved_rests fresh (record fresh.superblock { recalc_sector = 8 }) Rests-fresh

-- ---- a commit of an entry of block 5

-- Its bytes are those of the batch that the disk's own worked values commit.
abbrev bytes_in : {bytes : List ℕ} → IsBatch fresh 1 bytes → List ℕ
bytes_in {bytes} is = bytes

abbrev batch : List ℕ
batch = bytes_in IsBatch-one

abbrev committing : Content
committing = with_run (section_at journal_format.geometry 0) batch content

pub KeepsAwaiting-committed : KeepsAwaiting (after_commit fresh 1 batch) none tags (newest_only committing)
KeepsAwaiting-committed = awaiting_committed fresh none 1 batch tags content Rests-fresh IsBatch-one (newest_only-last content) KeepsAwaiting-fresh

-- ---- it is placed

abbrev committed : JournaledDisk
committed = after_commit fresh 1 batch

-- The entry has the tag of its bytes.
abbrev entry : Entry
entry = record { sector = 5; bytes = replicate 512 0xaa; tag = tagger_of journal_format 5 (replicate 512 0xaa) }

batch_entries-one : batch_entries fresh 1 batch ≡ entry ∷ []
unfolding first_words schedule rounds compress hash_after digest_bytes sha256 tag_message tag_of entries_in entry_at is_used entry_size entries_per_sector section_entries section_sectors
batch_entries-one = refl

-- The one entry of a batch is the next of a disk that had none.
next_of : (d : JournaledDisk) (count : ℕ) (bytes : List ℕ) (b : ℕ) (only : Entry) → d.entries ≡ [] → d.placed ≡ 0 → batch_entries d count bytes ≡ only ∷ [] → only.sector ≡ b * d.geometry.shape.spb
    → IsNextEntry (after_commit d count bytes) b only
next_of d count bytes b only none_before none_placed is sector = record {
  next = ap (λ (before : List Entry). slice_get (before ++ batch_entries d count bytes) d.placed) none_before
      ∙ ap (λ (n : ℕ). slice_get (batch_entries d count bytes) n) none_placed
      ∙ ap (λ (new : List Entry). slice_get new 0) is;
  sector = sector;
}

IsNextEntry-first : IsNextEntry (after_commit fresh 1 batch) 5 entry
IsNextEntry-first = next_of fresh 1 batch 5 entry replayed_entries-fresh refl batch_entries-one refl

-- Its bytes are written to its block, and its tag stays in memory.
abbrev placing : Content
placing = with_run (data_at journal_format.geometry 5) entry.bytes (newest_only committing)

pub KeepsAwaiting-placed : KeepsAwaiting (after_place committed) none (with_block_tag 5 entry.tag tags) placing
KeepsAwaiting-placed = awaiting_placed committed none 5 entry tags (newest_only committing) placing KeepsAwaiting-committed IsNextEntry-first (OnlyAdds-none _ placing) (record { each = λ sector off. refl })

-- So it is by what the calls tell: a commit leaves the tags of the store, and then it gives the one that is placed.
abbrev tags_before : Content → ℕ → List ℕ
tags_before c = tags

abbrev tags_after : Content → ℕ → List ℕ
tags_after c = with_block_tag 5 entry.tag tags

abbrev after_batch : List Content
after_batch = newest_only committing ∷ content ∷ []

abbrev after_entry : List Content
after_entry = placing ∷ newest_only committing ∷ content ∷ []

GivesPlaced-committed : GivesPlaced fresh committed tags_before tags_before (content ∷ []) after_batch
GivesPlaced-committed = places_none_law fresh committed tags_before tags_before (content ∷ []) after_batch
    (λ b low. (same_cells_law fresh 1 batch b StandsFor-fresh.sound.formed).0) (λ c told. (content, refl)) (λ s told c told_c b low. refl)

GivesPlaced-placed : GivesPlaced committed (after_place committed) tags_before tags_after after_batch after_entry
GivesPlaced-placed = places_one_law committed 5 entry tags_before tags_after after_batch after_entry KeepsAwaiting-committed.keeps.stands.sound.formed IsNextEntry-first
    (λ c told. (newest_only committing, refl)) (λ s told c told_c b low. refl)

pub KeepsAwaitingNow-placed : KeepsAwaitingNow (after_place committed) none tags_after after_entry
KeepsAwaitingNow-placed = placing_law fresh (after_place committed) none tags_before tags_after (content ∷ []) after_entry refl
    (λ c told. subst (KeepsAwaiting fresh none tags) (same_Some content c told) KeepsAwaiting-fresh)
    (places_then_law fresh committed (after_place committed) tags_before tags_before tags_after (content ∷ []) after_batch after_entry refl GivesPlaced-committed GivesPlaced-placed)
    (λ c told. subst (KeepsCells (after_place committed) (with_block_tag 5 entry.tag tags)) (same_Some placing c told) KeepsAwaiting-placed.keeps)

-- No tag is marked, so none is written back, and then all is synced.
pub KeepsAwaiting-back : KeepsAwaiting (after_place committed) none (with_block_tag 5 entry.tag tags) placing
KeepsAwaiting-back = awaiting_back (after_place committed) none (with_block_tag 5 entry.tag tags) placing placing KeepsAwaiting-placed (OnlyAdds-none _ placing) (record { each = λ sector off. refl })

pub KeepsAwaiting-synced : KeepsAwaiting (after_place committed) none (with_block_tag 5 entry.tag tags) (newest_only placing)
KeepsAwaiting-synced = awaiting_synced (after_place committed) none (with_block_tag 5 entry.tag tags) placing KeepsAwaiting-back
    (run_image (data_at journal_format.geometry 5) entry.bytes (newest_only committing) (newest_only-last committing))

-- On the fresh disk all tags are in place, so a sync settles what is placed.
pub KeepsAwaiting-settled : KeepsAwaiting (after_settle fresh) none tags (newest_only content)
KeepsAwaiting-settled = awaiting_settled fresh none tags content KeepsAwaiting-fresh (newest_only-last content) IsEmptiedOf-fresh.emptied.reads

-- ---- a change of mode

-- The recovered journal is one from which it begins.
pub IsEmptiedOf-recovered : IsEmptiedOf journal_format fresh_journal fresh 0 tags content
IsEmptiedOf-recovered = recovered_changes journal_format fresh_journal 0 1 tags content IsRecovered-fresh 0 none tags content refl (omega arith) IsEmptyJournal-fresh KeepsAwaiting-fresh (λ b low. refl)
    IsEmptiedOf-fresh.emptied.reads
