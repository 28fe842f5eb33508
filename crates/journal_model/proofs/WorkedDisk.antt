-- A fresh disk of eight blocks stands for an empty journal at rest, and a section with an entry of block 5 is a batch of it.
-- So no law of a disk in journal mode speaks of nothing. The entry's tag is from a program of its own.
use Rattle.std.proofs.Common.{◌≡◌, ℕ, ◌+◌, ◌-◌, ◌*◌, ◌<◌, ◌==◌, nat_lt, true, if◌then◌else◌, refl, sym, ◌∙◌, ap, subst, arith, Option, Some, None, List, [], ◌∷◌, ◌++◌, length, replicate, flat_map}
use Rattle.std.specs.List.{repeat, range_with_len}
use Rattle.std.proofs.lemmas.Bool.{eqb-true}
use Rattle.sha2.specs.Sha256.{sha256, first_words, schedule, rounds, compress, hash_after, digest_bytes}
use Rattle.disk_model.specs.Disk.{Content, sector_in, newest_only, with_run}
use Rattle.disk_model.proofs.DiskLemmas.{only_candidate, newest_only-last}
use Rattle.image_model.specs.Below.{all_below}
use Rattle.image_model.specs.Cells.{block_tag}
use Rattle.image_model.specs.CommitId.{commit_id, commit_number, number_of, id_in}
use Rattle.image_model.specs.Geometry.{section_at, section_entries, section_sectors, entry_size, entries_per_sector}
use Rattle.image_model.specs.Section.{Entry, entry_at, is_used}
use Rattle.image_model.specs.Sectors.{bytes_of}
use Rattle.image_model.specs.Tag.{tag_of, tag_message}
use Rattle.image_model.specs.Walk.{bears}
use Rattle.image_model.proofs.BelowLemmas.{all_at}
use Rattle.place_model.specs.Journal.{entries_in}
use Rattle.place_model.proofs.FormatLemmas.{opens_tells}
use Rattle.place_model.proofs.WorkedDisk.{journal_format, fresh_journal, walk_of-fresh, OpensAs-journal, HasWholeSectors-journal}
use Rattle.journal_model.specs.JournaledDisk.{JournaledDisk, Rests, StandsFor}
use Rattle.journal_model.specs.Opening.{opened_disk}
use Rattle.journal_model.specs.Steps.{IsBatch, batch_entries, after_commit, oldest_entries}
use Rattle.journal_model.proofs.CommittedLemmas.{committed_law}
use Rattle.journal_model.proofs.OpeningLemmas.{opened_law, state_law}

-- ---- the fresh disk

abbrev pub content : Content
content sector = fresh_journal sector ∷ []

-- As it is opened, and as writing goes on in it.
abbrev pub opened : JournaledDisk
opened = opened_disk journal_format fresh_journal

abbrev pub fresh : JournaledDisk
fresh = record (opened_disk journal_format fresh_journal) { next = 0; number = 1 }

pub StandsFor-opened : StandsFor opened content
StandsFor-opened = opened_law journal_format content OpensAs-journal refl (record { only = λ sector x has. only_candidate (fresh_journal sector) x has }) HasWholeSectors-journal

pub Rests-fresh : Rests fresh
Rests-fresh =
    let told = opens_tells journal_format fresh_journal OpensAs-journal in
    record { at = (state_law journal_format.geometry 112 fresh_journal _ told.is_geometry walk_of-fresh).rest 0 1 refl }

-- Where writing goes on changes nothing of what may stand.
pub StandsFor-fresh : StandsFor fresh content
StandsFor-fresh =
    let formed = StandsFor-opened.sound.formed in
    record {
      sound = record {
        formed = record {
          has_geometry = formed.has_geometry;
          is_geometry = formed.is_geometry;
          no_bitmap = formed.no_bitmap;
          settled_low = formed.settled_low;
          placed_low = formed.placed_low;
          base = formed.base;
          each = formed.each;
        };
        has_walk = StandsFor-opened.sound.has_walk;
        held = StandsFor-opened.sound.held;
        start_low = StandsFor-opened.sound.start_low;
      };
      each = λ sector x has.
          let may = StandsFor-opened.each sector x has in
          record {
            outside = record { whole = may.outside.whole; head = may.outside.head; in_place = record { data_ = may.outside.in_place.data_; tags = may.outside.in_place.tags } };
            journal = may.journal;
          };
    }

-- ---- a batch of one section

abbrev tag_5aa : List ℕ
tag_5aa =
    0xb5 ∷ 0x55 ∷ 0xb8 ∷ 0x33 ∷ 0x71 ∷ 0xaf ∷ 0x21 ∷ 0x41 ∷ 0xdf ∷ 0x2f ∷ 0xad ∷ 0xe2 ∷ 0xf5 ∷ 0xa7 ∷ 0x98 ∷ 0x9d
    ∷ 0x66 ∷ 0x72 ∷ 0xa4 ∷ 0x90 ∷ 0x11 ∷ 0x86 ∷ 0x4e ∷ 0x3f ∷ 0x7a ∷ 0x98 ∷ 0x42 ∷ 0x75 ∷ 0xeb ∷ 0xb7 ∷ 0x4b ∷ 0xd0 ∷ []

abbrev entry : Entry
entry = record { sector = 5; bytes = replicate 512 0xaa; tag = tag_5aa }

abbrev unused : List ℕ
unused = replicate 4 0 ++ replicate 4 0xff ++ replicate 40 0

-- Sector j of section 0, with number 1 and this entry as its first.
abbrev sector_of : ℕ → List ℕ
sector_of j =
    (if nat_lt j 8
    then (if j == 0 then 5 ∷ replicate 7 0 ++ replicate 8 0xaa ++ tag_5aa else unused) ++ repeat 9 unused ++ replicate 24 0
    else replicate 504 (if j == 8 then 0xaa else 0))
    ++ bytes_of (commit_id 0 j 1) 8

abbrev batch : List ℕ
batch = flat_map sector_of (range_with_len 0 88)

numbers-one : all_below 88 (λ j. bears (commit_number 0 j (sector_in batch j)) 1) ≡ true
unfolding number_of id_in
numbers-one = refl

bears_number : (number : Option ℕ) (k : ℕ) → bears number k ≡ true → number ≡ Some k
bears_number None k e = absurd (let wrong = e in cc)
bears_number (Some borne) k e = ap (λ (n : ℕ). Some n) (eqb-true borne k e)

batch_entries-one : batch_entries fresh 1 batch ≡ entry ∷ []
unfolding entries_in entry_at is_used entry_size entries_per_sector section_entries section_sectors
batch_entries-one = refl

-- The entry has the tag of its bytes.
tag-is : tag_5aa ≡ block_tag None None journal_format.geometry 5 (replicate 512 0xaa)
unfolding first_words schedule rounds compress hash_after digest_bytes sha256 tag_message tag_of
tag-is = refl

sectors-is : section_sectors journal_format.geometry.shape ≡ 88
unfolding entry_size entries_per_sector section_entries section_sectors
sectors-is = refl

size-is : length batch ≡ 45056
size-is = refl

-- The fresh journal has no entry whose place the batch could take.
oldest-none : oldest_entries fresh 1 ≡ []
unfolding entries_in entry_at is_used entry_size entries_per_sector section_entries section_sectors
oldest-none = refl

pub IsBatch-one : IsBatch fresh 1 batch
IsBatch-one = record {
  fits = omega arith;
  size = size-is ∙ ap (λ (n : ℕ). 512 * (1 * n)) (sym sectors-is);
  numbers = λ section above under sector narrow.
      let first : section ≡ 0 = omega arith in
      let low : sector < 88 = omega (arith, sectors-is) in
      let place : section_at journal_format.geometry 0 + sector - section_at journal_format.geometry 0 ≡ sector = omega arith in
      subst (λ (i : ℕ). commit_number i sector (sector_in batch (section_at journal_format.geometry i + sector - section_at journal_format.geometry 0)) ≡ Some 1) (sym first)
      (ap (λ (n : ℕ). commit_number 0 sector (sector_in batch n)) place
      ∙ bears_number (commit_number 0 sector (sector_in batch sector)) 1 (all_at 88 (λ j. bears (commit_number 0 j (sector_in batch j)) 1) numbers-one sector low));
  each = rw batch_entries-one (record { replayable = record { whole = refl; inside = omega arith; tag = tag-is }; bytes = refl }, tt);
  room = omega (arith, ap length oldest-none);
}

-- Once it is written and synced the disk stands for its entry, and the journal is at rest.
pub StandsFor-committed : StandsFor (after_commit fresh 1 batch) (newest_only (with_run (section_at journal_format.geometry 0) batch content)) × Rests (after_commit fresh 1 batch)
StandsFor-committed = committed_law fresh 1 batch content StandsFor-fresh Rests-fresh IsBatch-one (newest_only-last content)
