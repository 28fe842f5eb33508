-- A fresh disk of eight blocks, recovered, and then erased: its journal of the number 0 becomes an empty one of the number 2.
-- So no law of that speaks of nothing.
use Rattle.std.proofs.Common.{◌≡◌, ℕ, ◌+◌, ◌-◌, ◌<◌, ◌≤◌, min, true, refl, sym, ◌∙◌, ap, subst, arith, Some, List, [], ◌++◌, length, take, length-append}
use Rattle.std.proofs.lemmas.Bool.{true≢false}
use Rattle.std.proofs.lemmas.List.{length-take}
use Rattle.disk_model.specs.Disk.{Content, Image, newest_only, with_run}
use Rattle.disk_model.proofs.DiskLemmas.{last_image-with_run_out, newest_only-last}
use Rattle.image_model.specs.Below.{all_below}
use Rattle.image_model.specs.Cells.{last_entry}
use Rattle.image_model.specs.CommitId.{commit_id, commit_number, id_in, number_of}
use Rattle.image_model.specs.Geometry.{data_at, section_at, section_entries, section_sectors, entry_size, entries_per_sector}
use Rattle.image_model.specs.Section.{Entry, entry_at, is_used}
use Rattle.image_model.specs.Sectors.{bytes_at, bytes_of}
use Rattle.image_model.specs.Walk.{bears, is_numbered, newest, occurs}
use Rattle.image_model.proofs.BelowLemmas.{all_at}
use Rattle.image_model.proofs.GeometryLemmas.{data_at-inside}
use Rattle.image_model.proofs.SectorLemmas.{length-bytes_at}
use Rattle.image_model.proofs.WalkLemmas.{bears_is, bears_it}
use Rattle.place_model.specs.Blocks.{ReadsData}
use Rattle.place_model.specs.Journal.{entries_in, numbers_on}
use Rattle.place_model.proofs.FormatLemmas.{opens_tells}
use Rattle.place_model.proofs.WorkedDisk.{journal_format, fresh_journal, replayed_entries-fresh, OpensAs-journal, HasWholeSectors-journal}
use Rattle.journal_model.specs.Entries.{cell_after}
use Rattle.journal_model.specs.Erasing.{IsEmptyJournal, IsErasable, IsOfErasure, StandsErasing, ReadsErased}
use Rattle.journal_model.specs.JournaledDisk.{cell_at}
use Rattle.journal_model.specs.Recovery.{IsRecovered}
use Rattle.journal_model.specs.Steps.{KeepsCells}
use Rattle.journal_model.proofs.EntriesLemmas.{cell_after-none}
use Rattle.journal_model.proofs.ErasingLemmas.{erasure_begins, erasure_turns, erasure_goes_on}
use Rattle.journal_model.proofs.WorkedDisk.{opened, fresh, Rests-fresh, StandsFor-fresh}
use Rattle.change_model.proofs.BeginLemmas.{erased_recovered_law}
use Rattle.change_model.proofs.WorkedChange.{has_run, reads_run}
use Rattle.change_model.proofs.WorkedDisk.{content, tags, sectors-is, IsEmptiedOf-fresh, IsEmptyJournal-fresh}

-- ---- recovered: nothing is in the journal, and writing goes on at its start with the number 1

pub KeepsCells-fresh : KeepsCells fresh tags content
KeepsCells-fresh =
    let keeps = IsEmptiedOf-fresh.emptied.keeps in
    record { stands = StandsFor-fresh; reads = record { each = keeps.reads.each }; tags_are = record { each = keeps.tags_are.each } }

pub same-cells : (b : ℕ) → cell_after journal_format.geometry fresh.base fresh.entries b ≡ fresh.base b
same-cells b = cell_after-none journal_format.geometry fresh.base fresh.entries b (ap (λ (entries : List Entry). last_entry journal_format.geometry entries b) replayed_entries-fresh)

abbrev pub IsRecovered-fresh : IsRecovered opened 0 1 tags content
IsRecovered-fresh = record {
  now = fresh;
  keeps = KeepsCells-fresh;
  rests = Rests-fresh;
  next_is = refl;
  number_is = refl;
  settled = sym (ap length replayed_entries-fresh);
  same_format = refl;
  cells = λ b low. sym (same-cells b);
  again = λ b low. same-cells b;
}

-- ---- the journal that is written

-- Each sector has the id of the number 2.
abbrev erased : Image
erased sector = take 504 (fresh_journal sector) ++ bytes_of (commit_id 0 (sector - 8) 2) 8

whole : (sector : ℕ) → sector < 112 → length (erased sector) ≡ 512
whole sector inside =
    let front : length (take 504 (fresh_journal sector)) ≡ 504 = length-take 504 (fresh_journal sector) ∙ ap (min 504) (HasWholeSectors-journal sector inside) in
    length-append (take 504 (fresh_journal sector)) (bytes_of (commit_id 0 (sector - 8) 2) 8) ∙ ap (λ (n : ℕ). n + 8) front

numbers-two : all_below 88 (λ j. bears (commit_number 0 j (erased (8 + j))) 2) ≡ true
unfolding number_of id_in
numbers-two = refl

entries-none : entries_in journal_format.geometry erased 0 ≡ []
unfolding entries_in entry_at is_used entry_size entries_per_sector section_entries section_sectors
entries-none = refl

IsEmptyJournal-erased : IsEmptyJournal journal_format.geometry 2 erased
IsEmptyJournal-erased = record {
  numbers = λ section low sector narrow.
      let first : 0 ≡ section = omega arith in
      let wide = sectors-is in
      let there : section_at journal_format.geometry 0 + sector ≡ 8 + sector = omega arith in
      subst (λ (i : ℕ). commit_number i sector (erased (section_at journal_format.geometry i + sector)) ≡ Some 2) first
      (ap (λ (n : ℕ). commit_number 0 sector (erased n)) there
      ∙ bears_is (commit_number 0 sector (erased (8 + sector))) 2 (all_at 88 (λ j. bears (commit_number 0 j (erased (8 + j))) 2) numbers-two sector (omega (arith, wide))));
  unused = λ section low. subst (λ (i : ℕ). entries_in journal_format.geometry erased i ≡ []) (let first : 0 ≡ section = omega arith in first) entries-none;
  whole = λ section sector low narrow.
      let first : section ≡ 0 = omega arith in
      let wide = sectors-is in
      whole (section_at journal_format.geometry section + sector) (subst (λ (i : ℕ). section_at journal_format.geometry i + sector < 112) (sym first) (omega (arith, wide)));
}

-- ---- it is erased

numbered : is_numbered 1 (section_sectors journal_format.geometry.shape) (numbers_on journal_format.geometry fresh_journal) ≡ true
unfolding number_of id_in entry_size entries_per_sector section_entries section_sectors
numbered = refl

newest-none : newest (occurs 1 (section_sectors journal_format.geometry.shape) (numbers_on journal_format.geometry fresh_journal)) ≡ Some 0
unfolding number_of id_in entry_size entries_per_sector section_entries section_sectors
newest-none = refl

IsErasable-fresh : IsErasable fresh 0 erased
IsErasable-fresh = record {
  settled = sym (ap length replayed_entries-fresh);
  numbered = numbered;
  newest_is = newest-none;
  writes = IsEmptyJournal-erased;
}

-- Every sector bears the newest number, so the first part writes nothing.
borne : (section sector : ℕ) → section < 1 → sector < section_sectors journal_format.geometry.shape → bears (numbers_on journal_format.geometry fresh_journal section sector) 0 ≡ true
borne section sector low narrow = bears_it (numbers_on journal_format.geometry fresh_journal section sector) 0 (IsEmptyJournal-fresh.numbers section low sector narrow)

abbrev first : Content
first = newest_only content

turned : StandsErasing fresh 0 erased true first
turned = erasure_turns fresh 0 erased content IsErasable-fresh (erasure_begins fresh 0 erased content StandsFor-fresh) (newest_only-last content)
    (record { each = λ section sector low narrow other. absurd (true≢false (sym (borne section sector low narrow) ∙ other)) })

-- The last part writes all of it.
abbrev last : Content
last = newest_only (with_run 8 (bytes_at erased 8 88) first)

of_erasure : (sector : ℕ) → 8 ≤ sector → sector < 96 → IsOfErasure fresh 0 erased true sector (erased sector)
of_erasure sector above under =
    let wide = sectors-is in
    record {
      section = 0;
      place = sector - 8;
      inside = omega arith;
      narrow = omega (arith, wide);
      is = omega arith;
      marked = borne 0 (sector - 8) (omega arith) (omega (arith, wide));
      bytes = refl;
    }

StandsErasing-last : StandsErasing fresh 0 erased true last
StandsErasing-last = erasure_goes_on fresh 0 erased true first last IsErasable-fresh turned
    (has_run erased whole 8 88 (omega arith) (IsOfErasure fresh 0 erased true) first (newest_only-last content) of_erasure).adds

ReadsErased-last : ReadsErased fresh 0 erased true last
ReadsErased-last = record {
  each = λ section sector low narrow marked.
      let wide = sectors-is in
      reads_run erased whole 8 88 (omega arith) (IsOfErasure fresh 0 erased true) first (newest_only-last content) of_erasure (section_at journal_format.geometry section + sector) (omega arith)
      (let only : section ≡ 0 = omega arith in subst (λ (i : ℕ). section_at journal_format.geometry i + sector < 96) (sym only) (omega (arith, wide)));
}

-- Data are read as they were.
ReadsData-last : ReadsData journal_format.geometry (cell_at fresh fresh.placed) last
ReadsData-last = record {
  each = λ b k low k_low.
      let geometry = (opens_tells journal_format fresh_journal OpensAs-journal).is_geometry in
      let behind = (data_at-inside journal_format.geometry 112 b geometry low).0 in
      let size = length-bytes_at erased 8 88 (λ sector above under. whole sector (omega arith)) in
      let wide = sectors-is in
      last_image-with_run_out 8 (bytes_at erased 8 88) first (data_at journal_format.geometry b + k) (λ above under. omega (arith, size, behind, wide))
      ∙ KeepsCells-fresh.reads.each b k low k_low;
}

-- It is recovered still, and writing goes on at the journal's start with the number 3.
pub IsRecovered-erased : (then_is : IsRecovered opened 0 3 tags (newest_only last)) × IsEmptyJournal then_is.now.geometry 2 then_is.now.journal
IsRecovered-erased = erased_recovered_law opened 0 1 tags content IsRecovered-fresh 0 erased last IsErasable-fresh StandsErasing-last (newest_only-last (with_run 8 (bytes_at erased 8 88) first))
    ReadsErased-last ReadsData-last
