-- A fresh disk of eight blocks whose change to a journal was cut before its last step: recovery fills its
-- journal. So no law of that speaks of nothing.
use Rattle.std.proofs.Common.{◌≡◌, inl, inr, ℕ, ◌+◌, ◌-◌, ◌<◌, ◌≤◌, ◌==◌, ◌&&◌, nat_lt, Bool, true, false, if◌then◌else◌, refl, sym, ◌∙◌, ap, subst, arith, Ok, List, [], ◌∷◌, length}
use Rattle.std.proofs.lemmas.Bool.{cases_lt, cases_Bool, lt-ltb, ltb-true}
use Rattle.disk_model.specs.Disk.{Content, EachImage, last_image, newest_only, with_run}
use Rattle.disk_model.proofs.DiskLemmas.{last_image-with_run_out, newest_only-last, only_candidate}
use Rattle.image_model.specs.Below.{all_below}
use Rattle.image_model.specs.Cells.{placed_cells_of, replayed_entries}
use Rattle.image_model.specs.Geometry.{bitmap_sectors_for, entries_per_sector, entry_size, fitting_log2_region, regions_for, section_entries, section_sectors}
use Rattle.image_model.specs.Grid.{blank_bound, grid_with, is_zero_sector, walk_of}
use Rattle.image_model.specs.Scan.{blank_plan, walk_of_grid}
use Rattle.image_model.proofs.BelowLemmas.{all_at}
use Rattle.image_model.proofs.SectorLemmas.{length-bytes_at}
use Rattle.image_model.specs.Sectors.{bytes_at}
use Rattle.image_model.specs.declared.journal_plan.Plan.{Plan}
use Rattle.place_model.specs.Format.{HasWholeSectors, OpensAs}
use Rattle.place_model.specs.Journal.{HasNothingToReplay}
use Rattle.place_model.proofs.FormatLemmas.{opens_tells}
use Rattle.place_model.proofs.JournalLemmas.{replayed_entries-plan}
use Rattle.place_model.proofs.WorkedDisk.{fresh_bitmap, fresh_journal, journal_format, HasWholeSectors-bitmap, HasWholeSectors-journal, OpensAs-journal}
use Rattle.journal_model.specs.JournaledDisk.{JournaledDisk, IsCutOf, Rests, StandsFor}
use Rattle.journal_model.specs.Opening.{opened_disk}
use Rattle.journal_model.specs.Recovery.{IsRecovered}
use Rattle.journal_model.specs.Steps.{KeepsCells}
use Rattle.change_model.specs.Blanks.{IsBlankState}
use Rattle.change_model.specs.Filling.{IsBlankDisk, IsOfBlank, KeepsPlaces, ReadsFilled, StandsFilling, after_filling}
use Rattle.change_model.proofs.BeginLemmas.{opened_keeps_law}
use Rattle.change_model.proofs.BlankLemmas.{blanks_count}
use Rattle.change_model.proofs.FillingLemmas.{filled_recovered, filling_begins, filling_cut, filling_ends, filling_goes_on}
use Rattle.change_model.proofs.PlacedLemmas.{journal_inside}
use Rattle.change_model.proofs.WorkedBlanks.{unmarked, walk_of-unmarked}
use Rattle.change_model.proofs.WorkedChange.{has_run, on_journal, reads_run}
use Rattle.change_model.proofs.WorkedDisk.{IsEmptyJournal-fresh}

-- ---- the image

abbrev blank : JournaledDisk
blank = opened_disk journal_format unmarked

abbrev content : Content
content sector = unmarked sector ∷ []

abbrev tags : ℕ → List ℕ
tags b = (placed_cells_of journal_format.geometry unmarked b).tag

HasWholeSectors-unmarked : HasWholeSectors journal_format unmarked
HasWholeSectors-unmarked sector inside = by_bool (sector == 0) (fresh_journal 0) (fresh_bitmap sector) (HasWholeSectors-journal 0 (omega arith)) (HasWholeSectors-bitmap sector inside)
  where
    by_bool : (t : Bool) (x y : List ℕ) → length x ≡ 512 → length y ≡ 512 → length (if t then x else y) ≡ 512
    by_bool true x y one other = one
    by_bool false x y one other = other

-- The bitmap's sectors are blank.
all_zero : all_below 8 (λ k. is_zero_sector (unmarked (8 + k))) ≡ true
all_zero = refl

zero_there : (sector : ℕ) → 8 ≤ sector → sector < 16 → is_zero_sector (unmarked sector) ≡ true
zero_there sector above under =
    subst (λ (n : ℕ). is_zero_sector (unmarked n) ≡ true) (let there : 8 + (sector - 8) ≡ sector = omega arith in there)
    (all_at 8 (λ k. is_zero_sector (unmarked (8 + k))) all_zero (sector - 8) (omega arith))

eight : bitmap_sectors_for journal_format.geometry.blocks (fitting_log2_region journal_format.geometry) ≡ 8
unfolding fitting_log2_region bitmap_sectors_for regions_for entry_size entries_per_sector section_entries section_sectors
eight = refl

-- ---- its blank sectors

bound : blank_bound journal_format.geometry ≡ 8
bound = blanks_count journal_format.geometry ∙ eight

walk : walk_of journal_format.geometry unmarked ≡ Ok (blank_plan 0)
walk = ap (λ (n : ℕ). walk_of_grid (grid_with n journal_format.geometry unmarked)) bound ∙ walk_of-unmarked

none : replayed_entries journal_format.geometry unmarked ≡ []
none = replayed_entries-plan journal_format.geometry unmarked (blank_plan 0) walk

opens : OpensAs journal_format unmarked
opens = record {
  openable = record {
    readable = record {
      superblock = journal_format.superblock;
      geometry = journal_format.geometry;
      has_superblock = OpensAs-journal.openable.readable.has_superblock ∙ ap Ok OpensAs-journal.superblock;
      has_geometry = (opens_tells journal_format fresh_journal OpensAs-journal).has_geometry;
    };
    walk = λ clear. rw walk refl;
    entries = rw none tt;
  };
  superblock = refl;
  geometry = refl;
}

KeepsCells-blank : KeepsCells blank tags content
KeepsCells-blank = opened_keeps_law journal_format content tags opens refl (record { only = λ sector x has. only_candidate (unmarked sector) x has }) HasWholeSectors-unmarked (λ b low. refl)

IsBlankDisk-unmarked : IsBlankDisk blank 0 fresh_journal
IsBlankDisk-unmarked = record { settled = sym (ap length none); plan = blank_plan 0; walk_is = walk; state_is = refl; empty_is = IsEmptyJournal-fresh }

-- ---- it is filled

blank_of : (sector : ℕ) → 8 ≤ sector → sector < 16 → IsOfBlank blank fresh_journal sector (fresh_journal sector)
blank_of sector above under = record { on = on_journal sector above (omega arith); inside = omega (arith, bound); zeros = zero_there sector above under; is = refl }

abbrev last : Content
last = newest_only (with_run 8 (bytes_at fresh_journal 8 8) content)

StandsFilling-last : StandsFilling blank 0 fresh_journal last
StandsFilling-last = filling_goes_on blank 0 fresh_journal content last (filling_begins blank 0 fresh_journal content KeepsCells-blank.stands HasWholeSectors-unmarked IsBlankDisk-unmarked)
    (has_run fresh_journal HasWholeSectors-journal 8 8 (omega arith) (IsOfBlank blank fresh_journal) content (newest_only-last content) blank_of).adds

run_size : length (bytes_at fresh_journal 8 8) ≡ 4096
run_size = length-bytes_at fresh_journal 8 8 (λ sector above under. HasWholeSectors-journal sector (omega arith))

out_of_run : (sector : ℕ) → (8 ≤ sector → sector < 16 → ⊥) → last_image last sector ≡ unmarked sector
out_of_run sector out = let size = run_size in last_image-with_run_out 8 (bytes_at fresh_journal 8 8) content sector (λ above under. out above (omega (arith, size)))

ReadsFilled-last : ReadsFilled blank fresh_journal last
ReadsFilled-last sector on =
    let above = (journal_inside journal_format.geometry sector on).0 in
    elim (cases_lt sector 16) [
      | inl under ↦
          reads_run fresh_journal HasWholeSectors-journal 8 8 (omega arith) (IsOfBlank blank fresh_journal) content (newest_only-last content) blank_of sector above under
          ∙ sym (rw (lt-ltb sector (8 + blank_bound journal_format.geometry) (omega (arith, bound)), zero_there sector above under) refl)
      | inr behind ↦
          out_of_run sector (λ over under. omega arith)
          ∙ sym (elim (cases_Bool (nat_lt sector (8 + blank_bound journal_format.geometry))) [
            | inl holds ↦ let low = ltb-true sector (8 + blank_bound journal_format.geometry) holds in absurd (omega (arith, low, bound))
            | inr fails ↦ ap (λ (t : Bool). if t && is_zero_sector (unmarked sector) then fresh_journal sector else unmarked sector) fails
          ])
    ]

KeepsPlaces-last : KeepsPlaces blank content last
KeepsPlaces-last = record { each = λ sector off. out_of_run sector (λ above under. off (on_journal sector above (omega arith))) }

-- A cut before the sync leaves the same cells, with nothing to replay,
pub IsCutOf-filling : EachImage (λ image. IsCutOf blank [] image × HasNothingToReplay journal_format.geometry image
    × ((plan : Plan) × (walk_of journal_format.geometry image ≡ Ok plan) × IsBlankState journal_format.geometry image 0 plan.state)) last
IsCutOf-filling = filling_cut blank 0 fresh_journal last StandsFilling-last

-- and behind it the journal is at rest.
pub Rests-filled : StandsFor (after_filling blank 0 fresh_journal) (newest_only last) × Rests (after_filling blank 0 fresh_journal)
Rests-filled = filling_ends blank 0 fresh_journal last StandsFilling-last (newest_only-last (with_run 8 (bytes_at fresh_journal 8 8) content)) ReadsFilled-last

-- Writing goes on at the journal's start, with the number 1.
pub IsRecovered-filled : IsRecovered blank 0 1 tags (newest_only last)
IsRecovered-filled =
    let law = filled_recovered journal_format unmarked 0 fresh_journal tags content last KeepsCells-blank IsBlankDisk-unmarked StandsFilling-last
    (newest_only-last (with_run 8 (bytes_at fresh_journal 8 8) content)) ReadsFilled-last KeepsPlaces-last in
    subst (λ (n : ℕ). IsRecovered blank n 1 tags (newest_only last)) law.1 law.0
