-- Which erasure is one of a disk's journal.
use Rattle.std.proofs.Common.{◌≡◌, inl, inr, ℕ, true, false, ◌+◌, ◌*◌, ◌<◌, ◌≤◌, ◌==◌, if◌then◌else◌, List, length, refl, sym, ◌∙◌, ap, arith, Option, ltb, slice_index_or}
use Rattle.std.proofs.Math.Nat.{mul-le-mul_right}
use Rattle.std.proofs.lemmas.Bool.{cases_eq, cases_lt, eq-eqb, ne_eqb, lt-ltb, le-ltb}
use Rattle.image_model.specs.declared.sector_cell.Cell.TheVariants.{Zero}
use Rattle.image_model.specs.Geometry.{section_sectors}
use Rattle.image_model.specs.Scan.{SectorCell, cell_number}
use Rattle.image_model.specs.Walk.{bears, later, occurs}
use Rattle.image_model.proofs.NumberLemmas.{later_differs, later_low, newest_tells}
use Rattle.image_model.proofs.WalkLemmas.{bears_it, bears_other}
use Rattle.place_model.specs.Journal.{numbers_on}
use Rattle.journal_model.specs.JournaledDisk.{JournaledDisk, IsSound, Rests}
use Rattle.journal_model.specs.Opening.{newest_at_rest}
use Rattle.journal_model.proofs.CutOfLemmas.{wide}
use Rattle.journal_model.proofs.OpeningLemmas.{rest_newest_law}
use Rattle.journal_erasure.specs.declared.newest.NewestSectors.{NewestSectors}
use Rattle.journal_erasure.specs.declared.newest.NewestSectors.TheVariants.{Scanned, First}
use Rattle.journal_erasure.specs.Newest.{HasSectors, IsScanned, is_newest}
use Rattle.journal_erasure.specs.ErasureLaws.{RestErasureLaw, ScannedErasureLaw}

-- ---- at rest

module _ (d : JournaledDisk) (sound : IsSound d) (rests : Rests d) where
  abbrev width : ℕ
  width = section_sectors d.geometry.shape

  -- The newest number, and on how many sections it is.
  abbrev newest : ℕ
  newest = newest_at_rest d.next d.number

  abbrev reached : ℕ
  reached = if d.next == 0 then d.geometry.sections else d.next

  low_number : newest_at_rest d.next d.number < 4
  low_number = elim (cases_eq d.next 0) [
    | inl start ↦ rw (eq-eqb d.next 0 start) (later_low 3 d.number)
    | inr some ↦ rw (ne_eqb d.next 0 some) rests.at.low
  ]

  abbrev Marks : ℕ → ℕ → Type 0
  Marks i j = bears (numbers_on d.geometry d.journal i j) (newest_at_rest d.next d.number)
      ≡ ltb (i * section_sectors d.geometry.shape + j) ((if d.next == 0 then d.geometry.sections else d.next) * section_sectors d.geometry.shape)

  below : (i j count : ℕ) → i < count → j < width → ltb (i * width + j) (count * width) ≡ true
  below i j count low narrow =
      let next = mul-le-mul_right width (let le : i + 1 ≤ count = omega (arith, low) in le) in
      lt-ltb (i * width + j) (count * width) (omega (arith, next, narrow))

  above : (i j count : ℕ) → count ≤ i → ltb (i * width + j) (count * width) ≡ false
  above i j count high =
      let next = mul-le-mul_right width high in
      le-ltb (i * width + j) (count * width) (omega (arith, next))

  marks : (i j : ℕ) → i < d.geometry.sections → j < width → Marks i j
  marks i j low narrow = elim (cases_eq d.next 0) [
    | inl start ↦
        rw (eq-eqb d.next 0 start)
        (bears_it (numbers_on d.geometry d.journal i j) (later 3 d.number) (rests.at.old i (omega (arith, start)) low j narrow)
        ∙ sym (below i j d.geometry.sections low narrow))
    | inr some ↦ rw (ne_eqb d.next 0 some) (elim (cases_lt i d.next) [
      | inl under ↦
          bears_it (numbers_on d.geometry d.journal i j) d.number (rests.at.new i under j narrow)
          ∙ sym (below i j d.next under narrow)
      | inr from ↦
          bears_other (numbers_on d.geometry d.journal i j) (later 3 d.number) d.number (rests.at.old i from low j narrow)
          (later_differs d.number rests.at.low).2
          ∙ sym (above i j d.next from)
    ])
  ]

pub rest_erasure_law : RestErasureLaw
rest_erasure_law d sound rests settled = (
  record { number = low_number d sound rests; first = rests.at.inside; told = tt },
  record {
    geometry = refl;
    settled = settled;
    has_newest = rest_newest_law d.geometry.sections (section_sectors d.geometry.shape) d.next d.number (numbers_on d.geometry d.journal) (wide d sound.formed) rests.at;
    marks = λ i j low narrow. marks d sound rests i j low narrow;
  },
)

-- ---- by a grid

told_sectors : (newest : NewestSectors) (cells : List SectorCell) (number count : ℕ) → IsScanned newest cells number → length cells ≡ count → HasSectors newest count
told_sectors (Scanned found own) cells number count is size = omega (arith, ap length is.0, size)
told_sectors (First few) cells number count is size = tt

told_newest : (newest : NewestSectors) (cells : List SectorCell) (number k : ℕ) → IsScanned newest cells number → bears (cell_number (slice_index_or cells k Zero)) number ≡ is_newest newest k
told_newest (Scanned found own) cells number k is =
    sym (ap (λ (xs : List SectorCell). bears (cell_number (slice_index_or xs k Zero)) own) is.0
    ∙ ap (bears (cell_number (slice_index_or cells k Zero))) is.1)
told_newest (First few) cells number k is = absurd is

pub scanned_erasure_law : ScannedErasureLaw
scanned_erasure_law d grid erasure is settled first newest scanned =
    let width = section_sectors d.geometry.shape in
    let size : length grid.cells ≡ d.geometry.sections * width = is.is_grid.cells ∙ ap (λ (n : ℕ). n * grid.sectors) is.sections ∙ ap (λ (n : ℕ). d.geometry.sections * n) is.sectors in (
      record {
        number = (newest_tells (occurs d.geometry.sections width (numbers_on d.geometry d.journal)) erasure.number newest.newest_is).0;
        first = first;
        told = told_sectors erasure.newest grid.cells erasure.number (d.geometry.sections * width) scanned size;
      },
      record {
        geometry = refl;
        settled = settled;
        has_newest = newest;
        marks = λ i j low narrow.
            ap (λ (x : Option ℕ). bears x erasure.number) (sym (is.numbers i j low narrow))
            ∙ ap (λ (n : ℕ). bears (cell_number (slice_index_or grid.cells (i * n + j) Zero)) erasure.number) is.sectors
            ∙ told_newest erasure.newest grid.cells erasure.number (i * width + j) scanned;
      },
    )
