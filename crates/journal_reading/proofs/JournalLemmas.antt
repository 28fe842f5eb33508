-- A journal in memory, and what an image whose journal it is tells.
use Rattle.std.proofs.Common.{◌≡◌, ℕ, ◌+◌, ◌-◌, ◌*◌, ◌/◌, ◌<◌, ◌≤◌, sym, ◌∙◌, ap, subst, arith, IsOk, List, length}
use Rattle.std.proofs.Math.Nat.{mul-le-mul_right}
use Rattle.disk_model.specs.Disk.{Content, Image, Reads, last_image, sector_in}
use Rattle.image_model.specs.Cells.{entry_of, replayed_entries, section_bytes, entry_place}
use Rattle.image_model.specs.Geometry.{Geometry, IsGeometry, journal_sectors, section_at, section_sectors}
use Rattle.image_model.specs.Grid.{walk_of}
use Rattle.image_model.specs.Section.{entry_at}
use Rattle.image_model.specs.Sectors.{piece}
use Rattle.image_model.proofs.ScanLemmas.{place_low}
use Rattle.image_model.proofs.SectorLemmas.{bytes_at_read, bytes_at-same, length-piece, piece-piece}
use Rattle.place_model.proofs.JournalLemmas.{replayed_entries-same, walk_of-same}
use Rattle.journal_reading.specs.Journal.{HasJournal, journal_image}

-- ---- sectors

-- What is read of the journal's sectors is the journal.
pub HasJournal-read : (g : Geometry) (bytes : List ℕ) (c : Content) → length bytes ≡ 512 * journal_sectors g → Reads 8 bytes c
    → HasJournal g bytes (last_image c)
HasJournal-read g bytes c size reads = record {
  each = λ i j low narrow.
      let k = i * section_sectors g.shape + j in
      let inside = place_low g.sections (section_sectors g.shape) i j low narrow in
      let at : section_at g i + j ≡ 8 + k = omega arith in
      let back : k ≡ section_at g i + j - 8 = omega arith in
      let count : k < length bytes / 512 = omega arith in
      ap (last_image c) at ∙ sym (reads k count) ∙ ap (sector_in bytes) back;
}

-- The bytes of a section stand in it.
pub section_bytes-piece : (g : Geometry) (bytes : List ℕ) (i : ℕ) → length bytes ≡ 512 * journal_sectors g → i < g.sections
    → piece bytes (512 * (i * section_sectors g.shape)) (512 * section_sectors g.shape) ≡ section_bytes g (journal_image bytes) i
section_bytes-piece g bytes i size low =
    let sectors = section_sectors g.shape in
    let from = 512 * (i * sectors) in
    let fits = section_fits g i low in
    bytes_at_read (journal_image bytes) (section_at g i) sectors (piece bytes from (512 * sectors))
    (length-piece bytes from (512 * sectors) (omega arith))
    (λ k narrow.
    let place : from + 512 * k ≡ 512 * (section_at g i + k - 8) = omega arith in
    piece-piece bytes from (512 * sectors) (512 * k) 512 (omega arith) ∙ ap (λ (at : ℕ). piece bytes at 512) place)
  where
    section_fits : (g : Geometry) (i : ℕ) → i < g.sections → i * section_sectors g.shape + section_sectors g.shape ≤ journal_sectors g
    section_fits g i low =
        let after : i + 1 ≤ g.sections = omega arith in
        omega (arith, mul-le-mul_right (section_sectors g.shape) after)

-- ---- an image with this journal

module _ (g : Geometry) (sectors : ℕ) (bytes : List ℕ) (image : Image) (geometry : IsGeometry g sectors) (has : HasJournal g bytes image) where
  -- has its walk,
  pub walk_of-journal : walk_of g image ≡ walk_of g (journal_image bytes)
  walk_of-journal = walk_of-same g sectors image (journal_image bytes) geometry has.each

  -- its entries,
  pub entry_of-journal : (i n : ℕ) → i < g.sections → entry_of g image (entry_place i n) ≡ entry_of g (journal_image bytes) (entry_place i n)
  entry_of-journal i n low =
      let same = bytes_at-same image (journal_image bytes) (section_at g i) (section_sectors g.shape) (λ sector above under.
      let there : section_at g i + (sector - section_at g i) ≡ sector = omega arith in
      subst (λ (k : ℕ). image k ≡ journal_image bytes k) there (has.each i (sector - section_at g i) low (omega arith))) in
      ap (λ (xs : List ℕ). entry_at g.shape xs n) same

  pub replayed_entries-journal : IsOk (walk_of g (journal_image bytes)) → replayed_entries g image ≡ replayed_entries g (journal_image bytes)
  replayed_entries-journal ok = replayed_entries-same g sectors image (journal_image bytes) geometry has.each ok
