-- Used entries by the sectors in which they stand, and by the sections.
use Rattle.std.proofs.Common.{◌≡◌, ℕ, suc, ◌+◌, ◌*◌, ◌-◌, ◌/◌, ◌%◌, ◌^◌, ◌<◌, ◌≤◌, ◌==◌, ◌&&◌, Bool, true, false, not, refl, sym, ◌∙◌, ap, subst, arith, List, length}
use Rattle.std.specs.Prelude.{nat_lt}
use Rattle.std.proofs.lemmas.Bool.{and_from, and_parts, false_from_ne_true, lt-ltb, ltb-true, true≢false}
use Rattle.std.proofs.lemmas.Nat.{mod-mul-add}
use Rattle.std.proofs.Math.Nat.{mul-le-mul_right}
use Rattle.disk_model.specs.Disk.{Image}
use Rattle.commit_id.specs.declared.shape.Shape.{Shape as Numbers}
use Rattle.commit_id.specs.Shape.{as_shape, IsShape}
use Rattle.commit_id.proofs.ShapeLemmas.{shape_holds}
use Rattle.image_model.specs.Below.{any_below}
use Rattle.image_model.specs.Geometry.{Geometry, Shape, IsGeometry, entries_per_sector, entry_size, journal_sectors, section_at, section_entries, section_sectors}
use Rattle.image_model.specs.Grid.{is_used_outside, is_zero_sector}
use Rattle.image_model.specs.Section.{is_used}
use Rattle.image_model.specs.Sectors.{bytes_at, number_in}
use Rattle.image_model.proofs.BelowLemmas.{any_at, any_found}
use Rattle.image_model.proofs.Bounds.{HasEntries, has_entries}
use Rattle.image_model.proofs.ScanLemmas.{place_inside, place_low}
use Rattle.image_model.proofs.SectorLemmas.{number_in-piece, sector_in-bytes_at}
use Rattle.journal_reading.specs.Cells.{HasWholeSectors}
use Rattle.journal_reading.specs.Used.{has_used, is_used_in, is_used_outside_at}

-- Tests that each hold where the other does are the same.
same_test : (a b : Bool) → (a ≡ true → b ≡ true) → (b ≡ true → a ≡ true) → a ≡ b
same_test true b there back = sym (there refl)
same_test false b there back = sym (false_from_ne_true b (λ e. true≢false (sym (back e))))

-- An entry of a metadata sector ends before the commit id.
pub entry_fits_in : (shape : Shape) (m : ℕ) → HasEntries shape → m < entries_per_sector shape → m * entry_size shape + entry_size shape ≤ 504
entry_fits_in shape m has low =
    let next : suc m ≤ entries_per_sector shape = omega arith in
    let all = mul-le-mul_right (entry_size shape) next in
    let fits = has.sector_holds in
    omega (arith, all, fits)

-- So its word has room there.
pub word_fits : (shape : Numbers) (m : ℕ) → IsShape shape → m < shape.per_sector → m * shape.entry + 8 ≤ 504
word_fits shape m is low =
    let has = (shape_holds shape is).2 in
    let least = has.entry_low in
    let entry = is.entry in
    let low_there : m < entries_per_sector (as_shape shape) = subst (λ (n : ℕ). m < n) is.per_sector low in
    let fits = entry_fits_in (as_shape shape) m has low_there in
    rw entry (omega arith)

-- Whether it is used is told by its word.
pub is_used_in-word : (shape : Shape) (bytes : List ℕ) (m word : ℕ) → word ≡ number_in bytes (m * entry_size shape + 4) 4
    → not (word == 2 ^ 32 - 1) ≡ is_used_in shape bytes m
is_used_in-word shape bytes m word is = ap (λ (w : ℕ). not (w == 2 ^ 32 - 1)) is

-- An entry of a section is used where the one in its sector is.
is_used-sector : (shape : Shape) (image : Image) (at n : ℕ) → HasEntries shape → n < section_entries shape
    → ((sector : ℕ) → at ≤ sector → sector < at + 8 → length (image sector) ≡ 512)
    → is_used shape (bytes_at image at 8) n ≡ is_used_in shape (image (at + n % 8)) (n / 8)
unfolding is_used
is_used-sector shape image at n has low whole =
    let entries = has.entries_is in
    let least = has.entry_low in
    let fits = entry_fits_in shape (n / 8) has (omega arith) in
    let from = n / 8 * entry_size shape + 4 in
    let place : 512 * (n % 8) + from ≡ 512 * (n % 8) + n / 8 * entry_size shape + 4 = omega arith in
    let word : number_in (bytes_at image at 8) (512 * (n % 8) + n / 8 * entry_size shape + 4) 4 ≡ number_in (image (at + n % 8)) from 4 =
    sym (ap (λ (x : ℕ). number_in (bytes_at image at 8) x 4) place)
    ∙ sym (number_in-piece (bytes_at image at 8) from 4 (512 * (n % 8)) 512 (omega arith))
    ∙ ap (λ (x : List ℕ). number_in x from 4) (sector_in-bytes_at image at 8 (n % 8) whole (omega arith)) in
    ap (λ (w : ℕ). not (w == 2 ^ 32 - 1)) word

module _ (bitmap : ℕ) (g : Geometry) (sectors : ℕ) (image : Image) (geometry : IsGeometry g sectors) (whole : HasWholeSectors image (journal_sectors g)) where
  width : ℕ
  width = section_sectors g.shape

  has : HasEntries g.shape
  has = has_entries g.shape geometry.spb.0 geometry.spb.1 geometry.tag_size.0 geometry.tag_size.1

  -- The metadata sectors of a section are whole.
  whole_there : (i : ℕ) → i < g.sections → (sector : ℕ) → section_at g i ≤ sector → sector < section_at g i + 8 → length (image sector) ≡ 512
  whole_there i low sector above under =
      let some = has.sectors_low in
      let inside = place_low g.sections (section_sectors g.shape) i (sector - section_at g i) low (omega arith) in
      let at : 8 + (sector - 8) ≡ sector = omega arith in
      sym (ap (λ (s : ℕ). length (image s)) at) ∙ whole (sector - 8) (omega arith)

  -- A test of a used entry, by its sector's place in the journal.
  abbrev stays : ℕ → Bool
  stays k = not (nat_lt k bitmap && is_zero_sector (image (8 + k)))

  -- What a section's entry tells is told by its sector,
  of_section : (i n : ℕ) → i < g.sections → n < section_entries g.shape → is_used_outside bitmap g image i n ≡ true
      → is_used_outside_at bitmap g image (i * section_sectors g.shape + n % 8) ≡ true
  of_section i n i_low n_low e =
      let some = has.sectors_low in
      let entries = has.entries_is in
      let k = i * section_sectors g.shape + n % 8 in
      let parts = and_parts (is_used g.shape (bytes_at image (section_at g i) 8) n) (stays k) e in
      let narrow : n % 8 < section_sectors g.shape = omega arith in
      let column : k % section_sectors g.shape ≡ n % 8 = mod-mul-add i (section_sectors g.shape) (n % 8) narrow in
      let at : section_at g i + n % 8 ≡ 8 + k = omega arith in
      let used : is_used_in g.shape (image (8 + k)) (n / 8) ≡ true =
      sym (ap (λ (s : ℕ). is_used_in g.shape (image s) (n / 8)) at) ∙ sym (is_used-sector g.shape image (section_at g i) n has n_low (whole_there i i_low)) ∙ parts.0 in
      let some_used : has_used g.shape (image (8 + k)) ≡ true = any_at (entries_per_sector g.shape) (is_used_in g.shape (image (8 + k))) (n / 8) (omega arith) used in
      let early : nat_lt (k % section_sectors g.shape) 8 ≡ true = lt-ltb (k % section_sectors g.shape) 8 (omega (arith, column)) in
      and_from (nat_lt (k % section_sectors g.shape) 8) (stays k && has_used g.shape (image (8 + k))) early (and_from (stays k) (has_used g.shape (image (8 + k))) parts.1 some_used)

  -- and what a sector tells by an entry of its section.
  of_sector : (k : ℕ) → k < journal_sectors g → is_used_outside_at bitmap g image k ≡ true
      → any_below g.sections (λ section. any_below (section_entries g.shape) (is_used_outside bitmap g image section)) ≡ true
  of_sector k low e =
      let some = has.sectors_low in
      let entries = has.entries_is in
      let place = place_inside g.sections (section_sectors g.shape) k (omega arith) low in
      let i = k / section_sectors g.shape in
      let j = k % section_sectors g.shape in
      let parts = and_parts (nat_lt j 8) (stays k && has_used g.shape (image (8 + k))) e in
      let early : j < 8 = ltb-true j 8 parts.0 in
      let later = and_parts (stays k) (has_used g.shape (image (8 + k))) parts.1 in
      let found = any_found (entries_per_sector g.shape) (is_used_in g.shape (image (8 + k))) later.1 in
      let m = found.0 in
      let m_low : m < entries_per_sector g.shape = found.1 in
      let n = 8 * m + j in
      let column : n % 8 ≡ j = omega arith in
      let row : n / 8 ≡ m = omega arith in
      let n_low : n < section_entries g.shape = omega arith in
      let same : i * section_sectors g.shape + n % 8 ≡ k = omega (arith, place.2, column) in
      let at : section_at g i + n % 8 ≡ 8 + k = omega (arith, same) in
      let used : is_used g.shape (bytes_at image (section_at g i) 8) n ≡ true =
      is_used-sector g.shape image (section_at g i) n has n_low (whole_there i place.0)
      ∙ ap (λ (s : ℕ). is_used_in g.shape (image s) (n / 8)) at ∙ ap (is_used_in g.shape (image (8 + k))) row ∙ found.2 in
      let outside : is_used_outside bitmap g image i n ≡ true =
      and_from (is_used g.shape (bytes_at image (section_at g i) 8) n) (stays (i * section_sectors g.shape + n % 8)) used (ap stays same ∙ later.0) in
      any_at g.sections (λ section. any_below (section_entries g.shape) (is_used_outside bitmap g image section)) i place.0
      (any_at (section_entries g.shape) (is_used_outside bitmap g image i) n n_low outside)

  -- ---- for callers

  -- Some sector has a used entry that counts exactly where some section has one.
  pub used_by_sectors : any_below (journal_sectors g) (is_used_outside_at bitmap g image)
      ≡ any_below g.sections (λ section. any_below (section_entries g.shape) (is_used_outside bitmap g image section))
  used_by_sectors = same_test _ _ there back
    where
      there : any_below (journal_sectors g) (is_used_outside_at bitmap g image) ≡ true
          → any_below g.sections (λ section. any_below (section_entries g.shape) (is_used_outside bitmap g image section)) ≡ true
      there e =
          let found = any_found (journal_sectors g) (is_used_outside_at bitmap g image) e in
          of_sector found.0 found.1 found.2

      back : any_below g.sections (λ section. any_below (section_entries g.shape) (is_used_outside bitmap g image section)) ≡ true
          → any_below (journal_sectors g) (is_used_outside_at bitmap g image) ≡ true
      back e =
          let found = any_found g.sections (λ section. any_below (section_entries g.shape) (is_used_outside bitmap g image section)) e in
          let entry = any_found (section_entries g.shape) (is_used_outside bitmap g image found.0) found.2 in
          let some = has.sectors_low in
          let narrow : entry.0 % 8 < section_sectors g.shape = omega arith in
          any_at (journal_sectors g) (is_used_outside_at bitmap g image) (found.0 * section_sectors g.shape + entry.0 % 8)
          (place_low g.sections (section_sectors g.shape) found.0 (entry.0 % 8) found.1 narrow) (of_section found.0 entry.0 found.1 entry.1 entry.2)
