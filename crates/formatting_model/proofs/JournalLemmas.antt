-- The sectors of empty sections that are written, behind a bitmap or from the journal's beginning on.
use Rattle.std.proofs.Common.{◌≡◌, inl, inr, ℕ, zero, suc, ◌+◌, ◌-◌, ◌*◌, ◌/◌, ◌%◌, ◌^◌, ◌<◌, ◌≤◌, Bool, true, false, IsTrue, List, length, drop, take, replicate, refl, sym, ◌∙◌, ap, subst, arith, length-drop, Option, None}
use Rattle.std.specs.Option.{option_map}
use Rattle.std.proofs.lemmas.Bool.{cases_lt}
use Rattle.std.proofs.lemmas.List.{take_rest}
use Rattle.std.proofs.lemmas.Nat.{div-add-mod', mod_below}
use Rattle.disk_model.specs.Disk.{Content, Image, last_image, sector_in, with_run}
use Rattle.disk_model.specs.Moments.{content_now, EachMoment, FromStart, HasNow}
use Rattle.disk_model.proofs.DiskLemmas.{last_image-with_run, last_image-with_run_out}
use Rattle.disk_model.proofs.SectorLemmas.{sector_in-drop}
use Rattle.image_model.specs.Cells.{section_bytes}
use Rattle.image_model.specs.CommitId.{commit_number}
use Rattle.image_model.specs.Geometry.{Geometry, Shape, IsGeometry, bitmap_sectors, journal_sectors, section_at, section_entries, section_sectors}
use Rattle.image_model.specs.Section.{Entry}
use Rattle.image_model.proofs.GeometryLemmas.{data_at-inside, section_at-lt}
use Rattle.image_model.proofs.GeometryOf.{geometry_given}
use Rattle.image_model.proofs.SectorLemmas.{bytes_at_read}
use Rattle.image_format.specs.declared.reading.ImageFormat.{ImageFormat}
use Rattle.image_format.specs.Format.{IsFormat}
use Rattle.image_model.specs.Entries.{HoldsEntries, IsWithin}
use Rattle.formatting_model.specs.Journal.{HasEmptyJournal, HasEmptyRest, HasEmptyRests, HasJournalBy, IsEmptyBehind, IsEmptySection, bitmap_taken, has_bitmap}
use Rattle.formatting_model.specs.Bits.{HasBits}
use Rattle.formatting_model.specs.Runs.{ChangesOnly}
use Rattle.formatting_model.proofs.BitsLemmas.{HasBits-same}
use Rattle.formatting_model.proofs.FormattedLemmas.{HasEmptyRest-same}
use Rattle.formatting_model.proofs.RunsLemmas.{changed_now, keeps_now}

-- No entry.
abbrev pub no_entries : Geometry → List (Option Entry)
no_entries g = replicate (section_entries g.shape) None

module _ (g : Geometry) (first i skipped : ℕ) (bytes run : List ℕ) (skips : skipped ≡ first - i * section_sectors g.shape)
    (within : first < i * section_sectors g.shape + section_sectors g.shape) (is : run ≡ drop (512 * skipped) bytes) (empty : IsEmptySection g.shape i bytes) where
  -- What is left of a section that the bitmap ends in, or all of it.
  run_size : length run ≡ 512 * section_sectors g.shape - 512 * skipped
  run_size = ap length is ∙ length-drop (512 * skipped) bytes ∙ ap (λ (n : ℕ). n - 512 * skipped) empty.entries.size

  rest_written : (c : Content) → HasEmptyRest g first (last_image (with_run (section_at g i + skipped) run c)) i
  rest_written c = record {
    bytes = bytes;
    is_empty = empty;
    each = λ j inside above.
        last_image-with_run (section_at g i + skipped) run c (section_at g i + j) (omega (arith, skips, above)) (omega (arith, run_size, skips, within, inside))
        ∙ ap (λ (xs : List ℕ). sector_in xs (section_at g i + j - (section_at g i + skipped))) is
        ∙ sector_in-drop skipped (section_at g i + j - (section_at g i + skipped)) bytes
        ∙ ap (sector_in bytes) (let e : skipped + (section_at g i + j - (section_at g i + skipped)) ≡ j = omega (arith, skips, above) in e);
  }

  rests_more : (c : Content) → HasEmptyRests g first i (last_image c) → HasEmptyRests g first (i + 1) (last_image (with_run (section_at g i + skipped) run c))
  rests_more c so_far section low behind = elim (cases_lt section i) [
    | inl before ↦ HasEmptyRest-same g first (last_image c) (last_image (with_run (section_at g i + skipped) run c)) section
        (λ s from to. last_image-with_run_out (section_at g i + skipped) run c s (λ high below. omega (arith, high, to, section_at-lt g section i before)))
        (so_far section before behind)
    | inr from ↦
        let same : i ≡ section = omega (arith, from, low) in
        subst (λ (n : ℕ). HasEmptyRest g first (last_image (with_run (section_at g i + skipped) run c)) n) same (rest_written c)
  ]

  -- ---- for callers

  pub rests_next : (a b : List Content) → HasNow (λ c. HasEmptyRests g first i (last_image c)) a → content_now b ≡ option_map (with_run (section_at g i + skipped) run) (content_now a)
      → HasNow (λ c. HasEmptyRests g first (i + 1) (last_image c)) b
  rests_next a b so_far written d told =
      let was = changed_now (with_run (section_at g i + skipped) run) (content_now a) (content_now b) written d told in
      subst (λ (x : Content). HasEmptyRests g first (i + 1) (last_image x)) (sym was.2) (rests_more was.0 (so_far was.0 was.1))

-- The sectors that are left of a section behind its first ones, as they are written.
pub rest_size : (bytes : List ℕ) (width skipped : ℕ) → length bytes ≡ 512 * width → length (take (length bytes - 512 * skipped) (drop (512 * skipped) bytes)) ≡ 512 * width - 512 * skipped
rest_size bytes width skipped size = ap length (take_rest bytes (512 * skipped)) ∙ length-drop (512 * skipped) bytes ∙ ap (λ (n : ℕ). n - 512 * skipped) size

pub sections_some : (shape : Shape) → 8 ≤ section_sectors shape
unfolding section_sectors
sections_some shape = omega arith

-- Before the section in which the bitmap ends no section counts, and that one does.
pub rests_begin : (g : Geometry) (first : ℕ) (image : Image) → HasEmptyRests g first (first / section_sectors g.shape) image
rests_begin g first image section low within =
    let width = section_sectors g.shape in
    let next = section_at-lt g section (first / width) low in
    let split : first / width * width + first % width ≡ first = div-add-mod' first width in
    absurd (omega (arith, next, split, within))

pub first_open : (g : Geometry) (first : ℕ) → first < first / section_sectors g.shape * section_sectors g.shape + section_sectors g.shape
first_open g first =
    let width = section_sectors g.shape in
    let some = sections_some g.shape in
    let split : first / width * width + first % width ≡ first = div-add-mod' first width in
    let below : first % width < width = mod_below first width (omega (arith, some)) in
    omega (arith, split, below)

-- From the beginning on these are all sections.
rests_are_journal : (g : Geometry) (image : Image) → IsEmptyBehind g 0 image → HasEmptyJournal g image
rests_are_journal g image h section low =
    let some = sections_some g.shape in
    let rest = h section low (omega (arith, some)) in
    let same : rest.bytes ≡ section_bytes g image section =
    bytes_at_read image (section_at g section) (section_sectors g.shape) rest.bytes rest.is_empty.entries.size (λ k inside. sym (rest.each k inside (omega arith))) in
    record {
      entries = subst (λ (xs : List ℕ). HoldsEntries g.shape (no_entries g) xs) same rest.is_empty.entries;
      numbers = λ j inside. ap (commit_number section j) (rest.each j inside (omega arith)) ∙ rest.is_empty.numbers j inside;
    }

-- A bitmap in its sectors, and empty ones behind them.
pub journal_now : {a b : List Content} (bitmap : Bool) (set : ℕ) (g : Geometry) (taken : ℕ) → taken ≡ bitmap_taken bitmap g → HasNow (λ c. HasBits set 8 taken (last_image c)) a
    → EachMoment a b (FromStart a (ChangesOnly (IsWithin (8 + taken) (journal_sectors g - taken)))) → HasNow (λ c. IsEmptyBehind g taken (last_image c)) b → HasNow (λ c. HasJournalBy bitmap set g (last_image c)) b
journal_now false set g taken is bits changes behind d told = rests_are_journal g (last_image d) (subst (λ (n : ℕ). IsEmptyBehind g n (last_image d)) is (behind d told))
journal_now true set g taken is bits changes behind d told = record {
  bits = subst (λ (n : ℕ). HasBits set 8 n (last_image d)) is
      (keeps_now (IsWithin (8 + taken) (journal_sectors g - taken)) (λ image. HasBits set 8 taken image)
      (λ one other same h. HasBits-same set 8 taken one other (λ k low. same (8 + k) (λ of. omega (arith, of.0, low))) h) bits changes d told);
  behind = subst (λ (n : ℕ). IsEmptyBehind g n (last_image d)) is (behind d told);
}

-- A bitmap fits the journal.
pub bitmap_fits : (sectors : ℕ) (format : ImageFormat) → IsFormat sectors format → IsTrue (has_bitmap format) → bitmap_sectors format.geometry ≤ journal_sectors format.geometry
bitmap_fits sectors format is set =
    let told = (geometry_given format.fields sectors format.geometry).0 is.told in
    subst (λ (g : Geometry). bitmap_sectors g ≤ journal_sectors g) (sym told.0) (told.1.bitmap set)

taken_by : (bitmap : Bool) (g : Geometry) → (IsTrue bitmap → bitmap_sectors g ≤ journal_sectors g) → bitmap_taken bitmap g ≤ journal_sectors g
taken_by false g fits = omega arith
taken_by true g fits = fits refl

pub taken_fits : (sectors : ℕ) (format : ImageFormat) → IsFormat sectors format → bitmap_taken (has_bitmap format) format.geometry ≤ journal_sectors format.geometry
taken_fits sectors format is = taken_by (has_bitmap format) format.geometry (bitmap_fits sectors format is)

pub le_times : (i n : ℕ) → 1 ≤ n → i ≤ i * n
le_times zero n some = omega arith
le_times (suc i) n some = let less = le_times i n some in omega (arith, less, some)

-- The journal is behind the superblock, and on the disk.
pub journal_inside : (g : Geometry) (sectors i : ℕ) → IsGeometry g sectors → i < g.sections → (section_at g i + section_sectors g.shape ≤ 8 + journal_sectors g) × (8 + journal_sectors g ≤ sectors) × (i < 2 ^ 20) × (8 ≤ section_sectors g.shape)
journal_inside g sectors i is low =
    let block = data_at-inside g sectors 0 is is.blocks in
    let next = section_at-lt g i g.sections low in
    let some = sections_some g.shape in
    let many = le_times i (section_sectors g.shape) (omega (arith, some)) in
    (next, omega (arith, block.0, block.1), omega (arith, is.journal, next, some, many), some)
