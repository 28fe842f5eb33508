-- What the parts of a filling write lies apart.
use Rattle.std.proofs.Common.{inl, inr, ℕ, ◌+◌, ◌≤◌, List, ◌∙◌, arith}
use Rattle.disk_model.specs.Disk.{Content, last_image}
use Rattle.disk_model.specs.Moments.{EachMoment, FromStart, HasNow}
use Rattle.hmac_tag.specs.TagMaker.{TagRule}
use Rattle.image_format.specs.declared.reading.ImageFormat.{ImageFormat}
use Rattle.image_format.specs.Format.{IsFormat}
use Rattle.image_model.specs.Geometry.{Geometry, IsGeometry, initial, journal_sectors}
use Rattle.image_model.proofs.GeometryLemmas.{data_at-inside, section_at-lt}
use Rattle.image_model.specs.Entries.{IsWithin}
use Rattle.place_model.proofs.TagsLemmas.{tag_byte-behind}
use Rattle.image_model.specs.declared.new_image.Wipe.{Wipe}
use Rattle.image_model.specs.declared.new_image.Wipe.TheVariants.{Wiped, Kept, Recalculated}
use Rattle.formatting_model.specs.Formatted.{HasBlocks, HasFilled, IsBlocksByte, IsBlocksSector, IsFillSector, IsImageByte}
use Rattle.formatting_model.specs.Stays.{ReadsKeep}
use Rattle.formatting_model.proofs.StaysLemmas.{keep_changes, keep_then, keep_wider}
use Rattle.formatting_model.specs.Journal.{HasJournalPlace, has_bitmap, regions_set}
use Rattle.formatting_model.specs.Runs.{ChangesOnly, HasZeros}
use Rattle.formatting_model.proofs.FormattedLemmas.{HasJournalBy-same}
use Rattle.formatting_model.proofs.JournalLemmas.{bitmap_fits, sections_some}
use Rattle.formatting_model.proofs.RunsLemmas.{changes_then, changes_wider, keeps_now}

-- The sectors of blocks are behind the journal.
blocks_behind : (wipe : Wipe) (g : Geometry) (sectors s : ℕ) → IsGeometry g sectors → IsBlocksSector wipe g s → initial g ≤ s
blocks_behind Wiped g sectors s is of = elim of.at [
  | inl block ↦ let at = (data_at-inside g sectors of.block is (omega (arith, of.is_block.ends))).0 in omega (arith, at, block.2)
  | inr tag ↦ let at = tag_byte-behind g sectors of.block tag.0 is (omega (arith, of.is_block.ends)) in omega (arith, at, tag.2)
]
blocks_behind Kept g sectors s is of = absurd of
blocks_behind Recalculated g sectors s is of = absurd of

journal_some : (g : Geometry) (sectors : ℕ) → IsGeometry g sectors → 8 ≤ journal_sectors g
journal_some g sectors is =
    let next = section_at-lt g 0 g.sections is.sections in
    let some = sections_some g.shape in
    omega (arith, next, some)

-- Of the superblock but its first sector, of the journal and of the blocks.
head_fills : (wipe : Wipe) (g : Geometry) (sectors s : ℕ) → IsGeometry g sectors → IsWithin 1 7 s → IsFillSector wipe g s
head_fills wipe g sectors s is within = (within.0, inl (omega (arith, within.1)))

journal_fills : (wipe : Wipe) (g : Geometry) (s : ℕ) → IsWithin 8 (journal_sectors g) s → IsFillSector wipe g s
journal_fills wipe g s within = (omega (arith, within.0), inl within.1)

blocks_fill : (wipe : Wipe) (g : Geometry) (sectors s : ℕ) → IsGeometry g sectors → IsBlocksSector wipe g s → IsFillSector wipe g s
blocks_fill wipe g sectors s is of = let behind = blocks_behind wipe g sectors s is of in (omega (arith, behind), inr of)

-- ---- for callers

pub fill_head : {a b : List Content} (wipe : Wipe) (g : Geometry) (sectors : ℕ) → IsGeometry g sectors → EachMoment a b (FromStart a (ChangesOnly (IsWithin 1 7))) → EachMoment a b (FromStart a (ChangesOnly (IsFillSector wipe g)))
fill_head wipe g sectors is m = changes_wider (IsWithin 1 7) (IsFillSector wipe g) (λ s of. head_fills wipe g sectors s is of) m

pub fill_journal : {a b c : List Content} (wipe : Wipe) (g : Geometry) (sectors : ℕ) → IsGeometry g sectors → EachMoment a b (FromStart a (ChangesOnly (IsWithin 1 7)))
    → EachMoment b c (FromStart b (ChangesOnly (IsWithin 8 (journal_sectors g)))) → EachMoment a c (FromStart a (ChangesOnly (IsFillSector wipe g)))
fill_journal wipe g sectors is first second =
    changes_then (IsFillSector wipe g) (fill_head wipe g sectors is first) (changes_wider (IsWithin 8 (journal_sectors g)) (IsFillSector wipe g) (λ s of. journal_fills wipe g s of) second)

pub fill_all : {a b c d : List Content} (wipe : Wipe) (g : Geometry) (sectors : ℕ) → IsGeometry g sectors → EachMoment a b (FromStart a (ChangesOnly (IsWithin 1 7)))
    → EachMoment b c (FromStart b (ChangesOnly (IsWithin 8 (journal_sectors g)))) → EachMoment c d (FromStart c (ChangesOnly (IsBlocksSector wipe g))) → EachMoment a d (FromStart a (ChangesOnly (IsFillSector wipe g)))
fill_all wipe g sectors is first second third =
    changes_then (IsFillSector wipe g) (fill_journal wipe g sectors is first second) (changes_wider (IsBlocksSector wipe g) (IsFillSector wipe g) (λ s of. blocks_fill wipe g sectors s is of) third)

-- All parts are there at the end.
pub filled_now : {b c d : List Content} (wipe : Wipe) (rule : TagRule) (format : ImageFormat) (sectors : ℕ) → IsFormat sectors format → HasNow (λ x. HasZeros 1 7 (last_image x)) b
    → EachMoment b c (FromStart b (ChangesOnly (IsWithin 8 (journal_sectors format.geometry)))) → HasNow (λ x. HasJournalPlace format (last_image x)) c
    → EachMoment c d (FromStart c (ChangesOnly (IsBlocksSector wipe format.geometry))) → HasNow (λ x. HasBlocks wipe rule format.geometry (last_image x)) d → HasNow (λ x. HasFilled wipe rule format (last_image x)) d
filled_now {b} {c} {d} wipe rule format sectors is zeros second journal third blocks content told =
    let g = format.geometry in
    let behind : (s : ℕ) → IsBlocksSector wipe g s → initial g ≤ s = λ s of. blocks_behind wipe g sectors s is.geometry of in
    record {
      zeros = keeps_now (IsBlocksSector wipe g) (λ image. HasZeros 1 7 image)
          (λ one other same h k low. same (1 + k) (λ of. let from = behind (1 + k) of in omega (arith, from, low)) ∙ h k low)
          (keeps_now (IsWithin 8 (journal_sectors g)) (λ image. HasZeros 1 7 image) (λ one other same h k low. same (1 + k) (λ within. omega (arith, within.0, low)) ∙ h k low) zeros second)
          third content told;
      journal = keeps_now (IsBlocksSector wipe g) (λ image. HasJournalPlace format image)
          (λ one other same h. HasJournalBy-same (has_bitmap format) (regions_set format) g one other
          (λ k set low. same (8 + k) (λ of. let from = behind (8 + k) of in let fits = bitmap_fits sectors format is set in omega (arith, from, low, fits)))
          (λ s from to. same s (λ of. let high = behind s of in omega (arith, high, to)))
          h)
          journal third content told;
      blocks = blocks content told;
    }

-- The bytes of no part stay.
pub fill_stays : (a b c d : List Content) (wipe : Wipe) (g : Geometry) (sectors : ℕ) → IsGeometry g sectors → EachMoment a b (FromStart a (ChangesOnly (IsWithin 1 7)))
    → EachMoment b c (FromStart b (ChangesOnly (IsWithin 8 (journal_sectors g)))) → EachMoment c d (FromStart c (ChangesOnly (IsBlocksSector wipe g))) → ReadsKeep (IsBlocksByte wipe g) c d → ReadsKeep (IsImageByte wipe g) a d
fill_stays a b c d wipe g sectors is first second third stays =
    let image = IsImageByte wipe g in
    keep_then a c d image (FromStart a (ChangesOnly (IsFillSector wipe g))) (fill_journal wipe g sectors is first second)
    (keep_then a b c image (FromStart a (ChangesOnly (IsWithin 1 7))) first
    (keep_changes a b (IsWithin 1 7) image (λ s j of. inl (omega (arith, of.1))) first)
    (keep_changes b c (IsWithin 8 (journal_sectors g)) image (λ s j of. inl of.1) second))
    (keep_wider c d (IsBlocksByte wipe g) image (λ s j low of. inr of) stays)
