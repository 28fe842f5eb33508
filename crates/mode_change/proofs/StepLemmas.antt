-- What the two writes of a change add, and what they leave.
use Rattle.std.proofs.Common.{◌≡◌, ℕ, ◌+◌, ◌-◌, ◌*◌, ◌/◌, ◌%◌, ◌<◌, ◌≤◌, refl, ◌∙◌, ap, subst, arith, List, length, min, take}
use Rattle.std.proofs.lemmas.List.{drop-replicate, take-replicate, length-replicate}
use Rattle.disk_model.specs.Disk.{Content, IsImage, IsOfRun, IsRun, OnlyAdds, last_image, newest_only, sector_in, with_run}
use Rattle.disk_model.proofs.DiskLemmas.{AddsSome-adds, AddsSome-all, IsOfRun-one, OnlyAdds-join, OnlyAdds-wider, last_image-with_one, last_image-with_run, last_image-with_run_out, newest_only-adds}
use Rattle.disk_model.specs.Moments.{EachSince}
use Rattle.disk_model.proofs.MomentsLemmas.{adds_told}
use Rattle.image_model.specs.Geometry.{Geometry, IsGeometry, bitmap_sectors, journal_sectors, regions}
use Rattle.image_model.specs.Grid.{is_zero_sector}
use Rattle.image_model.specs.Sectors.{zero_bytes}
use Rattle.image_model.specs.Superblock.{Superblock}
use Rattle.image_model.proofs.GeometryLemmas.{data_at-inside}
use Rattle.image_model.proofs.Regions.{bitmap_sectors_for-is, regions_for-is}
use Rattle.place_model.specs.Journal.{IsOfJournal}
use Rattle.bitmap_laws.proofs.CallLemmas.{run_image}
use Rattle.change_model.specs.Change.{IsOfHead, IsOfZeros, ReadsZeros}
use Rattle.change_model.specs.Fields.{with_head}
use Rattle.change_model.specs.Whole.{IsStep, WritesHead}
use Rattle.change_model.proofs.PlacedLemmas.{journal_inside, of_journal}
use Rattle.recalculation.specs.Position.{IsHeadOf}
use Rattle.mode_change.specs.ToBitmap.{with_zeros}

-- ---- zeros

sector_in-zeros : (sectors k : ℕ) → k < sectors → sector_in (zero_bytes (512 * sectors)) k ≡ zero_bytes 512
sector_in-zeros sectors k low =
    ap (take 512) (drop-replicate (512 * k) (512 * sectors) 0) ∙ take-replicate 512 (512 * sectors - 512 * k) 0 (omega (arith, low))

-- So many bytes are that many sectors.
zeros-sectors : (bitmap : ℕ) → length (zero_bytes (512 * bitmap)) / 512 ≡ bitmap
zeros-sectors bitmap = let size = length-replicate {A = ℕ} (512 * bitmap) 0 in omega (arith, size)

-- A run of zeros in the bitmap's place.
pub zero_run : (g : Geometry) (sectors bitmap : ℕ) → IsGeometry g sectors → bitmap ≤ journal_sectors g → (s : ℕ) (x : List ℕ) → IsOfRun 8 (zero_bytes (512 * bitmap)) s x → IsOfZeros g bitmap s x
zero_run g sectors bitmap geometry fits s x of =
    let count = zeros-sectors bitmap in
    let begins = of.begins in
    let ends = of.ends in
    let place : 8 + (s - 8) ≡ s = omega (arith, begins) in
    let is : x ≡ zero_bytes 512 = of.is ∙ sector_in-zeros bitmap (s - 8) (omega (arith, begins, ends, count)) in
    record {
      on = subst (IsOfJournal g) place (of_journal g sectors (s - 8) geometry (omega (arith, begins, ends, count, fits)));
      inside = omega (arith, ends, count);
      whole = ap length is;
      zeros = ap is_zero_sector is;
    }

module _ (g : Geometry) (sectors bitmap : ℕ) (geometry : IsGeometry g sectors) (fits : bitmap ≤ journal_sectors g) (first : Content) (image : IsImage first (last_image first)) where
  abbrev zeros : List ℕ
  zeros = zero_bytes (512 * bitmap)

  pub zeros_step : IsStep (IsOfZeros g bitmap) (ReadsZeros g bitmap) first (with_zeros bitmap first)
  zeros_step = record {
    before_sync = with_run 8 zeros first;
    written = record {
      adds = OnlyAdds-wider (IsOfRun 8 zeros) (IsOfZeros g bitmap) (zero_run g sectors bitmap geometry fits) first (with_run 8 zeros first) (AddsSome-adds 8 zeros first (with_run 8 zeros first) (AddsSome-all 8 zeros first));
      reads = run_image 8 zeros first image;
    };
    reads = λ sector on inside.
        let above = (journal_inside g sector on).0 in
        let count = zeros-sectors bitmap in
        ap is_zero_sector (last_image-with_run 8 zeros first sector above (omega (arith, inside, count)) ∙ sector_in-zeros bitmap (sector - 8) (omega (arith, above, inside)));
    is = refl;
  }

  pub zeros_added : OnlyAdds (IsOfZeros g bitmap) first (with_zeros bitmap first)
  unfolding zeros_step
  zeros_added =
      let step = zeros_step in
      OnlyAdds-join (IsOfZeros g bitmap) first (with_run 8 zeros first) (with_zeros bitmap first) step.written.adds (newest_only-adds (IsOfZeros g bitmap) (with_run 8 zeros first) step.written.reads)

-- Sector 0 is none of them.
pub zeros_head : (bitmap : ℕ) (first : Content) → last_image (with_zeros bitmap first) 0 ≡ last_image first 0
zeros_head bitmap first = last_image-with_run_out 8 (zero_bytes (512 * bitmap)) first 0 (λ above under. omega (arith, above))

-- The geometry lays out the journal whatever its regions.
pub zeros_under : (g : Geometry) (log2_region bitmap s : ℕ) (x : List ℕ) → IsOfZeros (record g { log2_region = log2_region }) bitmap s x → IsOfZeros g bitmap s x
zeros_under g log2_region bitmap s x of = record {
  on = record { section = of.on.section; place = of.on.place; inside = of.on.inside; narrow = of.on.narrow; is = of.on.is };
  inside = of.inside;
  whole = of.whole;
  zeros = of.zeros;
}

-- ---- sector 0

pub head_run : (bytes : List ℕ) → length bytes ≡ 512 → (s : ℕ) (x : List ℕ) → IsOfRun 0 bytes s x → IsOfHead bytes s x
head_run bytes size s x of = let one = IsOfRun-one 0 bytes s x size of in record { first = one.0; is = one.1 }

pub head_step : (bytes : List ℕ) → length bytes ≡ 512 → (first : Content) → IsImage first (last_image first) → WritesHead bytes first (newest_only (with_run 0 bytes first))
head_step bytes size first image = record {
  before_sync = with_run 0 bytes first;
  written = record {
    adds = OnlyAdds-wider (IsOfRun 0 bytes) (IsOfHead bytes) (head_run bytes size) first (with_run 0 bytes first) (AddsSome-adds 0 bytes first (with_run 0 bytes first) (AddsSome-all 0 bytes first));
    reads = run_image 0 bytes first image;
  };
  reads = last_image-with_one 0 bytes first size;
  is = refl;
}

-- What is written is sector 0 as it was read, with the fields.
pub head_told : {a b : List Content} (fields : Superblock) (head : List ℕ) → IsHeadOf fields head a → EachSince (OnlyAdds (IsOfHead head)) a b → EachSince (λ start. OnlyAdds (IsOfHead (with_head fields (last_image start 0))) start) a b
head_told fields head is adds =
    adds_told (λ (start : Content). IsOfHead (with_head fields (last_image start 0))) (IsOfHead head) (λ start told s x of. record { first = of.first; is = of.is ∙ is start told }) adds

-- ---- for callers

some_of : (n : ℕ) → 1 ≤ n → 1 ≤ n / 32768 + min 1 (n % 32768)
some_of n some = omega arith

-- A bitmap has a sector.
pub some_sectors : (g : Geometry) (sectors : ℕ) → IsGeometry g sectors → 1 ≤ bitmap_sectors g
some_sectors g sectors geometry =
    let is = bitmap_sectors_for-is g.blocks g.log2_region in
    let count = regions_for-is g.blocks g.log2_region geometry.blocks in
    let some = some_of (regions g) (omega (arith, count)) in
    omega (arith, is, some)

-- The bitmap is a run of whole sectors, at least one, on the disk.
pub is_run : (g : Geometry) (sectors at bytes : ℕ) → IsGeometry g sectors → bitmap_sectors g ≤ journal_sectors g → at ≡ 8 → bytes ≡ 512 * bitmap_sectors g → IsRun at bytes sectors
is_run g sectors at bytes geometry fits at_is bytes_is =
    let some = some_sectors g sectors geometry in
    let last = geometry.last in
    let behind = (data_at-inside g sectors (g.blocks - 1) geometry (omega (arith, geometry.blocks))).0 in
    record { whole = omega (arith, bytes_is); some = omega (arith, bytes_is, some); inside = omega (arith, bytes_is, at_is, fits, last, behind) }
