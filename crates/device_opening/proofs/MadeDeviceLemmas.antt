-- The device in bitmap mode on the bitmap that was made of a journal.
use Rattle.std.proofs.Common.{◌≡◌, ℕ, ◌+◌, ◌*◌, ◌<◌, ◌≤◌, true, false, refl, sym, ◌∙◌, ap, subst, arith, Option, Some, List, length}
use Rattle.std.proofs.lemmas.Option.{none-some, same_Some}
use Rattle.disk_model.specs.Disk.{Content, Image, IsImage, last_image, newest_only, with_run}
use Rattle.disk_model.specs.Identity.{DiskIdentity}
use Rattle.disk_model.specs.Moments.{IsChangedBy, content_now}
use Rattle.disk_model.proofs.DiskLemmas.{last_image-with_run_out}
use Rattle.image_model.specs.declared.flags.TheConstants.{DIRTY_BITMAP}
use Rattle.image_model.specs.Cells.{block_tag, placed_cells_of, salt_of}
use Rattle.image_model.specs.Geometry.{Geometry, journal_sectors, regions, IsGeometry}
use Rattle.image_model.specs.Sectors.{zero_bytes}
use Rattle.image_model.proofs.GeometryLemmas.{data_at-inside}
use Rattle.image_model.specs.Superblock.{has_flag}
use Rattle.device_model.specs.Mode.{Bitmap}
use Rattle.place_model.specs.Changed as Places
use Rattle.place_model.specs.Changed.{changed_device, opened_format}
use Rattle.place_model.specs.Format.{DiskFormat, HasWholeSectors, OpensAs, cells_on, format_on}
use Rattle.place_model.specs.Opened.{blocks_of, device_format, set_bits_on}
use Rattle.place_model.proofs.FormatLemmas.{format_on-is, opens_reads}
use Rattle.place_model.proofs.KindLemmas.{not_in_bitmap_mode}
use Rattle.place_model.proofs.TagsLemmas.{tag_byte-behind}
use Rattle.bitmap_model.specs.BitmapDisk.{BitmapDisk, StandsFor}
use Rattle.bitmap_model.specs.Steps.{KeepsCells}
use Rattle.bitmap_model.specs.Opening.{opened_disk}
use Rattle.bitmap_laws.specs.Device.{IsBitmapDevice}
use Rattle.bitmap_laws.specs.OwnTags.{KeepsDisk}
use Rattle.bitmap_laws.proofs.DeviceLemmas.{beginning_law}
use Rattle.bitmap_laws.proofs.MomentLemmas.{left_now_law}
use Rattle.bitmap_laws.proofs.OwnTagLemmas.{own_tags_begin}
use Rattle.change_model.specs.Change.{ModeChange}
use Rattle.image_format.specs.declared.reading.ImageFormat.{ImageFormat}
use Rattle.image_format.specs.Format.{disk_format}
use Rattle.std.proofs.lemmas.List.{length-replicate}
use Rattle.mode_change.specs.ToBitmap.{IsBitmapOf, bitmap_count, bitmap_format, with_bitmap, with_zeros}
use Rattle.tag_store.specs.Store.{IsStore, Store, given, given_tags}
use Rattle.tag_store.specs.StoreLaws.{ReadTagsAlike, under_regions}
use Rattle.buffer_cache.specs.Cached.{HasNoMark}
use Rattle.buffer_cache.proofs.CachedLemmas.{changed_now}
use Rattle.change_model.specs.Fields.{MayReplace, bitmap_fields, with_head}
use Rattle.change_model.proofs.FieldsLemmas.{head_bytes_law}
use Rattle.direct_mode.proofs.StoreCalls.{ReadsWhole, given-whole}
use Rattle.mode_change.proofs.StepLemmas.{zeros_head}
use Rattle.tag_store.proofs.StoreLawsLemmas.{elsewhere_law, other_regions_law}
use Rattle.tag_store.proofs.StoreLemmas.{tags_in-same}
use Rattle.request_slots.specs.Flight.{Flight, no_requests}
use Rattle.device_parts.specs.declared.condition.Condition.TheVariants.{Working}
use Rattle.device_parts.specs.declared.parts.Parts.{Parts}
use Rattle.device_model.specs.Transcript.{BlockFormat}
use Rattle.device_parts.specs.Device.{IsOfSameBlocks, Standing, opened_standing, rule_on}
use Rattle.bitmap_mode.specs.States.{States}
use Rattle.bitmap_device.specs.Device.{IsBitmapped, IsOverDisk, kept, standing_on}
use Rattle.device_opening.specs.Changing.{HasNoRegions}
use Rattle.device_opening.proofs.StandingLemmas.{changed_blocks, standing_at, standing_changed}

module _ (key : Option (List ℕ)) (sectors : ℕ) (f : ImageFormat) (entry : Image) (m : ModeChange) (others : ℕ → List ℕ) (last : Content)
    (own : format_on key sectors entry ≡ disk_format key sectors f) (clear : has_flag DIRTY_BITMAP f.fields.flags ≡ false)
    (set : has_flag DIRTY_BITMAP (bitmap_format f).fields.flags ≡ true)
    (is : IsBitmapOf (disk_format key sectors f) (disk_format key sectors (bitmap_format f)) entry m others last) where
  abbrev before : DiskFormat
  before = disk_format key sectors f

  abbrev after : DiskFormat
  after = disk_format key sectors (bitmap_format f)

  abbrev made : Image
  made = last_image last

  -- ---- which device it is

  none : has_flag DIRTY_BITMAP (format_on key sectors entry).superblock.flags ≡ false
  none = ap (λ (x : DiskFormat). has_flag DIRTY_BITMAP x.superblock.flags) own ∙ clear

  abbrev made_standing : Standing
  made_standing = standing_at Bitmap after (changed_device before entry) made

  pub standing_made : made_standing ≡ opened_standing Bitmap key sectors entry made
  standing_made =
      ap (λ (x : DiskFormat). standing_at Bitmap (Places.bitmap_format x) (changed_device x entry) made) (sym own)
      ∙ sym (standing_changed Bitmap key sectors entry made (not_in_bitmap_mode (format_on key sectors entry) none))

  -- ---- its disk

  abbrev disk : BitmapDisk
  disk = opened_disk after made

  reads : IsImage last made
  reads = is.is_new.ready.reads

  opens : OpensAs after made
  opens = (is.cells made reads).opens

  cells : (b : ℕ) → b < after.geometry.blocks → cells_on after made b ≡ cells_on before entry b
  cells = (is.cells made reads).each

  blocks : blocks_of after ≡ blocks_of (format_on after.key after.sectors made)
  blocks = ap blocks_of (sym (format_on-is after made opens))

  pub none_set : (region : ℕ) → region < regions after.geometry → set_bits_on Bitmap after made region ≡ false
  none_set = subst (λ (x : DiskFormat). (region : ℕ) → region < regions x.geometry → set_bits_on Bitmap x made region ≡ false) is.format is.is_new.none_set

  device : IsBitmapDevice (device_format Bitmap after) (changed_device before entry) disk
  device =
      beginning_law (device_format Bitmap after) disk (cells_on before entry) 0 (λ region. false) (λ region. false) refl refl refl cells (record {
        set_bits = λ region low. sym (none_set region low);
        awaiting = λ region low. sym (none_set region low);
        fresh = λ region low. refl;
      })

  keeps : KeepsDisk disk (λ region. set_bits_on Bitmap after made region) others last
  keeps =
      let ready = is.is_new.ready in
      record {
        cells = subst (λ (x : DiskFormat). KeepsCells (opened_disk x made) others last) is.format is.is_new.keeps;
        own = (own_tags_begin after made last opens set (subst (λ (x : DiskFormat). HasWholeSectors x made) is.format ready.whole) ready.settled.only).0;
      }

  -- It has the blocks of the one at entry.
  pub same_blocks : salt_of (bitmap_fields f.fields) ≡ salt_of f.fields → IsOfSameBlocks Bitmap key sectors entry made
  same_blocks salt =
      changed_blocks Bitmap key sectors entry made (not_in_bitmap_mode (format_on key sectors entry) none) (sym blocks
      ∙ ap (λ (x : Option (List ℕ)). let s : BlockFormat = record { blocks = f.geometry.blocks; block_size = 512 * f.geometry.shape.spb; tag = λ b bytes. block_tag key x f.geometry (b * f.geometry.shape.spb) bytes } in s) salt
      ∙ ap blocks_of (sym own)) (format_on-is after made opens ∙ ap Places.bitmap_format (sym own))

  -- ---- what is kept

  module _ (parts : Parts) (regions_ : States) (moments : List Content) (told : content_now moments ≡ Some last)
      (same : parts.tags.geometry ≡ after.geometry) (gives : given_tags parts.tags last ≡ others)
      (slots : parts.slots ≡ no_requests after.geometry.blocks (512 * after.geometry.shape.spb)) (maker : parts.maker ≡ rule_on after)
      (none : HasNoRegions after.geometry regions_) where
    over_disk : IsOverDisk (standing_on made_standing disk) Working parts regions_ moments
    over_disk = record {
      device = device;
      reads = opens_reads after made opens;
      opened = blocks;
      base = λ b low. sym (cells b low);
      flight = record {
        blocks = ap (λ (x : Flight). x.blocks) slots;
        block_size = ap (λ (x : Flight). x.block_size) slots;
        most = refl;
        submitted = ap (λ (x : Flight). x.submitted) slots;
        slots = ap (λ (x : Flight). x.slots) slots;
        each = λ k r there. absurd (none-some r there);
      };
      rule = maker;
      condition_ = refl;
      told = last;
      is_told = told;
      stands = λ _. record {
        geometry = sym same;
        regions_ = none.opened after moments refl (λ c told_c region low. subst (λ (x : Content). set_bits_on Bitmap after (last_image x) region ≡ false) (same_Some last c (sym told ∙ told_c)) (none_set region low)) last told;
        now = λ c told_c. subst (λ (x : Content). KeepsDisk disk (λ region. set_bits_on Bitmap after made region) (given_tags parts.tags x) x) (same_Some last c (sym told ∙ told_c)) kept_here;
      };
      left = left_now_law (device_format Bitmap after) (changed_device before entry) disk made moments device blocks
          (λ c told_c. subst (StandsFor disk) (same_Some last c (sym told ∙ told_c)) keeps.cells.stands);
    }
      where
        kept_here : KeepsDisk disk (λ region. set_bits_on Bitmap after made region) (given_tags parts.tags last) last
        kept_here = subst (λ (tags : ℕ → List ℕ). KeepsDisk disk (λ region. set_bits_on Bitmap after made region) tags last) (sym gives) keeps

    -- What is open is the device.
    pub bitmap_made : IsBitmapped (opened_standing Bitmap key sectors entry made) Working (kept parts regions_) moments
    bitmap_made =
        subst (λ (w : Standing). IsBitmapped w Working (kept parts regions_) moments) standing_made
        (record { disk = disk; format = refl; over = over_disk })

-- ---- the tags behind the change

-- Behind the bitmap's place reads give what they gave.
elsewhere : (f : ImageFormat) (c : Content) (head : List ℕ) (sector : ℕ) → length head ≡ 512 → 8 + bitmap_count f ≤ sector
    → last_image (newest_only (with_run 0 head (with_zeros (bitmap_count f) (newest_only c)))) sector ≡ last_image c sector
elsewhere f c head sector size behind =
    let count : length (zero_bytes (512 * bitmap_count f)) ≡ 512 * bitmap_count f = length-replicate (512 * bitmap_count f) 0 in
    last_image-with_run_out 0 head (with_zeros (bitmap_count f) (newest_only c)) sector (λ above under. omega (arith, size, behind, under))
    ∙ last_image-with_run_out 8 (zero_bytes (512 * bitmap_count f)) (newest_only c) sector (λ above under. omega (arith, count, behind, under))

-- A disk with these places has a sector.
pub some_disk : (g : Geometry) (sectors : ℕ) → IsGeometry g sectors → 0 < sectors
some_disk g sectors geometry = let first = data_at-inside g sectors 0 geometry geometry.blocks in omega (arith, first)

module _ (f : ImageFormat) (identity : DiskIdentity) (tags : Store) (a b : List Content) (store_is : IsStore tags identity a) (same : tags.geometry ≡ f.geometry) (none : HasNoMark tags.sectors)
    (may : MayReplace f.fields (bitmap_fields f.fields)) (geometry : IsGeometry (bitmap_format f).geometry identity.sectors) (fits : bitmap_count f ≤ journal_sectors f.geometry)
    (some : 0 < identity.sectors) (whole_a : ReadsWhole identity a) (whole_b : ReadsWhole identity b) (written : IsChangedBy (with_bitmap f) a b) where
  head_size : (c : Content) → content_now a ≡ Some c → length (with_head (bitmap_fields f.fields) (last_image (with_zeros (bitmap_count f) (newest_only c)) 0)) ≡ 512
  head_size c told =
      (head_bytes_law (bitmap_fields f.fields) (last_image (with_zeros (bitmap_count f) (newest_only c)) 0) may.accepted may.fits (ap length (zeros_head (bitmap_count f) (newest_only c)) ∙ whole_a c told 0 some)).0

  tags_stay : (d : Content) → content_now b ≡ Some d → (c : Content) × (content_now a ≡ Some c) × ReadTagsAlike tags.geometry c d
  tags_stay d told =
      let start = changed_now (with_bitmap f) (content_now a) (content_now b) written d told in (
        start.0,
        start.1,
        λ sector holds.
            let behind = tag_byte-behind tags.geometry identity.sectors holds.block holds.byte store_is.geometry holds.block_low in
            let at = holds.is in
            let place : journal_sectors f.geometry ≡ journal_sectors tags.geometry = ap journal_sectors (sym same) in
            ap (λ (x : Content). last_image x sector) start.2
            ∙ elsewhere f start.0 (with_head (bitmap_fields f.fields) (last_image (with_zeros (bitmap_count f) (newest_only start.0)) 0)) sector (head_size start.0 start.1) (omega (arith, behind, at, place, fits)),
      )

  -- The store under the new regions.
  abbrev pub store_behind : Store
  store_behind = record { geometry = (bitmap_format f).geometry; sectors = tags.sectors }

  regions_are : under_regions tags (bitmap_fields f.fields).log2_region ≡ store_behind
  regions_are = ap (λ (g : Geometry). let s : Store = record { geometry = record g { log2_region = (bitmap_fields f.fields).log2_region }; sectors = tags.sectors } in s) same

  -- It is one of the disk then,
  pub is_store_behind : IsStore store_behind identity b
  is_store_behind =
      subst (λ (s : Store). IsStore s identity b) regions_are
      (other_regions_law tags identity b (bitmap_fields f.fields).log2_region (elsewhere_law tags identity a b store_is tags_stay)
      (subst (λ (s : Store). IsGeometry s.geometry identity.sectors) (sym regions_are) geometry)).0

  -- and gives the tags that are in place.
  pub placed_behind : (last : Content) → content_now b ≡ Some last → (n : ℕ) → n < (bitmap_format f).geometry.blocks
      → given_tags store_behind last n ≡ (placed_cells_of (bitmap_format f).geometry (last_image last) n).tag
  placed_behind last told n low =
      let agrees = is_store_behind.cache.agrees last told in
      tags_in-same (bitmap_format f).geometry identity.sectors geometry (last_image last) (given store_behind last) (whole_b last told) (given-whole store_behind identity b last is_store_behind (whole_b last told))
      (λ s holds. agrees.each s (none.none s)) n low
