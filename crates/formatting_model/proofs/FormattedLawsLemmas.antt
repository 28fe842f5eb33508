-- A new image can be opened, with nothing to replay, or with no bit set or all; its blocks have zeros with their tags,
-- or await them.
use Rattle.std.specs.Prelude.{flat_map, if◌then◌else◌, unwrap_or, slice_index, nat_lt}
use Rattle.std.proofs.Common.{◌≡◌, ◌≢◌, ◌⊎◌, inl, inr, ⊎_elim, ℕ, zero, suc, ◌+◌, ◌*◌, ◌/◌, ◌^◌, ◌<◌, ◌≤◌, Bool, true, false, List, [], ◌∷◌, map, replicate, filter_map, Option, Some, None, is_some, Ok, is_ok, refl, sym, ◌∙◌, ap, subst, arith}
use Rattle.std.specs.List.{AllByRecursion, range_with_len}
use Rattle.std.proofs.Math.Nat.{mul-le-mul_right}
use Rattle.std.proofs.lemmas.Bool.{and_from, lt-ltb, ne_eqb, true≢false}
use Rattle.std.proofs.lemmas.List.{length-replicate}
use Rattle.std.proofs.lemmas.Nat.{div-mul-add, pow_pos}
use Rattle.disk_model.specs.Disk.{Image}
use Rattle.image_model.specs.declared.flags.TheConstants.{DIRTY_BITMAP, FIXED_HMAC, RECALCULATING}
use Rattle.image_model.specs.Bitmap.{awaits, is_dirty, region_awaits}
use Rattle.image_model.specs.Tag.{tag_of}
use Rattle.image_model.specs.declared.journal_plan.Plan.{Plan}
use Rattle.image_model.specs.Cells.{Cell, counted_entries, entry_of, last_entry, placed_cells_of, salt_of, section_bytes, entry_place}
use Rattle.image_model.specs.Geometry.{Geometry, IsGeometry, bitmap_sectors, data_at, geometry_of, initial, region_of, regions, section_entries, section_sectors, tag_at}
use Rattle.image_model.specs.Grid.{walk_of}
use Rattle.image_model.specs.Openable.{IsReplayable, first_sector}
use Rattle.image_model.specs.Section.{Entry, entry_at}
use Rattle.image_model.specs.Sectors.{piece, zero_bytes}
use Rattle.image_model.specs.Superblock.{has_flag, superblock_of}
use Rattle.image_model.specs.Walk.{newest, occurs, plan_at, sections_of}
use Rattle.image_model.proofs.BitmapLemmas.{awaits-bitmap, awaits-journal, region_awaits-block}
use Rattle.image_model.proofs.GeometryLemmas.{data_at-inside, tag_at-inside}
use Rattle.image_model.proofs.GeometryOf.{geometry_apart}
use Rattle.image_model.proofs.CellsLemmas.{counted_entries-bitmap, counted_entries-journal}
use Rattle.image_model.proofs.Regions.{region-begins, region_of-lt}
use Rattle.image_model.proofs.SectorLemmas.{bytes_at-same}
use Rattle.image_model.proofs.TablesLemmas.{newest_law}
use Rattle.image_model.proofs.TagLemmas.{length-tag_of}
use Rattle.image_model.proofs.WalkLemmas.{lacks_from, numbered_from, occurs_at, plan_is}
use Rattle.place_model.specs.Format.{DiskFormat, IsReadAs, OpensAs, cells_on, format_on, placed_on, tagger_of}
use Rattle.place_model.specs.Journal.{HasNothingToReplay, entries_in, numbers_on}
use Rattle.place_model.specs.Kind.{CanOpenIn, CanOpenPlaced}
use Rattle.place_model.proofs.FormatLemmas.{opens_from, read_format_law}
use Rattle.place_model.proofs.JournalLemmas.{replayed_entries-plan, walk-same, walk_of-plan}
use Rattle.place_model.proofs.PlacedLemmas.{cells_of-none, placed_bytes, placed_tag, recalculated-bytes, recalculated-computed, recalculated-tag, same_cell}
use Rattle.place_model.proofs.ReplayLemmas.{placed_opens_law}
use Rattle.device_model.specs.Mode.{Bitmap as InBitmap}
use Rattle.image_model.specs.declared.new_image.ImageMode.{ImageMode}
use Rattle.image_model.specs.declared.new_image.ImageMode.TheVariants.{Journal, Bitmap}
use Rattle.formatting_model.specs.declared.new_image.NewImage.{NewImage}
use Rattle.image_model.specs.declared.new_image.Padding.{Padding}
use Rattle.image_model.specs.declared.new_image.Padding.TheVariants.{Fixed, Legacy}
use Rattle.image_model.specs.declared.new_image.Wipe.{Wipe}
use Rattle.image_model.specs.declared.new_image.Wipe.TheVariants.{Wiped, Kept, Recalculated}
use Rattle.formatting_model.specs.Bits.{HasBits}
use Rattle.formatting_model.specs.Blocks.{HasZeroBlocks, IsBlockOf, zero_tag}
use Rattle.formatting_model.specs.Formatted.{HasBlocks, IsOfImage, format_with, rule_with}
use Rattle.formatting_model.specs.FormattedLaws.{HasBitsFor, IsNewOn, NewAwaitsLaw, NewBitmapLaw, NewCellsLaw, NewKeptLaw, NewOpensLaw, new_format, retagged_cell, zero_cell}
use Rattle.formatting_model.specs.Journal.{HasBitmap, HasEmptyJournal, HasJournalBy, regions_set}
use Rattle.formatting_model.specs.NewImage.{flags_of}
use Rattle.formatting_model.proofs.BitsLemmas.{bits_are, not_below, set_fits}
use Rattle.formatting_model.proofs.JournalLemmas.{sections_some}
use Rattle.formatting_model.proofs.PlanningLemmas.{accepted_fields, flags_by, given_fields, is_recalculated, is_recalculating, no_bitmap, other_flag, with_bitmap}
use Rattle.formatting_model.proofs.RunsLemmas.{sector_in-zeros}

-- ---- an empty journal

module _ (g : Geometry) (sectors : ℕ) (image : Image) (is : IsGeometry g sectors) (empty : HasEmptyJournal g image) where
  at_number : (i j : ℕ) → i < g.sections → j < section_sectors g.shape → numbers_on g image i j ≡ Some 0
  at_number i j low narrow = (empty i low).numbers j narrow

  abbrev has : ℕ → Bool
  has = occurs g.sections (section_sectors g.shape) (numbers_on g image)

  has_zero : has 0 ≡ true
  has_zero =
      let some : 0 < section_sectors g.shape = omega (arith, sections_some g.shape) in
      occurs_at g.sections (section_sectors g.shape) (numbers_on g image) 0 0 0 (omega (arith, is.sections)) some (at_number 0 0 (omega (arith, is.sections)) some)

  has_other : (k : ℕ) → 0 ≢ k → has k ≡ false
  has_other k other = lacks_from g.sections (section_sectors g.shape) (numbers_on g image) k (λ i j low narrow borne. other (same_number (sym (at_number i j low narrow) ∙ borne)))
    where
      same_number : {n m : ℕ} → Some n ≡ Some m → n ≡ m
      same_number e = cc

  newest_is : newest has ≡ Some 0
  newest_is = (newest_law has 0 (omega arith)).one (rw (has_zero, has_other 1 (λ e. omega (arith, e)), has_other 2 (λ e. omega (arith, e)), has_other 3 (λ e. omega (arith, e))) refl)

  abbrev plan : Plan
  plan = plan_at g.sections (section_sectors g.shape) (numbers_on g image) 0

  walk_is : walk_of g image ≡ Ok plan
  walk_is = walk_of-plan g sectors image plan is (plan_is g.sections (section_sectors g.shape) (numbers_on g image) 0
      (numbered_from g.sections (section_sectors g.shape) (numbers_on g image) (λ i j low narrow. ap is_some (at_number i j low narrow))) newest_is)

  -- No entry of a section is used.
  no_entry : (i : ℕ) → i < g.sections → entries_in g image i ≡ []
  unfolding entries_in
  no_entry i low = each (section_entries g.shape) 0 (empty i low).entries.entries_are
    where
      head_tail : (x : Option Entry) (xs ys : List (Option Entry)) → x ∷ xs ≡ None ∷ ys → (x ≡ None) × (xs ≡ ys)
      head_tail x xs ys e = (cc, cc)

      each : (count from : ℕ) → map (entry_at g.shape (section_bytes g image i)) (range_with_len from count) ≡ replicate count None → filter_map (entry_of g image) (map (entry_place i) (range_with_len from count)) ≡ []
      each zero from e = refl
      each (suc count) from e =
          let parts = head_tail (entry_at g.shape (section_bytes g image i) from) (map (entry_at g.shape (section_bytes g image i)) (range_with_len (from + 1) count)) (replicate count None) e in
          rw (parts.0, each count (from + 1) parts.1) refl

  none_of : (xs : List ℕ) → flat_map (λ (i : ℕ). let none : List Entry = [] in none) xs ≡ []
  none_of [] = refl
  none_of (x ∷ xs) = none_of xs

  nothing_to_replay : HasNothingToReplay g image
  nothing_to_replay = record {
    has_walk = ap is_ok walk_is;
    none = replayed_entries-plan g image plan walk_is
        ∙ walk-same g sectors image plan (entries_in g image) (λ (i : ℕ). let none : List Entry = [] in none) is walk_is (λ i low. no_entry i low)
        ∙ none_of (sections_of plan.walk);
  }

-- ---- an image

cases_mode : (mode : ImageMode) → (mode ≡ Journal) ⊎ (mode ≡ Bitmap)
cases_mode Journal = inl refl
cases_mode Bitmap = inr refl

-- The bits of a bitmap, by whether tags are to be recalculated.
bits_for : (wipe : Wipe) (g : Geometry) (image : Image) → ((region : ℕ) → is_dirty g image region ≡ nat_lt region (if is_recalculated wipe then regions g else 0)) → HasBitsFor wipe g image
bits_for Wiped g image h = λ region. h region ∙ not_below region 0 (omega arith)
bits_for Kept g image h = λ region. h region ∙ not_below region 0 (omega arith)
bits_for Recalculated g image h = h

-- A sector behind the journal is not written, where nothing is wiped.
not_written : (wipe : Wipe) (g : Geometry) (sector : ℕ) → wipe ≢ Wiped → initial g ≤ sector → IsOfImage wipe g sector → ⊥
not_written Wiped g sector unwiped from of = unwiped refl
not_written Kept g sector unwiped from of = ⊎_elim (λ low. omega (arith, low, from)) (λ none. none) of
not_written Recalculated g sector unwiped from of = ⊎_elim (λ low. omega (arith, low, from)) (λ none. none) of

module _ (key : Option (List ℕ)) (sectors : ℕ) (new : NewImage) (provided : ℕ) (before image : Image) (h : IsNewOn key sectors new provided before image) where
  abbrev d : DiskFormat
  d = new_format key sectors new provided

  given : geometry_of d.superblock sectors ≡ Ok d.geometry
  given = given_fields new sectors provided h.ranges h.is_provided

  pub is_geometry : IsGeometry d.geometry sectors
  is_geometry = (geometry_apart d.superblock sectors d.geometry (accepted_fields new sectors provided h.ranges h.is_provided d.superblock refl) given).0

  first_is : first_sector sectors image ≡ image 0
  first_is =
      let last = is_geometry.last in
      let some = is_geometry.spb.0 in
      rw (ne_eqb sectors 0 (λ none. omega (arith, last, some, none))) refl

  pub reads : IsReadAs d image × (format_on key sectors image ≡ d)
  reads = read_format_law d image (ap superblock_of first_is ∙ h.formatted.told) given

  -- One for journal mode.
  module _ (journal : new.mode ≡ Journal) where
    pub clear : has_flag DIRTY_BITMAP d.superblock.flags ≡ false
    clear = no_bitmap new journal

    pub nothing : HasNothingToReplay d.geometry image
    nothing = nothing_to_replay d.geometry sectors image is_geometry (subst (λ (bitmap : Bool). HasJournalBy bitmap (regions_set (format_with new provided)) d.geometry image) clear h.formatted.filled.journal)

    pub opens : OpensAs d image
    opens = placed_opens_law d image clear nothing reads.0

    pub opens_placed : CanOpenPlaced key sectors image
    opens_placed = (reads.0.readable, ap (λ (x : DiskFormat). has_flag DIRTY_BITMAP x.superblock.flags) reads.1 ∙ clear)

  -- One for bitmap mode.
  module _ (bitmap : new.mode ≡ Bitmap) where
    pub set : has_flag DIRTY_BITMAP d.superblock.flags ≡ true
    set = with_bitmap new bitmap

    in_place : HasBitmap (regions_set (format_with new provided)) d.geometry image
    in_place = subst (λ (bitmap : Bool). HasJournalBy bitmap (regions_set (format_with new provided)) d.geometry image) set h.formatted.filled.journal

    -- The bits of all regions are set, or none is.
    pub each_bit : (region : ℕ) → is_dirty d.geometry image region ≡ nat_lt region (if is_recalculated new.wipe then regions d.geometry else 0)
    each_bit = bits_are (if is_recalculated new.wipe then regions d.geometry else 0) d.geometry image (set_fits (is_recalculated new.wipe) d.geometry)
        (subst (λ (n : ℕ). HasBits n 8 (bitmap_sectors d.geometry) image) (ap (λ (all : Bool). if all then regions d.geometry else 0) (is_recalculating new)) in_place.bits)

    pub opens_bitmap : OpensAs d image
    opens_bitmap = opens_from d image (record {
      head = h.formatted.told;
      has_geometry = given;
      is_geometry = is_geometry;
      walk = λ none. absurd (true≢false (sym set ∙ none));
      entries = subst (AllByRecursion (IsReplayable d.key (salt_of d.superblock) d.geometry)) (sym (counted_entries-bitmap d.key d.superblock d.geometry image set)) tt;
    })

    pub opens_in_bitmap : CanOpenIn InBitmap key sectors image
    opens_in_bitmap = opens_bitmap.openable

  -- In either no entry counts,
  pub opens_any : OpensAs d image
  opens_any = elim (cases_mode new.mode) [
    | inl journal ↦ opens journal
    | inr bitmap ↦ opens_bitmap bitmap
  ]

  pub no_entries : counted_entries d.superblock d.geometry image ≡ []
  no_entries = elim (cases_mode new.mode) [
    | inl journal ↦ counted_entries-journal d.key d.superblock d.geometry image (clear journal) ∙ (nothing journal).none
    | inr bitmap ↦ counted_entries-bitmap d.key d.superblock d.geometry image (set bitmap)
  ]

  -- and no block awaits, where no tags are to be recalculated.
  pub not_awaiting : is_recalculated new.wipe ≡ false → (b : ℕ) → awaits d.superblock d.geometry image b ≡ false
  not_awaiting none b = elim (cases_mode new.mode) [
    | inl journal ↦
        let unset : has_flag RECALCULATING d.superblock.flags ≡ false = is_recalculating new ∙ none in
        awaits-journal d.superblock d.geometry image b (clear journal) ∙ rw unset refl
    | inr bitmap ↦
        awaits-bitmap d.superblock d.geometry image b (set bitmap) ∙ each_bit bitmap (region_of d.geometry b)
        ∙ ap (λ (all : Bool). nat_lt (region_of d.geometry b) (if all then regions d.geometry else 0)) none ∙ not_below (region_of d.geometry b) 0 (omega arith)
  ]

  -- Where they are each does,
  module _ (all : is_recalculated new.wipe ≡ true) where
    pub each_awaits : (b : ℕ) → b < d.geometry.blocks → awaits d.superblock d.geometry image b ≡ true
    each_awaits b low = elim (cases_mode new.mode) [
      | inl journal ↦
          let row : 1 * d.geometry.shape.spb ≤ (b + 1) * d.geometry.shape.spb = mul-le-mul_right d.geometry.shape.spb (omega arith) in
          let some = is_geometry.spb.0 in
          awaits-journal d.superblock d.geometry image b (clear journal)
          ∙ and_from (has_flag RECALCULATING d.superblock.flags) (nat_lt 0 ((b + 1) * d.geometry.shape.spb)) (is_recalculating new ∙ all) (lt-ltb 0 ((b + 1) * d.geometry.shape.spb) (omega (arith, row, some)))
      | inr bitmap ↦
          awaits-bitmap d.superblock d.geometry image b (set bitmap) ∙ each_bit bitmap (region_of d.geometry b)
          ∙ ap (λ (x : Bool). nat_lt (region_of d.geometry b) (if x then regions d.geometry else 0)) all
          ∙ lt-ltb (region_of d.geometry b) (regions d.geometry) (region_of-lt d.geometry b low)
    ]

    -- and each region, by its first block.
    pub each_region_awaits : (region : ℕ) → region < regions d.geometry → region_awaits d.superblock d.geometry image region ≡ true
    each_region_awaits region low =
        let first = region * 2 ^ d.geometry.log2_region in
        let inside : first < d.geometry.blocks = region-begins d.geometry region low in
        let same : region_of d.geometry first ≡ region =
        ap (λ (n : ℕ). n / 2 ^ d.geometry.log2_region) (let e : first ≡ first + 0 = omega arith in e) ∙ div-mul-add region (2 ^ d.geometry.log2_region) 0 (pow_pos d.geometry.log2_region) in
        ap (region_awaits d.superblock d.geometry image) (sym same)
        ∙ region_awaits-block d.superblock d.geometry image first inside (each_awaits first inside)

  -- Sectors of data and tags are as they were, where nothing is wiped,
  sector_kept : new.wipe ≢ Wiped → (sector : ℕ) → initial d.geometry ≤ sector → image sector ≡ before sector
  sector_kept unwiped sector from = h.formatted.others sector (not_written new.wipe d.geometry sector unwiped from)

  -- and so are the blocks that are in place.
  pub placed_kept : new.wipe ≢ Wiped → (b : ℕ) → b < d.geometry.blocks → placed_cells_of d.geometry image b ≡ placed_cells_of d.geometry before b
  unfolding placed_cells_of
  placed_kept unwiped b low =
      let g = d.geometry in
      let bytes_from = (data_at-inside g sectors b is_geometry low).0 in
      let tag_from = (tag_at-inside g sectors b is_geometry low).0 in
      same_cell (placed_cells_of g image b) (placed_cells_of g before b)
      (bytes_at-same image before (data_at g b) g.shape.spb (λ s from to. sector_kept unwiped s (omega (arith, from, bytes_from))))
      (ap (λ (xs : List ℕ). piece xs (tag_at g b).byte g.shape.tag_size) (bytes_at-same image before (tag_at g b).sector 2 (λ s from to. sector_kept unwiped s (omega (arith, from, tag_from)))))

-- ---- the cells

salt_is : (padding : Padding) (salt : Option (List ℕ)) (mode : ImageMode) (none : List ℕ)
    → (if has_flag FIXED_HMAC (flags_by padding salt mode) then Some (unwrap_or salt none) else None) ≡ salt
salt_is Fixed None Journal none = refl
salt_is Fixed None Bitmap none = refl
salt_is Fixed (Some salt) Journal none = refl
salt_is Fixed (Some salt) Bitmap none = refl
salt_is Legacy None Journal none = refl
salt_is Legacy None Bitmap none = refl
salt_is Legacy (Some salt) Journal none = refl
salt_is Legacy (Some salt) Bitmap none = refl

new_salt : (new : NewImage) (none : List ℕ) → (if has_flag FIXED_HMAC (flags_of new) then Some (unwrap_or new.salt none) else None) ≡ new.salt
new_salt new none =
    ap (λ (salted : Bool). if salted then Some (unwrap_or new.salt none) else None) (other_flag FIXED_HMAC (flags_by new.padding new.salt new.mode) refl refl new.wipe)
    ∙ salt_is new.padding new.salt new.mode none

module _ (key : Option (List ℕ)) (sectors : ℕ) (new : NewImage) (provided : ℕ) (before image : Image) (h : IsNewOn key sectors new provided before image) (wiped : new.wipe ≡ Wiped)
    (b : ℕ) (low : b < (new_format key sectors new provided).geometry.blocks) where
  abbrev of : DiskFormat
  of = new_format key sectors new provided

  zeros : HasZeroBlocks (rule_with key new) of.geometry 0 of.geometry.blocks image
  zeros = subst (λ (w : Wipe). HasBlocks w (rule_with key new) of.geometry image) wiped h.formatted.filled.blocks

  block : IsBlockOf 0 of.geometry.blocks b
  block = record { begins = omega arith; ends = omega (arith, low) }

  zero_tag_is : zero_tag (rule_with key new) of.geometry.shape.spb b ≡ (zero_cell of b).tag
  zero_tag_is = ap (λ (salt : Option (List ℕ)). tag_of key salt new.tag_size (b * of.geometry.shape.spb) (zero_bytes (512 * of.geometry.shape.spb))) (sym (new_salt new (zero_bytes 16)))

  geometry_is : IsGeometry of.geometry sectors
  geometry_is = is_geometry key sectors new provided before image h

  placed_is : placed_cells_of of.geometry image b ≡ zero_cell of b
  placed_is = same_cell (placed_cells_of of.geometry image b) (zero_cell of b)
      (placed_bytes of.geometry sectors geometry_is image h.whole b low (zero_cell of b) (length-replicate {A = ℕ} (512 * of.geometry.shape.spb) 0)
      (λ k inside. zeros.zeros b k block inside ∙ sym (sector_in-zeros of.geometry.shape.spb k inside)))
      (placed_tag of.geometry sectors geometry_is image h.whole b low (zero_cell of b) (length-tag_of _ _ of.geometry.shape.tag_size _ _ geometry_is.tag_size.1)
      (λ i inside. zeros.tags b i block inside ∙ ap (λ (xs : List ℕ). slice_index xs i) zero_tag_is))

  recalculated_is : placed_on of image b ≡ zero_cell of b
  recalculated_is = same_cell (placed_on of image b) (zero_cell of b)
      (recalculated-bytes key of.superblock of.geometry image b ∙ ap (λ (c : Cell). c.bytes) placed_is)
      (recalculated-tag key of.superblock of.geometry image b (not_awaiting key sectors new provided before image h (ap is_recalculated wiped) b) ∙ ap (λ (c : Cell). c.tag) placed_is)

  cell_is : cells_on of image b ≡ zero_cell of b
  cell_is = cells_of-none key of.superblock of.geometry image b (ap (λ (entries : List Entry). last_entry of.geometry entries b) (no_entries key sectors new provided before image h)) ∙ recalculated_is

-- ---- for callers

pub new_opens_law : NewOpensLaw
new_opens_law key sectors new provided before image h journal = (
  opens key sectors new provided before image h journal,
  opens_placed key sectors new provided before image h journal,
  nothing key sectors new provided before image h journal,
)

pub new_bitmap_law : NewBitmapLaw
new_bitmap_law key sectors new provided before image h bitmap = (
  opens_bitmap key sectors new provided before image h bitmap,
  opens_in_bitmap key sectors new provided before image h bitmap,
  bits_for new.wipe (new_format key sectors new provided).geometry image (each_bit key sectors new provided before image h bitmap),
)

pub new_cells_law : NewCellsLaw
new_cells_law key sectors new provided before image h wiped = (
  record {
    opens = opens_any key sectors new provided before image h;
    each = λ b low. cell_is key sectors new provided before image h wiped b low;
  },
  record {
    reads = (reads key sectors new provided before image h).0;
    each = λ b low. recalculated_is key sectors new provided before image h wiped b low;
  },
)

pub new_kept_law : NewKeptLaw
new_kept_law key sectors new provided before image h unwiped b low = placed_kept key sectors new provided before image h unwiped b low

unwiped_by : (wipe : Wipe) → wipe ≡ Recalculated → wipe ≢ Wiped
unwiped_by Wiped e = λ _. let none : Wiped ≡ Recalculated = e in cc
unwiped_by Kept e = λ none. cc
unwiped_by Recalculated e = λ none. cc

pub new_awaits_law : NewAwaitsLaw
new_awaits_law key sectors new provided before image h again =
    let d = new_format key sectors new provided in
    let all = ap is_recalculated again in (
      each_awaits key sectors new provided before image h all,
      each_region_awaits key sectors new provided before image h all,
      record {
        opens = opens_any key sectors new provided before image h;
        each = λ b low.
            let kept : (placed_cells_of d.geometry image b).bytes ≡ (placed_cells_of d.geometry before b).bytes =
            ap (λ (c : Cell). c.bytes) (placed_kept key sectors new provided before image h (unwiped_by new.wipe again) b low) in
            cells_of-none key d.superblock d.geometry image b (ap (λ (entries : List Entry). last_entry d.geometry entries b) (no_entries key sectors new provided before image h))
            ∙ same_cell (placed_on d image b) (retagged_cell d before b)
            (recalculated-bytes key d.superblock d.geometry image b ∙ kept)
            (recalculated-computed key d.superblock d.geometry image b (each_awaits key sectors new provided before image h all b low) ∙ ap (tagger_of d b) kept);
      },
    )
