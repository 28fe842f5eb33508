-- By which image and geometry a device is judged that an opening left, also where that changed the mode, and which tags it
-- has then.
use Rattle.std.proofs.Common.{◌≡◌, inl, inr, ℕ, ◌<◌, Bool, true, false, not, if◌then◌else◌, List, [], arith, refl, sym, ◌∙◌, ap, subst, Option, Some}
use Rattle.std.proofs.lemmas.Bool.{cases_Bool, ne_eqb, true≢false}
use Rattle.std.specs.Int.{bit_not, w32}
use Rattle.disk_model.specs.Disk.{Content, IsImage, Image, OnlyAdds, last_image}
use Rattle.disk_model.specs.Moments.{content_now}
use Rattle.disk_model.proofs.DiskLemmas.{OnlyAdds-wider}
use Rattle.device_model.specs.Cut.{all_writes}
use Rattle.device_model.specs.History.{Change}
use Rattle.device_model.specs.Mode.{Mode, Bitmap, Direct, Journal, Recovery}
use Rattle.run_model.specs.ScriptRun.{ScriptRun}
use Rattle.image_model.specs.declared.flags.TheConstants.{DIRTY_BITMAP, RECALCULATING}
use Rattle.image_model.specs.Bitmap.{is_dirty}
use Rattle.image_model.specs.Cells.{Cell, placed_cells_of}
use Rattle.image_model.specs.Geometry.{Geometry, region_of, regions}
use Rattle.image_model.specs.Openable.{IsReadable}
use Rattle.image_model.specs.Superblock.{Superblock, has_flag}
use Rattle.image_model.proofs.Regions.{region_of-lt}
use Rattle.place_model.specs.Changed.{bitmap_fields, bitmap_format, changed_device, changed_format, changes_mode, journal_fields, journal_format, opened_format, opened_in, recalculated_fields}
use Rattle.place_model.proofs.KindLemmas.{judged_image-changed, judged_image-same, opened_format-changed, opened_format-same}
use Rattle.change_model.proofs.FieldsLemmas.{has_flag-gone, has_flag-kept}
use Rattle.place_model.specs.Format.{DiskFormat, IsReadAs, format_on}
use Rattle.place_model.specs.Kind.{kind_in}
use Rattle.place_model.specs.Opened.{opened_on}
use Rattle.place_model.proofs.FormatLemmas.{format_on-read}
use Rattle.bitmap_model.proofs.BitLemmas.{is_dirty-sector}
use Rattle.bitmap_model.proofs.CutOfLemmas.{cells_of-clean}
use Rattle.bitmap_device.specs.declared.parts.BitmapParts.{BitmapParts}
use Rattle.bitmap_device.specs.Device.{IsBitmapped, kept as bitmap_kept}
use Rattle.change_model.specs.OpeningWrites.{IsOfBitmapOpening, IsOfDirectOpening, IsOfJournalOpening}
use Rattle.device_parts.specs.declared.condition.Condition.TheVariants.{Working}
use Rattle.device_parts.specs.declared.parts.Parts.{Parts}
use Rattle.device_parts.specs.Device.{IsOfSameBlocks, Standing, opened_standing}
use Rattle.place_model.specs.Awaiting.{HasNoMore, fields_of}
use Rattle.device.specs.declared.mode.DeviceParts.{DeviceParts}
use Rattle.device.specs.declared.mode.Mode as Parts_
use Rattle.device.specs.declared.mode.Mode.TheVariants as InMode
use Rattle.device.specs.Device.{IsDevice, IsDeviceIn, kind_by, kind_of, mode_of}
use Rattle.place_model.specs.KeptTags.{KeepsTagsOf}
use Rattle.place_model.specs.RunWrites.{IsMovedHead, IsOfRun}
use Rattle.device.proofs.AwaitingLemmas.{fields_read}
use Rattle.command_model.specs.Opening.{HasAllTags, HasMadeTags, HasTagsBy, IsOfOpeningIn, KeepsClearTags, opened_geometry}
use Rattle.command_model.specs.Outset.{geometry_on}
use Rattle.command_task.proofs.HeadLemmas.{no_more_opened}

-- The fields of the format of an image that can be read are those of its first sector.
pub fields_on : (key : Option (List ℕ)) (sectors : ℕ) (image : Image) → IsReadable sectors image
    → (format_on key sectors image).superblock ≡ fields_of image
fields_on key sectors image readable =
    let d : DiskFormat = record { key = key; sectors = sectors; superblock = readable.superblock; geometry = readable.geometry } in
    let reads : IsReadAs d image = record { readable = readable; superblock = refl; geometry = refl } in
    ap (λ (f : DiskFormat). f.superblock) (format_on-read d image reads) ∙ sym (fields_read d image reads)

-- The same on a disk that has a sector.
pub fields_at : (key : Option (List ℕ)) (sectors : ℕ) (image : Image) → 0 < sectors → (format_on key sectors image).superblock ≡ fields_of image
fields_at key sectors image some = rw (ne_eqb sectors 0 (λ e. omega (arith, some, e))) refl

-- ---- by whether the mode is changed

changed_key : (mode : Mode) (d : DiskFormat) → (changed_format mode d).key ≡ d.key
changed_key Journal d = refl
changed_key Bitmap d = refl
changed_key Direct d = refl
changed_key Recovery d = refl

changed_sectors : (mode : Mode) (d : DiskFormat) → (changed_format mode d).sectors ≡ d.sectors
changed_sectors Journal d = refl
changed_sectors Bitmap d = refl
changed_sectors Direct d = refl
changed_sectors Recovery d = refl

by_key : (t : Bool) (mode : Mode) (d : DiskFormat) → (if t then changed_format mode d else d).key ≡ d.key
by_key true mode d = changed_key mode d
by_key false mode d = refl

by_sectors : (t : Bool) (mode : Mode) (d : DiskFormat) → (if t then changed_format mode d else d).sectors ≡ d.sectors
by_sectors true mode d = changed_sectors mode d
by_sectors false mode d = refl

by_geometry : (t : Bool) (d : DiskFormat) → (if t then bitmap_format d else d).geometry
    ≡ (if t then record d.geometry { log2_region = (bitmap_fields d.superblock).log2_region } else d.geometry)
by_geometry true d = refl
by_geometry false d = refl

same_geometry : (t : Bool) (d : DiskFormat) → (if t then journal_format d else d).geometry ≡ d.geometry
same_geometry true d = refl
same_geometry false d = refl

by_writes : (t : Bool) (mode : Mode) (d : DiskFormat) (image : Image)
    → all_writes (if t then changed_device d image else opened_on mode d image).history ≡ []
by_writes true mode d image = refl
by_writes false mode d image = refl

by_bits : (t : Bool) (mode : Mode) (d : DiskFormat) (image : Image) → t ≡ true
    → (region : ℕ) → (if t then changed_device d image else opened_on mode d image).progress.regions.set_bits region ≡ false
by_bits true mode d image is region = refl
by_bits false mode d image is region = absurd (true≢false (sym is))

-- No write is pending where a device has just been opened, and none was made.
pub opened_writes : (mode : Mode) (d : DiskFormat) (image : Image) → all_writes (opened_in mode d image).history ≡ []
opened_writes mode d image = by_writes (changes_mode mode d.superblock) mode d image

-- The kind of device that has been opened is that of its mode.
pub kind_opened : (mode : Mode) (key : Option (List ℕ)) (sectors : ℕ) (start made : Image)
    → kind_of (opened_standing mode key sectors start made) ≡ kind_by mode key sectors
kind_opened mode key sectors start made =
    let d = format_on key sectors start in
    ap (λ (k : Option (List ℕ)). kind_by mode k (opened_format mode d).sectors) (by_key (changes_mode mode d.superblock) mode d)
    ∙ ap (kind_by mode key) (by_sectors (changes_mode mode d.superblock) mode d)

-- Where all tags are in place nothing is to be recalculated,
recalculated_flag : (s : Superblock) → has_flag RECALCULATING (recalculated_fields s).flags ≡ false
recalculated_flag s = elim (cases_Bool (has_flag RECALCULATING s.flags)) [
  | inl set ↦ rw set (has_flag-gone RECALCULATING (bit_not w32 RECALCULATING) s.flags refl)
  | inr clear ↦ rw clear clear
]

-- and so it is after a change to a journal.
unmarked_flag : (s : Superblock) → has_flag RECALCULATING (journal_fields s).flags ≡ false
unmarked_flag s = has_flag-kept RECALCULATING (bit_not w32 DIRTY_BITMAP) (recalculated_fields s).flags refl ∙ recalculated_flag s

-- ---- a device on a bitmap of which no bit is set

-- In the image by which the device is judged no bit of a block's region is set, and the block's tag is that of its cell.
pub record HasCellTags (w : Standing) (g : Geometry) : Type 0 where
  pub clear : (b : ℕ) → b < g.blocks → is_dirty g w.entry (region_of g b) ≡ false
  pub tag : (b : ℕ) → b < g.blocks → (placed_cells_of g w.entry b).tag ≡ (w.state.history.base b).tag

cell_tags : (w : Standing) (device : BitmapParts) (moments : List Content) (c : Content) → content_now moments ≡ Some c
    → IsImage c (last_image c) → w.entry ≡ last_image c → ((region : ℕ) → w.state.progress.regions.set_bits region ≡ false)
    → IsBitmapped w Working device moments → HasCellTags w w.on.geometry
cell_tags w device moments c told reads entry none is =
    let d = is.disk in
    let disk = (is.over.stands refl).now c told in
    let formed = disk.cells.stands.formed in
    let clear : (b : ℕ) → b < d.geometry.blocks → is_dirty d.geometry w.entry (region_of d.geometry b) ≡ false = λ b low.
    let region = region_of d.geometry b in
    let inside : region < regions d.geometry = region_of-lt d.geometry b low in
    ap (λ (image : Image). is_dirty d.geometry image region) entry
    ∙ is_dirty-sector d (last_image c) region formed
    (λ sector within. (disk.cells.stands.each sector (last_image c sector) (reads sector)).whole within) inside
    ∙ disk.cells.bits_are.each region inside
    ∙ sym ((is.over.device.regions is.over.condition_).set_bits region inside)
    ∙ none region in
    let own : HasCellTags w d.geometry = record {
      clear = clear;
      tag = λ b low.
          ap (λ (cell : Cell). cell.tag)
          (sym (cells_of-clean d.key d.superblock d.geometry w.entry formed.has_bitmap b (clear b low)) ∙ sym (is.over.base b low));
    } in
    subst (λ (f : DiskFormat). HasCellTags w f.geometry) is.format own

-- The device over its parts in bitmap mode.
in_bitmap_mode : (mode : Parts_.Mode) (common : Parts) (w : Standing) (moments : List Content) → mode_of mode ≡ Bitmap
    → IsDeviceIn mode w Working common moments → (device : BitmapParts) × IsBitmapped w Working device moments
in_bitmap_mode (InMode.Direct recalculation) common w moments is device = absurd (cc)
in_bitmap_mode (InMode.Journal state) common w moments is device = absurd (cc)
in_bitmap_mode (InMode.Bitmap regions) common w moments is device = (bitmap_kept common regions, device)
in_bitmap_mode InMode.Recovery common w moments is device = absurd (cc)

-- ---- by the fields of the first sector

module _ (key : Option (List ℕ)) (sectors : ℕ) (start : Content)
    (is : (format_on key sectors (last_image start)).superblock ≡ fields_of (last_image start)) where
  abbrev g : Geometry
  g = geometry_on sectors (last_image start)

  abbrev w : Mode → Content → Standing
  w mode made = opened_standing mode key sectors (last_image start) (last_image made)

  abbrev changes_it : Mode → Bool
  changes_it mode = changes_mode mode (fields_of (last_image start))

  -- The device has these regions,
  pub opened_geometry-is : (mode : Mode) (made : Content) → (w mode made).on.geometry ≡ opened_geometry mode (fields_of (last_image start)) g
  opened_geometry-is Bitmap made =
      by_geometry (changes_mode Bitmap (format_on key sectors (last_image start)).superblock) (format_on key sectors (last_image start))
      ∙ ap (λ (s : Superblock). opened_geometry Bitmap s g) is
  opened_geometry-is Journal made = same_geometry (changes_mode Journal (format_on key sectors (last_image start)).superblock) (format_on key sectors (last_image start))
  opened_geometry-is Direct made = same_geometry (changes_mode Direct (format_on key sectors (last_image start)).superblock) (format_on key sectors (last_image start))
  opened_geometry-is Recovery made = refl

  -- and this is written.
  pub bitmap_opening : (c : Content)
      → (let d = format_on key sectors (last_image start) in IsOfBitmapOpening d.superblock d.geometry start c)
      → IsOfOpeningIn Bitmap g start c
  bitmap_opening c of = subst (λ (s : Superblock). IsOfBitmapOpening s g start c) is of

  pub journal_opening : (c : Content)
      → (let d = format_on key sectors (last_image start) in IsOfJournalOpening d.superblock d.geometry start c)
      → IsOfOpeningIn Journal g start c
  journal_opening c of = subst (λ (s : Superblock). IsOfJournalOpening s g start c) is of

  pub direct_opening : (c : Content)
      → (let d = format_on key sectors (last_image start) in IsOfDirectOpening d.superblock d.geometry start c)
      → IsOfOpeningIn Direct g start c
  direct_opening c of = subst (λ (s : Superblock). IsOfDirectOpening s g start c) is of

  module _ (some : 0 < sectors) (mode : Mode) (made : Content) (same : IsOfSameBlocks mode key sectors (last_image start) (last_image made)) where
    -- The fields of the image by which the device is judged are those of its format.
    entry_fields : fields_of (w mode made).entry ≡ (w mode made).on.superblock
    entry_fields = sym (fields_at key sectors (w mode made).entry some) ∙ ap (λ (d : DiskFormat). d.superblock) same.format

    -- Where the mode is changed to a journal they say of no block that it is to be recalculated.
    entry_clear : changed_format mode (format_on key sectors (last_image start)) ≡ journal_format (format_on key sectors (last_image start)) → changes_it mode ≡ true
        → has_flag RECALCULATING (fields_of (w mode made).entry).flags ≡ false
    entry_clear to changed =
        let d = format_on key sectors (last_image start) in
        ap (λ (s : Superblock). has_flag RECALCULATING s.flags) entry_fields
        ∙ ap (λ (x : DiskFormat). has_flag RECALCULATING x.superblock.flags) (opened_format-changed mode d (ap (changes_mode mode) is ∙ changed) ∙ to)
        ∙ unmarked_flag d.superblock

    -- Where it is not, that image is the one at the start.
    entry_same : changes_it mode ≡ false → (w mode made).entry ≡ last_image start
    entry_same none = judged_image-same mode (format_on key sectors (last_image start)) (ap (changes_mode mode) is ∙ none) (last_image start) (last_image made)

    moved_head : changed_format mode (format_on key sectors (last_image start)) ≡ journal_format (format_on key sectors (last_image start)) → (sector : ℕ) → IsMovedHead (w mode made).entry sector → IsMovedHead (last_image start) sector
    moved_head to sector moved = elim (cases_Bool (changes_it mode)) [
      | inl changed ↦ absurd (true≢false (sym moved.flag ∙ entry_clear to changed))
      | inr none ↦ subst (λ (x : Image). IsMovedHead x sector) (entry_same none) moved
    ]

    -- Where the mode is not changed, the tags are those of the image at the start.
    pub tags_found : (Concerns : ℕ → Type 0) (c : Content) → changes_it mode ≡ false → KeepsTagsOf mode Concerns (w mode made).on.geometry (w mode made).entry c
        → KeepsTagsOf mode Concerns g (last_image start) c
    tags_found Concerns c none keeps =
        let d = format_on key sectors (last_image start) in
        subst (λ (x : Image). KeepsTagsOf mode Concerns g x c) (entry_same none)
        (subst (λ (f : DiskFormat). KeepsTagsOf mode Concerns f.geometry (w mode made).entry c) (opened_format-same mode d (ap (changes_mode mode) is ∙ none)) keeps)

    -- No image has the flag of tags that are to be recalculated, where the one by which the device is judged has it not.
    all_tags : (y : Geometry) (c : Content) → changed_format mode (format_on key sectors (last_image start)) ≡ journal_format (format_on key sectors (last_image start)) → changes_it mode ≡ true
        → HasNoMore y (w mode made).entry c → HasAllTags c
    all_tags y c to changed keeps image of = elim (cases_Bool (has_flag RECALCULATING (fields_of image).flags)) [
      | inl set ↦ absurd (true≢false (sym ((keeps image of).flag set) ∙ entry_clear to changed))
      | inr clear ↦ clear
    ]

  -- What is written behind the opening, by the image at the start.
  entry_writes : (some : 0 < sectors) (mode : Mode) (made : Content) → IsOfSameBlocks mode key sectors (last_image start) (last_image made) → (y : Geometry) (changes : List Change)
      (sector : ℕ) (x : List ℕ) → IsOfRun mode y (w mode made).entry changes sector x → IsOfRun mode y (last_image start) changes sector x
  entry_writes some Bitmap made same y changes sector x of = of
  entry_writes some Recovery made same y changes sector x of = of
  entry_writes some Journal made same y changes sector x (inl head) = inl (moved_head some Journal made same refl sector head)
  entry_writes some Journal made same y changes sector x (inr other) = inr other
  entry_writes some Direct made same y changes sector x (inl head) = inl (moved_head some Direct made same refl sector head)
  entry_writes some Direct made same y changes sector x (inr other) = inr other

  pub written_behind : (some : 0 < sectors) (mode : Mode) (made : Content) → IsOfSameBlocks mode key sectors (last_image start) (last_image made) → (changes : List Change) (c : Content)
      → OnlyAdds (IsOfRun mode (w mode made).on.geometry (w mode made).entry changes) made c
      → OnlyAdds (IsOfRun mode (opened_geometry mode (fields_of (last_image start)) g) (last_image start) changes) made c
  written_behind some mode made same changes c adds =
      subst (λ (y : Geometry). OnlyAdds (IsOfRun mode y (last_image start) changes) made c) (opened_geometry-is mode made)
      (OnlyAdds-wider (IsOfRun mode (w mode made).on.geometry (w mode made).entry changes)
      (IsOfRun mode (w mode made).on.geometry (last_image start) changes)
      (entry_writes some mode made same (w mode made).on.geometry changes) made c adds)

  -- And where the mode is changed all tags were made.
  pub tags_made : (some : 0 < sectors) (mode : Mode) (made : Content) → IsOfSameBlocks mode key sectors (last_image start) (last_image made)
      → (parts : DeviceParts) (moments : List Content) → content_now moments ≡ Some made
      → IsImage made (last_image made) → mode_of parts.mode ≡ mode → IsDevice (w mode made) Working parts moments
      → changes_it mode ≡ true → (Concerns : ℕ → Type 0) (c : Content)
      → KeepsTagsOf mode Concerns (w mode made).on.geometry (w mode made).entry c
      → HasMadeTags mode Concerns (opened_geometry mode (fields_of (last_image start)) g) (w mode made).state.history.base c
  tags_made some Journal made same parts moments told reads asked device changed Concerns c keeps = all_tags some Journal made same (w Journal made).on.geometry c refl changed keeps
  tags_made some Direct made same parts moments told reads asked device changed Concerns c keeps = all_tags some Direct made same (w Direct made).on.geometry c refl changed keeps
  tags_made some Recovery made same parts moments told reads asked device changed Concerns c keeps = absurd (true≢false (sym changed))
  tags_made some Bitmap made same parts moments told reads asked device changed Concerns c keeps =
      let d = format_on key sectors (last_image start) in
      let on_makes = ap (changes_mode Bitmap) is ∙ changed in
      let bitmapped = in_bitmap_mode parts.mode parts.common (w Bitmap made) moments asked device in
      let has = cell_tags (w Bitmap made) bitmapped.0 moments made told reads
      (judged_image-changed Bitmap d on_makes (last_image start) (last_image made))
      (by_bits (changes_mode Bitmap d.superblock) Bitmap d (last_image start) on_makes) bitmapped.1 in
      subst (λ (y : Geometry). HasTagsBy Concerns y (w Bitmap made).state.history.base c) (opened_geometry-is Bitmap made)
      (λ image of b low concerns. (keeps image of).each b low (has.clear b low) concerns ∙ has.tag b low)

-- ---- which tags stand behind an opening

module _ (key : Option (List ℕ)) (sectors : ℕ) (g : Geometry) (run : ScriptRun) (start opened : Content) where
  -- All tags stand, or the mode is being changed; and no other opening writes the first sector.
  pub tags_opened : (mode : Mode) → IsOfOpeningIn mode g start opened
      → KeepsClearTags (kind_in mode key sectors) (last_image start) g run start opened opened
  tags_opened Bitmap of = elim (cases_Bool (has_flag DIRTY_BITMAP (fields_of (last_image start)).flags)) [
    | inl set ↦ inl (inr (of.found set))
    | inr clear ↦ inr (inl (ap not clear, refl))
  ]
  tags_opened Journal of = elim (cases_Bool (has_flag DIRTY_BITMAP (fields_of (last_image start)).flags)) [
    | inl set ↦ inr (inl (set, refl))
    | inr clear ↦ inr (inr (record { found = λ none. no_more_opened g start opened (of.found clear); made = λ changed. absurd (true≢false (sym changed ∙ clear)) }))
  ]
  tags_opened Direct of = elim (cases_Bool (has_flag DIRTY_BITMAP (fields_of (last_image start)).flags)) [
    | inl set ↦ inr (inl (set, refl))
    | inr clear ↦ inr (inr (record { found = λ none. no_more_opened g start opened (of.opening.found clear); made = λ changed. absurd (true≢false (sym changed ∙ clear)) }))
  ]
  tags_opened Recovery of = inr (inr (record { found = λ none. tt; made = λ changed. absurd (true≢false (sym changed)) }))
