-- The whole change: what each moment of it is, and what it leaves.
use Rattle.std.proofs.Common.{◌≡◌, ◌⊎◌, inl, inr, ⊎_elim, ℕ, ◌*◌, ◌<◌, refl, sym, ◌∙◌, ap, subst, Option, Some, List, length}
use Rattle.std.specs.List.{Contains}
use Rattle.std.specs.Option.{option_map}
use Rattle.std.proofs.lemmas.Option.{same_Some}
use Rattle.disk_model.specs.Disk.{Content, EachImage, Image, IsImage, OnlyAdds, last_image, newest_only, with_run}
use Rattle.disk_model.specs.Moments.{EachSince, content_now}
use Rattle.disk_model.proofs.DiskLemmas.{OnlyAdds-join, OnlyAdds-none, OnlyAdds-wider, newest_only-adds, newest_only-last}
use Rattle.disk_model.proofs.MomentsLemmas.{EachMoment-join, EachMoment-weaker, FromStart-weaker}
use Rattle.image_model.specs.Geometry.{Geometry, bitmap_sectors}
use Rattle.image_model.specs.Sectors.{zero_bytes}
use Rattle.image_model.specs.Superblock.{Superblock}
use Rattle.image_format.specs.declared.reading.ImageFormat.{ImageFormat}
use Rattle.image_format.specs.Format.{IsDirectFormat, disk_format}
use Rattle.place_model.specs.Format.{DiskFormat, HasCells, cells_on}
use Rattle.journal_model.specs.JournaledDisk.{JournaledDisk}
use Rattle.change_model.specs.Change.{IsOfHead, IsOfZeros, ModeChange, ReadsZeros, new_bitmap}
use Rattle.change_model.specs.Ends.{ArePlacedTags, format_after}
use Rattle.change_model.specs.Fields.{bitmap_fields, with_head}
use Rattle.change_model.specs.Opened.{IsEmptiedOf, bitmap_change}
use Rattle.change_model.specs.Whole.{IsStep, Marking, WritesHead, ZeroesSectors, Zeroing}
use Rattle.change_model.proofs.FieldsLemmas.{head_bytes_law}
use Rattle.change_model.proofs.OpenedLemmas.{opens_bitmap_done, opens_bitmap_moments, some_sector}
use Rattle.mode_change.specs.ToBitmap.{BecomesBitmap, IsAmidBitmap, IsChangeOf, IsOfBitmap, KeepsEmptied, MarksFormat, OpensBitmap, StepsToBitmap, bitmap_count, bitmap_format, with_bitmap, with_zeros}
use Rattle.mode_change.proofs.StepLemmas.{head_step, zeros_added, zeros_head, zeros_step, zeros_under}

-- ---- each moment

-- The sector 0 that is written.
abbrev pub head_after : ImageFormat → Content → List ℕ
head_after f start = with_head (bitmap_fields f.fields) (last_image start 0)

-- What the zeros leave.
abbrev zeroed : ImageFormat → Content → Content
zeroed f start = with_zeros (bitmap_count f) (newest_only start)

-- Zeros are being written, or sector 0 is.
abbrev pub IsAmid : ImageFormat → (start c : Content) → Type 0
IsAmid f start c = OnlyAdds (IsOfZeros f.geometry (bitmap_count f)) (newest_only start) c ⊎ OnlyAdds (IsOfHead (head_after f start)) (zeroed f start) c

-- The content after a call that changed it.
changed : (change : Content → Content) (old new : Option Content) (c d : Content) → new ≡ option_map change old → old ≡ Some c → new ≡ Some d → d ≡ change c
changed change old new c d e told_c told_d = same_Some d (change c) (sym told_d ∙ e ∙ ap (option_map change) told_c)

module _ (f : ImageFormat) where
  -- The first sync,
  pub amid_synced : {a b : List Content} → EachSince (λ start c. c ≡ newest_only start) a b → EachSince (IsAmid f) a b
  amid_synced {a} moments = EachMoment-weaker (FromStart-weaker a (λ start c. c ≡ newest_only start) (IsAmid f) (λ start c told is.
      inl (subst (λ (x : Content). OnlyAdds (IsOfZeros f.geometry (bitmap_count f)) (newest_only start) x) (sym is) (OnlyAdds-none (IsOfZeros f.geometry (bitmap_count f)) (newest_only start))))) moments

  -- the zeros behind it,
  pub amid_zeroed : {a b d : List Content} → EachSince (IsAmid f) a b → content_now b ≡ option_map newest_only (content_now a)
      → EachSince (OnlyAdds (IsOfZeros (bitmap_format f).geometry (bitmap_count f))) b d → EachSince (IsAmid f) a d
  amid_zeroed {a} {b} so_far synced adds = EachMoment-join (IsAmid f) (OnlyAdds (IsOfZeros (bitmap_format f).geometry (bitmap_count f))) so_far adds
      (λ start middle later told told_middle before added.
      inl (subst (λ (x : Content). OnlyAdds (IsOfZeros f.geometry (bitmap_count f)) x later) (changed newest_only (content_now a) (content_now b) start middle synced told told_middle)
      (OnlyAdds-wider (IsOfZeros (bitmap_format f).geometry (bitmap_count f)) (IsOfZeros f.geometry (bitmap_count f)) (zeros_under f.geometry (bitmap_fields f.fields).log2_region (bitmap_count f)) middle later added)))

  -- and sector 0 behind these.
  pub amid_marked : {a d e : List Content} (b : List Content) → EachSince (IsAmid f) a d → content_now b ≡ option_map newest_only (content_now a) → content_now d ≡ option_map (with_zeros (bitmap_count f)) (content_now b)
      → EachSince (λ start. OnlyAdds (IsOfHead (head_after f start)) start) d e → EachSince (IsAmid f) a e
  amid_marked {a} {d} b so_far synced zeros adds = EachMoment-join (IsAmid f) (λ start. OnlyAdds (IsOfHead (head_after f start)) start) so_far adds
      (λ start middle later told told_middle before added.
      let there = changed (with_zeros (bitmap_count f)) (content_now b) (content_now d) (newest_only start) middle zeros (synced ∙ ap (option_map newest_only) told) told_middle in
      let head : last_image middle 0 ≡ last_image start 0 = ap (λ (x : Content). last_image x 0) there ∙ zeros_head (bitmap_count f) (newest_only start) in
      inr (subst (λ (x : Content). OnlyAdds (IsOfHead (head_after f start)) x later) there
      (subst (λ (old : List ℕ). OnlyAdds (IsOfHead (with_head (bitmap_fields f.fields) old)) middle later) head added)))

-- ---- what each moment keeps

module _ (sectors : ℕ) (f : ImageFormat) (is : IsDirectFormat sectors f) (marks : MarksFormat sectors f (bitmap_format f)) (start : Content) (image : IsImage start (last_image start)) where
  abbrev Zeros : ℕ → List ℕ → Type 0
  Zeros = IsOfZeros f.geometry (bitmap_count f)

  -- Only zeros and sector 0 are added,
  pub amid_writes : (c : Content) → IsAmid f start c → OnlyAdds (IsOfBitmap f start) start c
  amid_writes c amid = OnlyAdds-join (IsOfBitmap f start) start (newest_only start) c (newest_only-adds (IsOfBitmap f start) start image)
      (⊎_elim
      (λ zeros. OnlyAdds-wider Zeros (IsOfBitmap f start) (λ s x of. inl of) (newest_only start) c zeros)
      (λ head. OnlyAdds-join (IsOfBitmap f start) (newest_only start) (zeroed f start) c
      (OnlyAdds-wider Zeros (IsOfBitmap f start) (λ s x of. inl of) (newest_only start) (zeroed f start)
      (zeros_added f.geometry sectors (bitmap_count f) is.accepted.geometry marks.fits (newest_only start) (newest_only-last start)))
      (OnlyAdds-wider (IsOfHead (head_after f start)) (IsOfBitmap f start) (λ s x of. inr of) (zeroed f start) c head))
      amid)

  -- What a fact of the geometry and the fields is for a change.
  for_change : (P : Geometry → Superblock → Type 0) (m : ModeChange) → IsChangeOf f m → P f.geometry (bitmap_fields f.fields) → P m.disk.geometry m.after
  for_change P m of p = subst (λ (s : Superblock). P m.disk.geometry s) (sym of.after) (subst (λ (g : Geometry). P g (bitmap_fields f.fields)) (sym of.geometry) p)

  zeroes : (m : ModeChange) → IsChangeOf f m → ZeroesSectors m (new_bitmap m) (newest_only start) (zeroed f start)
  zeroes m of = for_change (λ g s. IsStep (IsOfZeros g (bitmap_sectors (record g { log2_region = s.log2_region })))
      (ReadsZeros g (bitmap_sectors (record g { log2_region = s.log2_region }))) (newest_only start) (zeroed f start)) m of
      (zeros_step f.geometry sectors (bitmap_count f) is.accepted.geometry marks.fits (newest_only start) (newest_only-last start))

  -- it is a moment of each change,
  pub amid_moment : (c : Content) → IsAmid f start c → IsAmidBitmap f start c
  amid_moment c amid m of = ⊎_elim
      (λ zeros. Zeroing (for_change (λ g s. OnlyAdds (IsOfZeros g (bitmap_sectors (record g { log2_region = s.log2_region }))) (newest_only start) c) m of zeros))
      (λ head. Marking (zeroed f start) (zeroes m of) head)
      amid

  -- and so it keeps what was recovered.
  own_change : (key : Option (List ℕ)) (entry : Image) (now : JournaledDisk) (number : ℕ) (tags : ℕ → List ℕ) → IsEmptiedOf (disk_format key sectors f) entry now number tags start
      → IsChangeOf f (bitmap_change (disk_format key sectors f) now number)
  own_change key entry now number tags of = record { geometry = ap (λ (x : DiskFormat). x.geometry) of.same_format; after = refl }

  pub amid_keeps : (key : Option (List ℕ)) (c : Content) → IsAmid f start c → KeepsEmptied (disk_format key sectors f) start c
  amid_keeps key c amid entry now number tags entered of =
      opens_bitmap_moments (disk_format key sectors f) entry now number tags start c entered is.no_bitmap of image
      (amid_moment c amid (bitmap_change (disk_format key sectors f) now number) (own_change key entry now number tags of))

  -- ---- the end

  module _ (whole : length (last_image start 0) ≡ 512) where
    marked : WritesHead (head_after f start) (zeroed f start) (newest_only (with_run 0 (head_after f start) (zeroed f start)))
    marked = head_step (head_after f start) (head_bytes_law (bitmap_fields f.fields) (last_image start 0) marks.replaces.accepted marks.replaces.fits whole).0 (zeroed f start)
        (newest_only-last (with_run 8 (zero_bytes (512 * bitmap_count f)) (newest_only start)))

    done-is : with_bitmap f start ≡ newest_only (with_run 0 (head_after f start) (zeroed f start))
    done-is = ap (λ (old : List ℕ). newest_only (with_run 0 (with_head (bitmap_fields f.fields) old) (zeroed f start))) (zeros_head (bitmap_count f) (newest_only start))

    becomes : (key : Option (List ℕ)) → BecomesBitmap (disk_format key sectors f) (disk_format key sectors (bitmap_format f)) start (newest_only (with_run 0 (head_after f start) (zeroed f start)))
    becomes key entry now number tags others entered of placed =
        let d = disk_format key sectors f in
        let m = bitmap_change d now number in
        let change = own_change key entry now number tags of in
        let last = newest_only (with_run 0 (head_after f start) (zeroed f start)) in
        let format : format_after m ≡ disk_format key sectors (bitmap_format f) =
        ap (λ (x : DiskFormat). record { key = x.key; sectors = x.sectors; superblock = bitmap_fields f.fields; geometry = record x.geometry { log2_region = (bitmap_fields f.fields).log2_region } }) of.same_format in
        let done = opens_bitmap_done d entry now number tags others start (zeroed f start) last entered is.no_bitmap of image (zeroes m change) marked
        (subst (λ (x : DiskFormat). ArePlacedTags x others last) (sym format) placed) in
        record { format = format; is_new = done.0; cells = subst (λ (x : DiskFormat). EachImage (HasCells x (cells_on d entry)) last) format done.1 }

    pub becomes_bitmap : (key : Option (List ℕ)) → BecomesBitmap (disk_format key sectors f) (disk_format key sectors (bitmap_format f)) start (with_bitmap f start)
    becomes_bitmap key = subst (λ (c : Content). BecomesBitmap (disk_format key sectors f) (disk_format key sectors (bitmap_format f)) start c) (sym done-is) (becomes key)

-- ---- for callers

module _ (f after : ImageFormat) (is : after ≡ bitmap_format f) {a b d : List Content} (sync : EachSince (λ start c. c ≡ newest_only start) a b) (synced : content_now b ≡ option_map newest_only (content_now a))
    (zeros : EachSince (OnlyAdds (IsOfZeros after.geometry (bitmap_sectors after.geometry))) b d) where
  -- The first sync and the zeros,
  pub amid_to_zeros : EachSince (IsAmid f) a d
  amid_to_zeros = amid_zeroed f (amid_synced f sync) synced (subst (λ (x : ImageFormat). EachSince (OnlyAdds (IsOfZeros x.geometry (bitmap_sectors x.geometry))) b d) is zeros)

  -- and sector 0 too.
  pub amid_to_head : {e : List Content} → content_now d ≡ option_map (with_zeros (bitmap_sectors after.geometry)) (content_now b)
      → EachSince (λ start. OnlyAdds (IsOfHead (with_head after.fields (last_image start 0))) start) d e → EachSince (IsAmid f) a e
  amid_to_head {e} written heads = amid_marked f b amid_to_zeros synced
      (subst (λ (x : ImageFormat). content_now d ≡ option_map (with_zeros (bitmap_sectors x.geometry)) (content_now b)) is written)
      (subst (λ (x : ImageFormat). EachSince (λ start. OnlyAdds (IsOfHead (with_head x.fields (last_image start 0))) start) d e) is heads)

module _ (sectors : ℕ) (f after : ImageFormat) (after_is : after ≡ bitmap_format f) (is : IsDirectFormat sectors f) (marks : MarksFormat sectors f after) (a : List Content)
    (reads : (c : Content) → content_now a ≡ Some c → IsImage c (last_image c)) where
  marks_own : MarksFormat sectors f (bitmap_format f)
  marks_own = subst (MarksFormat sectors f) after_is marks

  each_amid : {b : List Content} (Q : Content → Content → Type 0) → ((start c : Content) → IsImage start (last_image start) → IsAmid f start c → Q start c) → EachSince (IsAmid f) a b → EachSince Q a b
  each_amid Q q moments = EachMoment-weaker (FromStart-weaker a (IsAmid f) Q (λ start c told amid. q start c (reads start told) amid)) moments

  pub steps_of : {b : List Content} → EachSince (IsAmid f) a b → StepsToBitmap sectors f a b
  steps_of moments = record {
    writes = each_amid (λ start. OnlyAdds (IsOfBitmap f start) start) (λ start c image amid. amid_writes sectors f is marks_own start image c amid) moments;
    through = each_amid (IsAmidBitmap f) (λ start c image amid. amid_moment sectors f is marks_own start image c amid) moments;
    keeps = λ key. each_amid (KeepsEmptied (disk_format key sectors f)) (λ start c image amid. amid_keeps sectors f is marks_own start image key c amid) moments;
  }

  pub opened_of : (b : List Content) (whole : (c : Content) (sector : ℕ) (x : List ℕ) → content_now a ≡ Some c → sector < sectors → Contains (c sector) x → length x ≡ 512)
      → content_now b ≡ option_map (with_bitmap f) (content_now a) → (key : Option (List ℕ)) → OpensBitmap key sectors f a b
  opened_of b whole written key start told last told_last =
      let image = reads start told in
      let low = some_sector f.geometry sectors is.accepted.geometry in
      subst (λ (c : Content). BecomesBitmap (disk_format key sectors f) (disk_format key sectors (bitmap_format f)) start c) (sym (changed (with_bitmap f) (content_now a) (content_now b) start last written told told_last))
      (becomes_bitmap sectors f is marks_own start image (whole start 0 (last_image start 0) told low (image 0)) key)
