-- What a cut leaves while a bitmap is made of a journal, and what is written in that.
use Rattle.std.proofs.Common.{◌≡◌, ◌⊎◌, inl, inr, ⊎_elim, ℕ, true, false, sym, ◌∙◌, subst, arith, Option, Some, List}
use Rattle.std.proofs.lemmas.Option.{same_Some}
use Rattle.disk_model.specs.Disk.{Content, HasNothingPending, Image, OnlyAdds, last_image, newest_only}
use Rattle.disk_model.specs.Moments.{EachSince, HasNow, content_now}
use Rattle.disk_model.proofs.DiskLemmas.{OnlyAdds-join, OnlyAdds-wider}
use Rattle.disk_model.proofs.MomentsLemmas.{EachMoment-join, EachMoment-then, EachMoment-weaker, FromStart-weaker, content_at_end}
use Rattle.image_model.specs.declared.flags.TheConstants.{DIRTY_BITMAP}
use Rattle.image_model.specs.Cells.{replayed_entries}
use Rattle.image_model.specs.Geometry.{Geometry, IsGeometry}
use Rattle.image_model.specs.Openable.{IsOpenable}
use Rattle.image_model.specs.Superblock.{has_flag}
use Rattle.image_model.specs.SuperblockLaws.{FitsBytes}
use Rattle.device_model.specs.Mode.{Bitmap, Direct, Journal, Mode}
use Rattle.device_model.specs.Progress.{DeviceState}
use Rattle.place_model.specs.Changed.{bitmap_fields, changed_device, changes_mode}
use Rattle.place_model.specs.Format.{DiskFormat, OpensAs, cells_on, format_on}
use Rattle.place_model.specs.Kind.{IsLeftIn, kind_in}
use Rattle.place_model.proofs.KindLemmas.{not_in_bitmap_mode, opened_in-changed}
use Rattle.place_model.proofs.LeftLemmas.{unwritten_left}
use Rattle.direct_laws.specs.CallLaws.{ReadsImage}
use Rattle.change_model.specs.Change.{IsOfHead}
use Rattle.change_model.specs.Fields.{with_head}
use Rattle.change_model.specs.Opened.{IsEntry, KeepsEntry}
use Rattle.change_model.proofs.OpenedLemmas.{same_format_left_law}
use Rattle.image_format.specs.declared.reading.ImageFormat.{ImageFormat}
use Rattle.image_format.specs.Format.{disk_format}
use Rattle.mode_change.specs.ToBitmap.{IsOfBitmap, KeepsEmptied}
use Rattle.recalculation.specs.All.{IsOfTagsOnly}
use Rattle.place_model.specs.RecoveryWrites.{IsOfRecovery, IsOfOpening}
use Rattle.device_opening.specs.declared.recovering.RecoveredImage.{RecoveredImage}
use Rattle.device_opening.specs.Changing.{HasEmptiedOn, KeepsEntryThrough}
use Rattle.change_model.specs.OpeningWrites.{IsOfMade, IsOfMaking}
use Rattle.device_opening.specs.Opening.{KeepsImage, WritesRecovery}
use Rattle.device_opening.proofs.ApartLemmas.{same_head}
use Rattle.device_opening.proofs.EmptyingLemmas.{newest_adds}
use Rattle.device_opening.proofs.MomentsLemmas.{each_from, now_told}

-- ---- what a cut leaves

module _ (key : Option (List ℕ)) (sectors : ℕ) (entry left : Image) (keeps : KeepsEntry (format_on key sectors entry) entry left) where
  -- An image that keeps the cells of the one at entry can be opened,
  pub entry_opens : IsOpenable key sectors left
  entry_opens = keeps.has.opens.openable

  -- and may be left of the device that changes the mode, before its first request:
  entry_left : (mode : Mode) → changes_mode mode (format_on key sectors entry).superblock ≡ true → IsLeftIn mode key sectors entry (changed_device (format_on key sectors entry) entry).history left
      → (kind_in mode key sectors).MayBeLeft entry ((kind_in mode key sectors).opened entry).history left
  entry_left mode is left_is = record {
    blocks = keeps.same;
    left_is = subst (λ (s : DeviceState). IsLeftIn mode key sectors entry s.history left) (sym (opened_in-changed mode (format_on key sectors entry) is entry)) left_is;
  }

  -- in bitmap mode,
  pub entry_may_be_left : has_flag DIRTY_BITMAP (format_on key sectors entry).superblock.flags ≡ false
      → (kind_in Bitmap key sectors).MayBeLeft entry ((kind_in Bitmap key sectors).opened entry).history left
  entry_may_be_left clear =
      entry_left Bitmap (not_in_bitmap_mode (format_on key sectors entry) clear)
      (unwritten_left (format_on key sectors left) (cells_on (format_on key sectors entry) entry) left keeps.has)

  -- in journal mode,
  pub entry_left_journal : has_flag DIRTY_BITMAP (format_on key sectors entry).superblock.flags ≡ true
      → (kind_in Journal key sectors).MayBeLeft entry ((kind_in Journal key sectors).opened entry).history left
  entry_left_journal set =
      entry_left Journal set (record {
        opens = keeps.has.opens;
        left = record {
          kept = 0;
          has_flushed = omega arith;
          has_no_more = omega arith;
          each = λ b low. keeps.has.each b low;
        };
      })

  -- and in direct mode.
  pub entry_left_direct : has_flag DIRTY_BITMAP (format_on key sectors entry).superblock.flags ≡ true
      → (kind_in Direct key sectors).MayBeLeft entry ((kind_in Direct key sectors).opened entry).history left
  entry_left_direct set = entry_left Direct set (record { opens = keeps.has.opens; left = record { flushed = λ b low kept. keeps.has.each b low } })

-- ---- what is written before the change

module _ (g : Geometry) where
  -- Where nothing is pending the content comes by an opening, also where no moment was between.
  opening_at : {a m : List Content} → WritesRecovery g a m → (start middle : Content) → content_now a ≡ Some start → content_now m ≡ Some middle → HasNothingPending middle → IsOfOpening g start middle
  opening_at writes start middle told told_m pending =
      let either : (middle ≡ start) ⊎ IsOfOpening g start middle =
      content_at_end {P = λ c. (c ≡ start) ⊎ IsOfOpening g start c} (EachMoment-weaker (λ c of. inr of) (each_from (IsOfOpening g) start told writes))
      (λ c told_c. inl (same_Some c start (sym told_c ∙ told))) middle told_m in
      ⊎_elim (λ same. subst (IsOfOpening g start) (sym same) (newest_adds (IsOfRecovery g (replayed_entries g (last_image start))) start (subst HasNothingPending same pending))) (λ of. of) either

  -- Sectors of tags are among what an opening writes,
  tags_add : (start middle now : Content) → IsOfOpening g start middle → OnlyAdds (IsOfTagsOnly g) middle now → IsOfOpening g start now
  tags_add start middle now of adds =
      let W : ℕ → List ℕ → Type 0 = IsOfRecovery g (replayed_entries g (last_image start)) in
      OnlyAdds-join W (newest_only start) middle now of (OnlyAdds-wider (IsOfTagsOnly g) W (λ s x holds. inl (inr holds)) middle now adds)

  module _ {a m : List Content} (first : WritesRecovery g a m) (pending : (start middle : Content) → content_now a ≡ Some start → content_now m ≡ Some middle → HasNothingPending middle)
      {b : List Content} (second : EachSince (OnlyAdds (IsOfTagsOnly g)) m b) where
    -- so a recalculation goes on with it,
    pub tags_behind : WritesRecovery g a b
    tags_behind =
        EachMoment-join (IsOfOpening g) (OnlyAdds (IsOfTagsOnly g)) first second
        (λ start middle now told told_m so_far adds. tags_add start middle now (opening_at first start middle told told_m (pending start middle told told_m)) adds)

    -- and leaves what comes by one.
    pub opened_behind : HasNow (λ start. HasNow (IsOfOpening g start) b) a
    opened_behind start told =
        let middle = now_told first start told in
        let of = opening_at first start middle.0 told middle.1 (pending start middle.0 told middle.1) in
        content_at_end {P = IsOfOpening g start} (EachMoment-weaker (λ c adds. tags_add start middle.0 c of adds) (each_from (OnlyAdds (IsOfTagsOnly g)) middle.0 middle.1 second))
        (λ c told_c. subst (IsOfOpening g start) (same_Some middle.0 c (sym middle.1 ∙ told_c)) of)

-- ---- what is written with the change

module _ (f : ImageFormat) (sectors : ℕ) (geometry : IsGeometry f.geometry sectors) where
  abbrev W : Content → ℕ → List ℕ → Type 0
  W start = IsOfMaking f.fields f.geometry start

  -- A recovery is a part of it,
  recovers : (start c : Content) → IsOfOpening f.geometry start c → IsOfMade f.fields f.geometry start c
  recovers start c of = OnlyAdds-wider (IsOfRecovery f.geometry (replayed_entries f.geometry (last_image start))) (W start) (λ s x. inl) (newest_only start) c of

  pub recovery_made : {a m : List Content} → WritesRecovery f.geometry a m → EachSince (IsOfMade f.fields f.geometry) a m
  recovery_made {a} writes =
      EachMoment-weaker (FromStart-weaker a (IsOfOpening f.geometry) (IsOfMade f.fields f.geometry) (λ start c told of. recovers start c of)) writes

  -- and so are the zeros and the fields behind it.
  changes : (start middle : Content) → last_image middle 0 ≡ last_image start 0 → (s : ℕ) (x : List ℕ) → IsOfBitmap f middle s x → W start s x
  changes start middle head s x (inl zeros) = inr (inl zeros)
  changes start middle head s x (inr field) = inr (inr (subst (λ (bytes : List ℕ). IsOfHead (with_head (bitmap_fields f.fields) bytes) s x) head field))

  pub change_made : {a m b : List Content} → WritesRecovery f.geometry a m → HasNow (λ start. HasNow (IsOfOpening f.geometry start) m) a → ReadsImage m
      → EachSince (λ start. OnlyAdds (IsOfBitmap f start) start) m b → EachSince (IsOfMade f.fields f.geometry) a b
  change_made first opened reads second =
      EachMoment-join (IsOfMade f.fields f.geometry) (λ start. OnlyAdds (IsOfBitmap f start) start) (recovery_made first) second
      (λ start middle now told told_m so_far adds.
      let of = opened start told middle told_m in
      let head = same_head f.geometry sectors start middle geometry of (reads middle told_m) in
      OnlyAdds-join (W start) (newest_only start) middle now (recovers start middle of) (OnlyAdds-wider (IsOfBitmap f middle) (W start) (changes start middle head) middle now adds))

-- ---- at each moment

module _ (key : Option (List ℕ)) (sectors : ℕ) (f : ImageFormat) where
  abbrev d : DiskFormat
  d = disk_format key sectors f

  -- A recovery keeps the cells,
  pub recovery_keeps : {a m : List Content} → HasNow (λ c. OpensAs d (last_image c)) a → KeepsImage d a m → KeepsEntryThrough d a m
  recovery_keeps opens keeps start told =
      EachMoment-weaker (λ c has left is. same_format_left_law d (last_image start) left (has left is)) (keeps start told (opens start told))

  -- and so does the change behind it.
  pub change_keeps : {a m b : List Content} (recovered : RecoveredImage) → FitsBytes f.fields → HasNow (λ c. OpensAs d (last_image c)) a → WritesRecovery f.geometry a m → KeepsImage d a m
      → HasEmptiedOn d a m recovered → EachSince (KeepsEmptied d) m b → KeepsEntryThrough d a b
  change_keeps recovered fits opens writes keeps emptied moments start told =
      let middle = now_told writes start told in
      let on = emptied start told middle.0 middle.1 in
      let is : IsEntry d (last_image start) = record { opens = opens start told; fits = fits } in
      EachMoment-then (recovery_keeps opens keeps start told)
      (EachMoment-weaker (λ c kept. (kept (last_image start) on.disk on.number _ is on.emptied).0) (each_from (KeepsEmptied d) middle.0 middle.1 moments))
