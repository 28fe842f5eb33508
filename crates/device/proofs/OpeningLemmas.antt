-- What an opening in one mode tells, as one of any.
use Rattle.std.proofs.Common.{◌≡◌, inl, inr, ℕ, true, false, Option, Some, Err, refl, sym, ◌∙◌, ap, subst, List, IsSomeAnd}
use Rattle.std.proofs.lemmas.Bool.{cases_Bool}
use Rattle.std.proofs.lemmas.Option.{same_Some}
use Rattle.disk_model.specs.Disk.{Content, Image, IsImage, last_image}
use Rattle.disk_model.specs.Identity.{DiskIdentity}
use Rattle.disk_model.specs.Moments.{FromStart, HasNow, content_now}
use Rattle.disk_model.proofs.MomentsLemmas.{EachMoment-weaker, FromStart-weaker, content_at_end}
use Rattle.image_model.specs.Geometry.{IsGeometry}
use Rattle.image_model.specs.Openable.{IsOpenable}
use Rattle.image_model.specs.declared.flags.TheConstants.{DIRTY_BITMAP}
use Rattle.image_model.specs.Superblock.{Superblock, fields_in, has_flag}
use Rattle.place_model.specs.Changed.{changes_mode, judged_image, opened_format}
use Rattle.place_model.specs.Format.{DiskFormat, format_on}
use Rattle.place_model.proofs.KindLemmas.{judged_image-changed, judged_image-same}
use Rattle.place_model.proofs.FormatLemmas.{format_on-read, reads_on, reads_tells}
use Rattle.direct_laws.specs.CallLaws.{ReadsImage}
use Rattle.recalculate_laws.specs.Formats.{under_fields}
use Rattle.image_refusal.specs.declared.call_fault.CallFault.{CallFault}
use Rattle.image_refusal.specs.declared.open_fault.OpenFault.{OpenFault}
use Rattle.judging_model.proofs.FaultsLemmas.{fault_in-err}
use Rattle.device_parts.specs.declared.parts.Parts.{Parts}
use Rattle.direct_device.specs.declared.parts.DirectParts.{DirectParts}
use Rattle.direct_device.specs.Device.{in_direct}
use Rattle.journal_device.specs.declared.parts.JournalParts.{JournalParts}
use Rattle.device_model.specs.Mode as Model
use Rattle.device_model.specs.Mode.{Mode}
use Rattle.device_parts.specs.Device.{HasOpened, opened_standing}
use Rattle.device_opening.specs.DirectOpening.{LeavesEmpty}
use Rattle.place_model.specs.EmptyJournal.{HasEmptyJournal}
use Rattle.device_opening.specs.JournalMaking.{WritesDirect, WritesJournal}
use Rattle.change_model.specs.OpeningWrites.{IsOfDirectOpening, IsOfJournalOpening}
use Rattle.device_opening.specs.Opening.{Refuses}
use Rattle.device_opening.proofs.ApartLemmas.{same_head}
use Rattle.device_opening.proofs.RefusedLemmas.{same_told}
use Rattle.journal_device.specs.Device.{in_journal}
use Rattle.bitmap_device.specs.declared.parts.BitmapParts.{BitmapParts}
use Rattle.bitmap_device.specs.Device.{in_bitmap}
use Rattle.recovery_device.specs.Device.{in_recovery}
use Rattle.place_model.specs.Awaiting.{AwaitsNoMore, fields_of}
use Rattle.device.specs.Device.{any_mode}
use Rattle.device.specs.declared.mode.DeviceParts.{DeviceParts}
use Rattle.device.specs.declared.mode.Mode.TheVariants as Modes
use Rattle.device.specs.declared.opening.OpenMode.{OpenMode}
use Rattle.device.specs.Opening.{IsRefused, fault_in_mode}
use Rattle.device.proofs.AwaitingLemmas.{HasHeads, fields_read, heads_direct, heads_journal, heads_read, no_more_same}
use Rattle.device.proofs.ModeLemmas.{in_direct_mode, in_journal_mode}

-- ---- an image that is refused

pub refused : (T : Type 0) (mode : OpenMode) (key : Option (List ℕ)) (disk : DiskIdentity) (a b : List Content) (fault : CallFault OpenFault)
    → Refuses {T = T} (fault_in_mode mode key disk.sectors) a b (Err fault) → IsRefused mode key disk a b fault
refused T mode key disk a b fault is = record {
  told = λ not_disk not_memory c now.
      fault_in-err DeviceParts T fault
      ∙ is.told (λ e. not_memory (same_told e)) (λ e. not_disk (same_told e)) c now;
  untouched = λ not_disk. is.untouched (λ e. not_disk (same_told e)) refl;
}

-- ---- what is written

-- What an opening in direct mode writes is what one in journal mode may.
pub as_journal : (key : Option (List ℕ)) (sectors : ℕ) (a b : List Content) → WritesDirect key sectors a b → WritesJournal key sectors a b
as_journal key sectors a b writes =
    EachMoment-weaker (FromStart-weaker a (λ start. let d = format_on key sectors (last_image start) in IsOfDirectOpening d.superblock d.geometry start)
    (λ start. let d = format_on key sectors (last_image start) in IsOfJournalOpening d.superblock d.geometry start) (λ start c told of. of.opening)) writes

-- ---- sector 0

module _ (key : Option (List ℕ)) (sectors : ℕ) (a b : List Content) (start : Content) (told : content_now a ≡ Some start)
    (geometry : IsGeometry (format_on key sectors (last_image start)).geometry sectors) (writes : WritesJournal key sectors a b) where
  abbrev d : DiskFormat
  d = format_on key sectors (last_image start)

  -- A recovery does not write sector 0, so reads give it as before.
  abbrev HasEntryHead : Content → Type 0
  HasEntryHead c = IsImage c (last_image c) → last_image c 0 ≡ last_image start 0

  entry_moment : has_flag DIRTY_BITMAP (format_on key sectors (last_image start)).superblock.flags ≡ false
      → (c : Content) → FromStart a (λ first. let f = format_on key sectors (last_image first) in IsOfJournalOpening f.superblock f.geometry first) c → HasEntryHead c
  entry_moment clear c from is =
      let only = subst (λ (o : Option Content). IsSomeAnd o (λ first. let f = format_on key sectors (last_image first) in IsOfJournalOpening f.superblock f.geometry first c)) told from in
      same_head d.geometry sectors start c geometry (only.found clear) is

  entry_head : has_flag DIRTY_BITMAP (format_on key sectors (last_image start)).superblock.flags ≡ false → HasNow HasEntryHead b
  entry_head clear = content_at_end (EachMoment-weaker (entry_moment clear) writes) (λ c told_c is. ap (λ (x : Content). last_image x 0) (same_Some c start (sym told_c ∙ told)))

  module _ (on : DiskFormat) (s : Superblock) (end : Content) (told_end : content_now b ≡ Some end) (reads : ReadsImage b) (heads : HasNow (HasHeads (under_fields on s)) b) where
    is_end : IsImage end (last_image end)
    is_end = reads end told_end

    fields_end : fields_of (last_image end) ≡ s
    fields_end = fields_read (under_fields on s) (last_image end) (heads_read (under_fields on s) end (heads end told_end) (last_image end) is_end)

    -- The fields of the device that is open then are those of the image by which it is judged.
    pub opened_no_more : (mode : Mode) → changes_mode mode (format_on key sectors (last_image start)).superblock ≡ has_flag DIRTY_BITMAP (format_on key sectors (last_image start)).superblock.flags
        → AwaitsNoMore on.geometry (fields_of (judged_image mode (format_on key sectors (last_image start)) (last_image start) (last_image end))) s
    opened_no_more mode same = elim (cases_Bool (has_flag DIRTY_BITMAP d.superblock.flags)) [
      | inl set ↦
          subst (λ (x : Image). AwaitsNoMore on.geometry (fields_of x) s) (sym (judged_image-changed mode d (same ∙ set) (last_image start) (last_image end)))
          (subst (AwaitsNoMore on.geometry (fields_of (last_image end))) fields_end (no_more_same on.geometry (fields_of (last_image end))))
      | inr clear ↦
          let as_before : fields_of (last_image start) ≡ s = ap (λ (x : List ℕ). fields_in x) (sym (entry_head clear end told_end is_end)) ∙ fields_end in
          subst (λ (x : Image). AwaitsNoMore on.geometry (fields_of x) s) (sym (judged_image-same mode d (same ∙ clear) (last_image start) (last_image end)))
          (subst (AwaitsNoMore on.geometry (fields_of (last_image start))) as_before (no_more_same on.geometry (fields_of (last_image start))))
    ]

-- ---- the device that is open

module _ (key : Option (List ℕ)) (disk : DiskIdentity) (a b : List Content) where
  -- The geometry of an image that can be opened,
  can_geometry : (image : Image) → IsOpenable key disk.sectors image → IsGeometry (format_on key disk.sectors image).geometry disk.sectors
  can_geometry image can = (reads_tells (format_on key disk.sectors image) image (reads_on key disk.sectors image can.readable)).is_geometry

  pub opened_journal : (opened : JournalParts) → ReadsImage b → HasOpened in_journal Model.Journal key disk opened a b → WritesJournal key disk.sectors a b
      → HasOpened any_mode Model.Journal key disk (in_journal_mode opened) a b
  opened_journal opened reads has writes = record {
    device = λ start told made told_made.
        let w = opened_standing Model.Journal key disk.sectors (last_image start) (last_image made) in
        let is = has.device start told made told_made in
        record {
          journaled = is;
          no_more = λ works. opened_no_more key disk.sectors a b start told (can_geometry (last_image start) (has.can start told)) writes w.on opened.state.recalculation.position made told_made reads
              (heads_journal w opened b is) Model.Journal refl;
        };
    blocks = has.blocks;
    ready = has.ready;
    asked_ = refl;
    requests = has.requests;
    can = has.can;
  }

  pub opened_bitmap : (opened : BitmapParts) → HasOpened in_bitmap Model.Bitmap key disk opened a b
      → HasOpened any_mode Model.Bitmap key disk (record { common = opened.parts; mode = Modes.Bitmap opened.regions }) a b
  opened_bitmap opened has = record {
    device = has.device;
    blocks = has.blocks;
    ready = has.ready;
    asked_ = refl;
    requests = has.requests;
    can = has.can;
  }

  pub opened_recovery : (common : Parts) → HasOpened in_recovery Model.Recovery key disk common a b
      → HasOpened any_mode Model.Recovery key disk (record { common = common; mode = Modes.Recovery }) a b
  opened_recovery common has = record {
    device = has.device;
    blocks = has.blocks;
    ready = has.ready;
    asked_ = refl;
    requests = has.requests;
    can = has.can;
  }

  pub opened_direct : (opened : DirectParts) → ReadsImage b → HasOpened in_direct Model.Direct key disk opened a b → LeavesEmpty key disk.sectors a b → WritesJournal key disk.sectors a b
      → HasOpened any_mode Model.Direct key disk (in_direct_mode opened) a b
  opened_direct opened reads has empty writes = record {
    device = λ start told made told_made.
        let w = opened_standing Model.Direct key disk.sectors (last_image start) (last_image made) in
        let is = has.device start told made told_made in
        let f = opened_format Model.Direct (format_on key disk.sectors (last_image start)) in
        record {
          direct = is;
          emptied = λ c told_c image is_image.
              let emptied = empty.emptied start told c told_c image is_image in
              subst (λ (x : DiskFormat). HasEmptyJournal x image) (sym (format_on-read f image emptied.reads)) emptied;
          no_more = λ works. opened_no_more key disk.sectors a b start told (can_geometry (last_image start) (has.can start told)) writes w.on opened.recalculation.position made told_made reads
              (heads_direct w opened b is) Model.Direct refl;
        };
    blocks = has.blocks;
    ready = has.ready;
    asked_ = refl;
    requests = has.requests;
    can = has.can;
  }
