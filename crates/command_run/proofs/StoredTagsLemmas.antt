-- The tags of blocks that a run in journal or in direct mode does not write.
use Rattle.std.proofs.Common.{◌≡◌, ◌⊎◌, inl, inr, ℕ, ◌<◌, Bool, true, false, if◌then◌else◌, refl, List, ◌++◌, take, drop, sym, ◌∙◌, ap, subst, Option, None, Some, option_map, unwrap_or}
use Rattle.std.specs.List.{Any}
use Rattle.std.specs.Option.{option_to_list}
use Rattle.std.proofs.lemmas.List.{take-append-drop}
use Rattle.disk_model.specs.Disk.{Content, EachImage, Image, last_image}
use Rattle.image_model.specs.Bitmap.{awaits}
use Rattle.image_model.specs.Cells.{Cell, cells_of, placed_cells_of, recalculated_cell, counted_entries, last_entry}
use Rattle.image_model.specs.Geometry.{Geometry}
use Rattle.image_model.specs.Section.{Entry}
use Rattle.image_model.specs.Superblock.{Superblock}
use Rattle.judging_model.specs.Faults.{ImageFault}
use Rattle.device_model.specs.Cut.{all_writes}
use Rattle.device_model.specs.History.{BlockWrite, Change, History}
use Rattle.device_model.specs.Mode.{Mode, Direct, Journal}
use Rattle.run_model.specs.ScriptRun.{changes_in}
use Rattle.device_model.specs.Transcript.{BlockFormat}
use Rattle.device_model.proofs.HistoryLemmas.{IsOfBlock, Any-append, Any-append_left, Any-append_right, Any-nil, cells_after-others, with_changes-base}
use Rattle.place_model.specs.Changed.{changed_device, changes_mode}
use Rattle.place_model.specs.Format.{DiskFormat, cells_on, format_on, tagger_of}
use Rattle.place_model.specs.Kind.{MayBeLeftIn, kind_in}
use Rattle.place_model.specs.Opened.{opened_on}
use Rattle.place_model.proofs.PlacedLemmas.{recalculated-tag}
use Rattle.bitmap_device.specs.Device.{IsUnwritten}
use Rattle.device.specs.declared.opening.OpenMode.{OpenMode}
use Rattle.device.specs.declared.opening.OpenMode.TheVariants as Modes
use Rattle.device.specs.Opening.{asked_mode, fault_in_mode}
use Rattle.place_model.specs.KeptTags.{AreOfOthers}
use Rattle.device.proofs.TagsLemmas.{unwritten_behind}
use Rattle.run_model.specs.CommandRun.{IsAtMoment, IsUntouched}
use Rattle.command_task.specs.Outset.{begun_on}
use Rattle.command_model.specs.Outset.{geometry_on, judged_outset}
use Rattle.command_run.specs.Reopening.{history_on}
use Rattle.command_run.specs.StoredTags.{HasJournal, HasStoredTags, StoredTagsLaw, awaits_tag, stored_tag}

-- ---- one image

-- The cell of a block that does not await its tag has the stored one.
by_last : (last : Option Entry) (key : Option (List ℕ)) (s : Superblock) (g : Geometry) (image : Image) (b : ℕ)
    → awaits s g image b ≡ false
    → (unwrap_or (option_map (λ (entry : Entry). (let cell : Cell = record { bytes = entry.bytes; tag = entry.tag } in cell)) last)
    (recalculated_cell key s g image b)).tag
    ≡ unwrap_or (option_map (λ (entry : Entry). entry.tag) last) (placed_cells_of g image b).tag
by_last None key s g image b rests = recalculated-tag key s g image b rests
by_last (Some entry) key s g image b rests = refl

cell-tag : (key : Option (List ℕ)) (sectors : ℕ) (image : Image) (b : ℕ) → awaits_tag sectors image b ≡ false
    → (cells_on (format_on key sectors image) image b).tag ≡ stored_tag sectors image b
unfolding cells_of
cell-tag key sectors image b rests =
    let d = format_on key sectors image in
    by_last (last_entry d.geometry (counted_entries d.superblock d.geometry image) b) key d.superblock d.geometry image b rests

-- ---- blocks without a write

module _ (b : ℕ) where
  abbrev Unwritten : History → Type 0
  Unwritten h = IsUnwritten h b

  -- Some of the first writes are not of it,
  first-others : (n : ℕ) (writes : List BlockWrite) → ¬ Any (IsOfBlock b) writes → ¬ Any (IsOfBlock b) (take n writes)
  first-others n writes none any = none (subst (Any (IsOfBlock b)) (take-append-drop n writes)
      (Any-append_left (IsOfBlock b) (take n writes) (drop n writes) any))

  -- nor is one that is not flushed.
  unflushed-others : (h : History) → Unwritten h → ¬ Any (IsOfBlock b) (drop h.flushed h.writes ++ option_to_list h.pending)
  unflushed-others h none any =
      elim (Any-append (IsOfBlock b) (drop h.flushed h.writes) (option_to_list h.pending) any) [
        | inl later ↦ none (Any-append_left (IsOfBlock b) h.writes (option_to_list h.pending)
            (subst (Any (IsOfBlock b)) (take-append-drop h.flushed h.writes)
            (Any-append_right (IsOfBlock b) (take h.flushed h.writes) (drop h.flushed h.writes) later)))
        | inr last ↦ none (Any-append_right (IsOfBlock b) h.writes (option_to_list h.pending) last)
      ]

  -- Nothing is written when a device has just been opened, whether the mode is changed or not.
  none-opened : (t : Bool) (mode : Mode) (d : DiskFormat) (image : Image)
      → Unwritten (if t then changed_device d image else opened_on mode d image).history
  none-opened true mode d image any = Any-nil (IsOfBlock b) any
  none-opened false mode d image any = Any-nil (IsOfBlock b) any

module _ (key : Option (List ℕ)) (sectors : ℕ) (entry left : Image) (changes : List Change) where
  abbrev cells : Image → ℕ → Cell
  cells image = cells_on (format_on key sectors image) image

  -- What the device begins with are the cells of the image,
  journal-base : (t : Bool) (d : DiskFormat) → (if t then changed_device d entry else opened_on Journal d entry).history.base ≡ cells_on d entry
  journal-base true d = refl
  journal-base false d = refl

  direct-base : (t : Bool) (d : DiskFormat) → (if t then changed_device d entry else opened_on Direct d entry).history.base ≡ cells_on d entry
  direct-base true d = refl
  direct-base false d = refl

  abbrev history : Mode → History
  history mode = history_on (kind_in mode key sectors) entry changes

  -- so that each block without a write has that of the image opened, in journal mode
  journal-cell : MayBeLeftIn Journal key sectors entry (history Journal) left → (b : ℕ) → b < (geometry_on sectors entry).blocks
      → AreOfOthers changes b → cells left b ≡ cells entry b
  journal-cell is b low others =
      let d = format_on key sectors entry in
      let own = is.left_is.left in
      let h = history Journal in
      let none : IsUnwritten h b = unwritten_behind b ((kind_in Journal key sectors).opened entry).history changes
      (record { before = none-opened b (changes_mode Journal d.superblock) Journal d entry; since = others }) in
      own.each b (subst (λ (f : BlockFormat). b < f.blocks) (sym is.blocks) low)
      ∙ cells_after-others (tagger_of (format_on key sectors left)) h.base (take own.kept (all_writes h)) b (first-others b own.kept (all_writes h) none)
      ∙ ap (λ (base : ℕ → Cell). base b) (with_changes-base changes ((kind_in Journal key sectors).opened entry).history
      ∙ journal-base (changes_mode Journal d.superblock) d)

  -- and in direct mode.
  direct-cell : MayBeLeftIn Direct key sectors entry (history Direct) left → (b : ℕ) → b < (geometry_on sectors entry).blocks
      → AreOfOthers changes b → cells left b ≡ cells entry b
  direct-cell is b low others =
      let d = format_on key sectors entry in
      let own = is.left_is.left in
      let h = history Direct in
      let none : IsUnwritten h b = unwritten_behind b ((kind_in Direct key sectors).opened entry).history changes
      (record { before = none-opened b (changes_mode Direct d.superblock) Direct d entry; since = others }) in
      own.flushed b (subst (λ (f : BlockFormat). b < f.blocks) (sym is.blocks) low) (unflushed-others b h none)
      ∙ cells_after-others (tagger_of (format_on key sectors left)) h.base (take h.flushed h.writes) b
      (first-others b h.flushed h.writes (λ any. none (Any-append_left (IsOfBlock b) h.writes (option_to_list h.pending) any)))
      ∙ ap (λ (base : ℕ → Cell). base b) (with_changes-base changes ((kind_in Direct key sectors).opened entry).history
      ∙ direct-base (changes_mode Direct d.superblock) d)

  -- The same cells have the same tags stored.
  same-tags : ((b : ℕ) → b < (geometry_on sectors entry).blocks → AreOfOthers changes b → cells left b ≡ cells entry b)
      → HasStoredTags (AreOfOthers changes) sectors entry left
  same-tags same = record {
    each = λ b low others before now.
        sym (cell-tag key sectors left b now) ∙ ap (λ (cell : Cell). cell.tag) (same b low others) ∙ cell-tag key sectors entry b before;
  }

-- ---- a moment

module _ (key : Option (List ℕ)) (sectors : ℕ) (start later : Content) (changes : List Change) where
  abbrev Keeps : Type 0
  Keeps = IsUntouched start later ⊎ EachImage (HasStoredTags (AreOfOthers changes) sectors (last_image start)) later

  abbrev LeftIn : OpenMode → Option ImageFault → Type 0
  LeftIn mode fault =
      IsAtMoment (judged_outset (begun_on mode (kind_in (asked_mode mode) key sectors) (last_image start)) fault) start changes later

  -- By why the image is refused, if it is, and by what is left.
  kept_by : (mode : OpenMode) → HasJournal mode → (fault : Option ImageFault) → LeftIn mode fault → Keeps
  kept_by (Modes.Journal consent) journal None (inl before) = inl before.1
  kept_by (Modes.Journal consent) journal None (inr left) =
      inr (λ image of. same-tags key sectors (last_image start) image changes
      (journal-cell key sectors (last_image start) image changes (left.left image of)))
  kept_by (Modes.Direct consent) journal None (inl before) = inl before.1
  kept_by (Modes.Direct consent) journal None (inr left) =
      inr (λ image of. same-tags key sectors (last_image start) image changes
      (direct-cell key sectors (last_image start) image changes (left.left image of)))
  kept_by (Modes.Journal consent) journal (Some fault) untouched = inl untouched
  kept_by (Modes.Direct consent) journal (Some fault) untouched = inl untouched
  kept_by (Modes.Bitmap consent) none fault left = absurd none
  kept_by Modes.Recovery none fault left = absurd none

-- ---- for callers

pub stored_tags_law : StoredTagsLaw
stored_tags_law mode key sectors start script later journal moment =
    let left = moment.left in
    record {
      run = left.run;
      is_run = left.is_run;
      made = left.made;
      kept = kept_by key sectors start later (take left.made (changes_in left.run.steps)) mode journal
          (fault_in_mode mode key sectors (last_image start)) left.left;
    }
