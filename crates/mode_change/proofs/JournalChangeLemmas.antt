-- The whole change to a journal: what each moment of it is, and what it leaves.
use Rattle.std.proofs.Common.{◌≡◌, inl, inr, ⊎_elim, ℕ, ◌+◌, ◌*◌, ◌<◌, refl, sym, ◌∙◌, ap, subst, arith, Option, None, Some, List, length, drop}
use Rattle.std.proofs.lemmas.Bool.{true≢false}
use Rattle.std.specs.List.{Contains}
use Rattle.std.specs.Option.{option_map}
use Rattle.std.proofs.lemmas.Option.{same_Some}
use Rattle.disk_model.specs.Disk.{Content, EachImage, Image, IsImage, OnlyAdds, last_image, newest_only, with_run}
use Rattle.disk_model.specs.Moments.{EachSince, content_now}
use Rattle.disk_model.proofs.DiskLemmas.{OnlyAdds-join, OnlyAdds-none, OnlyAdds-wider, newest_only-adds, newest_only-last}
use Rattle.disk_model.proofs.MomentsLemmas.{EachMoment-join, EachMoment-weaker, FromStart-weaker}
use Rattle.image_model.specs.Bitmap.{is_dirty}
use Rattle.image_model.specs.Geometry.{Geometry, bitmap_sectors}
use Rattle.image_model.specs.Sectors.{zero_bytes}
use Rattle.image_model.specs.Superblock.{Superblock}
use Rattle.image_format.specs.declared.reading.ImageFormat.{ImageFormat}
use Rattle.image_format.specs.Format.{IsBitmapFormat, disk_format}
use Rattle.place_model.specs.Format.{DiskFormat, HasCells, cells_on, tagger_of}
use Rattle.place_model.specs.History.{BlockWrite, cells_after}
use Rattle.place_model.specs.Journal.{IsOfJournal}
use Rattle.bitmap_model.specs.BitmapDisk.{BitmapDisk, HasNoOtherBits, bit_in}
use Rattle.image_model.specs.EmptySections.{AreEmptySections, empty_image}
use Rattle.change_model.specs.Change.{IsOfFilling, IsOfHead, IsOfRest, IsOfZeros, ModeChange, ReadsRest, ReadsZeros, old_bitmap}
use Rattle.change_model.specs.Ends.{ArePlacedTags, format_after}
use Rattle.change_model.specs.Fields.{KeepsRest, journal_fields, with_head}
use Rattle.change_model.specs.FromBitmap.{change_of_bitmap}
use Rattle.change_model.specs.Opened.{IsRecalculatedOf, KeepsEntry, journal_change, rest_of}
use Rattle.change_model.specs.PlacedDisk.{IsBitmapPhase, format_under, geometry_under}
use Rattle.change_model.specs.Whole.{Clearing, Emptying, Filling, FillsSectors, IsStep, IsToJournalMoment, Unmarking, WritesHead, WritesRest, ZeroesSectors}
use Rattle.change_model.proofs.BeginLemmas.{from_bitmap_law, own_geometry}
use Rattle.change_model.proofs.FieldsLemmas.{head_bytes_law}
use Rattle.change_model.proofs.OpenedLemmas.{opens_journal_done, opens_journal_moments, rest_synced, same_format_left_law, some_sector}
use Rattle.change_model.proofs.PlacedLemmas.{bitmap_phase_law, bitmap_phase_written, journal_inside, zero_bit}
use Rattle.mode_change.specs.ToBitmap.{MarksFormat, with_fields, with_zeros}
use Rattle.mode_change.specs.ToJournal.{BecomesJournal, IsAmidJournal, IsJournalChangeOf, KeepsRecalculated, OpensJournal, StepsToJournal, journal_format, with_any, with_filling, with_journal, with_rest}
use Rattle.change_model.specs.OpeningWrites.{IsOfJournalChange}
use Rattle.mode_change.proofs.StepLemmas.{head_step, zeros_head, zeros_step}
use Rattle.mode_change.proofs.JournalStepLemmas.{empty_of, filling_step, rest_head, rest_step}

-- ---- each moment

-- The sector 0 that is written.
abbrev pub head_after : ImageFormat → Content → List ℕ
head_after f start = with_head (journal_fields f.fields) (last_image start 0)

-- What the zeros leave, the sectors behind them, and sector 0.
abbrev pub zeroed : ImageFormat → Content → Content
zeroed f start = with_zeros (bitmap_sectors f.geometry) (newest_only start)

abbrev pub emptied : ImageFormat → List ℕ → Content → Content
emptied f empty start = with_rest f.geometry empty (zeroed f start)

abbrev pub unmarked : ImageFormat → List ℕ → Content → Content
unmarked f empty start = newest_only (with_run 0 (head_after f start) (emptied f empty start))

-- Zeros are being written; or, of the sectors of an empty journal, those behind them; or sector 0; or those in their
-- place.
pub data IsAmid (f : ImageFormat) (empty : List ℕ) (start c : Content) : Type 0 where
  AtZeros : OnlyAdds (IsOfZeros f.geometry (bitmap_sectors f.geometry)) (newest_only start) c → IsAmid f empty start c
  AtRest : AreEmptySections f.geometry 0 empty → OnlyAdds (IsOfRest f.geometry (bitmap_sectors f.geometry) (empty_image f.geometry empty)) (zeroed f start) c → IsAmid f empty start c
  AtHead : AreEmptySections f.geometry 0 empty → OnlyAdds (IsOfHead (head_after f start)) (emptied f empty start) c → IsAmid f empty start c
  AtFilling : AreEmptySections f.geometry 0 empty → OnlyAdds (IsOfFilling f.geometry (bitmap_sectors f.geometry) (empty_image f.geometry empty)) (unmarked f empty start) c → IsAmid f empty start c

-- Sector 0 is as at the start until it is written.
head_same : (f : ImageFormat) (empty : List ℕ) (start : Content) → with_head (journal_fields f.fields) (last_image (emptied f empty start) 0) ≡ head_after f start
head_same f empty start = ap (with_head (journal_fields f.fields)) (rest_head f.geometry empty (zeroed f start) ∙ zeros_head (bitmap_sectors f.geometry) (newest_only start))

-- The content after a call that changed it.
told_now : (change : Content → Content) (old new : Option Content) (c : Content) → new ≡ option_map change old → old ≡ Some c → new ≡ Some (change c)
told_now change old new c e told = e ∙ ap (option_map change) told

-- One change after the other.
five : (u v w x y : Content → Content) (now : Option Content) → option_map y (option_map x (option_map w (option_map v (option_map u now)))) ≡ option_map (λ c. y (x (w (v (u c))))) now
five u v w x y None = refl
five u v w x y (Some c) = refl

module _ (f : ImageFormat) (empty : List ℕ) where
  -- The first sync,
  pub amid_synced : {a b : List Content} → EachSince (λ start c. c ≡ newest_only start) a b → EachSince (IsAmid f empty) a b
  amid_synced {a} moments = EachMoment-weaker (FromStart-weaker a (λ start c. c ≡ newest_only start) (IsAmid f empty) (λ start c told is.
      AtZeros (subst (λ (x : Content). OnlyAdds (IsOfZeros f.geometry (bitmap_sectors f.geometry)) (newest_only start) x) (sym is) (OnlyAdds-none (IsOfZeros f.geometry (bitmap_sectors f.geometry)) (newest_only start))))) moments

  -- and what comes on a content that is told by that at the start.
  amid_next : (V : Content → ℕ → List ℕ → Type 0) (X : Content → Content) → ((start later : Content) → OnlyAdds (V (X start)) (X start) later → IsAmid f empty start later)
      → {a d e : List Content} → EachSince (IsAmid f empty) a d → ((start : Content) → content_now a ≡ Some start → content_now d ≡ Some (X start))
      → EachSince (λ first. OnlyAdds (V first) first) d e → EachSince (IsAmid f empty) a e
  amid_next V X step so_far there adds = EachMoment-join (IsAmid f empty) (λ (first : Content). OnlyAdds (V first) first) so_far adds
      (λ start middle later told told_middle before added.
      step start later (subst (λ (x : Content). OnlyAdds (V x) x later) (same_Some middle (X start) (sym told_middle ∙ there start told)) added))

-- ---- while zeros are written

module _ (now : BitmapDisk) (entry : Image) (tags : ℕ → List ℕ) (start : Content) (of : IsRecalculatedOf now.format entry now tags start) (image : IsImage start (last_image start)) where
  -- A change that goes no further than the zeros, whatever is to come.
  abbrev begun : ModeChange
  begun = change_of_bitmap now now.superblock 0 entry

  own : geometry_under begun.disk now.superblock ≡ now.geometry
  own = own_geometry now.superblock now.sectors now.geometry of.is.stands.formed.has_geometry

  begins : IsBitmapPhase begun.disk now.superblock (is_dirty now.geometry entry) (newest_only start)
  begins = from_bitmap_law now entry now.superblock 0 entry tags start of.is of.keeps of.reads of.none image

  -- No bit is in a zero sector.
  no_bit : (s : ℕ) (x : List ℕ) (n : ℕ) → IsOfZeros now.geometry n s x → HasNoOtherBits (geometry_under begun.disk now.superblock) (is_dirty now.geometry entry) s x
  no_bit s x n zeros region low there bit = absurd (true≢false (sym bit ∙ zero_bit x (bit_in region) zeros.zeros))

  clearing : (n : ℕ) (c : Content) → OnlyAdds (IsOfZeros now.geometry n) (newest_only start) c → IsBitmapPhase begun.disk now.superblock (is_dirty now.geometry entry) c
  clearing n c adds = bitmap_phase_written begun.disk now.superblock (is_dirty now.geometry entry) (newest_only start) c begins
      (OnlyAdds-wider (IsOfZeros now.geometry n) _ (λ s x zeros. (zeros.on, zeros.whole, no_bit s x n zeros)) (newest_only start) c adds)

  clearing_keeps : (n : ℕ) (c : Content) → OnlyAdds (IsOfZeros now.geometry n) (newest_only start) c → EachImage (KeepsEntry now.format entry) c
  clearing_keeps n c adds other is_image =
      let placed = bitmap_phase_law begun.disk now.superblock (is_dirty now.geometry entry) c (clearing n c adds) other is_image in
      let format : format_under begun.disk now.superblock ≡ now.format =
      ap (λ (g : Geometry). let under : DiskFormat = record { key = now.key; sectors = now.sectors; superblock = now.superblock; geometry = g } in under) own in
      let has = subst (λ (x : DiskFormat). HasCells x begun.disk.cells other) format placed.cells in
      same_format_left_law now.format entry other (record {
        opens = has.opens;
        each = λ b low. has.each b low ∙ ap (λ (ws : List BlockWrite). cells_after (tagger_of now.format) now.base ws b) of.is.writes ∙ of.is.base b;
      })

  clearing_rest : (n : ℕ) (c : Content) → OnlyAdds (IsOfZeros now.geometry n) (newest_only start) c → KeepsRest (rest_of start) c
  clearing_rest n c adds x has = ⊎_elim (rest_synced start x) (λ zeros. absurd (let above = (journal_inside now.geometry 0 zeros.on).0 in omega (arith, above))) (adds.among 0 x has)

  -- Each image keeps what it had.
  pub zeros_keep : (n : ℕ) (c : Content) → OnlyAdds (IsOfZeros now.geometry n) (newest_only start) c → EachImage (KeepsEntry now.format entry) c × KeepsRest (rest_of start) c
  zeros_keep n c adds = (clearing_keeps n c adds, clearing_rest n c adds)

-- The same of a format that is the disk's.
zeros_keep_of : (d : DiskFormat) (entry : Image) (now : BitmapDisk) (tags : ℕ → List ℕ) (start c : Content) (n : ℕ) → IsRecalculatedOf d entry now tags start → IsImage start (last_image start)
    → OnlyAdds (IsOfZeros d.geometry n) (newest_only start) c → EachImage (KeepsEntry d entry) c × KeepsRest (rest_of start) c
zeros_keep_of d entry now tags start c n of image adds =
    subst (λ (x : DiskFormat). OnlyAdds (IsOfZeros x.geometry n) (newest_only start) c → EachImage (KeepsEntry x entry) c × KeepsRest (rest_of start) c) of.same_format
    (λ adds. zeros_keep now entry tags start (record { same_format = refl; is = of.is; keeps = of.keeps; none = of.none; reads = of.reads }) image n c adds)
    adds

-- ---- what each moment keeps

module _ (sectors : ℕ) (f : ImageFormat) (is : IsBitmapFormat sectors f) (marks : MarksFormat sectors f (journal_format f)) (empty : List ℕ) (start : Content)
    (image : IsImage start (last_image start)) (whole : length (last_image start 0) ≡ 512) where
  abbrev bitmap : ℕ
  bitmap = bitmap_sectors f.geometry

  abbrev journal : Image
  journal = empty_image f.geometry empty

  abbrev Zeros : ℕ → List ℕ → Type 0
  Zeros = IsOfZeros f.geometry bitmap

  abbrev Rest : ℕ → List ℕ → Type 0
  Rest = IsOfRest f.geometry bitmap journal

  abbrev Head : ℕ → List ℕ → Type 0
  Head = IsOfHead (head_after f start)

  abbrev Blank : ℕ → List ℕ → Type 0
  Blank = IsOfFilling f.geometry bitmap journal

  abbrev Filled : Content → Type 0
  Filled c = (s : ℕ) → s < 8 + bitmap → IsOfJournal f.geometry s → last_image c s ≡ journal s

  -- ---- its steps

  zeroes : IsStep Zeros (ReadsZeros f.geometry bitmap) (newest_only start) (zeroed f start)
  zeroes = zeros_step f.geometry sectors bitmap is.accepted.geometry marks.fits (newest_only start) (newest_only-last start)

  module _ (are : AreEmptySections f.geometry 0 empty) where
    rests : IsStep Rest (ReadsRest f.geometry bitmap journal) (zeroed f start) (emptied f empty start)
    rests = rest_step f.geometry sectors is.accepted.geometry marks.fits empty are.size (zeroed f start) (newest_only-last (with_run 8 (zero_bytes (512 * bitmap)) (newest_only start)))

    heads : WritesHead (head_after f start) (emptied f empty start) (unmarked f empty start)
    heads = head_step (head_after f start) (head_bytes_law (journal_fields f.fields) (last_image start 0) marks.replaces.accepted marks.replaces.fits whole).0 (emptied f empty start)
        (newest_only-last (with_any (8 + bitmap) (drop (512 * bitmap) empty) (zeroed f start)))

    fillings : IsStep Blank Filled (unmarked f empty start) (with_filling f.geometry empty (unmarked f empty start))
    fillings = filling_step f.geometry sectors is.accepted.geometry marks.fits empty are.size (unmarked f empty start) (newest_only-last (with_run 0 (head_after f start) (emptied f empty start)))

  -- ---- what is written

  abbrev All : ℕ → List ℕ → Type 0
  All = IsOfJournalChange f start

  -- A sector of the empty journal is one of these.
  of_rest : AreEmptySections f.geometry 0 empty → (s : ℕ) (x : List ℕ) → Rest s x → All s x
  of_rest are s x of = inr (inl (record { bytes = empty; empty = are; on = of.on; is = of.is }))

  of_blank : AreEmptySections f.geometry 0 empty → (s : ℕ) (x : List ℕ) → Blank s x → All s x
  of_blank are s x of = inr (inl (record { bytes = empty; empty = are; on = of.on; is = of.is }))

  -- A step that is done has only added what it writes.
  step_adds : (W : ℕ → List ℕ → Type 0) (Reads : Content → Type 0) (first last : Content) → ((s : ℕ) (x : List ℕ) → W s x → All s x) → IsStep W Reads first last → OnlyAdds All first last
  step_adds W Reads first last wider step = OnlyAdds-wider W All wider first last
      (subst (λ (x : Content). OnlyAdds W first x) (sym step.is) (OnlyAdds-join W first step.before_sync (newest_only step.before_sync) step.written.adds (newest_only-adds W step.before_sync step.written.reads)))

  to_synced : OnlyAdds All start (newest_only start)
  to_synced = newest_only-adds All start image

  to_zeroed : OnlyAdds All start (zeroed f start)
  to_zeroed = OnlyAdds-join All start (newest_only start) (zeroed f start) to_synced (step_adds Zeros (ReadsZeros f.geometry bitmap) (newest_only start) (zeroed f start) (λ s x of. inl of) zeroes)

  to_emptied : AreEmptySections f.geometry 0 empty → OnlyAdds All start (emptied f empty start)
  to_emptied are = OnlyAdds-join All start (zeroed f start) (emptied f empty start) to_zeroed
      (step_adds Rest (ReadsRest f.geometry bitmap journal) (zeroed f start) (emptied f empty start) (of_rest are) (rests are))

  to_unmarked : AreEmptySections f.geometry 0 empty → OnlyAdds All start (unmarked f empty start)
  to_unmarked are = OnlyAdds-join All start (emptied f empty start) (unmarked f empty start) (to_emptied are)
      (step_adds Head (λ c. last_image c 0 ≡ head_after f start) (emptied f empty start) (unmarked f empty start) (λ s x of. inr (inr of)) (heads are))

  pub amid_writes : (c : Content) → IsAmid f empty start c → OnlyAdds (IsOfJournalChange f start) start c
  amid_writes c (AtZeros adds) = OnlyAdds-join All start (newest_only start) c to_synced (OnlyAdds-wider Zeros All (λ s x of. inl of) (newest_only start) c adds)
  amid_writes c (AtRest are adds) = OnlyAdds-join All start (zeroed f start) c to_zeroed (OnlyAdds-wider Rest All (of_rest are) (zeroed f start) c adds)
  amid_writes c (AtHead are adds) = OnlyAdds-join All start (emptied f empty start) c (to_emptied are) (OnlyAdds-wider Head All (λ s x of. inr (inr of)) (emptied f empty start) c adds)
  amid_writes c (AtFilling are adds) = OnlyAdds-join All start (unmarked f empty start) c (to_unmarked are) (OnlyAdds-wider Blank All (of_blank are) (unmarked f empty start) c adds)

  -- ---- each moment is one of each change

  -- What a fact of the geometry, the bitmap and the empty journal is for a change.
  at_change : (P : Geometry → ℕ → Image → Type 0) (m : ModeChange) → IsJournalChangeOf f empty m → P f.geometry (bitmap_sectors f.geometry) (empty_image f.geometry empty) → P m.disk.geometry (old_bitmap m) m.empty
  at_change P m of p =
      let same : bitmap_sectors (record f.geometry { log2_region = f.fields.log2_region }) ≡ bitmap_sectors f.geometry =
      ap (λ (g : Geometry). bitmap_sectors g) (own_geometry f.fields sectors f.geometry is.accepted.told) in
      subst (λ (e : Image). P m.disk.geometry (old_bitmap m) e) (sym of.empty_is)
      (subst (λ (s : Superblock). P m.disk.geometry (bitmap_sectors (record m.disk.geometry { log2_region = s.log2_region })) journal) (sym of.before)
      (subst (λ (g : Geometry). P g (bitmap_sectors (record g { log2_region = f.fields.log2_region })) journal) (sym of.geometry)
      (subst (λ (n : ℕ). P f.geometry n journal) (sym same) p)))

  module _ (m : ModeChange) (of : IsJournalChangeOf f empty m) where
    zeroes_of : ZeroesSectors m (old_bitmap m) (newest_only start) (zeroed f start)
    zeroes_of = at_change (λ g n e. IsStep (IsOfZeros g n) (ReadsZeros g n) (newest_only start) (zeroed f start)) m of zeroes

    rests_of : AreEmptySections f.geometry 0 empty → WritesRest m (zeroed f start) (emptied f empty start)
    rests_of are = at_change (λ g n e. IsStep (IsOfRest g n e) (ReadsRest g n e) (zeroed f start) (emptied f empty start)) m of (rests are)

    fillings_of : AreEmptySections f.geometry 0 empty → FillsSectors m (unmarked f empty start) (with_filling f.geometry empty (unmarked f empty start))
    fillings_of are = at_change (λ g n e. IsStep (IsOfFilling g n e) (λ c. (s : ℕ) → s < 8 + n → IsOfJournal g s → last_image c s ≡ e s) (unmarked f empty start) (with_filling f.geometry empty (unmarked f empty start))) m of (fillings are)

    moment : (c : Content) → IsAmid f empty start c → IsToJournalMoment m (head_after f start) (newest_only start) c
    moment c (AtZeros adds) = Clearing (at_change (λ g n e. OnlyAdds (IsOfZeros g n) (newest_only start) c) m of adds)
    moment c (AtRest are adds) = Emptying (zeroed f start) zeroes_of (at_change (λ g n e. OnlyAdds (IsOfRest g n e) (zeroed f start) c) m of adds)
    moment c (AtHead are adds) = Unmarking (zeroed f start) (emptied f empty start) zeroes_of (rests_of are) adds
    moment c (AtFilling are adds) = Filling (zeroed f start) (emptied f empty start) (unmarked f empty start) zeroes_of (rests_of are) (heads are)
        (at_change (λ g n e. OnlyAdds (IsOfFilling g n e) (unmarked f empty start) c) m of adds)

  pub amid_moment : (c : Content) → IsAmid f empty start c → IsAmidJournal f empty start c
  amid_moment c amid m of = moment m of c amid

  -- ---- what it keeps

  own_change : (key : Option (List ℕ)) (entry : Image) (now : BitmapDisk) (tags : ℕ → List ℕ) → IsRecalculatedOf (disk_format key sectors f) entry now tags start
      → IsJournalChangeOf f empty (journal_change (disk_format key sectors f) now (empty_image f.geometry empty))
  own_change key entry now tags of = record {
    geometry = ap (λ (x : DiskFormat). x.geometry) of.same_format;
    before = ap (λ (x : DiskFormat). x.superblock) of.same_format;
    empty_is = refl;
  }

  -- Once there is an empty journal to be written,
  keeps_behind : (key : Option (List ℕ)) (c : Content) → AreEmptySections f.geometry 0 empty → IsAmid f empty start c → KeepsRecalculated (disk_format key sectors f) start c
  keeps_behind key c are amid entry now tags entered of =
      opens_journal_moments (disk_format key sectors f) entry now journal tags start c entered is.bitmap (empty_of (disk_format key sectors f) empty are) of image
      (amid_moment c amid (journal_change (disk_format key sectors f) now journal) (own_change key entry now tags of))

  -- and before.
  pub amid_keeps : (key : Option (List ℕ)) (c : Content) → IsAmid f empty start c → KeepsRecalculated (disk_format key sectors f) start c
  amid_keeps key c (AtZeros adds) = λ entry now tags entered of. zeros_keep_of (disk_format key sectors f) entry now tags start c bitmap of image adds
  amid_keeps key c (AtRest are adds) = keeps_behind key c are (AtRest are adds)
  amid_keeps key c (AtHead are adds) = keeps_behind key c are (AtHead are adds)
  amid_keeps key c (AtFilling are adds) = keeps_behind key c are (AtFilling are adds)

  -- ---- the end

  abbrev last : Content
  last = with_filling f.geometry empty (unmarked f empty start)

  last_is : with_journal f empty start ≡ last
  last_is = ap (λ (old : List ℕ). with_filling f.geometry empty (newest_only (with_run 0 old (emptied f empty start)))) (head_same f empty start)

  becomes : (key : Option (List ℕ)) → AreEmptySections f.geometry 0 empty → BecomesJournal (disk_format key sectors f) (disk_format key sectors (journal_format f)) empty start last
  becomes key are entry now tags others entered of placed =
      let d = disk_format key sectors f in
      let m = journal_change d now journal in
      let change = own_change key entry now tags of in
      let format : format_after m ≡ disk_format key sectors (journal_format f) =
      ap (λ (x : DiskFormat). let after : DiskFormat = record { key = x.key; sectors = x.sectors; superblock = journal_fields f.fields; geometry = record x.geometry { log2_region = (journal_fields f.fields).log2_region } } in after) of.same_format ∙ ap (λ (g : Geometry). let after : DiskFormat = record { key = key; sectors = sectors; superblock = journal_fields f.fields; geometry = g } in after) (own_geometry (journal_fields f.fields) sectors f.geometry marks.told) in
      let done = opens_journal_done d entry now journal tags others start (zeroed f start) (emptied f empty start) (unmarked f empty start) last entered is.bitmap (empty_of d empty are) of image
      (zeroes_of m change) (rests_of m change are) (heads are) (fillings_of m change are)
      (subst (λ (x : DiskFormat). ArePlacedTags x others last) (sym format) placed) in
      record { format = format; is_new = done.0; cells = subst (λ (x : DiskFormat). EachImage (HasCells x (cells_on d entry)) last) format done.1 }

  pub becomes_journal : (key : Option (List ℕ)) → AreEmptySections f.geometry 0 empty
      → BecomesJournal (disk_format key sectors f) (disk_format key sectors (journal_format f)) empty start (with_journal f empty start)
  becomes_journal key are = subst (λ (c : Content). BecomesJournal (disk_format key sectors f) (disk_format key sectors (journal_format f)) empty start c) (sym last_is) (becomes key are)

-- ---- for callers

module _ (f after : ImageFormat) (after_is : after ≡ journal_format f) (empty : List ℕ) {a b d : List Content} (sync : EachSince (λ start c. c ≡ newest_only start) a b)
    (synced : content_now b ≡ option_map newest_only (content_now a)) (zeros : EachSince (OnlyAdds (IsOfZeros f.geometry (bitmap_sectors f.geometry))) b d) where
  -- The first sync and the zeros,
  pub amid_to_zeros : EachSince (IsAmid f empty) a d
  amid_to_zeros = amid_next f empty (λ first. IsOfZeros f.geometry (bitmap_sectors f.geometry)) newest_only (λ start later adds. AtZeros adds) (amid_synced f empty sync)
      (λ start told. told_now newest_only (content_now a) (content_now b) start synced told) zeros

  module _ (are : AreEmptySections f.geometry 0 empty) {e : List Content} (zeros_written : content_now d ≡ option_map (with_zeros (bitmap_sectors f.geometry)) (content_now b))
      (rest : EachSince (OnlyAdds (IsOfRest f.geometry (bitmap_sectors f.geometry) (empty_image f.geometry empty))) d e) where
    zeroed_now : (start : Content) → content_now a ≡ Some start → content_now d ≡ Some (zeroed f start)
    zeroed_now start told = told_now (with_zeros (bitmap_sectors f.geometry)) (content_now b) (content_now d) (newest_only start) zeros_written (told_now newest_only (content_now a) (content_now b) start synced told)

    -- the sectors behind them,
    pub amid_to_rest : EachSince (IsAmid f empty) a e
    amid_to_rest = amid_next f empty (λ first. IsOfRest f.geometry (bitmap_sectors f.geometry) (empty_image f.geometry empty)) (zeroed f) (λ start later adds. AtRest are adds) amid_to_zeros zeroed_now rest

    module _ {h : List Content} (rest_written : content_now e ≡ option_map (with_rest f.geometry empty) (content_now d))
        (heads : EachSince (λ first. OnlyAdds (IsOfHead (with_head after.fields (last_image first 0))) first) e h) where
      emptied_now : (start : Content) → content_now a ≡ Some start → content_now e ≡ Some (emptied f empty start)
      emptied_now start told = told_now (with_rest f.geometry empty) (content_now d) (content_now e) (zeroed f start) rest_written (zeroed_now start told)

      -- sector 0,
      pub amid_to_head : EachSince (IsAmid f empty) a h
      amid_to_head = amid_next f empty (λ first. IsOfHead (with_head (journal_fields f.fields) (last_image first 0))) (emptied f empty)
          (λ start later adds. AtHead are (subst (λ (bytes : List ℕ). OnlyAdds (IsOfHead bytes) (emptied f empty start) later) (head_same f empty start) adds)) amid_to_rest emptied_now
          (subst (λ (x : ImageFormat). EachSince (λ first. OnlyAdds (IsOfHead (with_head x.fields (last_image first 0))) first) e h) after_is heads)

      module _ {i : List Content} (head_written : content_now h ≡ option_map (with_fields after.fields) (content_now e))
          (filling : EachSince (OnlyAdds (IsOfFilling f.geometry (bitmap_sectors f.geometry) (empty_image f.geometry empty))) h i) where
        unmarked_now : (start : Content) → content_now a ≡ Some start → content_now h ≡ Some (unmarked f empty start)
        unmarked_now start told =
            told_now (with_fields (journal_fields f.fields)) (content_now e) (content_now h) (emptied f empty start)
            (subst (λ (x : ImageFormat). content_now h ≡ option_map (with_fields x.fields) (content_now e)) after_is head_written) (emptied_now start told) ∙ ap (λ (bytes : List ℕ). Some (newest_only (with_run 0 bytes (emptied f empty start)))) (head_same f empty start)

        -- and the sectors in their place.
        pub amid_to_filling : EachSince (IsAmid f empty) a i
        amid_to_filling = amid_next f empty (λ first. IsOfFilling f.geometry (bitmap_sectors f.geometry) (empty_image f.geometry empty)) (unmarked f empty) (λ start later adds. AtFilling are adds) amid_to_head unmarked_now filling

-- What all of the writes leave.
pub written_of : (f after : ImageFormat) → after ≡ journal_format f → (empty : List ℕ) (a b d e h i : List Content) → content_now b ≡ option_map newest_only (content_now a)
    → content_now d ≡ option_map (with_zeros (bitmap_sectors f.geometry)) (content_now b) → content_now e ≡ option_map (with_rest f.geometry empty) (content_now d)
    → content_now h ≡ option_map (with_fields after.fields) (content_now e) → content_now i ≡ option_map (with_filling f.geometry empty) (content_now h)
    → content_now i ≡ option_map (with_journal f empty) (content_now a)
written_of f after after_is empty a b d e h i synced zeros rest head filling =
    let marked = subst (λ (x : ImageFormat). content_now h ≡ option_map (with_fields x.fields) (content_now e)) after_is head in
    filling ∙ ap (option_map (with_filling f.geometry empty)) (marked ∙ ap (option_map (with_fields (journal_fields f.fields)))
    (rest ∙ ap (option_map (with_rest f.geometry empty)) (zeros ∙ ap (option_map (with_zeros (bitmap_sectors f.geometry))) synced))) ∙
    five newest_only (with_zeros (bitmap_sectors f.geometry)) (with_rest f.geometry empty) (with_fields (journal_fields f.fields)) (with_filling f.geometry empty) (content_now a)

module _ (sectors : ℕ) (f after : ImageFormat) (after_is : after ≡ journal_format f) (is : IsBitmapFormat sectors f) (marks : MarksFormat sectors f after) (a : List Content)
    (reads : (c : Content) → content_now a ≡ Some c → IsImage c (last_image c))
    (whole : (c : Content) (sector : ℕ) (x : List ℕ) → content_now a ≡ Some c → sector < sectors → Contains (c sector) x → length x ≡ 512) where
  marks_own : MarksFormat sectors f (journal_format f)
  marks_own = subst (MarksFormat sectors f) after_is marks

  head_whole : (start : Content) → content_now a ≡ Some start → length (last_image start 0) ≡ 512
  head_whole start told = whole start 0 (last_image start 0) told (some_sector f.geometry sectors is.accepted.geometry) (reads start told 0)

  each_amid : {b : List Content} (empty : List ℕ) (Q : Content → Content → Type 0)
      → ((start c : Content) → IsImage start (last_image start) → length (last_image start 0) ≡ 512 → IsAmid f empty start c → Q start c) → EachSince (IsAmid f empty) a b → EachSince Q a b
  each_amid empty Q q moments = EachMoment-weaker (FromStart-weaker a (IsAmid f empty) Q (λ start c told amid. q start c (reads start told) (head_whole start told) amid)) moments

  pub steps_of : {b : List Content} (empty : List ℕ) → EachSince (IsAmid f empty) a b → StepsToJournal sectors f empty a b
  steps_of empty moments = record {
    writes = each_amid empty (λ start. OnlyAdds (IsOfJournalChange f start) start) (λ start c image size amid. amid_writes sectors f is marks_own empty start image size c amid) moments;
    through = each_amid empty (IsAmidJournal f empty) (λ start c image size amid. amid_moment sectors f is marks_own empty start image size c amid) moments;
    keeps = λ key. each_amid empty (KeepsRecalculated (disk_format key sectors f)) (λ start c image size amid. amid_keeps sectors f is marks_own empty start image size key c amid) moments;
  }

  pub opened_of : (b : List Content) (empty : List ℕ) → AreEmptySections f.geometry 0 empty → content_now b ≡ option_map (with_journal f empty) (content_now a) → (key : Option (List ℕ)) → OpensJournal key sectors f empty a b
  opened_of b empty are written key start told last told_last =
      subst (λ (c : Content). BecomesJournal (disk_format key sectors f) (disk_format key sectors (journal_format f)) empty start c)
      (same_Some (with_journal f empty start) last (sym (told_now (with_journal f empty) (content_now a) (content_now b) start written told) ∙ told_last))
      (becomes_journal sectors f is marks_own empty start (reads start told) (head_whole start told) key are)
