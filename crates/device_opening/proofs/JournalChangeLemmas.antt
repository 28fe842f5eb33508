-- The change from a bitmap to a journal behind the recalculation: what a cut leaves and what is written in it, the tags
-- behind it, and the journal that it makes.
use Rattle.std.proofs.Common.{◌≡◌, inl, inr, ℕ, ◌+◌, ◌-◌, ◌*◌, ◌/◌, ◌<◌, ◌≤◌, false, refl, sym, ◌∙◌, ap, subst, arith, Option, Some, List, [], ◌∷◌, length, take, drop}
use Rattle.std.proofs.lemmas.List.{length-drop, length-replicate, length-take-le}
use Rattle.disk_model.specs.Disk.{Content, Image, IsImage, OnlyAdds, last_image, newest_only, with_run}
use Rattle.disk_model.specs.Identity.{DiskIdentity}
use Rattle.disk_model.specs.Moments.{EachSince, HasNow, IsChangedBy, content_now}
use Rattle.disk_model.proofs.DiskLemmas.{OnlyAdds-join, OnlyAdds-wider, last_image-with_run_out}
use Rattle.disk_model.proofs.MomentsLemmas.{EachMoment-join, EachMoment-then, EachMoment-weaker, FromStart-weaker}
use Rattle.image_model.specs.Cells.{placed_cells_of, replayed_entries}
use Rattle.image_model.specs.Geometry.{Geometry, IsGeometry, bitmap_sectors, journal_sectors, regions}
use Rattle.image_model.specs.Sectors.{zero_bytes}
use Rattle.image_model.specs.SuperblockLaws.{FitsBytes}
use Rattle.image_model.specs.Walk.{later}
use Rattle.device_model.specs.Mode.{Journal}
use Rattle.place_model.specs.Changed.{journal_format}
use Rattle.place_model.specs.Format.{DiskFormat, OpensAs}
use Rattle.place_model.specs.Journal.{HasNothingToReplay, IsOfJournal}
use Rattle.place_model.specs.Opened.{awaiting_on, next_on}
use Rattle.place_model.proofs.ReplayLemmas.{same_journal_law}
use Rattle.place_model.proofs.TagsLemmas.{tag_byte-behind}
use Rattle.buffer_cache.specs.Cached.{HasNoMark}
use Rattle.buffer_cache.proofs.CachedLemmas.{changed_now}
use Rattle.change_model.specs.Change.{IsOfHead, ModeChange}
use Rattle.change_model.specs.Fields.{MayReplace, journal_fields, with_head}
use Rattle.change_model.specs.Opened.{IsEntry}
use Rattle.change_model.proofs.FieldsLemmas.{head_bytes_law}
use Rattle.direct_laws.specs.CallLaws.{ReadsImage}
use Rattle.direct_mode.proofs.StoreCalls.{ReadsWhole, given-whole}
use Rattle.hmac_tag.specs.TagMaker.{TagRule}
use Rattle.image_format.specs.declared.reading.ImageFormat.{ImageFormat}
use Rattle.image_format.specs.Format.{disk_format}
use Rattle.journal_model.specs.JournaledDisk.{JournaledDisk}
use Rattle.journal_model.specs.Opening.{opened_disk}
use Rattle.journal_model.specs.Recovery.{IsRecovered}
use Rattle.mode_change.specs.ToBitmap.{with_zeros}
use Rattle.mode_change.specs.ToJournal.{IsJournalOf, KeepsRecalculated, with_any, with_journal, with_rest}
use Rattle.change_model.specs.OpeningWrites.{IsOfJournalChange, IsOfJournalMaking, IsOfMadeJournal}
use Rattle.recalculation.specs.All.{IsOfTagsOnly}
use Rattle.tag_store.specs.Store.{IsStore, Store, given, given_tags}
use Rattle.tag_store.specs.StoreLaws.{ReadTagsAlike}
use Rattle.tag_store.proofs.StoreLawsLemmas.{elsewhere_law}
use Rattle.tag_store.proofs.StoreLemmas.{tags_in-same}
use Rattle.place_model.specs.RecoveryWrites.{IsOfRecovery}
use Rattle.device_opening.specs.Changing.{KeepsEntryThrough}
use Rattle.device_opening.specs.JournalMaking.{HasRecalculatedOn, IsMadeOn, IsOfRecalculation}
use Rattle.device_opening.proofs.ApartLemmas.{same_head}
use Rattle.device_opening.proofs.MomentsLemmas.{each_from, now_told}

-- ---- what is written

module _ (f : ImageFormat) (sectors : ℕ) (geometry : IsGeometry f.geometry sectors) where
  abbrev W : Content → ℕ → List ℕ → Type 0
  W start = IsOfJournalMaking f.fields f.geometry start

  -- Sectors of tags are a part of it,
  tags_made : (start c : Content) → IsOfRecalculation f.geometry start c → IsOfMadeJournal f.fields f.geometry start c
  tags_made start c of = OnlyAdds-wider (IsOfTagsOnly f.geometry) (W start) (λ s x. inl) (newest_only start) c of

  pub recalculation_made : {a m : List Content} → EachSince (IsOfRecalculation f.geometry) a m → EachSince (IsOfMadeJournal f.fields f.geometry) a m
  recalculation_made {a} writes =
      EachMoment-weaker (FromStart-weaker a (IsOfRecalculation f.geometry) (IsOfMadeJournal f.fields f.geometry) (λ start c told of. tags_made start c of)) writes

  -- and so is what the change writes behind them.
  journal_changes : (start middle : Content) → last_image middle 0 ≡ last_image start 0 → (s : ℕ) (x : List ℕ) → IsOfJournalChange f middle s x → IsOfJournalMaking f.fields f.geometry start s x
  journal_changes start middle head s x (inl zeros) = inr (inl zeros)
  journal_changes start middle head s x (inr (inl empty)) = inr (inr (inl empty))
  journal_changes start middle head s x (inr (inr field)) = inr (inr (inr (subst (λ (bytes : List ℕ). IsOfHead (with_head (journal_fields f.fields) bytes) s x) head field)))

  head_stays : (start middle : Content) → IsOfRecalculation f.geometry start middle → IsImage middle (last_image middle) → last_image middle 0 ≡ last_image start 0
  head_stays start middle of reads =
      same_head f.geometry sectors start middle geometry
      (OnlyAdds-wider (IsOfTagsOnly f.geometry) (IsOfRecovery f.geometry (replayed_entries f.geometry (last_image start))) (λ s x holds. inl (inr holds)) (newest_only start) middle of) reads

  pub journal_change_made : {a m b : List Content} → EachSince (IsOfRecalculation f.geometry) a m → HasNow (λ start. HasNow (IsOfRecalculation f.geometry start) m) a → ReadsImage m
      → EachSince (λ start. OnlyAdds (IsOfJournalChange f start) start) m b → EachSince (IsOfMadeJournal f.fields f.geometry) a b
  journal_change_made first written reads second =
      EachMoment-join (IsOfMadeJournal f.fields f.geometry) (λ start. OnlyAdds (IsOfJournalChange f start) start) (recalculation_made first) second
      (λ start middle now told told_m so_far adds.
      let of = written start told middle told_m in
      let head = head_stays start middle of (reads middle told_m) in
      OnlyAdds-join (W start) (newest_only start) middle now (tags_made start middle of) (OnlyAdds-wider (IsOfJournalChange f middle) (W start) (journal_changes start middle head) middle now adds))

-- ---- at each moment

-- The change keeps the cells, too.
pub journal_change_keeps : (key : Option (List ℕ)) (sectors : ℕ) (f : ImageFormat) (tags : Store) {a m b : List Content} → FitsBytes f.fields → HasNow (λ c. OpensAs (disk_format key sectors f) (last_image c)) a
    → EachSince (IsOfRecalculation f.geometry) a m → KeepsEntryThrough (disk_format key sectors f) a m → HasRecalculatedOn key sectors f a m tags
    → EachSince (KeepsRecalculated (disk_format key sectors f)) m b → KeepsEntryThrough (disk_format key sectors f) a b
journal_change_keeps key sectors f tags fits opens writes keeps recalculated moments start told =
    let d = disk_format key sectors f in
    let middle = now_told writes start told in
    let on = recalculated start told middle.0 middle.1 in
    let is : IsEntry d (last_image start) = record { opens = opens start told; fits = fits } in
    EachMoment-then (keeps start told)
    (EachMoment-weaker (λ c kept. (kept (last_image start) on.disk (given_tags tags middle.0) is on.is).0) (each_from (KeepsRecalculated d) middle.0 middle.1 moments))

-- ---- the tags behind the change

-- Bytes that are written, where there are any, leave the other sectors.
any_apart : (at : ℕ) (xs : List ℕ) (c : Content) (sector : ℕ) → (at ≤ sector → sector < at + length xs / 512 → ⊥) → last_image (with_any at xs c) sector ≡ last_image c sector
any_apart at [] c sector apart = refl
any_apart at (x ∷ xs) c sector apart = last_image-with_run_out at (x ∷ xs) c sector apart

module _ (f : ImageFormat) (empty : List ℕ) (size : length empty ≡ 512 * journal_sectors f.geometry) (fits : bitmap_sectors f.geometry ≤ journal_sectors f.geometry) where
  -- What stands before the fields are written.
  abbrev emptied : Content → Content
  emptied c = with_rest f.geometry empty (with_zeros (bitmap_sectors f.geometry) (newest_only c))

  behind_rest : (c : Content) (sector : ℕ) → (8 ≤ sector → sector < 8 + journal_sectors f.geometry → ⊥) → last_image (emptied c) sector ≡ last_image c sector
  behind_rest c sector apart =
      let bitmap = bitmap_sectors f.geometry in
      let rest : length (drop (512 * bitmap) empty) ≡ length empty - 512 * bitmap = length-drop (512 * bitmap) empty in
      let count : length (zero_bytes (512 * bitmap)) ≡ 512 * bitmap = length-replicate (512 * bitmap) 0 in
      any_apart (8 + bitmap) (drop (512 * bitmap) empty) (with_zeros bitmap (newest_only c)) sector (λ above under. apart (omega (arith, above)) (omega (arith, size, fits, rest, above, under)))
      ∙ last_image-with_run_out 8 (zero_bytes (512 * bitmap)) (newest_only c) sector (λ above under. apart above (omega (arith, count, fits, under)))

  -- Sector 0 is as it was until then,
  pub emptied_head : (c : Content) → last_image (emptied c) 0 ≡ last_image c 0
  emptied_head c = behind_rest c 0 (λ above under. omega (arith, above))

  -- and behind the journal reads give what they gave.
  pub behind_journal : (c : Content) (sector : ℕ) → length (with_head (journal_fields f.fields) (last_image (emptied c) 0)) ≡ 512 → 8 + journal_sectors f.geometry ≤ sector
      → last_image (with_journal f empty c) sector ≡ last_image c sector
  behind_journal c sector head behind =
      let bitmap = bitmap_sectors f.geometry in
      let fields = with_head (journal_fields f.fields) (last_image (emptied c) 0) in
      let blank : length (take (512 * bitmap) empty) ≡ 512 * bitmap = length-take-le (512 * bitmap) empty (omega (arith, size, fits)) in
      last_image-with_run_out 8 (take (512 * bitmap) empty) (newest_only (with_run 0 fields (emptied c))) sector (λ above under. omega (arith, blank, fits, behind, under))
      ∙ last_image-with_run_out 0 fields (emptied c) sector (λ above under. omega (arith, head, behind, under))
      ∙ behind_rest c sector (λ above under. omega (arith, behind, under))

  module _ (identity : DiskIdentity) (tags : Store) (a b : List Content) (store_is : IsStore tags identity a) (same : tags.geometry ≡ f.geometry) (none : HasNoMark tags.sectors)
      (may : MayReplace f.fields (journal_fields f.fields)) (some : 0 < identity.sectors) (whole_a : ReadsWhole identity a) (whole_b : ReadsWhole identity b) (written : IsChangedBy (with_journal f empty) a b) where
    head_size : (c : Content) → content_now a ≡ Some c → length (with_head (journal_fields f.fields) (last_image (emptied c) 0)) ≡ 512
    head_size c told = (head_bytes_law (journal_fields f.fields) (last_image (emptied c) 0) may.accepted may.fits (ap length (emptied_head c) ∙ whole_a c told 0 some)).0

    tags_stay : (d : Content) → content_now b ≡ Some d → (c : Content) × (content_now a ≡ Some c) × ReadTagsAlike tags.geometry c d
    tags_stay d told =
        let start = changed_now (with_journal f empty) (content_now a) (content_now b) written d told in (
          start.0,
          start.1,
          λ sector holds.
              let behind = tag_byte-behind tags.geometry identity.sectors holds.block holds.byte store_is.geometry holds.block_low in
              let at = holds.is in
              let place : journal_sectors f.geometry ≡ journal_sectors tags.geometry = ap journal_sectors (sym same) in
              ap (λ (x : Content). last_image x sector) start.2 ∙ behind_journal start.0 sector (head_size start.0 start.1) (omega (arith, behind, at, place)),
        )

    -- The store is one of the disk still,
    pub store_stays : IsStore tags identity b
    store_stays = elsewhere_law tags identity a b store_is tags_stay

    -- and gives the tags that are in place.
    pub tags_placed : (last : Content) → content_now b ≡ Some last → (n : ℕ) → n < f.geometry.blocks → given_tags tags last n ≡ (placed_cells_of f.geometry (last_image last) n).tag
    tags_placed last told n low =
        let agrees = store_stays.cache.agrees last told in
        let there : n < tags.geometry.blocks = subst (λ (g : Geometry). n < g.blocks) (sym same) low in
        tags_in-same tags.geometry identity.sectors store_is.geometry (last_image last) (given tags last) (whole_b last told) (given-whole tags identity b last store_stays (whole_b last told))
        (λ s holds. agrees.each s (none.none s)) n there
        ∙ ap (λ (g : Geometry). (placed_cells_of g (last_image last) n).tag) same

-- ---- the journal

module _ (d : DiskFormat) (entry : Image) (m : ModeChange) (tags : Store) (maker : TagRule) (c : Content) (number : m.number ≡ 0) (is : IsJournalOf d (journal_format d) entry m (given_tags tags c) c) where
  abbrev after : DiskFormat
  after = journal_format d

  next_now : next_on Journal after (last_image c) ≡ 0
  next_now = subst (λ (x : DiskFormat). next_on Journal x (last_image c) ≡ 0) is.format is.is_new.next_is

  recovered_now : IsRecovered (opened_disk after (last_image c)) 0 1 (given_tags tags c) c
  recovered_now =
      subst (λ (n : ℕ). IsRecovered (opened_disk after (last_image c)) n 1 (given_tags tags c) c) next_now
      (subst (λ (n : ℕ). IsRecovered (opened_disk after (last_image c)) (next_on Journal after (last_image c)) (later 1 n) (given_tags tags c) c) number
      (subst (λ (x : DiskFormat). IsRecovered (opened_disk x (last_image c)) (next_on Journal x (last_image c)) (later 1 m.number) (given_tags tags c) c) is.format is.is_new.recovered))

  -- Nothing of it is replayed.
  replays_nothing : (now : JournaledDisk) → now.format ≡ after → ((sector : ℕ) → IsOfJournal now.geometry sector → now.journal sector ≡ last_image c sector) → IsGeometry now.geometry now.sectors → replayed_entries now.geometry now.journal ≡ []
  replays_nothing now same journal geometry =
      (same_journal_law now.geometry now.sectors now.journal (last_image c) geometry journal
      (subst (λ (x : DiskFormat). HasNothingToReplay x.geometry (last_image c)) (is.format ∙ sym same) is.is_new.replayed)).none

  -- It is as a recovery leaves one, with the cells of the image at the entry.
  pub journal_made : IsMadeOn d entry (record { tags = tags; maker = maker; at = record { next = 0; number = 1; used = false } }) c
  journal_made =
      let r = recovered_now in
      let stands = r.keeps.stands in
      let reads = is.is_new.ready.reads in
      let none : replayed_entries r.now.geometry r.now.journal ≡ [] =
      replays_nothing r.now r.same_format (λ sector of. sym ((stands.each sector (last_image c sector) (reads sector)).journal of)) stands.sound.formed.is_geometry in
      record {
        left = record { recovered = r; pending = is.is_new.ready.settled; unused = (λ u. (refl, none), λ both. refl) };
        next = sym next_now;
        cells = is.cells (last_image c) reads;
        none_awaits = subst (λ (x : DiskFormat). (region : ℕ) → region < regions x.geometry → awaiting_on Journal x (last_image c) region ≡ false) is.format is.is_new.none_awaits;
      }
