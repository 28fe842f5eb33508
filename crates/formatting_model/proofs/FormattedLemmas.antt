-- The first sector, all else and the superblock, joined: what a formatting leaves at each moment and at its end.
use Rattle.std.proofs.Common.{◌≡◌, ◌≢◌, inl, inr, ⊎_elim, ℕ, ◌+◌, ◌<◌, ◌≤◌, Bool, true, false, IsTrue, List, [], ◌∷◌, length, slice_index, refl, sym, ◌∙◌, ap, subst, arith, Some, Ok}
use Rattle.std.specs.List.{Contains}
use Rattle.std.specs.Option.{option_map}
use Rattle.std.proofs.lemmas.Option.{same_Some}
use Rattle.std.proofs.lemmas.List.{length-replicate}
use Rattle.disk_model.specs.Disk.{Content, Image, last_candidate, last_image, newest_only, with_run}
use Rattle.disk_model.specs.Moments.{content_now, EachMoment, FromStart, HasNow}
use Rattle.disk_model.proofs.DiskLemmas.{last_image-with_one, last_image-with_other, newest_only-pending, only_candidate}
use Rattle.hmac_tag.specs.TagMaker.{TagRule}
use Rattle.image_model.specs.Cells.{section_bytes}
use Rattle.image_model.specs.CommitId.{commit_number}
use Rattle.image_model.specs.Geometry.{Geometry, IsGeometry, bitmap_sectors, initial, section_at, section_sectors, data_at}
use Rattle.image_model.specs.Superblock.{Superblock, superblock_of}
use Rattle.image_model.proofs.GeometryLemmas.{data_at-inside, section_at-lt}
use Rattle.image_model.proofs.SectorLemmas.{bytes_at-same}
use Rattle.image_format.specs.declared.reading.ImageFormat.{ImageFormat}
use Rattle.place_model.specs.Tags.{tag_byte_at}
use Rattle.place_model.proofs.TagsLemmas.{tag_byte-behind}
use Rattle.image_model.specs.declared.new_image.Wipe.{Wipe}
use Rattle.image_model.specs.declared.new_image.Wipe.TheVariants.{Wiped, Kept, Recalculated}
use Rattle.formatting_model.specs.FirstSector.{zero_sector, head_of, forgotten, founded, HasZeroHead, HasHead, IsAmidFounding}
use Rattle.formatting_model.specs.Stays.{KeepsBytes, ReadsKeep}
use Rattle.formatting_model.specs.Formatted.{HasBlocks, HasFilled, IsImageByte, IsFillSector, IsFormatted, IsAmidWriting, IsNewContent, IsWritten, IsWrittenBehindSync, IsWrittenInOrder}
use Rattle.formatting_model.specs.Journal.{HasEmptyRest, HasEmptySection, HasJournalBy, has_bitmap, regions_set}
use Rattle.formatting_model.specs.Order.{HasFirstSync, IsForgotten, IsInOrder, IsUnsettled}
use Rattle.formatting_model.specs.Runs.{ChangesOnly}
use Rattle.formatting_model.proofs.BitsLemmas.{HasBits-same}
use Rattle.formatting_model.proofs.OrderLemmas.{first_sync_then, first_sync_weaker, in_order, order_weaker, silent, silent_order}
use Rattle.formatting_model.proofs.RunsLemmas.{changed_now, since_end}

-- ---- images that differ in the first sector alone

abbrev SameBehind : Image → Image → Type 0
SameBehind one other = (s : ℕ) → s ≢ 0 → other s ≡ one s

some : (n k : ℕ) → 1 ≤ n → n + k ≢ 0
some n k low none = omega (arith, low, none)

pub HasEmptySection-same : (g : Geometry) (one other : Image) (section : ℕ) → ((s : ℕ) → section_at g section ≤ s → s < section_at g section + section_sectors g.shape → other s ≡ one s)
    → HasEmptySection g one section → HasEmptySection g other section
HasEmptySection-same g one other section same h =
    let bytes : section_bytes g other section ≡ section_bytes g one section = bytes_at-same other one (section_at g section) (section_sectors g.shape) same in
    record {
      entries = rw bytes h.entries;
      numbers = λ j low. ap (commit_number section j) (same (section_at g section + j) (omega arith) (omega (arith, low))) ∙ h.numbers j low;
    }

-- So does one of which some first sectors are left out.
pub HasEmptyRest-same : (g : Geometry) (first : ℕ) (one other : Image) (section : ℕ) → ((s : ℕ) → section_at g section ≤ s → s < section_at g section + section_sectors g.shape → other s ≡ one s)
    → HasEmptyRest g first one section → HasEmptyRest g first other section
HasEmptyRest-same g first one other section same h = record {
  bytes = h.bytes;
  is_empty = h.is_empty;
  each = λ j low above. same (section_at g section + j) (omega arith) (omega (arith, low)) ∙ h.each j low above;
}

-- What stands in the journal's place stays where its sectors do, those of a bitmap included.
pub HasJournalBy-same : (bitmap : Bool) (set : ℕ) (g : Geometry) (one other : Image) → ((k : ℕ) → IsTrue bitmap → k < bitmap_sectors g → other (8 + k) ≡ one (8 + k)) → ((s : ℕ) → 8 ≤ s → s < initial g → other s ≡ one s)
    → HasJournalBy bitmap set g one → HasJournalBy bitmap set g other
HasJournalBy-same false set g one other bits same h = λ section low.
    let next = section_at-lt g section g.sections low in
    HasEmptySection-same g one other section (λ s from to. same s (omega (arith, from)) (omega (arith, to, next))) (h section low)
HasJournalBy-same true set g one other bits same h = record {
  bits = HasBits-same set 8 (bitmap_sectors g) one other (λ k low. bits k refl low) h.bits;
  behind = λ section low within.
      let next = section_at-lt g section g.sections low in
      HasEmptyRest-same g (bitmap_sectors g) one other section (λ s from to. same s (omega (arith, from)) (omega (arith, to, next))) (h.behind section low within);
}

blocks_same : (wipe : Wipe) (rule : TagRule) (g : Geometry) (sectors : ℕ) (one other : Image) → IsGeometry g sectors → SameBehind one other → HasBlocks wipe rule g one → HasBlocks wipe rule g other
blocks_same Wiped rule g sectors one other is same h = record {
  zeros = λ b k block low.
      let at = (data_at-inside g sectors b is (omega (arith, block.ends))).0 in
      same (data_at g b + k) (some (data_at g b) k (omega (arith, at))) ∙ h.zeros b k block low;
  tags = λ b i block low.
      let at = tag_byte-behind g sectors b i is (omega (arith, block.ends)) in
      ap (λ (x : List ℕ). slice_index x (tag_byte_at g b i).byte) (same (tag_byte_at g b i).sector (λ none. omega (arith, at, none))) ∙ h.tags b i block low;
}
blocks_same Kept rule g sectors one other is same h = tt
blocks_same Recalculated rule g sectors one other is same h = tt

HasFilled-same : (wipe : Wipe) (rule : TagRule) (format : ImageFormat) (sectors : ℕ) (one other : Image) → IsGeometry format.geometry sectors → SameBehind one other → HasFilled wipe rule format one → HasFilled wipe rule format other
HasFilled-same wipe rule format sectors one other is same h = record {
  zeros = λ k low. same (1 + k) (some 1 k (omega arith)) ∙ h.zeros k low;
  journal = HasJournalBy-same (has_bitmap format) (regions_set format) format.geometry one other (λ k set low. same (8 + k) (some 8 k (omega arith))) (λ s from to. same s (λ none. omega (arith, from, none))) h.journal;
  blocks = blocks_same wipe rule format.geometry sectors one other is same h.blocks;
}

-- ---- the first sector

pub zero_sector_whole : length zero_sector ≡ 512
zero_sector_whole = length-replicate {A = ℕ} 512 0

pub forgotten_first : (start : Content) → forgotten start 0 ≡ zero_sector ∷ []
forgotten_first start = ap (λ (x : List ℕ). x ∷ []) (last_image-with_one 0 zero_sector start zero_sector_whole)

pub forgotten_other : (start : Content) (s : ℕ) → s ≢ 0 → last_image (forgotten start) s ≡ last_image start s
forgotten_other start s other = last_image-with_other 0 zero_sector start s zero_sector_whole other

module _ (wipe : Wipe) (rule : TagRule) (format : ImageFormat) (sectors : ℕ) (is : IsGeometry format.geometry sectors) where
  -- What is there before the superblock comes.
  record IsFilled (start middle : Content) : Type 0 where
    changes : ChangesOnly (IsFillSector wipe format.geometry) (forgotten start) middle
    filled : HasFilled wipe rule format (last_image middle)
    bytes : KeepsBytes (IsImageByte wipe format.geometry) (last_image (forgotten start)) (last_image middle)

  fill_first : (start middle : Content) → ChangesOnly (IsFillSector wipe format.geometry) (forgotten start) middle → middle 0 ≡ zero_sector ∷ []
  fill_first start middle changes = changes.others 0 (λ of. omega (arith, of.0)) ∙ forgotten_first start

  -- With the superblock it is the new image.
  formatted_by : (start middle : Content) (image : Image) → superblock_of (head_of format.fields) ≡ Ok format.fields → IsFilled start middle → HasHead format.fields middle image → IsFormatted wipe rule format (last_image start) image
  formatted_by start middle image reads h head = record {
    head = head.head;
    told = ap superblock_of head.head ∙ reads;
    filled = HasFilled-same wipe rule format sectors (last_image middle) image is (λ s other. head.others s other) h.filled;
    others = λ s out.
        let behind : s ≢ 0 = λ none. out (inl (omega (arith, none))) in
        head.others s behind
        ∙ ap (λ (x : List (List ℕ)). last_candidate x) (h.changes.others s (λ of. out of.1))
        ∙ forgotten_other start s behind;
    bytes = λ s j low out.
        let behind : s ≢ 0 = λ none. out (inl (omega (arith, none))) in
        ap (λ (x : List ℕ). slice_index x j) (head.others s behind)
        ∙ h.bytes s j low out
        ∙ ap (λ (x : List ℕ). slice_index x j) (forgotten_other start s behind);
  }

  -- ---- the moments

  pub amid_forget : {a b : List Content} → IsInOrder (IsUnsettled HasZeroHead) IsForgotten a b → IsWrittenInOrder wipe rule format a b
  amid_forget order = order_weaker (IsUnsettled HasZeroHead) (IsUnsettled HasZeroHead) IsForgotten (IsAmidWriting wipe rule format) (λ start later e. e)
      (λ start later is image of. inl (only_candidate zero_sector (image 0) (subst (λ (xs : List (List ℕ)). Contains xs (image 0)) (ap (λ (x : Content). x 0) is ∙ forgotten_first start) (of 0)))) order

  start_is : (a b : List Content) (start middle : Content) → content_now b ≡ option_map forgotten (content_now a) → content_now a ≡ Some start → content_now b ≡ Some middle → middle ≡ forgotten start
  start_is a b start middle forgot told told_middle = sym (same_Some _ _ (sym (forgot ∙ ap (option_map forgotten) told) ∙ told_middle))

  behind_fill : {a b c : List Content} → HasFirstSync (IsUnsettled HasZeroHead) (IsAmidWriting wipe rule format) a b → content_now b ≡ option_map forgotten (content_now a)
      → EachMoment b c (FromStart b (ChangesOnly (IsFillSector wipe format.geometry))) → IsWrittenBehindSync wipe rule format a c
  behind_fill {a} {b} first forgot second = first_sync_then (IsUnsettled HasZeroHead) (IsAmidWriting wipe rule format) (IsAmidWriting wipe rule format) (ChangesOnly (IsFillSector wipe format.geometry))
      (λ start later e. e)
      (λ start middle later told told_middle changes image of.
      let changed = subst (λ (x : Content). ChangesOnly (IsFillSector wipe format.geometry) x later) (start_is a b start middle forgot told told_middle) changes in
      inl (only_candidate zero_sector (image 0) (subst (λ (xs : List (List ℕ)). Contains xs (image 0)) (fill_first start later changed) (of 0))))
      first second

  middle_is : (a b c : List Content) (start middle : Content) → content_now b ≡ option_map forgotten (content_now a) → EachMoment b c (FromStart b (ChangesOnly (IsFillSector wipe format.geometry)))
      → HasNow (λ x. HasFilled wipe rule format (last_image x)) c → ReadsKeep (IsImageByte wipe format.geometry) b c → content_now a ≡ Some start → content_now c ≡ Some middle → IsFilled start middle
  middle_is a b c start middle forgot second filled stays told told_middle =
      let end = since_end (ChangesOnly (IsFillSector wipe format.geometry)) second middle told_middle in
      let from = start_is a b start end.0 forgot told end.1 in
      record {
        changes = elim end.2 [
          | inl same ↦ record { others = λ s out. ap (λ (x : Content). x s) (same ∙ from) }
          | inr changes ↦ subst (λ (x : Content). ChangesOnly (IsFillSector wipe format.geometry) x middle) from changes
        ];
        filled = filled middle told_middle;
        bytes = subst (λ (x : Content). KeepsBytes (IsImageByte wipe format.geometry) (last_image x) (last_image middle)) from (stays end.0 end.1 middle told_middle);
      }

  behind_found : {a b c d : List Content} → superblock_of (head_of format.fields) ≡ Ok format.fields → IsWrittenBehindSync wipe rule format a c → content_now b ≡ option_map forgotten (content_now a)
      → EachMoment b c (FromStart b (ChangesOnly (IsFillSector wipe format.geometry))) → HasNow (λ x. HasFilled wipe rule format (last_image x)) c → ReadsKeep (IsImageByte wipe format.geometry) b c
      → EachMoment c d (FromStart c (IsAmidFounding format.fields)) → IsWrittenBehindSync wipe rule format a d
  behind_found {a} {b} {c} reads first forgot second filled stays third = first_sync_then (IsUnsettled HasZeroHead) (IsAmidWriting wipe rule format) (IsAmidWriting wipe rule format) (IsAmidFounding format.fields)
      (λ start later e. e)
      (λ start middle later told told_middle amid image of.
      let is_filled = middle_is a b c start middle forgot second filled stays told told_middle in
      ⊎_elim (λ same. inl (same ∙ ap last_candidate (fill_first start middle is_filled.changes))) (λ head. inr (formatted_by start middle image reads is_filled head)) (amid image of))
      first third

  module _ (a b : List Content) (order : IsInOrder (IsUnsettled HasZeroHead) IsForgotten a b) (synced : HasNow (λ start. HasFirstSync (IsUnsettled HasZeroHead) IsForgotten a b) a)
      (forgot : content_now b ≡ option_map forgotten (content_now a)) where
    wider : (start : Content) → content_now a ≡ Some start → HasFirstSync (IsUnsettled HasZeroHead) (IsAmidWriting wipe rule format) a b
    wider start told = first_sync_weaker (IsUnsettled HasZeroHead) (IsUnsettled HasZeroHead) IsForgotten (IsAmidWriting wipe rule format) (λ start later e. e)
        (λ start later is image of. inl (only_candidate zero_sector (image 0) (subst (λ (xs : List (List ℕ)). Contains xs (image 0)) (ap (λ (x : Content). x 0) is ∙ forgotten_first start) (of 0)))) (synced start told)

    pub amid_fill : {c : List Content} → EachMoment b c (FromStart b (ChangesOnly (IsFillSector wipe format.geometry))) → IsWrittenInOrder wipe rule format a c
    amid_fill {c} second = in_order (IsUnsettled HasZeroHead) a c (IsAmidWriting wipe rule format)
        (λ none. silent (ChangesOnly (IsFillSector wipe format.geometry)) second (silent_order (IsUnsettled HasZeroHead) IsForgotten order none))
        (λ start told. behind_fill (wider start told) forgot second)

    module _ {c d : List Content} (reads : superblock_of (head_of format.fields) ≡ Ok format.fields) (second : EachMoment b c (FromStart b (ChangesOnly (IsFillSector wipe format.geometry))))
        (filled : HasNow (λ x. HasFilled wipe rule format (last_image x)) c) (stays : ReadsKeep (IsImageByte wipe format.geometry) b c)
        (third : EachMoment c d (FromStart c (IsAmidFounding format.fields))) where
      pub synced_found : HasNow (λ start. IsWrittenBehindSync wipe rule format a d) a
      synced_found start told = behind_found reads (behind_fill (wider start told) forgot second) forgot second filled stays third

      pub amid_found : IsWrittenInOrder wipe rule format a d
      amid_found = in_order (IsUnsettled HasZeroHead) a d (IsAmidWriting wipe rule format)
          (λ none. silent (IsAmidFounding format.fields) third (silent (ChangesOnly (IsFillSector wipe format.geometry)) second (silent_order (IsUnsettled HasZeroHead) IsForgotten order none)))
          synced_found

  -- ---- the end

  head_founded : (s : Superblock) (middle : Content) → length (head_of s) ≡ 512 → HasHead s middle (last_image (founded s middle))
  head_founded s middle one = record {
    head = last_image-with_one 0 (head_of s) (newest_only middle) one;
    others = λ n other. last_image-with_other 0 (head_of s) (newest_only middle) n one other;
  }

  pub written_is : (a b c d : List Content) → superblock_of (head_of format.fields) ≡ Ok format.fields → content_now b ≡ option_map forgotten (content_now a)
      → EachMoment b c (FromStart b (ChangesOnly (IsFillSector wipe format.geometry))) → HasNow (λ x. HasFilled wipe rule format (last_image x)) c → ReadsKeep (IsImageByte wipe format.geometry) b c
      → content_now d ≡ option_map (founded format.fields) (content_now c) → length (head_of format.fields) ≡ 512 → IsWritten wipe rule format a d
  written_is a b c d reads forgot second filled stays found one start told content told_content =
      let was = changed_now (founded format.fields) (content_now c) (content_now d) found content told_content in
      let is_filled = middle_is a b c start was.0 forgot second filled stays told was.1 in
      subst (λ (x : Content). IsNewContent wipe rule format start x) (sym was.2) (record {
        settled = newest_only-pending (with_run 0 (head_of format.fields) (newest_only was.0));
        image_ = formatted_by start was.0 (last_image (founded format.fields was.0)) reads is_filled (head_founded format.fields was.0 one);
      })
