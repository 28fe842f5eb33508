-- What is kept of an image tells which of its blocks are bad.
use Rattle.std.proofs.Common.{◌≡◌, inl, inr, ℕ, suc, ◌+◌, ◌-◌, ◌*◌, ◌<◌, ◌≤◌, true, false, refl, sym, ◌∙◌, ap, subst, arith, Option, Some, None, is_some, Bool, if◌then◌else◌, Result, IfOk, List, [], ◌∷◌, ◌++◌, bytes_eq, filter_map, filter, length, length-append}
use Rattle.std.specs.List.{range_with_len, slice_get}
use Rattle.std.proofs.lemmas.Bool.{cases_Bool}
use Rattle.std.proofs.lemmas.List.{append-nil, map-id}
use Rattle.std.proofs.lemmas.List.Elements.{filter-append, filter_map-append}
use Rattle.std.proofs.lemmas.List.FromFn.{map-range_with_len_more}
use Rattle.std.proofs.lemmas.Result.{IfOk-weaker}
use Rattle.std.proofs.lemmas.Slice.Eq.{bytes_eq-Decides}
use Rattle.disk_model.specs.Disk.{Content, Image, last_image}
use Rattle.disk_model.specs.Identity.{DiskIdentity, IsBound}
use Rattle.disk_model.specs.Moments.{HasNow, content_now}
use Rattle.image_model.specs.declared.flags.TheConstants.{DIRTY_BITMAP}
use Rattle.image_model.specs.Bitmap.{awaits}
use Rattle.image_model.specs.Cells.{Cell, block_tag, cells_of, counted_entries, last_entry, placed_cells_of, replayed_entries, salt_of}
use Rattle.image_model.specs.Openable.{IsReplayable}
use Rattle.image_model.specs.Section.{Entry}
use Rattle.image_model.specs.Superblock.{has_flag}
use Rattle.image_model.proofs.CellsLemmas.{cells_of-awaiting, cells_of-entry, cells_of-placed, counted_entries-bitmap, counted_entries-journal}
use Rattle.image_format.specs.declared.reading.ImageFormat.{ImageFormat}
use Rattle.image_format.specs.Format.{IsFormat, IsReadNow, disk_format}
use Rattle.hmac_tag.specs.TagMaker.{TagRule}
use Rattle.journal_model.proofs.PlaceLemmas.{last_entry-tells}
use Rattle.journal_reading.specs.Newest.{newest_in}
use Rattle.place_model.specs.Format.{DiskFormat, format_on}
use Rattle.sector_window.specs.Window.{HasRoom, Window}
use Rattle.sector_window.proofs.WindowLemmas.{fresh_window}
use Rattle.check_model.specs.Bad.{bad_block, bad_blocks, bad_by, bad_cell, bad_placed, first_bad_from}
use Rattle.check_model.specs.declared.bad.Bad.{Bad}
use Rattle.image_model.specs.declared.judged.What.{What}
use Rattle.image_model.specs.declared.judged.What.TheVariants.{Cells, Placed}
use Rattle.check_model.specs.declared.report.Report.{Report}
use Rattle.check_model.specs.Report.{IsReportOf, awaiting_below, awaiting_in, with_found}
use Rattle.image_check.specs.Checked.{Checked, IsCheckOf, IsJournalOf, IsLookedAt, IsSameCheck, awaiting_at, bad_kept, checked_format, is_passed}

-- ---- one block

-- Equal tags are not told.
bad_by-same : (block : ℕ) (stored computed : List ℕ) → stored ≡ computed → bad_by block stored computed ≡ None
bad_by-same block stored computed same =
    let equal : bytes_eq stored computed ≡ true = (bytes_eq-Decides stored computed).1 same in
    rw equal refl

some_of : {A : Type 0} (o : Option A) → is_some o ≡ true → (x : A) × (o ≡ Some x)
some_of None e = absurd (cc)
some_of (Some x) e = (x, refl)

none_of : {A : Type 0} (o : Option A) → is_some o ≡ false → o ≡ None
none_of None e = refl
none_of (Some x) e = absurd (cc)

module _ (rule : TagRule) (format : ImageFormat) (image : Image) (b : ℕ) where
  -- A block of which no entry counts has the tag of its bytes where it awaits, and else it is as it is placed.
  bare_cell : rule.salt ≡ salt_of format.fields → last_entry format.geometry (counted_entries format.fields format.geometry image) b ≡ None
      → (if awaits format.fields format.geometry image b then None else bad_placed rule.key rule.salt format.geometry image b)
      ≡ bad_cell rule.key rule.salt format.geometry b (cells_of rule.key format.fields format.geometry image b)
  bare_cell salt last =
      let s = format.fields in
      let g = format.geometry in
      let placed = placed_cells_of g image b in
      elim (cases_Bool (awaits s g image b)) [
        | inl waits ↦
            let tag = block_tag rule.key (salt_of s) g (b * g.shape.spb) placed.bytes in
            let cell : cells_of rule.key s g image b ≡ record { bytes = placed.bytes; tag = tag } = cells_of-awaiting rule.key s g image b last waits in
            let same : tag ≡ block_tag rule.key rule.salt g (b * g.shape.spb) placed.bytes = ap (λ (x : Option (List ℕ)). block_tag rule.key x g (b * g.shape.spb) placed.bytes) (sym salt) in
            rw waits (sym (ap (λ (x : Cell). bad_cell rule.key rule.salt g b x) cell ∙ bad_by-same b tag (block_tag rule.key rule.salt g (b * g.shape.spb) placed.bytes) same))
        | inr rests ↦
            let cell : cells_of rule.key s g image b ≡ placed = cells_of-placed rule.key s g image b last rests in
            rw rests (sym (ap (λ (x : Cell). bad_cell rule.key rule.salt g b x) cell))
      ]

  -- With a journal a block that has an entry has its tag.
  kept_cell : rule.salt ≡ salt_of format.fields → (newest : List (ℕ × ℕ)) → IsLookedAt rule format image newest
      → bad_kept Cells rule format (Some newest) image b ≡ bad_cell rule.key rule.salt format.geometry b (cells_of rule.key format.fields format.geometry image b)
  kept_cell salt newest is =
      let s = format.fields in
      let g = format.geometry in
      elim (cases_Bool (is_some (newest_in newest b))) [
        | inl has ↦
            let there = some_of (last_entry g (replayed_entries g image) b) (sym (is.index.each b) ∙ has) in
            let entry = there.0 in
            let tells = last_entry-tells (IsReplayable rule.key rule.salt g) g (replayed_entries g image) b entry is.index.right there.1 in
            let last = ap (λ (es : List Entry). last_entry g es b) (counted_entries-journal rule.key s g image is.no_bitmap) ∙ there.1 in
            let cell : cells_of rule.key s g image b ≡ record { bytes = entry.bytes; tag = entry.tag } = cells_of-entry rule.key s g image b entry last in
            let same : entry.tag ≡ block_tag rule.key rule.salt g (b * g.shape.spb) entry.bytes = tells.0.tag ∙ ap (λ n. block_tag rule.key rule.salt g n entry.bytes) tells.1 in
            rw has (sym (ap (λ (x : Cell). bad_cell rule.key rule.salt g b x) cell ∙ bad_by-same b entry.tag (block_tag rule.key rule.salt g (b * g.shape.spb) entry.bytes) same))
        | inr none ↦
            let nothing = none_of (last_entry g (replayed_entries g image) b) (sym (is.index.each b) ∙ none) in
            let last = ap (λ (es : List Entry). last_entry g es b) (counted_entries-journal rule.key s g image is.no_bitmap) ∙ nothing in
            rw none (bare_cell salt last)
      ]

  -- With a bitmap no entry counts.
  dirty_cell : rule.salt ≡ salt_of format.fields → has_flag DIRTY_BITMAP format.fields.flags ≡ true
      → bad_kept Cells rule format None image b ≡ bad_cell rule.key rule.salt format.geometry b (cells_of rule.key format.fields format.geometry image b)
  dirty_cell salt set =
      bare_cell salt (ap (λ (es : List Entry). last_entry format.geometry es b) (counted_entries-bitmap rule.key format.fields format.geometry image set))

  -- So it is of what is judged.
  kept_block : (sectors : ℕ) (what : What) (journal : Option (List (ℕ × ℕ))) → rule.salt ≡ salt_of format.fields
      → IsJournalOf what rule format image journal → bad_kept what rule format journal image b ≡ bad_block what (disk_format rule.key sectors format) image b
  kept_block sectors Cells None salt is =
      dirty_cell salt is ∙ ap (λ (x : Option (List ℕ)). bad_cell rule.key x format.geometry b (cells_of rule.key format.fields format.geometry image b)) salt
  kept_block sectors Cells (Some newest) salt is =
      kept_cell salt newest is ∙ ap (λ (x : Option (List ℕ)). bad_cell rule.key x format.geometry b (cells_of rule.key format.fields format.geometry image b)) salt
  kept_block sectors Placed journal salt is =
      ap (λ (o : Option (List (ℕ × ℕ))). bad_kept Placed rule format o image b) is
      ∙ ap (λ (x : Option (List ℕ)). bad_cell rule.key x format.geometry b (placed_cells_of format.geometry image b)) salt

-- ---- for callers

module _ (image : Checked) (disk : DiskIdentity) (moments : List Content) (is : IsCheckOf image disk moments) (c : Content) (told : content_now moments ≡ Some c) where
  -- The format of the disk is the one that is kept,
  pub own_is : checked_format image disk.sectors (last_image c) ≡ disk_format image.rule.key disk.sectors image.format
  own_is = is.own c told

  pub blocks_are : (checked_format image disk.sectors (last_image c)).geometry.blocks ≡ image.format.geometry.blocks
  blocks_are = ap (λ (d : DiskFormat). d.geometry.blocks) own_is

  -- and a block is bad where it is by what is kept.
  pub bad_is : (b : ℕ) → bad_kept image.what image.rule image.format image.journal (last_image c) b
      ≡ bad_block image.what (checked_format image disk.sectors (last_image c)) (last_image c) b
  bad_is b =
      kept_block image.rule image.format (last_image c) b disk.sectors image.what image.journal is.salt (is.journal c told)
      ∙ ap (λ (d : DiskFormat). bad_block image.what d (last_image c) b) (sym own_is)

-- ---- in order

module _ {X : Type 0} (f : ℕ → Option X) (end : ℕ) where
  -- Where the next one is not kept,
  pub kept-skip : (b : ℕ) → b < end → f b ≡ None → filter_map f (range_with_len b (end - b)) ≡ filter_map f (range_with_len (b + 1) (end - (b + 1)))
  kept-skip b low none =
      let split : end - b ≡ suc (end - (b + 1)) = omega arith in
      ap (λ n. filter_map f (range_with_len b n)) split ∙ rw none refl

  -- where it is,
  pub kept-next : (b : ℕ) (x : X) → b < end → f b ≡ Some x → filter_map f (range_with_len b (end - b)) ≡ x ∷ filter_map f (range_with_len (b + 1) (end - (b + 1)))
  kept-next b x low some =
      let split : end - b ≡ suc (end - (b + 1)) = omega arith in
      ap (λ n. filter_map f (range_with_len b n)) split ∙ rw some refl

  pub kept-here : (b : ℕ) (x : X) → b < end → f b ≡ Some x → slice_get (filter_map f (range_with_len b (end - b))) 0 ≡ Some x
  kept-here b x low some =
      ap (λ (xs : List X). slice_get xs 0) (kept-next b x low some)

  -- and where there is none.
  pub kept-nothing : (b : ℕ) → end ≤ b → filter_map f (range_with_len b (end - b)) ≡ []
  kept-nothing b high =
      let nothing : end - b ≡ 0 = omega arith in
      ap (λ n. filter_map f (range_with_len b n)) nothing

  pub kept-end : (b : ℕ) → end ≤ b → slice_get (filter_map f (range_with_len b (end - b))) 0 ≡ None
  kept-end b high =
      ap (λ (xs : List X). slice_get xs 0) (kept-nothing b high)

  -- One more.
  pub kept-more : (b : ℕ) → filter_map f (range_with_len 0 (b + 1)) ≡ filter_map f (range_with_len 0 b) ++ filter_map f (b ∷ [])
  kept-more b =
      let longer : range_with_len 0 (b + 1) ≡ range_with_len 0 b ++ b ∷ [] =
      sym (map-id (range_with_len 0 (b + 1))) ∙ map-range_with_len_more (λ k. k) 0 b b (omega arith) ∙ ap (λ (xs : List ℕ). xs ++ b ∷ []) (map-id (range_with_len 0 b)) in
      ap (filter_map f) longer ∙ filter_map-append f (range_with_len 0 b) (b ∷ [])

-- ---- a judgement, and what it tells of all blocks

-- What a block is judged to be.
abbrev pub judged_in : Checked → (sectors : ℕ) → Image → ℕ → Option Bad
judged_in i sectors image b = bad_block i.what (checked_format i sectors image) image b

-- The first bad block from a block on.
abbrev pub first_in : Checked → (sectors : ℕ) → Image → ℕ → Option Bad
first_in i sectors image from = first_bad_from i.what (checked_format i sectors image) image from

-- What is kept tells it, as it is seen: a block that is passed is not bad,
module _ (view image : Checked) (disk : DiskIdentity) (moments : List Content) (b : ℕ) (same : view ≡ image) (is : IsCheckOf image disk moments) where
  told_as : (c : Content) → content_now moments ≡ Some c → bad_kept view.what view.rule view.format view.journal (last_image c) b ≡ judged_in image disk.sectors (last_image c) b
  told_as c now = ap (λ (i : Checked). bad_kept i.what i.rule i.format i.journal (last_image c) b) same ∙ bad_is image disk moments is c now b

  -- What is bad of a block that is passed, or not.
  abbrev by_pass : Checked → Image → Bool → Option Bad
  by_pass i found passed = if passed then None else bad_placed i.rule.key i.rule.salt i.format.geometry found b

  pub passed_told : HasNow (λ c. true ≡ is_passed view.what view.format view.journal (last_image c) b) moments → HasNow (λ c. None ≡ judged_in image disk.sectors (last_image c) b) moments
  passed_told passed c now = ap (by_pass view (last_image c)) (passed c now) ∙ told_as c now

  -- and any other is what is placed.
  pub placed_told : {E : Type 0} (r : Result (Option Bad) E) (after : List Content) → after ≡ moments
      → HasNow (λ c. false ≡ is_passed view.what view.format view.journal (last_image c) b) moments
      → IfOk r (λ answer. HasNow (λ c. answer ≡ bad_placed view.rule.key view.rule.salt view.format.geometry (last_image c) b) after)
      → IfOk r (λ answer. HasNow (λ c. answer ≡ judged_in image disk.sectors (last_image c) b) moments)
  placed_told r after kept passed told = IfOk-weaker r _ _ (λ answer h c now.
      h c (ap content_now kept ∙ now) ∙ ap (by_pass view (last_image c)) (passed c now) ∙ told_as c now) told

-- It is the same of the same image.
judged_same : (old new : Checked) (sectors : ℕ) (image : Image) (b : ℕ) → IsSameCheck old new → judged_in new sectors image b ≡ judged_in old sectors image b
judged_same old new sectors image b same =
    ap (λ (what : What). bad_block what (checked_format new sectors image) image b) same.what
    ∙ ap (λ (rule : TagRule). let i : Checked = record old { rule = rule } in bad_block old.what (checked_format i sectors image) image b) same.rule

module _ (old new : Checked) (disk now : DiskIdentity) (before after : List Content) (is : IsCheckOf old disk before) (same : IsSameCheck old new) (e : now ≡ disk) (m : after ≡ before) where
  -- A judgement of the image as it is now is one of it as it was.
  pub judged_now : (answer : Option Bad) (b : ℕ) → HasNow (λ c. answer ≡ judged_in new now.sectors (last_image c) b) after → HasNow (λ c. answer ≡ judged_in old disk.sectors (last_image c) b) before
  judged_now answer b h c told =
      h c (ap content_now m ∙ told)
      ∙ ap (λ (d : DiskIdentity). judged_in new d.sectors (last_image c) b) e
      ∙ judged_same old new disk.sectors (last_image c) b same

  module _ (from b : ℕ) where
    -- Nothing is bad up to a block.
    abbrev pub NoneBefore : ℕ → Type 0
    NoneBefore k = HasNow (λ c. first_in old disk.sectors (last_image c) from ≡ first_in old disk.sectors (last_image c) k) before

    -- The block is not bad either,
    pub first-none : b < old.format.geometry.blocks → HasNow (λ c. None ≡ judged_in new now.sectors (last_image c) b) after → NoneBefore b → NoneBefore (b + 1)
    first-none low h none c told =
        let inside : b < (checked_format old disk.sectors (last_image c)).geometry.blocks = omega (arith, low, blocks_are old disk before is c told) in
        none c told
        ∙ ap (λ (xs : List Bad). slice_get xs 0) (kept-skip (judged_in old disk.sectors (last_image c)) (checked_format old disk.sectors (last_image c)).geometry.blocks b inside (sym (judged_now None b h c told)))

    -- it is the first,
    pub first-some : (bad : Bad) → b < old.format.geometry.blocks → HasNow (λ c. Some bad ≡ judged_in new now.sectors (last_image c) b) after → NoneBefore b
        → HasNow (λ c. Some bad ≡ first_in old disk.sectors (last_image c) from) before
    first-some bad low h none c told =
        let inside : b < (checked_format old disk.sectors (last_image c)).geometry.blocks = omega (arith, low, blocks_are old disk before is c told) in
        sym (none c told
        ∙ kept-here (judged_in old disk.sectors (last_image c)) (checked_format old disk.sectors (last_image c)).geometry.blocks b bad inside (sym (judged_now (Some bad) b h c told)))

    -- or there is none.
    pub first-end : old.format.geometry.blocks ≤ b → NoneBefore b → HasNow (λ c. None ≡ first_in old disk.sectors (last_image c) from) before
    first-end high none c told =
        let outside : (checked_format old disk.sectors (last_image c)).geometry.blocks ≤ b = omega (arith, high, blocks_are old disk before is c told) in
        sym (none c told ∙ kept-end (judged_in old disk.sectors (last_image c)) (checked_format old disk.sectors (last_image c)).geometry.blocks b outside)

  -- The list has the bad blocks up to a block,
  abbrev pub ListsBelow : ℕ → List Bad → Type 0
  ListsBelow k xs = HasNow (λ c. xs ≡ filter_map (judged_in old disk.sectors (last_image c)) (range_with_len 0 k)) before

  pub lists-next : (b : ℕ) (found : Option Bad) (xs : List Bad) → HasNow (λ c. found ≡ judged_in new now.sectors (last_image c) b) after → ListsBelow b xs → ListsBelow (b + 1) (with_found found xs)
  lists-next b None xs h lists c told =
      let f = judged_in old disk.sectors (last_image c) in
      let nothing : f b ≡ None = sym (judged_now None b h c told) in
      lists c told ∙ sym (kept-more f 0 b ∙ rw nothing (append-nil (filter_map f (range_with_len 0 b))))
  lists-next b (Some bad) xs h lists c told =
      let f = judged_in old disk.sectors (last_image c) in
      let here : f b ≡ Some bad = sym (judged_now (Some bad) b h c told) in
      ap (λ (ys : List Bad). ys ++ bad ∷ []) (lists c told) ∙ sym (kept-more f 0 b ∙ rw here refl)

  -- and in the end all.
  pub lists-all : (b : ℕ) (xs : List Bad) → b ≡ old.format.geometry.blocks → ListsBelow b xs
      → HasNow (λ c. xs ≡ bad_blocks old.what (checked_format old disk.sectors (last_image c)) (last_image c)) before
  lists-all b xs all lists c told =
      let count : b ≡ (checked_format old disk.sectors (last_image c)).geometry.blocks - 0 = omega (arith, all, blocks_are old disk before is c told) in
      lists c told ∙ ap (λ n. filter_map (judged_in old disk.sectors (last_image c)) (range_with_len 0 n)) count

-- What stays the same stays so.
pub IsSameCheck-refl : (i : Checked) → IsSameCheck i i
IsSameCheck-refl i = record { format = refl; rule = refl; what = refl; journal = refl }

pub IsSameCheck-then : (a b c : Checked) → IsSameCheck a b → IsSameCheck b c → IsSameCheck a c
IsSameCheck-then a b c x y = record { format = y.format ∙ x.format; rule = y.rule ∙ x.rule; what = y.what ∙ x.what; journal = y.journal ∙ x.journal }

-- It is still one of the disk, whatever was read of it.
pub read_check : (old new : Checked) (disk now : DiskIdentity) (before after : List Content) → now ≡ disk → after ≡ before → IsCheckOf old disk before → IsSameCheck old new
    → HasRoom 2 new.tags after → HasRoom 8 new.blocks after → HasRoom 1 new.bits after → IsCheckOf new now after
read_check old new disk now before after e m is same tags blocks bits =
    subst (λ (d : DiskIdentity). IsCheckOf new d after) (sym e) (record {
      bound = is.bound;
      format = subst (λ (f : ImageFormat). IsFormat disk.sectors f) (sym same.format) is.format;
      salt = ap (λ (r : TagRule). r.salt) same.rule ∙ is.salt ∙ ap (λ (f : ImageFormat). salt_of f.fields) (sym same.format);
      size = ap (λ (r : TagRule). r.size) same.rule ∙ is.size ∙ ap (λ (f : ImageFormat). f.geometry.shape.tag_size) (sym same.format);
      own = λ c told.
          ap (λ (r : TagRule). format_on r.key disk.sectors (last_image c)) same.rule
          ∙ is.own c (ap content_now (sym m) ∙ told)
          ∙ ap (λ (r : TagRule). disk_format r.key disk.sectors old.format) (sym same.rule)
          ∙ ap (disk_format new.rule.key disk.sectors) (sym same.format);
      journal = λ c told.
          subst (λ (o : Option (List (ℕ × ℕ))). IsJournalOf new.what new.rule new.format (last_image c) o) (sym same.journal)
          (subst (λ (f : ImageFormat). IsJournalOf new.what new.rule f (last_image c) old.journal) (sym same.format)
          (subst (λ (r : TagRule). IsJournalOf new.what r old.format (last_image c) old.journal) (sym same.rule)
          (subst (λ (w : What). IsJournalOf w old.rule old.format (last_image c) old.journal) (sym same.what)
          (is.journal c (ap content_now (sym m) ∙ told)))));
      tags = tags;
      blocks = blocks;
      bits = bits;
    })

-- ---- an opening

-- What is opened is of the disk.
pub opened_check : (image : Checked) (key : Option (List ℕ)) (disk now : DiskIdentity) (before after : List Content) → now ≡ disk → after ≡ before
    → IsBound disk.name → IsFormat disk.sectors image.format → HasNow (IsReadNow key disk.sectors image.format) before
    → (let rule : TagRule = record { key = key; salt = salt_of image.format.fields; size = image.format.geometry.shape.tag_size } in image.rule ≡ rule)
    → HasNow (λ c. IsJournalOf image.what image.rule image.format (last_image c) image.journal) before
    → (let tags : Window = record { room = 129; first = 0; bytes = [] } in image.tags ≡ tags)
    → (let blocks : Window = record { room = 512; first = 0; bytes = [] } in image.blocks ≡ blocks)
    → (let bits : Window = record { room = 128; first = 0; bytes = [] } in image.bits ≡ bits)
    → IsCheckOf image now after
opened_check image key disk now before after e m bound format reads rule journal tags blocks bits =
    let key_is : key ≡ image.rule.key = sym (ap (λ (r : TagRule). r.key) rule) in
    let is : IsCheckOf image disk before = record {
      bound = bound;
      format = format;
      salt = ap (λ (r : TagRule). r.salt) rule;
      size = ap (λ (r : TagRule). r.size) rule;
      own = λ c told. subst (λ (k : Option (List ℕ)). format_on k disk.sectors (last_image c) ≡ disk_format k disk.sectors image.format) key_is (reads c told).own;
      journal = journal;
      tags = fresh_window 2 129 image.tags before tags (omega arith);
      blocks = fresh_window 8 512 image.blocks before blocks (omega arith);
      bits = fresh_window 1 128 image.bits before bits (omega arith);
    } in
    subst (λ (d : DiskIdentity). IsCheckOf image d after) (sym e) (subst (λ (ms : List Content). IsCheckOf image disk ms) (sym m) is)

-- ---- the blocks that await

-- One block more, which awaits or not.
pub one_few : (awaiting : Bool) → (if awaiting then 1 else 0) ≤ 1
one_few true = omega arith
one_few false = omega arith

module _ (p : ℕ → Bool) (b : ℕ) where
  count_split : length (filter p (range_with_len 0 (b + 1))) ≡ length (filter p (range_with_len 0 b)) + length (filter p (b ∷ []))
  count_split =
      let longer : range_with_len 0 (b + 1) ≡ range_with_len 0 b ++ b ∷ [] =
      sym (map-id (range_with_len 0 (b + 1))) ∙ map-range_with_len_more (λ k. k) 0 b b (omega arith) ∙ ap (λ (xs : List ℕ). xs ++ b ∷ []) (map-id (range_with_len 0 b)) in
      ap (λ (xs : List ℕ). length (filter p xs)) longer ∙ ap length (filter-append p (range_with_len 0 b) (b ∷ [])) ∙ length-append (filter p (range_with_len 0 b)) (filter p (b ∷ []))

  pub count_next : (n : ℕ) (awaiting : Bool) → n ≡ length (filter p (range_with_len 0 b)) → awaiting ≡ p b
      → n + (if awaiting then 1 else 0) ≡ length (filter p (range_with_len 0 (b + 1)))
  count_next n true counted is =
      let one : length (filter p (b ∷ [])) ≡ 1 = rw (sym is) refl in
      omega (arith, counted, one, count_split)
  count_next n false counted is =
      let none : length (filter p (b ∷ [])) ≡ 0 = rw (sym is) refl in
      omega (arith, counted, none, count_split)

-- All of them.
pub awaiting_told : {E : Type 0} (view image : Checked) (disk : DiskIdentity) (moments : List Content) (r : Result ℕ E) → view ≡ image → IsCheckOf image disk moments
    → IfOk r (λ count. HasNow (λ c. count ≡ awaiting_below view.format.fields view.format.geometry (last_image c) view.format.geometry.blocks) moments)
    → IfOk r (λ count. HasNow (λ c. count ≡ awaiting_at image disk.sectors (last_image c)) moments)
awaiting_told view image disk moments r same is told = IfOk-weaker r _ _ (λ count h c now.
    h c now
    ∙ ap (λ (i : Checked). awaiting_below i.format.fields i.format.geometry (last_image c) i.format.geometry.blocks) same
    ∙ ap (λ (d : DiskFormat). awaiting_in d (last_image c)) (sym (own_is image disk moments is c now))) told

-- It is the same of the same image.
pub awaiting_same : (old new : Checked) (sectors : ℕ) (image : Image) → IsSameCheck old new → awaiting_at new sectors image ≡ awaiting_at old sectors image
awaiting_same old new sectors image same = ap (λ (rule : TagRule). awaiting_in (format_on rule.key sectors image) image) same.rule

-- ---- a report

pub report_is : (what : What) (key : Option (List ℕ)) (image : Checked) (disk : DiskIdentity) (moments : List Content) (report : Report) → IsCheckOf image disk moments
    → image.what ≡ what → image.rule.key ≡ key → report.blocks ≡ image.format.geometry.blocks
    → HasNow (λ c. report.awaiting ≡ awaiting_at image disk.sectors (last_image c)) moments
    → HasNow (λ c. report.bad.items ≡ bad_blocks image.what (checked_format image disk.sectors (last_image c)) (last_image c)) moments
    → HasNow (λ c. IsReportOf what (format_on key disk.sectors (last_image c)) (last_image c) report) moments
report_is what key image disk moments report is what_is key_is blocks awaiting bad c told =
    let here : IsReportOf image.what (checked_format image disk.sectors (last_image c)) (last_image c) report = record {
      blocks = blocks ∙ sym (blocks_are image disk moments is c told);
      awaiting = awaiting c told;
      bad = bad c told;
    } in
    let keyed = subst (λ (k : Option (List ℕ)). IsReportOf image.what (format_on k disk.sectors (last_image c)) (last_image c) report) key_is here in
    subst (λ (w : What). IsReportOf w (format_on key disk.sectors (last_image c)) (last_image c) report) what_is keyed
