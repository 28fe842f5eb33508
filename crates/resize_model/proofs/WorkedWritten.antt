-- The moments of the worked disk's resize: while blocks are added, and while its first sector is written; and of a disk to which
-- nothing is added. So no law of what is written and left speaks of nothing.
use Rattle.std.proofs.Common.{◌≡◌, ◌∙◌, ap, inl, inr, ℕ, ◌<◌, true, false, None, List, [], ◌∷◌, refl, sym, subst, arith}
use Rattle.std.proofs.Math.Path.{fun_ext}
use Rattle.std.proofs.lemmas.Option.{none-some, same_Some}
use Rattle.disk_model.specs.Disk.{Content, EachImage, Image, IsOfRun, OnlyAdds, last_image, newest_only, with_run}
use Rattle.disk_model.specs.Moments.{EachSince}
use Rattle.disk_model.proofs.DiskLemmas.{AddsSome-adds, AddsSome-all, IsOfRun-one, OnlyAdds-wider, newest_only-image, newest_only-last}
use Rattle.image_model.specs.Cells.{Cell}
use Rattle.image_model.specs.Geometry.{best_provided, best_provided_of, entries_per_sector, entry_size, section_entries, section_sectors, tag_run_of}
use Rattle.image_model.specs.Superblock.{Superblock, has_flag}
use Rattle.image_model.specs.declared.flags.TheConstants.{DIRTY_BITMAP}
use Rattle.journal_model.proofs.OpeningLemmas.{state_law}
use Rattle.run_model.specs.CommandRun.{IsUntouched}
use Rattle.place_model.specs.FirstSync.{IsOfOpening}
use Rattle.place_model.specs.Format.{DiskFormat, HasCells, OpensAs, cells_on}
use Rattle.place_model.proofs.FormatLemmas.{opens_tells, reads_from}
use Rattle.place_model.proofs.ReplayLemmas.{placed_cells_law}
use Rattle.place_model.proofs.WorkedDisk.{journal_format, fresh_journal, OpensAs-journal, replayed_entries-fresh, walk_of-fresh, zeros_journal, bitmap_format, fresh_bitmap}
use Rattle.resize_model.specs.AllPlaced.{IsAllPlaced}
use Rattle.resize_model.specs.Growth.{IsCutOf, cells_before}
use Rattle.resize_model.specs.Left.{CanOpenNow, IsInResizeOrder, IsLeftByResize, IsResizedContent, IsResizedInOrder, IsResizedOrNot}
use Rattle.resize_model.specs.Refusals.{CanResize, resize_fault_of}
use Rattle.resize_model.specs.Resized.{resized_provided}
use Rattle.resize_model.specs.Written.{IsBeforeGrowth, IsOfHead, IsToGrow, IsToTell, IsWrittenByResize, Growing, Recovering, Telling, head_then}
use Rattle.resize_model.proofs.LeftLemmas.{each_law, growth_left_law, in_order_law, order_law, own_format, refused_law, ungrown_done_law}
use Rattle.resize_model.proofs.RefusalLemmas.{resizes_law}
use Rattle.resize_model.proofs.WrittenLemmas.{growing_left_law, telling_left_law, ungrown_bitmap_law, ungrown_writes_law}
use Rattle.resize_model.proofs.WorkedGrowth.{longer, content, now_is, settled, OpensAs-longer, StandsFor-fresh}
use Rattle.resize_model.proofs.WorkedFilled.{w, filled, HasNewBlocks-filled, OnlyAdds-filled, settled-filled}
use Rattle.resize_model.proofs.Worked.{resize_fault_of-journal}
use Rattle.resize_model.proofs.WorkedFounded.{head-tells}

-- ---- what is written

-- A recovery may leave each image with its cells.
abbrev Recovers : Content → Content → Type 0
Recovers = IsOfOpening longer (cells_before w)

more-provided : longer.superblock.provided < resized_provided longer.superblock longer.sectors
unfolding best_provided_of best_provided tag_run_of entry_size entries_per_sector section_entries section_sectors
more-provided = omega arith

to-grow : IsToGrow Recovers longer content content
to-grow = record {
  more = more-provided;
  bitmap = λ set. absurd (let wrong : false ≡ true = set in cc);
  journal = λ clear. inl refl;
  settled = settled;
}

-- The blocks are added,
growing : IsWrittenByResize Recovers longer content filled
growing = Growing content to-grow OnlyAdds-filled

growing-left : EachImage (IsCutOf w) filled
growing-left = growing_left_law w content filled StandsFor-fresh OnlyAdds-filled

-- and the first sector tells of them.
to-tell : IsToTell w content filled
to-tell = record { written = OnlyAdds-filled; settled = settled-filled; new = HasNewBlocks-filled }

abbrev head : List ℕ
head = head_then longer (fresh_journal 0)

OnlyAdds-head : OnlyAdds (IsOfHead head) filled (with_run 0 head filled)
OnlyAdds-head = OnlyAdds-wider (IsOfRun 0 head) (IsOfHead head)
    (λ s x of. let is = IsOfRun-one 0 head s x head-tells.0 of in record { first = is.0; is = is.1 }) filled (with_run 0 head filled)
    (AddsSome-adds 0 head filled (with_run 0 head filled) (AddsSome-all 0 head filled))

telling : IsWrittenByResize Recovers longer content (with_run 0 head filled)
telling = Telling content filled to-grow to-tell OnlyAdds-head

telling-left : EachImage (IsCutOf w) (with_run 0 head filled)
telling-left = telling_left_law w head content filled (with_run 0 head filled) StandsFor-fresh to-tell head-tells.0 head-tells.1 OnlyAdds-head

-- Each image is then one or the other.
left : EachImage (IsResizedOrNot longer (cells_before w)) (with_run 0 head filled)
left = growth_left_law longer (cells_before w) fresh_journal (with_run 0 head filled) (λ b low. refl) telling-left

-- ---- the order

abbrev start : List Content
start = content ∷ []

can-open : CanOpenNow None 128 start
can-open = now_is _ content [] (newest_only-last content, subst (λ (d : DiskFormat). OpensAs d fresh_journal) (sym (own_format longer fresh_journal OpensAs-longer)) OpensAs-longer)

-- The disk is synced, and nothing is written yet.
abbrev synced : List Content
synced = newest_only content ∷ start

in-order : IsResizedInOrder None 128 start synced
in-order = order_law None 128 start synced synced can-open (record { since = newest_only content ∷ []; grows = refl; each = (refl, tt) }) (record { since = []; grows = refl; each = tt })

each-left : EachSince (IsLeftByResize None 128) start synced
each-left = each_law None 128 start synced in-order

-- The image can be resized, so it is refused for nothing.
can-resize : CanResize None 128 fresh_journal
can-resize = record {
  openable = OpensAs-longer.openable;
  fits = λ set. absurd (let wrong : false ≡ true = subst (λ (s : Superblock). has_flag DIRTY_BITMAP s.flags ≡ true) OpensAs-longer.superblock set in cc);
}

not-refused : resize_fault_of None 128 fresh_journal ≡ None
not-refused = (resizes_law None 128 fresh_journal).1 can-resize

in-resize-order : IsInResizeOrder None 128 start synced
in-resize-order = in_order_law None 128 start synced
    (λ first told fault refused. record { since = newest_only content ∷ []; grows = refl; each = (refl, tt) })
    (λ first told can. in-order)

-- A disk that is synced at most has no sector written.
untouched : EachSince IsUntouched start synced
untouched = refused_law start synced (record { since = newest_only content ∷ []; grows = refl; each = (refl, tt) })

-- An image that is refused is in order where it is synced at most, also where the disk fails.
abbrev refused : Content
refused sector = zeros_journal sector ∷ []

refused-order : IsInResizeOrder None 128 (refused ∷ []) (newest_only refused ∷ refused ∷ [])
refused-order = in_order_law None 128 (refused ∷ []) (newest_only refused ∷ refused ∷ [])
    (λ first told fault is. record { since = newest_only refused ∷ []; grows = refl; each = (refl, tt) })
    (λ first told can.
    let none = (resizes_law None 128 (last_image first)).1 can in
    let some = ap (λ (c : Content). resize_fault_of None 128 (last_image c)) (sym (same_Some refused first told)) ∙ resize_fault_of-journal in
    absurd (none-some _ (sym none ∙ some)))

-- ---- nothing is added

-- On its own 112 sectors the disk provides no more,
provided-same : resized_provided journal_format.superblock 112 ≡ 8
unfolding best_provided_of best_provided tag_run_of entry_size entries_per_sector section_entries section_sectors
provided-same = refl

abbrev own_cells : ℕ → Cell
own_cells = cells_on journal_format fresh_journal

-- so what is written is by a recovery,
before-growth : IsBeforeGrowth (IsOfOpening journal_format own_cells) journal_format content content
before-growth = ungrown_writes_law journal_format own_cells content content provided-same
    (Recovering (record { bitmap = λ set. absurd (let wrong : false ≡ true = set in cc); journal = λ clear. inl refl }))

-- and it is done then.
all-placed : IsAllPlaced journal_format own_cells fresh_journal
all-placed =
    let told = opens_tells journal_format fresh_journal OpensAs-journal in
    record {
      placed = record {
        reads = reads_from journal_format fresh_journal (record { head = told.head; has_geometry = told.has_geometry; is_geometry = told.is_geometry });
        each = λ b low. placed_cells_law journal_format fresh_journal b refl replayed_entries-fresh;
      };
      rests = record { next = 0; number = 1; at = (state_law journal_format.geometry 112 fresh_journal _ told.is_geometry walk_of-fresh).rest 0 1 refl };
    }

-- Its only image is that one.
only_image : (P : Image → Type 0) → P fresh_journal → EachImage P content
only_image P p image is = subst P (sym (fun_ext (newest_only-image content image is))) p

HasCells-own : HasCells journal_format own_cells fresh_journal
HasCells-own = record { opens = OpensAs-journal; each = λ b low. refl }

resized-own : IsResizedContent journal_format own_cells content
resized-own = ungrown_done_law journal_format own_cells content settled (only_image (HasCells journal_format own_cells) HasCells-own)
    (λ clear. only_image (IsAllPlaced journal_format own_cells) all-placed) provided-same

-- With a bitmap it is synced at most.
provided-bitmap : resized_provided bitmap_format.superblock 112 ≡ 8
unfolding best_provided_of best_provided tag_run_of entry_size entries_per_sector section_entries section_sectors
provided-bitmap = refl

abbrev with_bitmap : Content
with_bitmap sector = fresh_bitmap sector ∷ []

untouched-bitmap : IsUntouched with_bitmap (newest_only with_bitmap)
untouched-bitmap = ungrown_bitmap_law bitmap_format (cells_on bitmap_format fresh_bitmap) with_bitmap (newest_only with_bitmap) provided-bitmap refl
    (Recovering (record { bitmap = λ set. inr refl; journal = λ clear. absurd (let wrong : true ≡ false = clear in cc) }))
