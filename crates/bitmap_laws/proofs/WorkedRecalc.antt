-- The fresh disk, left with its bit set, is opened again: its region awaits, and is recalculated by a step, by a read, and by the
-- loop over its blocks. No law of these speaks of nothing.
use Rattle.std.proofs.Common.{◌≡◌, ℕ, ◌+◌, ◌==◌, ◌&&◌, Bool, true, if◌then◌else◌, refl, sym, ◌∙◌, ap, subst, arith, None, Some, List, [], ◌∷◌, length, replicate}
use Rattle.std.proofs.lemmas.Bool.{eqb-true}
use Rattle.std.proofs.lemmas.Option.{same_Some}
use Rattle.disk_model.specs.Disk.{Content, Image, IsImage, Reads, last_image, newest_only, sector_in, EachImage}
use Rattle.disk_model.specs.Moments.{HasNow, EachSince, EachMoment}
use Rattle.disk_model.proofs.DiskLemmas.{newest_only-last, newest_only-pending, only_candidate, sector_in-one}
use Rattle.disk_model.proofs.MomentsLemmas.{no_moment}
use Rattle.image_model.specs.Bitmap.{is_dirty}
use Rattle.image_model.specs.Cells.{Cell, placed_cells_of}
use Rattle.image_model.specs.Geometry.{data_at, sector_at, entry_size, entries_per_sector, section_entries, section_sectors, tag_run_of, regions}
use Rattle.device_model.specs.History.{Tagger, cells_now}
use Rattle.device_model.specs.Mode.{Bitmap}
use Rattle.device_model.specs.Progress.{DeviceState, Submit, Serve, Step, Recalc, FailedServe, after_event}
use Rattle.device_model.specs.Regions.{least_region}
use Rattle.device_model.specs.Reply.{block_reply}
use Rattle.device_model.specs.Request.{Request, Asked, newly_asked}
use Rattle.device_model.specs.Serial.{readable_cells}
use Rattle.device_model.specs.Submission.{Submission}
use Rattle.image_model.specs.declared.flags.TheConstants.{DIRTY_BITMAP}
use Rattle.image_model.specs.Superblock.{has_flag}
use Rattle.place_model.specs.Format.{DiskFormat, HasWholeSectors, format_on, tagger_of}
use Rattle.place_model.specs.Kind.{kind_in}
use Rattle.place_model.specs.Opened.{blocks_of, opened_on}
use Rattle.place_model.specs.Tags.{with_block_tag}
use Rattle.place_model.proofs.FormatLemmas.{format_on-is, opens_tells}
use Rattle.place_model.proofs.WorkedDisk.{bitmap_format}
use Rattle.journal_laws.specs.EventLaws.{IsServed}
use Rattle.direct_laws.specs.ServeLaws.{PutsTag}
use Rattle.bitmap_model.specs.BitmapDisk.{BitmapDisk, IsCutOf}
use Rattle.bitmap_model.specs.Opening.{opened_disk}
use Rattle.bitmap_model.specs.Steps.{after_recalculation, with_dirty}
use Rattle.bitmap_model.proofs.CutOfLemmas.{standing_law}
use Rattle.bitmap_model.proofs.OpeningLemmas.{opened_law}
use Rattle.bitmap_model.proofs.WorkedDisk.{fresh, regions-one, KeepsCells-dirty}
use Rattle.bitmap_laws.specs.CallLaws.{KeepsNow, StandsThrough, every_block, region_tags}
use Rattle.bitmap_laws.specs.CloseLaws.{cleared_below}
use Rattle.bitmap_laws.specs.Device.{IsBitmapDevice}
use Rattle.bitmap_laws.specs.EventLaws.{after_read}
use Rattle.bitmap_laws.specs.MomentLaws.{CanOpenNow, HasBitmap, HasBlocksOf, IsOpenedOn}
use Rattle.bitmap_laws.specs.OwnTags.{KeepsDisk, KeepsTagsOf}
use Rattle.bitmap_laws.specs.RecalcLaws.{TakesBelow}
use Rattle.bitmap_laws.specs.ServeLaws.{KeepsDevice, Recalculates}
use Rattle.bitmap_laws.proofs.CallLemmas.{block_read_law, kept_stands_law, still_law, own_through_law}
use Rattle.bitmap_laws.proofs.CloseLemmas.{clear_begins_law, clear_skips_law}
use Rattle.bitmap_laws.proofs.DeviceLemmas.{opening_law}
use Rattle.bitmap_laws.proofs.EventLemmas.{quiet_events_law}
use Rattle.bitmap_laws.proofs.MomentLemmas.{opening_done_law, opening_sync_law}
use Rattle.bitmap_laws.proofs.OwnTagLemmas.{own_tags_begin}
use Rattle.bitmap_laws.proofs.PromiseLemmas.{reopens_law, awaiting_law}
use Rattle.bitmap_laws.proofs.RecalcLemmas.{take_begins_law, take_ends_law, take_read_law, take_skips_law, take_stands_law, take_turn_law}
use Rattle.bitmap_laws.proofs.ServeLemmas.{region_taken_law, recalculated_law, served_read_law, failed_region_law}
use Rattle.bitmap_laws.proofs.WorkedServe.{format, marked_dirty}

-- ---- the image that is left

abbrev left : Content
left = newest_only marked_dirty

abbrev entry : Image
entry = last_image left

cut : IsCutOf (with_dirty fresh 0) entry
cut = standing_law (with_dirty fresh 0) left KeepsCells-dirty.stands entry (newest_only-last marked_dirty)

HasWholeSectors-left : HasWholeSectors bitmap_format entry
HasWholeSectors-left sector inside = (KeepsCells-dirty.stands.each sector (entry sector) (newest_only-last marked_dirty sector)).whole inside

is_dirty-left : is_dirty bitmap_format.geometry entry 0 ≡ true
is_dirty-left = cut.set 0 (omega (arith, regions-one)) refl

-- ---- a device on it

abbrev waiting : BitmapDisk
waiting = opened_disk bitmap_format entry

abbrev set_bits : ℕ → Bool
set_bits = is_dirty bitmap_format.geometry entry

abbrev placed_tags : ℕ → List ℕ
placed_tags b = (placed_cells_of bitmap_format.geometry entry b).tag

abbrev told_tags : Content → ℕ → List ℕ
told_tags c = placed_tags

abbrev start : List Content
start = left ∷ []

KeepsDisk-waiting : KeepsDisk waiting set_bits placed_tags left
KeepsDisk-waiting = record {
  cells = opened_law bitmap_format left placed_tags cut.opens refl (newest_only-pending marked_dirty) HasWholeSectors-left (λ b low. refl);
  own = (own_tags_begin bitmap_format entry left cut.opens refl HasWholeSectors-left (λ sector x has. only_candidate (entry sector) x has)).0;
}

pub KeepsNow-waiting : KeepsNow waiting set_bits told_tags start
KeepsNow-waiting c told = subst (KeepsDisk waiting set_bits placed_tags) (same_Some left c told) KeepsDisk-waiting

abbrev at_left : DeviceState
at_left = opened_on Bitmap bitmap_format entry

IsBitmapDevice-left : IsBitmapDevice format at_left waiting
IsBitmapDevice-left = opening_law bitmap_format entry refl

HasBlocksOf-left : HasBlocksOf entry waiting
HasBlocksOf-left = ap blocks_of (sym (format_on-is bitmap_format entry cut.opens))

-- An opening of it syncs, and the device is open then.
abbrev found_tags : Content → ℕ → List ℕ
found_tags c n = (placed_cells_of (format_on None 112 (last_image c)).geometry (last_image c) n).tag

CanOpenNow-left : CanOpenNow None 112 start
CanOpenNow-left c told = subst (λ (x : Content). HasBitmap None 112 (last_image x)) (same_Some left c told) (record {
  opens = reopens_law (with_dirty fresh 0) left KeepsCells-dirty.stands entry (newest_only-last marked_dirty);
  set = ap (λ (x : DiskFormat). has_flag DIRTY_BITMAP x.superblock.flags) (format_on-is bitmap_format entry cut.opens);
  whole = HasWholeSectors-left;
})

pub IsOpenedOn-left : HasNow (λ c. IsOpenedOn None 112 (last_image c) found_tags (newest_only left ∷ start)) start
IsOpenedOn-left = opening_done_law None 112 found_tags start (newest_only left ∷ start) (λ c told. subst (λ (x : Content). IsImage x (last_image x)) (same_Some left c told) (newest_only-last marked_dirty)) CanOpenNow-left refl
    (λ c told n low. refl)

pub IsLeft-opening : EachSince (λ c. let image = last_image c in let kind = kind_in Bitmap None 112 in EachImage (kind.MayBeLeft image (kind.opened image).history)) start (newest_only left ∷ start)
    × EachSince (λ c. let kind = kind_in Bitmap None 112 in EachImage kind.CanOpen) start (newest_only left ∷ start)
IsLeft-opening = opening_sync_law None 112 start (newest_only left ∷ start) (λ c told. subst (λ (x : Content). IsImage x (last_image x)) (same_Some left c told) (newest_only-last marked_dirty)) CanOpenNow-left
    (record { since = newest_only left ∷ []; grows = refl; each = (refl, tt) })

-- What awaits has its bit set in the image.
pub is_dirty-awaiting : is_dirty bitmap_format.geometry entry 0 ≡ true
is_dirty-awaiting = awaiting_law bitmap_format entry [] 0 refl (omega (arith, regions-one)) ((IsBitmapDevice-left.regions refl).awaiting 0 (omega (arith, regions-one)) ∙ is_dirty-left)

-- ---- its region is recalculated: all tags stay in memory

abbrev maker : Tagger
maker = tagger_of bitmap_format

abbrev made_tags : Content → ℕ → List ℕ
made_tags c = region_tags maker bitmap_format.geometry every_block 0 c placed_tags

-- Both contents are the one there is.
same_content : (one other : Content) → Some left ≡ Some one → Some left ≡ Some other → one ≡ other
same_content one other told_one told_other = same_Some one other (sym told_one ∙ told_other)

Recalculates-left : Recalculates maker bitmap_format.geometry every_block 0 told_tags made_tags start start
Recalculates-left = record {
  image = λ c told. subst (λ (x : Content). IsImage x (last_image x)) (same_Some left c told) (newest_only-last marked_dirty);
  adds = no_moment start _;
  others = λ s told c told_c. record { each = λ sector none. ap (λ (x : Content). last_image x sector) (same_content c s told_c told) };
  gives = λ s told c told_c b low. ap (λ (x : Content). made_tags x b) (same_content c s told_c told);
}

RegionTaken-left : StandsThrough waiting set_bits start start × KeepsNow (after_recalculation waiting 0) set_bits made_tags start
RegionTaken-left = region_taken_law waiting bitmap_format.geometry 0 maker set_bits told_tags made_tags start start refl (λ b bytes. refl) is_dirty-left KeepsNow-waiting Recalculates-left

-- At each moment the tags of other regions stay.
pub KeepsTagsOf-taken : EachMoment start start (EachImage (KeepsTagsOf waiting set_bits))
KeepsTagsOf-taken = own_through_law waiting set_bits start start RegionTaken-left.0

-- ---- by a step

find_first : (test : ℕ → Bool) → test 0 ≡ true → least_region 1 test ≡ Some 0
find_first test e = rw e refl

least-left : least_region (regions bitmap_format.geometry) waiting.awaiting ≡ Some 0
least-left = subst (λ (n : ℕ). least_region n set_bits ≡ Some 0) (sym regions-one) (find_first set_bits is_dirty-left)

pub KeepsDevice-recalculated : KeepsDevice format at_left (Step Recalc) entry waiting (after_recalculation waiting 0) start start
KeepsDevice-recalculated =
    recalculated_law format at_left waiting 0 entry set_bits made_tags start start IsBitmapDevice-left HasBlocksOf-left refl least-left RegionTaken-left.0 RegionTaken-left.1

-- ---- by none: a close leaves its bit set

pub KeepsNow-skipped : KeepsNow (cleared_below waiting 1) set_bits told_tags start
KeepsNow-skipped = clear_skips_law waiting 0 set_bits told_tags start (ap (λ (t : Bool). t && t) is_dirty-left ∙ sym is_dirty-left) (clear_begins_law waiting set_bits told_tags start KeepsNow-waiting)

-- ---- by a read of block 5

abbrev asked : Asked
asked = newly_asked (Request.Read 5 1) (replicate 512 7)

abbrev at_read : DeviceState
at_read = after_event format at_left (Submit (Submission.Read 5 1 (replicate 512 7)))

IsBitmapDevice-read : IsBitmapDevice format at_read waiting
IsBitmapDevice-read = quiet_events_law format at_left (Submit (Submission.Read 5 1 (replicate 512 7))) waiting IsBitmapDevice-left tt

IsServed-read : IsServed at_read 0 asked
IsServed-read = record { works = refl; there = refl; unfinished = refl; unheld = refl }

after_read-is : after_read waiting 5 ≡ after_recalculation waiting 0
after_read-is = ap (λ (t : Bool). if t then after_recalculation waiting 0 else waiting) is_dirty-left

KeepsNow-read : KeepsNow (after_read waiting 5) set_bits made_tags start
KeepsNow-read = subst (λ (d : BitmapDisk). KeepsNow d set_bits made_tags start) (sym after_read-is) RegionTaken-left.1

pub KeepsDevice-read : KeepsDevice format at_read (Serve 1) entry waiting (after_read waiting 5) start start × KeepsDevice format at_read (FailedServe 1) entry waiting (after_read waiting 5) start start
KeepsDevice-read = served_read_law format at_read waiting 0 asked 5 1 entry set_bits start start start IsBitmapDevice-read HasBlocksOf-left IsServed-read refl RegionTaken-left.0
    (still_law (after_read waiting 5) set_bits start start refl (kept_stands_law (after_read waiting 5) set_bits made_tags start KeepsNow-read))

-- Also where the disk fails before its region is done.
pub KeepsDevice-failed : KeepsDevice format at_read (FailedServe 1) entry waiting waiting start start
KeepsDevice-failed = failed_region_law format at_read waiting 0 asked 5 1 entry set_bits start start IsBitmapDevice-read HasBlocksOf-left IsServed-read refl RegionTaken-left.0

data_at-fifth : data_at bitmap_format.geometry 5 ≡ 109
unfolding data_at sector_at section_sectors section_entries entries_per_sector entry_size tag_run_of
data_at-fifth = refl

abbrev block_bytes : List ℕ
block_bytes = entry (data_at bitmap_format.geometry 5)

length-block : length block_bytes ≡ 512
length-block = HasWholeSectors-left (data_at bitmap_format.geometry 5) (omega (arith, data_at-fifth))

Reads-block : Reads (data_at bitmap_format.geometry 5) block_bytes left
Reads-block k low =
    let whole = length-block in
    let first : k ≡ 0 = omega (arith, low, whole) in
    let place : data_at bitmap_format.geometry 5 ≡ data_at bitmap_format.geometry 5 + 0 = omega arith in
    subst (λ (n : ℕ). sector_in block_bytes n ≡ last_image left (data_at bitmap_format.geometry 5 + n)) (sym first) (sector_in-one block_bytes 0 whole ∙ ap (last_image left) place)

-- It gives the bytes in place,
pub placed-block : block_bytes ≡ (placed_cells_of bitmap_format.geometry entry 5).bytes
placed-block = take_read_law bitmap_format.geometry 5 block_bytes left length-block Reads-block

-- so the block's cell by the history.
pub BlockRead-left : HasNow (λ c. let cell : Cell = record { bytes = block_bytes; tag = made_tags left 5 } in
    (readable_cells format (cells_now format.blocks.tag at_read.history) 5 ≡ cell)
    × (block_reply format.blocks.tag 5 (readable_cells format (cells_now format.blocks.tag at_read.history) 5) ≡ block_reply maker 5 cell)) start
BlockRead-left = block_read_law format at_read waiting 0 asked 5 1 set_bits made_tags start block_bytes (made_tags left 5) IsBitmapDevice-read IsServed-read refl KeepsNow-read length-block
    (λ c told. subst (Reads (data_at bitmap_format.geometry 5) block_bytes) (same_Some left c told) Reads-block)
    (λ c told. ap (λ (x : Content). made_tags x 5) (same_Some left c told))

-- ---- by the loop, of the first block alone

abbrev first_block : ℕ → Bool
first_block b = b == 0

abbrev put : List ℕ
put = maker 0 (placed_cells_of bitmap_format.geometry entry 0).bytes

abbrev put_tags : Content → ℕ → List ℕ
put_tags c = with_block_tag 0 put placed_tags

PutsTag-first : PutsTag bitmap_format.geometry 0 put told_tags put_tags start start
PutsTag-first = record {
  adds = no_moment start _;
  others = λ s told c told_c. record { each = λ sector none. ap (λ (x : Content). last_image x sector) (same_content c s told_c told) };
  gives = λ s told c told_c b low. refl;
}

TakesBelow-first : TakesBelow maker bitmap_format.geometry first_block 0 1 told_tags put_tags start start
TakesBelow-first = take_turn_law maker bitmap_format.geometry first_block 112 0 0 put told_tags told_tags put_tags start start start (opens_tells bitmap_format entry cut.opens).is_geometry (omega arith) refl refl
    (take_begins_law maker bitmap_format.geometry first_block 0 0 told_tags start (λ b low same waits. omega arith))
    (λ c told. ap (λ (x : Content). maker 0 (placed_cells_of bitmap_format.geometry (last_image x) 0).bytes) (same_Some left c told)) PutsTag-first

-- Meanwhile the disk stands for the same.
pub StandsThrough-turn : StandsThrough waiting set_bits start start
StandsThrough-turn = take_stands_law waiting maker bitmap_format.geometry 112 0 0 put set_bits told_tags told_tags start start start refl (λ b bytes. refl) is_dirty-left KeepsNow-waiting
    (opens_tells bitmap_format entry cut.opens).is_geometry (omega arith) refl (take_begins_law maker bitmap_format.geometry every_block 0 0 told_tags start (λ b low same waits. omega arith))
    (λ c told. ap (λ (x : Content). maker 0 (placed_cells_of bitmap_format.geometry (last_image x) 0).bytes) (same_Some left c told)) (no_moment start _)

-- The next block does not await, nor does any behind it.
pub Recalculates-first : Recalculates maker bitmap_format.geometry first_block 0 told_tags put_tags start start
Recalculates-first = take_ends_law maker bitmap_format.geometry first_block 0 2 told_tags put_tags start start
    (λ n low same waits. let first = eqb-true n 0 waits in omega arith) Recalculates-left.image
    (take_skips_law maker bitmap_format.geometry first_block 0 1 told_tags put_tags start start refl TakesBelow-first)
