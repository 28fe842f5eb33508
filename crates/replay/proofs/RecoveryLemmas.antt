-- From the image at the entry of a recovery to what the disk stands for.
use Rattle.std.proofs.Common.{◌≡◌, inl, inr, ℕ, ◌<◌, false, refl, sym, ◌∙◌, ap, subst, arith, Some, List, [], length, take}
use Rattle.std.proofs.lemmas.Option.{same_Some}
use Rattle.std.proofs.lemmas.List.{take_all}
use Rattle.disk_model.specs.Disk.{Content, EachImage, Image, last_image, sector_in}
use Rattle.disk_model.specs.Moments.{EachMoment, content_now}
use Rattle.disk_model.proofs.MomentsLemmas.{EachMoment-weaker}
use Rattle.image_model.specs.declared.flags.TheConstants.{DIRTY_BITMAP}
use Rattle.image_model.specs.Cells.{Cell, last_entry, placed_cells_of, recalculated_cell, replayed_entries}
use Rattle.image_model.specs.Geometry.{Geometry, section_sectors}
use Rattle.image_model.specs.Section.{Entry}
use Rattle.image_model.specs.Superblock.{has_flag}
use Rattle.image_model.specs.Tables.{IsAtRest}
use Rattle.image_model.proofs.BitmapLemmas.{awaits-journal}
use Rattle.image_model.proofs.NumberLemmas.{cases_option}
use Rattle.place_model.specs.Format.{DiskFormat, HasCells as HasImageCells, HasWholeSectors, cells_on}
use Rattle.place_model.specs.Journal.{numbers_on}
use Rattle.place_model.proofs.FormatLemmas.{opens_tells}
use Rattle.place_model.proofs.PlacedLemmas.{placed_sector, recalculated-bytes, recalculated-tag}
use Rattle.journal_model.specs.Entries.{cell_after}
use Rattle.journal_model.specs.JournaledDisk.{IsCutOf, JournaledDisk, Rests, StandsFor, cell_at}
use Rattle.journal_model.specs.Opening.{opened_disk, with_new_base}
use Rattle.journal_model.specs.Recovery.{IsRecovered}
use Rattle.journal_model.specs.Steps.{KeepsCells, after_settle}
use Rattle.journal_model.proofs.CutOfLemmas.{cut_of_standing}
use Rattle.journal_model.proofs.EntriesLemmas.{cell_after-none, cell_after-some}
use Rattle.journal_model.proofs.OpeningLemmas.{base_cells_law, opened_cells_law, opened_law, rebased_law}
use Rattle.journal_reading.specs.declared.reading.JudgedJournal.{JudgedJournal}
use Rattle.journal_reading.specs.Journal.{IsJournalOn}
use Rattle.place_writer.specs.Cells.{HasCells}
use Rattle.disk_model.specs.Identity.{DiskIdentity}
use Rattle.tag_store.specs.Store.{Store, given, given_tags}
use Rattle.replay.specs.declared.recovered.Recovered.{Recovered}
use Rattle.replay.specs.Recovery.{EntersRecovery, IsReplayed, LeavesRecovered}
use Rattle.replay.specs.Replaying.{IsToReplay, all_placed, with_placed}

module _ (f : DiskFormat) (sectors : ℕ) (store : Store) (c : Content) (enters : EntersRecovery f sectors store c) where
  abbrev image : Image
  image = last_image c

  module _ (whole : (sector : ℕ) → sector < sectors → length (image sector) ≡ 512) where
    whole_there : HasWholeSectors f image
    whole_there sector low = whole sector (omega (arith, enters.sectors_are))

    -- the disk stands for that,
    pub stands : StandsFor (opened_disk f image) c
    stands = opened_law f c enters.opens enters.no_bitmap enters.pending whole_there

    placed_cell : (b : ℕ) → cell_at (opened_disk f image) 0 b ≡ recalculated_cell f.key f.superblock f.geometry image b
    placed_cell b = cell_after-none f.geometry (recalculated_cell f.key f.superblock f.geometry image) [] b refl

    -- and reads of it and of the store give what is placed.
    pub keeps : KeepsCells (opened_disk f image) (given_tags store c) c
    keeps =
        let told = opens_tells f image enters.opens in
        record {
          stands = stands;
          reads = record {
            each = λ b k low k_low.
                sym (ap (λ (cell : Cell). sector_in cell.bytes k) (placed_cell b)
                ∙ ap (λ (xs : List ℕ). sector_in xs k) (recalculated-bytes f.key f.superblock f.geometry image b)
                ∙ placed_sector f.geometry f.sectors image b k told.is_geometry whole_there low k_low);
          };
          tags_are = record {
            each = λ b low rests.
                ap (λ (g : Geometry). (placed_cells_of g (given store c) b).tag) (sym enters.geometry)
                ∙ ap (λ (other : Image). (placed_cells_of f.geometry other b).tag) enters.fresh
                ∙ sym (recalculated-tag f.key f.superblock f.geometry image b (awaits-journal f.superblock f.geometry image b enters.no_bitmap ∙ rests))
                ∙ ap (λ (cell : Cell). cell.tag) (sym (placed_cell b));
          };
        }

    -- So it has its cells.
    pub has_cells : (moments : List Content) → content_now moments ≡ Some c → HasCells (opened_disk f image) store moments
    has_cells moments told = record {
      sound = stands.sound;
      geometry = enters.geometry;
      now = λ other now. subst (λ (x : Content). KeepsCells (opened_disk f image) (given_tags store x) x) (same_Some _ _ (sym told ∙ now)) keeps;
    }

-- ---- while entries are placed

-- The cells of each image are those of the image at the entry.
pub cells_stay : (f : DiskFormat) (image : Image) {a b : List Content} → has_flag DIRTY_BITMAP f.superblock.flags ≡ false
    → EachMoment a b (StandsFor (all_placed (opened_disk f image))) → EachMoment a b (EachImage (HasImageCells f (cells_on f image)))
cells_stay f image clear m = EachMoment-weaker (λ c stands.
    base_cells_law (all_placed (opened_disk f image)) (cells_on f image) c (λ b low. opened_cells_law f image clear b)
    (cut_of_standing (all_placed (opened_disk f image)) c stands)) m

-- ---- with what a call knows

module _ (f : DiskFormat) (g : Geometry) (disk : DiskIdentity) (store : Store) (before : List Content) (start : Content)
    (same : g ≡ store.geometry) (told : content_now before ≡ Some start)
    (whole : (sector : ℕ) → sector < disk.sectors → length (last_image start sector) ≡ 512) (enters : EntersRecovery f disk.sectors store start) where
  -- The disk has its cells before anything is placed,
  pub cells_before : HasCells (opened_disk f (last_image start)) store before
  cells_before = has_cells f disk.sectors store start enters whole before told

  geometry_is : (opened_disk f (last_image start)).geometry ≡ g
  geometry_is = enters.geometry ∙ sym same

  entries_are : (opened_disk f (last_image start)).entries ≡ replayed_entries g (last_image start)
  entries_are = ap (λ (x : Geometry). replayed_entries x (last_image start)) geometry_is

  -- and its entries are to be replayed.
  pub entries_before : IsToReplay (opened_disk f (last_image start)) g (last_image start)
  entries_before = record { geometry = geometry_is; journal = refl; entries = entries_are; none = refl }

  -- Once they are settled they are replayed.
  pub replayed_after : (journal : JudgedJournal) → IsJournalOn g (last_image start) journal → IsReplayed (after_settle (all_placed (opened_disk f (last_image start)))) g journal
  replayed_after journal on = record {
    geometry = geometry_is;
    whole = λ sector low. whole sector (omega (arith, low, enters.sectors_are));
    on = on;
    entries = entries_are;
    settled = refl;
    placed = refl;
  }

  -- The cells stay while they are placed.
  pub cells_through : {a after : List Content} → EachMoment a after (StandsFor (all_placed (opened_disk f (last_image start))))
      → EachMoment a after (EachImage (HasImageCells f (cells_on f (last_image start))))
  cells_through m = cells_stay f (last_image start) enters.no_bitmap m

-- Where there are no entries all are placed.
pub none_placed : (d : JournaledDisk) (store : Store) (moments : List Content) → d.placed ≡ 0 → length d.entries ≡ 0 → HasCells d store moments → HasCells (all_placed d) store moments
none_placed d store moments none empty has = subst (λ (n : ℕ). HasCells (with_placed n d) store moments) (none ∙ sym empty) has

-- ---- once they are settled

module _ (d : JournaledDisk) (next number : ℕ) where
  -- Where writing goes on is told beside what the disk stands for.
  abbrev pub moved : JournaledDisk
  moved = record d { next = next; number = number }

  StandsFor-moved : (c : Content) → StandsFor d c → StandsFor moved c
  StandsFor-moved c stands = record {
    sound = record {
      formed = record {
        has_geometry = stands.sound.formed.has_geometry;
        is_geometry = stands.sound.formed.is_geometry;
        no_bitmap = stands.sound.formed.no_bitmap;
        settled_low = stands.sound.formed.settled_low;
        placed_low = stands.sound.formed.placed_low;
        base = stands.sound.formed.base;
        each = stands.sound.formed.each;
      };
      has_walk = stands.sound.has_walk;
      held = stands.sound.held;
      start_low = stands.sound.start_low;
    };
    each = λ sector x is.
        let may = stands.each sector x is in
        record {
          outside = record {
            whole = may.outside.whole;
            head = may.outside.head;
            in_place = record { data_ = may.outside.in_place.data_; tags = may.outside.in_place.tags };
          };
          journal = may.journal;
        };
  }

-- Entries change no cell of those after them.
pub cell_after-again : (d : JournaledDisk) (b : ℕ) → cell_after d.geometry (cell_after d.geometry d.base d.entries) d.entries b ≡ cell_after d.geometry d.base d.entries b
cell_after-again d b = elim (cases_option (last_entry d.geometry d.entries b)) [
  | inr some ↦ cell_after-some d.geometry (cell_after d.geometry d.base d.entries) d.entries b some.0 some.1 ∙ sym (cell_after-some d.geometry d.base d.entries b some.0 some.1)
  | inl none ↦ cell_after-none d.geometry (cell_after d.geometry d.base d.entries) d.entries b none
]

pub KeepsCells-moved : (d : JournaledDisk) (next number : ℕ) (tags : ℕ → List ℕ) (c : Content) → KeepsCells d tags c → KeepsCells (moved d next number) tags c
KeepsCells-moved d next number tags c keeps = record {
  stands = StandsFor-moved d next number c keeps.stands;
  reads = keeps.reads;
  tags_are = record { each = keeps.tags_are.each };
}

-- A disk at rest on which all entries are settled is recovered, where it has the format and the cells.
unfoldable pub settled_recovered : (d now : JournaledDisk) (tags : ℕ → List ℕ) (c : Content) → KeepsCells now tags c → Rests now
    → now.settled ≡ length now.entries → now.placed ≡ length now.entries → now.format ≡ d.format
    → ((b : ℕ) → b < d.geometry.blocks → cell_after now.geometry now.base now.entries b ≡ cell_after d.geometry d.base d.entries b)
    → IsRecovered d now.next now.number tags c
settled_recovered d now tags c keeps rests settled placed format cells = record {
  now = with_new_base now;
  keeps = record {
    stands = rebased_law now c keeps.stands settled;
    reads = record { each = λ b k low k_low. keeps.reads.each b k low k_low ∙ ap (λ (cell : Cell). sector_in cell.bytes k) (same b) };
    tags_are = record { each = λ b low rest. keeps.tags_are.each b low rest ∙ ap (λ (cell : Cell). cell.tag) (same b) };
  };
  rests = record { at = rests.at };
  next_is = refl;
  number_is = refl;
  settled = settled;
  same_format = format;
  cells = cells;
  again = λ b low. cell_after-again now b;
}
  where
    same : (b : ℕ) → cell_at now now.placed b ≡ cell_at (with_new_base now) now.placed b
    same b =
        let all : take now.placed now.entries ≡ now.entries = take_all now.placed now.entries (omega (arith, placed)) in
        ap (λ (entries : List Entry). cell_after now.geometry now.base entries b) all
        ∙ sym (cell_after-again now b)
        ∙ ap (λ (entries : List Entry). cell_after now.geometry (cell_after now.geometry now.base now.entries) entries b) (sym all)

-- So is one whose journal was at rest at the entry.
pub rest_recovered : (d : JournaledDisk) (next number : ℕ) (tags : ℕ → List ℕ) (c : Content) → KeepsCells (after_settle (all_placed d)) tags c
    → IsAtRest d.geometry.sections (section_sectors d.geometry.shape) next number (numbers_on d.geometry d.journal) → IsRecovered d next number tags c
rest_recovered d next number tags c keeps at =
    settled_recovered d (moved (after_settle (all_placed d)) next number) tags c (KeepsCells-moved (after_settle (all_placed d)) next number tags c keeps)
    (record { at = at }) refl refl refl (λ b low. refl)

-- What is left of a disk with its entries placed and settled is left of it before that.
pub leaves_same : (d : JournaledDisk) (at : Recovered) (tags : ℕ → List ℕ) (c : Content) → LeavesRecovered (after_settle (all_placed d)) at tags c → LeavesRecovered d at tags c
leaves_same d at tags c left =
    let is = left.recovered in
    record {
      recovered = record {
        now = is.now;
        keeps = is.keeps;
        rests = is.rests;
        next_is = is.next_is;
        number_is = is.number_is;
        settled = is.settled;
        same_format = is.same_format;
        cells = is.cells;
        again = is.again;
      };
      pending = left.pending;
      unused = left.unused;
    }

-- While such a disk is erased the cells of each image are those of the image at the entry.
pub cells_stay_erased : (f : DiskFormat) (image : Image) {a b : List Content} → has_flag DIRTY_BITMAP f.superblock.flags ≡ false
    → EachMoment a b (EachImage (IsCutOf (after_settle (all_placed (opened_disk f image))) [])) → EachMoment a b (EachImage (HasImageCells f (cells_on f image)))
cells_stay_erased f image clear m = EachMoment-weaker (λ c cuts.
    base_cells_law (after_settle (all_placed (opened_disk f image))) (cells_on f image) c (λ b low. opened_cells_law f image clear b) cuts) m
