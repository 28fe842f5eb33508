-- What is read of a block, as the history of the device has it.
use Rattle.std.proofs.Common.{◌≡◌, ℕ, ◌+◌, ◌*◌, ◌<◌, Bool, false, refl, sym, ◌∙◌, ap, subst, arith, Option, Some, None, List, [], ◌++◌, length, is_some}
use Rattle.std.proofs.lemmas.Option.{slice_get_within}
use Rattle.disk_model.specs.Disk.{Content, last_image}
use Rattle.disk_model.specs.Moments.{EachMoment, HasNow}
use Rattle.disk_model.proofs.MomentsLemmas.{EachMoment-weaker}
use Rattle.image_model.specs.Cells.{Cell, last_entry, salt_of}
use Rattle.image_model.specs.Geometry.{Geometry, data_at, region_of}
use Rattle.image_model.specs.Section.{Entry}
use Rattle.image_model.proofs.SectorLemmas.{bytes_at_read}
use Rattle.device_model.specs.History.{cells_now}
use Rattle.place_model.proofs.EachLemmas.{all_append, all_flat}
use Rattle.device_model.specs.Progress.{DeviceState, Working, is_journaled}
use Rattle.journal_laws.specs.Device.{IsJournalOf}
use Rattle.journal_laws.specs.PromiseLaws.{newest_entry}
use Rattle.journal_laws.proofs.FormatLemmas.{blocks-is}
use Rattle.journal_laws.proofs.JournaledLemmas.{is_journaled_law}
use Rattle.journal_laws.proofs.PromiseLemmas.{cell_is, journaled_read_law, placed_law, standing_left_law}
use Rattle.journal_model.specs.Entries.{IsBlockEntry}
use Rattle.journal_model.specs.JournaledDisk.{StandsFor}
use Rattle.journal_model.specs.Ring.{JournalRing, entries_of, uncommitted_entries}
use Rattle.journal_model.proofs.PlaceLemmas.{cell_after-cells}
use Rattle.journal_overlay.specs.Kept.{Places, newest_of}
use Rattle.image_model.specs.declared.entry_place.EntryPlace.{EntryPlace}
use Rattle.journal_ring.specs.Places.{entries_at}
use Rattle.recalculate_laws.specs.Taking.{KeepsAwaitingNow}
use Rattle.recalculate_laws.proofs.DeviceLemmas.{whole_read_law}
use Rattle.replay.specs.DeclaredPlacement.{Placement}
use Rattle.tag_store.specs.Store.{Store, given_tags}
use Rattle.journal_mode.specs.Journal.{IsJournal, PlacedRing, sections_of}
use Rattle.journal_mode.specs.Reads.{GivesBlock, IsCellNow, ReadsPlaced, newest_in}
use Rattle.journal_mode.specs.Standing.{IsLeftThrough, JournalStanding, StandsAs}
use Rattle.journal_mode.proofs.NewestLemmas.{IsNewest, TellsNewest, tells_newest}

-- ---- what the overlay tells

module _ (ring : JournalRing) (p : Placement) (overlay : Places) (is : IsJournal ring p overlay) (block : ℕ) where
  told : (o : Option EntryPlace) → newest_of block overlay.kept ≡ o → TellsNewest ring block o
  told o e = subst (TellsNewest ring block) (sym (ap (newest_of block) is.kept) ∙ e) (tells_newest ring block is.geometry.spb.0 is.bounds is.placement.ring_)

  pub found : (place : EntryPlace) → Some place ≡ newest_of block overlay.kept → IsNewest ring block place
  found place e = told (Some place) (sym e)

  pub absent : None ≡ newest_of block overlay.kept → newest_in ring block ≡ None
  absent e = told None (sym e)

pub entry_low : (ring : JournalRing) (block : ℕ) (place : EntryPlace) → (is : IsNewest ring block place) → place.entry < length (entries_at ring place.section)
entry_low ring block place is = slice_get_within (entries_at ring place.section) place.entry is.entry is.there

pub held_is : (ring : JournalRing) (p : Placement) (overlay : Places) → IsJournal ring p overlay → (block : ℕ) → is_some (newest_of block overlay.kept) ≡ is_some (newest_in ring block)
held_is ring p overlay is block = by (newest_of block overlay.kept) (told ring p overlay is block (newest_of block overlay.kept) refl)
  where
    by : (o : Option EntryPlace) → TellsNewest ring block o → is_some o ≡ is_some (newest_in ring block)
    by None none = sym (ap (λ (x : Option Entry). is_some x) none)
    by (Some place) found_ = sym (ap (λ (x : Option Entry). is_some x) found_.newest)

pub counts_hold : (w : JournalStanding) (ring : JournalRing) (block : ℕ) → IsJournalOf w.format w.history w.counts w.disk ring → is_some (newest_in ring block) ≡ is_journaled w.counts block
counts_hold w ring block device =
    ap (λ (g : Geometry). is_some (last_entry g (entries_of (sections_of ring)) block)) device.is_ring.geometry
    ∙ sym (is_journaled_law w.format w.history w.counts w.disk ring block device)

-- ---- what the history says

-- A device that works, with this history and these counts.
abbrev state_of : JournalStanding → DeviceState
state_of w = record {
  history = w.history;
  progress = record { requests = []; journal = w.counts; regions = record { set_bits = λ region. false; awaiting = λ region. false; fresh = λ region. false } };
  condition = Working;
}

module _ (w : JournalStanding) (journal : PlacedRing) (store : Store) (moments : List Content) (block : ℕ)
    (stands : StandsAs w journal store moments) (idle : w.history.pending ≡ None) (low : block < journal.ring.geometry.blocks) where
  newest_same : newest_in journal.ring block ≡ newest_entry w.disk journal.ring block
  newest_same = ap (λ (g : Geometry). last_entry g (entries_of (sections_of journal.ring)) block) stands.device.is_ring.geometry

  inside : block < w.disk.geometry.blocks
  inside = omega (arith, low, ap (λ (g : Geometry). g.blocks) stands.device.is_ring.geometry)

  low_there : block < w.format.blocks.blocks
  low_there = omega (arith, inside, blocks-is w.format w.disk.format stands.device.format)

  pub gives_entry : (entry : Entry) → newest_in journal.ring block ≡ Some entry → GivesBlock w block entry.bytes entry.tag
  gives_entry entry newest =
      let is = journaled_read_law w.format w.history w.counts w.disk journal.ring block entry stands.device idle low_there (sym newest_same ∙ newest) in
      record {
        bytes_ = sym (ap (λ (cell : Cell). cell.bytes) is);
        tag_ = λ rests. sym (ap (λ (cell : Cell). cell.tag) is);
      }

  pub entry_cell : (entry : Entry) → newest_in journal.ring block ≡ Some entry → IsCellNow w block entry.bytes entry.tag
  entry_cell entry newest =
      let is = journaled_read_law w.format w.history w.counts w.disk journal.ring block entry stands.device idle low_there (sym newest_same ∙ newest) in
      record {
        bytes_ = sym (ap (λ (cell : Cell). cell.bytes) is);
        tag_ = sym (ap (λ (cell : Cell). cell.tag) is);
      }

  -- The cell has as many bytes as a block.
  cell_size : length (cells_now w.format.blocks.tag w.history block).bytes ≡ 512 * w.disk.geometry.shape.spb
  cell_size =
      let d = w.disk in
      let r = journal.ring in
      let P : Entry → Type 0 = IsBlockEntry d.key (salt_of d.superblock) d.geometry in
      let formed = stands.device.sound.formed in
      let all = all_append P d.entries (uncommitted_entries r) formed.each (all_flat P r.opened stands.device.is_ring.each) in
      let are = cell_after-cells d.format d.base (d.entries ++ uncommitted_entries r) formed.is_geometry formed.base all in
      ap (λ (cell : Cell). length cell.bytes) (cell_is w.format w.history w.counts d r block stands.device idle low_there)
      ∙ are.bytes block inside

  pub gives_placed : (bytes tag : List ℕ) → length bytes ≡ 512 * store.geometry.shape.spb → newest_in journal.ring block ≡ None → ReadsPlaced block bytes tag store moments → HasNow (λ c. GivesBlock w block bytes tag) moments
  gives_placed bytes tag size none reads c told =
      let d = w.disk in
      let cells = stands.placed.cells in
      let spb = d.geometry.shape.spb in
      let cell : Cell = cells_now w.format.blocks.tag w.history block in
      let whole : length bytes ≡ 512 * spb = size ∙ ap (λ (g : Geometry). 512 * g.shape.spb) (sym cells.geometry) in
      let gives = placed_law w.format w.history w.counts d journal.ring block (given_tags store c) c stands.device idle low_there (sym newest_same ∙ none) (cells.now c told) in
      let at_ : data_at store.geometry block ≡ data_at d.geometry block = ap (λ (g : Geometry). data_at g block) (sym cells.geometry) in
      record {
        bytes_ =
            bytes_at_read (last_image c) (data_at d.geometry block) spb bytes whole
            (λ k k_low. reads.data_ c told k (omega (arith, k_low, whole)) ∙ ap (λ (at : ℕ). last_image c (at + k)) at_)
            ∙ sym (bytes_at_read (last_image c) (data_at d.geometry block) spb cell.bytes cell_size (λ k k_low. sym (gives.data_ k k_low)));
        tag_ = λ rests. reads.tag_ c told ∙ gives.tag_ rests;
      }

  -- Where the tags of its region are made that is its cell, tag and all.
  pub placed_cell : (awaiting : ℕ → Bool) (bytes tag : List ℕ) → length bytes ≡ 512 * store.geometry.shape.spb → newest_in journal.ring block ≡ None → KeepsAwaitingNow w.disk awaiting (given_tags store) moments
      → awaiting (region_of w.disk.geometry block) ≡ false → ReadsPlaced block bytes tag store moments → HasNow (λ c. IsCellNow w block bytes tag) moments
  placed_cell awaiting bytes tag size none keeps rested reads c told =
      let whole = whole_read_law w.format (state_of w) w.disk journal.ring awaiting block (given_tags store c) c stands.device idle inside (sym newest_same ∙ none) rested (keeps c told) in
      record {
        bytes_ = (gives_placed bytes tag size none reads c told).bytes_;
        tag_ = reads.tag_ c told ∙ whole.tag_;
      }

-- ---- within a call

-- Where the disk stands for what the device says, each image may be left of it.
pub left_standing : (w : JournalStanding) (journal : PlacedRing) (store : Store) {before after : List Content} → StandsAs w journal store before → EachMoment before after (StandsFor w.disk) → IsLeftThrough w before after
left_standing w journal store stands m = EachMoment-weaker (λ c. standing_left_law w.format w.history w.counts w.disk journal.ring c stands.device) m
