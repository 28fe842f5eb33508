-- What a close leaves: all is committed and placed, and then settled.
use Rattle.std.proofs.Common.{◌≡◌, ◌⊎◌, ⊎_elim, ℕ, ◌+◌, ◌-◌, ◌<◌, ◌≤◌, Bool, if◌then◌else◌, refl, sym, ◌∙◌, ap, subst, arith, None, List, [], ◌∷◌, ◌++◌, length, length-append, take, append-nil}
use Rattle.std.proofs.lemmas.Bool.{le-leb}
use Rattle.std.proofs.lemmas.List.{take_all}
use Rattle.disk_model.specs.Disk.{Content, EachImage}
use Rattle.disk_model.specs.Moments.{EachMoment}
use Rattle.image_model.specs.Cells.{recalculated_cell}
use Rattle.image_model.specs.Section.{Entry}
use Rattle.device_model.specs.History.{Flushed, cells_now, with_change}
use Rattle.device_model.specs.Journal.{JournalCounts, commit_all}
use Rattle.journal_laws.proofs.FormatLemmas.{blocks-is}
use Rattle.journal_laws.proofs.PromiseLemmas.{cell_is}
use Rattle.journal_laws.proofs.RingLemmas.{freed_settled}
use Rattle.journal_laws.proofs.StepLemmas.{flush_law}
use Rattle.journal_model.specs.Entries.{cell_after}
use Rattle.journal_model.specs.JournaledDisk.{JournaledDisk}
use Rattle.journal_model.specs.Ring.{JournalRing, entries_of, unplaced_from}
use Rattle.journal_model.specs.Steps.{after_settle}
use Rattle.journal_ring.specs.declared.ring.Moved.{Moved}
use Rattle.journal_ring.specs.declared.ring.Moved.TheVariants.{Did, Idle}
use Rattle.place_model.specs.Format.{DiskFormat}
use Rattle.place_model.specs.Left.{IsLeftInJournal}
use Rattle.replay.specs.Moves.{HasPlaced, HasPlacedCells, HasSettled}
use Rattle.replay.specs.Placement.{placed_in}
use Rattle.replay.specs.DeclaredPlacement.{Placement}
use Rattle.replay.proofs.PlacingLawsLemmas.{settled_cells_law}
use Rattle.tag_store.specs.Store.{Store}
use Rattle.journal_mode.specs.Closing.{HasClosed, HasContent, HasPlacedMore, IsAllFree}
use Rattle.journal_mode.specs.Commits.{HasFlushed, after_batch_of, after_flush, after_one, with_disk}
use Rattle.journal_mode.specs.Journal.{PlacedRing}
use Rattle.journal_mode.specs.Moves.{PlacesAs, SettlesAs}
use Rattle.journal_mode.specs.Standing.{IsLeftThrough, JournalStanding, StandsAs, TagsPlaced}
use Rattle.journal_mode.proofs.GivesLemmas.{tags_then}
use Rattle.journal_mode.proofs.CommitLemmas.{did_not_idle}
use Rattle.journal_mode.proofs.MovesLemmas.{all_of_disk}

-- ---- the ring

all_unplaced : (sections : List (List Entry)) (placed : ℕ) → length (entries_of sections) ≤ placed → unplaced_from placed sections ≡ []
all_unplaced [] placed low = refl
all_unplaced (x ∷ sections) placed low =
    let size = length-append x (entries_of sections) in
    ap (λ (b : Bool). if b then unplaced_from (placed - length x) sections else x ∷ sections) (le-leb (length x) placed (omega (arith, low, size)))
    ∙ all_unplaced sections (placed - length x) (omega (arith, low, size))

-- Where all entries are placed a settle frees every committed section.
pub frees_all : {A : Type 0} (moved : Moved) (old new : Placement) (ring left : JournalRing) (before after : Store) (first last : A) → HasSettled moved old new ring left before after first last
    → placed_in old ring ≡ length (entries_of ring.committed) → ring.opened ≡ [] → IsAllFree left
frees_all Did old new ring left before after first last has all none = record {
  none_committed = ap (λ (r : JournalRing). r.committed) has.left_is ∙ all_unplaced ring.committed (placed_in old ring) (omega (arith, all));
  none_opened = ap (λ (r : JournalRing). r.opened) has.left_is ∙ none;
}
frees_all Idle old new ring left before after first last has all none = record {
  none_committed = ap (λ (r : JournalRing). r.committed) has.ring_ ∙ sym (ap (λ (r : JournalRing). r.committed) has.none) ∙ all_unplaced ring.committed (placed_in old ring) (omega (arith, all));
  none_opened = ap (λ (r : JournalRing). r.opened) has.ring_ ∙ none;
}

-- ---- the device

-- The cells in place are the content, where all entries are placed and none is uncommitted.
module _ (w : JournalStanding) (journal : PlacedRing) (store : Store) (moments : List Content) (stands : StandsAs w journal store moments) (idle : w.history.pending ≡ None) (none : journal.ring.opened ≡ [])
    (all : w.disk.placed ≡ length w.disk.entries) where
  content : (b : ℕ) → b < w.disk.geometry.blocks → cells_now w.format.blocks.tag w.history b ≡ cell_after w.disk.geometry w.disk.base (take w.disk.placed w.disk.entries) b
  content b low =
      let d = w.disk in
      cell_is w.format w.history w.counts d journal.ring b stands.device idle (omega (arith, low, blocks-is w.format d.format stands.device.format))
      ∙ ap (λ (xs : List Entry). cell_after d.geometry d.base xs b)
      (ap (λ (xs : List (List Entry)). d.entries ++ entries_of xs) none ∙ append-nil d.entries ∙ sym (take_all d.placed d.entries (omega (arith, all))))

  pub has_content : (c : Content) → EachImage (HasPlacedCells w.disk) c → EachImage (HasContent w) c
  has_content c each image is_image b low = each image is_image b low ∙ sym (content b low)

module _ (w : JournalStanding) (flushed_at placed_at : PlacedRing) (store then_ : Store) (start before middle : List Content) (idle : w.history.pending ≡ None) (flushed : HasFlushed w flushed_at store start before) where
  -- What the device stands for once all is committed, and once all is placed.
  abbrev pub flushed_standing : JournalStanding
  flushed_standing = with_disk (commit_all w.counts) flushed.disk w

  abbrev pub placed_standing : HasPlacedMore flushed_standing placed_at store then_ before middle → JournalStanding
  placed_standing placed = with_disk placed.counts (record flushed.disk { placed = placed.count }) flushed_standing

  module _ (placed : HasPlacedMore flushed_standing placed_at store then_ before middle) (none : placed_at.ring.opened ≡ []) (all : placed_in placed_at.placement placed_at.ring ≡ length (entries_of placed_at.ring.committed)) where
    all_there : placed.count ≡ length flushed.disk.entries
    all_there = all_of_disk (placed_standing placed) placed_at then_ middle placed.stands all

    same_content : (c : Content) → EachImage (HasContent (placed_standing placed)) c → EachImage (HasContent w) c
    same_content c each image is_image b =
        subst (λ (f : DiskFormat). b < f.geometry.blocks → recalculated_cell f.key f.superblock f.geometry image b ≡ cells_now w.format.blocks.tag w.history b) flushed.format (each image is_image b)

    -- The tags are those of what is placed then.
    placed_gives : TagsPlaced w.disk (placed_standing placed).disk store then_ start middle
    placed_gives = tags_then w.disk flushed.disk (placed_standing placed).disk store store then_ start before middle flushed.format flushed.gives placed.gives

    -- All that was written is flushed, where no section is opened.
    all_flushed : (counts : JournalCounts) (d : JournaledDisk) (new : PlacedRing) (last : Store) (after : List Content) → StandsAs (with_disk counts d w) new last after → IsAllFree new.ring
        → StandsAs (record (with_disk counts d w) { history = with_change w.history Flushed }) new last after
    all_flushed counts d new last after stands free = record {
      device = flush_law w.format w.history counts d new.ring stands.device free.none_opened idle;
      placed = stands.placed;
    }

    -- It is closed then by a settle, also where there is nothing to free.
    pub closed_is : (moved : Moved) (new : PlacedRing) (last : Store) (after : List Content) → SettlesAs moved (placed_standing placed) new then_ last middle after → IsAllFree new.ring
        → HasClosed w new store last start after
    closed_is Did new last after has free = record {
      counts = has.counts;
      disk = after_settle (placed_standing placed).disk;
      format = flushed.format;
      committed = has.stands;
      stands = all_flushed has.counts (after_settle (placed_standing placed).disk) new last after has.stands free;
      gives = tags_then w.disk (placed_standing placed).disk (after_settle (placed_standing placed).disk) store then_ last start middle after flushed.format placed_gives has.gives;
      settled = all_there;
      images = λ c told. same_content c (has_content (placed_standing placed) placed_at then_ middle placed.stands idle none all_there c (has.images c told));
    }
    closed_is Idle new last after has free =
        let d : JournaledDisk = (placed_standing placed).disk in
        let device = has.stands.device in
        let settled : d.settled ≡ length d.entries =
        omega (arith, freed_settled d new.ring device.sound device.is_ring, ap (λ (xs : List (List Entry)). length (entries_of xs)) free.none_committed, device.sound.formed.settled_low, all_there) in
        record {
          counts = placed.counts;
          disk = d;
          format = flushed.format;
          committed = has.stands;
          stands = all_flushed placed.counts d new last after has.stands free;
          gives = tags_then w.disk d d store then_ last start middle after flushed.format placed_gives has.gives;
          settled = settled;
          images = λ c told. same_content c (has_content (placed_standing placed) new last after has.stands idle free.none_opened all_there c
              (settled_cells_law d c (has.stands.placed.cells.now c told).stands (settled ∙ sym all_there)));
        }

-- ---- entry by entry

pub placed_one : (w : JournalStanding) (old new : PlacedRing) (first store then_ : Store) (start before after : List Content) (moved : Moved) → HasPlacedMore w old first store start before
    → ((x : JournalStanding) → StandsAs x old store before → PlacesAs moved x new store then_ before after) → HasPlacedMore w new first then_ start after
placed_one w old new first store then_ start before after moved has places = by moved (places (with_disk has.counts (record w.disk { placed = has.count }) w) has.stands)
  where
    by : (moved : Moved) → PlacesAs moved (with_disk has.counts (record w.disk { placed = has.count }) w) new store then_ before after → HasPlacedMore w new first then_ start after
    by Did one = record {
      counts = one.counts;
      count = has.count + 1;
      stands = one.stands;
      gives = tags_then w.disk (record w.disk { placed = has.count }) (record w.disk { placed = has.count + 1 }) first store then_ start before after refl has.gives one.gives;
    }
    by Idle none = record {
      counts = has.counts;
      count = has.count;
      stands = none.stands;
      gives = tags_then w.disk (record w.disk { placed = has.count }) (record w.disk { placed = has.count }) first store then_ start before after refl has.gives none.gives;
    }

pub fewer_left : {A : Type 0} (old new : PlacedRing) (before after : Store) (moved : Moved) (first last : A) → HasPlaced moved old.placement new.placement old.ring before after first last → new.ring ≡ old.ring → moved ≡ Did
    → length (entries_of new.ring.committed) - placed_in new.placement new.ring < length (entries_of old.ring.committed) - placed_in old.placement old.ring
fewer_left old new before after Did first last has same is =
    omega (arith, ap (λ (r : JournalRing). length (entries_of r.committed)) same, ap (λ (r : JournalRing). placed_in new.placement r) same, has.more, has.next)
fewer_left old new before after Idle first last has same is = absurd (did_not_idle (sym is))

-- ---- within a close

pub left_flushed : (w : JournalStanding) (journal : PlacedRing) (store : Store) {start before after : List Content} → HasFlushed w journal store start before
    → ((x : JournalStanding) → StandsAs x journal store before → IsLeftThrough x before after) → IsLeftThrough w before after
left_flushed w journal store {start} {before} {after} flushed left =
    subst (λ (f : DiskFormat). EachMoment before after (EachImage (IsLeftInJournal f w.history))) flushed.format (left (with_disk (commit_all w.counts) flushed.disk w) flushed.committed)

pub left_placed : (w : JournalStanding) (journal : PlacedRing) (first store : Store) {start before after : List Content} → HasPlacedMore w journal first store start before
    → ((x : JournalStanding) → StandsAs x journal store before → IsLeftThrough x before after) → IsLeftThrough w before after
left_placed w journal first store placed left = left (with_disk placed.counts (record w.disk { placed = placed.count }) w) placed.stands

one_geometry_then : (journal : PlacedRing) (opened : List (List Entry)) → (after_batch_of opened journal).ring.geometry ≡ journal.ring.geometry
one_geometry_then journal [] = refl
one_geometry_then journal (x ∷ opened) = refl

pub batch_geometry : (journal new : PlacedRing) → (new ≡ journal) ⊎ (new ≡ after_one journal) → new.ring.geometry ≡ journal.ring.geometry
batch_geometry journal new is =
    ⊎_elim (λ same. ap (λ (j : PlacedRing). j.ring.geometry) same) (λ one. ap (λ (j : PlacedRing). j.ring.geometry) one ∙ one_geometry_then journal journal.ring.opened) is

pub flush_geometry : (journal : PlacedRing) → (after_flush journal).ring.geometry ≡ journal.ring.geometry
flush_geometry journal = one_geometry_then (after_one journal) (after_one journal).ring.opened ∙ one_geometry_then journal journal.ring.opened
