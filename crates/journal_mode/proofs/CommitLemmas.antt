-- What a commit leaves of a journal, of the store of tags and of the device.
use Rattle.std.proofs.Common.{◌≡◌, ◌≢◌, ◌↔◌, ◌⊎◌, inl, inr, ⊎_elim, ℕ, ◌+◌, ◌-◌, ◌*◌, ◌/◌, ◌<◌, ◌≤◌, Bool, if◌then◌else◌, refl, sym, ◌∙◌, ap, subst, arith, List, [], ◌++◌, length, take, drop, length-append, length-drop, append_assoc}
use Rattle.std.specs.List.{AllByRecursion}
use Rattle.std.proofs.Math.Nat.{mul-div_cancel_left, mul-le-mul_right}
use Rattle.std.proofs.lemmas.Bool.{cases_eq, eq-eqb, ne_eqb}
use Rattle.std.proofs.lemmas.List.{length-take-le, take-append-drop}
use Rattle.image_model.proofs.NumberLemmas.{cases_option}
use Rattle.disk_model.specs.Disk.{Content, EachImage, last_image, newest_only, with_run}
use Rattle.disk_model.specs.Identity.{DiskIdentity, HasSectors}
use Rattle.disk_model.specs.Moments.{EachMoment, HasNow, content_now}
use Rattle.disk_model.proofs.DiskLemmas.{last_image-with_run_out}
use Rattle.disk_model.proofs.MomentsLemmas.{EachMoment-weaker}
use Rattle.image_model.specs.Geometry.{Geometry, IsGeometry, initial, section_at, section_entries, section_sectors}
use Rattle.image_model.specs.Section.{Entry}
use Rattle.image_model.proofs.GeometryLemmas.{data_at-inside}
use Rattle.place_model.proofs.TagsLemmas.{tag_byte-behind}
use Rattle.buffer_cache.proofs.CachedLemmas.{changed_now}
use Rattle.device_model.specs.Journal.{commit}
use Rattle.journal_laws.proofs.CommitLemmas.{commit_law, idle_commit_law}
use Rattle.direct_laws.specs.CallLaws.{ReadsImage}
use Rattle.journal_model.specs.JournaledDisk.{IsCutOf, JournaledDisk, StandsFor}
use Rattle.journal_model.specs.Ring.{JournalRing, IsNextBatch, IsRingOf, next_batch, uncommitted_entries, with_commit}
use Rattle.journal_model.proofs.HistoryLemmas.{left_law}
use Rattle.journal_model.proofs.JournalRingLemmas.{entries_of-take}
use Rattle.journal_overlay.specs.Kept.{Places}
use Rattle.journal_ring.specs.Batch.{HasMoved, HasWritten, after_move, next_entries}
use Rattle.journal_ring.specs.Places.{oldest_at}
use Rattle.journal_ring.specs.RoomLaws.{HasBounds}
use Rattle.journal_ring.specs.Sections.{wrap}
use Rattle.journal_ring.specs.declared.ring.Moved.{Moved}
use Rattle.journal_ring.specs.declared.ring.Moved.TheVariants.{Did, Idle}
use Rattle.journal_ring.proofs.WrapLemmas.{wrap-above, wrap-below}
use Rattle.replay.specs.CommitLaws.{ReadsWhole}
use Rattle.replay.specs.DeclaredPlacement.{Placement}
use Rattle.replay.proofs.CommitLawsLemmas.{placed_commit_law}
use Rattle.replay.proofs.PlacingLawsLemmas as placing
use Rattle.tag_store.specs.Store.{IsStore, Store}
use Rattle.place_model.specs.Tags.{HoldsTag}
use Rattle.tag_store.proofs.StoreLawsLemmas.{elsewhere_law}
use Rattle.replay.specs.Placement.{IsPlacementOf}
use Rattle.journal_mode.specs.Commits.{CommitsAs, HasBatch, HasCommitted, HasNoBatch, after_batch}
use Rattle.journal_mode.specs.Journal.{IsJournal, PlacedRing, places_from, places_of, sections_of}
use Rattle.journal_mode.specs.Standing.{IsLeftThrough, JournalStanding, StandsAs}
use Rattle.journal_mode.proofs.GivesLemmas.{tags_committed, tags_same, told_changed}

-- ---- the journal

module _ (ring : JournalRing) (bounds : HasBounds ring) where
  abbrev n : ℕ
  n = ring.geometry.sections

  abbrev batch : ℕ
  batch = next_batch ring

  batch_size : length (take (next_batch ring) ring.opened) ≡ next_batch ring
  batch_size = length-take-le batch ring.opened (omega arith)

  -- Writing goes on behind the batch.
  next_is : (((with_commit ring).next ≡ ring.next + next_batch ring) × (ring.next + next_batch ring < ring.geometry.sections)) ⊎ (((with_commit ring).next ≡ 0) × (ring.next + next_batch ring ≡ ring.geometry.sections))
  next_is = elim (cases_eq (ring.next + batch) n) [
    | inl end ↦ inr (ap (λ (b : Bool). if b then 0 else ring.next + batch) (eq-eqb (ring.next + batch) n end), end)
    | inr before ↦ inl (ap (λ (b : Bool). if b then 0 else ring.next + batch) (ne_eqb (ring.next + batch) n before), let inside = bounds.inside in omega (arith, before))
  ]

  committed_size : length (with_commit ring).committed ≡ length ring.committed + next_batch ring
  committed_size = length-append ring.committed (take batch ring.opened) ∙ ap (λ (k : ℕ). length ring.committed + k) batch_size

  pub bounds_committed : HasBounds (with_commit ring)
  bounds_committed =
      let inside = bounds.inside in
      let fits = bounds.fits in record {
        inside = ⊎_elim (λ on. omega (arith, on.0, on.1)) (λ round. omega (arith, round.0)) next_is;
        fits = omega (arith, committed_size, length-drop batch ring.opened);
      }

  pub oldest_committed : oldest_at (with_commit ring) ≡ oldest_at ring
  oldest_committed =
      let inside = bounds.inside in
      let fits = bounds.fits in
      let k : ℕ = length ring.committed in
      elim next_is [
        | inl on ↦ ap (wrap n) (let e : (with_commit ring).next + (n - length (with_commit ring).committed) ≡ ring.next + (n - k) = omega (arith, on.0, committed_size) in e)
        | inr round ↦
            ap (wrap n) (let e : (with_commit ring).next + (n - length (with_commit ring).committed) ≡ ring.next - k = omega (arith, round.0, round.1, committed_size) in e)
            ∙ wrap-below n (ring.next - k) (omega arith)
            ∙ (let e : ring.next - k ≡ ring.next + (n - k) - n = omega (arith, round.1) in e)
            ∙ sym (wrap-above n (ring.next + (n - k)) (omega (arith, round.1)))
      ]

  pub sections_committed : sections_of (with_commit ring) ≡ sections_of ring
  sections_committed = append_assoc ring.committed (take batch ring.opened) (drop batch ring.opened) ∙ ap (λ (xs : List (List Entry)). ring.committed ++ xs) (take-append-drop batch ring.opened)

  pub places_committed : places_of (with_commit ring) ≡ places_of ring
  places_committed = ap (λ (at : ℕ). places_from ring.geometry at (sections_of (with_commit ring))) oldest_committed ∙ ap (places_from ring.geometry (oldest_at ring)) sections_committed

-- The overlay keeps the same places.
pub commit_is : (ring : JournalRing) (p : Placement) (overlay : Places) → IsJournal ring p overlay → IsJournal (with_commit ring) p overlay
commit_is ring p overlay is = record {
  geometry = is.geometry;
  bounds = bounds_committed ring is.bounds;
  few = subst (AllByRecursion (λ (entries : List Entry). length entries ≤ section_entries ring.geometry.shape)) (sym (sections_committed ring is.bounds)) is.few;
  placement = (placing.commit_law p ring is.placement).0;
  room = is.room;
  kept = is.kept ∙ sym (places_committed ring is.bounds);
}

pub moved_is : (ring : JournalRing) (p : Placement) (overlay : Places) (moved : Moved) → IsJournal ring p overlay → IsJournal (after_move moved ring) p overlay
moved_is ring p overlay Did is = commit_is ring p overlay is
moved_is ring p overlay Idle is = is

-- ---- the disk below

-- The journal lies on the disk of the store.
pub journal_there : (store : Store) (disk : DiskIdentity) (m : List Content) (g : Geometry) → IsStore store disk m → g ≡ store.geometry → HasSectors (initial g) disk
journal_there store disk m g of same = record {
  bound = of.bound;
  enough = let inside = data_at-inside store.geometry disk.sectors 0 of.geometry (let some = of.geometry.blocks in omega arith) in omega (arith, inside.0, inside.1, ap initial same);
}

module _ (ring : JournalRing) (bytes : List ℕ) (batch_is : IsNextBatch ring bytes) (bounds : HasBounds ring) (sectors : ℕ) (geometry : IsGeometry ring.geometry sectors) where
  -- The batch ends before the sectors of tags.
  pub batch_end : section_at ring.geometry ring.next + length bytes / 512 ≤ initial ring.geometry
  batch_end =
      let inside = bounds.inside in
      let one : length bytes / 512 ≡ next_batch ring * section_sectors ring.geometry.shape = ap (λ (k : ℕ). k / 512) batch_is.size ∙ mul-div_cancel_left (next_batch ring * section_sectors ring.geometry.shape) (omega arith) in
      let most : (ring.next + next_batch ring) * section_sectors ring.geometry.shape ≤ ring.geometry.sections * section_sectors ring.geometry.shape =
      mul-le-mul_right (section_sectors ring.geometry.shape) (omega arith) in
      omega (arith, one, most)

  tags_apart : (c : Content) (sector : ℕ) → HoldsTag ring.geometry sector → last_image (newest_only (with_run (section_at ring.geometry ring.next) bytes c)) sector ≡ last_image c sector
  tags_apart c sector holds =
      let behind = tag_byte-behind ring.geometry sectors holds.block holds.byte geometry holds.block_low in
      last_image-with_run_out (section_at ring.geometry ring.next) bytes c sector (λ begins ends. absurd (omega (arith, batch_end, behind, holds.is, ends)))

-- So the store is one of the disk after a commit.
pub store_written : (store : Store) (disk : DiskIdentity) (before after : List Content) (ring : JournalRing) → HasBounds ring → ring.geometry ≡ store.geometry → IsStore store disk before → HasWritten ring before after → IsStore store disk after
store_written store disk before after ring bounds same of written =
    let change : Content → Content = λ c. newest_only (with_run (section_at ring.geometry ring.next) written.bytes c) in
    elsewhere_law store disk before after of
    (λ x told.
    let start = changed_now change (content_now before) (content_now after) written.written x told in (
      start.0,
      start.1,
      λ sector holds.
          ap (λ (c : Content). last_image c sector) start.2
          ∙ tags_apart ring written.bytes written.batch bounds disk.sectors (subst (λ (g : Geometry). IsGeometry g disk.sectors) (sym same) of.geometry) start.0 sector
          (subst (λ (g : Geometry). HoldsTag g sector) (sym same) holds),
    ))

pub store_moved : (store : Store) (disk : DiskIdentity) (before after : List Content) (ring : JournalRing) (moved : Moved) → HasBounds ring → ring.geometry ≡ store.geometry → IsStore store disk before → HasMoved moved ring before after → IsStore store disk after
store_moved store disk before after ring Did bounds same of written = store_written store disk before after ring bounds same of written
store_moved store disk before after ring Idle bounds same of kept = subst (IsStore store disk) (sym kept) of

-- ---- what the call says

IsDid : Moved → Type 0
IsDid Did = Unit {0}
IsDid Idle = ⊥

pub did_not_idle : Did ≢ Idle
unfolding IsDid
did_not_idle e = subst IsDid e tt

pub has_committed : {A : Type 0} (old : PlacedRing) (moved : Moved) (first last : A) (before after : List Content) → ((moved ≡ Idle) ↔ (old.ring.opened ≡ [])) → HasMoved moved old.ring before after → (moved ≡ Idle → last ≡ first)
    → HasCommitted moved old (record old { ring = after_move moved old.ring }) first last before after
has_committed old Did first last before after idle has still = record { some = λ none. did_not_idle (idle.1 none); journal = refl; written = has }
has_committed old Idle first last before after idle has still = record { none = idle.0 refl; journal = refl; disk = still refl }

-- ---- the device

module _ (w : JournalStanding) (journal : PlacedRing) (store : Store) {before after : List Content} (stands : StandsAs w journal store before) where
  -- Each image is a cut of the disk with the first entries of the batch, so it may be left.
  pub left_committing : EachMoment before after (EachImage (IsCutOf w.disk (next_entries journal.ring))) → IsLeftThrough w before after
  left_committing m =
      let k : ℕ = length (next_entries journal.ring) in
      let same : next_entries journal.ring ≡ take k (uncommitted_entries journal.ring) = sym (entries_of-take (next_batch journal.ring) journal.ring.opened) in
      EachMoment-weaker (λ c each image is_image.
      left_law w.disk (uncommitted_entries journal.ring) k w.history image stands.device.history (subst (λ (xs : List Entry). IsCutOf w.disk xs image) same (each image is_image))) m

  pub committed_as : (disk : DiskIdentity) → journal.ring.opened ≢ [] → HasWritten journal.ring before after → IsPlacementOf journal.placement journal.ring → IsStore store disk before → ReadsImage before → ReadsWhole disk before → ReadsWhole disk after
      → HasBatch w journal (after_batch journal) store before after
  committed_as disk some written placement of image whole whole_after =
      let f = w.format in
      let device = stands.device in
      elim (cases_option (commit f.sections w.counts)) [
        | inl none ↦ absurd (some ((idle_commit_law f w.history w.counts w.disk journal.ring device).1 none))
        | inr there ↦
            let law = commit_law f w.history w.counts there.0 w.disk journal.ring written.bytes device there.1 written.batch in
            let placed = placed_commit_law w.disk journal.placement journal.ring store disk before after written placement of stands.placed image whole whole_after law.1.is_ring in
            record {
              counts = there.0;
              counts_are = there.1;
              bytes = written.bytes;
              stands = record {
                device = law.1;
                placed = placed.1;
              };
              gives =
                  tags_committed w.disk (next_batch journal.ring) written.bytes store before after device.sound.formed stands.placed.cells.geometry
                  (told_changed (λ c. newest_only (with_run (section_at journal.ring.geometry journal.ring.next) written.bytes c)) before after written.written) placed.2;
            }
      ]

  pub left_by : ((d : JournaledDisk) → IsRingOf journal.ring d → HasNow (StandsFor d) before → EachMoment before after (EachImage (IsCutOf d (next_entries journal.ring)))) → IsLeftThrough w before after
  left_by cuts = left_committing (cuts w.disk stands.device.is_ring.of_disk (λ c told. (stands.placed.cells.now c told).stands))

none_as : (w : JournalStanding) (journal : PlacedRing) (store : Store) (moments : List Content) → StandsAs w journal store moments → journal.ring.opened ≡ [] → HasNoBatch w journal store moments moments
none_as w journal store moments stands none = record {
  none = (idle_commit_law w.format w.history w.counts w.disk journal.ring stands.device).0 none;
  stands = stands;
  gives = tags_same w.disk store moments;
}

pub commits_as : (w : JournalStanding) (journal : PlacedRing) (store : Store) (disk : DiskIdentity) (moved : Moved) (before after : List Content) → StandsAs w journal store before
    → ((moved ≡ Idle) ↔ (journal.ring.opened ≡ [])) → HasMoved moved journal.ring before after → IsPlacementOf journal.placement journal.ring → IsStore store disk before → ReadsImage before → ReadsWhole disk before → ReadsWhole disk after
    → CommitsAs moved w journal (record journal { ring = after_move moved journal.ring }) store before after
commits_as w journal store disk Did before after stands idle has placement of image whole whole_after =
    committed_as w journal store stands disk (λ none. did_not_idle (idle.1 none)) has placement of image whole whole_after
commits_as w journal store disk Idle before after stands idle has placement of image whole whole_after =
    subst (HasNoBatch w journal store before) (sym has) (none_as w journal store before stands (idle.0 refl))
