-- What a commit leaves of the tags in memory, and of what is placed.
use Rattle.std.proofs.Common.{◌≡◌, ℕ, ◌<◌, refl, sym, ◌∙◌, ap, subst, arith, Option, Some, None, List, length, length-append, take}
use Rattle.std.proofs.lemmas.Option.{same_Some}
use Rattle.disk_model.specs.Disk.{Content, last_image, newest_only, with_run}
use Rattle.disk_model.specs.Identity.{DiskIdentity}
use Rattle.disk_model.specs.Moments.{IsChangedBy, content_now}
use Rattle.image_model.specs.Geometry.{Geometry, section_at}
use Rattle.buffer_cache.specs.declared.held.Held.{Held}
use Rattle.buffer_cache.specs.Cached.{held_or}
use Rattle.buffer_cache.specs.HeldSectors.{held_in}
use Rattle.buffer_cache.proofs.CachedLemmas.{changed_now}
use Rattle.journal_laws.specs.Device.{placed_count}
use Rattle.direct_mode.specs.CallLaws.{GivesTags}
use Rattle.journal_model.specs.JournaledDisk.{JournaledDisk, IsSound}
use Rattle.journal_model.specs.Ring.{entries_of, next_batch, with_commit}
use Rattle.journal_model.specs.Steps.{IsBatch, KeepsCells, after_commit, batch_entries}
use Rattle.journal_model.proofs.CommittedLemmas.{sound_after}
use Rattle.journal_model.proofs.JournalRingLemmas.{entries_of-append}
use Rattle.journal_model.proofs.KeepsLemmas.{keeps_committed, keeps_tag_sectors}
use Rattle.journal_ring.proofs.CommitLemmas.{batch-told, batch_law_, place-is}
use Rattle.tag_store.specs.Store.{IsStore, Store, given, given_tags}
use Rattle.tag_store.specs.StoreLaws.{AreWhole, ReadTagsAlike}
use Rattle.tag_store.proofs.StoreLawsLemmas.{elsewhere_law, same_tags_law}
use Rattle.place_writer.specs.CommitLaws.{CommittedCellsLaw, PlacedCommitLaw}
use Rattle.place_writer.proofs.PlacingLawsLemmas.{commit_law}
use Rattle.place_writer.proofs.WritingLemmas.{keeps_same}

-- ---- the tags in memory

-- Each sector that the store gives is whole, where those that are read are.
given-whole : (store : Store) (disk : DiskIdentity) (m : List Content) (c : Content) → IsStore store disk m → AreWhole disk.sectors (last_image c) → AreWhole disk.sectors (given store c)
given-whole store disk m c is whole sector low = by_held (held_in store.sectors sector) refl
  where
    by_held : (o : Option Held) → held_in store.sectors sector ≡ o → length (held_or o (last_image c sector)) ≡ 512
    by_held None e = whole sector low
    by_held (Some held) e = is.cache.whole sector held e

-- The sectors of tags are read as before.
tags_alike : (d : JournaledDisk) (batch : ℕ) (bytes : List ℕ) (g : Geometry) → IsSound d → IsBatch d batch bytes → d.geometry ≡ g → (c : Content)
    → ReadTagsAlike g c (newest_only (with_run (section_at d.geometry d.next) bytes c))
tags_alike d batch bytes g sound is same c =
    let now : Content = newest_only (with_run (section_at d.geometry d.next) bytes c) in
    subst (λ (y : Geometry). ReadTagsAlike y c now) same
    (λ sector holds.
    subst (λ (s : ℕ). last_image now s ≡ last_image c s) (sym holds.is)
    (keeps_tag_sectors d batch bytes c holds.block holds.byte sound is holds.block_low holds.byte_low))

pub committed_cells_law : CommittedCellsLaw
committed_cells_law d batch bytes store disk before after rests is of has image whole whole_after changed =
    let change : Content → Content = λ c. newest_only (with_run (section_at d.geometry d.next) bytes c) in
    let alike : (c : Content) → ReadTagsAlike store.geometry c (change c) = tags_alike d batch bytes store.geometry has.sound is has.geometry in
    let then : IsStore store disk after =
    elsewhere_law store disk before after of
    (λ x told.
    let start = changed_now change (content_now before) (content_now after) changed x told in
    (start.0, start.1, λ sector holds. ap (λ (c : Content). last_image c sector) start.2 ∙ alike start.0 sector holds)) in
    let gives : GivesTags store.geometry (given_tags store) (given_tags store) before after =
    λ first told_first x told b low.
    let start = changed_now change (content_now before) (content_now after) changed x told in
    let c = start.0 in
    same_tags_law store disk before c x of (given-whole store disk before c of (whole c start.1)) (given-whole store disk after x then (whole_after x told))
    (λ sector holds. ap (λ (y : Content). last_image y sector) start.2 ∙ alike c sector holds) b low
    ∙ ap (λ (y : Content). given_tags store y b) (same_Some c first (sym start.1 ∙ told_first)) in (
      then,
      record {
        sound = sound_after d batch bytes has.sound rests is;
        geometry = has.geometry;
        now = λ x told.
            let start = changed_now change (content_now before) (content_now after) changed x told in
            let c = start.0 in
            let same : (b : ℕ) → b < d.geometry.blocks → given_tags store x b ≡ given_tags store c b =
            λ b low. gives c start.1 x told b (subst (λ (y : Geometry). b < y.blocks) has.geometry low) in
            keeps_same (after_commit d batch bytes) (given_tags store c) (given_tags store x) x same
            (subst (KeepsCells (after_commit d batch bytes) (given_tags store c)) (sym start.2)
            (keeps_committed d batch bytes (given_tags store c) c rests is (image c start.1) (has.now c start.1)));
      },
      gives,
    )

-- ---- what is placed of the ring

pub placed_commit_law : PlacedCommitLaw
placed_commit_law d p ring store disk before after written placement of on image whole whole_after then =
    let of_disk = on.ring_.of_disk in
    let bytes = written.bytes in
    let n = next_batch ring in
    let is = (batch_law_ ring d bytes of_disk written.batch on.cells.sound).0 in
    let told : batch_entries d n bytes ≡ entries_of (take n ring.opened) = batch-told ring d bytes of_disk written.batch in
    let changed : IsChangedBy (λ c. newest_only (with_run (section_at d.geometry d.next) bytes c)) before after =
    subst (λ (at : ℕ). IsChangedBy (λ c. newest_only (with_run at bytes c)) before after) (place-is ring d bytes of_disk written.batch) written.written in
    let cells = committed_cells_law d n bytes store disk before after of_disk.rests is of on.cells image whole whole_after changed in
    let same : placed_count (after_commit d n bytes) (with_commit ring) ≡ placed_count d ring =
    omega (arith, length-append d.entries (batch_entries d n bytes), ap length told, ap length (entries_of-append ring.committed (take n ring.opened)), length-append (entries_of ring.committed) (entries_of (take n ring.opened))) in (
      cells.0,
      record {
        ring_ = then;
        placed = same ∙ on.placed ∙ sym (commit_law p ring placement).1;
        cells = cells.1;
      },
      cells.2,
    )
