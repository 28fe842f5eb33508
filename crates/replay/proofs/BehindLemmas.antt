-- What a change of the journal alone leaves of the data and the tags in place.
use Rattle.std.proofs.Common.{◌≡◌, ℕ, ◌+◌, ◌≤◌, false, refl, sym, ◌∙◌, ap, subst, arith, Option, Some, None, List, [], length}
use Rattle.disk_model.specs.Disk.{Content, HasNothingPending, Image, last_image}
use Rattle.disk_model.specs.Identity.{DiskIdentity}
use Rattle.disk_model.specs.Moments.{IsChangedBy, content_now}
use Rattle.image_model.specs.Cells.{Cell, replayed_entries}
use Rattle.image_model.specs.Geometry.{Geometry, IsGeometry, data_at, initial}
use Rattle.image_model.proofs.GeometryLemmas.{data_at-inside}
use Rattle.place_model.specs.Blocks.{ReadsData}
use Rattle.place_model.proofs.TagsLemmas.{tag_byte-behind}
use Rattle.buffer_cache.specs.declared.held.Held.{Held}
use Rattle.buffer_cache.specs.Cached.{held_or}
use Rattle.buffer_cache.specs.HeldSectors.{held_in}
use Rattle.buffer_cache.proofs.CachedLemmas.{changed_now}
use Rattle.place_writer.proofs.StoreCalls.{ReadsWhole}
use Rattle.journal_model.specs.JournaledDisk.{JournaledDisk, Rests, StandsFor, cell_at}
use Rattle.journal_model.specs.Steps.{KeepsCells}
use Rattle.place_writer.specs.Cells.{HasCells}
use Rattle.tag_store.specs.Store.{IsStore, Store, given, given_tags}
use Rattle.tag_store.specs.StoreLaws.{AreWhole, ReadTagsAlike}
use Rattle.tag_store.proofs.StoreLawsLemmas.{elsewhere_law, same_tags_law}
use Rattle.replay.specs.declared.recovered.Recovered.{Recovered}
use Rattle.replay.specs.Recovery.{LeavesRecovered}
use Rattle.replay.proofs.RecoveryLemmas.{settled_recovered}

-- A change of a disk's content keeps what reads give behind the journal.
abbrev pub KeepsBehind : Geometry → (Content → Content) → Type 0
KeepsBehind g change = (c : Content) (sector : ℕ) → initial g ≤ sector → last_image (change c) sector ≡ last_image c sector

module _ (g : Geometry) (sectors : ℕ) (geometry : IsGeometry g sectors) (change : Content → Content) (behind : KeepsBehind g change) (c : Content) where
  reads_data : (cells : ℕ → Cell) → ReadsData g cells c → ReadsData g cells (change c)
  reads_data cells reads = record {
    each = λ b k low k_low.
        let inside = data_at-inside g sectors b geometry low in
        behind c (data_at g b + k) (omega (arith, inside.0)) ∙ reads.each b k low k_low;
  }

  tags_alike : ReadTagsAlike g c (change c)
  tags_alike sector holds =
      let past = tag_byte-behind g sectors holds.block holds.byte geometry holds.block_low in
      behind c sector (omega (arith, past, holds.is))

given-whole : (store : Store) (disk : DiskIdentity) (m : List Content) (c : Content) → IsStore store disk m → AreWhole disk.sectors (last_image c) → AreWhole disk.sectors (given store c)
given-whole store disk m c is whole sector low = by_held (held_in store.sectors sector) refl
  where
    by_held : (o : Option Held) → held_in store.sectors sector ≡ o → length (held_or o (last_image c sector)) ≡ 512
    by_held None e = whole sector low
    by_held (Some held) e = is.cache.whole sector held e

-- The disk with another journal, in which no entry counts: writing goes on at its start.
abbrev pub with_journal : JournaledDisk → Image → ℕ → JournaledDisk
with_journal d journal number = record d { journal = journal; next = 0; number = number; start = length d.entries }

module _ (store : Store) (disk : DiskIdentity) (before after : List Content) (is : IsStore store disk before) (change : Content → Content) (behind : KeepsBehind store.geometry change)
    (written : IsChangedBy change before after) where
  -- The store is one of the disk then,
  pub store_changed : IsStore store disk after
  store_changed =
      elsewhere_law store disk before after is (λ d told.
      let first = changed_now change (content_now before) (content_now after) written d told in
      (first.0, first.1, subst (ReadTagsAlike store.geometry first.0) (sym first.2) (tags_alike store.geometry disk.sectors is.geometry change behind first.0)))

  -- and what was in place is.
  pub changed_recovered : (d : JournaledDisk) (journal : Image) (number : ℕ) (at : Recovered) (c : Content) → ReadsWhole disk before → ReadsWhole disk after → HasCells d store before
      → content_now after ≡ Some c → StandsFor (with_journal d journal number) c → Rests (with_journal d journal number) → HasNothingPending c → replayed_entries d.geometry journal ≡ []
      → d.settled ≡ length d.entries → d.placed ≡ length d.entries
      → at.next ≡ 0 → at.number ≡ number → at.used ≡ false
      → LeavesRecovered d at (given_tags store c) c
  unfolding settled_recovered
  changed_recovered d journal number at c whole whole_now has told stands rests pending none settled placed next number_is used =
      let now = with_journal d journal number in
      let first = changed_now change (content_now before) (content_now after) written c told in
      let keeps = has.now first.0 first.1 in
      let alike : ReadTagsAlike store.geometry first.0 c = subst (ReadTagsAlike store.geometry first.0) (sym first.2) (tags_alike store.geometry disk.sectors is.geometry change behind first.0) in
      let now_keeps : KeepsCells now (given_tags store c) c = record {
        stands = stands;
        reads =
            subst (λ (x : Content). ReadsData d.geometry (cell_at d d.placed) x) (sym first.2)
            (subst (λ (y : Geometry). ReadsData y (cell_at d d.placed) (change first.0)) (sym has.geometry)
            (reads_data store.geometry disk.sectors is.geometry change behind first.0 (cell_at d d.placed)
            (subst (λ (y : Geometry). ReadsData y (cell_at d d.placed) first.0) has.geometry keeps.reads)));
        tags_are = record {
          each = λ b low rest.
              same_tags_law store disk before first.0 c is (given-whole store disk before first.0 is (whole first.0 first.1)) (given-whole store disk before c is (whole_now c told)) alike b (omega (arith, low, ap (λ (y : Geometry). y.blocks) has.geometry))
              ∙ keeps.tags_are.each b low rest;
        };
      } in
      let recovered = settled_recovered d now (given_tags store c) c now_keeps rests settled placed refl (λ b low. refl) in
      subst (λ (x : Recovered). LeavesRecovered d x (given_tags store c) c) (sym (λ i. record { next = next i; number = number_is i; used = used i }))
      (record {
        recovered = recovered;
        pending = pending;
        unused = (λ _. (refl, none), λ _. refl);
      })
