-- What an erasure leaves of the data and the tags in place.
use Rattle.std.proofs.Common.{◌≡◌, ℕ, ◌*◌, false, arith, List, length}
use Rattle.disk_model.specs.Disk.{Content}
use Rattle.disk_model.specs.Identity.{DiskIdentity}
use Rattle.disk_model.specs.Moments.{HasNow, IsChangedBy}
use Rattle.disk_model.proofs.DiskLemmas.{last_image-with_run_out}
use Rattle.image_model.specs.Geometry.{Geometry, journal_sectors, section_at}
use Rattle.image_model.specs.Walk.{later}
use Rattle.place_writer.proofs.StoreCalls.{ReadsWhole}
use Rattle.journal_model.specs.Erasing.{after_erasure}
use Rattle.journal_model.specs.JournaledDisk.{JournaledDisk}
use Rattle.image_model.specs.EmptySections.{empty_image}
use Rattle.journal_erasure.specs.Erased.{IsErased}
use Rattle.journal_erasure.specs.Erasing.{with_empty_journal}
use Rattle.place_writer.specs.Cells.{HasCells}
use Rattle.tag_store.specs.Store.{IsStore, Store, given_tags}
use Rattle.replay.specs.declared.recovered.Recovered.{Recovered}
use Rattle.replay.specs.Recovery.{LeavesRecovered}
use Rattle.replay.proofs.BehindLemmas.{KeepsBehind, changed_recovered, store_changed}

-- It changes nothing behind the journal.
erased_behind : (g : Geometry) (empty : List ℕ) → length empty ≡ 512 * journal_sectors g → KeepsBehind g (with_empty_journal g empty)
erased_behind g empty size c sector past = last_image-with_run_out (section_at g 0) empty c sector (λ begins ends. absurd (omega (arith, size)))

module _ (store : Store) (disk : DiskIdentity) (before after : List Content) (is : IsStore store disk before) (empty : List ℕ) (size : length empty ≡ 512 * journal_sectors store.geometry)
    (written : IsChangedBy (with_empty_journal store.geometry empty) before after) where
  pub store_erased : IsStore store disk after
  store_erased = store_changed store disk before after is (with_empty_journal store.geometry empty) (erased_behind store.geometry empty size) written

  pub erased_recovered : (d : JournaledDisk) (number : ℕ) (at : Recovered) → ReadsWhole disk before → ReadsWhole disk after → HasCells d store before
      → HasNow (IsErased d number (empty_image store.geometry empty)) after → d.settled ≡ length d.entries → d.placed ≡ length d.entries
      → at.next ≡ 0 → at.number ≡ (after_erasure d number (empty_image store.geometry empty)).number → at.used ≡ false
      → HasNow (λ c. LeavesRecovered d at (given_tags store c) c) after
  erased_recovered d number at whole whole_now has erased settled placed next number_is used c told =
      let is_erased = erased c told in
      changed_recovered store disk before after is (with_empty_journal store.geometry empty) (erased_behind store.geometry empty size) written
      d (empty_image store.geometry empty) (later 3 number) at c whole whole_now has told is_erased.stands is_erased.rests is_erased.settled is_erased.replays_nothing.none settled placed next number_is used
