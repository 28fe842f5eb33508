-- A device in journal mode of which all requests are taken: its blocks, their cells, and the image that it was opened on.
use Rattle.std.proofs.Common.{◌≡◌, ℕ, suc, ◌*◌, ◌<◌, ◌≤◌, Bool, if◌then◌else◌, List, [], ◌∷◌, ◌++◌, length, None, Some, Option, slice_get, refl, sym, ◌∙◌, ap, subst, arith}
use Rattle.disk_model.specs.Disk.{Content}
use Rattle.image_model.specs.Cells.{Cell, salt_of}
use Rattle.image_model.specs.Section.{Entry}
use Rattle.device_model.specs.History.{cells_now}
use Rattle.device_model.specs.Mode as Modes
use Rattle.device_model.specs.Mode.{DeviceFormat}
use Rattle.device_model.specs.Progress as Progress
use Rattle.device_model.specs.Request.{Asked, RequestState, Taken, is_over}
use Rattle.device_model.specs.RequestLaws.{IsReached}
use Rattle.device_model.specs.ScriptLaws.{IsAtRest}
use Rattle.place_model.specs.Format.{format_on}
use Rattle.place_model.specs.Opened.{blocks_of}
use Rattle.place_model.proofs.EachLemmas.{all_append, all_flat}
use Rattle.journal_laws.proofs.PromiseLemmas.{cell_is}
use Rattle.journal_model.specs.Entries.{IsBlockEntry}
use Rattle.journal_model.specs.Ring.{uncommitted_entries}
use Rattle.journal_model.proofs.PlaceLemmas.{cell_after-cells}
use Rattle.journal_mode.specs.Journal.{PlacedRing}
use Rattle.journal_mode.specs.Standing.{JournalStanding, StandsAs}
use Rattle.tag_store.specs.Store.{Store}
use Rattle.request_slots.specs.Flight.{Flight}
use Rattle.request_slots.specs.InFlight.{IsFlightOf, slot_for, slots_of}
use Rattle.device_parts.specs.declared.condition.Condition.TheVariants.{Working}
use Rattle.device_parts.specs.declared.parts.Parts.{Parts}
use Rattle.device_parts.specs.Device.{Standing}
use Rattle.journal_device.specs.Device.{IsJournaled, IsOverDisk, kept, standing_of, standing_on}
use Rattle.journal_device.proofs.DoneLemmas.{idle_now, stands_now}
use Rattle.device.specs.declared.mode.DeviceParts.{DeviceParts}
use Rattle.journal_device.specs.declared.parts.JournalState.{JournalState}
use Rattle.device.specs.declared.mode.Mode.{Mode}
use Rattle.device.specs.declared.mode.Mode.TheVariants.{Bitmap, Direct, Journal, Recovery}
use Rattle.device.specs.Device.{IsDeviceIn}
use Rattle.device.proofs.ModeLemmas.{condition_now, flight_now, own_direct, reached_now}
use Rattle.mirror_core.specs.Stands.{RestsAs}

-- ---- all is taken

module _ (f : DeviceFormat) where
  all_over : (t : ℕ) (requests : List Asked) → ((k : ℕ) (a : Asked) → slice_get requests k ≡ Some a → a.state ≡ Taken) → slots_of t requests ≡ []
  all_over t [] taken = refl
  all_over t (a ∷ requests) taken =
      ap (λ (over : Bool). if over then slots_of (suc t) requests else slot_for t a ∷ slots_of (suc t) requests)
      (ap (λ (state : RequestState). is_over state) (taken 0 a refl))
      ∙ all_over (suc t) requests (λ k x is. taken (suc k) x is)

  -- No slot is taken then.
  pub none_in_flight : (s : Progress.DeviceState) (flight : Flight) → IsAtRest s → IsFlightOf f flight s.progress.requests → flight.slots ≡ []
  none_in_flight s flight rests is = is.slots ∙ all_over 1 s.progress.requests rests.each

-- ---- the cells of a journal

-- Each cell has as many bytes as a block.
module _ (w : JournalStanding) (journal : PlacedRing) (store : Store) (moments : List Content) (stands : StandsAs w journal store moments)
    (idle : w.history.pending ≡ None) (block : ℕ) (low : block < w.format.blocks.blocks) where
  inside : block < w.disk.geometry.blocks
  inside = omega (arith, low, ap (λ (f : DeviceFormat). f.blocks.blocks) stands.device.format)

  cell_long : length (cells_now w.format.blocks.tag w.history block).bytes ≡ 512 * w.disk.geometry.shape.spb
  cell_long =
      let d = w.disk in
      let r = journal.ring in
      let P : Entry → Type 0 = IsBlockEntry d.key (salt_of d.superblock) d.geometry in
      let formed = stands.device.sound.formed in
      let all = all_append P d.entries (uncommitted_entries r) formed.each (all_flat P r.opened stands.device.is_ring.each) in
      let are = cell_after-cells d.format d.base (d.entries ++ uncommitted_entries r) formed.is_geometry formed.base all in
      ap (λ (cell : Cell). length cell.bytes) (cell_is w.format w.history w.counts d r block stands.device idle low)
      ∙ are.bytes block inside

  pub cell_size : length (cells_now w.format.blocks.tag w.history block).bytes ≡ w.format.blocks.block_size
  cell_size = cell_long ∙ sym (ap (λ (f : DeviceFormat). f.blocks.block_size) stands.device.format)

-- ---- the journal of a device

-- It is kept in journal mode.
pub record IsKept (w : Standing) (mode : Mode) (common : Parts) (moments : List Content) : Type 0 where
  pub state : JournalState
  pub is : mode ≡ Journal state
  pub journaled : IsJournaled w Working (kept common state) moments

in_mode : (w : Standing) (mode : Mode) (common : Parts) (a : List Content) → IsDeviceIn mode w Working common a → w.format.mode ≡ Modes.Journal
    → IsKept w mode common a
in_mode w (Journal state) common a is named = record { state = state; is = refl; journaled = is.journaled }
in_mode w (Direct r) common a is named = absurd (other (own_direct w Working common r a is ∙ named))
  where
    other : Modes.Direct ≡ Modes.Journal → ⊥
    other same = cc
in_mode w (Bitmap regions) common a is named = absurd (other (sym (ap (λ (f : DeviceFormat). f.mode) is.over.device.format) ∙ named))
  where
    other : Modes.Bitmap ≡ Modes.Journal → ⊥
    other same = cc
in_mode w Recovery common a is named = absurd (other (sym (ap (λ (f : DeviceFormat). f.mode) is.device.format) ∙ named))
  where
    other : Modes.Recovery ≡ Modes.Journal → ⊥
    other same = cc

module _ (w : Standing) (parts : DeviceParts) (a : List Content) (rests : RestsAs w parts a) where
  pub in_journal : IsKept w parts.mode parts.common a
  in_journal = in_mode w parts.mode parts.common a rests.device rests.mode

  over : (let own = in_journal in IsOverDisk (standing_on w own.journaled.disk) Working parts.common own.state.journal own.state.recalculation a)
  over = in_journal.journaled.over

  pub reached : IsReached w.format w.state
  reached = reached_now w Working parts.mode parts.common a rests.device

  pub works : w.state.condition ≡ Progress.Working
  works = condition_now w Working parts.mode parts.common a rests.device

  pub flight : IsFlightOf w.format parts.common.slots w.state.progress.requests
  flight = flight_now w Working parts.mode parts.common a rests.device

  pub some_slots : 1 ≤ w.format.slots
  some_slots = omega (arith, flight.most)

  stands : (let own = in_journal in
      StandsAs (standing_of (standing_on w own.journaled.disk)) own.state.journal parts.common.tags a)
  stands = let own = in_journal in
      stands_now (standing_on w own.journaled.disk) parts.common own.state.journal own.state.recalculation a own.journaled.over

  pub some_sections : 1 ≤ w.format.sections
  some_sections =
      let there : 1 ≤ in_journal.journaled.disk.geometry.sections = stands.device.sound.formed.is_geometry.sections in
      subst (λ (n : ℕ). 1 ≤ n) (sym (ap (λ (f : DeviceFormat). f.sections) over.format)) there

  pub idle : w.state.history.pending ≡ None
  idle =
      let own = in_journal in
      idle_now (standing_on w own.journaled.disk) parts.common own.state.journal own.state.recalculation a own.journaled.over

  -- Each cell has as many bytes as a block.
  pub sized : (b : ℕ) → b < w.format.blocks.blocks → length (cells_now w.format.blocks.tag w.state.history b).bytes ≡ w.format.blocks.block_size
  sized b low =
      let own = in_journal in
      cell_size (standing_of (standing_on w own.journaled.disk)) own.state.journal parts.common.tags a stands idle b low

  -- Its blocks are those of the image that it was opened on.
  pub entry_blocks : w.format.blocks ≡ blocks_of (format_on w.on.key w.on.sectors w.entry)
  entry_blocks =
      let own = in_journal in
      let d = own.journaled.disk in
      ap (λ (f : DeviceFormat). f.blocks) own.journaled.over.format
      ∙ own.journaled.over.opened
      ∙ ap (λ (key : Option (List ℕ)). blocks_of (format_on key d.sectors w.entry)) own.journaled.format.key
      ∙ ap (λ (sectors : ℕ). blocks_of (format_on w.on.key sectors w.entry)) own.journaled.format.sectors
