-- Reads that take a region out of those that await, and steps that are idle then: in direct mode on a disk whose second region is
-- to be recalculated, and in journal mode on a fresh disk of one region. So no law of these speaks of nothing.
use Rattle.std.proofs.Common.{◌≡◌, ℕ, ◌&&◌, not, Bool, true, false, if◌then◌else◌, is_some, refl, sym, ◌∙◌, ap, arith, None, length, replicate, Some, ◌<◌}
use Rattle.std.proofs.lemmas.Bool.{true≢false}
use Rattle.image_model.specs.Bitmap.{awaits, region_awaits}
use Rattle.image_model.specs.Geometry.{regions, regions_for}
use Rattle.device_model.specs.History.{cells_now}
use Rattle.device_model.specs.Mode.{DeviceFormat, Direct, Journal}
use Rattle.device_model.specs.Progress.{DeviceState, Submit, Serve, Step, Recalc, Idle, EventResult, only_answers, opened_device, step_regions, event_result, after_event}
use Rattle.device_model.specs.Regions.{least_region, recalculated_region}
use Rattle.device_model.specs.Request.{Request, Asked, newly_asked}
use Rattle.device_model.specs.Submission.{Submission}
use Rattle.place_model.specs.Opened.{awaiting_on, device_format, opened_on}
use Rattle.place_model.proofs.WorkedDisk.{journal_format, replayed_entries-fresh}
use Rattle.journal_model.specs.Ring.{JournalRing, empty_ring}
use Rattle.journal_model.proofs.WorkedDisk.{fresh, Rests-fresh, StandsFor-fresh}
use Rattle.journal_laws.specs.Device.{IsJournalDevice}
use Rattle.journal_laws.specs.EventLaws.{IsServed}
use Rattle.journal_laws.specs.PromiseLaws.{newest_entry}
use Rattle.journal_laws.proofs.EventLemmas as Events
use Rattle.journal_laws.proofs.StepLemmas as Begins
use Rattle.direct_model.specs.DirectDisk.{DirectDisk}
use Rattle.direct_model.specs.Opening.{opened_disk}
use Rattle.direct_laws.specs.Device.{IsDirectDevice}
use Rattle.direct_laws.proofs.DeviceLemmas.{opening_law}
use Rattle.direct_laws.proofs.EventLemmas.{quiet_events_law, serve_read_law}
use Rattle.change_model.proofs.WorkedDisk.{content, tags}
use Rattle.change_model.proofs.WorkedErasure.{same-cells, KeepsCells-fresh}
use Rattle.recalculate_laws.specs.Device.{GivesWholeCell}
use Rattle.recalculate_laws.specs.Recalculating.{KeepsAwaiting}
use Rattle.recalculate_laws.proofs.DeviceLemmas.{read_regions_law, whole_read_law, recalc_law, recalc_did_law, recalc_idle_law}
use Rattle.recalculate_laws.proofs.DirectDeviceLemmas.{direct_read_law, direct_recalc_law, direct_idle_law}
use Rattle.recalculate_laws.proofs.WorkedDevice.{format, image, least-direct}

-- ---- a read of block 5

abbrev submission : Submission
submission = Submission.Read 5 1 (replicate 512 7)

abbrev asked : Asked
asked = newly_asked (Request.Read 5 1) (replicate 512 7)

-- ---- in direct mode

abbrev direct : DeviceFormat
direct = device_format Direct format

abbrev disk : DirectDisk
disk = opened_disk format image

abbrev direct_read : DeviceState
direct_read = after_event direct (opened_on Direct format image) (Submit submission)

IsDirectDevice-read : IsDirectDevice direct direct_read disk
IsDirectDevice-read = quiet_events_law direct (opened_on Direct format image) (Submit submission) disk (opening_law format image refl) tt

IsServed-direct : IsServed direct_read 0 asked
IsServed-direct = record { works = refl; there = refl; unfinished = refl; unheld = refl }

-- Its second region is the least that awaits, so a step would take it.
pub recalculated-direct : (event_result direct (opened_on Direct format image) (Step Recalc) ≡ step_regions (opened_on Direct format image).progress (Some (recalculated_region 1 (opened_on Direct format image).progress.regions)))
    × IsDirectDevice direct (after_event direct (opened_on Direct format image) (Step Recalc)) disk
recalculated-direct = direct_recalc_law direct (opened_on Direct format image) disk 1 (opening_law format image refl) refl least-direct

second-awaits : awaiting_on Direct format image 1 ≡ true
unfolding region_awaits awaits
second-awaits = refl

abbrev direct_served : DeviceState
direct_served = after_event direct direct_read (Serve 1)

-- The second region awaits no more,
pub regions-direct : direct_served.progress.regions ≡ recalculated_region 1 direct_read.progress.regions
regions-direct =
    direct_read_law direct direct_read disk 0 asked 5 1 IsDirectDevice-read IsServed-direct refl
    ∙ ap (λ (t : Bool). if t then recalculated_region 1 direct_read.progress.regions else direct_read.progress.regions) second-awaits

none-direct : least_region (regions format.geometry) direct_served.progress.regions.awaiting ≡ None
unfolding region_awaits awaits regions_for
none-direct = refl

-- and no other does, so a step is idle.
pub idle-direct : event_result direct direct_served (Step Recalc) ≡ only_answers direct_served.progress Idle
idle-direct = direct_idle_law direct direct_served disk (serve_read_law direct direct_read disk 0 asked 5 1 IsDirectDevice-read IsServed-direct refl) refl none-direct

-- ---- in journal mode

abbrev journal : DeviceFormat
journal = device_format Journal journal_format

abbrev ring : JournalRing
ring = empty_ring fresh.geometry fresh.next fresh.number

abbrev at_start : DeviceState
at_start = opened_device fresh.base 0 (λ region. false) (λ region. true)

IsJournalDevice-start : IsJournalDevice journal at_start fresh ring
IsJournalDevice-start = Begins.opening_law journal fresh fresh.base (λ region. false) (λ region. true) refl StandsFor-fresh.sound Rests-fresh (sym (ap length replayed_entries-fresh))
    (λ b low. same-cells b) (λ b low. refl)

least-start : least_region (regions journal_format.geometry) at_start.progress.regions.awaiting ≡ Some 0
unfolding regions_for
least-start = refl

-- A step would take its region.
pub recalculated-journal : (event_result journal at_start (Step Recalc) ≡ step_regions at_start.progress (Some (recalculated_region 0 at_start.progress.regions)))
    × IsJournalDevice journal (after_event journal at_start (Step Recalc)) fresh ring
recalculated-journal = recalc_law journal at_start fresh ring 0 IsJournalDevice-start refl least-start

-- It did something, so it took the least one.
pub did-journal : (region : ℕ) × (region < regions fresh.geometry) × (at_start.progress.regions.awaiting region ≡ true) × ((before : ℕ) → before < region → at_start.progress.regions.awaiting before ≡ false)
    × (event_result journal at_start (Step Recalc) ≡ step_regions at_start.progress (Some (recalculated_region region at_start.progress.regions)))
did-journal = recalc_did_law journal at_start fresh ring IsJournalDevice-start (ap (λ (result : EventResult). result.answer) recalculated-journal.0)

abbrev journal_read : DeviceState
journal_read = after_event journal at_start (Submit submission)

IsJournalDevice-read : IsJournalDevice journal journal_read fresh ring
IsJournalDevice-read = Events.quiet_events_law journal at_start (Submit submission) fresh ring IsJournalDevice-start tt

IsServed-journal : IsServed journal_read 0 asked
IsServed-journal = record { works = refl; there = refl; unfinished = refl; unheld = refl }

abbrev journal_served : DeviceState
journal_served = after_event journal journal_read (Serve 1)

-- No section holds the block,
newest-none : newest_entry fresh ring 5 ≡ None
newest-none = refl

-- so the one region awaits no more,
pub regions-journal : journal_served.progress.regions ≡ recalculated_region 0 journal_read.progress.regions
regions-journal =
    read_regions_law journal journal_read fresh ring 0 asked 5 1 IsJournalDevice-read IsServed-journal refl
    ∙ ap (λ (o : _). if true && not (is_some o) then recalculated_region 0 journal_read.progress.regions else journal_read.progress.regions) newest-none

IsJournalDevice-served : IsJournalDevice journal journal_served fresh ring
IsJournalDevice-served = Events.serve_read_law journal journal_read fresh ring 0 asked 5 1 IsJournalDevice-read IsServed-journal refl

none-journal : least_region (regions journal_format.geometry) journal_served.progress.regions.awaiting ≡ None
unfolding regions_for
none-journal = refl

-- a step is idle,
pub idle-journal : event_result journal journal_served (Step Recalc) ≡ only_answers journal_served.progress Idle
idle-journal = recalc_idle_law journal journal_served fresh ring IsJournalDevice-served refl none-journal

-- and the block has its cell in place, tag and all.
KeepsAwaiting-served : KeepsAwaiting fresh journal_served.progress.regions.awaiting tags content
KeepsAwaiting-served = record { keeps = KeepsCells-fresh; made = λ b low waits rests. absurd (true≢false (sym waits)) }

pub GivesWholeCell-served : GivesWholeCell fresh 5 tags content (cells_now journal.blocks.tag journal_served.history 5)
GivesWholeCell-served = whole_read_law journal journal_served fresh ring journal_served.progress.regions.awaiting 5 tags content IsJournalDevice-served refl (omega arith) newest-none
    (ap (λ (counts : _). counts.awaiting 0) regions-journal) KeepsAwaiting-served
