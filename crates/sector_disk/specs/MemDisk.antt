-- What a contract sees of a `MemDisk`: what it held at first, what was written since, and what makes it fail.
use Rattle.std.specs.Prelude.{◌≡◌, ◌⊎◌, ℕ, ◌-◌, ◌*◌, ◌<◌, length, slice_index, slice_index_or, EachIndex, List, [], ◌∷◌, ◌++◌, Option, Some, None, Result, Ok, Err}
use Rattle.std.specs.Option.{option_map}
use Rattle.disk_model.specs.Disk.{Content}
use Rattle.disk_model.specs.Identity.{NamedDisk}
use Rattle.sector_disk.specs.declared.fault_plan.FaultPlan.{FaultPlan}
use Rattle.sector_disk.specs.declared.record.Event.{Event}
use Rattle.sector_disk.specs.declared.record.Event.TheVariants.{Sync}
use Rattle.sector_disk.specs.declared.mem_disk.MemDisk.{MemDisk}
use Rattle.sector_disk.specs.Faults.{FailsNext, unused_plan, with_call, with_fault}
use Rattle.sector_disk.specs.Record.{content_after, content_of_bytes, moments_of, sector_writes, writes_left}

-- A disk in memory: how many sectors it has and their bytes at first; the sector writes and syncs since, the oldest
-- first, and how many of them there is room for; how many more sector writes come before the stop, if one is set.
pub record DiskRecord : Type 0 where
  pub sectors : ℕ
  pub base : List ℕ
  pub events : List Event
  pub room : ℕ
  pub stop : Option ℕ
  pub plan : FaultPlan

abbrev pub record_of : MemDisk → DiskRecord
record_of disk = record {
  sectors = disk.sectors;
  base = disk.base.items;
  events = disk.events.items;
  room = disk.room;
  stop = disk.stop;
  plan = disk.plan;
}

-- The candidates of each sector.
abbrev pub content_of : DiskRecord → Content
content_of d = content_after (content_of_bytes d.base) d.events

-- The contents of all its moments, the newest first.
abbrev pub moments_told : DiskRecord → List Content
moments_told d = moments_of d.base d.events

-- What every name has: a disk in memory is the same whichever it is given.
abbrev pub named_by : DiskRecord → NamedDisk
named_by d = record { sectors = d.sectors; moments = moments_told d }

-- A disk of which nothing was asked: no stop is set, and no call is to fail.
abbrev pub fresh_disk : ℕ → List ℕ → ℕ → DiskRecord
fresh_disk sectors base room = record {
  sectors = sectors;
  base = base;
  events = [];
  room = room;
  stop = None;
  plan = unused_plan;
}

-- The next call fails and does nothing: it was chosen to fail, or the stop is reached.
abbrev pub IsRefused : DiskRecord → Type 0
IsRefused d = FailsNext d.plan ⊎ (d.stop ≡ Some 0)

-- How many more sectors can be written: there is room for them, and they come before the stop.
abbrev pub sectors_left : DiskRecord → ℕ
sectors_left d = writes_left (d.room - length d.events) d.stop

-- A call was made, and a fault was counted where it failed.
abbrev pub after_call : {T E : Type 0} → Result T E → DiskRecord → DiskRecord
after_call (Ok _) d = record d { plan = with_call d.plan }
after_call (Err _) d = record d { plan = with_fault (with_call d.plan) }

-- The first `count` sectors of the bytes were written from sector `at` on.
abbrev pub with_writes : ℕ → ℕ → List ℕ → DiskRecord → DiskRecord
with_writes count at bytes d = record d {
  events = d.events ++ sector_writes at bytes count;
  stop = option_map (λ left. left - count) d.stop;
}

-- The two differ in the count of faults alone.
abbrev pub DiffersInFaults : DiskRecord → DiskRecord → Type 0
DiffersInFaults a b = b ≡ record a { plan = record a.plan { faults = b.plan.faults } }

-- A sync was made.
abbrev pub with_sync : DiskRecord → DiskRecord
with_sync d = record d { events = d.events ++ Sync ∷ [] }

-- The choice names a candidate of each sector, by its index among them, the oldest first.
pub record HasChoice (d : DiskRecord) (choice : List ℕ) : Type 0 where
  pub each_sector : length choice ≡ d.sectors
  pub each : EachIndex choice (λ sector. slice_index choice sector < length (content_of d sector))

-- The new disk is a fresh one with the chosen candidate in each sector, and the old one's room.
pub record IsChosen (old : DiskRecord) (choice : List ℕ) (new : DiskRecord) : Type 0 where
  pub fresh : new ≡ fresh_disk old.sectors new.base old.room
  pub size : length new.base ≡ 512 * old.sectors
  pub each : EachIndex choice (λ sector. content_of new sector
      ≡ slice_index_or (content_of old sector) (slice_index choice sector) [] ∷ [])
