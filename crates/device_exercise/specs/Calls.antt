-- What the calls of an exercise tell of each device that works.
use Rattle.std.specs.Prelude.{◌≡◌, ℕ, List, [], ◌∷◌, Result, IfErr, IfOk, OnErr, OnOk}
use Rattle.disk_model.specs.Disk.{Content}
use Rattle.disk_model.specs.Identity.{DiskIdentity}
use Rattle.device_model.specs.Script.{Ask}
use Rattle.workload_model.specs.Exercise.{Tally}
use Rattle.workload_model.specs.Workload.{workload_asks}
use Rattle.workload.specs.Tally.{no_tally}
use Rattle.device_parts.specs.declared.condition.Condition.{Condition}
use Rattle.device_parts.specs.declared.condition.Condition.TheVariants.{Working}
use Rattle.device_parts.specs.Device.{Standing}
use Rattle.device.specs.declared.mode.DeviceParts.{DeviceParts}
use Rattle.device.specs.Device.{IsDevice, IsReady, mode_of}
use Rattle.script_session.specs.declared.tickets.Tickets.{Tickets}
use Rattle.device_exercise.specs.Exercising.{AreAsksCut, HasExercised, HasRunAsks, IsExerciseCut, StaysWithin}

-- ---- an exercise

-- All of it is done, and counted,
abbrev pub Exercises : {D E : Type 0} → (D → List Content) → (seed count : ℕ) → Result Tally E → (old new : DeviceParts)
    → (first last : D) → Type 0
Exercises moments seed count result old new first last = IfOk result (λ tally. (w : Standing)
    → IsDevice w Working old (moments first) → HasExercised w seed count tally new (moments first) (moments last))

-- or it is cut off.
abbrev pub CutsExercise : {D T E : Type 0} → (D → List Content) → (seed count : ℕ) → Result T E → DeviceParts
    → (first last : D) → Type 0
CutsExercise moments seed count result old first last = IfErr result (λ _. (w : Standing)
    → IsDevice w Working old (moments first) → IsExerciseCut w seed count (moments first) (moments last))

-- It leaves the device ready, in the same mode, with the same blocks on the same disk.
pub record LeavesReady {D : Type 0} (identity : D → DiskIdentity) (moments : D → List Content) (condition : Condition)
    (old new : DeviceParts) (first last : D) : Type 0 where
  pub ready : IsReady condition new (identity last) (moments last)
  pub same_mode : mode_of new.mode ≡ mode_of old.mode
  pub blocks : new.common.slots.blocks ≡ old.common.slots.blocks
  pub block_size : new.common.slots.block_size ≡ old.common.slots.block_size
  pub identity_ : identity last ≡ identity first

-- ---- some requests, by how many blocks the device has

-- One request alone.
abbrev pub only : Ask → ℕ → List Ask
only ask blocks = ask ∷ []

-- All are done, and what they are answered is counted,
abbrev pub RunsAsks : {D T E : Type 0} → (D → List Content) → (ℕ → List Ask) → Result T E → (before after : Tally)
    → (old new : DeviceParts) → (first last : D) → Type 0
RunsAsks moments asks result before after old new first last = OnOk result ((w : Standing)
    → IsDevice w Working old (moments first)
    → HasRunAsks w (asks old.common.slots.blocks) [] before after new (moments first) (moments last))

-- those of a workload with themselves,
abbrev pub RunsWorkload : {D E : Type 0} → (D → List Content) → (seed count : ℕ) → Result Tally E
    → (old new : DeviceParts) → (first last : D) → Type 0
RunsWorkload moments seed count result old new first last = IfOk result (λ tally. (w : Standing)
    → IsDevice w Working old (moments first)
    → HasRunAsks w (workload_asks count seed old.common.slots.blocks) (workload_asks count seed old.common.slots.blocks)
    no_tally tally new (moments first) (moments last))

-- or they are cut off.
abbrev pub CutsAsks : {D T E : Type 0} → (D → List Content) → (ℕ → List Ask) → Result T E → DeviceParts
    → (first last : D) → Type 0
CutsAsks moments asks result old first last = OnErr result ((w : Standing) → IsDevice w Working old (moments first)
    → AreAsksCut w (asks old.common.slots.blocks) (moments first) (moments last))

-- What so many requests leave over a disk,
abbrev pub StaysIn : {D : Type 0} → ℕ → (D → DiskIdentity) → (D → List Content) → Condition → (old new : DeviceParts)
    → Tickets → (first last : D) → Type 0
StaysIn most identity moments condition old new tickets first last =
    StaysWithin most condition old new tickets (identity first) (identity last) (moments last)

-- and as many as the device has blocks.
abbrev pub StaysRead : {D : Type 0} → (D → DiskIdentity) → (D → List Content) → Condition → (old new : DeviceParts)
    → Tickets → (first last : D) → Type 0
StaysRead identity moments condition old new tickets first last =
    StaysIn old.common.slots.blocks identity moments condition old new tickets first last
