-- What came of an exercise on a device: what was counted, what is left, and what is printed.
use Rattle.std.specs.Prelude.{◌≡◌, ◌⊎◌, ℕ, false, List, [], take, Option, None, Result, Ok, Err, IfErr, OnOk}
use Rattle.disk_model.specs.Disk.{Content, EachImage, Image, last_image}
use Rattle.disk_model.specs.Identity.{DiskIdentity}
use Rattle.disk_model.specs.Moments.{EachMoment, HasNow}
use Rattle.device_model.specs.History.{Change, with_changes}
use Rattle.device_model.specs.Mode.{Journal}
use Rattle.device_model.specs.Progress.{DeviceState}
use Rattle.device_model.specs.Script.{after_script}
use Rattle.run_model.specs.ScriptRun.{ScriptRun}
use Rattle.image_model.specs.declared.flags.TheConstants.{DIRTY_BITMAP}
use Rattle.image_model.specs.Superblock.{has_flag}
use Rattle.place_model.specs.Format.{format_on}
use Rattle.place_model.specs.Kind.{CanOpenIn, kind_in}
use Rattle.direct_laws.specs.MomentLaws.{IsLeftNow}
use Rattle.device_parts.specs.declared.condition.Condition.TheVariants.{Working}
use Rattle.device_parts.specs.Device.{Standing, opened_standing}
use Rattle.device.specs.declared.mode.DeviceParts.{DeviceParts}
use Rattle.device.specs.Device.{IsDevice, kind_of}
use Rattle.device_model.specs.Device.{IsLeftWithin}
use Rattle.device.specs.Tags.{Leaves}
use Rattle.stream_io.specs.Stream.{AddsPrefix, held_with}
use Rattle.script_session.specs.declared.stop.Stop.{Stop}
use Rattle.script_session.specs.declared.stop.Stop.TheVariants as Stops
use Rattle.script_text.specs.declared.tags_found.TagsFound.{TagsFound}
use Rattle.script_text.specs.Found.{finds_fault}
use Rattle.command_ending.specs.declared.ended.Ended.{Ended}
use Rattle.command_ending.specs.declared.ended.Ended.TheVariants as Endings
use Rattle.run_model.specs.CommandRun.{IsOfScriptRun}
use Rattle.workload_model.specs.Exercise.{Tally, exercise_lines, exercise_tally, exercise_text, finds_faults}
use Rattle.run_model.specs.ExerciseRun.{exercise_run, exercise_step}
use Rattle.workload_model.specs.InOrder.{AreLinesBegun}
use Rattle.command_model.specs.Closed.{IsClosedIn, IsClosedNew, IsClosedOn}
use Rattle.command_model.specs.Exercising.{changes_by_step}
use Rattle.command_model.specs.Opening.{IsWrittenByRun}
use Rattle.command_model.specs.Outset.{geometry_on}
use Rattle.run_model.specs.declared.outer.Outer.TheVariants as outers
use Rattle.command_ending.specs.declared.refusal.Refusal.TheVariants as refusals

-- ---- on a device

-- All that an exercise does to the history of a device, its close included.
abbrev pub exercise_changes : Standing → (count seed : ℕ) → List Change
exercise_changes w count seed = (exercise_step w.format w.state count seed).changes

-- The state that its requests leave it in.
abbrev pub exercised_state : Standing → (count seed : ℕ) → DeviceState
exercised_state w count seed = after_script w.format w.state (exercise_lines count seed w.format.blocks.blocks)

-- All of it was done and counted, or some of the first.
abbrev pub HasCounted : {E : Type 0} → Standing → (count seed : ℕ) → Result Tally E → List Change → Type 0
HasCounted w count seed (Ok tally) changes =
    (tally ≡ exercise_tally w.format w.state count seed) × (changes ≡ exercise_changes w count seed)
HasCounted w count seed (Err ended) changes = (made : ℕ) × (changes ≡ take made (exercise_changes w count seed))

-- An exercise on a device came so far, and so it is left; at each moment some of its first changes are made, line by
-- line, and no sector is written but those that it may write. Where it was counted, the device was closed.
pub record IsExercised (w : Standing) (count seed : ℕ) (counted : Result Tally Stop) (before after : List Content)
    : Type 0 where
  pub changes : List Change
  pub is_counted : HasCounted w count seed counted changes
  pub since : EachMoment before after
      (IsLeftWithin (kind_of w) w.entry w.state.history (exercise_changes w count seed))
  pub in_order : AreLinesBegun (kind_of w) w.entry w.state.history (changes_by_step w.format w.state count seed)
      before after
  pub others : Leaves w (exercise_changes w count seed) before after
  pub now : IsLeftNow (kind_of w) w.entry (with_changes changes w.state.history) after
  pub closed : OnOk counted
      (HasNow (IsClosedIn w.format.mode w.on w.format.blocks.tag (exercised_state w count seed)) after)

-- What was counted, or what ends a command whose exercise is stopped.
abbrev pub ended_count : Result Tally Stop → Result Tally Ended
ended_count (Ok tally) = Ok tally
ended_count (Err Stops.Disk) = Err (Endings.Failed outers.Disk)
ended_count (Err Stops.Memory) = Err Endings.Memory

-- ---- on a new image

-- The device that has been opened on an image that was made.
abbrev pub new_standing : (sectors : ℕ) → (made : Content) → Standing
new_standing sectors made = opened_standing Journal None sectors (last_image made) (last_image made)

-- The run of the exercise on that.
abbrev pub new_run : (sectors count seed : ℕ) → (made : Content) → ScriptRun
new_run sectors count seed made =
    let w = new_standing sectors made in exercise_run w.format w.state count seed

-- What stands at a moment behind the making: some of the first changes are made, no sector is written but those that
-- the run may write, and each image can be opened.
pub record IsMomentOfNew (sectors count seed : ℕ) (made later : Content) : Type 0 where
  pub done : ℕ
  pub left : IsOfScriptRun (kind_in Journal None sectors) (last_image made) made
      (take done (exercise_changes (new_standing sectors made) count seed)) later
  pub written : IsWrittenByRun (kind_in Journal None sectors) (last_image made) (geometry_on sectors (last_image made))
      (new_run sectors count seed made) made later
  pub opens : EachImage (CanOpenIn Journal None sectors) later

-- The exercise came so far on the image that was made, line by line behind an opening, and so it is left. What ended it, if something did, is the disk
-- or want of memory: a new image is not refused.
pub record IsExercisedOn (sectors count seed : ℕ) (made : Content) (counted : Result Tally Ended)
    (before after : List Content) : Type 0 where
  pub changes : List Change
  pub is_counted : HasCounted (new_standing sectors made) count seed counted changes
  pub ends : IfErr counted (λ ended. (ended ≡ Endings.Failed outers.Disk) ⊎ (ended ≡ Endings.Memory))
  pub each : EachMoment before after (IsMomentOfNew sectors count seed made)
  pub opened : List Content
  pub opening : EachMoment before opened (IsOfScriptRun (kind_in Journal None sectors) (last_image made) made [])
  pub in_order : let w = new_standing sectors made in
      AreLinesBegun (kind_in Journal None sectors) (last_image made) w.state.history
      (changes_by_step w.format w.state count seed) opened after
  pub now : HasNow (IsOfScriptRun (kind_in Journal None sectors) (last_image made) made changes) after
  pub closed : OnOk counted (HasNow (IsClosedOn sectors count seed made) after)

-- What ends it behind the making: the disk, or want of memory. Where the disk does not tell its content, it may be any
-- end of an opening.
abbrev pub EndsExercise : Ended → Type 0
EndsExercise (Endings.Refused (refusals.Image fault)) = Unit {0}
EndsExercise (Endings.Failed outers.Disk) = Unit {0}
EndsExercise Endings.Memory = Unit {0}
EndsExercise ended = ⊥

-- ---- its line

-- The line of a tally is printed, or there was no memory for it, or the sink has taken a part of it.
abbrev pub IsTallyTold : Tally → (held_before held : Option (List ℕ)) → Result TagsFound Ended → Type 0
IsTallyTold tally held_before held (Ok found) =
    (finds_fault found ≡ finds_faults tally) × (held ≡ held_with (exercise_text tally) held_before)
IsTallyTold tally held_before held (Err ended) =
    ((ended ≡ Endings.Memory) × (held ≡ held_before))
    ⊎ ((ended ≡ Endings.Failed outers.Sink) × AddsPrefix (exercise_text tally) held_before held)

-- What was counted is told, or what ended it ends the command, and nothing is printed.
abbrev pub IsCountTold : Result Tally Ended → (held_before held : Option (List ℕ)) → Result TagsFound Ended → Type 0
IsCountTold (Ok tally) held_before held result = IsTallyTold tally held_before held result
IsCountTold (Err ended) held_before held result = (result ≡ Err ended) × (held ≡ held_before)

-- The exercise came so far on the image that was made, and this is told of it.
pub record IsExercisedTo (sectors count seed : ℕ) (made : Content) (result : Result TagsFound Ended)
    (before after : List Content) (held_before held : Option (List ℕ)) : Type 0 where
  pub counted : Result Tally Ended
  pub exercised : IsExercisedOn sectors count seed made counted before after
  pub told : IsCountTold counted held_before held result

-- ---- over a disk and a sink

-- Whichever device it is that works, it is exercised so far.
abbrev pub ExercisesDevice : {D : Type 0} → (D → List Content) → (seed count : ℕ) → Result Tally Stop → DeviceParts
    → (first last : D) → Type 0
ExercisesDevice moments seed count result parts first last = (w : Standing) → IsDevice w Working parts (moments first)
    → IsExercised w count seed result (moments first) (moments last)

-- The image can be opened, and has a journal.
abbrev pub HasJournalToOpen : (sectors : ℕ) → Image → Type 0
HasJournalToOpen sectors image = CanOpenIn Journal None sectors image
    × (has_flag DIRTY_BITMAP (format_on None sectors image).superblock.flags ≡ false)

-- Such a new image is exercised so far,
abbrev pub ExercisesNew : {D : Type 0} → (D → DiskIdentity) → (D → List Content) → (seed count : ℕ)
    → Result Tally Ended → (first last : D) → Type 0
ExercisesNew identity moments seed count result first last = HasNow (λ c.
    HasJournalToOpen (identity first).sectors (last_image c)
    → IsExercisedOn (identity first).sectors count seed c result (moments first) (moments last)) (moments first)

-- and this is told of it.
abbrev pub TellsExercise : {D O : Type 0} → (D → DiskIdentity) → (D → List Content) → (O → Option (List ℕ))
    → (seed count : ℕ) → Result TagsFound Ended → (first last : D) → (sink out : O) → Type 0
TellsExercise identity moments held seed count result first last sink out = HasNow (λ c.
    HasJournalToOpen (identity first).sectors (last_image c)
    → IsExercisedTo (identity first).sectors count seed c result (moments first) (moments last) (held sink)
    (held out)) (moments first)

-- Where it came to its end, the close of its device leaves this.
abbrev pub ClosesExercise : {T E D : Type 0} → (D → DiskIdentity) → (D → List Content) → (seed count : ℕ) → Result T E
    → (first last : D) → Type 0
ClosesExercise identity moments seed count result first last = OnOk result (HasNow (λ start.
    HasNow (IsClosedNew (identity first).sectors count seed start) (moments last)) (moments first))
