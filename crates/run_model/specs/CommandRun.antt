-- The run of a command: what it starts on, what its run is, how far that came, and what it leaves.
-- Own: a command that is refused prints one line; a run ends at the first thing that ends it.
use Rattle.std.specs.Prelude.{◌≡◌, ◌≢◌, ◌⊎◌, ℕ, ◌<◌, Bool, false, List, [], ◌∷◌, ◌++◌, length, map, take}
use Rattle.disk_model.specs.Disk.{Content, EachImage, Image, last_image, newest_only}
use Rattle.device_model.specs.Device.{DeviceKind}
use Rattle.device_model.specs.History.{Change, with_changes}
use Rattle.device_model.specs.Mode.{DeviceFormat}
use Rattle.device_model.specs.Progress.{DeviceState}
use Rattle.image_model.specs.Geometry.{Geometry}
use Rattle.nbd_model.specs.Session.{Deed, IsSessionOf}
use Rattle.nbd_model.specs.Deeds.{changes_by, text_in}
use Rattle.run_model.specs.declared.outer.Outer.{Outer}
use Rattle.run_model.specs.declared.outer.Outer.TheVariants.{Disk, Key, Script, Sink}
use Rattle.run_model.specs.Ending.{Ending, Complete, Refused, Failed, NoMemory, ByImage, status_of, fault_text}
use Rattle.run_model.specs.ExerciseRun.{exercise_run}
use Rattle.run_model.specs.ScriptRun.{ScriptRun, ScriptStep, IsRunUpTo, IsRunOf, IsWhole, changes_in, only_ends, texts_of}

-- A way to make an image: what is printed once it is made; what stands while it is made; and what it is then.
pub record Making : Type 1 where
  pub text : List ℕ
  pub MayBeLeft : (start later : Content) → Type 0
  pub IsMade : (start later : Content) → Type 0

-- A way to make an image and to exercise it: what stands while it is made, and what it is then; the device that opens it,
-- and where the blocks of an image lie; and the workload, so many requests of a seed.
pub record Exercising : Type 1 where
  pub MayBeLeft : (start later : Content) → Type 0
  pub IsMade : (start made : Content) → Type 0
  pub kind : DeviceKind
  pub geometry : Image → Geometry
  pub count : ℕ
  pub seed : ℕ

-- A way to change an image: what is printed once it is changed; what stands while it is changed; what it is then; and what may
-- be written meanwhile.
pub record Changing : Type 1 where
  pub text : List ℕ
  pub MayBeLeft : (start later : Content) → Type 0
  pub IsChanged : (start later : Content) → Type 0
  pub IsWritten : (start later : Content) → Type 0

-- What a command starts on: it is refused before any line; its script runs on a device that opens an image; it prints what
-- the image tells, text by text, and whether a block's stored tag differs; it makes an image; it makes one and exercises
-- a device on it; its script runs on a device that opens an image and writes nothing; it changes an image; or a stream of
-- requests is served on a device that opens an image.
pub data Outset : Type 1 where
  RefusedBy : (ending : Ending) → Outset
  RunsOn : (kind : DeviceKind) → (image : Image) → Outset
  Prints : (texts : List (List ℕ)) → (found_fault : Bool) → Outset
  Makes : (making : Making) → Outset
  Exercises : (exercising : Exercising) → Outset
  ReadsOn : (kind : DeviceKind) → (image : Image) → Outset
  Changes : (changing : Changing) → Outset
  Serves : (kind : DeviceKind) → (image : Image) → Outset

-- The step of a run that prints a text, and does nothing else.
abbrev pub printing_step : List ℕ → ScriptStep
printing_step text = record { text = text; changes = [] }

-- The run of a command that has no script: these texts, one after the other.
abbrev pub only_prints : List (List ℕ) → (found_fault : Bool) → ScriptRun
only_prints texts found_fault = record { steps = map printing_step texts; ending = Complete found_fault }

-- The run of an exercise on an image: its requests are run on the device that opens it, and its line is printed.
abbrev pub run_of_exercise : Exercising → Image → ScriptRun
run_of_exercise e image = exercise_run (e.kind.format image) (e.kind.opened image) e.count e.seed

-- The image was made for it.
pub record IsExerciseOf (e : Exercising) (run : ScriptRun) : Type 0 where
  pub start : Content
  pub made : Content
  pub is_made : e.IsMade start made
  pub is : run ≡ run_of_exercise e (last_image made)

-- The run of a session over a stream of requests: it prints all replies, and does all that the deeds do.
pub record IsSessionRun (f : DeviceFormat) (s : DeviceState) (stream : List ℕ) (run : ScriptRun) : Type 0 where
  pub deeds : List Deed
  pub is_session : IsSessionOf f s stream deeds
  pub prints : texts_of run.steps ≡ text_in deeds
  pub does : changes_in run.steps ≡ changes_by f s deeds

-- ---- how it ends

-- It is a fault outside, or want of memory.
abbrev pub IsFromOutside : Ending → Type 0
IsFromOutside (Complete found_fault) = ⊥
IsFromOutside (Refused refusal) = ⊥
IsFromOutside (Failed outer) = Unit {0}
IsFromOutside NoMemory = Unit {0}

-- Something outside ended an exercise before its image was made: there is no device, and nothing is printed.
pub record IsUnmade (run : ScriptRun) : Type 0 where
  pub ending : Ending
  pub outside : IsFromOutside ending
  pub is : run ≡ only_ends ending

-- Its run, where nothing outside fails. One that is refused runs no line.
abbrev pub IsRunAt : Outset → (script : List ℕ) → ScriptRun → Type 0
IsRunAt (RefusedBy ending) script run = run ≡ only_ends ending
IsRunAt (RunsOn kind image) script run = IsRunOf (kind.format image) (kind.opened image) script run
IsRunAt (Prints texts found_fault) script run = run ≡ only_prints texts found_fault
IsRunAt (Makes making) script run = run ≡ only_prints (making.text ∷ []) false
IsRunAt (Exercises exercising) script run = IsExerciseOf exercising run ⊎ IsUnmade run
IsRunAt (ReadsOn kind image) script run = IsRunOf (kind.format image) (kind.opened image) script run
IsRunAt (Changes changing) script run = run ≡ only_prints (changing.text ∷ []) false
IsRunAt (Serves kind image) script run = IsSessionRun (kind.format image) (kind.opened image) script run

-- ---- how far it came

-- The run comes to its own end: no line of it is refused.
abbrev pub IsComplete : ScriptRun → Type 0
IsComplete run = (found_fault : Bool) × (run.ending ≡ Complete found_fault)

-- The text is that of some of the first steps, each of them whole.
abbrev pub IsOfSteps : ScriptRun → List ℕ → Type 0
IsOfSteps run text = (count : ℕ) × (text ≡ texts_of (take count run.steps))

-- Something outside ended the run, which came so far: not all of one that comes to its own end. Only a sink that failed has a
-- part of a step's text.
pub record IsEndedShort (run : ScriptRun) (text : List ℕ) (changes : List Change) (ending : Ending) : Type 0 where
  pub came : IsRunUpTo run text changes
  pub whole_steps : ending ≢ Failed Sink → IsOfSteps run text
  pub short : IsComplete run → length text < length (texts_of run.steps)
  pub outside : IsFromOutside ending

-- All of the run is done, and it came to its own ending.
pub record IsEndedWhole (run : ScriptRun) (text : List ℕ) (changes : List Change) (ending : Ending) : Type 0 where
  pub whole : IsWhole run text changes
  pub is : ending ≡ run.ending

-- This ended the run, which came so far.
abbrev pub IsEndedBy : ScriptRun → (text : List ℕ) → List Change → Ending → Type 0
IsEndedBy run text changes ending = IsEndedWhole run text changes ending ⊎ IsEndedShort run text changes ending

-- ---- what is left

-- No sector was written: the content is that at the start, or its newest candidates alone.
abbrev pub IsUntouched : (start later : Content) → Type 0
IsUntouched start later = (later ≡ start) ⊎ (later ≡ newest_only start)

-- Each image of the content can be opened, and may be left of the device once these changes are made.
pub record IsOfDevice (kind : DeviceKind) (image : Image) (changes : List Change) (later : Content) : Type 0 where
  pub opens : EachImage kind.CanOpen later
  pub left : EachImage (kind.MayBeLeft image (with_changes changes (kind.opened image).history)) later

-- The same, or the device was not open yet and the disk is synced at most.
abbrev pub IsOfScriptRun : DeviceKind → Image → (start : Content) → List Change → (later : Content) → Type 0
IsOfScriptRun kind image start changes later =
    ((changes ≡ []) × IsUntouched start later) ⊎ IsOfDevice kind image changes later

-- The image was made for an exercise, which made these changes.
pub record IsOfExercise (e : Exercising) (start : Content) (changes : List Change) (later : Content) : Type 0 where
  pub made : Content
  pub is_made : e.IsMade start made
  pub left : IsOfScriptRun e.kind (last_image made) made changes later

-- What is left of a disk with this content at the start, once these changes are made.
abbrev pub IsAtMoment : Outset → (start : Content) → List Change → (later : Content) → Type 0
IsAtMoment (RefusedBy ending) start changes later = IsUntouched start later
IsAtMoment (RunsOn kind image) start changes later = IsOfScriptRun kind image start changes later
IsAtMoment (Prints texts found_fault) start changes later = later ≡ start
IsAtMoment (Makes making) start changes later = making.MayBeLeft start later
IsAtMoment (Exercises exercising) start changes later =
    ((changes ≡ []) × exercising.MayBeLeft start later) ⊎ IsOfExercise exercising start changes later
IsAtMoment (ReadsOn kind image) start changes later = later ≡ start
IsAtMoment (Changes changing) start changes later = changing.MayBeLeft start later
IsAtMoment (Serves kind image) start changes later = IsOfScriptRun kind image start changes later

-- What is left where the making of an image ended so: the image, where it came to its end or only could not be told; all as it
-- was, where something ended it before; and what may stand at some moment, where the disk failed.
abbrev pub IsAfterMaking : Making → (start : Content) → Ending → (later : Content) → Type 0
IsAfterMaking making start (Complete found_fault) later = making.IsMade start later
IsAfterMaking making start (Refused refusal) later = later ≡ start
IsAfterMaking making start (Failed Disk) later = making.MayBeLeft start later
IsAfterMaking making start (Failed Sink) later = making.IsMade start later
IsAfterMaking making start (Failed source) later = later ≡ start
IsAfterMaking making start NoMemory later = later ≡ start

-- What is left where the change of an image ended so: the changed one, where it came to its end or only could not be told; an
-- image that is synced at most, where there was no memory; and what may stand at some moment, where the disk failed.
abbrev pub IsAfterChanging : Changing → (start : Content) → Ending → (later : Content) → Type 0
IsAfterChanging changing start (Complete found_fault) later = changing.IsChanged start later
IsAfterChanging changing start (Refused (ByImage fault)) later = IsUntouched start later
IsAfterChanging changing start (Refused refusal) later = later ≡ start
IsAfterChanging changing start (Failed Disk) later = changing.MayBeLeft start later
IsAfterChanging changing start (Failed Sink) later = changing.IsChanged start later
IsAfterChanging changing start (Failed source) later = later ≡ start
IsAfterChanging changing start NoMemory later = IsUntouched start later

-- What is left where an exercise made these changes and ended so: of the device on the new image what they leave, where it
-- came to its end or only could not be told; where the disk failed maybe what stands while the image is made; and where
-- there was no memory maybe all as it was.
abbrev pub IsAfterExercise : Exercising → (start : Content) → List Change → Ending → (later : Content) → Type 0
IsAfterExercise e start changes (Complete found_fault) later = IsOfExercise e start changes later
IsAfterExercise e start changes (Refused refusal) later = later ≡ start
IsAfterExercise e start changes (Failed Disk) later =
    ((changes ≡ []) × e.MayBeLeft start later) ⊎ IsOfExercise e start changes later
IsAfterExercise e start changes (Failed Sink) later = IsOfExercise e start changes later
IsAfterExercise e start changes (Failed source) later = later ≡ start
IsAfterExercise e start changes NoMemory later =
    ((changes ≡ []) × (later ≡ start)) ⊎ IsOfExercise e start changes later

-- What is left of a disk with this content at the start, where the command made these changes and ended so.
abbrev pub IsAtExit : Outset → (start : Content) → List Change → Ending → (later : Content) → Type 0
IsAtExit (Makes making) start changes ending later = IsAfterMaking making start ending later
IsAtExit (Exercises exercising) start changes ending later =
    IsAfterExercise exercising start changes ending later
IsAtExit (Changes changing) start changes ending later = IsAfterChanging changing start ending later
IsAtExit outset start changes ending later = IsAtMoment outset start changes later

-- What stands at a moment of the command: what some of the first changes of its run leave.
pub record MayStandAt (outset : Outset) (start : Content) (script : List ℕ) (later : Content) : Type 0 where
  pub run : ScriptRun
  pub is_run : IsRunAt outset script run
  pub made : ℕ
  pub left : IsAtMoment outset start (take made (changes_in run.steps)) later

-- ---- all of it

-- Which counts of faults rose in a command: of the disk, of the sources of the key and the script, and of the sink.
pub record Faults : Type 1 where
  pub disk : Type 0
  pub key : Type 0
  pub script : Type 0
  pub sink : Type 0

-- The count of faults of what lies outside rose.
abbrev pub HasRisen : Faults → Outer → Type 0
HasRisen faults Disk = faults.disk
HasRisen faults Key = faults.key
HasRisen faults Script = faults.script
HasRisen faults Sink = faults.sink

-- What is outside ends a command only where its count rose.
abbrev pub HasCauseIn : Faults → Ending → Type 0
HasCauseIn faults (Complete found_fault) = Unit {0}
HasCauseIn faults (Refused refusal) = Unit {0}
HasCauseIn faults (Failed outer) = HasRisen faults outer
HasCauseIn faults NoMemory = Unit {0}

-- The last line of a command is whole, or, where the sink failed, a part of it.
abbrev pub IsLastLine : (sink_rose : Type 0) → Ending → List ℕ → Type 0
IsLastLine sink_rose ending line =
    (line ≡ fault_text ending)
    ⊎ (sink_rose × (count : ℕ) × (count < length (fault_text ending)) × (line ≡ take count (fault_text ending)))

-- What a command with this status printed behind what the sink held, and what it left: its run came so far, something ended
-- it, and its last line tells what.
pub record Tells (outset : Outset) (start : Content) (script before after : List ℕ) (status : ℕ)
    (faults : Faults) (later : Content) : Type 0 where
  pub run : ScriptRun
  pub is_run : IsRunAt outset script run
  pub text : List ℕ
  pub changes : List Change
  pub ending : Ending
  pub ended : IsEndedBy run text changes ending
  pub cause : HasCauseIn faults ending
  pub is_status : status ≡ status_of ending
  pub line : List ℕ
  pub last : IsLastLine faults.sink ending line
  pub printed : after ≡ before ++ (text ++ line)
  pub left : IsAtExit outset start changes ending later
