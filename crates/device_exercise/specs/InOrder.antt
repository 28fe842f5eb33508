-- What the requests of a device do, one after the other: so what one has settled is not lost by a later one.
-- Own: as of the lines of a script.
use Rattle.std.specs.Prelude.{ℕ, List, map}
use Rattle.disk_model.specs.Disk.{Content}
use Rattle.device_model.specs.History.{Change}
use Rattle.device_model.specs.Script.{Ask}
use Rattle.workload_model.specs.Exercise.{asking_line, exercise_lines}
use Rattle.workload_model.specs.InOrder.{AreLinesBegun, AreLinesMade, changes_by_line}
use Rattle.device.specs.Device.{kind_of}
use Rattle.device_parts.specs.Device.{Standing}

-- ---- changes, request by request

-- What each of some requests to a device does to its history,
abbrev pub changes_by_ask : Standing → List Ask → List (List Change)
changes_by_ask w asks = changes_by_line w.format w.state (map asking_line asks)

-- and of an exercise of one.
abbrev pub changes_by_exercise : Standing → (seed count : ℕ) → List (List Change)
changes_by_exercise w seed count =
    changes_by_line w.format w.state (exercise_lines count seed w.format.blocks.blocks)

-- ---- one line after the other

-- So are some requests,
abbrev pub AreAsksMade : Standing → List Ask → (before after : List Content) → Type 0
AreAsksMade w asks before after =
    AreLinesMade (kind_of w) w.entry w.state.history (changes_by_ask w asks) before after

-- or the first of them;
abbrev pub AreAsksBegun : Standing → List Ask → (before after : List Content) → Type 0
AreAsksBegun w asks before after =
    AreLinesBegun (kind_of w) w.entry w.state.history (changes_by_ask w asks) before after

-- so is an exercise,
abbrev pub IsExerciseMade : Standing → (seed count : ℕ) → (before after : List Content) → Type 0
IsExerciseMade w seed count before after =
    AreLinesMade (kind_of w) w.entry w.state.history (changes_by_exercise w seed count) before after

-- or its first lines.
abbrev pub IsExerciseBegun : Standing → (seed count : ℕ) → (before after : List Content) → Type 0
IsExerciseBegun w seed count before after =
    AreLinesBegun (kind_of w) w.entry w.state.history (changes_by_exercise w seed count) before after
