-- The run of an exercise of a device: its one step, and what ends it.
-- Own: no reply is printed, but one line that tells what is counted.
use Rattle.std.specs.Prelude.{ℕ, [], ◌∷◌, ◌++◌}
use Rattle.device_model.specs.Mode.{DeviceFormat}
use Rattle.device_model.specs.Progress.{Close, DeviceState, event_result}
use Rattle.device_model.specs.Script.{after_script}
use Rattle.workload_model.specs.Exercise.{exercise_lines, exercise_tally, exercise_text, finds_faults, line_changes}
use Rattle.run_model.specs.Ending.{Complete}
use Rattle.run_model.specs.ScriptRun.{ScriptRun, ScriptStep}

-- It is one step: all that its lines and the close behind them do is done, and then its line is printed.
abbrev pub exercise_step : DeviceFormat → DeviceState → (count seed : ℕ) → ScriptStep
exercise_step f s count seed =
    let lines = exercise_lines count seed f.blocks.blocks in
    record {
      text = exercise_text (exercise_tally f s count seed);
      changes = line_changes f s lines ++ (event_result f (after_script f s lines) Close).changes;
    }

-- Its run, where nothing outside fails.
abbrev pub exercise_run : DeviceFormat → DeviceState → (count seed : ℕ) → ScriptRun
exercise_run f s count seed = record {
  steps = exercise_step f s count seed ∷ [];
  ending = Complete (finds_faults (exercise_tally f s count seed));
}
