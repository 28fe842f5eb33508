-- Lines behind others: what they are answered, what they do, and their events.
use Rattle.std.proofs.Common.{◌≡◌, List, [], ◌∷◌, ◌++◌, Option, ap, sym, ◌∙◌, append_assoc, refl}
use Rattle.device_model.specs.History.{Change}
use Rattle.device_model.specs.Mode.{DeviceFormat}
use Rattle.device_model.specs.Progress.{Answer, DeviceState, Event, after_events, changes_of}
use Rattle.device_model.specs.Script.{ScriptLine, after_script, line_events, line_outcome}
use Rattle.device_model.proofs.ScriptLemmas.{changes_of-append}
use Rattle.device_model.proofs.IdleLemmas.{after_events-append}
use Rattle.workload_model.specs.Exercise.{line_answers, line_changes, script_events}

module _ (f : DeviceFormat) where
  -- ---- for callers

  pub after_script-append : (s : DeviceState) (xs ys : List ScriptLine) → after_script f s (xs ++ ys) ≡ after_script f (after_script f s xs) ys
  after_script-append s [] ys = refl
  after_script-append s (x ∷ xs) ys = after_script-append (line_outcome f s x).after xs ys

  pub line_answers-append : (s : DeviceState) (xs ys : List ScriptLine)
      → line_answers f s (xs ++ ys) ≡ line_answers f s xs ++ line_answers f (after_script f s xs) ys
  line_answers-append s [] ys = refl
  line_answers-append s (x ∷ xs) ys =
      ap (λ (answers : List (Option Answer)). (line_outcome f s x).answer ∷ answers) (line_answers-append (line_outcome f s x).after xs ys)

  pub line_changes-append : (s : DeviceState) (xs ys : List ScriptLine)
      → line_changes f s (xs ++ ys) ≡ line_changes f s xs ++ line_changes f (after_script f s xs) ys
  line_changes-append s [] ys = refl
  line_changes-append s (x ∷ xs) ys =
      let first = (line_outcome f s x).changes in
      let after = (line_outcome f s x).after in
      ap (λ (changes : List Change). first ++ changes) (line_changes-append after xs ys)
      ∙ sym (append_assoc first (line_changes f after xs) (line_changes f (after_script f after xs) ys))

  pub script_events-append : (s : DeviceState) (xs ys : List ScriptLine)
      → script_events f s (xs ++ ys) ≡ script_events f s xs ++ script_events f (after_script f s xs) ys
  script_events-append s [] ys = refl
  script_events-append s (x ∷ xs) ys =
      let after = (line_outcome f s x).after in
      ap (λ (events : List Event). line_events f s x ++ events) (script_events-append after xs ys)
      ∙ sym (append_assoc (line_events f s x) (script_events f after xs) (script_events f (after_script f after xs) ys))

  -- The events of lines leave the device that the lines leave,
  pub after_events-script : (s : DeviceState) (lines : List ScriptLine) → after_events f s (script_events f s lines) ≡ after_script f s lines
  after_events-script s [] = refl
  after_events-script s (line ∷ lines) =
      after_events-append f s (line_events f s line) (script_events f (line_outcome f s line).after lines)
      ∙ after_events-script (line_outcome f s line).after lines

  -- and do what the lines do.
  pub changes_of-script : (s : DeviceState) (lines : List ScriptLine) → changes_of f s (script_events f s lines) ≡ line_changes f s lines
  changes_of-script s [] = refl
  changes_of-script s (line ∷ lines) =
      changes_of-append f s (line_events f s line) (script_events f (line_outcome f s line).after lines)
      ∙ ap (λ (changes : List Change). (line_outcome f s line).changes ++ changes) (changes_of-script (line_outcome f s line).after lines)
