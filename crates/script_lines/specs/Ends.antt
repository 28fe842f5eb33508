-- What ends a run of a script's lines, and what has caused that.
use Rattle.std.specs.Prelude.{◌≡◌, ◌≢◌, ℕ, ◌≤◌, Result, Err}
use Rattle.device_model.specs.LineFault.{WordsFault}
use Rattle.run_model.specs.declared.outer.Outer.{Outer}
use Rattle.run_model.specs.declared.outer.Outer.TheVariants as outers
use Rattle.script_text.specs.declared.line_end.LineEnd.{LineEnd}
use Rattle.script_text.specs.declared.line_end.LineEnd.TheVariants as Ends
use Rattle.command_ending.specs.Ended.{form_of}
use Rattle.command_ending.specs.declared.ended.Ended.{Ended}
use Rattle.command_ending.specs.declared.ended.Ended.TheVariants as Endings
use Rattle.command_ending.specs.declared.line_refusal.LineRefusal.TheVariants as Refusals
use Rattle.command_ending.specs.declared.refusal.Refusal.TheVariants as refusals

-- What ended a run with the end of its line of this number.
abbrev pub ended_by : ℕ → LineEnd → Ended
ended_by number (Ends.Refused fault) = Endings.Refused (refusals.Line number (Refusals.Meaning fault))
ended_by number Ends.Disk = Endings.Failed outers.Disk
ended_by number Ends.Sink = Endings.Failed outers.Sink
ended_by number Ends.Memory = Endings.Memory

-- It is refused for this fault of the line of this number, or there was no memory for that.
abbrev pub IsOfForm : ℕ → WordsFault → Ended → Type 0
IsOfForm number fault (Endings.Refused (refusals.Line n (Refusals.Form form))) = (n ≡ number) × (form_of form ≡ fault)
IsOfForm number fault Endings.Memory = Unit {0}
IsOfForm number fault ended = ⊥

-- What can end the run of a script: neither words, nor a key, nor an image.
abbrev pub EndsScript : Ended → Type 0
EndsScript (Endings.Refused (refusals.Line number refusal)) = Unit {0}
EndsScript (Endings.Refused refusals.Length) = Unit {0}
EndsScript (Endings.Refused refusal) = ⊥
EndsScript (Endings.Failed outers.Key) = ⊥
EndsScript ended = Unit {0}

-- ---- causes

-- What is outside ends a run only where its count rose.
abbrev pub HasEndCause : (disk_rose script_rose sink_rose : Type 0) → Ended → Type 0
HasEndCause disk_rose script_rose sink_rose (Endings.Failed outers.Disk) = disk_rose
HasEndCause disk_rose script_rose sink_rose (Endings.Failed outers.Script) = script_rose
HasEndCause disk_rose script_rose sink_rose (Endings.Failed outers.Sink) = sink_rose
HasEndCause disk_rose script_rose sink_rose ended = Unit {0}

-- A count of faults never falls, and it rises only where this is what ended the run: no call that failed is passed
-- over.
pub record IsCounted {T : Type 0} (outer : Outer) (before after : ℕ) (result : Result T Ended) : Type 0 where
  pub later : before ≤ after
  pub passed : result ≢ Err (Endings.Failed outer) → after ≡ before
