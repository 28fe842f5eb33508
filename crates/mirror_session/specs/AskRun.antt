-- What the run of one request of a script does on a mirror, as `mirror_model` has it: its changes, and what is told.
use Rattle.std.specs.Prelude.{◌≡◌, ◌≢◌, ◌⊎◌, ℕ, ◌≤◌, List, Option, None, Some, Result, Err}
use Rattle.std.specs.Option.{option_map}
use Rattle.disk_model.specs.Causes.{Rose}
use Rattle.device_model.specs.Script.{Ask}
use Rattle.device_model.specs.Transcript.{Session}
use Rattle.mirror_model.specs.Calls as Model
use Rattle.mirror_model.specs.Mirror.{MirrorChange, MirrorFormat, MirrorState, with_mirror_changes}
use Rattle.mirror_model.specs.Script.{after_ask, level_text, mirror_ask_fault, mirror_outcome}
use Rattle.mirror_calls.specs.Leg.{LegOn}
use Rattle.mirror_calls.specs.State.{AreLegs, format_of}
use Rattle.stream_io.specs.Stream.{AddsPrefix, with_bytes}
use Rattle.script_text.specs.declared.line_end.LineEnd.{LineEnd}
use Rattle.script_text.specs.declared.line_end.LineEnd.TheVariants as Ends
use Rattle.script_text.specs.declared.tags_found.TagsFound.{TagsFound}
use Rattle.script_text.specs.Meaning.{meaning_of}
use Rattle.script_text.specs.Found.{finds_fault}
use Rattle.mirror_session.specs.Answering.{OneRose}

-- What a sink holds behind a text, where it tells that.
abbrev pub held_with : List ℕ → Option (List ℕ) → Option (List ℕ)
held_with text held = option_map (with_bytes text) held

-- The changes of a request.
abbrev pub asking : Ask → MirrorFormat → MirrorState → List MirrorChange
asking ask f m = (mirror_outcome f m ask).changes

-- ---- a request

-- It is done, and its text is told.
pub record HasRunAsk (a_stands b_stands : LegOn → Session → Type 0) (a b : LegOn) (m : MirrorState)
    (ask : Ask) (found : TagsFound) (held_before held : Option (List ℕ)) : Type 0 where
  pub runnable : mirror_ask_fault (format_of a b) ask ≡ None
  pub legs : AreLegs a_stands b_stands a b (after_ask (format_of a b) m ask)
  pub found_ : finds_fault found ≡ (mirror_outcome (format_of a b) m ask).finds_fault
  pub told : held ≡ held_with (mirror_outcome (format_of a b) m ask).text held_before

-- It is done, and the first of its text is told, not all.
pub record IsHalfTold (a_stands b_stands : LegOn → Session → Type 0) (a b : LegOn) (m : MirrorState)
    (ask : Ask) (held_before held : Option (List ℕ)) : Type 0 where
  pub runnable : mirror_ask_fault (format_of a b) ask ≡ None
  pub legs : AreLegs a_stands b_stands a b (after_ask (format_of a b) m ask)
  pub told : AddsPrefix (mirror_outcome (format_of a b) m ask).text held_before held

-- All that it does is done, or nothing.
pub record IsAllOrNothing (a_stands b_stands : LegOn → Session → Type 0) (a b : LegOn) (m : MirrorState)
    (ask : Ask) : Type 0 where
  pub runnable : mirror_ask_fault (format_of a b) ask ≡ None
  pub legs : AreLegs a_stands b_stands a b m ⊎ AreLegs a_stands b_stands a b (after_ask (format_of a b) m ask)

-- What has ended it before its text was whole.
abbrev pub HasEnded : (a_stands b_stands : LegOn → Session → Type 0) → (a b : LegOn) → MirrorState → Ask
    → LineEnd → (held_before held : Option (List ℕ)) → Type 0
HasEnded a_stands b_stands a b m ask (Ends.Refused fault) held_before held =
    mirror_ask_fault (format_of a b) ask ≡ Some (meaning_of fault)
HasEnded a_stands b_stands a b m ask Ends.Disk held_before held = mirror_ask_fault (format_of a b) ask ≡ None
HasEnded a_stands b_stands a b m ask Ends.Sink held_before held =
    IsHalfTold a_stands b_stands a b m ask held_before held
HasEnded a_stands b_stands a b m ask Ends.Memory held_before held = IsAllOrNothing a_stands b_stands a b m ask

-- ---- the levelling

-- The mirror, levelled, and the line that tells how many blocks that has written.
abbrev pub after_level : MirrorFormat → MirrorState → MirrorState
after_level f m = with_mirror_changes (Model.mirror_level f m).changes m

abbrev pub levelled_text : MirrorFormat → MirrorState → List ℕ
levelled_text f m = level_text (Model.mirror_level f m).answer

-- It is done, and its text is told.
pub record HasLevelled (a_stands b_stands : LegOn → Session → Type 0) (a b : LegOn) (m : MirrorState)
    (held_before held : Option (List ℕ)) : Type 0 where
  pub legs : AreLegs a_stands b_stands a b (after_level (format_of a b) m)
  pub told : held ≡ held_with (levelled_text (format_of a b) m) held_before

-- It is done, and the first of its text is told, not all.
pub record IsHalfLevelled (a_stands b_stands : LegOn → Session → Type 0) (a b : LegOn) (m : MirrorState)
    (held_before held : Option (List ℕ)) : Type 0 where
  pub legs : AreLegs a_stands b_stands a b (after_level (format_of a b) m)
  pub told : AddsPrefix (levelled_text (format_of a b) m) held_before held

-- What has ended it before its text was whole. It is never refused; where there is no memory all of it is done, or
-- nothing.
abbrev pub HasEndedLevel : (a_stands b_stands : LegOn → Session → Type 0) → (a b : LegOn) → MirrorState
    → LineEnd → (held_before held : Option (List ℕ)) → Type 0
HasEndedLevel a_stands b_stands a b m (Ends.Refused fault) held_before held = ⊥
HasEndedLevel a_stands b_stands a b m Ends.Disk held_before held = Unit {0}
HasEndedLevel a_stands b_stands a b m Ends.Sink held_before held =
    IsHalfLevelled a_stands b_stands a b m held_before held
HasEndedLevel a_stands b_stands a b m Ends.Memory held_before held =
    AreLegs a_stands b_stands a b m ⊎ AreLegs a_stands b_stands a b (after_level (format_of a b) m)

-- ---- causes

-- No count ever falls; what is outside ends it only where its count rose, a disk by the count of one leg. Else all
-- are as they were.
pub record HasAskCause {T : Type 0} (first_before first second_before second sink_before sink : ℕ)
    (result : Result T LineEnd) : Type 0 where
  pub first_later : first_before ≤ first
  pub second_later : second_before ≤ second
  pub sink_later : sink_before ≤ sink
  pub disk_failed : result ≡ Err Ends.Disk → OneRose first_before first second_before second
  pub sink_failed : result ≡ Err Ends.Sink → Rose sink_before sink
  pub disk_passed : result ≢ Err Ends.Disk → (first ≡ first_before) × (second ≡ second_before)
  pub sink_passed : result ≢ Err Ends.Sink → sink ≡ sink_before
