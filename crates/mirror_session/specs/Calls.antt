-- What the calls tell: of each mirror that the legs are, and whatever their disks tell.
use Rattle.std.specs.Prelude.{◌≡◌, ℕ, List, Option, None, Some, Result, Ok, Err, IfErr, IfOk, OnOk}
use Rattle.device_model.specs.Script.{Ask, MeaningFault}
use Rattle.device_model.specs.Transcript.{Session}
use Rattle.mirror_model.specs.Mirror.{MirrorState}
use Rattle.mirror_calls.specs.Leg.{LegOn}
use Rattle.mirror_calls.specs.State.{AreLegs}
use Rattle.script_text.specs.declared.line_end.LineEnd.{LineEnd}
use Rattle.script_text.specs.declared.line_end.LineEnd.TheVariants as Ends
use Rattle.script_session.specs.declared.stop.Stop.{Stop}
use Rattle.script_session.specs.declared.stop.Stop.TheVariants as Stops
use Rattle.script_text.specs.declared.tags_found.TagsFound.{TagsFound}
use Rattle.script_session.specs.Calls.{OnRefused}
use Rattle.script_session.specs.Meaning.{ask_fault_on}
use Rattle.script_text.specs.Meaning.{meaning_of}
use Rattle.mirror_session.specs.AskRun.{HasEnded, HasEndedLevel, HasLevelled, HasRunAsk}

-- ---- of each mirror that the legs are

-- A request is run,
abbrev pub RunsAsk : {A B O : Type 0} → (A → LegOn → Session → Type 0) → (B → LegOn → Session → Type 0)
    → (O → Option (List ℕ)) → Ask → Result TagsFound LineEnd → A → B → A → B → (first last : O) → Type 0
RunsAsk a_stands b_stands held ask result a_old b_old a_new b_new first last = IfOk result (λ found.
    (a b : LegOn) (m : MirrorState) → AreLegs (a_stands a_old) (b_stands b_old) a b m
    → HasRunAsk (a_stands a_new) (b_stands b_new) a b m ask found (held first) (held last))

-- or it ends before its text is whole.
abbrev pub EndsAsk : {A B O : Type 0} → (A → LegOn → Session → Type 0) → (B → LegOn → Session → Type 0)
    → (O → Option (List ℕ)) → Ask → Result TagsFound LineEnd → A → B → A → B → (first last : O) → Type 0
EndsAsk a_stands b_stands held ask result a_old b_old a_new b_new first last = IfErr result (λ ended.
    (a b : LegOn) (m : MirrorState) → AreLegs (a_stands a_old) (b_stands b_old) a b m
    → HasEnded (a_stands a_new) (b_stands b_new) a b m ask ended (held first) (held last))

-- All is levelled,
abbrev pub RunsLevel : {A B O T E : Type 0} → (A → LegOn → Session → Type 0) → (B → LegOn → Session → Type 0)
    → (O → Option (List ℕ)) → Result T E → A → B → A → B → (first last : O) → Type 0
RunsLevel a_stands b_stands held result a_old b_old a_new b_new first last = OnOk result ((a b : LegOn)
    (m : MirrorState) → AreLegs (a_stands a_old) (b_stands b_old) a b m
    → HasLevelled (a_stands a_new) (b_stands b_new) a b m (held first) (held last))

-- or that ends before its text is whole.
abbrev pub EndsLevel : {A B O T : Type 0} → (A → LegOn → Session → Type 0) → (B → LegOn → Session → Type 0)
    → (O → Option (List ℕ)) → Result T LineEnd → A → B → A → B → (first last : O) → Type 0
EndsLevel a_stands b_stands held result a_old b_old a_new b_new first last = IfErr result (λ ended.
    (a b : LegOn) (m : MirrorState) → AreLegs (a_stands a_old) (b_stands b_old) a b m
    → HasEndedLevel (a_stands a_new) (b_stands b_new) a b m ended (held first) (held last))

-- ---- whatever the disks tell

-- Why a call was refused, if it was.
abbrev pub refusal_in : {T : Type 0} → Result T LineEnd → Option MeaningFault
refusal_in (Ok done) = None
refusal_in (Err (Ends.Refused fault)) = Some (meaning_of fault)
refusal_in (Err Ends.Disk) = None
refusal_in (Err Ends.Sink) = None
refusal_in (Err Ends.Memory) = None

-- A request is refused exactly where it has no meaning on so many blocks of so many bytes, and then all is as it was.
pub record Refuses {T M O : Type 0} (blocks size : ℕ) (ask : Ask) (result : Result T LineEnd) (old new : M)
    (first last : O) : Type 0 where
  pub exact : refusal_in result ≡ ask_fault_on blocks size ask
  pub kept : OnRefused result ((new ≡ old) × (last ≡ first))

-- Nothing is printed where a disk failed, or there was no memory.
pub record PrintsNothing {T O : Type 0} (result : Result T LineEnd) (first last : O) : Type 0 where
  pub disk : result ≡ Err Ends.Disk → last ≡ first
  pub memory : result ≡ Err Ends.Memory → last ≡ first

-- What a stop ends.
abbrev pub ended_by : Stop → LineEnd
ended_by Stops.Disk = Ends.Disk
ended_by Stops.Memory = Ends.Memory
