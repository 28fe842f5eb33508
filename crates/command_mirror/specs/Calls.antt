-- What the calls of a command of two images tell, over both disks, the source of the script and the sink.
use Rattle.std.specs.Prelude.{◌≡◌, ℕ, ◌<◌, List, Option, Some, Result, Ok, Err, IfErr}
use Rattle.disk_model.specs.Causes.{Rose}
use Rattle.disk_model.specs.Disk.{Content, last_image}
use Rattle.disk_model.specs.Identity.{DiskIdentity}
use Rattle.disk_model.specs.Moments.{HasNow}
use Rattle.judging_model.specs.declared.consent.Consent.{Consent}
use Rattle.run_model.specs.Ending.{Ending}
use Rattle.run_model.specs.declared.outer.Outer.TheVariants as outers
use Rattle.device_model.specs.Transcript.{closed_text}
use Rattle.stream_io.specs.Stream.{AddsPrefix, held_with}
use Rattle.mirror_model.specs.ScriptRun.{IsMirrorRunOf, MirrorRun}
use Rattle.device.specs.declared.mode.DeviceParts.{DeviceParts}
use Rattle.mirror_core.specs.Stands.{MayBeLeftOf, StandsFor}
use Rattle.command_ending.specs.declared.ended.Ended.{Ended}
use Rattle.command_ending.specs.declared.ended.Ended.TheVariants as Endings
use Rattle.command_ending.specs.declared.refusal.Refusal.TheVariants as refusals
use Rattle.script_lines.specs.Ends.{HasEndCause, IsCounted}
use Rattle.command_model.specs.Taken.{HasTaken}
use Rattle.device_model.specs.ScriptBytes.{most_taken}
use Rattle.command_task.specs.Running as Running
use Rattle.command_model.specs.Mirroring.{HasReadIn, HasReadTo}
use Rattle.mirror_run.specs.Running.{IsStopped}
use Rattle.mirror_run.specs.Standing.{BothMoments, IsStanding, Shown, Standing, cuts_by, format_at}
use Rattle.mirror_session.specs.Answering.{OneRose}
use Rattle.script_text.specs.declared.tags_found.TagsFound.{TagsFound}
use Rattle.command_mirror.specs.Mirrored.{HasMirrored, HasMirrorMoments, mirror_outset_on}

abbrev pub ending_by : Result TagsFound Ended → Ending
ending_by = Running.ending_by

-- What can end it: neither words nor a key.
abbrev pub EndsMirror : Ended → Type 0
EndsMirror (Endings.Refused refusals.Words) = ⊥
EndsMirror (Endings.Refused (refusals.Key refusal)) = ⊥
EndsMirror (Endings.Failed outers.Key) = ⊥
EndsMirror ended = Unit {0}

-- It ran so, and this stands of each disk at each moment, whatever script its source tells.
abbrev pub RunsMirror : {D E S O : Type 0} → (D → DiskIdentity) → (D → List Content) → (E → DiskIdentity)
    → (E → List Content) → (S → Option (List ℕ)) → (O → Option (List ℕ)) → Consent → (key : Option (List ℕ)) → Ending
    → (first last : D) → (second second_last : E) → S → (sink out : O) → Type 0
RunsMirror identity moments second_identity second_moments left held consent key ending first last second second_last
    script sink out = (bytes : List ℕ) → left script ≡ Some bytes → HasNow (λ c. HasNow (λ d.
    let outset = mirror_outset_on consent key (identity first).sectors (second_identity second).sectors
    (last_image c) (last_image d) in
    HasMirrored outset c d bytes ending (moments last) (second_moments second_last) (held sink) (held out)
    × HasMirrorMoments outset c d bytes (moments first) (moments last) (second_moments second)
    (second_moments second_last)) (second_moments second)) (moments first)

abbrev pub ReadsMirror : {D E S O : Type 0} → (D → DiskIdentity) → (D → List Content) → (E → DiskIdentity)
    → (E → List Content) → (S → Option (List ℕ)) → (O → Option (List ℕ)) → (S → ℕ) → Consent
    → (key : Option (List ℕ)) → D → E → (script read : S) → (sink out : O) → Type 0
ReadsMirror identity moments second_identity second_moments left held faults consent key first second script read
    sink out = HasTaken most_taken (left script) (left read) × ((bytes : List ℕ) → left script ≡ Some bytes
    → HasNow (λ c. HasNow (λ d. HasReadIn (mirror_outset_on consent key (identity first).sectors
    (second_identity second).sectors (last_image c) (last_image d)) bytes (left read) (held sink) (held out)
    (faults script < faults read)) (second_moments second)) (moments first))

-- ---- on a mirror that has just been made

-- What both devices show of themselves as legs.
abbrev pub shown_of : (first second : DeviceParts) → (moments second_moments : List Content) → Shown
shown_of first second moments second_moments = record {
  first = λ on session. StandsFor first moments on session.history;
  second = λ on session. StandsFor second second_moments on session.history;
  moments = record { first = moments; second = second_moments };
}

-- The run of the script on each mirror that they are came so far, and ended so.
abbrev pub RunsOnLegs : {S O : Type 0} → Shown → (after : BothMoments) → (S → Option (List ℕ)) → (O → Option (List ℕ))
    → Ending → S → (sink out : O) → Type 0
RunsOnLegs now after left held ending script sink out = (w : Standing) (bytes : List ℕ) (run : MirrorRun)
    → IsStanding w now → left script ≡ Some bytes → IsMirrorRunOf (format_at w) w.m bytes run
    → IsStopped (cuts_by MayBeLeftOf MayBeLeftOf) w run ending now.moments after (held sink) (held out)

-- No more of the script is taken than its bound, nor than that has come to.
abbrev pub ReadsOnLegs : {S O : Type 0} → Shown → (S → Option (List ℕ)) → (O → Option (List ℕ)) → (S → ℕ)
    → (script read : S) → (sink out : O) → Type 0
ReadsOnLegs now left held faults script read sink out = HasTaken most_taken (left script) (left read)
    × ((w : Standing) (bytes : List ℕ) (run : MirrorRun) → IsStanding w now → left script ≡ Some bytes
    → IsMirrorRunOf (format_at w) w.m bytes run
    → HasReadTo run bytes (left read) (held sink) (held out) (faults script < faults read))

-- The last line of a run that came to its end is printed, and whether a line told a block that matches on neither leg
-- is handed on; or the sink failed in that line.
abbrev pub TellsClosed : TagsFound → (held_before held : Option (List ℕ)) → Result TagsFound Ended → Type 0
TellsClosed found held_before held (Ok told) = (told ≡ found) × (held ≡ held_with closed_text held_before)
TellsClosed found held_before held (Err ended) = AddsPrefix closed_text held_before held

-- ---- causes

-- What is outside ends it only where its count rose, a disk where that of one alone did.
abbrev pub HasCauseOfMirror : {T D E S O : Type 0} → (D → ℕ) → (E → ℕ) → (S → ℕ) → (O → ℕ) → Result T Ended
    → (first last : D) → (second second_last : E) → (script read : S) → (sink out : O) → Type 0
HasCauseOfMirror faults second_faults script_faults sink_faults result first last second second_last script read sink
    out = IfErr result (HasEndCause
    (OneRose (faults first) (faults last) (second_faults second) (second_faults second_last))
    (Rose (script_faults script) (script_faults read)) (Rose (sink_faults sink) (sink_faults out)))

-- Each count rises only where that is what ended it.
abbrev pub IsCountedInMirror : {T D E S O : Type 0} → (D → ℕ) → (E → ℕ) → (S → ℕ) → (O → ℕ) → Result T Ended
    → (first last : D) → (second second_last : E) → (script read : S) → (sink out : O) → Type 0
IsCountedInMirror faults second_faults script_faults sink_faults result first last second second_last script read sink
    out = IsCounted outers.Disk (faults first) (faults last) result
    × IsCounted outers.Disk (second_faults second) (second_faults second_last) result
    × IsCounted outers.Script (script_faults script) (script_faults read) result
    × IsCounted outers.Sink (sink_faults sink) (sink_faults out) result
