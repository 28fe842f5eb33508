-- What a command is given, and what it tells of that with a status.
use Rattle.std.specs.Prelude.{◌≡◌, ◌≢◌, ℕ, List, map, String}
use Rattle.std.proofs.Common.{inl, inr}
use Rattle.std.specs.String.{string_bytes}
use Rattle.disk_model.specs.Disk.{Content, Image}
use Rattle.device_model.specs.Device.{DeviceKind}
use Rattle.run_model.specs.Ending.{fault_text}
use Rattle.run_model.specs.CommandRun.{Faults, Outset, Serves, Tells}
use Rattle.run_model.specs.ServedRun.{TellsServed}
use Rattle.command_model.specs.World.{Counts, rises}

-- The bytes of each of the words.
abbrev pub texts : {Z : Type 0} → List (String Z) → List (List ℕ)
texts words = map string_bytes words

-- The words; the bytes of the key file, where they name one; how many sectors the image has that they name, and what it
-- holds; and the script.
pub record Given : Type 0 where
  pub words : List (List ℕ)
  pub key_bytes : List ℕ
  pub sectors : ℕ
  pub content : Content
  pub script : List ℕ

-- It tells its run with this status, and leaves the image so. With another status than 6 no fault of the sink is passed
-- over: where all of the last line stands, the sink has not failed; it has failed in that line at most.
pub record TellsRun (outset : Outset) (given : Given) (status : ℕ) (first last : Counts) (before after : List ℕ)
    (later : Content) : Type 0 where
  pub told : Tells outset given.content given.script before after status (rises first last) later
  pub sink_passed : status ≢ 6 → told.line ≡ fault_text told.ending → last.sink ≡ first.sink

-- All of the last line stands, which a session does not have.
abbrev pub HasWholeLine : {kind : DeviceKind} {image : Image} {start later : Content} {stream before after : List ℕ}
    {status : ℕ} {faults : Faults} → TellsServed kind image start stream before after status faults later → Type 0
HasWholeLine (inl unbegun) = unbegun.line ≡ fault_text unbegun.ended
HasWholeLine (inr served) = Unit {0}

-- The same of a stream that is served: from the session's beginning on nothing but replies is written.
pub record TellsSession (kind : DeviceKind) (image : Image) (given : Given) (status : ℕ) (first last : Counts)
    (before after : List ℕ) (later : Content) : Type 0 where
  pub told : TellsServed kind image given.content given.script before after status (rises first last) later
  pub sink_passed : status ≢ 6 → HasWholeLine told → last.sink ≡ first.sink

-- Either of them, by what it starts on.
abbrev pub TellsIn : Outset → Given → (status : ℕ) → (first last : Counts) → (before after : List ℕ)
    → (later : Content) → Type 0
TellsIn (Serves kind image) given status first last before after later =
    TellsSession kind image given status first last before after later
TellsIn outset given status first last before after later =
    TellsRun outset given status first last before after later
