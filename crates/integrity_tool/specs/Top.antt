-- What a command is given, and what it keeps of what lies outside, from first to last.
use Rattle.std.specs.Prelude.{◌≡◌, ◌≢◌, ◌⊎◌, ℕ, ◌<◌, ◌≤◌, List, Some, None, Result, Err, IfErr, OnOk}
use Rattle.std.specs.Option.{ForSome, IsSomeAnd}
use Rattle.disk_model.specs.Disk.{Content, last_image}
use Rattle.disk_model.specs.Identity.{IsBoundTo, NamedDisk}
use Rattle.disk_model.specs.Moments.{content_now, EachMoment, HasNow}
use Rattle.run_model.specs.declared.key_refusal.KeyRefusal.{KeyRefusal}
use Rattle.run_model.specs.CommandRun.{HasCauseIn, Outset}
use Rattle.script_text.specs.declared.tags_found.TagsFound.{TagsFound}
use Rattle.command_ending.specs.Ended.{ending_of}
use Rattle.command_ending.specs.declared.ended.Ended.{Ended}
use Rattle.command_ending.specs.declared.ended.Ended.TheVariants as Endings
use Rattle.integrity_tool.specs.declared.top_call.Outside.{Outside}
use Rattle.command_task.specs.Closed.{IsClosedFor}
use Rattle.command_model.specs.Ends.{Ends}
use Rattle.integrity_tool.specs.KeyFile.{ReadsKeyFile}
use Rattle.command_model.specs.KeyFile.{HasFile}
use Rattle.command_task.specs.declared.telling.Telling.{Telling}
use Rattle.command_task.specs.Opening.{HasRunIn}
use Rattle.command_model.specs.Opening.{HasReadIn, IsMomentOf}
use Rattle.command_task.specs.Order.{IsInOrderFor}
use Rattle.command_task.specs.Outset.{outset_of}
use Rattle.command_model.specs.Outset.{geometry_on, key_by}
use Rattle.command_task.specs.Running.{ending_by}
use Rattle.command_model.specs.Taken.{HasTaken}
use Rattle.script_lines.specs.Ends.{IsCounted}
use Rattle.command_task.specs.Serving.{most_taken_for}
use Rattle.command_task.specs.Unopened.{IsUnopenedFor}
use Rattle.command_task.specs.Words.{HasNoScript, HasOneImage, asked_of, asking_of, image_name, key_file_of_asking}
use Rattle.command_task.specs.Words.{second_name}
use Rattle.command_model.specs.World.{Counts, World, either_rises, rises}
use Rattle.command_model.specs.Given.{Given, TellsIn}
use Rattle.run_model.specs.declared.outer.Outer.TheVariants as outers

-- ---- what a command is given

-- What stands under the name of the image that a command names, of two the first.
abbrev pub image_in : (command : List (List ℕ)) → World → NamedDisk
image_in command world = world.named (image_name command)

-- A command of one image is given this where the keys, the disk and the script's source tell what they have.
pub record IsGiven (command : List (List ℕ)) (world : World) (given : Given) : Type 0 where
  pub words_are : given.words ≡ command
  pub one : HasOneImage (asking_of command)
  pub key : HasFile (key_file_of_asking (asking_of command)) world.keys given.key_bytes
  pub sectors : given.sectors ≡ (image_in command world).sectors
  pub content : content_now (image_in command world).moments ≡ Some given.content
  pub script_is : world.script ≡ Some given.script

-- What a command with this starts on.
abbrev pub outset_in : Given → Outset
outset_in given = outset_of given.words given.key_bytes given.sectors (last_image given.content)

-- ---- what it keeps, whatever it is given

-- What stands at a moment of it.
abbrev pub IsMomentIn : Given → (later : Content) → Type 0
IsMomentIn given later =
    IsMomentOf (outset_in given) (geometry_on given.sectors (last_image given.content)) given.content given.script
    later

-- What stands at each moment of it, and in which order.
pub record HasMomentsIn (given : Given) (before after : List Content) : Type 0 where
  pub each : EachMoment before after (IsMomentIn given)
  pub order : IsInOrderFor (asked_of given.words) given.key_bytes given.sectors before after

-- What the close of its device leaves.
abbrev pub IsLeftClosed : Given → (moments : List Content) → Type 0
IsLeftClosed given moments =
    HasNow (IsClosedFor (asked_of given.words) given.key_bytes given.sectors given.content given.script) moments

-- Where nothing is taken of the script, its device was not opened.
abbrev pub IsUnopened : (command : List (List ℕ)) → (first last : World) → Type 0
IsUnopened command first last = last.script ≡ first.script
    → IsUnopenedFor (asked_of command) (image_in command first).moments (image_in command last).moments

-- No more of the script is taken than its run has come to, nor is its source asked for more before that.
abbrev pub ReadsNoFurther : Given → (first last : World) → Type 0
ReadsNoFurther given first last =
    HasReadIn (outset_in given) given.script last.script first.held last.held (first.faults.script < last.faults.script)

-- What a command with this status keeps of the world that gave it this: what it tells, where the sink tells what it
-- holds; what stands at each moment, in which order; what a close leaves; that for want of memory no device was opened
-- but behind the script's first byte; and how much of the script it takes.
pub record Keeps (command : List (List ℕ)) (given : Given) (status : ℕ) (first last : World) : Type 0 where
  pub tells : (before : List ℕ) → first.held ≡ Some before → IsSomeAnd last.held (λ after.
      IsSomeAnd (content_now (image_in command last).moments)
      (TellsIn (outset_in given) given status first.faults last.faults before after))
  pub moments : HasMomentsIn given (image_in command first).moments (image_in command last).moments
  pub closed : status ≤ 1 → IsLeftClosed given (image_in command last).moments
  pub unopened : status ≡ 7 → IsUnopened command first last
  pub ahead : ReadsNoFurther given first last

abbrev pub KeepsGiven : {T : Type 0} → (T → World) → (command : List (List ℕ)) → (status : ℕ) → (first last : T)
    → Type 0
KeepsGiven world command status first last = (given : Given) → IsGiven command (world first) given
    → Keeps command given status (world first) (world last)

-- What its run keeps of it before the last line: it came so far, and the rest as above.
pub record KeepsRun (command : List (List ℕ)) (given : Given) (telling : Telling) (result : Result TagsFound Ended)
    (first last : World) : Type 0 where
  pub runs : HasRunIn (outset_in given) telling given.content given.script (ending_by result)
      (image_in command last).moments first.held last.held
  pub moments : HasMomentsIn given (image_in command first).moments (image_in command last).moments
  pub closed : OnOk result (IsLeftClosed given (image_in command last).moments)
  pub unopened : result ≡ Err Endings.Memory → IsUnopened command first last
  pub ahead : ReadsNoFurther given first last

abbrev pub RunsGiven : {T : Type 0} → (T → World) → (command : List (List ℕ)) → Telling → Result TagsFound Ended
    → (first last : T) → Type 0
RunsGiven world command telling result first last = (given : Given) → IsGiven command (world first) given
    → KeepsRun command given telling result (world first) (world last)

-- ---- its status

-- What ends its run is a disk, a source or the sink only where the count of its faults rose,
abbrev pub HasCauseOfCommand : {T R : Type 0} → (T → World) → Result R Ended → (first last : T) → Type 0
HasCauseOfCommand world result first last =
    IfErr result (λ ended. HasCauseIn (either_rises (world first).faults (world last).faults) (ending_of ended))

-- on one image the first disk's count;
abbrev pub HasCauseOnImage : {T R : Type 0} → (T → World) → Result R Ended → (first last : T) → Type 0
HasCauseOnImage world result first last =
    IfErr result (λ ended. HasCauseIn (rises (world first).faults (world last).faults) (ending_of ended))

-- and each count rises only where that is what ended it.
pub record IsCountedBy {R : Type 0} (result : Result R Ended) (before after : Counts) : Type 0 where
  pub disk : IsCounted outers.Disk before.disk after.disk result
  pub second : IsCounted outers.Disk before.second after.second result
  pub key : IsCounted outers.Key before.key after.key result
  pub script : IsCounted outers.Script before.script after.script result
  pub sink : IsCounted outers.Sink before.sink after.sink result

abbrev pub IsCountedInCommand : {T R : Type 0} → (T → World) → Result R Ended → (first last : T) → Type 0
IsCountedInCommand world result first last = IsCountedBy result (world first).faults (world last).faults

-- ---- what it leaves alone, over the objects themselves

-- No disk is called, and the script is not read.
abbrev pub AreUncalled : {D E K S O : Type 0} → (first last : Outside D E K S O) → Type 0
AreUncalled first last =
    (last.disk.now ≡ first.disk.now) × (last.second.now ≡ first.second.now) × (last.script.now ≡ first.script.now)

-- The words name a key file whose bytes are no key.
pub record HasWrongKey (command : List (List ℕ)) (world : World) : Type 0 where
  pub bytes : List ℕ
  pub has : HasFile (key_file_of_asking (asking_of command)) world.keys bytes
  pub refusal : KeyRefusal
  pub refused : key_by (key_file_of_asking (asking_of command)) bytes ≡ Err refusal

-- Words that are no command end it so, and touch neither a disk nor a source. A key that is refused, or whose source
-- fails, is so before a disk is called and the script is read. The second disk is called for a second image alone. The
-- script is not read where the command ends before that, or has none.
pub record CallsOnly {D E K S O : Type 0} (world : Outside D E K S O → World) (command : List (List ℕ)) (ends : Ends)
    (first last : Outside D E K S O) : Type 0 where
  pub words : asking_of command ≡ None → ends.by_words × (last.key.now ≡ first.key.now) × AreUncalled first last
  pub key_first : HasWrongKey command (world first) ⊎ ((world last).faults.key ≢ (world first).faults.key)
      → AreUncalled first last
  pub second : HasOneImage (asking_of command) → last.second.now ≡ first.second.now
  pub unread : ends.before_script ⊎ HasNoScript (asking_of command) → last.script.now ≡ first.script.now

-- What it reads: of the key's source nothing but the file that the words name, and at most 4097 bytes of that; and of
-- the script at most so many.
pub record ReadsOnly {D E K S O : Type 0} (world : Outside D E K S O → World) (command : List (List ℕ)) (ends : Ends)
    (first last : Outside D E K S O) : Type 0 where
  pub key : ReadsKeyFile (key_file_of_asking (asking_of command)) world first last ends.key_read
  pub taken : HasTaken (most_taken_for (asking_of command)) (world first).script (world last).script

-- An image has as many sectors as before, where its disk tells its content.
abbrev pub KeepsSectors : (before after : NamedDisk) → Type 0
KeepsSectors before after = ForSome (content_now before.moments) (λ c. after.sectors ≡ before.sectors)

-- The disk is bound to the image, and that of a second image to this, once it came to its end; and each image has as
-- many sectors as before, where the disk tells its content.
pub record IsOnImage {T : Type 0} (world : T → World) (command : List (List ℕ)) (ends : Ends) (first last : T)
    : Type 0 where
  pub bound : ends.complete → IsBoundTo (image_name command) (world last).bound
  pub sectors : KeepsSectors (image_in command (world first)) (image_in command (world last))
  pub second_bound : ends.complete
      → ForSome (second_name command) (λ name. IsBoundTo name (world last).second_bound)
  pub second_sectors : ForSome (second_name command)
      (λ name. KeepsSectors ((world first).second_named name) ((world last).second_named name))
