-- What a mirror's command is given, and what it keeps of what lies outside, from first to last.
use Rattle.std.specs.Prelude.{◌≡◌, ◌≢◌, ℕ, ◌<◌, List, Option, Some, Result, Ok, Err}
use Rattle.std.specs.Option.{IsSomeAnd}
use Rattle.disk_model.specs.Disk.{Content, last_image}
use Rattle.disk_model.specs.Identity.{NamedDisk}
use Rattle.disk_model.specs.Moments.{content_now, EachMoment}
use Rattle.run_model.specs.Ending.{ByKey, Refused, fault_text}
use Rattle.run_model.specs.declared.key_refusal.KeyRefusal.{KeyRefusal}
use Rattle.mirror_model.specs.Command.{FirstMayStandAt, MirrorOutset, MirrorTells, RefusedBefore, SecondMayStandAt}
use Rattle.script_text.specs.declared.tags_found.TagsFound.{TagsFound}
use Rattle.command_ending.specs.declared.ended.Ended.{Ended}
use Rattle.command_task.specs.declared.asked.AskedMirror.{AskedMirror}
use Rattle.command_task.specs.declared.asked.Asking.TheVariants.{TwoImages}
use Rattle.command_task.specs.declared.telling.Telling.{Telling}
use Rattle.command_task.specs.declared.telling.Telling.TheVariants.{Lines}
use Rattle.command_task.specs.Running.{ending_by}
use Rattle.command_task.specs.Words.{asking_of, key_file_of}
use Rattle.command_model.specs.Mirroring.{HasReadIn}
use Rattle.command_mirror.specs.Mirrored.{HasMirrored, HasMirrorMoments, mirror_outset_on}
use Rattle.command_model.specs.KeyFile.{HasFile}
use Rattle.command_model.specs.Outset.{key_by}
use Rattle.command_model.specs.World.{Counts, World, either_rises}

-- ---- what it is given

-- What the words ask for; the bytes of the key file, where they name one; how many sectors each of the two images has,
-- and what it holds; and the script.
pub record MirrorGiven : Type 0 where
  pub asked : AskedMirror
  pub key_bytes : List ℕ
  pub sectors : ℕ
  pub second_sectors : ℕ
  pub content : Content
  pub second_content : Content
  pub script : List ℕ

-- What stands under the names of the two images.
abbrev pub first_in : AskedMirror → World → NamedDisk
first_in asked world = world.named asked.image

abbrev pub second_in : AskedMirror → World → NamedDisk
second_in asked world = world.second_named asked.second

-- A command is given this where its words ask for a mirror, and the source of keys, both disks and the source of the
-- script tell what they have.
pub record IsMirrorGiven (command : List (List ℕ)) (world : World) (given : MirrorGiven) : Type 0 where
  pub asks : asking_of command ≡ Some (TwoImages given.asked)
  pub key : HasFile (key_file_of given.asked.hash) world.keys given.key_bytes
  pub sectors : given.sectors ≡ (first_in given.asked world).sectors
  pub second_sectors : given.second_sectors ≡ (second_in given.asked world).sectors
  pub content : content_now (first_in given.asked world).moments ≡ Some given.content
  pub second_content : content_now (second_in given.asked world).moments ≡ Some given.second_content
  pub script_is : world.script ≡ Some given.script

-- What it starts on: the key is judged before the images.
abbrev pub keyed_mirror : Result (Option (List ℕ)) KeyRefusal → MirrorGiven → MirrorOutset
keyed_mirror (Ok key) given = mirror_outset_on given.asked.consent key given.sectors given.second_sectors
    (last_image given.content) (last_image given.second_content)
keyed_mirror (Err refusal) given = RefusedBefore (Refused (ByKey refusal))

abbrev pub mirror_outset_in : MirrorGiven → MirrorOutset
mirror_outset_in given = keyed_mirror (key_by (key_file_of given.asked.hash) given.key_bytes) given

-- ---- what it keeps, whatever it is given

-- It tells its run with this status, and leaves both images so. With another status than 6 the sink has failed in the
-- last line at most, and not where all of that stands.
pub record TellsMirror (given : MirrorGiven) (status : ℕ) (first last : Counts) (before after : List ℕ)
    (later second_later : Content) : Type 0 where
  pub told : MirrorTells (mirror_outset_in given) given.content given.second_content given.script before after status
      (either_rises first last) later second_later
  pub sink_passed : status ≢ 6 → told.line ≡ fault_text told.ending → last.sink ≡ first.sink

-- No more of the script is taken than its run has come to, nor is its source asked for more before that; and nothing
-- before the mirror is levelled, and that is told.
abbrev pub MirrorReadsNoFurther : MirrorGiven → (first last : World) → Type 0
MirrorReadsNoFurther given first last = HasReadIn (mirror_outset_in given) given.script last.script first.held last.held
    (first.faults.script < last.faults.script)

-- What it keeps of the world that gave it this: what it tells, where the sink tells what it holds; what stands of each
-- disk at each moment; and how much of the script it takes.
pub record KeepsMirror (given : MirrorGiven) (status : ℕ) (first last : World) : Type 0 where
  pub tells : (before : List ℕ) → first.held ≡ Some before → IsSomeAnd last.held (λ after.
      IsSomeAnd (content_now (first_in given.asked last).moments) (λ later.
      IsSomeAnd (content_now (second_in given.asked last).moments)
      (TellsMirror given status first.faults last.faults before after later)))
  pub moments : EachMoment (first_in given.asked first).moments (first_in given.asked last).moments
      (FirstMayStandAt (mirror_outset_in given) given.content given.script)
  pub second_moments : EachMoment (second_in given.asked first).moments (second_in given.asked last).moments
      (SecondMayStandAt (mirror_outset_in given) given.second_content given.script)
  pub ahead : MirrorReadsNoFurther given first last

abbrev pub KeepsMirrored : {T : Type 0} → (T → World) → (command : List (List ℕ)) → (status : ℕ) → (first last : T)
    → Type 0
KeepsMirrored world command status first last = (given : MirrorGiven) → IsMirrorGiven command (world first) given
    → KeepsMirror given status (world first) (world last)

-- What its run keeps of it before the last line: no session has begun, it came so far, and the rest as above.
pub record KeepsMirrorRun (given : MirrorGiven) (telling : Telling) (result : Result TagsFound Ended)
    (first last : World) : Type 0 where
  pub lines : telling ≡ Lines
  pub runs : HasMirrored (mirror_outset_in given) given.content given.second_content given.script (ending_by result)
      (first_in given.asked last).moments (second_in given.asked last).moments first.held last.held
  pub moments : HasMirrorMoments (mirror_outset_in given) given.content given.second_content given.script
      (first_in given.asked first).moments (first_in given.asked last).moments
      (second_in given.asked first).moments (second_in given.asked last).moments
  pub ahead : MirrorReadsNoFurther given first last

abbrev pub RunsMirrored : {T : Type 0} → (T → World) → (command : List (List ℕ)) → Telling → Result TagsFound Ended
    → (first last : T) → Type 0
RunsMirrored world command telling result first last = (given : MirrorGiven)
    → IsMirrorGiven command (world first) given → KeepsMirrorRun given telling result (world first) (world last)
