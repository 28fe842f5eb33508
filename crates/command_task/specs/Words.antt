-- What the words ask for.
-- Own: the commands are `format`, `dump`, `check`, `salvage`, `resize`, `run`, `nbd`, `mirror` and `exercise`.
use Rattle.std.specs.Prelude.{◌≤◌, ℕ, List, [], Option, Some, None, option_and_then, option_map}
use Rattle.command_words.specs.Commands.{command_of}
use Rattle.command_words.specs.Numbers.{log2_of}
use Rattle.command_words.specs.Sizes.{log2_sectors}
use Rattle.command_words.specs.declared.command.Command.{Command}
use Rattle.command_words.specs.declared.command.Command.TheVariants as Commands
use Rattle.command_words.specs.declared.command.Check.{Check}
use Rattle.command_words.specs.declared.command.Dump.{Dump}
use Rattle.command_words.specs.declared.command.Exercise.{Exercise}
use Rattle.command_words.specs.declared.command.Format.{Format}
use Rattle.command_words.specs.declared.command.Mirror.{Mirror}
use Rattle.command_words.specs.declared.command.Nbd.{Nbd}
use Rattle.command_words.specs.declared.command.Run.{Run}
use Rattle.command_words.specs.declared.command.Resize.{Resize}
use Rattle.command_words.specs.declared.command.Salvage.{Salvage}
use Rattle.command_words.specs.declared.values.Consent as words_consent
use Rattle.command_words.specs.declared.values.Consent.TheVariants as consents
use Rattle.command_words.specs.declared.values.HashChoice.{HashChoice}
use Rattle.command_words.specs.declared.values.HashChoice.TheVariants.{Sha256, HmacSha256}
use Rattle.command_words.specs.declared.values.Mode.{Mode}
use Rattle.command_words.specs.declared.values.Mode.TheVariants as modes
use Rattle.command_words.specs.declared.values.NbdMode.{NbdMode}
use Rattle.command_words.specs.declared.values.NbdMode.TheVariants as nbd_modes
use Rattle.formatting_model.specs.declared.new_image.NewImage.{NewImage}
use Rattle.formatting_model.specs.NewImage.{IsNewImage}
use Rattle.judging_model.specs.declared.consent.Consent.{Consent}
use Rattle.judging_model.specs.declared.consent.Consent.TheVariants.{Given, Withheld}
use Rattle.device.specs.declared.opening.OpenMode.{OpenMode}
use Rattle.device.specs.declared.opening.OpenMode.TheVariants.{Bitmap, Direct, Journal, Recovery}
use Rattle.command_task.specs.declared.asked.Asked.{Asked}
use Rattle.command_task.specs.declared.asked.AskedMirror.{AskedMirror}
use Rattle.command_task.specs.declared.asked.Asking.{Asking}
use Rattle.command_task.specs.declared.asked.Asking.TheVariants.{OneImage, TwoImages}
use Rattle.command_task.specs.declared.asked.Task.{Task}
use Rattle.command_task.specs.declared.asked.Task.TheVariants as Tasks

-- ---- the image that `format` is to make

abbrev pub new_image_of : Format → NewImage
new_image_of format = record {
  tag_size = format.tag_size;
  log2_spb = log2_sectors format.block_size;
  log2_interleave = log2_of format.interleave;
  sections = format.sections;
  log2_region = format.log2_blocks_per_bit;
  salt = format.salt;
  padding = format.padding;
  mode = format.mode;
  wipe = format.wipe;
}

-- Its fields are in their ranges, an exercise has at most so many requests, and requests are served in a mode that takes
-- writes. What else is done asks for none.
abbrev pub most_requests : ℕ
most_requests = 1000000

-- The mode takes writes.
abbrev pub MayWrite : OpenMode → Type 0
MayWrite (Direct consent) = Unit {0}
MayWrite (Journal consent) = Unit {0}
MayWrite (Bitmap consent) = Unit {0}
MayWrite Recovery = ⊥

abbrev pub IsTask : Task → Type 0
IsTask (Tasks.Run mode) = Unit {0}
IsTask (Tasks.Serve mode) = MayWrite mode
IsTask Tasks.Dump = Unit {0}
IsTask (Tasks.Check what) = Unit {0}
IsTask Tasks.Salvage = Unit {0}
IsTask Tasks.Resize = Unit {0}
IsTask (Tasks.Format new) = IsNewImage new
IsTask (Tasks.Exercise seed count) = count ≤ most_requests

abbrev pub IsAsking : Asking → Type 0
IsAsking (OneImage asked) = IsTask asked.task
IsAsking (TwoImages asked) = Unit {0}

-- ---- by the words

abbrev pub format_asked : Format → Asked
format_asked format = record { image = format.image; hash = format.hash; task = Tasks.Format (new_image_of format) }

abbrev pub consent_as : words_consent.Consent → Consent
consent_as consents.Given = Given
consent_as consents.Withheld = Withheld

-- The mode of a run. Recovery mode makes no tag anew, and asks for no consent.
abbrev pub mode_as : Mode → words_consent.Consent → OpenMode
mode_as modes.Journal consent = Journal (consent_as consent)
mode_as modes.Direct consent = Direct (consent_as consent)
mode_as modes.Bitmap consent = Bitmap (consent_as consent)
mode_as modes.Recovery consent = Recovery

abbrev pub run_asked : Run → Asked
run_asked run = record { image = run.image; hash = run.hash; task = Tasks.Run (mode_as run.mode run.consent) }

-- The mode of a device that serves requests.
abbrev pub nbd_mode_as : NbdMode → words_consent.Consent → OpenMode
nbd_mode_as nbd_modes.Journal consent = Journal (consent_as consent)
nbd_mode_as nbd_modes.Direct consent = Direct (consent_as consent)
nbd_mode_as nbd_modes.Bitmap consent = Bitmap (consent_as consent)

abbrev pub nbd_asked : Nbd → Asked
nbd_asked nbd = record { image = nbd.image; hash = nbd.hash; task = Tasks.Serve (nbd_mode_as nbd.mode nbd.consent) }

-- A dump looks at no tag, and needs no key.
abbrev pub dump_asked : Dump → Asked
dump_asked dump = record { image = dump.image; hash = Sha256; task = Tasks.Dump }

abbrev pub check_asked : Check → Asked
check_asked check = record { image = check.image; hash = check.hash; task = Tasks.Check check.checked }

abbrev pub salvage_asked : Salvage → Asked
salvage_asked salvage = record { image = salvage.image; hash = salvage.hash; task = Tasks.Salvage }

abbrev pub resize_asked : Resize → Asked
resize_asked resize = record { image = resize.image; hash = resize.hash; task = Tasks.Resize }

-- An exercise makes tags without a key.
abbrev pub exercise_asked : Exercise → Asked
exercise_asked exercise = record {
  image = exercise.image;
  hash = Sha256;
  task = Tasks.Exercise exercise.seed exercise.count;
}

-- A mirror has two images, under one hash and key, both in journal mode.
abbrev pub mirror_asked : Mirror → AskedMirror
mirror_asked mirror = record {
  image = mirror.image;
  second = mirror.second;
  hash = mirror.hash;
  consent = consent_as mirror.consent;
}

-- What a command asks for.
abbrev pub asked_by : Command → Asking
asked_by (Commands.Format format) = OneImage (format_asked format)
asked_by (Commands.Run run) = OneImage (run_asked run)
asked_by (Commands.Nbd nbd) = OneImage (nbd_asked nbd)
asked_by (Commands.Mirror mirror) = TwoImages (mirror_asked mirror)
asked_by (Commands.Dump dump) = OneImage (dump_asked dump)
asked_by (Commands.Check check) = OneImage (check_asked check)
asked_by (Commands.Salvage salvage) = OneImage (salvage_asked salvage)
asked_by (Commands.Resize resize) = OneImage (resize_asked resize)
asked_by (Commands.Exercise exercise) = OneImage (exercise_asked exercise)

-- What the words ask for. The first is the program's name.
abbrev pub asking_of : List (List ℕ) → Option Asking
asking_of words = option_map asked_by (command_of words)

-- What is asked for on one image.
abbrev pub on_one_image : Asking → Option Asked
on_one_image (OneImage asked) = Some asked
on_one_image (TwoImages asked) = None

-- What the words ask for on one image.
abbrev pub asked_of : List (List ℕ) → Option Asked
asked_of words = option_and_then on_one_image (asking_of words)

-- The words name no second image: those of no command name none at all.
abbrev pub HasOneImage : Option Asking → Type 0
HasOneImage None = Unit {0}
HasOneImage (Some (OneImage asked)) = Unit {0}
HasOneImage (Some (TwoImages asked)) = ⊥

-- The name of the image, of two the first; no bytes where the words ask for none.
abbrev pub image_of : Option Asking → List ℕ
image_of None = []
image_of (Some (OneImage asked)) = asked.image
image_of (Some (TwoImages asked)) = asked.image

abbrev pub image_name : List (List ℕ) → List ℕ
image_name words = image_of (asking_of words)

-- The name of the second image, where there are two.
abbrev pub second_of : Option Asking → Option (List ℕ)
second_of None = None
second_of (Some (OneImage asked)) = None
second_of (Some (TwoImages asked)) = Some asked.second

abbrev pub second_name : List (List ℕ) → Option (List ℕ)
second_name words = second_of (asking_of words)

-- The file of the key, where tags are keyed.
abbrev pub key_file_of : HashChoice → Option (List ℕ)
key_file_of Sha256 = None
key_file_of (HmacSha256 key_file) = Some key_file

-- The key file that the words name, if they name one.
abbrev pub key_file_of_asking : Option Asking → Option (List ℕ)
key_file_of_asking None = None
key_file_of_asking (Some (OneImage asked)) = key_file_of asked.hash
key_file_of_asking (Some (TwoImages asked)) = key_file_of asked.hash

-- ---- what has no script

abbrev pub IsScriptless : Task → Type 0
IsScriptless (Tasks.Run mode) = ⊥
IsScriptless (Tasks.Serve mode) = ⊥
IsScriptless Tasks.Dump = Unit {0}
IsScriptless (Tasks.Check what) = Unit {0}
IsScriptless Tasks.Salvage = Unit {0}
IsScriptless Tasks.Resize = Unit {0}
IsScriptless (Tasks.Format new) = Unit {0}
IsScriptless (Tasks.Exercise seed count) = Unit {0}

-- The words ask for nothing that reads a script.
abbrev pub HasNoScript : Option Asking → Type 0
HasNoScript None = Unit {0}
HasNoScript (Some (OneImage asked)) = IsScriptless asked.task
HasNoScript (Some (TwoImages asked)) = ⊥
