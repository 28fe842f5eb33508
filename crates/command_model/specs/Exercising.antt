-- What `exercise` makes and runs, or why a disk is refused by it.
-- Own: the image has areas of eight sectors, a journal of four sections, and else what `format` makes without an
-- option; the device is in journal mode, and its tags have no key.
use Rattle.std.specs.Prelude.{◌≡◌, ◌⊎◌, ℕ, List, [], ◌∷◌, ◌++◌, Some, None, Result, Ok, Err}
use Rattle.disk_model.specs.Disk.{Content, EachImage, last_image}
use Rattle.disk_model.specs.Moments.{content_now, EachMoment, HasNow}
use Rattle.device_model.specs.Refusals.{ByGeometry}
use Rattle.run_model.specs.Ending.{Refused, ByImage}
use Rattle.device_model.specs.History.{Change}
use Rattle.device_model.specs.Mode.{DeviceFormat, Journal}
use Rattle.device_model.specs.Progress.{Close, DeviceState, event_result}
use Rattle.device_model.specs.Script.{after_script}
use Rattle.image_model.specs.declared.geom_fault.GeomFault.{GeomFault}
use Rattle.place_model.specs.Format.{format_on}
use Rattle.place_model.specs.Kind.{CanOpenIn, kind_in}
use Rattle.image_model.specs.declared.new_image.ImageMode.TheVariants as image_modes
use Rattle.formatting_model.specs.declared.new_image.NewImage.{NewImage}
use Rattle.image_model.specs.declared.new_image.Padding.TheVariants.{Fixed}
use Rattle.image_model.specs.declared.new_image.Wipe.TheVariants.{Wiped}
use Rattle.formatting_model.specs.Formatted.{IsNewContent, format_with, rule_with}
use Rattle.formatting_model.specs.NewImage.{provided_of}
use Rattle.run_model.specs.CommandRun.{Exercising, Outset, RefusedBy, Exercises, IsOfScriptRun}
use Rattle.workload_model.specs.Exercise.{exercise_lines}
use Rattle.workload_model.specs.InOrder.{AreLinesBegun, changes_by_line}
use Rattle.command_model.specs.Making.{IsLeftByMaking, IsMadeInOrder}

-- The image of an exercise.
abbrev pub exercise_image : NewImage
exercise_image = record {
  tag_size = 32;
  log2_spb = 0;
  log2_interleave = 3;
  mode = image_modes.Journal;
  sections = 4;
  log2_region = 15;
  salt = None;
  padding = Fixed;
  wipe = Wiped;
}

-- The exercise with so many requests of a seed, on a disk of so many sectors whose image provides so many.
abbrev pub exercising_of : (sectors provided count seed : ℕ) → Exercising
exercising_of sectors provided count seed = record {
  MayBeLeft = IsLeftByMaking None sectors exercise_image;
  IsMade = IsNewContent exercise_image.wipe (rule_with None exercise_image) (format_with exercise_image provided);
  kind = kind_in Journal None sectors;
  geometry = λ image. (format_on None sectors image).geometry;
  count = count;
  seed = seed;
}

-- By how many sectors the image is to provide: it is made and exercised, or there is no room for it.
abbrev pub outset_by_exercise : (sectors count seed : ℕ) → Result ℕ GeomFault → Outset
outset_by_exercise sectors count seed (Ok provided) = Exercises (exercising_of sectors provided count seed)
outset_by_exercise sectors count seed (Err fault) = RefusedBy (Refused (ByImage (ByGeometry fault)))

-- What an exercise starts on, whatever stands on the disk.
abbrev pub exercise_outset : (sectors count seed : ℕ) → Outset
exercise_outset sectors count seed = outset_by_exercise sectors count seed (provided_of exercise_image sectors)

-- ---- in order

-- What each line of an exercise does to the history of a device, and behind the last one its close.
abbrev pub changes_by_step : DeviceFormat → DeviceState → (count seed : ℕ) → List (List Change)
changes_by_step f s count seed =
    let lines = exercise_lines count seed f.blocks.blocks in
    changes_by_line f s lines ++ (event_result f (after_script f s lines) Close).changes ∷ []

-- The image was made of the content at the start. A device is opened on it, and behind that the lines of the one run
-- are made, each behind the one before, and then the close, as far as it came: so from the end of a flush on each
-- moment has all that was written before it.
pub record IsExercisedByLine (sectors count seed : ℕ) (start : Content) (made after : List Content) : Type 0 where
  pub provided : ℕ
  pub is_provided : provided_of exercise_image sectors ≡ Ok provided
  pub image : Content
  pub is_now : content_now made ≡ Some image
  pub is_made : (exercising_of sectors provided count seed).IsMade start image
  pub opened : List Content
  pub opening : EachMoment made opened (IsOfScriptRun (kind_in Journal None sectors) (last_image image) image [])
  pub lines : let kind = kind_in Journal None sectors in
      AreLinesBegun kind (last_image image) (kind.opened (last_image image)).history
      (changes_by_step (kind.format (last_image image)) (kind.opened (last_image image)) count seed) opened after

-- The image is made in its order, or as far as that came, and only its sectors are written then; and behind that each
-- image can be opened, and the lines of the exercise are run in their order, if anything is done.
pub record IsExercisedInOrder (sectors count seed : ℕ) (before after : List Content) : Type 0 where
  pub made : List Content
  pub making : IsMadeInOrder None sectors exercise_image before made
  pub behind : EachMoment made after (EachImage (CanOpenIn Journal None sectors))
  pub by_line : HasNow (λ start. (after ≡ made) ⊎ IsExercisedByLine sectors count seed start made after) before
