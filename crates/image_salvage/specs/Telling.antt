-- What is told of an image that is salvaged: of each block in order its verdict and its bytes, and none behind the last.
use Rattle.std.specs.Prelude.{◌≡◌, ℕ, ◌+◌, nat_lt, Option, Some, None, option_map, is_some, List}
use Rattle.disk_model.specs.Disk.{Content, Image, last_image}
use Rattle.disk_model.specs.Moments.{HasNow}
use Rattle.place_model.specs.Format.{DiskFormat}
use Rattle.salvage_model.specs.Verdicts as Model
use Rattle.salvage_model.specs.Verdicts.{next_verdict, salvaged_bytes, verdict_on}
use Rattle.image_salvage.specs.declared.verdict.Verdict.{Verdict}
use Rattle.image_salvage.specs.Salvaged.{Salvaged, blocks_of, salvaged_format}

-- A verdict, as `salvage_model` has it.
abbrev pub as_verdict : Verdict → Model.Verdict
as_verdict verdict = record { block = verdict.block; stored = verdict.stored; computed = verdict.computed }

-- The verdict is that of the block, of the image that reads give,
abbrev pub TellsBlock : DiskFormat → (block : ℕ) → List Content → Verdict → Type 0
TellsBlock d block moments verdict = HasNow (λ c. as_verdict verdict ≡ verdict_on d (last_image c) block) moments

-- and these are its bytes.
abbrev pub IsCopyOf : DiskFormat → (block : ℕ) → List Content → (bytes : List ℕ) → Type 0
IsCopyOf d block moments bytes = HasNow (λ c. bytes ≡ salvaged_bytes d (last_image c) block) moments

-- What is told next of an image on a disk of so many sectors,
abbrev pub verdict_next : Salvaged → (sectors : ℕ) → Image → Option Model.Verdict
verdict_next image sectors found = next_verdict (salvaged_format image sectors found) found image.told

-- and the bytes of that block.
abbrev pub bytes_next : Salvaged → (sectors : ℕ) → Image → List ℕ
bytes_next image sectors found = salvaged_bytes (salvaged_format image sectors found) found image.told

-- The answer tells what is next of the image that reads give. There is a verdict exactly where a block is left.
pub record TellsNext (image : Salvaged) (sectors : ℕ) (moments : List Content) (answer : Option Verdict) : Type 0 where
  pub verdict : HasNow (λ c. option_map as_verdict answer ≡ verdict_next image sectors (last_image c)) moments
  pub some : is_some answer ≡ nat_lt image.told (blocks_of image)

-- The bytes behind an answer are those of the block that it tells, and where it tells none they are as they were.
abbrev pub GivesBytes : Salvaged → (sectors : ℕ) → List Content → Option Verdict → (old new : List ℕ) → Type 0
GivesBytes image sectors moments None old new = new ≡ old
GivesBytes image sectors moments (Some verdict) old new =
    HasNow (λ c. new ≡ bytes_next image sectors (last_image c)) moments

-- How many blocks are told behind an answer, where so many were.
abbrev pub told_behind : Option Verdict → ℕ → ℕ
told_behind None told = told
told_behind (Some verdict) told = told + 1
