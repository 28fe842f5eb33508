-- How far the lines of an image are printed: of a check those of its bad blocks, of a salvage those of all.
use Rattle.std.specs.Prelude.{◌≡◌, ℕ, Bool, List, [], length, flat_map, Option, Result, IfErr, IfOk, not, map, filter}
use Rattle.disk_model.specs.Disk.{Content, Image, last_image}
use Rattle.disk_model.specs.Identity.{DiskIdentity}
use Rattle.disk_model.specs.Moments.{HasNow}
use Rattle.run_model.specs.Ending.{Ending}
use Rattle.image_check.specs.Checked.{Checked, bad_in, checked_format}
use Rattle.check_model.specs.declared.bad.Bad.{Bad}
use Rattle.stream_io.specs.Stream.{held_with}
use Rattle.command_ending.specs.Ended.{ending_of}
use Rattle.command_ending.specs.declared.ended.Ended.{Ended}
use Rattle.run_model.specs.CommandRun.{IsEndedShort, only_prints, IsEndedBy}
use Rattle.command_model.specs.Checking.{bad_line, lines_with}
use Rattle.std.specs.List.{range_with_len}
use Rattle.place_model.specs.Format.{DiskFormat}
use Rattle.salvage_model.specs.Salvaging.{block_text, has_bad, salvage_texts}
use Rattle.salvage_model.specs.Verdicts.{is_good, verdict_on}
use Rattle.image_salvage.specs.Salvaged.{Salvaged, blocks_of, salvaged_format}

-- ---- a check

-- All its lines.
abbrev pub lines_in : Checked → (sectors : ℕ) → Image → List (List ℕ)
lines_in checked sectors image = lines_with (checked_format checked sectors image) image (bad_in checked sectors image)

-- The lines of these blocks are printed behind what the sink held, and they are so many.
pub record IsListed (bad : List Bad) (count : ℕ) (held_before held : Option (List ℕ)) : Type 0 where
  pub counted : count ≡ length bad
  pub told : held ≡ held_with (flat_map bad_line bad) held_before

-- Something outside ended the printing of these texts, of which some are printed.
pub record IsPrintedShort (texts : List (List ℕ)) (ending : Ending) (held_before held : Option (List ℕ)) : Type 0 where
  pub text : List ℕ
  pub ended : (found_fault : Bool) → IsEndedShort (only_prints texts found_fault) text [] ending
  pub told : held ≡ held_with text held_before

-- The lines of all bad blocks of the image are printed,
abbrev pub ListsBad : {D O E : Type 0} → (D → DiskIdentity) → (D → List Content) → (O → Option (List ℕ)) → Checked
    → Result ℕ E → D → (sink out : O) → Type 0
ListsBad identity moments held checked result first sink out = IfOk result (λ count. HasNow (λ c.
    IsListed (bad_in checked (identity first).sectors (last_image c)) count (held sink) (held out)) (moments first))

-- or some of what was to be printed, and something ended it.
abbrev pub CutsList : {T D O : Type 0} → (D → DiskIdentity) → (D → List Content) → (O → Option (List ℕ)) → Checked
    → Result T Ended → D → (sink out : O) → Type 0
CutsList identity moments held checked result first sink out = IfErr result (λ ended. HasNow (λ c.
    IsPrintedShort (lines_in checked (identity first).sectors (last_image c)) (ending_of ended) (held sink) (held out))
    (moments first))

-- ---- a salvage

-- How many of the first blocks are bad.
abbrev pub bad_among : DiskFormat → Image → (told : ℕ) → ℕ
bad_among d image told =
    length (filter (λ verdict. not (is_good verdict)) (map (verdict_on d image) (range_with_len 0 told)))

-- The lines of the first blocks are printed behind what the sink held, and so many of these blocks are bad.
pub record IsToldTo (d : DiskFormat) (image : Image) (told bad : ℕ) (held_before held : Option (List ℕ)) : Type 0 where
  pub counted : bad ≡ bad_among d image told
  pub printed : held ≡ held_with (flat_map (block_text d image) (range_with_len 0 told)) held_before

-- This ended the printing of these texts, of which some are printed.
pub record IsPrintedBy (texts : List (List ℕ)) (found_fault : Bool) (ending : Ending)
    (held_before held : Option (List ℕ)) : Type 0 where
  pub text : List ℕ
  pub ended : IsEndedBy (only_prints texts found_fault) text [] ending
  pub told : held ≡ held_with text held_before

-- The lines of all blocks of the image are printed,
abbrev pub TellsBlocks : {D O E : Type 0} → (D → DiskIdentity) → (D → List Content) → (O → Option (List ℕ)) → Salvaged
    → Result ℕ E → D → (sink out : O) → Type 0
TellsBlocks identity moments held image result disk sink out = IfOk result (λ bad. HasNow (λ c.
    IsToldTo (salvaged_format image (identity disk).sectors (last_image c)) (last_image c) (blocks_of image) bad
    (held sink) (held out)) (moments disk))

-- or some of what was to be printed, and something ended it.
abbrev pub CutsBlocks : {T D O : Type 0} → (D → DiskIdentity) → (D → List Content) → (O → Option (List ℕ)) → Salvaged
    → Result T Ended → D → (sink out : O) → Type 0
CutsBlocks identity moments held image result disk sink out = IfErr result (λ ended. HasNow (λ c.
    IsPrintedShort (salvage_texts (salvaged_format image (identity disk).sectors (last_image c)) (last_image c))
    (ending_of ended) (held sink) (held out)) (moments disk))

-- All lines of the image are printed, or something ended that.
abbrev pub TellsImage : {D O : Type 0} → (D → DiskIdentity) → (D → List Content) → (O → Option (List ℕ)) → Salvaged
    → Ending → D → (sink out : O) → Type 0
TellsImage identity moments held image ending disk sink out = HasNow (λ c.
    let d = salvaged_format image (identity disk).sectors (last_image c) in
    IsPrintedBy (salvage_texts d (last_image c)) (has_bad d (last_image c)) ending (held sink) (held out))
    (moments disk)
