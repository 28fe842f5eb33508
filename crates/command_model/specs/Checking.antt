-- What `check` prints, or why an image is refused by it.
-- Own: the texts. Each bad block has a line, in order, and the last line tells how many there are.
use Rattle.std.specs.Prelude.{ℕ, ltb, Bool, List, [], ◌∷◌, ◌++◌, length, map, codes, Option, Some, None}
use Rattle.std.specs.Fmt.{decimal}
use Rattle.hex.specs.Hex.{encode_lower}
use Rattle.disk_model.specs.Disk.{Image}
use Rattle.device_model.specs.Transcript.{with_newline}
use Rattle.check_model.specs.Bad.{bad_blocks}
use Rattle.check_model.specs.declared.bad.Bad.{Bad}
use Rattle.image_model.specs.declared.judged.What.{What}
use Rattle.check_model.specs.Faults.{fault_for}
use Rattle.judging_model.specs.Faults.{ImageFault}
use Rattle.check_model.specs.Report.{awaiting_in}
use Rattle.place_model.specs.Format.{DiskFormat, format_on}
use Rattle.run_model.specs.CommandRun.{Outset, RefusedBy, Prints}
use Rattle.command_model.specs.Refusing.{ending_by_refusal}

-- ---- the lines

-- The line of a bad block, with the tag that is stored for it and that of its bytes.
abbrev pub bad_line : Bad → List ℕ
bad_line bad =
    with_newline (codes "bad " ++ decimal bad.block
    ++ codes " stored " ++ encode_lower bad.stored ++ codes " computed " ++ encode_lower bad.computed)

-- The last line: how many blocks there are, how many are bad, and how many await their tags.
abbrev pub counts_line : (blocks bad awaiting : ℕ) → List ℕ
counts_line blocks bad awaiting =
    with_newline (codes "blocks " ++ decimal blocks ++ codes " bad " ++ decimal bad
    ++ codes " awaiting " ++ decimal awaiting)

-- The last line of an image with so many bad blocks.
abbrev pub last_line : DiskFormat → Image → (bad : ℕ) → List ℕ
last_line d image bad = counts_line d.geometry.blocks bad (awaiting_in d image)

-- All lines of an image with these bad blocks.
abbrev pub lines_with : DiskFormat → Image → List Bad → List (List ℕ)
lines_with d image bad = map bad_line bad ++ last_line d image (length bad) ∷ []

-- There is one.
abbrev pub has_bad : List Bad → Bool
has_bad bad = ltb 0 (length bad)

-- ---- what it starts on

-- By why the image is refused, if it is: its lines are printed, or it is refused.
abbrev pub outset_by_check : What → DiskFormat → Image → Option ImageFault → Outset
outset_by_check what d image None =
    let bad = bad_blocks what d image in Prints (lines_with d image bad) (has_bad bad)
outset_by_check what d image (Some refusal) = RefusedBy (ending_by_refusal refusal)

-- What a check starts on, on a disk of so many sectors with this image, under a key.
abbrev pub check_outset : What → (key : Option (List ℕ)) → (sectors : ℕ) → Image → Outset
check_outset what key sectors image =
    outset_by_check what (format_on key sectors image) image (fault_for what key sectors image)
