-- How a command ends: with which status, and with which last line where it was ended early.
-- Own: the statuses and the texts. Those of a mirror's second image are those of the first under another word.
use Rattle.std.specs.Prelude.{ℕ, Bool, if◌then◌else◌, List, [], ◌++◌, codes}
use Rattle.std.specs.Fmt.{decimal}
use Rattle.device_model.specs.Refusals.{ImageFault, LineFault, image_fault_text, line_fault_text}
use Rattle.run_model.specs.declared.key_refusal.KeyRefusal.{KeyRefusal}
use Rattle.run_model.specs.declared.key_refusal.KeyRefusal.TheVariants.{Empty, Long}
use Rattle.run_model.specs.declared.outer.Outer.{Outer}
use Rattle.run_model.specs.declared.outer.Outer.TheVariants.{Disk, Key, Script, Sink}

-- Why a command is refused: its words are none that the program has a command for; the bytes of its key file are no
-- key; its image is refused; the second image of a mirror is; the legs of a mirror differ in how many blocks they have,
-- or in how many bytes a block has; a line of its script is refused, the first of which has number 1; or its script is
-- too long.
pub data Refusal : Type 0 where
  ByWords : Refusal
  ByKey : (refusal : KeyRefusal) → Refusal
  ByImage : (fault : ImageFault) → Refusal
  BySecond : (fault : ImageFault) → Refusal
  ByLegs : (a_blocks a_size b_blocks b_size : ℕ) → Refusal
  ByLine : (number : ℕ) → (fault : LineFault) → Refusal
  ByLength : Refusal

-- What ended a command: its own end, with a block whose stored tag differs or without; a refusal; what lies outside,
-- which failed; or want of memory.
pub data Ending : Type 0 where
  Complete : (found_fault : Bool) → Ending
  Refused : (refusal : Refusal) → Ending
  Failed : (outer : Outer) → Ending
  NoMemory : Ending

-- ---- its status

-- An image that is refused has a status of its own, and so have legs that are no mirror.
abbrev pub refused_status : Refusal → ℕ
refused_status (ByImage fault) = 3
refused_status (BySecond fault) = 3
refused_status (ByLegs a_blocks a_size b_blocks b_size) = 3
refused_status other = 2

abbrev pub failed_status : Outer → ℕ
failed_status Disk = 4
failed_status Key = 5
failed_status Script = 5
failed_status Sink = 6

abbrev pub status_of : Ending → ℕ
status_of (Complete found_fault) = if found_fault then 1 else 0
status_of (Refused refusal) = refused_status refusal
status_of (Failed outer) = failed_status outer
status_of NoMemory = 7

-- ---- its last line

abbrev pub key_refusal_text : KeyRefusal → List ℕ
key_refusal_text Empty = codes "empty"
key_refusal_text Long = codes "long"

-- The last line of a command that is refused.
abbrev pub refusal_line : Refusal → List ℕ
refusal_line ByWords = codes "fault words\n"
refusal_line (ByKey refusal) = codes "fault key " ++ key_refusal_text refusal ++ codes "\n"
refusal_line (ByImage fault) = codes "fault image " ++ image_fault_text fault ++ codes "\n"
refusal_line (BySecond fault) = codes "fault second " ++ image_fault_text fault ++ codes "\n"
refusal_line (ByLegs a_blocks a_size b_blocks b_size) =
    codes "fault legs " ++ decimal a_blocks ++ codes " " ++ decimal a_size
    ++ codes " " ++ decimal b_blocks ++ codes " " ++ decimal b_size ++ codes "\n"
refusal_line (ByLine number fault) = codes "fault line " ++ decimal number ++ codes " " ++ line_fault_text fault ++ codes "\n"
refusal_line ByLength = codes "fault script long\n"

-- That of a command whose outside failed. A sink that fails gets none.
abbrev pub failed_line : Outer → List ℕ
failed_line Disk = codes "fault disk\n"
failed_line Key = codes "fault key\n"
failed_line Script = codes "fault script\n"
failed_line Sink = []

-- The last line of a command that was ended early.
abbrev pub fault_text : Ending → List ℕ
fault_text (Complete found_fault) = []
fault_text (Refused refusal) = refusal_line refusal
fault_text (Failed outer) = failed_line outer
fault_text NoMemory = codes "fault memory\n"
