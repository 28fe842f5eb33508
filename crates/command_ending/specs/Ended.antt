-- What ended a command, as an ending of `run_model`.
use Rattle.std.specs.Borrow.{Bor}
use Rattle.std.specs.Prelude.{◌≡◌, ◌⊎◌, ℕ, List, ◌++◌, flat_map, codes, Option, Result, OnOk, OnErr}
use Rattle.std.specs.Fmt.{decimal}
use Rattle.std.specs.Option.{option_map}
use Rattle.disk_model.specs.Causes.{Rose}
use Rattle.journal_reading.specs.Faults.{as_fault}
use Rattle.stream_io.specs.Stream.{with_bytes, AddsPrefix}
use Rattle.device_model.specs.Refusals as model
use Rattle.device_model.specs.Refusals.{image_fault_text, line_fault_text}
use Rattle.device_model.specs.LineFault as Faults
use Rattle.device_model.specs.LineFault.{WordsFault}
use Rattle.script_text.specs.Meaning.{meaning_of}
use Rattle.run_model.specs.Ending as endings
use Rattle.run_model.specs.Ending.{Ending, ByWords, ByKey, ByImage, BySecond, ByLegs, ByLine, ByLength}
use Rattle.command_ending.specs.declared.ended.Ended.{Ended}
use Rattle.command_ending.specs.declared.ended.Ended.TheVariants.{Refused, Failed, Memory}
use Rattle.command_ending.specs.declared.form_fault.FormFault.{FormFault}
use Rattle.command_ending.specs.declared.form_fault.FormFault.TheVariants.{TooLong, NotText, WrongWord, WrongNumber, WrongByte, WrongRuns, MissingWord, ExtraWord}
use Rattle.command_ending.specs.declared.image_fault.ImageFault.{ImageFault}
use Rattle.command_ending.specs.declared.image_fault.ImageFault.TheVariants.{Super, Geom, Journal}
use Rattle.command_ending.specs.declared.image_fault.ImageFault.TheVariants as ImageFaults
use Rattle.command_ending.specs.declared.line_refusal.LineRefusal.{LineRefusal}
use Rattle.command_ending.specs.declared.line_refusal.LineRefusal.TheVariants.{Form, Meaning}
use Rattle.command_ending.specs.declared.refusal.Refusal.{Refusal}
use Rattle.command_ending.specs.declared.refusal.Refusal.TheVariants.{Words, Key, Image, Second, Legs, Line, Length}

-- The fault of a line's words that this is.
abbrev pub form_of : FormFault → WordsFault
form_of TooLong = Faults.TooLong
form_of NotText = Faults.NotText
form_of (WrongWord word) = Faults.WrongWord word.items
form_of (WrongNumber word) = Faults.WrongNumber word.items
form_of (WrongByte word) = Faults.WrongByte word.items
form_of (WrongRuns word) = Faults.WrongStretches word.items
form_of MissingWord = Faults.MissingWord
form_of (ExtraWord word) = Faults.ExtraWord word.items

abbrev pub line_fault_of : LineRefusal → model.LineFault
line_fault_of (Form fault) = model.ByWords (form_of fault)
line_fault_of (Meaning fault) = model.ByMeaning (meaning_of fault)

abbrev pub image_fault_of : ImageFault → model.ImageFault
image_fault_of (Super fault) = model.BySuperblock fault
image_fault_of (Geom fault) = model.ByGeometry fault
image_fault_of (ImageFaults.Consent flags) = model.ByConsent flags
image_fault_of (Journal fault) = model.ByJournal (as_fault fault)

-- The refusal that each stands for,
abbrev pub refusal_of : Refusal → endings.Refusal
refusal_of Words = ByWords
refusal_of (Key refusal) = ByKey refusal
refusal_of (Image fault) = ByImage (image_fault_of fault)
refusal_of (Second fault) = BySecond (image_fault_of fault)
refusal_of (Legs a_blocks a_size b_blocks b_size) = ByLegs a_blocks a_size b_blocks b_size
refusal_of (Line number refusal) = ByLine number (line_fault_of refusal)
refusal_of Length = ByLength

-- and the ending.
abbrev pub ending_of : Ended → Ending
ending_of (Refused refusal) = endings.Refused (refusal_of refusal)
ending_of (Failed outer) = endings.Failed outer
ending_of Memory = endings.NoMemory

-- ---- its last line

-- A call that puts this line into a sink: on success the sink has taken it, else some of it from the front.
pub record Puts {T E : Type 0} (line : List ℕ) (old new : Option (List ℕ)) (result : Result T E) : Type 0 where
  pub written : OnOk result (new ≡ option_map (with_bytes line) old)
  pub err : OnErr result (AddsPrefix line old new)

-- A sink has taken this line; or it failed, and has taken some of it from the front.
abbrev pub IsPut : {O : Type 0} → (O → Option (List ℕ)) → (O → ℕ) → (line : List ℕ) → (sink out : O) → Type 0
IsPut held faults line sink out = (held out ≡ option_map (with_bytes line) (held sink))
    ⊎ (Rose (faults sink) (faults out) × AddsPrefix line (held sink) (held out))

-- The bytes of some pieces, one after the other.
abbrev pub bytes_of : List (Bor (List ℕ)) → List ℕ
bytes_of pieces = flat_map (λ piece. piece.now) pieces

-- What stands behind the first words of the line of an image that is refused: this text of its fault, and the line's end.
unfoldable pub rest_of_line : List ℕ → List ℕ
rest_of_line text = text ++ codes "\n"

abbrev pub rest_of_image_line : model.ImageFault → List ℕ
rest_of_image_line fault = rest_of_line (image_fault_text fault)

-- The line of a script's line that is refused, with the digits of its number and the text of its fault.
unfoldable pub numbered_line : (number text : List ℕ) → List ℕ
numbered_line number text = codes "fault line " ++ number ++ codes " " ++ text ++ codes "\n"

abbrev pub script_line_of : ℕ → model.LineFault → List ℕ
script_line_of number fault = numbered_line (decimal number) (line_fault_text fault)
