-- Scripts on a device in recovery mode, by computing: 80 blocks of 512 bytes, all zero, with tags that are not theirs.
use Rattle.std.proofs.Common.{◌≡◌, ℕ, true, false, List, [], ◌∷◌, replicate, map, refl}
use Rattle.std.specs.Prelude.{codes}
use Rattle.std.specs.Fmt.{digits}
use Rattle.hex.specs.Hex.{encode_with}
use Rattle.image_model.specs.Cells.{Cell}
use Rattle.device_model.specs.Grammar.{Means}
use Rattle.device_model.specs.Mode.{DeviceFormat, Recovery}
use Rattle.device_model.specs.Progress.{DeviceState, opened_device, Commit, Place, Settle, Clean, Recalc}
use Rattle.device_model.specs.Script.{ScriptLine, AskLine, ServeLine, TakeLine, StepLine, Fill, Read, Flush}
use Rattle.device_model.specs.Stretches.{stretches_text}
use Rattle.run_model.specs.Ending.{Complete}
use Rattle.run_model.specs.ScriptRun.{ScriptRun, IsRunOf, run_from, whole_text}
use Rattle.device_model.specs.ScriptBytes.{is_too_long}
use Rattle.place_model.specs.Opened.{device_format, opened_on}
use Rattle.place_model.proofs.WorkedDisk.{journal_format, zeros_journal}
use Rattle.recovery_laws.proofs.EventLemmas.{opening_law}
use Rattle.run_laws.specs.RecoveryLaws.{ChangesNothing}
use Rattle.run_laws.proofs.RecoveryLemmas.{recovery_run_law}

abbrev easy_tag : ℕ → List ℕ → List ℕ
easy_tag b [] = b ∷ []
easy_tag b (x ∷ bytes) = b ∷ x ∷ []

abbrev small : DeviceFormat
small = record {
  mode = Recovery;
  blocks = record { blocks = 80; block_size = 512; tag = easy_tag };
  slots = 16;
  sections = 1;
  entries = 80;
  regions = 1;
  region_of = λ b. 0;
}

-- No tag is that of its block.
abbrev wrong_blocks : ℕ → Cell
wrong_blocks b = record { bytes = replicate 512 0; tag = 7 ∷ [] }

abbrev fresh : DeviceState
fresh = opened_device wrong_blocks 0 (λ r. false) (λ r. false)

abbrev text_of : List ScriptLine → List ℕ
text_of lines = whole_text (run_from small false 1 fresh false (map Means lines))

-- A read tells the bytes, a write is read only, and a flush is done.
whole_text-three : text_of (AskLine false (Read 5 1) ∷ AskLine false (Fill 5 1 187 false) ∷ AskLine false Flush ∷ [])
    ≡ codes "ok read 5 1 00*512\nread only\nok flush\nclosed\n"
unfolding stretches_text encode_with digits
whole_text-three = refl

ending-three : (run_from small false 1 fresh false (map Means (AskLine false (Read 5 1) ∷ AskLine false (Fill 5 1 187 false) ∷ AskLine false Flush ∷ []))).ending ≡ Complete false
unfolding stretches_text encode_with digits
ending-three = refl

-- A request that is only started is served and taken, a write takes no ticket, and every actor is idle.
whole_text-started : text_of
    (AskLine true (Read 0 2) ∷ AskLine true (Fill 0 1 187 true) ∷ AskLine true Flush ∷ ServeLine 1 ∷ ServeLine 1 ∷ ServeLine 2 ∷ TakeLine 2 ∷ TakeLine 1
    ∷ StepLine Commit ∷ StepLine Place ∷ StepLine Settle ∷ StepLine Clean ∷ StepLine Recalc ∷ [])
    ≡ codes "ticket 1\nread only\nticket 2\ndid\ndone\ndone\nok flush\nok read 0 2 00*1024\nidle\nidle\nidle\nidle\nidle\nclosed\n"
unfolding stretches_text encode_with digits
whole_text-started = refl

-- A line with a block that is not there is refused before that.
whole_text-range : text_of (AskLine false (Fill 80 1 170 false) ∷ []) ≡ codes "fault line 1 range 80 1\n"
unfolding digits
whole_text-range = refl

-- An empty script runs on the device that opens a disk whose journal has no walk, and changes nothing.
abbrev format : DeviceFormat
format = device_format Recovery journal_format

abbrev opened : DeviceState
opened = opened_on Recovery journal_format zeros_journal

abbrev run : ScriptRun
run = run_from format (is_too_long []) 1 opened false []

IsRunOf-empty : IsRunOf format opened [] run
IsRunOf-empty = record { lines = []; read = tt; is = refl }

changes-nothing : ChangesNothing opened run
changes-nothing = recovery_run_law format opened journal_format zeros_journal [] run (opening_law journal_format zeros_journal) IsRunOf-empty
