-- An exercise of a device: what it asks, what it counts, and the line that it prints.
-- Own: the requests of a workload are run one by one, and then a read of each block, in order. No reply is printed.
use Rattle.std.specs.Prelude.{ℕ, ◌%◌, ◌^◌, Bool, true, false, ltb, List, [], ◌∷◌, ◌++◌, map, sum, sum_by, count_by, codes, Option, Some, None}
use Rattle.std.specs.Fmt.{decimal}
use Rattle.std.specs.List.{range_with_len}
use Rattle.device_model.specs.History.{Change}
use Rattle.device_model.specs.Mode.{DeviceFormat}
use Rattle.device_model.specs.Progress.{Answer, DeviceState, Event, Replied}
use Rattle.device_model.specs.Reply.{bytes_of}
use Rattle.device_model.specs.Script.{Ask, AskLine, Fill, Flush, Read, ScriptLine, Write, line_events, line_outcome, told_fault}
use Rattle.device_model.specs.Transcript.{with_newline}
use Rattle.workload_model.specs.Workload.{workload_asks}

-- ---- what is asked

-- A read of each block by itself, in order.
abbrev pub read_all : (blocks : ℕ) → List Ask
read_all blocks = map (λ block. Read block 1) (range_with_len 0 blocks)

-- The line of a script that asks for it.
abbrev pub asking_line : Ask → ScriptLine
asking_line ask = AskLine false ask

-- The lines of an exercise with so many requests of this seed.
abbrev pub exercise_lines : (count seed blocks : ℕ) → List ScriptLine
exercise_lines count seed blocks = map asking_line (workload_asks count seed blocks ++ read_all blocks)

-- What each of some lines is answered.
abbrev pub line_answers : DeviceFormat → DeviceState → List ScriptLine → List (Option Answer)
line_answers f s [] = []
line_answers f s (line ∷ lines) =
    let outcome = line_outcome f s line in
    outcome.answer ∷ line_answers f outcome.after lines

-- All that some lines do to the history.
abbrev pub line_changes : DeviceFormat → DeviceState → List ScriptLine → List Change
line_changes f s [] = []
line_changes f s (line ∷ lines) =
    let outcome = line_outcome f s line in
    outcome.changes ++ line_changes f outcome.after lines

-- The events of some lines, those of one line behind those of the other.
abbrev pub script_events : DeviceFormat → DeviceState → List ScriptLine → List Event
script_events f s [] = []
script_events f s (line ∷ lines) = line_events f s line ++ script_events f (line_outcome f s line).after lines

-- ---- what is counted

-- How many requests of the workload fill, read and flush; how many replies tell a block whose stored tag is not that of
-- its bytes; and the sum of all bytes that the other replies read, modulo 2^64.
pub record Tally : Type 0 where
  pub fills : ℕ
  pub reads : ℕ
  pub flushes : ℕ
  pub faults : ℕ
  pub sum_read : ℕ

abbrev pub is_fill : Ask → Bool
is_fill (Fill first count byte fua) = true
is_fill (Write first stretches fua) = false
is_fill (Read first count) = false
is_fill Flush = false

abbrev pub is_read : Ask → Bool
is_read (Fill first count byte fua) = false
is_read (Write first stretches fua) = false
is_read (Read first count) = true
is_read Flush = false

abbrev pub is_flush : Ask → Bool
is_flush (Fill first count byte fua) = false
is_flush (Write first stretches fua) = false
is_flush (Read first count) = false
is_flush Flush = true

-- The bytes that an answer has read: none where it is no reply, or tells such a block.
abbrev pub bytes_read : Option Answer → List ℕ
bytes_read None = []
bytes_read (Some answer) = elim answer [ Replied request reply returned ↦ bytes_of reply | _ ↦ [] ]

-- What some requests of a workload and some answers count.
abbrev pub tally_of : List Ask → List (Option Answer) → Tally
tally_of asks answers = record {
  fills = count_by is_fill asks;
  reads = count_by is_read asks;
  flushes = count_by is_flush asks;
  faults = count_by told_fault answers;
  sum_read = sum_by (λ answer. sum (bytes_read answer)) answers % 2 ^ 64;
}

-- ---- what is printed

abbrev pub exercise_text : Tally → List ℕ
exercise_text t = with_newline (codes "fills " ++ decimal t.fills ++ codes " reads " ++ decimal t.reads
    ++ codes " flushes " ++ decimal t.flushes ++ codes " faults " ++ decimal t.faults
    ++ codes " sum " ++ decimal t.sum_read)

-- An exercise tells a block whose stored tag is not that of its bytes.
abbrev pub finds_faults : Tally → Bool
finds_faults t = ltb 0 t.faults

-- What an exercise with so many requests of this seed counts, on a device in this state.
abbrev pub exercise_tally : DeviceFormat → DeviceState → (count seed : ℕ) → Tally
exercise_tally f s count seed =
    tally_of (workload_asks count seed f.blocks.blocks)
    (line_answers f s (exercise_lines count seed f.blocks.blocks))
