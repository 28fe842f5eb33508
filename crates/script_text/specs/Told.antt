-- The text of what is told.
use Rattle.std.specs.Prelude.{ℕ, List, [], ◌++◌, codes}
use Rattle.std.specs.Fmt.{decimal}
use Rattle.hex.specs.Hex.{encode_lower}
use Rattle.device_model.specs.Progress as progress
use Rattle.device_model.specs.Reply.{Bytes, TagFault}
use Rattle.device_model.specs.Request as request
use Rattle.device_model.specs.Script.{answer_text, reply_text}
use Rattle.device_model.specs.Transcript.{closed_text, read_text, with_newline, write_text}
use Rattle.script_text.specs.declared.told.Told.{Told}
use Rattle.script_text.specs.declared.told.Told.TheVariants.{Write, Read, Flush, Fault, MirrorFault, Level, Ticket, Did, Done, HeldBy, NoRoom, NotDone, Idle, SlotsFull, ReadOnly, Closed}

-- The line of a block of a mirror that matches on neither leg, with the tags of both.
abbrev pub mirror_fault_text : (block : ℕ) → (stored computed second_stored second_computed : List ℕ) → List ℕ
mirror_fault_text block stored computed second_stored second_computed =
    with_newline (codes "fault block " ++ decimal block
    ++ codes " stored " ++ encode_lower stored ++ codes " computed " ++ encode_lower computed
    ++ codes " second stored " ++ encode_lower second_stored ++ codes " computed " ++ encode_lower second_computed)

-- The line that a script prints. Which blocks were to be read does not show in a fault, so 0 and 0 stand for any.
abbrev pub told_text : Told → List ℕ
told_text (Write first count) = write_text first count
told_text (Read first count bytes) = read_text first count (Bytes bytes.now)
told_text Flush = reply_text request.Flush (Bytes [])
told_text (Fault block stored computed) = read_text 0 0 (TagFault block stored.now computed.now)
told_text (MirrorFault block stored computed second_stored second_computed) =
    mirror_fault_text block stored.now computed.now second_stored.now second_computed.now
told_text (Level written) = with_newline (codes "level " ++ decimal written)
told_text (Ticket ticket) = answer_text (progress.Ticket ticket)
told_text Did = answer_text progress.Did
told_text Done = answer_text progress.Done
told_text (HeldBy by) = answer_text (progress.HeldBy by)
told_text NoRoom = answer_text progress.NoRoom
told_text NotDone = answer_text progress.NotDone
told_text Idle = answer_text progress.Idle
told_text SlotsFull = answer_text progress.SlotsFull
told_text ReadOnly = answer_text progress.ReadOnly
told_text Closed = closed_text
