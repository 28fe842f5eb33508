-- Scripts on the small image, computed: 80 blocks of 512 bytes, all zero, with matching tags, and a journal of one section
-- of 80 entries.
use Rattle.std.proofs.Common.{◌≡◌, ℕ, ◌+◌, true, false, List, [], ◌∷◌, ◌++◌, replicate, map, flat_map, refl}
use Rattle.std.specs.Prelude.{codes, ltb}
use Rattle.std.specs.Fmt.{decimal, digits}
use Rattle.std.specs.List.{range_with_len}
use Rattle.hex.specs.Hex.{encode_with}
use Rattle.image_model.specs.Cells.{Cell}
use Rattle.device_model.specs.History.{cells_now}
use Rattle.device_model.specs.Mode.{DeviceFormat, Journal, Bitmap}
use Rattle.device_model.specs.Progress.{DeviceState, opened_device, Commit, Place, Settle, Clean, Recalc}
use Rattle.device_model.specs.Stretches.{stretches_text}
use Rattle.device_model.specs.Script.{ScriptLine, AskLine, ServeLine, TakeLine, StepLine, Fill, Write, Read, Flush, after_script}
use Rattle.device_model.specs.Grammar.{Means}
use Rattle.run_model.specs.ScriptRun.{run_from, whole_text}

-- Tags that are easy to compute: that of a block is its number and its first byte.
abbrev easy_tag : ℕ → List ℕ → List ℕ
easy_tag b [] = b ∷ []
easy_tag b (x ∷ bytes) = b ∷ x ∷ []

abbrev small : DeviceFormat
small = record {
  mode = Journal;
  blocks = record { blocks = 80; block_size = 512; tag = easy_tag };
  slots = 16;
  sections = 1;
  entries = 80;
  regions = 1;
  region_of = λ b. 0;
}

abbrev zero_blocks : ℕ → Cell
zero_blocks b = record { bytes = replicate 512 0; tag = easy_tag b (0 ∷ []) }

abbrev fresh : DeviceState
fresh = opened_device zero_blocks 0 (λ r. false) (λ r. false)

abbrev text_on : DeviceFormat → DeviceState → List ScriptLine → List ℕ
text_on f s lines = whole_text (run_from f false 1 s false (map Means lines))

abbrev text_of : List ScriptLine → List ℕ
text_of lines = text_on small fresh lines

start_fill : (first count byte : ℕ) → ScriptLine
start_fill first count byte = AskLine true (Fill first count byte false)

-- Two requests that overlap: the later one is held until the earlier one is done.
whole_text-held : text_of
    (AskLine true (Fill 0 8 170 false) ∷ AskLine true (Read 4 8) ∷ ServeLine 1 ∷ ServeLine 2
    ∷ ServeLine 1 ∷ ServeLine 1 ∷ ServeLine 1 ∷ ServeLine 1 ∷ ServeLine 1 ∷ ServeLine 1 ∷ ServeLine 1
    ∷ TakeLine 2
    ∷ ServeLine 2 ∷ ServeLine 2 ∷ ServeLine 2 ∷ ServeLine 2 ∷ ServeLine 2 ∷ ServeLine 2 ∷ ServeLine 2 ∷ ServeLine 2
    ∷ TakeLine 2 ∷ TakeLine 1 ∷ [])
    ≡ codes "ticket 1\nticket 2\ndid\nheld by 1\ndid\ndid\ndid\ndid\ndid\ndid\ndone\nnot done\ndid\ndid\ndid\ndid\ndid\ndid\ndid\ndone\nok read 4 8 aa*2048,00*2048\nok write 0 8\nclosed\n"
unfolding stretches_text encode_with digits
whole_text-held = refl

-- Nothing, a flush, and lines that are refused.
whole_text-empty : text_of [] ≡ codes "closed\n"
whole_text-empty = refl

whole_text-flush : text_of (AskLine false Flush ∷ []) ≡ codes "ok flush\nclosed\n"
whole_text-flush = refl

whole_text-taken_ticket : text_of (AskLine true (Fill 0 1 170 false) ∷ ServeLine 1 ∷ TakeLine 1 ∷ ServeLine 1 ∷ []) ≡ codes "ticket 1\ndone\nok write 0 1\nfault line 4 ticket 1\n"
unfolding digits
whole_text-taken_ticket = refl

whole_text-range : text_of (AskLine false (Read 80 1) ∷ []) ≡ codes "fault line 1 range 80 1\n"
unfolding digits
whole_text-range = refl

whole_text-no_block : text_of (AskLine false (Read 0 0) ∷ []) ≡ codes "fault line 1 range 0 0\n"
unfolding digits
whole_text-no_block = refl

-- A seventeenth request in flight finds no slot, and the script goes on.
whole_text-slots : text_of (replicate 17 (AskLine true Flush) ++ AskLine false (Read 0 1) ∷ TakeLine 3 ∷ AskLine false (Read 0 1) ∷ [])
    ≡ codes "ticket 1\nticket 2\nticket 3\nticket 4\nticket 5\nticket 6\nticket 7\nticket 8\nticket 9\nticket 10\nticket 11\nticket 12\nticket 13\nticket 14\nticket 15\nticket 16\nslots full\nslots full\nok flush\nok read 0 1 00*512\nclosed\n"
unfolding stretches_text encode_with digits
whole_text-slots = refl

-- A request that is not served whole: the device is opened again on what its blocks hold then.
whole_text-served_in_part : text_of (AskLine true (Fill 0 2 170 false) ∷ ServeLine 1 ∷ []) ≡ codes "ticket 1\ndid\nclosed\n"
unfolding digits
whole_text-served_in_part = refl

whole_text-opened_again :
    text_on small (opened_device (cells_now easy_tag (after_script small fresh (AskLine true (Fill 0 2 170 false) ∷ ServeLine 1 ∷ [])).history) 0 (λ r. false) (λ r. false))
    (AskLine false (Read 0 2) ∷ []) ≡ codes "ok read 0 2 aa*512,00*512\nclosed\n"
unfolding stretches_text encode_with digits
whole_text-opened_again = refl

-- Runs that are a block, and runs that are not.
whole_text-runs : text_of (AskLine false (Write 0 (record { byte = 170; count = 300 } ∷ record { byte = 187; count = 212 } ∷ []) true) ∷ AskLine false (Read 0 1) ∷ AskLine false (Write 0 (record { byte = 170; count = 300 } ∷ []) false) ∷ [])
    ≡ codes "ok write 0 1\nok read 0 1 aa*300,bb*212\nfault line 3 length 300\n"
unfolding stretches_text encode_with digits
whole_text-runs = refl

-- A journal that is full has no room until it is committed, placed and settled.
abbrev fill_and_take : ℕ → List ScriptLine
fill_and_take b = AskLine true (Fill b 1 170 false) ∷ ServeLine (b + 1) ∷ TakeLine (b + 1) ∷ []

abbrev told_of : ℕ → List ℕ
told_of b = codes "ticket " ++ decimal (b + 1) ++ codes "\ndone\nok write " ++ decimal b ++ codes " 1\n"

whole_text-no_room : text_of
    (flat_map fill_and_take (range_with_len 0 80)
    ++ (AskLine true (Fill 0 1 187 false) ∷ ServeLine 81 ∷ StepLine Commit ∷ [])
    ++ replicate 80 (StepLine Place) ++ (StepLine Place ∷ StepLine Settle ∷ ServeLine 81 ∷ TakeLine 81 ∷ []))
    ≡ flat_map told_of (range_with_len 0 80)
    ++ codes "ticket 81\nno room\ndid\n"
    ++ flat_map (λ b. codes "did\n") (range_with_len 0 80) ++ codes "idle\ndid\ndone\nok write 0 1\nclosed\n"
unfolding digits
whole_text-no_room = refl

-- A line without `start` makes the room itself.
whole_text-makes_room : text_of (flat_map fill_and_take (range_with_len 0 80) ++ (AskLine false (Fill 0 1 187 false) ∷ AskLine false (Read 0 2) ∷ []))
    ≡ flat_map told_of (range_with_len 0 80) ++ codes "ok write 0 1\nok read 0 2 bb*512,aa*512\nclosed\n"
unfolding stretches_text encode_with digits
whole_text-makes_room = refl

-- With a bitmap, each block a region: a bit is cleared once it is written back.
abbrev bitmap : DeviceFormat
bitmap = record {
  mode = Bitmap;
  blocks = record { blocks = 47; block_size = 4096; tag = easy_tag };
  slots = 16;
  sections = 1;
  entries = 32;
  regions = 47;
  region_of = λ b. b;
}

whole_text-clean : text_on bitmap (opened_device zero_blocks 0 (λ r. false) (λ r. false))
    (AskLine false (Fill 3 1 170 false) ∷ StepLine Clean ∷ AskLine false Flush ∷ StepLine Clean ∷ StepLine Clean ∷ [])
    ≡ codes "ok write 3 1\nidle\nok flush\ndid\nidle\nclosed\n"
unfolding digits
whole_text-clean = refl

-- Two regions await: one is recalculated by a read, the other by its actor.
whole_text-recalc : text_on bitmap (opened_device zero_blocks 0 (λ r. ltb r 2) (λ r. ltb r 2))
    (AskLine false (Read 0 1) ∷ StepLine Recalc ∷ StepLine Recalc ∷ StepLine Clean ∷ AskLine false Flush ∷ StepLine Clean ∷ StepLine Clean ∷ StepLine Clean ∷ [])
    ≡ codes "ok read 0 1 00*512\ndid\nidle\nidle\nok flush\ndid\ndid\nidle\nclosed\n"
unfolding stretches_text encode_with digits
whole_text-recalc = refl
