-- The laws of a mirror at small values: their premises can be met. Two blocks of one byte, of which a write of the second is flushed.
use Rattle.std.proofs.Common.{◌≡◌, ◌≢◌, inl, inr, ℕ, true, false, if◌then◌else◌, ◌==◌, List, [], ◌∷◌, None, refl, arith}
use Rattle.std.proofs.lemmas.Option.{none-some}
use Rattle.image_model.specs.Cells.{Cell}
use Rattle.device_model.specs.Cut.{MayBeLeftJournal}
use Rattle.device_model.specs.History.{Flushed}
use Rattle.device_model.specs.Mode.{DeviceFormat, Journal}
use Rattle.device_model.specs.Progress.{DeviceState, opened_device}
use Rattle.device_model.specs.Script.{whole_events}
use Rattle.device_model.specs.ScriptLaws.{IsAtRest}
use Rattle.device_model.specs.Submission.{Submission, request_in}
use Rattle.device_model.specs.SubmissionLaws.{IsFitting}
use Rattle.mirror_model.specs.Calls.{MirrorCall, WriteCall, FlushCall, LevelCall, after_call, levelled}
use Rattle.mirror_model.specs.Cut.{MayBeLeftMirror, IsKeptBlock, IsMirror, IsMirrorWithin, IsTwin}
use Rattle.mirror_model.specs.Mirror.{MirrorFormat, MirrorState, mirror_of, a_cells, b_cells, matches}
use Rattle.mirror_laws.specs.CutLaws.{promise_in, IsKept, IsKeptInCall, IsLevelledIn}
use Rattle.mirror_laws.specs.Promise.{IsKeptOrLater}
use Rattle.mirror_laws.specs.ReadLaws.{IsFaultyBlock}
use Rattle.mirror_laws.specs.WholeLaws.{RunsWhole, IsAfresh}
use Rattle.mirror_laws.proofs.LawLemmas.{first_alone_law, second_alone_law, pair_law, some_law, call_law, flush_twin_law, level_twin_law}
use Rattle.mirror_laws.proofs.FaultLemmas.{fault_law}
use Rattle.mirror_laws.proofs.AfreshLemmas.{afresh_law}
use Rattle.mirror_laws.proofs.WholeLemmas.{whole_law}

abbrev easy_tag : ℕ → List ℕ → List ℕ
easy_tag b [] = b ∷ []
easy_tag b (x ∷ bytes) = b ∷ x ∷ []

abbrev tiny : MirrorFormat
tiny = record { blocks = 2; block_size = 1; a_tag = easy_tag; b_tag = easy_tag }

-- The first block matches on neither leg.
abbrev cells : ℕ → Cell
cells b = if b == 0 then record { bytes = 0 ∷ []; tag = 9 ∷ [] } else record { bytes = 0 ∷ []; tag = b ∷ 0 ∷ [] }

abbrev made : MirrorState
made = mirror_of cells cells 0 0

-- The second block is written, and flushed on both legs.
abbrev write : MirrorCall
write = WriteCall 1 ((170 ∷ []) ∷ []) true

abbrev written : MirrorState
written = after_call tiny made write

written-is_mirror : IsMirror tiny written
written-is_mirror = record { a = cells; b = cells; a_submitted = 0; b_submitted = 0; calls = write ∷ []; is = refl }

-- It stands at the first moment of a flush, too.
written-within : IsMirrorWithin tiny written
written-within = record { before = written; is_mirror = written-is_mirror; call = FlushCall; made = 0; is = refl }

written-a_left : MayBeLeftJournal easy_tag 2 written.a.history (a_cells tiny written)
written-a_left = record { kept = 1; has_flushed = omega arith; has_no_more = omega arith; each = λ b below. refl }

written-b_left : MayBeLeftJournal easy_tag 2 written.b.history (b_cells tiny written)
written-b_left = record { kept = 1; has_flushed = omega arith; has_no_more = omega arith; each = λ b below. refl }

written-left : MayBeLeftMirror tiny written (a_cells tiny written) (b_cells tiny written)
written-left = record { a_left = written-a_left; b_left = written-b_left }

written-kept : IsKept written 1
written-kept = (0, record { ticket = 1; block = 1; bytes = 170 ∷ [] }, omega arith, refl, refl)

-- ---- each law

first_alone : (matches easy_tag 1 (a_cells tiny written 1) ≡ true) × IsKeptOrLater tiny (promise_in written) 1 (a_cells tiny written 1).bytes
first_alone = first_alone_law tiny written (a_cells tiny written) written-within written-a_left 1 (omega arith) written-kept

second_alone : (matches easy_tag 1 (b_cells tiny written 1) ≡ true) × IsKeptOrLater tiny (promise_in written) 1 (b_cells tiny written 1).bytes
second_alone = second_alone_law tiny written (b_cells tiny written) written-within written-b_left 1 (omega arith) written-kept

pair : IsKeptBlock tiny written (a_cells tiny written) (b_cells tiny written) 1
pair = pair_law tiny written (a_cells tiny written) (b_cells tiny written) written-within written-left 1 (omega arith)

something : levelled tiny (a_cells tiny written) (b_cells tiny written) 1 ≢ None
something = some_law tiny written (a_cells tiny written) (b_cells tiny written) written-within written-left 1 (omega arith) (inr written-kept)

in_call : IsKeptInCall tiny written LevelCall
in_call = call_law tiny written LevelCall written-is_mirror

after_flush-left : MayBeLeftMirror tiny (after_call tiny written FlushCall) (a_cells tiny written) (b_cells tiny written)
after_flush-left = record {
  a_left = record { kept = 1; has_flushed = omega arith; has_no_more = omega arith; each = λ b below. refl };
  b_left = record { kept = 1; has_flushed = omega arith; has_no_more = omega arith; each = λ b below. refl };
}

flush_twin : IsTwin tiny (a_cells tiny written) (b_cells tiny written) 1
flush_twin = flush_twin_law tiny written (a_cells tiny written) (b_cells tiny written) written-is_mirror after_flush-left 1 (omega arith)
    (inl ((0, record { ticket = 1; block = 1; bytes = 170 ∷ [] }, omega arith, refl, refl)))

after_level-left : MayBeLeftMirror tiny (after_call tiny written LevelCall) (a_cells tiny written) (b_cells tiny written)
after_level-left = record {
  a_left = record { kept = 1; has_flushed = omega arith; has_no_more = omega arith; each = λ b below. refl };
  b_left = record { kept = 1; has_flushed = omega arith; has_no_more = omega arith; each = λ b below. refl };
}

level_twin : IsLevelledIn tiny written (a_cells tiny written) (b_cells tiny written) 1
level_twin = level_twin_law tiny written (a_cells tiny written) (b_cells tiny written) written-is_mirror after_level-left 1 (omega arith) (inl refl)

-- A read of both blocks ends at the first, with the tags of both legs.
faulty : IsFaultyBlock tiny cells cells 0 2 0 (record { stored = 9 ∷ []; computed = 0 ∷ 0 ∷ [] }) (record { stored = 9 ∷ []; computed = 0 ∷ 0 ∷ [] })
faulty = (fault_law tiny cells cells 0 2 0 (record { stored = 9 ∷ []; computed = 0 ∷ 0 ∷ [] }) (record { stored = 9 ∷ []; computed = 0 ∷ 0 ∷ [] })).0 refl

-- ---- a device

abbrev device : DeviceFormat
device = record {
  mode = Journal;
  blocks = record { blocks = 2; block_size = 1; tag = easy_tag };
  slots = 16;
  sections = 1;
  entries = 1;
  regions = 1;
  region_of = λ b. 0;
}

abbrev state : DeviceState
state = opened_device cells 0 (λ r. false) (λ r. false)

rests : IsAtRest state
rests = record { each = λ k a there. absurd (none-some a there) }

abbrev flushed_write : Submission
flushed_write = Submission.Write 0 2 (1 ∷ 2 ∷ []) true

fits : IsFitting device flushed_write
fits = (refl, record { some = omega arith; there = omega arith; size = refl })

-- Two blocks are written where the journal has room for one.
runs_whole : RunsWhole device state (request_in 1 flushed_write) (whole_events device flushed_write state)
runs_whole = whole_law device state flushed_write (omega arith) (omega arith) refl rests fits

afresh : IsAfresh easy_tag 2 written.a.history (Flushed ∷ [])
afresh = afresh_law easy_tag 2 written.a.history (Flushed ∷ []) refl refl
