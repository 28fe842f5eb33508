-- What lines do, line by line, computed: a fill, a flush and a read of four blocks of two bytes, in direct mode.
use Rattle.std.proofs.Common.{◌≡◌, ℕ, false, List, [], ◌∷◌, replicate, refl}
use Rattle.device_model.specs.History.{Begun, BlockWrite, Change, Flushed, Written}
use Rattle.device_model.specs.Mode.{DeviceFormat, Direct}
use Rattle.device_model.specs.Progress.{DeviceState, opened_device}
use Rattle.device_model.specs.Script.{AskLine, Fill, Flush, Read, ScriptLine}
use Rattle.workload_model.specs.InOrder.{changes_by_line, first_changes, history_behind}

-- Tags that are easy to compute: that of a block is its number and its first byte.
abbrev easy_tag : ℕ → List ℕ → List ℕ
easy_tag b [] = b ∷ []
easy_tag b (x ∷ bytes) = b ∷ x ∷ []

abbrev four : DeviceFormat
four = record {
  mode = Direct;
  blocks = record { blocks = 4; block_size = 2; tag = easy_tag };
  slots = 16;
  sections = 1;
  entries = 2;
  regions = 4;
  region_of = λ b. b;
}

abbrev fresh : DeviceState
fresh = opened_device (λ b. record { bytes = replicate 2 0; tag = easy_tag b (0 ∷ []) }) 0 (λ r. false) (λ r. false)

abbrev lines : List ScriptLine
lines = AskLine false (Fill 1 1 170 false) ∷ AskLine false Flush ∷ AskLine false (Read 0 1) ∷ []

abbrev write : BlockWrite
write = record { ticket = 1; block = 1; bytes = replicate 2 170 }

-- The fill begins a write and ends it, the flush flushes, and the read does nothing:
abbrev changes : List (List Change)
changes = (Begun write ∷ Written write ∷ []) ∷ (Flushed ∷ []) ∷ [] ∷ []

changes_by_line-three : changes_by_line four fresh lines ≡ changes
changes_by_line-three = refl

-- so behind the fill its write is not flushed,
behind-fill : (history_behind (first_changes changes ∷ []) fresh.history).flushed ≡ 0
behind-fill = refl

-- and from the flush on it is.
behind-flush : (history_behind (first_changes changes ∷ (Flushed ∷ []) ∷ []) fresh.history).flushed ≡ 1
behind-flush = refl

behind-all : (history_behind changes fresh.history).flushed ≡ 1
behind-all = refl
