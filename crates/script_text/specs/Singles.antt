-- Runs of one byte, as most runs of bytes that differ are.
-- Own: they are told many at once.
use Rattle.std.specs.Prelude.{ℕ, ◌++◌, List, codes}
use Rattle.device_model.specs.Stretches.{stretch_text}

-- The run of one byte, and the comma behind it.
abbrev pub single_text : ℕ → List ℕ
single_text byte = stretch_text (record { byte = byte; count = 1 }) ++ codes ","
