-- Digits as they are written down: without a sign and without leading zeros.
use Rattle.std.specs.Prelude.{◌≡◌, ◌≢◌, ℕ, List, length, slice_index}

-- The bytes begin neither with `+` nor with a zero before others.
abbrev pub IsPlain : List ℕ → Type 0
IsPlain text = (slice_index text 0 ≢ 43) × (slice_index text 0 ≡ 48 → length text ≡ 1)
