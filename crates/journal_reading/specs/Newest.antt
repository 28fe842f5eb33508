-- What a contract sees of the newest entries: pairs of a block and the number of its newest entry.
use Rattle.std.specs.Prelude.{ℕ, nat_eq, List, Option}
use Rattle.std.specs.Map.{lookup}

-- The number of the newest entry of a block, if it has one.
abbrev pub newest_in : List (ℕ × ℕ) → ℕ → Option ℕ
newest_in pairs b = lookup (nat_eq b) pairs
