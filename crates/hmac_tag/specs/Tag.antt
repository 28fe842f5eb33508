-- How a tag lies in memory.
use Rattle.std.specs.Prelude.{◌≡◌, ℕ, ◌-◌, ◌≤◌, List, ◌++◌, length, take, replicate}

-- The first `len` of 32 bytes are the tag's, and zeros are behind them.
pub record IsPadded (len : ℕ) (bytes : List ℕ) : Type 0 where
  pub some : 1 ≤ len
  pub fits : len ≤ 32
  pub whole : length bytes ≡ 32
  pub zeros : bytes ≡ take len bytes ++ replicate (32 - len) 0
