-- Tests of the numbers below a bound: whether some or all pass, which is the last that does, and
-- how many do from 0 on.
use Rattle.std.specs.Prelude.{ℕ, zero, suc, Bool, true, false, ◌&&◌, ◌||◌, if◌then◌else◌}

-- Some number below n passes.
abbrev pub any_below : ℕ → (ℕ → Bool) → Bool
any_below zero p = false
any_below (suc n) p = any_below n p || p n

-- Every number below n passes.
abbrev pub all_below : ℕ → (ℕ → Bool) → Bool
all_below zero p = true
all_below (suc n) p = all_below n p && p n

-- One more than the greatest number below n that passes, and 0 where none does.
abbrev pub past_last : ℕ → (ℕ → Bool) → ℕ
past_last zero p = 0
past_last (suc n) p = if p n then suc n else past_last n p

-- How many numbers from 0 on pass, up to the first below n that does not.
abbrev pub front_length : ℕ → (ℕ → Bool) → ℕ
front_length zero p = 0
front_length (suc n) p = if all_below (suc n) p then suc n else front_length n p
