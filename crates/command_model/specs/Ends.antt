-- How a command ended, as far as the clauses ask, by its status.
use Rattle.std.specs.Prelude.{◌≡◌, ◌≢◌, ◌⊎◌, ℕ, ◌≤◌}

-- It came to its end; it ended with the words, or for want of memory; it ended before its script; and where there is a
-- key file, that was read.
pub record Ends : Type 1 where
  pub complete : Type 0
  pub by_words : Type 0
  pub before_script : Type 0
  pub key_read : Type 0

-- What its status tells of that.
abbrev pub ends_with : (status : ℕ) → Ends
ends_with status = record {
  complete = status ≤ 1;
  by_words = (status ≡ 2) ⊎ (status ≡ 7);
  before_script = status ≡ 3;
  key_read = (status ≢ 5) × (status ≢ 7);
}
