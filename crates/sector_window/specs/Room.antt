-- How a window lies in memory.
use Rattle.std.specs.Prelude.{◌≡◌, ℕ, ◌+◌, ◌*◌, ◌^◌, ◌≤◌, List, length}

-- The buffer has room for so many sectors, and begins with the sectors that are held. These are on a disk.
pub record IsWindow (room first held : ℕ) (buffer : List ℕ) : Type 0 where
  pub whole : length buffer ≡ 512 * room
  pub few : room ≤ 2 ^ 20
  pub fits : held ≤ room
  pub device : first + held ≤ 2 ^ 48
