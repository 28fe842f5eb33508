-- The buffers of a level.
use Rattle.std.specs.Prelude.{◌≡◌, ℕ, ◌+◌, ◌*◌, ◌≤◌, List, length}
use Rattle.mirror_calls.specs.declared.levelling.Room.{Room}

-- There is room for runs of so many bytes, and for a block of each leg.
pub record HasRoom (run size : ℕ) (room : Room) : Type 0 where
  pub first : run ≤ length room.first_run
  pub second : run ≤ length room.second_run
  pub buffer_ : length room.buffer ≡ size
  pub other_ : length room.other ≡ size

-- The blocks are some of a leg, and there is room for them,
pub record TakesRun {A : Type 0} (blocks size : A → ℕ) (first count : ℕ) (room : Room) (leg : A) : Type 0 where
  pub some : 1 ≤ count
  pub there : first + count ≤ blocks leg
  pub room_ : HasRoom (count * size leg) (size leg) room

-- or they are blocks of it, and there is room for one on each leg.
pub record TakesRest {A : Type 0} (blocks size : A → ℕ) (first count : ℕ) (buffer other : List ℕ) (leg : A)
    : Type 0 where
  pub there : first + count ≤ blocks leg
  pub buffer_ : length buffer ≡ size leg
  pub other_ : length other ≡ size leg

-- The blocks are some of a leg, and the buffer has room for one.
pub record TakesSpare {A : Type 0} (blocks size : A → ℕ) (first count : ℕ) (spare : List ℕ) (leg : A) : Type 0 where
  pub there : first + count ≤ blocks leg
  pub spare_ : length spare ≡ size leg
