-- What a contract sees of a region.
use Rattle.std.specs.Prelude.{◌≡◌, ℕ, ◌%◌, List, [], length, Option, Some, None}
use Rattle.std.specs.declared.vec.Vec.{Vec}

-- The bytes of a region's memory, none where it has no memory yet.
abbrev pub bytes_of : {Z : Type 0} → Option (Vec ℕ Z) → List ℕ
bytes_of None = []
bytes_of (Some memory) = memory.items

-- The memory is whole sectors.
abbrev pub HasWholeSectors : {Z : Type 0} → Option (Vec ℕ Z) → Type 0
HasWholeSectors memory = length (bytes_of memory) % 512 ≡ 0
