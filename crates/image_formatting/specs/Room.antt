-- The buffers of a formatting.
-- Own: all that it ever allocates.
use Rattle.std.specs.Prelude.{◌≡◌, ℕ, ◌*◌, ◌/◌, List, length}
use Rattle.image_model.specs.Geometry.{Shape, section_sectors}
use Rattle.image_model.specs.Sectors.{zero_bytes}
use Rattle.image_formatting.specs.declared.room.Room.{Room}

-- The bytes of the buffer for tags: whole tags in whole sectors.
abbrev pub tags_at_once : ℕ → ℕ
tags_at_once size = 512 * (size * (512 / size))

-- The zeros that are written at once.
abbrev pub zeros_at_once : List ℕ
zeros_at_once = zero_bytes (512 * 512)

-- 512 sectors of zeros, and a buffer for the tags of 512 blocks so often that they are no more.
pub record HasRuns (shape : Shape) (room : Room) : Type 0 where
  pub zeros : room.zeros.items ≡ zeros_at_once
  pub tags : length room.tags.items ≡ tags_at_once shape.tag_size

-- Those, and a buffer for a section.
pub record HasRoom (shape : Shape) (room : Room) : Type 0 where
  pub section : length room.section.items ≡ 512 * section_sectors shape
  pub runs : HasRuns shape room
