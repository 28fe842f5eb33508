-- The memory of a resize.
-- Own: all that it ever allocates, but for what a journal is judged with.
use Rattle.std.specs.Prelude.{◌≡◌, ℕ, ◌*◌, List, length}
use Rattle.buffer_cache.specs.Cache.{sectors_of}
use Rattle.buffer_cache.specs.HeldSectors.{no_sectors}
use Rattle.image_model.specs.Geometry.{Geometry, journal_sectors}
use Rattle.image_model.specs.Sectors.{zero_bytes}
use Rattle.image_resizing.specs.declared.room.GrowthRoom.{GrowthRoom}
use Rattle.image_resizing.specs.declared.room.RecoveryRoom.{RecoveryRoom}
use Rattle.image_resizing.specs.declared.room.TheConstants.{HELD_SECTORS, RUN_SECTORS}

-- The zeros that are written at once.
abbrev pub zeros_at_once : List ℕ
zeros_at_once = zero_bytes (512 * RUN_SECTORS)

-- The bytes of tags that are written at once, at most.
abbrev pub tags_at_once : ℕ
tags_at_once = 512 * RUN_SECTORS

-- What is allocated has the zeros, and room for the tags.
pub record HasGrowthRoom (room : GrowthRoom) : Type 0 where
  pub zeros : room.zeros.items ≡ zeros_at_once
  pub tags : length room.tags.items ≡ tags_at_once

-- It has as many sectors as the journal, and holds none of tags.
pub record HasRecoveryRoom (g : Geometry) (room : RecoveryRoom) : Type 0 where
  pub cache : sectors_of room.cache ≡ no_sectors HELD_SECTORS
  pub region : length room.region ≡ 512 * journal_sectors g
