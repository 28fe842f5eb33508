-- Some bytes that stand in a sector and may go on in the next one.
use Rattle.std.specs.Prelude.{◌≡◌, ◌⊎◌, ℕ, ◌+◌, ◌-◌, ◌*◌, ◌/◌, ◌^◌, ◌<◌, ◌≤◌, true, List, length, take, drop, Some, None}
use Rattle.std.specs.Option.{is_some}
use Rattle.disk_model.specs.Disk.{Content, Image}
use Rattle.disk_model.specs.Moments.{HasNow}
use Rattle.image_model.specs.Sectors.{piece, bytes_at}
use Rattle.buffer_cache.specs.declared.held.Held.{Held}
use Rattle.buffer_cache.specs.declared.held.HeldSectors.{HeldSectors}
use Rattle.buffer_cache.specs.Cached.{IsMarkedSector, cached, is_marked, with_given_piece}
use Rattle.buffer_cache.specs.HeldSectors.{held_in}

-- So many bytes from byte `from` of sector `at` on lie on a disk of so many sectors, and end in the next or before.
pub record IsSpan (at from size sectors : ℕ) : Type 0 where
  pub begins : from < 512
  pub some : 1 ≤ size
  pub short : size ≤ 512
  pub ends : 512 * at + from + size ≤ 512 * sectors
  pub device : sectors ≤ 2 ^ 48

-- What stands there in an image.
abbrev pub span_of : ℕ → ℕ → ℕ → Image → List ℕ
span_of at from size image = piece (bytes_at image at 2) from size

-- One of these bytes stands in the sector.
pub record IsInSpan (at from size sector : ℕ) : Type 0 where
  pub byte : ℕ
  pub low : byte < size
  pub is : sector ≡ at + (from + byte) / 512

-- The image with some bytes in place of those from byte `from` of sector `at` on, of which some may stand in the next.
abbrev pub with_span : ℕ → ℕ → List ℕ → Image → Image
with_span at from bytes image =
    with_given_piece (at + 1) 0 (drop (512 - from) bytes) (with_given_piece at from (take (512 - from) bytes) image)

-- The sector has the first of the bytes, and others stand in the next one.
pub record IsFirstOfTwo (at from size sector : ℕ) : Type 0 where
  pub is : sector ≡ at
  pub past : 512 < from + size

-- Each sector that is held was held, or has one of the bytes.
pub record HoldsSpan (at from size : ℕ) (old new : HeldSectors) : Type 0 where
  pub each : (sector : ℕ) (held : Held) → held_in new sector ≡ Some held
      → (is_some (held_in old sector) ≡ true) ⊎ IsInSpan at from size sector

-- No sector is marked more but those that have one of the bytes.
pub record MarksSpan (at from size : ℕ) (old new : HeldSectors) : Type 0 where
  pub each : (sector : ℕ) → is_marked new sector ≡ true
      → (held_in new sector ≡ held_in old sector) ⊎ IsInSpan at from size sector
  pub slots : new.recent.cap ≡ old.recent.cap

-- The cache gives what it gave before, with these bytes in their place.
pub record StoresSpan (at from : ℕ) (bytes : List ℕ) (old new : HeldSectors)
    (before after : List Content) : Type 0 where
  pub given : HasNow (λ c. HasNow (λ d. (sector : ℕ)
      → cached new d sector ≡ with_span at from bytes (cached old c) sector) after) before

-- It gives what it gave before, but that the first sector of two may have its part of the bytes.
pub record StoresPart (at from : ℕ) (bytes : List ℕ) (old new : HeldSectors)
    (before after : List Content) : Type 0 where
  pub given : HasNow (λ c. HasNow (λ d. (sector : ℕ) → (cached new d sector ≡ cached old c sector)
      ⊎ (IsFirstOfTwo at from (length bytes) sector
      × (cached new d sector ≡ with_span at from bytes (cached old c) sector))) after) before

-- The bytes may go out for a use of these: those of a marked sector, where the first sector is not held, or there are two.
pub record IsOutForSpan (at from size : ℕ) (sectors : HeldSectors) (sector : ℕ) (x : List ℕ) : Type 0 where
  pub marked : IsMarkedSector sectors sector x
  pub used : (held_in sectors at ≡ None) ⊎ (512 < from + size)

-- The bytes may be written to the sector while these are stored: what goes out, and the first of two with its part.
abbrev pub IsOfSpan : ℕ → ℕ → List ℕ → HeldSectors → Content → ℕ → List ℕ → Type 0
IsOfSpan at from bytes sectors start sector x = IsOutForSpan at from (length bytes) sectors sector x
    ⊎ (IsFirstOfTwo at from (length bytes) sector × (x ≡ with_span at from bytes (cached sectors start) sector))
