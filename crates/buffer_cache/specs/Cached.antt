-- What a cache and a disk give together: one content of each sector, whether it is held or not.
use Rattle.std.specs.Prelude.{◌≡◌, ◌≢◌, ◌⊎◌, ℕ, ◌+◌, ◌<◌, ◌≤◌, Bool, true, false, nat_eq, if◌then◌else◌, List, [], ◌∷◌, ◌++◌, length, take, drop, Option, Some, None}
use Rattle.std.specs.Map.{lookup}
use Rattle.std.specs.Option.{is_some}
use Rattle.disk_model.specs.Disk.{Content, Image, last_image, with_run}
use Rattle.disk_model.specs.Identity.{DiskIdentity}
use Rattle.disk_model.specs.Moments.{HasNow}
use Rattle.buffer_cache.specs.declared.held.Held.{Held}
use Rattle.buffer_cache.specs.declared.held.HeldSectors.{HeldSectors}
use Rattle.buffer_cache.specs.declared.held.Scratch.{Scratch}
use Rattle.buffer_cache.specs.HeldSectors.{held_in, in_scratch, with_piece, IsLast}

-- The bytes that are held, and else those that a read gives.
abbrev pub held_or : Option Held → List ℕ → List ℕ
held_or None read = read
held_or (Some held) read = held.bytes

-- What the cache gives of each sector, over a disk of this content.
abbrev pub cached : HeldSectors → Content → Image
cached sectors content sector = held_or (held_in sectors sector) (last_image content sector)

-- It is held, and its bytes are still to be written.
abbrev pub marked_of : Option Held → Bool
marked_of None = false
marked_of (Some held) = held.marked

-- The sector was changed, and was not written since.
abbrev pub is_marked : HeldSectors → ℕ → Bool
is_marked sectors sector = marked_of (held_in sectors sector)

-- Where a sector is not marked, the disk reads what the cache gives.
pub record Agrees (sectors : HeldSectors) (content : Content) : Type 0 where
  pub each : (sector : ℕ) → is_marked sectors sector ≡ false → cached sectors content sector ≡ last_image content sector

-- What is held is of this disk: whole sectors that it has, each in one place, and its content agrees with them.
pub record IsOfDisk (sectors : HeldSectors) (disk : DiskIdentity) (moments : List Content) : Type 0 where
  pub within : (sector : ℕ) (held : Held) → held_in sectors sector ≡ Some held → sector < disk.sectors
  pub whole : (sector : ℕ) (held : Held) → held_in sectors sector ≡ Some held → length held.bytes ≡ 512
  pub apart : (scratch : Scratch) → sectors.scratch ≡ Some scratch
      → lookup (nat_eq scratch.at) sectors.recent.entries ≡ None
  pub agrees : HasNow (Agrees sectors) moments

-- The cache gives what it gave before, and what is marked now was held so.
pub record Keeps (old new : HeldSectors) (before after : List Content) : Type 0 where
  pub given : HasNow (λ c. HasNow (λ d. (sector : ℕ) → cached new d sector ≡ cached old c sector) after) before
  pub marked : (sector : ℕ) → is_marked new sector ≡ true → held_in new sector ≡ held_in old sector
  pub slots : new.recent.cap ≡ old.recent.cap

-- The content once a sector is written, where it is held and marked.
abbrev pub with_marked : ℕ → Option Held → Content → Content
with_marked at None content = content
with_marked at (Some held) content = if held.marked then with_run at held.bytes content else content

-- The bytes are those of a marked sector.
pub record IsOfMarked (found : Option Held) (x : List ℕ) : Type 0 where
  pub held : Held
  pub is : found ≡ Some held
  pub marked : held.marked ≡ true
  pub bytes : x ≡ held.bytes

-- The content while a sector is written: its candidates are as before, or its bytes are one more.
pub record IsAmidMarked (at : ℕ) (found : Option Held) (old new : Content) : Type 0 where
  pub each : (sector : ℕ) → (new sector ≡ old sector)
      ⊎ ((sector ≡ at) × (x : List ℕ) × IsOfMarked found x × (new sector ≡ old sector ++ x ∷ []))

-- The candidates that a marked sector brings.
abbrev pub IsMarkedSector : HeldSectors → ℕ → List ℕ → Type 0
IsMarkedSector sectors sector x = IsOfMarked (held_in sectors sector) x

-- The candidate that the least recently used sector brings, where it has to go out for another one.
pub record IsLeastRecent (sectors : HeldSectors) (sector : ℕ) (x : List ℕ) : Type 0 where
  pub last : IsLast sectors.recent sector
  pub marked : IsMarkedSector sectors sector x

-- The candidate that the sector in the scratch buffer brings.
pub record IsScratch (sectors : HeldSectors) (sector : ℕ) (x : List ℕ) : Type 0 where
  pub there : is_some (in_scratch sectors.scratch sector) ≡ true
  pub marked : IsMarkedSector sectors sector x

-- The candidates that a use of a sector may bring: where it is not held, those of the sectors that go out for it.
pub record IsPutOut (at : ℕ) (sectors : HeldSectors) (sector : ℕ) (x : List ℕ) : Type 0 where
  pub missed : held_in sectors at ≡ None
  pub out : IsLeastRecent sectors sector x ⊎ IsScratch sectors sector x

-- It was read from a sector of a disk, and is not marked.
pub record IsRead (at : ℕ) (held : Held) (moments : List Content) : Type 0 where
  pub whole : length held.bytes ≡ 512
  pub marked : held.marked ≡ false
  pub read : HasNow (λ c. held.bytes ≡ last_image c at) moments

-- A piece of a sector that a disk of so many sectors has.
pub record IsPiece (at from size sectors : ℕ) : Type 0 where
  pub at_ : at < sectors
  pub fits : from + size ≤ 512

-- So many bytes from byte `from` on.
abbrev pub piece_of : ℕ → ℕ → List ℕ → List ℕ
piece_of from size bytes = take size (drop from bytes)

-- What was given of each sector, with a piece of one that was changed.
abbrev pub with_given_piece : ℕ → ℕ → List ℕ → Image → Image
with_given_piece at from piece image sector =
    if nat_eq at sector then with_piece from piece (image sector) else image sector

-- The cache gives what it gave before, but for a piece of a sector that is marked now; no other sector has been marked.
pub record Changes (at from : ℕ) (piece : List ℕ) (old new : HeldSectors) (before after : List Content) : Type 0 where
  pub given : HasNow (λ c. HasNow (λ d. (sector : ℕ)
      → cached new d sector ≡ with_given_piece at from piece (cached old c) sector) after) before
  pub marked : is_marked new at ≡ true
  pub others : (sector : ℕ) → sector ≢ at → is_marked new sector ≡ true → held_in new sector ≡ held_in old sector
  pub slots : new.recent.cap ≡ old.recent.cap

-- The disk reads what the cache gave, and no sector is marked.
pub record IsWrittenBack (old new : HeldSectors) (before after : List Content) : Type 0 where
  pub read : HasNow (λ c. HasNow (λ d. (sector : ℕ) → last_image d sector ≡ cached old c sector) after) before
  pub unmarked : (sector : ℕ) → is_marked new sector ≡ false

-- No sector is marked.
pub record HasNoMark (sectors : HeldSectors) : Type 0 where
  pub none : (sector : ℕ) → is_marked sectors sector ≡ false

-- The content once each marked sector is written.
abbrev pub written_back : HeldSectors → Content → Content
written_back sectors content sector =
    if is_marked sectors sector then content sector ++ cached sectors content sector ∷ [] else content sector

-- The content while the marked sectors are written in ascending order: those below some sector are, and no other one.
pub record IsAmidWriteBack (sectors : HeldSectors) (old new : Content) : Type 0 where
  pub end : ℕ
  pub below : (sector : ℕ) → sector < end → new sector ≡ written_back sectors old sector
  pub above : (sector : ℕ) → end ≤ sector → new sector ≡ old sector
