-- What a record of sector writes and syncs tells of the moments of a disk.
use Rattle.std.specs.Prelude.{◌≡◌, ℕ, zero, suc, length, slice_get, slice_index_or, ◌<◌, ◌+◌, List, [], ◌∷◌, ◌++◌, Option, Some, None, min, if◌then◌else◌, ◌==◌}
use Rattle.disk_model.specs.Disk.{Content, last_candidate, last_image, sector_in}
use Rattle.sector_disk.specs.declared.record.Event.{Event}
use Rattle.sector_disk.specs.declared.record.Event.TheVariants.{Write, Sync}

-- The content that an event leaves.
abbrev pub after_event : Event → Content → Content
after_event (Write at bytes) content sector =
    if sector == at then content sector ++ bytes ∷ [] else content sector
after_event Sync content sector = last_candidate (content sector) ∷ []

-- Each sector of these bytes has one candidate.
abbrev pub content_of_bytes : List ℕ → Content
content_of_bytes bytes sector = sector_in bytes sector ∷ []

-- What is written are whole sectors.
abbrev pub AreWholeEvents : List Event → Type 0
AreWholeEvents events = (k at : ℕ) (bytes : List ℕ) → slice_get events k ≡ Some (Write at bytes) → length bytes ≡ 512

-- The content that events leave, the first of them first.
abbrev pub content_after : Content → List Event → Content
content_after content [] = content
content_after content (e ∷ es) = content_after (after_event e content) es

-- The contents of each moment, the newest first, before those of the past.
abbrev pub moments_after : Content → List Content → List Event → List Content
moments_after content past [] = content ∷ past
moments_after content past (e ∷ es) = moments_after (after_event e content) (content ∷ past) es

-- All moments of a disk that held these bytes at first: one more with each sector write and each sync.
abbrev pub moments_of : List ℕ → List Event → List Content
moments_of base events = moments_after (content_of_bytes base) [] events

-- The first `count` sectors of the bytes, each written at its place, in ascending order.
abbrev pub sector_writes : ℕ → List ℕ → ℕ → List Event
sector_writes at bytes zero = []
sector_writes at bytes (suc count) =
    sector_writes at bytes count ++ Write (at + count) (sector_in bytes count) ∷ []

-- How many more sector writes there are room for and come before the stop, if one is set.
abbrev pub writes_left : ℕ → Option ℕ → ℕ
writes_left room None = room
writes_left room (Some stop) = min room stop

-- The bytes have in each sector what a read gives after the events.
abbrev pub IsLatest : ℕ → List ℕ → List ℕ → List Event → Type 0
IsLatest sectors latest base events =
    (sector : ℕ) → sector < sectors → sector_in latest sector ≡ last_image (content_after (content_of_bytes base) events) sector

-- What a look at some events knows of a sector: its last candidate, how many it has, and the one at an index.
pub record IsNoted (content : Content) (at index : ℕ) (last : List ℕ) (count : ℕ) (out : List ℕ) : Type 0 where
  pub last_is : last ≡ last_image content at
  pub count_is : count ≡ length (content at)
  pub chosen : index < count → out ≡ slice_index_or (content at) index []
