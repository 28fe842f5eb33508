-- Judging the entries of a journal one by one.
use Rattle.std.specs.Prelude.{◌≡◌, ◌≢◌, ℕ, ◌≤◌, ◌<◌, IfOk, List, Option, Some, option_and_then, slice_get, Result, Err}
use Rattle.disk_model.specs.Disk.{Content, Image, last_image}
use Rattle.disk_model.specs.Moments.{HasNow}
use Rattle.image_model.specs.declared.entry_place.EntryPlace.{EntryPlace}
use Rattle.image_model.specs.Cells.{entry_of}
use Rattle.image_model.specs.Geometry.{Geometry}
use Rattle.image_model.specs.Openable as model
use Rattle.image_model.specs.Openable.{entry_fault}
use Rattle.image_model.specs.Section.{Entry, entry_at}
use Rattle.hmac_tag.specs.TagMaker.{TagRule}
use Rattle.image_refusal.specs.declared.call_fault.CallFault.{CallFault}
use Rattle.image_refusal.specs.declared.call_fault.CallFault.TheVariants.{Memory, Disk}
use Rattle.image_refusal.specs.declared.journal_fault.JournalFault.{JournalFault}
use Rattle.journal_reading.specs.Faults.{refusal_in}
use Rattle.journal_reading.specs.Index.{AddsEntry}
use Rattle.journal_reading.specs.Newest.{newest_in}
use Rattle.journal_reading.specs.Places.{places_of}

-- The entry that stands at a place of a walk, by the number of that,
abbrev pub entry_on : Geometry → Image → List (ℕ × ℕ) → ℕ → Option Entry
entry_on g image walk number = option_and_then (entry_of g image) (slice_get (places_of g walk) number)

-- and why it is refused, if it is.
abbrev pub fault_on : TagRule → Geometry → Image → List (ℕ × ℕ) → ℕ → Option model.JournalFault
fault_on rule g image walk number =
    option_and_then (λ place. option_and_then (entry_fault rule.key rule.salt g place) (entry_of g image place))
    (slice_get (places_of g walk) number)

-- ---- by the bytes of its section

-- Why the entry at a place is refused, by the bytes of its section, if it is used and is.
abbrev pub fault_in_section : TagRule → Geometry → (place : EntryPlace) → (section : List ℕ) → Option model.JournalFault
fault_in_section rule g place section =
    option_and_then (entry_fault rule.key rule.salt g place) (entry_at g.shape section place.entry)

-- It was added with this number, if it is used; `used` tells how many were, one or none.
abbrev pub AddsInSection : Geometry → (number : ℕ) → (place : EntryPlace) → (section : List ℕ)
    → (old new : List (ℕ × ℕ)) → (used : ℕ) → Type 0
AddsInSection g number place section old new =
    AddsEntry g number (entry_at g.shape section place.entry) (newest_in old) (newest_in new)

-- ---- on an image

-- The entry with this number was judged, and added where it is used and not refused.
pub record IsJudgedAt (rule : TagRule) (g : Geometry) (image : Image) (walk : List (ℕ × ℕ)) (number : ℕ)
    (old new : ℕ → Option ℕ) (result : Result ℕ (CallFault JournalFault)) : Type 0 where
  pub refused : result ≢ Err Memory → result ≢ Err Disk → refusal_in result ≡ fault_on rule g image walk number
  pub added : IfOk result (AddsEntry g number (entry_on g image walk number) old new)

-- So it was on the image that reads give, where these are the newest entries before and then.
abbrev pub JudgesAt : TagRule → Geometry → List Content → (walk : List (ℕ × ℕ)) → (number : ℕ)
    → (old new : List (ℕ × ℕ)) → Result ℕ (CallFault JournalFault) → Type 0
JudgesAt rule g moments walk number old new result =
    HasNow (λ c. IsJudgedAt rule g (last_image c) walk number (newest_in old) (newest_in new) result) moments

-- At most one entry is told to be used, and where all are of blocks of the device they still are.
pub record StaysInside (g : Geometry) (old new : ℕ → Option ℕ) (used : ℕ) : Type 0 where
  pub few : used ≤ 1
  pub inside : ((b number : ℕ) → old b ≡ Some number → b < g.blocks) → (b number : ℕ) → new b ≡ Some number → b < g.blocks
