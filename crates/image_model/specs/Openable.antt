-- Which images can be read, which can be opened, and why a journal is refused.
-- Own: the entries are judged before any is replayed.
use Rattle.std.specs.Prelude.{◌≡◌, ◌↔◌, ℕ, ◌*◌, ◌%◌, ◌<◌, ◌==◌, nat_lt, Bool, false, not, ◌&&◌, if◌then◌else◌, Option, Some, None, option_map, option_and_then, IsOk, Ok, List, [], filter_map, slice_get, bytes_eq}
use Rattle.std.specs.List.{AllByRecursion}
use Rattle.std.specs.Option.{option_or}
use Rattle.std.specs.Result.{result_err}
use Rattle.disk_model.specs.Disk.{Image}
use Rattle.image_model.specs.declared.entry_place.EntryPlace.{EntryPlace}
use Rattle.image_model.specs.declared.flags.TheConstants.{DIRTY_BITMAP}
use Rattle.image_model.specs.Cells.{salt_of, block_tag, entry_of, entry_places, counted_sections, counted_entries, replayed_entries}
use Rattle.image_model.specs.Geometry.{Geometry, geometry_of}
use Rattle.image_model.specs.Grid.{walk_of}
use Rattle.image_model.specs.Section.{Entry}
use Rattle.image_model.specs.Superblock.{Superblock, has_flag, superblock_of}
use Rattle.image_model.specs.declared.scan_fault.ScanFault.{ScanFault}

-- The bytes of a disk's first sector, and none where it has no sector.
abbrev pub first_sector : ℕ → Image → List ℕ
first_sector sectors image = if sectors == 0 then [] else image 0

-- An image of a disk of so many sectors whose superblock and geometry are accepted.
pub record IsReadable (sectors : ℕ) (image : Image) : Type 0 where
  pub superblock : Superblock
  pub geometry : Geometry
  pub has_superblock : superblock_of (first_sector sectors image) ≡ Ok superblock
  pub has_geometry : geometry_of superblock sectors ≡ Ok geometry

-- The sector is the first of a block of the device.
abbrev pub is_block_start : Geometry → ℕ → Bool
is_block_start g sector = sector % g.shape.spb == 0 && nat_lt sector (g.blocks * g.shape.spb)

-- An entry can be replayed: it is of a block of the device, and its tag is that of its bytes there.
pub record IsReplayable (key salt : Option (List ℕ)) (g : Geometry) (entry : Entry) : Type 0 where
  pub whole : entry.sector % g.shape.spb ≡ 0
  pub inside : entry.sector < g.blocks * g.shape.spb
  pub tag : entry.tag ≡ block_tag key salt g entry.sector entry.bytes

-- An image that can be opened: it is readable, and where it has a journal and no bitmap, that has a
-- walk whose used entries can be replayed.
pub record IsOpenable (key : Option (List ℕ)) (sectors : ℕ) (image : Image) : Type 0 where
  pub readable : IsReadable sectors image
  pub walk : has_flag DIRTY_BITMAP readable.superblock.flags ≡ false → IsOk (walk_of readable.geometry image)
  pub entries : AllByRecursion (IsReplayable key (salt_of readable.superblock) readable.geometry)
      (counted_entries readable.superblock readable.geometry image)

-- Why a journal is refused: as a whole, or for an entry of a section, by its sector or by its tag.
pub data JournalFault : Type 0 where
  Scan : (fault : ScanFault) → JournalFault
  JournalBlock : (section entry sector : ℕ) → JournalFault
  JournalTag : (section entry : ℕ) (stored computed : List ℕ) → JournalFault

-- Why the entry at a place is refused, if it is.
unfoldable pub entry_fault : Option (List ℕ) → Option (List ℕ) → Geometry → EntryPlace → Entry
    → Option JournalFault
entry_fault key salt g place entry =
    let computed = block_tag key salt g entry.sector entry.bytes in
    if not (is_block_start g entry.sector) then Some (JournalBlock place.section place.entry entry.sector) else
    if bytes_eq entry.tag computed then None else Some (JournalTag place.section place.entry entry.tag computed)

-- The faults of a walk's used entries, in its order.
abbrev pub entry_faults : Option (List ℕ) → Option (List ℕ) → Geometry → Image → List JournalFault
entry_faults key salt g image =
    filter_map (λ place. option_and_then (entry_fault key salt g place) (entry_of g image place))
    (entry_places g (counted_sections (walk_of g image)))

-- Why the journal of an image is refused, if it is: the scan's fault, or the first of an entry.
unfoldable pub journal_fault_of : Option (List ℕ) → Option (List ℕ) → Geometry → Image
    → Option JournalFault
journal_fault_of key salt g image =
    option_or (option_map Scan (result_err (walk_of g image))) (slice_get (entry_faults key salt g image) 0)

-- A journal has no fault exactly where it has a walk whose used entries can be replayed.
abbrev pub JournalFaultLaw : Type 0
JournalFaultLaw = (key salt : Option (List ℕ)) (g : Geometry) (image : Image)
    → (journal_fault_of key salt g image ≡ None)
    ↔ (IsOk (walk_of g image) × AllByRecursion (IsReplayable key salt g) (replayed_entries g image))
