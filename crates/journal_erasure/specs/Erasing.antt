-- An erasure: which sectors bear the newest number, that number, and what each step writes.
-- Own: the sectors of the newest number come last, and those of one section first.
use Rattle.std.specs.Prelude.{◌≡◌, ◌⊎◌, ℕ, ◌+◌, ◌*◌, ◌<◌, ◌≤◌, ◌==◌, true, if◌then◌else◌, List, length}
use Rattle.std.specs.List.{Contains}
use Rattle.disk_model.specs.Disk.{Content, OnlyAdds, newest_only, sector_in, with_run}
use Rattle.disk_model.specs.Identity.{DiskIdentity, IsBound}
use Rattle.image_model.specs.Geometry.{Geometry, IsGeometry, journal_sectors, section_at, section_sectors}
use Rattle.image_model.specs.Walk.{bears}
use Rattle.place_model.specs.Journal.{numbers_on}
use Rattle.journal_model.specs.JournaledDisk.{JournaledDisk}
use Rattle.journal_model.specs.Opening.{HasNewest, newest_at_rest}
use Rattle.journal_erasure.specs.declared.newest.NewestSectors.TheVariants.{First}
use Rattle.journal_erasure.specs.declared.part.Part.{Part}
use Rattle.journal_erasure.specs.declared.part.Part.TheVariants.{Others}
use Rattle.journal_erasure.specs.declared.erasure.Erasure.{Erasure}
use Rattle.journal_erasure.specs.Newest.{is_newest, HasSectors}
use Rattle.journal_erasure.specs.Parts.{is_of_part, with_chosen, IsOfChosen}

-- It is one for a journal of this geometry: there is such a number and such a section, and each sector is told.
pub record IsErasureFor (g : Geometry) (erasure : Erasure) : Type 0 where
  pub number : erasure.number < 4
  pub first : erasure.first < g.sections
  pub told : HasSectors erasure.newest (journal_sectors g)

-- It is one of this disk's journal: all entries are settled, the number is the newest there, and what bears it is told.
pub record IsErasureOf (g : Geometry) (erasure : Erasure) (d : JournaledDisk) : Type 0 where
  pub geometry : d.geometry ≡ g
  pub settled : d.settled ≡ length d.entries
  pub has_newest : HasNewest d.geometry.sections (section_sectors d.geometry.shape) erasure.number
      (numbers_on d.geometry d.journal)
  pub marks : (section sector : ℕ) → section < d.geometry.sections → sector < section_sectors d.geometry.shape
      → bears (numbers_on d.geometry d.journal section sector) erasure.number
      ≡ is_newest erasure.newest (section * section_sectors d.geometry.shape + sector)

-- It is one for the journal of a disk that is bound and has this layout, and these are as many bytes as its sections have.
pub record IsErasing (g : Geometry) (erasure : Erasure) (bytes : List ℕ) (disk : DiskIdentity) : Type 0 where
  pub bound : IsBound disk.name
  pub geometry : IsGeometry g disk.sectors
  pub fits : IsErasureFor g erasure
  pub size : length bytes ≡ 512 * journal_sectors g

-- The erasure of a journal at rest: the newest number stands on the sections before the next one, or on all where that
-- is the first; and the next one is erased before all others.
abbrev pub erasure_at_rest : Geometry → (next number : ℕ) → Erasure
erasure_at_rest g next number = record {
  newest = First ((if next == 0 then g.sections else next) * section_sectors g.shape);
  number = newest_at_rest next number;
  first = next;
}

-- ---- what is written

-- The sectors of the part in the sections from `from` on and before `to` have got their bytes as candidates.
abbrev pub with_part : Geometry → Erasure → Part → (from to : ℕ) → List ℕ → Content → Content
with_part g erasure part from to empty =
    with_chosen (is_of_part erasure.newest part) (section_at g 0)
    (from * section_sectors g.shape) (to * section_sectors g.shape) empty

-- The candidate that this brings to a sector.
abbrev pub IsOfPart : Geometry → Erasure → Part → (from to : ℕ) → List ℕ → ℕ → List ℕ → Type 0
IsOfPart g erasure part from to empty =
    IsOfChosen (is_of_part erasure.newest part) (section_at g 0)
    (from * section_sectors g.shape) (to * section_sectors g.shape) empty

-- The journal is empty, and nothing is pending.
abbrev pub with_empty_journal : Geometry → List ℕ → Content → Content
with_empty_journal g empty c = newest_only (with_run (section_at g 0) empty c)

-- Of the first section each sector that did not bear the newest number is empty in every image.
pub record HasFirstErased (g : Geometry) (erasure : Erasure) (empty : List ℕ) (c : Content) : Type 0 where
  pub each : (k : ℕ) (x : List ℕ) → erasure.first * section_sectors g.shape ≤ k
      → k < (erasure.first + 1) * section_sectors g.shape → is_of_part erasure.newest Others k ≡ true
      → Contains (c (section_at g 0 + k)) x → x ≡ sector_in empty k

-- It is so, or only these have been written since the start.
abbrev pub ErasesFirst : Geometry → Erasure → List ℕ → Content → Content → Type 0
ErasesFirst g erasure empty start c =
    OnlyAdds (IsOfPart g erasure Others erasure.first (erasure.first + 1) empty) start c
    ⊎ HasFirstErased g erasure empty c
