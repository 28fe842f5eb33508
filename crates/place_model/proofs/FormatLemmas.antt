-- What an image that can be opened in a format tells, by the fields of that format.
use Rattle.std.proofs.Common.{◌≡◌, ◌≢◌, ℕ, false, refl, sym, ◌∙◌, ap, subst, arith, Ok, IsOk, Option, List}
use Rattle.std.specs.List.{AllByRecursion, starts_with}
use Rattle.std.specs.Prelude.{nat_eq, not, ◌∷◌}
use Rattle.std.proofs.lemmas.Bool.{ne_eqb}
use Rattle.disk_model.specs.Disk.{Image}
use Rattle.image_model.specs.declared.flags.TheConstants.{DIRTY_BITMAP}
use Rattle.image_model.specs.Cells.{salt_of, counted_entries}
use Rattle.image_model.specs.Geometry.{Geometry, layout_of, geometry_of, IsGeometry}
use Rattle.image_model.specs.Grid.{walk_of}
use Rattle.image_model.specs.Openable.{first_sector, IsReadable, IsReplayable, IsOpenable}
use Rattle.image_model.specs.Superblock.{Superblock, magic, superblock_faults, has_flag, fields_in, superblock_of}
use Rattle.image_model.specs.declared.super_fields.SuperFault.TheVariants.{Magic}
use Rattle.image_model.proofs.FaultLemmas.{ok_unless-told}
use Rattle.image_model.proofs.OpenableLemmas.{IsReadable-geometry}
use Rattle.place_model.specs.Format.{DiskFormat, IsReadAs, OpensAs, ReadFormatLaw, format_on}

-- A disk with a geometry has a first sector.
some_sector : (g : Geometry) (sectors : ℕ) → IsGeometry g sectors → sectors ≢ 0
some_sector g sectors geometry none = let last = geometry.last in let spb = geometry.spb.0 in omega arith

first_sector-is : (g : Geometry) (sectors : ℕ) (image : Image) → IsGeometry g sectors → first_sector sectors image ≡ image 0
first_sector-is g sectors image geometry = rw (ne_eqb sectors 0 (some_sector g sectors geometry)) refl

-- The fields of an accepted superblock are those that its bytes have.
superblock_of-told : (bytes : List ℕ) (s : Superblock) → superblock_of bytes ≡ Ok s → fields_in bytes ≡ s
unfolding superblock_of
superblock_of-told bytes s e =
    (ok_unless-told ((not (starts_with nat_eq bytes magic), Magic) ∷ superblock_faults (fields_in bytes)) (fields_in bytes) s e).0

-- The image tells the superblock and the geometry of the format.
pub record TellsFields (d : DiskFormat) (image : Image) : Type 0 where
  pub head : superblock_of (image 0) ≡ Ok d.superblock
  pub has_geometry : geometry_of d.superblock d.sectors ≡ Ok d.geometry
  pub is_geometry : IsGeometry d.geometry d.sectors

-- The image tells the superblock and the geometry of the format, and its journal has a walk whose entries can be replayed.
pub record TellsFormat (d : DiskFormat) (image : Image) : Type 0 where
  pub head : superblock_of (image 0) ≡ Ok d.superblock
  pub has_geometry : geometry_of d.superblock d.sectors ≡ Ok d.geometry
  pub is_geometry : IsGeometry d.geometry d.sectors
  pub walk : has_flag DIRTY_BITMAP d.superblock.flags ≡ false → IsOk (walk_of d.geometry image)
  pub entries : AllByRecursion (IsReplayable d.key (salt_of d.superblock) d.geometry) (counted_entries d.superblock d.geometry image)

-- ---- for callers

pub reads_tells : (d : DiskFormat) (image : Image) → IsReadAs d image → TellsFields d image
reads_tells d image reads =
    let readable = reads.readable in
    let geometry = (IsReadable-geometry d.sectors image readable).1 in
    let told : TellsFields (record { key = d.key; sectors = d.sectors; superblock = readable.superblock; geometry = readable.geometry }) image = record {
      head = ap superblock_of (sym (first_sector-is readable.geometry d.sectors image geometry)) ∙ readable.has_superblock;
      has_geometry = readable.has_geometry;
      is_geometry = geometry;
    } in
    subst (λ (g : Geometry). TellsFields (record { key = d.key; sectors = d.sectors; superblock = d.superblock; geometry = g }) image) reads.geometry
    (subst (λ (s : Superblock). TellsFields (record { key = d.key; sectors = d.sectors; superblock = s; geometry = readable.geometry }) image) reads.superblock told)

pub reads_from : (d : DiskFormat) (image : Image) → TellsFields d image → IsReadAs d image
reads_from d image told = record {
  readable = record {
    superblock = d.superblock;
    geometry = d.geometry;
    has_superblock = ap superblock_of (first_sector-is d.geometry d.sectors image told.is_geometry) ∙ told.head;
    has_geometry = told.has_geometry;
  };
  superblock = refl;
  geometry = refl;
}

-- An image that can be opened can be read.
pub opens_reads : (d : DiskFormat) (image : Image) → OpensAs d image → IsReadAs d image
opens_reads d image opens = record { readable = opens.openable.readable; superblock = opens.superblock; geometry = opens.geometry }

pub opens_tells : (d : DiskFormat) (image : Image) → OpensAs d image → TellsFormat d image
opens_tells d image opens =
    let readable = opens.openable.readable in
    let geometry = (IsReadable-geometry d.sectors image readable).1 in
    let told : TellsFormat (record { key = d.key; sectors = d.sectors; superblock = readable.superblock; geometry = readable.geometry }) image = record {
      head = ap superblock_of (sym (first_sector-is readable.geometry d.sectors image geometry)) ∙ readable.has_superblock;
      has_geometry = readable.has_geometry;
      is_geometry = geometry;
      walk = opens.openable.walk;
      entries = opens.openable.entries;
    } in
    subst (λ (g : Geometry). TellsFormat (record { key = d.key; sectors = d.sectors; superblock = d.superblock; geometry = g }) image) opens.geometry
    (subst (λ (s : Superblock). TellsFormat (record { key = d.key; sectors = d.sectors; superblock = s; geometry = readable.geometry }) image) opens.superblock told)

pub opens_from : (d : DiskFormat) (image : Image) → TellsFormat d image → OpensAs d image
opens_from d image told = record {
  openable = record {
    readable = record {
      superblock = d.superblock;
      geometry = d.geometry;
      has_superblock = ap superblock_of (first_sector-is d.geometry d.sectors image told.is_geometry) ∙ told.head;
      has_geometry = told.has_geometry;
    };
    walk = told.walk;
    entries = told.entries;
  };
  superblock = refl;
  geometry = refl;
}

-- What its first sector says is the format,
pub format_on-read : (d : DiskFormat) (image : Image) → IsReadAs d image → format_on d.key d.sectors image ≡ d
format_on-read d image reads =
    let readable = reads.readable in
    let super = superblock_of-told (first_sector d.sectors image) readable.superblock readable.has_superblock ∙ reads.superblock in
    let geometry = ap layout_of (sym reads.superblock) ∙ sym (IsReadable-geometry d.sectors image readable).0 ∙ reads.geometry in
    ap (λ (s : Superblock). let format : DiskFormat = record { key = d.key; sectors = d.sectors; superblock = s; geometry = layout_of s } in format) super
    ∙ ap (λ (g : Geometry). let format : DiskFormat = record { key = d.key; sectors = d.sectors; superblock = d.superblock; geometry = g } in format) geometry

pub format_on-is : (d : DiskFormat) (image : Image) → OpensAs d image → format_on d.key d.sectors image ≡ d
format_on-is d image opens = format_on-read d image (opens_reads d image opens)

-- and an image that can be read tells the fields of its own.
fields-own : (key : Option (List ℕ)) (sectors : ℕ) (image : Image) (readable : IsReadable sectors image)
    → (readable.superblock ≡ (format_on key sectors image).superblock) × (readable.geometry ≡ (format_on key sectors image).geometry)
fields-own key sectors image readable =
    let super = superblock_of-told (first_sector sectors image) readable.superblock readable.has_superblock in
    (sym super, (IsReadable-geometry sectors image readable).0 ∙ ap layout_of (sym super))

-- Each image can be read in the format of its own that can be read,
pub reads_on : (key : Option (List ℕ)) (sectors : ℕ) (image : Image) → IsReadable sectors image → IsReadAs (format_on key sectors image) image
reads_on key sectors image readable =
    let own = fields-own key sectors image readable in
    record { readable = readable; superblock = own.0; geometry = own.1 }

-- and opened that can be opened.
pub opens_on : (key : Option (List ℕ)) (sectors : ℕ) (image : Image) → (openable : IsOpenable key sectors image) → OpensAs (format_on key sectors image) image
opens_on key sectors image openable =
    let own = fields-own key sectors image openable.readable in
    record { openable = openable; superblock = own.0; geometry = own.1 }

pub read_format_law : ReadFormatLaw
read_format_law d image head geometry =
    let reads : IsReadAs d image = record { readable = record { superblock = d.superblock; geometry = d.geometry; has_superblock = head; has_geometry = geometry }; superblock = refl; geometry = refl } in
    (reads, format_on-read d image reads)
