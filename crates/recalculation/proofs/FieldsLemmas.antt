-- Which fields a step leaves, and which sectors it writes, for the devices of both modes without a bitmap.
use Rattle.std.proofs.Common.{◌≡◌, ℕ, ◌==◌, Bool, false, if◌then◌else◌, refl, ◌∙◌, ap, sym, Option, Some, None, List}
use Rattle.disk_model.specs.Disk.{Content, OnlyAdds}
use Rattle.disk_model.specs.Moments.{EachSince}
use Rattle.image_model.specs.Geometry.{Geometry}
use Rattle.image_model.specs.Superblock.{Superblock}
use Rattle.device_model.specs.Regions.{with_region}
use Rattle.place_model.specs.Format.{DiskFormat}
use Rattle.hmac_tag.specs.TagMaker.{TagRule}
use Rattle.recalculate_laws.specs.Formats.{IsFormatOf, under_fields}
use Rattle.recalculate_laws.specs.Position.{moved_fields}
use Rattle.recalculate_laws.proofs.AwaitsLemmas.{moved_same_law}
use Rattle.recalculation.specs.declared.recalculating.Recalculation.{Recalculation}
use Rattle.recalculation.specs.Awaiting.{AwaitingRegions, awaiting_of}
use Rattle.recalculation.specs.Position.{HasMoved, fields_to_write}
use Rattle.recalculation.specs.Recalculation.{IsOfTagsOrHead, IsRecalculationOf, StepsPosition, WritesRegion, fields_behind, fields_or, fields_then, to_write}

-- ---- which fields

-- A format of the device, under some fields, is the device's own under these.
pub under_is : (on d : DiskFormat) (s : Superblock) → IsFormatOf on d → under_fields d s ≡ under_fields on s
under_is on d s same =
    ap (λ (key : Option (List ℕ)). let f : DiskFormat = record { key = key; sectors = d.sectors; superblock = s; geometry = d.geometry } in f) same.key
    ∙ ap (λ (sectors : ℕ). let f : DiskFormat = record { key = on.key; sectors = sectors; superblock = s; geometry = d.geometry } in f) same.sectors
    ∙ ap (λ (g : Geometry). let f : DiskFormat = record { key = on.key; sectors = on.sectors; superblock = s; geometry = g } in f) same.geometry

-- The fields behind a region are those of the disk, moved to what awaits then.
pub behind_is : (d : DiskFormat) (awaiting : ℕ → Bool) (r : Recalculation) → IsRecalculationOf d.superblock d.geometry awaiting r → (region : ℕ)
    → fields_behind (Some region) r ≡ moved_fields d.superblock d.geometry (with_region region false awaiting)
behind_is d awaiting r own region =
    let set = with_region region false (awaiting_of r.awaiting) in
    ap (λ (s : Superblock). moved_fields s r.awaiting.geometry set) own.fields
    ∙ ap (λ (g : Geometry). moved_fields d.superblock g set) own.geometry
    ∙ moved_same_law d.superblock d.geometry set (with_region region false awaiting)
    (λ other low. ap (λ (t : Bool). if other == region then false else t) (own.regions_ other low))

-- The fields then are those that were to be written, if any.
pub moved_or : (o : Option Superblock) (g : Geometry) (tags : Content → ℕ → List ℕ) (old new : Superblock) (a b : List Content) → HasMoved o g tags old new a b → new ≡ fields_or o old
moved_or None g tags old new a b moved = moved.0
moved_or (Some there) g tags old new a b moved = moved.0

pub fields_stepped : (rule : TagRule) (region : ℕ) (old new : Recalculation) (g : Geometry) (tags now : Content → ℕ → List ℕ) (a b : List Content) → StepsPosition rule region old new g tags now a b → new.position ≡ fields_then old new
fields_stepped rule region old new g tags now a b steps =
    let mid = steps.mid in
    moved_or (to_write mid) g now mid.position new.position steps.settles.between b steps.settles.moves
    ∙ ap (λ (s : Superblock). fields_or (fields_to_write s mid.awaiting.geometry (awaiting_of mid.awaiting)) s) steps.takes.position
    ∙ ap (λ (x : Geometry). fields_or (fields_to_write old.position x (awaiting_of mid.awaiting)) old.position) steps.takes.geometry
    ∙ ap (λ (x : AwaitingRegions). fields_or (fields_to_write old.position old.awaiting.geometry (awaiting_of x)) old.position) (sym steps.settles.awaiting)

-- ---- which sectors

-- Where no region awaits nothing is written in a step.
pub region_writes : (o : Option ℕ) (g : Geometry) (a b : List Content) → (o ≡ None → b ≡ a) → EachSince (OnlyAdds (IsOfTagsOrHead g)) a b → WritesRegion o g a b
region_writes None g a b idle writes = idle refl
region_writes (Some region) g a b idle writes = writes
