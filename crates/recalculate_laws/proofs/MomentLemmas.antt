-- The moments of a step that recalculates, by sector 0.
use Rattle.std.proofs.Common.{◌≡◌, ℕ, sym, ◌∙◌, ap, subst, arith, List, drop}
use Rattle.disk_model.specs.Disk.{Content, last_image, newest_only, with_run}
use Rattle.disk_model.proofs.DiskLemmas.{last_image-with_one, only_candidate}
use Rattle.image_model.specs.Geometry.{IsGeometry}
use Rattle.place_model.specs.Format.{DiskFormat}
use Rattle.place_model.specs.Tags.{IsOfTags}
use Rattle.place_model.proofs.TagsLemmas.{tag_byte-behind}
use Rattle.change_model.specs.Fields.{KeepsRest}
use Rattle.change_model.specs.Opened.{rest_of}
use Rattle.change_model.proofs.OpenedLemmas.{rest_synced}
use Rattle.change_model.proofs.WholeLemmas.{rest_adds}
use Rattle.recalculate_laws.specs.Moments.{tags_then, awaiting_then, head_then, IsOfNewHead, HasRegionTags, Making, Made, Moving, Moved, StepRestLaw}
use Rattle.recalculate_laws.proofs.PositionLemmas.{geometry, moved_head}

-- Reads of sector 0 give what they gave, once tags are written back.
same_head : (d : DiskFormat) (region : ℕ) (tags : ℕ → List ℕ) (first written : Content) → IsGeometry d.geometry d.sectors → HasRegionTags d region tags first written → last_image written 0 ≡ last_image first 0
same_head d region tags first written is has = has.others.each 0 (λ b i low i_low same. let behind = tag_byte-behind d.geometry d.sectors b i is low in omega arith)

-- So the bytes behind its fields stay.
rest_made : (d : DiskFormat) (region : ℕ) (tags : ℕ → List ℕ) (first written : Content) → IsGeometry d.geometry d.sectors → HasRegionTags d region tags first written → KeepsRest (rest_of first) (newest_only written)
rest_made d region tags first written is has x among = rest_synced written x among ∙ ap (drop 64) (same_head d region tags first written is has)

pub step_rest_law : StepRestLaw
step_rest_law d region awaiting tags first c e clear is whole keeps (Making adds) =
    let places = geometry d.superblock d.geometry d.sectors awaiting is.accepted is.fits e clear is.set in
    rest_adds (rest_of first) (IsOfTags d.geometry tags (tags_then d region first tags))
    (λ x of. let behind = tag_byte-behind d.geometry d.sectors of.block of.byte places of.block_low in let at = of.is in absurd (omega arith)) first c keeps adds
step_rest_law d region awaiting tags first c e clear is whole keeps (Made written has is_c) =
    let places = geometry d.superblock d.geometry d.sectors awaiting is.accepted is.fits e clear is.set in
    subst (KeepsRest (rest_of first)) (sym is_c) (rest_made d region tags first written places has)
step_rest_law d region awaiting tags first c e clear is whole keeps (Moving written has moves adds) =
    let places = geometry d.superblock d.geometry d.sectors awaiting is.accepted is.fits e clear is.set in
    let tells = moved_head d.superblock d.geometry d.sectors (awaiting_then region awaiting) (last_image first 0) is e clear whole in
    rest_adds (rest_of first) (IsOfNewHead (head_then d region awaiting first)) (λ x of. ap (drop 64) of.1 ∙ tells.2) (newest_only written) c
    (rest_made d region tags first written places has) adds
step_rest_law d region awaiting tags first c e clear is whole keeps (Moved written has moves is_c) =
    let head = head_then d region awaiting first in
    let tells = moved_head d.superblock d.geometry d.sectors (awaiting_then region awaiting) (last_image first 0) is e clear whole in
    subst (KeepsRest (rest_of first)) (sym is_c)
    (λ x among. ap (drop 64) (only_candidate (last_image (with_run 0 head (newest_only written)) 0) x among ∙ last_image-with_one 0 head (newest_only written) tells.0) ∙ tells.2)
