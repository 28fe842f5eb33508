-- The format of a disk whose position may have moved, and the regions that may await.
use Rattle.std.proofs.Common.{◌≡◌, inl, inr, ℕ, ◌*◌, false, refl, sym, ◌∙◌, ap, Option, List}
use Rattle.std.proofs.lemmas.Bool.{and_parts, cases_eq, true≢false}
use Rattle.image_model.specs.declared.flags.TheConstants.{RECALCULATING}
use Rattle.image_model.specs.Cells.{block_tag, salt_of}
use Rattle.image_model.specs.Geometry.{Geometry, regions, section_entries, region_of}
use Rattle.image_model.specs.Superblock.{has_flag}
use Rattle.image_model.proofs.BitmapLemmas.{awaits-journal, region_awaits_found}
use Rattle.device_model.specs.Mode.{DeviceFormat}
use Rattle.device_model.specs.Transcript.{BlockFormat}
use Rattle.place_model.specs.Format.{DiskFormat, format_on}
use Rattle.place_model.specs.Opened.{blocks_of, device_format}
use Rattle.place_model.proofs.FormatLemmas.{format_on-read}
use Rattle.bitmap_model.proofs.BitLemmas.{with_region-here, with_region-other}
use Rattle.bitmap_laws.proofs.LeastLemmas.{least_found}
use Rattle.recalculate_laws.specs.Formats.{EntryBlocksLaw, MovedFormatLaw, OwnFormatLaw, SameBlocksLaw, WorkFlagLaw, WorkMovedLaw, WorkMovesLaw, WorkOpenedLaw, WorkTakenLaw}
use Rattle.recalculate_laws.proofs.PositionLemmas.{taken_moves}

-- ---- which format

pub own_format_law : OwnFormatLaw
own_format_law d clear = record { key = refl; sectors = refl; geometry = refl; salt = refl; no_bitmap = clear }

pub moved_format_law : MovedFormatLaw
moved_format_law on d awaiting fields is moves = record {
  key = is.key;
  sectors = is.sectors;
  geometry = is.geometry;
  salt = moves.same_salt ∙ is.salt;
  no_bitmap = moves.no_bitmap;
}

-- The blocks, by what they depend on.
abbrev blocks_by : Option (List ℕ) → Option (List ℕ) → Geometry → BlockFormat
blocks_by key salt g = record {
  blocks = g.blocks;
  block_size = 512 * g.shape.spb;
  tag = λ b bytes. block_tag key salt g (b * g.shape.spb) bytes;
}

same_blocks : (on d : DiskFormat) (key salt : Option (List ℕ)) (g : Geometry) → key ≡ on.key → salt ≡ salt_of on.superblock → g ≡ on.geometry → blocks_by key salt g ≡ blocks_of on
same_blocks on d key salt g same_key same_salt same_geometry =
    ap (λ (x : Option (List ℕ)). blocks_by x salt g) same_key ∙ ap (λ (x : Option (List ℕ)). blocks_by on.key x g) same_salt ∙ ap (blocks_by on.key (salt_of on.superblock)) same_geometry

pub same_blocks_law : SameBlocksLaw
same_blocks_law on d is =
    let blocks : blocks_of d ≡ blocks_of on = same_blocks on d d.key (salt_of d.superblock) d.geometry is.key is.salt is.geometry in (
      blocks,
      λ mode.
          ap (λ (x : BlockFormat). let f : DeviceFormat = record (device_format mode d) { blocks = x } in f) blocks
          ∙ ap (λ (g : Geometry). let f : DeviceFormat = record (device_format mode on) {
            sections = g.sections;
            entries = section_entries g.shape;
            regions = regions g;
            region_of = region_of g;
          } in f) is.geometry,
    )

pub entry_blocks_law : EntryBlocksLaw
entry_blocks_law on d entry is reads =
    (same_blocks_law on d is).0
    ∙ ap blocks_of (sym (format_on-read on entry reads))
    ∙ ap (λ (key : Option (List ℕ)). blocks_of (format_on key on.sectors entry)) (sym is.key)
    ∙ ap (λ (sectors : ℕ). blocks_of (format_on d.key sectors entry)) (sym is.sectors)

-- ---- which regions

pub work_opened_law : WorkOpenedLaw
work_opened_law d image clear = (
  λ region waits.
      let found = region_awaits_found d.superblock d.geometry image region waits in
      record { block = found.0; inside = found.1; is = found.2; to_recalculate = sym (awaits-journal d.superblock d.geometry image found.0 clear) ∙ found.3 },
  λ region waits.
      let found = region_awaits_found d.superblock d.geometry image region waits in
      record { block = found.0; inside = found.1; is = found.2; to_recalculate = sym (awaits-journal d.superblock d.geometry image found.0 clear) ∙ found.3 },
)

pub work_taken_law : WorkTakenLaw
work_taken_law d awaiting region work other waits = elim (cases_eq region other) [
  | inl own ↦ absurd (true≢false (sym waits ∙ with_region-here region other false awaiting own))
  | inr differs ↦ work other (sym (with_region-other region other false awaiting differs) ∙ waits)
]

pub work_moved_law : WorkMovedLaw
work_moved_law d awaiting fields work moves region waits =
    let has = work region waits in
    record {
      block = has.block;
      inside = has.inside;
      is = has.is;
      to_recalculate = moves.passes has.block has.inside (ap awaiting has.is ∙ waits) ∙ has.to_recalculate;
    }

pub work_flag_law : WorkFlagLaw
work_flag_law d awaiting region work waits =
    let has = work region waits in
    (and_parts (has_flag RECALCULATING d.superblock.flags) _ has.to_recalculate).0

pub work_moves_law : WorkMovesLaw
work_moves_law d awaiting region work least =
    let waits = (least_found (regions d.geometry) awaiting region least).1 in
    let has = work region waits in
    taken_moves d.superblock d.geometry awaiting region has.block (work_flag_law d awaiting region work waits) least has.inside has.is has.to_recalculate
