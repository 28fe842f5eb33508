-- The tags that a maker makes of the blocks of a layout.
use Rattle.std.specs.Prelude.{ℕ, ◌*◌, List}
use Rattle.image_model.specs.Cells.{salt_of}
use Rattle.image_model.specs.Geometry.{Geometry}
use Rattle.image_model.specs.Tag.{tag_of}
use Rattle.place_model.specs.Format.{DiskFormat}
use Rattle.hmac_tag.specs.TagMaker.{TagRule}

-- The tag of a block's bytes, by the rule: it is over the block's first sector.
-- Source: Linux, drivers/md/dm-integrity.c, integrity_sector_checksum.
abbrev pub tagger_by : TagRule → Geometry → ℕ → List ℕ → List ℕ
tagger_by rule g b bytes = tag_of rule.key rule.salt rule.size (b * g.shape.spb) bytes

-- The tags of the blocks of a disk of this format are made so.
abbrev pub rule_on : DiskFormat → TagRule
rule_on f = record { key = f.key; salt = salt_of f.superblock; size = f.geometry.shape.tag_size }
