-- Which blocks of an image are bad: the tag that is stored for them is not that of their bytes.
-- Source: Linux, drivers/md/dm-integrity.c, integrity_metadata.
use Rattle.std.specs.Prelude.{ℕ, ◌-◌, ◌*◌, if◌then◌else◌, bytes_eq, Option, Some, None, List, filter_map, slice_get}
use Rattle.std.specs.List.{range_with_len}
use Rattle.disk_model.specs.Disk.{Image}
use Rattle.image_model.specs.Cells.{Cell, block_tag, placed_cells_of, salt_of}
use Rattle.image_model.specs.Geometry.{Geometry}
use Rattle.place_model.specs.Format.{DiskFormat, cells_on}
use Rattle.check_model.specs.declared.bad.Bad.{Bad}
use Rattle.image_model.specs.declared.judged.What.{What}
use Rattle.image_model.specs.declared.judged.What.TheVariants.{Cells, Placed}

-- The block with both tags, where they differ.
abbrev pub bad_by : (block : ℕ) → (stored computed : List ℕ) → Option Bad
bad_by block stored computed =
    if bytes_eq stored computed then None
    else Some (record { block = block; stored = stored; computed = computed })

-- The block, where the tag of its cell is not that of the cell's bytes.
abbrev pub bad_cell : (key salt : Option (List ℕ)) → Geometry → (block : ℕ) → Cell → Option Bad
bad_cell key salt g block cell =
    bad_by block cell.tag (block_tag key salt g (block * g.shape.spb) cell.bytes)

-- The same of what stands in the block's place.
abbrev pub bad_placed : (key salt : Option (List ℕ)) → Geometry → Image → (block : ℕ) → Option Bad
bad_placed key salt g image block = bad_cell key salt g block (placed_cells_of g image block)

-- The bytes and the tag of a block that are judged: its cell, or what stands in its place.
abbrev pub judged_cell : What → DiskFormat → Image → ℕ → Cell
judged_cell Cells d image b = cells_on d image b
judged_cell Placed d image b = placed_cells_of d.geometry image b

-- Block b, where it is bad.
abbrev pub bad_block : What → DiskFormat → Image → ℕ → Option Bad
bad_block what d image b = bad_cell d.key (salt_of d.superblock) d.geometry b (judged_cell what d image b)

-- The bad blocks from a block on, in order.
abbrev pub bad_blocks_from : What → DiskFormat → Image → ℕ → List Bad
bad_blocks_from what d image from = filter_map (bad_block what d image) (range_with_len from (d.geometry.blocks - from))

-- The first of these, if there is one.
abbrev pub first_bad_from : What → DiskFormat → Image → ℕ → Option Bad
first_bad_from what d image from = slice_get (bad_blocks_from what d image from) 0

-- The bad blocks of an image, in order.
abbrev pub bad_blocks : What → DiskFormat → Image → List Bad
bad_blocks what d image = bad_blocks_from what d image 0
