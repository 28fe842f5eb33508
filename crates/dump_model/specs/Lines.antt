-- The lines of a dump.
-- Own: the words, their order, and the numbers in decimal digits but for the flags.
use Rattle.std.specs.Prelude.{ℕ, ◌*◌, ◌^◌, List, [], ◌∷◌, ◌++◌, codes, flat_map}
use Rattle.std.specs.Fmt.{decimal}
use Rattle.hex.specs.Hex.{encode_lower}
use Rattle.device_model.specs.Refusals.{hexadecimal}
use Rattle.image_model.specs.declared.journal_plan.State.{State}
use Rattle.image_model.specs.declared.journal_plan.State.TheVariants.{Rest, Mixed, Erasing, Blank}
use Rattle.image_model.specs.Geometry.{Geometry, initial, section_entries, section_sectors}
use Rattle.image_model.specs.Superblock.{Superblock}
use Rattle.dump_model.specs.declared.shown.Dump.{Dump}
use Rattle.dump_model.specs.declared.shown.DumpJournal as journals
use Rattle.dump_model.specs.declared.shown.DumpJournal.TheVariants as parts

-- A line for each field of the superblock, without its newline: the interleave in sectors, the block in bytes,
-- and the salt in lower case.
abbrev pub superblock_lines : Superblock → List (List ℕ)
superblock_lines s =
    (codes "version " ++ decimal s.version)
    ∷ (codes "interleave " ++ decimal (2 ^ s.log2_interleave))
    ∷ (codes "tag " ++ decimal s.tag_size)
    ∷ (codes "sections " ++ decimal s.sections)
    ∷ (codes "provided " ++ decimal s.provided)
    ∷ (codes "flags " ++ hexadecimal s.flags)
    ∷ (codes "block " ++ decimal (512 * 2 ^ s.log2_spb))
    ∷ (codes "log2 blocks per bit " ++ decimal s.log2_region)
    ∷ (codes "recalculate " ++ decimal s.recalc_sector)
    ∷ (codes "salt " ++ encode_lower s.salt)
    ∷ []

-- A line for each number of the layout.
abbrev pub layout_lines : Geometry → List (List ℕ)
layout_lines g =
    (codes "initial " ++ decimal (initial g))
    ∷ (codes "tag run " ++ decimal g.tag_run)
    ∷ (codes "section entries " ++ decimal (section_entries g.shape))
    ∷ (codes "section sectors " ++ decimal (section_sectors g.shape))
    ∷ (codes "blocks " ++ decimal g.blocks)
    ∷ []

abbrev pub state_text : State → List ℕ
state_text (Rest next number) = codes "rest next " ++ decimal next ++ codes " number " ++ decimal number
state_text (Mixed newest) = codes "mixed newest " ++ decimal newest
state_text (Erasing newest) = codes "erasing newest " ++ decimal newest
state_text (Blank number) = codes "blank number " ++ decimal number

-- A line for the journal: its state, or how many regions have their bit set in the bitmap in its place.
abbrev pub journal_lines : journals.DumpJournal → List (List ℕ)
journal_lines (parts.State state) = (codes "journal " ++ state_text state) ∷ []
journal_lines (parts.Bitmap set) = (codes "journal bitmap set " ++ decimal set) ∷ []

-- The lines of a dump, in order.
abbrev pub dump_lines : Dump → List (List ℕ)
dump_lines dump =
    superblock_lines dump.format.fields ++ layout_lines dump.format.geometry ++ journal_lines dump.journal

-- Lines one after the other, each with its newline.
abbrev pub joined_lines : List (List ℕ) → List ℕ
joined_lines lines = flat_map (λ line. line ++ codes "\n") lines
