use Rattle.std.proofs.Common.{refl, ◌∙◌, arith}
use Rattle.image_model.specs.Superblock.{fields_in}
use Rattle.image_model.proofs.SectorLemmas.{number_in-piece}
use Rattle.superblock.proofs.reading.fields_in.Goals as goal

pub returns : goal.returns
unfolding fields_in
returns c =
    let bytes = c.args.bytes.now in
    let tag_size = c.read_u16.ensures ∙ number_in-piece bytes 0 2 10 502 (omega arith) in
    let sections = c.read_u32.ensures ∙ number_in-piece bytes 0 4 12 500 (omega arith) in
    let provided = c.read_u64.ensures ∙ number_in-piece bytes 0 8 16 496 (omega arith) in
    let flags = c.read_u32-2.ensures ∙ number_in-piece bytes 0 4 24 488 (omega arith) in
    let recalc_sector = c.read_u64-2.ensures ∙ number_in-piece bytes 0 8 32 480 (omega arith) in
    rw (tag_size, sections, provided, flags, recalc_sector, c.copy_from_slice.ensures.after) refl
