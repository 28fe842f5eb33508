use Rattle.std.proofs.Common.{◌≡◌, ℕ, ◌+◌, ◌*◌, ◌∙◌, ap, arith}
use Rattle.commit_id.specs.Shape.{as_shape}
use Rattle.image_model.specs.Sectors.{number_in}
use Rattle.image_model.proofs.SectorLemmas.{number_in-piece}
use Rattle.journal_reading.proofs.UsedLemmas.{is_used_in-word, word_fits}
use Rattle.journal_reading.proofs.used.is_used.Goals as goal

pub overflow_mul-from : goal.overflow_mul-from
overflow_mul-from c = let fits = word_fits c.args.shape c.args.m c.requires.shape c.requires.m in omega arith

pub overflow_add-from : goal.overflow_add-from
overflow_add-from c = let fits = word_fits c.args.shape c.args.m c.requires.shape c.requires.m in omega arith

pub slice_bounds-read_u32-count : goal.slice_bounds-read_u32-count
slice_bounds-read_u32-count c = let fits = word_fits c.args.shape c.args.m c.requires.shape c.requires.m in omega (arith, c.requires.bytes)

pub slice_bounds-read_u32-start : goal.slice_bounds-read_u32-start
slice_bounds-read_u32-start c = let fits = word_fits c.args.shape c.args.m c.requires.shape c.requires.m in omega (arith, c.requires.bytes)

pub read_u32-requires : goal.read_u32-requires
read_u32-requires c = let fits = word_fits c.args.shape c.args.m c.requires.shape c.requires.m in omega (arith, c.requires.bytes)

pub returns : goal.returns
returns c =
    let fits = word_fits c.args.shape c.args.m c.requires.shape c.requires.m in
    let entry = c.requires.shape.entry in
    let bytes = c.args.bytes.now in
    let from = c.args.m * c.args.shape.entry + 4 in
    let start : from + 0 ≡ from = omega arith in
    let word = c.read_u32.ensures ∙ number_in-piece bytes 0 4 from _ (omega (arith, c.requires.bytes)) ∙ ap (λ (at : ℕ). number_in bytes at 4) start
    ∙ ap (λ (size : ℕ). number_in bytes (c.args.m * size + 4) 4) entry in
    is_used_in-word (as_shape c.args.shape) bytes c.args.m c.read_u32.result word
