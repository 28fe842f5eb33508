use Rattle.std.proofs.Common.{◌≡◌, ◌+◌, ◌*◌, ◌-◌, ◌∙◌, ap, arith}
use Rattle.commit_id.specs.Shape.{as_shape}
use Rattle.commit_id.proofs.ShapeLemmas.{shape_holds}
use Rattle.image_model.specs.Section.{entry_from}
use Rattle.image_model.specs.Sectors.{number_in}
use Rattle.image_model.proofs.SectorLemmas.{number_in-piece}
use Rattle.journal_section.proofs.ShapeLemmas.{entry_low}
use Rattle.journal_section.proofs.ViewLemmas.{view_of-none, view_of-some}
use Rattle.journal_section.proofs.entries.entry.Goals as goal

pub returns-then-read_u32 : goal.returns-then-read_u32
returns-then-read_u32 c =
    let shape = as_shape c.args.shape in
    let meta = c.args.meta.now in
    let is = c.entry_from-from.ensures.place in
    let from = c.entry_from-from.result + 4 in
    let word = c.read_u32.ensures ∙ number_in-piece meta 0 4 from _ (omega arith)
    ∙ ap (λ at. number_in meta at 4) (let place : from + 0 ≡ entry_from shape c.args.n + 4 = omega arith in place) in
    λ bytes front. view_of-none shape meta bytes c.args.n c.read_u32.result (shape_holds c.args.shape c.requires.shape).2
    (entry_low c.args.shape c.args.n c.requires.shape c.requires.n) front word (omega arith)

pub returns : goal.returns
returns c =
    let shape = as_shape c.args.shape in
    let meta = c.args.meta.now in
    let is = c.entry_from-from.ensures.place in
    let start = c.entry_from-from.result in
    let from = start + 4 in
    let tag_from = start + c.tag_from.result in
    let told = c.tag_from.ensures in
    let word = c.read_u32.ensures ∙ number_in-piece meta 0 4 from _ (omega arith)
    ∙ ap (λ at. number_in meta at 4) (let place : from + 0 ≡ entry_from shape c.args.n + 4 = omega arith in place) in
    let sector = c.read_u64.ensures ∙ number_in-piece meta 0 8 start _ (omega arith)
    ∙ ap (λ at. number_in meta at 8) (let place : start + 0 ≡ entry_from shape c.args.n = omega arith in place) in
    let size : tag_from + c.args.shape.tag - tag_from ≡ c.args.shape.tag = omega arith in
    let place : tag_from ≡ entry_from shape c.args.n + 8 + 8 * c.args.shape.spb = omega arith in
    let tag = rw (size, place) at c.from_bytes.ensures in
    let used = c.if-read_u32.false in
    λ bytes front. view_of-some shape meta bytes c.from_bytes.result c.args.n c.read_u32.result c.read_u64.result (shape_holds c.args.shape c.requires.shape).2
    (entry_low c.args.shape c.args.n c.requires.shape c.requires.n) front word used sector tag
