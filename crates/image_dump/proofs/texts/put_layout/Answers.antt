-- The text is its lines, one after the other.
use Rattle.std.proofs.Common.{◌≡◌, ℕ, ◌++◌, codes, ap, ◌∙◌}
use Rattle.std.specs.Fmt.{decimal}
use Rattle.image_model.specs.Geometry.{initial, section_entries, section_sectors}
use Rattle.dump_model.proofs.LinesLemmas.{five_lines, number_put}
use Rattle.image_dump.proofs.texts.put_layout.Goals as goal

pub returns : goal.returns
returns c =
    let g = c.args.geometry.now in
    let shape = c.shape-shape.result in
    let is = c.shape-shape.ensures in
    let entries : ℕ = section_entries g.shape in
    let sectors : ℕ = section_sectors g.shape in
    let entries_are : shape.entries ≡ entries = is.is_shape.entries ∙ ap section_entries is.shape in
    let sectors_are : shape.sectors ≡ sectors = is.is_shape.sectors ∙ ap section_sectors is.shape in
    five_lines c.args.text.now.items c.put_number.new.text.items c.put_number-2.new.text.items
    c.put_number-3.new.text.items c.put_number-4.new.text.items c.put_number-5.new.text.items
    (codes "initial " ++ decimal (initial g)) (codes "tag run " ++ decimal g.tag_run)
    (codes "section entries " ++ decimal entries) (codes "section sectors " ++ decimal sectors)
    (codes "blocks " ++ decimal g.blocks)
    (number_put _ _ (codes "initial ") c.initial.result (initial g)
    c.in_ok-put_number.ensures c.initial.ensures)
    (number_put _ _ (codes "tag run ") c.tag_run.result g.tag_run
    c.in_ok-put_number-2.ensures c.tag_run.ensures)
    (number_put _ _ (codes "section entries ") shape.entries entries c.in_ok-put_number-3.ensures entries_are)
    (number_put _ _ (codes "section sectors ") shape.sectors sectors c.in_ok-put_number-4.ensures sectors_are)
    (number_put _ _ (codes "blocks ") c.blocks-2.result g.blocks
    c.in_ok-put_number-5.ensures c.blocks-2.ensures.blocks)
