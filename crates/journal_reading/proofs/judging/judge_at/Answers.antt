use Rattle.std.proofs.Common.{ap, ◌∙◌, arith}
use Rattle.disk_model.specs.Disk.{last_image}
use Rattle.disk_model.specs.Moments.{content_now}
use Rattle.image_model.specs.Geometry.{section_sectors}
use Rattle.image_model.specs.Section.{entry_at}
use Rattle.journal_reading.specs.Newest.{newest_in}
use Rattle.journal_reading.proofs.CellsLemmas.{section_bounds, section_inside}
use Rattle.journal_reading.proofs.JudgingLemmas.{judged_at, stays_inside_ok}
use Rattle.journal_reading.proofs.PlacesLemmas.{place-inside}
use Rattle.journal_reading.proofs.judging.judge_at.Goals as goal

pub section_at-at-requires : goal.section_at-at-requires
section_at-at-requires g c = record {
  section = (place-inside c.args.geometry.now c.args.walk.now c.args.number c.entry_place-place.result c.requires.walk c.entry_place-place.ensures).0;
}

pub show-requires-clause-some : goal.show-requires-clause-some
show-requires-clause-some g c =
    let bounds = section_bounds c.args.geometry.now (g.D.Disk.identity c.args.disk.now).sectors c.requires.geometry in
    omega (arith, bounds.0, c.shape-sectors.ensures.is_shape.sectors ∙ ap section_sectors c.shape-sectors.ensures.shape)

pub show-requires-clause-inside : goal.show-requires-clause-inside
show-requires-clause-inside g c =
    let place = place-inside c.args.geometry.now c.args.walk.now c.args.number c.entry_place-place.result c.requires.walk c.entry_place-place.ensures in
    let inside = section_inside c.args.geometry.now (g.D.Disk.identity c.args.disk.now).sectors c.entry_place-place.result.section c.requires.geometry place.0 in
    omega (arith, inside, c.section_at-at.ensures, c.shape-sectors.ensures.is_shape.sectors ∙ ap section_sectors c.shape-sectors.ensures.shape)

pub judge_entry-requires-clause-entry : goal.judge_entry-requires-clause-entry
judge_entry-requires-clause-entry g c =
    (place-inside c.args.geometry.now c.args.walk.now c.args.number c.entry_place-place.result c.requires.walk c.entry_place-place.ensures).1

pub returns-clause-inside : goal.returns-clause-inside
returns-clause-inside g c =
    stays_inside_ok c.args.maker.now.key c.args.maker.now.salt c.args.geometry.now c.entry_place-place.result c.args.number
    (newest_in c.args.newest.now) (newest_in c.judge_entry.new.newest) c.requires.geometry.spb.0 (entry_at c.args.geometry.now.shape c.run.result.now c.entry_place-place.result.entry)
    c.judge_entry.result c.judge_entry.ensures.refused c.judge_entry.ensures.added

pub returns-clause-judged : goal.returns-clause-judged
returns-clause-judged g c content told =
    let G = c.args.geometry.now in
    let read = c.run.ensures.bytes (g.D.Disk.moments c.show.new.disk) c.show.ensures.window content (ap content_now c.show.ensures.kept ∙ told) in
    judged_at c.args.maker.now G (last_image content) c.args.walk.now c.args.number c.entry_place-place.result c.run.result.now
    c.section_at-at.result c.shape-sectors.result.sectors (newest_in c.args.newest.now) (newest_in c.judge_entry.new.newest) c.judge_entry.result
    c.entry_place-place.ensures c.section_at-at.ensures (c.shape-sectors.ensures.is_shape.sectors ∙ ap section_sectors c.shape-sectors.ensures.shape) read
    c.judge_entry.ensures.refused c.judge_entry.ensures.added
