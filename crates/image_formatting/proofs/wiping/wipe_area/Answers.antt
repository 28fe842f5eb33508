use Rattle.std.proofs.Common.{◌≡◌, ℕ, ◌*◌, ap, arith}
use Rattle.std.proofs.lemmas.Result.{on_ok_weaker}
use Rattle.disk_model.specs.Disk.{Content}
use Rattle.disk_model.specs.Identity.{DiskIdentity}
use Rattle.image_model.specs.declared.byte_place.BytePlace.{BytePlace}
use Rattle.image_model.specs.Geometry.{Shape}
use Rattle.image_model.specs.Entries.{IsWithin}
use Rattle.formatting_model.specs.Blocks.{IsSectorOf}
use Rattle.formatting_model.proofs.RunsLemmas.{changes_then}
use Rattle.formatting_model.proofs.WipingLemmas.{area_data, area_now, area_tags, blocks_few, data_inside, tags_before_data}
use Rattle.formatting_model.specs.Stays.{IsBlockByte, IsRunByte}
use Rattle.formatting_model.proofs.StaysLemmas.{data_byte_of, keep_changes, keep_then, keep_wider, tag_byte_of}
use Rattle.formatting_model.specs.Written.{IsOfBlocks, IsOfTagRun, IsZeroWithin}
use Rattle.formatting_model.proofs.WrittenLemmas.{data_written, tags_written, writes_then, writes_wider}
use Rattle.image_formatting.proofs.wiping.wipe_area.Goals as goal

pub write_tags-requires-clause-run : goal.write_tags-requires-clause-run
write_tags-requires-clause-run g c =
    let geometry = c.args.geometry.now in
    let before = tags_before_data geometry _ c.args.first c.args.count c.requires.geometry c.requires.run in
    let inside = data_inside geometry _ c.args.first c.args.count c.requires.geometry c.requires.run in
    let at = ap (λ (x : BytePlace). x.sector) c.tag_at-tags_at.ensures in
    let size : c.args.count * c.shape-shape.result.tag ≡ c.args.count * geometry.shape.tag_size = ap (λ (x : Shape). c.args.count * x.tag_size) c.shape-shape.ensures.shape in
    record { inside = omega (arith, before, inside, at, size); few = c.requires.geometry.device }

pub write_tags-requires-clause-blocks : goal.write_tags-requires-clause-blocks
write_tags-requires-clause-blocks g c =
    let few = blocks_few c.args.geometry.now _ c.requires.geometry in
    omega (arith, few, c.requires.run.inside)

pub returns-in_err-write_tags-clause-moments : goal.returns-in_err-write_tags-clause-moments
returns-in_err-write_tags-clause-moments g c =
    area_tags c.args.geometry.now _ c.args.first c.args.count _ _ c.requires.geometry c.requires.run (ap (λ (x : BytePlace). x.sector) c.tag_at-tags_at.ensures) (ap (λ (x : Shape). x.tag_size) c.shape-shape.ensures.shape) c.write_tags.ensures.moments

pub overflow_mul-count : goal.overflow_mul-count
overflow_mul-count g c =
    let geometry = c.args.geometry.now in
    let inside = data_inside geometry _ c.args.first c.args.count c.requires.geometry c.requires.run in
    let spb : c.args.count * c.shape-shape.result.spb ≡ c.args.count * geometry.shape.spb = ap (λ (x : Shape). c.args.count * x.spb) c.shape-shape.ensures.shape in
    omega (arith, inside, spb, c.requires.geometry.device)

pub write_zeros-requires-clause-zeros : goal.write_zeros-requires-clause-zeros
write_zeros-requires-clause-zeros g c = record { sectors = 512; some = omega arith; is = c.requires.zeros }

pub write_zeros-requires-clause-run : goal.write_zeros-requires-clause-run
write_zeros-requires-clause-run g c =
    let geometry = c.args.geometry.now in
    let inside = data_inside geometry _ c.args.first c.args.count c.requires.geometry c.requires.run in
    let spb : c.args.count * c.shape-shape.result.spb ≡ c.args.count * geometry.shape.spb = ap (λ (x : Shape). c.args.count * x.spb) c.shape-shape.ensures.shape in
    let same = ap (λ (d : DiskIdentity). d.sectors) c.write_tags.ensures.identity in
    omega (arith, inside, spb, same, c.data_at-data_at.ensures)

pub returns-clause-wiped : goal.returns-clause-wiped
returns-clause-wiped g c =
    let at = ap (λ (x : BytePlace). x.sector) c.tag_at-tags_at.ensures in
    let spb = ap (λ (x : Shape). x.spb) c.shape-shape.ensures.shape in
    on_ok_weaker c.write_zeros.result (λ zeros. area_now c.args.maker.now c.args.geometry.now _ c.args.first c.args.count c.requires.size c.requires.geometry c.requires.run
    (rw (at, spb) at c.in_ok-write_tags.ensures.tags) (rw (c.data_at-data_at.ensures, spb) at c.write_zeros.ensures.moments) (rw (c.data_at-data_at.ensures, spb) at zeros)) c.write_zeros.ensures.written

pub returns-clause-moments : goal.returns-clause-moments
returns-clause-moments g c =
    changes_then (IsSectorOf c.args.geometry.now c.args.first c.args.count)
    (area_tags c.args.geometry.now _ c.args.first c.args.count _ _ c.requires.geometry c.requires.run (ap (λ (x : BytePlace). x.sector) c.tag_at-tags_at.ensures) (ap (λ (x : Shape). x.tag_size) c.shape-shape.ensures.shape) c.write_tags.ensures.moments)
    (area_data c.args.geometry.now _ c.args.first c.args.count _ _ c.requires.geometry c.requires.run c.data_at-data_at.ensures (ap (λ (x : Shape). x.spb) c.shape-shape.ensures.shape) c.write_zeros.ensures.moments)

pub returns-clause-stays : goal.returns-clause-stays
returns-clause-stays g c =
    let geometry = c.args.geometry.now in
    let at = ap (λ (x : BytePlace). x.sector) c.tag_at-tags_at.ensures in
    let size = ap (λ (x : Shape). x.tag_size) c.shape-shape.ensures.shape in
    let spb = ap (λ (x : Shape). x.spb) c.shape-shape.ensures.shape in
    on_ok_weaker c.write_zeros.result (λ zeros. keep_then _ _ _ (IsBlockByte geometry c.args.first c.args.count) _ c.write_tags.ensures.moments
    (keep_wider _ _ (IsRunByte c.tag_at-tags_at.result.sector (c.args.count * c.shape-shape.result.tag)) _ (λ s j low of. tag_byte_of geometry _ c.args.first c.args.count _ _ s j c.requires.geometry c.requires.run at size low of) c.in_ok-write_tags.ensures.stays)
    (keep_changes _ _ (IsWithin c.data_at-data_at.result (c.args.count * c.shape-shape.result.spb)) _ (λ s j of. data_byte_of geometry _ c.args.first c.args.count _ _ s j c.requires.geometry c.requires.run c.data_at-data_at.ensures spb of) c.write_zeros.ensures.moments))
    c.write_zeros.ensures.written

pub returns-in_err-write_tags-clause-writes : goal.returns-in_err-write_tags-clause-writes
returns-in_err-write_tags-clause-writes g c =
    let geometry = c.args.geometry.now in
    let size = ap (λ (x : Shape). x.tag_size) c.shape-shape.ensures.shape in
    writes_wider (IsOfTagRun c.tag_at-tags_at.result.sector (c.args.count * c.shape-shape.result.tag)) (IsOfBlocks geometry c.args.first c.args.count)
    (λ start told. tags_written geometry _ c.args.first c.args.count c.tag_at-tags_at.result.sector c.shape-shape.result.tag c.requires.geometry c.requires.run (ap (λ (x : BytePlace). x.sector) c.tag_at-tags_at.ensures) size start) c.write_tags.ensures.writes

pub returns-clause-writes : goal.returns-clause-writes
returns-clause-writes g c =
    let geometry = c.args.geometry.now in
    let size = ap (λ (x : Shape). x.tag_size) c.shape-shape.ensures.shape in
    let spb = ap (λ (x : Shape). x.spb) c.shape-shape.ensures.shape in
    let blocks = IsOfBlocks geometry c.args.first c.args.count in
    let zeros = IsZeroWithin c.data_at-data_at.result (c.args.count * c.shape-shape.result.spb) in
    writes_then blocks (λ (start : Content). zeros)
    (writes_wider (IsOfTagRun c.tag_at-tags_at.result.sector (c.args.count * c.shape-shape.result.tag)) blocks
    (λ start told. tags_written geometry _ c.args.first c.args.count c.tag_at-tags_at.result.sector c.shape-shape.result.tag c.requires.geometry c.requires.run (ap (λ (x : BytePlace). x.sector) c.tag_at-tags_at.ensures) size start) c.write_tags.ensures.writes)
    c.write_zeros.ensures.writes
    (λ start middle told told_middle. data_written geometry _ c.args.first c.args.count c.data_at-data_at.result c.shape-shape.result.spb c.requires.geometry c.requires.run c.data_at-data_at.ensures spb start)
