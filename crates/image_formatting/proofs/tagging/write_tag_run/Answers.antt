use Rattle.std.proofs.Common.{◌≡◌, ℕ, ◌*◌, ◌/◌, ◌∙◌, ap, sym, arith, length}
use Rattle.std.proofs.lemmas.List.{length-replicate, length-take-le}
use Rattle.std.proofs.lemmas.Result.{on_ok_weaker}
use Rattle.commit_id.proofs.ShapeLemmas.{shape_holds}
use Rattle.disk_model.specs.Disk.{IsOfRun}
use Rattle.disk_model.proofs.MomentsLemmas.{adds_told, write_adds}
use Rattle.image_model.specs.Geometry.{quotient_up}
use Rattle.image_model.specs.Entries.{IsWithin}
use Rattle.formatting_model.proofs.RunsLemmas.{part_of_zeros, write_changes}
use Rattle.formatting_model.proofs.TaggingLemmas.{sectors_are, tag_run_written}
use Rattle.formatting_model.proofs.StaysLemmas.{behind_keeps}
use Rattle.formatting_model.specs.Written.{IsOfTagRun}
use Rattle.formatting_model.proofs.WrittenLemmas.{run_written}
use Rattle.image_formatting.proofs.tagging.write_tag_run.Goals as goal

pub slice_bounds-put_tags-end : goal.slice_bounds-put_tags-end
slice_bounds-put_tags-end g c =
    let few = (shape_holds c.args.shape c.requires.makes.shape_).1 in
    sym (ap length (part_of_zeros 512 c.args.shape.spb _ c.requires.makes.zeros_ (omega (arith, few))) ∙ length-replicate {A = ℕ} (512 * c.args.shape.spb) 0)

pub put_tags-requires-clause-zeros : goal.put_tags-requires-clause-zeros
put_tags-requires-clause-zeros g c =
    let few = (shape_holds c.args.shape c.requires.makes.shape_).1 in
    part_of_zeros 512 c.args.shape.spb _ c.requires.makes.zeros_ (omega (arith, few))

pub returns-clause-tags : goal.returns-clause-tags
returns-clause-tags g c =
    let multiple = c.next_multiple_of.ensures in
    let whole = sectors_are (c.args.count * c.args.shape.tag) c.next_multiple_of.result (c.args.shape.tag * (512 / c.args.shape.tag)) multiple.lower_bound multiple.upper_bound (omega (arith, multiple.multiple)) (omega (arith, c.requires.fits, c.requires.makes.room)) in
    let long : length c.put_tags.new.bytes ≡ 512 * quotient_up (c.args.count * c.args.shape.tag) 512 =
    c.put_tags.ensures.len ∙ c.read_behind.ensures.len ∙ length-take-le c.next_multiple_of.result c.args.tags.now (omega (arith, whole.1, c.requires.makes.room)) ∙ whole.0 in
    on_ok_weaker c.write_run.result (λ written. tag_run_written _ _ c.args.maker.now c.args.shape.spb c.args.first c.args.count c.args.at c.args.shape.tag c.put_tags.new.bytes
    c.requires.makes.size c.put_tags.ensures.tags (omega (arith, long)) written) c.write_run.ensures.written

pub returns-clause-moments : goal.returns-clause-moments
returns-clause-moments g c =
    let multiple = c.next_multiple_of.ensures in
    let whole = sectors_are (c.args.count * c.args.shape.tag) c.next_multiple_of.result (c.args.shape.tag * (512 / c.args.shape.tag)) multiple.lower_bound multiple.upper_bound (omega (arith, multiple.multiple)) (omega (arith, c.requires.fits, c.requires.makes.room)) in
    let long : length c.put_tags.new.bytes ≡ 512 * quotient_up (c.args.count * c.args.shape.tag) 512 =
    c.put_tags.ensures.len ∙ c.read_behind.ensures.len ∙ length-take-le c.next_multiple_of.result c.args.tags.now (omega (arith, whole.1, c.requires.makes.room)) ∙ whole.0 in
    rw c.read_behind.ensures.kept at (write_changes (IsWithin c.args.at (quotient_up (c.args.count * c.args.shape.tag) 512)) c.args.at c.put_tags.new.bytes (λ s low high. (low, omega (arith, high, long))) c.write_run.ensures.moments)

pub returns-clause-stays : goal.returns-clause-stays
returns-clause-stays g c =
    let multiple = c.next_multiple_of.ensures in
    let whole = sectors_are (c.args.count * c.args.shape.tag) c.next_multiple_of.result (c.args.shape.tag * (512 / c.args.shape.tag)) multiple.lower_bound multiple.upper_bound (omega (arith, multiple.multiple)) (omega (arith, c.requires.fits, c.requires.makes.room)) in
    let long : length c.put_tags.new.bytes ≡ 512 * quotient_up (c.args.count * c.args.shape.tag) 512 =
    c.put_tags.ensures.len ∙ c.read_behind.ensures.len ∙ length-take-le c.next_multiple_of.result c.args.tags.now (omega (arith, whole.1, c.requires.makes.room)) ∙ whole.0 in
    let size = c.args.count * c.args.shape.tag in
    on_ok_weaker c.write_run.result (λ written. behind_keeps _ _ c.args.at size c.put_tags.new.bytes
    (λ p high low start told. c.put_tags.ensures.behind p high ∙ c.in_ok-read_behind.ensures.behind p (omega (arith, high)) (omega (arith, low, c.put_tags.ensures.len, c.read_behind.ensures.len)) start told)
    (omega (arith, long)) (rw c.read_behind.ensures.kept at written)) c.write_run.ensures.written

pub returns-clause-writes : goal.returns-clause-writes
returns-clause-writes g c =
    let multiple = c.next_multiple_of.ensures in
    let whole = sectors_are (c.args.count * c.args.shape.tag) c.next_multiple_of.result (c.args.shape.tag * (512 / c.args.shape.tag)) multiple.lower_bound multiple.upper_bound (omega (arith, multiple.multiple)) (omega (arith, c.requires.fits, c.requires.makes.room)) in
    let long : length c.put_tags.new.bytes ≡ 512 * quotient_up (c.args.count * c.args.shape.tag) 512 =
    c.put_tags.ensures.len ∙ c.read_behind.ensures.len ∙ length-take-le c.next_multiple_of.result c.args.tags.now (omega (arith, whole.1, c.requires.makes.room)) ∙ whole.0 in
    let size = c.args.count * c.args.shape.tag in
    adds_told (IsOfTagRun c.args.at size) (IsOfRun c.args.at c.put_tags.new.bytes)
    (run_written _ c.args.at size c.put_tags.new.bytes
    (λ p high low start told. c.put_tags.ensures.behind p high ∙ c.in_ok-read_behind.ensures.behind p (omega (arith, high)) (omega (arith, low, c.put_tags.ensures.len, c.read_behind.ensures.len)) start told) long)
    (rw c.read_behind.ensures.kept at (write_adds (IsOfRun c.args.at c.put_tags.new.bytes) c.args.at c.put_tags.new.bytes c.write_run.ensures.moments (λ s x of. of)))
