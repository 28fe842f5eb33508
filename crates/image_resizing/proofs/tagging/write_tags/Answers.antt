use Rattle.std.proofs.Common.{◌≡◌, ℕ, [], ◌+◌, ◌*◌, ◌%◌, ◌∙◌, ap, sym, subst, arith, refl, length, List}
use Rattle.std.proofs.lemmas.List.{length-replicate, length-take-le}
use Rattle.std.proofs.lemmas.Result.{on_ok_weaker}
use Rattle.disk_model.specs.Disk.{AddsSome, Content, IsRun, with_run}
use Rattle.disk_model.specs.Identity.{DiskIdentity}
use Rattle.disk_model.specs.Moments.{EachSince, IsChangedBy}
use Rattle.image_model.specs.declared.byte_place.BytePlace.{BytePlace}
use Rattle.image_model.specs.Geometry.{Geometry, Shape, quotient_up}
use Rattle.image_model.proofs.Regions.{blocks-low}
use Rattle.image_resizing.specs.Filled.{HasReadAround, StandsFilling}
use Rattle.image_resizing.proofs.FilledLemmas.{IsRead, stands_still, take-zeros}
use Rattle.image_resizing.proofs.PlanLemmas.{plan_places}
use Rattle.image_resizing.proofs.TaggedLemmas.{run_blocks, run_end, run_from, run_is, run_lies, run_row, run_rule, run_some, run_writes, tags_fills, tags_stands}
use Rattle.image_resizing.proofs.tagging.write_tags.Goals as goal

pub overflow_add-first : goal.overflow_add-first
overflow_add-first g c =
    let low = blocks-low c.args.plan.now.grown.geometry _ c.requires.plan.grown.geometry in
    omega (arith, c.requires.row.inside, low, c.blocks-2.ensures.blocks)

pub overflow_mul-end : goal.overflow_mul-end
overflow_mul-end g c =
    let plan = c.args.plan.now in
    let sectors = (g.D.Disk.identity c.args.disk.now).sectors in
    let first = c.blocks-2.result + c.args.done in
    let at = c.tag_at-at.result.sector in
    let from = c.tag_at-at.result.byte in
    let size = c.shape-shape.result.tag in
    let first_is : first ≡ plan.present.geometry.blocks + c.args.done = ap (λ (n : ℕ). n + c.args.done) c.blocks-2.ensures.blocks in
    let at_is = ap (λ (x : BytePlace). x.sector) c.tag_at-at.ensures in
    let from_is = ap (λ (x : BytePlace). x.byte) c.tag_at-at.ensures in
    let size_is = ap (λ (x : Shape). x.tag_size) c.shape-shape.ensures.shape in
    let low = (run_end sectors plan c.requires.plan c.args.done c.args.count first at from size (length c.args.tags.now) 0 first_is c.requires.row at_is from_is size_is c.requires.whole c.requires.fits) in omega (arith, low, c.requires.whole)

pub overflow_add-end : goal.overflow_add-end
overflow_add-end g c =
    let plan = c.args.plan.now in
    let sectors = (g.D.Disk.identity c.args.disk.now).sectors in
    let first = c.blocks-2.result + c.args.done in
    let at = c.tag_at-at.result.sector in
    let from = c.tag_at-at.result.byte in
    let size = c.shape-shape.result.tag in
    let first_is : first ≡ plan.present.geometry.blocks + c.args.done = ap (λ (n : ℕ). n + c.args.done) c.blocks-2.ensures.blocks in
    let at_is = ap (λ (x : BytePlace). x.sector) c.tag_at-at.ensures in
    let from_is = ap (λ (x : BytePlace). x.byte) c.tag_at-at.ensures in
    let size_is = ap (λ (x : Shape). x.tag_size) c.shape-shape.ensures.shape in
    let low = (run_end sectors plan c.requires.plan c.args.done c.args.count first at from size (length c.args.tags.now) 0 first_is c.requires.row at_is from_is size_is c.requires.whole c.requires.fits) in omega (arith, low, c.requires.whole)

pub slice_bounds-run-end : goal.slice_bounds-run-end
slice_bounds-run-end g c =
    let plan = c.args.plan.now in
    let sectors = (g.D.Disk.identity c.args.disk.now).sectors in
    let first = c.blocks-2.result + c.args.done in
    let at = c.tag_at-at.result.sector in
    let from = c.tag_at-at.result.byte in
    let size = c.shape-shape.result.tag in
    let first_is : first ≡ plan.present.geometry.blocks + c.args.done = ap (λ (n : ℕ). n + c.args.done) c.blocks-2.ensures.blocks in
    let at_is = ap (λ (x : BytePlace). x.sector) c.tag_at-at.ensures in
    let from_is = ap (λ (x : BytePlace). x.byte) c.tag_at-at.ensures in
    let size_is = ap (λ (x : Shape). x.tag_size) c.shape-shape.ensures.shape in
    let multiple = c.next_multiple_of.result in
    let bounds = c.next_multiple_of.ensures in
    let multiple_whole : multiple % 512 ≡ 0 = omega (arith, bounds.multiple) in
    (run_is sectors plan c.requires.plan c.args.done c.args.count first at from size (length c.args.tags.now) multiple first_is c.requires.row at_is from_is size_is c.requires.whole c.requires.fits bounds.lower_bound bounds.upper_bound multiple_whole).1

pub read_around-requires-clause-from : goal.read_around-requires-clause-from
read_around-requires-clause-from g c =
    let plan = c.args.plan.now in
    let sectors = (g.D.Disk.identity c.args.disk.now).sectors in
    let first = c.blocks-2.result + c.args.done in
    let at = c.tag_at-at.result.sector in
    let from = c.tag_at-at.result.byte in
    let size = c.shape-shape.result.tag in
    let first_is : first ≡ plan.present.geometry.blocks + c.args.done = ap (λ (n : ℕ). n + c.args.done) c.blocks-2.ensures.blocks in
    let at_is = ap (λ (x : BytePlace). x.sector) c.tag_at-at.ensures in
    let from_is = ap (λ (x : BytePlace). x.byte) c.tag_at-at.ensures in
    let size_is = ap (λ (x : Shape). x.tag_size) c.shape-shape.ensures.shape in
    (run_from sectors plan c.requires.plan c.args.done c.args.count first at from size (length c.args.tags.now) 0 first_is c.requires.row at_is from_is size_is c.requires.whole c.requires.fits)

pub read_around-requires-clause-end : goal.read_around-requires-clause-end
read_around-requires-clause-end g c =
    let plan = c.args.plan.now in
    let sectors = (g.D.Disk.identity c.args.disk.now).sectors in
    let first = c.blocks-2.result + c.args.done in
    let at = c.tag_at-at.result.sector in
    let from = c.tag_at-at.result.byte in
    let size = c.shape-shape.result.tag in
    let first_is : first ≡ plan.present.geometry.blocks + c.args.done = ap (λ (n : ℕ). n + c.args.done) c.blocks-2.ensures.blocks in
    let at_is = ap (λ (x : BytePlace). x.sector) c.tag_at-at.ensures in
    let from_is = ap (λ (x : BytePlace). x.byte) c.tag_at-at.ensures in
    let size_is = ap (λ (x : Shape). x.tag_size) c.shape-shape.ensures.shape in
    (run_some sectors plan c.requires.plan c.args.done c.args.count first at from size (length c.args.tags.now) 0 first_is c.requires.row at_is from_is size_is c.requires.whole c.requires.fits)

pub read_around-requires-clause-run : goal.read_around-requires-clause-run
read_around-requires-clause-run g c =
    let plan = c.args.plan.now in
    let sectors = (g.D.Disk.identity c.args.disk.now).sectors in
    let first = c.blocks-2.result + c.args.done in
    let at = c.tag_at-at.result.sector in
    let from = c.tag_at-at.result.byte in
    let size = c.shape-shape.result.tag in
    let first_is : first ≡ plan.present.geometry.blocks + c.args.done = ap (λ (n : ℕ). n + c.args.done) c.blocks-2.ensures.blocks in
    let at_is = ap (λ (x : BytePlace). x.sector) c.tag_at-at.ensures in
    let from_is = ap (λ (x : BytePlace). x.byte) c.tag_at-at.ensures in
    let size_is = ap (λ (x : Shape). x.tag_size) c.shape-shape.ensures.shape in
    let multiple = c.next_multiple_of.result in
    let bounds = c.next_multiple_of.ensures in
    let multiple_whole : multiple % 512 ≡ 0 = omega (arith, bounds.multiple) in
    length-take-le multiple c.args.tags.now (run_is sectors plan c.requires.plan c.args.done c.args.count first at from size (length c.args.tags.now) multiple first_is c.requires.row at_is from_is size_is c.requires.whole c.requires.fits bounds.lower_bound bounds.upper_bound multiple_whole).1 ∙ (run_is sectors plan c.requires.plan c.args.done c.args.count first at from size (length c.args.tags.now) multiple first_is c.requires.row at_is from_is size_is c.requires.whole c.requires.fits bounds.lower_bound bounds.upper_bound multiple_whole).0

pub read_around-requires-clause-inside : goal.read_around-requires-clause-inside
read_around-requires-clause-inside g c =
    let plan = c.args.plan.now in
    let sectors = (g.D.Disk.identity c.args.disk.now).sectors in
    let first = c.blocks-2.result + c.args.done in
    let at = c.tag_at-at.result.sector in
    let from = c.tag_at-at.result.byte in
    let size = c.shape-shape.result.tag in
    let first_is : first ≡ plan.present.geometry.blocks + c.args.done = ap (λ (n : ℕ). n + c.args.done) c.blocks-2.ensures.blocks in
    let at_is = ap (λ (x : BytePlace). x.sector) c.tag_at-at.ensures in
    let from_is = ap (λ (x : BytePlace). x.byte) c.tag_at-at.ensures in
    let size_is = ap (λ (x : Shape). x.tag_size) c.shape-shape.ensures.shape in
    let multiple = c.next_multiple_of.result in
    let bounds = c.next_multiple_of.ensures in
    let multiple_whole : multiple % 512 ≡ 0 = omega (arith, bounds.multiple) in
    run_lies sectors plan c.requires.plan c.args.done c.args.count first at from size (length c.args.tags.now) multiple first_is c.requires.row at_is from_is size_is c.requires.whole c.requires.fits bounds.lower_bound bounds.upper_bound multiple_whole _ (length-take-le multiple c.args.tags.now (run_is sectors plan c.requires.plan c.args.done c.args.count first at from size (length c.args.tags.now) multiple first_is c.requires.row at_is from_is size_is c.requires.whole c.requires.fits bounds.lower_bound bounds.upper_bound multiple_whole).1)

pub slice_bounds-block-end : goal.slice_bounds-block-end
slice_bounds-block-end g c =
    let plan = c.args.plan.now in
    let sectors = (g.D.Disk.identity c.args.disk.now).sectors in
    let first = c.blocks-2.result + c.args.done in
    let at = c.tag_at-at.result.sector in
    let from = c.tag_at-at.result.byte in
    let size = c.shape-shape.result.tag in
    let first_is : first ≡ plan.present.geometry.blocks + c.args.done = ap (λ (n : ℕ). n + c.args.done) c.blocks-2.ensures.blocks in
    let at_is = ap (λ (x : BytePlace). x.sector) c.tag_at-at.ensures in
    let from_is = ap (λ (x : BytePlace). x.byte) c.tag_at-at.ensures in
    let size_is = ap (λ (x : Shape). x.tag_size) c.shape-shape.ensures.shape in
    let spb = c.shape-shape.result.spb in
    let spb_is : spb ≡ plan.present.geometry.shape.spb = ap (λ (x : Shape). x.spb) c.shape-shape.ensures.shape ∙ ap (λ (y : Geometry). y.shape.spb) (plan_places sectors plan c.requires.plan (λ sector. [])) in
    let most = c.requires.plan.present.geometry.spb.1 in
    sym (ap length (take-zeros c.args.zeros.now spb (512 * spb) c.requires.zeros (omega (arith, spb_is, most)) refl) ∙ length-replicate {A = ℕ} (512 * spb) 0)

pub put_tags_from-requires-clause-size : goal.put_tags_from-requires-clause-size
put_tags_from-requires-clause-size g c =
    let plan = c.args.plan.now in
    let sectors = (g.D.Disk.identity c.args.disk.now).sectors in
    let first = c.blocks-2.result + c.args.done in
    let at = c.tag_at-at.result.sector in
    let from = c.tag_at-at.result.byte in
    let size = c.shape-shape.result.tag in
    let first_is : first ≡ plan.present.geometry.blocks + c.args.done = ap (λ (n : ℕ). n + c.args.done) c.blocks-2.ensures.blocks in
    let at_is = ap (λ (x : BytePlace). x.sector) c.tag_at-at.ensures in
    let from_is = ap (λ (x : BytePlace). x.byte) c.tag_at-at.ensures in
    let size_is = ap (λ (x : Shape). x.tag_size) c.shape-shape.ensures.shape in
    (run_rule sectors plan c.requires.plan c.args.done c.args.count first at from size (length c.args.tags.now) 0 first_is c.requires.row at_is from_is size_is c.requires.whole c.requires.fits)

pub put_tags_from-requires-clause-zeros : goal.put_tags_from-requires-clause-zeros
put_tags_from-requires-clause-zeros g c =
    let plan = c.args.plan.now in
    let sectors = (g.D.Disk.identity c.args.disk.now).sectors in
    let first = c.blocks-2.result + c.args.done in
    let at = c.tag_at-at.result.sector in
    let from = c.tag_at-at.result.byte in
    let size = c.shape-shape.result.tag in
    let first_is : first ≡ plan.present.geometry.blocks + c.args.done = ap (λ (n : ℕ). n + c.args.done) c.blocks-2.ensures.blocks in
    let at_is = ap (λ (x : BytePlace). x.sector) c.tag_at-at.ensures in
    let from_is = ap (λ (x : BytePlace). x.byte) c.tag_at-at.ensures in
    let size_is = ap (λ (x : Shape). x.tag_size) c.shape-shape.ensures.shape in
    let spb = c.shape-shape.result.spb in
    let spb_is : spb ≡ plan.present.geometry.shape.spb = ap (λ (x : Shape). x.spb) c.shape-shape.ensures.shape ∙ ap (λ (y : Geometry). y.shape.spb) (plan_places sectors plan c.requires.plan (λ sector. [])) in
    let most = c.requires.plan.present.geometry.spb.1 in take-zeros c.args.zeros.now spb (512 * spb) c.requires.zeros (omega (arith, spb_is, most)) refl

pub put_tags_from-requires-clause-blocks : goal.put_tags_from-requires-clause-blocks
put_tags_from-requires-clause-blocks g c =
    let plan = c.args.plan.now in
    let sectors = (g.D.Disk.identity c.args.disk.now).sectors in
    let first = c.blocks-2.result + c.args.done in
    let at = c.tag_at-at.result.sector in
    let from = c.tag_at-at.result.byte in
    let size = c.shape-shape.result.tag in
    let first_is : first ≡ plan.present.geometry.blocks + c.args.done = ap (λ (n : ℕ). n + c.args.done) c.blocks-2.ensures.blocks in
    let at_is = ap (λ (x : BytePlace). x.sector) c.tag_at-at.ensures in
    let from_is = ap (λ (x : BytePlace). x.byte) c.tag_at-at.ensures in
    let size_is = ap (λ (x : Shape). x.tag_size) c.shape-shape.ensures.shape in
    (run_blocks sectors plan c.requires.plan c.args.done c.args.count first at from size (length c.args.tags.now) 0 first_is c.requires.row at_is from_is size_is c.requires.whole c.requires.fits)

pub put_tags_from-requires-clause-run : goal.put_tags_from-requires-clause-run
put_tags_from-requires-clause-run g c =
    let plan = c.args.plan.now in
    let sectors = (g.D.Disk.identity c.args.disk.now).sectors in
    let first = c.blocks-2.result + c.args.done in
    let at = c.tag_at-at.result.sector in
    let from = c.tag_at-at.result.byte in
    let size = c.shape-shape.result.tag in
    let first_is : first ≡ plan.present.geometry.blocks + c.args.done = ap (λ (n : ℕ). n + c.args.done) c.blocks-2.ensures.blocks in
    let at_is = ap (λ (x : BytePlace). x.sector) c.tag_at-at.ensures in
    let from_is = ap (λ (x : BytePlace). x.byte) c.tag_at-at.ensures in
    let size_is = ap (λ (x : Shape). x.tag_size) c.shape-shape.ensures.shape in
    let multiple = c.next_multiple_of.result in
    let bounds = c.next_multiple_of.ensures in
    let multiple_whole : multiple % 512 ≡ 0 = omega (arith, bounds.multiple) in
    omega (arith, bounds.lower_bound, c.read_around.ensures.len, length-take-le multiple c.args.tags.now (run_is sectors plan c.requires.plan c.args.done c.args.count first at from size (length c.args.tags.now) multiple first_is c.requires.row at_is from_is size_is c.requires.whole c.requires.fits bounds.lower_bound bounds.upper_bound multiple_whole).1)

pub write_run-requires-clause-run : goal.write_run-requires-clause-run
write_run-requires-clause-run g c =
    let plan = c.args.plan.now in
    let sectors = (g.D.Disk.identity c.args.disk.now).sectors in
    let first = c.blocks-2.result + c.args.done in
    let at = c.tag_at-at.result.sector in
    let from = c.tag_at-at.result.byte in
    let size = c.shape-shape.result.tag in
    let first_is : first ≡ plan.present.geometry.blocks + c.args.done = ap (λ (n : ℕ). n + c.args.done) c.blocks-2.ensures.blocks in
    let at_is = ap (λ (x : BytePlace). x.sector) c.tag_at-at.ensures in
    let from_is = ap (λ (x : BytePlace). x.byte) c.tag_at-at.ensures in
    let size_is = ap (λ (x : Shape). x.tag_size) c.shape-shape.ensures.shape in
    let multiple = c.next_multiple_of.result in
    let bounds = c.next_multiple_of.ensures in
    let multiple_whole : multiple % 512 ≡ 0 = omega (arith, bounds.multiple) in
    let run_long : length c.put_tags_from.new.run ≡ multiple = c.put_tags_from.ensures.len ∙ c.read_around.ensures.len ∙ length-take-le multiple c.args.tags.now (run_is sectors plan c.requires.plan c.args.done c.args.count first at from size (length c.args.tags.now) multiple first_is c.requires.row at_is from_is size_is c.requires.whole c.requires.fits bounds.lower_bound bounds.upper_bound multiple_whole).1 in
    subst (λ (i : DiskIdentity). IsRun at (length c.put_tags_from.new.run) i.sectors) (sym c.read_around.ensures.identity) (run_writes sectors plan c.requires.plan c.args.done c.args.count first at from size (length c.args.tags.now) multiple first_is c.requires.row at_is from_is size_is c.requires.whole c.requires.fits bounds.lower_bound bounds.upper_bound multiple_whole c.put_tags_from.new.run run_long)

pub returns-in_err-read_around-clause-stands : goal.returns-in_err-read_around-clause-stands
returns-in_err-read_around-clause-stands g c written =
    let plan = c.args.plan.now in
    let sectors = (g.D.Disk.identity c.args.disk.now).sectors in
    let first = c.blocks-2.result + c.args.done in
    let at = c.tag_at-at.result.sector in
    let from = c.tag_at-at.result.byte in
    let size = c.shape-shape.result.tag in
    let first_is : first ≡ plan.present.geometry.blocks + c.args.done = ap (λ (n : ℕ). n + c.args.done) c.blocks-2.ensures.blocks in
    let at_is = ap (λ (x : BytePlace). x.sector) c.tag_at-at.ensures in
    let from_is = ap (λ (x : BytePlace). x.byte) c.tag_at-at.ensures in
    let size_is = ap (λ (x : Shape). x.tag_size) c.shape-shape.ensures.shape in
    subst (λ (x : List Content). StandsFilling sectors plan written c.args.done (g.D.Disk.moments c.args.disk.now) x) (sym c.read_around.ensures.kept) (stands_still sectors plan (g.D.Disk.moments c.args.disk.now) written c.args.done)

pub returns-clause-stands : goal.returns-clause-stands
returns-clause-stands g c written =
    let plan = c.args.plan.now in
    let sectors = (g.D.Disk.identity c.args.disk.now).sectors in
    let first = c.blocks-2.result + c.args.done in
    let at = c.tag_at-at.result.sector in
    let from = c.tag_at-at.result.byte in
    let size = c.shape-shape.result.tag in
    let first_is : first ≡ plan.present.geometry.blocks + c.args.done = ap (λ (n : ℕ). n + c.args.done) c.blocks-2.ensures.blocks in
    let at_is = ap (λ (x : BytePlace). x.sector) c.tag_at-at.ensures in
    let from_is = ap (λ (x : BytePlace). x.byte) c.tag_at-at.ensures in
    let size_is = ap (λ (x : Shape). x.tag_size) c.shape-shape.ensures.shape in
    let spb = c.shape-shape.result.spb in
    let spb_is : spb ≡ plan.present.geometry.shape.spb = ap (λ (x : Shape). x.spb) c.shape-shape.ensures.shape ∙ ap (λ (y : Geometry). y.shape.spb) (plan_places sectors plan c.requires.plan (λ sector. [])) in
    let multiple = c.next_multiple_of.result in
    let bounds = c.next_multiple_of.ensures in
    let multiple_whole : multiple % 512 ≡ 0 = omega (arith, bounds.multiple) in
    let run_long : length c.put_tags_from.new.run ≡ multiple = c.put_tags_from.ensures.len ∙ c.read_around.ensures.len ∙ length-take-le multiple c.args.tags.now (run_is sectors plan c.requires.plan c.args.done c.args.count first at from size (length c.args.tags.now) multiple first_is c.requires.row at_is from_is size_is c.requires.whole c.requires.fits bounds.lower_bound bounds.upper_bound multiple_whole).1 in
    let a = g.D.Disk.moments c.args.disk.now in
    let b = g.D.Disk.moments c.write_run.new.self in
    let run = c.put_tags_from.new.run in
    let read : IsRead sectors a = record { image = g.met.D.Disk.reads_an_image c.args.disk.now; whole = g.met.D.Disk.whole_sectors c.args.disk.now } in
    let long : length run ≡ 512 * quotient_up (from + c.args.count * size) 512 = run_long ∙ (run_is sectors plan c.requires.plan c.args.done c.args.count first at from size (length c.args.tags.now) multiple first_is c.requires.row at_is from_is size_is c.requires.whole c.requires.fits bounds.lower_bound bounds.upper_bound multiple_whole).0 in
    let row = (run_row sectors plan c.requires.plan c.args.done c.args.count first at from size (length c.args.tags.now) 0 first_is c.requires.row at_is from_is size_is c.requires.whole c.requires.fits) in
    let around : HasReadAround at from (from + c.args.count * size) run a = λ x told p low other.
    c.put_tags_from.ensures.rest p (omega (arith, low, c.put_tags_from.ensures.len)) other
    ∙ c.in_ok-read_around.ensures.around x told p (omega (arith, low, c.put_tags_from.ensures.len)) other in
    let m : EachSince (AddsSome at run) a b = subst (λ (x : List Content). EachSince (AddsSome at run) x b) c.read_around.ensures.kept c.write_run.ensures.moments in
    tags_stands sectors plan c.requires.plan c.args.done c.args.count first at from spb size first_is row at_is from_is spb_is size_is run long c.put_tags_from.ensures.tags a read around written b m

pub returns-clause-tagged : goal.returns-clause-tagged
returns-clause-tagged g c =
    let plan = c.args.plan.now in
    let sectors = (g.D.Disk.identity c.args.disk.now).sectors in
    let first = c.blocks-2.result + c.args.done in
    let at = c.tag_at-at.result.sector in
    let from = c.tag_at-at.result.byte in
    let size = c.shape-shape.result.tag in
    let first_is : first ≡ plan.present.geometry.blocks + c.args.done = ap (λ (n : ℕ). n + c.args.done) c.blocks-2.ensures.blocks in
    let at_is = ap (λ (x : BytePlace). x.sector) c.tag_at-at.ensures in
    let from_is = ap (λ (x : BytePlace). x.byte) c.tag_at-at.ensures in
    let size_is = ap (λ (x : Shape). x.tag_size) c.shape-shape.ensures.shape in
    let spb = c.shape-shape.result.spb in
    let spb_is : spb ≡ plan.present.geometry.shape.spb = ap (λ (x : Shape). x.spb) c.shape-shape.ensures.shape ∙ ap (λ (y : Geometry). y.shape.spb) (plan_places sectors plan c.requires.plan (λ sector. [])) in
    let multiple = c.next_multiple_of.result in
    let bounds = c.next_multiple_of.ensures in
    let multiple_whole : multiple % 512 ≡ 0 = omega (arith, bounds.multiple) in
    let run_long : length c.put_tags_from.new.run ≡ multiple = c.put_tags_from.ensures.len ∙ c.read_around.ensures.len ∙ length-take-le multiple c.args.tags.now (run_is sectors plan c.requires.plan c.args.done c.args.count first at from size (length c.args.tags.now) multiple first_is c.requires.row at_is from_is size_is c.requires.whole c.requires.fits bounds.lower_bound bounds.upper_bound multiple_whole).1 in
    let a = g.D.Disk.moments c.args.disk.now in
    let b = g.D.Disk.moments c.write_run.new.self in
    let run = c.put_tags_from.new.run in
    let read : IsRead sectors a = record { image = g.met.D.Disk.reads_an_image c.args.disk.now; whole = g.met.D.Disk.whole_sectors c.args.disk.now } in
    let long : length run ≡ 512 * quotient_up (from + c.args.count * size) 512 = run_long ∙ (run_is sectors plan c.requires.plan c.args.done c.args.count first at from size (length c.args.tags.now) multiple first_is c.requires.row at_is from_is size_is c.requires.whole c.requires.fits bounds.lower_bound bounds.upper_bound multiple_whole).0 in
    let row = (run_row sectors plan c.requires.plan c.args.done c.args.count first at from size (length c.args.tags.now) 0 first_is c.requires.row at_is from_is size_is c.requires.whole c.requires.fits) in
    let around : HasReadAround at from (from + c.args.count * size) run a = λ x told p low other.
    c.put_tags_from.ensures.rest p (omega (arith, low, c.put_tags_from.ensures.len)) other
    ∙ c.in_ok-read_around.ensures.around x told p (omega (arith, low, c.put_tags_from.ensures.len)) other in
    let m : EachSince (AddsSome at run) a b = subst (λ (x : List Content). EachSince (AddsSome at run) x b) c.read_around.ensures.kept c.write_run.ensures.moments in
    on_ok_weaker c.write_run.result (λ changed written. tags_fills sectors plan c.requires.plan c.args.done c.args.count first at from spb size first_is row at_is from_is spb_is size_is run long c.put_tags_from.ensures.tags a read around written b m (subst (λ (x : List Content). IsChangedBy (with_run at run) x b) c.read_around.ensures.kept changed)) c.write_run.ensures.written
