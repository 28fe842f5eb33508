use Rattle.std.proofs.Common.{◌≡◌, ℕ, min, ◌+◌, ◌-◌, ◌*◌, ◌/◌, ◌%◌, ◌∙◌, ap, subst, refl, arith, length}
use Rattle.image_model.specs.declared.byte_place.BytePlace.{BytePlace}
use Rattle.image_model.specs.Geometry.{Shape, tag_at}
use Rattle.image_model.proofs.Regions.{blocks-low}
use Rattle.image_resizing.specs.Filled.{IsTagRow}
use Rattle.image_resizing.proofs.TaggedLemmas.{count_fits, count_inside, count_row, count_some, from_low}
use Rattle.image_resizing.proofs.tagging.tag_some.Goals as goal

pub overflow_add-first : goal.overflow_add-first
overflow_add-first g c =
    let low = blocks-low c.args.plan.now.grown.geometry _ c.requires.plan.grown.geometry in
    omega (arith, low, c.requires.done, c.blocks-2.ensures.blocks)

pub overflow_sub-room : goal.overflow_sub-room
overflow_sub-room g c =
    let plan = c.args.plan.now in
    let sectors = (g.D.Disk.identity c.args.disk.now).sectors in
    let first = c.blocks-2.result + c.args.done in
    let from = c.tag_at-begin.result.byte in
    let first_is : first ≡ plan.present.geometry.blocks + c.args.done = ap (λ (n : ℕ). n + c.args.done) c.blocks-2.ensures.blocks in
    let from_is = ap (λ (x : BytePlace). x.byte) c.tag_at-begin.ensures in
    let low = from_low sectors plan c.requires.plan c.args.done first c.area_blocks-of_area.result from plan.grown.geometry.shape.tag_size (length c.args.tags.now) ((length c.args.tags.now - from) / plan.grown.geometry.shape.tag_size) 0 first_is c.requires.done c.area_blocks-of_area.ensures from_is refl c.requires.tags refl in
    omega (arith, low, c.requires.tags)

pub write_tags-requires-clause-row : goal.write_tags-requires-clause-row
write_tags-requires-clause-row g c =
    let plan = c.args.plan.now in
    let sectors = (g.D.Disk.identity c.args.disk.now).sectors in
    let first = c.blocks-2.result + c.args.done in
    let from = c.tag_at-begin.result.byte in
    let first_is : first ≡ plan.present.geometry.blocks + c.args.done = ap (λ (n : ℕ). n + c.args.done) c.blocks-2.ensures.blocks in
    let from_is = ap (λ (x : BytePlace). x.byte) c.tag_at-begin.ensures in
    let of_area = c.area_blocks-of_area.result in
    let size = c.shape.result.tag in
    let size_is = ap (λ (x : Shape). x.tag_size) c.shape.ensures.shape in
    let room = (length c.args.tags.now - from) / size in
    let count_is : c.min-count.result ≡ min (min room (of_area - first % of_area)) (plan.grown.geometry.blocks - first) =
    c.min-count.ensures ∙ ap (λ (n : ℕ). min n (c.blocks-3.result - first)) c.min.ensures
    ∙ ap (λ (n : ℕ). min (min room (of_area - first % of_area)) (n - first)) c.blocks-3.ensures.blocks in
    subst (λ (n : ℕ). IsTagRow plan.grown.geometry n c.min-count.result) first_is (count_row sectors plan c.requires.plan c.args.done first of_area from size (length c.args.tags.now) room c.min-count.result first_is c.requires.done c.area_blocks-of_area.ensures from_is size_is c.requires.tags refl count_is)

pub write_tags-requires-clause-fits : goal.write_tags-requires-clause-fits
write_tags-requires-clause-fits g c =
    let plan = c.args.plan.now in
    let sectors = (g.D.Disk.identity c.args.disk.now).sectors in
    let first = c.blocks-2.result + c.args.done in
    let from = c.tag_at-begin.result.byte in
    let first_is : first ≡ plan.present.geometry.blocks + c.args.done = ap (λ (n : ℕ). n + c.args.done) c.blocks-2.ensures.blocks in
    let from_is = ap (λ (x : BytePlace). x.byte) c.tag_at-begin.ensures in
    let of_area = c.area_blocks-of_area.result in
    let size = c.shape.result.tag in
    let size_is = ap (λ (x : Shape). x.tag_size) c.shape.ensures.shape in
    let room = (length c.args.tags.now - from) / size in
    let count_is : c.min-count.result ≡ min (min room (of_area - first % of_area)) (plan.grown.geometry.blocks - first) =
    c.min-count.ensures ∙ ap (λ (n : ℕ). min n (c.blocks-3.result - first)) c.min.ensures
    ∙ ap (λ (n : ℕ). min (min room (of_area - first % of_area)) (n - first)) c.blocks-3.ensures.blocks in
    let fits = count_fits sectors plan c.requires.plan c.args.done first of_area from size (length c.args.tags.now) room c.min-count.result first_is c.requires.done c.area_blocks-of_area.ensures from_is size_is c.requires.tags refl count_is in
    let begins : from ≡ (tag_at plan.grown.geometry (plan.present.geometry.blocks + c.args.done)).byte = from_is ∙ ap (λ (n : ℕ). (tag_at plan.grown.geometry n).byte) first_is in
    let all : c.min-count.result * size ≡ c.min-count.result * plan.grown.geometry.shape.tag_size = ap (λ (n : ℕ). c.min-count.result * n) size_is in
    omega (arith, fits, begins, all)

pub returns-clause-count : goal.returns-clause-count
returns-clause-count g c =
    let plan = c.args.plan.now in
    let sectors = (g.D.Disk.identity c.args.disk.now).sectors in
    let first = c.blocks-2.result + c.args.done in
    let from = c.tag_at-begin.result.byte in
    let first_is : first ≡ plan.present.geometry.blocks + c.args.done = ap (λ (n : ℕ). n + c.args.done) c.blocks-2.ensures.blocks in
    let from_is = ap (λ (x : BytePlace). x.byte) c.tag_at-begin.ensures in
    let of_area = c.area_blocks-of_area.result in
    let size = c.shape.result.tag in
    let size_is = ap (λ (x : Shape). x.tag_size) c.shape.ensures.shape in
    let room = (length c.args.tags.now - from) / size in
    let count_is : c.min-count.result ≡ min (min room (of_area - first % of_area)) (plan.grown.geometry.blocks - first) =
    c.min-count.ensures ∙ ap (λ (n : ℕ). min n (c.blocks-3.result - first)) c.min.ensures
    ∙ ap (λ (n : ℕ). min (min room (of_area - first % of_area)) (n - first)) c.blocks-3.ensures.blocks in
    let inside = count_inside sectors plan c.requires.plan c.args.done first of_area from size (length c.args.tags.now) room c.min-count.result first_is c.requires.done c.area_blocks-of_area.ensures from_is size_is c.requires.tags refl count_is in
    (count_some sectors plan c.requires.plan c.args.done first of_area from size (length c.args.tags.now) room c.min-count.result first_is c.requires.done c.area_blocks-of_area.ensures from_is size_is c.requires.tags refl count_is, omega (arith, inside, first_is))
