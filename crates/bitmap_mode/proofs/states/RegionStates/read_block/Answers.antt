use Rattle.std.proofs.Common.{◌≡◌, ◌*◌, ◌<◌, inr, ℕ, Bool, sym, ◌∙◌, ap, subst, List, length}
use Rattle.std.proofs.lemmas.Result.{IfOk-weaker, on_ok_weaker}
use Rattle.disk_model.specs.Disk.{Content, Reads}
use Rattle.disk_model.specs.Moments.{HasNow}
use Rattle.image_model.specs.Geometry.{Geometry, IsGeometry, data_at, region_of, regions}
use Rattle.image_model.proofs.Regions.{region_of-lt}
use Rattle.direct_laws.specs.CallLaws.{AddsTags}
use Rattle.bitmap_model.specs.BitmapDisk.{BitmapDisk}
use Rattle.bitmap_laws.specs.EventLaws.{after_read}
use Rattle.bitmap_laws.proofs.ServeLemmas.{tags_kept_law}
use Rattle.recalculation.proofs.RestLemmas.{KeepsRest-then}
use Rattle.tag_store.specs.Store.{Store, given_tags}
use Rattle.bitmap_mode.specs.States.{States}
use Rattle.bitmap_mode.specs.Standing.{StandsAs, StandsWith}
use Rattle.bitmap_mode.specs.Reading.{AddsToRead, HasRead, IsTagToRead, TakesToRead, after_taking, tags_to_read}
use Rattle.bitmap_mode.proofs.ReadingLemmas.{adds_back_then, end_told, read_after, read_before, tags_told}
use Rattle.bitmap_mode.proofs.StandingLemmas.{if_ok_with, turns_at}
use Rattle.bitmap_mode.proofs.states.RegionStates.read_block.Goals as goal

pub take_to_read-requires-clause-region : goal.take_to_read-requires-clause-region
take_to_read-requires-clause-region g c =
    let now = c.args.self.now in
    let is = c.region_of-region.ensures ∙ ap (λ (x : States). region_of x.geometry c.args.block) c.self.view_is in
    subst (λ (r : ℕ). r < regions now.geometry) (sym is) (region_of-lt now.geometry c.args.block c.requires.block.low)

pub returns-in_err-take_to_read-clause-moments : goal.returns-in_err-take_to_read-clause-moments
returns-in_err-take_to_read-clause-moments g c =
    let now = c.args.self.now in
    let is = c.region_of-region.ensures ∙ ap (λ (x : States). region_of x.geometry c.args.block) c.self.view_is in
    subst (λ (r : ℕ). AddsToRead c.args.maker.now now r c.args.tags.now (g.D.Disk.moments c.args.disk.now) (g.D.Disk.moments c.take_to_read.new.disk)) is c.take_to_read.ensures.moments

pub returns-clause-read : goal.returns-clause-read
returns-clause-read g c = on_ok_weaker c.read_cell.result (λ reads.
    let now = c.args.self.now in
    let before = g.D.Disk.moments c.args.disk.now in
    let middle = g.D.Disk.moments c.take_to_read.new.disk in
    let there = c.take_to_read.ensures.stays.tags ∙ c.requires.fits.same in
    let out = c.read_cell.new.out in
    let size : length out ≡ 512 * now.geometry.shape.spb = c.read_cell.auto.out ∙ c.requires.block.size in
    read_before now.geometry (g.D.Disk.identity c.args.disk.now).sectors c.args.block out
    (subst (λ (y : Geometry). IsGeometry y (g.D.Disk.identity c.args.disk.now).sectors) c.requires.fits.same c.requires.fits.store_.geometry) c.requires.block.low size before middle c.in_ok-take_to_read.ensures.taken.others
    (λ x told. end_told x c.take_to_read.ensures.moments told)
    (subst (λ (y : Geometry). HasNow (Reads (data_at y c.args.block) out) middle) there reads)) c.read_cell.ensures.read

pub returns-clause-tag : goal.returns-clause-tag
returns-clause-tag g c =
    let now = c.args.self.now in
    let before = g.D.Disk.moments c.args.disk.now in
    let middle = g.D.Disk.moments c.take_to_read.new.disk in
    let is = c.region_of-region.ensures ∙ ap (λ (x : States). region_of x.geometry c.args.block) c.self.view_is in
    let rule = c.args.maker.now in
    let store = c.args.tags.now in
    let taken = subst (λ (r : ℕ). TakesToRead rule now r store c.take_to_read.new.tags before middle) is c.in_ok-take_to_read.ensures.taken in
    IfOk-weaker c.read_cell.result (λ tag. HasNow (λ x. tag ≡ given_tags c.take_to_read.new.tags x c.args.block) middle)
    (λ tag. IsTagToRead rule now c.args.block store tag before)
    (λ tag tag_is x told. let last = end_told x c.take_to_read.ensures.moments told in tag_is last.0 last.1 ∙ taken.gives x told last.0 last.1 c.args.block c.requires.block.low)
    c.read_cell.ensures.tag

-- The disk after the read, before the block is read.
read_first : (d : BitmapDisk) (marked : ℕ → Bool) (region block : ℕ) (now new : States) (last : Store) (m : List Content) → d.geometry ≡ now.geometry → region ≡ region_of now.geometry block
    → StandsAs (after_taking d region) marked new last m → StandsAs (after_read d block) marked new last m
read_first d marked region block now new last m there is stands =
    subst (λ (r : ℕ). StandsAs (after_taking d r) marked new last m) (is ∙ ap (λ (y : Geometry). region_of y block) (sym there)) stands

pub returns-clause-through : goal.returns-clause-through
returns-clause-through g c d marked stands =
    let now = c.args.self.now in
    let middle = g.D.Disk.moments c.take_to_read.new.disk in
    let after = g.D.Disk.moments c.read_cell.new.disk in
    let then_ = c.take_to_read.new.tags in
    let is = c.region_of-region.ensures ∙ ap (λ (x : States). region_of x.geometry c.args.block) c.self.view_is in
    let first = read_first d marked c.region_of-region.result c.args.block now c.take_to_read.new.self then_ middle (stands.stands.geometry ∙ c.requires.fits.same) is
    (c.in_ok-take_to_read.ensures.stands d marked stands) in
    let kept = tags_kept_law (after_read d c.args.block) then_.geometry marked (given_tags then_) (given_tags c.read_cell.new.tags) middle after first.geometry first.now c.read_cell.ensures.back in
    inr (turns_at d (after_read d c.args.block) marked (c.take_to_read.ensures.through d marked stands) kept.0)

pub returns-clause-cell : goal.returns-clause-cell
returns-clause-cell g c =
    let now = c.args.self.now in
    let before = g.D.Disk.moments c.args.disk.now in
    let middle = g.D.Disk.moments c.take_to_read.new.disk in
    let after = g.D.Disk.moments c.read_cell.new.disk in
    let then_ = c.take_to_read.new.tags in
    let block = c.args.block in
    let out = c.read_cell.new.out in
    let back = c.read_cell.ensures.back in
    let there = c.take_to_read.ensures.stays.tags ∙ c.requires.fits.same in
    let is = c.region_of-region.ensures ∙ ap (λ (x : States). region_of x.geometry block) c.self.view_is in
    let low = subst (λ (y : Geometry). block < y.blocks) (sym there) c.requires.block.low in
    let size = subst (λ (y : Geometry). length out ≡ 512 * y.shape.spb) (sym there) (c.read_cell.auto.out ∙ c.requires.block.size) in
    if_ok_with c.read_cell.result (λ tag. HasNow (λ x. tag ≡ given_tags then_ x block) middle)
    (λ tag. (d : BitmapDisk) (marked : ℕ → Bool) → StandsWith d marked c.args.maker.now now c.args.tags.now before
    → HasRead d marked block out tag c.take_to_read.new.self c.read_cell.new.tags before after)
    (λ tag reads tag_is d marked stands.
    let first = read_first d marked c.region_of-region.result block now c.take_to_read.new.self then_ middle (stands.stands.geometry ∙ c.requires.fits.same) is
    (c.in_ok-take_to_read.ensures.stands d marked stands) in
    let kept = tags_kept_law (after_read d block) then_.geometry marked (given_tags then_) (given_tags c.read_cell.new.tags) middle after first.geometry first.now back in
    record {
      through = turns_at d (after_read d block) marked (c.take_to_read.ensures.through d marked stands) kept.0;
      stands = record { geometry = first.geometry ∙ sym c.read_cell.ensures.geometry; regions_ = first.regions_; now = kept.1 };
      reads = subst (λ (y : Geometry). HasNow (Reads (data_at y block) out) after) (c.take_to_read.ensures.stays.tags ∙ sym stands.stands.geometry)
          (read_after then_.geometry (g.D.Disk.identity c.take_to_read.new.disk).sectors block out c.take_to_read.ensures.stays.store_.geometry low size middle after back.others
          (λ x told. tags_told then_.geometry (given_tags then_) (given_tags then_) x back.adds told) reads);
      tag_ = λ x told.
          let start = tags_told then_.geometry (given_tags then_) (given_tags then_) x back.adds told in
          tag_is start.0 start.1 ∙ sym (back.gives start.0 start.1 x told block low);
    }) c.read_cell.ensures.read c.read_cell.ensures.tag

pub returns-clause-moments : goal.returns-clause-moments
returns-clause-moments g c =
    let now = c.args.self.now in
    let before = g.D.Disk.moments c.args.disk.now in
    let middle = g.D.Disk.moments c.take_to_read.new.disk in
    let after = g.D.Disk.moments c.read_cell.new.disk in
    let then_ = given_tags c.take_to_read.new.tags in
    let rule = c.args.maker.now in
    let store = c.args.tags.now in
    let is = c.region_of-region.ensures ∙ ap (λ (x : States). region_of x.geometry c.args.block) c.self.view_is in
    let taken = subst (λ (r : ℕ). TakesToRead rule now r store c.take_to_read.new.tags before middle) is c.in_ok-take_to_read.ensures.taken in
    adds_back_then now.geometry (given_tags store) (tags_to_read rule now (region_of now.geometry c.args.block) store) then_
    (subst (λ (r : ℕ). AddsToRead rule now r store before middle) is c.take_to_read.ensures.moments) taken.gives
    (subst (λ (y : Geometry). AddsTags y then_ then_ middle after) (c.take_to_read.ensures.stays.tags ∙ c.requires.fits.same) c.read_cell.ensures.back.adds)

pub returns-clause-rest : goal.returns-clause-rest
returns-clause-rest g c =
    KeepsRest-then c.args.tags.now c.take_to_read.new.tags c.read_cell.new.tags (g.D.Disk.moments c.args.disk.now) (g.D.Disk.moments c.take_to_read.new.disk) (g.D.Disk.moments c.read_cell.new.disk)
    c.take_to_read.ensures.rest c.read_cell.ensures.rest
