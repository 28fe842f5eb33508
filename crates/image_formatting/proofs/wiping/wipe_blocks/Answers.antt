use Rattle.std.proofs.Common.{rules, ◌≡◌, ℕ, ◌+◌, subst, arith}
use Rattle.disk_model.specs.Disk.{last_image}
use Rattle.disk_model.specs.Moments.{HasNow}
use Rattle.formatting_model.specs.Blocks.{HasZeroBlocks, IsSectorOf}
use Rattle.formatting_model.proofs.RunsLemmas.{changes_then, changes_wider}
use Rattle.formatting_model.proofs.WipingLemmas.{area_sector, area_shift, areas_next, next_area}
use Rattle.formatting_model.specs.Stays.{IsBlockByte, ReadsKeep}
use Rattle.formatting_model.proofs.StaysLemmas.{block_byte_of, keep_then, keep_wider}
use Rattle.formatting_model.specs.Written.{IsOfBlocks}
use Rattle.formatting_model.proofs.WrittenLemmas.{blocks_next, writes_then}
use Rattle.image_formatting.proofs.wiping.wipe_blocks.Goals as goal

pub wipe_area-requires-clause-run : goal.wipe_area-requires-clause-run
wipe_area-requires-clause-run g c =
    (next_area c.args.format.now.geometry _ c.loop-first.first c.min-count.result _ c.requires.format.geometry (area_shift _ c.args.format.now c.requires.format) (omega (arith, c.loop-first-test.true, c.blocks-blocks.ensures.blocks))
    c.loop-first.invariant.whole (rw c.blocks-blocks.ensures.blocks at c.min-count.ensures)).0

pub returns-in_err-wipe_area-clause-moments : goal.returns-in_err-wipe_area-clause-moments
returns-in_err-wipe_area-clause-moments g c =
    let geometry = c.args.format.now.geometry in
    let next = next_area geometry _ c.loop-first.first c.min-count.result _ c.requires.format.geometry (area_shift _ c.args.format.now c.requires.format) (omega (arith, c.loop-first-test.true, c.blocks-blocks.ensures.blocks))
    c.loop-first.invariant.whole (rw c.blocks-blocks.ensures.blocks at c.min-count.ensures) in
    changes_then (IsSectorOf geometry 0 geometry.blocks) c.loop-first.invariant.moments
    (changes_wider (IsSectorOf geometry c.loop-first.first c.min-count.result) (IsSectorOf geometry 0 geometry.blocks) (λ s of. area_sector geometry c.loop-first.first c.min-count.result s next.0.inside of) c.wipe_area.ensures.moments)

pub returns-in_err-wipe_area-clause-writes : goal.returns-in_err-wipe_area-clause-writes
returns-in_err-wipe_area-clause-writes g c =
    let geometry = c.args.format.now.geometry in
    let next = next_area geometry _ c.loop-first.first c.min-count.result _ c.requires.format.geometry (area_shift _ c.args.format.now c.requires.format) (omega (arith, c.loop-first-test.true, c.blocks-blocks.ensures.blocks))
    c.loop-first.invariant.whole (rw c.blocks-blocks.ensures.blocks at c.min-count.ensures) in
    writes_then (IsOfBlocks geometry 0 geometry.blocks) (IsOfBlocks geometry c.loop-first.first c.min-count.result) c.loop-first.invariant.writes c.wipe_area.ensures.writes
    (blocks_next _ _ geometry c.loop-first.first c.min-count.result next.0.inside c.loop-first.invariant.stays)

pub loop-first-smaller : goal.loop-first-smaller
loop-first-smaller g c =
    let geometry = c.args.format.now.geometry in
    let next = next_area geometry _ c.loop-first.first c.min-count.result _ c.requires.format.geometry (area_shift _ c.args.format.now c.requires.format) (omega (arith, c.loop-first-test.true, c.blocks-blocks.ensures.blocks))
    c.loop-first.invariant.whole (rw c.blocks-blocks.ensures.blocks at c.min-count.ensures) in
    omega (arith, next.0.some, next.0.inside)

pub loop-first-preserved : goal.loop-first-preserved
loop-first-preserved g c =
    let geometry = c.args.format.now.geometry in
    let next = next_area geometry _ c.loop-first.first c.min-count.result _ c.requires.format.geometry (area_shift _ c.args.format.now c.requires.format) (omega (arith, c.loop-first-test.true, c.blocks-blocks.ensures.blocks))
    c.loop-first.invariant.whole (rw c.blocks-blocks.ensures.blocks at c.min-count.ensures) in
    record {
      low = next.0.inside;
      whole = next.1;
      wiped = areas_next c.args.maker.now geometry _ c.loop-first.first c.min-count.result c.requires.format.geometry next.0 c.loop-first.invariant.wiped c.wipe_area.ensures.moments c.in_ok-wipe_area.ensures.wiped;
      stays = keep_then _ _ _ (IsBlockByte geometry 0 (c.loop-first.first + c.min-count.result)) _ c.loop-first.invariant.moments
          (keep_wider _ _ (IsBlockByte geometry 0 c.loop-first.first) _ (λ s j low of. block_byte_of geometry 0 c.loop-first.first 0 (c.loop-first.first + c.min-count.result) s j (omega arith) (omega arith) of) c.loop-first.invariant.stays)
          (keep_wider _ _ (IsBlockByte geometry c.loop-first.first c.min-count.result) _ (λ s j low of. block_byte_of geometry c.loop-first.first c.min-count.result 0 (c.loop-first.first + c.min-count.result) s j (omega arith) (omega arith) of) c.in_ok-wipe_area.ensures.stays);
      room = search rules;
      identity = search rules;
      faults = search rules;
      moments = changes_then (IsSectorOf geometry 0 geometry.blocks) c.loop-first.invariant.moments
          (changes_wider (IsSectorOf geometry c.loop-first.first c.min-count.result) (IsSectorOf geometry 0 geometry.blocks) (λ s of. area_sector geometry c.loop-first.first c.min-count.result s next.0.inside of) c.wipe_area.ensures.moments);
      writes = writes_then (IsOfBlocks geometry 0 geometry.blocks) (IsOfBlocks geometry c.loop-first.first c.min-count.result) c.loop-first.invariant.writes c.wipe_area.ensures.writes
          (blocks_next _ _ geometry c.loop-first.first c.min-count.result next.0.inside c.loop-first.invariant.stays);
    }

pub returns-clause-wiped : goal.returns-clause-wiped
returns-clause-wiped g c =
    let geometry = c.args.format.now.geometry in
    let all : c.loop-first.first ≡ geometry.blocks = omega (arith, c.loop-first-test.false, c.loop-first.invariant.low, c.blocks-blocks.ensures.blocks) in
    subst (λ (n : ℕ). HasNow (λ x. HasZeroBlocks c.args.maker.now geometry 0 n (last_image x)) (g.D.Disk.moments c.loop-first.disk)) all c.loop-first.invariant.wiped

pub returns-clause-stays : goal.returns-clause-stays
returns-clause-stays g c =
    let geometry = c.args.format.now.geometry in
    let all : c.loop-first.first ≡ geometry.blocks = omega (arith, c.loop-first-test.false, c.loop-first.invariant.low, c.blocks-blocks.ensures.blocks) in
    subst (λ (n : ℕ). ReadsKeep (IsBlockByte geometry 0 n) (g.D.Disk.moments c.args.disk.now) (g.D.Disk.moments c.loop-first.disk)) all c.loop-first.invariant.stays
