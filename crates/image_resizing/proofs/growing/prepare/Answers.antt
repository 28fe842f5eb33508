use Rattle.std.proofs.Common.{◌∙◌, subst, refl}
use Rattle.std.proofs.lemmas.Result.{on_ok_weaker}
use Rattle.disk_model.specs.Identity.{DiskIdentity}
use Rattle.resize_model.proofs.CallLemmas.{through_law}
use Rattle.image_resizing.specs.Cleared.{ClearsSectors, StandsClearing, bits_begin, bits_end}
use Rattle.image_resizing.specs.Filled.{FillsBlocks, StandsFilling}
use Rattle.image_resizing.specs.Plan.{added, growth_of}
use Rattle.image_resizing.proofs.FilledLemmas.{IsRead}
use Rattle.image_resizing.proofs.GrownLemmas.{begins, sync_prepares, sync_stands}
use Rattle.image_resizing.proofs.growing.prepare.Goals as goal

pub returns-in_err-fill_blocks-clause-stands : goal.returns-in_err-fill_blocks-clause-stands
returns-in_err-fill_blocks-clause-stands g c image to_grow =
    let disk = g.D.Disk.identity c.args.disk.now in
    let plan = c.args.plan.now in
    let has = begins disk.sectors plan c.requires.plan image (g.D.Disk.moments c.args.disk.now) to_grow in
    c.fill_blocks.ensures.stands image (bits_begin plan) has

pub returns-in_err-tag_blocks-clause-stands : goal.returns-in_err-tag_blocks-clause-stands
returns-in_err-tag_blocks-clause-stands g c image to_grow =
    let sectors = (g.D.Disk.identity c.args.disk.now).sectors in
    let plan = c.args.plan.now in
    let all = added plan in
    let bits = bits_begin plan in
    let has = begins sectors plan c.requires.plan image (g.D.Disk.moments c.args.disk.now) to_grow in
    let first = c.fill_blocks.ensures.stands image bits has in
    let filled = c.in_ok-fill_blocks.ensures.filled image bits has in
    let same = c.fill_blocks.ensures.identity in
    let second = subst (λ (i : DiskIdentity). StandsFilling i.sectors plan all 0 (g.D.Disk.moments c.fill_blocks.new.disk) (g.D.Disk.moments c.tag_blocks.new.disk)) same (c.tag_blocks.ensures.stands all) image bits filled in
    through_law (growth_of sectors plan image) (g.D.Disk.moments c.args.disk.now) (g.D.Disk.moments c.fill_blocks.new.disk) (g.D.Disk.moments c.tag_blocks.new.disk) first second

pub returns-in_err-clear_bits-clause-stands : goal.returns-in_err-clear_bits-clause-stands
returns-in_err-clear_bits-clause-stands g c image to_grow =
    let sectors = (g.D.Disk.identity c.args.disk.now).sectors in
    let plan = c.args.plan.now in
    let all = added plan in
    let bits = bits_begin plan in
    let has = begins sectors plan c.requires.plan image (g.D.Disk.moments c.args.disk.now) to_grow in
    let first = c.fill_blocks.ensures.stands image bits has in
    let filled = c.in_ok-fill_blocks.ensures.filled image bits has in
    let same = c.fill_blocks.ensures.identity in
    let second = subst (λ (i : DiskIdentity). StandsFilling i.sectors plan all 0 (g.D.Disk.moments c.fill_blocks.new.disk) (g.D.Disk.moments c.tag_blocks.new.disk)) same (c.tag_blocks.ensures.stands all) image bits filled in
    let tagged = subst (λ (i : DiskIdentity). FillsBlocks i.sectors plan all 0 all all (g.D.Disk.moments c.fill_blocks.new.disk) (g.D.Disk.moments c.tag_blocks.new.disk)) same (c.in_ok-tag_blocks.ensures.tagged all) image bits filled in
    let same_then = c.tag_blocks.ensures.identity ∙ same in
    let third = subst (λ (i : DiskIdentity). StandsClearing i.sectors plan bits (g.D.Disk.moments c.tag_blocks.new.disk) (g.D.Disk.moments c.clear_bits.new.disk)) same_then c.clear_bits.ensures.stands image all tagged in
    let w = growth_of sectors plan image in
    through_law w (g.D.Disk.moments c.args.disk.now) (g.D.Disk.moments c.fill_blocks.new.disk) (g.D.Disk.moments c.clear_bits.new.disk) first
    (through_law w (g.D.Disk.moments c.fill_blocks.new.disk) (g.D.Disk.moments c.tag_blocks.new.disk) (g.D.Disk.moments c.clear_bits.new.disk) second third)

pub returns-clause-stands : goal.returns-clause-stands
returns-clause-stands g c image to_grow =
    let sectors = (g.D.Disk.identity c.args.disk.now).sectors in
    let plan = c.args.plan.now in
    let all = added plan in
    let bits = bits_begin plan in
    let has = begins sectors plan c.requires.plan image (g.D.Disk.moments c.args.disk.now) to_grow in
    let first = c.fill_blocks.ensures.stands image bits has in
    let filled = c.in_ok-fill_blocks.ensures.filled image bits has in
    let same = c.fill_blocks.ensures.identity in
    let second = subst (λ (i : DiskIdentity). StandsFilling i.sectors plan all 0 (g.D.Disk.moments c.fill_blocks.new.disk) (g.D.Disk.moments c.tag_blocks.new.disk)) same (c.tag_blocks.ensures.stands all) image bits filled in
    let tagged = subst (λ (i : DiskIdentity). FillsBlocks i.sectors plan all 0 all all (g.D.Disk.moments c.fill_blocks.new.disk) (g.D.Disk.moments c.tag_blocks.new.disk)) same (c.in_ok-tag_blocks.ensures.tagged all) image bits filled in
    let same_then = c.tag_blocks.ensures.identity ∙ same in
    let third = subst (λ (i : DiskIdentity). StandsClearing i.sectors plan bits (g.D.Disk.moments c.tag_blocks.new.disk) (g.D.Disk.moments c.clear_bits.new.disk)) same_then c.clear_bits.ensures.stands image all tagged in
    let cleared = subst (λ (i : DiskIdentity). ClearsSectors i.sectors plan bits (bits_end plan) (g.D.Disk.moments c.tag_blocks.new.disk) (g.D.Disk.moments c.clear_bits.new.disk)) same_then c.in_ok-clear_bits.ensures.cleared image all tagged in
    let read : IsRead sectors (g.D.Disk.moments c.clear_bits.new.disk) =
    subst (λ (i : DiskIdentity). IsRead i.sectors (g.D.Disk.moments c.clear_bits.new.disk)) (c.clear_bits.ensures.identity ∙ same_then)
    (record { image = g.met.D.Disk.reads_an_image c.clear_bits.new.disk; whole = g.met.D.Disk.whole_sectors c.clear_bits.new.disk }) in
    let fourth = sync_stands sectors plan c.requires.plan image all (bits_end plan) (g.D.Disk.moments c.clear_bits.new.disk) (g.D.Disk.moments c.sync.new.self) cleared read c.sync.ensures.moments in
    let w = growth_of sectors plan image in
    through_law w (g.D.Disk.moments c.args.disk.now) (g.D.Disk.moments c.fill_blocks.new.disk) (g.D.Disk.moments c.sync.new.self) first
    (through_law w (g.D.Disk.moments c.fill_blocks.new.disk) (g.D.Disk.moments c.tag_blocks.new.disk) (g.D.Disk.moments c.sync.new.self) second
    (through_law w (g.D.Disk.moments c.tag_blocks.new.disk) (g.D.Disk.moments c.clear_bits.new.disk) (g.D.Disk.moments c.sync.new.self) third fourth))

pub returns-clause-prepared : goal.returns-clause-prepared
returns-clause-prepared g c = on_ok_weaker c.sync.result (λ synced image to_grow.
    let sectors = (g.D.Disk.identity c.args.disk.now).sectors in
    let plan = c.args.plan.now in
    let all = added plan in
    let bits = bits_begin plan in
    let has = begins sectors plan c.requires.plan image (g.D.Disk.moments c.args.disk.now) to_grow in
    let filled = c.in_ok-fill_blocks.ensures.filled image bits has in
    let same = c.fill_blocks.ensures.identity in
    let tagged = subst (λ (i : DiskIdentity). FillsBlocks i.sectors plan all 0 all all (g.D.Disk.moments c.fill_blocks.new.disk) (g.D.Disk.moments c.tag_blocks.new.disk)) same (c.in_ok-tag_blocks.ensures.tagged all) image bits filled in
    let same_then = c.tag_blocks.ensures.identity ∙ same in
    let cleared = subst (λ (i : DiskIdentity). ClearsSectors i.sectors plan bits (bits_end plan) (g.D.Disk.moments c.tag_blocks.new.disk) (g.D.Disk.moments c.clear_bits.new.disk)) same_then c.in_ok-clear_bits.ensures.cleared image all tagged in
    let read : IsRead sectors (g.D.Disk.moments c.clear_bits.new.disk) =
    subst (λ (i : DiskIdentity). IsRead i.sectors (g.D.Disk.moments c.clear_bits.new.disk)) (c.clear_bits.ensures.identity ∙ same_then)
    (record { image = g.met.D.Disk.reads_an_image c.clear_bits.new.disk; whole = g.met.D.Disk.whole_sectors c.clear_bits.new.disk }) in
    sync_prepares sectors plan c.requires.plan image all (bits_end plan) (g.D.Disk.moments c.clear_bits.new.disk) (g.D.Disk.moments c.sync.new.self) cleared read synced c.sync.ensures.moments refl refl)
    c.sync.ensures.synced
