use Rattle.std.proofs.Common.{◌≡◌, inr, refl, ap, sym, subst, ◌∙◌}
use Rattle.disk_model.specs.Disk.{last_image}
use Rattle.disk_model.specs.Identity.{DiskIdentity}
use Rattle.disk_model.specs.Moments.{content_now}
use Rattle.run_model.specs.Ending.{Failed}
use Rattle.hmac_tag.specs.TagMaker.{TagRule, key_of}
use Rattle.image_check.specs.Checked.{Checked, IsCheckOf, awaiting_at, bad_in}
use Rattle.image_check.proofs.CheckedLemmas.{awaiting_same}
use Rattle.image_refusal.specs.declared.call_fault.CallFault.TheVariants.{Memory, Disk}
use Rattle.judging_model.proofs.FaultsLemmas.{fault_in-err}
use Rattle.image_format.specs.declared.reading.ImageFormat.{ImageFormat}
use Rattle.command_ending.specs.Ended.{ending_of}
use Rattle.command_ending.specs.declared.ended.Ended.{Ended}
use Rattle.command_image.specs.Listing.{IsListed, IsPrintedShort, lines_in}
use Rattle.command_model.specs.Checking.{check_outset}
use Rattle.command_task.specs.Opening.{HasRunOn}
use Rattle.command_image.proofs.CheckingLemmas.{check_cut, check_untold, check_whole, counts_told, not_checked, unchecked}
use Rattle.command_image.proofs.checking.print_check.Goals as goal
use Rattle.run_model.specs.declared.outer.Outer.TheVariants as outers

pub returns-in-Err-clause-runs : goal.returns-in-Err-clause-runs
returns-in-Err-clause-runs g c script start told =
    let key = key_of c.args.hash in
    let sectors = (g.D.Disk.identity c.args.disk.now).sectors in
    let held = g.O.Sink.held c.args.out.now in
    let fault = c.in-Err.fault in
    subst (λ (e : Ended). HasRunOn (check_outset c.args.what key sectors (last_image start)) start script (ending_of e) (g.D.Disk.moments c.open.new.disk) held held)
    (sym c.ended_by_opening.ensures)
    (not_checked c.args.what key sectors start script told c.open.ensures.kept fault held
    (λ memory disk.
    fault_in-err (Unit {0}) Checked fault
    ∙ c.in-Err.ensures.refused (λ h. memory (let same : fault ≡ Memory = cc in same)) (λ h. disk (let same : fault ≡ Disk = cc in same)) start told))

pub returns-in_default-clause-runs : goal.returns-in_default-clause-runs
returns-in_default-clause-runs g c script start told =
    unchecked c.args.what (key_of c.args.hash) (g.D.Disk.identity c.args.disk.now).sectors start script told (c.count_awaiting.ensures.kept ∙ c.open.ensures.kept)
    (Failed outers.Disk) (g.O.Sink.held c.args.out.now) (inr refl)

pub returns-in-Err-print_bad-clause-runs : goal.returns-in-Err-print_bad-clause-runs
returns-in-Err-print_bad-clause-runs g c script start told =
    let disk = g.D.Disk.identity c.args.disk.now in
    let same = c.count_awaiting.ensures.same in
    let image = c.count_awaiting.new.self in
    let identity = c.count_awaiting.ensures.identity ∙ c.open.ensures.identity in
    let kept = c.count_awaiting.ensures.kept ∙ c.open.ensures.kept in
    let what = same.what ∙ c.in-Ok.ensures.what in
    let key = ap (λ (r : TagRule). r.key) same.rule ∙ c.in-Ok.ensures.key in
    check_cut c.args.what (key_of c.args.hash) disk.sectors start script told (c.print_bad.ensures.kept ∙ kept)
    image what key (c.in-Ok.ensures.refused (λ h. cc) (λ h. cc) start told)
    (ending_of c.in-Err-print_bad.ended) (g.O.Sink.held c.args.out.now) (g.O.Sink.held c.print_bad.new.out)
    (subst (λ (d : DiskIdentity). IsPrintedShort (lines_in image d.sectors (last_image start)) (ending_of c.in-Err-print_bad.ended) (g.O.Sink.held c.args.out.now) (g.O.Sink.held c.print_bad.new.out))
    identity (c.in-Err-print_bad.ensures.cut start (ap content_now kept ∙ told)))

pub returns-in-Ok-put_counts-clause-runs : goal.returns-in-Ok-put_counts-clause-runs
returns-in-Ok-put_counts-clause-runs g c script start told =
    let disk = g.D.Disk.identity c.args.disk.now in
    let same = c.count_awaiting.ensures.same in
    let image = c.count_awaiting.new.self in
    let identity = c.count_awaiting.ensures.identity ∙ c.open.ensures.identity in
    let kept = c.count_awaiting.ensures.kept ∙ c.open.ensures.kept in
    let what = same.what ∙ c.in-Ok.ensures.what in
    let key = ap (λ (r : TagRule). r.key) same.rule ∙ c.in-Ok.ensures.key in
    let told_later = ap content_now kept ∙ told in
    let is = subst (λ (d : DiskIdentity). IsCheckOf image d (g.D.Disk.moments c.count_awaiting.new.disk)) identity c.count_awaiting.ensures.image in
    let awaiting : c.in-Ok-count_awaiting.awaiting ≡ awaiting_at image disk.sectors (last_image start) =
    c.in-Ok-count_awaiting.ensures.awaiting start (ap content_now c.open.ensures.kept ∙ told)
    ∙ ap (λ (d : DiskIdentity). awaiting_at c.in-Ok.image d.sectors (last_image start)) c.open.ensures.identity
    ∙ sym (awaiting_same c.in-Ok.image image disk.sectors (last_image start) same) in
    let listed = subst (λ (d : DiskIdentity). IsListed (bad_in image d.sectors (last_image start)) c.in-Ok-print_bad.bad (g.O.Sink.held c.args.out.now) (g.O.Sink.held c.print_bad.new.out))
    identity (c.in-Ok-print_bad.ensures.listed start told_later) in
    let blocks = c.blocks-2.ensures ∙ ap (λ (f : ImageFormat). f.geometry.blocks) c.print_bad.ensures.format in
    check_whole c.args.what (key_of c.args.hash) disk.sectors start script told (c.print_bad.ensures.kept ∙ kept)
    image what key (c.in-Ok.ensures.refused (λ h. cc) (λ h. cc) start told)
    c.in-Ok-print_bad.bad c.blocks-2.result c.in-Ok-count_awaiting.awaiting (g.O.Sink.held c.args.out.now) (g.O.Sink.held c.print_bad.new.out) (g.O.Sink.held c.put_counts.new.out) listed
    (counts_told image disk (g.D.Disk.moments c.count_awaiting.new.disk) is start told_later c.blocks-2.result c.in-Ok-print_bad.bad c.in-Ok-count_awaiting.awaiting blocks listed.counted awaiting)
    _ c.tags_found.ensures c.in-Ok-put_counts.ensures.line.written

pub returns-clause-runs : goal.returns-clause-runs
returns-clause-runs g c script start told =
    let disk = g.D.Disk.identity c.args.disk.now in
    let same = c.count_awaiting.ensures.same in
    let image = c.count_awaiting.new.self in
    let identity = c.count_awaiting.ensures.identity ∙ c.open.ensures.identity in
    let kept = c.count_awaiting.ensures.kept ∙ c.open.ensures.kept in
    let what = same.what ∙ c.in-Ok.ensures.what in
    let key = ap (λ (r : TagRule). r.key) same.rule ∙ c.in-Ok.ensures.key in
    let told_later = ap content_now kept ∙ told in
    let is = subst (λ (d : DiskIdentity). IsCheckOf image d (g.D.Disk.moments c.count_awaiting.new.disk)) identity c.count_awaiting.ensures.image in
    let awaiting : c.in-Ok-count_awaiting.awaiting ≡ awaiting_at image disk.sectors (last_image start) =
    c.in-Ok-count_awaiting.ensures.awaiting start (ap content_now c.open.ensures.kept ∙ told)
    ∙ ap (λ (d : DiskIdentity). awaiting_at c.in-Ok.image d.sectors (last_image start)) c.open.ensures.identity
    ∙ sym (awaiting_same c.in-Ok.image image disk.sectors (last_image start) same) in
    let listed = subst (λ (d : DiskIdentity). IsListed (bad_in image d.sectors (last_image start)) c.in-Ok-print_bad.bad (g.O.Sink.held c.args.out.now) (g.O.Sink.held c.print_bad.new.out))
    identity (c.in-Ok-print_bad.ensures.listed start told_later) in
    let blocks = c.blocks-2.ensures ∙ ap (λ (f : ImageFormat). f.geometry.blocks) c.print_bad.ensures.format in
    check_untold c.args.what (key_of c.args.hash) disk.sectors start script told (c.print_bad.ensures.kept ∙ kept)
    image what key (c.in-Ok.ensures.refused (λ h. cc) (λ h. cc) start told)
    c.in-Ok-print_bad.bad c.blocks-2.result c.in-Ok-count_awaiting.awaiting (g.O.Sink.held c.args.out.now) (g.O.Sink.held c.print_bad.new.out) (g.O.Sink.held c.put_counts.new.out) listed
    (counts_told image disk (g.D.Disk.moments c.count_awaiting.new.disk) is start told_later c.blocks-2.result c.in-Ok-print_bad.bad c.in-Ok-count_awaiting.awaiting blocks listed.counted awaiting)
    c.in-Err-put_counts.ensures.line.err
