use Rattle.std.proofs.Common.{◌≡◌, List, ℕ, Option, sym, subst, ap, ◌∙◌}
use Rattle.disk_model.specs.Disk.{last_image}
use Rattle.disk_model.specs.Identity.{DiskIdentity}
use Rattle.disk_model.specs.Moments.{content_now}
use Rattle.hmac_tag.specs.TagMaker.{key_of}
use Rattle.image_refusal.specs.declared.open_fault.OpenFault.TheVariants.{Head}
use Rattle.image_refusal.specs.Calls.{with_cause}
use Rattle.salvage_model.specs.Salvaging.{has_bad, salvage_texts}
use Rattle.command_model.specs.Salvaging.{salvage_outset}
use Rattle.image_salvage.specs.Salvaged.{salvaged_format}
use Rattle.place_model.specs.Format.{DiskFormat, format_on}
use Rattle.command_ending.specs.Ended.{ending_of}
use Rattle.command_ending.specs.declared.ended.Ended.{Ended}
use Rattle.command_task.specs.Opening.{HasRunOn}
use Rattle.command_task.specs.Refusing.{ended_by_opening}
use Rattle.command_task.specs.Running.{ending_by}
use Rattle.command_image.specs.Listing.{IsPrintedBy}
use Rattle.command_image.proofs.SalvagingLemmas.{not_salvaged, salvaged}
use Rattle.command_image.proofs.salvaging.salvage_disk.Goals as goal

pub returns-in-Err-clause-runs : goal.returns-in-Err-clause-runs
returns-in-Err-clause-runs g c script start told =
    let key = key_of c.args.hash in
    let disk = g.D.Disk.identity c.args.disk.now in
    let held = g.O.Sink.held c.args.out.now in
    let fault = c.in-Err.refused.fault in
    let kept = ap g.D.Disk.moments c.handed_back-fault.ensures.disk ∙ c.in-Err.ensures.err.kept in
    subst (λ (e : Ended). HasRunOn (salvage_outset key disk.sectors (last_image start)) start script (ending_of e) (g.D.Disk.moments c.handed_back-fault.result.1.now) held held)
    (sym (c.ended_by_opening.ensures ∙ ap ended_by_opening (c.from.ensures ∙ ap (with_cause Head) c.handed_back-fault.ensures.fault)))
    (not_salvaged key disk.sectors start script told kept fault held (λ memory failed. c.in-Err.ensures.refused memory failed start told))

pub returns-in-Ok-clause-runs : goal.returns-in-Ok-clause-runs
returns-in-Ok-clause-runs g c script start told =
    let key = key_of c.args.hash in
    let disk = g.D.Disk.identity c.args.disk.now in
    let image = c.in-Ok.salvage.image in
    let leaves = c.in-Ok.ensures.leaves in
    let kept = ap g.D.Disk.moments c.give_back.ensures.disk ∙ c.print_image.ensures.kept ∙ leaves.kept in
    let told_later = ap content_now leaves.kept ∙ told in
    let own : salvaged_format image (g.D.Disk.identity c.in-Ok.salvage.disk.now).sectors (last_image start) ≡ format_on key disk.sectors (last_image start) =
    ap (λ (d : DiskIdentity). salvaged_format image d.sectors (last_image start)) leaves.identity
    ∙ ap (λ (k : Option (List ℕ)). format_on k disk.sectors (last_image start)) c.in-Ok.ensures.key in
    salvaged key disk.sectors start script told kept (ending_by c.print_image.result) (g.O.Sink.held c.args.out.now) (g.O.Sink.held c.print_image.new.out)
    (c.in-Ok.ensures.accepted start told)
    (subst (λ (d : DiskFormat). IsPrintedBy (salvage_texts d (last_image start)) (has_bad d (last_image start)) (ending_by c.print_image.result) (g.O.Sink.held c.args.out.now) (g.O.Sink.held c.print_image.new.out))
    own (c.print_image.ensures.told start told_later))
