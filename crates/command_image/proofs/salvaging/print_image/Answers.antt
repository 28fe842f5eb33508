use Rattle.std.proofs.Common.{◌≡◌, ◌∙◌, inl, refl, sym, ap, subst, arith, ℕ}
use Rattle.disk_model.specs.Disk.{last_image}
use Rattle.run_model.specs.Ending.{NoMemory}
use Rattle.image_format.specs.declared.reading.ImageFormat.{ImageFormat}
use Rattle.image_salvage.specs.Salvaged.{blocks_of, salvaged_format}
use Rattle.image_salvage.proofs.SalvagedLemmas.{blocks_are}
use Rattle.salvage_model.specs.Salvaging.{has_bad}
use Rattle.script_text.specs.Found.{finds_fault}
use Rattle.command_image.specs.Listing.{IsToldTo}
use Rattle.command_image.proofs.SalvagingLemmas.{all_told, cut_between, last_cut, printed_short, told_none}
use Rattle.command_image.proofs.salvaging.print_image.Goals as goal

pub returns-in_default-clause-told : goal.returns-in_default-clause-told
returns-in_default-clause-told g c x told =
    let d = salvaged_format c.args.salvage.now.image (g.D.Disk.identity c.args.salvage.now.disk.now).sectors (last_image x) in
    let held = g.O.Sink.held c.args.out.now in
    printed_short (has_bad d (last_image x)) (cut_between d (last_image x) 0 0 NoMemory held held (inl refl) (omega arith) (told_none d (last_image x) held))

pub returns-in-Ok-put_counts-clause-told : goal.returns-in-Ok-put_counts-clause-told
returns-in-Ok-put_counts-clause-told g c x told =
    let image = c.args.salvage.now.image in
    let disk = g.D.Disk.identity c.args.salvage.now.disk.now in
    let d = salvaged_format image disk.sectors (last_image x) in
    let before = g.O.Sink.held c.args.out.now in
    let mid = g.O.Sink.held c.print_blocks.new.out in
    let kept : c.blocks-2.result ≡ blocks_of image = c.blocks-2.ensures ∙ ap (λ (f : ImageFormat). f.geometry.blocks) c.print_blocks.ensures.same.format in
    all_told d (last_image x) c.in-Ok-print_blocks.bad c.blocks-2.result before mid (g.O.Sink.held c.put_counts.new.out)
    (kept ∙ sym (blocks_are image disk (g.D.Disk.moments c.args.salvage.now.disk.now) c.requires.image x told))
    (subst (λ (n : ℕ). IsToldTo d (last_image x) n c.in-Ok-print_blocks.bad before mid) (sym kept) (c.in-Ok-print_blocks.ensures.told x told))
    (finds_fault c.tags_found.result) c.tags_found.ensures c.in-Ok-put_counts.ensures.line.written

pub returns-clause-told : goal.returns-clause-told
returns-clause-told g c x told =
    let image = c.args.salvage.now.image in
    let disk = g.D.Disk.identity c.args.salvage.now.disk.now in
    let d = salvaged_format image disk.sectors (last_image x) in
    let before = g.O.Sink.held c.args.out.now in
    let mid = g.O.Sink.held c.print_blocks.new.out in
    let kept : c.blocks-2.result ≡ blocks_of image = c.blocks-2.ensures ∙ ap (λ (f : ImageFormat). f.geometry.blocks) c.print_blocks.ensures.same.format in
    last_cut d (last_image x) c.in-Ok-print_blocks.bad c.blocks-2.result before mid (g.O.Sink.held c.put_counts.new.out)
    (kept ∙ sym (blocks_are image disk (g.D.Disk.moments c.args.salvage.now.disk.now) c.requires.image x told))
    (subst (λ (n : ℕ). IsToldTo d (last_image x) n c.in-Ok-print_blocks.bad before mid) (sym kept) (c.in-Ok-print_blocks.ensures.told x told))
    c.in-Err-put_counts.ensures.line.err
