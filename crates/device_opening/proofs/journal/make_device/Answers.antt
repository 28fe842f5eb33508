use Rattle.std.proofs.Common.{◌∙◌, ap, subst}
use Rattle.disk_model.specs.Identity.{DiskIdentity}
use Rattle.image_model.specs.Geometry.{Geometry, Shape}
use Rattle.journal_mode.specs.Journal.{empty_journal}
use Rattle.device_opening.specs.JournalMaking.{IsMadeOf}
use Rattle.device_opening.proofs.MadeOpeningLemmas.{journal_empty, journal_opened}
use Rattle.device_opening.proofs.journal.make_device.Goals as goal

pub returns-clause-opened : goal.returns-clause-opened
returns-clause-opened g c =
    let image = c.in_ok-recovered.recovered in
    journal_opened (g.D.Disk.identity c.args.disk.now) c.args.image (g.D.Disk.moments c.args.disk.now) (g.D.Disk.moments c.make_journal.new.disk) c.requires.judged image c.in_ok-recovered.ensures.made
    (subst (λ (i : DiskIdentity). IsMadeOf c.args.image c.in_ok-recovered.recovered i (g.D.Disk.moments c.make_journal.new.disk)) c.make_journal.ensures.identity c.in_ok-recovered.ensures.kept) c.args.room c.requires.room c.shape-spb.result.spb (ap (λ (x : Shape). x.spb) c.shape-spb.ensures.shape ∙ ap (λ (x : Geometry). x.shape.spb) c.geometry.ensures) c.requires.fits
    c.new.result (c.new.ensures ∙ ap (λ (x : Geometry). empty_journal x image.at.next image.at.number) c.requires.journal)

pub returns-clause-empty : goal.returns-clause-empty
returns-clause-empty g c =
    let image = c.in_ok-recovered.recovered in
    journal_empty (g.D.Disk.identity c.args.disk.now) c.args.image (g.D.Disk.moments c.args.disk.now) (g.D.Disk.moments c.make_journal.new.disk) c.requires.judged image c.in_ok-recovered.ensures.made
    (subst (λ (i : DiskIdentity). IsMadeOf c.args.image c.in_ok-recovered.recovered i (g.D.Disk.moments c.make_journal.new.disk)) c.make_journal.ensures.identity c.in_ok-recovered.ensures.kept) c.args.room c.requires.room c.shape-spb.result.spb (ap (λ (x : Shape). x.spb) c.shape-spb.ensures.shape ∙ ap (λ (x : Geometry). x.shape.spb) c.geometry.ensures) c.requires.fits
    c.new.result (c.new.ensures ∙ ap (λ (x : Geometry). empty_journal x image.at.next image.at.number) c.requires.journal)
