use Rattle.std.proofs.Common.{◌≡◌, ℕ, sym, ◌∙◌, ap}
use Rattle.disk_model.specs.Disk.{last_image}
use Rattle.image_model.specs.Geometry.{Geometry, Shape}
use Rattle.journal_mode.specs.Journal.{PlacedRing, empty_journal}
use Rattle.journal_device.specs.declared.parts.JournalParts.{JournalParts}
use Rattle.device_opening.specs.Judged.{judged_format}
use Rattle.device_opening.proofs.JournalLemmas.{open_on}
use Rattle.device_opening.proofs.JudgedLemmas.{parts_of, unasked}
use Rattle.device_opening.proofs.MomentsLemmas.{now_told}
use Rattle.device_opening.proofs.journal.open_judged.Goals as goal

pub returns-clause-opened : goal.returns-clause-opened
returns-clause-opened g c start told =
    let old = c.args.disk.now in
    let new = c.recover_image.new.disk in
    let f = judged_format (g.D.Disk.identity old).sectors c.args.image in
    let image = c.in_ok-recovered.recovered in
    let done = c.in_ok-recovered.ensures in
    let device : JournalParts = record { parts = parts_of image c.args.room.device c.shape-spb.result.spb; state = record { journal = c.new.result; recalculation = c.args.room.recalculation } } in
    let now = now_told c.recover_image.ensures.leaves.writes start told in
    open_on f (last_image start) image.at device (g.D.Disk.moments new) now.0 now.1 c.requires.judged.format.no_bitmap (sym done.made.geometry) (done.recovered.next start told)
    (done.recovered.left start told now.0 now.1)
    (c.new.ensures ∙ ap (λ (x : Geometry). empty_journal x image.at.next image.at.number) c.requires.journal)
    (done.made.maker ∙ c.requires.judged.maker) c.requires.room.recalculation_

pub returns-clause-unasked : goal.returns-clause-unasked
returns-clause-unasked g c =
    unasked c.args.image c.in_ok-recovered.recovered c.args.room.device c.args.room.recalculation c.shape-spb.result.spb (g.D.Disk.identity c.args.disk.now).sectors (g.D.Disk.identity c.recover_image.new.disk)
    c.requires.judged c.requires.room.device c.requires.room.recalculation_
    c.in_ok-recovered.ensures.made (ap (λ (x : Shape). x.spb) c.shape-spb.ensures.shape ∙ ap (λ (x : Geometry). x.shape.spb) c.geometry.ensures)

pub returns-clause-empty : goal.returns-clause-empty
returns-clause-empty g c =
    let image = c.in_ok-recovered.recovered in
    let is : c.new.result ≡ empty_journal image.tags.geometry image.at.next image.at.number =
    c.new.ensures ∙ ap (λ (x : Geometry). empty_journal x image.at.next image.at.number) (c.requires.journal ∙ sym c.in_ok-recovered.ensures.made.geometry) in
    is ∙ ap (λ (n : ℕ). empty_journal image.tags.geometry n image.at.number) (sym (ap (λ (j : PlacedRing). j.ring.next) is))
    ∙ ap (λ (n : ℕ). empty_journal image.tags.geometry c.new.result.ring.next n) (sym (ap (λ (j : PlacedRing). j.ring.number) is))

pub returns-clause-in_place : goal.returns-clause-in_place
returns-clause-in_place g c = c.recover_image.ensures.rest.in_place

pub returns-in_err-recovered-clause-in_place : goal.returns-in_err-recovered-clause-in_place
returns-in_err-recovered-clause-in_place g c = c.recover_image.ensures.rest.in_place
