use Rattle.std.proofs.Common.{ℕ, Option, List, sym, subst}
use Rattle.std.proofs.lemmas.Result.{err_from_is_err_and}
use Rattle.disk_model.proofs.MomentsLemmas.{EachMoment-kept}
use Rattle.device_model.specs.Mode.{Journal}
use Rattle.hmac_tag.specs.TagMaker.{key_of}
use Rattle.image_format.specs.declared.reading.ImageFormat.{ImageFormat}
use Rattle.image_format.specs.Format.{disk_format}
use Rattle.judging_model.specs.Faults.{fault_of}
use Rattle.device_parts.specs.Device.{HasOpened}
use Rattle.journal_device.specs.declared.parts.JournalParts.{JournalParts}
use Rattle.journal_device.specs.Device.{in_journal}
use Rattle.device_opening.specs.declared.bitmap_judging.JudgedBitmap.{JudgedBitmap}
use Rattle.device_opening.specs.BitmapOpening.{HasJudgedBitmap}
use Rattle.device_opening.specs.JournalMaking.{LeavesMadeJournal, bitmap_judged}
use Rattle.device_opening.proofs.JournalMakingLemmas.{made_left}
use Rattle.device_opening.proofs.JudgedLemmas.{done_cause, shift}
use Rattle.device_opening.proofs.MadeLemmas.{entry_left_journal, entry_opens}
use Rattle.device_opening.proofs.RefusedLemmas.{disk_refuses, judging_refuses, memory_refuses, open_refuses}
use Rattle.device_opening.proofs.journal.open_made.Goals as goal

pub make_device-requires-clause-judged : goal.make_device-requires-clause-judged
make_device-requires-clause-judged g c = shift (λ i x. HasJudgedBitmap i.sectors c.in_ok-image.image x) (sym c.judge_bitmap.ensures.identity) (sym c.judge_bitmap.ensures.kept) c.in_ok-image.ensures.judged

pub returns-in_err-image-clause-refused : goal.returns-in_err-image-clause-refused
returns-in_err-image-clause-refused g c =
    let p = err_from_is_err_and c.from_residual.result c.from_residual.ensures.1 in
    rw (p.1, p.2) (judging_refuses (fault_of (key_of c.args.hash) c.args.consent (g.D.Disk.identity c.args.disk.now).sectors) (g.D.Disk.moments c.args.disk.now) (g.D.Disk.moments c.judge_bitmap.new.disk) JudgedBitmap JournalParts c.in_err-image.field-0.0
    c.in_err-image.ensures.refused c.judge_bitmap.ensures.kept)

pub returns-in_err-journal-clause-refused : goal.returns-in_err-journal-clause-refused
returns-in_err-journal-clause-refused g c =
    let p = err_from_is_err_and c.from_residual-in_err-journal.result c.from_residual-in_err-journal.ensures.1 in
    rw (p.1, p.2) (memory_refuses (fault_of (key_of c.args.hash) c.args.consent (g.D.Disk.identity c.args.disk.now).sectors) (g.D.Disk.moments c.args.disk.now) (g.D.Disk.moments c.judge_bitmap.new.disk) JournalParts c.judge_bitmap.ensures.kept)

pub returns-in_err-room-clause-refused : goal.returns-in_err-room-clause-refused
returns-in_err-room-clause-refused g c =
    let p = err_from_is_err_and c.from_residual-in_err-room.result c.from_residual-in_err-room.ensures.1 in
    rw (p.1, p.2) (memory_refuses (fault_of (key_of c.args.hash) c.args.consent (g.D.Disk.identity c.args.disk.now).sectors) (g.D.Disk.moments c.args.disk.now) (g.D.Disk.moments c.judge_bitmap.new.disk) JournalParts c.judge_bitmap.ensures.kept)

pub returns-in_err-device-clause-refused : goal.returns-in_err-device-clause-refused
returns-in_err-device-clause-refused g c =
    let p = err_from_is_err_and c.from_residual-in_err-device.result c.from_residual-in_err-device.ensures.1 in
    rw (p.1, p.2) (disk_refuses (fault_of (key_of c.args.hash) c.args.consent (g.D.Disk.identity c.args.disk.now).sectors) (g.D.Disk.moments c.args.disk.now) (g.D.Disk.moments c.make_device.new.disk) JournalParts (c.in_ok-image.ensures.refused (λ e. cc) (λ e. cc)))

pub returns-clause-refused : goal.returns-clause-refused
returns-clause-refused g c =
    open_refuses (fault_of (key_of c.args.hash) c.args.consent (g.D.Disk.identity c.args.disk.now).sectors) (g.D.Disk.moments c.args.disk.now) (g.D.Disk.moments c.make_device.new.disk) JournalParts c.in_ok-device.device (c.in_ok-image.ensures.refused (λ e. cc) (λ e. cc))

pub returns-clause-cause : goal.returns-clause-cause
returns-clause-cause g c = done_cause _ _ _ _ _ _ c.in_ok-image.ensures.cause c.in_ok-device.ensures.cause

pub returns-in_err-image-clause-left : goal.returns-in_err-image-clause-left
returns-in_err-image-clause-left g c can = record { opens = EachMoment-kept _ c.judge_bitmap.ensures.kept; left = EachMoment-kept _ c.judge_bitmap.ensures.kept }

pub returns-in_err-journal-clause-left : goal.returns-in_err-journal-clause-left
returns-in_err-journal-clause-left g c can = record { opens = EachMoment-kept _ c.judge_bitmap.ensures.kept; left = EachMoment-kept _ c.judge_bitmap.ensures.kept }

pub returns-in_err-room-clause-left : goal.returns-in_err-room-clause-left
returns-in_err-room-clause-left g c can = record { opens = EachMoment-kept _ c.judge_bitmap.ensures.kept; left = EachMoment-kept _ c.judge_bitmap.ensures.kept }

pub returns-in_err-device-clause-left : goal.returns-in_err-device-clause-left
returns-in_err-device-clause-left g c =
    let key = key_of c.args.hash in
    let old = g.D.Disk.identity c.args.disk.now in
    let a = g.D.Disk.moments c.args.disk.now in
    let b = g.D.Disk.moments c.make_device.new.disk in
    let image = c.in_ok-image.image in
    let own : LeavesMadeJournal (disk_format key old.sectors c.args.format) a b =
    subst (λ (k : Option (List ℕ)). LeavesMadeJournal (disk_format k old.sectors c.args.format) a b) c.in_ok-image.ensures.key
    (subst (λ (f : ImageFormat). LeavesMadeJournal (disk_format image.maker.key old.sectors f) a b) c.in_ok-image.ensures.format
    (shift (λ i x. LeavesMadeJournal (bitmap_judged i.sectors image) x b) c.judge_bitmap.ensures.identity c.judge_bitmap.ensures.kept c.make_device.ensures.leaves)) in
    made_left key old c.args.format a b c.requires.found Journal (λ start left set keeps. (entry_opens key old.sectors start left keeps, entry_left_journal key old.sectors start left keeps set)) own

pub returns-clause-left : goal.returns-clause-left
returns-clause-left g c =
    let key = key_of c.args.hash in
    let old = g.D.Disk.identity c.args.disk.now in
    let a = g.D.Disk.moments c.args.disk.now in
    let b = g.D.Disk.moments c.make_device.new.disk in
    let image = c.in_ok-image.image in
    let own : LeavesMadeJournal (disk_format key old.sectors c.args.format) a b =
    subst (λ (k : Option (List ℕ)). LeavesMadeJournal (disk_format k old.sectors c.args.format) a b) c.in_ok-image.ensures.key
    (subst (λ (f : ImageFormat). LeavesMadeJournal (disk_format image.maker.key old.sectors f) a b) c.in_ok-image.ensures.format
    (shift (λ i x. LeavesMadeJournal (bitmap_judged i.sectors image) x b) c.judge_bitmap.ensures.identity c.judge_bitmap.ensures.kept c.make_device.ensures.leaves)) in
    made_left key old c.args.format a b c.requires.found Journal (λ start left set keeps. (entry_opens key old.sectors start left keeps, entry_left_journal key old.sectors start left keeps set)) own

pub returns-in_err-device-clause-writes : goal.returns-in_err-device-clause-writes
returns-in_err-device-clause-writes g c =
    let key = key_of c.args.hash in
    let old = g.D.Disk.identity c.args.disk.now in
    let a = g.D.Disk.moments c.args.disk.now in
    let b = g.D.Disk.moments c.make_device.new.disk in
    let image = c.in_ok-image.image in
    let own : LeavesMadeJournal (disk_format key old.sectors c.args.format) a b =
    subst (λ (k : Option (List ℕ)). LeavesMadeJournal (disk_format k old.sectors c.args.format) a b) c.in_ok-image.ensures.key
    (subst (λ (f : ImageFormat). LeavesMadeJournal (disk_format image.maker.key old.sectors f) a b) c.in_ok-image.ensures.format
    (shift (λ i x. LeavesMadeJournal (bitmap_judged i.sectors image) x b) c.judge_bitmap.ensures.identity c.judge_bitmap.ensures.kept c.make_device.ensures.leaves)) in
    own.writes

pub returns-clause-writes : goal.returns-clause-writes
returns-clause-writes g c =
    let key = key_of c.args.hash in
    let old = g.D.Disk.identity c.args.disk.now in
    let a = g.D.Disk.moments c.args.disk.now in
    let b = g.D.Disk.moments c.make_device.new.disk in
    let image = c.in_ok-image.image in
    let own : LeavesMadeJournal (disk_format key old.sectors c.args.format) a b =
    subst (λ (k : Option (List ℕ)). LeavesMadeJournal (disk_format k old.sectors c.args.format) a b) c.in_ok-image.ensures.key
    (subst (λ (f : ImageFormat). LeavesMadeJournal (disk_format image.maker.key old.sectors f) a b) c.in_ok-image.ensures.format
    (shift (λ i x. LeavesMadeJournal (bitmap_judged i.sectors image) x b) c.judge_bitmap.ensures.identity c.judge_bitmap.ensures.kept c.make_device.ensures.leaves)) in
    own.writes

pub returns-clause-opened : goal.returns-clause-opened
returns-clause-opened g c =
    let old = g.D.Disk.identity c.args.disk.now in
    let b = g.D.Disk.moments c.make_device.new.disk in
    subst (λ (k : Option (List ℕ)). HasOpened in_journal Journal k old c.in_ok-device.device (g.D.Disk.moments c.args.disk.now) b) c.in_ok-image.ensures.key
    (shift (λ i x. HasOpened in_journal Journal c.in_ok-image.image.maker.key i c.in_ok-device.device x b) c.judge_bitmap.ensures.identity c.judge_bitmap.ensures.kept c.in_ok-device.ensures.opened)
