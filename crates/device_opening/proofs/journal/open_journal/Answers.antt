use Rattle.std.proofs.Common.{sym, ap, ◌∙◌, subst}
use Rattle.std.proofs.lemmas.Result.{err_from_is_err_and}
use Rattle.disk_model.specs.Moments.{EachSince}
use Rattle.device_model.specs.Mode as Model
use Rattle.hmac_tag.specs.TagMaker.{key_of}
use Rattle.judging_model.specs.Faults.{fault_by_format, fault_of}
use Rattle.journal_device.specs.declared.parts.JournalParts.{JournalParts}
use Rattle.change_model.specs.OpeningWrites.{IsOfMadeJournal}
use Rattle.device_opening.specs.Judged.{HasBitmapFormat, HasJournalFormat}
use Rattle.device_opening.specs.Opening.{KeepsRecovered, LeavesOpenable}
use Rattle.place_model.specs.RecoveryWrites.{IsOfOpening}
use Rattle.device_opening.proofs.JudgedLemmas.{shift}
use Rattle.device_opening.proofs.JournalMakingLemmas.{found_closed, found_writes, made_closed, made_writes}
use Rattle.device_opening.proofs.RefusedLemmas.{head_refuses}
use Rattle.device_opening.proofs.journal.open_journal.Goals as goal

pub returns-in_err-format-clause-refused : goal.returns-in_err-format-clause-refused
returns-in_err-format-clause-refused g c =
    let p = err_from_is_err_and c.from_residual.result c.from_residual.ensures.1 in
    let key = key_of c.args.hash in
    let sectors = (g.D.Disk.identity c.args.disk.now).sectors in
    rw (p.1, p.2) (head_refuses (fault_of key c.args.consent sectors) (g.D.Disk.moments c.args.disk.now) (g.D.Disk.moments c.read_format.new.disk) JournalParts sectors
    c.in_err-format.field-0.0 (λ image cause told. ap (fault_by_format key c.args.consent image) told) c.in_err-format.ensures.refused c.read_format.ensures.kept)

pub open_made-requires-clause-found : goal.open_made-requires-clause-found
open_made-requires-clause-found g c =
    shift (λ i x. HasBitmapFormat i.sectors c.in_ok-format.format x) (sym c.read_format.ensures.identity) (sym c.read_format.ensures.kept) (record {
      format_ = record { accepted = c.in_ok-format.ensures.format; bitmap = sym c.has_bitmap.ensures ∙ c.if-has_bitmap.true };
      reads = c.in_ok-format.ensures.reads;
      told = c.in_ok-format.ensures.told;
    })

pub open_found-requires-clause-found : goal.open_found-requires-clause-found
open_found-requires-clause-found g c =
    shift (λ i x. HasJournalFormat i.sectors c.in_ok-format.format x) (sym c.read_format.ensures.identity) (sym c.read_format.ensures.kept) (record {
      format_ = record { accepted = c.in_ok-format.ensures.format; no_bitmap = sym c.has_bitmap.ensures ∙ c.if-has_bitmap.false };
      reads = c.in_ok-format.ensures.reads;
      told = c.in_ok-format.ensures.told;
    })

pub returns-then-has_bitmap-clause-left : goal.returns-then-has_bitmap-clause-left
returns-then-has_bitmap-clause-left g c =
    shift (λ i x. LeavesOpenable Model.Journal (key_of c.args.hash) i.sectors x (g.D.Disk.moments c.open_made.new.disk)) c.read_format.ensures.identity c.read_format.ensures.kept c.open_made.ensures.left

pub returns-else-has_bitmap-clause-left : goal.returns-else-has_bitmap-clause-left
returns-else-has_bitmap-clause-left g c =
    shift (λ i x. LeavesOpenable Model.Journal (key_of c.args.hash) i.sectors x (g.D.Disk.moments c.open_found.new.disk)) c.read_format.ensures.identity c.read_format.ensures.kept c.open_found.ensures.left

pub returns-then-has_bitmap-clause-writes : goal.returns-then-has_bitmap-clause-writes
returns-then-has_bitmap-clause-writes g c =
    let b = g.D.Disk.moments c.open_made.new.disk in
    let format = c.in_ok-format.format in
    made_writes (key_of c.args.hash) (g.D.Disk.identity c.args.disk.now) c.in_ok-format.format (g.D.Disk.moments c.args.disk.now) b
    (record {
      format_ = record { accepted = c.in_ok-format.ensures.format; bitmap = sym c.has_bitmap.ensures ∙ c.if-has_bitmap.true };
      reads = c.in_ok-format.ensures.reads;
      told = c.in_ok-format.ensures.told;
    })
    (subst (λ x. EachSince (IsOfMadeJournal format.fields format.geometry) x b) c.read_format.ensures.kept c.open_made.ensures.writes)

pub returns-else-has_bitmap-clause-writes : goal.returns-else-has_bitmap-clause-writes
returns-else-has_bitmap-clause-writes g c =
    let b = g.D.Disk.moments c.open_found.new.disk in
    let format = c.in_ok-format.format in
    found_writes (key_of c.args.hash) (g.D.Disk.identity c.args.disk.now) c.in_ok-format.format (g.D.Disk.moments c.args.disk.now) b
    (record {
      format_ = record { accepted = c.in_ok-format.ensures.format; no_bitmap = sym c.has_bitmap.ensures ∙ c.if-has_bitmap.false };
      reads = c.in_ok-format.ensures.reads;
      told = c.in_ok-format.ensures.told;
    })
    (subst (λ x. EachSince (IsOfOpening format.geometry) x b) c.read_format.ensures.kept c.open_found.ensures.writes)

pub returns-then-has_bitmap-clause-in_place : goal.returns-then-has_bitmap-clause-in_place
returns-then-has_bitmap-clause-in_place g c =
    made_closed (key_of c.args.hash) (g.D.Disk.identity c.args.disk.now) c.in_ok-format.format (g.D.Disk.moments c.args.disk.now) (g.D.Disk.moments c.open_made.new.disk)
    (record {
      format_ = record { accepted = c.in_ok-format.ensures.format; bitmap = sym c.has_bitmap.ensures ∙ c.if-has_bitmap.true };
      reads = c.in_ok-format.ensures.reads;
      told = c.in_ok-format.ensures.told;
    })

pub returns-else-has_bitmap-clause-in_place : goal.returns-else-has_bitmap-clause-in_place
returns-else-has_bitmap-clause-in_place g c =
    let b = g.D.Disk.moments c.open_found.new.disk in
    found_closed (key_of c.args.hash) (g.D.Disk.identity c.args.disk.now) c.in_ok-format.format (g.D.Disk.moments c.args.disk.now) b
    (record {
      format_ = record { accepted = c.in_ok-format.ensures.format; no_bitmap = sym c.has_bitmap.ensures ∙ c.if-has_bitmap.false };
      reads = c.in_ok-format.ensures.reads;
      told = c.in_ok-format.ensures.told;
    })
    (subst (λ x. KeepsRecovered (λ image. c.in_ok-format.format.geometry) x b) c.read_format.ensures.kept c.open_found.ensures.in_place)
