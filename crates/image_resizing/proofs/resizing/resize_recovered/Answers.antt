use Rattle.std.proofs.Common.{◌≡◌, ℕ, refl, sym, ◌∙◌, ap, subst, Some, None, List}
use Rattle.std.specs.Option.{option_map}
use Rattle.std.proofs.lemmas.Option.{none-some}
use Rattle.std.proofs.lemmas.Result.{err_from_is_err_and}
use Rattle.disk_model.specs.Disk.{Content}
use Rattle.disk_model.specs.Identity.{DiskIdentity}
use Rattle.disk_model.specs.Moments.{content_now}
use Rattle.disk_model.proofs.MomentsLemmas.{EachMoment-kept}
use Rattle.device_model.specs.Refusals.{ByJournal}
use Rattle.image_resizing.specs.Settled.{OpensPlanned, ResizesImage, ResizesInOrder, journal_fault}
use Rattle.journal_reading.specs.declared.reading.JudgedJournal.{JudgedJournal}
use Rattle.image_resizing.proofs.OrderLemmas.{as_resize, done_cause, failed_cause, fault_seen, judged_opens, kept_order, refusal_told, refused_cause}
use Rattle.image_resizing.specs.Writing.{WritesResize}
use Rattle.image_resizing.proofs.resizing.resize_recovered.Goals as goal

pub returns-in_err-journal-clause-refused : goal.returns-in_err-journal-clause-refused
returns-in_err-journal-clause-refused g c =
    let p = err_from_is_err_and c.from_residual.result c.from_residual.ensures.1 in
    rw (p.1, p.2) (λ not_memory not_disk x told.
    refusal_told JudgedJournal c.in_err-journal.field-0.0
    ∙ ap (option_map ByJournal) (c.in_err-journal.ensures.refused (λ e. not_memory (ap (as_resize JudgedJournal (Unit {0})) e)) (λ e. not_disk (ap (as_resize JudgedJournal (Unit {0})) e)) x told)
    ∙ sym (fault_seen (g.D.Disk.identity c.args.disk.now).sectors c.args.plan.now c.requires.plan x c.requires.no_bitmap))

pub returns-in_err-journal-clause-cause : goal.returns-in_err-journal-clause-cause
returns-in_err-journal-clause-cause g c =
    let p = err_from_is_err_and c.from_residual.result c.from_residual.ensures.1 in
    rw (p.1, p.2) (refused_cause JudgedJournal (Unit {0}) _ _ c.in_err-journal.field-0.0 c.in_err-journal.ensures.cause)

pub returns-in_err-journal-clause-judged : goal.returns-in_err-journal-clause-judged
returns-in_err-journal-clause-judged g c x told fault has = EachMoment-kept _ c.judge_journal.ensures.kept

pub returns-in_err-journal-clause-moments : goal.returns-in_err-journal-clause-moments
returns-in_err-journal-clause-moments g c x told opens = kept_order (g.D.Disk.identity c.args.disk.now).sectors c.args.plan.now (g.D.Disk.moments c.args.disk.now) (g.D.Disk.moments c.judge_journal.new.disk) c.judge_journal.ensures.kept

pub returns-in_err-recovery-clause-refused : goal.returns-in_err-recovery-clause-refused
returns-in_err-recovery-clause-refused g c =
    let p = err_from_is_err_and c.from_residual-in_err-recovery.result c.from_residual-in_err-recovery.ensures.1 in
    rw (p.1, p.2) (λ not_memory not_disk x told. absurd (not_memory refl))

pub returns-in_err-recovery-clause-judged : goal.returns-in_err-recovery-clause-judged
returns-in_err-recovery-clause-judged g c x told fault has = EachMoment-kept _ c.judge_journal.ensures.kept

pub returns-in_err-recovery-clause-moments : goal.returns-in_err-recovery-clause-moments
returns-in_err-recovery-clause-moments g c x told opens = kept_order (g.D.Disk.identity c.args.disk.now).sectors c.args.plan.now (g.D.Disk.moments c.args.disk.now) (g.D.Disk.moments c.judge_journal.new.disk) c.judge_journal.ensures.kept

pub returns-in_err-growth-clause-refused : goal.returns-in_err-growth-clause-refused
returns-in_err-growth-clause-refused g c =
    let p = err_from_is_err_and c.from_residual-in_err-growth.result c.from_residual-in_err-growth.ensures.1 in
    rw (p.1, p.2) (λ not_memory not_disk x told. absurd (not_memory refl))

pub returns-in_err-growth-clause-judged : goal.returns-in_err-growth-clause-judged
returns-in_err-growth-clause-judged g c x told fault has = EachMoment-kept _ c.judge_journal.ensures.kept

pub returns-in_err-growth-clause-moments : goal.returns-in_err-growth-clause-moments
returns-in_err-growth-clause-moments g c x told opens = kept_order (g.D.Disk.identity c.args.disk.now).sectors c.args.plan.now (g.D.Disk.moments c.args.disk.now) (g.D.Disk.moments c.judge_journal.new.disk) c.judge_journal.ensures.kept

pub returns-in_err-recover_and_grow-clause-refused : goal.returns-in_err-recover_and_grow-clause-refused
returns-in_err-recover_and_grow-clause-refused g c =
    let p = err_from_is_err_and c.from_residual-in_err-recover_and_grow.result c.from_residual-in_err-recover_and_grow.ensures.1 in
    rw (p.1, p.2) (λ not_memory not_disk x told. absurd (not_disk refl))

pub returns-in_err-recover_and_grow-clause-judged : goal.returns-in_err-recover_and_grow-clause-judged
returns-in_err-recover_and_grow-clause-judged g c x told fault has =
    let none : (x : Content) → content_now (g.D.Disk.moments c.args.disk.now) ≡ Some x → journal_fault c.args.plan.now x ≡ None = λ x told.
    fault_seen (g.D.Disk.identity c.args.disk.now).sectors c.args.plan.now c.requires.plan x c.requires.no_bitmap ∙ ap (option_map ByJournal) (c.in_ok-journal.ensures.judged x told).right in
    absurd (none-some fault (sym (none x told) ∙ has))

pub returns-in_err-recover_and_grow-clause-cause : goal.returns-in_err-recover_and_grow-clause-cause
returns-in_err-recover_and_grow-clause-cause g c =
    let p = err_from_is_err_and c.from_residual-in_err-recover_and_grow.result c.from_residual-in_err-recover_and_grow.ensures.1 in
    rw (p.1, p.2) (failed_cause JudgedJournal (Unit {0}) (Unit {0}) _ _ _ c.in_ok-journal.journal c.in_err-recover_and_grow.field-0.0 c.in_ok-journal.ensures.cause c.in_err-recover_and_grow.ensures.cause)

pub returns-in_err-recover_and_grow-clause-moments : goal.returns-in_err-recover_and_grow-clause-moments
returns-in_err-recover_and_grow-clause-moments g c x told opens =
    let plan = c.args.plan.now in
    subst (λ (n : ℕ). ResizesInOrder n plan (g.D.Disk.moments c.args.disk.now) (g.D.Disk.moments c.recover_and_grow.new.disk)) (ap (λ (d : DiskIdentity). d.sectors) c.judge_journal.ensures.identity)
    (subst (λ (a : List Content). ResizesInOrder (g.D.Disk.identity c.judge_journal.new.disk).sectors plan a (g.D.Disk.moments c.recover_and_grow.new.disk)) c.judge_journal.ensures.kept
    (c.recover_and_grow.ensures.moments x (ap content_now c.judge_journal.ensures.kept ∙ told)))

pub recover_and_grow-requires-clause-opens : goal.recover_and_grow-requires-clause-opens
recover_and_grow-requires-clause-opens g c =
    let plan = c.args.plan.now in
    subst (λ (n : ℕ). OpensPlanned n plan (g.D.Disk.moments c.judge_journal.new.disk)) (sym (ap (λ (d : DiskIdentity). d.sectors) c.judge_journal.ensures.identity))
    (λ x told.
    let told_before = sym (ap content_now c.judge_journal.ensures.kept) ∙ told in
    judged_opens (g.D.Disk.identity c.args.disk.now).sectors plan c.requires.plan x (c.requires.reads plan.maker.key x told_before) c.requires.no_bitmap (c.in_ok-journal.ensures.judged x told_before).right)

pub recover_and_grow-requires-clause-journal : goal.recover_and_grow-requires-clause-journal
recover_and_grow-requires-clause-journal g c = record {
  fits = c.in_ok-journal.ensures.fits;
  on = λ x told. (c.in_ok-journal.ensures.judged x (sym (ap content_now c.judge_journal.ensures.kept) ∙ told)).on;
}

pub returns-clause-resized : goal.returns-clause-resized
returns-clause-resized g c =
    let plan = c.args.plan.now in
    subst (λ (n : ℕ). ResizesImage n plan (g.D.Disk.moments c.args.disk.now) (g.D.Disk.moments c.recover_and_grow.new.disk)) (ap (λ (d : DiskIdentity). d.sectors) c.judge_journal.ensures.identity)
    (subst (λ (a : List Content). ResizesImage (g.D.Disk.identity c.judge_journal.new.disk).sectors plan a (g.D.Disk.moments c.recover_and_grow.new.disk)) c.judge_journal.ensures.kept c.in_ok-recover_and_grow.ensures.resized)

pub returns-clause-refused : goal.returns-clause-refused
returns-clause-refused g c not_memory not_disk x told =
    let none : (x : Content) → content_now (g.D.Disk.moments c.args.disk.now) ≡ Some x → journal_fault c.args.plan.now x ≡ None = λ x told.
    fault_seen (g.D.Disk.identity c.args.disk.now).sectors c.args.plan.now c.requires.plan x c.requires.no_bitmap ∙ ap (option_map ByJournal) (c.in_ok-journal.ensures.judged x told).right in
    sym (none x told)

pub returns-clause-judged : goal.returns-clause-judged
returns-clause-judged g c x told fault has =
    let none : (x : Content) → content_now (g.D.Disk.moments c.args.disk.now) ≡ Some x → journal_fault c.args.plan.now x ≡ None = λ x told.
    fault_seen (g.D.Disk.identity c.args.disk.now).sectors c.args.plan.now c.requires.plan x c.requires.no_bitmap ∙ ap (option_map ByJournal) (c.in_ok-journal.ensures.judged x told).right in
    absurd (none-some fault (sym (none x told) ∙ has))

pub returns-clause-cause : goal.returns-clause-cause
returns-clause-cause g c = done_cause JudgedJournal (Unit {0}) (Unit {0}) _ _ _ c.in_ok-journal.journal tt tt c.in_ok-journal.ensures.cause c.in_ok-recover_and_grow.ensures.cause

pub returns-clause-moments : goal.returns-clause-moments
returns-clause-moments g c x told opens =
    let plan = c.args.plan.now in
    subst (λ (n : ℕ). ResizesInOrder n plan (g.D.Disk.moments c.args.disk.now) (g.D.Disk.moments c.recover_and_grow.new.disk)) (ap (λ (d : DiskIdentity). d.sectors) c.judge_journal.ensures.identity)
    (subst (λ (a : List Content). ResizesInOrder (g.D.Disk.identity c.judge_journal.new.disk).sectors plan a (g.D.Disk.moments c.recover_and_grow.new.disk)) c.judge_journal.ensures.kept
    (c.recover_and_grow.ensures.moments x (ap content_now c.judge_journal.ensures.kept ∙ told)))

pub returns-in_err-journal-clause-writes : goal.returns-in_err-journal-clause-writes
returns-in_err-journal-clause-writes g c x told opens = EachMoment-kept _ c.judge_journal.ensures.kept

pub returns-in_err-recovery-clause-writes : goal.returns-in_err-recovery-clause-writes
returns-in_err-recovery-clause-writes g c x told opens = EachMoment-kept _ c.judge_journal.ensures.kept

pub returns-in_err-growth-clause-writes : goal.returns-in_err-growth-clause-writes
returns-in_err-growth-clause-writes g c x told opens = EachMoment-kept _ c.judge_journal.ensures.kept

pub returns-in_err-recover_and_grow-clause-writes : goal.returns-in_err-recover_and_grow-clause-writes
returns-in_err-recover_and_grow-clause-writes g c x told opens =
    let plan = c.args.plan.now in
    subst (λ (n : ℕ). WritesResize n plan (g.D.Disk.moments c.args.disk.now) (g.D.Disk.moments c.recover_and_grow.new.disk)) (ap (λ (d : DiskIdentity). d.sectors) c.judge_journal.ensures.identity)
    (subst (λ (a : List Content). WritesResize (g.D.Disk.identity c.judge_journal.new.disk).sectors plan a (g.D.Disk.moments c.recover_and_grow.new.disk)) c.judge_journal.ensures.kept c.recover_and_grow.ensures.writes) x told

pub returns-clause-writes : goal.returns-clause-writes
returns-clause-writes g c x told opens =
    let plan = c.args.plan.now in
    subst (λ (n : ℕ). WritesResize n plan (g.D.Disk.moments c.args.disk.now) (g.D.Disk.moments c.recover_and_grow.new.disk)) (ap (λ (d : DiskIdentity). d.sectors) c.judge_journal.ensures.identity)
    (subst (λ (a : List Content). WritesResize (g.D.Disk.identity c.judge_journal.new.disk).sectors plan a (g.D.Disk.moments c.recover_and_grow.new.disk)) c.judge_journal.ensures.kept c.recover_and_grow.ensures.writes) x told
