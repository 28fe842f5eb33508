use Rattle.std.proofs.Common.{◌^◌, inl, refl, sym, ◌∙◌, ap}
use Rattle.std.proofs.lemmas.Result.{IfOk-weaker}
use Rattle.disk_model.proofs.MomentsLemmas.{no_moment}
use Rattle.place_model.specs.Opened.{next_by}
use Rattle.replay.proofs.FinishingLemmas.{rest_left, rest_place}
use Rattle.replay.proofs.ReplayingLemmas.{geometry_of}
use Rattle.replay.proofs.finishing.finish.Goals as goal

pub returns-in-Rest-clause-left : goal.returns-in-Rest-clause-left
returns-in-Rest-clause-left g c pending d replayed has now told =
    let geometry = geometry_of c.args.geometry.now c.args.tags.now (g.D.Disk.identity c.args.disk.now) (g.D.Disk.moments c.args.disk.now) c.requires.replaying.geometry c.requires.replaying.store_is in
    rest_left d c.args.geometry.now (2 ^ 48) c.args.journal.now c.in-Rest.next c.in-Rest.number _ _ now geometry
    replayed c.in-Rest.is refl refl c.is_used.ensures (has.now now told) (pending now told)

pub returns-in-Rest-clause-cuts : goal.returns-in-Rest-clause-cuts
returns-in-Rest-clause-cuts g c d replayed has = no_moment (g.D.Disk.moments c.args.disk.now) _

pub erase_scanned-requires-clause-newest : goal.erase_scanned-requires-clause-newest
erase_scanned-requires-clause-newest g c = inl c.in-Mixed.is

pub returns-in-Mixed-clause-left : goal.returns-in-Mixed-clause-left
returns-in-Mixed-clause-left g c = IfOk-weaker c.erase_scanned.result _ _ (λ at left pending. left) c.erase_scanned.ensures.left

pub returns-in-Erasing-clause-left : goal.returns-in-Erasing-clause-left
returns-in-Erasing-clause-left g c = IfOk-weaker c.erase_scanned-in-Erasing.result _ _ (λ at left pending. left) c.erase_scanned-in-Erasing.ensures.left

pub returns-in-Rest-clause-moments : goal.returns-in-Rest-clause-moments
returns-in-Rest-clause-moments g c = no_moment (g.D.Disk.moments c.args.disk.now) _

pub returns-in-Rest-clause-next : goal.returns-in-Rest-clause-next
returns-in-Rest-clause-next g c = sym (ap next_by c.in-Rest.is)

pub returns-in-Rest-clause-place : goal.returns-in-Rest-clause-place
returns-in-Rest-clause-place g c = rest_place c.args.geometry.now c.args.journal.now c.in-Rest.next c.in-Rest.number _ c.requires.replaying.fits c.in-Rest.is

pub returns-in-Mixed-clause-next : goal.returns-in-Mixed-clause-next
returns-in-Mixed-clause-next g c = IfOk-weaker c.erase_scanned.result _ _ (λ at first. first ∙ sym (ap next_by c.in-Mixed.is)) c.erase_scanned.ensures.next

pub returns-in-Erasing-clause-next : goal.returns-in-Erasing-clause-next
returns-in-Erasing-clause-next g c = IfOk-weaker c.erase_scanned-in-Erasing.result _ _ (λ at first. first ∙ sym (ap next_by c.in-Erasing.is)) c.erase_scanned-in-Erasing.ensures.next

pub returns-in-Blank-clause-left : goal.returns-in-Blank-clause-left
returns-in-Blank-clause-left g c = IfOk-weaker c.fill_journal.result _ _ (λ at left pending. left) c.fill_journal.ensures.left

pub returns-in-Blank-clause-next : goal.returns-in-Blank-clause-next
returns-in-Blank-clause-next g c = IfOk-weaker c.fill_journal.result _ _ (λ at first. first ∙ sym (ap next_by c.in-Blank.is)) c.fill_journal.ensures.next
