use Rattle.std.proofs.Common.{[], ◌∷◌, sym, ◌∙◌}
use Rattle.device_model.specs.Progress.{Close, changes_of}
use Rattle.device.proofs.CallLemmas.{device_works}
use Rattle.device.proofs.LeavesLemmas.{close_leaves}
use Rattle.nbd_session.proofs.CloseLemmas.{ended_closed, ended_failed, rests_closed}
use Rattle.nbd_session.proofs.serving.close.Goals as goal

pub returns-then-is_err-clause-ends : goal.returns-then-is_err-clause-ends
returns-then-is_err-clause-ends g c = record {
  done = tt;
  err = λ w is. ended_failed w _ _ c.close-closed.result.0 (sym c.is_err.ensures.value ∙ c.if-is_err.true)
      (λ broken. let works = c.requires.works.is in let is_broken = c.close-closed.ensures.broken.1 broken in absurd cc)
      (c.close-closed.ensures.closed w (device_works w _ _ _ c.requires.works.is is));
}

pub returns-clause-ends : goal.returns-clause-ends
returns-clause-ends g c = record {
  done = λ w is. ended_closed w _ _ c.close-closed.result.0 (sym c.is_err.ensures.value ∙ c.if-is_err.false)
      (c.close-closed.ensures.closed w (device_works w _ _ _ c.requires.works.is is));
  err = tt;
}

pub returns-then-is_err-clause-leaves : goal.returns-then-is_err-clause-leaves
returns-then-is_err-clause-leaves g c w is =
    close_leaves w c.args.device.parts.common _ c.args.device.parts.mode is (changes_of w.format w.state (Close ∷ []))
    (c.close-closed.ensures.writes c.requires.works.is) c.close-closed.ensures.tags

pub returns-clause-leaves : goal.returns-clause-leaves
returns-clause-leaves g c w is =
    close_leaves w c.args.device.parts.common _ c.args.device.parts.mode is (changes_of w.format w.state (Close ∷ []))
    (c.close-closed.ensures.writes c.requires.works.is) c.close-closed.ensures.tags

pub returns-clause-rests : goal.returns-clause-rests
returns-clause-rests g c w is =
    rests_closed c.close-closed.result.0 (sym c.is_err.ensures.value ∙ c.if-is_err.false) _ _ _ _ c.close-closed.ensures.rests w
    (device_works w _ _ _ c.requires.works.is is)
