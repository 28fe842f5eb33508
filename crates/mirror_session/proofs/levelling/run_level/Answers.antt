-- The mirror is levelled, and told.
use Rattle.std.proofs.Common.{inr, refl, ◌∙◌, ap, Err}
use Rattle.mirror_session.specs.Calls.{ended_by}
use Rattle.mirror_session.proofs.AskLemmas.{level_half, level_told}
use Rattle.mirror_session.proofs.LevelLemmas.{level_cause, level_ended, level_turns, unrefused}
use Rattle.mirror_session.proofs.levelling.run_level.Goals as goal

pub stop_by-requires : goal.stop_by-requires
stop_by-requires g c =
    c.in-Err.ensures.failed c.requires.works.whole

pub returns-in-Ok-tell-clause-levelled : goal.returns-in-Ok-tell-clause-levelled
returns-in-Ok-tell-clause-levelled g c =
    λ a b m legs. level_told _ _ a b m c.in-Ok.written (c.in-Ok.ensures.levelled a b m legs) _ _ c.in-Ok-tell.ensures.told

pub returns-in-Err-Memory-clause-ended : goal.returns-in-Err-Memory-clause-ended
returns-in-Err-Memory-clause-ended g c =
    λ a b m legs. inr (c.in-Ok.ensures.levelled a b m legs).legs

pub returns-in-Err-Sink-clause-ended : goal.returns-in-Err-Sink-clause-ended
returns-in-Err-Sink-clause-ended g c =
    λ a b m legs. level_half _ _ a b m c.in-Ok.written (c.in-Ok.ensures.levelled a b m legs) _ _
    (c.tell.ensures.sink (c.in-Err-Sink.is ∙ ap Err c.in-Err-Sink.field-0-is))

pub returns-in-Err-clause-ended : goal.returns-in-Err-clause-ended
returns-in-Err-clause-ended g c a b m legs =
    let fault = c.in-Err.fault in
    let called = c.in-Err.ensures.failed c.requires.works.whole in
    let end = c.end_of.ensures ∙ ap ended_by c.stop_by.ensures in
    level_ended _ _ a b m _ _ c.end_of.result fault end called (λ same. rw (c.in-Err.ensures.err.memory (ap Err same)) legs)

pub returns-in-Err-clause-unrefused : goal.returns-in-Err-clause-unrefused
returns-in-Err-clause-unrefused g c = unrefused Unit c.end_of.result c.stop_by.result c.end_of.ensures

pub returns-in-Err-clause-cause : goal.returns-in-Err-clause-cause
returns-in-Err-clause-cause g c =
    let fault = c.in-Err.fault in
    let called = c.in-Err.ensures.failed c.requires.works.whole in
    let end = c.end_of.ensures ∙ ap ended_by c.stop_by.ensures in
    level_cause _ _ _ _ _ _ refl _ _ fault refl (ap Err end) called c.in-Err.ensures.cause

pub returns-in-Err-clause-turns : goal.returns-in-Err-clause-turns
returns-in-Err-clause-turns g c =
    let fault = c.in-Err.fault in
    let called = c.in-Err.ensures.failed c.requires.works.whole in
    let end = c.end_of.ensures ∙ ap ended_by c.stop_by.ensures in
    level_turns _ _ fault (ap Err end) called c.in-Err.ensures.turns.breaks
    (λ same. rw (c.in-Err.ensures.err.memory (ap Err same)) c.requires.works.whole)
