-- A request is judged, asked of the mirror, and told.
use Rattle.std.proofs.Common.{◌≡◌, inl, ℕ, List, Option, refl, sym, ◌∙◌, ap, subst, arith, Err}
use Rattle.device_model.specs.Submission.{Submission}
use Rattle.mirror_model.specs.Mirror.{changes_on_first, changes_on_second}
use Rattle.mirror_calls.specs.Leg.{IsLeftSince}
use Rattle.mirror_calls.specs.State.{format_of}
use Rattle.mirror_calls.proofs.SinceLemmas.{IsLeftSince-kept}
use Rattle.request_slots.specs.InFlight.{as_submission}
use Rattle.stream_io.specs.Stream.{AddsPrefix}
use Rattle.script_session.specs.Meaning.{ask_fault_on}
use Rattle.script_text.specs.Line.{ask_of}
use Rattle.mirror_session.specs.Answering.{changes_by}
use Rattle.mirror_session.specs.AskRun.{asking, held_with}
use Rattle.mirror_session.proofs.AnswerLemmas.{asked_at_most}
use Rattle.mirror_session.proofs.AskLemmas.{ask_half, ask_told, ask_untold, submission-is}
use Rattle.mirror_session.proofs.JudgingLemmas.{asks_may_run, judged}
use Rattle.mirror_session.proofs.asking.run_ask.Goals as goal

told_by : (told text : List ℕ) (before now : Option (List ℕ)) → told ≡ text → now ≡ held_with told before → now ≡ held_with text before
told_by told text before now same is = is ∙ ap (λ (t : List ℕ). held_with t before) same

half_by : (told text : List ℕ) (before now : Option (List ℕ)) → told ≡ text → AddsPrefix told before now → AddsPrefix text before now
half_by told text before now same is = subst (λ (t : List ℕ). AddsPrefix t before now) same is

pub ask_fault-requires : goal.ask_fault-requires
ask_fault-requires g c =
    omega (arith, g.met.A.Leg.some_bytes c.args.mirror.now.a (c.requires.works.ready.first c.requires.works.whole), c.block_size.ensures)

pub request_of-requires : goal.request_of-requires
request_of-requires g c =
    omega (arith, g.met.A.Leg.some_bytes c.args.mirror.now.a (c.requires.works.ready.first c.requires.works.whole), c.block_size-2.ensures)

pub answer_of-requires-clause-taken : goal.answer_of-requires-clause-taken
answer_of-requires-clause-taken g c =
    let size_is : c.block_size.result ≡ c.block_size-2.result = c.block_size.ensures ∙ sym c.block_size-2.ensures in
    let may = asks_may_run c.blocks-2.result c.block_size-2.result (g.A.Leg.blocks c.args.mirror.now.a) (g.A.Leg.block_size c.args.mirror.now.a) (ask_of c.args.ask.now)
    (as_submission c.in-Ok.request) c.blocks-2.ensures c.block_size-2.ensures
    (c.in_default.ensures ∙ ap (λ (n : ℕ). ask_fault_on c.blocks-2.result n (ask_of c.args.ask.now)) size_is) c.in-Ok.ensures in
    may.taken

pub returns-in-Some-clause-ended : goal.returns-in-Some-clause-ended
returns-in-Some-clause-ended g c =
    λ a b m legs.
    judged (format_of a b) c.blocks-2.result c.block_size.result (ask_of c.args.ask.now) _ (c.blocks-2.ensures ∙ sym (g.met.A.Leg.same_blocks c.args.mirror.now.a a m.a legs.first)) (c.block_size.ensures ∙ sym (g.met.A.Leg.same_size c.args.mirror.now.a a m.a legs.first)) c.in-Some.ensures

pub returns-in-Err-clause-ended : goal.returns-in-Err-clause-ended
returns-in-Err-clause-ended g c =
    λ a b m legs.
    let runnable = judged (format_of a b) c.blocks-2.result c.block_size.result (ask_of c.args.ask.now) _ (c.blocks-2.ensures ∙ sym (g.met.A.Leg.same_blocks c.args.mirror.now.a a m.a legs.first)) (c.block_size.ensures ∙ sym (g.met.A.Leg.same_size c.args.mirror.now.a a m.a legs.first)) c.in_default.ensures in
    record { runnable = runnable; legs = inl legs }

pub returns-in-Err-Disk-clause-ended : goal.returns-in-Err-Disk-clause-ended
returns-in-Err-Disk-clause-ended g c =
    λ a b m legs.
    let runnable = judged (format_of a b) c.blocks-2.result c.block_size.result (ask_of c.args.ask.now) _ (c.blocks-2.ensures ∙ sym (g.met.A.Leg.same_blocks c.args.mirror.now.a a m.a legs.first)) (c.block_size.ensures ∙ sym (g.met.A.Leg.same_size c.args.mirror.now.a a m.a legs.first)) c.in_default.ensures in
    runnable

pub returns-in-Err-Memory-clause-ended : goal.returns-in-Err-Memory-clause-ended
returns-in-Err-Memory-clause-ended g c =
    let kept = c.answer_of.ensures.memory (c.in-Err-Memory.is ∙ ap Err c.in-Err-Memory.field-0-is) in
    λ a b m legs.
    let runnable = judged (format_of a b) c.blocks-2.result c.block_size.result (ask_of c.args.ask.now) _ (c.blocks-2.ensures ∙ sym (g.met.A.Leg.same_blocks c.args.mirror.now.a a m.a legs.first)) (c.block_size.ensures ∙ sym (g.met.A.Leg.same_size c.args.mirror.now.a a m.a legs.first)) c.in_default.ensures in
    rw kept (record { runnable = runnable; legs = inl legs })

pub returns-in-Ok-tell-clause-ran : goal.returns-in-Ok-tell-clause-ran
returns-in-Ok-tell-clause-ran g c =
    λ a b m legs.
    let runnable = judged (format_of a b) c.blocks-2.result c.block_size.result (ask_of c.args.ask.now) _ (c.blocks-2.ensures ∙ sym (g.met.A.Leg.same_blocks c.args.mirror.now.a a m.a legs.first)) (c.block_size.ensures ∙ sym (g.met.A.Leg.same_size c.args.mirror.now.a a m.a legs.first)) c.in_default.ensures in
    let same = submission-is c.block_size-2.result (format_of a b).block_size (as_submission c.in-Ok.request) (ask_of c.args.ask.now) (c.block_size-2.ensures ∙ sym (g.met.A.Leg.same_size c.args.mirror.now.a a m.a legs.first)) c.in-Ok.ensures in
    ask_told _ _ a b m (ask_of c.args.ask.now) runnable (as_submission c.in-Ok.request) same c.in-Ok-answer_of.answer (c.in-Ok-answer_of.ensures.answered a b m legs) c.tags_found.result _ _ c.tags_found.ensures (told_by _ _ _ _ c.told_of.ensures c.in-Ok-tell.ensures.told)

pub returns-in-Err-Memory-tell-clause-ended : goal.returns-in-Err-Memory-tell-clause-ended
returns-in-Err-Memory-tell-clause-ended g c =
    λ a b m legs.
    let runnable = judged (format_of a b) c.blocks-2.result c.block_size.result (ask_of c.args.ask.now) _ (c.blocks-2.ensures ∙ sym (g.met.A.Leg.same_blocks c.args.mirror.now.a a m.a legs.first)) (c.block_size.ensures ∙ sym (g.met.A.Leg.same_size c.args.mirror.now.a a m.a legs.first)) c.in_default.ensures in
    let same = submission-is c.block_size-2.result (format_of a b).block_size (as_submission c.in-Ok.request) (ask_of c.args.ask.now) (c.block_size-2.ensures ∙ sym (g.met.A.Leg.same_size c.args.mirror.now.a a m.a legs.first)) c.in-Ok.ensures in
    ask_untold _ _ a b m (ask_of c.args.ask.now) runnable (as_submission c.in-Ok.request) same c.in-Ok-answer_of.answer (c.in-Ok-answer_of.ensures.answered a b m legs)

pub returns-clause-ended : goal.returns-clause-ended
returns-clause-ended g c =
    λ a b m legs.
    let runnable = judged (format_of a b) c.blocks-2.result c.block_size.result (ask_of c.args.ask.now) _ (c.blocks-2.ensures ∙ sym (g.met.A.Leg.same_blocks c.args.mirror.now.a a m.a legs.first)) (c.block_size.ensures ∙ sym (g.met.A.Leg.same_size c.args.mirror.now.a a m.a legs.first)) c.in_default.ensures in
    let same = submission-is c.block_size-2.result (format_of a b).block_size (as_submission c.in-Ok.request) (ask_of c.args.ask.now) (c.block_size-2.ensures ∙ sym (g.met.A.Leg.same_size c.args.mirror.now.a a m.a legs.first)) c.in-Ok.ensures in
    ask_half _ _ a b m (ask_of c.args.ask.now) runnable (as_submission c.in-Ok.request) same c.in-Ok-answer_of.answer (c.in-Ok-answer_of.ensures.answered a b m legs) _ _ (half_by _ _ _ _ c.told_of.ensures (c.tell.ensures.sink (c.in-Err-Sink.is ∙ ap Err c.in-Err-Sink.field-0-is)))

pub returns-in-Ok-tell-clause-asked : goal.returns-in-Ok-tell-clause-asked
returns-in-Ok-tell-clause-asked g c =
    let size_is : c.block_size.result ≡ c.block_size-2.result = c.block_size.ensures ∙ sym c.block_size-2.ensures in
    let may = asks_may_run c.blocks-2.result c.block_size-2.result (g.A.Leg.blocks c.args.mirror.now.a) (g.A.Leg.block_size c.args.mirror.now.a) (ask_of c.args.ask.now)
    (as_submission c.in-Ok.request) c.blocks-2.ensures c.block_size-2.ensures
    (c.in_default.ensures ∙ ap (λ (n : ℕ). ask_fault_on c.blocks-2.result n (ask_of c.args.ask.now)) size_is) c.in-Ok.ensures in
    asked_at_most _ _ _ 2049 _ _ _ _ (omega (arith, may.few)) c.in-Ok-answer_of.ensures.asked

pub returns-in-Some-clause-first_moments : goal.returns-in-Some-clause-first_moments
returns-in-Some-clause-first_moments g c =
    λ a b m legs. IsLeftSince-kept (g.A.Leg.may_be_left a) m.a.history (changes_on_first (asking (ask_of c.args.ask.now) (format_of a b) m)) refl

pub returns-in-Err-clause-first_moments : goal.returns-in-Err-clause-first_moments
returns-in-Err-clause-first_moments g c =
    λ a b m legs. IsLeftSince-kept (g.A.Leg.may_be_left a) m.a.history (changes_on_first (asking (ask_of c.args.ask.now) (format_of a b) m)) refl

pub returns-in-Err-Disk-clause-first_moments : goal.returns-in-Err-Disk-clause-first_moments
returns-in-Err-Disk-clause-first_moments g c =
    λ a b m legs.
    let same = submission-is c.block_size-2.result (format_of a b).block_size (as_submission c.in-Ok.request) (ask_of c.args.ask.now) (c.block_size-2.ensures ∙ sym (g.met.A.Leg.same_size c.args.mirror.now.a a m.a legs.first)) c.in-Ok.ensures in
    subst (λ (s : Submission). IsLeftSince (g.A.Leg.may_be_left a) m.a.history (changes_on_first (changes_by s (format_of a b) m))
    (g.A.Leg.moments c.args.mirror.now.a) (g.A.Leg.moments c.answer_of.new.mirror.a)) same (c.answer_of.ensures.first_moments a b m legs)

pub returns-in-Err-Memory-clause-first_moments : goal.returns-in-Err-Memory-clause-first_moments
returns-in-Err-Memory-clause-first_moments g c =
    λ a b m legs.
    let same = submission-is c.block_size-2.result (format_of a b).block_size (as_submission c.in-Ok.request) (ask_of c.args.ask.now) (c.block_size-2.ensures ∙ sym (g.met.A.Leg.same_size c.args.mirror.now.a a m.a legs.first)) c.in-Ok.ensures in
    subst (λ (s : Submission). IsLeftSince (g.A.Leg.may_be_left a) m.a.history (changes_on_first (changes_by s (format_of a b) m))
    (g.A.Leg.moments c.args.mirror.now.a) (g.A.Leg.moments c.answer_of.new.mirror.a)) same (c.answer_of.ensures.first_moments a b m legs)

pub returns-in-Ok-tell-clause-first_moments : goal.returns-in-Ok-tell-clause-first_moments
returns-in-Ok-tell-clause-first_moments g c =
    λ a b m legs.
    let same = submission-is c.block_size-2.result (format_of a b).block_size (as_submission c.in-Ok.request) (ask_of c.args.ask.now) (c.block_size-2.ensures ∙ sym (g.met.A.Leg.same_size c.args.mirror.now.a a m.a legs.first)) c.in-Ok.ensures in
    subst (λ (s : Submission). IsLeftSince (g.A.Leg.may_be_left a) m.a.history (changes_on_first (changes_by s (format_of a b) m))
    (g.A.Leg.moments c.args.mirror.now.a) (g.A.Leg.moments c.answer_of.new.mirror.a)) same (c.answer_of.ensures.first_moments a b m legs)

pub returns-in-Err-Memory-tell-clause-first_moments : goal.returns-in-Err-Memory-tell-clause-first_moments
returns-in-Err-Memory-tell-clause-first_moments g c =
    λ a b m legs.
    let same = submission-is c.block_size-2.result (format_of a b).block_size (as_submission c.in-Ok.request) (ask_of c.args.ask.now) (c.block_size-2.ensures ∙ sym (g.met.A.Leg.same_size c.args.mirror.now.a a m.a legs.first)) c.in-Ok.ensures in
    subst (λ (s : Submission). IsLeftSince (g.A.Leg.may_be_left a) m.a.history (changes_on_first (changes_by s (format_of a b) m))
    (g.A.Leg.moments c.args.mirror.now.a) (g.A.Leg.moments c.answer_of.new.mirror.a)) same (c.answer_of.ensures.first_moments a b m legs)

pub returns-clause-first_moments : goal.returns-clause-first_moments
returns-clause-first_moments g c =
    λ a b m legs.
    let same = submission-is c.block_size-2.result (format_of a b).block_size (as_submission c.in-Ok.request) (ask_of c.args.ask.now) (c.block_size-2.ensures ∙ sym (g.met.A.Leg.same_size c.args.mirror.now.a a m.a legs.first)) c.in-Ok.ensures in
    subst (λ (s : Submission). IsLeftSince (g.A.Leg.may_be_left a) m.a.history (changes_on_first (changes_by s (format_of a b) m))
    (g.A.Leg.moments c.args.mirror.now.a) (g.A.Leg.moments c.answer_of.new.mirror.a)) same (c.answer_of.ensures.first_moments a b m legs)

pub returns-in-Some-clause-second_moments : goal.returns-in-Some-clause-second_moments
returns-in-Some-clause-second_moments g c =
    λ a b m legs. IsLeftSince-kept (g.B.Leg.may_be_left b) m.b.history (changes_on_second (asking (ask_of c.args.ask.now) (format_of a b) m)) refl

pub returns-in-Err-clause-second_moments : goal.returns-in-Err-clause-second_moments
returns-in-Err-clause-second_moments g c =
    λ a b m legs. IsLeftSince-kept (g.B.Leg.may_be_left b) m.b.history (changes_on_second (asking (ask_of c.args.ask.now) (format_of a b) m)) refl

pub returns-in-Err-Disk-clause-second_moments : goal.returns-in-Err-Disk-clause-second_moments
returns-in-Err-Disk-clause-second_moments g c =
    λ a b m legs.
    let same = submission-is c.block_size-2.result (format_of a b).block_size (as_submission c.in-Ok.request) (ask_of c.args.ask.now) (c.block_size-2.ensures ∙ sym (g.met.A.Leg.same_size c.args.mirror.now.a a m.a legs.first)) c.in-Ok.ensures in
    subst (λ (s : Submission). IsLeftSince (g.B.Leg.may_be_left b) m.b.history (changes_on_second (changes_by s (format_of a b) m))
    (g.B.Leg.moments c.args.mirror.now.b) (g.B.Leg.moments c.answer_of.new.mirror.b)) same (c.answer_of.ensures.second_moments a b m legs)

pub returns-in-Err-Memory-clause-second_moments : goal.returns-in-Err-Memory-clause-second_moments
returns-in-Err-Memory-clause-second_moments g c =
    λ a b m legs.
    let same = submission-is c.block_size-2.result (format_of a b).block_size (as_submission c.in-Ok.request) (ask_of c.args.ask.now) (c.block_size-2.ensures ∙ sym (g.met.A.Leg.same_size c.args.mirror.now.a a m.a legs.first)) c.in-Ok.ensures in
    subst (λ (s : Submission). IsLeftSince (g.B.Leg.may_be_left b) m.b.history (changes_on_second (changes_by s (format_of a b) m))
    (g.B.Leg.moments c.args.mirror.now.b) (g.B.Leg.moments c.answer_of.new.mirror.b)) same (c.answer_of.ensures.second_moments a b m legs)

pub returns-in-Ok-tell-clause-second_moments : goal.returns-in-Ok-tell-clause-second_moments
returns-in-Ok-tell-clause-second_moments g c =
    λ a b m legs.
    let same = submission-is c.block_size-2.result (format_of a b).block_size (as_submission c.in-Ok.request) (ask_of c.args.ask.now) (c.block_size-2.ensures ∙ sym (g.met.A.Leg.same_size c.args.mirror.now.a a m.a legs.first)) c.in-Ok.ensures in
    subst (λ (s : Submission). IsLeftSince (g.B.Leg.may_be_left b) m.b.history (changes_on_second (changes_by s (format_of a b) m))
    (g.B.Leg.moments c.args.mirror.now.b) (g.B.Leg.moments c.answer_of.new.mirror.b)) same (c.answer_of.ensures.second_moments a b m legs)

pub returns-in-Err-Memory-tell-clause-second_moments : goal.returns-in-Err-Memory-tell-clause-second_moments
returns-in-Err-Memory-tell-clause-second_moments g c =
    λ a b m legs.
    let same = submission-is c.block_size-2.result (format_of a b).block_size (as_submission c.in-Ok.request) (ask_of c.args.ask.now) (c.block_size-2.ensures ∙ sym (g.met.A.Leg.same_size c.args.mirror.now.a a m.a legs.first)) c.in-Ok.ensures in
    subst (λ (s : Submission). IsLeftSince (g.B.Leg.may_be_left b) m.b.history (changes_on_second (changes_by s (format_of a b) m))
    (g.B.Leg.moments c.args.mirror.now.b) (g.B.Leg.moments c.answer_of.new.mirror.b)) same (c.answer_of.ensures.second_moments a b m legs)

pub returns-clause-second_moments : goal.returns-clause-second_moments
returns-clause-second_moments g c =
    λ a b m legs.
    let same = submission-is c.block_size-2.result (format_of a b).block_size (as_submission c.in-Ok.request) (ask_of c.args.ask.now) (c.block_size-2.ensures ∙ sym (g.met.A.Leg.same_size c.args.mirror.now.a a m.a legs.first)) c.in-Ok.ensures in
    subst (λ (s : Submission). IsLeftSince (g.B.Leg.may_be_left b) m.b.history (changes_on_second (changes_by s (format_of a b) m))
    (g.B.Leg.moments c.args.mirror.now.b) (g.B.Leg.moments c.answer_of.new.mirror.b)) same (c.answer_of.ensures.second_moments a b m legs)
