use Rattle.std.proofs.Common.{inl, inr, ℕ, ◌≡◌, ◌⊎◌, ◌≤◌, Err, OnErr, OnOk, refl, sym, ◌∙◌, ap, subst, arith}
use Rattle.std.specs.Option.{option_map}
use Rattle.stream_io.specs.Stream.{AddsPrefix, with_bytes}
use Rattle.command_ending.specs.Ended.{ending_of}
use Rattle.command_task.specs.Telling.{last_text}
use Rattle.command_task.specs.declared.telling.Telling.{Telling}
use Rattle.integrity_tool.specs.Mirrored.{mirror_outset_in}
use Rattle.integrity_tool.proofs.MirrorLemmas.{mirror_complete, mirror_early, mirror_read_further}
use Rattle.script_text.specs.Found.{finds_fault}
use Rattle.command_ending.specs.declared.ended.Ended.{Ended}
use Rattle.integrity_tool.specs.Top.{outset_in}
use Rattle.command_model.specs.Status.{HasStatus}
use Rattle.command_model.specs.Given.{texts}
use Rattle.command_task.specs.Words.{asking_of, key_file_of_asking}
use Rattle.command_model.specs.World.{Counts}
use Rattle.command_task.proofs.EndedLemmas.{ok_no_err, not_ended}
use Rattle.integrity_tool.proofs.KeyLemmas.{was_read}
use Rattle.command_task.proofs.UnbegunLemmas.{read_in_further}
use Rattle.integrity_tool.proofs.TopLemmas.{complete_is_low, either_later, ended_is_high, image_refused, last_line_holds, memory_ended, status_complete, status_ended, tells_complete, tells_early, words_status}
use Rattle.command_task.proofs.RunningLemmas.{told_at_end}
use Rattle.integrity_tool.proofs.WorldLemmas.{key_file_kept}
use Rattle.integrity_tool.proofs.top_call.Outside.integrity.Goals as goal

pub returns-in-Ok-clause-given : goal.returns-in-Ok-clause-given
returns-in-Ok-clause-given g c given is =
    let runs = c.in-Ok.ensures.given given is in
    let now = told_at_end given.content is.content runs.moments.each in
    let old = c.args.self.now in
    let mid = c.run.new.self in
    let first : Counts = record {
      disk = g.D.Counted.faults old.disk.now;
      second = g.E.Counted.faults old.second.now;
      key = g.K.Counted.faults old.key.now;
      script = g.S.Counted.faults old.script.now;
      sink = g.O.Counted.faults old.out.now;
    } in
    let last : Counts = record {
      disk = g.D.Counted.faults mid.disk.now;
      second = g.E.Counted.faults mid.second.now;
      key = g.K.Counted.faults mid.key.now;
      script = g.S.Counted.faults mid.script.now;
      sink = g.O.Counted.faults mid.out.now;
    } in
    record {
      tells = λ before held.
          tells_complete given c.run.new.telling (finds_fault c.in-Ok.found) _ _ (g.O.Sink.held mid.out.now) _ before now.0 runs.runs held now.1 c.complete_status.ensures
          first last (c.in-Ok.ensures.counted.sink.passed (not_ended _ _ refl));
      moments = runs.moments;
      closed = λ low. runs.closed;
      unopened = λ memory. absurd (omega (arith, memory, c.complete_status.ensures, complete_is_low (finds_fault c.in-Ok.found)));
      ahead = runs.ahead;
    }

pub returns-in-Err-clause-given : goal.returns-in-Err-clause-given
returns-in-Err-clause-given g c given is =
    let runs = c.in-Err.ensures.given given is in
    let now = told_at_end given.content is.content runs.moments.each in
    let old = c.args.self.now in
    let mid = c.run.new.self in
    let first : Counts = record {
      disk = g.D.Counted.faults old.disk.now;
      second = g.E.Counted.faults old.second.now;
      key = g.K.Counted.faults old.key.now;
      script = g.S.Counted.faults old.script.now;
      sink = g.O.Counted.faults old.out.now;
    } in
    let before : Counts = record {
      disk = g.D.Counted.faults mid.disk.now;
      second = g.E.Counted.faults mid.second.now;
      key = g.K.Counted.faults mid.key.now;
      script = g.S.Counted.faults mid.script.now;
      sink = g.O.Counted.faults mid.out.now;
    } in
    record {
      tells = λ text held.
          tells_early given c.run.new.telling c.in-Err.ended _ _ (g.O.Sink.held mid.out.now) _ text now.0 runs.runs held now.1 c.status.ensures
          c.put_end.result _ first before (g.O.Counted.faults c.put_end.new.out)
          (c.in-Err.ensures.image_cause is.one) c.in-Err.ensures.counted
          c.put_end.ensures.cause c.put_end.ensures.written c.put_end.ensures.err;
      moments = runs.moments;
      closed = λ low. absurd (omega (arith, low, c.status.ensures, ended_is_high c.in-Err.ended));
      unopened = λ memory. runs.unopened (ap (λ (e : Ended). Err e) (memory_ended c.in-Err.ended (sym c.status.ensures ∙ memory)));
      ahead = read_in_further (outset_in given) given.script _ _ _ _ runs.ahead
          (last_line_holds c.put_end.result _ _ _ c.put_end.ensures.written c.put_end.ensures.err);
    }

pub returns-in-Ok-clause-mirrored : goal.returns-in-Ok-clause-mirrored
returns-in-Ok-clause-mirrored g c given is =
    let runs = c.in-Ok.ensures.mirrored given is in
    let now = told_at_end given.content is.content runs.moments.first in
    let second_now = told_at_end given.second_content is.second_content runs.moments.second in
    let old = c.args.self.now in
    let mid = c.run.new.self in
    let first : Counts = record {
      disk = g.D.Counted.faults old.disk.now;
      second = g.E.Counted.faults old.second.now;
      key = g.K.Counted.faults old.key.now;
      script = g.S.Counted.faults old.script.now;
      sink = g.O.Counted.faults old.out.now;
    } in
    let before : Counts = record {
      disk = g.D.Counted.faults mid.disk.now;
      second = g.E.Counted.faults mid.second.now;
      key = g.K.Counted.faults mid.key.now;
      script = g.S.Counted.faults mid.script.now;
      sink = g.O.Counted.faults mid.out.now;
    } in
    record {
      tells = λ text held.
          mirror_complete given (finds_fault c.in-Ok.found) _ _ _ (g.O.Sink.held mid.out.now) _ text now.0 second_now.0 runs.runs held now.1 second_now.1
          c.complete_status.ensures first before (c.in-Ok.ensures.counted.sink.passed (not_ended _ _ refl));
      moments = runs.moments.first;
      second_moments = runs.moments.second;
      ahead = runs.ahead;
    }

pub returns-in-Err-clause-mirrored : goal.returns-in-Err-clause-mirrored
returns-in-Err-clause-mirrored g c given is =
    let runs = c.in-Err.ensures.mirrored given is in
    let now = told_at_end given.content is.content runs.moments.first in
    let second_now = told_at_end given.second_content is.second_content runs.moments.second in
    let old = c.args.self.now in
    let mid = c.run.new.self in
    let first : Counts = record {
      disk = g.D.Counted.faults old.disk.now;
      second = g.E.Counted.faults old.second.now;
      key = g.K.Counted.faults old.key.now;
      script = g.S.Counted.faults old.script.now;
      sink = g.O.Counted.faults old.out.now;
    } in
    let before : Counts = record {
      disk = g.D.Counted.faults mid.disk.now;
      second = g.E.Counted.faults mid.second.now;
      key = g.K.Counted.faults mid.key.now;
      script = g.S.Counted.faults mid.script.now;
      sink = g.O.Counted.faults mid.out.now;
    } in
    let lines = λ (t : Telling). last_text t (ending_of c.in-Err.ended) in
    let written = subst (λ (t : Telling). OnOk c.put_end.result (g.O.Sink.held c.put_end.new.out
    ≡ option_map (with_bytes (lines t)) (g.O.Sink.held mid.out.now))) runs.lines c.put_end.ensures.written in
    let torn = subst (λ (t : Telling). OnErr c.put_end.result (AddsPrefix (lines t) (g.O.Sink.held mid.out.now)
    (g.O.Sink.held c.put_end.new.out))) runs.lines c.put_end.ensures.err in
    record {
      tells = λ text held.
          mirror_early given c.in-Err.ended _ _ _ (g.O.Sink.held mid.out.now) _ text now.0 second_now.0 runs.runs held now.1 second_now.1 c.status.ensures
          c.put_end.result _ first before (g.O.Counted.faults c.put_end.new.out) c.in-Err.ensures.cause c.in-Err.ensures.counted
          c.put_end.ensures.cause written torn;
      moments = runs.moments.first;
      second_moments = runs.moments.second;
      ahead = mirror_read_further (mirror_outset_in given) given.script _ _ _ _ runs.ahead
          (last_line_holds c.put_end.result _ _ _ c.put_end.ensures.written c.put_end.ensures.err);
    }

pub returns-in-Ok-clause-status : goal.returns-in-Ok-clause-status
returns-in-Ok-clause-status g c =
    status_complete _ _ _ (subst (λ (n : ℕ). n ≤ 1) (sym c.complete_status.ensures) (complete_is_low (finds_fault c.in-Ok.found)))
    c.in-Ok.found c.run.result c.in-Ok.is c.run.ensures.counted

pub returns-in-Err-clause-status : goal.returns-in-Err-clause-status
returns-in-Err-clause-status g c =
    let old = c.args.self.now in
    let mid = c.run.new.self in
    let first : Counts = record {
      disk = g.D.Counted.faults old.disk.now;
      second = g.E.Counted.faults old.second.now;
      key = g.K.Counted.faults old.key.now;
      script = g.S.Counted.faults old.script.now;
      sink = g.O.Counted.faults old.out.now;
    } in
    let before : Counts = record {
      disk = g.D.Counted.faults mid.disk.now;
      second = g.E.Counted.faults mid.second.now;
      key = g.K.Counted.faults mid.key.now;
      script = g.S.Counted.faults mid.script.now;
      sink = g.O.Counted.faults mid.out.now;
    } in
    let sink = g.O.Counted.faults c.put_end.new.out in
    let after : Counts = record before { sink = sink } in
    subst (λ (n : ℕ). HasStatus first after n) (sym c.status.ensures)
    (status_ended first before sink c.in-Err.ended (either_later first before sink c.put_end.ensures.cause.later _ c.in-Err.ensures.cause) c.in-Err.ensures.counted)

pub returns-in-Ok-clause-calls : goal.returns-in-Ok-clause-calls
returns-in-Ok-clause-calls g c = record {
  words = λ none. absurd (elim (c.in-Ok.ensures.calls.words none).0 [
    | inl is ↦ ok_no_err _ _ _ refl is
    | inr is ↦ ok_no_err _ _ _ refl is
  ]);
  key_first = c.in-Ok.ensures.calls.key_first;
  second = c.in-Ok.ensures.calls.second;
  unread = λ either. elim either [
    | inl is ↦ absurd (omega (arith, is, c.complete_status.ensures, complete_is_low (finds_fault c.in-Ok.found)))
    | inr none ↦ c.in-Ok.ensures.calls.unread (inr none)
  ];
}

pub returns-in-Err-clause-calls : goal.returns-in-Err-clause-calls
returns-in-Err-clause-calls g c = record {
  words = λ none.
      let touched = c.in-Err.ensures.calls.words none in (
        subst (λ (n : ℕ). (n ≡ 2) ⊎ (n ≡ 7)) (sym c.status.ensures) (words_status c.in-Err.ended _ refl touched.0),
        touched.1,
        touched.2,
      );
  key_first = c.in-Err.ensures.calls.key_first;
  second = c.in-Err.ensures.calls.second;
  unread = λ either. c.in-Err.ensures.calls.unread (elim either [
    | inl is ↦ inl (image_refused c.in-Err.ended (sym c.status.ensures ∙ is))
    | inr none ↦ inr none
  ]);
}

pub returns-in-Ok-clause-read : goal.returns-in-Ok-clause-read
returns-in-Ok-clause-read g c = record {
  key = key_file_kept _ _ c.run.new.self _ (key_file_of_asking (asking_of (texts c.args.words.now))) (λ read. tt) refl refl refl c.in-Ok.ensures.read.key;
  taken = c.in-Ok.ensures.read.taken;
}

pub returns-in-Err-clause-read : goal.returns-in-Err-clause-read
returns-in-Err-clause-read g c = record {
  key = key_file_kept _ _ c.run.new.self _ (key_file_of_asking (asking_of (texts c.args.words.now)))
      (λ read. was_read c.in-Err.ended (
        λ is. read.0 (c.status.ensures ∙ is),
        λ is. read.1 (c.status.ensures ∙ is),
      )) refl refl refl c.in-Err.ensures.read.key;
  taken = c.in-Err.ensures.read.taken;
}

pub returns-in-Ok-clause-image : goal.returns-in-Ok-clause-image
returns-in-Ok-clause-image g c = record {
  bound = λ low. c.in-Ok.ensures.image.bound refl;
  sectors = c.in-Ok.ensures.image.sectors;
  second_bound = λ low. c.in-Ok.ensures.image.second_bound refl;
  second_sectors = c.in-Ok.ensures.image.second_sectors;
}

pub returns-in-Err-clause-image : goal.returns-in-Err-clause-image
returns-in-Err-clause-image g c = record {
  bound = λ low. absurd (omega (arith, low, c.status.ensures, ended_is_high c.in-Err.ended));
  sectors = c.in-Err.ensures.image.sectors;
  second_bound = λ low. absurd (omega (arith, low, c.status.ensures, ended_is_high c.in-Err.ended));
  second_sectors = c.in-Err.ensures.image.second_sectors;
}
