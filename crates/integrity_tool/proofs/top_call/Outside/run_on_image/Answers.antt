use Rattle.std.proofs.Common.{◌≡◌, ℕ, List, Option, refl, sym, ap, ◌∙◌, subst, inl, inr}
use Rattle.std.specs.Option.{ForSome}
use Rattle.std.proofs.lemmas.Result.{err_from_is_err_and, on_ok_weaker}
use Rattle.disk_model.specs.Identity.{DiskIdentity, IsBoundTo, IsThere, NamedDisk}
use Rattle.disk_model.specs.Moments.{content_now}
use Rattle.run_model.specs.Ending.{Failed}
use Rattle.hmac_tag.specs.TagMaker.{key_of}
use Rattle.command_task.specs.declared.asked.Asking.{Asking}
use Rattle.command_task.specs.declared.asked.Asking.TheVariants.{OneImage}
use Rattle.command_task.specs.Running.{ending_by}
use Rattle.command_model.specs.Taken.{HasTaken}
use Rattle.command_task.specs.Serving.{most_taken_for}
use Rattle.integrity_tool.specs.Top.{outset_in}
use Rattle.command_task.specs.Words.{HasNoScript, image_name, image_of, key_file_of, key_file_of_asking}
use Rattle.command_task.proofs.EndedLemmas.{ok_no_err}
use Rattle.command_task.proofs.UnbegunLemmas.{read_none}
use Rattle.integrity_tool.proofs.StartLemmas.{closed_given, outside_first, ran_given, read_given, stopped_at_key}
use Rattle.command_run.proofs.TakenLemmas.{none_taken}
use Rattle.integrity_tool.proofs.TopLemmas.{told_there}
use Rattle.integrity_tool.proofs.WorldLemmas.{asked_one, key_file_read, no_command, no_second, of_error, right_key, unopened_given, unopened_same}
use Rattle.integrity_tool.proofs.top_call.Outside.run_on_image.Goals as goal
use Rattle.run_model.specs.declared.outer.Outer.TheVariants as outers

-- ---- what it is given

pub returns-in_err-hash-clause-given : goal.returns-in_err-hash-clause-given
returns-in_err-hash-clause-given g c command asks given is =
    let p = err_from_is_err_and c.from_residual.result c.from_residual.ensures.1 in
    let runs = stopped_at_key given _ _ is (g.O.Sink.held c.args.self.now.out.now) c.args.asked
    asks _ _ c.in_err-hash.field-0.0 c.in_err-hash.ensures.refused in
    rw (p.1, p.2, c.requires.lines) (record {
      runs = runs.0;
      moments = runs.1;
      closed = tt;
      unopened = λ memory same. unopened_same _ _;
      ahead = read_none (outset_in given) given.script _ _ is.script_is;
    })

pub returns-in_err-bind_image-clause-given : goal.returns-in_err-bind_image-clause-given
returns-in_err-bind_image-clause-given g c command asks given is =
    let old = g.D.Disk.named c.args.self.now.disk.now in
    let new = g.D.Disk.named c.bind_image.new.disk in
    let name : image_name command ≡ c.as_str.result.now = ap image_of asks ∙ sym c.as_str.ensures in
    let same : new (image_name command) ≡ old (image_name command) =
    subst (λ (n : List ℕ). ForSome (content_now (old n).moments) (λ d. new n ≡ old n)) (sym name) c.bind_image.ensures.same given.content is.content in
    let p = err_from_is_err_and c.from_residual-in_err-bind_image.result c.from_residual-in_err-bind_image.ensures.1 in
    let runs = outside_first given _ _ is (g.O.Sink.held c.args.self.now.out.now) (Failed outers.Disk) tt (new (image_name command)) (ap (λ (n : NamedDisk). n.moments) same) in
    rw (p.1, p.2, c.requires.lines, c.in_err-bind_image.ensures.disk.0) (record {
      runs = runs.0;
      moments = runs.1;
      closed = tt;
      unopened = λ memory. absurd (cc);
      ahead = read_none (outset_in given) given.script _ _ is.script_is;
    })

pub returns-clause-given : goal.returns-clause-given
returns-clause-given g c command asks given is =
    let old = g.D.Disk.named c.args.self.now.disk.now in
    let mid = c.bind_image.new.disk in
    let last = c.carry_out.new.disk in
    let name : image_name command ≡ c.as_str.result.now = ap image_of asks ∙ sym c.as_str.ensures in
    let found = subst (λ (n : List ℕ). IsThere (old n) (g.D.Disk.identity mid).sectors (g.D.Disk.moments mid)) (sym name) c.in_ok-bind_image.ensures.found in
    let bound = subst (λ (n : List ℕ). IsBoundTo n (g.D.Disk.identity mid).name) (sym name) c.in_ok-bind_image.ensures.bound in
    let there = found.is given.content is.content in
    let ends = g.met.D.Disk.named_if_bound last (image_name command) (subst (λ (d : DiskIdentity). IsBoundTo (image_name command) d.name) (sym c.carry_out.ensures.identity) bound) in
    let at_end = ap (λ (n : NamedDisk). n.moments) ends in
    let told = told_there there is.content in
    let held = g.O.Sink.held c.args.self.now.out.now in
    let runs = ran_given given _ _ is held c.args.asked asks (key_of c.in_ok-hash.hash) c.in_ok-hash.ensures.hash (g.D.Disk.identity mid).sectors (g.D.Disk.moments mid) (g.D.Disk.moments last)
    (g.D.Disk.named last (image_name command)) there at_end c.carry_out.new.telling (ending_by c.carry_out.result) (g.O.Sink.held c.carry_out.new.out)
    (c.carry_out.ensures.runs given.script is.script_is given.content told) in
    record {
      runs = runs.0;
      moments = runs.1;
      closed = on_ok_weaker c.carry_out.result (λ closes.
          closed_given given _ _ is held c.args.asked asks (key_of c.in_ok-hash.hash) c.in_ok-hash.ensures.hash (g.D.Disk.identity mid).sectors (g.D.Disk.moments mid) (g.D.Disk.moments last)
          (g.D.Disk.named last (image_name command)) there at_end (closes given.script is.script_is given.content told)) c.carry_out.ensures.closed;
      unopened = λ memory same.
          unopened_given c.args.asked _ (asked_one command c.args.asked asks) _ _ _ _ (ap (λ (n : NamedDisk). n.moments) there) at_end
          (c.carry_out.ensures.unread.unopened memory given.script is.script_is (same ∙ is.script_is));
      ahead = read_given given _ _ is held c.args.asked asks (key_of c.in_ok-hash.hash) c.in_ok-hash.ensures.hash (g.D.Disk.identity mid).sectors (g.D.Disk.moments mid) there _ _ _
          (c.carry_out.ensures.ahead given.script is.script_is given.content told);
    }

-- ---- what it calls

pub returns-in_err-hash-clause-calls : goal.returns-in_err-hash-clause-calls
returns-in_err-hash-clause-calls g c command asks = record {
  words = λ none. absurd (no_command command (OneImage c.args.asked) none asks);
  key_first = λ either. (refl, refl, refl);
  second = λ one. refl;
  unread = λ either. refl;
}

pub returns-in_err-bind_image-clause-calls : goal.returns-in_err-bind_image-clause-calls
returns-in_err-bind_image-clause-calls g c command asks = record {
  words = λ none. absurd (no_command command (OneImage c.args.asked) none asks);
  key_first = λ either. absurd (elim either [
    | inl wrong ↦ right_key _ _ (OneImage c.args.asked) (key_of c.in_ok-hash.hash) asks c.in_ok-hash.ensures.hash wrong
    | inr rose ↦ rose (c.in_ok-hash.ensures.counted.passed (λ is. ok_no_err _ _ _ refl is))
  ]);
  second = λ one. refl;
  unread = λ either. refl;
}

pub returns-clause-calls : goal.returns-clause-calls
returns-clause-calls g c command asks = record {
  words = λ none. absurd (no_command command (OneImage c.args.asked) none asks);
  key_first = λ either. absurd (elim either [
    | inl wrong ↦ right_key _ _ (OneImage c.args.asked) (key_of c.in_ok-hash.hash) asks c.in_ok-hash.ensures.hash wrong
    | inr rose ↦ rose (c.in_ok-hash.ensures.counted.passed (λ is. ok_no_err _ _ _ refl is))
  ]);
  second = λ one. refl;
  unread = λ either. elim either [
    | inl before ↦ of_error _ _ c.carry_out.result c.carry_out.ensures.unread.before before
    | inr none ↦ c.carry_out.ensures.unread.none (subst HasNoScript asks none)
  ];
}

-- ---- what it reads

pub returns-clause-read : goal.returns-clause-read
returns-clause-read g c command asks = record {
  key = key_file_read _ g.K.NamedSource.named g.K.NamedSource.left _ _ (key_file_of c.args.asked.hash) _ (ap key_file_of_asking asks)
      (λ read. tt) refl refl refl c.in_ok-hash.ensures.read;
  taken = subst (λ (o : Option Asking). HasTaken (most_taken_for o) (g.S.Source.left c.args.self.now.script.now) (g.S.Source.left c.carry_out.new.script)) (sym asks)
      c.carry_out.ensures.taken;
}

-- ---- its image

pub returns-in_err-hash-clause-image : goal.returns-in_err-hash-clause-image
returns-in_err-hash-clause-image g c command asks =
    let p = err_from_is_err_and c.from_residual.result c.from_residual.ensures.1 in
    rw (p.1, p.2) (record {
      bound = λ ok. absurd (cc);
      sectors = λ content told. refl;
      second_bound = λ ok. absurd (cc);
      second_sectors = λ name names. absurd (no_second command c.args.asked asks name names);
    })

pub returns-in_err-bind_image-clause-image : goal.returns-in_err-bind_image-clause-image
returns-in_err-bind_image-clause-image g c command asks =
    let old = g.D.Disk.named c.args.self.now.disk.now in
    let new = g.D.Disk.named c.bind_image.new.disk in
    let p = err_from_is_err_and c.from_residual-in_err-bind_image.result c.from_residual-in_err-bind_image.ensures.1 in
    let name : image_name command ≡ c.as_str.result.now = ap image_of asks ∙ sym c.as_str.ensures in
    rw (p.1, p.2) (record {
      bound = λ ok. absurd (cc);
      sectors = λ content told. ap (λ (n : NamedDisk). n.sectors)
          (subst (λ (n : List ℕ). ForSome (content_now (old n).moments) (λ d. new n ≡ old n)) (sym name) c.bind_image.ensures.same content told);
      second_bound = λ ok. absurd (cc);
      second_sectors = λ name names. absurd (no_second command c.args.asked asks name names);
    })

pub returns-clause-image : goal.returns-clause-image
returns-clause-image g c command asks =
    let old = g.D.Disk.named c.args.self.now.disk.now in
    let mid = c.bind_image.new.disk in
    let name : image_name command ≡ c.as_str.result.now = ap image_of asks ∙ sym c.as_str.ensures in
    let found = subst (λ (n : List ℕ). IsThere (old n) (g.D.Disk.identity mid).sectors (g.D.Disk.moments mid)) (sym name) c.in_ok-bind_image.ensures.found in
    let bound = subst (λ (n : List ℕ). IsBoundTo n (g.D.Disk.identity mid).name) (sym name) c.in_ok-bind_image.ensures.bound in
    let still = subst (λ (d : DiskIdentity). IsBoundTo (image_name command) d.name) (sym c.carry_out.ensures.identity) bound in
    let ends = g.met.D.Disk.named_if_bound c.carry_out.new.disk (image_name command) still in
    record {
      bound = λ ok. still;
      sectors = λ content told.
          ap (λ (n : NamedDisk). n.sectors) ends ∙ ap (λ (d : DiskIdentity). d.sectors) c.carry_out.ensures.identity
          ∙ sym (ap (λ (n : NamedDisk). n.sectors) (found.is content told));
      second_bound = λ ok name names. absurd (no_second command c.args.asked asks name names);
      second_sectors = λ name names. absurd (no_second command c.args.asked asks name names);
    }

pub returns-in_err-hash-clause-read : goal.returns-in_err-hash-clause-read
returns-in_err-hash-clause-read g c command asks =
    let p = err_from_is_err_and c.from_residual.result c.from_residual.ensures.1 in
    rw (p.1, p.2) (record {
      key = key_file_read _ g.K.NamedSource.named g.K.NamedSource.left _ _ (key_file_of c.args.asked.hash) _ (ap key_file_of_asking asks)
          (λ read. read) refl refl refl c.in_err-hash.ensures.read;
      taken = none_taken _ _ _ refl;
    })

pub returns-in_err-bind_image-clause-read : goal.returns-in_err-bind_image-clause-read
returns-in_err-bind_image-clause-read g c command asks = record {
  key = key_file_read _ g.K.NamedSource.named g.K.NamedSource.left _ _ (key_file_of c.args.asked.hash) _ (ap key_file_of_asking asks)
      (λ read. tt) refl refl refl c.in_ok-hash.ensures.read;
  taken = none_taken _ _ _ refl;
}
