use Rattle.std.proofs.Common.{◌≡◌, ◌∙◌, ℕ, List, Option, Some, refl, sym, ap, subst, inl, inr}
use Rattle.std.specs.Option.{ForSome}
use Rattle.std.proofs.lemmas.Result.{err_from_is_err_and}
use Rattle.disk_model.specs.Identity.{DiskIdentity, IsBoundTo, IsThere, NamedDisk}
use Rattle.disk_model.specs.Moments.{content_now}
use Rattle.run_model.specs.Ending.{Failed}
use Rattle.run_model.specs.declared.outer.Outer.TheVariants as outers
use Rattle.hmac_tag.specs.TagMaker.{key_of}
use Rattle.command_task.specs.declared.asked.Asking.{Asking}
use Rattle.command_task.specs.declared.asked.Asking.TheVariants.{TwoImages}
use Rattle.command_task.specs.declared.asked.AskedMirror.{AskedMirror}
use Rattle.command_task.specs.Running.{ending_by}
use Rattle.command_task.specs.Serving.{most_taken_for}
use Rattle.command_task.specs.Words.{HasNoScript, image_name, image_of, key_file_of, key_file_of_asking, second_name}
use Rattle.command_task.proofs.EndedLemmas.{ok_no_err}
use Rattle.command_run.proofs.TakenLemmas.{none_taken}
use Rattle.command_model.specs.Taken.{HasTaken}
use Rattle.integrity_tool.specs.KeyFile.{HasHash, IsKeyed}
use Rattle.integrity_tool.specs.Mirrored.{mirror_outset_in}
use Rattle.integrity_tool.proofs.MirrorStartLemmas.{mirror_at_key, mirror_read_given, mirror_read_none, mirrored_given, outside_before, same_mirror}
use Rattle.integrity_tool.proofs.TopLemmas.{told_there}
use Rattle.integrity_tool.proofs.WorldLemmas.{key_file_read, named_second, no_command, no_one_image, of_error, right_key, still_bound, still_sized}
use Rattle.integrity_tool.proofs.top_call.Outside.run_on_both.Goals as goal

-- ---- what it is given

pub returns-in_err-hash-clause-mirrored : goal.returns-in_err-hash-clause-mirrored
returns-in_err-hash-clause-mirrored g c command asks given is =
    let p = err_from_is_err_and c.from_residual.result c.from_residual.ensures.1 in
    let same = same_mirror command c.args.asked given asks _ is in
    let came = mirror_at_key given _ _ is (g.O.Sink.held c.args.self.now.out.now) c.args.asked same _ _ c.in_err-hash.field-0.0
    c.in_err-hash.ensures.refused in
    rw (p.1, p.2) (record { lines = refl; runs = came.0; moments = came.1; ahead = mirror_read_none (mirror_outset_in given) given.script _ _ is.script_is })

pub returns-in_err-bind_leg-clause-mirrored : goal.returns-in_err-bind_leg-clause-mirrored
returns-in_err-bind_leg-clause-mirrored g c command asks given is =
    let p = err_from_is_err_and c.from_residual-in_err-bind_leg.result c.from_residual-in_err-bind_leg.ensures.1 in
    let same = same_mirror command c.args.asked given asks _ is in
    let old = g.D.Disk.named c.args.self.now.disk.now in
    let new = g.D.Disk.named c.bind_leg.new.disk in
    let name : given.asked.image ≡ c.as_str.result.now = ap (λ (a : AskedMirror). a.image) same ∙ sym c.as_str.ensures in
    let kept : new given.asked.image ≡ old given.asked.image =
    subst (λ (n : List ℕ). ForSome (content_now (old n).moments) (λ d. new n ≡ old n)) (sym name) c.bind_leg.ensures.same given.content is.content in
    let came = outside_before given _ _ is (g.O.Sink.held c.args.self.now.out.now) (Failed outers.Disk) tt _ _ (ap (λ (n : NamedDisk). n.moments) kept) refl in
    rw (p.1, p.2, c.in_err-bind_leg.ensures.disk.0) (record {
      lines = refl;
      runs = came.0;
      moments = came.1;
      ahead = mirror_read_none (mirror_outset_in given) given.script _ _ is.script_is;
    })

-- The same behind the first disk, which is bound by then: what stood under its name stands there.
pub returns-in_err-bind_leg-2-clause-mirrored : goal.returns-in_err-bind_leg-2-clause-mirrored
returns-in_err-bind_leg-2-clause-mirrored g c command asks given is =
    let p = err_from_is_err_and c.from_residual-in_err-bind_leg-2.result c.from_residual-in_err-bind_leg-2.ensures.1 in
    let same = same_mirror command c.args.asked given asks _ is in
    let old = g.D.Disk.named c.args.self.now.disk.now in
    let mid = c.bind_leg.new.disk in
    let name : given.asked.image ≡ c.as_str.result.now = ap (λ (a : AskedMirror). a.image) same ∙ sym c.as_str.ensures in
    let found = subst (λ (n : List ℕ). IsThere (old n) (g.D.Disk.identity mid).sectors (g.D.Disk.moments mid)) (sym name) c.in_ok-bind_leg.ensures.found in
    let bound = subst (λ (n : List ℕ). IsBoundTo n (g.D.Disk.identity mid).name) (sym name) c.in_ok-bind_leg.ensures.bound in
    let kept = g.met.D.Disk.named_if_bound mid given.asked.image bound ∙ sym (found.is given.content is.content) in
    let second_old = g.E.Disk.named c.args.self.now.second.now in
    let second_new = g.E.Disk.named c.bind_leg-2.new.disk in
    let second_is : given.asked.second ≡ c.as_str-2.result.now = ap (λ (a : AskedMirror). a.second) same ∙ sym c.as_str-2.ensures in
    let second_kept : second_new given.asked.second ≡ second_old given.asked.second =
    subst (λ (n : List ℕ). ForSome (content_now (second_old n).moments) (λ d. second_new n ≡ second_old n)) (sym second_is)
    c.bind_leg-2.ensures.same given.second_content is.second_content in
    let came = outside_before given _ _ is (g.O.Sink.held c.args.self.now.out.now) (Failed outers.Disk) tt _ _
    (ap (λ (n : NamedDisk). n.moments) kept) (ap (λ (n : NamedDisk). n.moments) second_kept) in
    rw (p.1, p.2, c.in_err-bind_leg-2.ensures.disk.0) (record {
      lines = refl;
      runs = came.0;
      moments = came.1;
      ahead = mirror_read_none (mirror_outset_in given) given.script _ _ is.script_is;
    })

pub returns-clause-mirrored : goal.returns-clause-mirrored
returns-clause-mirrored g c command asks given is =
    let same = same_mirror command c.args.asked given asks _ is in
    let key = key_of c.in_ok-hash.hash in
    let keyed = subst (λ (a : AskedMirror). IsKeyed (key_file_of a.hash) (g.K.NamedSource.named c.args.self.now.key.now) (HasHash key)) (sym same)
    c.in_ok-hash.ensures.hash in
    let held = g.O.Sink.held c.args.self.now.out.now in
    let mid = c.bind_leg.new.disk in
    let last = c.mirror_images.new.disk in
    let name : given.asked.image ≡ c.as_str.result.now = ap (λ (a : AskedMirror). a.image) same ∙ sym c.as_str.ensures in
    let found = subst (λ (n : List ℕ). IsThere (g.D.Disk.named c.args.self.now.disk.now n) (g.D.Disk.identity mid).sectors (g.D.Disk.moments mid))
    (sym name) c.in_ok-bind_leg.ensures.found in
    let bound = subst (λ (n : List ℕ). IsBoundTo n (g.D.Disk.identity mid).name) (sym name) c.in_ok-bind_leg.ensures.bound in
    let there = found.is given.content is.content in
    let ends = g.met.D.Disk.named_if_bound last given.asked.image
    (subst (λ (d : DiskIdentity). IsBoundTo given.asked.image d.name) (sym c.mirror_images.ensures.identity) bound) in
    let second_mid = c.bind_leg-2.new.disk in
    let second_last = c.mirror_images.new.second in
    let second_is : given.asked.second ≡ c.as_str-2.result.now = ap (λ (a : AskedMirror). a.second) same ∙ sym c.as_str-2.ensures in
    let second_found = subst (λ (n : List ℕ). IsThere (g.E.Disk.named c.args.self.now.second.now n) (g.E.Disk.identity second_mid).sectors
    (g.E.Disk.moments second_mid)) (sym second_is) c.in_ok-bind_leg-2.ensures.found in
    let second_bound = subst (λ (n : List ℕ). IsBoundTo n (g.E.Disk.identity second_mid).name) (sym second_is) c.in_ok-bind_leg-2.ensures.bound in
    let second_there = second_found.is given.second_content is.second_content in
    let second_ends = g.met.E.Disk.named_if_bound second_last given.asked.second
    (subst (λ (d : DiskIdentity). IsBoundTo given.asked.second d.name) (sym c.mirror_images.ensures.second_identity) second_bound) in
    let ran = c.mirror_images.ensures.runs given.script is.script_is given.content (told_there there is.content)
    given.second_content (told_there second_there is.second_content) in
    let read = c.mirror_images.ensures.read.1 given.script is.script_is given.content (told_there there is.content)
    given.second_content (told_there second_there is.second_content) in
    let runs = mirrored_given given _ _ is held c.args.asked same key keyed (g.D.Disk.identity mid).sectors (g.E.Disk.identity second_mid).sectors
    (g.D.Disk.moments mid) (g.E.Disk.moments second_mid) there second_there (g.D.Disk.moments last) (g.E.Disk.moments second_last)
    (g.D.Disk.named last given.asked.image) (g.E.Disk.named second_last given.asked.second)
    (ap (λ (n : NamedDisk). n.moments) ends) (ap (λ (n : NamedDisk). n.moments) second_ends) (ending_by c.mirror_images.result)
    (g.O.Sink.held c.mirror_images.new.out) ran in
    record {
      lines = refl;
      runs = runs.0;
      moments = runs.1;
      ahead = mirror_read_given given _ _ is held c.args.asked same key keyed (g.D.Disk.identity mid).sectors (g.E.Disk.identity second_mid).sectors
          (g.D.Disk.moments mid) (g.E.Disk.moments second_mid) there second_there _ _ _ read;
    }

-- ---- what it calls

pub returns-in_err-hash-clause-calls : goal.returns-in_err-hash-clause-calls
returns-in_err-hash-clause-calls g c command asks = record {
  words = λ none. absurd (no_command command (TwoImages c.args.asked) none asks);
  key_first = λ either. (refl, refl, refl);
  second = λ one. absurd (no_one_image command c.args.asked asks one);
  unread = λ either. refl;
}

pub returns-in_err-bind_leg-clause-calls : goal.returns-in_err-bind_leg-clause-calls
returns-in_err-bind_leg-clause-calls g c command asks = record {
  words = λ none. absurd (no_command command (TwoImages c.args.asked) none asks);
  key_first = λ either. absurd (elim either [
    | inl wrong ↦ right_key _ _ (TwoImages c.args.asked) (key_of c.in_ok-hash.hash) asks c.in_ok-hash.ensures.hash wrong
    | inr rose ↦ rose (c.in_ok-hash.ensures.counted.passed (λ is. ok_no_err _ _ _ refl is))
  ]);
  second = λ one. absurd (no_one_image command c.args.asked asks one);
  unread = λ either. refl;
}

pub returns-in_err-bind_leg-2-clause-calls : goal.returns-in_err-bind_leg-2-clause-calls
returns-in_err-bind_leg-2-clause-calls g c command asks = record {
  words = λ none. absurd (no_command command (TwoImages c.args.asked) none asks);
  key_first = λ either. absurd (elim either [
    | inl wrong ↦ right_key _ _ (TwoImages c.args.asked) (key_of c.in_ok-hash.hash) asks c.in_ok-hash.ensures.hash wrong
    | inr rose ↦ rose (c.in_ok-hash.ensures.counted.passed (λ is. ok_no_err _ _ _ refl is))
  ]);
  second = λ one. absurd (no_one_image command c.args.asked asks one);
  unread = λ either. refl;
}

pub returns-clause-calls : goal.returns-clause-calls
returns-clause-calls g c command asks = record {
  words = λ none. absurd (no_command command (TwoImages c.args.asked) none asks);
  key_first = λ either. absurd (elim either [
    | inl wrong ↦ right_key _ _ (TwoImages c.args.asked) (key_of c.in_ok-hash.hash) asks c.in_ok-hash.ensures.hash wrong
    | inr rose ↦ rose (c.in_ok-hash.ensures.counted.passed (λ is. ok_no_err _ _ _ refl is))
  ]);
  second = λ one. absurd (no_one_image command c.args.asked asks one);
  unread = λ either. elim either [
    | inl before ↦ of_error _ _ c.mirror_images.result c.mirror_images.ensures.unread before
    | inr none ↦ absurd (subst HasNoScript asks none)
  ];
}

-- ---- what it reads

pub returns-in_err-hash-clause-read : goal.returns-in_err-hash-clause-read
returns-in_err-hash-clause-read g c command asks =
    let p = err_from_is_err_and c.from_residual.result c.from_residual.ensures.1 in
    rw (p.1, p.2) (record {
      key = key_file_read _ g.K.NamedSource.named g.K.NamedSource.left _ _ (key_file_of c.args.asked.hash) _ (ap key_file_of_asking asks)
          (λ read. read) refl refl refl c.in_err-hash.ensures.read;
      taken = none_taken _ _ _ refl;
    })

pub returns-in_err-bind_leg-clause-read : goal.returns-in_err-bind_leg-clause-read
returns-in_err-bind_leg-clause-read g c command asks = record {
  key = key_file_read _ g.K.NamedSource.named g.K.NamedSource.left _ _ (key_file_of c.args.asked.hash) _ (ap key_file_of_asking asks)
      (λ read. tt) refl refl refl c.in_ok-hash.ensures.read;
  taken = none_taken _ _ _ refl;
}

pub returns-in_err-bind_leg-2-clause-read : goal.returns-in_err-bind_leg-2-clause-read
returns-in_err-bind_leg-2-clause-read g c command asks = record {
  key = key_file_read _ g.K.NamedSource.named g.K.NamedSource.left _ _ (key_file_of c.args.asked.hash) _ (ap key_file_of_asking asks)
      (λ read. tt) refl refl refl c.in_ok-hash.ensures.read;
  taken = none_taken _ _ _ refl;
}

pub returns-clause-read : goal.returns-clause-read
returns-clause-read g c command asks = record {
  key = key_file_read _ g.K.NamedSource.named g.K.NamedSource.left _ _ (key_file_of c.args.asked.hash) _ (ap key_file_of_asking asks)
      (λ read. tt) refl refl refl c.in_ok-hash.ensures.read;
  taken = subst (λ (o : Option Asking). HasTaken (most_taken_for o) (g.S.Source.left c.args.self.now.script.now) (g.S.Source.left c.mirror_images.new.script))
      (sym asks) c.mirror_images.ensures.read.0;
}

-- ---- its images

pub returns-in_err-hash-clause-image : goal.returns-in_err-hash-clause-image
returns-in_err-hash-clause-image g c command asks =
    let p = err_from_is_err_and c.from_residual.result c.from_residual.ensures.1 in
    rw (p.1, p.2) (record {
      bound = λ ok. absurd (cc);
      sectors = λ content told. refl;
      second_bound = λ ok. absurd (cc);
      second_sectors = λ name names content told. refl;
    })

pub returns-in_err-bind_leg-clause-image : goal.returns-in_err-bind_leg-clause-image
returns-in_err-bind_leg-clause-image g c command asks =
    let old = g.D.Disk.named c.args.self.now.disk.now in
    let new = g.D.Disk.named c.bind_leg.new.disk in
    let p = err_from_is_err_and c.from_residual-in_err-bind_leg.result c.from_residual-in_err-bind_leg.ensures.1 in
    let name : image_name command ≡ c.as_str.result.now = ap image_of asks ∙ sym c.as_str.ensures in
    rw (p.1, p.2) (record {
      bound = λ ok. absurd (cc);
      sectors = λ content told. ap (λ (n : NamedDisk). n.sectors)
          (subst (λ (n : List ℕ). ForSome (content_now (old n).moments) (λ d. new n ≡ old n)) (sym name) c.bind_leg.ensures.same content told);
      second_bound = λ ok. absurd (cc);
      second_sectors = λ name_ names content told. refl;
    })

pub returns-in_err-bind_leg-2-clause-image : goal.returns-in_err-bind_leg-2-clause-image
returns-in_err-bind_leg-2-clause-image g c command asks =
    let old = g.D.Disk.named c.args.self.now.disk.now in
    let mid = c.bind_leg.new.disk in
    let second_old = g.E.Disk.named c.args.self.now.second.now in
    let second_new = g.E.Disk.named c.bind_leg-2.new.disk in
    let p = err_from_is_err_and c.from_residual-in_err-bind_leg-2.result c.from_residual-in_err-bind_leg-2.ensures.1 in
    let name : image_name command ≡ c.as_str.result.now = ap image_of asks ∙ sym c.as_str.ensures in
    let found = subst (λ (n : List ℕ). IsThere (old n) (g.D.Disk.identity mid).sectors (g.D.Disk.moments mid)) (sym name) c.in_ok-bind_leg.ensures.found in
    let bound = subst (λ (n : List ℕ). IsBoundTo n (g.D.Disk.identity mid).name) (sym name) c.in_ok-bind_leg.ensures.bound in
    let ends = g.met.D.Disk.named_if_bound mid (image_name command) bound in
    rw (p.1, p.2) (record {
      bound = λ ok. absurd (cc);
      sectors = λ content told. ap (λ (n : NamedDisk). n.sectors) (ends ∙ sym (found.is content told));
      second_bound = λ ok. absurd (cc);
      second_sectors = λ second names content told.
          let is : second ≡ c.as_str-2.result.now = named_second command c.args.asked asks second names ∙ sym c.as_str-2.ensures in
          ap (λ (n : NamedDisk). n.sectors)
          (subst (λ (n : List ℕ). ForSome (content_now (second_old n).moments) (λ d. second_new n ≡ second_old n)) (sym is)
          c.bind_leg-2.ensures.same content told);
    })

pub returns-clause-image : goal.returns-clause-image
returns-clause-image g c command asks =
    let mid = c.bind_leg.new.disk in
    let second_mid = c.bind_leg-2.new.disk in
    let name : image_name command ≡ c.as_str.result.now = ap image_of asks ∙ sym c.as_str.ensures in
    let on_second : (second : List ℕ) → second_name command ≡ Some second → second ≡ c.as_str-2.result.now =
    λ second names. named_second command c.args.asked asks second names ∙ sym c.as_str-2.ensures in
    record {
      bound = λ ok. still_bound name c.in_ok-bind_leg.ensures.bound c.mirror_images.ensures.identity;
      sectors = λ content told.
          still_sized g.D.Disk.identity g.D.Disk.moments g.D.Disk.named g.met.D.Disk.named_if_bound c.args.self.now.disk.now mid
          c.mirror_images.new.disk name c.in_ok-bind_leg.ensures.bound c.in_ok-bind_leg.ensures.found c.mirror_images.ensures.identity content told;
      second_bound = λ ok second names.
          still_bound (on_second second names) c.in_ok-bind_leg-2.ensures.bound c.mirror_images.ensures.second_identity;
      second_sectors = λ second names content told.
          still_sized g.E.Disk.identity g.E.Disk.moments g.E.Disk.named g.met.E.Disk.named_if_bound c.args.self.now.second.now second_mid
          c.mirror_images.new.second (on_second second names) c.in_ok-bind_leg-2.ensures.bound c.in_ok-bind_leg-2.ensures.found
          c.mirror_images.ensures.second_identity content told;
    }
