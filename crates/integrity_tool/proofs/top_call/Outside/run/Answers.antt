use Rattle.std.proofs.Common.{◌∙◌, Some, Err, refl, ap}
use Rattle.std.proofs.lemmas.Result.{err_from_is_err_and}
use Rattle.command_task.specs.declared.asked.Asking.{Asking}
use Rattle.command_task.proofs.UnbegunLemmas.{read_none}
use Rattle.command_run.proofs.TakenLemmas.{none_taken}
use Rattle.integrity_tool.specs.Top.{outset_in}
use Rattle.command_model.specs.Given.{texts}
use Rattle.integrity_tool.proofs.KeyLemmas.{words_unread}
use Rattle.integrity_tool.specs.Mirrored.{mirror_outset_in}
use Rattle.integrity_tool.proofs.MirrorStartLemmas.{mirror_at_words, mirror_read_none}
use Rattle.integrity_tool.proofs.StartLemmas.{stopped_at_words}
use Rattle.integrity_tool.proofs.WorldLemmas.{err_words, key_file_read, no_mirror, no_one_image, unopened_same}
use Rattle.integrity_tool.proofs.top_call.Outside.run.Goals as goal

-- ---- what it is given

pub returns-in_err-asking-clause-given : goal.returns-in_err-asking-clause-given
returns-in_err-asking-clause-given g c given is =
    let p = err_from_is_err_and c.from_residual.result c.from_residual.ensures.1 in
    let runs = stopped_at_words given _ _ is (g.O.Sink.held c.args.self.now.out.now) c.in_err-asking.field-0.0
    c.in_err-asking.ensures.errors (λ e. c.in_err-asking.ensures.words (ap (λ x. Err x) e)) in
    rw (p.1, p.2, c.requires.lines) (record {
      runs = runs.0;
      moments = runs.1;
      closed = tt;
      unopened = λ memory same. unopened_same _ _;
      ahead = read_none (outset_in given) given.script _ _ is.script_is;
    })

pub returns-in-OneImage-clause-given : goal.returns-in-OneImage-clause-given
returns-in-OneImage-clause-given g c =
    c.run_on_image.ensures.given (texts c.args.words.now) (c.in_ok-asking.ensures.asked ∙ ap (λ (a : Asking). Some a) c.in-OneImage.is)

pub returns-in-TwoImages-clause-given : goal.returns-in-TwoImages-clause-given
returns-in-TwoImages-clause-given g c given is =
    absurd (no_one_image (texts c.args.words.now) c.in-TwoImages.asked
    (c.in_ok-asking.ensures.asked ∙ ap (λ (a : Asking). Some a) c.in-TwoImages.is) is.one)

-- ---- what a mirror is given

pub returns-in_err-asking-clause-mirrored : goal.returns-in_err-asking-clause-mirrored
returns-in_err-asking-clause-mirrored g c given is =
    let p = err_from_is_err_and c.from_residual.result c.from_residual.ensures.1 in
    let came = mirror_at_words given _ _ is (g.O.Sink.held c.args.self.now.out.now) c.in_err-asking.field-0.0
    c.in_err-asking.ensures.errors (λ e. c.in_err-asking.ensures.words (ap (λ x. Err x) e)) in
    rw (p.1, p.2) (record {
      lines = c.requires.lines;
      runs = came.0;
      moments = came.1;
      ahead = mirror_read_none (mirror_outset_in given) given.script _ _ is.script_is;
    })

pub returns-in-OneImage-clause-mirrored : goal.returns-in-OneImage-clause-mirrored
returns-in-OneImage-clause-mirrored g c given is =
    absurd (no_mirror (texts c.args.words.now) c.in-OneImage.asked
    (c.in_ok-asking.ensures.asked ∙ ap (λ (a : Asking). Some a) c.in-OneImage.is) given.asked is.asks)

pub returns-in-TwoImages-clause-mirrored : goal.returns-in-TwoImages-clause-mirrored
returns-in-TwoImages-clause-mirrored g c =
    rw c.requires.lines (c.run_on_both.ensures.mirrored (texts c.args.words.now)
    (c.in_ok-asking.ensures.asked ∙ ap (λ (a : Asking). Some a) c.in-TwoImages.is))

-- ---- what it calls, reads, and is on

pub returns-in_err-asking-clause-calls : goal.returns-in_err-asking-clause-calls
returns-in_err-asking-clause-calls g c =
    let p = err_from_is_err_and c.from_residual.result c.from_residual.ensures.1 in
    rw (p.1, p.2) (record {
      words = λ none. (err_words _ c.in_err-asking.field-0.0 refl c.in_err-asking.ensures.errors, refl, (refl, refl, refl));
      key_first = λ either. (refl, refl, refl);
      second = λ one. refl;
      unread = λ either. refl;
    })

pub returns-in_err-asking-clause-read : goal.returns-in_err-asking-clause-read
returns-in_err-asking-clause-read g c =
    let p = err_from_is_err_and c.from_residual.result c.from_residual.ensures.1 in
    rw (p.1, p.2) (record {
      key = key_file_read _ g.K.NamedSource.named g.K.NamedSource.left c.args.self.now c.args.self.now _ _ refl (λ read. read) refl refl refl
          (words_unread (texts c.args.words.now) g.K.NamedSource.named g.K.NamedSource.left c.args.self.now.key.now _
          c.in_err-asking.ensures.errors (λ e. c.in_err-asking.ensures.words (ap (λ x. Err x) e)));
      taken = none_taken _ _ _ refl;
    })

pub returns-in-OneImage-clause-calls : goal.returns-in-OneImage-clause-calls
returns-in-OneImage-clause-calls g c =
    c.run_on_image.ensures.calls (texts c.args.words.now) (c.in_ok-asking.ensures.asked ∙ ap (λ (a : Asking). Some a) c.in-OneImage.is)

pub returns-in-TwoImages-clause-calls : goal.returns-in-TwoImages-clause-calls
returns-in-TwoImages-clause-calls g c =
    c.run_on_both.ensures.calls (texts c.args.words.now) (c.in_ok-asking.ensures.asked ∙ ap (λ (a : Asking). Some a) c.in-TwoImages.is)

pub returns-in-OneImage-clause-read : goal.returns-in-OneImage-clause-read
returns-in-OneImage-clause-read g c =
    c.run_on_image.ensures.read (texts c.args.words.now) (c.in_ok-asking.ensures.asked ∙ ap (λ (a : Asking). Some a) c.in-OneImage.is)

pub returns-in-TwoImages-clause-read : goal.returns-in-TwoImages-clause-read
returns-in-TwoImages-clause-read g c =
    c.run_on_both.ensures.read (texts c.args.words.now) (c.in_ok-asking.ensures.asked ∙ ap (λ (a : Asking). Some a) c.in-TwoImages.is)

pub returns-in-OneImage-clause-image : goal.returns-in-OneImage-clause-image
returns-in-OneImage-clause-image g c =
    c.run_on_image.ensures.image (texts c.args.words.now) (c.in_ok-asking.ensures.asked ∙ ap (λ (a : Asking). Some a) c.in-OneImage.is)

pub returns-in-TwoImages-clause-image : goal.returns-in-TwoImages-clause-image
returns-in-TwoImages-clause-image g c =
    c.run_on_both.ensures.image (texts c.args.words.now) (c.in_ok-asking.ensures.asked ∙ ap (λ (a : Asking). Some a) c.in-TwoImages.is)

-- ---- what ends it on one image

pub returns-in-OneImage-clause-image_cause : goal.returns-in-OneImage-clause-image_cause
returns-in-OneImage-clause-image_cause g c one = c.run_on_image.ensures.image_cause

pub returns-in-TwoImages-clause-image_cause : goal.returns-in-TwoImages-clause-image_cause
returns-in-TwoImages-clause-image_cause g c one =
    absurd (no_one_image (texts c.args.words.now) c.in-TwoImages.asked
    (c.in_ok-asking.ensures.asked ∙ ap (λ (a : Asking). Some a) c.in-TwoImages.is) one)
