use Rattle.std.proofs.Common.{true, false, sym, ◌∙◌, ap}
use Rattle.image_format.proofs.FormatLemmas.{bitmap_now}
use Rattle.hmac_tag.specs.TagMaker.{TagRule, key_of}
use Rattle.judging_model.specs.Faults.{lacks_consent}
use Rattle.device_opening.specs.Judged.{rule_of}
use Rattle.device_opening.proofs.BitmapLemmas.{consent_fault}
use Rattle.device_opening.proofs.bitmap_judging.judge_bitmap.Goals as goal

pub returns-then-lacks_consent-clause-refused : goal.returns-then-lacks_consent-clause-refused
returns-then-lacks_consent-clause-refused g c not_memory not_disk =
    let are = c.in_ok-regions.ensures.loaded in
    consent_fault (key_of c.args.hash) c.args.consent _ c.args.format c.in_ok-regions.regions _ c.requires.found.told c.requires.found.format_.bitmap are true
    (sym c.if-lacks_consent.true ∙ c.lacks_consent.ensures
    ∙ ap (lacks_consent (key_of c.args.hash) c.args.consent) c.some_await.ensures)

pub returns-clause-judged : goal.returns-clause-judged
returns-clause-judged g c = record {
  format = c.requires.found.format_;
  maker = c.maker_of-maker.ensures ∙ ap (λ k. rule_of k c.args.format) (sym (ap (λ (r : TagRule). r.key) c.maker_of-maker.ensures));
  regions_ = c.in_ok-regions.ensures.loaded;
  now = λ content told. bitmap_now _ _ c.args.format content (c.requires.found.reads _ content told) c.requires.found.format_.bitmap;
}

pub returns-clause-refused : goal.returns-clause-refused
returns-clause-refused g c not_memory not_disk =
    let are = c.in_ok-regions.ensures.loaded in
    consent_fault (key_of c.args.hash) c.args.consent _ c.args.format c.in_ok-regions.regions _ c.requires.found.told c.requires.found.format_.bitmap are false
    (sym c.if-lacks_consent.false ∙ c.lacks_consent.ensures
    ∙ ap (lacks_consent (key_of c.args.hash) c.args.consent) c.some_await.ensures)
