use Rattle.std.proofs.lemmas.Result.{on_ok_weaker}
use Rattle.formatting_model.proofs.FormattedLemmas.{amid_forget, amid_fill, amid_found, synced_found, written_is}
use Rattle.formatting_model.proofs.WrittenLemmas.{filled_written, forget_written, founded_written}
use Rattle.image_formatting.proofs.formatting.write_image.Goals as goal

pub returns-in_err-forget-clause-moments : goal.returns-in_err-forget-clause-moments
returns-in_err-forget-clause-moments g c =
    amid_forget c.args.wipe c.args.maker.now c.args.format.now _ c.requires.format.geometry c.forget.ensures.moments

pub returns-in_err-fill-clause-moments : goal.returns-in_err-fill-clause-moments
returns-in_err-fill-clause-moments g c =
    amid_fill c.args.wipe c.args.maker.now c.args.format.now _ c.requires.format.geometry _ _ c.forget.ensures.moments c.in_ok-forget.ensures.synced c.in_ok-forget.ensures.forgotten c.fill.ensures.moments

pub returns-clause-moments : goal.returns-clause-moments
returns-clause-moments g c =
    amid_found c.args.wipe c.args.maker.now c.args.format.now _ c.requires.format.geometry _ _ c.forget.ensures.moments c.in_ok-forget.ensures.synced c.in_ok-forget.ensures.forgotten
    c.found.ensures.told c.fill.ensures.moments c.in_ok-fill.ensures.filled c.in_ok-fill.ensures.stays c.found.ensures.moments

pub returns-clause-synced : goal.returns-clause-synced
returns-clause-synced g c = on_ok_weaker c.found.result (λ founded.
    synced_found c.args.wipe c.args.maker.now c.args.format.now _ c.requires.format.geometry _ _ c.forget.ensures.moments c.in_ok-forget.ensures.synced c.in_ok-forget.ensures.forgotten
    c.found.ensures.told c.fill.ensures.moments c.in_ok-fill.ensures.filled c.in_ok-fill.ensures.stays c.found.ensures.moments) c.found.ensures.founded

pub returns-clause-written : goal.returns-clause-written
returns-clause-written g c = on_ok_weaker c.found.result (λ founded.
    written_is c.args.wipe c.args.maker.now c.args.format.now _ c.requires.format.geometry _ _ _ _ c.found.ensures.told c.in_ok-forget.ensures.forgotten c.fill.ensures.moments c.in_ok-fill.ensures.filled c.in_ok-fill.ensures.stays founded c.found.ensures.whole) c.found.ensures.founded

pub returns-in_err-forget-clause-writes : goal.returns-in_err-forget-clause-writes
returns-in_err-forget-clause-writes g c = forget_written c.args.wipe c.args.format.now c.forget.ensures.writes

pub returns-in_err-fill-clause-writes : goal.returns-in_err-fill-clause-writes
returns-in_err-fill-clause-writes g c =
    filled_written c.args.wipe c.args.format.now _ c.requires.format.geometry c.forget.ensures.writes c.in_ok-forget.ensures.forgotten c.fill.ensures.writes

pub returns-clause-writes : goal.returns-clause-writes
returns-clause-writes g c =
    founded_written c.args.wipe c.args.format.now
    (filled_written c.args.wipe c.args.format.now _ c.requires.format.geometry c.forget.ensures.writes c.in_ok-forget.ensures.forgotten c.fill.ensures.writes) c.found.ensures.writes
