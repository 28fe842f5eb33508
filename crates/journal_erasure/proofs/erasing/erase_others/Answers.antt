use Rattle.std.proofs.Common.{ℕ, ◌+◌, arith}
use Rattle.std.proofs.lemmas.Result.{on_ok_weaker}
use Rattle.disk_model.specs.Disk.{IsOfRun}
use Rattle.disk_model.specs.Moments.{content_now}
use Rattle.disk_model.proofs.MomentsLemmas.{adds_then, adds_wider}
use Rattle.image_model.specs.Geometry.{section_at}
use Rattle.journal_erasure.specs.declared.part.Part.TheVariants.{Others}
use Rattle.journal_erasure.specs.Erasing.{IsOfPart}
use Rattle.journal_erasure.proofs.StepsLemmas.{IsErasing-same, first_now, order_first, order_then, others_written, IsOfPart-run, IsOfPart-wider}
use Rattle.journal_erasure.proofs.erasing.erase_others.Goals as goal

pub erase_rest-requires : goal.erase_rest-requires
erase_rest-requires g c = record { erasing = IsErasing-same c.args.geometry.now c.args.erasure.now c.args.empty.now c.erase_first.ensures.identity c.requires.erasing }

pub returns-in_err-erase_first-clause-order : goal.returns-in_err-erase_first-clause-order
returns-in_err-erase_first-clause-order g c = order_first c.args.geometry.now c.args.erasure.now c.args.empty.now c.erase_first.ensures.moments

pub returns-in_err-erase_first-clause-moments : goal.returns-in_err-erase_first-clause-moments
returns-in_err-erase_first-clause-moments g c =
    let geometry = c.args.geometry.now in
    let erasure = c.args.erasure.now in
    let first : ℕ = erasure.first in
    adds_wider (IsOfPart geometry erasure Others first (first + 1) c.args.empty.now) (IsOfPart geometry erasure Others 0 geometry.sections c.args.empty.now)
    (IsOfPart-wider geometry erasure c.args.empty.now Others first (first + 1) 0 geometry.sections (omega arith) (omega (arith, c.requires.erasing.fits.first))) c.erase_first.ensures.moments

pub returns-clause-written : goal.returns-clause-written
returns-clause-written g c = on_ok_weaker c.erase_rest.result (λ written.
    others_written c.args.geometry.now c.args.erasure.now c.args.empty.now (content_now (g.D.Disk.moments c.args.disk.now)) (content_now (g.D.Disk.moments c.erase_first.new.disk))
    (content_now (g.D.Disk.moments c.erase_rest.new.disk)) c.requires.erasing.fits.first c.in_ok-erase_first.ensures.written written) c.erase_rest.ensures.written

pub returns-clause-order : goal.returns-clause-order
returns-clause-order g c =
    let geometry = c.args.geometry.now in
    let erasure = c.args.erasure.now in
    let empty = c.args.empty.now in
    let first : ℕ = erasure.first in
    order_then geometry erasure empty (order_first geometry erasure empty c.erase_first.ensures.moments)
    (first_now geometry erasure empty first (first + 1) (content_now (g.D.Disk.moments c.args.disk.now)) (content_now (g.D.Disk.moments c.erase_first.new.disk)) (omega arith) (omega arith) c.in_ok-erase_first.ensures.written)
    (adds_wider (IsOfPart geometry erasure Others 0 geometry.sections empty) (IsOfRun (section_at geometry 0) empty)
    (IsOfPart-run geometry erasure empty Others 0 geometry.sections (omega arith) c.requires.erasing.size) c.erase_rest.ensures.moments)

pub returns-clause-moments : goal.returns-clause-moments
returns-clause-moments g c =
    let geometry = c.args.geometry.now in
    let erasure = c.args.erasure.now in
    let first : ℕ = erasure.first in
    let W = IsOfPart geometry erasure Others 0 geometry.sections c.args.empty.now in
    adds_then W
    (adds_wider (IsOfPart geometry erasure Others first (first + 1) c.args.empty.now) W
    (IsOfPart-wider geometry erasure c.args.empty.now Others first (first + 1) 0 geometry.sections (omega arith) (omega (arith, c.requires.erasing.fits.first))) c.erase_first.ensures.moments)
    c.erase_rest.ensures.moments
