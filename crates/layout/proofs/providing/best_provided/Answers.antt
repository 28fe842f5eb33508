use Rattle.std.proofs.Common.{◌≡◌, refl, sym, Ok}
use Rattle.std.proofs.lemmas.Result.{err_from_is_err_and}
use Rattle.image_model.specs.Geometry.{best_provided_of}
use Rattle.image_model.proofs.BestProvided.{best_provided_is}
use Rattle.layout.proofs.ProvidedLemmas.{best_provided_of-refused, best_provided_of-none, best_provided_of-best}
use Rattle.layout.proofs.providing.best_provided.Goals as goal

pub returns-in_err-layout-clause-told : goal.returns-in_err-layout-clause-told
returns-in_err-layout-clause-told c =
    let p = err_from_is_err_and c.from_residual.result c.from_residual.ensures.1 in
    rw (p.1, p.2)
    (best_provided_of-refused c.args.fields.now c.args.disk_sectors _ c.in_err-layout.ensures.fault)

pub returns-then-best-eq0-clause-told : goal.returns-then-best-eq0-clause-told
returns-then-best-eq0-clause-told c =
    best_provided_of-none c.args.fields.now c.args.disk_sectors c.best_provided-best.result _ _
    c.in_ok-layout.ensures.within c.best_provided-best.ensures c.if-best-eq0.true (rw c.initial.ensures refl)

pub returns : goal.returns
returns c =
    let s = c.args.fields.now in
    let best = c.best_provided-best in
    let told : Ok best.result ≡ best_provided_of s c.args.disk_sectors =
    best_provided_of-best s c.args.disk_sectors best.result _
    c.in_ok-layout.ensures.within best.ensures c.if-best-eq0.false in
    record {
      told = told;
      best = best_provided_is s c.args.disk_sectors best.result c.requires.fields (sym told);
    }
