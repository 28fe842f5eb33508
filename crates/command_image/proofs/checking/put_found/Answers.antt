use Rattle.std.proofs.Common.{[], sym, subst, Option}
use Rattle.check_model.specs.declared.bad.Bad.{Bad}
use Rattle.check_model.specs.Report.{with_found}
use Rattle.command_image.specs.Listing.{IsListed}
use Rattle.command_image.proofs.CheckingLemmas.{none_listed}
use Rattle.command_image.proofs.checking.put_found.Goals as goal

pub returns-in_default-clause-listed : goal.returns-in_default-clause-listed
returns-in_default-clause-listed g c =
    let held = g.O.Sink.held c.args.out.now in
    subst (λ (o : Option Bad). IsListed (with_found o []) 0 held held) (sym c.in_default.is) (none_listed held)
