use Rattle.std.proofs.Common.{sym, subst, codes}
use Rattle.disk_model.specs.Identity.{Binding, IsBoundTo}
use Rattle.disk_model.proofs.IdentityLemmas.{IsBound-to}
use Rattle.file_tests.proofs.file_disk_tests.write_two_of_three.Goals as goal

pub write_run-requires-clause-bound : goal.write_run-requires-clause-bound
write_run-requires-clause-bound g c =
    let disk = c.bind.new.self in
    IsBound-to (codes "image") _ (subst (λ (b : Binding). IsBoundTo (codes "image") b) (sym (g.met.D.Disk.identity_name disk)) c.in_ok-bind.ensures.bound)
