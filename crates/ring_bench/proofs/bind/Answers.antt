use Rattle.std.proofs.Common.{sym, subst}
use Rattle.disk_model.specs.Identity.{Binding, IsBoundTo}
use Rattle.disk_model.proofs.IdentityLemmas.{IsBound-to}
use Rattle.ring_bench.proofs.bind.Goals as goal

pub returns : goal.returns
returns g c =
    let disk = c.bind.new.self in
    IsBound-to c.args.name.now _ (subst (λ (b : Binding). IsBoundTo c.args.name.now b) (sym (g.met.D.Disk.identity_name disk)) c.in-Ok.ensures.bound)
