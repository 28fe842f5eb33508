use Rattle.std.proofs.Common.{sym, ◌∙◌, subst}
use Rattle.disk_model.specs.Identity.{Binding, IsBoundTo}
use Rattle.integrity_tool.proofs.top_call.bind_leg.Goals as goal

pub returns-in-Ok-clause-found : goal.returns-in-Ok-clause-found
returns-in-Ok-clause-found g c = record {
  is = λ content told.
      let disk = c.bind.new.self in
      let bound = subst (λ (b : Binding). IsBoundTo c.args.image.now b) (sym (g.met.D.Disk.identity_name disk)) c.in-Ok.ensures.bound in
      sym (g.met.D.Disk.same_named c.args.image.now c.args.disk.now disk content c.bind.ensures.same told) ∙ g.met.D.Disk.named_if_bound disk c.args.image.now bound;
}
