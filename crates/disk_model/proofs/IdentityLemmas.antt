-- What is bound to one name is bound.
use Rattle.std.proofs.Common.{◌≡◌, ℕ, List, sym, subst}
use Rattle.disk_model.specs.Identity.{Binding, Unbound, BoundTo, AnyName, IsBound, IsBoundTo}

pub IsBound-to : (name : List ℕ) (binding : Binding) → IsBoundTo name binding → IsBound binding
IsBound-to name Unbound is = is
IsBound-to name (BoundTo bound) is = tt
IsBound-to name AnyName is = tt
