use Rattle.std.proofs.Common.{◌≡◌, ap, sym, ◌∙◌, rules, Some}
use Rattle.std.specs.Option.{option_copied}
use Rattle.buffer_cache.specs.HeldSectors.{held_in}
use Rattle.buffer_cache.proofs.CachedLemmas.{write_amid}
use Rattle.buffer_cache.proofs.write_out.write_marked.Goals as goal

pub returns-in-Some-clause-moments : goal.returns-in-Some-clause-moments
returns-in-Some-clause-moments g c =
    let found : held_in c.args.held.now c.args.at ≡ Some c.in-Some.sector.now = sym c.find.ensures ∙ ap option_copied c.in-Some.is in
    rw found (write_amid c.args.at c.in-Some.sector.now (search rules) c.if-sector.true c.write_run.ensures.moments)
