use Rattle.sector_window.proofs.WindowLemmas.{run_shown}
use Rattle.sector_window.proofs.window.SectorWindow.run.Goals as goal

pub returns-clause-bytes : goal.returns-clause-bytes
returns-clause-bytes c moments told =
    let w = c.self.inside in
    run_shown w.room w.first w.held w.buffer.items c.deref.result.now c.args.self.now c.args.at c.args.count moments c.self.invariant c.self.view_is c.deref.ensures.value c.requires told
