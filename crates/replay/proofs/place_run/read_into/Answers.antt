use Rattle.std.proofs.Common.{arith, ◌≡◌, ◌*◌, ◌++◌, List, ℕ, length, take, drop, sym, subst, OnOk}
use Rattle.std.proofs.lemmas.List.{take_at}
use Rattle.std.proofs.lemmas.Grind.{common_steps}
use Rattle.disk_model.specs.Disk.{Reads}
use Rattle.disk_model.specs.Moments.{HasNow}
use Rattle.replay.proofs.place_run.read_into.Goals as goal

pub returns-clause-read : goal.returns-clause-read
returns-clause-read g c =
    let size : length c.read_run.new.buffer ≡ 512 * c.args.count = let a = c.read_run.auto.buffer in grind (arith, common_steps) in
    let same : take (512 * c.args.count) (c.read_run.new.buffer ++ drop (512 * c.args.count) c.args.buffer.now) ≡ c.read_run.new.buffer = take_at c.read_run.new.buffer (drop (512 * c.args.count) c.args.buffer.now) (512 * c.args.count) size in
    subst (λ (bytes : List ℕ). OnOk c.read_run.result (HasNow (Reads c.args.at bytes) (g.D.Disk.moments c.args.disk.now))) (sym same) c.read_run.ensures.read
