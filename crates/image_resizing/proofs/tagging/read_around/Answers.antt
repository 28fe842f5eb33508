use Rattle.std.proofs.Common.{rules, ◌≡◌, ◌∙◌, ◌≤◌, ap, sym, arith, length, take}
use Rattle.std.proofs.lemmas.List.{length-take-le}
use Rattle.std.proofs.lemmas.Result.{on_ok_weaker}
use Rattle.disk_model.specs.Identity.{DiskIdentity}
use Rattle.disk_model.specs.Moments.{content_now}
use Rattle.image_resizing.proofs.PartLemmas.{around_is}
use Rattle.image_resizing.proofs.tagging.read_around.Goals as goal

pub slice_bounds-read_run-end-2 : goal.slice_bounds-read_run-end-2
slice_bounds-read_run-end-2 g c =
    sym (length-take-le 512 c.read_behind.new.run (omega (arith, c.read_behind.ensures.len, c.requires.run, c.requires.end)))

pub read_run-requires-clause-run : goal.read_run-requires-clause-run
read_run-requires-clause-run g c =
    let some : 512 ≤ length c.read_behind.new.run = omega (arith, c.read_behind.ensures.len, c.requires.run, c.requires.end) in
    let size = length-take-le 512 c.read_behind.new.run some in
    let same = ap (λ (d : DiskIdentity). d.sectors) c.read_behind.ensures.identity in
    record { whole = omega (arith, size); some = omega (arith, size); inside = omega (arith, size, same, c.requires.inside.inside, c.requires.end) }

pub returns-clause-around : goal.returns-clause-around
returns-clause-around g c = on_ok_weaker c.read_run.result (λ read x told p low other.
    let lent : length c.read_run.new.buffer ≡ length (take 512 c.read_behind.new.run) = search rules in
    let size = lent ∙ length-take-le 512 c.read_behind.new.run (omega (arith, c.read_behind.ensures.len, c.requires.run, c.requires.end)) in
    around_is c.args.at c.args.from c.args.end p c.read_behind.new.run c.read_run.new.buffer x c.requires.from size (read x (ap content_now c.read_behind.ensures.kept ∙ told))
    (λ far. c.in_ok-read_behind.ensures.behind p (omega (arith, far)) (omega (arith, low)) x told) other) c.read_run.ensures.read
