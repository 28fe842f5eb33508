use Rattle.std.proofs.Common.{◌%◌, ◌+◌, ◌≤◌, subst, ap, arith, ℕ}
use Rattle.std.proofs.lemmas.Nat.{mod_below}
use Rattle.image_model.specs.Geometry.{Shape}
use Rattle.recalculation.proofs.PlacesLemmas.{of_area_some, run_some}
use Rattle.recalculation.proofs.places.Places.run.Goals as goal

pub nonzero_rem-in_area : goal.nonzero_rem-in_area
nonzero_rem-in_area c = rw c.requires.places.of_area (of_area_some c.args.self.now.geometry _ c.requires.places.on_disk)

pub overflow_sub-in_area : goal.overflow_sub-in_area
overflow_sub-in_area c =
    let some = of_area_some c.args.self.now.geometry _ c.requires.places.on_disk in
    let is = c.requires.places.of_area in
    let low = mod_below c.args.block c.args.self.now.of_area (omega (arith, some, is)) in
    omega (arith, low)

pub returns-clause-some : goal.returns-clause-some
returns-clause-some c =
    let some = of_area_some c.args.self.now.geometry _ c.requires.places.on_disk in
    let is = c.requires.places.of_area in
    let low = mod_below c.args.block c.args.self.now.of_area (omega (arith, some, is)) in
    let shape = ap (λ (s : Shape). s.spb) c.shape-room.ensures.shape in
    let spb = c.requires.places.on_disk.spb in
    let room = run_some c.shape-room.result.spb (omega (arith, shape, spb.0)) (omega (arith, shape, spb.1)) in
    omega (arith, low, room, c.requires.block, c.min.ensures, c.min-2.ensures)

pub returns-clause-side_by_side : goal.returns-clause-side_by_side
returns-clause-side_by_side c =
    let some = of_area_some c.args.self.now.geometry _ c.requires.places.on_disk in
    let is = c.requires.places.of_area in
    let low = mod_below c.args.block c.args.self.now.of_area (omega (arith, some, is)) in
    let fits : c.args.block % c.args.self.now.of_area + c.min-2.result ≤ c.args.self.now.of_area = omega (arith, low, c.min.ensures, c.min-2.ensures) in
    subst (λ (n : ℕ). c.args.block % n + c.min-2.result ≤ n) is fits
