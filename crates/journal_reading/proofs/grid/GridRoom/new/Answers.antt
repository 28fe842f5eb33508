use Rattle.std.proofs.Common.{◌≡◌, ◌^◌, [], subst, sym, refl, arith}
use Rattle.image_model.proofs.Regions.{journal_sectors-some}
use Rattle.sector_window.specs.Window.{Window}
use Rattle.journal_reading.specs.Grids.{HasGridRoom}
use Rattle.journal_reading.specs.declared.grid.GridRoom.{GridRoom}
use Rattle.journal_reading.proofs.grid.GridRoom.new.Goals as goal

pub returns : goal.returns
returns c =
    let some = journal_sectors-some c.args.geometry.now (2 ^ 48) c.requires in
    let fresh : Window = record { room = c.min.result; first = 0; bytes = [] } in
    let is : c.in_ok-window.window ≡ fresh = c.in_ok-window.ensures in
    subst (λ (w : Window). let room : GridRoom = record { cells = c.in_ok-cells.cells; window = w } in HasGridRoom c.args.geometry.now room) (sym is) (record {
      none = c.in_ok-cells.ensures.items;
      cells = omega (arith, c.in_ok-cells.ensures.capacity, c.initial-sectors.ensures);
      window = omega (arith, some, c.min.ensures, c.initial-sectors.ensures);
      shows_none = refl;
    })
