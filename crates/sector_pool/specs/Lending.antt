-- What a run is once its bytes were lent to be written.
use Rattle.std.specs.Prelude.{[]}
use Rattle.std.specs.Borrow.{Lends, MutBor, Fml, u8, Array}
use Rattle.std.specs.Prelude.{List, ℕ}
use mir.Syntax.{named}
use Rattle.sector_pool.specs.Run.{Piece, with_bytes}
use Rattle.sector_pool.specs.contracts.run.Run.{the_row}

-- The run ends with the bytes that were left in the slice.
abbrev pub LendsBytes : MutBor Piece → MutBor (List ℕ) → Fml
LendsBytes run slice = Lends (the_row (record { mir = named 1; lft = [] })) (Array u8 0) run slice (with_bytes run.now)
