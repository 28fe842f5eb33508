-- A disk through calls in a row, of which one turns it into another.
use Rattle.std.proofs.Common.{ℕ, Bool, List, Result, Ok, Err, OnOk}
use Rattle.std.specs.Prelude.{IfOk}
use Rattle.disk_model.specs.Disk.{Content}
use Rattle.bitmap_model.specs.BitmapDisk.{BitmapDisk}
use Rattle.bitmap_laws.specs.CallLaws.{StandsThrough}
use Rattle.bitmap_laws.proofs.CallLemmas.{through_law}
use Rattle.bitmap_mode.specs.Standing.{TurnsInto}

-- The other stands on,
pub turns_on : (d then_ : BitmapDisk) (marked : ℕ → Bool) {a m b : List Content} → TurnsInto d then_ marked a m → StandsThrough then_ marked m b → TurnsInto d then_ marked a b
turns_on d then_ marked {a} {m} {b} turns rest = record {
  middle = turns.middle;
  first = turns.first;
  rest = through_law then_ marked turns.middle m b turns.rest rest;
}

-- or stands from one call to the next.
pub turns_at : (d then_ : BitmapDisk) (marked : ℕ → Bool) {a m b : List Content} → StandsThrough d marked a m → StandsThrough then_ marked m b → TurnsInto d then_ marked a b
turns_at d then_ marked {a} {m} {b} first rest = record { middle = m; first = first; rest = rest }

-- What follows from two facts where a call succeeds.
pub on_ok_both : {T E P Q S : Type 0} (r : Result T E) → (P → Q → S) → OnOk r P → OnOk r Q → OnOk r S
on_ok_both (Ok x) f p q = f p q
on_ok_both (Err e) f p q = tt

pub if_ok_with : {T E Q : Type 0} (r : Result T E) (P S : T → Type 0) → ((x : T) → Q → P x → S x) → OnOk r Q → IfOk r P → IfOk r S
if_ok_with (Ok x) P S f q p = f x q p
if_ok_with (Err e) P S f q p = tt
