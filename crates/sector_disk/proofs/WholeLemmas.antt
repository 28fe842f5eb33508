-- What is recorded are whole sectors.
use Rattle.std.proofs.Common.{◌≡◌, ℕ, zero, suc, ◌+◌, ◌*◌, ◌≤◌, List, [], ◌∷◌, ◌++◌, length, drop, sym, ◌∙◌, ap, subst, arith, length-drop}
use Rattle.std.proofs.lemmas.List.{length-take-le}
use Rattle.std.proofs.lemmas.Option.{none-some, same_Some}
use Rattle.disk_model.specs.Disk.{sector_in}
use Rattle.sector_disk.specs.declared.record.Event.{Event}
use Rattle.sector_disk.specs.declared.record.Event.TheVariants.{Write, Sync}
use Rattle.sector_disk.specs.Record.{AreWholeEvents, sector_writes}

written_bytes : Event → List ℕ
written_bytes (Write at bytes) = bytes
written_bytes Sync = []

pub AreWholeEvents-append : (xs ys : List Event) → AreWholeEvents xs → AreWholeEvents ys → AreWholeEvents (xs ++ ys)
AreWholeEvents-append [] ys one other k at bytes e = other k at bytes e
AreWholeEvents-append (x ∷ xs) ys one other zero at bytes e = one 0 at bytes e
AreWholeEvents-append (x ∷ xs) ys one other (suc k) at bytes e = AreWholeEvents-append xs ys (λ k at bytes e. one (suc k) at bytes e) other k at bytes e

one_write : (place : ℕ) (written : List ℕ) → length written ≡ 512 → AreWholeEvents (Write place written ∷ [])
unfolding written_bytes
one_write place written size zero at bytes e = ap length (ap written_bytes (sym (same_Some _ _ e))) ∙ size
one_write place written size (suc k) at bytes e = absurd (none-some _ e)

one_sync : AreWholeEvents (Sync ∷ [])
one_sync zero at bytes e = absurd (let same = same_Some _ _ e in cc)
one_sync (suc k) at bytes e = absurd (none-some _ e)

writes_whole : (at : ℕ) (bytes : List ℕ) (count : ℕ) → 512 * count ≤ length bytes → AreWholeEvents (sector_writes at bytes count)
writes_whole at bytes zero fits = λ k place written e. absurd (none-some _ e)
writes_whole at bytes (suc count) fits =
    AreWholeEvents-append (sector_writes at bytes count) (Write (at + count) (sector_in bytes count) ∷ []) (writes_whole at bytes count (omega arith))
    (one_write (at + count) (sector_in bytes count) (length-take-le 512 (drop (512 * count) bytes) (omega (arith, length-drop (512 * count) bytes))))

-- ---- for callers

pub AreWholeEvents-writes : (events new : List Event) (at : ℕ) (bytes : List ℕ) (count : ℕ) → new ≡ events ++ sector_writes at bytes count → 512 * count ≤ length bytes → AreWholeEvents events → AreWholeEvents new
AreWholeEvents-writes events new at bytes count is fits whole = subst AreWholeEvents (sym is) (AreWholeEvents-append events (sector_writes at bytes count) whole (writes_whole at bytes count fits))

pub AreWholeEvents-sync : (events new : List Event) → new ≡ events ++ Sync ∷ [] → AreWholeEvents events → AreWholeEvents new
AreWholeEvents-sync events new is whole = subst AreWholeEvents (sym is) (AreWholeEvents-append events (Sync ∷ []) whole one_sync)
