-- What holds of fields that were read.
use Rattle.std.proofs.Common.{◌≡◌, ℕ, ◌<◌, ◌≤◌, List, length, slice_index, Result, Ok, Err, IfOk, sym}
use Rattle.image_model.specs.Superblock.{superblock_bytes, superblock_of, IsAccepted}
use Rattle.image_model.proofs.SuperblockLemmas.{superblock_told}
use Rattle.image_model.specs.declared.super_fields.Super.{Super}
use Rattle.image_model.specs.declared.super_fields.SuperFault.{SuperFault}
use Rattle.superblock.specs.Pads.{with_zero_pads}
use Rattle.superblock.proofs.PadsLemmas.{superblock_bytes-read}

-- None of them is refused.
pub read_accepted : (bytes : List ℕ) (read : Result Super SuperFault)
    → read ≡ superblock_of bytes
    → IfOk read (λ fields. IsAccepted fields)
read_accepted bytes (Ok fields) told = ((superblock_told bytes fields).0 (sym told)).2
read_accepted bytes (Err fault) told = tt

-- They are written as they stood, but for the pads.
pub read_written_again : (bytes : List ℕ) (read : Result Super SuperFault) → 64 ≤ length bytes
    → ((k : ℕ) → slice_index bytes k < 256)
    → read ≡ superblock_of bytes
    → IfOk read (λ fields. superblock_bytes fields ≡ with_zero_pads bytes)
read_written_again bytes (Ok fields) long low told =
    superblock_bytes-read bytes fields long low (sym told)
read_written_again bytes (Err fault) long low told = tt
