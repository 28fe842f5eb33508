use Rattle.std.proofs.Common.{◌≡◌, ◌+◌, ◌*◌, ◌++◌, take}
use Rattle.std.specs.List.{flat_map, range_with_len}
use Rattle.commit_id.specs.Shape.{as_shape}
use Rattle.image_model.specs.Section.{entry_from}
use Rattle.image_model.specs.Sectors.{piece}
use Rattle.journal_section.proofs.blocks.block_bytes.Given as goal

-- The sectors so far have the bytes of the block.
abbrev pub invariant-loop-k : goal.invariant-loop-k
invariant-loop-k l =
    take (512 * l.k) l.out ≡ flat_map
    (λ k. piece l.parts (512 * k) 504 ++ piece l.meta (entry_from (as_shape l.fn.shape) l.n + 8 + 8 * k) 8)
    (range_with_len 0 l.k)
