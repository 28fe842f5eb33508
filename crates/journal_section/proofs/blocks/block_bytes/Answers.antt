use Rattle.std.proofs.Common.{◌≡◌, ◌+◌, ◌*◌, ◌-◌, ◌++◌, refl, arith}
use Rattle.commit_id.specs.Shape.{as_shape}
use Rattle.commit_id.proofs.ShapeLemmas.{shape_holds}
use Rattle.image_model.specs.Section.{entry_from}
use Rattle.image_model.specs.Sectors.{piece}
use Rattle.image_model.proofs.SectorLemmas.{length-piece}
use Rattle.journal_section.proofs.EntriesLemmas.{block_all, block_more, block_of_entry}
use Rattle.journal_section.proofs.ShapeLemmas.{entry_low}
use Rattle.journal_section.proofs.blocks.block_bytes.Goals as goal

pub loop-k-preserved : goal.loop-k-preserved
loop-k-preserved c =
    let meta = c.args.meta.now in
    let parts = c.args.parts.now in
    let k = c.loop-k.k in
    let from = 512 * k in
    let entry = entry_from (as_shape c.args.shape) c.args.n in
    let word = entry + 8 + 8 * k in
    let size : from + 504 - from ≡ 504 = omega arith in
    let is = c.entry_from-entry.ensures.place in
    let least = c.entry_from-entry.ensures.fields in
    let fits = c.entry_from-entry.ensures.fits in
    let place : c.entry_from-entry.result + 8 * (k + 1) ≡ word = omega arith in
    let last_size : word + 8 - word ≡ 8 = omega arith in
    let front = rw size at c.put.ensures in
    let last = rw (place, last_size) at c.put-in-loop-k.ensures in
    block_more (λ m. piece parts (512 * m) 504 ++ piece meta (entry + 8 + 8 * m) 8) k (piece parts from 504) (piece meta word 8)
    c.loop-k.out c.put.new.bytes c.put-in-loop-k.new.bytes
    (omega arith) (length-piece parts from 504 (omega arith)) (length-piece meta word 8 (omega arith)) front last refl c.loop-k.invariant

pub returns-clause-entry : goal.returns-clause-entry
returns-clause-entry c =
    let shape = as_shape c.args.shape in
    let meta = c.args.meta.now in
    let parts = c.args.parts.now in
    let all : c.loop-k.k ≡ c.args.shape.spb = omega arith in
    let is =
    block_all (λ k. piece parts (512 * k) 504 ++ piece meta (entry_from shape c.args.n + 8 + 8 * k) 8) c.loop-k.k c.args.shape.spb
    c.loop-k.out all (omega arith) c.loop-k.invariant in
    λ bytes pieces. block_of_entry shape c.args.n meta parts bytes c.loop-k.out (shape_holds c.args.shape c.requires.shape).2
    (entry_low c.args.shape c.args.n c.requires.shape c.requires.n) pieces is
