use Rattle.std.proofs.Common.{◌+◌, ◌≤◌, length, replicate, Option, None, arith, ◌∙◌, ap, subst, sym}
use Rattle.commit_id.specs.Shape.{as_shape}
use Rattle.commit_id.proofs.ShapeLemmas.{shape_holds}
use Rattle.image_model.specs.Section.{Entry, entry_from}
use Rattle.image_model.specs.Entries.{HoldsEntries}
use Rattle.journal_section.specs.Pieces.{with_piece}
use Rattle.journal_section.proofs.EntriesLemmas.{HoldsEntries-none, number_in-ones, ones_more, zeros_stay}
use Rattle.journal_section.proofs.clearing.clear.Goals as goal

pub put-requires : goal.put-requires
put-requires c =
    let holds = (shape_holds c.args.shape c.requires.shape).2 in
    let many = holds.sectors_low in
    let sectors = c.requires.shape.sectors in
    let fits = c.entry_from.ensures.fits in
    let fields = c.entry_from.ensures.fields in
    omega arith

pub loop-n-preserved : goal.loop-n-preserved
loop-n-preserved c =
    let holds = (shape_holds c.args.shape c.requires.shape).2 in
    let shape = as_shape c.args.shape in
    let many = holds.sectors_low in
    let sectors = c.requires.shape.sectors in
    let is = c.entry_from.ensures.place in
    let fits = c.entry_from.ensures.fits in
    let fields = c.entry_from.ensures.fields in
    let old = c.loop-n.bytes in
    let new = c.put.new.bytes in
    let inside : entry_from shape c.loop-n.n + 8 ≤ length old = omega arith in
    let put = c.put.ensures ∙ ap (λ at. with_piece (at + 4) (replicate 4 255) old) is in
    record {
      ones = ones_more shape c.loop-n.n old new inside put c.loop-n.invariant.ones;
      zeros = zeros_stay shape c.loop-n.n old new inside put c.loop-n.invariant.zeros;
    }

pub returns-clause-entries : goal.returns-clause-entries
returns-clause-entries c =
    let holds = (shape_holds c.args.shape c.requires.shape).2 in
    let shape = as_shape c.args.shape in
    let sectors = c.requires.shape.sectors in
    let entries = c.requires.shape.entries in
    let bytes = c.loop-n.bytes in
    let none : Option Entry = None in
    let empty =
    HoldsEntries-none shape bytes holds (omega (arith, c.fill.ensures.len))
    (λ n low. number_in-ones bytes (entry_from shape n + 4) (c.loop-n.invariant.ones n (omega arith)))
    (λ at nothing. c.loop-n.invariant.zeros at (λ m low. nothing m (omega arith))) in
    c.seal.ensures.entries (replicate c.args.shape.entries none)
    (subst (λ count. HoldsEntries shape (replicate count none) bytes) (sym entries) empty)
