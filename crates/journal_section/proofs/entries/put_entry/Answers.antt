use Rattle.std.proofs.Common.{◌+◌, ◌-◌, ◌++◌, ℕ, List, take, drop, ap, ◌∙◌, arith}
use Rattle.std.proofs.lemmas.List.{drop-drop}
use Rattle.commit_id.specs.Shape.{as_shape}
use Rattle.commit_id.proofs.ShapeLemmas.{shape_holds}
use Rattle.image_model.specs.Section.{Entry}
use Rattle.journal_section.specs.Pieces.{with_piece}
use Rattle.journal_section.proofs.PutLemmas.{IsPut, puts_entry}
use Rattle.journal_section.proofs.ShapeLemmas.{entry_low}
use Rattle.journal_section.proofs.entries.put_entry.Goals as goal

pub returns : goal.returns
returns c =
    let shape = as_shape c.args.shape in
    let entry : Entry = record { sector = c.args.sector; bytes = c.args.block.now; tag = c.args.tag.now } in
    let old : List ℕ = c.args.meta.now in
    let from : ℕ = c.entry_from-from.result in
    let count : ℕ = from + c.args.shape.entry - from in
    let place : List ℕ = c.put_fields.new.place in
    let meta : List ℕ = take from old ++ (place ++ drop count (drop from old)) in
    let is = c.entry_from-from.ensures.place in
    let size = c.entry_from-from.ensures.size in
    let put : IsPut shape c.args.n entry old c.args.parts.now meta c.put_fronts.new.parts place =
    record {
      has = (shape_holds c.args.shape c.requires.shape).2;
      low = entry_low c.args.shape c.args.n c.requires.shape c.requires.n;
      sector = c.requires.sector;
      block = c.requires.block;
      tag = c.requires.tag;
      size_old = c.requires.meta;
      size_place = omega arith;
      meta_is =
          ap (λ rest. take from old ++ (place ++ rest)) (drop-drop count from old ∙ ap (λ n. drop n old) (omega arith))
          ∙ ap (λ at. with_piece at place old) is;
      fields = c.put_fields.ensures;
      size_parts = omega arith;
      fronts = c.put_fronts.ensures.fronts;
      ids = c.put_fronts.ensures.ids;
    } in
    record { put = puts_entry put }
