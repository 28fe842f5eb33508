-- An entry of a ring, as the one that is next for its disk.
use Rattle.std.proofs.Common.{◌≡◌, ℕ, ◌*◌, ◌/◌, ◌<◌, sym, ◌∙◌, ap, subst, arith, Some, List, slice_get}
use Rattle.std.proofs.lemmas.Nat.{div-add-mod'}
use Rattle.disk_model.specs.Disk.{Content}
use Rattle.image_model.specs.Geometry.{Geometry}
use Rattle.image_model.specs.Section.{Entry}
use Rattle.place_model.specs.Tags.{with_block_tag}
use Rattle.place_model.proofs.TagsLemmas.{block_low}
use Rattle.direct_mode.specs.CallLaws.{GivesTags}
use Rattle.journal_model.specs.JournaledDisk.{JournaledDisk}
use Rattle.journal_model.specs.Steps.{IsNextEntry}
use Rattle.journal_ring.specs.Places.{entry_of}
use Rattle.tag_store.specs.Store.{Store, given_tags}
use Rattle.place_writer.specs.Moves.{GivesEntry}
use Rattle.place_writer.specs.Placement.{IsWholeEntry}

module _ (g : Geometry) (entry : Entry) (is : IsWholeEntry g entry) where
  whole_block : entry.sector / g.shape.spb * g.shape.spb ≡ entry.sector
  whole_block = omega (arith, div-add-mod' entry.sector g.shape.spb, is.begins)

  -- Its block is one of the layout,
  pub block_inside : entry.sector / g.shape.spb < g.blocks
  block_inside = block_low (entry.sector / g.shape.spb) g.blocks g.shape.spb (omega (arith, whole_block, is.inside))

  -- and it is that of its block, its bytes and its tag.
  pub entry-same : (block : ℕ) (bytes tag : List ℕ) → block ≡ entry.sector / g.shape.spb → bytes ≡ entry.bytes → tag ≡ entry.tag → entry_of g block bytes tag ≡ entry
  entry-same block bytes tag here same same_tag =
      let sector : block * g.shape.spb ≡ entry.sector = ap (λ (n : ℕ). n * g.shape.spb) here ∙ whole_block in
      λ i. record { sector = sector i; bytes = same i; tag = same_tag i }

  pub next_entry : (d : JournaledDisk) (block : ℕ) (bytes tag : List ℕ) → block ≡ entry.sector / g.shape.spb → bytes ≡ entry.bytes → tag ≡ entry.tag → d.geometry ≡ g
      → slice_get d.entries d.placed ≡ Some entry → IsNextEntry d block (entry_of g block bytes tag)
  next_entry d block bytes tag here same same_tag geometry next = record {
    next = next ∙ ap (λ (x : Entry). Some x) (sym (entry-same block bytes tag here same same_tag));
    sector = ap (λ (y : Geometry). block * y.shape.spb) (sym geometry);
  }

  -- A put of its tag gives what an entry gives.
  pub gives_entry : (old new : Store) (block : ℕ) (tag : List ℕ) (a b : List Content) → block ≡ entry.sector / g.shape.spb → tag ≡ entry.tag
      → GivesTags g (λ c. with_block_tag block tag (given_tags old c)) (given_tags new) a b → GivesEntry g (Some entry) old new a b
  gives_entry old new block tag a b here same gives =
      subst (λ (n : ℕ). GivesTags g (λ c. with_block_tag n entry.tag (given_tags old c)) (given_tags new) a b) here
      (subst (λ (xs : List ℕ). GivesTags g (λ c. with_block_tag block xs (given_tags old c)) (given_tags new) a b) same gives)
