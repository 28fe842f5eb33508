-- What a run of blocks shows of a disk, and keeps while tags are put.
use Rattle.std.proofs.Common.{◌≡◌, ℕ, ◌+◌, ◌-◌, ◌*◌, ◌/◌, ◌%◌, ◌<◌, ◌≤◌, List, Some, length, take, sym, ap, ◌∙◌, arith, length-take}
use Rattle.std.proofs.lemmas.Nat.{row_fits, div-add-mod', mod_below, div_below}
use Rattle.disk_model.specs.Disk.{Content, last_image}
use Rattle.disk_model.specs.Moments.{content_now}
use Rattle.disk_model.proofs.DiskLemmas.{Reads-same}
use Rattle.image_model.specs.Cells.{placed_cells_of}
use Rattle.image_model.specs.Geometry.{Geometry, IsGeometry, data_at}
use Rattle.image_model.specs.Sectors.{piece}
use Rattle.image_model.proofs.SectorLemmas.{piece-piece}
use Rattle.place_model.proofs.BlocksLemmas.{KeepsOthers-data}
use Rattle.place_model.proofs.PlacedLemmas.{placed_cells_of-bytes}
use Rattle.direct_laws.specs.CallLaws.{KeepsOthersNow}
use Rattle.sector_window.proofs.WindowLemmas.{bytes_at-window}
use Rattle.recalculation.specs.declared.block_run.BlockRun.{BlockRun}
use Rattle.recalculation.specs.Run.{ShowsBlock, ShowsDisk}
use Rattle.recalculation.proofs.PlacesLemmas.{data_beside}

-- A piece of the first bytes is one of all.
piece-take : (bytes : List ℕ) (from size count : ℕ) → from + size ≤ count → piece (take count bytes) from size ≡ piece bytes from size
piece-take bytes from size count fits = piece-piece bytes 0 count from size fits ∙ ap (λ n. piece bytes n size) (omega arith)

module _ (g : Geometry) (sectors : ℕ) (run : BlockRun) (moments : List Content) (geometry : IsGeometry g sectors) (shows : ShowsDisk g run moments) where
  abbrev shown : List ℕ
  shown = take (512 * (run.count * g.shape.spb)) run.bytes.items

  shown_size : length shown ≡ 512 * (run.count * g.shape.spb)
  shown_size = omega (arith, length-take (512 * (run.count * g.shape.spb)) run.bytes.items, shows.buffer.whole, shows.fits)

  -- The bytes of a block are those that are placed.
  pub shown_block : (block : ℕ) (c : Content) → ShowsBlock run block → content_now moments ≡ Some c
      → piece run.bytes.items (512 * ((block - run.first) * g.shape.spb)) (512 * g.shape.spb) ≡ (placed_cells_of g (last_image c) block).bytes
  shown_block block c has told =
      let off = block - run.first in
      let low : off < run.count = omega (arith, has.begins, has.ends) in
      let is : run.first + off ≡ block = omega (arith, has.begins) in
      let at : data_at g block ≡ data_at g run.first + off * g.shape.spb = ap (data_at g) (sym is) ∙ data_beside g sectors run.first run.count off geometry shows.side_by_side low in
      let room : off * g.shape.spb + g.shape.spb ≤ run.count * g.shape.spb = row_fits off g.shape.spb run.count g.shape.spb low (omega arith) in
      let from : 512 * (data_at g block - data_at g run.first) ≡ 512 * (off * g.shape.spb) = omega (arith, at) in
      let window = bytes_at-window (data_at g run.first) (data_at g block) g.shape.spb shown c (omega (arith, at)) (omega (arith, at, room, shown_size)) (shows.reads c told) in
      sym (piece-take run.bytes.items (512 * (off * g.shape.spb)) (512 * g.shape.spb) (512 * (run.count * g.shape.spb)) (omega (arith, room)))
      ∙ ap (λ n. piece shown n (512 * g.shape.spb)) (sym from)
      ∙ window
      ∙ sym (placed_cells_of-bytes g (last_image c) block)

  -- It shows them also once sectors of tags alone were written.
  pub shows_after : (after : List Content) → KeepsOthersNow g moments after → ((c : Content) → content_now after ≡ Some c → (start : Content) × (content_now moments ≡ Some start)) → ShowsDisk g run after
  shows_after after others came = record {
    buffer = shows.buffer;
    fits = shows.fits;
    inside = shows.inside;
    side_by_side = shows.side_by_side;
    reads = λ c told.
        let start = came c told in
        Reads-same (data_at g run.first) shown start.0 c (λ k below. same start.0 c (start.1) told k (omega (arith, below, shown_size))) (shows.reads start.0 start.1);
  }
    where
      same : (start c : Content) → content_now moments ≡ Some start → content_now after ≡ Some c → (k : ℕ) → k < run.count * g.shape.spb → last_image c (data_at g run.first + k) ≡ last_image start (data_at g run.first + k)
      same start c told_start told k low =
          let spb = g.shape.spb in
          let some = geometry.spb.0 in
          let j = k / spb in
          let i = k % spb in
          let split : j * spb + i ≡ k = div-add-mod' k spb in
          let i_low : i < spb = mod_below k spb (omega (arith, some)) in
          let j_low : j < run.count = div_below k spb run.count (omega (arith, some)) low in
          let at : data_at g (run.first + j) + i ≡ data_at g run.first + k = omega (arith, split, data_beside g sectors run.first run.count j geometry shows.side_by_side j_low) in
          ap (last_image c) (sym at)
          ∙ KeepsOthers-data g sectors start c geometry (others start told_start c told) (run.first + j) i (omega (arith, j_low, shows.inside)) i_low
          ∙ ap (last_image start) at
