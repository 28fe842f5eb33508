-- What was read of the places of blocks, while tags and other blocks are written.
use Rattle.std.proofs.Common.{◌≡◌, ℕ, ◌+◌, ◌-◌, ◌*◌, ◌/◌, ◌<◌, ◌≤◌, List, [], length, take, drop, sym, ap, subst, ◌∙◌, arith}
use Rattle.disk_model.specs.Disk.{Content, OnlyAdds, Reads, last_image, with_run}
use Rattle.disk_model.specs.Moments.{EachSince, HasNow, IsChangedBy, content_now}
use Rattle.disk_model.proofs.DiskLemmas.{OnlyAdds-none, last_image-with_run_out}
use Rattle.image_model.specs.Geometry.{Geometry, IsGeometry, data_at}
use Rattle.image_model.specs.Sectors.{piece}
use Rattle.image_model.proofs.SectorLemmas.{length-piece, piece-piece}
use Rattle.place_model.proofs.TagsLemmas.{tag_byte-no_data}
use Rattle.buffer_cache.proofs.CachedLemmas.{changed_now, told_at_end}
use Rattle.direct_laws.specs.CallLaws.{KeepsOthersNow}
use Rattle.place_model.specs.Tags.{HoldsTag}
use Rattle.replay.specs.ReadPlaces.{ReadPlaces, ShowsPlaces, ShowsRun}

-- Where none was read, none is shown otherwise.
pub shows_none : (g : Geometry) (places : ReadPlaces) (moments : List Content) → (let none : ReadPlaces = record { first = 0; behind = 0; bytes = [] } in places ≡ none) → ShowsPlaces g places moments
shows_none g places moments is = subst (λ (x : ReadPlaces). ShowsPlaces g x moments) (sym is) (record { reads = λ c told k low since no_tag. absurd (omega (arith, low)) })

-- A sector of a block's data holds no tag.
data-no_tag : (g : Geometry) (sectors block k : ℕ) → IsGeometry g sectors → k < g.shape.spb → HoldsTag g (data_at g block + k) → ⊥
data-no_tag g sectors block k geometry low tag = tag_byte-no_data g sectors tag.block block tag.byte k geometry tag.byte_low low (sym tag.is)

-- So what is shown of a block's place is what reads of the disk give.
pub shown_place : (g : Geometry) (sectors block : ℕ) (places : ReadPlaces) (moments : List Content) → IsGeometry g sectors → ShowsRun places (data_at g block) g.shape.spb → ShowsPlaces g places moments
    → (length (piece places.bytes (512 * (data_at g block - places.first)) (512 * g.shape.spb)) ≡ 512 * g.shape.spb)
    × HasNow (Reads (data_at g block) (piece places.bytes (512 * (data_at g block - places.first)) (512 * g.shape.spb))) moments
shown_place g sectors block places moments geometry shown shows =
    let at = data_at g block in
    let from = 512 * (at - places.first) in
    let size = 512 * g.shape.spb in
    let begins : places.first ≤ at = shown.begins in
    let since : places.behind ≤ at = shown.since in
    let ends : 512 * (at + g.shape.spb) ≤ 512 * places.first + length places.bytes = shown.ends in
    let long = length-piece places.bytes from size (omega arith) in (
      long,
      λ c told k below.
          let low : k < g.shape.spb = omega (arith, below, long) in
          let fits : 512 * k + 512 ≤ size = omega arith in
          let moved : from + 512 * k ≡ 512 * (at - places.first + k) = omega arith in
          let place : at + k ≡ places.first + (at - places.first + k) = omega arith in
          piece-piece places.bytes from size (512 * k) 512 fits
          ∙ ap (λ n. take 512 (drop n places.bytes)) moved
          ∙ shows.reads c told (at - places.first + k) (omega arith) (omega arith)
          (λ tag. data-no_tag g sectors block k geometry low (subst (HoldsTag g) (sym place) tag))
          ∙ ap (last_image c) (sym place),
    )

-- It is so still once a run of sectors that is behind was written,
pub shows_written : (g : Geometry) (places : ReadPlaces) (at : ℕ) (bytes : List ℕ) (a b : List Content) → at + length bytes / 512 ≤ places.behind → ShowsPlaces g places a
    → IsChangedBy (with_run at bytes) a b → ShowsPlaces g places b
shows_written g places at bytes a b behind shows written = record {
  reads = λ c told k low since no_tag.
      let start = changed_now (with_run at bytes) (content_now a) (content_now b) written c told in
      shows.reads start.0 start.1 k low since no_tag
      ∙ sym (last_image-with_run_out at bytes start.0 (places.first + k) (λ above under. omega arith))
      ∙ ap (λ (x : Content). last_image x (places.first + k)) (sym start.2);
}

-- and once sectors of tags were.
pub shows_others : (g : Geometry) (places : ReadPlaces) (W : ℕ → List ℕ → Type 0) (a b : List Content) → ShowsPlaces g places a → EachSince (OnlyAdds W) a b → KeepsOthersNow g a b → ShowsPlaces g places b
shows_others g places W a b shows adds others = record {
  reads = λ c told k low since no_tag.
      let start = (told_at_end (OnlyAdds W) (OnlyAdds-none W) adds).each c told in
      shows.reads start.0 start.1 k low since no_tag
      ∙ sym ((others start.0 start.1 c told).each (places.first + k) (λ block byte block_low byte_low is.
      no_tag (record { block = block; byte = byte; block_low = block_low; byte_low = byte_low; is = is })));
}

-- Two calls in a row that leave sectors without tags leave them.
pub others_then : (g : Geometry) (W : ℕ → List ℕ → Type 0) (a m b : List Content) → KeepsOthersNow g a m → EachSince (OnlyAdds W) m b → KeepsOthersNow g m b → KeepsOthersNow g a b
others_then g W a m b first adds second start told c told_c =
    let middle = (told_at_end (OnlyAdds W) (OnlyAdds-none W) adds).each c told_c in
    record { each = λ sector none. (second middle.0 middle.1 c told_c).each sector none ∙ (first start told middle.0 middle.1).each sector none }
