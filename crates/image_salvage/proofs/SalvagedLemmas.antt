-- What is kept of an image tells its blocks.
use Rattle.std.proofs.Common.{◌≡◌, ℕ, ◌<◌, ◌≤◌, refl, sym, ◌∙◌, ap, subst, arith, List, [], Option, Some, None}
use Rattle.std.specs.Option.{option_map}
use Rattle.std.proofs.lemmas.Bool.{le-ltb, lt-ltb}
use Rattle.disk_model.specs.Disk.{Content, last_image}
use Rattle.disk_model.specs.Identity.{DiskIdentity, IsBound}
use Rattle.disk_model.specs.Moments.{HasNow, content_now}
use Rattle.image_model.specs.Cells.{salt_of}
use Rattle.image_format.specs.declared.reading.ImageFormat.{ImageFormat}
use Rattle.image_format.specs.Format.{IsFormat, IsReadNow, disk_format}
use Rattle.hmac_tag.specs.TagMaker.{TagRule}
use Rattle.place_model.specs.Format.{DiskFormat, format_on}
use Rattle.sector_window.specs.Window.{HasRoom, Window}
use Rattle.sector_window.proofs.WindowLemmas.{fresh_window}
use Rattle.salvage_model.specs.Verdicts as Model
use Rattle.salvage_model.specs.Verdicts.{next_verdict, salvaged_bytes, verdict_on}
use Rattle.image_salvage.specs.declared.verdict.Verdict.{Verdict}
use Rattle.image_salvage.specs.Salvaged.{IsSalvageOf, IsSameSalvage, Salvaged, blocks_of, salvaged_format}
use Rattle.image_salvage.specs.Telling.{GivesBytes, TellsNext, as_verdict}

-- ---- an answer

module _ (image : Salvaged) (disk : DiskIdentity) (moments : List Content) (is : IsSalvageOf image disk moments) where
  -- The disk's format, as it is kept.
  abbrev own : DiskFormat
  own = disk_format image.rule.key disk.sectors image.format

  -- Where a block is left, its verdict is next,
  pub tells_some : (verdict : Verdict) → image.told < blocks_of image → HasNow (λ c. as_verdict verdict ≡ verdict_on own (last_image c) image.told) moments
      → TellsNext image disk.sectors moments (Some verdict)
  tells_some verdict low h = record {
    verdict = λ c now.
        let here : option_map as_verdict (Some verdict) ≡ next_verdict own (last_image c) image.told =
        rw (lt-ltb image.told (blocks_of image) low) (ap (λ (v : Model.Verdict). Some v) (h c now)) in
        here ∙ ap (λ (d : DiskFormat). next_verdict d (last_image c) image.told) (sym (is.own c now));
    some = sym (lt-ltb image.told (blocks_of image) low);
  }

  -- and else none is.
  pub tells_none : blocks_of image ≤ image.told → TellsNext image disk.sectors moments None
  tells_none high = record {
    verdict = λ c now.
        let here : option_map as_verdict None ≡ next_verdict own (last_image c) image.told =
        rw (le-ltb image.told (blocks_of image) high) refl in
        here ∙ ap (λ (d : DiskFormat). next_verdict d (last_image c) image.told) (sym (is.own c now));
    some = sym (le-ltb image.told (blocks_of image) high);
  }

  -- The bytes are those of the block.
  pub gives_some : (verdict : Verdict) (before after : List ℕ) → HasNow (λ c. after ≡ salvaged_bytes own (last_image c) image.told) moments
      → GivesBytes image disk.sectors moments (Some verdict) before after
  gives_some verdict before after h c now =
      h c now ∙ ap (λ (d : DiskFormat). salvaged_bytes d (last_image c) image.told) (sym (is.own c now))

-- ---- what is kept

-- It is still of the disk, whatever was read and told of it.
pub read_salvage : (old new : Salvaged) (disk now : DiskIdentity) (before after : List Content) → now ≡ disk → after ≡ before → IsSalvageOf old disk before → IsSameSalvage old new
    → new.told ≤ blocks_of old → HasRoom 2 new.tags after → HasRoom 8 new.blocks after → IsSalvageOf new now after
read_salvage old new disk now before after e m is same few tags blocks =
    subst (λ (d : DiskIdentity). IsSalvageOf new d after) (sym e) (record {
      bound = is.bound;
      format = subst (λ (f : ImageFormat). IsFormat disk.sectors f) (sym same.format) is.format;
      salt = ap (λ (r : TagRule). r.salt) same.rule ∙ is.salt ∙ ap (λ (f : ImageFormat). salt_of f.fields) (sym same.format);
      size = ap (λ (r : TagRule). r.size) same.rule ∙ is.size ∙ ap (λ (f : ImageFormat). f.geometry.shape.tag_size) (sym same.format);
      own = λ c told.
          ap (λ (r : TagRule). format_on r.key disk.sectors (last_image c)) same.rule
          ∙ is.own c (ap content_now (sym m) ∙ told)
          ∙ ap (λ (r : TagRule). disk_format r.key disk.sectors old.format) (sym same.rule)
          ∙ ap (disk_format new.rule.key disk.sectors) (sym same.format);
      few = subst (λ (f : ImageFormat). new.told ≤ f.geometry.blocks) (sym same.format) few;
      tags = tags;
      blocks = blocks;
    })

-- What is opened is of the disk.
pub opened_salvage : (image : Salvaged) (key : Option (List ℕ)) (disk now : DiskIdentity) (before after : List Content) → now ≡ disk → after ≡ before
    → IsBound disk.name → IsFormat disk.sectors image.format → HasNow (IsReadNow key disk.sectors image.format) before
    → (let rule : TagRule = record { key = key; salt = salt_of image.format.fields; size = image.format.geometry.shape.tag_size } in image.rule ≡ rule)
    → image.told ≡ 0
    → (let tags : Window = record { room = 129; first = 0; bytes = [] } in image.tags ≡ tags)
    → (let blocks : Window = record { room = 512; first = 0; bytes = [] } in image.blocks ≡ blocks)
    → IsSalvageOf image now after
opened_salvage image key disk now before after e m bound format reads rule none tags blocks =
    let key_is : key ≡ image.rule.key = sym (ap (λ (r : TagRule). r.key) rule) in
    let is : IsSalvageOf image disk before = record {
      bound = bound;
      format = format;
      salt = ap (λ (r : TagRule). r.salt) rule;
      size = ap (λ (r : TagRule). r.size) rule;
      own = λ c told. subst (λ (k : Option (List ℕ)). format_on k disk.sectors (last_image c) ≡ disk_format k disk.sectors image.format) key_is (reads c told).own;
      few = omega (arith, none);
      tags = fresh_window 2 129 image.tags before tags (omega arith);
      blocks = fresh_window 8 512 image.blocks before blocks (omega arith);
    } in
    subst (λ (d : DiskIdentity). IsSalvageOf image d after) (sym e) (subst (λ (ms : List Content). IsSalvageOf image disk ms) (sym m) is)

-- ---- for callers

module _ (image : Salvaged) (disk : DiskIdentity) (moments : List Content) (is : IsSalvageOf image disk moments) (c : Content) (told : content_now moments ≡ Some c) where
  -- The image that reads give has so many blocks,
  pub blocks_are : (salvaged_format image disk.sectors (last_image c)).geometry.blocks ≡ blocks_of image
  blocks_are = ap (λ (d : DiskFormat). d.geometry.blocks) (is.own c told)

-- and it is the same format, whatever was read and told of it.
pub format-same : (old new : Salvaged) (sectors : ℕ) (c : Content) → IsSameSalvage old new → salvaged_format new sectors (last_image c) ≡ salvaged_format old sectors (last_image c)
format-same old new sectors c same = ap (λ (r : TagRule). format_on r.key sectors (last_image c)) same.rule
