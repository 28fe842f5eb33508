-- A device that has just been opened in recovery mode.
use Rattle.std.proofs.Common.{◌≡◌, ℕ, ◌*◌, List, None, Option, length, refl, sym, ◌∙◌, ap, subst}
use Rattle.std.proofs.lemmas.Option.{none-some}
use Rattle.disk_model.specs.Disk.{Content, last_image}
use Rattle.disk_model.specs.Identity.{DiskIdentity, IsBound}
use Rattle.disk_model.specs.Moments.{HasNow, content_now}
use Rattle.image_model.specs.Geometry.{Geometry}
use Rattle.device_model.specs.Mode.{Recovery}
use Rattle.place_model.specs.Format.{DiskFormat, format_on}
use Rattle.recovery_laws.proofs.EventLemmas.{opening_law}
use Rattle.hmac_tag.specs.TagMaker.{TagRule}
use Rattle.image_format.specs.declared.reading.ImageFormat.{ImageFormat}
use Rattle.image_format.specs.Format.{IsFormat, IsReadNow}
use Rattle.buffer_cache.specs.HeldSectors.{no_sectors}
use Rattle.tag_store.specs.Store.{IsStore, Store}
use Rattle.tag_store.proofs.StoreLawsLemmas.{fresh_law}
use Rattle.request_slots.specs.Flight.{Flight, no_requests}
use Rattle.device_parts.specs.declared.parts.Parts.{Parts}
use Rattle.device_parts.specs.Device.{HasOpened}
use Rattle.recovery_device.specs.Device.{HasNoWrite, in_recovery}
use Rattle.device_opening.specs.Judged.{rule_of}

-- ---- a device that is open

-- What was made for an image in this format has no request, and no tag in memory.
pub record IsMadeFor (key : Option (List ℕ)) (format : ImageFormat) (held : ℕ) (parts : Parts) : Type 0 where
  pub tags : parts.tags ≡ record { geometry = format.geometry; sectors = no_sectors held }
  pub maker : parts.maker ≡ rule_of key format
  pub slots : parts.slots ≡ no_requests format.geometry.blocks (512 * format.geometry.shape.spb)
  pub spb : parts.spb ≡ format.geometry.shape.spb
  pub buffer : length parts.buffer.items ≡ 512 * format.geometry.shape.spb

module _ (disk : DiskIdentity) (key : Option (List ℕ)) (format : ImageFormat) (held : ℕ) (parts : Parts) (bound : IsBound disk.name)
    (is : IsFormat disk.sectors format) (made : IsMadeFor key format held parts) where
  geometry_is : parts.tags.geometry ≡ format.geometry
  geometry_is = ap (λ (s : Store). s.geometry) made.tags

  slots_on : (g : Geometry) → g ≡ format.geometry → parts.slots ≡ no_requests g.blocks (512 * g.shape.spb)
  slots_on g same = made.slots ∙ ap (λ (x : Geometry). no_requests x.blocks (512 * x.shape.spb)) (sym same)

  pub opened : (a b : List Content) → b ≡ a → HasNow (IsReadNow key disk.sectors format) a → HasOpened in_recovery Recovery key disk parts a b
  opened a b same reads =
      let own = slots_on parts.tags.geometry geometry_is in
      record {
        device = λ start now made now_made.
            let d = format_on key disk.sectors (last_image start) in
            let places : d.geometry ≡ format.geometry = ap (λ (x : DiskFormat). x.geometry) (reads start now).own in
            let slots = slots_on d.geometry places in
            record {
              device = opening_law d (last_image start);
              geometry = geometry_is ∙ sym places;
              flight = record {
                blocks = ap (λ (x : Flight). x.blocks) slots;
                block_size = ap (λ (x : Flight). x.block_size) slots;
                most = refl;
                submitted = ap (λ (x : Flight). x.submitted) slots;
                slots = ap (λ (x : Flight). x.slots) slots;
                each = λ k r there. absurd (none-some r there);
              };
              condition_ = refl;
              told = start;
              is_told = ap content_now same ∙ now;
              entry_ = refl;
            };
        blocks = λ start now made now_made. record { blocks = refl; format = refl };
        ready = record {
          kept = record {
            store = subst (λ (s : Store). IsStore s disk b) (sym made.tags) (fresh_law format.geometry disk b held bound is.geometry).0;
            blocks = ap (λ (x : Flight). x.blocks) own;
            block_size = ap (λ (x : Flight). x.block_size) own;
            spb = made.spb ∙ sym (ap (λ (g : Geometry). g.shape.spb) geometry_is);
            tag_size = ap (λ (rule : TagRule). rule.size) made.maker ∙ sym (ap (λ (g : Geometry). g.shape.tag_size) geometry_is);
            buffer = made.buffer ∙ sym (ap (λ (x : Flight). x.block_size) made.slots);
          };
          no_write = subst HasNoWrite (sym made.slots) tt;
        };
        asked_ = refl;
        requests = own;
        can = λ start now. (reads start now).reads.readable;
      }
