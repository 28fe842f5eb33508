-- Why requests are refused on a device in recovery mode, and the device over a disk whose journal has no walk.
use Rattle.std.proofs.Common.{◌≡◌, ◌*◌, [], ◌∷◌, None, Some, false, true, replicate, refl, ap}
use Rattle.std.proofs.lemmas.Option.{none-some}
use Rattle.disk_model.specs.Disk.{Content}
use Rattle.device_model.specs.Mode.{Recovery}
use Rattle.place_model.specs.Opened.{device_format, opened_on}
use Rattle.place_model.proofs.WorkedDisk.{journal_format, zeros_journal}
use Rattle.recovery_laws.proofs.EventLemmas.{opening_law}
use Rattle.request_slots.specs.declared.request.Request.TheVariants.{Read, Write, Flush}
use Rattle.request_slots.specs.declared.submit_fault.SubmitFault.TheVariants as Faults
use Rattle.request_slots.specs.Flight.{Flight, newly_slotted, no_requests}
use Rattle.device_parts.specs.declared.condition.Condition.TheVariants.{Broken, Working}
use Rattle.recovery_device.specs.Answers.{refusal_of}
use Rattle.device_parts.specs.declared.parts.Parts.{Parts}
use Rattle.device_parts.specs.Device.{Standing}
use Rattle.recovery_device.specs.Device.{HasNoWrite, IsRecovering}

-- ---- submissions

abbrev flight : Flight
flight = no_requests 80 512

refusal_of-write : refusal_of Working flight (Write 3 1 (replicate 512 0xaa) false) ≡ Some Faults.ReadOnly
refusal_of-write = refl

refusal_of-write_out_of_range : refusal_of Working flight (Write 80 1 [] true) ≡ Some Faults.ReadOnly
refusal_of-write_out_of_range = refl

refusal_of-read : refusal_of Working flight (Read 79 1 (replicate 512 0)) ≡ None
refusal_of-read = refl

refusal_of-read_out_of_range : refusal_of Working flight (Read 80 1 (replicate 512 0)) ≡ Some (Faults.Range 80 1 80)
refusal_of-read_out_of_range = refl

refusal_of-flush : refusal_of Working flight Flush ≡ None
refusal_of-flush = refl

refusal_of-broken : refusal_of Broken flight (Write 3 1 (replicate 512 0xaa) false) ≡ Some Faults.Broken
refusal_of-broken = refl

-- A read and a flush are in flight: no write is.
HasNoWrite-two : HasNoWrite (record flight { slots = newly_slotted 1 (Read 5 1 (replicate 512 0)) ∷ newly_slotted 2 Flush ∷ [] })
HasNoWrite-two = (tt, (tt, tt))

-- ---- the device over a disk whose journal has no walk

abbrev on_zeros : Standing
on_zeros = record {
  format = device_format Recovery journal_format;
  state = opened_on Recovery journal_format zeros_journal;
  on = journal_format;
  entry = zeros_journal;
}

abbrev content : Content
content sector = zeros_journal sector ∷ []

-- What has just been opened is a device: no law speaks of nothing.
IsRecovering-zeros : (parts : Parts) → parts.tags.geometry ≡ journal_format.geometry
    → parts.slots ≡ no_requests journal_format.geometry.blocks (512 * journal_format.geometry.shape.spb)
    → IsRecovering on_zeros Working parts (content ∷ [])
IsRecovering-zeros parts geometry slots = record {
  device = opening_law journal_format zeros_journal;
  geometry = geometry;
  flight = record {
    blocks = ap (λ (x : Flight). x.blocks) slots;
    block_size = ap (λ (x : Flight). x.block_size) slots;
    most = refl;
    submitted = ap (λ (x : Flight). x.submitted) slots;
    slots = ap (λ (x : Flight). x.slots) slots;
    each = λ k r there. absurd (none-some r there);
  };
  condition_ = refl;
  told = content;
  is_told = refl;
  entry_ = refl;
}
