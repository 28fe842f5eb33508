-- What a call leaves that answers well.
use Rattle.std.proofs.Common.{◌≡◌, ℕ, ◌+◌, ◌<◌, List, ◌∷◌, ◌++◌, length, get_or, true, OnOk, Result, Ok, Err, refl, sym, ◌∙◌, ap, subst, arith}
use Rattle.std.specs.List.{remove}
use Rattle.disk_model.specs.Disk.{Content}
use Rattle.disk_model.specs.Identity.{DiskIdentity}
use Rattle.request_slots.specs.Flight as slots
use Rattle.request_slots.specs.Flight.{is_in_flight, slot_of}
use Rattle.request_slots.specs.Taking.{after_take}
use Rattle.device_parts.specs.declared.condition.Condition.{Condition}
use Rattle.device_parts.specs.declared.condition.Condition.TheVariants.{Working}
use Rattle.device_parts.specs.Device.{KeepsParts}
use Rattle.device.specs.declared.mode.DeviceParts.{DeviceParts}
use Rattle.device.specs.Calls.{StaysReady, Works}
use Rattle.device.specs.Device.{IsReady, any_mode, mode_of, with_slots}
use Rattle.nbd_flight.specs.declared.flight.Flight.{Flight}
use Rattle.nbd_flight.specs.declared.flight.Waiting.{Waiting}
use Rattle.nbd_flight.specs.Flight.{AreHeld}
use Rattle.nbd_flight.specs.Rounds.{Stays}
use Rattle.nbd_flight.proofs.FlightLemmas.{blocks_taken, block_size_taken, held_kept, held_own, held_taken, own-is, remove-split, split_at, submitted_taken}

module _ {D : Type 0} (identity : D → DiskIdentity) (moments : D → List Content) where
  -- Nothing is done,
  pub stays_none : (condition : Condition) (parts : DeviceParts) (disk : D) (x : Flight) → Works identity moments condition parts disk
      → AreHeld 0 x.waiting.items parts.common.slots → Stays 0 identity moments condition parts parts disk x
  stays_none condition parts disk x works are = record { works = works; held = are; same_mode = refl; blocks = refl; block_size = refl; submitted = omega arith }

  -- or the same requests are in flight,
  pub stays_kept : (condition : Condition) (old new : DeviceParts) (was : DiskIdentity) (disk : D) (x : Flight) → condition ≡ Working
      → KeepsParts any_mode Working old new was (identity disk) (moments disk) → AreHeld 0 x.waiting.items old.common.slots
      → Stays 0 identity moments condition old new disk x
  stays_kept condition old new was disk x works kept are = record {
    works = record { ready = subst (λ (c : Condition). IsReady c new (identity disk) (moments disk)) (sym works) kept.ready; is = works };
    held = held_kept 0 x.waiting.items old.common.slots new.common.slots kept.flight are;
    same_mode = kept.same_mode;
    blocks = kept.flight.blocks;
    block_size = kept.flight.block_size;
    submitted = let same = kept.flight.submitted in omega (arith, same);
  }

  -- and then more is done,
  pub stays_then : (m n : ℕ) (now later : Condition) (a b c : DeviceParts) (disk then_ : D) (x y : Flight) → Stays m identity moments now a b disk x
      → Stays n identity moments later b c then_ y → Stays (m + n) identity moments later a c then_ y
  stays_then m n now later a b c disk then_ x y first second = record {
    works = second.works;
    held = second.held;
    same_mode = second.same_mode ∙ first.same_mode;
    blocks = second.blocks ∙ first.blocks;
    block_size = second.block_size ∙ first.block_size;
    submitted = let one = first.submitted in let two = second.submitted in omega (arith, one, two);
  }

  -- or one is taken out.
  module _ (condition now : Condition) (old new : DeviceParts) (first last : D) (at : ℕ) (own : Waiting) (x : Flight)
      (works : Works identity moments condition old first) (are : AreHeld 0 x.waiting.items old.common.slots) (low : at < length x.waiting.items)
      (own_is : own ≡ get_or x.waiting.items at own) where
    pub own_there : is_in_flight own.ticket old.common.slots ≡ true
    own_there =
        let split = split_at x.waiting.items at low in
        ap (λ (w : Waiting). is_in_flight w.ticket old.common.slots) (own-is x.waiting.items at own split.before split.own split.rest own_is split.is split.place)
        ∙ held_own 0 split.before split.own split.rest old.common.slots (subst (λ (l : List Waiting). AreHeld 0 l old.common.slots) split.is are)

    pub stays_taken : (y : Flight) → now ≡ condition → new ≡ with_slots old (after_take own.ticket (slot_of own.ticket old.common.slots) old.common.slots)
        → StaysReady identity moments condition old new first last → y.waiting.items ≡ remove x.waiting.items at → Stays 0 identity moments now old new last y
    stays_taken y same taken ready removed =
        let split = split_at x.waiting.items at low in
        let own_same = own-is x.waiting.items at own split.before split.own split.rest own_is split.is split.place in
        let slot = slot_of own.ticket old.common.slots in
        let flight = after_take own.ticket slot old.common.slots in
        let slots_is : new.common.slots ≡ flight = ap (λ (p : DeviceParts). p.common.slots) taken in
        let left : y.waiting.items ≡ split.before ++ split.rest =
        removed ∙ ap (λ (l : List Waiting). remove l at) split.is ∙ ap (remove (split.before ++ split.own ∷ split.rest)) (sym split.place) ∙ remove-split split.before split.own split.rest in
        let held = held_taken split.before own split.rest slot old.common.slots
        (subst (λ (w : Waiting). AreHeld 0 (split.before ++ w ∷ split.rest) old.common.slots) (sym own_same) (subst (λ (l : List Waiting). AreHeld 0 l old.common.slots) split.is are)) in
        record {
          works = record {
            ready = subst (λ (c : Condition). IsReady c new (identity last) (moments last)) (sym same) (ready works.ready);
            is = same ∙ works.is;
          };
          held = subst (AreHeld 0 y.waiting.items) (sym slots_is) (subst (λ (l : List Waiting). AreHeld 0 l flight) (sym left) held);
          same_mode = ap (λ (p : DeviceParts). mode_of p.mode) taken;
          blocks = ap (λ (f : slots.Flight). f.blocks) slots_is ∙ blocks_taken own.ticket slot old.common.slots;
          block_size = ap (λ (f : slots.Flight). f.block_size) slots_is ∙ block_size_taken own.ticket slot old.common.slots;
          submitted = let count = ap (λ (f : slots.Flight). f.submitted) slots_is ∙ submitted_taken own.ticket slot old.common.slots in omega (arith, count);
        }

-- What is so on an answer.
pub on_ok_always : {T E P : Type 0} (r : Result T E) → P → OnOk r P
on_ok_always (Ok x) p = p
on_ok_always (Err e) p = tt
