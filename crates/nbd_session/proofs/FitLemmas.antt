-- What stays from one take of a piece to the next.
use Rattle.std.proofs.Common.{◌≡◌, ℕ, ◌-◌, ◌<◌, ◌≤◌, List, length, drop, length-drop, take, Result, Err, sym, ◌∙◌, subst, arith, Option, None}
use Rattle.std.proofs.lemmas.List.{take_all}
use Rattle.disk_model.specs.Disk.{Content}
use Rattle.disk_model.specs.Identity.{DiskIdentity}
use Rattle.device_parts.specs.declared.condition.Condition.{Condition}
use Rattle.device.specs.declared.mode.DeviceParts.{DeviceParts}
use Rattle.request_slots.specs.Flight as slots
use Rattle.nbd_model.specs.Stream.{Message}
use Rattle.nbd_wire.specs.Splitting.{Place, take_from}
use Rattle.nbd_flight.specs.declared.stop.Stop.{Stop}
use Rattle.nbd_flight.specs.declared.stop.Stop.TheVariants as Faults
use Rattle.nbd_flight.specs.declared.flight.Flight.{Flight}
use Rattle.nbd_flight.specs.declared.whole.Whole as flights
use Rattle.nbd_flight.specs.Asking.{IsWhole}
use Rattle.nbd_flight.specs.Rounds.{HasCauses, Stays}
use Rattle.nbd_incoming.specs.declared.incoming.Coming.{Coming}
use Rattle.nbd_incoming.specs.declared.incoming.Incoming.{Incoming}
use Rattle.nbd_incoming.specs.declared.taken.Taken.{Taken}
use Rattle.nbd_incoming.specs.declared.taken.Taken.TheVariants as takens
use Rattle.nbd_incoming.specs.Incoming.{HasTaken, IsOutcome, Keeps, KeepsComing}
use Rattle.nbd_incoming.specs.Taking.{Fits, Outcome, outcome_of}
use Rattle.nbd_incoming.proofs.StepLemmas.{Leaves, steps}
use Rattle.nbd_session.specs.Piece.{IsFor}
use Rattle.nbd_session.proofs.AskingLemmas.{is_part, is_request}

module _ (incoming now : Incoming) (bytes : List ℕ) (count : ℕ) (taken : Taken) (has : HasTaken incoming now bytes count taken)
    (coming : Option Message) (keeps : Keeps incoming coming) where
  abbrev outcome : Outcome
  outcome = outcome_of coming (take_from incoming.splitter bytes).event (take (take_from incoming.splitter bytes).count bytes)

  abbrev IsTold : Taken → Type 0
  IsTold t = IsOutcome now.blocks now.block_size now.coming t outcome

  outcome_is : IsTold taken
  outcome_is = subst (λ (k : ℕ). IsOutcome now.blocks now.block_size now.coming taken (outcome_of coming (take_from incoming.splitter bytes).event (take k bytes)))
      has.count_ (has.outcome coming keeps)

  leaves-is : (o : Outcome) → outcome ≡ o → Leaves o (take_from incoming.splitter bytes).place
  leaves-is o is = subst (λ (x : Outcome). Leaves x (take_from incoming.splitter bytes).place) is (steps incoming.splitter coming bytes keeps.fits).leaves

  -- What is coming is kept where no request ended,
  pub keeps_part : taken ≡ takens.Part → (next : Option Message) × Keeps now next
  keeps_part is =
      let told = is_part now.blocks now.block_size now.coming outcome (subst IsTold is outcome_is) in (
        told.next,
        record { fits = subst (λ (p : Place). Fits p told.next) (sym has.place) (leaves-is _ told.is); write = told.keeps },
      )

  -- and nothing is where one did.
  pub keeps_whole : (whole : flights.Whole) → taken ≡ takens.Whole whole → Keeps now None
  keeps_whole whole is =
      let told = is_request now.blocks now.block_size now.coming whole outcome (subst IsTold is outcome_is) in
      record {
        fits = subst (λ (p : Place). Fits p None) (sym has.place) (leaves-is _ told.is).0;
        write = subst (λ (c : Option Coming). KeepsComing now.blocks now.block_size c None) (sym told.none) tt;
      }

-- The next take is for the same device.
pub is_for : (incoming now : Incoming) (flight flight_now : slots.Flight) → IsFor incoming flight → now.blocks ≡ incoming.blocks → now.block_size ≡ incoming.block_size
    → flight_now.blocks ≡ flight.blocks → flight_now.block_size ≡ flight.block_size → (coming : Option Message) → Keeps now coming → IsFor now flight_now
is_for incoming now flight flight_now fit blocks block_size same_blocks same_size coming keeps = record {
  blocks = blocks ∙ fit.blocks ∙ sym same_blocks;
  block_size = block_size ∙ fit.block_size ∙ sym same_size;
  some = subst (λ (n : ℕ). 0 < n) (sym block_size) fit.some;
  coming = coming;
  keeps = keeps;
}

-- It came whole, for the same device.
pub whole_on : (blocks block_size more more_size : ℕ) (whole : flights.Whole) (m : Message) → blocks ≡ more → block_size ≡ more_size → IsWhole blocks block_size whole m
    → IsWhole more more_size whole m
whole_on blocks block_size more more_size whole m same same_size is =
    subst (λ (n : ℕ). IsWhole more n whole m) same_size (subst (λ (n : ℕ). IsWhole n block_size whole m) same is)

-- The rest of a piece.
pub rest_is : (piece : List ℕ) (at : ℕ) → take (length piece - at) (drop at piece) ≡ drop at piece
rest_is piece at = take_all (length piece - at) (drop at piece) (omega (arith, length-drop at piece))

-- More may be submitted than was.
pub stays_more : {D : Type 0} (identity : D → DiskIdentity) (moments : D → List Content) (m n : ℕ) (condition : Condition) (old new : DeviceParts) (disk : D) (x : Flight)
    → m ≤ n → Stays m identity moments condition old new disk x → Stays n identity moments condition old new disk x
stays_more identity moments m n condition old new disk x low stays = record {
  works = stays.works;
  held = stays.held;
  same_mode = stays.same_mode;
  blocks = stays.blocks;
  block_size = stays.block_size;
  submitted = let fewer = stays.submitted in omega (arith, fewer, low);
}

-- There was no memory, and nothing had failed.
pub causes_memory : {T : Type 0} (disk disk_now sink sink_now : ℕ) → disk_now ≡ disk → sink_now ≡ sink
    → HasCauses {T = T} disk disk_now sink sink_now (Err Faults.Memory)
causes_memory {T} disk disk_now sink sink_now same same_sink = record {
  disk_later = omega (arith, same);
  sink_later = omega (arith, same_sink);
  disk_failed = λ is. absurd (other_disk is);
  sink_failed = λ is. absurd (other_sink is);
  disk_passed = λ is. same;
  sink_passed = λ is. same_sink;
}
  where
    other_disk : ◌≡◌ {A = Result T Stop} (Err Faults.Memory) (Err Faults.Disk) → ⊥
    other_disk is = cc

    other_sink : ◌≡◌ {A = Result T Stop} (Err Faults.Memory) (Err Faults.Sink) → ⊥
    other_sink is = cc
