-- What calls tell of a request in journal mode, and what steps leave of the journal.
use Rattle.std.proofs.Common.{◌≡◌, ℕ, suc, ◌==◌, Bool, true, false, if◌then◌else◌, List, [], ◌∷◌, find, length, map, Option, Some, None, Result, IfOk, refl, sym, ◌∙◌, ap, subst, arith}
use Rattle.std.proofs.lemmas.List.{length-map}
use Rattle.std.proofs.lemmas.Bool.{true≢false}
use Rattle.device_model.specs.Mode as Modes
use Rattle.request_slots.specs.Flight.{Flight, ask_of, is_of, is_unfinished, next_of, turn_behind, turn_in, turn_of}
use Rattle.request_slots.specs.declared.request.Request.{Request}
use Rattle.request_slots.specs.declared.request.Request.TheVariants.{Flush, Read, Write}
use Rattle.request_slots.specs.declared.slot.Slot.{Slot}
use Rattle.request_slots.specs.declared.turn.Turn.{Turn}
use Rattle.request_slots.specs.declared.turn.Turn.TheVariants as Turns
use Rattle.device_model.specs.declared.actor.Actor.TheVariants.{Commit, Place, Settle}
use Rattle.device_parts.specs.declared.answers.Served.{Served}
use Rattle.device_parts.specs.declared.answers.Served.TheVariants as Serves
use Rattle.device_parts.specs.Device.{KeepsFlight}
use Rattle.journal_device.specs.Telling.{IsTicketOf, IsToldOf, TellsOf}
use Rattle.journal_device.proofs.TellingLemmas.{settled_room}
use Rattle.device.specs.declared.mode.Mode.{Mode}
use Rattle.device.specs.declared.mode.Mode.TheVariants.{Bitmap, Direct, Journal, Recovery}
use Rattle.device.specs.Telling.{IsDoneIn, IsDueIn, has_room_in}
use Rattle.device.proofs.ModeLemmas.{if_ok_each}

-- ---- the modes

pub no_direct : Modes.Direct ≡ Modes.Journal → ⊥
no_direct same = cc

pub no_bitmap : Modes.Bitmap ≡ Modes.Journal → ⊥
no_bitmap same = cc

pub no_recovery : Modes.Recovery ≡ Modes.Journal → ⊥
no_recovery same = cc

-- ---- room is made

pub due_commit : (mode : Mode) → IsDueIn Commit mode
due_commit (Direct recalculation) = tt
due_commit (Journal state) = tt
due_commit (Bitmap regions) = tt
due_commit Recovery = tt

pub due_place : (mode : Mode) → IsDoneIn Commit mode → IsDueIn Place mode
due_place (Direct recalculation) done = tt
due_place (Journal state) done = done
due_place (Bitmap regions) done = tt
due_place Recovery done = tt

pub due_settle : (mode : Mode) → IsDoneIn Place mode → IsDueIn Settle mode
due_settle (Direct recalculation) done = tt
due_settle (Journal state) done = done
due_settle (Bitmap regions) done = tt
due_settle Recovery done = tt

pub room_settled : (mode : Mode) → IsDoneIn Settle mode → has_room_in mode ≡ true
room_settled (Direct recalculation) done = refl
room_settled (Journal state) done = settled_room state.journal.ring done
room_settled (Bitmap regions) done = refl
room_settled Recovery done = refl

-- ---- a serve with room made for it

told_with_room : (t : ℕ) (old mid new : Flight) (room : Bool) → room ≡ true → mid ≡ old → (served : Served)
    → IsToldOf t mid new (room ≡ false) served → IsToldOf t old new ⊥ served
told_with_room t old mid new room has same (Serves.Held by) told = subst (λ (x : Flight). turn_of x t ≡ Turns.Held by) same told
told_with_room t old mid new room has same Serves.Did told = tt
told_with_room t old mid new room has same Serves.Done told = told
told_with_room t old mid new room has same Serves.NoRoom told = true≢false (sym has ∙ told)

pub tells_with_room : {E : Type 0} (t : ℕ) (old mid new : Flight) (room : Bool) → room ≡ true → mid ≡ old → (result : Result Served E)
    → TellsOf t mid new (room ≡ false) result → TellsOf t old new ⊥ result
tells_with_room t old mid new room has same result tells = record {
  keeps = λ request is. tells.keeps request (subst (λ (x : Flight). IsTicketOf request t x) (sym same) is);
  told = if_ok_each result (λ served told. told_with_room t old mid new room has same served told) tells.told;
}

-- One that finds room is told nothing else.
pub told_alone : (t : ℕ) (old new : Flight) (full : Type 0) (served : Served) → (served ≡ Serves.NoRoom → ⊥) → IsToldOf t old new full served
    → IsToldOf t old new ⊥ served
told_alone t old new full (Serves.Held by) other told = told
told_alone t old new full Serves.Did other told = told
told_alone t old new full Serves.Done other told = told
told_alone t old new full Serves.NoRoom other told = other refl

-- ---- one that is alone in flight

next_unheld : (x : Slot) (r : Request) (by : ℕ) → next_of x r ≡ Turns.Held by → ⊥
next_unheld x (Read first count buffer) by held = cc
next_unheld x (Write first count bytes fua) by held = cc
next_unheld x Flush by held = cc

abbrev turn_with : Flight → ℕ → List Slot → Turn
turn_with flight t slots = turn_in (record flight { slots = slots }) (find (is_of t) slots)

-- Its turn, by whether it is of the ticket, and unfinished.
abbrev alone_by : Slot → Bool → Bool → Turn
alone_by x own still = if own then (if still then turn_behind x None else Turns.Finished) else Turns.Finished

alone_is : (flight : Flight) (t : ℕ) (x : Slot) (own still same : Bool) → is_of t x ≡ own → is_unfinished x ≡ still → (x.ticket == x.ticket) ≡ same
    → turn_with flight t (x ∷ []) ≡ alone_by x own still
alone_is flight t x true true true e1 e2 e3 = simp (e1, e2, e3) refl
alone_is flight t x true true false e1 e2 e3 = simp (e1, e2, e3) refl
alone_is flight t x true false same e1 e2 e3 = simp (e1, e2) refl
alone_is flight t x false still same e1 e2 e3 = simp e1 refl

unheld_by : (x : Slot) (own still : Bool) (by : ℕ) → alone_by x own still ≡ Turns.Held by → ⊥
unheld_by x true true by held = next_unheld x x.request by held
unheld_by x true false by held = cc
unheld_by x false still by held = cc

unheld_in : (flight : Flight) (t : ℕ) (slots : List Slot) → length slots ≡ 1 → (by : ℕ) → turn_with flight t slots ≡ Turns.Held by → ⊥
unheld_in flight t [] one by held = omega (arith, one)
unheld_in flight t (x ∷ []) one by held =
    unheld_by x (is_of t x) (is_unfinished x) by (sym (alone_is flight t x (is_of t x) (is_unfinished x) (x.ticket == x.ticket) refl refl refl) ∙ held)
unheld_in flight t (x ∷ y ∷ slots) one by held = omega (arith, one)

unheld : (flight : Flight) (t by : ℕ) → length flight.slots ≡ 1 → turn_of flight t ≡ Turns.Held by → ⊥
unheld flight t by one held = unheld_in flight t flight.slots one by held

-- As many are in flight.
as_many : (old new : Flight) → KeepsFlight old new → length new.slots ≡ length old.slots
as_many old new keeps =
    sym (length-map new.slots ask_of) ∙ ap length keeps.asks ∙ length-map old.slots ask_of

-- It waits for none.
pub held_alone : (t by : ℕ) (first old new : Flight) → KeepsFlight first old → length first.slots ≡ 1 → IsToldOf t old new ⊥ (Serves.Held by) → ⊥
held_alone t by first old new keeps one told = unheld old t by (as_many first old keeps ∙ one) told
