-- The slots of an open-addressed table, and where the search for a key ends.
-- Own: a key has a home, and stands in the first slot from there on that was free when it came.
use Rattle.std.specs.Prelude.{◌≡◌, ℕ, ◌+◌, ◌*◌, ◌/◌, ◌%◌, ◌^◌, ◌<◌, ◌≤◌, ◌==◌, Bool, true, false, List, length, drop, get_or, filter, Option, None, Some}
use Rattle.std.specs.Int.Bits.{bit_and}
use Rattle.std.specs.List.{position_or_len}
use Rattle.image_model.specs.declared.entry_place.EntryPlace.{EntryPlace}
use Rattle.journal_overlay.specs.declared.table.Last.{Last}
use Rattle.journal_overlay.specs.declared.table.Slot.{Slot}
use Rattle.journal_overlay.specs.declared.table.Slot.TheVariants.{Free, Gone, Told}

abbrev pub stops : ℕ → Slot → Bool
stops key Free = true
stops key (Gone own) = own == key
stops key (Told at own place) = own == key

abbrev pub is_used : Slot → Bool
is_used Free = false
is_used (Gone own) = true
is_used (Told at own place) = true

abbrev pub key_in : Slot → Option ℕ
key_in Free = None
key_in (Gone own) = Some own
key_in (Told at own place) = Some own

abbrev pub last_in : Slot → Option ℕ
last_in Free = None
last_in (Gone own) = None
last_in (Told at own place) = Some at

abbrev pub place_in : Slot → Option EntryPlace
place_in Free = None
place_in (Gone own) = None
place_in (Told at own place) = Some place

-- The slot of a key that stands last here, if it does.
abbrev pub slot_with : (key : ℕ) → Option Last → Slot
slot_with key None = Gone key
slot_with key (Some last) = Told last.at key last.place

-- The home of a key, among so many.
unfoldable pub home_of : (homes key : ℕ) → ℕ
home_of homes key = (key * 0x9e37_79b9_7f4a_7c15 % 2 ^ 64 / 2 ^ 32) * homes % 2 ^ 64 / 2 ^ 32

-- One of eight bits, which differs between most keys of a home.
unfoldable pub bit_of : (key : ℕ) → ℕ
bit_of key = 2 ^ (key * 0x9e37_79b9_7f4a_7c15 % 2 ^ 64 / 2 ^ 29 % 8)

abbrev pub HasBit : (bits bit : ℕ) → Type 0
HasBit bits bit = bit_and bits bit ≡ bit

-- Of each key that came to a slot, its home has its bit.
abbrev pub HasBits : (homes : ℕ) → (bits : List ℕ) → List Slot → Type 0
HasBits homes bits slots = (s key : ℕ) → key_in (get_or slots s Free) ≡ Some key
    → HasBit (get_or bits (home_of homes key) 0) (bit_of key)

-- Where the search for a key ends: the first slot from its home on that is free or its own.
abbrev pub slot_of : (homes : ℕ) → List Slot → (key : ℕ) → ℕ
slot_of homes slots key = home_of homes key + position_or_len (stops key) (drop (home_of homes key) slots)

-- Where a key stands last, if it does,
abbrev pub last_at : (homes : ℕ) → List Slot → (key : ℕ) → Option ℕ
last_at homes slots key = last_in (get_or slots (slot_of homes slots key) Free)

-- and the place there.
abbrev pub place_at : (homes : ℕ) → List Slot → (key : ℕ) → Option EntryPlace
place_at homes slots key = place_in (get_or slots (slot_of homes slots key) Free)

-- The search for a key ends at slot s.
pub record EndsAt (homes : ℕ) (slots : List Slot) (key s : ℕ) : Type 0 where
  pub from : home_of homes key ≤ s
  pub passes : (j : ℕ) → home_of homes key ≤ j → j < s → stops key (get_or slots j Free) ≡ false
  pub ends : stops key (get_or slots s Free) ≡ true

-- Every key stands where the search for it ends, and there is room for so many keys, of which some came.
pub record IsTable (keys came homes : ℕ) (slots : List Slot) : Type 0 where
  pub some : 0 < homes
  pub room : length slots ≡ homes + keys
  pub few : length (filter is_used slots) ≤ came
  pub found : (s key : ℕ) → key_in (get_or slots s Free) ≡ Some key → EndsAt homes slots key s
