-- What a cache holds of each sector, and how its steps change that.
-- Own: a sector is held among the recent ones, or in the scratch buffer where there was no memory for it.
use Rattle.std.specs.Prelude.{ℕ, ◌+◌, ◌<◌, ◌≤◌, ◌≡◌, ◌≢◌, ◌==◌, true, false, nat_eq, if◌then◌else◌, List, [], ◌∷◌, length, Option, Some, None}
use Rattle.std.specs.List.{replace_range}
use Rattle.std.specs.Map.{lookup, set_value}
use Rattle.std.specs.Option.{option_map_or, option_or}
use Rattle.lru.specs.LruCache.{LruCache, lru_cache, last_entry, promoted, put_entries}
use Rattle.buffer_cache.specs.declared.held.Held.{Held}
use Rattle.buffer_cache.specs.declared.held.HeldSectors.{HeldSectors}
use Rattle.buffer_cache.specs.declared.held.Scratch.{Scratch}

-- What the scratch buffer holds of a sector.
abbrev pub in_scratch : Option Scratch → ℕ → Option Held
in_scratch None sector = None
in_scratch (Some scratch) sector = if scratch.at == sector then Some scratch.held else None

-- What is held of a sector.
abbrev pub held_in : HeldSectors → ℕ → Option Held
held_in sectors sector = option_or (lookup (nat_eq sector) sectors.recent.entries) (in_scratch sectors.scratch sector)

-- Its bytes are written, so they are not marked.
abbrev pub unmarked : Held → Held
unmarked held = record held { marked = false }

-- The bytes with a piece in the place of those from byte `from` on.
abbrev pub with_piece : ℕ → List ℕ → List ℕ → List ℕ
with_piece from piece bytes = replace_range bytes from (from + length piece) piece

-- A piece of it was changed, so it is marked.
abbrev pub with_held_piece : ℕ → List ℕ → Held → Held
with_held_piece from piece held = record { bytes = with_piece from piece held.bytes; marked = true }

-- The entries with a change of what is held of one sector.
abbrev pub changed_at : ℕ → (Held → Held) → List (ℕ × Held) → List (ℕ × Held)
changed_at at change entries =
    option_map_or (λ held. set_value (nat_eq at) entries (change held)) (lookup (nat_eq at) entries) entries

-- The scratch buffer with that change.
abbrev pub changed_scratch : ℕ → (Held → Held) → Option Scratch → Option Scratch
changed_scratch at change None = None
changed_scratch at change (Some scratch) =
    if scratch.at == at then Some (record scratch { held = change scratch.held }) else Some scratch

-- What is held, with a change of one sector.
abbrev pub with_change : ℕ → (Held → Held) → HeldSectors → HeldSectors
with_change at change sectors = record {
  recent = lru_cache (changed_at at change sectors.recent.entries) sectors.recent.cap;
  scratch = changed_scratch at change sectors.scratch;
}

-- What is held, where a sector is the most recently used one, if it is among the recent ones.
abbrev pub in_front : ℕ → HeldSectors → HeldSectors
in_front at sectors = record sectors {
  recent = lru_cache (promoted (nat_eq at) sectors.recent.entries) sectors.recent.cap;
}

-- The sector is the least recently used one, and there are as many as there may be.
pub record IsLast (recent : LruCache ℕ Held) (sector : ℕ) : Type 0 where
  pub held : Held
  pub is : last_entry recent.entries ≡ Some (sector, held)
  pub full : recent.cap ≤ length recent.entries

-- Where there are as many recent ones as there may be, the next one to go out is not marked.
pub record CanPutOut (sectors : HeldSectors) : Type 0 where
  pub last : (sector : ℕ) (held : Held) → sectors.recent.cap ≤ length sectors.recent.entries
      → last_entry sectors.recent.entries ≡ Some (sector, held) → held.marked ≡ false
  pub fits : length sectors.recent.entries ≤ sectors.recent.cap
  pub some : 0 < sectors.recent.cap

-- What is held, with a sector that was put among the recent ones.
abbrev pub with_recent : ℕ → Held → HeldSectors → HeldSectors
with_recent at held sectors = record sectors {
  recent = lru_cache (put_entries nat_eq sectors.recent at held) sectors.recent.cap;
}

-- What the scratch buffer holds is not marked.
pub record IsFree (sectors : HeldSectors) : Type 0 where
  pub free : (scratch : Scratch) → sectors.scratch ≡ Some scratch → scratch.held.marked ≡ false

-- Each sector that was not held is not held.
pub record HoldsNoMore (old new : HeldSectors) : Type 0 where
  pub each : (sector : ℕ) → held_in old sector ≡ None → held_in new sector ≡ None

-- Each sector that was not held is not held, but for one.
pub record HoldsAlso (at : ℕ) (old new : HeldSectors) : Type 0 where
  pub each : (sector : ℕ) → sector ≢ at → held_in old sector ≡ None → held_in new sector ≡ None

-- None is held, and there may be so many recent ones.
abbrev pub no_sectors : ℕ → HeldSectors
no_sectors slots = record { recent = lru_cache [] slots; scratch = None }

-- The sectors of the entries that are marked.
abbrev pub marked_keys : List (ℕ × Held) → List ℕ
marked_keys [] = []
marked_keys (e ∷ es) = if e.1.marked then e.0 ∷ marked_keys es else marked_keys es

-- The sector of the scratch buffer, where it is marked.
abbrev pub marked_scratch : Option Scratch → List ℕ
marked_scratch None = []
marked_scratch (Some scratch) = if scratch.held.marked then scratch.at ∷ [] else []
