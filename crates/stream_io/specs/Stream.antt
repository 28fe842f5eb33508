-- What a source gives and what a sink takes.
-- Own: bytes are given and taken in order, as many at a time as the object likes, and none only at the end.
use Rattle.std.specs.Prelude.{◌≡◌, ℕ, ◌<◌, ◌≤◌, List, [], ◌++◌, length, take, drop, Option}
use Rattle.std.specs.Option.{option_map}

-- The first n bytes of the buffer are the next ones of those that were left, and none come only at the end.
pub record Gives (n : ℕ) (buffer left : List ℕ) : Type 0 where
  pub next : take n buffer ≡ take n left
  pub within : n ≤ length left
  pub end : n ≡ 0 → 0 < length buffer → left ≡ []

-- Of the bytes that were left the first ones were taken, so many at most.
pub record TakesAtMost (most : ℕ) (left later : Option (List ℕ)) : Type 0 where
  pub count : ℕ
  pub within : count ≤ most
  pub rest : later ≡ option_map (drop count) left

-- What a sink holds once it has taken these bytes.
abbrev pub with_bytes : List ℕ → List ℕ → List ℕ
with_bytes bytes held = held ++ bytes

-- The sink has taken the first of these bytes, as many as `count`, and not all.
pub record AddsPrefix (bytes : List ℕ) (old new : Option (List ℕ)) : Type 0 where
  pub count : ℕ
  pub short : count < length bytes
  pub held : new ≡ option_map (with_bytes (take count bytes)) old

-- What a sink holds behind a text, where it tells that.
abbrev pub held_with : List ℕ → Option (List ℕ) → Option (List ℕ)
held_with text held = option_map (with_bytes text) held
