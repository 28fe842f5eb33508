-- What contents and images have at a sector after a write or a sync.
use Rattle.std.proofs.Common.{subst, ◌≡◌, ◌≢◌, ◌⊎◌, inl, inr, ⊎_elim, ℕ, Bool, true, false, ◌+◌, ◌-◌, ◌*◌, ◌/◌, ◌<◌, ◌≤◌, List, [], ◌∷◌, ◌++◌, length, take, drop, refl, sym, ◌∙◌, ap, arith, if◌then◌else◌, nat_le, nat_lt, ◌&&◌, Option, Some, None}
use Rattle.std.specs.List.{Contains}
use Rattle.std.specs.Option.{ForSome, option_map}
use Rattle.std.proofs.lemmas.Option.{none-some, same_Some}
use Rattle.std.proofs.lemmas.List.{take_all}
use Rattle.std.proofs.lemmas.List.Elements.{Contains-push, Contains-push_cases}
use Rattle.std.proofs.lemmas.Bool.{cases_Bool, leb-true, ltb-true, le-leb, lt-ltb}
use Rattle.disk_model.specs.Disk.{Content, Image, IsImage, last_candidate, last_image, sector_in, Reads, is_within, with_sectors, with_run, AddsSome, newest_only, HasNothingPending, OnlyAdds, IsOfRun}

-- ---- candidates

pub last_candidate-push : (xs : List (List ℕ)) (x : List ℕ) → last_candidate (xs ++ x ∷ []) ≡ x
last_candidate-push [] x = refl
last_candidate-push (y ∷ []) x = refl
last_candidate-push (y ∷ z ∷ xs) x = last_candidate-push (z ∷ xs) x

-- The last of some candidates is one of them.
pub last_candidate-among : (xs : List (List ℕ)) (x : List ℕ) → Contains (xs ++ x ∷ []) (last_candidate (xs ++ x ∷ []))
last_candidate-among xs x = subst (λ (y : List ℕ). Contains (xs ++ x ∷ []) y) (sym (last_candidate-push xs x)) (Contains-push xs x)

-- Of one candidate there is no other.
pub only_candidate : (y x : List ℕ) → Contains (y ∷ []) x → x ≡ y
only_candidate y x has = ⊎_elim (λ none. absurd (omega (arith, none.1))) sym (Contains-push_cases [] y x has)

-- ---- the sectors of a run

and_true : (a b : Bool) → (a && b) ≡ true → (a ≡ true) × (b ≡ true)
and_true true b e = (refl, e)
and_true false b e = absurd (cc)

pub is_within-true : (at count sector : ℕ) → at ≤ sector → sector < at + count → is_within at count sector ≡ true
is_within-true at count sector low high = rw (le-leb at sector low, lt-ltb sector (at + count) high)

-- What the test says.
pub is_within_tells : (at count sector : ℕ) → is_within at count sector ≡ true → (at ≤ sector) × (sector < at + count)
is_within_tells at count sector e =
    let tests = and_true (nat_le at sector) (nat_lt sector (at + count)) e in
    (leb-true at sector tests.0, ltb-true sector (at + count) tests.1)

-- A sector is one of the run's, or it is not.
pub within_or_out : (at count sector : ℕ) → ((at ≤ sector) × (sector < at + count)) ⊎ (at ≤ sector → sector < at + count → ⊥)
within_or_out at count sector = elim (cases_Bool (is_within at count sector)) [
  | inl holds ↦ inl (is_within_tells at count sector holds)
  | inr fails ↦ inr (λ low high. absurd (cc (fails, is_within-true at count sector low high)))
]

-- ---- contents after a write

pub with_sectors-in : (count at : ℕ) (bytes : List ℕ) (c : Content) (sector : ℕ) → at ≤ sector → sector < at + count → with_sectors count at bytes c sector ≡ c sector ++ sector_in bytes (sector - at) ∷ []
with_sectors-in count at bytes c sector low high =
    ap (λ (b : Bool). if b then c sector ++ sector_in bytes (sector - at) ∷ [] else c sector) (is_within-true at count sector low high)

pub with_sectors-out : (count at : ℕ) (bytes : List ℕ) (c : Content) (sector : ℕ) → (at ≤ sector → sector < at + count → ⊥) → with_sectors count at bytes c sector ≡ c sector
with_sectors-out count at bytes c sector out = elim (cases_Bool (is_within at count sector)) [
  | inl holds ↦ let within = is_within_tells at count sector holds in absurd (out within.0 within.1)
  | inr fails ↦ ap (λ (b : Bool). if b then c sector ++ sector_in bytes (sector - at) ∷ [] else c sector) fails
]

pub with_run-out : (at : ℕ) (bytes : List ℕ) (c : Content) (sector : ℕ) → (at ≤ sector → sector < at + length bytes / 512 → ⊥) → with_run at bytes c sector ≡ c sector
with_run-out at bytes c sector out = with_sectors-out (length bytes / 512) at bytes c sector out

pub with_run-other : (at : ℕ) (bytes : List ℕ) (c : Content) (sector : ℕ) → length bytes ≡ 512 → sector ≢ at → with_run at bytes c sector ≡ c sector
with_run-other at bytes c sector one other = with_run-out at bytes c sector (λ low high. other (omega (arith, one, low, high)))

-- Of a run of one sector the sector is all the bytes.
pub sector_in-one : (bytes : List ℕ) (at : ℕ) → length bytes ≡ 512 → sector_in bytes (at - at) ≡ bytes
sector_in-one bytes at one =
    let first : 512 * (at - at) ≡ 0 = omega arith in
    ap (λ (k : ℕ). take 512 (drop k bytes)) first ∙ take_all 512 bytes (omega (arith, one))

-- ---- what reads give after a write

pub last_image-with_run : (at : ℕ) (bytes : List ℕ) (c : Content) (sector : ℕ) → at ≤ sector → sector < at + length bytes / 512 → last_image (with_run at bytes c) sector ≡ sector_in bytes (sector - at)
last_image-with_run at bytes c sector low high =
    ap last_candidate (with_sectors-in (length bytes / 512) at bytes c sector low high) ∙ last_candidate-push (c sector) (sector_in bytes (sector - at))

pub last_image-with_run_out : (at : ℕ) (bytes : List ℕ) (c : Content) (sector : ℕ) → (at ≤ sector → sector < at + length bytes / 512 → ⊥) → last_image (with_run at bytes c) sector ≡ last_image c sector
last_image-with_run_out at bytes c sector out = ap last_candidate (with_run-out at bytes c sector out)

pub last_image-with_one : (at : ℕ) (bytes : List ℕ) (c : Content) → length bytes ≡ 512 → last_image (with_run at bytes c) at ≡ bytes
last_image-with_one at bytes c one =
    last_image-with_run at bytes c at (omega arith) (omega (arith, one)) ∙ sector_in-one bytes at one

pub last_image-with_other : (at : ℕ) (bytes : List ℕ) (c : Content) (sector : ℕ) → length bytes ≡ 512 → sector ≢ at → last_image (with_run at bytes c) sector ≡ last_image c sector
last_image-with_other at bytes c sector one other = ap last_candidate (with_run-other at bytes c sector one other)

-- What was written is what a read gives.
pub Reads-with_run : (at : ℕ) (bytes : List ℕ) (c : Content) → Reads at bytes (with_run at bytes c)
Reads-with_run at bytes c k below =
    let place : at + k - at ≡ k = omega arith in
    ap (sector_in bytes) (sym place) ∙ sym (last_image-with_run at bytes c (at + k) (omega arith) (omega (arith, below)))

-- What a read of one sector gives.
pub Reads-one : (at : ℕ) (bytes : List ℕ) (c : Content) → length bytes ≡ 512 → Reads at bytes c → bytes ≡ last_image c at
Reads-one at bytes c one reads =
    let here : at + 0 ≡ at = omega arith in
    sym (take_all 512 bytes (omega (arith, one))) ∙ reads 0 (omega (arith, one)) ∙ ap (last_image c) here

-- Reads speak of the last candidates alone.
pub Reads-same : (at : ℕ) (bytes : List ℕ) (c d : Content) → ((k : ℕ) → k < length bytes / 512 → last_image d (at + k) ≡ last_image c (at + k)) → Reads at bytes c → Reads at bytes d
Reads-same at bytes c d same reads k below = reads k below ∙ sym (same k below)

-- ---- after a sync

-- Of a synced disk there is one image.
pub newest_only-image : (c : Content) (image : Image) → IsImage (newest_only c) image → (sector : ℕ) → image sector ≡ last_image c sector
newest_only-image c image is sector = only_candidate (last_image c sector) (image sector) (is sector)

pub newest_only-last : (c : Content) → IsImage (newest_only c) (last_image c)
newest_only-last c sector = last_candidate-among [] (last_image c sector)

pub newest_only-pending : (c : Content) → HasNothingPending (newest_only c)
newest_only-pending c = record { only = λ sector x has. only_candidate (last_image c sector) x has }

-- Where nothing is pending an image is what reads give.
pub image_of_nothing_pending : (c : Content) (image : Image) → HasNothingPending c → IsImage c image → (sector : ℕ) → image sector ≡ last_image c sector
image_of_nothing_pending c image settled is sector = settled.only sector (image sector) (is sector)

-- After a sync nothing is pending.
pub synced_has_nothing_pending : (f : Content → Content) (old new : Option Content) → new ≡ option_map (λ c. newest_only (f c)) old → ForSome new HasNothingPending
synced_has_nothing_pending f None new e c told = absurd (none-some c (sym e ∙ told))
synced_has_nothing_pending f (Some old) new e c told = subst HasNothingPending (same_Some _ _ (sym e ∙ told)) (newest_only-pending (f old))

-- ---- what was added

pub OnlyAdds-none : (W : ℕ → List ℕ → Type 0) (c : Content) → OnlyAdds W c c
OnlyAdds-none W c = record { among = λ sector x has. inl has }

pub OnlyAdds-join : (W : ℕ → List ℕ → Type 0) (x y z : Content) → OnlyAdds W x y → OnlyAdds W y z → OnlyAdds W x z
OnlyAdds-join W x y z first second = record { among = λ s v has. ⊎_elim (first.among s v) inr (second.among s v has) }

pub OnlyAdds-wider : (W V : ℕ → List ℕ → Type 0) → ((s : ℕ) (x : List ℕ) → W s x → V s x) → (old new : Content) → OnlyAdds W old new → OnlyAdds V old new
OnlyAdds-wider W V f old new adds = record { among = λ s x has. ⊎_elim inl (λ w. inr (f s x w)) (adds.among s x has) }

-- What an image of the new content has at a sector.
pub OnlyAdds-image : (W : ℕ → List ℕ → Type 0) (old new : Content) (image : Image) → OnlyAdds W old new → IsImage new image → (s : ℕ) → Contains (old s) (image s) ⊎ W s (image s)
OnlyAdds-image W old new image adds is s = adds.among s (image s) (is s)

-- Where nothing was pending, it is what was read before, or was added.
pub OnlyAdds-image_of_nothing_pending : (W : ℕ → List ℕ → Type 0) (old new : Content) (image : Image) → HasNothingPending old → OnlyAdds W old new → IsImage new image → (s : ℕ) → (image s ≡ last_image old s) ⊎ W s (image s)
OnlyAdds-image_of_nothing_pending W old new image settled adds is s =
    ⊎_elim (λ was. inl (settled.only s (image s) was)) inr (adds.among s (image s) (is s))

-- A part of a write adds sectors of its run alone.
pub AddsSome-adds : (at : ℕ) (bytes : List ℕ) (old new : Content) → AddsSome at bytes old new → OnlyAdds (IsOfRun at bytes) old new
AddsSome-adds at bytes old new some = record {
  among = λ s x has. ⊎_elim
      (λ e. inl (subst (λ (xs : List (List ℕ)). Contains xs x) e has))
      (λ e. of_run s x (subst (λ (xs : List (List ℕ)). Contains xs x) e has)) (some s);
}
  where
    of_run : (s : ℕ) (x : List ℕ) → Contains (with_run at bytes old s) x → Contains (old s) x ⊎ IsOfRun at bytes s x
    of_run s x has = ⊎_elim
        (λ within. ⊎_elim inl
        (λ e. inr (record { begins = within.0; ends = within.1; is = sym e }))
        (Contains-push_cases (old s) (sector_in bytes (s - at)) x
        (subst (λ (xs : List (List ℕ)). Contains xs x) (with_sectors-in (length bytes / 512) at bytes old s within.0 within.1) has)))
        (λ out. inl (subst (λ (xs : List (List ℕ)). Contains xs x) (with_run-out at bytes old s out) has))
        (within_or_out at (length bytes / 512) s)

pub AddsSome-none : (at : ℕ) (bytes : List ℕ) (c : Content) → AddsSome at bytes c c
AddsSome-none at bytes c sector = inl refl

pub AddsSome-all : (at : ℕ) (bytes : List ℕ) (c : Content) → AddsSome at bytes c (with_run at bytes c)
AddsSome-all at bytes c sector = inr refl

-- A sync adds nothing, where what reads give is an image.
pub newest_only-adds : (W : ℕ → List ℕ → Type 0) (c : Content) → IsImage c (last_image c) → OnlyAdds W c (newest_only c)
newest_only-adds W c reads = record { among = λ s x has. inl (subst (λ (y : List ℕ). Contains (c s) y) (sym (only_candidate (last_image c s) x has)) (reads s)) }

-- A write of one sector adds these bytes there.
pub IsOfRun-one : (at : ℕ) (bytes : List ℕ) (s : ℕ) (x : List ℕ) → length bytes ≡ 512 → IsOfRun at bytes s x → (s ≡ at) × (x ≡ bytes)
IsOfRun-one at bytes s x one of =
    let same : s ≡ at = omega (arith, of.begins, of.ends, one) in
    (same, of.is ∙ ap (λ (n : ℕ). sector_in bytes (n - at)) same ∙ sector_in-one bytes at one)
