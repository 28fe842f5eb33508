-- Which sectors are written between two moments, by the changes that are made.
use Rattle.std.proofs.Common.{◌≡◌, inl, inr, ⊎_elim, ℕ, List, ◌++◌}
use Rattle.std.proofs.lemmas.List.Elements.{Contains-append_left, Contains-append_right}
use Rattle.disk_model.specs.Disk.{Content, Image}
use Rattle.disk_model.proofs.MomentsLemmas.{EachMoment-kept, adds_then, adds_wider}
use Rattle.image_model.specs.Geometry.{Geometry}
use Rattle.device_model.specs.History.{Begun, Change, IsWrittenIn}
use Rattle.device_model.specs.Mode as Model
use Rattle.direct_mode.proofs.PlacesLemmas.{IsOfPlaces-wider}
use Rattle.place_model.specs.RunWrites.{IsOfRun, WritesOnly}

in_left : (xs ys : List Change) (block : ℕ) → IsWrittenIn xs block → IsWrittenIn (xs ++ ys) block
in_left xs ys block is =
    record { write = is.write; begun = Contains-append_left xs ys (Begun is.write) is.begun; is = is.is }

in_right : (xs ys : List Change) (block : ℕ) → IsWrittenIn ys block → IsWrittenIn (xs ++ ys) block
in_right xs ys block is =
    record { write = is.write; begun = Contains-append_right xs ys (Begun is.write) is.begun; is = is.is }

-- What is allowed to changes that write some blocks is allowed to those that write more.
run_wider : (mode : Model.Mode) (g : Geometry) (entry : Image) (xs ys : List Change)
    → ((block : ℕ) → IsWrittenIn xs block → IsWrittenIn ys block) → (sector : ℕ) (x : List ℕ)
    → IsOfRun mode g entry xs sector x → IsOfRun mode g entry ys sector x
run_wider Model.Journal g entry xs ys more sector x of = of
run_wider Model.Bitmap g entry xs ys more sector x of = ⊎_elim (λ bits. inl bits) (λ places. inr (IsOfPlaces-wider (IsWrittenIn xs) (IsWrittenIn ys) g more sector x places)) of
run_wider Model.Direct g entry xs ys more sector x of = ⊎_elim (λ head. inl head) (λ places. inr (IsOfPlaces-wider (IsWrittenIn xs) (IsWrittenIn ys) g more sector x places)) of
run_wider Model.Recovery g entry xs ys more sector x of = IsOfPlaces-wider (IsWrittenIn xs) (IsWrittenIn ys) g more sector x of

module _ (mode : Model.Mode) (g : Geometry) (entry : Image) where
  -- Where no moment has passed nothing was written.
  pub WritesOnly-kept : (changes : List Change) {a b : List Content} → b ≡ a → WritesOnly mode g entry changes a b
  WritesOnly-kept changes same = EachMoment-kept _ same

  -- What is allowed to some changes is allowed to more,
  pub WritesOnly-left : (xs ys : List Change) {a b : List Content} → WritesOnly mode g entry xs a b
      → WritesOnly mode g entry (xs ++ ys) a b
  WritesOnly-left xs ys writes =
      adds_wider (IsOfRun mode g entry xs) (IsOfRun mode g entry (xs ++ ys)) (run_wider mode g entry xs (xs ++ ys) (in_left xs ys)) writes

  -- also to one call after the other.
  pub WritesOnly-then : (xs ys : List Change) {a b c : List Content} → WritesOnly mode g entry xs a b
      → WritesOnly mode g entry ys b c → WritesOnly mode g entry (xs ++ ys) a c
  WritesOnly-then xs ys first second =
      adds_then (IsOfRun mode g entry (xs ++ ys)) (WritesOnly-left xs ys first)
      (adds_wider (IsOfRun mode g entry ys) (IsOfRun mode g entry (xs ++ ys)) (run_wider mode g entry ys (xs ++ ys) (in_right xs ys)) second)
