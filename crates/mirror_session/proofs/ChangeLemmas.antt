-- What a write does to each leg: its request, run whole.
use Rattle.std.proofs.Common.{◌≡◌, ℕ, suc, Bool, true, false, List, [], ◌∷◌, ◌++◌, map, refl, ◌∙◌, ap, append-nil}
use Rattle.device_model.specs.History.{BlockWrite, Change}
use Rattle.device_model.specs.Request.{Write, block_writes}
use Rattle.mirror_model.specs.Calls.{kept_if, write_changes}
use Rattle.mirror_model.specs.Mirror.{Asks, Does, First, MirrorState, Second, changes_on_first, changes_on_second, leg_changes, request_changes}
use Rattle.mirror_model.proofs.ChangeLemmas.{changes_on_first-append, changes_on_second-append}

first-asks : (writes : List BlockWrite) → changes_on_first (map Asks writes) ≡ []
first-asks [] = refl
first-asks (write ∷ writes) = first-asks writes

second-asks : (writes : List BlockWrite) → changes_on_second (map Asks writes) ≡ []
second-asks [] = refl
second-asks (write ∷ writes) = second-asks writes

first-own : (changes : List Change) → changes_on_first (map (Does First) changes) ≡ changes
first-own [] = refl
first-own (change ∷ changes) = ap (λ (l : List Change). change ∷ l) (first-own changes)

first-other : (changes : List Change) → changes_on_first (map (Does Second) changes) ≡ []
first-other [] = refl
first-other (change ∷ changes) = first-other changes

second-own : (changes : List Change) → changes_on_second (map (Does Second) changes) ≡ changes
second-own [] = refl
second-own (change ∷ changes) = ap (λ (l : List Change). change ∷ l) (second-own changes)

second-other : (changes : List Change) → changes_on_second (map (Does First) changes) ≡ []
second-other [] = refl
second-other (change ∷ changes) = second-other changes

first-kept : (fua : Bool) → changes_on_first (kept_if fua) ≡ []
first-kept true = refl
first-kept false = refl

second-kept : (fua : Bool) → changes_on_second (kept_if fua) ≡ []
second-kept true = refl
second-kept false = refl

module _ (m : MirrorState) (first : ℕ) (blocks : List (List ℕ)) (fua : Bool) where
  pub first-write : changes_on_first (write_changes m first blocks fua) ≡ request_changes (suc m.a.submitted) (Write first blocks fua)
  first-write =
      let asks = map Asks (block_writes (suc m.a.submitted) first blocks) in
      let own = request_changes (suc m.a.submitted) (Write first blocks fua) in
      let other = request_changes (suc m.b.submitted) (Write first blocks fua) in
      let one = leg_changes First m.a.submitted (Write first blocks fua) in
      let two = leg_changes Second m.b.submitted (Write first blocks fua) in
      changes_on_first-append asks (one ++ (two ++ kept_if fua))
      ∙ ap (λ (l : List Change). l ++ changes_on_first (one ++ (two ++ kept_if fua))) (first-asks (block_writes (suc m.a.submitted) first blocks))
      ∙ changes_on_first-append one (two ++ kept_if fua)
      ∙ ap (λ (l : List Change). l ++ changes_on_first (two ++ kept_if fua)) (first-own own)
      ∙ ap (λ (l : List Change). own ++ l) (changes_on_first-append two (kept_if fua)
      ∙ ap (λ (l : List Change). l ++ changes_on_first (kept_if fua)) (first-other other) ∙ first-kept fua)
      ∙ append-nil own

  pub second-write : changes_on_second (write_changes m first blocks fua) ≡ request_changes (suc m.b.submitted) (Write first blocks fua)
  second-write =
      let asks = map Asks (block_writes (suc m.a.submitted) first blocks) in
      let own = request_changes (suc m.b.submitted) (Write first blocks fua) in
      let other = request_changes (suc m.a.submitted) (Write first blocks fua) in
      let one = leg_changes First m.a.submitted (Write first blocks fua) in
      let two = leg_changes Second m.b.submitted (Write first blocks fua) in
      changes_on_second-append asks (one ++ (two ++ kept_if fua))
      ∙ ap (λ (l : List Change). l ++ changes_on_second (one ++ (two ++ kept_if fua))) (second-asks (block_writes (suc m.a.submitted) first blocks))
      ∙ changes_on_second-append one (two ++ kept_if fua)
      ∙ ap (λ (l : List Change). l ++ changes_on_second (two ++ kept_if fua)) (second-other other)
      ∙ changes_on_second-append two (kept_if fua)
      ∙ ap (λ (l : List Change). l ++ changes_on_second (kept_if fua)) (second-own own)
      ∙ ap (λ (l : List Change). own ++ l) (second-kept fua) ∙ append-nil own
