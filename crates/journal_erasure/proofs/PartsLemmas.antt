-- What contents have after the chosen sectors of a run are written.
use Rattle.std.proofs.Common.{◌≡◌, ◌⊎◌, inl, inr, ℕ, Bool, true, false, not, ◌+◌, ◌-◌, ◌*◌, ◌/◌, ◌<◌, ◌≤◌, ◌&&◌, if◌then◌else◌, List, [], ◌∷◌, ◌++◌, length, refl, sym, ◌∙◌, ap, subst, arith, Option, Some, None}
use Rattle.std.specs.List.{Contains}
use Rattle.std.specs.Option.{option_map}
use Rattle.std.proofs.Math.Path.{fun_ext}
use Rattle.std.proofs.lemmas.Bool.{cases_Bool, cases_lt, true≢false}
use Rattle.std.proofs.lemmas.List.Elements.{Contains-push_cases}
use Rattle.disk_model.specs.Disk.{Content, IsImage, IsOfRun, OnlyAdds, is_within, last_candidate, last_image, sector_in, with_run}
use Rattle.disk_model.proofs.DiskLemmas.{is_within-true, is_within_tells, last_candidate-among, last_candidate-push, with_run-out, with_sectors-in}
use Rattle.image_model.specs.Sectors.{piece}
use Rattle.image_model.proofs.SectorLemmas.{piece-piece, length-piece}
use Rattle.journal_erasure.specs.declared.newest.NewestSectors.{NewestSectors}
use Rattle.journal_erasure.specs.declared.part.Part.{Part}
use Rattle.journal_erasure.specs.declared.part.Part.TheVariants.{Others, Newest}
use Rattle.journal_erasure.specs.Newest.{is_newest}
use Rattle.journal_erasure.specs.Parts.{other_part, is_of_part, with_chosen, IsOfChosen}

-- ---- the two parts

not_true : (b : Bool) → not b ≡ true → b ≡ false
not_true true e = absurd (true≢false (sym e))
not_true false e = refl

not_false : (b : Bool) → not b ≡ false → b ≡ true
not_false true e = refl
not_false false e = absurd (true≢false e)

-- What the other part does not have, the part has,
pub other_lacks : (newest : NewestSectors) (part : Part) (k : ℕ) → is_of_part newest (other_part part) k ≡ false → is_of_part newest part k ≡ true
other_lacks newest Others k e = ap not e
other_lacks newest Newest k e = not_false (is_newest newest k) e

-- and what it has, the part has not.
pub other_has : (newest : NewestSectors) (part : Part) (k : ℕ) → is_of_part newest (other_part part) k ≡ true → is_of_part newest part k ≡ false
other_has newest Others k e = ap not e
other_has newest Newest k e = not_true (is_newest newest k) e

-- ---- the sectors that are chosen

-- A sector is one of those that are chosen.
pub record IsThere (chosen : ℕ → Bool) (at from to sector : ℕ) : Type 0 where
  pub low : at + from ≤ sector
  pub high : sector < at + to
  pub is : chosen (sector - at) ≡ true

and_tells : (a b : Bool) → (a && b) ≡ true → (a ≡ true) × (b ≡ true)
and_tells true b e = (refl, e)
and_tells false b e = absurd (true≢false (sym e))

is_there : (chosen : ℕ → Bool) (at from to sector : ℕ) → (is_within (at + from) (to - from) sector && chosen (sector - at)) ≡ true → IsThere chosen at from to sector
is_there chosen at from to sector e =
    let tests = and_tells (is_within (at + from) (to - from) sector) (chosen (sector - at)) e in
    let within = is_within_tells (at + from) (to - from) sector tests.0 in
    record { low = within.0; high = omega (arith, within.0, within.1); is = tests.1 }

-- It is, or it is not.
pub there_or_not : (chosen : ℕ → Bool) (at from to sector : ℕ) → IsThere chosen at from to sector ⊎ (IsThere chosen at from to sector → ⊥)
there_or_not chosen at from to sector = elim (cases_Bool (is_within (at + from) (to - from) sector && chosen (sector - at))) [
  | inl holds ↦ inl (is_there chosen at from to sector holds)
  | inr fails ↦ inr (λ there. true≢false (sym (both there) ∙ fails))
]
  where
    both : IsThere chosen at from to sector → (is_within (at + from) (to - from) sector && chosen (sector - at)) ≡ true
    both there =
        rw (is_within-true (at + from) (to - from) sector there.low (omega (arith, there.low, there.high)), there.is) refl

module _ (chosen : ℕ → Bool) (at from to : ℕ) (bytes : List ℕ) (c : Content) where
  pub chosen-in : (s : ℕ) → IsThere chosen at from to s → with_chosen chosen at from to bytes c s ≡ c s ++ sector_in bytes (s - at) ∷ []
  chosen-in s there =
      let within = is_within-true (at + from) (to - from) s there.low (omega (arith, there.low, there.high)) in
      ap (λ (b : Bool). if b && chosen (s - at) then c s ++ sector_in bytes (s - at) ∷ [] else c s) within
      ∙ ap (λ (b : Bool). if b then c s ++ sector_in bytes (s - at) ∷ [] else c s) there.is

  pub chosen-out : (s : ℕ) → (IsThere chosen at from to s → ⊥) → with_chosen chosen at from to bytes c s ≡ c s
  chosen-out s out = elim (cases_Bool (is_within (at + from) (to - from) s && chosen (s - at))) [
    | inl holds ↦ absurd (out (is_there chosen at from to s holds))
    | inr fails ↦ ap (λ (b : Bool). if b then c s ++ sector_in bytes (s - at) ∷ [] else c s) fails
  ]

  -- What reads give of a chosen sector, and of another.
  pub last-chosen : (s : ℕ) → IsThere chosen at from to s → last_image (with_chosen chosen at from to bytes c) s ≡ sector_in bytes (s - at)
  last-chosen s there = ap last_candidate (chosen-in s there) ∙ last_candidate-push (c s) (sector_in bytes (s - at))

  pub last-other : (s : ℕ) → (IsThere chosen at from to s → ⊥) → last_image (with_chosen chosen at from to bytes c) s ≡ last_image c s
  last-other s out = ap last_candidate (chosen-out s out)

  -- Nothing else is added.
  pub chosen-adds : OnlyAdds (IsOfChosen chosen at from to bytes) c (with_chosen chosen at from to bytes c)
  chosen-adds = record {
    among = λ s x has. elim (there_or_not chosen at from to s) [
      | inl there ↦ elim (Contains-push_cases (c s) (sector_in bytes (s - at)) x (subst (λ (xs : List (List ℕ)). Contains xs x) (chosen-in s there) has)) [
        | inl was ↦ inl was
        | inr new ↦ inr (record {
          place = s - at;
          begins = omega (arith, there.low);
          ends = omega (arith, there.low, there.high);
          is = omega (arith, there.low);
          marked = there.is;
          holds = sym new;
        })
      ]
      | inr out ↦ inl (subst (λ (xs : List (List ℕ)). Contains xs x) (chosen-out s out) has)
    ];
  }

  -- What reads give is an image.
  pub chosen-image : IsImage c (last_image c) → IsImage (with_chosen chosen at from to bytes c) (last_image (with_chosen chosen at from to bytes c))
  chosen-image reads s = elim (there_or_not chosen at from to s) [
    | inl there ↦ subst (λ (xs : List (List ℕ)). Contains xs (last_candidate xs)) (sym (chosen-in s there)) (last_candidate-among (c s) (sector_in bytes (s - at)))
    | inr out ↦ subst (λ (xs : List (List ℕ)). Contains xs (last_candidate xs)) (sym (chosen-out s out)) (reads s)
  ]

-- ---- one run after the other

-- All sectors from `begin` on and before `end` are chosen, or none is.
abbrev pub AreAll : Bool → (ℕ → Bool) → ℕ → ℕ → Type 0
AreAll is chosen begin end = (k : ℕ) → begin ≤ k → k < end → chosen k ≡ is

module _ (chosen : ℕ → Bool) (at from begin end : ℕ) (bytes : List ℕ) (low : from ≤ begin) (high : begin ≤ end) where
  -- Behind the chosen ones none is written.
  chosen-skip : (c : Content) → AreAll false chosen begin end → (s : ℕ) → with_chosen chosen at from begin bytes c s ≡ with_chosen chosen at from end bytes c s
  chosen-skip c none s = elim (there_or_not chosen at from begin s) [
    | inl there ↦ chosen-in chosen at from begin bytes c s there ∙ sym (chosen-in chosen at from end bytes c s (record { low = there.low; high = omega (arith, there.high, high); is = there.is }))
    | inr out ↦ chosen-out chosen at from begin bytes c s out ∙ sym (chosen-out chosen at from end bytes c s (λ there. elim (cases_lt s (at + begin)) [
      | inl before ↦ out (record { low = there.low; high = before; is = there.is })
      | inr behind ↦ true≢false (sym there.is ∙ none (s - at) (omega (arith, behind)) (omega (arith, there.high, behind)))
    ]))
  ]

  -- A run of chosen sectors is written behind them.
  chosen-run : (run : List ℕ) (c : Content) → run ≡ piece bytes (512 * begin) (512 * (end - begin)) → 512 * end ≤ length bytes → AreAll true chosen begin end
      → (s : ℕ) → with_run (at + begin) run (with_chosen chosen at from begin bytes c) s ≡ with_chosen chosen at from end bytes c s
  chosen-run run c is fits all s =
      let size : length run / 512 ≡ end - begin = omega (arith, ap length is, length-piece bytes (512 * begin) (512 * (end - begin)) (omega (arith, fits, high))) in
      elim (cases_lt s (at + begin)) [
        | inl before ↦
            with_run-out (at + begin) run (with_chosen chosen at from begin bytes c) s (λ from_there to_there. omega (arith, before, from_there))
            ∙ elim (there_or_not chosen at from begin s) [
              | inl there ↦ chosen-in chosen at from begin bytes c s there ∙ sym (chosen-in chosen at from end bytes c s (record { low = there.low; high = omega (arith, there.high, high); is = there.is }))
              | inr out ↦ chosen-out chosen at from begin bytes c s out ∙ sym (chosen-out chosen at from end bytes c s (λ there. out (record { low = there.low; high = before; is = there.is })))
            ]
        | inr behind ↦ elim (cases_lt s (at + end)) [
          | inl inside ↦
              let there : IsThere chosen at from end s = record { low = omega (arith, low, behind); high = inside; is = all (s - at) (omega (arith, behind)) (omega (arith, behind, inside)) } in
              let k : ℕ = s - (at + begin) in
              let narrow : 512 * k + 512 ≤ 512 * (end - begin) = omega (arith, behind, inside) in
              let from_here : 512 * begin + 512 * k ≡ 512 * (s - at) = omega (arith, behind) in
              with_sectors-in (length run / 512) (at + begin) run (with_chosen chosen at from begin bytes c) s behind (omega (arith, size, behind, inside))
              ∙ ap (λ (xs : List (List ℕ)). xs ++ sector_in run k ∷ []) (chosen-out chosen at from begin bytes c s (λ h. omega (arith, h.high, behind)))
              ∙ ap (λ (x : List ℕ). c s ++ x ∷ [])
              (ap (λ (xs : List ℕ). sector_in xs k) is ∙ piece-piece bytes (512 * begin) (512 * (end - begin)) (512 * k) 512 narrow ∙ ap (λ (n : ℕ). piece bytes n 512) from_here)
              ∙ sym (chosen-in chosen at from end bytes c s there)
          | inr past ↦
              with_run-out (at + begin) run (with_chosen chosen at from begin bytes c) s (λ low_s high_s. omega (arith, size, past, high_s, high))
              ∙ chosen-out chosen at from begin bytes c s (λ there. omega (arith, there.high, behind))
              ∙ sym (chosen-out chosen at from end bytes c s (λ there. omega (arith, there.high, past)))
        ]
      ]

-- ---- for callers

-- One more run, and then none up to the next one.
pub chosen_next : (chosen : ℕ → Bool) (at from begin end next : ℕ) (bytes run : List ℕ) (start so_far now : Option Content) → from ≤ begin → begin ≤ end → end ≤ next
    → run ≡ piece bytes (512 * begin) (512 * (end - begin)) → 512 * end ≤ length bytes → AreAll true chosen begin end → AreAll false chosen end next
    → so_far ≡ option_map (with_chosen chosen at from begin bytes) start → now ≡ option_map (with_run (at + begin) run) so_far → now ≡ option_map (with_chosen chosen at from next bytes) start
chosen_next chosen at from begin end next bytes run None so_far now low high more is fits all none before e = e ∙ ap (option_map (with_run (at + begin) run)) before
chosen_next chosen at from begin end next bytes run (Some c) so_far now low high more is fits all none before e =
    e ∙ ap (option_map (with_run (at + begin) run)) before
    ∙ ap (λ (d : Content). Some d) (fun_ext (λ s.
    chosen-run chosen at from begin end bytes low high run c is fits all s
    ∙ chosen-skip chosen at from end next bytes (omega (arith, low, high)) more c none s))

-- What a run of chosen sectors brings.
pub run_is_chosen : (chosen : ℕ → Bool) (at from to begin end : ℕ) (bytes run : List ℕ) → from ≤ begin → begin ≤ end → end ≤ to → run ≡ piece bytes (512 * begin) (512 * (end - begin)) → 512 * end ≤ length bytes
    → AreAll true chosen begin end → (s : ℕ) (x : List ℕ) → IsOfRun (at + begin) run s x → IsOfChosen chosen at from to bytes s x
run_is_chosen chosen at from to begin end bytes run low high inside is fits all s x of =
    let size : length run / 512 ≡ end - begin = omega (arith, ap length is, length-piece bytes (512 * begin) (512 * (end - begin)) (omega (arith, fits, high))) in
    let above = of.begins in
    let below = of.ends in
    let k : ℕ = s - (at + begin) in
    let narrow : 512 * k + 512 ≤ 512 * (end - begin) = omega (arith, above, below, size) in
    let from_here : 512 * begin + 512 * k ≡ 512 * (s - at) = omega (arith, above) in
    record {
      place = s - at;
      begins = omega (arith, low, above);
      ends = omega (arith, above, below, size, inside);
      is = omega (arith, above);
      marked = all (s - at) (omega (arith, above)) (omega (arith, above, below, size));
      holds = of.is ∙ ap (λ (xs : List ℕ). sector_in xs k) is ∙ piece-piece bytes (512 * begin) (512 * (end - begin)) (512 * k) 512 narrow ∙ ap (λ (n : ℕ). piece bytes n 512) from_here;
    }

-- All sectors up to the next one of the other part are of the part.
pub runs_of_part : (newest : NewestSectors) (part : Part) (begin end : ℕ) (rest : Part) → rest ≡ other_part part
    → ((k : ℕ) → begin ≤ k → k < end → is_of_part newest rest k ≡ false) → AreAll true (is_of_part newest part) begin end
runs_of_part newest part begin end rest is lacks k low high =
    other_lacks newest part k (subst (λ (p : Part). is_of_part newest p k ≡ false) is (lacks k low high))
