-- Commits make a flush: all is committed once the journal has committed twice.
use Rattle.std.proofs.Common.{◌≡◌, inl, inr, ℕ, zero, suc, ◌-◌, Bool, false, List, [], ◌∷◌, map, if◌then◌else◌, None, Some, unwrap_or, refl, sym, ◌∙◌, ap}
use Rattle.std.specs.List.{list_any}
use Rattle.std.proofs.lemmas.Bool.{cases_Bool, or_parts}
use Rattle.device_model.specs.Journal.{SectionState, Open, Closed, Committed, Free, SectionCounts, is_open, is_uncommitted, JournalCounts, closed_end, committed_batch, commit, as_committed, commit_all}
use Rattle.device_model.specs.Progress.{Closed}
use Rattle.device_model.specs.RoomLaws.{commits, CommitAllLaw}
use Rattle.device_model.proofs.RoomLemmas.{no_uncommitted, commit-none}
use Rattle.device_model.proofs.IdleLemmas.{committed_one, batch_next, batch-at, batch_next-cases}

-- ---- all is committed

as_committed-committed : (s : SectionCounts) → is_uncommitted s.state ≡ false → as_committed s ≡ s
as_committed-committed s committed = ap (λ (t : Bool). if t then committed_one s else s) committed

as_committed-one : (s : SectionCounts) → as_committed (committed_one s) ≡ committed_one s
as_committed-one s = refl

-- What is closed or committed is committed as before.
as_committed-closed : (s : SectionCounts) → as_committed (if is_open s.state then record s { state = Closed } else s) ≡ as_committed s
as_committed-closed s = by s.blocks s.placed s.state
  where
    by : (blocks : List ℕ) (placed : ℕ) (state : SectionState)
        → let s : SectionCounts = record { blocks = blocks; placed = placed; state = state } in as_committed (if is_open s.state then record s { state = Closed } else s) ≡ as_committed s
    by blocks placed Open = refl
    by blocks placed Closed = refl
    by blocks placed Committed = refl
    by blocks placed Free = refl

map-closed_end : (sections : List SectionCounts) → map as_committed (closed_end sections) ≡ map as_committed sections
map-closed_end [] = refl
map-closed_end (s ∷ []) = ap (λ (t : SectionCounts). t ∷ []) (as_committed-closed s)
map-closed_end (s ∷ next ∷ sections) = ap (λ (l : List SectionCounts). as_committed s ∷ l) (map-closed_end (next ∷ sections))

map-batch : (ring at : ℕ) (sections : List SectionCounts) → map as_committed (committed_batch ring at sections) ≡ map as_committed sections
map-batch ring at [] = refl
map-batch ring at (s ∷ sections) = elim (batch-at ring at s sections) [
  | inr later ↦ ap (map as_committed) later.1 ∙ ap (λ (l : List SectionCounts). as_committed s ∷ l) (map-batch ring (suc at) sections)
  | inl here ↦
      let one : committed_one s ≡ as_committed s = sym (ap (λ (t : Bool). if t then committed_one s else s) here.0) in
      let rest : map as_committed (batch_next ring at sections) ≡ map as_committed sections = elim (batch_next-cases ring at sections) [
        | inl same ↦ ap (map as_committed) same
        | inr more ↦ ap (map as_committed) more ∙ map-batch ring (suc at) sections
      ] in
      ap (map as_committed) here.1
      ∙ ap (λ (l : List SectionCounts). committed_one s ∷ l) rest
      ∙ ap (λ (t : SectionCounts). t ∷ map as_committed sections) one
]

map-committed : (sections : List SectionCounts) → no_uncommitted sections → map as_committed sections ≡ sections
map-committed [] committed = refl
map-committed (s ∷ sections) committed =
    let c = or_parts (is_uncommitted s.state) (list_any (λ (s : SectionCounts). is_uncommitted s.state) sections) committed in
    ap (λ (t : SectionCounts). t ∷ map as_committed sections) (as_committed-committed s c.0) ∙ ap (λ (l : List SectionCounts). s ∷ l) (map-committed sections c.1)

commit_all-commit : (ring : ℕ) (j : JournalCounts) (d : JournalCounts) → commit_all d ≡ commit_all j → commit_all (unwrap_or (commit ring j) d) ≡ commit_all j
commit_all-commit ring j d same =
    let after : JournalCounts = record j { sections = committed_batch ring j.next (closed_end j.sections) } in
    let by = λ (t : Bool). commit_all (unwrap_or (if t then Some after else None) d) in
    elim (cases_Bool (list_any (λ (s : SectionCounts). is_uncommitted s.state) j.sections)) [
      | inl some ↦
          ap by some
          ∙ ap (with_sections j) (map-batch ring j.next (closed_end j.sections) ∙ map-closed_end j.sections)
      | inr none ↦ ap by none ∙ same
    ]
  where
    with_sections : JournalCounts → List SectionCounts → JournalCounts
    with_sections j sections = record j { sections = sections }

commit_all-commits : (ring n : ℕ) (j : JournalCounts) → commit_all (commits ring n j) ≡ commit_all j
commit_all-commits ring zero j = refl
commit_all-commits ring (suc n) j = commit_all-commit ring (commits ring n j) (commits ring n j) refl ∙ commit_all-commits ring n j

pub commit_all_law : CommitAllLaw
commit_all_law ring n j none =
    let k = commits ring n j in
    sym (ap (with_sections k) (map-committed k.sections (commit-none ring k none))) ∙ commit_all-commits ring n j
  where
    with_sections : JournalCounts → List SectionCounts → JournalCounts
    with_sections j sections = record j { sections = sections }
