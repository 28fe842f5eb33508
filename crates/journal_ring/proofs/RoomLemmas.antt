-- What is free once all is committed, placed and settled.
use Rattle.std.proofs.Common.{◌≡◌, inl, inr, ℕ, ◌+◌, ◌-◌, ◌<◌, ◌≤◌, ltb, Bool, if◌then◌else◌, List, [], ◌∷◌, length, drop, refl, sym, ◌∙◌, ap, arith, length-append, length-drop}
use Rattle.std.proofs.lemmas.Bool.{cases_eq, le-leb, lt-leb, lt-ltb, or_right, eq-eqb}
use Rattle.image_model.specs.Section.{Entry}
use Rattle.journal_model.specs.Ring.{JournalRing, entries_of, has_open_section, next_batch, unplaced_from, with_commit, with_settle}
use Rattle.journal_ring.specs.RoomLaws.{FreedLaw, KeptLaw, NoneLaw, HasBounds, RoomAgainLaw}

-- ---- a settle, section by section

with_committed : JournalRing → List (List Entry) → JournalRing
with_committed ring sections = record ring { committed = sections }

pub freed_law : FreedLaw
freed_law ring placed entries behind are low = λ i. record ring { committed = lists i }
  where
    lists : unplaced_from placed ring.committed ≡ unplaced_from (placed - length entries) (drop 1 ring.committed)
    lists =
        ap (unplaced_from placed) are
        ∙ ap (λ (b : Bool). if b then unplaced_from (placed - length entries) behind else entries ∷ behind) (le-leb (length entries) placed low)
        ∙ ap (λ (xs : List (List Entry)). unplaced_from (placed - length entries) (drop 1 xs)) (sym are)

pub kept_law : KeptLaw
kept_law ring placed entries behind are high = λ i. record ring { committed = lists i }
  where
    lists : unplaced_from placed ring.committed ≡ ring.committed
    lists =
        ap (unplaced_from placed) are
        ∙ ap (λ (b : Bool). if b then unplaced_from (placed - length entries) behind else entries ∷ behind) (lt-leb (length entries) placed high)
        ∙ sym are

pub none_law : NoneLaw
none_law ring placed none = λ i. record ring { committed = (ap (unplaced_from placed) none ∙ sym none) i }

-- ---- all of it

all_unplaced : (sections : List (List Entry)) (placed : ℕ) → length (entries_of sections) ≤ placed → unplaced_from placed sections ≡ []
all_unplaced [] placed low = refl
all_unplaced (x ∷ sections) placed low =
    let size = length-append x (entries_of sections) in
    ap (λ (b : Bool). if b then unplaced_from (placed - length x) sections else x ∷ sections) (le-leb (length x) placed (omega arith))
    ∙ all_unplaced sections (placed - length x) (omega arith)

no_length : (xs : List (List Entry)) → length xs ≡ 0 → xs ≡ []
no_length [] none = refl
no_length (x ∷ xs) none = absurd (omega arith)

-- Two commits leave no section opened.
two_commits : (ring : JournalRing) → HasBounds ring → (with_commit (with_commit ring)).opened ≡ []
two_commits ring is = no_length (with_commit (with_commit ring)).opened size
  where
    total : ℕ
    total = ring.geometry.sections

    first : ℕ
    first = next_batch ring

    left : length (with_commit ring).opened ≡ length ring.opened - next_batch ring
    left = length-drop (next_batch ring) ring.opened

    size : length (drop (next_batch (with_commit ring)) (with_commit ring).opened) ≡ 0
    size =
        let inside = is.inside in
        let fits = is.fits in
        let rest = length-drop (next_batch (with_commit ring)) (with_commit ring).opened in
        elim (cases_eq (ring.next + next_batch ring) ring.geometry.sections) [
          | inl end ↦
              let start : (with_commit ring).next ≡ 0 = ap (λ (b : Bool). if b then 0 else ring.next + next_batch ring) (eq-eqb (ring.next + next_batch ring) ring.geometry.sections end) in
              omega (arith, rest, left, start)
          | inr before ↦
              let all : next_batch ring ≡ length ring.opened = omega arith in
              omega (arith, rest, left, all)
        ]

pub room_again_law : RoomAgainLaw
room_again_law ring placed is low =
    let done : JournalRing = with_commit (with_commit ring) in
    let none = two_commits ring is in
    let free = all_unplaced done.committed placed low in
    let some : length (with_settle placed done).opened + length (with_settle placed done).committed < ring.geometry.sections =
    (let inside = is.inside in omega (arith, ap length none, ap length free)) in (
      none,
      free,
      or_right (has_open_section (with_settle placed done)) (ltb (length (with_settle placed done).opened + length (with_settle placed done).committed) ring.geometry.sections)
          (lt-ltb (length (with_settle placed done).opened + length (with_settle placed done).committed) ring.geometry.sections some),
    )
