-- What is left of a leg at each moment of requests one after the other.
use Rattle.std.proofs.Common.{◌≡◌, false, ℕ, zero, suc, ◌+◌, List, [], ◌∷◌, ◌++◌, length, take, refl, sym, ◌∙◌, ap, subst, arith}
use Rattle.disk_model.specs.Disk.{Content, EachImage, Image}
use Rattle.disk_model.specs.Moments.{HasNow}
use Rattle.disk_model.proofs.MomentsLemmas.{EachMoment-kept, EachMoment-then, EachMoment-weaker, content_at_end}
use Rattle.device_model.specs.History.{Change, History, with_change, with_changes}
use Rattle.std.proofs.lemmas.List.{take_all}
use Rattle.device_model.specs.Request.{Write}
use Rattle.mirror_model.specs.Mirror.{request_changes}
use Rattle.mirror_calls.specs.Leg.{IsLeftWithin, IsLeftSince}

-- Some first changes stand at the front of longer ones, too.
record TakesFront (xs ys : List Change) (made : ℕ) : Type 0 where
  pub count : ℕ
  pub is : take count (xs ++ ys) ≡ take made xs

takes-front : (xs ys : List Change) (made : ℕ) → TakesFront xs ys made
takes-front [] ys zero = record { count = 0; is = refl }
takes-front [] ys (suc made) = record { count = 0; is = refl }
takes-front (x ∷ xs) ys zero = record { count = 0; is = refl }
takes-front (x ∷ xs) ys (suc made) =
    let rest = takes-front xs ys made in
    record { count = suc rest.count; is = ap (λ (l : List Change). x ∷ l) rest.is }

-- So do those behind the first ones.
after-behind : (xs ys : List Change) (made : ℕ) (h : History)
    → with_changes (take (length xs + made) (xs ++ ys)) h ≡ with_changes (take made ys) (with_changes xs h)
after-behind [] ys made h =
    let none : 0 + made ≡ made = omega arith in
    ap (λ (n : ℕ). with_changes (take n ys) h) none
after-behind (x ∷ xs) ys made h =
    let one : suc (length xs) + made ≡ suc (length xs + made) = omega arith in
    ap (λ (n : ℕ). with_changes (take n (x ∷ (xs ++ ys))) h) one ∙ after-behind xs ys made (with_change h x)

-- ---- for callers

-- Nothing stood since.
pub IsLeftSince-kept : (P : History → Image → Type 0) (h : History) (changes : List Change) {before after : List Content} → after ≡ before
    → IsLeftSince P h changes before after
IsLeftSince-kept P h changes same = EachMoment-kept (IsLeftWithin P h changes) same

-- More changes may follow.
pub IsLeftSince-more : (P : History → Image → Type 0) (h : History) (xs ys : List Change) {before after : List Content} → IsLeftSince P h xs before after
    → IsLeftSince P h (xs ++ ys) before after
IsLeftSince-more P h xs ys since = EachMoment-weaker (λ (c : Content) (w : IsLeftWithin P h xs c).
    let front = takes-front xs ys w.made in
    record {
      made = front.count;
      left = subst (λ (l : List Change). EachImage (P (with_changes l h)) c) (sym front.is) w.left;
    }) since

-- What is left by no change is left by any.
pub IsLeftSince-none : (P : History → Image → Type 0) (h : History) (ys : List Change) {before after : List Content} → IsLeftSince P h [] before after
    → IsLeftSince P h ys before after
IsLeftSince-none P h ys since = IsLeftSince-more P h [] ys since

-- Some changes come behind others.
pub IsLeftSince-then : (P : History → Image → Type 0) (h : History) (xs ys : List Change) {before between after : List Content}
    → IsLeftSince P h xs before between → IsLeftSince P (with_changes xs h) ys between after → IsLeftSince P h (xs ++ ys) before after
IsLeftSince-then P h xs ys first rest = EachMoment-then (IsLeftSince-more P h xs ys first)
    (EachMoment-weaker (λ (c : Content) (w : IsLeftWithin P (with_changes xs h) ys c). record {
      made = length xs + w.made;
      left = subst (λ (g : History). EachImage (P g) c) (sym (after-behind xs ys w.made h)) w.left;
    }) rest)

-- Bytes of the length of a block are all of it.
pub one_block : (size : ℕ) (x : List ℕ) → length x ≡ size → take size x ≡ x
one_block size x long = take_all size x (omega (arith, long))

-- A block is read, and then written on the same leg:
pub IsLeftSince-write : (P : History → Image → Type 0) (h : History) (ticket block : ℕ) (x : List ℕ) (changes : List Change) {before between after : List Content}
    → changes ≡ request_changes ticket (Write block (x ∷ []) false) → IsLeftSince P h [] before between
    → IsLeftSince P h (request_changes ticket (Write block (x ∷ []) false)) between after → IsLeftSince P h changes before after
IsLeftSince-write P h ticket block x changes {before} {between} {after} is reads writes =
    subst (λ (l : List Change). IsLeftSince P h l before after) (sym is)
    (IsLeftSince-then P h [] (request_changes ticket (Write block (x ∷ []) false)) reads writes)

-- the bytes are one block long.
pub IsLeftSince-mend : (P : History → Image → Type 0) (h : History) (ticket block size : ℕ) (x : List ℕ) (changes : List Change) {before between after : List Content}
    → length x ≡ size → changes ≡ request_changes ticket (Write block (x ∷ []) false) → IsLeftSince P h [] before between
    → IsLeftSince P h (request_changes ticket (Write block (take size x ∷ []) false)) between after → IsLeftSince P h changes before after
IsLeftSince-mend P h ticket block size x changes {before} {between} {after} long is reads writes =
    IsLeftSince-write P h ticket block x changes is reads
    (subst (λ (l : List ℕ). IsLeftSince P h (request_changes ticket (Write block (l ∷ []) false)) between after) (one_block size x long) writes)

-- What stood before is left by none of them.
pub IsLeftSince-now : (P : History → Image → Type 0) (h : History) (changes : List Change) {before after : List Content} → HasNow (EachImage (P h)) before
    → IsLeftSince P h changes before after → HasNow (IsLeftWithin P h changes) after
IsLeftSince-now P h changes first since = content_at_end since (λ c now. record { made = 0; left = first c now })
