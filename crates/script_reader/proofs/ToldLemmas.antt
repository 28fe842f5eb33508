-- What two states of a source tell, where they tell anything.
use Rattle.std.proofs.Common.{ℕ, List, refl, Option, None, Some}
use Rattle.std.specs.Option.{ForSome, IsSomeAnd}

pub some_weaker : (P Q : List ℕ → Type 0) (o : Option (List ℕ)) → IsSomeAnd o P → ((x : List ℕ) → P x → Q x)
    → IsSomeAnd o Q
some_weaker P Q None p f = p
some_weaker P Q (Some x) p f = f x p

-- What is told of both follows from something else that is told of both.
pub told_weaker : (P Q : List ℕ → List ℕ → Type 0) (first last : Option (List ℕ))
    → ForSome first (λ a. IsSomeAnd last (P a))
    → ((a b : List ℕ) → P a b → Q a b) → ForSome first (λ a. IsSomeAnd last (Q a))
told_weaker P Q first last p f a told = some_weaker (P a) (Q a) last (p a told) (f a)

-- What is told of two steps holds of both together.
pub told_then : (P Q R : List ℕ → List ℕ → Type 0) (first middle last : Option (List ℕ))
    → ForSome first (λ a. IsSomeAnd middle (P a))
    → ForSome middle (λ b. IsSomeAnd last (Q b)) → ((a b c : List ℕ) → P a b → Q b c → R a c)
    → ForSome first (λ a. IsSomeAnd last (R a))
told_then P Q R first None last p q joins a told = absurd (p a told)
told_then P Q R first (Some b) last p q joins a told =
    some_weaker (Q b) (R a) last (q b refl) (λ c. joins a b c (p a told))
